use Rattle.std.specs.Prelude.{◌≡◌, ◌+◌, length}
use Rattle.std.proofs.Common.{ap, ◌∙◌, arith}
use Rattle.std.specs.FinMap as map
use Rattle.slab.specs.Slab as slab
use Rattle.std.specs.Prelude.{count_by, is_some}
use Rattle.chan_table.specs.Kept.{gathered}
use Rattle.chan_table.proofs.Gathered.{sound-roomier, gathered-same}
use Rattle.chan_table.proofs.directory.Directory.reserve.Goals as goal

pub invariant_of-self-in_err-reserve-2 : goal.invariant_of-self-in_err-reserve-2
invariant_of-self-in_err-reserve-2 g c =
    let same : length c.reserve.new.self.entries.items ≡ length c.self.inside.keys.entries.items = ap length c.in_ok-reserve.ensures.entries in
    sound-roomier c.self.inside.keys.entries.items c.reserve.new.self.entries.items c.self.inside.values c.reserve-2.new.self c.self.inside.room _ c.self.inside.room _ c.self.invariant
    c.in_ok-reserve.ensures.entries (ap (λ s. s.slots) c.in_err-reserve-2.ensures.rest_kept)
    (omega (arith, c.self.invariant.few)) (omega (arith, c.self.invariant.in_slab, c.in_err-reserve-2.ensures.capacity))
    (omega (arith, c.self.invariant.in_index, c.in_ok-reserve.ensures.capacity))

pub returns-in_err-reserve-2-clause-values : goal.returns-in_err-reserve-2-clause-values
returns-in_err-reserve-2-clause-values g c =
    gathered-same c.self.inside.keys.entries.items c.reserve.new.self.entries.items c.self.inside.values c.reserve-2.new.self
    c.in_ok-reserve.ensures.entries (ap (λ s. s.slots) c.in_err-reserve-2.ensures.rest_kept)
    ∙ ap (λ k. k.values) c.self.view_is

pub invariant_of-self-2 : goal.invariant_of-self-2
invariant_of-self-2 g c =
    let same : length c.reserve.new.self.entries.items ≡ length c.self.inside.keys.entries.items = ap length c.in_ok-reserve.ensures.entries in
    let slots : c.reserve-2.new.self.slots ≡ c.self.inside.values.slots = ap (λ s. s.slots) c.in_ok-reserve-2.ensures.rest_kept in
    let counts : slab.slab_len c.reserve-2.new.self ≡ slab.slab_len c.self.inside.values = ap (count_by is_some) slots in
    sound-roomier c.self.inside.keys.entries.items c.reserve.new.self.entries.items c.self.inside.values c.reserve-2.new.self c.self.inside.room _ (c.len-wanted.result + 1) _ c.self.invariant
    c.in_ok-reserve.ensures.entries slots
    (omega (arith, c.len-wanted.ensures, c.self.inside.keys.entries.ok))
    (omega (arith, c.len-wanted.ensures, c.self.inside.keys.entries.ok, c.self.invariant.counted, c.in_ok-reserve-2.ensures.room))
    (omega (arith, c.len-wanted.ensures, c.in_ok-reserve.ensures.room, c.in_ok-reserve.ensures.len))

pub returns-clause-values : goal.returns-clause-values
returns-clause-values g c =
    gathered-same c.self.inside.keys.entries.items c.reserve.new.self.entries.items c.self.inside.values c.reserve-2.new.self
    c.in_ok-reserve.ensures.entries (ap (λ s. s.slots) c.in_ok-reserve-2.ensures.rest_kept)
    ∙ ap (λ k. k.values) c.self.view_is

pub returns-clause-room : goal.returns-clause-room
returns-clause-room g c =
    let size : map.len (gathered c.reserve.new.self.entries.items c.reserve-2.new.self) ≡ map.len (gathered c.self.inside.keys.entries.items c.self.inside.values) =
    ap map.len (gathered-same c.self.inside.keys.entries.items c.reserve.new.self.entries.items c.self.inside.values c.reserve-2.new.self
    c.in_ok-reserve.ensures.entries (ap (λ s. s.slots) c.in_ok-reserve-2.ensures.rest_kept)) in
    omega (arith, c.self.invariant.sized, c.len-wanted.ensures, c.self.inside.keys.entries.ok)
