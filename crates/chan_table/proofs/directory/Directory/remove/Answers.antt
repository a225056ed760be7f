use Rattle.std.specs.Prelude.{◌≡◌, ◌+◌, Some, None, length, refl}
use Rattle.std.proofs.Common.{sym, ap, ◌∙◌, arith}
use Rattle.std.specs.FinMap as map
use Rattle.chan_table.specs.Kept.{gathered}
use Rattle.chan_table.proofs.Gathered.{get-known, sound-removed, gathered-removed, sound-roomier, gathered-same, remove-absent}
use Rattle.chan_table.proofs.directory.Directory.remove.Goals as goal

pub invariant_of-self : goal.invariant_of-self
invariant_of-self g c =
    let es = c.self.inside.keys.entries.items in
    let less : length c.remove.new.self.entries.items + 1 ≡ length es =
    omega (arith, c.in-Some.ensures.len, c.remove.new.self.entries.ok, c.self.inside.keys.entries.ok) in
    sound-removed es c.remove.new.self.entries.items c.self.inside.values c.remove-in-Some.new.self c.args.number c.in-Some.key
    c.self.inside.room _ c.self.invariant (sym c.in-Some.ensures.value) c.in-Some.ensures.finds c.remove-in-Some.ensures.updates
    _ less c.remove-in-Some.ensures.len c.remove-in-Some.ensures.capacity c.in-Some.ensures.capacity

pub invariant_of-self-in-None : goal.invariant_of-self-in-None
invariant_of-self-in-None g c =
    let es = c.self.inside.keys.entries.items in
    let same : length c.remove.new.self.entries.items ≡ length es = ap length c.in-None.ensures.none in
    sound-roomier es c.remove.new.self.entries.items c.self.inside.values c.self.inside.values c.self.inside.room _ c.self.inside.room _ c.self.invariant
    c.in-None.ensures.none refl (omega (arith, c.self.invariant.few)) c.self.invariant.in_slab (omega (arith, c.self.invariant.in_index, c.in-None.ensures.capacity))

pub returns-in-Some-clause-value : goal.returns-in-Some-clause-value
returns-in-Some-clause-value g c =
    sym c.remove-in-Some.ensures.value
    ∙ sym (get-known c.self.inside.keys.entries.items c.self.inside.values c.args.number (Some c.in-Some.key) c.in-Some.ensures.value)
    ∙ ap (λ k. map.get k.values c.args.number) c.self.view_is

pub returns-in-Some-clause-rest : goal.returns-in-Some-clause-rest
returns-in-Some-clause-rest g c =
    ap (λ m. record { values = m; room = c.self.inside.room })
    (gathered-removed c.self.inside.keys.entries.items c.remove.new.self.entries.items c.self.inside.values c.remove-in-Some.new.self c.args.number c.in-Some.key
    c.self.inside.room _ c.self.invariant (sym c.in-Some.ensures.value) c.in-Some.ensures.finds c.remove-in-Some.ensures.updates)
    ∙ ap (λ k. record { values = map.remove k.values c.args.number; room = k.room }) c.self.view_is

pub returns-in-None-clause-value : goal.returns-in-None-clause-value
returns-in-None-clause-value g c =
    sym (get-known c.self.inside.keys.entries.items c.self.inside.values c.args.number None c.in-None.ensures.value)
    ∙ ap (λ k. map.get k.values c.args.number) c.self.view_is

pub returns-in-None-clause-rest : goal.returns-in-None-clause-rest
returns-in-None-clause-rest g c =
    let es = c.self.inside.keys.entries.items in
    let none = get-known es c.self.inside.values c.args.number None c.in-None.ensures.value in
    ap (λ m. record { values = m; room = c.self.inside.room })
    (gathered-same es c.remove.new.self.entries.items c.self.inside.values c.self.inside.values c.in-None.ensures.none refl
    ∙ remove-absent (gathered es c.self.inside.values) c.args.number none)
    ∙ ap (λ k. record { values = map.remove k.values c.args.number; room = k.room }) c.self.view_is
