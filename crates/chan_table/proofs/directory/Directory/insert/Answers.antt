use Rattle.std.specs.Prelude.{◌≡◌, ◌<◌, ◌+◌, length}
use Rattle.std.proofs.Common.{ap, ◌∙◌, arith}
use Rattle.std.specs.FinMap as map
use Rattle.chan_table.specs.Kept.{gathered, with_value}
use Rattle.chan_table.proofs.Gathered.{key-absent, sound-inserted, gathered-inserted}
use Rattle.chan_table.proofs.directory.Directory.insert.Goals as goal

pub insert-requires-clause-absent : goal.insert-requires-clause-absent
insert-requires-clause-absent g c =
    key-absent c.self.inside.keys.entries.items c.self.inside.values c.self.inside.room _ c.self.invariant c.args.number
    (ap (λ k. map.get k.values c.args.number) c.self.view_is ∙ c.requires.absent)

pub invariant_of-self : goal.invariant_of-self
invariant_of-self g c =
    let es = c.self.inside.keys.entries.items in
    let absent = key-absent es c.self.inside.values c.self.inside.room _ c.self.invariant c.args.number
    (ap (λ k. map.get k.values c.args.number) c.self.view_is ∙ c.requires.absent) in
    let size : map.len (gathered es c.self.inside.values) ≡ map.len c.args.self.now.values = ap (λ k. map.len k.values) c.self.view_is in
    let room : c.self.inside.room ≡ c.args.self.now.room = ap (λ k. k.room) c.self.view_is in
    let few : length es < c.self.inside.room = omega (arith, c.self.invariant.sized, c.requires.room) in
    let more : length c.insert.new.self.entries.items ≡ length es + 1 =
    omega (arith, c.insert.ensures.len, c.insert.new.self.entries.ok, c.self.inside.keys.entries.ok) in
    sound-inserted es c.insert.new.self.entries.items c.self.inside.values c.insert_reserved-key.new.self c.args.number c.insert_reserved-key.result c.args.value
    c.self.inside.room _ c.self.invariant c.insert.ensures.finds c.insert_reserved-key.ensures.was_vacant c.insert_reserved-key.ensures.updates
    _ absent more few c.insert_reserved-key.ensures.len c.insert_reserved-key.ensures.capacity c.insert.ensures.capacity

pub returns : goal.returns
returns g c =
    ap (λ m. record { values = m; room = c.self.inside.room })
    (gathered-inserted c.self.inside.keys.entries.items c.insert.new.self.entries.items c.self.inside.values c.insert_reserved-key.new.self c.args.number c.insert_reserved-key.result c.args.value
    c.self.inside.room _ c.self.invariant c.insert.ensures.finds c.insert_reserved-key.ensures.was_vacant c.insert_reserved-key.ensures.updates)
    ∙ ap (λ k. with_value k c.args.number c.args.value) c.self.view_is
