use Rattle.std.proofs.Common.{◌≡◌, ◌∙◌, Some, None, Option, true, sym, List, ap}
use Rattle.std.specs.Prelude.{IfSome, slice_get, map}
use Rattle.pvd_type.specs.Tree.{Tree}
use Rattle.circular_buffer.specs.Buffer.{Buffer}
use Rattle.mon_queue.specs.Told.{told_by, is_update_of, are_updates_of, IsUpdateOf}
use Rattle.mon_queue.specs.declared.update.Update.{Update}
use Rattle.mon_queue.proofs.Rings.{all_at, update_parts, map_tail, stands_pop}
use Rattle.mon_queue.proofs.queue.MonQueue.pop.Goals as goal

first : (t : Tree) (us : List Update) (o : Option Update) → are_updates_of t us ≡ true → o ≡ slice_get us 0 → IfSome o (IsUpdateOf t)
first t us None all is = tt
first t us (Some u) all is = update_parts t u (all_at (is_update_of t) us 0 u all (sym is))

pub returns-clause-update : goal.returns-clause-update
returns-clause-update c = first c.args.self.now.ty c.args.self.now.ring.items c.take_oldest.result c.args.self.now.updates c.take_oldest.ensures.first

pub returns-clause-stands : goal.returns-clause-stands
returns-clause-stands c = λ events here.
    let t = c.args.self.now.ty in
    let us = c.args.self.now.ring.items in
    stands_pop c.args.self.now.ring.capacity c.take_oldest.new.ring.capacity (map (told_by t) us) (map (told_by t) c.take_oldest.new.ring.items)
    (ap (λ (b : Buffer Update). b.capacity) c.take_oldest.ensures.rest)
    (ap (λ (b : Buffer Update). map (told_by t) b.items) c.take_oldest.ensures.rest ∙ map_tail (told_by t) us) events here
