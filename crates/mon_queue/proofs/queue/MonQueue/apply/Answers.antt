use Rattle.std.proofs.Common.{◌-◌, ◌≤◌, ◌∷◌, ◌++◌, [], ◌∙◌, length, length-append, take, subst, sym, ap, arith, map}
use Rattle.std.proofs.lemmas.List.{length-map, length-take-le, map-append}
use Rattle.circular_buffer.specs.Buffer.{Buffer}
use Rattle.pvd_value.specs.View.{view}
use Rattle.pvd_value.specs.LeafValues.{leaf_values}
use Rattle.mon_queue.specs.Merged.{told_with}
use Rattle.mon_queue.specs.Runs.{Told, posted}
use Rattle.mon_queue.specs.Told.{told_by, is_update_of, are_updates_of}
use Rattle.mon_queue.specs.Unread.{unread, prepared_post, IsReadyFor, BeginsRun, JoinsRun}
use Rattle.mon_queue.specs.declared.update.Update.{Update}
use Rattle.mon_queue.specs.declared.update.Prepared.{Prepared}
use Rattle.mon_queue.proofs.Rings.{all_push, all_take, begins_told, joins_told, has_last, holds_post, stands_post}
use Rattle.mon_queue.proofs.queue.MonQueue.apply.Goals as goal

pub returns-in-Begins-clause-unread : goal.returns-in-Begins-clause-unread
returns-in-Begins-clause-unread c =
    let q = c.args.self.now in
    let ready : BeginsRun q c.in-Begins.update = subst (IsReadyFor q) c.in-Begins.is c.requires in
    begins_told q.ty q.ring.items c.in-Begins.update q.ring.capacity c.append.new.ring c.append.ensures ready.room ready.alone
    ∙ ap (λ (p : Prepared). told_with q.ring.capacity (unread q) (prepared_post q.ty p)) (sym c.in-Begins.is)

pub returns-in-Begins-clause-runs : goal.returns-in-Begins-clause-runs
returns-in-Begins-clause-runs c =
    let q = c.args.self.now in
    holds_post q.ring.capacity (unread q) (map (told_by q.ty) c.append.new.ring.items) (prepared_post q.ty c.args.prepared) (returns-in-Begins-clause-unread c)

pub returns-in-Begins-clause-stands : goal.returns-in-Begins-clause-stands
returns-in-Begins-clause-stands c =
    let q = c.args.self.now in
    stands_post q.ring.capacity c.append.new.ring.capacity (unread q) (map (told_by q.ty) c.append.new.ring.items) (prepared_post q.ty c.args.prepared)
    (ap (λ (b : Buffer Update). b.capacity) c.append.ensures) (returns-in-Begins-clause-unread c)

pub invariant_of-self-in-Joins : goal.invariant_of-self-in-Joins
invariant_of-self-in-Joins c =
    let q = c.args.self.now in
    let us = q.ring.items in
    let ready : JoinsRun q c.in-Joins.mask c.in-Joins.update = subst (IsReadyFor q) c.in-Joins.is c.requires in
    let size = length-take-le (length us - 1) us (omega arith) in
    record {
      updates =
          ap (λ (b : Buffer Update). are_updates_of q.ty b.items) c.replace_newest.ensures
          ∙ all_push (is_update_of q.ty) (take (length us - 1) us) c.in-Joins.update (all_take (is_update_of q.ty) (length us - 1) us q.updates) ready.is_update;
      some = subst (λ (b : Buffer Update). 1 ≤ b.capacity) (sym c.replace_newest.ensures) q.some;
      few =
          subst (λ (b : Buffer Update). length b.items ≤ b.capacity) (sym c.replace_newest.ensures)
          (omega (arith, q.some, q.few, size, ready.full, length-map us (told_by q.ty), length-append (take (length us - 1) us) (c.in-Joins.update ∷ [])));
    }

pub returns-in-Joins-clause-unread : goal.returns-in-Joins-clause-unread
returns-in-Joins-clause-unread c =
    let q = c.args.self.now in
    let us = q.ring.items in
    let update = c.in-Joins.update in
    let ready : JoinsRun q c.in-Joins.mask update = subst (IsReadyFor q) c.in-Joins.is c.requires in
    let last = has_last us (omega (arith, ready.full, length-map us (told_by q.ty), q.some)) in
    joins_told q.ty us last.0 (posted c.in-Joins.mask (leaf_values q.ty (view update.value))) q.ring.capacity c.replace_newest.new.ring last.1 ready.full
    (ap (λ (b : Buffer Update). map (told_by q.ty) b.items) c.replace_newest.ensures
    ∙ map-append (told_by q.ty) (take (length us - 1) us) (update ∷ [])
    ∙ ap (λ (w : Told). map (told_by q.ty) (take (length us - 1) us) ++ w ∷ []) (ready.told last.0 last.1))
    ∙ ap (λ (p : Prepared). told_with q.ring.capacity (unread q) (prepared_post q.ty p)) (sym c.in-Joins.is)

pub returns-in-Joins-clause-runs : goal.returns-in-Joins-clause-runs
returns-in-Joins-clause-runs c =
    let q = c.args.self.now in
    holds_post q.ring.capacity (unread q) (map (told_by q.ty) c.replace_newest.new.ring.items) (prepared_post q.ty c.args.prepared) (returns-in-Joins-clause-unread c)

pub returns-in-Joins-clause-stands : goal.returns-in-Joins-clause-stands
returns-in-Joins-clause-stands c =
    let q = c.args.self.now in
    stands_post q.ring.capacity c.replace_newest.new.ring.capacity (unread q) (map (told_by q.ty) c.replace_newest.new.ring.items) (prepared_post q.ty c.args.prepared)
    (ap (λ (b : Buffer Update). b.capacity) c.replace_newest.ensures) (returns-in-Joins-clause-unread c)
