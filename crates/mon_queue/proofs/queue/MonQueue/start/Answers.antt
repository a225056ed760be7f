use Rattle.std.proofs.Common.{◌≡◌, ◌∙◌, ◌∷◌, ◌++◌, [], ◌≤◌, Bool, cond, length, subst, sym, ap, refl, map, arith}
use Rattle.std.proofs.lemmas.Bool.{lt-ltb}
use Rattle.circular_buffer.specs.Buffer.{Buffer, buffer}
use Rattle.pvd_value.specs.View.{view}
use Rattle.pvd_value.specs.LeafValues.{leaf_values}
use Rattle.mon_queue.specs.Runs.{Told, posted, fresh, update_of}
use Rattle.mon_queue.specs.Told.{told_by, is_update_of, are_updates_of}
use Rattle.mon_queue.specs.declared.update.Post.{Post}
use Rattle.mon_queue.specs.declared.update.Update.{Update}
use Rattle.mon_queue.proofs.Rings.{first_is, told_fresh}
use Rattle.pvd_type.specs.SameLaws.{and_true}
use Rattle.mon_queue.proofs.queue.MonQueue.start.Goals as goal

pub invariant_of-result : goal.invariant_of-result
invariant_of-result c =
    let t = c.args.ty in
    let u = c.first_update.result in
    let ring : c.append.new.ring ≡ buffer (u ∷ []) c.args.size = c.append.ensures ∙ ap (λ (b : Buffer Update). buffer (b.items ++ u ∷ []) b.capacity) (c.in_ok-ring.ensures {u = tt}) in
    let given : Post = record { mask = c.args.mask; value = c.args.first } in
    let is = first_is t given u (record { fits = c.requires.fits; mask = c.requires.mask }) c.first_update.ensures.changed c.first_update.ensures.overrun c.first_update.ensures.value in
    record {
      updates = ap (λ (b : Buffer Update). are_updates_of t b.items) ring ∙ and_true (is_update_of t u) _ is refl;
      some = subst (λ (b : Buffer Update). 1 ≤ b.capacity) (sym ring) c.requires.size.0;
      few = subst (λ (b : Buffer Update). length b.items ≤ b.capacity) (sym ring) c.requires.size.0;
    }

pub returns-clause-runs : goal.returns-clause-runs
returns-clause-runs c =
    let t = c.args.ty in
    let u = c.first_update.result in
    let ring : c.append.new.ring ≡ buffer (u ∷ []) c.args.size = c.append.ensures ∙ ap (λ (b : Buffer Update). buffer (b.items ++ u ∷ []) b.capacity) (c.in_ok-ring.ensures {u = tt}) in
    ap (λ (b : Buffer Update). map (told_by t) b.items) ring
    ∙ ap (λ (x : Told). x ∷ []) (told_fresh t u c.args.mask c.args.first c.first_update.ensures.changed c.first_update.ensures.overrun c.first_update.ensures.value)

pub returns-clause-stands : goal.returns-clause-stands
returns-clause-stands c =
    let u = c.first_update.result in
    let ring : c.append.new.ring ≡ buffer (u ∷ []) c.args.size = c.append.ensures ∙ ap (λ (b : Buffer Update). buffer (b.items ++ u ∷ []) b.capacity) (c.in_ok-ring.ensures {u = tt}) in
    let some : 1 ≤ c.append.new.ring.capacity = subst (λ (b : Buffer Update). 1 ≤ b.capacity) (sym ring) c.requires.size.0 in
    let r = fresh (posted c.args.mask (leaf_values c.args.ty (view c.args.first))) in
    returns-clause-runs c ∙ ap (λ (b : Bool). map update_of (cond b (r ∷ []) [])) (sym (lt-ltb 0 c.append.new.ring.capacity (omega (arith, some))))
