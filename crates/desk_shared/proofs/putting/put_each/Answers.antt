use Rattle.std.proofs.Common.{◌≡◌, ◌∙◌, ◌+◌, ◌∷◌, ◌<◌, ◌≤◌, [], ℕ, List, Result, inl, length, take, map, rules, refl, sym, subst, ap, arith, length-append}
use Rattle.std.specs.List.{AllByRecursion}
use Rattle.std.proofs.lemmas.Iterator.Adapters.{YieldsList-from_vec}
use Rattle.std.proofs.lemmas.Iterator.Consumers.{YieldsList-so_far, YieldsList-turn, YieldsList-end}
use Rattle.std.proofs.lemmas.List.{map-append, map-id}
use Rattle.rec_kinds.specs.declared.datum.Action.{Action}
use Rattle.group_view.specs.Puts.{MayBeDoneBy}
use Rattle.desk_api.specs.Calls.{Calls, EndsAtItsMarks, OnTold}
use Rattle.desk_api.specs.declared.put.PutAnswer.{PutAnswer}
use Rattle.desk_core.proofs.Beginning.{alone, alone_taken, alone_next}
use Rattle.desk_core.proofs.Listing.{all_at, got}
use Rattle.desk_shared.specs.Entries.{AreEntry}
use Rattle.desk_shared.specs.Records.{seat_of}
use Rattle.desk_shared.proofs.Entered.{AreSoFar, all_so_far, answer_ends, ends_so_far, entry_ends, more_so_far, none_so_far, stopped_so_far}
use Rattle.desk_shared.proofs.putting.put_each.Goals as goal

pub loop-action-init : goal.loop-action-init
loop-action-init g c = record {
  stands = c.requires.stands;
  others = refl;
  calls = none_so_far c.args.site.now c.args.moment (seat_of c.args.pass.seat.me.0) c.requires.stands.legal;
  ends = inl refl;
  count = refl;
}

pub put_entry-next-requires-clause-stands : goal.put_entry-next-requires-clause-stands
put_entry-next-requires-clause-stands g c = c.loop-action.invariant.stands

pub put_entry-next-requires-clause-within : goal.put_entry-next-requires-clause-within
put_entry-next-requires-clause-within g c =
    let actions = c.args.actions.items in
    let road = YieldsList-from_vec actions c.into_iter-action-iterator.ensures.into_iter_gives.0 (c.into_iter-action-iterator.ensures.into_iter_gives.1 ∙ c.args.actions.ok.0) in
    let turn = YieldsList-turn road c.loop-action.yielded c.loop-action.action-iterator c.loop-action.yielded_by c.next.result c.next.new.self c.in-Some.action c.in-Some.is c.next.ensures.steps in
    let at = got actions (length c.loop-action.yielded) c.in-Some.action turn.0 turn.1 in
    let within = all_at (λ (a : ℕ × Action). a.0 < length c.args.site.now.configs) actions (length c.loop-action.yielded) c.in-Some.action c.requires.within at in
    subst (AllByRecursion (λ (a : ℕ × Action). a.0 < length c.args.site.now.configs)) (sym (c.in-Ok.ensures {u = tt})) (within, tt)

pub put_entry-next-requires-clause-may : goal.put_entry-next-requires-clause-may
put_entry-next-requires-clause-may g c =
    let actions = c.args.actions.items in
    let road = YieldsList-from_vec actions c.into_iter-action-iterator.ensures.into_iter_gives.0 (c.into_iter-action-iterator.ensures.into_iter_gives.1 ∙ c.args.actions.ok.0) in
    let turn = YieldsList-turn road c.loop-action.yielded c.loop-action.action-iterator c.loop-action.yielded_by c.next.result c.next.new.self c.in-Some.action c.in-Some.is c.next.ensures.steps in
    let at = got actions (length c.loop-action.yielded) c.in-Some.action turn.0 turn.1 in
    let may = all_at (MayBeDoneBy c.args.site.now.configs) actions (length c.loop-action.yielded) c.in-Some.action c.requires.may at in
    subst (AllByRecursion (MayBeDoneBy c.args.site.now.configs)) (sym (c.in-Ok.ensures {u = tt})) (may, tt)

pub overflow_add-count : goal.overflow_add-count
overflow_add-count g c =
    let actions = c.args.actions.items in
    let road = YieldsList-from_vec actions c.into_iter-action-iterator.ensures.into_iter_gives.0 (c.into_iter-action-iterator.ensures.into_iter_gives.1 ∙ c.args.actions.ok.0) in
    let turn = YieldsList-turn road c.loop-action.yielded c.loop-action.action-iterator c.loop-action.yielded_by c.next.result c.next.new.self c.in-Some.action c.in-Some.is c.next.ensures.steps in
    let less : c.loop-action.count + 1 ≤ 256 = omega (arith, turn.0, c.loop-action.invariant.count, c.requires.few) in
    search rules

pub returns-in_default-clause-stands : goal.returns-in_default-clause-stands
returns-in_default-clause-stands g c = c.loop-action.invariant.stands

pub returns-in_default-clause-calls : goal.returns-in_default-clause-calls
returns-in_default-clause-calls g c =
    let actions = c.args.actions.items in
    let done = c.loop-action.yielded in
    let count = c.loop-action.count in
    let road = YieldsList-from_vec actions c.into_iter-action-iterator.ensures.into_iter_gives.0 (c.into_iter-action-iterator.ensures.into_iter_gives.1 ∙ c.args.actions.ok.0) in
    let turn = YieldsList-turn road done c.loop-action.action-iterator c.loop-action.yielded_by c.next.result c.next.new.self c.in-Some.action c.in-Some.is c.next.ensures.steps in
    let so_far : done ≡ take (length done) actions = sym (map-id done) ∙ YieldsList-so_far road done c.loop-action.action-iterator c.loop-action.yielded_by in
    let at = got actions (length done) c.in-Some.action turn.0 turn.1 in
    stopped_so_far c.args.site.now c.args.moment (map alone done) count c.loop-action.first (seat_of c.args.pass.seat.me.0) (seat_of c.loop-action.pass.seat.me.0) c.loop-action.invariant.calls (map alone actions)
    (alone_taken actions done count c.loop-action.invariant.count so_far c.in-Some.action at)

pub returns-in-Err-clause-stands : goal.returns-in-Err-clause-stands
returns-in-Err-clause-stands g c = c.put_entry-next.ensures.stands

pub returns-in-Err-clause-calls : goal.returns-in-Err-clause-calls
returns-in-Err-clause-calls g c =
    let actions = c.args.actions.items in
    let done = c.loop-action.yielded in
    let count = c.loop-action.count in
    let s = seat_of c.args.pass.seat.me.0 in
    let m = seat_of c.loop-action.pass.seat.me.0 in
    let t = seat_of c.put_entry-next.result.0.seat.me.0 in
    let road = YieldsList-from_vec actions c.into_iter-action-iterator.ensures.into_iter_gives.0 (c.into_iter-action-iterator.ensures.into_iter_gives.1 ∙ c.args.actions.ok.0) in
    let turn = YieldsList-turn road done c.loop-action.action-iterator c.loop-action.yielded_by c.next.result c.next.new.self c.in-Some.action c.in-Some.is c.next.ensures.steps in
    let so_far : done ≡ take (length done) actions = sym (map-id done) ∙ YieldsList-so_far road done c.loop-action.action-iterator c.loop-action.yielded_by in
    let at = got actions (length done) c.in-Some.action turn.0 turn.1 in
    let entry = subst (λ (x : List (ℕ × Action) × Result ℕ PutAnswer). Calls m t (AreEntry c.args.site.now c.args.moment x.0 [] [] count x.1)) (λ i. ((c.in-Ok.ensures {u = tt}) i, c.in-Err.is i)) c.put_entry-next.ensures.calls in
    ends_so_far c.args.site.now c.args.moment (map alone done) count c.loop-action.first s m t c.loop-action.invariant.calls (c.in-Some.action ∷ []) (map alone actions)
    (alone_taken actions done count c.loop-action.invariant.count so_far c.in-Some.action at) (alone_next actions done count c.loop-action.invariant.count so_far c.in-Some.action at) c.in-Err.answer entry

pub returns-in-Err-clause-ends : goal.returns-in-Err-clause-ends
returns-in-Err-clause-ends g c =
    let s = seat_of c.args.pass.seat.me.0 in
    let m = seat_of c.loop-action.pass.seat.me.0 in
    let t = seat_of c.put_entry-next.result.0.seat.me.0 in
    let entry = subst (λ (r : Result ℕ PutAnswer). Calls m t (AreEntry c.args.site.now c.args.moment c.in-Ok.alone.items [] [] c.loop-action.count r)) c.in-Err.is c.put_entry-next.ensures.calls in
    answer_ends c.args.site.now c.args.moment c.in-Ok.alone.items c.loop-action.count s m t c.in-Err.answer entry (subst (λ (r : Result ℕ PutAnswer). OnTold r (EndsAtItsMarks m t)) c.in-Err.is c.put_entry-next.ensures.ends)

pub loop-action-preserved : goal.loop-action-preserved
loop-action-preserved g c =
    let done = c.loop-action.yielded in
    let count = c.loop-action.count in
    let place = c.in-Ok-entered.place in
    let actions = c.in-Some.action ∷ [] in
    let s = seat_of c.args.pass.seat.me.0 in
    let m = seat_of c.loop-action.pass.seat.me.0 in
    let t = seat_of c.put_entry-next.result.0.seat.me.0 in
    let entry = subst (λ (x : List (ℕ × Action) × Result ℕ PutAnswer). Calls m t (AreEntry c.args.site.now c.args.moment x.0 [] [] count x.1)) (λ i. ((c.in-Ok.ensures {u = tt}) i, c.in-Ok-entered.is i)) c.put_entry-next.ensures.calls in record {
      stands = c.put_entry-next.ensures.stands;
      others = c.put_entry-next.ensures.others ∙ c.loop-action.invariant.others;
      calls = subst (λ (x : List (List (ℕ × Action)) × ℕ). Calls s t (AreSoFar c.args.site.now c.args.moment x.0 (count + 1) x.1)) (λ i. (sym (map-append alone done actions) i, sym c.first_of-first.ensures i))
          (more_so_far c.args.site.now c.args.moment (map alone done) count c.loop-action.first s m t c.loop-action.invariant.calls actions place entry);
      ends = entry_ends c.args.site.now c.args.moment actions count s m t place entry (subst (λ (r : Result ℕ PutAnswer). OnTold r (EndsAtItsMarks m t)) c.in-Ok-entered.is c.put_entry-next.ensures.ends);
      count = ap (λ (n : ℕ). n + 1) c.loop-action.invariant.count ∙ sym (length-append done actions);
    }

pub returns-clause-stands : goal.returns-clause-stands
returns-clause-stands g c = c.loop-action.invariant.stands

pub returns-clause-calls : goal.returns-clause-calls
returns-clause-calls g c =
    let actions = c.args.actions.items in
    let done = c.loop-action.yielded in
    let s = seat_of c.args.pass.seat.me.0 in
    let m = seat_of c.loop-action.pass.seat.me.0 in
    let road = YieldsList-from_vec actions c.into_iter-action-iterator.ensures.into_iter_gives.0 (c.into_iter-action-iterator.ensures.into_iter_gives.1 ∙ c.args.actions.ok.0) in
    let end = YieldsList-end road done c.loop-action.action-iterator c.loop-action.yielded_by c.next.result c.next.new.self c.in-None.is c.next.ensures.steps in
    let all : done ≡ actions = sym (map-id done) ∙ end.0 in
    all_so_far c.args.site.now c.args.moment (map alone actions) c.loop-action.count c.loop-action.first s m
    (subst (λ (l : List (ℕ × Action)). Calls s m (AreSoFar c.args.site.now c.args.moment (map alone l) c.loop-action.count c.loop-action.first)) all c.loop-action.invariant.calls)

pub returns-clause-ends : goal.returns-clause-ends
returns-clause-ends g c = c.loop-action.invariant.ends

pub returns-in_default-clause-others : goal.returns-in_default-clause-others
returns-in_default-clause-others g c = c.loop-action.invariant.others

pub returns-in-Err-clause-others : goal.returns-in-Err-clause-others
returns-in-Err-clause-others g c = c.put_entry-next.ensures.others ∙ c.loop-action.invariant.others

pub returns-clause-others : goal.returns-clause-others
returns-clause-others g c = c.loop-action.invariant.others
