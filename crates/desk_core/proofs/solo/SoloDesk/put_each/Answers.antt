use Rattle.std.proofs.Common.{◌≡◌, ◌+◌, ◌∷◌, [], ℕ, List, Ok, Err, length, take, map, refl, sym, subst, ap, ◌∙◌, length-append}
use Rattle.std.specs.List.{AllByRecursion}
use Rattle.std.proofs.lemmas.Iterator.Adapters.{YieldsList-from_vec}
use Rattle.std.proofs.lemmas.Iterator.Consumers.{YieldsList-so_far, YieldsList-turn, YieldsList-end}
use Rattle.std.proofs.lemmas.List.{length-map, map-append, map-id}
use Rattle.rec_kinds.specs.declared.datum.Action.{Action}
use Rattle.group_view.specs.Puts.{MayBeDoneBy}
use Rattle.desk_core.specs.Begun.{AreBegun, IsAddedNow, IsPutNow}
use Rattle.desk_core.specs.Desks.{ports_of}
use Rattle.desk_core.specs.declared.log.Terms.{Terms}
use Rattle.desk_core.proofs.Beginning.{alone, alone_taken, alone_many, alone_next, none_begun, more_begun, ends_after, stopped_after}
use Rattle.desk_core.proofs.Listing.{all_at, got}
use Rattle.desk_core.proofs.Soloing.{first_is}
use Rattle.desk_core.proofs.solo.SoloDesk.put_each.Goals as goal

pub loop-action-init : goal.loop-action-init
loop-action-init g c = record {
  begun = none_begun c.args.self.now.terms.site c.args.moment c.args.self.now.log (ports_of g.P.Port.port c.args.self.now) c.args.self.now.legal;
  count = refl;
  terms = refl;
}

pub put_entry-requires-clause-may : goal.put_entry-requires-clause-may
put_entry-requires-clause-may g c =
    let actions = c.args.actions.items in
    let road = YieldsList-from_vec actions c.into_iter-action-iterator.ensures.into_iter_gives.0 (c.into_iter-action-iterator.ensures.into_iter_gives.1 ∙ c.args.actions.ok.0) in
    let turn = YieldsList-turn road c.loop-action.yielded c.loop-action.action-iterator c.loop-action.yielded_by c.next.result c.next.new.self c.in-Some.action c.in-Some.is c.next.ensures.steps in
    let at = got actions (length c.loop-action.yielded) c.in-Some.action turn.0 turn.1 in
    let may = all_at (MayBeDoneBy c.args.self.now.terms.site.configs) actions (length c.loop-action.yielded) c.in-Some.action c.requires.may at in
    subst (λ (x : Terms × List (ℕ × Action)). AllByRecursion (MayBeDoneBy x.0.site.configs) x.1) (λ i. (sym c.loop-action.invariant.terms i, sym (c.in-Ok.ensures {u = tt}) i)) (may, tt)

pub returns-in_default-clause-put : goal.returns-in_default-clause-put
returns-in_default-clause-put g c =
    let actions = c.args.actions.items in
    let done = c.loop-action.yielded in
    let site = c.args.self.now.terms.site in
    let road = YieldsList-from_vec actions c.into_iter-action-iterator.ensures.into_iter_gives.0 (c.into_iter-action-iterator.ensures.into_iter_gives.1 ∙ c.args.actions.ok.0) in
    let turn = YieldsList-turn road done c.loop-action.action-iterator c.loop-action.yielded_by c.next.result c.next.new.self c.in-Some.action c.in-Some.is c.next.ensures.steps in
    let so_far : done ≡ take (length done) actions = sym (map-id done) ∙ YieldsList-so_far road done c.loop-action.action-iterator c.loop-action.yielded_by in
    let at = got actions (length done) c.in-Some.action turn.0 turn.1 in
    let count = c.loop-action.count in
    let s = c.args.self.now.log in
    let old = ports_of g.P.Port.port c.args.self.now in
    let new = ports_of g.P.Port.port c.loop-action.self in
    stopped_after site c.args.moment (map alone actions) count (c.in-Some.action ∷ []) s c.loop-action.self.log old new
    (subst (λ (l : List (List (ℕ × Action))). AreBegun site c.args.moment l s c.loop-action.self.log old new) (sym (alone_taken actions done count c.loop-action.invariant.count so_far c.in-Some.action at)) c.loop-action.invariant.begun)
    (alone_many actions done count c.loop-action.invariant.count so_far c.in-Some.action at)
    (alone_next actions done count c.loop-action.invariant.count so_far c.in-Some.action at)

pub returns-in-Err-clause-put : goal.returns-in-Err-clause-put
returns-in-Err-clause-put g c =
    let actions = c.args.actions.items in
    let done = c.loop-action.yielded in
    let site = c.args.self.now.terms.site in
    let road = YieldsList-from_vec actions c.into_iter-action-iterator.ensures.into_iter_gives.0 (c.into_iter-action-iterator.ensures.into_iter_gives.1 ∙ c.args.actions.ok.0) in
    let turn = YieldsList-turn road done c.loop-action.action-iterator c.loop-action.yielded_by c.next.result c.next.new.self c.in-Some.action c.in-Some.is c.next.ensures.steps in
    let so_far : done ≡ take (length done) actions = sym (map-id done) ∙ YieldsList-so_far road done c.loop-action.action-iterator c.loop-action.yielded_by in
    let at = got actions (length done) c.in-Some.action turn.0 turn.1 in
    let count = c.loop-action.count in
    let s = c.args.self.now.log in
    let old = ports_of g.P.Port.port c.args.self.now in
    let mid = ports_of g.P.Port.port c.loop-action.self in
    let new = ports_of g.P.Port.port c.put_entry.new.self in
    ends_after site c.args.moment (map alone actions) count (c.in-Some.action ∷ []) s c.loop-action.self.log c.put_entry.new.self.log old mid new
    (subst (λ (l : List (List (ℕ × Action))). AreBegun site c.args.moment l s c.loop-action.self.log old mid) (sym (alone_taken actions done count c.loop-action.invariant.count so_far c.in-Some.action at)) c.loop-action.invariant.begun)
    (alone_many actions done count c.loop-action.invariant.count so_far c.in-Some.action at)
    (alone_next actions done count c.loop-action.invariant.count so_far c.in-Some.action at)
    c.in-Err.answer
    (subst (λ (x : Terms × List (ℕ × Action)). IsPutNow x.0.site c.args.moment x.1 [] [] count c.loop-action.self.log c.put_entry.new.self.log mid new (Err c.in-Err.answer)) (λ i. (c.loop-action.invariant.terms i, (c.in-Ok.ensures {u = tt}) i))
    (c.in-Err.ensures {u = tt}).put)

pub loop-action-preserved : goal.loop-action-preserved
loop-action-preserved g c =
    let site = c.args.self.now.terms.site in
    let done = c.loop-action.yielded in
    let s = c.args.self.now.log in
    let t = c.put_entry.new.self.log in
    let old = ports_of g.P.Port.port c.args.self.now in
    let mid = ports_of g.P.Port.port c.loop-action.self in
    let new = ports_of g.P.Port.port c.put_entry.new.self in
    let place = c.in-Ok-put_entry.field-0 in
    let step : IsAddedNow site c.args.moment (c.in-Some.action ∷ []) [] [] c.loop-action.self.log t mid new place =
    subst (λ (x : Terms × List (ℕ × Action)). IsPutNow x.0.site c.args.moment x.1 [] [] c.loop-action.count c.loop-action.self.log t mid new (Ok place)) (λ i. (c.loop-action.invariant.terms i, (c.in-Ok.ensures {u = tt}) i))
    (c.in-Ok-put_entry.ensures {u = tt}).put in record {
      begun = subst (λ (l : List (List (ℕ × Action))). AreBegun site c.args.moment l s t old new) (sym (map-append alone done (c.in-Some.action ∷ [])))
          (more_begun site c.args.moment (map alone done) (c.in-Some.action ∷ []) s c.loop-action.self.log t old mid new place c.loop-action.invariant.begun step);
      count = ap (λ (n : ℕ). n + 1) c.loop-action.invariant.count ∙ sym (length-append done (c.in-Some.action ∷ []));
      terms = c.put_entry.ensures.terms ∙ c.loop-action.invariant.terms;
    }

pub returns-clause-put : goal.returns-clause-put
returns-clause-put g c =
    let actions = c.args.actions.items in
    let done = c.loop-action.yielded in
    let d = c.args.self.now in
    let old = ports_of g.P.Port.port d in
    let new = ports_of g.P.Port.port c.loop-action.self in
    let road = YieldsList-from_vec actions c.into_iter-action-iterator.ensures.into_iter_gives.0 (c.into_iter-action-iterator.ensures.into_iter_gives.1 ∙ c.args.actions.ok.0) in
    let end = YieldsList-end road done c.loop-action.action-iterator c.loop-action.yielded_by c.next.result c.next.new.self c.in-None.is c.next.ensures.steps in
    let all : done ≡ actions = sym (map-id done) ∙ end.0 in record {
      begun = subst (λ (l : List (ℕ × Action)). AreBegun d.terms.site c.args.moment (map alone l) d.log c.loop-action.self.log old new) all c.loop-action.invariant.begun;
      first_is = c.len-first.ensures ∙ first_is d.log d.stands;
      count_is = c.loop-action.invariant.count ∙ ap length all ∙ sym (length-map actions alone);
    }
