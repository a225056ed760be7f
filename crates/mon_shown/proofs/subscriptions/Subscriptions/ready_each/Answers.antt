use Rattle.std.proofs.Common.{◌∙◌, ℕ, Option, refl, sym, ap, subst, arith}
use Rattle.std.specs.Prelude.{IsNone}
use Rattle.std.specs.List.{list_any}
use Rattle.rec_kinds.specs.declared.state.RecState.{RecState}
use Rattle.mon_shown.specs.Noting.{names}
use Rattle.mon_shown.specs.Readies.{found_for}
use Rattle.mon_shown.specs.Slots.{slot_in, ready_in, SlotReady}
use Rattle.mon_shown.specs.declared.watching.Ready.{Ready}
use Rattle.mon_shown.proofs.Standing.{unconcerned}
use Rattle.mon_shown.proofs.Taking.{making_step, made_all, may_of}
use Rattle.mon_shown.proofs.subscriptions.Subscriptions.ready_each.Goals as goal

pub loop-turn-init : goal.loop-turn-init
loop-turn-init g c = record {
  at = omega arith;
  few = omega arith;
  viewed = c.requires.viewed;
  making = record { fresh = λ s le. ap (found_for s) c.new.ensures.items; done = λ s less. absurd (omega (arith, less)) };
}

pub loop-turn-preserved : goal.loop-turn-preserved
loop-turn-preserved g c =
    let shows = g.V.Views.shows c.args.views.now in
    let subs = c.args.self.now in
    let e = c.args.entry.now in
    let some = c.in-Some.ensures.some in
    record {
      at = omega (arith, c.loop-turn.invariant.at, some.0);
      few = omega (arith, some.2);
      viewed = c.ready_at.ensures.viewed;
      making = making_step shows c.args.states.now e subs c.loop-turn.start c.in-Some.slot c.loop-turn.made.readies.items c.add_some.new.made.readies.items c.loop-turn.invariant.making some.0
          (λ s from before. unconcerned (g.V.Views.has c.args.views.now) shows c.args.states.now e subs c.requires.stand s
          (ap (list_any (λ (w : ℕ × RecState). names subs.index w.0 s)) (sym c.as_slice.ensures) ∙ sym (c.in_ok-concerned.ensures {u = tt} s) ∙ c.in-Some.ensures.between s from before))
          (c.in_ok-add_some.ensures {u = tt}).others
          (subst (λ (o : Option Ready). SlotReady shows c.args.states.now e (slot_in subs c.in-Some.slot) o) (sym (c.in_ok-add_some.ensures {u = tt}).own) c.in_ok-ready.ensures.ready);
    }

pub returns : goal.returns
returns g c =
    let shows = g.V.Views.shows c.args.views.now in
    let subs = c.args.self.now in
    let e = c.args.entry.now in
    let all = made_all shows c.args.states.now e subs c.loop-turn.start c.loop-turn.made.readies.items c.loop-turn.invariant.making
    (λ s from inside. absurd (omega (arith, from, inside, c.loop-turn.invariant.at, c.loop-turn-test.false, c.len-turn-end.ensures, subs.slots.ok))) in
    record { each = all; may = λ s. may_of shows c.args.states.now e subs (slot_in subs s) (ready_in c.loop-turn.made s) (all s) }

pub returns-in_default : goal.returns-in_default
returns-in_default g c =
    let shows = g.V.Views.shows c.args.views.now in
    let subs = c.args.self.now in
    let e = c.args.entry.now in
    let all = made_all shows c.args.states.now e subs c.loop-turn.start c.loop-turn.made.readies.items c.loop-turn.invariant.making
    (λ s from inside. unconcerned (g.V.Views.has c.args.views.now) shows c.args.states.now e subs c.requires.stand s
    (ap (list_any (λ (w : ℕ × RecState). names subs.index w.0 s)) (sym c.as_slice.ensures) ∙ sym (c.in_ok-concerned.ensures {u = tt} s) ∙ c.next_of.ensures.none (subst IsNone (sym c.in_default.is) refl) s from inside)) in
    record { each = all; may = λ s. may_of shows c.args.states.now e subs (slot_in subs s) (ready_in c.loop-turn.made s) (all s) }
