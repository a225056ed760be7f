use Rattle.std.proofs.Common.{Bool, Option, Err, sym, subst, ◌∙◌}
use Rattle.std.specs.FinSet.{FinSet}
use Rattle.std.specs.Ordering.{nat_cmp}
use Rattle.pvd_value.specs.Data.{Data}
use Rattle.pvd_value.specs.View.{view}
use Rattle.pvd_value.specs.declared.value.PvValue.{PvValue}
use Rattle.journal_core.specs.Moments.{Moment}
use Rattle.desk_api.specs.Calls.{Asked, ArePutGet, Calls, EndsAtItsMarks, OnTold}
use Rattle.desk_api.specs.declared.channel.Channel.{Channel}
use Rattle.desk_api.specs.declared.history.SiteData.{SiteData}
use Rattle.desk_api.specs.declared.put.Done.{Done}
use Rattle.desk_api.specs.declared.put.PutAnswer.{PutAnswer}
use Rattle.desk_core.proofs.Beginning.{stopped_ends}
use Rattle.desk_core.proofs.Combining.{refused_at_once}
use Rattle.desk_shared.specs.Records.{seat_of}
use Rattle.desk_shared.proofs.Together.{at_once_called}
use Rattle.desk_shared.proofs.putting.put_get_in.Goals as goal

-- what is asked of a site
abbrev asked_of : Channel → FinSet nat_cmp → Data → Moment → Option Bool → SiteData → Asked
asked_of channel mask value moment atomic site = record { site = site; channel = channel; mask = mask; value = value; moment = moment; atomic = atomic }

pub put_then_get-requires-clause-apart : goal.put_then_get-requires-clause-apart
put_then_get-requires-clause-apart g c =
    sym c.is_atomic-at_once.ensures ∙ c.if-not-at_once.true

pub put_and_show-requires-clause-within : goal.put_and_show-requires-clause-within
put_and_show-requires-clause-within g c =
    (c.in-Ok.ensures {u = tt}).within

pub put_and_show-requires-clause-may : goal.put_and_show-requires-clause-may
put_and_show-requires-clause-may g c =
    (c.in-Ok.ensures {u = tt}).may

pub put_and_show-requires-clause-few : goal.put_and_show-requires-clause-few
put_and_show-requires-clause-few g c =
    (c.in-Ok.ensures {u = tt}).few

pub returns-in-Ok-clause-calls : goal.returns-in-Ok-clause-calls
returns-in-Ok-clause-calls g c =
    let s = seat_of c.args.pass.seat.me.0 in
    let site = c.args.site.now in
    let st = c.requires.stands in
    let asked = asked_of c.args.channel c.args.mask.now (view c.args.value.now) c.args.moment c.args.atomic in
    let t = seat_of c.put_and_show.result.0.seat.me.0 in
    let whole = sym c.is_atomic-at_once.ensures ∙ c.if-not-at_once.false in
    subst (λ (z : SiteData). Calls s t (ArePutGet (asked z) c.put_and_show.result.1)) (sym st.site_is)
    (at_once_called (asked site) c.in-Ok.actions.items (c.in-Ok.ensures {u = tt}).actions whole s t c.put_and_show.result.1 c.put_and_show.ensures.calls)

pub returns-in-Err-clause-calls : goal.returns-in-Err-clause-calls
returns-in-Err-clause-calls g c =
    let s = seat_of c.args.pass.seat.me.0 in
    let site = c.args.site.now in
    let st = c.requires.stands in
    let asked = asked_of c.args.channel c.args.mask.now (view c.args.value.now) c.args.moment c.args.atomic in
    subst (λ (z : SiteData). Calls s s (ArePutGet (asked z) (Err c.not_done.result))) (sym st.site_is)
    (subst (λ (r : PutAnswer). Calls s s (ArePutGet (asked site) (Err r))) (sym c.not_done.ensures)
    (refused_at_once s st.legal (asked site) c.in-Err.answer (c.in-Err.ensures {u = tt}).refusal))

pub returns-in-Err-clause-ends : goal.returns-in-Err-clause-ends
returns-in-Err-clause-ends g c =
    let s = seat_of c.args.pass.seat.me.0 in
    subst (λ (r : PutAnswer). OnTold {A = Done × PvValue} (Err r) (EndsAtItsMarks s s)) (sym c.not_done.ensures) (stopped_ends (Done × PvValue) s c.in-Err.answer)
