use Rattle.std.proofs.Common.{◌∙◌, Bool, true, false, Err, Option, sym, subst}
use Rattle.std.specs.FinSet.{FinSet}
use Rattle.std.specs.Ordering.{nat_cmp}
use Rattle.pvd_value.specs.Data.{Data}
use Rattle.pvd_value.specs.View.{view}
use Rattle.journal_core.specs.Moments.{Moment}
use Rattle.desk_api.specs.Calls.{Asked, ArePut, Calls}
use Rattle.desk_api.specs.Puts.{entries_by}
use Rattle.desk_api.specs.declared.channel.Channel.{Channel}
use Rattle.desk_api.specs.declared.history.SiteData.{SiteData}
use Rattle.desk_api.specs.declared.put.PutAnswer.{PutAnswer}
use Rattle.desk_core.proofs.Beginning.{put_of, refused_calls, some_entries}
use Rattle.desk_shared.specs.Records.{seat_of}
use Rattle.desk_shared.proofs.Entered.{put_calls}
use Rattle.desk_shared.proofs.putting.put_in.Goals as goal

-- what is asked of a site
abbrev asked_of : Channel → FinSet nat_cmp → Data → Moment → Option Bool → SiteData → Asked
asked_of channel mask value moment atomic site = record { site = site; channel = channel; mask = mask; value = value; moment = moment; atomic = atomic }

pub returns-in-Err-clause-calls : goal.returns-in-Err-clause-calls
returns-in-Err-clause-calls g c =
    let s = seat_of c.args.pass.seat.me.0 in
    let st = c.requires.stands in
    let asked = asked_of c.args.channel c.args.mask.now (view c.args.value.now) c.args.moment c.args.atomic in
    subst (λ (site : SiteData). Calls s s (ArePut (asked site) (Err c.not_done.result))) (sym st.site_is)
    (subst (λ (a : PutAnswer). Calls s s (ArePut (asked c.args.site.now) (Err a))) (sym c.not_done.ensures)
    (refused_calls s st.legal (asked c.args.site.now) c.in-Err.answer (c.in-Err.ensures {u = tt}).refusal))

pub returns-then-is_atomic-clause-calls : goal.returns-then-is_atomic-clause-calls
returns-then-is_atomic-clause-calls g c =
    let s = seat_of c.args.pass.seat.me.0 in
    let t = seat_of c.put_whole.result.0.seat.me.0 in
    let asked = asked_of c.args.channel c.args.mask.now (view c.args.value.now) c.args.moment c.args.atomic in
    let answered = c.in-Ok.ensures {u = tt} in
    let actions = c.in-Ok.actions.items in
    subst (λ (site : SiteData). Calls s t (ArePut (asked site) c.put_whole.result.1)) (sym c.requires.stands.site_is)
    (put_calls (asked c.args.site.now) (entries_by true actions) (put_of (asked c.args.site.now) actions true answered.actions (sym c.if-is_atomic.true ∙ c.is_atomic.ensures)) s t
    (some_entries true actions answered.some) c.put_whole.result.1 c.put_whole.ensures.calls)

pub returns-clause-calls : goal.returns-clause-calls
returns-clause-calls g c =
    let s = seat_of c.args.pass.seat.me.0 in
    let t = seat_of c.put_each.result.0.seat.me.0 in
    let asked = asked_of c.args.channel c.args.mask.now (view c.args.value.now) c.args.moment c.args.atomic in
    let answered = c.in-Ok.ensures {u = tt} in
    let actions = c.in-Ok.actions.items in
    subst (λ (site : SiteData). Calls s t (ArePut (asked site) c.put_each.result.1)) (sym c.requires.stands.site_is)
    (put_calls (asked c.args.site.now) (entries_by false actions) (put_of (asked c.args.site.now) actions false answered.actions (sym c.if-is_atomic.false ∙ c.is_atomic.ensures)) s t
    (some_entries false actions answered.some) c.put_each.result.1 c.put_each.ensures.calls)
