use Rattle.std.proofs.Common.{◌≡◌, [], Option, Bool, true, Result, Ok, Err, sym, subst, ap, ◌∙◌}
use Rattle.std.specs.FinSet.{FinSet}
use Rattle.std.specs.Ordering.{nat_cmp}
use Rattle.std.specs.Prelude.{IfOk, OnOk}
use Rattle.pvd_type.specs.declared.memory.NoMemory.{NoMemory}
use Rattle.pvd_value.specs.Data.{Data}
use Rattle.pvd_value.specs.Fits.{fits_of}
use Rattle.pvd_value.specs.View.{view}
use Rattle.pvd_value.specs.declared.value.PvValue.{PvValue}
use Rattle.journal_core.specs.Moments.{Moment}
use Rattle.desk_api.specs.Calls.{Asked, AreGet, ArePut, Calls, EndsAtItsMarks, OnTold}
use Rattle.desk_api.specs.Sites.{is_atomic}
use Rattle.desk_api.specs.Types.{type_of}
use Rattle.desk_api.specs.declared.channel.Channel.{Channel}
use Rattle.desk_api.specs.declared.history.SiteData.{SiteData}
use Rattle.desk_api.specs.declared.put.Done.{Done}
use Rattle.desk_api.specs.declared.put.PutAnswer.{PutAnswer}
use Rattle.desk_core.proofs.Combining.{failed_calls, failed_ends}
use Rattle.desk_shared.specs.Records.{seat_of}
use Rattle.desk_shared.proofs.Together.{both_called, both_end, stopped_called}
use Rattle.desk_shared.proofs.putting.put_then_get.Goals as goal

-- what is asked of a site
abbrev asked_of : Channel → FinSet nat_cmp → Data → Moment → Option Bool → SiteData → Asked
asked_of channel mask value moment atomic site = record { site = site; channel = channel; mask = mask; value = value; moment = moment; atomic = atomic }

pub returns-in-Err-clause-calls : goal.returns-in-Err-clause-calls
returns-in-Err-clause-calls g c =
    let v = c.args.pass.seat.me.0 in
    let s = seat_of v in
    let m = seat_of c.put_in-pass.result.0.seat.me.0 in
    let a = asked_of c.args.channel c.args.mask.now (view c.args.value.now) c.args.moment c.args.atomic v.seen.base.site in
    let apart = ap (λ (z : SiteData). is_atomic z c.args.channel c.args.atomic) c.requires.stands.site_is ∙ c.requires.apart in
    let put = subst (λ (z : Result Done PutAnswer). Calls s m (ArePut a z)) c.in-Err.is c.put_in-pass.ensures.calls in
    failed_calls a apart s m [] [] c.in-Err.answer put

pub returns-in-Err-clause-ends : goal.returns-in-Err-clause-ends
returns-in-Err-clause-ends g c =
    let v = c.args.pass.seat.me.0 in
    let s = seat_of v in
    let m = seat_of c.put_in-pass.result.0.seat.me.0 in
    let a = asked_of c.args.channel c.args.mask.now (view c.args.value.now) c.args.moment c.args.atomic v.seen.base.site in
    let apart = ap (λ (z : SiteData). is_atomic z c.args.channel c.args.atomic) c.requires.stands.site_is ∙ c.requires.apart in
    failed_ends a apart s m [] [] c.in-Err.answer (subst (λ (z : Result Done PutAnswer). OnTold z (EndsAtItsMarks s m)) c.in-Err.is c.put_in-pass.ensures.ends)

pub returns-in-Ok-got-clause-calls : goal.returns-in-Ok-got-clause-calls
returns-in-Ok-got-clause-calls g c =
    let v = c.args.pass.seat.me.0 in
    let s = seat_of v in
    let m = seat_of c.put_in-pass.result.0.seat.me.0 in
    let a = asked_of c.args.channel c.args.mask.now (view c.args.value.now) c.args.moment c.args.atomic v.seen.base.site in
    let apart = ap (λ (z : SiteData). is_atomic z c.args.channel c.args.atomic) c.requires.stands.site_is ∙ c.requires.apart in
    let put = subst (λ (z : Result Done PutAnswer). Calls s m (ArePut a z)) c.in-Ok.is c.put_in-pass.ensures.calls in
    let w = c.put_in-pass.result.0.seat.me.0 in
    let t = seat_of c.get_in-pass.result.0.seat.me.0 in
    let same : w.seen.base.site ≡ v.seen.base.site = c.put_in-pass.ensures.stands.site_is ∙ sym c.requires.stands.site_is in
    let get = subst (λ (z : SiteData). Calls m t (AreGet z c.args.channel c.args.atomic (Ok c.in-Ok-got.value))) same (subst (λ (z : Result PvValue NoMemory). Calls m t (AreGet w.seen.base.site c.args.channel c.args.atomic z)) c.in-Ok-got.is c.get_in-pass.ensures.calls) in
    both_called a apart s m t c.in-Ok.done put c.in-Ok-got.value get

pub returns-in-Ok-got-clause-ends : goal.returns-in-Ok-got-clause-ends
returns-in-Ok-got-clause-ends g c =
    let v = c.args.pass.seat.me.0 in
    let s = seat_of v in
    let m = seat_of c.put_in-pass.result.0.seat.me.0 in
    let a = asked_of c.args.channel c.args.mask.now (view c.args.value.now) c.args.moment c.args.atomic v.seen.base.site in
    let apart = ap (λ (z : SiteData). is_atomic z c.args.channel c.args.atomic) c.requires.stands.site_is ∙ c.requires.apart in
    let put = subst (λ (z : Result Done PutAnswer). Calls s m (ArePut a z)) c.in-Ok.is c.put_in-pass.ensures.calls in
    let w = c.put_in-pass.result.0.seat.me.0 in
    let t = seat_of c.get_in-pass.result.0.seat.me.0 in
    let same : w.seen.base.site ≡ v.seen.base.site = c.put_in-pass.ensures.stands.site_is ∙ sym c.requires.stands.site_is in
    let get = subst (λ (z : SiteData). Calls m t (AreGet z c.args.channel c.args.atomic (Ok c.in-Ok-got.value))) same (subst (λ (z : Result PvValue NoMemory). Calls m t (AreGet w.seen.base.site c.args.channel c.args.atomic z)) c.in-Ok-got.is c.get_in-pass.ensures.calls) in
    both_end a apart s m t c.in-Ok.done put c.in-Ok-got.value get (subst (λ (z : Result PvValue NoMemory). OnOk z (EndsAtItsMarks m t)) c.in-Ok-got.is c.get_in-pass.ensures.ends)

pub returns-in-Ok-got-clause-fits : goal.returns-in-Ok-got-clause-fits
returns-in-Ok-got-clause-fits g c =
    subst (λ (z : SiteData). fits_of 16 (view c.in-Ok-got.value) (type_of z c.args.channel) ≡ true) c.put_in-pass.ensures.stands.site_is
    (subst (λ (z : Result PvValue NoMemory). IfOk z (λ r. fits_of 16 (view r) (type_of c.put_in-pass.result.0.seat.me.0.seen.base.site c.args.channel) ≡ true)) c.in-Ok-got.is c.get_in-pass.ensures.fits)

pub returns-in-Err-got-clause-calls : goal.returns-in-Err-got-clause-calls
returns-in-Err-got-clause-calls g c =
    let v = c.args.pass.seat.me.0 in
    let s = seat_of v in
    let m = seat_of c.put_in-pass.result.0.seat.me.0 in
    let a = asked_of c.args.channel c.args.mask.now (view c.args.value.now) c.args.moment c.args.atomic v.seen.base.site in
    let apart = ap (λ (z : SiteData). is_atomic z c.args.channel c.args.atomic) c.requires.stands.site_is ∙ c.requires.apart in
    let put = subst (λ (z : Result Done PutAnswer). Calls s m (ArePut a z)) c.in-Ok.is c.put_in-pass.ensures.calls in
    let w = c.put_in-pass.result.0.seat.me.0 in
    let t = seat_of c.get_in-pass.result.0.seat.me.0 in
    let same : w.seen.base.site ≡ v.seen.base.site = c.put_in-pass.ensures.stands.site_is ∙ sym c.requires.stands.site_is in
    let get = subst (λ (z : SiteData). Calls m t (AreGet z c.args.channel c.args.atomic (Err c.in-Err-got.field-0))) same (subst (λ (z : Result PvValue NoMemory). Calls m t (AreGet w.seen.base.site c.args.channel c.args.atomic z)) c.in-Err-got.is c.get_in-pass.ensures.calls) in
    stopped_called a apart s m t c.in-Ok.done put c.in-Err-got.field-0 get
