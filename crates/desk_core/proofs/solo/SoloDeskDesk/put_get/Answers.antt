use Rattle.std.proofs.Common.{◌≡◌, IsTrue, Option, Bool, true, false, Result, Ok, Err, refl, sym, subst, ap, ◌∙◌}
use Rattle.std.specs.FinSet.{FinSet}
use Rattle.std.specs.Ordering.{nat_cmp}
use Rattle.std.specs.Prelude.{IfOk}
use Rattle.pvd_type.specs.declared.memory.NoMemory.{NoMemory}
use Rattle.pvd_value.specs.Data.{Data}
use Rattle.pvd_value.specs.Fits.{fits_of}
use Rattle.pvd_value.specs.View.{view}
use Rattle.pvd_value.specs.declared.value.PvValue.{PvValue}
use Rattle.journal_core.specs.Moments.{Moment}
use Rattle.desk_api.specs.Calls.{Asked, AreGet, ArePut, ArePutGet, Calls, OnTold, EndsAtItsMarks}
use Rattle.desk_api.specs.Sites.{is_atomic, is_channel}
use Rattle.desk_api.specs.Types.{type_of}
use Rattle.desk_api.specs.declared.channel.Channel.{Channel}
use Rattle.desk_api.specs.declared.history.Base.{Base}
use Rattle.desk_api.specs.declared.history.SiteData.{SiteData}
use Rattle.desk_api.specs.declared.put.Done.{Done}
use Rattle.desk_api.specs.declared.put.PutAnswer.{PutAnswer}
use Rattle.desk_core.specs.Desks.{ports_of}
use Rattle.desk_core.specs.Ports.{DrivesPorts}
use Rattle.desk_core.specs.PutGets.{done_of}
use Rattle.desk_core.proofs.Beginning.{stopped_drives, stopped_ends}
use Rattle.desk_core.proofs.Combining.{at_once_calls, at_once_drives, at_once_ends, at_once_fits, refused_at_once}
use Rattle.desk_core.proofs.solo.SoloDeskDesk.put_get.Goals as goal

-- what is asked of a site
abbrev asked_of : Channel → FinSet nat_cmp → Data → Moment → Option Bool → SiteData → Asked
asked_of channel mask value moment atomic site = record { site = site; channel = channel; mask = mask; value = value; moment = moment; atomic = atomic }

pub is_atomic-at_once-requires : goal.is_atomic-at_once-requires
is_atomic-at_once-requires g c = subst (λ (b : Base). IsTrue (is_channel b.site c.args.channel)) c.args.self.now.stands.base_is c.requires.channel

pub put_then_get-requires-clause-apart : goal.put_then_get-requires-clause-apart
put_then_get-requires-clause-apart g c =
    ap (λ (b : Base). is_atomic b.site c.args.channel c.args.atomic) c.args.self.now.stands.base_is ∙ sym c.is_atomic-at_once.ensures ∙ c.if-not-at_once.true

pub actions-requires-clause-channel : goal.actions-requires-clause-channel
actions-requires-clause-channel g c = subst (λ (b : Base). IsTrue (is_channel b.site c.args.channel)) c.args.self.now.stands.base_is c.requires.channel

pub actions-requires-clause-fits : goal.actions-requires-clause-fits
actions-requires-clause-fits g c = ap (λ (b : Base). fits_of 16 (view c.args.value.now) (type_of b.site c.args.channel)) (sym c.args.self.now.stands.base_is) ∙ c.requires.fits

pub put_and_show-requires-clause-channel : goal.put_and_show-requires-clause-channel
put_and_show-requires-clause-channel g c = subst (λ (b : Base). IsTrue (is_channel b.site c.args.channel)) c.args.self.now.stands.base_is c.requires.channel

pub put_and_show-requires-clause-within : goal.put_and_show-requires-clause-within
put_and_show-requires-clause-within g c = (c.in-Ok.ensures {u = tt}).within

pub put_and_show-requires-clause-may : goal.put_and_show-requires-clause-may
put_and_show-requires-clause-may g c = (c.in-Ok.ensures {u = tt}).may

pub put_and_show-requires-clause-few : goal.put_and_show-requires-clause-few
put_and_show-requires-clause-few g c = (c.in-Ok.ensures {u = tt}).few

pub returns-in-Ok-clause-calls : goal.returns-in-Ok-clause-calls
returns-in-Ok-clause-calls g c =
    let d = c.args.self.now in
    let t = c.put_and_show.new.self in
    let asked = asked_of c.args.channel c.args.mask.now (view c.args.value.now) c.args.moment c.args.atomic in
    let whole = sym c.is_atomic-at_once.ensures ∙ c.if-not-at_once.false in
    subst (λ (b : Base). Calls d.log t.log (ArePutGet (asked b.site) c.put_and_show.result)) (sym d.stands.base_is)
    (at_once_calls (asked d.terms.site) c.in-Ok.actions.items (c.in-Ok.ensures {u = tt}).actions whole d.log t.log d.legal (ports_of g.P.Port.port d) (ports_of g.P.Port.port t) c.put_and_show.result c.put_and_show.ensures.put)

pub returns-in-Ok-clause-ends : goal.returns-in-Ok-clause-ends
returns-in-Ok-clause-ends g c =
    let d = c.args.self.now in
    let t = c.put_and_show.new.self in
    let asked = asked_of c.args.channel c.args.mask.now (view c.args.value.now) c.args.moment c.args.atomic in
    let whole = sym c.is_atomic-at_once.ensures ∙ c.if-not-at_once.false in
    at_once_ends (asked d.terms.site) c.in-Ok.actions.items (c.in-Ok.ensures {u = tt}).actions whole d.log t.log d.legal (ports_of g.P.Port.port d) (ports_of g.P.Port.port t) c.put_and_show.result c.put_and_show.ensures.put

pub returns-in-Ok-clause-fits : goal.returns-in-Ok-clause-fits
returns-in-Ok-clause-fits g c =
    let d = c.args.self.now in
    let t = c.put_and_show.new.self in
    let asked = asked_of c.args.channel c.args.mask.now (view c.args.value.now) c.args.moment c.args.atomic in
    let whole = sym c.is_atomic-at_once.ensures ∙ c.if-not-at_once.false in
    subst (λ (b : Base). IfOk c.put_and_show.result (λ r. fits_of 16 (view r.1) (type_of b.site c.args.channel) ≡ true)) (sym d.stands.base_is)
    (at_once_fits (asked d.terms.site) c.in-Ok.actions.items (c.in-Ok.ensures {u = tt}).actions whole d.log t.log d.legal (ports_of g.P.Port.port d) (ports_of g.P.Port.port t) c.put_and_show.result c.put_and_show.ensures.put)

pub returns-in-Ok-clause-base : goal.returns-in-Ok-clause-base
returns-in-Ok-clause-base g c =
    let d = c.args.self.now in
    let t = c.put_and_show.new.self in
    let asked = asked_of c.args.channel c.args.mask.now (view c.args.value.now) c.args.moment c.args.atomic in
    let whole = sym c.is_atomic-at_once.ensures ∙ c.if-not-at_once.false in
    (at_once_calls (asked d.terms.site) c.in-Ok.actions.items (c.in-Ok.ensures {u = tt}).actions whole d.log t.log d.legal (ports_of g.P.Port.port d) (ports_of g.P.Port.port t) c.put_and_show.result c.put_and_show.ensures.put).adds.grows.base

pub returns-in-Ok-clause-ports : goal.returns-in-Ok-clause-ports
returns-in-Ok-clause-ports g c =
    let d = c.args.self.now in
    let t = c.put_and_show.new.self in
    let asked = asked_of c.args.channel c.args.mask.now (view c.args.value.now) c.args.moment c.args.atomic in
    let whole = sym c.is_atomic-at_once.ensures ∙ c.if-not-at_once.false in
    subst (λ (b : Base). DrivesPorts d.log t.log (ports_of g.P.Port.port d) (ports_of g.P.Port.port t) (asked b.site) (done_of c.put_and_show.result)) (sym d.stands.base_is)
    (at_once_drives (asked d.terms.site) c.in-Ok.actions.items (c.in-Ok.ensures {u = tt}).actions whole d.log t.log d.legal (ports_of g.P.Port.port d) (ports_of g.P.Port.port t) c.put_and_show.result c.put_and_show.ensures.put)

pub returns-in-Err-clause-calls : goal.returns-in-Err-clause-calls
returns-in-Err-clause-calls g c =
    let d = c.args.self.now in
    let asked = asked_of c.args.channel c.args.mask.now (view c.args.value.now) c.args.moment c.args.atomic in
    subst (λ (b : Base). Calls d.log d.log (ArePutGet (asked b.site) (Err c.not_done.result))) (sym d.stands.base_is)
    (subst (λ (a : PutAnswer). Calls d.log d.log (ArePutGet (asked d.terms.site) (Err a))) (sym c.not_done.ensures)
    (refused_at_once d.log d.legal (asked d.terms.site) c.in-Err.answer (c.in-Err.ensures {u = tt}).refusal))

pub returns-in-Err-clause-ends : goal.returns-in-Err-clause-ends
returns-in-Err-clause-ends g c =
    let s = c.args.self.now.log in
    subst (λ (a : PutAnswer). OnTold {A = Done × PvValue} (Err a) (EndsAtItsMarks s s)) (sym c.not_done.ensures) (stopped_ends (Done × PvValue) s c.in-Err.answer)

pub returns-in-Err-clause-base : goal.returns-in-Err-clause-base
returns-in-Err-clause-base g c = refl

pub returns-in-Err-clause-ports : goal.returns-in-Err-clause-ports
returns-in-Err-clause-ports g c =
    let s = c.args.self.now.log in
    let asked = asked_of c.args.channel c.args.mask.now (view c.args.value.now) c.args.moment c.args.atomic s.seen.base.site in
    let ports = ports_of g.P.Port.port c.args.self.now in
    subst (λ (a : PutAnswer). DrivesPorts s s ports ports asked (Err a)) (sym c.not_done.ensures) (stopped_drives s ports asked c.in-Err.answer)
