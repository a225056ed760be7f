use Rattle.std.proofs.Common.{◌≡◌, IsTrue, Option, Bool, true, false, Result, Ok, Err, refl, sym, subst, ap, ◌∙◌}
use Rattle.std.specs.FinSet.{FinSet}
use Rattle.std.specs.Ordering.{nat_cmp}
use Rattle.std.specs.Prelude.{IfOk}
use Rattle.pvd_type.specs.declared.memory.NoMemory.{NoMemory}
use Rattle.pvd_value.specs.Data.{Data}
use Rattle.pvd_value.specs.Fits.{fits_of}
use Rattle.pvd_value.specs.View.{view}
use Rattle.pvd_value.specs.declared.value.PvValue.{PvValue}
use Rattle.journal_core.specs.Moments.{Moment}
use Rattle.desk_api.specs.Calls.{Asked, AreGet, ArePut, ArePutGet, Calls, OnTold, EndsAtItsMarks}
use Rattle.desk_api.specs.Sites.{is_atomic, is_channel}
use Rattle.desk_api.specs.Types.{type_of}
use Rattle.desk_api.specs.declared.channel.Channel.{Channel}
use Rattle.desk_api.specs.declared.history.Base.{Base}
use Rattle.desk_api.specs.declared.history.SiteData.{SiteData}
use Rattle.desk_api.specs.declared.put.Done.{Done}
use Rattle.desk_api.specs.declared.put.PutAnswer.{PutAnswer}
use Rattle.desk_core.specs.Desks.{ports_of}
use Rattle.desk_core.specs.Ports.{DrivesPorts}
use Rattle.desk_core.specs.PutGets.{done_of}
use Rattle.desk_core.proofs.Combining.{both_calls, both_drive, both_ends, failed_calls, failed_ends, stopped_calls, stopped_drive}
use Rattle.desk_core.proofs.solo.SoloDesk.put_then_get.Goals as goal

-- what is asked of a site
abbrev asked_of : Channel → FinSet nat_cmp → Data → Moment → Option Bool → SiteData → Asked
asked_of channel mask value moment atomic site = record { site = site; channel = channel; mask = mask; value = value; moment = moment; atomic = atomic }

pub returns-in-Err-clause-calls : goal.returns-in-Err-clause-calls
returns-in-Err-clause-calls g c =
    let s = c.args.self.now.log in
    let a = asked_of c.args.channel c.args.mask.now (view c.args.value.now) c.args.moment c.args.atomic s.seen.base.site in
    failed_calls a c.requires.apart s c.put.new.self.log (ports_of g.P.Port.port c.args.self.now) (ports_of g.P.Port.port c.put.new.self) c.in-Err.answer (c.in-Err.ensures {u = tt}).calls

pub returns-in-Err-clause-ends : goal.returns-in-Err-clause-ends
returns-in-Err-clause-ends g c =
    let s = c.args.self.now.log in
    let a = asked_of c.args.channel c.args.mask.now (view c.args.value.now) c.args.moment c.args.atomic s.seen.base.site in
    failed_ends a c.requires.apart s c.put.new.self.log (ports_of g.P.Port.port c.args.self.now) (ports_of g.P.Port.port c.put.new.self) c.in-Err.answer (c.in-Err.ensures {u = tt}).ends

pub get-requires : goal.get-requires
get-requires g c = subst (λ (b : Base). IsTrue (is_channel b.site c.args.channel)) (sym c.put.ensures.base) c.requires.channel

pub returns-in-Ok-get-clause-calls : goal.returns-in-Ok-get-clause-calls
returns-in-Ok-get-clause-calls g c =
    let s = c.args.self.now.log in
    let m = c.put.new.self.log in
    let t = c.get.new.self.log in
    let a = asked_of c.args.channel c.args.mask.now (view c.args.value.now) c.args.moment c.args.atomic s.seen.base.site in
    let put = c.in-Ok.ensures {u = tt} in
    let get = c.in-Ok-get.ensures {u = tt} in
    both_calls a c.requires.apart s m (ports_of g.P.Port.port c.args.self.now) (ports_of g.P.Port.port c.put.new.self) t c.in-Ok.done put.calls put.ends c.get.ensures.seen c.in-Ok-get.value
    (subst (λ (b : Base). Calls m t (AreGet b.site c.args.channel c.args.atomic (Ok c.in-Ok-get.value))) c.put.ensures.base get.calls)

pub returns-in-Ok-get-clause-ends : goal.returns-in-Ok-get-clause-ends
returns-in-Ok-get-clause-ends g c =
    let s = c.args.self.now.log in
    let m = c.put.new.self.log in
    let t = c.get.new.self.log in
    let a = asked_of c.args.channel c.args.mask.now (view c.args.value.now) c.args.moment c.args.atomic s.seen.base.site in
    let put = c.in-Ok.ensures {u = tt} in
    let get = c.in-Ok-get.ensures {u = tt} in
    both_ends a c.requires.apart s m (ports_of g.P.Port.port c.args.self.now) (ports_of g.P.Port.port c.put.new.self) t c.in-Ok.done put.calls put.ends c.get.ensures.seen c.in-Ok-get.value
    (subst (λ (b : Base). Calls m t (AreGet b.site c.args.channel c.args.atomic (Ok c.in-Ok-get.value))) c.put.ensures.base get.calls) get.ends

pub returns-in-Ok-get-clause-fits : goal.returns-in-Ok-get-clause-fits
returns-in-Ok-get-clause-fits g c =
    ap (λ (b : Base). fits_of 16 (view c.in-Ok-get.value) (type_of b.site c.args.channel)) (sym c.put.ensures.base) ∙ (c.in-Ok-get.ensures {u = tt}).fits

pub returns-in-Ok-get-clause-base : goal.returns-in-Ok-get-clause-base
returns-in-Ok-get-clause-base g c = c.get.ensures.base ∙ c.put.ensures.base

pub returns-in-Ok-get-clause-ports : goal.returns-in-Ok-get-clause-ports
returns-in-Ok-get-clause-ports g c =
    let s = c.args.self.now.log in
    let m = c.put.new.self.log in
    let t = c.get.new.self.log in
    let a = asked_of c.args.channel c.args.mask.now (view c.args.value.now) c.args.moment c.args.atomic s.seen.base.site in
    let put = c.in-Ok.ensures {u = tt} in
    let get = c.in-Ok-get.ensures {u = tt} in
    both_drive a c.requires.apart s m (ports_of g.P.Port.port c.args.self.now) (ports_of g.P.Port.port c.put.new.self) t c.in-Ok.done put.calls put.ends c.get.ensures.seen
    (ports_of g.P.Port.port c.get.new.self) c.get.ensures.ports get.calls.adds.number put.ports

pub returns-in-Err-get-clause-calls : goal.returns-in-Err-get-clause-calls
returns-in-Err-get-clause-calls g c =
    let s = c.args.self.now.log in
    let m = c.put.new.self.log in
    let t = c.get.new.self.log in
    let a = asked_of c.args.channel c.args.mask.now (view c.args.value.now) c.args.moment c.args.atomic s.seen.base.site in
    let put = c.in-Ok.ensures {u = tt} in
    let get = c.in-Err-get.ensures {u = tt} in
    stopped_calls a c.requires.apart s m (ports_of g.P.Port.port c.args.self.now) (ports_of g.P.Port.port c.put.new.self) t c.in-Ok.done put.calls put.ends c.get.ensures.seen _
    (subst (λ (b : Base). Calls m t (AreGet b.site c.args.channel c.args.atomic (Err _))) c.put.ensures.base get.calls)

pub returns-in-Err-get-clause-base : goal.returns-in-Err-get-clause-base
returns-in-Err-get-clause-base g c = c.get.ensures.base ∙ c.put.ensures.base

pub returns-in-Err-get-clause-ports : goal.returns-in-Err-get-clause-ports
returns-in-Err-get-clause-ports g c =
    let s = c.args.self.now.log in
    let m = c.put.new.self.log in
    let t = c.get.new.self.log in
    let a = asked_of c.args.channel c.args.mask.now (view c.args.value.now) c.args.moment c.args.atomic s.seen.base.site in
    let put = c.in-Ok.ensures {u = tt} in
    let get = c.in-Err-get.ensures {u = tt} in
    stopped_drive a c.requires.apart s m (ports_of g.P.Port.port c.args.self.now) (ports_of g.P.Port.port c.put.new.self) t c.in-Ok.done put.calls put.ends c.get.ensures.seen
    (ports_of g.P.Port.port c.get.new.self) c.get.ensures.ports get.calls.adds.number put.ports put.first
