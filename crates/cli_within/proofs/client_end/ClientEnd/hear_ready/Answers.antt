use Rattle.std.proofs.Common.{◌≡◌, ◌∙◌, [], None, Err, ap, length, arith}
use Rattle.std.specs.Result.{result_err}
use Rattle.pva_frames.specs.Assembled.{Assembled, Gave, Refused, Waits}
use Rattle.cli_within.specs.Ends.{ClientView, client_view}
use Rattle.cli_within.proofs.Hearing.{refuses_unframed}
use Rattle.cli_within.proofs.Ready.{ready_all, ready_next, ready_none, ready_one, ready_refused, ready_short, ready_stopped}
use Rattle.cli_within.proofs.client_end.ClientEnd.hear_ready.Goals as goal

pub events-init : goal.events-init
events-init g c = ready_none (client_view c.args.self.now) _ _

pub events-preserved : goal.events-preserved
events-preserved g c =
    let mid : ClientView = record (client_view c.events.self) { stream = c.next.new.self } in
    let x : Gave c.events.self.stream c.next.new.self c.in-Event.event = rw c.in-Event.is at c.in-Ok.ensures in
    ready_one c.events.invariant c.in-Event.event mid x.first x.left (λ ask events given h. record { asks = h.asks; stands = h.stands; ended = h.ended }) (client_view c.hear_event.new.self) _ _ c.in-Ok-hear_event.ensures.stream c.in-Ok-hear_event.ensures.hears

pub events-smaller : goal.events-smaller
events-smaller g c =
    let x : Gave c.events.self.stream c.next.new.self c.in-Event.event = rw c.in-Event.is at c.in-Ok.ensures in
    omega (arith, ap length x.first, ap (λ (a : Assembled). length a.events) c.in-Ok-hear_event.ensures.stream)

pub returns-in-Err-hear_event-clause-left : goal.returns-in-Err-hear_event-clause-left
returns-in-Err-hear_event-clause-left g c =
    let x : Gave c.events.self.stream c.next.new.self c.in-Event.event = rw c.in-Event.is at c.in-Ok.ensures in
    ap (λ (a : Assembled). a.left) c.in-Err-hear_event.ensures.stream ∙ x.left ∙ c.events.invariant.left

pub returns-in-Err-hear_event-clause-refuses : goal.returns-in-Err-hear_event-clause-refuses
returns-in-Err-hear_event-clause-refuses g c = refuses_unframed (client_view c.hear_event.new.self) c.in-Err-hear_event.stop c.in-Err-hear_event.ensures.unframed

pub returns-in-Err-hear_event-clause-hears : goal.returns-in-Err-hear_event-clause-hears
returns-in-Err-hear_event-clause-hears g c =
    let mid : ClientView = record (client_view c.events.self) { stream = c.next.new.self } in
    let x : Gave c.events.self.stream c.next.new.self c.in-Event.event = rw c.in-Event.is at c.in-Ok.ensures in
    ready_stopped c.events.invariant c.in-Event.event mid x.first x.left (λ ask events given h. record { asks = h.asks; stands = h.stands; ended = h.ended }) (client_view c.hear_event.new.self) _ _ c.in-Err-hear_event.stop c.in-Err-hear_event.ensures.hears

pub returns-in-Some-clause-left : goal.returns-in-Some-clause-left
returns-in-Some-clause-left g c =
    let x : Refused c.events.self.stream c.next.new.self c.in-Fault.fault = rw c.in-Fault.is at c.in-Ok.ensures in
    ap (λ (a : Assembled). a.left) x.unchanged ∙ c.events.invariant.left

pub returns-in-Some-clause-emptied : goal.returns-in-Some-clause-emptied
returns-in-Some-clause-emptied g c =
    let x : Refused c.events.self.stream c.next.new.self c.in-Fault.fault = rw c.in-Fault.is at c.in-Ok.ensures in
    let none : c.next.new.self.events ≡ [] = ap (λ (a : Assembled). a.events) x.unchanged ∙ x.none in
    search (none)

pub returns-in-Some-clause-refuses : goal.returns-in-Some-clause-refuses
returns-in-Some-clause-refuses g c =
    let x : Refused c.events.self.stream c.next.new.self c.in-Fault.fault = rw c.in-Fault.is at c.in-Ok.ensures in
    let left : c.next.new.self.left ≡ Err c.in-Fault.fault = ap (λ (a : Assembled). a.left) x.unchanged ∙ x.first in
    let over : c.events.self.ended ≡ None → result_err c.next.new.self.left ≡ None = λ unended. absurd (let ended = c.in-Some.is in cc) in
    search (left, over)

pub returns-in-Some-clause-hears : goal.returns-in-Some-clause-hears
returns-in-Some-clause-hears g c =
    let x : Refused c.events.self.stream c.next.new.self c.in-Fault.fault = rw c.in-Fault.is at c.in-Ok.ensures in
    ready_all (ready_next c.events.invariant c.next.new.self x.unchanged) (ap (λ (a : Assembled). a.events) x.unchanged ∙ x.none)

pub returns-in-None-clause-left : goal.returns-in-None-clause-left
returns-in-None-clause-left g c =
    let x : Refused c.events.self.stream c.next.new.self c.in-Fault.fault = rw c.in-Fault.is at c.in-Ok.ensures in
    ap (λ (a : Assembled). a.left) x.unchanged ∙ c.events.invariant.left

pub returns-in-None-clause-refuses : goal.returns-in-None-clause-refuses
returns-in-None-clause-refuses g c =
    let x : Refused c.events.self.stream c.next.new.self c.in-Fault.fault = rw c.in-Fault.is at c.in-Ok.ensures in
    ap (λ (a : Assembled). a.left) x.unchanged ∙ x.first

pub returns-in-None-clause-hears : goal.returns-in-None-clause-hears
returns-in-None-clause-hears g c =
    let x : Refused c.events.self.stream c.next.new.self c.in-Fault.fault = rw c.in-Fault.is at c.in-Ok.ensures in
    ready_refused (ready_next c.events.invariant c.next.new.self x.unchanged) (ap (λ (a : Assembled). a.events) x.unchanged ∙ x.none) c.in-None.is c.in-Fault.fault

pub returns-in-More-clause-left : goal.returns-in-More-clause-left
returns-in-More-clause-left g c =
    let x : Waits c.events.self.stream c.next.new.self = rw c.in-More.is at c.in-Ok.ensures in
    ap (λ (a : Assembled). a.left) x.unchanged ∙ c.events.invariant.left

pub returns-in-More-clause-emptied : goal.returns-in-More-clause-emptied
returns-in-More-clause-emptied g c =
    let x : Waits c.events.self.stream c.next.new.self = rw c.in-More.is at c.in-Ok.ensures in
    ap (λ (a : Assembled). a.events) x.unchanged ∙ x.none

pub returns-in-More-clause-refuses : goal.returns-in-More-clause-refuses
returns-in-More-clause-refuses g c =
    let x : Waits c.events.self.stream c.next.new.self = rw c.in-More.is at c.in-Ok.ensures in
    λ unended. rw x.unchanged x.sound

pub returns-in-More-clause-hears : goal.returns-in-More-clause-hears
returns-in-More-clause-hears g c =
    let x : Waits c.events.self.stream c.next.new.self = rw c.in-More.is at c.in-Ok.ensures in
    ready_all (ready_next c.events.invariant c.next.new.self x.unchanged) (ap (λ (a : Assembled). a.events) x.unchanged ∙ x.none)

pub returns-in-Err-clause-left : goal.returns-in-Err-clause-left
returns-in-Err-clause-left g c = ap (λ (a : Assembled). a.left) c.in-Err.ensures ∙ c.events.invariant.left

pub returns-in-Err-clause-hears : goal.returns-in-Err-clause-hears
returns-in-Err-clause-hears g c = ready_short (ready_next c.events.invariant c.next.new.self c.in-Err.ensures)
