use Rattle.std.proofs.Common.{refl}
use Rattle.pva_frames.specs.Assembled.{Gave, Refused, Waits}
use Rattle.cli_session.specs.Views.{view_of}
use Rattle.cli_futures.specs.Taking.{client_view}
use Rattle.cli_futures.proofs.Taken.{hears_all, hears_one, stops_refused, stops_short, stops_untaken}
use Rattle.cli_futures.proofs.stream_client.StreamClient.hear_next.Goals as goal

pub returns-in-Ok-handle : goal.returns-in-Ok-handle
returns-in-Ok-handle c =
    let x : Gave c.args.self.now.stream c.next.new.self c.in-Event.event = rw c.in-Event.is at c.in-Ok.ensures in
    hears_one (client_view c.args.self.now) _ c.in-Event.event x c.in-Ok-handle.ensures.ask refl (λ events told written. c.in-Ok-handle.ensures.stands events told written)

pub returns-in-Err-handle : goal.returns-in-Err-handle
returns-in-Err-handle c =
    let x : Gave c.args.self.now.stream c.next.new.self c.in-Event.event = rw c.in-Event.is at c.in-Ok.ensures in
    stops_untaken (client_view c.args.self.now) c.in-Event.event _ (view_of c.handle.new.self) c.in-Err-handle.fault c.end_of.result c.end_of.ensures x.first (λ events told written. c.in-Err-handle.ensures.stands events told written)

pub returns-in-Fault : goal.returns-in-Fault
returns-in-Fault c =
    let x : Refused c.args.self.now.stream c.next.new.self c.in-Fault.fault = rw c.in-Fault.is at c.in-Ok.ensures in
    stops_refused (client_view c.args.self.now) _ c.in-Fault.fault c.refuse.result x refl refl refl c.refuse.ensures

pub returns-in-More : goal.returns-in-More
returns-in-More c =
    let x : Waits c.args.self.now.stream c.next.new.self = rw c.in-More.is at c.in-Ok.ensures in
    hears_all (client_view c.args.self.now) _ x refl refl refl

pub returns-in-Err : goal.returns-in-Err
returns-in-Err c = stops_short (client_view c.args.self.now)
