use Rattle.std.proofs.Common.{refl}
use Rattle.cli_futures.specs.Taking.{client_view}
use Rattle.cli_futures.proofs.Taken.{hands_none, heard_so, fewer_so, waits_so}
use Rattle.cli_futures.proofs.stream_client.StreamClient.next_told.Goals as goal

pub events-init : goal.events-init
events-init c = λ ask read written told h. h

pub events-preserved : goal.events-preserved
events-preserved c = λ ask read written told h.
    heard_so (client_view c.next_report.new.self) (client_view c.hear_next.new.self) c.in-Ok.heard c.if-heard.true c.in-Ok.ensures ask read written told
    (hands_none (client_view c.events.self) _ c.in_default.ensures.hands ask read written told (c.events.invariant ask read written told h))

pub events-smaller : goal.events-smaller
events-smaller c = fewer_so (client_view c.events.self) (client_view c.next_report.new.self) (client_view c.hear_next.new.self) c.in-Ok.heard c.if-heard.true c.in_default.ensures.hands c.in-Ok.ensures

pub returns-in-Some-clause-hears : goal.returns-in-Some-clause-hears
returns-in-Some-clause-hears c = λ ask read written told h. c.in-Some.ensures.hands.keeps ask read written told (c.events.invariant ask read written told h)

pub returns-in-Ok-clause-hears : goal.returns-in-Ok-clause-hears
returns-in-Ok-clause-hears c = λ ask read written told h.
    waits_so (client_view c.events.self) (client_view c.next_report.new.self) (client_view c.hear_next.new.self) c.in-Ok.heard c.if-heard.false c.in_default.ensures.hands c.in-Ok.ensures ask read written told (c.events.invariant ask read written told h)

pub returns-in-Err-clause-hears : goal.returns-in-Err-clause-hears
returns-in-Err-clause-hears c = λ ask read written told h.
    c.in-Err.ensures.1 ask read written told (hands_none (client_view c.events.self) _ c.in_default.ensures.hands ask read written told (c.events.invariant ask read written told h)) (c.in_default.ensures.hands.all refl)

pub returns-in-Err-clause-stops : goal.returns-in-Err-clause-stops
returns-in-Err-clause-stops c = c.in-Err.ensures.0
