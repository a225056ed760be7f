use Rattle.std.proofs.Common.{Some, refl}
use Rattle.cli_futures.specs.Updating.{HasWaited}
use Rattle.cli_futures.specs.declared.updates.Updates.{Updates}
use Rattle.cli_futures.proofs.Collected.{on_pending}
use Rattle.cli_futures.proofs.Given.{gives_more, gives_none, stopped_before, stops_by, went_ended, went_told, went_waits, yields_after, yields_end, yields_next, yields_within}
use Rattle.cli_futures.proofs.updates.UpdatesStream.poll_next.Goals as goal

pub returns-in-Some-clause-value : goal.returns-in-Some-clause-value
returns-in-Some-clause-value g c = yields_end g.L.Link.wire c.args.self.now

pub returns-in-Some-clause-gives : goal.returns-in-Some-clause-gives
returns-in-Some-clause-gives g c = stopped_before g.L.Link.wire c.args.self.now _ c.in-Some.is

pub returns-in-Told-clause-value : goal.returns-in-Told-clause-value
returns-in-Told-clause-value g c =
    let new : Updates g.row.L.Denot = record { conversation = c.advance.new.self; end = c.args.self.now.end } in
    yields_next g.L.Link.wire c.in-Told.report (went_told g.L.Link.wire c.args.self.now new c.in-None.is c.in-Told.ensures.patience c.in-Told.report c.in-None.is c.in-Told.ensures.advances)

pub returns-in-Told-clause-rest : goal.returns-in-Told-clause-rest
returns-in-Told-clause-rest g c =
    let new : Updates g.row.L.Denot = record { conversation = c.advance.new.self; end = c.args.self.now.end } in
    yields_after g.L.Link.wire c.in-Told.report (went_told g.L.Link.wire c.args.self.now new c.in-None.is c.in-Told.ensures.patience c.in-Told.report c.in-None.is c.in-Told.ensures.advances)

pub returns-in-Told-clause-gives : goal.returns-in-Told-clause-gives
returns-in-Told-clause-gives g c =
    let new : Updates g.row.L.Denot = record { conversation = c.advance.new.self; end = c.args.self.now.end } in
    gives_more g.L.Link.wire (went_told g.L.Link.wire c.args.self.now new c.in-None.is c.in-Told.ensures.patience c.in-Told.report c.in-None.is c.in-Told.ensures.advances)

pub returns-in-Waits-clause-same : goal.returns-in-Waits-clause-same
returns-in-Waits-clause-same g c =
    let new : Updates g.row.L.Denot = record { conversation = c.advance.new.self; end = c.args.self.now.end } in
    let on = went_waits g.L.Link.wire c.args.self.now new c.in-None.is c.in-Waits.ensures.patience c.in-None.is c.in-Waits.ensures.advances in
    on_pending c.ask_again.result (yields_within g.L.Link.wire on)

pub returns-in-Waits-clause-waits : goal.returns-in-Waits-clause-waits
returns-in-Waits-clause-waits g c =
    let new : Updates g.row.L.Denot = record { conversation = c.advance.new.self; end = c.args.self.now.end } in
    let on = went_waits g.L.Link.wire c.args.self.now new c.in-None.is c.in-Waits.ensures.patience c.in-None.is c.in-Waits.ensures.advances in
    let waited : HasWaited g.L.Link.wire c.args.self.now new = record { none = gives_none g.L.Link.wire on; rested = c.in-Waits.ensures.idles } in
    on_pending c.ask_again.result waited

pub returns-in-Ended-clause-value : goal.returns-in-Ended-clause-value
returns-in-Ended-clause-value g c = yields_end g.L.Link.wire c.args.self.now

pub returns-in-Ended-clause-gives : goal.returns-in-Ended-clause-gives
returns-in-Ended-clause-gives g c =
    let new : Updates g.row.L.Denot = record { conversation = c.advance.new.self; end = Some c.in-Ended.end } in record {
      none = gives_none g.L.Link.wire (went_ended g.L.Link.wire c.args.self.now new c.in-None.is c.in-Ended.ensures.patience c.in-Ended.end refl c.in-Ended.ensures.advances);
      ended = refl;
      limit = stops_by g.L.Link.wire c.args.self.now new c.in-Ended.end c.in-None.is refl c.in-Ended.ensures.idles;
    }
