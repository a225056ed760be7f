use Rattle.std.proofs.Common.{refl}
use Rattle.cli_session.specs.Views.{ask_of, view_of}
use Rattle.cli_within.specs.Ends.{ClientView, client_view}
use Rattle.cli_within.proofs.Hearing.{handled_err, handled_ok, stop_unframed, told_unframed}
use Rattle.cli_within.proofs.client_end.ClientEnd.hear_event.Goals as goal

pub returns-in-Ok-clause-unframed : goal.returns-in-Ok-clause-unframed
returns-in-Ok-clause-unframed g c = told_unframed _ _ _ _ _ _ c.print_told.result c.print_told.ensures.tells

pub returns-in-Ok-clause-hears : goal.returns-in-Ok-clause-hears
returns-in-Ok-clause-hears g c =
    handled_ok (client_view c.args.self.now) _ (client_view c.print_told.new.self) c.args.event _ _ _ _ c.print_told.result c.in-Ok.ensures.ask refl c.print_told.ensures.ask
    (λ events told given. c.in-Ok.ensures.stands events told given) c.print_told.ensures.tells

pub returns-in-Err-clause-unframed : goal.returns-in-Err-clause-unframed
returns-in-Err-clause-unframed g c = stop_unframed c.in-Err.fault c.stop_of.result c.stop_of.ensures

pub returns-in-Err-clause-hears : goal.returns-in-Err-clause-hears
returns-in-Err-clause-hears g c =
    let new : ClientView = record { ask = ask_of c.handle.new.self; client = view_of c.handle.new.self; stream = c.args.self.now.stream; ended = c.args.self.now.ended } in
    handled_err (client_view c.args.self.now) new c.args.event _ _ c.in-Err.fault c.stop_of.result c.stop_of.ensures (λ events told given. c.in-Err.ensures.stands events told given)
