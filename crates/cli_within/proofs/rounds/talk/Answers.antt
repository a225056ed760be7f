use Rattle.std.proofs.Common.{refl}
use Rattle.srv_stream.specs.Streams.{moment_told}
use Rattle.cli_within.specs.Rounding.{Frame}
use Rattle.cli_within.proofs.Exchanged.{exchange_short}
use Rattle.cli_within.proofs.rounds.talk.Goals as goal

pub returns-in_default : goal.returns-in_default
returns-in_default g c = λ start before printed. exchange_short c.args.ask _ _ _ _ (g.D.Desk.seat c.args.desk.now) _ _ _ _ c.has_legal_history.ensures printed

pub finish-requires : goal.finish-requires
finish-requires g c = c.pass-end.ensures.living

pub returns : goal.returns
returns g c = λ start before printed.
    let f : Frame = record { ask = c.args.ask; first = g.D.Desk.seat c.args.desk.now; told = moment_told (g.C.Clock.moment c.args.clock.now); start = start; before = before } in
    c.pass-end.ensures.ends f _ refl refl c.start-client.ensures printed c.finish.ensures
