use Rattle.std.proofs.Common.{◌∙◌, sym}
use Rattle.std.specs.Prelude.{is_some}
use Rattle.std.proofs.lemmas.Bool.{both_ways}
use Rattle.srv_stream.specs.Views.{view_of}
use Rattle.cli_within.specs.Serving.{over_of}
use Rattle.cli_within.proofs.Rounding.{is_open}
use Rattle.cli_within.proofs.Serving.{filled_open, not_filled, unfilled_open}
use Rattle.cli_within.proofs.server_end.ServerEnd.fill.Goals as goal

pub returns-then-is_some-clause-fills : goal.returns-then-is_some-clause-fills
returns-then-is_some-clause-fills g c = λ first told heard given h. not_filled (over_of c.args.self.now) h (λ no empty. both_ways (is_some (over_of c.args.self.now)) no (sym c.is_some.ensures ∙ c.if-is_some.true))

pub pump-requires-clause-site : goal.pump-requires-clause-site
pump-requires-clause-site g c = (c.requires.ready (is_open (over_of c.args.self.now) c.is_some.result c.is_some.ensures c.if-is_some.false)).site

pub pump-requires-clause-holds : goal.pump-requires-clause-holds
pump-requires-clause-holds g c = (c.requires.ready (is_open (over_of c.args.self.now) c.is_some.result c.is_some.ensures c.if-is_some.false)).holds

pub returns-in-Ok-clause-fills : goal.returns-in-Ok-clause-fills
returns-in-Ok-clause-fills g c = λ first told heard given h.
    filled_open (over_of c.args.self.now) (is_open (over_of c.args.self.now) c.is_some.result c.is_some.ensures c.if-is_some.false) h (g.D.Desk.seat c.pump.new.desk) (view_of c.pump.new.self) c.in-Ok.field-0 c.in-Ok.ensures.pumps c.in-Ok.ensures.stream

pub returns-in-Err-clause-fills : goal.returns-in-Err-clause-fills
returns-in-Err-clause-fills g c = λ first told heard given h.
    unfilled_open (over_of c.args.self.now) (is_open (over_of c.args.self.now) c.is_some.result c.is_some.ensures c.if-is_some.false) h (g.D.Desk.seat c.pump.new.desk) (view_of c.pump.new.self) c.in-Err.no_memory c.in-Err.ensures.pumps
