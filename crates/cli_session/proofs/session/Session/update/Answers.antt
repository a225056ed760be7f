use Rattle.std.proofs.Common.{◌≡◌, ◌-◌, ℕ, Bool, cond, Option, Ok, [], ap, subst, arith}
use Rattle.std.proofs.lemmas.Bool.{lt-ltb}
use Rattle.std.proofs.lemmas.List.{append-nil}
use Rattle.cli_session.specs.Calls.{Went}
use Rattle.cli_session.specs.Messages.{acknowledgement, window_of}
use Rattle.cli_session.specs.Seen.{reports_view}
use Rattle.cli_session.specs.State.{State}
use Rattle.cli_session.specs.Steps.{Taken, saying, finished, updated}
use Rattle.cli_session.specs.Views.{state_of}
use Rattle.cli_session.proofs.session.Session.update.Goals as goal

pub returns-clause-takes : goal.returns-clause-takes
returns-clause-takes c =
    let s = state_of c.args.self.now in
    let fewer : State = record s { left = s.left - 1 } in
    let before = c.args.out.now.items in
    let after = c.acknowledge.new.out.items in
    let told = reports_view c.args.report in
    let more : Taken = saying fewer (acknowledgement s.sid (window_of c.args.ask.now.operation)) told in
    let went = subst (λ (w : Option ℕ). Went (saying fewer (acknowledgement s.sid w) []) fewer before after) c.window.ensures (c.in_default.ensures {u = tt}) in
    let is_more : updated c.args.ask.now s c.args.turn told ≡ more = ap (λ (b : Bool). cond b more (finished s c.args.turn told)) (lt-ltb 1 s.left (omega arith)) in
    record { taken = more; is = ap Ok is_more; went = record { state = went.state; bytes = went.bytes; written = went.written }; told_is = append-nil told }
