use Rattle.std.proofs.Common.{◌∙◌, ap, map}
use Rattle.std.proofs.lemmas.Result.{IfOk-weaker}
use Rattle.clap.specs.Words.{app_of, is_simple_and_free}
use Rattle.prog_server.proofs.Command.{server_is_free, faults-at, rows-at}
use Rattle.prog_server.proofs.words.matches_of.Goals as goal

pub returns-clause-fails : goal.returns-clause-fails
returns-clause-fails c =
    let app = c.in_ok-command.ensures.app in
    faults-at (app_of c.in_ok-command.command) (map (λ s. s.now) c.args.words.now) c.try_get_matches_from.result app
    (c.try_get_matches_from.ensures.kinds (ap is_simple_and_free app ∙ server_is_free))

pub returns-clause-rows : goal.returns-clause-rows
returns-clause-rows c =
    IfOk-weaker c.try_get_matches_from.result _ _
    (λ m h. rows-at (app_of c.in_ok-command.command) (map (λ s. s.now) c.args.words.now) m c.in_ok-command.ensures.app h)
    c.try_get_matches_from.ensures.matches
