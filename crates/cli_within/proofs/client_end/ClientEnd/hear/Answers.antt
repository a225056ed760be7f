use Rattle.cli_within.specs.Ends.{client_view}
use Rattle.cli_within.proofs.Ready.{taken_result, taken_short}
use Rattle.cli_within.proofs.client_end.ClientEnd.hear.Goals as goal

pub returns-in_default : goal.returns-in_default
returns-in_default g c = λ ask start before taken given h p. taken_short c.args.bytes.now (client_view c.args.self.now) start _ before _ h p

pub returns : goal.returns
returns g c =
    taken_result (client_view c.args.self.now) (client_view c.hear_ready.new.self) c.feed.new.self _ _ _ _ c.args.bytes.now c.hear_ready.result c.in-Ok.ensures.ok c.hear_ready.ensures.hears c.hear_ready.ensures.left
    c.hear_ready.ensures.emptied c.hear_ready.ensures.refuses
