use Rattle.std.proofs.Common.{◌≡◌, drop, rules}
use Rattle.pva_messages.proofs.reading.read_request_part.Goals as goal

pub returns-clause-found : goal.returns-clause-found
returns-clause-found c = let e : c.split_at.result.1.now ≡ drop c.args.part c.args.payload.now = search rules in rw e at c.read_part.ensures.found
