use Rattle.std.proofs.Common.{◌≡◌, ◌<◌, length, arith, rules}
use Rattle.std.proofs.lemmas.Bool.Decides.{nat_tests}
use Rattle.prog_drill.proofs.Pumping.{on_first, on_nothing}
use Rattle.prog_drill.proofs.drilling.+feed_all.Goals as goal

pub returns-then-is_empty : goal.returns-then-is_empty
returns-then-is_empty g t c =
    let none : length c.args.rest.now ≡ 0 = grind (arith, nat_tests, c.is_empty.ensures) in
    on_nothing _ _ c.args.rest.now c.has_legal_history.ensures none

pub returns : goal.returns
returns g t c =
    let long : 4096 < length c.args.rest.now = search rules in
    on_first _ _ _ _ _ c.args.rest.now _ _ c.feed_all.result c.in-Ok.ensures.piece long c.split_at.ensures.front c.split_at.ensures.back c.feed_all.ensures
