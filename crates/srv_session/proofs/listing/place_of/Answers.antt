use Rattle.std.proofs.Common.{◌≡◌, ◌<◌, ◌≤◌, false, true, arith, rules, sym, ◌∙◌}
use Rattle.std.specs.Prelude.{nat_lt, get_or}
use Rattle.std.proofs.lemmas.Bool.Decides.{nat_tests}
use Rattle.srv_session.proofs.Rising.{place_goes_on_at, place_is_here_at}
use Rattle.srv_session.proofs.listing.place_of.Goals as goal

pub loop-i-preserved : goal.loop-i-preserved
loop-i-preserved c = place_goes_on_at c.args.id c.args.ids.now c.loop-i.i 0 c.loop-i-test.true (search rules) ∙ c.loop-i.invariant

pub returns-then-ids-i : goal.returns-then-ids-i
returns-then-ids-i c = place_is_here_at c.args.id c.args.ids.now c.loop-i.i 0 c.loop-i-test.true (search rules) ∙ c.loop-i.invariant
