use Rattle.mon_shown.proofs.Least.{least_by, full_by, follows_begun, follows_ended}
use Rattle.mon_shown.proofs.laws.slots_follow_the_roll.Goals as goal

pub returns-clause-least : goal.returns-clause-least
returns-clause-least g c = λ items subs slot f first. least_by items subs f slot first

pub returns-clause-full : goal.returns-clause-full
returns-clause-full g c = λ items subs f full. full_by items subs f full

pub returns-clause-begins : goal.returns-clause-begins
returns-clause-begins g c = λ items subs more seat slot size channel mask f others there. follows_begun items subs f more seat slot others size channel mask there

pub returns-clause-ends : goal.returns-clause-ends
returns-clause-ends g c = λ items subs more seat slot f has others there. follows_ended items subs f more seat slot others has there
