use Rattle.cli_within.proofs.OneSubscription.{monitors_have_one}
use Rattle.cli_within.proofs.laws.monitors_have_one_subscription.Goals as goal

pub returns : goal.returns
returns c = monitors_have_one
