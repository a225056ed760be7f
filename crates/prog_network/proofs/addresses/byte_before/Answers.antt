use Rattle.prog_network.proofs.Reading.{uncut, no_number}
use Rattle.prog_network.proofs.addresses.byte_before.Goals as goal

pub returns-in_default : goal.returns-in_default
returns-in_default c = uncut c.args.text.now c.args.mark c.in_default.ensures.cases c.requires

pub returns-in_default-count_within : goal.returns-in_default-count_within
returns-in_default-count_within c = no_number c.args.text.now c.args.mark (c.in-Some.front, c.in-Some.rest) c.in-Some.ensures.cases c.requires c.in_default-count_within.ensures
