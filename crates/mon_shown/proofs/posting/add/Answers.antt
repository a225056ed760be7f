use Rattle.std.proofs.Common.{◌∙◌, ap}
use Rattle.std.specs.Result.{is_ok}
use Rattle.mon_shown.specs.Readies.{found_for}
use Rattle.mon_shown.proofs.Taking.{apart_pushed, found_else, found_own}
use Rattle.mon_shown.proofs.posting.add.Goals as goal

pub invariant_of-made : goal.invariant_of-made
invariant_of-made c = record {
  apart = apart_pushed (is_ok c.push.result) c.args.slot c.args.ready c.args.made.now.readies.items c.push.new.self.items c.push.ensures.items c.args.made.now.apart c.requires;
}

pub returns-clause-others : goal.returns-clause-others
returns-clause-others c = λ s ne. ap (found_for s) (c.in_ok-push.ensures {u = tt}).items ∙ found_else s c.args.slot c.args.ready c.args.made.now.readies.items ne

pub returns-clause-own : goal.returns-clause-own
returns-clause-own c = ap (found_for c.args.slot) (c.in_ok-push.ensures {u = tt}).items ∙ found_own c.args.slot c.args.ready c.args.made.now.readies.items c.requires
