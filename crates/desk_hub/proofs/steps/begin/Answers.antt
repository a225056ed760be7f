use Rattle.desk_hub.proofs.Beginning.{BeginsFollow, started, not_started}
use Rattle.desk_hub.proofs.steps.begin.Goals as goal

pub returns-clause-starts : goal.returns-clause-starts
returns-clause-starts c =
    let law : BeginsFollow = record {
      least = c.slots_follow_the_roll.ensures.least;
      full = c.slots_follow_the_roll.ensures.full;
      few = c.slots_are_least.ensures.few;
      begins = c.slots_follow_the_roll.ensures.begins;
    } in
    let made = c.add.ensures in
    started law c.args.site.now c.args.subs.now c.add.new.self c.args.watching made.stand c.add.result made.least made.few made.there made.others

pub returns-clause-starts_not : goal.returns-clause-starts_not
returns-clause-starts_not c =
    let law : BeginsFollow = record {
      least = c.slots_follow_the_roll.ensures.least;
      full = c.slots_follow_the_roll.ensures.full;
      few = c.slots_are_least.ensures.few;
      begins = c.slots_follow_the_roll.ensures.begins;
    } in
    not_started law c.args.subs.now c.add.new.self c.add.result c.add.ensures.err c.add.ensures.cause
