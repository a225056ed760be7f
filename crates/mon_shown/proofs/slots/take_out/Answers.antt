use Rattle.std.proofs.Common.{◌<◌, ◌∙◌, None, length, sym, arith}
use Rattle.std.proofs.lemmas.List.{get_or-set_same, get_or-set_other, get_or_default, length-set}
use Rattle.mon_shown.proofs.Standing.{at_past}
use Rattle.mon_shown.proofs.slots.take_out.Goals as goal

pub returns-then-at-len-clause-was : goal.returns-then-at-len-clause-was
returns-then-at-len-clause-was g c = sym (at_past c.args.slots.now.items c.args.at (omega (arith, c.if-at-len.true, c.len.ensures)))

pub returns-then-at-len-clause-there : goal.returns-then-at-len-clause-there
returns-then-at-len-clause-there g c = at_past c.args.slots.now.items c.args.at (omega (arith, c.if-at-len.true, c.len.ensures))

pub returns-clause-was : goal.returns-clause-was
returns-clause-was g c =
    let slots = c.args.slots.now.items in
    let within : c.args.at < length slots = omega (arith, c.if-at-len.false, c.len.ensures) in
    c.replace.ensures.value ∙ c.index_mut.ensures.value ∙ get_or_default slots c.args.at c.index_mut.result.now None within

pub returns-clause-there : goal.returns-clause-there
returns-clause-there g c =
    let slots = c.args.slots.now.items in
    let within : c.args.at < length slots = omega (arith, c.if-at-len.false, c.len.ensures) in
    get_or-set_same slots c.args.at c.replace.new.dest None within ∙ c.replace.ensures.after

pub returns-clause-others : goal.returns-clause-others
returns-clause-others g c = λ s ne. get_or-set_other c.args.slots.now.items c.args.at s c.replace.new.dest None ne

pub returns-clause-count : goal.returns-clause-count
returns-clause-count g c = length-set c.args.slots.now.items c.args.at c.replace.new.dest
