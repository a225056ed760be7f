use Rattle.std.proofs.Common.{◌≡◌, ◌∙◌, ◌-◌, sym, ap, length, arith}
use Rattle.pva_frames.proofs.Filling.{message_there}
use Rattle.pva_frames.proofs.writing.end_message.Goals as goal

pub returns-then-length-segment-clause-ok : goal.returns-then-length-segment-clause-ok
returns-then-length-segment-clause-ok c =
    let items = c.args.out.now.items in
    let long : length items ≡ c.args.out.now.len = sym (ap length c.deref_mut.ensures.value) ∙ c.deref_mut.ensures.len in
    rw c.deref_mut.ensures.value (message_there c.args.order c.args.server c.args.command c.args.segment c.args.start c.args.out.now.len (c.len.result - c.args.start - 8) items c.put_header.new.frame long c.requires.room (omega (arith, c.len.ensures)) c.if-length-segment.true
    (rw c.deref_mut.ensures.value at c.put_header.ensures))
