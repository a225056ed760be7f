use Rattle.std.proofs.Common.{◌<◌, length, ◌∙◌, arith}
use Rattle.group_defs.proofs.Naming.{names_more}
use Rattle.group_defs.proofs.checking.names_of.Goals as goal

pub loop-member-preserved : goal.loop-member-preserved
loop-member-preserved c =
    let inside : c.loop-member.member-index < length c.args.members.now = omega arith in
    names_more c.loop-member.names.keys c.insert_full.new.self.keys c.as_bytes.result c.args.members.now c.loop-member.member-index c.member-item.result c.requires inside
    c.member-item.is (c.as_bytes.ensures.value ∙ c.as_str.ensures.text) c.in_ok-insert_full.ensures.keys c.loop-member.invariant
