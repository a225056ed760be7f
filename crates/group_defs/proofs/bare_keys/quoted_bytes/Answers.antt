use Rattle.std.proofs.Common.{ap, ◌++◌, ◌+◌, ◌-◌, length, drop, arith}
use Rattle.std.proofs.lemmas.List.{drop_all, take_all, length-drop}
use Rattle.group_defs.specs.BareKeys.{text_from, with_quoted_keys}
use Rattle.group_defs.specs.declared.bare_keys.Within.TheVariants.{Elsewhere}
use Rattle.group_defs.proofs.Quoting.{quoted_more, quoted_end}
use Rattle.group_defs.proofs.bare_keys.quoted_bytes.Goals as goal

pub loop-index-init : goal.loop-index-init
unfolding with_quoted_keys
loop-index-init c = ap (λ t. t ++ text_from Elsewhere c.args.bytes.now) c.new-text.ensures.items

pub loop-index-preserved : goal.loop-index-preserved
loop-index-preserved c =
    let l = c.loop-index in
    quoted_more c.args.bytes.now l.index l.within c.behind-within.result l.text.items c.push_byte.new.text.items _ _ c.loop-index-test.true
    (take_all (length c.args.bytes.now - (l.index + 1)) (drop (l.index + 1) c.args.bytes.now) (omega (arith, length-drop (l.index + 1) c.args.bytes.now))) c.in_ok-push_byte.ensures c.behind-within.ensures l.invariant

pub returns : goal.returns
returns c =
    let l = c.loop-index in
    quoted_end c.args.bytes.now l.index l.within l.text.items _ (drop_all l.index c.args.bytes.now (omega (arith, c.loop-index-test.false))) l.invariant
