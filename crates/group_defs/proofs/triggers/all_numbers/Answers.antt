use Rattle.std.proofs.Common.{◌≡◌, ℕ, ◌+◌, ◌<◌, ◌++◌, List, length, drop, ap, ◌∙◌, arith}
use Rattle.std.proofs.lemmas.List.{length-map}
use Rattle.group_defs.specs.Named.{names_seen}
use Rattle.group_defs.specs.Triggers.{numbers_from}
use Rattle.group_defs.proofs.Numbering.{numbers_more}
use Rattle.group_defs.proofs.triggers.all_numbers.Goals as goal

pub loop-number-preserved : goal.loop-number-preserved
loop-number-preserved c =
    let names = names_seen c.args.names.now in
    let i = c.loop-number.number in
    let count : length names ≡ length c.args.names.now.keys = length-map c.args.names.now.keys (λ s. s.now) in
    let inside : i < length names = omega (arith, count, c.len-number-end.ensures.len) in
    ap (λ (ns : List ℕ). ns ++ numbers_from (i + 1) (drop (i + 1) names)) c.in_ok-push.ensures.items
    ∙ numbers_more names i c.loop-number.numbers.items (numbers_from 0 names) inside c.loop-number.invariant
