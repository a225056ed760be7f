use Rattle.std.proofs.Common.{◌≡◌, ◌∙◌, [], ◌∷◌, ◌++◌, arith}
use Rattle.prog_source.proofs.Pairs.{at_piece, none_left, one_more_so_far, stops, all_so_far}
use Rattle.prog_source.proofs.macros.read_pairs.Goals as goal

pub returns-in_default : goal.returns-in_default
returns-in_default c =
    stops _ c.loop-piece.piece-index _ c.loop-piece.macros.items (at_piece c.args.texts.now c.loop-piece.piece-index _ c.loop-piece-test.true) (c.in_default.ensures {u = tt}) c.loop-piece.invariant

pub loop-piece-preserved : goal.loop-piece-preserved
loop-piece-preserved c =
    let first : c.in_ok-of.field-0 ≡ c.in-Some.name.now = c.in_ok-of.ensures {u = tt} in
    let second : c.in_ok-of-2.field-0 ≡ c.in-Some.value.now = c.in_ok-of-2.ensures {u = tt} in
    let items : c.push.new.self.items ≡ c.loop-piece.macros.items ++ (c.in-Some.name.now, c.in-Some.value.now) ∷ [] = c.in_ok-push.ensures.items ∙ (λ j. c.loop-piece.macros.items ++ (first j, second j) ∷ []) in
    rw items (one_more_so_far _ c.loop-piece.piece-index _ c.loop-piece.macros.items (c.in-Some.name.now, c.in-Some.value.now) (at_piece c.args.texts.now c.loop-piece.piece-index _ c.loop-piece-test.true) (c.in-Some.ensures {u = tt}) c.loop-piece.invariant)

pub returns : goal.returns
returns c =
    all_so_far _ c.loop-piece.piece-index c.loop-piece.macros.items (none_left c.args.texts.now c.loop-piece.piece-index (omega (arith, c.loop-piece-test.false))) c.loop-piece.invariant
