use Rattle.std.proofs.Common.{◌≤◌, ◌+◌, ◌==◌, ap, ◌∙◌, List, ℕ, length, if◌then◌else◌, rules}
use Rattle.rec_kinds.specs.Given.{text_told}
use Rattle.rec_kinds.proofs.Counts.{count_step}
use Rattle.rec_kinds.proofs.given.Given.up_to_last.Goals as goal

pub loop-index-preserved : goal.loop-index-preserved
loop-index-preserved c =
    let most : c.counted-count.result ≤ c.loop-index.index + 1 = search rules in (
      most,
      count_step (text_told c.args.self.now.kind c.args.self.now.fields.now) c.args.names.now _ c.loop-index.index c.loop-index.count
          c.counted-count.result _ c.loop-index-test.true
          (c.counted-count.ensures ∙ ap (λ (t : List ℕ). if length t == 0 then c.loop-index.count else c.loop-index.index + 1) c.text.ensures)
          c.loop-index.invariant.1,
    )
