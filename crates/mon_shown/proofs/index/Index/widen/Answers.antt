use Rattle.std.proofs.Common.{◌∙◌, ◌+◌, ◌∷◌, [], ℕ, List, length, ap, arith, length-append}
use Rattle.mon_shown.specs.Channels.{is_one_of}
use Rattle.mon_shown.specs.Noting.{has_slot_at}
use Rattle.mon_shown.specs.declared.index.Listed.{Listed}
use Rattle.mon_shown.proofs.Listing.{widened}
use Rattle.mon_shown.proofs.index.Index.widen.Goals as goal

pub loop-list-preserved : goal.loop-list-preserved
loop-list-preserved c =
    let lists = c.loop-list.self.lists.items in
    let one : Listed = record { slots = c.new.result } in
    let more = (c.in_ok-push.ensures {u = tt}).items in (
      ap length more ∙ length-append lists (one ∷ []) ∙ ap (λ (n : ℕ). n + 1) c.loop-list.invariant.0,
      λ r s. ap (λ (l : List Listed). has_slot_at l r s) more ∙ widened lists one r s (λ k. ap (λ (l : List ℕ). is_one_of l k) c.new.ensures.items) ∙ c.loop-list.invariant.1 r s,
    )

pub returns-clause-there : goal.returns-clause-there
returns-clause-there c = omega (arith, c.loop-list-test.false, c.loop-list.invariant.0)
