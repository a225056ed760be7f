use Rattle.std.proofs.Common.{ap, ◌∙◌, List, ℕ}
use Rattle.group_view.specs.Seen.{branch_seen, slots_seen}
use Rattle.group_view.specs.Slots.{with_last}
use Rattle.group_view.proofs.Placing.{slots_push}
use Rattle.group_view.proofs.Walks.{named_is}
use Rattle.group_view.proofs.slots.push.Goals as goal

pub returns : goal.returns
returns c =
    ap slots_seen c.in_ok-push.ensures.items
    ∙ slots_push c.args.slots.now.items (record { name = c.in_ok-name.name; branch = c.args.branch })
    ∙ ap (λ p. with_last p.0 p.1 (slots_seen c.args.slots.now.items)) (named_is (record { name = c.in_ok-name.name; branch = c.args.branch }))
    ∙ ap (λ (name : List ℕ). with_last name (branch_seen c.args.branch) (slots_seen c.args.slots.now.items)) c.in_ok-name.ensures
