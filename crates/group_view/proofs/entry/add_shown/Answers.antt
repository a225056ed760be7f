use Rattle.std.proofs.Common.{◌≡◌, length, rules}
use Rattle.group_view.proofs.Placing.{on_ok}
use Rattle.group_view.proofs.Entering.{meta_added}
use Rattle.group_view.proofs.entry.add_shown.Goals as goal

pub returns-in-Meta : goal.returns-in-Meta
returns-in-Meta c =
    let empty : length c.args.name.now ≡ 0 = search rules in
    on_ok c.add_piece-in-Meta.result
    (λ last. meta_added c.args.number c.args.kind c.args.name.now c.args.link.now _ _ _ c.in-Meta.is empty c.in_ok-add_piece-in-Meta.ensures last)
    c.add_piece-in-Meta.ensures
