use Rattle.std.proofs.Common.{◌≡◌, ◌==◌, ◌&&◌, true, length, rules, sym, ap, ◌∙◌}
use Rattle.pvd_type.specs.View.{members_view}
use Rattle.nt_types.specs.Kinds.{all_lists}
use Rattle.nt_types.proofs.members.names_columns.Goals as goal

pub returns : goal.returns
returns c =
    let no_id : (length c.args.id.now == 0) ≡ true = search rules in
    c.all_are_lists.ensures ∙ sym (ap (λ test. test && all_lists (members_view c.args.members.now)) no_id)
