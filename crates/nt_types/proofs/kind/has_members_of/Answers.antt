use Rattle.std.proofs.Common.{codes, ◌&&◌, sym, ap, ◌∙◌}
use Rattle.pvd_type.specs.View.{members_view}
use Rattle.nt_types.specs.Kinds.{has_members, member_named, some_tree, is_text, is_columns}
use Rattle.nt_types.specs.declared.kind.NtKind.{NtKind}
use Rattle.nt_types.proofs.kind.has_members_of.Goals as goal

pub returns-then-has_texts : goal.returns-then-has_texts
returns-then-has_texts c =
    let members = members_view c.args.members.now in
    let columns = some_tree is_columns (member_named (codes "value") members) in
    c.has_columns.ensures
    ∙ (sym (ap (λ labels. labels && columns) (sym c.has_texts.ensures ∙ c.if-has_texts.true))
    ∙ sym (ap (λ (kind : NtKind). has_members kind members) c.in-NtTable.is))

pub returns-then-has_text : goal.returns-then-has_text
returns-then-has_text c =
    let members = members_view c.args.members.now in
    let path = some_tree is_text (member_named (codes "path") members) in
    c.has_text-then-has_text.ensures
    ∙ (sym (ap (λ scheme. scheme && path) (sym c.has_text.ensures ∙ c.if-has_text.true))
    ∙ sym (ap (λ (kind : NtKind). has_members kind members) c.in-NtUri.is))
