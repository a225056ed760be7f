use Rattle.std.proofs.Common.{◌∙◌, ◌++◌, ◌∷◌, [], ap, List}
use Rattle.std.specs.Prelude.{string_bytes}
use Rattle.acf_rules.specs.Access.{Name}
use Rattle.acf_rules.specs.Forms.{once}
use Rattle.acf_rules.proofs.Maps.{members_of, added}
use Rattle.acf_rules.proofs.groups.NameGroups.insert.Goals as goal

pub returns : goal.returns
returns c =
    added string_bytes members_of c.in_ok-name.name c.in_ok-members.members c.self.inside.by_name.entries c.insert.new.self.entries c.args.name.now c.args.self.now
    c.in_ok-insert.ensures.entries c.in_ok-name.ensures.ok c.self.view_is c.requires
    ∙ ap (λ (members : List Name). c.args.self.now ++ (c.args.name.now, members) ∷ []) (c.in_ok-members.ensures ∙ ap once c.as_slice.ensures)
