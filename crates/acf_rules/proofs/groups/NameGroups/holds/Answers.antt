use Rattle.std.proofs.Common.{◌∙◌, ap, List, Option, Some, None, []}
use Rattle.std.specs.Prelude.{string_bytes, bytes_eq, unwrap_or}
use Rattle.acf_rules.specs.Access.{Name, is_among}
use Rattle.acf_rules.proofs.Maps.{members_of, found, names_any}
use Rattle.acf_rules.proofs.groups.NameGroups.holds.Goals as goal

pub returns-in-Some : goal.returns-in-Some
returns-in-Some c =
    c.contains.ensures ∙ names_any string_bytes c.args.member.now c.in-Some.members.now.keys
    ∙ ap (λ (o : Option (List Name)). is_among c.args.member.now (unwrap_or o []))
    (found string_bytes members_of (bytes_eq c.args.group.now) c.self.inside.by_name.entries (Some c.in-Some.members.now) c.args.self.now c.in-Some.ensures.value c.self.view_is)

pub returns-in-None : goal.returns-in-None
returns-in-None c =
    ap (λ (o : Option (List Name)). is_among c.args.member.now (unwrap_or o []))
    (found string_bytes members_of (bytes_eq c.args.group.now) c.self.inside.by_name.entries None c.args.self.now c.in-None.ensures.value c.self.view_is)
