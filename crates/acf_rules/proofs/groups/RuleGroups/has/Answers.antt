use Rattle.std.proofs.Common.{◌∙◌, ap}
use Rattle.std.specs.Prelude.{string_bytes, bytes_eq}
use Rattle.acf_rules.specs.Access.{has}
use Rattle.acf_rules.proofs.Maps.{seen-has}
use Rattle.acf_rules.proofs.groups.RuleGroups.has.Goals as goal

pub returns : goal.returns
returns c = c.contains_key.ensures ∙ seen-has string_bytes (λ v. v.items) (bytes_eq c.args.name.now) c.self.inside.by_name.entries ∙ ap (has c.args.name.now) c.self.view_is
