use Rattle.std.proofs.Common.{◌∙◌, ap, List, Some, None}
use Rattle.std.specs.Prelude.{string_bytes, bytes_eq}
use Rattle.acf_rules.specs.declared.rules.Rule.{Rule}
use Rattle.acf_rules.proofs.Maps.{found}
use Rattle.acf_rules.proofs.groups.RuleGroups.get.Goals as goal

pub returns-in-Some : goal.returns-in-Some
returns-in-Some c =
    ap (λ (rules : List Rule). Some rules) c.as_slice.ensures.value
    ∙ found string_bytes (λ v. v.items) (bytes_eq c.args.name.now) c.self.inside.by_name.entries (Some c.in-Some.rules.now) c.args.self.now c.in-Some.ensures.value c.self.view_is

pub returns-in-None : goal.returns-in-None
returns-in-None c = found string_bytes (λ v. v.items) (bytes_eq c.args.name.now) c.self.inside.by_name.entries None c.args.self.now c.in-None.ensures.value c.self.view_is
