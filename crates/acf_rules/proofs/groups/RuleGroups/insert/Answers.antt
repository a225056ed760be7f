use Rattle.std.specs.Prelude.{string_bytes}
use Rattle.acf_rules.proofs.Maps.{added}
use Rattle.acf_rules.proofs.groups.RuleGroups.insert.Goals as goal

pub returns : goal.returns
returns c =
    added string_bytes (λ v. v.items) c.in_ok-name.name c.args.rules c.self.inside.by_name.entries c.insert.new.self.entries c.args.name.now c.args.self.now c.in_ok-insert.ensures.entries c.in_ok-name.ensures.ok c.self.view_is c.requires
