use Rattle.std.proofs.Common.{Bool, None, cond, sym, ap, ◌∙◌}
use Rattle.std.specs.Prelude.{position}
use Rattle.std.specs.Str.{bytes_eq}
use Rattle.group_defs.specs.Named.{names_seen}
use Rattle.group_defs.proofs.Numbering.{position_map}
use Rattle.group_defs.proofs.triggers.number_of.Goals as goal

pub returns-clause-value : goal.returns-clause-value
returns-clause-value c =
    c.get_index_of.ensures.index ∙ position_map (λ s. s.now) (bytes_eq c.args.name.now) c.args.names.now.keys
    ∙ sym (ap (λ (b : Bool). cond b None (position (bytes_eq c.args.name.now) (names_seen c.args.names.now))) (sym c.is_empty.ensures ∙ c.if-is_empty.false))
