use Rattle.std.proofs.Common.{◌∙◌, ℕ, List, Bor, ap, map, sym, arith}
use Rattle.std.specs.List.{list_all}
use Rattle.cli_within.specs.Words.{is_path}
use Rattle.cli_within.proofs.Paths.{are_fields}
use Rattle.cli_within.proofs.fields.read_fields.Goals as goal

pub returns : goal.returns
returns c =
    are_fields c.args.text.now c.in_ok-texts.texts.items c.in_ok-names_of.field-0.items (c.in_ok-texts.ensures {u = tt})
    (omega (arith, c.len.ensures, c.in_ok-texts.texts.ok, c.if-len-gt-PATHS.false))
    (sym (c.in_ok-are_all.ensures {u = tt} ∙ ap (list_all (λ (p : Bor (List ℕ)). is_path p.now)) c.deref.ensures.value) ∙ c.if-not-are_all.false)
    (c.in_ok-names_of.ensures {u = tt} ∙ ap (map (λ (b : Bor (List ℕ)). b.now)) c.deref-2.ensures.value)
