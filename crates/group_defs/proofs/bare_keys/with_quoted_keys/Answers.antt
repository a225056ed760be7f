use Rattle.std.proofs.Common.{IsUtf8, sym, ap, ◌∙◌, subst}
use Rattle.group_defs.specs.BareKeys.{with_quoted_keys}
use Rattle.group_defs.proofs.Characters.{text_kept}
use Rattle.group_defs.proofs.bare_keys.with_quoted_keys.Goals as goal

pub unwrap-requires : goal.unwrap-requires
unwrap-requires c =
    c.from_utf8.ensures.succeeds (subst IsUtf8 (sym (c.in_ok-bytes.ensures ∙ ap with_quoted_keys c.as_bytes.ensures.value)) (text_kept c.args.text.now c.utf8.text))
