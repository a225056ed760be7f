-- Texts whose bare keys are put in quotes, byte by byte.
use Rattle.std.proofs.Common.{◌≡◌, ℕ, ◌+◌, ◌<◌, List, [], ◌∷◌, ◌++◌, length, drop, get_or, sym, ap, ◌∙◌, append_assoc}
use Rattle.std.proofs.lemmas.List.{append-nil, drop_more}
use Rattle.group_defs.specs.BareKeys.{behind, opens_key, closes_key, quote_if, byte_text, text_from}
use Rattle.group_defs.specs.declared.bare_keys.Within.{Within}

-- a byte with the quotes beside it
pub byte_added : (within : Within) (b : ℕ) (rest text opened read more : List ℕ) → opened ≡ text ++ quote_if (opens_key within b rest)
    → read ≡ opened ++ b ∷ [] → more ≡ read ++ quote_if (closes_key within b rest) → more ≡ text ++ byte_text within b rest
unfolding byte_text
byte_added within b rest text opened read more e f g =
    let before = quote_if (opens_key within b rest) in
    let after = quote_if (closes_key within b rest) in
    g ∙ ap (λ t. t ++ after) f ∙ append_assoc opened (b ∷ []) after ∙ ap (λ t. t ++ (b ∷ after)) e ∙ append_assoc text before (b ∷ after)

-- a byte more, where it stands at this place
pub quoted_more : (bytes : List ℕ) (i : ℕ) (within next : Within) (text more rest whole : List ℕ) → i < length bytes → rest ≡ drop (i + 1) bytes
    → more ≡ text ++ byte_text within (get_or bytes i 0) rest → next ≡ behind within (get_or bytes i 0) → text ++ text_from within (drop i bytes) ≡ whole
    → more ++ text_from next (drop (i + 1) bytes) ≡ whole
unfolding text_from
quoted_more bytes i within next text more rest whole inside follows added moved same =
    let b = get_or bytes i 0 in
    let left = drop (i + 1) bytes in
    ap (λ w. more ++ text_from w left) moved ∙ ap (λ t. t ++ text_from (behind within b) left) (added ∙ ap (λ r. text ++ byte_text within b r) follows)
    ∙ append_assoc text (byte_text within b left) (text_from (behind within b) left)
    ∙ sym (ap (λ bs. text ++ text_from within bs) (drop_more bytes i 0 inside)) ∙ same

-- no byte is left
pub quoted_end : (bytes : List ℕ) (i : ℕ) (within : Within) (text whole : List ℕ) → drop i bytes ≡ [] → text ++ text_from within (drop i bytes) ≡ whole → text ≡ whole
unfolding text_from
quoted_end bytes i within text whole none same = sym (append-nil text) ∙ sym (ap (λ bs. text ++ text_from within bs) none) ∙ same
