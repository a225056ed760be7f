-- No spelling begins another.
use Rattle.std.proofs.Common.{◌≡◌, ℕ, ◌<◌, ◌^◌, ◌-◌, Bool, true, false, cond, ltb, List, ◌∷◌, [], Some, refl, sym, ap, ◌∙◌, inl, inr, length}
use Rattle.std.specs.Str.{IsUtf8}
use Rattle.std.proofs.lemmas.Bool.{ltb-true}
use Rattle.pva_wire.specs.declared.order.Order.{Order}
use Rattle.pva_wire.specs.Spelling.{word, SpellsSize, SpellsText, canonical_size, canonical_text}
use Rattle.pva_wire.specs.Reading.{Read}
use Rattle.pva_wire.specs.Laws.{OneReading, SpelledIsRead}
use Rattle.pva_wire.proofs.Takes.{ok_is}

-- what is read as it is spelled has one reading
pub one_from : {A : Type 0} (Spells : List ℕ → A → Type 0) (read : List ℕ → Read A) → SpelledIsRead Spells read → OneReading Spells
one_from Spells read again a b r s x y p q e =
    let same = ok_is (x, r) (y, s) (sym (again a r x p) ∙ ap read e ∙ again b s y q) in
    (ap (λ p. p.0) same, ap (λ p. p.1) same)

canonical_at : (o : Order) (n : ℕ) (b : Bool) → ltb n 254 ≡ b → n < 2 ^ 31 - 1 → SpellsSize o (cond b (n ∷ []) (254 ∷ word o n)) (Some n)
canonical_at o n true e h = inl (ltb-true n 254 e, refl)
canonical_at o n false e h = inr (h, refl)

-- what is written is a spelling
pub canonical_spells : (o : Order) (n : ℕ) → n < 2 ^ 31 - 1 → SpellsSize o (canonical_size o n) (Some n)
canonical_spells o n h = canonical_at o n (ltb n 254) refl h

pub canonical_text_spells : (o : Order) (text : List ℕ) → length text < 2 ^ 31 - 1 → IsUtf8 text → SpellsText o (canonical_text o text) text
canonical_text_spells o text h valid = inr (canonical_size o (length text), canonical_spells o (length text) h, valid, refl)
