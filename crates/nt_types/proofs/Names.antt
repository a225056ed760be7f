-- Names that a table doesn't have.
use Rattle.std.proofs.Common.{◌≡◌, ℕ, List, Bool, true, false, if◌then◌else◌, sym, ap, ◌∙◌, refl}
use Rattle.std.specs.Str.{bytes_eq}
use Rattle.std.proofs.lemmas.Slice.Eq.{bytes_eq-Decides}

not_true : (b : Bool) → (b ≡ true → ⊥) → b ≡ false
not_true true h = absurd (h refl)
not_true false h = refl

-- a row of another name is passed over
pub past : {A : Type 0} {name other : List ℕ} {r y : A} (x : A) → (name ≡ other → ⊥) → r ≡ y → r ≡ (if bytes_eq other name then x else y)
past {A} {name} {other} {r} {y} x h e =
    e ∙ sym (ap (λ b. if b then x else y) (not_true (bytes_eq other name) (λ t. h (sym ((bytes_eq-Decides other name).0 t)))))
