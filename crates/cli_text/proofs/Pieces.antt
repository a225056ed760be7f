-- The member of a union that stands in a place, and the elements of lists.
use Rattle.std.proofs.Common.{◌≡◌, ℕ, zero, suc, ◌+◌, ◌<◌, ◌≤◌, min, List, [], ◌∷◌, length, get_or, drop, map, refl, arith, add-one}
use Rattle.std.proofs.Math.Seq.{drop-cons}
use Rattle.pvd_type.specs.Tree.{Tree, no_fields}
use Rattle.pvd_type.specs.View.{shape_view, members_view}
use Rattle.pvd_type.specs.declared.shape.Member.{Member}
use Rattle.pvd_value.specs.Data.{Row, end, more, gap}
use Rattle.pvd_value.specs.View.{view, row_view}
use Rattle.pvd_value.specs.declared.value.PvValue.{PvValue}
use Rattle.pvd_value.proofs.Rows.{member_is, members_from, row_from}
use Rattle.cli_text.specs.Texts.{named, chosen, member_texts, text_of}

pub chosen_within : (ms : List Member) (n : ℕ) (f : Tree → List ℕ) (d : Member) → n < length ms → chosen n f (members_view ms) ≡ named (get_or ms n d).name 58 (f (shape_view (get_or ms n d).shape))
chosen_within [] n f d h = absurd (omega arith)
chosen_within (m ∷ ms) zero f d h = rw (member_is m) refl
chosen_within (m ∷ ms) (suc n) f d h = chosen_within ms n f d (omega arith)

pub chosen_past : (ms : List Member) (n : ℕ) (f : Tree → List ℕ) → length ms ≤ n → chosen n f (members_view ms) ≡ []
chosen_past [] zero f h = refl
chosen_past [] (suc n) f h = refl
chosen_past (m ∷ ms) zero f h = absurd (omega arith)
chosen_past (m ∷ ms) (suc n) f h = chosen_past ms n f (omega arith)

-- the texts of scalars from place i on
pub texts_from : {A : Type 0} (f : A → List ℕ) (xs : List A) (i : ℕ) (x : A) → i < length xs → get_or xs i x ≡ x → map f (drop i xs) ≡ f x ∷ map f (drop (i + 1) xs)
texts_from f xs i x within here = rw (drop-cons xs i x within, add-one, here) refl

pub numbers_from : (f : ℕ → List ℕ) (xs : List ℕ) (i : ℕ) → i < length xs → map f (drop i xs) ≡ f (get_or xs i 0) ∷ map f (drop (i + 1) xs)
numbers_from f xs i within = rw (drop-cons xs i 0 within, add-one) refl

-- where the values or the members of a structure are over, nothing more is printed
pub members_past : (vs : List PvValue) (ms : List Member) (i : ℕ) → min (length vs) (length ms) ≤ i → member_texts (row_view (drop i vs)) (members_view (drop i ms)) ≡ []
members_past [] ms zero h = refl
members_past [] ms (suc i) h = refl
members_past (v ∷ vs) [] zero h = refl
members_past (v ∷ vs) [] (suc i) h = no_members (row_view (drop i vs))
  where
    no_members : (r : Row) → member_texts r no_fields ≡ []
    no_members end = refl
    no_members (more x r) = refl
    no_members (gap r) = refl
members_past (v ∷ vs) (m ∷ ms) zero h = absurd (omega arith)
members_past (v ∷ vs) (m ∷ ms) (suc i) h = members_past vs ms i (omega arith)

-- the members of a structure from place i on
pub members_text_from : (vs : List PvValue) (ms : List Member) (i : ℕ) (v : PvValue) (m : Member) → i < length vs → i < length ms → get_or vs i v ≡ v → get_or ms i m ≡ m
    → member_texts (row_view (drop i vs)) (members_view (drop i ms)) ≡ named m.name 61 (text_of (view v) (shape_view m.shape)) ∷ member_texts (row_view (drop (i + 1) vs)) (members_view (drop (i + 1) ms))
members_text_from vs ms i v m in_vs in_ms at_v at_m = rw (row_from vs i v in_vs at_v, members_from ms i m in_ms at_m) refl
