-- Elements of a list and members of a structure, one by one, and what is left at the end.
use Rattle.std.proofs.Common.{◌≡◌, ◌∙◌, ℕ, zero, suc, ◌≤◌, min, List, [], ◌∷◌, ◌++◌, length, drop, Option, Some, None, Result, Ok, Err, OnErr, refl, sym, ap, append_assoc, append-nil, arith, rules}
use Rattle.std.specs.Global.{Box}
use Rattle.pva_wire.specs.declared.order.Order.{Order}
use Rattle.pvd_type.specs.declared.shape.Scalar.{Scalar}
use Rattle.pvd_type.specs.declared.shape.Member.{Member}
use Rattle.pvd_type.specs.declared.shape.Shape.{BoundText, the_lemmas}
use Rattle.pvd_type.specs.Tree.{Tree, leaf, plain, bound_text, no_fields}
use Rattle.pvd_type.specs.View.{shape_view, members_view}
use Rattle.pvd_value.specs.Data.{Data, single, many, members, unset, selected, empty, carried, structs, unions, variants, Row, end, more, gap}
use Rattle.pvd_value.specs.View.{row_view, optional_view, carried_view}
use Rattle.pvd_value.specs.declared.value.PvValue.{PvValue}
use Rattle.pvd_codec.specs.Grammar.{row_length}
use Rattle.pvd_codec.specs.Written.{canonical_value, canonical_row, CanValue, CanRow}

-- what holds after any error holds after this one
pub on_err : {A E : Type 0} {P : Type 0} (r : Result A E) → P → OnErr r P
on_err (Ok x) p = tt
on_err (Err e) p = p

pub optional_count : (vs : List (Option (Box PvValue))) → row_length (optional_view vs) ≡ length vs
optional_count [] = refl
optional_count (None ∷ vs) = omega (arith, optional_count vs)
optional_count (Some v ∷ vs) = omega (arith, optional_count vs)

pub carried_count : (vs : List (Option (Box (Tree × PvValue)))) → row_length (carried_view vs) ≡ length vs
carried_count [] = refl
carried_count (None ∷ vs) = omega (arith, carried_count vs)
carried_count (Some v ∷ vs) = omega (arith, carried_count vs)

no_members : (o : Order) (vs : Row) → canonical_row o vs no_fields ≡ []
no_members o end = refl
no_members o (more v vs) = refl
no_members o (gap vs) = refl

can_no_members : (vs : Row) → CanRow vs no_fields
can_no_members end = tt
can_no_members (more v vs) = tt
can_no_members (gap vs) = tt

-- where the values or the members are over, nothing more is written
pub row_past : (o : Order) (vs : List PvValue) (ms : List Member) (i : ℕ) → min (length vs) (length ms) ≤ i → canonical_row o (row_view (drop i vs)) (members_view (drop i ms)) ≡ []
row_past o [] ms zero h = refl
row_past o [] ms (suc i) h = refl
row_past o (v ∷ vs) [] zero h = refl
row_past o (v ∷ vs) [] (suc i) h = no_members o (row_view (drop i vs))
row_past o (v ∷ vs) (m ∷ ms) zero h = absurd (omega arith)
row_past o (v ∷ vs) (m ∷ ms) (suc i) h = row_past o vs ms i (omega arith)

pub can_past : (vs : List PvValue) (ms : List Member) (i : ℕ) → min (length vs) (length ms) ≤ i → CanRow (row_view (drop i vs)) (members_view (drop i ms))
can_past [] ms zero h = tt
can_past [] ms (suc i) h = tt
can_past (v ∷ vs) [] zero h = tt
can_past (v ∷ vs) [] (suc i) h = can_no_members (row_view (drop i vs))
can_past (v ∷ vs) (m ∷ ms) zero h = absurd (omega arith)
can_past (v ∷ vs) (m ∷ ms) (suc i) h = can_past vs ms i (omega arith)

-- a count, and all elements behind it
pub list_done : (out start mid size all rest : List ℕ) → rest ≡ [] → out ++ rest ≡ mid ++ all → mid ≡ start ++ size → out ≡ start ++ (size ++ all)
list_done out start mid size all rest e same counted =
    sym (append-nil out) ∙ ap (λ (r : List ℕ). out ++ r) (sym e) ∙ same ∙ ap (λ (m : List ℕ). m ++ all) counted ∙ append_assoc start size all

-- one value more
pub value_done : (old new added rest all : List ℕ) → new ≡ old ++ added → old ++ (added ++ rest) ≡ all → new ++ rest ≡ all
value_done old new added rest all e same = ap (λ (n : List ℕ). n ++ rest) e ∙ append_assoc old added rest ∙ same

pub bound_shape : (n : ℕ) → shape_view (BoundText n) ≡ leaf (bound_text n)
bound_shape n = search (rules, the_lemmas)

-- a text of a bounded length is written as any text
pub bound_is : (o : Order) (s : Scalar) (n : ℕ) (v : Data) → canonical_value o v (leaf (plain s)) ≡ canonical_value o v (leaf (bound_text n))
bound_is o s n (single x) = refl
bound_is o s n (many xs) = refl
bound_is o s n (members vs) = refl
bound_is o s n unset = refl
bound_is o s n (selected k v) = refl
bound_is o s n empty = refl
bound_is o s n (carried t v) = refl
bound_is o s n (structs vs) = refl
bound_is o s n (unions vs) = refl
bound_is o s n (variants vs) = refl

pub can_bound : (s : Scalar) (n : ℕ) (v : Data) → CanValue v (leaf (plain s)) → CanValue v (leaf (bound_text n))
can_bound s n (single x) h = h
can_bound s n (many xs) h = h
can_bound s n (members vs) h = h
can_bound s n unset h = h
can_bound s n (selected k v) h = h
can_bound s n empty h = h
can_bound s n (carried t v) h = h
can_bound s n (structs vs) h = h
can_bound s n (unions vs) h = h
can_bound s n (variants vs) h = h

-- nothing is left to write
pub all_done : (out rest all : List ℕ) → rest ≡ [] → out ++ rest ≡ all → out ≡ all
all_done out rest all e same = sym (append-nil out) ∙ ap (λ (r : List ℕ). out ++ r) (sym e) ∙ same
