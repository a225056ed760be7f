-- Objects in the order in which they are read.
use Rattle.std.proofs.Common.{◌≡◌, ℕ, suc, ◌+◌, ◌<◌, List, length, drop, get_or, refl, sym, ap, ◌∙◌, arith}
use Rattle.std.specs.Borrow.{Bor}
use Rattle.std.specs.BTreeMap.{insert_entry}
use Rattle.std.specs.Ordering.{nat_cmp, ordering_then}
use Rattle.json.specs.Json.{Json, member}
use Rattle.json.specs.Value.{value_view, members_view}
use Rattle.json.specs.declared.value.Value.{Value}
use Rattle.group_defs.specs.Order.{text_cmp, Place, place_of, place_cmp, by_name_after, in_order_after}
use Rattle.group_defs.specs.Shown.{shown_names, shown_places}
use Rattle.group_defs.proofs.Maps.{seen-insert}
use Rattle.group_defs.proofs.Passing.{from_place}

abbrev Text : Type 0
Text = Bor (List ℕ)

module _ {A : Type 0} (xs : List (Text × Value A)) (i : ℕ) (x : Text × Value A) (inside : i < length xs) (here : x ≡ get_or xs i x) where
  -- the members from a place on
  pub members_from : members_view (drop i xs) ≡ member x.0.now (value_view x.1) (members_view (drop (i + 1) xs))
  members_from = ap (λ (ys : List (Text × Value A)). members_view ys) (from_place xs i x inside here)

  pub by_name_more : (es fs : List (Text × Bor (Value A))) (v : Bor (Value A)) (whole : List (List ℕ × Json)) → v.now ≡ x.1
      → fs ≡ insert_entry (λ a b. text_cmp a.now b.now) es x.0 v → by_name_after (shown_names es) (members_view (drop i xs)) ≡ whole
      → by_name_after (shown_names fs) (members_view (drop (i + 1) xs)) ≡ whole
  by_name_more es fs v whole seen put same =
      let put_in : shown_names fs ≡ insert_entry text_cmp (shown_names es) x.0.now (value_view x.1) =
      ap shown_names put ∙ seen-insert (λ (k : Text). k.now) (λ (v : Bor (Value A)). value_view v.now) (λ a b. text_cmp a.now b.now) text_cmp (λ a b. refl) es x.0 v
      ∙ ap (λ (y : Value A). insert_entry text_cmp (shown_names es) x.0.now (value_view y)) seen in
      ap (λ (ys : List (List ℕ × Json)). by_name_after ys (members_view (drop (i + 1) xs))) put_in ∙ sym (ap (by_name_after (shown_names es)) members_from) ∙ same

  pub in_order_more : (es fs : List ((Text × ℕ) × Bor (Value A))) (n : ℕ) (v : Bor (Value A)) (whole : List (Place × Json)) → v.now ≡ x.1 → (x.0.now, n) ≡ place_of i x.0.now
      → fs ≡ insert_entry (λ a b. ordering_then (text_cmp a.0.now b.0.now) (nat_cmp a.1 b.1)) es (x.0, n) v → in_order_after i (shown_places es) (members_view (drop i xs)) ≡ whole
      → in_order_after (i + 1) (shown_places fs) (members_view (drop (i + 1) xs)) ≡ whole
  in_order_more es fs n v whole seen placed put same =
      let put_in : shown_places fs ≡ insert_entry place_cmp (shown_places es) (place_of i x.0.now) (value_view x.1) =
      ap shown_places put
      ∙ seen-insert (λ (k : Text × ℕ). (k.0.now, k.1)) (λ (v : Bor (Value A)). value_view v.now) (λ a b. ordering_then (text_cmp a.0.now b.0.now) (nat_cmp a.1 b.1)) place_cmp (λ a b. refl) es (x.0, n) v
      ∙ ap (λ (y : Value A). insert_entry place_cmp (shown_places es) (x.0.now, n) (value_view y)) seen
      ∙ ap (λ (p : Place). insert_entry place_cmp (shown_places es) p (value_view x.1)) placed in
      let next : suc i ≡ i + 1 = omega arith in
      ap (λ (ys : List (Place × Json)). in_order_after (i + 1) ys (members_view (drop (i + 1) xs))) put_in
      ∙ sym (ap (λ (k : ℕ). in_order_after k (insert_entry place_cmp (shown_places es) (place_of i x.0.now) (value_view x.1)) (members_view (drop (i + 1) xs))) next)
      ∙ sym (ap (in_order_after i (shown_places es)) members_from) ∙ same
