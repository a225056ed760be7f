-- The values that were read are spelled at the front.
use Rattle.std.proofs.Common.{◌≡◌, ℕ, zero, suc, ◌-◌, Bool, true, false, List, [], ◌∷◌, ◌++◌, length, Option, Some, None, Result, Ok, Err, refl, sym, subst, ◌∙◌, arith, inl, inr}
use Rattle.pva_wire.specs.declared.order.Order.{Order}
use Rattle.pva_wire.specs.Spelling.{IsBytes, SpellsSize}
use Rattle.pva_wire.specs.Reading.{◌>>=◌, size_at, counted_at}
use Rattle.std.proofs.Math.Seq.{drop-append_seam}
use Rattle.pva_wire.proofs.Takes.{Takes, IsBytes-drop, ok_is, bind_ok}
use Rattle.pva_wire.proofs.Sizes.{size_takes}
use Rattle.pvd_type.specs.Tree.{Tree, leaf, node, Leaf, plain, bound_text, list, variant, variant_list, Kind, struct, union, struct_list, union_list, Fields, no_fields, field}
use Rattle.pvd_value.specs.Data.{Data, single, many, members, unset, selected, carried, structs, unions, variants, Row, end, more, gap}
use Rattle.pvd_value.specs.View.{gaps_of, parcels_of}
use Rattle.pvd_value.specs.Fits.{member_at}
use Rattle.pvd_desc.specs.declared.fault.DescCause.{DescCause}
use Rattle.pvd_desc.specs.Types.{Types}
use Rattle.pvd_desc.specs.Reading.{desc_at}
use Rattle.pvd_desc.specs.Grammar.{Desc}
use Rattle.pvd_desc.proofs.Parts.{joined}
use Rattle.pvd_desc.proofs.FoundThere.{found_there}
use Rattle.pvd_codec.specs.Grammar.{flag, Counted, on_some, row_length, SpellsGap, IsElement, Spells, SpellsRow, SpellsElements}
use Rattle.pvd_codec.specs.Reading.{Read, State, Parcel, lifted, described, steady, bool_at, scalar_at, bound_text_at, list_at, items_at, flagged_of, flagged, listed, present, union_of, union_by, variant_of, leaf_with, value_with, row_with, member_with, parcel_of, parcel_at, value_at}
use Rattle.pvd_codec.specs.Found.{ReadIsFull}
use Rattle.pvd_codec.proofs.FoundItems.{unlifted, bool_takes, scalar_takes, list_takes, bound_takes, count_taken}

undescribed : {A : Type 0} (r : Result A (DescCause × ℕ)) (x : A) → described r ≡ Ok x → r ≡ Ok x
undescribed (Ok y) x h = cc
undescribed (Err e) x h = absurd cc

-- a value that was taken from the front
abbrev pub ValueTaken : ℕ → Order → Tree → State → Data × State → Type 0
ValueTaken left o t st x = (text : List ℕ) × Spells left o x.0 t st.1 text x.1.1 × Takes st.0 text x.1.0

abbrev RowTaken : ℕ → Order → Fields → State → Row × State → Type 0
RowTaken left o fs st x = (text : List ℕ) × SpellsRow left o x.0 fs st.1 text x.1.1 × Takes st.0 text x.1.0

-- a list's element, with its flag
abbrev ElementTaken : {A : Type 0} → (A → Data) → ℕ → Order → Tree → State → Option A × State → Type 0
ElementTaken datum left o t st (None, after) = (text : List ℕ) × SpellsGap left o t st.1 text after.1 × Takes st.0 text after.0
ElementTaken datum left o t st (Some a, after) = (text : List ℕ) × IsElement t (datum a) × Spells left o (datum a) t st.1 text after.1 × Takes st.0 (flag true ∷ text) after.0

abbrev placed : {A : Type 0} → (A → Data) → Option A → Row → Row
placed datum None r = gap r
placed datum (Some a) r = more (datum a) r

-- a scalar, a text or a list
module _ (left : ℕ) (o : Order) (st : State) (x : Data × State) (fits : IsBytes st.0) where
  pub steady_scalar : (s : _) → steady st.1 (scalar_at o s st.0) ≡ Ok x → ValueTaken left o (leaf (plain s)) st x
  steady_scalar s h =
      let b = bind_ok (scalar_at o s st.0) (λ y. Ok (y.0, (y.1, st.1))) x h in
      let (text, y, is, kind, spelled, took) = scalar_takes o s st.0 b.0 fits b.1 in
      let same : (single y, (b.0.1, st.1)) ≡ x = (λ i. (sym is i, (b.0.1, st.1))) ∙ ok_is (b.0.0, (b.0.1, st.1)) x b.2 in
      subst (ValueTaken left o (leaf (plain s)) st) same (text, (kind, spelled, refl), took)

  pub steady_bound : (bound : ℕ) → steady st.1 (bound_text_at o bound st.0) ≡ Ok x → ValueTaken left o (leaf (bound_text bound)) st x
  steady_bound bound h =
      let b = bind_ok (bound_text_at o bound st.0) (λ y. Ok (y.0, (y.1, st.1))) x h in
      let (text, y, is, spelled, took) = bound_takes o bound st.0 b.0 fits b.1 in
      let same : (single y, (b.0.1, st.1)) ≡ x = (λ i. (sym is i, (b.0.1, st.1))) ∙ ok_is (b.0.0, (b.0.1, st.1)) x b.2 in
      subst (ValueTaken left o (leaf (bound_text bound)) st) same (text, (spelled, refl), took)

  pub steady_list : (s : _) (e : _) → steady st.1 (list_at o s e st.0) ≡ Ok x → ValueTaken left o (leaf (list s e)) st x
  steady_list s e h =
      let b = bind_ok (list_at o s e st.0) (λ y. Ok (y.0, (y.1, st.1))) x h in
      let (text, ys, is, kind, spelled, took) = list_takes o s e st.0 b.0 fits b.1 in
      let same : (many ys, (b.0.1, st.1)) ≡ x = (λ i. (sym is i, (b.0.1, st.1))) ∙ ok_is (b.0.0, (b.0.1, st.1)) x b.2 in
      subst (ValueTaken left o (leaf (list s e)) st) same (text, (kind, spelled, refl), took)

-- elements of a list, of which each is taken by the function given
module _ {A : Type 0} (datum : A → Data) (left : ℕ) (o : Order) (t : Tree) (one : State → Read State (Option A)) where
  abbrev EachTaken : Type 0
  EachTaken = (st : State) (x : Option A × State) → IsBytes st.0 → flagged one st ≡ Ok x → ElementTaken datum left o t st x

  abbrev ElementsTaken : ℕ → State → Row → State → Type 0
  ElementsTaken n st r after = (text : List ℕ) × SpellsElements left o r t st.1 text after.1 × (row_length r ≡ n) × Takes st.0 text after.0

  one_more : (n : ℕ) (st : State) (x : Option A × State) (r : Row) (after : State) → ElementTaken datum left o t st x → ElementsTaken n x.1 r after → ElementsTaken (suc n) st (placed datum x.0 r) after
  one_more n st (None, mid) r after (head, gapped, took) (tail, others, count, rest) =
      (head ++ tail, (head, tail, mid.1, gapped, others, refl), omega (arith, count), joined st.0 head tail mid.0 after.0 took rest)
  one_more n st (Some a, mid) r after (head, is, spelled, took) (tail, others, count, rest) =
      (flag true ∷ (head ++ tail), (head, tail, mid.1, is, spelled, others, refl), omega (arith, count), joined st.0 (flag true ∷ head) tail mid.0 after.0 took rest)

  module _ (row : List (Option A) → Row) (row_end : row [] ≡ end) (row_place : (y : Option A) (ys : List (Option A)) → row (y ∷ ys) ≡ placed datum y (row ys)) (each : EachTaken) where
    elements_taken : (n : ℕ) (st : State) (xs : List (Option A) × State) → IsBytes st.0 → items_at (flagged one) n st ≡ Ok xs → ElementsTaken n st (row xs.0) xs.1
    unfolding items_at
    elements_taken zero st xs fits h =
        let none : ElementsTaken 0 st (row []) st = subst (λ r. ElementsTaken 0 st r st) (sym row_end) ([], (refl, refl), refl, record { parts = refl; rest_fits = fits }) in
        subst (λ (y : List (Option A) × State). ElementsTaken 0 st (row y.0) y.1) (ok_is ([], st) xs h) none
    elements_taken (suc n) st xs fits h =
        let x = bind_ok (flagged one st) (λ x. items_at (flagged one) n x.1 >>= λ ys. Ok (x.0 ∷ ys.0, ys.1)) xs h in
        let first = each st x.0 fits x.1 in
        let ys = bind_ok (items_at (flagged one) n x.0.1) (λ ys. Ok (x.0.0 ∷ ys.0, ys.1)) xs x.2 in
        let others = elements_taken n x.0.1 ys.0 (after_fits st x.0 first) ys.1 in
        let all : ElementsTaken (suc n) st (row (x.0.0 ∷ ys.0.0)) ys.0.1 = subst (λ r. ElementsTaken (suc n) st r ys.0.1) (sym (row_place x.0.0 ys.0.0)) (one_more n st x.0 (row ys.0.0) ys.0.1 first others) in
        subst (λ (y : List (Option A) × State). ElementsTaken (suc n) st (row y.0) y.1) (ok_is (x.0.0 ∷ ys.0.0, ys.0.1) xs ys.2) all
      where
        after_fits : (st : State) (x : Option A × State) → ElementTaken datum left o t st x → IsBytes x.1.0
        after_fits st (None, mid) (head, gapped, took) = took.rest_fits
        after_fits st (Some a, mid) (head, is, spelled, took) = took.rest_fits

    pub listed_taken : (st : State) (xs : List (Option A) × State) → IsBytes st.0 → listed o one st ≡ Ok xs
        → (text : List ℕ) × Counted o (row_length (row xs.0)) (λ tail. SpellsElements left o (row xs.0) t st.1 tail xs.1.1) text × Takes st.0 text xs.1.0
    unfolding listed
    listed_taken st xs fits h =
        let n = bind_ok (lifted (counted_at o 1 st.0)) (λ n. items_at (flagged one) n.0 (n.1, st.1)) xs h in
        let (head, size, took) = count_taken o 1 st.0 n.0 fits (unlifted (counted_at o 1 st.0) n.0 n.1) in
        let (tail, others, count, rest) = elements_taken n.0.0 (n.0.1, st.1) xs took.rest_fits n.2 in
        (head ++ tail, (head, tail, subst (λ (k : ℕ). SpellsSize o head (Some k)) (sym count) size, others, refl), joined st.0 head tail n.0.1 xs.1.0 took rest)

gaps_place : (y : Option Data) (ys : List (Option Data)) → gaps_of (y ∷ ys) ≡ placed (λ d. d) y (gaps_of ys)
gaps_place None ys = refl
gaps_place (Some d) ys = refl

abbrev parcel_datum : Tree × Data → Data
parcel_datum p = carried p.0 p.1

-- what stands in a variant
abbrev pub ParcelTaken : ℕ → Order → State → Parcel × State → Type 0
ParcelTaken left o st x = (text : List ℕ) × Spells left o (variant_of x.0) (leaf variant) st.1 text x.1.1 × Takes st.0 text x.1.0

parcels_place : (y : Parcel) (ys : List Parcel) → parcels_of (y ∷ ys) ≡ placed parcel_datum y (parcels_of ys)
parcels_place None ys = refl
parcels_place (Some p) ys = refl

-- an element of a list of structures or unions
module _ (left : ℕ) (o : Order) (k : Kind) (id : List ℕ) (fs : Fields) (read : State → Read State Data) (good : (st : State) (x : Data × State) → IsBytes st.0 → read st ≡ Ok x → ValueTaken left o (node k id fs) st x) where
  node_by_flag : (b : Bool) (st : State) (rest : List ℕ) (x : Option Data × State) → Takes st.0 (flag b ∷ []) rest → flagged_of (λ s. present (read s)) b (rest, st.1) ≡ Ok x → ElementTaken (λ d. d) left o (node k id fs) st x
  node_by_flag false st rest x took h = subst (ElementTaken (λ d. d) left o (node k id fs) st) (ok_is (None, (rest, st.1)) x h) (flag false ∷ [], (refl, refl), took)
  node_by_flag true st rest x took h =
      let v = bind_ok (read (rest, st.1)) (λ v. Ok (Some v.0, v.1)) x h in
      let w = good (rest, st.1) v.0 took.rest_fits v.1 in
      subst (ElementTaken (λ d. d) left o (node k id fs) st) (ok_is (Some v.0.0, v.0.1) x v.2) (w.0, tt, w.1, joined st.0 (flag true ∷ []) w.0 rest v.0.1.0 took w.2)

  pub node_flagged : (st : State) (x : Option Data × State) → IsBytes st.0 → flagged (λ s. present (read s)) st ≡ Ok x → ElementTaken (λ d. d) left o (node k id fs) st x
  unfolding flagged
  node_flagged st x fits h =
      let b = bind_ok (bool_at st.0) (λ b. flagged_of (λ s. present (read s)) b.0 (b.1, st.1)) x h in
      let (text, is, took) = bool_takes st.0 b.0 fits b.1 in
      node_by_flag b.0.0 st b.0.1 x (subst (λ (t : List ℕ). Takes st.0 t b.0.1) is took) b.2

module _ (left : ℕ) (o : Order) (parcel : State → Read State Parcel) (good : (st : State) (x : Parcel × State) → IsBytes st.0 → parcel st ≡ Ok x → ParcelTaken left o st x) where
  -- an element of a list of variants
  parcel_taken : (st : State) (rest : List ℕ) (x : Parcel × State) → Takes st.0 (flag true ∷ []) rest → ParcelTaken left o (rest, st.1) x → ElementTaken parcel_datum left o (leaf variant) st x
  parcel_taken st rest (None, after) took (text, none, others) = (flag true ∷ text, inr (text, none.0, none.1, refl), joined st.0 (flag true ∷ []) text rest after.0 took others)
  parcel_taken st rest (Some p, after) took (text, spelled, others) = (text, tt, spelled, joined st.0 (flag true ∷ []) text rest after.0 took others)

  parcel_by_flag : (b : Bool) (st : State) (rest : List ℕ) (x : Parcel × State) → Takes st.0 (flag b ∷ []) rest → flagged_of parcel b (rest, st.1) ≡ Ok x → ElementTaken parcel_datum left o (leaf variant) st x
  parcel_by_flag false st rest x took h = subst (ElementTaken parcel_datum left o (leaf variant) st) (ok_is (None, (rest, st.1)) x h) (flag false ∷ [], inl (refl, refl), took)
  parcel_by_flag true st rest x took h = parcel_taken st rest x took (good (rest, st.1) x took.rest_fits h)

  parcel_flagged : (st : State) (x : Parcel × State) → IsBytes st.0 → flagged parcel st ≡ Ok x → ElementTaken parcel_datum left o (leaf variant) st x
  unfolding flagged
  parcel_flagged st x fits h =
      let b = bind_ok (bool_at st.0) (λ b. flagged_of parcel b.0 (b.1, st.1)) x h in
      let (text, is, took) = bool_takes st.0 b.0 fits b.1 in
      parcel_by_flag b.0.0 st b.0.1 x (subst (λ (t : List ℕ). Takes st.0 t b.0.1) is took) b.2

  leaf_takes : (l : Leaf) (st : State) (x : Data × State) → IsBytes st.0 → leaf_with o parcel l st ≡ Ok x → ValueTaken left o (leaf l) st x
  leaf_takes (plain s) st x fits h = steady_scalar left o st x fits s h
  leaf_takes (bound_text bound) st x fits h = steady_bound left o st x fits bound h
  leaf_takes (list s e) st x fits h = steady_list left o st x fits s e h
  leaf_takes variant st x fits h =
      let b = bind_ok (parcel st) (λ p. Ok (variant_of p.0, p.1)) x h in
      subst (ValueTaken left o (leaf variant) st) (ok_is (variant_of b.0.0, b.0.1) x b.2) (good st b.0 fits b.1)
  leaf_takes variant_list st x fits h =
      let b = bind_ok (listed o parcel st) (λ ps. Ok (variants (parcels_of ps.0), ps.1)) x h in
      subst (ValueTaken left o (leaf variant_list) st) (ok_is (variants (parcels_of b.0.0), b.0.1) x b.2) (listed_taken parcel_datum left o (leaf variant) parcel parcels_of refl parcels_place parcel_flagged st b.0 fits b.1)

  abbrev MemberTaken : Fields → ℕ → ℕ → State → Data × State → Type 0
  MemberTaken fs n place st x = (tail : List ℕ) × (v : Data) × (x.0 ≡ selected n v) × on_some (λ t. Spells left o v t st.1 tail x.1.1) (member_at place fs) × Takes st.0 tail x.1.0

  abbrev Rows : Fields → Type 0
  Rows fs = (st : State) (r : Row × State) → IsBytes st.0 → row_with o parcel fs st ≡ Ok r → RowTaken left o fs st r

  abbrev Members : Fields → Type 0
  Members fs = (k from : ℕ) (st : State) (x : Data × State) → IsBytes st.0 → member_with o parcel fs k k from st ≡ Ok x → MemberTaken fs k k st x

  struct_taken : (id : List ℕ) (fs : Fields) → Rows fs → (st : State) (x : Data × State) → IsBytes st.0 → (row_with o parcel fs st >>= λ r. Ok (members r.0, r.1)) ≡ Ok x → ValueTaken left o (node struct id fs) st x
  struct_taken id fs rows st x fits h =
      let r = bind_ok (row_with o parcel fs st) (λ r. Ok (members r.0, r.1)) x h in
      subst (ValueTaken left o (node struct id fs) st) (ok_is (members r.0.0, r.0.1) x r.2) (rows st r.0 fits r.1)

  union_by_size : (id : List ℕ) (fs : Fields) → Members fs → (s : Option ℕ) (st : State) (rest text : List ℕ) (x : Data × State) → SpellsSize o text s → Takes st.0 text rest
      → union_of (λ k. member_with o parcel fs k k (length st.0) (rest, st.1)) s (rest, st.1) ≡ Ok x → ValueTaken left o (node union id fs) st x
  union_by_size id fs takes None st rest text x size took h = subst (ValueTaken left o (node union id fs) st) (ok_is (unset, (rest, st.1)) x h) (text, (size, refl), took)
  union_by_size id fs takes (Some k) st rest text x size took h =
      let (tail, v, is, spelled, others) = takes k (length st.0) (rest, st.1) x took.rest_fits h in
      subst (λ (d : Data). ValueTaken left o (node union id fs) st (d, x.1)) (sym is) (text ++ tail, (text, tail, size, spelled, refl), joined st.0 text tail rest x.1.0 took others)

  union_taken : (id : List ℕ) (fs : Fields) → Members fs → (st : State) (x : Data × State) → IsBytes st.0 → union_by o (λ n from s. member_with o parcel fs n n from s) st ≡ Ok x → ValueTaken left o (node union id fs) st x
  union_taken id fs takes st x fits h =
      let n = bind_ok (lifted (size_at o st.0)) (λ n. union_of (λ k. member_with o parcel fs k k (length st.0) (n.1, st.1)) n.0 (n.1, st.1)) x h in
      let (text, size, took) = size_takes o st.0 n.0 fits (unlifted (size_at o st.0) n.0 n.1) in
      union_by_size id fs takes n.0.0 st n.0.1 text x size took n.2

  structs_taken : (id : List ℕ) (fs : Fields) → Rows fs → (st : State) (x : Data × State) → IsBytes st.0
      → (listed o (λ s. present (row_with o parcel fs s >>= λ r. Ok (members r.0, r.1))) st >>= λ vs. Ok (structs (gaps_of vs.0), vs.1)) ≡ Ok x → ValueTaken left o (node struct_list id fs) st x
  structs_taken id fs rows st x fits h =
      let b = bind_ok (listed o (λ s. present (row_with o parcel fs s >>= λ r. Ok (members r.0, r.1))) st) (λ vs. Ok (structs (gaps_of vs.0), vs.1)) x h in
      subst (ValueTaken left o (node struct_list id fs) st) (ok_is (structs (gaps_of b.0.0), b.0.1) x b.2)
      (listed_taken (λ d. d) left o (node struct id fs) (λ s. present (row_with o parcel fs s >>= λ r. Ok (members r.0, r.1))) gaps_of refl gaps_place
      (node_flagged left o struct id fs (λ s. row_with o parcel fs s >>= λ r. Ok (members r.0, r.1)) (struct_taken id fs rows)) st b.0 fits b.1)

  unions_taken : (id : List ℕ) (fs : Fields) → Members fs → (st : State) (x : Data × State) → IsBytes st.0
      → (listed o (λ s. present (union_by o (λ n from s. member_with o parcel fs n n from s) s)) st >>= λ vs. Ok (unions (gaps_of vs.0), vs.1)) ≡ Ok x → ValueTaken left o (node union_list id fs) st x
  unions_taken id fs takes st x fits h =
      let b = bind_ok (listed o (λ s. present (union_by o (λ n from s. member_with o parcel fs n n from s) s)) st) (λ vs. Ok (unions (gaps_of vs.0), vs.1)) x h in
      subst (ValueTaken left o (node union_list id fs) st) (ok_is (unions (gaps_of b.0.0), b.0.1) x b.2)
      (listed_taken (λ d. d) left o (node union id fs) (λ s. present (union_by o (λ n from s. member_with o parcel fs n n from s) s)) gaps_of refl gaps_place
      (node_flagged left o union id fs (λ s. union_by o (λ n from s. member_with o parcel fs n n from s) s) (union_taken id fs takes)) st b.0 fits b.1)

  mutual
    unfolding value_with row_with member_with

    pub value_takes : (t : Tree) (st : State) (x : Data × State) → IsBytes st.0 → value_with o parcel t st ≡ Ok x → ValueTaken left o t st x
    value_takes (leaf l) st x fits h = leaf_takes l st x fits h
    value_takes (node struct id fs) st x fits h = struct_taken id fs (λ s r f e. row_takes fs s r f e) st x fits h
    value_takes (node union id fs) st x fits h = union_taken id fs (λ k from s y f e. member_takes fs k k from s y f e) st x fits h
    value_takes (node struct_list id fs) st x fits h = structs_taken id fs (λ s r f e. row_takes fs s r f e) st x fits h
    value_takes (node union_list id fs) st x fits h = unions_taken id fs (λ k from s y f e. member_takes fs k k from s y f e) st x fits h

    row_takes : (fs : Fields) (st : State) (r : Row × State) → IsBytes st.0 → row_with o parcel fs st ≡ Ok r → RowTaken left o fs st r
    row_takes no_fields st r fits h = subst (RowTaken left o no_fields st) (ok_is (end, st) r h) ([], (refl, refl), record { parts = refl; rest_fits = fits })
    row_takes (field name t fs) st r fits h =
        let v = bind_ok (value_with o parcel t st) (λ v. row_with o parcel fs v.1 >>= λ vs. Ok (more v.0 vs.0, vs.1)) r h in
        let first = value_takes t st v.0 fits v.1 in
        let vs = bind_ok (row_with o parcel fs v.0.1) (λ vs. Ok (more v.0.0 vs.0, vs.1)) r v.2 in
        let others = row_takes fs v.0.1 vs.0 first.2.rest_fits vs.1 in
        subst (RowTaken left o (field name t fs) st) (ok_is (more v.0.0 vs.0.0, vs.0.1) r vs.2)
        (first.0 ++ others.0, (first.0, others.0, v.0.1.1, first.1, others.1, refl), joined st.0 first.0 others.0 v.0.1.0 vs.0.1.0 first.2 others.2)

    member_takes : (fs : Fields) (n place from : ℕ) (st : State) (x : Data × State) → IsBytes st.0 → member_with o parcel fs n place from st ≡ Ok x → MemberTaken fs n place st x
    member_takes no_fields n place from st x fits h = absurd cc
    member_takes (field name t fs) n zero from st x fits h =
        let v = bind_ok (value_with o parcel t st) (λ v. Ok (selected n v.0, v.1)) x h in
        let w = value_takes t st v.0 fits v.1 in
        subst (MemberTaken (field name t fs) n zero st) (ok_is (selected n v.0.0, v.0.1) x v.2) (w.0, v.0.0, refl, w.1, w.2)
    member_takes (field name t fs) n (suc place) from st x fits h = member_takes fs n place from st x fits h

behind : (front rest : List ℕ) → IsBytes (front ++ rest) → IsBytes rest
behind front rest fits = subst IsBytes (drop-append_seam front rest) (IsBytes-drop (length front) (front ++ rest) fits)

pub parcel_takes : (left : ℕ) (o : Order) (st : State) (x : Parcel × State) → IsBytes st.0 → parcel_at left o st ≡ Ok x → ParcelTaken left o st x
unfolding parcel_at
parcel_takes zero o st x fits h = absurd cc
parcel_takes (suc left) o st x fits h =
    let d = bind_ok (described (desc_at o st.1 st.0)) (λ d. parcel_of (value_with o (parcel_at left o)) d.0 (d.1, d.2)) x h in
    let (front, desc, parts) = found_there o st.1 st.0 d.0.0 d.0.1 d.0.2 fits (undescribed (desc_at o st.1 st.0) d.0 d.1) in
    by_type (parcel_takes left o) d.0.0 d.0.1 d.0.2 front desc (record { parts = parts; rest_fits = behind front d.0.1 (subst IsBytes parts fits) }) d.2
  where
    by_type : ((st : State) (x : Parcel × State) → IsBytes st.0 → parcel_at left o st ≡ Ok x → ParcelTaken left o st x) → (t : Option Tree) (rest : List ℕ) (mid : Types) (front : List ℕ) → Desc o st.1 t front mid → Takes st.0 front rest → parcel_of (value_with o (parcel_at left o)) t (rest, mid) ≡ Ok x → ParcelTaken (suc left) o st x
    by_type inner None rest mid front desc took h = subst (ParcelTaken (suc left) o st) (ok_is (None, (rest, mid)) x h) (front, (omega arith, desc), took)
    by_type inner (Some t) rest mid front desc took h =
        let v = bind_ok (value_with o (parcel_at left o) t (rest, mid)) (λ v. Ok (Some (t, v.0), v.1)) x h in
        let w = value_takes left o (parcel_at left o) inner t (rest, mid) v.0 took.rest_fits v.1 in
        let one_less : left ≡ suc left - 1 = omega arith in
        subst (ParcelTaken (suc left) o st) (ok_is (Some (t, v.0.0), v.0.1) x v.2)
        (front ++ w.0, (front, w.0, mid, omega arith, desc, subst (λ (k : ℕ). Spells k o v.0.0 t mid w.0 v.0.1.1) one_less w.1, refl), joined st.0 front w.0 rest v.0.1.0 took w.2)

pub full_takes : (o : Order) (t : Tree) (st : State) (x : Data × State) → IsBytes st.0 → value_at 16 o t st ≡ Ok x → ValueTaken 16 o t st x
full_takes o t st x fits h = value_takes 16 o (parcel_at 16 o) (parcel_takes 16 o) t st x fits h

pub read_is_full : ReadIsFull
read_is_full o before t bytes v rest after fits h =
    let (front, spelled, took) = full_takes o t (bytes, before) (v, (rest, after)) fits h in
    (front, spelled, took.parts)
