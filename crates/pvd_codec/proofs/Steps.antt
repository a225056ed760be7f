-- Reading a value part by part.
use Rattle.std.proofs.Common.{◌≡◌, ℕ, zero, suc, ◌-◌, ◌≤◌, ◌<◌, List, [], ◌∷◌, ◌++◌, length, drop, Option, Some, None, Result, Ok, Err, refl, sym, ap, subst, ◌∙◌, arith}
use Rattle.std.proofs.Math.ListN.{drop_of_length-le}
use Rattle.pva_wire.specs.declared.order.Order.{Order}
use Rattle.pva_wire.specs.Reading.{◌>>=◌, size_at}
use Rattle.pvd_type.specs.Tree.{Tree, leaf, variant_list, node, struct_list, union_list, Fields, no_fields, field}
use Rattle.pvd_type.specs.Numbers.{nodes, nodes_in}
use Rattle.pvd_type.specs.View.{members_view}
use Rattle.pvd_type.specs.declared.shape.Member.{Member}
use Rattle.pvd_value.specs.Data.{Data, selected, carried, structs, unions, variants, Row, more}
use Rattle.pvd_value.specs.View.{gaps_of, parcels_of, view, row_view}
use Rattle.pvd_value.specs.Fits.{member_at}
use Rattle.pvd_value.specs.declared.value.PvValue.{PvValue}
use Rattle.pvd_value.proofs.Rows.{joined, joined_push, joined_end}
use Rattle.pvd_desc.specs.Types.{Types}
use Rattle.pvd_desc.specs.declared.fault.DescCause as desc
use Rattle.pvd_desc.specs.declared.fault.DescStop as desc_stop
use Rattle.pvd_desc.specs.declared.fault.DescStop.TheVariants as desc_stops
use Rattle.pvd_desc.specs.Reading as desc_reads
use Rattle.pvd_desc.specs.Reading.{desc_at}
use Rattle.pvd_codec.specs.declared.reading.Element.TheVariants as elements
use Rattle.pvd_codec.specs.declared.fault.ValueCause.{ValueCause}
use Rattle.pvd_codec.specs.declared.fault.ValueCause.TheVariants.{BadSelector, TooNested}
use Rattle.pvd_codec.specs.declared.fault.ValueStop.{ValueStop}
use Rattle.pvd_codec.specs.declared.fault.ValueStop.TheVariants as stops
use Rattle.pvd_codec.specs.Reading.{Read, State, Parcel, Fails, described, described_stop, value_with, row_with, member_with, listed, element_with, union_by, variant_with, parcel_of, parcel_at, value_at}

pub nodes_at : (fs : Fields) (n : ℕ) (t : Tree) → member_at n fs ≡ Some t → nodes t ≤ nodes_in fs
nodes_at no_fields n t e = absurd cc
nodes_at (field name s fs) zero t e = let same : s ≡ t = cc in omega (arith, ap nodes same)
nodes_at (field name s fs) (suc n) t e = omega (arith, nodes_at fs n t e)

-- a row of values that were read, before those that are still read
abbrev pub with_row : (Row → Row) → Read State Row → Read State Row
with_row front read = read >>= λ x. Ok (front x.0, x.1)

-- ---- steps that fail and steps that do not

pub described_fails : {A : Type 0} (e : desc_stop.DescStop) (r : Result A (desc.DescCause × ℕ)) → desc_reads.Fails e r → Fails (described_stop e) (described r)
described_fails desc_stops.Memory r h = tt
described_fails (desc_stops.Fault c left) r h = rw h refl

pub bind_fails : {A B : Type 0} (e : ValueStop) (r : Result A (ValueCause × ℕ)) (f : A → Result B (ValueCause × ℕ)) → Fails e r → Fails e (r >>= f)
bind_fails stops.Memory r f h = tt
bind_fails (stops.Fault c left) r f h = rw h refl

pub along : (e : ValueStop) {A : Type 0} (r s : Result A (ValueCause × ℕ)) → r ≡ s → Fails e s → Fails e r
along e r s h fails = subst (λ x. Fails e x) (sym h) fails

-- what is done after two steps is done after the second
pub nested : {A B C E : Type 0} (r : Result A E) (f : A → Result B E) (g : B → Result C E) → ((r >>= f) >>= g) ≡ (r >>= λ x. f x >>= g)
nested (Ok x) f g = refl
nested (Err e) f g = refl

pub over : (r : Read State Data) (k : State → Read State Row) (f : Row → Row) → with_row f (r >>= λ v. k v.1 >>= λ vs. Ok (more v.0 vs.0, vs.1)) ≡ (r >>= λ v. with_row (λ r. f (more v.0 r)) (k v.1))
over (Ok x) k f = nested (k x.1) (λ vs. Ok (more x.0 vs.0, vs.1)) (λ y. Ok (f y.0, y.1))
over (Err e) k f = refl

module _ (order : Order) (parcel : State → Read State Parcel) where
  member_some : (fs : Fields) (n place left : ℕ) (st : State) (t : Tree) → member_at place fs ≡ Some t
      → member_with order parcel fs n place left st ≡ (value_with order parcel t st >>= λ v. Ok (selected n v.0, v.1))
  unfolding member_with
  member_some no_fields n place left st t e = absurd cc
  member_some (field name s fs) n zero left st t e = let same : s ≡ t = cc in ap (λ (x : Tree). value_with order parcel x st >>= λ v. Ok (selected n v.0, v.1)) same
  member_some (field name s fs) n (suc place) left st t e = member_some fs n place left st t e

  member_none : (fs : Fields) (n place left : ℕ) (st : State) → member_at place fs ≡ None → member_with order parcel fs n place left st ≡ Err (BadSelector n, left)
  unfolding member_with
  member_none no_fields n place left st e = refl
  member_none (field name s fs) n zero left st e = absurd cc
  member_none (field name s fs) n (suc place) left st e = member_none fs n place left st e

  -- ---- a union
  module _ (fs : Fields) (bytes rest : List ℕ) (types : Types) (n : ℕ) (size : size_at order bytes ≡ Ok (Some n, rest)) where
    abbrev union_here : Read State Data
    union_here = union_by order (λ k left s. member_with order parcel fs k k left s) (bytes, types)

    union_chosen : union_here ≡ member_with order parcel fs n n (length bytes) (rest, types)
    union_chosen = rw size refl

    pub union_bad : member_at n fs ≡ None → union_here ≡ Err (BadSelector n, length bytes)
    union_bad h = union_chosen ∙ member_none fs n n (length bytes) (rest, types) h

    pub union_fails : (e : ValueStop) (t : Tree) → member_at n fs ≡ Some t → Fails e (value_with order parcel t (rest, types)) → Fails e union_here
    union_fails e t h fails =
        along e union_here _ (union_chosen ∙ member_some fs n n (length bytes) (rest, types) t h) (bind_fails e (value_with order parcel t (rest, types)) (λ v. Ok (selected n v.0, v.1)) fails)

    pub union_is : (t : Tree) (v : Data) (after : State) → member_at n fs ≡ Some t → value_with order parcel t (rest, types) ≡ Ok (v, after) → union_here ≡ Ok (selected n v, after)
    union_is t v after h e = union_chosen ∙ member_some fs n n (length bytes) (rest, types) t h ∙ rw e refl

  -- ---- lists of structures and unions
  module _ (id : List ℕ) (fs : Fields) (st : State) where
    pub structs_fail : (e : ValueStop) → Fails e (listed order (element_with order parcel elements.Struct fs) st) → Fails e (value_with order parcel (node struct_list id fs) st)
    unfolding value_with
    structs_fail e h = bind_fails e (listed order (element_with order parcel elements.Struct fs) st) (λ vs. Ok (structs (gaps_of vs.0), vs.1)) h

    pub structs_are : (vs : List (Option Data)) (after : State) → listed order (element_with order parcel elements.Struct fs) st ≡ Ok (vs, after) → value_with order parcel (node struct_list id fs) st ≡ Ok (structs (gaps_of vs), after)
    unfolding value_with
    structs_are vs after h = ap (λ (r : Read State (List (Option Data))). r >>= λ vs. Ok (structs (gaps_of vs.0), vs.1)) h

    pub unions_fail : (e : ValueStop) → Fails e (listed order (element_with order parcel elements.Union fs) st) → Fails e (value_with order parcel (node union_list id fs) st)
    unfolding value_with
    unions_fail e h = bind_fails e (listed order (element_with order parcel elements.Union fs) st) (λ vs. Ok (unions (gaps_of vs.0), vs.1)) h

    pub unions_are : (vs : List (Option Data)) (after : State) → listed order (element_with order parcel elements.Union fs) st ≡ Ok (vs, after) → value_with order parcel (node union_list id fs) st ≡ Ok (unions (gaps_of vs), after)
    unfolding value_with
    unions_are vs after h = ap (λ (r : Read State (List (Option Data))). r >>= λ vs. Ok (unions (gaps_of vs.0), vs.1)) h

  pub variants_are : (st : State) (ps : List (Option (Tree × Data))) (after : State) → listed order parcel st ≡ Ok (ps, after) → value_with order parcel (leaf variant_list) st ≡ Ok (variants (parcels_of ps), after)
  unfolding value_with
  variants_are st ps after h = ap (λ (r : Read State (List (Option (Tree × Data)))). r >>= λ ps. Ok (variants (parcels_of ps.0), ps.1)) h

  pub variant_is : (st : State) (t : Tree) (v : Data) (after : State) → parcel st ≡ Ok (Some (t, v), after) → variant_with parcel st ≡ Ok (carried t v, after)
  variant_is st t v after h = rw h refl

  -- ---- a row
  module _ (front : Row) (name : List ℕ) (t : Tree) (fs : Fields) (st : State) where
    row_next : with_row (joined front) (row_with order parcel (field name t fs) st) ≡ (value_with order parcel t st >>= λ v. with_row (λ r. joined front (more v.0 r)) (row_with order parcel fs v.1))
    unfolding row_with
    row_next = over (value_with order parcel t st) (row_with order parcel fs) (joined front)

    pub row_ends : (e : ValueStop) (total : Read State Row) → Fails e (value_with order parcel t st) → with_row (joined front) (row_with order parcel (field name t fs) st) ≡ total → Fails e total
    row_ends e total fails so_far = along e total _ (sym so_far ∙ row_next) (bind_fails e (value_with order parcel t st) (λ v. with_row (λ r. joined front (more v.0 r)) (row_with order parcel fs v.1)) fails)

    pub row_goes : (v : Data) (after : State) (total : Read State Row) → value_with order parcel t st ≡ Ok (v, after) → with_row (joined front) (row_with order parcel (field name t fs) st) ≡ total
        → with_row (λ r. joined front (more v r)) (row_with order parcel fs after) ≡ total
    row_goes v after total e so_far = sym (row_next ∙ rw e refl) ∙ so_far

  pub row_done : (vs : List PvValue) (st : State) (total : Read State Row) → with_row (joined (row_view vs)) (row_with order parcel no_fields st) ≡ total → total ≡ Ok (row_view vs, st)
  unfolding row_with
  row_done vs st total so_far = sym so_far ∙ ap (λ (r : Row). Ok (r, st)) (joined_end vs)

pub row_push : (vs : List PvValue) (v : PvValue) (read : Read State Row) → with_row (joined (row_view (vs ++ v ∷ []))) read ≡ with_row (λ r. joined (row_view vs) (more (view v) r)) read
row_push vs v (Ok x) = ap (λ (r : Row). Ok (r, x.1)) (joined_push vs v x.0)
row_push vs v (Err e) = refl

pub none_left : (ms : List Member) (i : ℕ) → length ms ≤ i → members_view (drop i ms) ≡ no_fields
none_left ms i h = ap members_view (drop_of_length-le ms h)

module _ (order : Order) where
  -- ---- a variant
  pub parcel_none : (left : ℕ) (st : State) → left ≡ 0 → parcel_at left order st ≡ Err (TooNested, length st.0)
  unfolding parcel_at
  parcel_none zero st h = refl
  parcel_none (suc left) st h = absurd (omega (arith, h))

  pub parcel_some : (left : ℕ) (st : State) → 0 < left → parcel_at left order st ≡ (described (desc_at order st.1 st.0) >>= λ d. parcel_of (value_at (left - 1) order) d.0 (d.1, d.2))
  unfolding parcel_at
  parcel_some zero st h = absurd (omega (arith, h))
  parcel_some (suc left) st h = let k : left ≡ suc left - 1 = omega arith in ap (λ (n : ℕ). described (desc_at order st.1 st.0) >>= λ d. parcel_of (value_at n order) d.0 (d.1, d.2)) k

  pub parcel_fails : (e : ValueStop) (left : ℕ) (st : State) → 0 < left → Fails e (described (desc_at order st.1 st.0)) → Fails e (parcel_at left order st)
  parcel_fails e left st h fails = along e (parcel_at left order st) _ (parcel_some left st h) (bind_fails e (described (desc_at order st.1 st.0)) (λ d. parcel_of (value_at (left - 1) order) d.0 (d.1, d.2)) fails)

  module _ (left : ℕ) (st : State) (rest : List ℕ) (mid : Types) where
    pub parcel_null : 0 < left → desc_at order st.1 st.0 ≡ Ok (None, rest, mid) → parcel_at left order st ≡ Ok (None, (rest, mid))
    parcel_null h d = parcel_some left st h ∙ rw d refl

    pub parcel_is_of : (t : Tree) → 0 < left → desc_at order st.1 st.0 ≡ Ok (Some t, rest, mid) → parcel_at left order st ≡ (value_at (left - 1) order t (rest, mid) >>= λ v. Ok (Some (t, v.0), v.1))
    parcel_is_of t h d = parcel_some left st h ∙ rw d refl

    pub parcel_value_fails : (e : ValueStop) (t : Tree) → 0 < left → desc_at order st.1 st.0 ≡ Ok (Some t, rest, mid) → Fails e (value_at (left - 1) order t (rest, mid)) → Fails e (parcel_at left order st)
    parcel_value_fails e t h d fails = along e (parcel_at left order st) _ (parcel_is_of t h d) (bind_fails e (value_at (left - 1) order t (rest, mid)) (λ v. Ok (Some (t, v.0), v.1)) fails)

    pub parcel_is : (t : Tree) (v : Data) (after : State) → 0 < left → desc_at order st.1 st.0 ≡ Ok (Some t, rest, mid) → value_at (left - 1) order t (rest, mid) ≡ Ok (v, after) → parcel_at left order st ≡ Ok (Some (t, v), after)
    parcel_is t v after h d e = parcel_is_of t h d ∙ rw e refl
