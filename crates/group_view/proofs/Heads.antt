-- The leaf that a put writes: the first that a member shows.
use Rattle.std.proofs.Common.{◌≡◌, ℕ, zero, suc, ◌+◌, ◌-◌, Bool, true, false, cond, eqb, List, [], ◌∷◌, ◌++◌, length, map, Option, None, Some, option_map, refl, sym, ap, ◌∙◌, subst, arith, inl, inr}
use Rattle.std.specs.Prelude.{⊤, slice_get}
use Rattle.std.proofs.lemmas.Bool.{false≢true, cases_lt}
use Rattle.pvd_type.specs.Numbers.{numbered, numbered_fields, is_leaf}
use Rattle.pvd_type.specs.SameLaws.{both}
use Rattle.pvd_type.specs.Tree.{Tree, leaf, node, struct, union, struct_list, union_list, Fields, no_fields, field}
use Rattle.pvd_value.specs.Data.{Data, Row, end, more, gap}
use Rattle.pvd_value.specs.Fits.{fits_of, row_fits}
use Rattle.pvd_value.specs.Leaves.{known, row_in, slots, row_slots, leaf_at}
use Rattle.pvd_value.proofs.Slots.{row_of_struct, slots_length}
use Rattle.rec_kinds.specs.declared.kind.Kind.{Kind}
use Rattle.rec_kinds.specs.declared.kind.Kind.TheVariants.{Longin, Longout, Int64in, Int64out, Bi, Bo, Mbbi, Mbbo, Stringin, Stringout, Waveform}
use Rattle.rec_kinds.specs.declared.element.Element.{Element}
use Rattle.rec_fields.specs.Plain.{value_tree}
use Rattle.rec_fields.specs.Types.{tree_of}
use Rattle.group_view.specs.Leaves.{sources, sources_among, source_at, member_in, is_number, is_of, places}
use Rattle.group_view.specs.Slots.{Slot, shows, level, Slots, no_slots, slot, EachShown, EachOfShown}
use Rattle.group_view.specs.Sources.{Source}
use Rattle.group_view.specs.Types.{source_tree, slot_tree, slot_fields}
use Rattle.group_view.proofs.Depending.{slice_left, slice_right, length_sources}

-- the place of the first that passes
abbrev pub found : {A : Type 0} → (A → Bool) → List A → Option ℕ
found test [] = None
found test (x ∷ xs) = cond (test x) (Some 0) (option_map suc (found test xs))

abbrev moved : ℕ → Option ℕ → Option ℕ
moved k o = option_map (λ j. k + j) o

moved_zero : (o : Option ℕ) → moved 0 o ≡ o
moved_zero None = refl
moved_zero (Some j) = ap Some (omega arith)

moved_suc : (k : ℕ) (o : Option ℕ) → moved (suc k) o ≡ moved k (option_map suc o)
moved_suc k None = refl
moved_suc k (Some j) = ap Some (omega arith)

places_head : {A : Type 0} (test : A → Bool) (k : ℕ) (xs : List A) → slice_get (places test k xs) 0 ≡ moved k (found test xs)
places_head test k [] = refl
places_head test k (x ∷ xs) =
    elim (test x) as (λ b. slice_get (cond b (k ∷ places test (suc k) xs) (places test (suc k) xs)) 0 ≡ moved k (cond b (Some 0) (option_map suc (found test xs)))) [
      | true ↦ ap Some (omega arith)
      | false ↦ places_head test (suc k) xs ∙ moved_suc k (found test xs)
    ]

pub head_is : {A : Type 0} (test : A → Bool) (xs : List A) → slice_get (places test 0 xs) 0 ≡ found test xs
head_is test xs = places_head test 0 xs ∙ moved_zero (found test xs)

abbrev later : ℕ → Option ℕ → Option ℕ → Option ℕ
later n (Some j) o = Some j
later n None o = moved n o

found_append : {A : Type 0} (test : A → Bool) (xs ys : List A) → found test (xs ++ ys) ≡ later (length xs) (found test xs) (found test ys)
found_append test [] ys = sym (moved_zero (found test ys))
found_append test (x ∷ xs) ys =
    elim (test x) as (λ b. cond b (Some 0) (option_map suc (found test (xs ++ ys))) ≡ later (suc (length xs)) (cond b (Some 0) (option_map suc (found test xs))) (found test ys)) [
      | true ↦ refl
      | false ↦ ap (option_map suc) (found_append test xs ys) ∙ past (length xs) (found test xs) (found test ys)
    ]
  where
    past : (n : ℕ) (o p : Option ℕ) → option_map suc (later n o p) ≡ later (suc n) (option_map suc o) p
    past n (Some j) p = refl
    past n None None = refl
    past n None (Some j) = ap Some (omega arith)

slice_kept : {A : Type 0} (xs ys : List A) (j : ℕ) (x : A) → slice_get xs j ≡ Some x → slice_get (xs ++ ys) j ≡ Some x
slice_kept [] ys j x h = absurd (cc)
slice_kept (y ∷ xs) ys zero x h = h
slice_kept (y ∷ xs) ys (suc j) x h = slice_kept xs ys j x h

-- ---- under the first number of a member stands this type

module _ (head : Tree) where
  abbrev pub IsHead : Option ℕ → List Tree → Type 0
  IsHead None ts = ⊤
  IsHead (Some j) ts = slice_get ts j ≡ Some head

  head_moved : (n : ℕ) (o : Option ℕ) (us ts : List Tree) → length us ≡ n → IsHead o ts → IsHead (moved n o) (us ++ ts)
  head_moved n None us ts long h = tt
  head_moved n (Some j) us ts long h = ap (λ k. slice_get (us ++ ts) (k + j)) (sym long) ∙ slice_right us ts j ∙ h

  head_later : (n : ℕ) (o p : Option ℕ) (us ts : List Tree) → length us ≡ n → IsHead o us → IsHead p ts → IsHead (later n o p) (us ++ ts)
  head_later n (Some j) p us ts long h k = slice_kept us ts j head h
  head_later n None p us ts long h k = head_moved n p us ts long k

  head_suc : (t : Tree) (o : Option ℕ) (ts : List Tree) → IsHead o ts → IsHead (option_map suc o) (t ∷ ts)
  head_suc t None ts h = tt
  head_suc t (Some j) ts h = h

module _ (n : ℕ) (s : Source) where
  found_map : (ts : List Tree) → found (is_of n) (map (source_at s) ts) ≡ cond (eqb s.member n) (found is_leaf ts) None
  found_map [] = elim (eqb s.member n) as (λ e. ◌≡◌ {A = Option ℕ} None (cond e None None)) [ true ↦ refl | false ↦ refl ]
  found_map (t ∷ ts) =
      let rest = found (is_of n) (map (source_at s) ts) in
      let leaves = found is_leaf ts in
      elim (is_leaf t) as (λ l. cond (is_number n (member_in (cond l (Some s) None))) (Some 0) (option_map suc rest) ≡ cond (eqb s.member n) (cond l (Some 0) (option_map suc leaves)) None) [
        | true ↦ elim (eqb s.member n) as (λ e. rest ≡ cond e leaves None → cond e (Some 0) (option_map suc rest) ≡ cond e (Some 0) None) [
          | true ↦ λ _. refl
          | false ↦ λ ih. ap (option_map suc) ih
        ] (found_map ts)
        | false ↦ elim (eqb s.member n) as (λ e. rest ≡ cond e leaves None → option_map suc rest ≡ cond e (option_map suc leaves) None) [
          | true ↦ λ ih. ap (option_map suc) ih
          | false ↦ λ ih. ap (option_map suc) ih
        ] (found_map ts)
      ]

module _ (n : ℕ) (head : Tree) where
  abbrev pub HasHead : Source → Type 0
  HasHead s = eqb s.member n ≡ true → IsHead head (found is_leaf (numbered (source_tree s))) (numbered (source_tree s))

  mutual
    pub slot_head : (t : Slot) → EachShown HasHead t → IsHead head (found (is_of n) (sources t)) (numbered (slot_tree t))
    slot_head (shows s) h =
        subst (λ o. IsHead head o (numbered (source_tree s))) (sym (found_map n s (numbered (source_tree s))))
        (elim (eqb s.member n) as (λ e. (e ≡ true → IsHead head (found is_leaf (numbered (source_tree s))) (numbered (source_tree s)))
        → IsHead head (cond e (found is_leaf (numbered (source_tree s))) None) (numbered (source_tree s))) [
          | true ↦ λ has. has refl
          | false ↦ λ has. tt
        ] h)
    slot_head (level id ss) h = head_suc head (node struct id (slot_fields ss)) (found (is_of n) (sources_among ss)) (numbered_fields (slot_fields ss)) (slots_head ss h)

    pub slots_head : (ss : Slots) → EachOfShown HasHead ss → IsHead head (found (is_of n) (sources_among ss)) (numbered_fields (slot_fields ss))
    slots_head no_slots h = tt
    slots_head (slot name s ss) h =
        subst (λ o. IsHead head o (numbered (slot_tree s) ++ numbered_fields (slot_fields ss))) (sym (found_append (is_of n) (sources s) (sources_among ss)))
        (head_later head (length (sources s)) (found (is_of n) (sources s)) (found (is_of n) (sources_among ss)) (numbered (slot_tree s)) (numbered_fields (slot_fields ss))
        (sym (length_sources s)) (slot_head s h.0) (slots_head ss h.1))

-- the first leaf of a record's structure, or its value by itself, has the type of its value
pub whole_head : (kind : Kind) (ftvl : Element) → IsHead (value_tree kind ftvl) (found is_leaf (numbered (tree_of kind ftvl))) (numbered (tree_of kind ftvl))
whole_head Longin ftvl = refl
whole_head Longout ftvl = refl
whole_head Int64in ftvl = refl
whole_head Int64out ftvl = refl
whole_head Bi ftvl = refl
whole_head Bo ftvl = refl
whole_head Mbbi ftvl = refl
whole_head Mbbo ftvl = refl
whole_head Stringin ftvl = refl
whole_head Stringout ftvl = refl
whole_head Waveform ftvl = refl

pub plain_head : (kind : Kind) (ftvl : Element) → IsHead (value_tree kind ftvl) (found is_leaf (numbered (value_tree kind ftvl))) (numbered (value_tree kind ftvl))
plain_head Longin ftvl = refl
plain_head Longout ftvl = refl
plain_head Int64in ftvl = refl
plain_head Int64out ftvl = refl
plain_head Bi ftvl = refl
plain_head Bo ftvl = refl
plain_head Mbbi ftvl = refl
plain_head Mbbo ftvl = refl
plain_head Stringin ftvl = refl
plain_head Stringout ftvl = refl
plain_head Waveform ftvl = refl

-- ---- the leaf of a value that fits

lone_fits : (left : ℕ) (t : Tree) (v : Data) (k : ℕ) (lt : Tree) (d : Data) → fits_of left v t ≡ true → slice_get (t ∷ []) k ≡ Some lt → known (slice_get (Some v ∷ []) k) ≡ Some d
    → fits_of left d lt ≡ true
lone_fits left t v zero lt d h there is =
    let same : t ≡ lt = cc in
    let mine : v ≡ d = cc in
    subst (λ (u : Tree). fits_of left d u ≡ true) same (subst (λ (w : Data). fits_of left w t ≡ true) mine h)
lone_fits left t v (suc k) lt d h there is = absurd (cc)

mutual
  pub leaf_fits : (left : ℕ) (t : Tree) (v : Data) (k : ℕ) (lt : Tree) (d : Data) → fits_of left v t ≡ true → slice_get (numbered t) k ≡ Some lt → leaf_at k t v ≡ Some d
      → fits_of left d lt ≡ true
  leaf_fits left (leaf l) v k lt d h there is = lone_fits left (leaf l) v k lt d h there is
  leaf_fits left (node union id fs) v k lt d h there is = lone_fits left (node union id fs) v k lt d h there is
  leaf_fits left (node struct_list id fs) v k lt d h there is = lone_fits left (node struct_list id fs) v k lt d h there is
  leaf_fits left (node union_list id fs) v k lt d h there is = lone_fits left (node union_list id fs) v k lt d h there is
  leaf_fits left (node struct id fs) v zero lt d h there is = absurd (cc)
  leaf_fits left (node struct id fs) v (suc k) lt d h there is = leaf_among left fs (row_in v) k lt d (row_of_struct left v id fs h) there is

  leaf_among : (left : ℕ) (fs : Fields) (vs : Row) (k : ℕ) (lt : Tree) (d : Data) → row_fits left vs fs ≡ true → slice_get (numbered_fields fs) k ≡ Some lt
      → known (slice_get (row_slots fs vs) k) ≡ Some d → fits_of left d lt ≡ true
  leaf_among left no_fields vs k lt d h there is = absurd (cc)
  leaf_among left (field name t fs) end k lt d h there is = absurd (false≢true h)
  leaf_among left (field name t fs) (gap vs) k lt d h there is = absurd (false≢true h)
  leaf_among left (field name t fs) (more v vs) k lt d h there is =
      let p = both (fits_of left v t) (row_fits left vs fs) h in
      let long = slots_length left v t p.0 in
      elim (cases_lt k (length (numbered t))) [
        | inl lt_n ↦
            leaf_fits left t v k lt d p.0 (sym (slice_left (numbered t) (numbered_fields fs) k lt_n) ∙ there)
            (ap known (sym (slice_left (slots t v) (row_slots fs vs) k (omega (arith, lt_n, long)))) ∙ is)
        | inr ge ↦
            let j = k - length (numbered t) in
            let at : k ≡ length (numbered t) + j = omega (arith, ge) in
            let at_v : k ≡ length (slots t v) + j = omega (arith, ge, long) in
            leaf_among left fs vs j lt d p.1 (sym (slice_right (numbered t) (numbered_fields fs) j) ∙ sym (ap (slice_get (numbered t ++ numbered_fields fs)) at) ∙ there)
            (ap known (sym (slice_right (slots t v) (row_slots fs vs) j)) ∙ sym (ap (λ i. known (slice_get (slots t v ++ row_slots fs vs) i)) at_v) ∙ is)
      ]
