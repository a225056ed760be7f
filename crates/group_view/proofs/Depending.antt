-- What a group's value depends on.
use Rattle.std.proofs.Common.{◌≡◌, ℕ, zero, suc, ◌+◌, ◌-◌, ◌<◌, Bool, true, false, cond, map, is_some, ◌||◌, eqb, List, [], ◌∷◌, ◌++◌, length, fold, Option, None, Some, option_map, refl, sym, ap, ◌∙◌, subst, arith, inl, inr}
use Rattle.std.specs.Prelude.{⊤, slice_get, MatchOption}
use Rattle.std.specs.declared.cmp.Ordering.TheVariants.{Less, Equal, Greater}
use Rattle.std.specs.BTreeSet.{insert_key}
use Rattle.std.specs.FinSet.{FinSet, contains, insert, empty, contains-empty}
use Rattle.std.specs.List.{AllByRecursion, flat_map, filter_map, cons_option}
use Rattle.std.specs.Option.{option_and_then, IfSome}
use Rattle.std.specs.Ordering.{nat_cmp, match_ordering}
use Rattle.std.proofs.lemmas.Bool.{false≢true, cases_lt}
use Rattle.std.proofs.lemmas.Bool.Decides.{eqb_tells, Decides-eqb, nat_tests}
use Rattle.std.proofs.lemmas.List.{length-append}
use Rattle.pvd_type.proofs.Sets.{in_insert}
use Rattle.pvd_type.proofs.Leaves.{leaf_flag}
use Rattle.pvd_type.specs.Numbers.{numbered, numbered_fields, is_leaf}
use Rattle.pvd_type.specs.Tree.{Tree}
use Rattle.pvd_value.specs.Data.{Data, members, more}
use Rattle.pvd_value.specs.Leaves.{known, slots, row_slots, leaf_at}
use Rattle.pvd_value.proofs.Slots.{slots_length, leaf_known}
use Rattle.rec_kinds.specs.declared.state.RecState.{RecState}
use Rattle.group_view.specs.Groups.{GroupData, IsReady, AreReady, HasState}
use Rattle.group_view.specs.Laws.{ReadsRecords, ReadsFootprint}
use Rattle.group_view.specs.Leaves.{sources, sources_among, source_at, is_of, places, leaves_of, triggered_by, triggered, read_by, rising, footprint}
use Rattle.group_view.specs.Links.{Link}
use Rattle.group_view.specs.Slots.{Slot, shows, level, Slots, no_slots, slot, structure_of, slots_of, in_order, entries_of, EachShown, EachOfShown}
use Rattle.group_view.specs.Types.{source_tree, slot_tree, slot_fields, group_tree}
use Rattle.group_view.specs.Views.{shown_or_blank, source_shown, slot_shown, slots_shown, group_shown}
use Rattle.group_view.specs.declared.member.Member.{Member}
use Rattle.group_view.specs.Sources.{Source}
use Rattle.group_view.proofs.Fitting.{source_fits, slot_fits}
use Rattle.group_view.proofs.Froms.{IsFrom, from_members, each_of_then}

-- ---- lists of which each element is so

module _ {A : Type 0} (P : A → Type 0) where
  pub all_append : (xs ys : List A) → AllByRecursion P xs → AllByRecursion P ys → AllByRecursion P (xs ++ ys)
  all_append [] ys a b = b
  all_append (x ∷ xs) ys a b = (a.0, all_append xs ys a.1 b)

  pub at : (xs : List A) (n : ℕ) (x : A) → AllByRecursion P xs → slice_get xs n ≡ Some x → P x
  at [] n x a h = absurd (cc)
  at (y ∷ ys) zero x a h = subst (λ (o : Option A). IfSome o P) h a.0
  at (y ∷ ys) (suc n) x a h = at ys n x a.1 h

-- whoever comes in rising order came before
unkeyed : (P : ℕ → Type 0) (ks : List ℕ) (n : ℕ) → AllByRecursion P (insert_key nat_cmp ks n) → AllByRecursion P ks × P n
unkeyed P [] n a = (tt, a.0)
unkeyed P (k ∷ ks) n a =
    elim (nat_cmp n k) as (λ o. nat_cmp n k ≡ o → AllByRecursion P (match_ordering o (n ∷ k ∷ ks) (k ∷ ks) (k ∷ insert_key nat_cmp ks n)) → AllByRecursion P (k ∷ ks) × P n) [
      | Less ↦ λ _ b. (b.1, b.0)
      | Equal ↦ λ e b. (b, subst P (sym (same n k e)) b.0)
      | Greater ↦ λ _ b. let c = unkeyed P ks n b.1 in ((b.0, c.0), c.1)
    ] refl a
  where
    same : (n k : ℕ) → nat_cmp n k ≡ Equal → n ≡ k
    same n k e = grind (arith, nat_tests)

unrising_from : (P : ℕ → Type 0) (ks ns : List ℕ) → AllByRecursion P (fold (insert_key nat_cmp) ks ns) → AllByRecursion P ks × AllByRecursion P ns
unrising_from P ks [] a = (a, tt)
unrising_from P ks (n ∷ ns) a = let b = unrising_from P (insert_key nat_cmp ks n) ns a in let c = unkeyed P ks n b.0 in (c.0, (c.1, b.1))

pub unrising : (P : ℕ → Type 0) (ns : List ℕ) → AllByRecursion P (rising ns) → AllByRecursion P ns
unrising P ns a = (unrising_from P [] ns a).1

pub unfiltered : {A : Type 0} (P : ℕ → Type 0) (f : A → Option ℕ) (xs : List A) → AllByRecursion P (filter_map f xs) → AllByRecursion (λ x. IfSome (f x) P) xs
unfiltered P f [] a = tt
unfiltered P f (x ∷ xs) a =
    elim (f x) as (λ o. AllByRecursion P (cons_option o (filter_map f xs)) → IfSome o P × AllByRecursion (λ x. IfSome (f x) P) xs) [
      | None ↦ λ b. (tt, unfiltered P f xs b)
      | Some n ↦ λ b. (b.0, unfiltered P f xs b.1)
    ] a

pub flat : {A : Type 0} (R : A → Type 0) (P : ℕ → Type 0) (f : A → List ℕ) → ((x : A) → R x → AllByRecursion P (f x)) → (xs : List A) → AllByRecursion R xs
    → AllByRecursion P (flat_map f xs)
flat R P f h [] a = tt
flat R P f h (x ∷ xs) a = all_append P (f x) (flat_map f xs) (h x a.0) (flat R P f h xs a.1)

pub in_set : (P : ℕ → Type 0) (xs : List ℕ) (s : FinSet nat_cmp) → AllByRecursion P xs → ((k : ℕ) → contains s k ≡ true → P k)
    → (k : ℕ) → contains (fold insert s xs) k ≡ true → P k
in_set P [] s a h k e = h k e
in_set P (x ∷ xs) s a h k e = in_set P xs (insert s x) a.1 (λ q i. added q (sym (in_insert s x q) ∙ i)) k e
  where
    added : (q : ℕ) → (eqb q x || contains s q) ≡ true → P q
    added q i = elim (eqb_tells q x) [ inl p ↦ subst P (sym p.1) a.0 | inr p ↦ h q (sym (ap (λ b. b || contains s q) p.0) ∙ i) ]

pub all_places : {A : Type 0} (test : A → Bool) (P : ℕ → Type 0) (k : ℕ) (xs : List A) → ((j : ℕ) (x : A) → slice_get xs j ≡ Some x → test x ≡ true → P (k + j))
    → AllByRecursion P (places test k xs)
all_places test P k [] h = tt
all_places test P k (x ∷ xs) h =
    let rest : AllByRecursion P (places test (suc k) xs) =
    all_places test P (suc k) xs (λ j y at is. subst P (omega arith) (h (suc j) y at is)) in
    elim (test x) as (λ b. test x ≡ b → AllByRecursion P (cond b (k ∷ places test (suc k) xs) (places test (suc k) xs))) [
      | true ↦ λ e. (subst P (omega arith) (h 0 x refl e), rest)
      | false ↦ λ e. rest
    ] refl

-- ---- the value and the states of the group's records

module _ (a b : List RecState) where
  abbrev IsSame : Source → Type 0
  IsSame s = slice_get a s.link.rec ≡ slice_get b s.link.rec

  mutual
    slot_same : (t : Slot) → EachShown IsSame t → slot_shown a t ≡ slot_shown b t
    slot_same (shows s) h = ap (shown_or_blank s) h
    slot_same (level id ss) h = ap members (slots_same ss h)

    slots_same : (ss : Slots) → EachOfShown IsSame ss → slots_shown a ss ≡ slots_shown b ss
    slots_same no_slots h = refl
    slots_same (slot name s ss) h = λ i. more (slot_same s h.0 i) (slots_same ss h.1 i)

  linked_same : (ms : List Member) → AllByRecursion (λ m. IfSome (option_map (λ l. l.rec) m.link) (λ rec. slice_get a rec ≡ slice_get b rec)) ms
      → (s : Source) → IsFrom ms s → IsSame s
  linked_same ms all s from =
      subst (λ (o : Option Link). IfSome (option_map (λ l. l.rec) o) (λ rec. slice_get a rec ≡ slice_get b rec)) from.linked
      (at _ ms s.member from.member all from.at)

pub reads_records : (g : GroupData) → ReadsRecords g
unfolding group_shown structure_of
reads_records g a b agree =
    let linked = unfiltered _ (λ m. option_map (λ l. l.rec) m.link) g.members (unrising _ _ agree) in
    slot_same a b (level g.id (slots_of (in_order (entries_of g.members))))
    (each_of_then (IsFrom g.members) (IsSame a b) (linked_same a b g.members linked) _ (from_members g.members))

-- ---- a leaf and the states that it shows

zero_add : (j : ℕ) → 0 + j ≡ j
zero_add j = omega arith

pub slice_left : {A : Type 0} (xs ys : List A) (k : ℕ) → k < length xs → slice_get (xs ++ ys) k ≡ slice_get xs k
slice_left [] ys k h = absurd (omega arith)
slice_left (x ∷ xs) ys zero h = refl
slice_left (x ∷ xs) ys (suc k) h = slice_left xs ys k (omega arith)

suc_add : (n j : ℕ) → suc n + j ≡ suc (n + j)
suc_add n j = omega arith

pub slice_right : {A : Type 0} (xs ys : List A) (j : ℕ) → slice_get (xs ++ ys) (length xs + j) ≡ slice_get ys j
slice_right [] ys j = ap (slice_get ys) (zero_add j)
slice_right (x ∷ xs) ys j = ap (slice_get (x ∷ (xs ++ ys))) (suc_add (length xs) j) ∙ slice_right xs ys j

length_map : (s : Source) (ts : List Tree) → length (map (source_at s) ts) ≡ length ts
length_map s [] = refl
length_map s (t ∷ ts) = ap suc (length_map s ts)

mutual
  pub length_sources : (t : Slot) → length (sources t) ≡ length (numbered (slot_tree t))
  length_sources (shows s) = length_map s (numbered (source_tree s))
  length_sources (level id ss) = ap suc (length_among ss)

  pub length_among : (ss : Slots) → length (sources_among ss) ≡ length (numbered_fields (slot_fields ss))
  length_among no_slots = refl
  length_among (slot name s ss) =
      let here = length_sources s in
      let rest = length_among ss in
      omega (arith, length-append (sources s) (sources_among ss), length-append (numbered (slot_tree s)) (numbered_fields (slot_fields ss)), here, rest)

neither : (x y : Option Data) → is_some x ≡ false → is_some y ≡ false → x ≡ y
neither None None h k = refl
neither (Some x) y h k = absurd (false≢true (sym h))
neither None (Some y) h k = absurd (false≢true (sym k))

leaf_there : (s : Source) (ts : List Tree) (k : ℕ) → leaf_flag ts k ≡ true → slice_get (map (source_at s) ts) k ≡ Some (Some s)
leaf_there s [] k h = absurd (false≢true h)
leaf_there s (t ∷ ts) zero h = ap (λ b. Some (cond b (Some s) None)) h
leaf_there s (t ∷ ts) (suc k) h = leaf_there s ts k h

module _ (a b : List RecState) where
  abbrev IsKnown : Option (Option Source) → Type 0
  IsKnown (Some (Some s)) = IsSame a b s
  IsKnown o = ⊤

  shown_same : (s : Source) (k : ℕ) → HasState a s.link → HasState b s.link → IsKnown (slice_get (sources (shows s)) k)
      → leaf_at k (source_tree s) (source_shown a s) ≡ leaf_at k (source_tree s) (source_shown b s)
  shown_same s k ready_a ready_b known =
      let t = source_tree s in
      let flag_a = leaf_known 16 (source_shown a s) t k (source_fits a s ready_a) in
      let flag_b = leaf_known 16 (source_shown b s) t k (source_fits b s ready_b) in
      elim (leaf_flag (numbered t) k) as (λ f. leaf_flag (numbered t) k ≡ f → leaf_at k t (source_shown a s) ≡ leaf_at k t (source_shown b s)) [
        | true ↦ λ e. ap (λ (o : Option RecState). leaf_at k t (shown_or_blank s o)) (subst IsKnown (leaf_there s (numbered t) k e) known)
        | false ↦ λ e. neither _ _ (flag_a ∙ e) (flag_b ∙ e)
      ] refl

  mutual
    leaf_same : (t : Slot) (k : ℕ) → EachShown (λ s. HasState a s.link) t → EachShown (λ s. HasState b s.link) t → IsKnown (slice_get (sources t) k)
        → leaf_at k (slot_tree t) (slot_shown a t) ≡ leaf_at k (slot_tree t) (slot_shown b t)
    leaf_same (shows s) k ready_a ready_b known = shown_same s k ready_a ready_b known
    leaf_same (level id ss) zero ready_a ready_b known = refl
    leaf_same (level id ss) (suc k) ready_a ready_b known = row_same ss k ready_a ready_b known

    row_same : (ss : Slots) (k : ℕ) → EachOfShown (λ s. HasState a s.link) ss → EachOfShown (λ s. HasState b s.link) ss → IsKnown (slice_get (sources_among ss) k)
        → known (slice_get (row_slots (slot_fields ss) (slots_shown a ss)) k) ≡ known (slice_get (row_slots (slot_fields ss) (slots_shown b ss)) k)
    row_same no_slots k ready_a ready_b source = refl
    row_same (slot name s ss) k ready_a ready_b source =
        let n = length (sources s) in
        let long = length_sources s in
        let long_a = slots_length 16 (slot_shown a s) (slot_tree s) (slot_fits a s ready_a.0) in
        let long_b = slots_length 16 (slot_shown b s) (slot_tree s) (slot_fits b s ready_b.0) in
        elim (cases_lt k n) [
          | inl lt ↦
              let in_a : k < length (slots (slot_tree s) (slot_shown a s)) = omega (arith, lt, long, long_a) in
              let in_b : k < length (slots (slot_tree s) (slot_shown b s)) = omega (arith, lt, long, long_b) in
              ap known (slice_left (slots (slot_tree s) (slot_shown a s)) (row_slots (slot_fields ss) (slots_shown a ss)) k in_a)
              ∙ leaf_same s k ready_a.0 ready_b.0 (subst IsKnown (slice_left (sources s) (sources_among ss) k lt) source)
              ∙ sym (ap known (slice_left (slots (slot_tree s) (slot_shown b s)) (row_slots (slot_fields ss) (slots_shown b ss)) k in_b))
          | inr ge ↦
              let j = k - n in
              let at_a : k ≡ length (slots (slot_tree s) (slot_shown a s)) + j = omega (arith, ge, long, long_a) in
              let at_b : k ≡ length (slots (slot_tree s) (slot_shown b s)) + j = omega (arith, ge, long, long_b) in
              let at : k ≡ n + j = omega (arith, ge) in
              ap (λ i. known (slice_get (slots (slot_tree s) (slot_shown a s) ++ row_slots (slot_fields ss) (slots_shown a ss)) i)) at_a
              ∙ ap known (slice_right (slots (slot_tree s) (slot_shown a s)) (row_slots (slot_fields ss) (slots_shown a ss)) j)
              ∙ row_same ss j ready_a.1 ready_b.1
              (subst IsKnown (ap (slice_get (sources s ++ sources_among ss)) at ∙ slice_right (sources s) (sources_among ss) j) source)
              ∙ sym (ap known (slice_right (slots (slot_tree s) (slot_shown b s)) (row_slots (slot_fields ss) (slots_shown b ss)) j))
              ∙ sym (ap (λ i. known (slice_get (slots (slot_tree s) (slot_shown b s) ++ row_slots (slot_fields ss) (slots_shown b ss)) i)) at_b)
        ]

-- ---- valid states

ready_from : (states : List RecState) (ms : List Member) → AllByRecursion (IsReady states) ms → (s : Source) → IsFrom ms s → HasState states s.link
ready_from states ms all s from =
    subst (λ (o : Option Link). MatchOption o ⊤ (HasState states)) from.linked (at (IsReady states) ms s.member from.member all from.at)

pub slots_ready : (states : List RecState) (g : GroupData) → AreReady states g → EachOfShown (λ s. HasState states s.link) (slots_of (in_order (entries_of g.members)))
slots_ready states g all =
    each_of_then (IsFrom g.members) (λ s. HasState states s.link) (ready_from states g.members all) _ (from_members g.members)

-- ---- the leaves that a record triggers

all_at : (P : Source → Type 0) (s : Source) (ts : List Tree) → P s → AllByRecursion (λ o. IfSome o P) (map (source_at s) ts)
all_at P s [] h = tt
all_at P s (t ∷ ts) h = (elim (is_leaf t) as (λ b. IfSome (cond b (Some s) None) P) [ true ↦ h | false ↦ tt ], all_at P s ts h)

mutual
  pub each_there : (P : Source → Type 0) (t : Slot) → EachShown P t → AllByRecursion (λ o. IfSome o P) (sources t)
  each_there P (shows s) h = all_at P s (numbered (source_tree s)) h
  each_there P (level id ss) h = (tt, each_among P ss h)

  pub each_among : (P : Source → Type 0) (ss : Slots) → EachOfShown P ss → AllByRecursion (λ o. IfSome o P) (sources_among ss)
  each_among P no_slots h = tt
  each_among P (slot name s ss) h = all_append _ (sources s) (sources_among ss) (each_there P s h.0) (each_among P ss h.1)

pub read_is : (ms : List Member) (s : Source) → IsFrom ms s → option_and_then read_by (slice_get ms s.member) ≡ Some s.link.rec
read_is ms s from =
    ap (option_and_then read_by) from.at
    ∙ ap (λ b. cond b (option_map (λ l. l.rec) from.member.link) None) from.reading
    ∙ ap (option_map (λ (l : Link). l.rec)) from.linked

module _ (a b : List RecState) (ms : List Member) (t : Slot) (from : EachShown (IsFrom ms) t) where
  abbrev IsRead : ℕ → Type 0
  IsRead n = IfSome (option_and_then read_by (slice_get ms n)) (λ rec. slice_get a rec ≡ slice_get b rec)

  known_at : (n j : ℕ) (o : Option Source) → IsRead n → slice_get (sources t) j ≡ Some o → is_of n o ≡ true → IsKnown a b (Some o)
  known_at n j None read at is = tt
  known_at n j (Some s) read there is =
      let one = at (λ o. IfSome o (IsFrom ms)) (sources t) j (Some s) (each_there (IsFrom ms) t from) there in
      let same : n ≡ s.member = sym ((Decides-eqb s.member n).0 is) in
      subst (λ (o : Option ℕ). IfSome o (λ rec. slice_get a rec ≡ slice_get b rec)) (ap (λ k. option_and_then read_by (slice_get ms k)) same ∙ read_is ms s one) read

  leaves_known : (n : ℕ) → IsRead n → AllByRecursion (λ k. IsKnown a b (slice_get (sources t) k)) (places (is_of n) 0 (sources t))
  leaves_known n read =
      all_places (is_of n) (λ k. IsKnown a b (slice_get (sources t) k)) 0 (sources t) (λ j o there is. subst (λ (k : ℕ). IsKnown a b (slice_get (sources t) k)) (sym (zero_add j)) (subst (IsKnown a b) (sym there) (known_at n j o read there is)))

pub reads_footprint : (g : GroupData) (rec : ℕ) → ReadsFootprint g rec
unfolding group_shown group_tree structure_of triggered footprint leaves_of
reads_footprint g rec a b ready_a ready_b agree k in_triggered =
    let ms = g.members in
    let ss = slots_of (in_order (entries_of ms)) in
    let t = level g.id ss in
    let read = unfiltered _ (λ n. option_and_then read_by (slice_get ms n)) (triggered_by ms rec) (unrising _ _ agree) in
    let leaves = flat (IsRead a b ms t (from_members ms)) (λ k. IsKnown a b (slice_get (sources t) k)) (λ n. places (is_of n) 0 (sources t))
    (leaves_known a b ms t (from_members ms)) (triggered_by ms rec) read in
    let known = in_set (λ k. IsKnown a b (slice_get (sources t) k)) _ empty leaves (λ q e. absurd (false≢true (sym (contains-empty nat_cmp q) ∙ e))) k in_triggered in
    leaf_same a b t k (slots_ready a g ready_a) (slots_ready b g ready_b) known
