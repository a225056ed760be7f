-- What a group keeps is its definition's.
use Rattle.std.proofs.Common.{◌≡◌, ℕ, zero, suc, ◌+◌, ◌<◌, ◌≤◌, Bool, true, false, cond, ◌||◌, eqb, ℤ, List, [], ◌∷◌, ◌++◌, length, get_or, take, map, fold, Option, None, Some, option_map, refl, sym, ap, ◌∙◌, subst, arith, inl, inr, rules}
use Rattle.std.specs.Prelude.{⊤, slice_get, MatchOption}
use Rattle.std.specs.BTreeMap.{insert_entry}
use Rattle.std.specs.BTreeSet.{insert_key}
use Rattle.std.specs.FinSet as set
use Rattle.std.specs.FinSet.{FinSet}
use Rattle.std.specs.List.{AllByRecursion, filter, flat_map, filter_map, cons_option, enumerate_from}
use Rattle.std.specs.Option.{IfSome, option_and_then, option_map_or}
use Rattle.std.specs.Ordering.{nat_cmp, match_ordering}
use Rattle.std.specs.declared.cmp.Ordering.TheVariants.{Less, Equal, Greater}
use Rattle.std.proofs.lemmas.Bool.{false≢true, cases_lt}
use Rattle.std.proofs.lemmas.Bool.Decides.{eqb_tells, Decides-eqb, nat_tests}
use Rattle.std.proofs.lemmas.List.{take_more}
use Rattle.pvd_type.specs.Check.{type_fault}
use Rattle.pvd_type.specs.Numbers.{numbered, is_leaf}
use Rattle.pvd_type.specs.Tree.{Tree}
use Rattle.pvd_value.specs.Data.{Data, members}
use Rattle.pvd_value.specs.Fits.{fits_of}
use Rattle.pvd_value.specs.View.{view, row_view}
use Rattle.pvd_value.specs.declared.value.PvValue.{PvValue, Struct, the_lemmas}
use Rattle.std.specs.Global.{Vec}
use Rattle.std.specs.declared.vec.Vec.{Vec as OwnVec}
use Rattle.rec_kinds.specs.Configs.{Config}
use Rattle.rec_kinds.specs.declared.state.RecState.{RecState}
use Rattle.group_defs.specs.Sound.{IsMember}
use Rattle.group_defs.specs.declared.def.MemberDef.{MemberDef}
use Rattle.group_defs.specs.declared.fault.GroupFault.{GroupFault}
use Rattle.group_defs.specs.declared.fault.GroupFault.TheVariants as faults
use Rattle.group_defs.specs.declared.def.MemberKind.{MemberKind}
use Rattle.group_defs.specs.declared.def.MemberKind.TheVariants as kinds
use Rattle.group_view.specs.Built.{reach_by, reach_of, is_in, Reaches, IsShapeFault, IsBuilt}
use Rattle.group_view.specs.Faults.{is_misplaced, is_doubled, group_fault, IsGroupFault}
use Rattle.group_view.specs.Groups.{GroupData, link_of, member_of, IsLinkOf, IsOver, AreReady, HasState}
use Rattle.group_view.specs.Leaves.{sources, member_in, is_number, is_of, places, leaves_of, leaves_at, is_about, triggered_by, triggered, records_read, footprint, records_of}
use Rattle.group_view.specs.Links.{Link}
use Rattle.rec_fields.specs.Plain.{plain_tree}
use Rattle.group_view.specs.Pieces.{piece_tree}
use Rattle.group_view.specs.declared.piece.Piece.{Piece}
use Rattle.group_view.specs.declared.piece.Piece.TheVariants as pieces
use Rattle.group_view.specs.Puts.{Place, place_cmp, placed_by, writing_of, writer_of, with_writer, writers_among, writers, IsWritten}
use Rattle.group_view.specs.Slots.{Slot, level, Slots, structure_of, slots_of, slots_to, in_order, entries_of, EachShown, EachOfShown}
use Rattle.group_view.specs.Types.{slot_tree, group_tree}
use Rattle.group_view.specs.Views.{slot_shown, slots_shown, group_shown, IsReadyUnder, AreReadyUnder, IsReadyFor}
use Rattle.group_view.specs.Sources.{Source}
use Rattle.group_view.specs.declared.member.Member.{Member}
use Rattle.group_view.specs.declared.reach.Reach.{Reach}
use Rattle.group_view.specs.declared.writer.Writer.{Writer}
use Rattle.group_view.specs.declared.writer.Writing.{Writing}
use Rattle.group_view.specs.declared.writer.Writing.TheVariants.{Writes, Processes}
use Rattle.group_view.proofs.Cutting.{cut, slots_to_is, cut_fault, nothing_cut}
use Rattle.group_view.proofs.Depending.{at, each_there, length_sources, slots_ready}
use Rattle.group_view.proofs.Fitting.{slots_fit}
use Rattle.group_view.proofs.Froms.{IsFrom, IsPieceOf, from_members, each_of_then}
use Rattle.group_view.proofs.Heads.{found, head_is, IsHead, HasHead, slot_head, whole_head, plain_head}

pub view_struct : (v : Vec PvValue) → view (Struct v) ≡ members (row_view v.items)
view_struct v = search (rules, the_lemmas)

-- ---- what is shown

module _ (g : GroupData) (slots : Slots) (structure : level g.id slots ≡ structure_of g) where
  pub slots_ready_for : (states : List RecState) → AreReady states g → EachOfShown (λ s. HasState states s.link) slots
  unfolding structure_of
  slots_ready_for states ready = subst (EachShown (λ s. HasState states s.link)) (sym structure) (slots_ready states g ready)

  pub shown_is : (states : List RecState) → members (slots_shown states slots) ≡ group_shown g states
  unfolding group_shown
  shown_is states = ap (slot_shown states) structure

  pub shown_fits : (states : List RecState) → AreReady states g → fits_of 16 (group_shown g states) (group_tree g) ≡ true
  unfolding group_shown group_tree
  shown_fits states ready =
      (λ i. fits_of 16 (slot_shown states (sym structure i)) (slot_tree (sym structure i))) ∙ slots_fit states slots (slots_ready_for states ready)

  pub tree_is : slot_tree (level g.id slots) ≡ group_tree g
  unfolding group_tree
  tree_is = ap slot_tree structure

  pub under_is : (mask : FinSet nat_cmp) (states : List RecState) → IsReadyFor mask states g → AreReadyUnder mask states 1 slots
  unfolding IsReadyFor
  under_is mask states ready = subst (IsReadyUnder mask states 0) (sym structure) ready

-- ---- what a record triggers

or_more : (a b : Bool) → (a || b) ≡ (b || a)
or_more true true = refl
or_more true false = refl
or_more false true = refl
or_more false false = refl

is_in_push : (recs : List ℕ) (rec q : ℕ) → is_in (recs ++ rec ∷ []) q ≡ (is_in recs q || eqb rec q)
is_in_push [] rec q = or_more (eqb rec q) false
is_in_push (r ∷ recs) rec q =
    elim (eqb r q) as (λ b. (b || is_in (recs ++ rec ∷ []) q) ≡ ((b || is_in recs q) || eqb rec q)) [ true ↦ refl | false ↦ is_in_push recs rec q ]

pub reaches_more : (reach : ℕ → Reach) (recs : List ℕ) (i : ℕ) (before after : ℕ → Option Reach) → i < length recs
    → ((q : ℕ) → after q ≡ cond (eqb (get_or recs i 0) q) (Some (reach (get_or recs i 0))) (before q)) → Reaches (take i recs) reach before → Reaches (take (i + 1) recs) reach after
reaches_more reach recs i before after within added so_far q =
    let rec = get_or recs i 0 in
    let there : is_in (take (i + 1) recs) q ≡ (is_in (take i recs) q || eqb rec q) =
    ap (λ (xs : List ℕ). is_in xs q) (take_more recs i 0 within) ∙ is_in_push (take i recs) rec q in
    added q
    ∙ (elim (eqb_tells rec q) [
      | inl p ↦
          ap (λ b. cond b (Some (reach rec)) (before q)) p.0 ∙ ap (λ r. Some (reach r)) p.1
          ∙ sym (ap (λ b. cond b (Some (reach q)) None) (there ∙ ap (λ b. is_in (take i recs) q || b) p.0 ∙ or_more (is_in (take i recs) q) true))
      | inr p ↦
          ap (λ b. cond b (Some (reach rec)) (before q)) p.0 ∙ so_far q
          ∙ sym (ap (λ b. cond b (Some (reach q)) None) (there ∙ ap (λ b. is_in (take i recs) q || b) p.0 ∙ or_more (is_in (take i recs) q) false))
    ])

-- a number in rising order is one of those that were given
in_key : (q n : ℕ) (ks : List ℕ) → is_in (insert_key nat_cmp ks n) q ≡ (eqb n q || is_in ks q)
in_key q n [] = refl
in_key q n (k ∷ ks) =
    elim (nat_cmp n k) as (λ o. nat_cmp n k ≡ o → is_in (match_ordering o (n ∷ k ∷ ks) (k ∷ ks) (k ∷ insert_key nat_cmp ks n)) q ≡ (eqb n q || (eqb k q || is_in ks q))) [
      | Less ↦ λ _. refl
      | Equal ↦ λ e. twice (eqb n q) (eqb k q) (is_in ks q) (ap (λ m. eqb m q) (same n k e))
      | Greater ↦ λ _. ap (λ b. eqb k q || b) (in_key q n ks) ∙ swap (eqb k q) (eqb n q) (is_in ks q)
    ] refl
  where
    same : (n k : ℕ) → nat_cmp n k ≡ Equal → n ≡ k
    same n k e = grind (arith, nat_tests)

    twice : (a b c : Bool) → a ≡ b → (b || c) ≡ (a || (b || c))
    twice true true c e = refl
    twice false b c e = refl
    twice true false c e = absurd (false≢true (sym e))

    swap : (a b c : Bool) → (a || (b || c)) ≡ (b || (a || c))
    swap true true c = refl
    swap true false c = refl
    swap false b c = refl

in_rising : (q : ℕ) (ks ns : List ℕ) → is_in (fold (insert_key nat_cmp) ks ns) q ≡ (is_in ns q || is_in ks q)
in_rising q ks [] = refl
in_rising q ks (n ∷ ns) = in_rising q (insert_key nat_cmp ks n) ns ∙ ap (λ b. is_in ns q || b) (in_key q n ks) ∙ swap (is_in ns q) (eqb n q) (is_in ks q)
  where
    swap : (a b c : Bool) → (a || (b || c)) ≡ ((b || a) || c)
    swap true true c = refl
    swap true false c = refl
    swap false true c = refl
    swap false false c = refl

none_about : (q : ℕ) (ms : List Member) → is_in (filter_map (λ m. option_map (λ l. l.rec) m.link) ms) q ≡ false → triggered_by ms q ≡ []
none_about q [] h = refl
none_about q (m ∷ ms) h =
    let recs = filter_map (λ (x : Member). option_map (λ l. l.rec) x.link) ms in
    let rest = filter (λ (x : Member). is_about q x.link) ms in
    elim m.link as (λ o. is_in (cons_option (option_map (λ l. l.rec) o) recs) q ≡ false → flat_map (λ (x : Member). x.def.trigger) (cond (is_about q o) (m ∷ rest) rest) ≡ []) [
      | None ↦ λ e. none_about q ms e
      | Some l ↦ λ e. elim (eqb l.rec q) as (λ b. (b || is_in recs q) ≡ false → flat_map (λ (x : Member). x.def.trigger) (cond b (m ∷ rest) rest) ≡ []) [
        | true ↦ λ f. absurd (false≢true (sym f))
        | false ↦ λ f. none_about q ms f
      ] e
    ] h

pub no_record : (g : GroupData) (q : ℕ) → is_in (records_of g.members) q ≡ false → triggered_by g.members q ≡ []
no_record g q h = none_about q g.members (either _ _ (sym (in_rising q [] (filter_map (λ m. option_map (λ l. l.rec) m.link) g.members)) ∙ h))
  where
    either : (a b : Bool) → (a || b) ≡ false → a ≡ false
    either true b e = e
    either false b e = refl

pub not_reached : {A : Type 0} (b : Bool) (x : A) → cond b (Some x) None ≡ None → b ≡ false
not_reached true x e = absurd (cc)
not_reached false x e = refl

pub nothing_triggered : (g : GroupData) (q : ℕ) → triggered_by g.members q ≡ [] → set.empty ≡ triggered g q
unfolding triggered
nothing_triggered g q none = sym (ap (λ ns. fold set.insert set.empty (flat_map (leaves_of g) ns)) none)

pub nothing_read : (g : GroupData) (q : ℕ) → triggered_by g.members q ≡ [] → [] ≡ footprint g q
unfolding footprint
nothing_read g q none = sym (ap (records_read g.members) none)

-- ---- the leaves of each member

places_seen : (n k : ℕ) (os : List (Option Source)) → places (is_number n) k (map member_in os) ≡ places (is_of n) k os
places_seen n k [] = refl
places_seen n k (o ∷ os) = ap (λ (xs : List ℕ). cond (is_of n o) (k ∷ xs) xs) (places_seen n (suc k) os)

no_places : (n k : ℕ) (os : List (Option Source)) → AllByRecursion (λ o. is_of n o ≡ false) os → places (is_of n) k os ≡ []
no_places n k [] all = refl
no_places n k (o ∷ os) all = ap (λ b. cond b (k ∷ places (is_of n) (suc k) os) (places (is_of n) (suc k) os)) all.0 ∙ no_places n (suc k) os all.1

get_within : {A : Type 0} (xs : List A) (n : ℕ) (x : A) → slice_get xs n ≡ Some x → n < length xs
get_within [] n x h = absurd (cc)
get_within (y ∷ xs) zero x h = omega arith
get_within (y ∷ xs) (suc n) x h = let r = get_within xs n x h in omega (arith, r)

get_past : {A : Type 0} (xs : List A) (n : ℕ) → length xs ≤ n → slice_get xs n ≡ None
get_past [] n h = refl
get_past (x ∷ xs) zero h = absurd (omega arith)
get_past (x ∷ xs) (suc n) h = get_past xs n (omega arith)

other_member : (ms : List Member) (n : ℕ) → length ms ≤ n → (o : Option Source) → IfSome o (IsFrom ms) → is_of n o ≡ false
other_member ms n past None from = refl
other_member ms n past (Some s) from =
    let in_ms = get_within ms s.member from.member from.at in
    elim (eqb_tells s.member n) [ inl p ↦ absurd (omega (arith, in_ms, p.1)) | inr p ↦ p.0 ]

each_then : (P Q : Option Source → Type 0) → ((o : Option Source) → P o → Q o) → (os : List (Option Source)) → AllByRecursion P os → AllByRecursion Q os
each_then P Q f [] all = tt
each_then P Q f (o ∷ os) all = (f o all.0, each_then P Q f os all.1)

pub own_are : {Y : Type 0} (g : GroupData) (own : List (OwnVec ℕ Y)) (shown : List (Option ℕ)) → length own ≡ length g.members
    → shown ≡ map member_in (sources (structure_of g)) → ((n : ℕ) → n < length g.members → leaves_at own n ≡ places (is_number n) 0 shown)
    → (n : ℕ) → leaves_at own n ≡ leaves_of g n
unfolding leaves_of structure_of
own_are g own shown long is each n =
    elim (cases_lt n (length g.members)) [
      | inl lt ↦ each n lt ∙ ap (places (is_number n) 0) is ∙ places_seen n 0 (sources (structure_of g))
      | inr ge ↦
          ap (λ (o : Option (OwnVec ℕ _)). option_map_or (λ v. v.items) o []) (get_past own n (omega (arith, long, ge)))
          ∙ sym (no_places n 0 (sources (structure_of g)) (each_then (λ o. IfSome o (IsFrom g.members)) (λ o. is_of n o ≡ false) (other_member g.members n ge) (sources (level g.id (slots_of (in_order (entries_of g.members)))))
          (each_there (IsFrom g.members) (level g.id (slots_of (in_order (entries_of g.members)))) (from_members g.members))))
    ]

-- ---- the writable members

writer_added : (P : Writer → Type 0) (es : List (Place × Writer)) (k : Place) (w : Writer) → AllByRecursion (λ e. P e.1) es → P w
    → AllByRecursion (λ e. P e.1) (insert_entry place_cmp es k w)
writer_added P [] k w all h = (h, tt)
writer_added P (e ∷ es) k w all h =
    elim (place_cmp k e.0) as (λ o. AllByRecursion (λ x. P x.1) (match_ordering o ((k, w) ∷ e ∷ es) ((e.0, w) ∷ es) (e ∷ insert_entry place_cmp es k w))) [
      | Less ↦ (h, all)
      | Equal ↦ (h, all.1)
      | Greater ↦ (all.0, writer_added P es k w all.1 h)
    ]

writers_so : (P : Writer → Type 0) (leaves : ℕ → List ℕ) (k : ℕ) (ms : List Member) (es : List (Place × Writer))
    → ((n : ℕ) (m : Member) → slice_get ms n ≡ Some m → IfSome (writer_of (k + n) m (leaves (k + n))) (λ w. P w.1)) → AllByRecursion (λ e. P e.1) es
    → AllByRecursion (λ e. P e.1) (writers_among leaves es (enumerate_from k ms))
writers_so P leaves k [] es h all = all
writers_so P leaves k (m ∷ ms) es h all =
    let first : IfSome (writer_of k m (leaves k)) (λ w. P w.1) = subst (λ (j : ℕ). IfSome (writer_of j m (leaves j)) (λ w. P w.1)) (omega arith) (h 0 m refl) in
    writers_so P leaves (k + 1) ms (with_writer es (writer_of k m (leaves k)))
    (λ n x is. subst (λ (j : ℕ). IfSome (writer_of j x (leaves j)) (λ w. P w.1)) (omega arith) (h (suc n) x is))
    (by (writer_of k m (leaves k)) first)
  where
    by : (o : Option (Place × Writer)) → IfSome o (λ w. P w.1) → AllByRecursion (λ e. P e.1) (with_writer es o)
    by None one = all
    by (Some w) one = writer_added P es w.0 w.1 all one

values_so : (P : Writer → Type 0) (es : List (Place × Writer)) → AllByRecursion (λ e. P e.1) es → AllByRecursion P (map (λ e. e.1) es)
values_so P [] all = tt
values_so P (e ∷ es) all = (all.0, values_so P es all.1)

pub each_writer : (P : Writer → Type 0) (g : GroupData) → ((n : ℕ) (m : Member) → slice_get g.members n ≡ Some m → IfSome (writer_of n m (leaves_of g n)) (λ w. P w.1))
    → AllByRecursion P (writers g)
unfolding writers
each_writer P g h =
    values_so P _ (writers_so P (leaves_of g) 0 g.members []
    (λ n m is. subst (λ (j : ℕ). IfSome (writer_of j m (leaves_of g j)) (λ w. P w.1)) (omega arith) (h n m is)) tt)

-- there are at most as many as members
entries_few : (es : List (Place × Writer)) (k : Place) (w : Writer) → length (insert_entry place_cmp es k w) ≤ length es + 1
entries_few [] k w = omega arith
entries_few (e ∷ es) k w =
    elim (place_cmp k e.0) as (λ o. length (match_ordering o ((k, w) ∷ e ∷ es) ((e.0, w) ∷ es) (e ∷ insert_entry place_cmp es k w)) ≤ length (e ∷ es) + 1) [
      | Less ↦ omega arith
      | Equal ↦ omega arith
      | Greater ↦ let rest = entries_few es k w in omega (arith, rest)
    ]

with_few : (es : List (Place × Writer)) (o : Option (Place × Writer)) → length (with_writer es o) ≤ length es + 1
with_few es None = omega arith
with_few es (Some w) = entries_few es w.0 w.1

among_few : (leaves : ℕ → List ℕ) (k : ℕ) (ms : List Member) (es : List (Place × Writer)) → length (writers_among leaves es (enumerate_from k ms)) ≤ length es + length ms
among_few leaves k [] es = omega arith
among_few leaves k (m ∷ ms) es =
    let next = with_writer es (writer_of k m (leaves k)) in
    let rest = among_few leaves (k + 1) ms next in
    omega (arith, rest, with_few es (writer_of k m (leaves k)))

pub writers_few : (g : GroupData) → length (writers g) ≤ length g.members
unfolding writers
writers_few g = let es = writers_among (leaves_of g) [] (enumerate_from 0 g.members) in omega (arith, length_values es, among_few (leaves_of g) 0 g.members [])
  where
    length_values : (xs : List (Place × Writer)) → length (map (λ e. e.1) xs) ≡ length xs
    length_values [] = refl
    length_values (x ∷ xs) = ap suc (length_values xs)

linked_so : (configs : List Config) (n : ℕ) (order : Option ℤ) (link : Option Link) (writing : Option Writing) → MatchOption link ⊤ (IsLinkOf configs)
    → IfSome (placed_by n order link writing) (λ w. IsLinkOf configs w.1.link)
linked_so configs n (Some order) (Some l) (Some writing) h = h
linked_so configs n None link writing h = tt
linked_so configs n (Some order) None writing h = tt
linked_so configs n (Some order) (Some l) None h = tt

pub writers_linked : (configs : List Config) (g : GroupData) → IsOver configs g → AllByRecursion (λ w. IsLinkOf configs w.link) (writers g)
writers_linked configs g over =
    each_writer (λ w. IsLinkOf configs w.link) g (λ n m is. linked_so configs n m.def.order m.link _ (at (λ m. MatchOption m.link ⊤ (IsLinkOf configs)) g.members n m over is))

-- the first leaf of a member that is written has the type of its record's value
head_of : (ms : List Member) (n : ℕ) (m : Member) (l : Link) (wanted : Piece) → slice_get ms n ≡ Some m → m.link ≡ Some l → ((p : Piece) → IsPieceOf m.def.kind p → p ≡ wanted)
    → IsHead (plain_tree l.config) (found is_leaf (numbered (piece_tree wanted l.config))) (numbered (piece_tree wanted l.config))
    → (s : Source) → IsFrom ms s → HasHead n (plain_tree l.config) s
head_of ms n m l wanted there linked only head s from mine =
    let same : s.member ≡ n = (Decides-eqb s.member n).0 mine in
    let one : from.member ≡ m = let a = from.at in let b = ap (slice_get ms) same in some_same (sym a ∙ b ∙ there) in
    let link : s.link ≡ l = some_same (sym from.linked ∙ ap (λ (x : Member). x.link) one ∙ linked) in
    let piece : s.piece ≡ wanted = only s.piece (subst (λ (x : Member). IsPieceOf x.def.kind s.piece) one from.piece) in
    subst (λ (t : Tree). IsHead (plain_tree l.config) (found is_leaf (numbered t)) (numbered t)) (λ i. piece_tree (sym piece i) (sym link i).config) head
  where
    some_same : {A : Type 0} {x y : A} → Some x ≡ Some y → x ≡ y
    some_same e = cc

written_so : (t : Tree) (n : ℕ) (order : Option ℤ) (l : Link) (o : Option ℕ) → IsHead (plain_tree l.config) o (numbered t)
    → IfSome (placed_by n order (Some l) (option_map Writes o)) (λ w. IsWritten t w.1.link w.1.writing)
written_so t n None l o h = tt
written_so t n (Some order) l None h = tt
written_so t n (Some order) l (Some j) h = h

module _ (g : GroupData) (n : ℕ) (m : Member) (there : slice_get g.members n ≡ Some m) where
  abbrev IsSo : Writer → Type 0
  IsSo w = IsWritten (group_tree g) w.link w.writing

  leaf_head : (l : Link) (wanted : Piece) → m.link ≡ Some l → ((p : Piece) → IsPieceOf m.def.kind p → p ≡ wanted)
      → IsHead (plain_tree l.config) (found is_leaf (numbered (piece_tree wanted l.config))) (numbered (piece_tree wanted l.config))
      → IsHead (plain_tree l.config) (slice_get (leaves_of g n) 0) (numbered (group_tree g))
  unfolding leaves_of group_tree structure_of
  leaf_head l wanted linked only head =
      let t = level g.id (slots_of (in_order (entries_of g.members))) in
      subst (λ o. IsHead (plain_tree l.config) o (numbered (slot_tree t))) (sym (head_is (is_of n) (sources t)))
      (slot_head n (plain_tree l.config) t
      (each_of_then (IsFrom g.members) (HasHead n (plain_tree l.config)) (head_of g.members n m l wanted there linked only head) _ (from_members g.members)))

  none_placed : (order : Option ℤ) (link : Option Link) → IfSome (placed_by n order link None) (λ w. IsSo w.1)
  none_placed None link = tt
  none_placed (Some order) None = tt
  none_placed (Some order) (Some l) = tt

  none_linked : (order : Option ℤ) (writing : Option Writing) → IfSome (placed_by n order None writing) (λ w. IsSo w.1)
  none_linked None writing = tt
  none_linked (Some order) writing = tt

  processed_so : (order : Option ℤ) (l : Link) → IfSome (placed_by n order (Some l) (Some Processes)) (λ w. IsSo w.1)
  processed_so None l = tt
  processed_so (Some order) l = tt

  placed_so : (link : Option Link) → m.link ≡ link → (kind : MemberKind) → m.def.kind ≡ kind
      → IfSome (placed_by n m.def.order link (writing_of kind (slice_get (leaves_of g n) 0))) (λ w. IsSo w.1)
  placed_so None linked kind is = none_linked m.def.order _
  placed_so (Some l) linked kinds.Whole is =
      written_so (group_tree g) n m.def.order l (slice_get (leaves_of g n) 0)
      (leaf_head l pieces.Whole linked (λ p fits. subst (λ k. IsPieceOf k p) is fits) (whole_head l.config.kind l.config.ftvl))
  placed_so (Some l) linked kinds.Plain is =
      written_so (group_tree g) n m.def.order l (slice_get (leaves_of g n) 0)
      (leaf_head l pieces.Plain linked (λ p fits. subst (λ k. IsPieceOf k p) is fits) (plain_head l.config.kind l.config.ftvl))
  placed_so (Some l) linked kinds.Any is = none_placed m.def.order (Some l)
  placed_so (Some l) linked kinds.Meta is = none_placed m.def.order (Some l)
  placed_so (Some l) linked kinds.Proc is = processed_so m.def.order l
  placed_so (Some l) linked kinds.Structure is = none_placed m.def.order (Some l)

pub writers_written : (g : GroupData) → AllByRecursion (λ w. IsWritten (group_tree g) w.link w.writing) (writers g)
writers_written g = each_writer (λ w. IsWritten (group_tree g) w.link w.writing) g (λ n m there. placed_so g n m there m.link refl m.def.kind refl)

-- ---- the group that members make

pub fault_free : (g : GroupData) (slots : Slots) (ty : Tree) → level g.id slots ≡ structure_of g → ty ≡ slot_tree (level g.id slots) → is_misplaced g.members ≡ false
    → is_doubled g.members ≡ false → type_fault ty ≡ None → group_fault g ≡ None
unfolding group_fault
fault_free g slots ty structure is placed single none =
    ap (λ b. cond b (Some (faults.BadMember g.name)) (cond (is_doubled g.members) (Some (faults.SameMember g.name)) (option_map faults.Shape (type_fault (group_tree g))))) placed
    ∙ ap (λ b. cond b (Some (faults.SameMember g.name)) (option_map faults.Shape (type_fault (group_tree g)))) single
    ∙ ap (λ t. option_map faults.Shape (type_fault t)) (sym (is ∙ tree_is g slots structure)) ∙ ap (option_map faults.Shape) none

-- the structure that is made, of which what lies too deep is left out
pub whole_is : (g : GroupData) (slots : Slots) (ty : Tree) → slots ≡ slots_to 32 (in_order (entries_of g.members)) → ty ≡ slot_tree (level g.id slots) → type_fault ty ≡ None
    → slots ≡ slots_of (in_order (entries_of g.members))
whole_is g slots ty is tree none =
    let ss = slots_of (in_order (entries_of g.members)) in
    let made : slots ≡ cut ss 32 = is ∙ slots_to_is 32 (in_order (entries_of g.members)) in
    made ∙ nothing_cut g.id ss (sym (ap type_fault (tree ∙ ap (λ (s : Slots). slot_tree (level g.id s)) made)) ∙ none)

pub fault_kept : (g : GroupData) (slots : Slots) (t : Tree) → slots ≡ slots_to 32 (in_order (entries_of g.members)) → t ≡ slot_tree (level g.id slots)
    → type_fault t ≡ type_fault (group_tree g)
unfolding group_tree structure_of
fault_kept g slots t is tree =
    let ss = slots_of (in_order (entries_of g.members)) in
    ap type_fault (tree ∙ ap (λ (s : Slots). slot_tree (level g.id s)) (is ∙ slots_to_is 32 (in_order (entries_of g.members)))) ∙ cut_fault g.id ss

pub shape_fault_is : (g : GroupData) (t : Tree) (fault : GroupFault) → type_fault t ≡ type_fault (group_tree g)
    → is_misplaced g.members ≡ false → is_doubled g.members ≡ false → IsShapeFault t fault → IsGroupFault g fault
unfolding group_fault
shape_fault_is g t fault same placed single h = by fault h
  where
    whole : group_fault g ≡ option_map faults.Shape (type_fault t)
    whole =
        ap (λ b. cond b (Some (faults.BadMember g.name)) (cond (is_doubled g.members) (Some (faults.SameMember g.name)) (option_map faults.Shape (type_fault (group_tree g))))) placed
        ∙ ap (λ b. cond b (Some (faults.SameMember g.name)) (option_map faults.Shape (type_fault (group_tree g)))) single
        ∙ ap (option_map faults.Shape) (sym same)

    by : (f : GroupFault) → IsShapeFault t f → IsGroupFault g f
    by faults.NoMemory h = tt
    by (faults.BadJson n) h = whole ∙ h
    by (faults.UnknownKey n) h = whole ∙ h
    by (faults.SameMember n) h = whole ∙ h
    by (faults.UnknownTrigger n) h = whole ∙ h
    by (faults.NameTaken n) h = whole ∙ h
    by (faults.BadMember n) h = whole ∙ h
    by (faults.Shape f) h = whole ∙ h
    by (faults.TooMany n) h = whole ∙ h

pub placed_fault : (g : GroupData) → true ≡ is_misplaced g.members → IsGroupFault g (faults.BadMember g.name)
unfolding group_fault
placed_fault g h = sym (ap (λ b. cond b (Some (faults.BadMember g.name)) (cond (is_doubled g.members) (Some (faults.SameMember g.name)) (option_map faults.Shape (type_fault (group_tree g))))) h)

pub single_fault : (g : GroupData) → false ≡ is_misplaced g.members → true ≡ is_doubled g.members → IsGroupFault g (faults.SameMember g.name)
unfolding group_fault
single_fault g placed h =
    sym (ap (λ b. cond b (Some (faults.BadMember g.name)) (cond (is_doubled g.members) (Some (faults.SameMember g.name)) (option_map faults.Shape (type_fault (group_tree g))))) placed)
    ∙ sym (ap (λ b. cond b (Some (faults.SameMember g.name)) (option_map faults.Shape (type_fault (group_tree g)))) h)

pub reaches_are : (g : GroupData) (leaves : ℕ → List ℕ) (records : List ℕ) (reached : ℕ → Option Reach) → ((n : ℕ) → leaves n ≡ leaves_of g n)
    → Reaches records (reach_by leaves g.members) reached → Reaches records (reach_of g) reached
unfolding triggered footprint
reaches_are g leaves records reached same h =
    subst (λ (ls : ℕ → List ℕ). Reaches records (reach_by ls g.members) reached) (λ i n. same n i) h

pub writers_are : (g : GroupData) (leaves : ℕ → List ℕ) (writable : List Writer) → ((n : ℕ) → leaves n ≡ leaves_of g n)
    → writable ≡ map (λ e. e.1) (writers_among leaves [] (enumerate_from 0 g.members)) → writable ≡ writers g
unfolding writers
writers_are g leaves writable same is = is ∙ (λ i. map (λ e. e.1) (writers_among (λ n. same n i) [] (enumerate_from 0 g.members)))

-- ---- what is kept of members is built of them

pub shown_few : (shown : List (Option ℕ)) (t : Slot) (ty : Tree) → shown ≡ map member_in (sources t) → ty ≡ slot_tree t → length (numbered ty) ≤ 4096 → length shown ≤ 4096
shown_few shown t ty is tree few =
    let long : length shown ≡ length (sources t) = ap length is ∙ length_map (sources t) in
    omega (arith, few, long, length_sources t, ap (λ (u : Tree). length (numbered u)) tree)
  where
    length_map : (os : List (Option Source)) → length (map member_in os) ≡ length os
    length_map [] = refl
    length_map (o ∷ os) = ap suc (length_map os)

pub built_is : {Y : Type 0} (g : GroupData) (slots : Slots) (ty : Tree) (shown : List (Option ℕ)) (own : List (OwnVec ℕ Y)) (records : List ℕ)
    (reached : ℕ → Option Reach) (writable : List Writer) → level g.id slots ≡ structure_of g → ty ≡ slot_tree (level g.id slots) → length (numbered ty) ≤ 4096
    → shown ≡ map member_in (sources (level g.id slots)) → length own ≡ length g.members
    → ((n : ℕ) → n < length g.members → leaves_at own n ≡ places (is_number n) 0 shown) → records ≡ records_of g.members
    → Reaches records (reach_by (leaves_at own) g.members) reached
    → writable ≡ map (λ e. e.1) (writers_among (leaves_at own) [] (enumerate_from 0 g.members))
    → is_misplaced g.members ≡ false → is_doubled g.members ≡ false → type_fault ty ≡ None → length g.members ≤ 256 → IsBuilt g ty slots records reached writable
built_is g slots ty shown own records reached writable structure tree few is long leaves recs reaching writing placed single none members_few =
    let same : (n : ℕ) → leaves_at own n ≡ leaves_of g n = own_are g own shown long (is ∙ ap (λ (t : Slot). map member_in (sources t)) structure) leaves in
    record {
      tree = tree ∙ tree_is g slots structure;
      few = few;
      structure = structure;
      members = recs;
      reaching = reaches_are g (leaves_at own) records reached same reaching;
      writers_are = writers_are g (leaves_at own) writable same writing;
      faultless = fault_free g slots ty structure tree placed single none;
      members_few = members_few;
    }

pub structure_is : (g : GroupData) (slots : Slots) → slots ≡ slots_of (in_order (entries_of g.members)) → level g.id slots ≡ structure_of g
unfolding structure_of
structure_is g slots is = ap (level g.id) is

-- ---- a definition over configured records

module _ (configs : List Config) where
  pub within_of : (n k : ℕ) (defs : List MemberDef) → AllByRecursion (IsMember n k) defs
      → AllByRecursion (λ m. AllByRecursion (λ j. j < k) m.def.trigger) (map (member_of configs) defs)
  within_of n k [] all = tt
  within_of n k (m ∷ defs) all = (all.0.triggers, within_of n k defs all.1)

  link_over : (rec : ℕ) (o : Option Config) → slice_get configs rec ≡ o → MatchOption (option_map (λ config. record { rec = rec; config = config }) o) ⊤ (IsLinkOf configs)
  link_over rec None is = tt
  link_over rec (Some config) is = is

  rec_over : (o : Option ℕ) → MatchOption (option_and_then (link_of configs) o) ⊤ (IsLinkOf configs)
  rec_over None = tt
  rec_over (Some rec) = link_over rec (slice_get configs rec) refl

  pub over_of : (defs : List MemberDef) → AllByRecursion (λ m. MatchOption m.link ⊤ (IsLinkOf configs)) (map (member_of configs) defs)
  over_of [] = tt
  over_of (m ∷ defs) = (rec_over m.rec, over_of defs)

pub length_defs : (configs : List Config) (defs : List MemberDef) → length (map (member_of configs) defs) ≡ length defs
length_defs configs [] = refl
length_defs configs (m ∷ defs) = ap suc (length_defs configs defs)
