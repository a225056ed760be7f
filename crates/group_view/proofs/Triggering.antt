-- The parts that a record triggers, and the states of its footprint.
use Rattle.std.proofs.Common.{◌≡◌, ℕ, zero, suc, ◌+◌, ◌-◌, ◌<◌, ◌≤◌, Bool, true, false, cond, List, [], ◌∷◌, ◌++◌, length, map, Option, None, Some, refl, sym, ap, ◌∙◌, subst, arith, inl, inr, ◌⊎◌}
use Rattle.std.specs.Prelude.{⊤, slice_get, MatchOption}
use Rattle.std.specs.FinSet.{FinSet, contains, empty, contains-empty}
use Rattle.std.specs.List.{AllByRecursion}
use Rattle.std.specs.Option.{option_and_then, IfSome}
use Rattle.std.specs.Ordering.{nat_cmp}
use Rattle.std.proofs.lemmas.Bool.{false≢true, cases_lt}
use Rattle.std.proofs.lemmas.Bool.Decides.{Decides-eqb}
use Rattle.std.proofs.lemmas.List.{length-append}
use Rattle.pvd_type.specs.Numbers.{numbered, numbered_fields, is_leaf}
use Rattle.pvd_type.specs.SameLaws.{both}
use Rattle.pvd_type.specs.Tree.{Tree}
use Rattle.pvd_value.specs.Data.{Data, members, Row, more}
use Rattle.pvd_value.specs.Fits.{fits_of, row_fits}
use Rattle.pvd_value.specs.Leaves.{row_in}
use Rattle.pvd_value.specs.Merge.{merged, merged_row}
use Rattle.pvd_value.proofs.Slots.{row_of_struct}
use Rattle.pvd_value.proofs.Unmarked.{Misses}
use Rattle.rec_kinds.specs.Configs.{Config}
use Rattle.rec_kinds.specs.Validity.{IsValid}
use Rattle.rec_kinds.specs.declared.state.RecState.{RecState}
use Rattle.group_view.specs.Groups.{GroupData, IsLinkOf, IsOver, HasState}
use Rattle.group_view.specs.Laws.{IsWithin, PartsReadFootprint, FootprintMakesReady}
use Rattle.group_view.specs.Leaves.{sources, sources_among, source_at, is_of, places, leaves_of, triggered_by, triggered, read_by, footprint}
use Rattle.group_view.specs.Links.{Link}
use Rattle.group_view.specs.Slots.{Slot, shows, level, Slots, no_slots, slot, structure_of, slots_of, in_order, entries_of, EachShown}
use Rattle.group_view.specs.Types.{source_tree, slot_tree, slot_fields, group_tree}
use Rattle.group_view.specs.Views.{shown_or_blank, source_shown, slot_shown, slots_shown, group_shown, IsReadyUnder, AreReadyUnder, IsReadyFor}
use Rattle.group_view.specs.declared.member.Member.{Member}
use Rattle.group_view.specs.Sources.{Source}
use Rattle.group_view.proofs.Depending.{all_places, at, each_there, flat, in_set, length_sources, length_among, read_is, slice_left, slice_right, unfiltered, unrising}
use Rattle.group_view.proofs.Froms.{IsFrom, from_members}
use Rattle.group_view.proofs.Merging.{unmarked}

-- a source of which this is so stands here
abbrev pub IsAt : (Source → Type 0) → Option (Option Source) → Type 0
IsAt P (Some (Some s)) = P s
IsAt P _ = ⊥

-- ---- the sources under the leaves that a record triggers

module _ (g : GroupData) (rec : ℕ) (Q : ℕ → Type 0) where
  abbrev IsRead : Source → Type 0
  IsRead s = IsFrom g.members s × Q s.link.rec

  abbrev whole : Slot
  whole = level g.id (slots_of (in_order (entries_of g.members)))

  read_at : (n j : ℕ) (o : Option Source) → IfSome (option_and_then read_by (slice_get g.members n)) Q → slice_get (sources whole) j ≡ Some o → is_of n o ≡ true
      → IsAt IsRead (Some o)
  read_at n j None read there is = absurd (false≢true is)
  read_at n j (Some s) read there is =
      let from = at (λ o. IfSome o (IsFrom g.members)) (sources whole) j (Some s) (each_there (IsFrom g.members) whole (from_members g.members)) there in
      let same : n ≡ s.member = sym ((Decides-eqb s.member n).0 is) in
      (from, subst (λ (o : Option ℕ). IfSome o Q) (ap (λ k. option_and_then read_by (slice_get g.members k)) same ∙ read_is g.members s from) read)

  leaves_read : (n : ℕ) → IfSome (option_and_then read_by (slice_get g.members n)) Q
      → AllByRecursion (λ k. IsAt IsRead (slice_get (sources whole) k)) (places (is_of n) 0 (sources whole))
  leaves_read n read =
      all_places (is_of n) (λ k. IsAt IsRead (slice_get (sources whole) k)) 0 (sources whole)
      (λ j o there is. subst (λ (k : ℕ). IsAt IsRead (slice_get (sources whole) k)) (omega arith) (subst (IsAt IsRead) (sym there) (read_at n j o read there is)))

  pub triggered_read : AllByRecursion Q (footprint g rec) → (k : ℕ) → contains (triggered g rec) k ≡ true → IsAt IsRead (slice_get (sources whole) k)
  unfolding structure_of triggered footprint leaves_of
  triggered_read all k marked =
      let read = unfiltered Q (λ n. option_and_then read_by (slice_get g.members n)) (triggered_by g.members rec) (unrising Q _ all) in
      let leaves = flat (λ n. IfSome (option_and_then read_by (slice_get g.members n)) Q) (λ k. IsAt IsRead (slice_get (sources whole) k)) (λ n. places (is_of n) 0 (sources whole))
      leaves_read (triggered_by g.members rec) read in
      in_set (λ k. IsAt IsRead (slice_get (sources whole) k)) _ empty leaves (λ q e. absurd (false≢true (sym (contains-empty nat_cmp q) ∙ e))) k marked

-- ---- a mask whose numbers stand at such sources

at_source : (P : Source → Type 0) (s : Source) (ts : List Tree) (j : ℕ) → IsAt P (slice_get (map (source_at s) ts) j) → P s
at_source P s [] j h = absurd h
at_source P s (t ∷ ts) zero h = elim (is_leaf t) as (λ b. IsAt P (Some (cond b (Some s) None)) → P s) [ true ↦ λ x. x | false ↦ λ x. absurd x ] h
at_source P s (t ∷ ts) (suc j) h = at_source P s ts j h

-- one of so many numbers passes, or none
passes : (mask : ℕ → Bool) (n count : ℕ) → ((j : ℕ) × (j < count) × (mask (n + j) ≡ true)) ⊎ Misses mask n count
passes mask n zero = inr (λ k from to. absurd (omega (arith, from, to)))
passes mask n (suc count) =
    elim (mask n) as (λ b. mask n ≡ b → ((j : ℕ) × (j < suc count) × (mask (n + j) ≡ true)) ⊎ Misses mask n (suc count)) [
      | true ↦ λ e. let zero_n : n + 0 ≡ n = omega arith in inl (0, omega arith, ap mask zero_n ∙ e)
      | false ↦ λ e. elim (passes mask (n + 1) count) [
        | inl p ↦ let next : n + suc p.0 ≡ (n + 1) + p.0 = omega arith in inl (suc p.0, omega (arith, p.1), ap mask next ∙ p.2)
        | inr none ↦ inr (λ k from to. elim (cases_lt n k) [
          | inl lt ↦ none k (omega (arith, lt)) (omega (arith, to))
          | inr ge ↦ let same : k ≡ n = omega (arith, from, ge) in ap mask same ∙ e
        ])
      ]
    ] refl

module _ (mask : FinSet nat_cmp) (P : Source → Type 0) where
  -- of what is shown under a name, whose node has this number
  abbrev StandsAt : ℕ → Slot → Type 0
  StandsAt n t = (j : ℕ) → j < length (sources t) → contains mask (n + j) ≡ true → IsAt P (slice_get (sources t) j)

  abbrev StandAmong : ℕ → Slots → Type 0
  StandAmong n ss = (j : ℕ) → j < length (sources_among ss) → contains mask (n + j) ≡ true → IsAt P (slice_get (sources_among ss) j)

  inside : (n : ℕ) (id : List ℕ) (ss : Slots) → StandsAt n (level id ss) → StandAmong (n + 1) ss
  inside n id ss h j lt marked =
      let next : n + suc j ≡ (n + 1) + j = omega arith in
      h (suc j) (omega (arith, lt)) (ap (contains mask) next ∙ marked)

  first : (n : ℕ) (name : List ℕ) (s : Slot) (ss : Slots) → StandAmong n (slot name s ss) → StandsAt n s
  first n name s ss h j lt marked =
      let len = length-append (sources s) (sources_among ss) in
      subst (IsAt P) (slice_left (sources s) (sources_among ss) j lt) (h j (omega (arith, lt, len)) marked)

  others : (n : ℕ) (name : List ℕ) (s : Slot) (ss : Slots) → StandAmong n (slot name s ss) → StandAmong (n + length (numbered (slot_tree s))) ss
  others n name s ss h j lt marked =
      let len = length-append (sources s) (sources_among ss) in
      let long = length_sources s in
      let there : n + (length (sources s) + j) ≡ (n + length (numbered (slot_tree s))) + j = omega (arith, long) in
      subst (IsAt P) (slice_right (sources s) (sources_among ss) j) (h (length (sources s) + j) (omega (arith, lt, len)) (ap (contains mask) there ∙ marked))

-- ---- the merged values are the same

module _ (mask : FinSet nat_cmp) (a b : List RecState) where
  abbrev IsSame : Source → Type 0
  IsSame s = slice_get a s.link.rec ≡ slice_get b s.link.rec

  mutual
    same_part : (t : Slot) (n : ℕ) (old : Data) → fits_of 16 old (slot_tree t) ≡ true → StandsAt mask IsSame n t
        → merged (contains mask) n (slot_tree t) old (slot_shown a t) ≡ merged (contains mask) n (slot_tree t) old (slot_shown b t)
    same_part (shows s) n old fits h =
        let t = source_tree s in
        elim (passes (contains mask) n (length (numbered t))) [
          | inl p ↦
              let same : IsSame s = at_source IsSame s (numbered t) p.0 (h p.0 (let long = length_sources (shows s) in omega (arith, p.1, long)) p.2) in
              ap (λ (o : Option RecState). merged (contains mask) n t old (shown_or_blank s o)) same
          | inr none ↦ unmarked (contains mask) n t old (source_shown a s) fits none ∙ sym (unmarked (contains mask) n t old (source_shown b s) fits none)
        ]
    same_part (level id ss) n old fits h =
        ap members (same_parts ss (n + 1) (row_in old) (row_of_struct 16 old id (slot_fields ss) fits) (inside mask IsSame n id ss h))

    same_parts : (ss : Slots) (n : ℕ) (old : Row) → row_fits 16 old (slot_fields ss) ≡ true → StandAmong mask IsSame n ss
        → merged_row (contains mask) n (slot_fields ss) old (slots_shown a ss) ≡ merged_row (contains mask) n (slot_fields ss) old (slots_shown b ss)
    same_parts no_slots n old fits h = refl
    same_parts (slot name s ss) n (more x old) fits h =
        let p = both (fits_of 16 x (slot_tree s)) (row_fits 16 old (slot_fields ss)) fits in
        (λ i. more (same_part s n x p.0 (first mask IsSame n name s ss h) i)
        (same_parts ss (n + length (numbered (slot_tree s))) old p.1 (others mask IsSame n name s ss h) i))
    same_parts (slot name s ss) n _ fits h = absurd (false≢true fits)

pub parts_read : (g : GroupData) (rec : ℕ) → PartsReadFootprint g rec
unfolding group_shown group_tree structure_of
parts_read g rec mask a b old inside agree fits =
    same_part mask a b (level g.id (slots_of (in_order (entries_of g.members)))) 0 old fits
    (λ j lt marked. by (slice_get (sources (level g.id (slots_of (in_order (entries_of g.members))))) j)
    (triggered_read g rec (λ r. slice_get a r ≡ slice_get b r) agree j (inside j (let e : 0 + j ≡ j = omega arith in sym (ap (contains mask) e) ∙ marked))))
  where
    by : (o : Option (Option Source)) → IsAt (λ s. IsFrom g.members s × (slice_get a s.link.rec ≡ slice_get b s.link.rec)) o → IsAt (IsSame mask a b) o
    by None h = h
    by (Some None) h = h
    by (Some (Some s)) h = h.1

-- ---- the records that are shown have states

module _ (mask : FinSet nat_cmp) (states : List RecState) where
  abbrev IsStated : Source → Type 0
  IsStated s = HasState states s.link

  mutual
    ready_part : (t : Slot) (n : ℕ) → StandsAt mask IsStated n t → IsReadyUnder mask states n t
    ready_part (shows s) n h = λ k from to marked.
        let j = k - n in
        let there : n + j ≡ k = omega (arith, from) in
        let long = length_sources (shows s) in
        at_source IsStated s (numbered (source_tree s)) j (h j (omega (arith, from, to, long)) (ap (contains mask) there ∙ marked))
    ready_part (level id ss) n h = ready_parts ss (n + 1) (inside mask IsStated n id ss h)

    ready_parts : (ss : Slots) (n : ℕ) → StandAmong mask IsStated n ss → AreReadyUnder mask states n ss
    ready_parts no_slots n h = tt
    ready_parts (slot name s ss) n h =
        (ready_part s n (first mask IsStated n name s ss h), ready_parts ss (n + length (numbered (slot_tree s))) (others mask IsStated n name s ss h))

pub footprint_ready : (g : GroupData) (rec : ℕ) → FootprintMakesReady g rec
unfolding structure_of IsReadyFor
footprint_ready g rec mask configs states over inside valid =
    ready_part mask states (level g.id (slots_of (in_order (entries_of g.members)))) 0
    (λ j lt marked. by (slice_get (sources (level g.id (slots_of (in_order (entries_of g.members))))) j)
    (triggered_read g rec (λ r. (config : Config) → slice_get configs r ≡ Some config → MatchOption (slice_get states r) ⊥ (IsValid config)) valid j
    (inside j (let e : 0 + j ≡ j = omega arith in sym (ap (contains mask) e) ∙ marked))))
  where
    by : (o : Option (Option Source))
        → IsAt (λ s. IsFrom g.members s × ((config : Config) → slice_get configs s.link.rec ≡ Some config → MatchOption (slice_get states s.link.rec) ⊥ (IsValid config))) o
        → IsAt (IsStated mask states) o
    by None h = h
    by (Some None) h = h
    by (Some (Some s)) h =
        let linked : IsLinkOf configs s.link =
        subst (λ (o : Option Link). MatchOption o ⊤ (IsLinkOf configs)) h.0.linked (at (λ m. MatchOption m.link ⊤ (IsLinkOf configs)) g.members s.member h.0.member over h.0.at) in
        h.1 s.link.config linked
