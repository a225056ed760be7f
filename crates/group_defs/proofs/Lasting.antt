-- The definitions of sound groups are sound.
use Rattle.std.proofs.Common.{◌≡◌, ◌==◌, ℕ, suc, ◌+◌, ◌<◌, ◌≤◌, Bool, true, false, cond, List, [], ◌∷◌, length, map, Option, None, Some, Result, Ok, Err, nat_lt, refl, sym, ap, ◌∙◌, subst, arith, lit≤}
use Rattle.std.specs.Prelude.{position}
use Rattle.std.specs.List.{AllByRecursion, IsDistinct, enumerate_from, filter_map, cons_option, position_or_len}
use Rattle.std.specs.List.Sorted.{IsStrictlySortedBy}
use Rattle.std.specs.Map.{keys_of}
use Rattle.std.specs.Str.{bytes_eq}
use Rattle.std.proofs.lemmas.Bool.Decides.{nat_tests}
use Rattle.rec_kinds.specs.declared.record_text.RecText.{RecText}
use Rattle.group_defs.specs.Told.{◌>>=◌, each}
use Rattle.group_defs.specs.Order.{text_cmp}
use Rattle.group_defs.specs.Joined.{Joined}
use Rattle.group_defs.specs.Joining.{join_texts}
use Rattle.group_defs.specs.Statements.{Groups}
use Rattle.group_defs.specs.Triggers as spec
use Rattle.group_defs.specs.Triggers.{trigger_of, number_of, numbers_from, numbers_in}
use Rattle.group_defs.specs.Checking.{listed_members, listed_group, listed, names_of, has_lost, is_taken, fault_of, fault_from, has_trigger, triggered, member_def, group_def}
use Rattle.group_defs.specs.Sound.{IsMember, IsGroup, AreGroups}
use Rattle.group_defs.specs.declared.said.MemberText.{MemberText}
use Rattle.group_defs.specs.declared.def.GroupDef.{GroupDef}
use Rattle.group_defs.specs.declared.def.MemberDef.{MemberDef}
use Rattle.group_defs.specs.declared.listed.Group.{Group}
use Rattle.group_defs.specs.declared.fault.GroupFault.{GroupFault}
use Rattle.group_defs.specs.declared.fault.GroupFault.TheVariants.{UnknownTrigger, NameTaken, TooMany}
use Rattle.group_defs.proofs.Sounds.{IsStated, IsSound, no_ok, other, texts_sound}

-- the place of a name is one of the list's
position_below : (p : List ℕ → Bool) (xs : List (List ℕ)) (n : ℕ) → position p xs ≡ Some n → n < length xs
position_below p xs n h = go (nat_lt (position_or_len p xs) (length xs)) refl h
  where
    go : (b : Bool) → nat_lt (position_or_len p xs) (length xs) ≡ b → cond b (Some (position_or_len p xs)) None ≡ Some n → n < length xs
    go true is e = let same : position_or_len p xs ≡ n = cc in grind (arith, nat_tests)
    go false is e = let never : ⊥ = cc in absurd never

number_below : (names : List (List ℕ)) (name : List ℕ) (n : ℕ) → number_of names name ≡ Some n → n < length names
number_below names name n h = go (length name == 0) h
  where
    go : (b : Bool) → cond b None (position (bytes_eq name) names) ≡ Some n → n < length names
    go true e = let never : ⊥ = cc in absurd never
    go false e = position_below (bytes_eq name) names n e

all_below : (n : ℕ) (names : List (List ℕ)) (all : ℕ) → n + length names ≤ all → AllByRecursion (λ m. m < all) (numbers_from n names)
all_below n [] all h = tt
all_below n (name ∷ names) all h = (omega arith, all_below (suc n) names all (omega arith))

those_below : (names those : List (List ℕ)) → AllByRecursion (λ m. m < length names) (filter_map (number_of names) those)
those_below names [] = tt
those_below names (name ∷ those) = go (those_below names those) (number_of names name) refl
  where
    go : AllByRecursion (λ m. m < length names) (filter_map (number_of names) those) → (o : Option ℕ) → number_of names name ≡ o → AllByRecursion (λ m. m < length names) (cons_option o (filter_map (number_of names) those))
    go rest None e = rest
    go rest (Some n) e = (number_below names name n e, rest)

numbers_below : (names : List (List ℕ)) (t : spec.Trigger) → AllByRecursion (λ m. m < length names) (numbers_in names t)
numbers_below names spec.all = all_below 0 names (length names) (omega arith)
numbers_below names (spec.those those) = those_below names those

triggers_below : (names : List (List ℕ)) (some : Bool) (n : ℕ) (trigger : Option (List ℕ)) → n < length names → AllByRecursion (λ m. m < length names) (triggered names some n trigger)
triggers_below names true n None h = tt
triggers_below names false n None h = (h, tt)
triggers_below names some n (Some text) h = numbers_below names (trigger_of text)

at_most : (n m : ℕ) → nat_lt n m ≡ false → m ≤ n
at_most n m h = grind (arith, nat_tests)

module _ (records : ℕ) (names : List (List ℕ)) (some : Bool) where
  abbrev defs : ℕ → List (List ℕ × MemberText) → List MemberDef
  defs n ms = map (λ m. member_def names some m.0 m.1) (enumerate_from n (listed_members ms))

  names_stay : (n : ℕ) (ms : List (List ℕ × MemberText)) → map (λ (m : MemberDef). m.name) (defs n ms) ≡ keys_of ms
  names_stay n [] = refl
  names_stay n (m ∷ ms) = ap (λ (xs : List (List ℕ)). m.0 ∷ xs) (names_stay (n + 1) ms)

  count_stays : (n : ℕ) (ms : List (List ℕ × MemberText)) → length (defs n ms) ≡ length ms
  count_stays n [] = refl
  count_stays n (m ∷ ms) = ap (λ (k : ℕ). suc k) (count_stays (n + 1) ms)

  members_last : (n : ℕ) (ms : List (List ℕ × MemberText)) → n + length ms ≤ length names → AllByRecursion (λ m. IsStated records m.0 m.1) ms
      → AllByRecursion (IsMember records (length names)) (defs n ms)
  members_last n [] h s = tt
  members_last n (m ∷ ms) h s = (
    record { named = s.0.named; recorded = s.0.recorded; triggers = triggers_below names some n m.1.trigger (omega arith) },
    members_last (n + 1) ms (omega arith) s.1,
  )

names_count : (ms : List (List ℕ × MemberText)) → length (names_of (listed_members ms)) ≡ length ms
names_count [] = refl
names_count (m ∷ ms) = ap (λ (k : ℕ). suc k) (names_count ms)

-- ---- groups that are checked

few_at : (texts : List RecText) (total before : ℕ) (g : Group) (u : Unit {0}) → fault_of texts total before g ≡ Ok u → (before ≤ 1023) × (length g.members ≤ 256)
unfolding fault_of
few_at texts total before g u h =
    let known = other (has_lost g.members) _ u (UnknownTrigger g.name) h in
    let free = other (is_taken texts g.name) _ u (NameTaken g.name) known.1 in
    let groups = other (nat_lt 1023 before) _ u (TooMany total) free.1 in
    let members = other (nat_lt 256 (length g.members)) (Ok tt) u (TooMany (length g.members)) groups.1 in
    let few_groups : nat_lt 1023 before ≡ false = groups.0 in
    let few_members : nat_lt 256 (length g.members) ≡ false = members.0 in
    (at_most 1023 before few_groups, at_most 256 (length g.members) few_members)

few_from : (texts : List RecText) (total n : ℕ) (gs : List Group) → n ≤ 1024 → each (λ _ g. fault_of texts total g.0 g.1) tt (enumerate_from n gs) ≡ Ok tt
    → (n + length gs ≤ 1024) × AllByRecursion (λ g. length g.members ≤ 256) gs
few_from texts total n [] h e = (omega arith, tt)
few_from texts total n (g ∷ gs) h e = go (λ (h : n + 1 ≤ 1024) (e : each (λ _ g. fault_of texts total g.0 g.1) tt (enumerate_from (n + 1) gs) ≡ Ok tt). few_from texts total (n + 1) gs h e) (fault_of texts total n g) refl e
  where
    go : (n + 1 ≤ 1024 → each (λ _ g. fault_of texts total g.0 g.1) tt (enumerate_from (n + 1) gs) ≡ Ok tt → (n + 1 + length gs ≤ 1024) × AllByRecursion (λ g. length g.members ≤ 256) gs)
        → (r : Result (Unit {0}) GroupFault) → fault_of texts total n g ≡ r → (r >>= λ s. each (λ _ g. fault_of texts total g.0 g.1) s (enumerate_from (n + 1) gs)) ≡ Ok tt
        → (n + length (g ∷ gs) ≤ 1024) × AllByRecursion (λ g. length g.members ≤ 256) (g ∷ gs)
    go more (Ok u) was e =
        let here = few_at texts total n g u was in
        let rest = more (omega (arith, here.0)) e in
        (omega (arith, rest.0), (here.1, rest.1))
    go more (Err fault) was e = absurd (no_ok fault tt _ refl e)

-- where no group has a fault, there are few and each has few members
pub few_groups : (texts : List RecText) (gs : List Group) → fault_from texts gs ≡ Ok tt → (length gs ≤ 1024) × AllByRecursion (λ g. length g.members ≤ 256) gs
few_groups texts gs h = let few = few_from texts (length gs) 0 gs (lit≤ tt) h in (omega (arith, few.0), few.1)

listed_count : (ms : List (List ℕ × MemberText)) → length (listed_members ms) ≡ length ms
listed_count [] = refl
listed_count (m ∷ ms) = ap (λ (k : ℕ). suc k) (listed_count ms)

group_lasts : (records : ℕ) (e : List ℕ × Joined) → IsSound records e.1 → length (listed_group e).members ≤ 256 → IsGroup records (group_def (listed_group e))
group_lasts records e s h =
    let ms = e.1.members in
    let names = names_of (listed_members ms) in
    let some = has_trigger (listed_members ms) in
    let count : length (defs records names some 0 ms) ≡ length names = count_stays records names some 0 ms ∙ sym (names_count ms) in
    let fits : 0 + length ms ≤ length names = omega (arith, names_count ms) in
    record {
      sorted = subst (IsStrictlySortedBy text_cmp) (sym (names_stay records names some 0 ms)) s.sorted;
      few = omega (arith, count, names_count ms, listed_count ms, h);
      all_members = subst (λ (k : ℕ). AllByRecursion (IsMember records k) (defs records names some 0 ms)) (sym count) (members_last records names some 0 ms fits s.stated);
    }

groups_last : (records : ℕ) (gs : Groups) → AllByRecursion (λ e. IsSound records e.1) gs → AllByRecursion (λ g. length g.members ≤ 256) (listed gs) → AllByRecursion (IsGroup records) (map group_def (listed gs))
groups_last records [] s h = tt
groups_last records (e ∷ es) s h = (group_lasts records e s.0 h.0, groups_last records es s.1 h.1)

group_names : (gs : Groups) → map (λ (g : GroupDef). g.name) (map group_def (listed gs)) ≡ keys_of gs
group_names [] = refl
group_names (e ∷ es) = ap (λ (xs : List (List ℕ)). e.0 ∷ xs) (group_names es)

group_count : (gs : Groups) → length (map group_def (listed gs)) ≡ length (listed gs)
group_count [] = refl
group_count (e ∷ es) = ap (λ (k : ℕ). suc k) (group_count es)

-- what is read is sound
pub read_last : (texts : List RecText) (gs : Groups) (groups : List Group) (defs : List GroupDef) → join_texts texts ≡ Ok gs → groups ≡ listed gs → fault_from texts groups ≡ Ok tt
    → defs ≡ map group_def groups → AreGroups (length texts) defs
read_last texts gs groups defs joined listing free made =
    let few = few_groups texts (listed gs) (subst (λ (groups : List Group). fault_from texts groups ≡ Ok tt) listing free) in
    let sound = texts_sound texts gs joined in
    subst (AreGroups (length texts)) (sym (made ∙ ap (map group_def) listing))
    (record {
      distinct = subst (IsDistinct bytes_eq) (sym (group_names gs)) sound.distinct;
      few = omega (arith, group_count gs, few.0);
      all_groups = groups_last (length texts) gs sound.all_sound few.1;
    })
