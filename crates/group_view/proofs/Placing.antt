-- An entry behind slots.
use Rattle.std.proofs.Common.{◌≡◌, ℕ, zero, suc, ◌<◌, false, List, [], ◌∷◌, ◌++◌, length, get_or, drop, map, Result, Ok, Err, if◌then◌else◌, refl, sym, ap, ◌∙◌, arith}
use Rattle.std.specs.Result.{OnOk}
use Rattle.std.specs.Str.{bytes_eq}
use Rattle.std.specs.Borrow.{Bor}
use Rattle.std.proofs.lemmas.Slice.Eq.{bytes_eq-Decides}
use Rattle.group_view.specs.Seen.{branch_seen, named_seen, slots_seen}
use Rattle.group_view.specs.Slots.{Slot, shows, level, Slots, no_slots, slot, with_last, in_last, behind, behind_to}
use Rattle.group_view.specs.declared.entry.Entry.{Entry}
use Rattle.group_view.specs.declared.entry.Entry.TheVariants.{Shown, WithId}
use Rattle.group_view.specs.declared.slots.Named.{Named}
use Rattle.group_view.proofs.Walks.{named_is}

pub slots_push : (ns : List Named) (n : Named) → slots_seen (ns ++ n ∷ []) ≡ with_last (named_seen n).0 (named_seen n).1 (slots_seen ns)
slots_push [] n = refl
slots_push (x ∷ ns) n = ap (slot (named_seen x).0 (named_seen x).1) (slots_push ns n)

-- what is made of the structure that stands last concerns the last slot alone
abbrev joined : Slots → Slots → Slots
joined no_slots ts = ts
joined (slot name s ss) ts = slot name s (joined ss ts)

last_of : (name : List ℕ) (s : Slot) (ss : Slots) → with_last name s ss ≡ joined ss (slot name s no_slots)
last_of name s no_slots = refl
last_of name s (slot other t ss) = ap (slot other t) (last_of name s ss)

module _ (name : List ℕ) (make : List ℕ → Slots → Slot) where
  inside : (ss : Slots) (other : List ℕ) (t : Slot) → in_last name make (joined ss (slot other t no_slots)) ≡ joined ss (in_last name make (slot other t no_slots))
  inside no_slots other t = refl
  inside (slot a (shows s) no_slots) other t = refl
  inside (slot a (level id inner) no_slots) other t = refl
  inside (slot a (shows s) (slot b u ss)) other t = ap (slot a (shows s)) (inside (slot b u ss) other t)
  inside (slot a (level id inner) (slot b u ss)) other t = ap (slot a (level id inner)) (inside (slot b u ss) other t)

  in_push : (ns : List Named) (n : Named) → in_last name make (slots_seen (ns ++ n ∷ []))
      ≡ joined (slots_seen ns) (in_last name make (slot (named_seen n).0 (named_seen n).1 no_slots))
  in_push ns n = ap (in_last name make) (slots_push ns n ∙ last_of _ _ (slots_seen ns)) ∙ inside (slots_seen ns) _ _

  -- the last slot is a structure of this name
  pub taken_level : (ns : List Named) (n : Named) (id : List ℕ) (inner : Slots) → named_seen n ≡ (name, level id inner)
      → in_last name make (slots_seen (ns ++ n ∷ [])) ≡ with_last name (make id inner) (slots_seen ns)
  taken_level ns n id inner is =
      in_push ns n
      ∙ ap (λ (p : List ℕ × Slot). joined (slots_seen ns) (in_last name make (slot p.0 p.1 no_slots))) is
      ∙ ap (λ b. joined (slots_seen ns) (if b then slot name (make id inner) no_slots else slot name (level id inner) (slot name (make [] no_slots) no_slots))) ((bytes_eq-Decides name name).1 refl)
      ∙ sym (last_of name (make id inner) (slots_seen ns))

  -- it is something else
  pub taken_none : (ns : List Named) (n other : Named) → named_seen other ≡ named_seen n
      → in_last name make (slot (named_seen n).0 (named_seen n).1 no_slots) ≡ slot (named_seen n).0 (named_seen n).1 (slot name (make [] no_slots) no_slots)
      → in_last name make (slots_seen (ns ++ n ∷ [])) ≡ with_last name (make [] no_slots) (slots_seen (ns ++ other ∷ []))
  taken_none ns n other same apart =
      in_push ns n ∙ ap (joined (slots_seen ns)) apart
      ∙ split (slots_seen ns)
      ∙ ap (λ (p : List ℕ × Slot). with_last name (make [] no_slots) (with_last p.0 p.1 (slots_seen ns))) (sym same)
      ∙ ap (with_last name (make [] no_slots)) (sym (slots_push ns other))
    where
      split : (ss : Slots) → joined ss (slot (named_seen n).0 (named_seen n).1 (slot name (make [] no_slots) no_slots))
          ≡ with_last name (make [] no_slots) (with_last (named_seen n).0 (named_seen n).1 ss)
      split no_slots = refl
      split (slot a s ss) = ap (slot a s) (split ss)

  -- another name than the one asked for
  pub other_name : (n : Named) → bytes_eq name n.name ≡ false → in_last name make (slot (named_seen n).0 (named_seen n).1 no_slots)
      ≡ slot (named_seen n).0 (named_seen n).1 (slot name (make [] no_slots) no_slots)
  other_name n differs = rw (named_is n) (by (branch_seen n.branch))
    where
      by : (s : Slot) → in_last name make (slot n.name s no_slots) ≡ slot n.name s (slot name (make [] no_slots) no_slots)
      by (shows s) = refl
      by (level id inner) =
          ap (λ b. if b then slot name (make id inner) no_slots else slot n.name (level id inner) (slot name (make [] no_slots) no_slots)) differs

pub on_ok : {A E : Type 0} {P Q : Type 0} (r : Result A E) → (P → Q) → OnOk r P → OnOk r Q
on_ok (Ok x) f h = f h
on_ok (Err e) f h = h

pub nothing_left : {A : Type 0} (xs : List A) → length xs ≡ 0 → xs ≡ []
nothing_left [] h = refl
nothing_left (x ∷ xs) h = absurd (omega arith)

-- what is put into the structure that stands last
pub put_in : (room left : ℕ) (path rest : List (Bor (List ℕ))) (first : Bor (List ℕ)) (e : Entry) (before mid after inner filled : Slots) (id name : List ℕ) (made : Slot)
    → room ≡ suc left → 1 < length path → rest ≡ drop 1 path → name ≡ (get_or path 0 first).now
    → ((make : List ℕ → Slots → Slot) → in_last name make before ≡ with_last name (make id inner) mid)
    → filled ≡ behind_to left (map (λ a. a.now) rest) e inner → made ≡ level id filled → after ≡ with_last name made mid
    → after ≡ behind_to room (map (λ a. a.now) path) e before
put_in room left (a ∷ b ∷ path) rest first e before mid after inner filled id name made more long is named taken put whole last =
    last
    ∙ ap (λ (s : Slot). with_last name s mid) (whole ∙ ap (level id) (put ∙ ap (λ (xs : List (Bor (List ℕ))). behind_to left (map (λ a. a.now) xs) e inner) is))
    ∙ sym (taken (λ id inner. level id (behind_to left (map (λ a. a.now) (b ∷ path)) e inner)))
    ∙ ap (λ (n : List ℕ). in_last n (λ id inner. level id (behind_to left (map (λ a. a.now) (b ∷ path)) e inner)) before) named
    ∙ sym (ap (λ (k : ℕ). behind_to k (map (λ a. a.now) (a ∷ b ∷ path)) e before) more)
put_in room left (a ∷ []) rest first e before mid after inner filled id name made more long is named taken put whole last = absurd (omega arith)
put_in room left [] rest first e before mid after inner filled id name made more long is named taken put whole last = absurd (omega arith)

-- nothing is put where there is no room, or under no name
pub put_nowhere : (room : ℕ) (path : List (Bor (List ℕ))) (e : Entry) (ss : Slots) → room ≡ 0 → ss ≡ behind_to room (map (λ a. a.now) path) e ss
put_nowhere zero path e ss none = refl
put_nowhere (suc room) path e ss none = absurd (omega arith)

pub put_unnamed : (room : ℕ) (path : List (Bor (List ℕ))) (e : Entry) (ss : Slots) → length path ≡ 0 → ss ≡ behind_to room (map (λ a. a.now) path) e ss
put_unnamed zero path e ss none = refl
put_unnamed (suc room) [] e ss none = refl
put_unnamed (suc room) (a ∷ path) e ss none = absurd (omega arith)

-- one name
pub put_named : (room left : ℕ) (path : List (Bor (List ℕ))) (first : Bor (List ℕ)) (e : Entry) (before after : Slots) (name : List ℕ) → room ≡ suc left
    → length path ≡ 1 → name ≡ (get_or path 0 first).now → after ≡ behind (name ∷ []) e before → after ≡ behind_to room (map (λ a. a.now) path) e before
put_named room left (a ∷ []) first e before after name more long named is =
    is ∙ ap (λ (n : List ℕ). behind (n ∷ []) e before) named ∙ by e ∙ sym (ap (λ (k : ℕ). behind_to k (a.now ∷ []) e before) more)
  where
    by : (x : Entry) → behind (a.now ∷ []) x before ≡ behind_to (suc left) (a.now ∷ []) x before
    by (Shown s) = refl
    by (WithId id) = refl
put_named room left [] first e before after name more long named is = absurd (omega arith)
put_named room left (a ∷ b ∷ path) first e before after name more long named is = absurd (omega arith)
