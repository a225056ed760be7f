-- Each source of a group's structure is of one of its members.
use Rattle.std.proofs.Common.{◌≡◌, ℕ, suc, ◌+◌, true, false, cond, List, [], ◌∷◌, ◌++◌, fold, Option, None, Some, refl, subst, arith}
use Rattle.std.specs.Prelude.{⊤, slice_get}
use Rattle.std.specs.declared.cmp.Ordering.TheVariants.{Less, Equal, Greater}
use Rattle.std.specs.BTreeMap.{insert_entry}
use Rattle.std.specs.List.{AllByRecursion, flat_map, enumerate_from}
use Rattle.std.specs.Ordering.{match_ordering}
use Rattle.std.specs.Str.{bytes_eq}
use Rattle.group_defs.specs.declared.def.MemberKind.{MemberKind}
use Rattle.group_defs.specs.declared.def.MemberKind.TheVariants as kinds
use Rattle.group_view.specs.Leaves.{reads}
use Rattle.group_view.specs.Links.{Link}
use Rattle.group_view.specs.Slots.{Path, path_cmp, Slot, shows, level, Slots, no_slots, slot, with_last, in_last, behind, slots_of, added, added_all, in_order, shown_by, ids_of, entries_by, entries_of, EachShown, EachOfShown}
use Rattle.group_view.specs.declared.entry.Entry.{Entry}
use Rattle.group_view.specs.declared.entry.Entry.TheVariants.{Shown, WithId}
use Rattle.group_view.specs.declared.member.Member.{Member}
use Rattle.group_view.specs.declared.piece.Piece.{Piece}
use Rattle.group_view.specs.declared.piece.Piece.TheVariants as pieces
use Rattle.group_view.specs.Sources.{Source}

module _ (P : Source → Type 0) where
  abbrev IsSo : Entry → Type 0
  IsSo (Shown s) = P s
  IsSo (WithId id) = ⊤

  abbrev AreSo : List (Path × Entry) → Type 0
  AreSo es = AllByRecursion (λ e. IsSo e.1) es

  so_append : (xs ys : List (Path × Entry)) → AreSo xs → AreSo ys → AreSo (xs ++ ys)
  so_append [] ys a b = b
  so_append (x ∷ xs) ys a b = (a.0, so_append xs ys a.1 b)

  so_inserted : (es : List (Path × Entry)) (path : Path) (e : Entry) → AreSo es → IsSo e → AreSo (insert_entry path_cmp es path e)
  so_inserted [] path e a b = (b, tt)
  so_inserted (x ∷ es) path e a b =
      elim (path_cmp path x.0) as (λ o. AreSo (match_ordering o ((path, e) ∷ x ∷ es) ((x.0, e) ∷ es) (x ∷ insert_entry path_cmp es path e))) [
        | Less ↦ (b, a)
        | Equal ↦ (b, a.1)
        | Greater ↦ (a.0, so_inserted es path e a.1 b)
      ]

  so_added : (sorted es : List (Path × Entry)) → AreSo sorted → AreSo es → AreSo (added_all sorted es)
  so_added sorted [] a b = a
  so_added sorted (e ∷ es) a b = so_added (added sorted e) es (so_inserted sorted e.0 e.1 a b.0) b.1

  with_last_so : (name : List ℕ) (s : Slot) (ss : Slots) → EachShown P s → EachOfShown P ss → EachOfShown P (with_last name s ss)
  with_last_so name s no_slots a b = (a, tt)
  with_last_so name s (slot other t ss) a b = (b.0, with_last_so name s ss a b.1)

  in_last_so : (name : List ℕ) (make : List ℕ → Slots → Slot) → ((id : List ℕ) (ss : Slots) → EachOfShown P ss → EachShown P (make id ss))
      → (ss : Slots) → EachOfShown P ss → EachOfShown P (in_last name make ss)
  in_last_so name make made no_slots a = (made [] no_slots tt, tt)
  in_last_so name make made (slot other (level id inner) no_slots) a =
      elim (bytes_eq name other) as (λ b. EachOfShown P (cond b (slot name (make id inner) no_slots) (slot other (level id inner) (slot name (make [] no_slots) no_slots)))) [
        | true ↦ (made id inner a.0, tt)
        | false ↦ (a.0, (made [] no_slots tt, tt))
      ]
  in_last_so name make made (slot other (shows s) no_slots) a = (a.0, (made [] no_slots tt, tt))
  in_last_so name make made (slot other (level id inner) (slot b t ss)) a = (a.0, in_last_so name make made (slot b t ss) a.1)
  in_last_so name make made (slot other (shows s) (slot b t ss)) a = (a.0, in_last_so name make made (slot b t ss) a.1)

  behind_so : (path : Path) (e : Entry) → IsSo e → (ss : Slots) → EachOfShown P ss → EachOfShown P (behind path e ss)
  behind_so [] e is ss a = a
  behind_so (name ∷ []) (Shown s) is ss a = with_last_so name (shows s) ss is a
  behind_so (name ∷ []) (WithId id) is ss a = in_last_so name (λ _ inner. level id inner) (λ _ inner b. b) ss a
  behind_so (name ∷ next ∷ path) e is ss a =
      in_last_so name (λ id inner. level id (behind (next ∷ path) e inner)) (λ id inner b. behind_so (next ∷ path) e is inner b) ss a

  slots_so : (es : List (Path × Entry)) (ss : Slots) → AreSo es → EachOfShown P ss → EachOfShown P (fold (λ ss e. behind e.0 e.1 ss) ss es)
  slots_so [] ss a b = b
  slots_so (e ∷ es) ss a b = slots_so es (behind e.0 e.1 ss) a.1 (behind_so e.0 e.1 a.0 ss b)

  -- what each member gives is so
  entries_so : (k : ℕ) (ms : List Member) → ((n : ℕ) (m : Member) → slice_get ms n ≡ Some m → AreSo (entries_by (k + n, m)))
      → AreSo (flat_map entries_by (enumerate_from k ms))
  entries_so k [] h = tt
  entries_so k (m ∷ ms) h =
      so_append (entries_by (k, m)) _ (subst (λ (n : ℕ). AreSo (entries_by (n, m))) (omega arith) (h 0 m refl))
      (entries_so (k + 1) ms (λ n x is. subst (λ (j : ℕ). AreSo (entries_by (j, x))) (omega arith) (h (suc n) x is)))

  -- so is each source of the structure
  pub each_so : (ms : List Member) → ((n : ℕ) (m : Member) → slice_get ms n ≡ Some m → AreSo (entries_by (n, m)))
      → EachOfShown P (slots_of (in_order (entries_of ms)))
  each_so ms h = slots_so (in_order (entries_of ms)) no_slots (so_added [] (entries_of ms) tt (entries_so 0 ms (λ n m is. subst (λ (j : ℕ). AreSo (entries_by (j, m))) (omega arith) (h n m is)))) tt

-- what a member of this kind shows
abbrev pub IsPieceOf : MemberKind → Piece → Type 0
IsPieceOf kinds.Whole p = p ≡ pieces.Whole
IsPieceOf kinds.Plain p = p ≡ pieces.Plain
IsPieceOf kind p = ⊤

pub record IsFrom (ms : List Member) (s : Source) : Type 0 where
  pub member : Member
  pub at : slice_get ms s.member ≡ Some member
  pub linked : member.link ≡ Some s.link
  pub reading : reads member.def.kind ≡ true
  pub piece : IsPieceOf member.def.kind s.piece

module _ (P : Source → Type 0) (n : ℕ) where
  shown_so : (kind : MemberKind) (name : List ℕ) (o : Option Link)
      → ((l : Link) (p : Piece) → o ≡ Some l → reads kind ≡ true → IsPieceOf kind p → P (record { member = n; piece = p; link = l })) → AreSo P (shown_by n kind name o)
  shown_so kind name None h = tt
  shown_so kinds.Whole name (Some l) h = (h l pieces.Whole refl refl refl, tt)
  shown_so kinds.Plain name (Some l) h = (h l pieces.Plain refl refl refl, tt)
  shown_so kinds.Any name (Some l) h = (h l pieces.Any refl refl tt, tt)
  shown_so kinds.Meta [] (Some l) h = (h l pieces.Alarm refl refl tt, (h l pieces.Time refl refl tt, tt))
  shown_so kinds.Meta (b ∷ bs) (Some l) h = (h l pieces.Meta refl refl tt, tt)
  shown_so kinds.Proc name (Some l) h = tt
  shown_so kinds.Structure name (Some l) h = tt

  ids_so : (kind : MemberKind) (name id : List ℕ) → AreSo P (ids_of kind name id)
  ids_so kinds.Structure name id = (tt, tt)
  ids_so kinds.Whole name id = tt
  ids_so kinds.Plain name id = tt
  ids_so kinds.Any name id = tt
  ids_so kinds.Meta name id = tt
  ids_so kinds.Proc name id = tt

pub from_members : (ms : List Member) → EachOfShown (IsFrom ms) (slots_of (in_order (entries_of ms)))
from_members ms =
    each_so (IsFrom ms) ms (λ n m at.
    so_append (IsFrom ms) (ids_of m.def.kind m.def.name m.def.id) (shown_by n m.def.kind m.def.name m.link)
    (ids_so (IsFrom ms) n m.def.kind m.def.name m.def.id)
    (shown_so (IsFrom ms) n m.def.kind m.def.name m.link (λ l p linked reading piece.
    record { member = m; at = at; linked = linked; reading = reading; piece = piece })))

-- what holds of each source that satisfies P
mutual
  pub each_then : (P Q : Source → Type 0) → ((s : Source) → P s → Q s) → (t : Slot) → EachShown P t → EachShown Q t
  each_then P Q h (shows s) a = h s a
  each_then P Q h (level id ss) a = each_of_then P Q h ss a

  pub each_of_then : (P Q : Source → Type 0) → ((s : Source) → P s → Q s) → (ss : Slots) → EachOfShown P ss → EachOfShown Q ss
  each_of_then P Q h no_slots a = tt
  each_of_then P Q h (slot name s ss) a = (each_then P Q h s a.0, each_of_then P Q h ss a.1)
