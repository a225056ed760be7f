-- Entries that stand in a map.
use Rattle.std.proofs.Common.{◌≡◌, ℕ, ◌+◌, ◌<◌, List, [], ◌∷◌, ◌++◌, length, get_or, drop, map, codes, Some, refl, sym, ap, ◌∙◌, arith, add-one}
use Rattle.std.proofs.lemmas.List.Sums.{fold-append}
use Rattle.std.proofs.Math.Seq.{drop-cons}
use Rattle.std.specs.declared.cmp.Ordering.{Ordering}
use Rattle.std.specs.declared.cmp.Ordering.TheVariants.{Less, Equal, Greater}
use Rattle.std.specs.BTreeMap.{insert_entry}
use Rattle.std.specs.Borrow.{Bor}
use Rattle.std.specs.Cmp.Lexicographic.{slice_cmp}
use Rattle.std.specs.Global.{Vec}
use Rattle.std.specs.List.{flat_map, enumerate_from}
use Rattle.std.specs.Ordering.{nat_cmp, ordering_then, match_ordering}
use Rattle.pvd_type.specs.Numbers.{path_of}
use Rattle.group_defs.specs.Order.{text_cmp}
use Rattle.group_defs.specs.declared.def.MemberKind.{MemberKind}
use Rattle.group_defs.specs.declared.def.MemberKind.TheVariants as kinds
use Rattle.group_view.specs.Links.{Link}
use Rattle.group_view.specs.Seen.{path_seen, entries_seen}
use Rattle.group_view.specs.Slots.{Path, path_cmp, alarm_path, time_path, shown_by, added, added_all, entries_by}
use Rattle.group_view.specs.declared.entry.Entry.{Entry}
use Rattle.group_view.specs.declared.entry.Entry.TheVariants.{Shown}
use Rattle.group_view.specs.declared.piece.Piece.TheVariants as pieces
use Rattle.group_view.specs.declared.member.Member.{Member}

abbrev borrowed_cmp : List (Bor (List ℕ)) → List (Bor (List ℕ)) → Ordering
borrowed_cmp xs ys = slice_cmp (λ a b. slice_cmp nat_cmp a.now b.now) xs ys

same_order : (xs ys : List (Bor (List ℕ))) → borrowed_cmp xs ys ≡ path_cmp (map (λ a. a.now) xs) (map (λ a. a.now) ys)
same_order [] [] = refl
same_order [] (y ∷ ys) = refl
same_order (x ∷ xs) [] = refl
same_order (x ∷ xs) (y ∷ ys) = ap (ordering_then (text_cmp x.now y.now)) (same_order xs ys)

-- an entry of the map is one of its paths
pub inserted_seen : (es : List (Vec (Bor (List ℕ)) × Entry)) (k : Vec (Bor (List ℕ))) (v : Entry)
    → entries_seen (insert_entry (λ x y. borrowed_cmp x.items y.items) es k v) ≡ added (entries_seen es) (path_seen k, v)
inserted_seen [] k v = refl
inserted_seen (e ∷ es) k v =
    (elim (borrowed_cmp k.items e.0.items) as (λ o. entries_seen (match_ordering o ((k, v) ∷ e ∷ es) ((e.0, v) ∷ es) (e ∷ insert_entry (λ x y. borrowed_cmp x.items y.items) es k v))
    ≡ match_ordering o ((path_seen k, v) ∷ entries_seen (e ∷ es)) ((path_seen e.0, v) ∷ entries_seen es) ((path_seen e.0, e.1) ∷ added (entries_seen es) (path_seen k, v))) [
      | Less ↦ refl
      | Equal ↦ refl
      | Greater ↦ ap (λ (xs : List (Path × Entry)). (path_seen e.0, e.1) ∷ xs) (inserted_seen es k v)
    ])
    ∙ ap (λ o. match_ordering o ((path_seen k, v) ∷ entries_seen (e ∷ es)) ((path_seen e.0, v) ∷ entries_seen es) ((path_seen e.0, e.1) ∷ added (entries_seen es) (path_seen k, v)))
    (same_order k.items e.0.items)

pub inserted_as : (es after : List (Vec (Bor (List ℕ)) × Entry)) (k : Vec (Bor (List ℕ))) (v w : Entry) (path : Path)
    → after ≡ insert_entry (λ x y. borrowed_cmp x.items y.items) es k v → path_seen k ≡ path → v ≡ w
    → entries_seen after ≡ added (entries_seen es) (path, w)
inserted_as es after k v w path is at same =
    ap entries_seen is ∙ inserted_seen es k v ∙ (λ i. added (entries_seen es) (at i, same i))

pub alarm_is : path_of (codes "alarm") ≡ alarm_path
unfolding alarm_path
alarm_is = refl

pub time_is : path_of (codes "timeStamp") ≡ time_path
unfolding time_path
time_is = refl

-- the member with the empty name
pub meta_added : (n : ℕ) (kind : MemberKind) (name : List ℕ) (link : Link) (before middle after : List (Path × Entry)) → kind ≡ kinds.Meta → length name ≡ 0
    → middle ≡ added before (path_of (codes "alarm"), Shown (record { member = n; piece = pieces.Alarm; link = link }))
    → after ≡ added middle (path_of (codes "timeStamp"), Shown (record { member = n; piece = pieces.Time; link = link }))
    → after ≡ added_all before (shown_by n kind name (Some link))
meta_added n kind [] link before middle after is none first last =
    last
    ∙ (λ i. added (first i) (time_is i, Shown (record { member = n; piece = pieces.Time; link = link })))
    ∙ ap (λ (p : Path). added (added before (p, Shown (record { member = n; piece = pieces.Alarm; link = link }))) (time_path, Shown (record { member = n; piece = pieces.Time; link = link }))) alarm_is
    ∙ sym (ap (λ k. added_all before (shown_by n k [] (Some link))) is)
meta_added n kind (b ∷ bs) link before middle after is none first last = absurd (omega arith)

-- one member after another
pub entries_more : (ms : List Member) (i : ℕ) (m : Member) (before after whole : List (Path × Entry)) → i < length ms → get_or ms i m ≡ m
    → after ≡ added_all before (entries_by (i, m)) → added_all before (flat_map entries_by (enumerate_from i (drop i ms))) ≡ whole
    → added_all after (flat_map entries_by (enumerate_from (i + 1) (drop (i + 1) ms))) ≡ whole
entries_more ms i m before after whole within here is so_far =
    let rest = flat_map entries_by (enumerate_from (i + 1) (drop (i + 1) ms)) in
    let step : flat_map entries_by (enumerate_from i (drop i ms)) ≡ entries_by (i, m) ++ rest = rw (drop-cons ms i m within, add-one, here) refl in
    ap (λ (es : List (Path × Entry)). added_all es rest) is
    ∙ sym (fold-append added before (entries_by (i, m)) rest)
    ∙ ap (added_all before) (sym step) ∙ so_far
