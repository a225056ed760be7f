-- The slots of a group, one after another.
use Rattle.std.proofs.Common.{◌≡◌, ℕ, zero, suc, ◌+◌, ◌<◌, ◌≤◌, List, [], ◌∷◌, ◌++◌, length, get_or, drop, map, true, if◌then◌else◌, Option, Some, None, refl, sym, ap, ◌∙◌, arith, rules, add-one}
use Rattle.std.proofs.lemmas.List.{append_assoc}
use Rattle.std.proofs.Math.Seq.{drop-cons}
use Rattle.std.proofs.Math.ListN.{drop_of_length-le}
use Rattle.std.specs.Global.{Vec}
use Rattle.pvd_type.specs.Tree.{Tree, Fields, no_fields, field}
use Rattle.pvd_type.specs.View.{shape_view, member_view, members_view}
use Rattle.pvd_type.specs.Numbers.{numbered, numbered_fields, is_leaf}
use Rattle.pvd_type.proofs.At.{lone}
use Rattle.pvd_type.specs.declared.shape.Member.{Member}
use Rattle.pvd_type.proofs.Walks.{member_is, members_from}
use Rattle.group_view.specs.Leaves.{sources, sources_among, member_in, shown_at}
use Rattle.group_view.specs.Seen.{branch_step, named_step, branch_seen, named_seen, slots_seen}
use Rattle.group_view.specs.Slots.{Slot, shows, level, Slots, no_slots, slot}
use Rattle.group_view.specs.Types.{slot_tree, slot_fields}
use Rattle.group_view.specs.Sources.{Source}
use Rattle.group_view.specs.declared.slots.Named.{Named, fold_out-Named}
use Rattle.group_view.specs.declared.slots.Branch.{Shows, Level, the_lemmas}

pub named_is : (n : Named) → named_seen n ≡ (n.name, branch_seen n.branch)
named_is n = fold_out-Named Slot (List ℕ × Slot) branch_step named_step n

pub shows_is : (s : Source) → branch_seen (Shows s) ≡ shows s
shows_is s = search (rules, the_lemmas)

pub level_is : (id : List ℕ) (ns : Vec Named) → branch_seen (Level id ns) ≡ level id (slots_seen ns.items)
level_is id ns = search (rules, the_lemmas)

-- the slots from place i on, where n stands at i
pub slots_from : (ns : List Named) (i : ℕ) (n : Named) → i < length ns → get_or ns i n ≡ n
    → slots_seen (drop i ns) ≡ slot n.name (branch_seen n.branch) (slots_seen (drop (i + 1) ns))
slots_from ns i n within here = rw (drop-cons ns i n within, add-one, here, named_is n) refl

pub slots_over : (ns : List Named) (i : ℕ) → length ns ≤ i → slots_seen (drop i ns) ≡ no_slots
slots_over ns i h = ap slots_seen (drop_of_length-le ns h)

-- how many names there are
abbrev mutual
  pub size_of : Slot → ℕ
  size_of (shows s) = 1
  size_of (level id ss) = suc (sizes_of ss)

  pub sizes_of : Slots → ℕ
  sizes_of no_slots = 0
  sizes_of (slot name s ss) = suc (size_of s + sizes_of ss)

pub size_within : (ns : List Named) (i : ℕ) (n : Named) → i < length ns → get_or ns i n ≡ n → size_of (branch_seen n.branch) < sizes_of (slots_seen ns)
size_within [] i n within here = absurd (omega arith)
size_within (x ∷ ns) zero n within here =
    let e : size_of (named_seen x).1 ≡ size_of (branch_seen n.branch) = ap (λ (p : List ℕ × Slot). size_of p.1) (named_is x) ∙ ap (λ (y : Named). size_of (branch_seen y.branch)) here in
    omega (arith, e)
size_within (x ∷ ns) (suc i) n within here =
    let h = size_within ns i n (omega arith) here in
    omega (arith, h)

-- fields one after another
abbrev pub joined : Fields → Fields → Fields
joined no_fields gs = gs
joined (field name t fs) gs = field name t (joined fs gs)

pub joined_push : (ms : List Member) (m : Member) (gs : Fields) → joined (members_view (ms ++ m ∷ [])) gs ≡ joined (members_view ms) (field m.name (shape_view m.shape) gs)
joined_push [] m gs = rw (member_is m) refl
joined_push (x ∷ ms) m gs = ap (field (member_view x).0 (member_view x).1) (joined_push ms m gs)

pub joined_end : (ms : List Member) → joined (members_view ms) no_fields ≡ members_view ms
joined_end [] = refl
joined_end (x ∷ ms) = ap (field (member_view x).0 (member_view x).1) (joined_end ms)

module _ (ns : List Named) (i : ℕ) (n : Named) (within : i < length ns) (here : get_or ns i n ≡ n) where
  pub members_more : (ms after : List Member) (m : Member) (whole : Fields) → after ≡ ms ++ m ∷ [] → m.name ≡ n.name → shape_view m.shape ≡ slot_tree (branch_seen n.branch)
      → joined (members_view ms) (slot_fields (slots_seen (drop i ns))) ≡ whole → joined (members_view after) (slot_fields (slots_seen (drop (i + 1) ns))) ≡ whole
  members_more ms after m whole is named made so_far =
      ap (λ (xs : List Member). joined (members_view xs) (slot_fields (slots_seen (drop (i + 1) ns)))) is
      ∙ joined_push ms m (slot_fields (slots_seen (drop (i + 1) ns)))
      ∙ (λ j. joined (members_view ms) (field (named j) (made j) (slot_fields (slots_seen (drop (i + 1) ns)))))
      ∙ (rw (slots_from ns i n within here) at so_far)

  pub shown_more : (old new whole : List (Option ℕ)) → new ≡ old ++ map member_in (sources (branch_seen n.branch))
      → old ++ map member_in (sources_among (slots_seen (drop i ns))) ≡ whole → new ++ map member_in (sources_among (slots_seen (drop (i + 1) ns))) ≡ whole
  shown_more old new whole is so_far =
      ap (λ (xs : List (Option ℕ)). xs ++ map member_in (sources_among (slots_seen (drop (i + 1) ns)))) is
      ∙ append_assoc old (map member_in (sources (branch_seen n.branch))) _
      ∙ ap (λ (xs : List (Option ℕ)). old ++ xs) (sym (map_append (sources (branch_seen n.branch)) (sources_among (slots_seen (drop (i + 1) ns)))))
      ∙ (rw (slots_from ns i n within here) at so_far)
    where
      map_append : (xs ys : List (Option Source)) → map member_in (xs ++ ys) ≡ map member_in xs ++ map member_in ys
      map_append [] ys = refl
      map_append (x ∷ xs) ys = ap (λ (zs : List (Option ℕ)). member_in x ∷ zs) (map_append xs ys)

nodes_append : (k : ℕ) (xs ys : List Tree) → map (shown_at k) (xs ++ ys) ≡ map (shown_at k) xs ++ map (shown_at k) ys
nodes_append k [] ys = refl
nodes_append k (x ∷ xs) ys = ap (λ (zs : List (Option ℕ)). shown_at k x ∷ zs) (nodes_append k xs ys)

pub nodes_more : (k : ℕ) (ms : List Member) (i : ℕ) (m : Member) (old new whole : List (Option ℕ)) → i < length ms → get_or ms i m ≡ m
    → new ≡ old ++ map (shown_at k) (numbered (shape_view m.shape))
    → old ++ map (shown_at k) (numbered_fields (members_view (drop i ms))) ≡ whole → new ++ map (shown_at k) (numbered_fields (members_view (drop (i + 1) ms))) ≡ whole
nodes_more k ms i m old new whole within here is so_far =
    let rest = numbered_fields (members_view (drop (i + 1) ms)) in
    ap (λ (xs : List (Option ℕ)). xs ++ map (shown_at k) rest) is
    ∙ append_assoc old (map (shown_at k) (numbered (shape_view m.shape))) (map (shown_at k) rest)
    ∙ ap (λ (xs : List (Option ℕ)). old ++ xs) (sym (nodes_append k (numbered (shape_view m.shape)) rest))
    ∙ (rw (members_from ms i m within here) at so_far)

pub lone_shown : (k : ℕ) (t : Tree) → is_leaf t ≡ true → map (shown_at k) (numbered t) ≡ Some k ∷ []
lone_shown k t h = ap (map (shown_at k)) (lone t h) ∙ ap (λ b. (if b then Some k else None) ∷ []) h
