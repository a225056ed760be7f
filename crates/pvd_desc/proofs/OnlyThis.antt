-- What describes a type is read as it.
use Rattle.std.proofs.Common.{◌≡◌, inl, inr, ℕ, zero, suc, ◌+◌, ◌-◌, ◌*◌, ◌≤◌, false, eqb, List, [], ◌∷◌, ◌++◌, length, Option, Some, None, Ok, Err, refl, sym, ap, subst, ◌∙◌, arith, append_assoc}
use Rattle.std.proofs.lemmas.List.{length-append}
use Rattle.std.proofs.lemmas.Bool.Decides.{eqb_tells}
use Rattle.pva_wire.specs.declared.order.Order.{Order}
use Rattle.pva_wire.specs.Spelling.{SpellsSize, SpellsText}
use Rattle.pva_wire.specs.Reading.{text_at}
use Rattle.pvd_type.specs.declared.shape.Extent.TheVariants.{Variable, Bounded, Fixed}
use Rattle.pvd_type.specs.declared.checking.TypeFault.{TypeFault}
use Rattle.pvd_type.specs.Tree.{Tree, leaf, node, Leaf, plain, bound_text, list, variant, variant_list, Kind, struct, union, struct_list, union_list, Fields, no_fields, field, count_fields}
use Rattle.pvd_type.specs.Numbers.{nodes, nodes_in}
use Rattle.pvd_type.specs.Check.{below, visits, fault_at, label_fault, first_fault}
use Rattle.pvd_type.proofs.Walks.{first_fault-append}
use Rattle.pvd_type.proofs.Counts.{no_next, nodes_below}
use Rattle.pvd_desc.specs.Code.{scalar_of, code_of, list_tree}
use Rattle.pvd_desc.specs.declared.code.Code.{Code}
use Rattle.pvd_desc.specs.declared.code.Code.TheVariants as code
use Rattle.pvd_desc.specs.declared.code.Element.{Element}
use Rattle.pvd_desc.specs.declared.code.Element.TheVariants as elements
use Rattle.pvd_desc.specs.declared.fault.DescCause.{DescCause}
use Rattle.pvd_desc.specs.declared.fault.DescCause.TheVariants.{UnknownCode}
use Rattle.pvd_desc.specs.Types.{Types, define_all}
use Rattle.pvd_desc.specs.Reading.{Members, Nodes, lifted, code_at, here_fault, cached_at, inside_at, element_of, element_at, parts_at, node_on, member_with, fields_with, fields_below, node_at, null, desc_of, desc_at}
use Rattle.pvd_desc.specs.Grammar.{SpellsLeaf, SpellsChain, Named, Coded, NodeRow, SpellsInside, SpellsNode, SpellsMembers, Only}
use Rattle.pvd_desc.proofs.Again.{chain_stops, id_again, chain_again, counted_again, name_again, row_read, leaf_parts, cached_parts, named_long}

size_long : (o : Order) (bytes : List ℕ) (n : ℕ) → SpellsSize o bytes (Some n) → 1 ≤ length bytes
size_long o bytes n (inl h) = omega (arith, ap length h.1)
size_long o bytes n (inr h) = omega (arith, ap length h.1)

text_long : (o : Order) (bytes text : List ℕ) → SpellsText o bytes text → 1 ≤ length bytes
text_long o bytes text (inl h) = omega (arith, ap length h.0)
text_long o bytes text (inr h) = let (size, is, valid, parts) = h in omega (arith, ap length parts, length-append size text, size_long o size (length text) is)

leaf_long : (o : Order) (l : Leaf) (bytes : List ℕ) → SpellsLeaf o l bytes → 1 ≤ length bytes
leaf_long o (plain s) bytes h = omega (arith, ap length h)
leaf_long o (list s Variable) bytes h = omega (arith, ap length h)
leaf_long o (list s (Bounded n)) bytes h = omega (arith, ap length h.2)
leaf_long o (list s (Fixed n)) bytes h = omega (arith, ap length h.2)
leaf_long o (bound_text n) bytes h = omega (arith, ap length h.2)
leaf_long o variant bytes h = omega (arith, ap length h)
leaf_long o variant_list bytes h = omega (arith, ap length h)

coded_long : (b : ℕ) (Inside : List ℕ → Types → Type 0) (bytes : List ℕ) (after : Types) → Coded b Inside bytes after → 1 ≤ length bytes
coded_long b Inside bytes after h = omega (arith, ap length h.2)

row_long : (o : Order) (before : Types) (k : Kind) (id : List ℕ) (fs : Fields) (Inside : List ℕ → Types → Type 0) (bytes : List ℕ) (after : Types) → NodeRow o before k id fs Inside bytes after → 1 ≤ length bytes
row_long o before struct id fs Inside bytes after h = omega (arith, ap length h.2)
row_long o before union id fs Inside bytes after h = omega (arith, ap length h.2)
row_long o before struct_list id fs Inside bytes after h = omega (arith, ap length h.2)
row_long o before union_list id fs Inside bytes after h = omega (arith, ap length h.2)

node_long : (o : Order) (before : Types) (t : Tree) (bytes : List ℕ) (after : Types) → SpellsNode o before t bytes after → 1 ≤ length bytes
node_long o before (leaf l) bytes after h = named_long o before (leaf l) _ bytes after (λ body mid row. leaf_long o l body row.0) h
node_long o before (node k id fs) bytes after h = named_long o before (node k id fs) _ bytes after (λ body mid row. row_long o before k id fs _ body mid row) h

pub members_long : (o : Order) (before : Types) (fs : Fields) (bytes : List ℕ) (after : Types) → SpellsMembers o before fs bytes after → count_fields fs * 2 ≤ length bytes
members_long o before no_fields bytes after h = omega arith
members_long o before (field name t fs) bytes after h =
    let (head, body, tail, mid, text, one, others, parts) = h in
    omega (arith, ap length parts, length-append head (body ++ tail), length-append body tail, text_long o head name text, node_long o before t body mid one, members_long o mid fs tail after others)

-- The members of a node are read by the function given.
abbrev Reads : Order → Members → ℕ → Types → Fields → List ℕ → Type 0
Reads o fields seen before fs rest = (tail : List ℕ) (a : Types) → SpellsMembers o before fs tail a → fields (count_fields fs) (seen + 1) before (tail ++ rest) ≡ Ok (fs, seen + 1 + nodes_in fs, rest, a)

module _ (o : Order) (level : ℕ) (fields : Members) (seen : ℕ) (before : Types) (id : List ℕ) (fs : Fields) (rest : List ℕ) (reads : Reads o fields seen before fs rest) where
  inside_again : (bytes : List ℕ) (after : Types) → SpellsInside o id (count_fields fs) (SpellsMembers o before fs) bytes after
      → inside_at o level fields seen before (bytes ++ rest) ≡ Ok ((id, fs), seen + 1 + nodes_in fs, rest, after)
  unfolding inside_at
  inside_again bytes after h =
      let (text, size, tail, name, count, others, parts) = h in
      let room : count_fields fs * 2 ≤ length (tail ++ rest) = omega (arith, length-append tail rest, members_long o before fs tail after others) in
      ap (λ (b : List ℕ). inside_at o level fields seen before (b ++ rest)) parts
      ∙ ap (inside_at o level fields seen before) (append_assoc text (size ++ tail) rest)
      ∙ rw (name_again o text id ((size ++ tail) ++ rest) name, append_assoc size tail rest, counted_again o 2 (count_fields fs) size (tail ++ rest) count room, reads tail after others) refl

  abbrev NodeRead : Kind → List ℕ → Types → Type 0
  NodeRead k bytes mid =
      (b : ℕ) × (body : List ℕ) × (c : Code) × (eqb b 253 ≡ false) × (bytes ≡ b ∷ body) × (code_at (b ∷ (body ++ rest)) ≡ Ok (c, body ++ rest))
      × ((left : ℕ) → parts_at o level fields c left seen before (body ++ rest) ≡ Ok (node k id fs, seen + 1 + nodes_in fs, rest, mid))

  module _ (none : first_fault (seen + 1) (visits (level + 1) [] fs) ≡ None) where
    element_read : (e : Element) (ids head : List ℕ) (b : ℕ) (body : List ℕ) (c : Code) (t : Tree) (n : ℕ) (mid : Types)
        → eqb b 253 ≡ false → SpellsChain o ids head → code_at (b ∷ (body ++ rest)) ≡ Ok (c, body ++ rest)
        → ((other : DescCause × ℕ) (left : ℕ) → element_of o level fields e other left seen before c (body ++ rest) ≡ Ok (t, n, rest, mid))
        → element_at o level fields e seen before ((head ++ (b ∷ body)) ++ rest) ≡ Ok (list_tree t, n, rest, define_all ids t mid)
    unfolding element_at
    element_read e ids head b body c t n mid other chain is read =
        ap (element_at o level fields e seen before) (append_assoc head (b ∷ body) rest) ∙ rw (chain_again o ids head b (body ++ rest) other chain, is, read) refl

    struct_element : (bytes : List ℕ) (after : Types) → Named o before (node struct id fs) (Coded 0x80 (SpellsInside o id (count_fields fs) (SpellsMembers o before fs))) bytes after
        → element_at o level fields elements.Struct seen before (bytes ++ rest) ≡ Ok (node struct_list id fs, seen + 1 + nodes_in fs, rest, after)
    unfolding element_of code_at code_of cached_at
    struct_element bytes after (ids, head, body, mid, chain, inl cached, done, parts) =
        let (x, tail, is_id, found, spelled, same) = cached in
        ap (λ (b : List ℕ). element_at o level fields elements.Struct seen before (b ++ rest)) (parts ∙ ap (λ (b : List ℕ). head ++ b) spelled)
        ∙ element_read elements.Struct ids head 0xFE tail code.Cached (node struct id fs) (seen + 1 + nodes_in fs) before refl chain refl (λ other left. rw (id_again o tail rest x is_id, found, none) (ap (λ n. Ok (node struct id fs, n, rest, before)) (let e : seen + suc (nodes_in fs) ≡ seen + 1 + nodes_in fs = omega arith in e)))
        ∙ ap (λ (a : Types). Ok (node struct_list id fs, seen + 1 + nodes_in fs, rest, a)) (ap (define_all ids (node struct id fs)) (sym same) ∙ sym done)
    struct_element bytes after (ids, head, body, mid, chain, inr row, done, parts) =
        let (inner, inside, spelled) = row in
        ap (λ (b : List ℕ). element_at o level fields elements.Struct seen before (b ++ rest)) (parts ∙ ap (λ (b : List ℕ). head ++ b) spelled)
        ∙ element_read elements.Struct ids head 0x80 inner code.Struct (node struct id fs) (seen + 1 + nodes_in fs) mid refl chain refl (λ other left. rw (inside_again inner mid inside) refl)
        ∙ ap (λ (a : Types). Ok (node struct_list id fs, seen + 1 + nodes_in fs, rest, a)) (sym done)

    union_element : (bytes : List ℕ) (after : Types) → Named o before (node union id fs) (Coded 0x81 (SpellsInside o id (count_fields fs) (SpellsMembers o before fs))) bytes after
        → element_at o level fields elements.Union seen before (bytes ++ rest) ≡ Ok (node union_list id fs, seen + 1 + nodes_in fs, rest, after)
    unfolding element_of code_at code_of cached_at
    union_element bytes after (ids, head, body, mid, chain, inl cached, done, parts) =
        let (x, tail, is_id, found, spelled, same) = cached in
        ap (λ (b : List ℕ). element_at o level fields elements.Union seen before (b ++ rest)) (parts ∙ ap (λ (b : List ℕ). head ++ b) spelled)
        ∙ element_read elements.Union ids head 0xFE tail code.Cached (node union id fs) (seen + 1 + nodes_in fs) before refl chain refl (λ other left. rw (id_again o tail rest x is_id, found, none) (ap (λ n. Ok (node union id fs, n, rest, before)) (let e : seen + suc (nodes_in fs) ≡ seen + 1 + nodes_in fs = omega arith in e)))
        ∙ ap (λ (a : Types). Ok (node union_list id fs, seen + 1 + nodes_in fs, rest, a)) (ap (define_all ids (node union id fs)) (sym same) ∙ sym done)
    union_element bytes after (ids, head, body, mid, chain, inr row, done, parts) =
        let (inner, inside, spelled) = row in
        ap (λ (b : List ℕ). element_at o level fields elements.Union seen before (b ++ rest)) (parts ∙ ap (λ (b : List ℕ). head ++ b) spelled)
        ∙ element_read elements.Union ids head 0x81 inner code.Union (node union id fs) (seen + 1 + nodes_in fs) mid refl chain refl (λ other left. rw (inside_again inner mid inside) refl)
        ∙ ap (λ (a : Types). Ok (node union_list id fs, seen + 1 + nodes_in fs, rest, a)) (sym done)

    node_parts : (k : Kind) (bytes : List ℕ) (mid : Types) → NodeRow o before k id fs (SpellsInside o id (count_fields fs) (SpellsMembers o before fs)) bytes mid → NodeRead k bytes mid
    unfolding code_at code_of parts_at
    node_parts struct bytes mid h = (0x80, h.0, code.Struct, refl, h.2, refl, λ left. rw (inside_again h.0 mid h.1) refl)
    node_parts union bytes mid h = (0x81, h.0, code.Union, refl, h.2, refl, λ left. rw (inside_again h.0 mid h.1) refl)
    node_parts struct_list bytes mid h = (0x88, h.0, code.StructList, refl, h.2, refl, λ left. struct_element h.0 mid h.1)
    node_parts union_list bytes mid h = (0x89, h.0, code.UnionList, refl, h.2, refl, λ left. union_element h.0 mid h.1)

-- a node by its own row or a cached type, after its definitions
named_read : (o : Order) (level : ℕ) (fields : Members) (seen : ℕ) (named : Option TypeFault) (before : Types) (t : Tree) (n : ℕ) (rest : List ℕ) (Row : List ℕ → Types → Type 0) (bytes : List ℕ) (after : Types)
    → here_fault level seen named ≡ None → first_fault (seen + 1) (below level t) ≡ None → n ≡ seen + nodes t
    → ((body : List ℕ) (mid : Types) → Row body mid
    → (b : ℕ) × (tail : List ℕ) × (c : Code) × (eqb b 253 ≡ false) × (body ≡ b ∷ tail) × (code_at (b ∷ (tail ++ rest)) ≡ Ok (c, tail ++ rest))
    × ((left : ℕ) → parts_at o level fields c left seen before (tail ++ rest) ≡ Ok (t, n, rest, mid)))
    → Named o before t Row bytes after → node_on o level fields seen named before (bytes ++ rest) ≡ Ok (t, n, rest, after)
named_read o level fields seen named before t n rest Row bytes after here none count row (ids, head, body, mid, chain, inl cached, done, parts) =
    let (tail, spelled, code_is, reads) = cached_parts o level fields seen before mid t body rest cached none in
    ap (λ (b : List ℕ). node_on o level fields seen named before (b ++ rest)) (parts ∙ ap (λ (b : List ℕ). head ++ b) spelled)
    ∙ row_read o level fields seen named before mid ids head 0xFE tail rest code.Cached t (seen + nodes t) refl chain code_is here (reads (length (0xFE ∷ (tail ++ rest))))
    ∙ ap (λ (m : ℕ). Ok (t, m, rest, define_all ids t mid)) (sym count) ∙ ap (λ (a : Types). Ok (t, n, rest, a)) (sym done)
named_read o level fields seen named before t n rest Row bytes after here none count row (ids, head, body, mid, chain, inr own, done, parts) =
    let (b, tail, c, other, spelled, code_is, reads) = row body mid own in
    ap (λ (b : List ℕ). node_on o level fields seen named before (b ++ rest)) (parts ∙ ap (λ (b : List ℕ). head ++ b) spelled)
    ∙ row_read o level fields seen named before mid ids head b tail rest c t n other chain code_is here (reads (length (b ∷ (tail ++ rest))))
    ∙ ap (λ (a : Types). Ok (t, n, rest, a)) (sym done)

no_room : (seen : ℕ) (named : Option TypeFault) → here_fault (33 - 0) seen named ≡ None → ⊥
no_room seen named h = absurd cc

fields_of_room : (o : Order) (room n seen : ℕ) (types : Types) (bytes : List ℕ) → fields_below o (suc room) n seen types bytes ≡ fields_with o (node_at o room) [] n seen types bytes
unfolding fields_below
fields_of_room o room n seen types bytes = refl

member_fits : (o : Order) (nodes_at : Nodes) (names : List (List ℕ)) (n seen more : ℕ) (before mid after : Types) (name : List ℕ) (t : Tree) (fs : Fields) (all after_name after_node rest : List ℕ) (count : ℕ)
    → lifted (text_at o all) ≡ Ok (name, after_name) → nodes_at seen (label_fault (Some (record { name = name; before = names }))) before after_name ≡ Ok (t, more, after_node, mid)
    → fields_with o nodes_at (names ++ name ∷ []) n more mid after_node ≡ Ok (fs, count, rest, after)
    → fields_with o nodes_at names (suc n) seen before all ≡ Ok (field name t fs, count, rest, after)
unfolding fields_with member_with
member_fits o nodes_at names n seen more before mid after name t fs all after_name after_node rest count a b c = rw (a, b, c) refl

fields_end : (o : Order) (nodes_at : Nodes) (names : List (List ℕ)) (seen : ℕ) (types : Types) (bytes : List ℕ) → fields_with o nodes_at names 0 seen types bytes ≡ Ok (no_fields, seen, bytes, types)
unfolding fields_with
fields_end o nodes_at names seen types bytes = refl

mutual
  node_only : (o : Order) (room : ℕ) (t : Tree) (seen : ℕ) (named : Option TypeFault) (before after : Types) (bytes rest : List ℕ) → room ≤ 32 → SpellsNode o before t bytes after
      → here_fault (33 - room) seen named ≡ None → first_fault (seen + 1) (below (33 - room) t) ≡ None → node_at o room seen named before (bytes ++ rest) ≡ Ok (t, seen + nodes t, rest, after)
  node_only o zero (leaf l) seen named before after bytes rest high h here none = absurd (no_room seen named here)
  node_only o zero (node k id fs) seen named before after bytes rest high h here none = absurd (no_room seen named here)
  node_only o (suc room) (leaf l) seen named before after bytes rest high h here none =
      named_read o (33 - suc room) (fields_below o (suc room)) seen named before (leaf l) (seen + 1) rest _ bytes after here none refl
      (λ body mid row.
      let (b, tail, c, other, spelled, code_is, reads) = leaf_parts o (33 - suc room) (fields_below o (suc room)) seen before l body rest row.0 in
      (b, tail, c, other, spelled, code_is, λ left. reads left ∙ ap (λ (a : Types). Ok (leaf l, seen + 1, rest, a)) (sym row.1))) h
  node_only o (suc room) (node k id fs) seen named before after bytes rest high h here none =
      let level : 33 - suc room + 1 ≡ 33 - room = omega arith in
      let count : seen + 1 + nodes_in fs ≡ seen + suc (nodes_in fs) = omega arith in
      let inner : first_fault (seen + 1) (visits (33 - room) [] fs) ≡ None = subst (λ (l : ℕ). first_fault (seen + 1) (visits l [] fs) ≡ None) level none in
      named_read o (33 - suc room) (fields_below o (suc room)) seen named before (node k id fs) (seen + 1 + nodes_in fs) rest _ bytes after here none count
      (λ body mid row. node_parts o (33 - suc room) (fields_below o (suc room)) seen before id fs rest
      (λ tail a members. fields_of_room o room (count_fields fs) (seen + 1) before (tail ++ rest) ∙ members_only o room fs [] (seen + 1) before a tail rest (omega arith) members inner) none k body mid row) h
      ∙ ap (λ (m : ℕ). Ok (node k id fs, m, rest, after)) count

  members_only : (o : Order) (room : ℕ) (fs : Fields) (names : List (List ℕ)) (seen : ℕ) (before after : Types) (bytes rest : List ℕ) → room ≤ 32 → SpellsMembers o before fs bytes after
      → first_fault seen (visits (33 - room) names fs) ≡ None → fields_with o (node_at o room) names (count_fields fs) seen before (bytes ++ rest) ≡ Ok (fs, seen + nodes_in fs, rest, after)
  members_only o room no_fields names seen before after bytes rest high h none =
      let e : seen + 0 ≡ seen = omega arith in
      ap (λ (b : List ℕ). fields_with o (node_at o room) names 0 seen before (b ++ rest)) h.0 ∙ fields_end o (node_at o room) names seen before rest
      ∙ ap (λ (m : ℕ). Ok (no_fields, m, rest, before)) (sym e) ∙ ap (λ (a : Types). Ok (no_fields, seen + 0, rest, a)) (sym h.1)
  members_only o room (field name t fs) names seen before after bytes rest high h none =
      let (head, body, tail, mid, text, one, others, parts) = h in
      let both = no_next (fault_at seen (record { level = 33 - room; label = Some (record { name = name; before = names }) })) (first_fault (seen + 1) (below (33 - room) t ++ visits (33 - room) (names ++ name ∷ []) fs)) none in
      let split = no_next (first_fault (seen + 1) (below (33 - room) t)) (first_fault (seen + 1 + length (below (33 - room) t)) (visits (33 - room) (names ++ name ∷ []) fs)) (sym (first_fault-append (seen + 1) (below (33 - room) t) (visits (33 - room) (names ++ name ∷ []) fs)) ∙ both.1) in
      let more : seen + 1 + length (below (33 - room) t) ≡ seen + nodes t = omega (arith, nodes_below (33 - room) t) in
      let later : first_fault (seen + nodes t) (visits (33 - room) (names ++ name ∷ []) fs) ≡ None = subst (λ (m : ℕ). first_fault m (visits (33 - room) (names ++ name ∷ []) fs) ≡ None) more split.1 in
      let total : seen + nodes t + nodes_in fs ≡ seen + (nodes t + nodes_in fs) = omega arith in
      let joined : bytes ++ rest ≡ head ++ (body ++ (tail ++ rest)) = ap (λ (b : List ℕ). b ++ rest) parts ∙ append_assoc head (body ++ tail) rest ∙ ap (λ (b : List ℕ). head ++ b) (append_assoc body tail rest) in
      ap (fields_with o (node_at o room) names (suc (count_fields fs)) seen before) joined
      ∙ member_fits o (node_at o room) names (count_fields fs) seen (seen + nodes t) before mid after name t fs (head ++ (body ++ (tail ++ rest))) (body ++ (tail ++ rest)) (tail ++ rest) rest (seen + nodes t + nodes_in fs)
      (name_again o head name (body ++ (tail ++ rest)) text)
      (node_only o room t seen (label_fault (Some (record { name = name; before = names }))) before mid body (tail ++ rest) high one both.0 split.0)
      (members_only o room fs (names ++ name ∷ []) (seen + nodes t) mid after tail rest high others later)
      ∙ ap (λ (m : ℕ). Ok (field name t fs, m, rest, after)) total

null_again : (rest : List ℕ) → null (0xFF ∷ rest) ≡ Some rest
unfolding null
null_again rest = refl

null_code : (bytes : List ℕ) → code_at (255 ∷ bytes) ≡ Err (UnknownCode 255, suc (length bytes))
unfolding code_at code_of scalar_of
null_code bytes = refl

null_node : (o : Order) (level : ℕ) (fields : Members) (seen : ℕ) (named : Option TypeFault) (types : Types) (bytes : List ℕ) (x : Tree × ℕ × List ℕ × Types) → node_on o level fields seen named types (255 ∷ bytes) ≡ Ok x → ⊥
unfolding node_on
null_node o level fields seen named types bytes x h =
    let e = rw (chain_stops o 255 bytes refl, null_code bytes) at h in
    absurd cc

not_null : (o : Order) (level : ℕ) (fields : Members) (seen : ℕ) (named : Option TypeFault) (types : Types) (bytes : List ℕ) (x : Tree × ℕ × List ℕ × Types) → node_on o level fields seen named types bytes ≡ Ok x → null bytes ≡ None
unfolding null
not_null o level fields seen named types [] x h = refl
not_null o level fields seen named types (b ∷ bytes) x h =
    elim (eqb_tells b 255) [
      | inl p ↦ absurd (null_node o level fields seen named types bytes x (ap (λ (n : ℕ). node_on o level fields seen named types (n ∷ bytes)) (sym p.1) ∙ h))
      | inr p ↦ rw p.0 refl
    ]

pub only_this : Only
unfolding desc_at
only_this o before front rest None after h =
    ap (λ (b : List ℕ). desc_of (null (b ++ rest)) (node_at o 32 0 None before (b ++ rest)) before) h.0
    ∙ ap (λ (x : Option (List ℕ)). desc_of x (node_at o 32 0 None before (0xFF ∷ rest)) before) (null_again rest) ∙ ap (λ (a : Types). Ok (None, rest, a)) (sym h.1)
only_this o before front rest (Some t) after h =
    let is = node_only o 32 t 0 None before after front rest (omega arith) h.0 refl h.1 in
    rw (not_null o (33 - 32) (fields_below o 32) 0 None before (front ++ rest) (t, 0 + nodes t, rest, after) is, is) refl
