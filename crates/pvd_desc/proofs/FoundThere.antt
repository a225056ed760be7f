-- What is read as a description is spelled there.
use Rattle.std.proofs.Common.{◌≡◌, ◌⊎◌, inl, inr, ℕ, zero, suc, ◌+◌, ◌-◌, true, eqb, List, [], ◌∷◌, ◌++◌, length, get_or, Option, Some, None, Ok, Err, refl, sym, ap, subst, ◌∙◌, arith, append_assoc}
use Rattle.std.proofs.lemmas.Bool.{eqb-true}
use Rattle.pva_wire.specs.declared.order.Order.{Order}
use Rattle.pva_wire.specs.Spelling.{IsBytes, SpellsSize, SpellsText}
use Rattle.pva_wire.specs.Reading.{◌>>=◌, counted_at, text_at}
use Rattle.pva_wire.proofs.Takes.{Takes, IsBytes-rest, chosen, ok_is, bind_ok}
use Rattle.pvd_type.specs.declared.shape.Extent.TheVariants.{Variable, Bounded, Fixed}
use Rattle.pvd_type.specs.declared.checking.TypeFault.{TypeFault}
use Rattle.pvd_type.specs.Tree.{Tree, leaf, node, Leaf, plain, bound_text, list, variant, variant_list, Kind, struct, union, Fields, no_fields, field, count_fields}
use Rattle.pvd_type.specs.Check.{label_fault}
use Rattle.pvd_desc.specs.declared.code.Code.{Code}
use Rattle.pvd_desc.specs.declared.code.Code.TheVariants as code
use Rattle.pvd_desc.specs.declared.code.Element.{Element}
use Rattle.pvd_desc.specs.declared.code.Element.TheVariants as elements
use Rattle.pvd_desc.specs.declared.fault.DescCause.{DescCause}
use Rattle.pvd_desc.specs.declared.fault.DescCause.TheVariants.{UnknownCode}
use Rattle.pvd_desc.specs.Code.{takes, element, list_tree}
use Rattle.pvd_desc.specs.Types.{Types, define_all}
use Rattle.pvd_desc.specs.Reading.{Read, Members, Nodes, lifted, chain_at, code_at, here_at, inside_at, members_at, element_of, element_at, parts_at, node_on, member_with, fields_with, fields_below, node_at, null, desc_of, desc_at}
use Rattle.pvd_desc.specs.Grammar.{SpellsLeaf, SpellsSized, SpellsCached, Named, Coded, NodeRow, SpellsInside, SpellsNode, SpellsMembers, Desc, Found}
use Rattle.pvd_desc.proofs.Codes.{CodeIs}
use Rattle.pvd_desc.proofs.Parts.{joined, after_byte, name_takes, counted_takes, chain_takes, code_takes, SizedTaken, sized_takes, CachedTaken, cached_takes, element_view}
use Rattle.pvd_desc.proofs.Sound.{node_ok, below_ok, type_alone}

-- a type's own row
abbrev OwnRow : Order → Types → Tree → List ℕ → Types → Type 0
OwnRow o before (leaf l) = λ bytes after. SpellsLeaf o l bytes × (after ≡ before)
OwnRow o before (node k id fs) = NodeRow o before k id fs (SpellsInside o id (count_fields fs) (SpellsMembers o before fs))

own_node : (o : Order) (before : Types) (t : Tree) (bytes : List ℕ) (after : Types) → Named o before t (OwnRow o before t) bytes after → SpellsNode o before t bytes after
own_node o before (leaf l) bytes after h = h
own_node o before (node k id fs) bytes after h = h

-- what stands after a code b
abbrev Taken : Order → Types → ℕ → List ℕ → Tree × ℕ × List ℕ × Types → Type 0
Taken o types b bytes x = (tail : List ℕ) × (SpellsCached o types x.0 (b ∷ tail) x.3 ⊎ OwnRow o types x.0 (b ∷ tail) x.3) × Takes bytes tail x.2

-- what a node is read as
abbrev NodesTake : Order → Nodes → Type 0
NodesTake o nodes_at = (seen : ℕ) (named : Option TypeFault) (types : Types) (bytes : List ℕ) (x : Tree × ℕ × List ℕ × Types) → IsBytes bytes → nodes_at seen named types bytes ≡ Ok x
    → (front : List ℕ) × SpellsNode o types x.0 front x.3 × Takes bytes front x.2

-- what the members are read as
abbrev MembersTake : Order → Members → Type 0
MembersTake o fields = (n seen : ℕ) (types : Types) (bytes : List ℕ) (x : Fields × ℕ × List ℕ × Types) → IsBytes bytes → fields n seen types bytes ≡ Ok x
    → (front : List ℕ) × SpellsMembers o types x.0 front x.3 × (count_fields x.0 ≡ n) × Takes bytes front x.2

-- a leaf without more
leaf_taken : (o : Order) (types : Types) (b n : ℕ) (l : Leaf) (bytes : List ℕ) (x : Tree × ℕ × List ℕ × Types) → IsBytes bytes → SpellsLeaf o l (b ∷ []) → ◌≡◌ {A = Read Tree} (Ok (leaf l, n, bytes, types)) (Ok x) → Taken o types b bytes x
leaf_taken o types b n l bytes x fits spelled h =
    subst (Taken o types b bytes) (ok_is (leaf l, n, bytes, types) x h) ([], inr (spelled, refl), record { parts = refl; rest_fits = fits })

-- a leaf with a size
sized_taken : (o : Order) (make : ℕ → Leaf) (types : Types) (b c : ℕ) (bytes : List ℕ) (x : Tree × ℕ × List ℕ × Types) → b ≡ c → ((n : ℕ) (text : List ℕ) → SpellsSized o c n text → SpellsLeaf o (make n) text) → SizedTaken o make types bytes x → Taken o types b bytes x
sized_taken o make types b c bytes x is leaf_of t =
    let row : OwnRow o types (leaf (make t.bound)) (b ∷ t.text) x.3 = (leaf_of t.bound (b ∷ t.text) (t.text, t.size, ap (λ (n : ℕ). n ∷ t.text) is), t.same) in
    (t.text, inr (subst (λ (y : Tree). OwnRow o types y (b ∷ t.text) x.3) (sym t.tree) row), t.takes)

cached_spells : (o : Order) (wanted : Option Element) (types : Types) (b : ℕ) (bytes : List ℕ) (x : Tree × ℕ × List ℕ × Types) (is : b ≡ 0xFE) (t : CachedTaken o wanted types bytes x) → SpellsCached o types x.0 (b ∷ t.text) x.3
cached_spells o wanted types b bytes x is t = (t.id, t.text, t.number, t.found, ap (λ (n : ℕ). n ∷ t.text) is, t.same)

module _ (o : Order) (level : ℕ) (fields : Members) (good : MembersTake o fields) where
  inside_takes : (seen : ℕ) (types : Types) (bytes : List ℕ) (x : (List ℕ × Fields) × ℕ × List ℕ × Types) → IsBytes bytes → inside_at o level fields seen types bytes ≡ Ok x
      → (front : List ℕ) × SpellsInside o x.0.0 (count_fields x.0.1) (SpellsMembers o types x.0.1) front x.3 × Takes bytes front x.2
  unfolding inside_at
  inside_takes seen types bytes x fits h =
      let id = bind_ok (lifted (text_at o bytes)) (λ id. lifted (counted_at o 2 id.1) >>= λ n. fields n.0 (seen + 1) types n.1 >>= λ fs. Ok ((id.0, fs.0), fs.1, fs.2, fs.3)) x h in
      let text = name_takes o bytes id.0 fits id.1 in
      let n = bind_ok (lifted (counted_at o 2 id.0.1)) (λ n. fields n.0 (seen + 1) types n.1 >>= λ fs. Ok ((id.0.0, fs.0), fs.1, fs.2, fs.3)) x id.2 in
      let size = counted_takes o 2 id.0.1 n.0 text.2.rest_fits n.1 in
      let fs = bind_ok (fields n.0.0 (seen + 1) types n.0.1) (λ fs. Ok ((id.0.0, fs.0), fs.1, fs.2, fs.3)) x n.2 in
      let members = good n.0.0 (seen + 1) types n.0.1 fs.0 size.2.rest_fits fs.1 in
      let count : SpellsSize o size.0 (Some (count_fields fs.0.0)) = rw members.2 size.1 in
      subst (λ (y : (List ℕ × Fields) × ℕ × List ℕ × Types). (front : List ℕ) × SpellsInside o y.0.0 (count_fields y.0.1) (SpellsMembers o types y.0.1) front y.3 × Takes bytes front y.2)
      (ok_is ((id.0.0, fs.0.0), fs.0.1, fs.0.2, fs.0.3) x fs.2) (
        text.0 ++ (size.0 ++ members.0),
        (text.0, size.0, members.0, text.1, count, members.1, refl),
        joined bytes text.0 (size.0 ++ members.0) id.0.1 fs.0.2 text.2 (joined id.0.1 size.0 members.0 n.0.1 fs.0.2 size.2 members.3),
      )

  -- a node of a kind, after its code
  abbrev NodeTaken : Kind → Types → List ℕ → Tree × ℕ × List ℕ × Types → Type 0
  NodeTaken k types bytes x =
      (id : List ℕ) × (fs : Fields) × (front : List ℕ) × (x.0 ≡ node k id fs) × SpellsInside o id (count_fields fs) (SpellsMembers o types fs) front x.3 × Takes bytes front x.2

  members_take : (k : Kind) (seen : ℕ) (types : Types) (bytes : List ℕ) (x : Tree × ℕ × List ℕ × Types) → IsBytes bytes → members_at o level fields k seen types bytes ≡ Ok x → NodeTaken k types bytes x
  members_take k seen types bytes x fits h =
      let p = bind_ok (inside_at o level fields seen types bytes) (λ p. Ok (node k p.0.0 p.0.1, p.1, p.2, p.3)) x h in
      let t = inside_takes seen types bytes p.0 fits p.1 in
      subst (NodeTaken k types bytes) (ok_is (node k p.0.0.0 p.0.0.1, p.0.1, p.0.2, p.0.3) x p.2) (p.0.0.0, p.0.0.1, t.0, refl, t.1, t.2)

  node_taken : (k : Kind) (types : Types) (b c : ℕ) (bytes : List ℕ) (x : Tree × ℕ × List ℕ × Types) → b ≡ c → ((id : List ℕ) (fs : Fields) (Inside : List ℕ → Types → Type 0) (text : List ℕ) (after : Types) → Coded c Inside text after → NodeRow o types k id fs Inside text after)
      → NodeTaken k types bytes x → Taken o types b bytes x
  node_taken k types b c bytes x is row_of t =
      let (id, fs, front, tree, inside, took) = t in
      let row : OwnRow o types (node k id fs) (b ∷ front) x.3 = row_of id fs (SpellsInside o id (count_fields fs) (SpellsMembers o types fs)) (b ∷ front) x.3 (front, inside, ap (λ (n : ℕ). n ∷ front) is) in
      (front, inr (subst (λ (y : Tree). OwnRow o types y (b ∷ front) x.3) (sym tree) row), took)

  -- the code of an element
  abbrev element_code : Element → ℕ
  element_code elements.Struct = 0x80
  element_code elements.Union = 0x81

  -- an element, from its code b on
  abbrev ElementTaken : Element → Types → ℕ → List ℕ → Tree × ℕ × List ℕ × Types → Type 0
  ElementTaken e types b bytes x =
      (id : List ℕ) × (fs : Fields) × (tail : List ℕ) × (x.0 ≡ node (element e) id fs)
      × (SpellsCached o types (node (element e) id fs) (b ∷ tail) x.3 ⊎ Coded (element_code e) (SpellsInside o id (count_fields fs) (SpellsMembers o types fs)) (b ∷ tail) x.3)
      × Takes bytes tail x.2

  own_element : (e : Element) (types : Types) (b : ℕ) (bytes : List ℕ) (x : Tree × ℕ × List ℕ × Types) → b ≡ element_code e → NodeTaken (element e) types bytes x → ElementTaken e types b bytes x
  own_element e types b bytes x is t =
      let (id, fs, front, tree, inside, took) = t in
      (id, fs, front, tree, inr (front, inside, ap (λ (n : ℕ). n ∷ front) is), took)

  cached_element : (e : Element) (types : Types) (b : ℕ) (bytes : List ℕ) (x : Tree × ℕ × List ℕ × Types) → b ≡ 0xFE → CachedTaken o (Some e) types bytes x → ElementTaken e types b bytes x
  cached_element e types b bytes x is t =
      let (id, fs, tree) = element_view e x.0 t.fits_there in
      let spelled : SpellsCached o types (node (element e) id fs) (b ∷ t.text) x.3 = subst (λ (y : Tree). SpellsCached o types y (b ∷ t.text) x.3) tree (cached_spells o (Some e) types b bytes x is t) in
      (id, fs, t.text, tree, inl spelled, t.takes)

  taken_code : (e : Element) (c : Code) (b : ℕ) → takes e c ≡ true → CodeIs b c → b ≡ element_code e
  taken_code elements.Struct code.Struct b h is = is
  taken_code elements.Union code.Union b h is = is
  taken_code elements.Struct (code.Plain s) b h is = absurd cc
  taken_code elements.Struct (code.List s) b h is = absurd cc
  taken_code elements.Struct (code.Bounded s) b h is = absurd cc
  taken_code elements.Struct (code.Fixed s) b h is = absurd cc
  taken_code elements.Struct code.BoundText b h is = absurd cc
  taken_code elements.Struct code.Variant b h is = absurd cc
  taken_code elements.Struct code.VariantList b h is = absurd cc
  taken_code elements.Struct code.Union b h is = absurd cc
  taken_code elements.Struct code.StructList b h is = absurd cc
  taken_code elements.Struct code.UnionList b h is = absurd cc
  taken_code elements.Struct code.Cached b h is = absurd cc
  taken_code elements.Struct code.Unknown b h is = absurd cc
  taken_code elements.Union (code.Plain s) b h is = absurd cc
  taken_code elements.Union (code.List s) b h is = absurd cc
  taken_code elements.Union (code.Bounded s) b h is = absurd cc
  taken_code elements.Union (code.Fixed s) b h is = absurd cc
  taken_code elements.Union code.BoundText b h is = absurd cc
  taken_code elements.Union code.Variant b h is = absurd cc
  taken_code elements.Union code.VariantList b h is = absurd cc
  taken_code elements.Union code.Struct b h is = absurd cc
  taken_code elements.Union code.StructList b h is = absurd cc
  taken_code elements.Union code.UnionList b h is = absurd cc
  taken_code elements.Union code.Cached b h is = absurd cc
  taken_code elements.Union code.Unknown b h is = absurd cc

  element_takes : (e : Element) (other : DescCause × ℕ) (left seen : ℕ) (types : Types) (c : Code) (b : ℕ) (bytes : List ℕ) (x : Tree × ℕ × List ℕ × Types)
      → IsBytes bytes → CodeIs b c → element_of o level fields e other left seen types c bytes ≡ Ok x → ElementTaken e types b bytes x
  unfolding element_of
  element_takes e other left seen types code.Cached b bytes x fits is h = cached_element e types b bytes x is (cached_takes o (Some e) other level seen left types bytes x fits h)
  element_takes e other left seen types c b bytes x fits is h =
      elim (chosen (takes e c) (members_at o level fields (element e) seen types bytes) (Err other) (Ok x) h) [
        | inl a ↦ own_element e types b bytes x (taken_code e c b a.0 is) (members_take (element e) seen types bytes x fits a.1)
        | inr a ↦ absurd cc
      ]

  -- a list of an element, after its code
  abbrev ListTaken : Element → Types → List ℕ → Tree × ℕ × List ℕ × Types → Type 0
  ListTaken e types bytes x =
      (id : List ℕ) × (fs : Fields) × (front : List ℕ) × (x.0 ≡ list_tree (node (element e) id fs))
      × Named o types (node (element e) id fs) (Coded (element_code e) (SpellsInside o id (count_fields fs) (SpellsMembers o types fs))) front x.3 × Takes bytes front x.2

  list_takes : (e : Element) (seen : ℕ) (types : Types) (bytes : List ℕ) (x : Tree × ℕ × List ℕ × Types) → IsBytes bytes → element_at o level fields e seen types bytes ≡ Ok x → ListTaken e types bytes x
  unfolding element_at
  list_takes e seen types bytes x fits h =
      let other : DescCause × ℕ = (UnknownCode (get_or bytes 0 0), length bytes) in
      let ids = bind_ok (chain_at o bytes) (λ ids. code_at ids.1 >>= λ c. element_of o level fields e other (length ids.1) seen types c.0 c.1 >>= λ t. Ok (list_tree t.0, t.1, t.2, define_all ids.0 t.0 t.3)) x h in
      let chain = chain_takes o bytes ids.0 fits ids.1 in
      let c = bind_ok (code_at ids.0.1) (λ c. element_of o level fields e other (length ids.0.1) seen types c.0 c.1 >>= λ t. Ok (list_tree t.0, t.1, t.2, define_all ids.0.0 t.0 t.3)) x ids.2 in
      let (b, is, begins) = code_takes ids.0.1 c.0 c.1 in
      let after_fits : IsBytes c.0.1 = IsBytes-rest b c.0.1 (subst IsBytes begins chain.2.rest_fits) in
      let t = bind_ok (element_of o level fields e other (length ids.0.1) seen types c.0.0 c.0.1) (λ t. Ok (list_tree t.0, t.1, t.2, define_all ids.0.0 t.0 t.3)) x c.2 in
      let (id, fs, tail, tree, spelled, took) = element_takes e other (length ids.0.1) seen types c.0.0 b c.0.1 t.0 after_fits is t.1 in
      let body : Takes ids.0.1 (b ∷ tail) t.0.2 = subst (λ (bs : List ℕ). Takes bs (b ∷ tail) t.0.2) (sym begins) (after_byte b c.0.1 tail t.0.2 took) in
      subst (ListTaken e types bytes) (ok_is (list_tree t.0.0, t.0.1, t.0.2, define_all ids.0.0 t.0.0 t.0.3) x t.2) (
        id,
        fs,
        chain.0 ++ (b ∷ tail),
        ap list_tree tree,
        (ids.0.0, chain.0, b ∷ tail, t.0.3, chain.1, spelled, ap (λ (y : Tree). define_all ids.0.0 y t.0.3) tree, refl),
        joined bytes chain.0 (b ∷ tail) ids.0.1 t.0.2 chain.2 body,
      )

  list_taken : (e : Element) (types : Types) (b : ℕ) (bytes : List ℕ) (x : Tree × ℕ × List ℕ × Types)
      → ((id : List ℕ) (fs : Fields) (front : List ℕ) → Named o types (node (element e) id fs) (Coded (element_code e) (SpellsInside o id (count_fields fs) (SpellsMembers o types fs))) front x.3 → OwnRow o types (list_tree (node (element e) id fs)) (b ∷ front) x.3)
      → ListTaken e types bytes x → Taken o types b bytes x
  list_taken e types b bytes x row_of t =
      let (id, fs, front, tree, spelled, took) = t in
      (front, inr (subst (λ (y : Tree). OwnRow o types y (b ∷ front) x.3) (sym tree) (row_of id fs front spelled)), took)

  parts_take : (c : Code) (b left seen : ℕ) (types : Types) (bytes : List ℕ) (x : Tree × ℕ × List ℕ × Types) → IsBytes bytes → CodeIs b c → parts_at o level fields c left seen types bytes ≡ Ok x → Taken o types b bytes x
  unfolding parts_at
  parts_take (code.Plain s) b left seen types bytes x fits is h = leaf_taken o types b (seen + 1) (plain s) bytes x fits (ap (λ (n : ℕ). n ∷ []) is) h
  parts_take (code.List s) b left seen types bytes x fits is h = leaf_taken o types b (seen + 1) (list s Variable) bytes x fits (ap (λ (n : ℕ). n ∷ []) is) h
  parts_take (code.Bounded s) b left seen types bytes x fits is h = sized_taken o (λ n. list s (Bounded n)) types b _ bytes x is (λ n text spelled. spelled) (sized_takes o (λ n. list s (Bounded n)) seen types bytes x fits h)
  parts_take (code.Fixed s) b left seen types bytes x fits is h = sized_taken o (λ n. list s (Fixed n)) types b _ bytes x is (λ n text spelled. spelled) (sized_takes o (λ n. list s (Fixed n)) seen types bytes x fits h)
  parts_take code.BoundText b left seen types bytes x fits is h = sized_taken o bound_text types b 0x83 bytes x is (λ n text spelled. spelled) (sized_takes o bound_text seen types bytes x fits h)
  parts_take code.Variant b left seen types bytes x fits is h = leaf_taken o types b (seen + 1) variant bytes x fits (ap (λ (n : ℕ). n ∷ []) is) h
  parts_take code.VariantList b left seen types bytes x fits is h = leaf_taken o types b (seen + 1) variant_list bytes x fits (ap (λ (n : ℕ). n ∷ []) is) h
  parts_take code.Struct b left seen types bytes x fits is h = node_taken struct types b 0x80 bytes x is (λ id fs Inside text after row. row) (members_take struct seen types bytes x fits h)
  parts_take code.Union b left seen types bytes x fits is h = node_taken union types b 0x81 bytes x is (λ id fs Inside text after row. row) (members_take union seen types bytes x fits h)
  parts_take code.StructList b left seen types bytes x fits is h =
      list_taken elements.Struct types b bytes x (λ id fs front spelled. (front, spelled, ap (λ (n : ℕ). n ∷ front) is)) (list_takes elements.Struct seen types bytes x fits h)
  parts_take code.UnionList b left seen types bytes x fits is h =
      list_taken elements.Union types b bytes x (λ id fs front spelled. (front, spelled, ap (λ (n : ℕ). n ∷ front) is)) (list_takes elements.Union seen types bytes x fits h)
  parts_take code.Cached b left seen types bytes x fits is h =
      let t = cached_takes o None (UnknownCode 254, left) level seen left types bytes x fits h in
      (t.text, inl (cached_spells o None types b bytes x is t), t.takes)
  parts_take code.Unknown b left seen types bytes x fits is h = absurd cc

  node_takes : NodesTake o (node_on o level fields)
  unfolding node_on
  node_takes seen named types bytes x fits h =
      let ids = bind_ok (chain_at o bytes) (λ ids. code_at ids.1 >>= λ c. here_at level seen named (length ids.1) >>= λ u. parts_at o level fields c.0 (length ids.1) seen types c.1 >>= λ t. Ok (t.0, t.1, t.2, define_all ids.0 t.0 t.3)) x h in
      let chain = chain_takes o bytes ids.0 fits ids.1 in
      let c = bind_ok (code_at ids.0.1) (λ c. here_at level seen named (length ids.0.1) >>= λ u. parts_at o level fields c.0 (length ids.0.1) seen types c.1 >>= λ t. Ok (t.0, t.1, t.2, define_all ids.0.0 t.0 t.3)) x ids.2 in
      let (b, is, begins) = code_takes ids.0.1 c.0 c.1 in
      let after_fits : IsBytes c.0.1 = IsBytes-rest b c.0.1 (subst IsBytes begins chain.2.rest_fits) in
      let u = bind_ok (here_at level seen named (length ids.0.1)) (λ u. parts_at o level fields c.0.0 (length ids.0.1) seen types c.0.1 >>= λ t. Ok (t.0, t.1, t.2, define_all ids.0.0 t.0 t.3)) x c.2 in
      let t = bind_ok (parts_at o level fields c.0.0 (length ids.0.1) seen types c.0.1) (λ t. Ok (t.0, t.1, t.2, define_all ids.0.0 t.0 t.3)) x u.2 in
      let (tail, spelled, took) = parts_take c.0.0 b (length ids.0.1) seen types c.0.1 t.0 after_fits is t.1 in
      let body : Takes ids.0.1 (b ∷ tail) t.0.2 = subst (λ (bs : List ℕ). Takes bs (b ∷ tail) t.0.2) (sym begins) (after_byte b c.0.1 tail t.0.2 took) in
      subst (λ (y : Tree × ℕ × List ℕ × Types). (front : List ℕ) × SpellsNode o types y.0 front y.3 × Takes bytes front y.2) (ok_is (t.0.0, t.0.1, t.0.2, define_all ids.0.0 t.0.0 t.0.3) x t.2) (
        chain.0 ++ (b ∷ tail),
        own_node o types t.0.0 (chain.0 ++ (b ∷ tail)) (define_all ids.0.0 t.0.0 t.0.3) (ids.0.0, chain.0, b ∷ tail, t.0.3, chain.1, spelled, refl, refl),
        joined bytes chain.0 (b ∷ tail) ids.0.1 t.0.2 chain.2 body,
      )

module _ (o : Order) (nodes_at : Nodes) (good : NodesTake o nodes_at) where
  abbrev MemberTaken : Types → List ℕ → (List ℕ × Tree) × ℕ × List ℕ × Types → Type 0
  MemberTaken types bytes y = (head : List ℕ) × (body : List ℕ) × SpellsText o head y.0.0 × SpellsNode o types y.0.1 body y.3 × Takes bytes (head ++ body) y.2

  member_takes : (names : List (List ℕ)) (seen : ℕ) (types : Types) (bytes : List ℕ) (y : (List ℕ × Tree) × ℕ × List ℕ × Types) → IsBytes bytes → member_with o nodes_at seen names types bytes ≡ Ok y → MemberTaken types bytes y
  unfolding member_with
  member_takes names seen types bytes y fits h =
      let name = bind_ok (lifted (text_at o bytes)) (λ name. nodes_at seen (label_fault (Some (record { name = name.0; before = names }))) types name.1 >>= λ t. Ok ((name.0, t.0), t.1, t.2, t.3)) y h in
      let text = name_takes o bytes name.0 fits name.1 in
      let t = bind_ok (nodes_at seen (label_fault (Some (record { name = name.0.0; before = names }))) types name.0.1) (λ t. Ok ((name.0.0, t.0), t.1, t.2, t.3)) y name.2 in
      let one = good seen (label_fault (Some (record { name = name.0.0; before = names }))) types name.0.1 t.0 text.2.rest_fits t.1 in
      subst (MemberTaken types bytes) (ok_is ((name.0.0, t.0.0), t.0.1, t.0.2, t.0.3) y t.2)
      (text.0, one.0, text.1, one.1, joined bytes text.0 one.0 name.0.1 t.0.2 text.2 one.2)

  fields_take : (names : List (List ℕ)) → MembersTake o (fields_with o nodes_at names)
  unfolding fields_with
  fields_take names zero seen types bytes x fits h =
      subst (λ (y : Fields × ℕ × List ℕ × Types). (front : List ℕ) × SpellsMembers o types y.0 front y.3 × (count_fields y.0 ≡ 0) × Takes bytes front y.2) (ok_is (no_fields, seen, bytes, types) x h)
      ([], (refl, refl), refl, record { parts = refl; rest_fits = fits })
  fields_take names (suc n) seen types bytes x fits h =
      let m = bind_ok (member_with o nodes_at seen names types bytes) (λ m. fields_with o nodes_at (names ++ m.0.0 ∷ []) n m.1 m.3 m.2 >>= λ fs. Ok (field m.0.0 m.0.1 fs.0, fs.1, fs.2, fs.3)) x h in
      let (head, body, text, one, took) = member_takes names seen types bytes m.0 fits m.1 in
      let fs = bind_ok (fields_with o nodes_at (names ++ m.0.0.0 ∷ []) n m.0.1 m.0.3 m.0.2) (λ fs. Ok (field m.0.0.0 m.0.0.1 fs.0, fs.1, fs.2, fs.3)) x m.2 in
      let others = fields_take (names ++ m.0.0.0 ∷ []) n m.0.1 m.0.3 m.0.2 fs.0 took.rest_fits fs.1 in
      let whole : Takes bytes (head ++ (body ++ others.0)) fs.0.2 = subst (λ (t : List ℕ). Takes bytes t fs.0.2) (append_assoc head body others.0) (joined bytes (head ++ body) others.0 m.0.2 fs.0.2 took others.3) in
      subst (λ (y : Fields × ℕ × List ℕ × Types). (front : List ℕ) × SpellsMembers o types y.0 front y.3 × (count_fields y.0 ≡ suc n) × Takes bytes front y.2)
      (ok_is (field m.0.0.0 m.0.0.1 fs.0.0, fs.0.1, fs.0.2, fs.0.3) x fs.2)
      (head ++ (body ++ others.0), (head, body, others.0, m.0.3, text, one, others.1, refl), ap suc others.2, whole)

below_take : (o : Order) (room : ℕ) → MembersTake o (fields_below o room)
unfolding fields_below
below_take o zero n seen types bytes x fits h = absurd cc
below_take o (suc room) n seen types bytes x fits h = fields_take o (node_on o (33 - room) (fields_below o room)) (node_takes o (33 - room) (fields_below o room) (below_take o room)) [] n seen types bytes x fits h

-- a description
abbrev DescTaken : Order → Types → List ℕ → Option Tree × List ℕ × Types → Type 0
DescTaken o before bytes x = (front : List ℕ) × Desc o before x.0 front x.2 × (bytes ≡ front ++ x.1)

some_taken : (o : Order) (before : Types) (bytes : List ℕ) (x : Option Tree × List ℕ × Types) → IsBytes bytes → desc_of None (node_at o 32 0 None before bytes) before ≡ Ok x → DescTaken o before bytes x
some_taken o before bytes x fits h =
    let t = bind_ok (node_at o 32 0 None before bytes) (λ t. Ok (Some t.0, t.2, t.3)) x h in
    let (front, spelled, took) = node_takes o (33 - 32) (fields_below o 32) (below_take o 32) 0 None before bytes t.0 fits t.1 in
    let ok = node_ok o 1 (fields_below o 32) (below_ok o 32 (omega arith)) 0 None before bytes t.0 t.1 in
    subst (DescTaken o before bytes) (ok_is (Some t.0.0, t.0.2, t.0.3) x t.2)
    (front, (spelled, type_alone 1 0 t.0.0 (omega arith) ok.1.0), took.parts)

null_is : (bytes rest : List ℕ) → null bytes ≡ Some rest → bytes ≡ 255 ∷ rest
unfolding null
null_is [] rest h = absurd cc
null_is (b ∷ bytes) rest h =
    elim (chosen (eqb b 255) (Some bytes) None (Some rest) h) [
      | inl a ↦ ap (λ (n : ℕ). n ∷ bytes) (eqb-true b 255 a.0) ∙ ap (λ (r : List ℕ). 255 ∷ r) (some_is bytes rest a.1)
      | inr a ↦ absurd cc
    ]
  where
    some_is : (x y : List ℕ) → Some x ≡ Some y → x ≡ y
    some_is x y e = cc

taken_as : (o : Order) (before : Types) (bytes : List ℕ) (n : Option (List ℕ)) (x : Option Tree × List ℕ × Types) → IsBytes bytes → null bytes ≡ n → desc_of n (node_at o 32 0 None before bytes) before ≡ Ok x → DescTaken o before bytes x
taken_as o before bytes None x fits is h = some_taken o before bytes x fits h
taken_as o before bytes (Some rest) x fits is h =
    subst (DescTaken o before bytes) (ok_is (None, rest, before) x h) (255 ∷ [], (refl, refl), null_is bytes rest is)

pub found_there : Found
unfolding desc_at
found_there o before bytes t rest after fits h = taken_as o before bytes (null bytes) (t, rest, after) fits refl h
