-- What is read is a type.
use Rattle.std.proofs.Common.{◌≡◌, ℕ, zero, suc, ◌+◌, ◌-◌, ◌≤◌, false, ltb, List, [], ◌∷◌, ◌++◌, length, get_or, Option, Some, None, Ok, Err, refl, sym, ap, subst, ◌∙◌, arith, inl, inr}
use Rattle.std.proofs.lemmas.Bool.{ltb-false, le-ltb}
use Rattle.std.specs.FinMap.{get}
use Rattle.pva_wire.specs.declared.order.Order.{Order}
use Rattle.pva_wire.specs.Reading.{◌>>=◌, count_at, counted_at, text_at}
use Rattle.pva_wire.proofs.Takes.{bind_ok}
use Rattle.pva_wire.proofs.Takes.{chosen, ok_is}
use Rattle.pvd_type.specs.Tree.{Tree, leaf, node, Leaf, Kind, struct, union, Fields, no_fields, field}
use Rattle.pvd_type.specs.Numbers.{nodes, nodes_in}
use Rattle.pvd_type.specs.Check.{Visit, below, visits, fault_at, label_fault, first_fault, IsType}
use Rattle.pvd_type.specs.declared.checking.TypeFault.{TypeFault}
use Rattle.pvd_type.proofs.Walks.{goes_on}
use Rattle.pvd_type.proofs.Counts.{nodes_below, no_next, passed}
use Rattle.pvd_desc.specs.Code.{takes, element, list_tree}
use Rattle.pvd_desc.specs.declared.code.Code.{Code}
use Rattle.pvd_desc.specs.declared.code.Code.TheVariants as code
use Rattle.pvd_desc.specs.declared.code.Element.{Element}
use Rattle.pvd_desc.specs.declared.code.Element.TheVariants as elements
use Rattle.pvd_desc.specs.declared.fault.DescCause.{DescCause}
use Rattle.pvd_desc.specs.declared.fault.DescCause.TheVariants.{UnknownCode}
use Rattle.pvd_desc.specs.Types.{Types, define_all}
use Rattle.pvd_desc.specs.Reading.{Read, Nodes, Members, lifted, id_at, chain_at, here_fault, here_at, unless, wants, code_at, cached_of, cached_at, sized_at, inside_at, members_at, element_of, element_at, parts_at, node_on, member_with, fields_with, fields_below}

-- less deep, and after fewer nodes
abbrev Looser : List Visit → List Visit → Type 0
Looser [] [] = Unit {0}
Looser (v ∷ vs) (w ∷ ws) = (v.level ≤ w.level) × (v.label ≡ w.label) × Looser vs ws
Looser _ _ = ⊥

looser_append : (vs ws xs ys : List Visit) → Looser vs ws → Looser xs ys → Looser (vs ++ xs) (ws ++ ys)
looser_append [] [] xs ys h k = k
looser_append (v ∷ vs) (w ∷ ws) xs ys h k = (h.0, h.1, looser_append vs ws xs ys h.2 k)
looser_append [] (w ∷ ws) xs ys h k = absurd h
looser_append (v ∷ vs) [] xs ys h k = absurd h

mutual
  looser_below : (l m : ℕ) (t : Tree) → l ≤ m → Looser (below l t) (below m t)
  looser_below l m (leaf x) h = tt {0}
  looser_below l m (node k id fs) h = looser_visits (l + 1) (m + 1) [] fs (omega arith)

  looser_visits : (l m : ℕ) (before : List (List ℕ)) (fs : Fields) → l ≤ m → Looser (visits l before fs) (visits m before fs)
  looser_visits l m before no_fields h = tt {0}
  looser_visits l m before (field name t fs) h =
      (h, refl, looser_append (below l t) (below m t) (visits l (before ++ name ∷ []) fs) (visits m (before ++ name ∷ []) fs) (looser_below l m t h) (looser_visits l m (before ++ name ∷ []) fs h))

no_here : (k j : ℕ) (v w : Visit) → k ≤ j → v.level ≤ w.level → v.label ≡ w.label → fault_at j w ≡ None → fault_at k v ≡ None
no_here k j v w few low same none =
    let tests = passed (ltb 32 w.level) (ltb 4095 j) (label_fault w.label) none in
    let a : ltb 32 v.level ≡ false = le-ltb 32 v.level (omega (arith, ltb-false 32 w.level tests.0)) in
    let b : ltb 4095 k ≡ false = le-ltb 4095 k (omega (arith, ltb-false 4095 j tests.1)) in
    let c : label_fault w.label ≡ None = rw (tests.0, tests.1) at none in
    rw (a, b, same) c

loosens : (vs ws : List Visit) (k j : ℕ) → Looser vs ws → k ≤ j → first_fault j ws ≡ None → first_fault k vs ≡ None
loosens [] [] k j h few none = refl
loosens (v ∷ vs) (w ∷ ws) k j h few none =
    let both = no_next (fault_at j w) (first_fault (j + 1) ws) none in
    rw (no_here k j v w few h.0 h.1 both.0) (loosens vs ws (k + 1) (j + 1) h.2 (omega arith) both.1)
loosens [] (w ∷ ws) k j h few none = absurd h
loosens (v ∷ vs) [] k j h few none = absurd h

pub type_alone : (level seen : ℕ) (t : Tree) → 1 ≤ level → first_fault (seen + 1) (below level t) ≡ None → IsType t
type_alone level seen t h none = loosens (below 1 t) (below level t) 1 (seen + 1) (looser_below 1 level t h) (omega arith) none

-- What was read on a level, after so many nodes.
abbrev TreeOk : ℕ → ℕ → Tree × ℕ × List ℕ × Types → Type 0
TreeOk level seen x = (first_fault (seen + 1) (below level x.0) ≡ None) × (x.1 ≡ seen + nodes x.0)

abbrev FieldsOk : ℕ → Members → Type 0
FieldsOk level fields = (n seen : ℕ) (types : Types) (bytes : List ℕ) (x : Fields × ℕ × List ℕ × Types) → fields n seen types bytes ≡ Ok x
    → (first_fault seen (visits (level + 1) [] x.0) ≡ None) × (x.1 ≡ seen + nodes_in x.0)

abbrev NodesOk : ℕ → Nodes → Type 0
NodesOk level nodes_at = (seen : ℕ) (named : Option TypeFault) (types : Types) (bytes : List ℕ) (x : Tree × ℕ × List ℕ × Types) → nodes_at seen named types bytes ≡ Ok x
    → (here_fault level seen named ≡ None) × TreeOk level seen x

pub unless_ok : {A : Type 0} (f : Option TypeFault) (left : ℕ) (x y : A) → unless f left x ≡ Ok y → (f ≡ None) × (x ≡ y)
unless_ok None left x y e = (refl, ok_is x y e)
unless_ok (Some f) left x y e = absurd cc

leaf_ok : (level seen : ℕ) (l : Leaf) (rest : List ℕ) (types : Types) (x : Tree × ℕ × List ℕ × Types) → ◌≡◌ {A = Read Tree} (Ok (leaf l, seen + 1, rest, types)) (Ok x) → TreeOk level seen x
leaf_ok level seen l rest types x e = subst (TreeOk level seen) (ok_is (leaf l, seen + 1, rest, types) x e) (refl, refl)

cached_of_ok : (wanted : Option Element) (other : DescCause × ℕ) (level seen left place id : ℕ) (t : Option Tree) (types : Types) (rest : List ℕ) (x : Tree × ℕ × List ℕ × Types)
    → cached_of wanted other level seen left place id t types rest ≡ Ok x → TreeOk level seen x
cached_of_ok wanted other level seen left place id None types rest x e = absurd cc
cached_of_ok wanted other level seen left place id (Some t) types rest x e =
    elim (chosen (wants wanted t) (unless (first_fault (seen + 1) (below level t)) left (t, seen + nodes t, rest, types)) (Err other) (Ok x) e) [
      | inl a ↦
          let u = unless_ok (first_fault (seen + 1) (below level t)) left (t, seen + nodes t, rest, types) x a.1 in
          subst (TreeOk level seen) u.1 (u.0, refl)
      | inr b ↦ absurd cc
    ]

cached_ok : (order : Order) (wanted : Option Element) (other : DescCause × ℕ) (level seen left : ℕ) (types : Types) (bytes : List ℕ) (x : Tree × ℕ × List ℕ × Types)
    → cached_at order wanted other level seen left types bytes ≡ Ok x → TreeOk level seen x
unfolding cached_at
cached_ok order wanted other level seen left types bytes x e =
    let b = bind_ok (id_at order bytes) (λ i. cached_of wanted other level seen left (length bytes) i.0 (get types i.0) types i.1) x e in
    cached_of_ok wanted other level seen left (length bytes) b.0.0 (get types b.0.0) types b.0.1 x b.2

sized_ok : (order : Order) (make : ℕ → Leaf) (level seen : ℕ) (types : Types) (bytes : List ℕ) (x : Tree × ℕ × List ℕ × Types) → sized_at order make seen types bytes ≡ Ok x → TreeOk level seen x
unfolding sized_at
sized_ok order make level seen types bytes x e =
    let b = bind_ok (lifted (count_at order bytes)) (λ n. Ok (leaf (make n.0), seen + 1, n.1, types)) x e in
    leaf_ok level seen (make b.0.0) b.0.1 types x b.2

list_ok : (level seen : ℕ) (t : Tree) (n : ℕ) (rest : List ℕ) (types known : Types) → TreeOk level seen (t, n, rest, types) → TreeOk level seen (list_tree t, n, rest, known)
list_ok level seen (leaf l) n rest types known h = h
list_ok level seen (node k id fs) n rest types known h = h

module _ (order : Order) (level : ℕ) (fields : Members) (good : FieldsOk level fields) where
  members_ok : (kind : Kind) (seen : ℕ) (types : Types) (bytes : List ℕ) (x : Tree × ℕ × List ℕ × Types) → members_at order level fields kind seen types bytes ≡ Ok x → TreeOk level seen x
  unfolding inside_at
  members_ok kind seen types bytes x e =
      let b = bind_ok (inside_at order level fields seen types bytes) (λ p. Ok (node kind p.0.0 p.0.1, p.1, p.2, p.3)) x e in
      let c = bind_ok (lifted (text_at order bytes)) (λ id. lifted (counted_at order 2 id.1) >>= λ n. fields n.0 (seen + 1) types n.1 >>= λ fs. Ok ((id.0, fs.0), fs.1, fs.2, fs.3)) b.0 b.1 in
      let d = bind_ok (lifted (counted_at order 2 c.0.1)) (λ n. fields n.0 (seen + 1) types n.1 >>= λ fs. Ok ((c.0.0, fs.0), fs.1, fs.2, fs.3)) b.0 c.2 in
      let f = bind_ok (fields d.0.0 (seen + 1) types d.0.1) (λ fs. Ok ((c.0.0, fs.0), fs.1, fs.2, fs.3)) b.0 d.2 in
      let ok = good d.0.0 (seen + 1) types d.0.1 f.0 f.1 in
      let made = ok_is ((c.0.0, f.0.0), f.0.1, f.0.2, f.0.3) b.0 f.2 in
      let shown = ok_is (node kind b.0.0.0 b.0.0.1, b.0.1, b.0.2, b.0.3) x b.2 in
      subst (TreeOk level seen) (ap (λ (p : (List ℕ × Fields) × ℕ × List ℕ × Types). (node kind p.0.0 p.0.1, p.1, p.2, p.3)) made ∙ shown) (ok.0, omega (arith, ok.1))

  pub element_ok : (e : Element) (other : DescCause × ℕ) (left seen : ℕ) (types : Types) (c : Code) (rest : List ℕ) (x : Tree × ℕ × List ℕ × Types)
      → element_of order level fields e other left seen types c rest ≡ Ok x → TreeOk level seen x
  unfolding element_of
  element_ok e other left seen types code.Cached rest x h = cached_ok order (Some e) other level seen left types rest x h
  element_ok e other left seen types c rest x h =
      elim (chosen (takes e c) (members_at order level fields (element e) seen types rest) (Err other) (Ok x) h) [ inl a ↦ members_ok (element e) seen types rest x a.1 | inr b ↦ absurd cc ]

  element_at_ok : (e : Element) (seen : ℕ) (types : Types) (bytes : List ℕ) (x : Tree × ℕ × List ℕ × Types) → element_at order level fields e seen types bytes ≡ Ok x → TreeOk level seen x
  unfolding element_at
  element_at_ok e seen types bytes x h =
      let other : DescCause × ℕ = (UnknownCode (get_or bytes 0 0), length bytes) in
      let ids = bind_ok (chain_at order bytes) (λ ids. code_at ids.1 >>= λ c. element_of order level fields e other (length ids.1) seen types c.0 c.1 >>= λ t. Ok (list_tree t.0, t.1, t.2, define_all ids.0 t.0 t.3)) x h in
      let c = bind_ok (code_at ids.0.1) (λ c. element_of order level fields e other (length ids.0.1) seen types c.0 c.1 >>= λ t. Ok (list_tree t.0, t.1, t.2, define_all ids.0.0 t.0 t.3)) x ids.2 in
      let t = bind_ok (element_of order level fields e other (length ids.0.1) seen types c.0.0 c.0.1) (λ t. Ok (list_tree t.0, t.1, t.2, define_all ids.0.0 t.0 t.3)) x c.2 in
      subst (TreeOk level seen) (ok_is (list_tree t.0.0, t.0.1, t.0.2, define_all ids.0.0 t.0.0 t.0.3) x t.2)
      (list_ok level seen t.0.0 t.0.1 t.0.2 t.0.3 (define_all ids.0.0 t.0.0 t.0.3) (element_ok e other (length ids.0.1) seen types c.0.0 c.0.1 t.0 t.1))

  pub parts_ok : (c : Code) (left seen : ℕ) (types : Types) (rest : List ℕ) (x : Tree × ℕ × List ℕ × Types) → parts_at order level fields c left seen types rest ≡ Ok x → TreeOk level seen x
  unfolding parts_at
  parts_ok (code.Plain s) left seen types rest x h = leaf_ok level seen _ rest types x h
  parts_ok (code.List s) left seen types rest x h = leaf_ok level seen _ rest types x h
  parts_ok (code.Bounded s) left seen types rest x h = sized_ok order _ level seen types rest x h
  parts_ok (code.Fixed s) left seen types rest x h = sized_ok order _ level seen types rest x h
  parts_ok code.BoundText left seen types rest x h = sized_ok order _ level seen types rest x h
  parts_ok code.Variant left seen types rest x h = leaf_ok level seen _ rest types x h
  parts_ok code.VariantList left seen types rest x h = leaf_ok level seen _ rest types x h
  parts_ok code.Struct left seen types rest x h = members_ok struct seen types rest x h
  parts_ok code.Union left seen types rest x h = members_ok union seen types rest x h
  parts_ok code.StructList left seen types rest x h = element_at_ok elements.Struct seen types rest x h
  parts_ok code.UnionList left seen types rest x h = element_at_ok elements.Union seen types rest x h
  parts_ok code.Cached left seen types rest x h = cached_ok order None _ level seen left types rest x h
  parts_ok code.Unknown left seen types rest x h = absurd cc

  pub node_ok : NodesOk level (node_on order level fields)
  unfolding node_on
  node_ok seen named types bytes x h =
      let ids = bind_ok (chain_at order bytes) (λ ids. code_at ids.1 >>= λ c. here_at level seen named (length ids.1) >>= λ u. parts_at order level fields c.0 (length ids.1) seen types c.1 >>= λ t. Ok (t.0, t.1, t.2, define_all ids.0 t.0 t.3)) x h in
      let c = bind_ok (code_at ids.0.1) (λ c. here_at level seen named (length ids.0.1) >>= λ u. parts_at order level fields c.0 (length ids.0.1) seen types c.1 >>= λ t. Ok (t.0, t.1, t.2, define_all ids.0.0 t.0 t.3)) x ids.2 in
      let u = bind_ok (here_at level seen named (length ids.0.1)) (λ u. parts_at order level fields c.0.0 (length ids.0.1) seen types c.0.1 >>= λ t. Ok (t.0, t.1, t.2, define_all ids.0.0 t.0 t.3)) x c.2 in
      let t = bind_ok (parts_at order level fields c.0.0 (length ids.0.1) seen types c.0.1) (λ t. Ok (t.0, t.1, t.2, define_all ids.0.0 t.0 t.3)) x u.2 in
      let here = unless_ok (here_fault level seen named) (length ids.0.1) tt u.0 u.1 in
      let ok = parts_ok c.0.0 (length ids.0.1) seen types c.0.1 t.0 t.1 in
      (here.0, subst (TreeOk level seen) (ok_is (t.0.0, t.0.1, t.0.2, define_all ids.0.0 t.0.0 t.0.3) x t.2) ok)

module _ (order : Order) (level : ℕ) (nodes_at : Nodes) (good : NodesOk level nodes_at) where
  fields_ok : (before : List (List ℕ)) (n seen : ℕ) (types : Types) (bytes : List ℕ) (x : Fields × ℕ × List ℕ × Types) → fields_with order nodes_at before n seen types bytes ≡ Ok x
      → (first_fault seen (visits level before x.0) ≡ None) × (x.1 ≡ seen + nodes_in x.0)
  unfolding fields_with member_with
  fields_ok before zero seen types bytes x h =
      subst (λ (y : Fields × ℕ × List ℕ × Types). (first_fault seen (visits level before y.0) ≡ None) × (y.1 ≡ seen + nodes_in y.0)) (ok_is (no_fields, seen, bytes, types) x h) (refl, omega arith)
  fields_ok before (suc n) seen types bytes x h =
      let m = bind_ok (member_with order nodes_at seen before types bytes) (λ m. fields_with order nodes_at (before ++ m.0.0 ∷ []) n m.1 m.3 m.2 >>= λ fs. Ok (field m.0.0 m.0.1 fs.0, fs.1, fs.2, fs.3)) x h in
      let name = bind_ok (lifted (text_at order bytes)) (λ name. nodes_at seen (label_fault (Some (record { name = name.0; before = before }))) types name.1 >>= λ t. Ok ((name.0, t.0), t.1, t.2, t.3)) m.0 m.1 in
      let t = bind_ok (nodes_at seen (label_fault (Some (record { name = name.0.0; before = before }))) types name.0.1) (λ t. Ok ((name.0.0, t.0), t.1, t.2, t.3)) m.0 name.2 in
      let fs = bind_ok (fields_with order nodes_at (before ++ m.0.0.0 ∷ []) n m.0.1 m.0.3 m.0.2) (λ fs. Ok (field m.0.0.0 m.0.0.1 fs.0, fs.1, fs.2, fs.3)) x m.2 in
      let ok = good seen (label_fault (Some (record { name = name.0.0; before = before }))) types name.0.1 t.0 t.1 in
      let rest = fields_ok (before ++ m.0.0.0 ∷ []) n m.0.1 m.0.3 m.0.2 fs.0 fs.1 in
      let made = ok_is ((name.0.0, t.0.0), t.0.1, t.0.2, t.0.3) m.0 t.2 in
      let same_name : name.0.0 ≡ m.0.0.0 = ap (λ (p : (List ℕ × Tree) × ℕ × List ℕ × Types). p.0.0) made in
      let same_tree : t.0.0 ≡ m.0.0.1 = ap (λ (p : (List ℕ × Tree) × ℕ × List ℕ × Types). p.0.1) made in
      let same_count : t.0.1 ≡ m.0.1 = ap (λ (p : (List ℕ × Tree) × ℕ × List ℕ × Types). p.1) made in
      let here : fault_at seen (record { level = level; label = Some (record { name = m.0.0.0; before = before }) }) ≡ None =
      subst (λ (nm : List ℕ). fault_at seen (record { level = level; label = Some (record { name = nm; before = before }) }) ≡ None) same_name ok.0 in
      let inner : first_fault (seen + 1) (below level m.0.0.1) ≡ None = subst (λ (u : Tree). first_fault (seen + 1) (below level u) ≡ None) same_tree ok.1.0 in
      let count : m.0.1 ≡ seen + nodes m.0.0.1 = sym same_count ∙ ok.1.1 ∙ ap (λ (u : Tree). seen + nodes u) same_tree in
      let step = goes_on seen level before m.0.0.0 m.0.0.1 fs.0.0 m.0.1 here (inner, omega (arith, count, nodes_below level m.0.0.1)) in
      subst (λ (y : Fields × ℕ × List ℕ × Types). (first_fault seen (visits level before y.0) ≡ None) × (y.1 ≡ seen + nodes_in y.0)) (ok_is (field m.0.0.0 m.0.0.1 fs.0.0, fs.0.1, fs.0.2, fs.0.3) x fs.2)
      (step.0 ∙ rest.0, omega (arith, rest.1, count))

pub below_ok : (order : Order) (room : ℕ) → room ≤ 33 → FieldsOk (33 - room) (fields_below order room)
unfolding fields_below
below_ok order zero h n seen types bytes x e = absurd cc
below_ok order (suc room) h n seen types bytes x e =
    let level : 33 - suc room + 1 ≡ 33 - room = omega arith in
    rw level (fields_ok order (33 - room) (node_on order (33 - room) (fields_below order room)) (node_ok order (33 - room) (fields_below order room) (below_ok order room (omega arith))) [] n seen types bytes x e)
