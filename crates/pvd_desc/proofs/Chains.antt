-- Readings joined with what was read before.
use Rattle.std.proofs.Common.{◌≡◌, ℕ, zero, suc, ◌+◌, ◌-◌, ◌<◌, Bool, true, false, cond, eqb, List, [], ◌∷◌, ◌++◌, length, drop, Option, Some, None, Result, Ok, Err, refl, sym, ap, ◌∙◌, arith, append_assoc, ◌≤◌, ltb, inl, inr}
use Rattle.pva_wire.specs.declared.order.Order.{Order}
use Rattle.pva_wire.specs.declared.order.Order.TheVariants.{Little, Big}
use Rattle.pva_wire.specs.Reading.{◌>>=◌, number_of, number_at, counted_at, text_at}
use Rattle.pva_wire.specs.declared.fault.Cause.{Cause}
use Rattle.pva_wire.specs.declared.fault.Cause.TheVariants.{Short}
use Rattle.pva_wire.proofs.Takes.{chosen, ok_is}
use Rattle.pvd_type.specs.Tree.{Tree, node, Kind, Fields, no_fields, field, count_fields}
use Rattle.pvd_type.specs.View.{shape_step, member_step, node_step, node_view, member_view, members_view, names_of}
use Rattle.pvd_type.specs.declared.shape.Member.{Member}
use Rattle.std.proofs.lemmas.Bool.{eqb-true, eq-eqb, le-ltb, true≢false}
use Rattle.std.proofs.lemmas.List.{map_push, append-nil, length-drop}
use Rattle.pvd_type.proofs.Walks.{member_is}
use Rattle.pvd_type.proofs.Sets.{differs}
use Rattle.pvd_type.specs.declared.shape.Node.{Node, out-Node, fold_out-Node}
use Rattle.pvd_desc.specs.declared.fault.DescStop.{DescStop}
use Rattle.pvd_desc.specs.declared.fault.DescStop.TheVariants as stops
use Rattle.pvd_desc.specs.Types.{Types}
use Rattle.pvd_desc.specs.Reading.{Part, Read, Nodes, Fails, id_at, definition, chain_at, member_with, fields_with, fields_below, node_at, lifted, inside_at, members_at}

-- ids, and those of a reading
abbrev pub after : List ℕ → Part (List ℕ) → Part (List ℕ)
after ids r = r >>= λ c. Ok (ids ++ c.0, c.1)

abbrev pub join_fields : List Member → Fields → Fields
join_fields [] fs = fs
join_fields (m ∷ ms) fs = field (member_view m).0 (member_view m).1 (join_fields ms fs)

-- members, and those of a reading
abbrev pub behind : List Member → Read Fields → Read Fields
behind ms r = r >>= λ fs. Ok (join_fields ms fs.0, fs.1, fs.2, fs.3)

pair_is : (order : Order) (x y : ℕ) (rest : List ℕ) → number_of order 2 (x ∷ (y ∷ rest)) ≡ number_of order 2 (x ∷ (y ∷ []))
pair_is Little x y rest = refl
pair_is Big x y rest = refl

read_within : (order : Order) (n : ℕ) (bytes : List ℕ) (x : ℕ × List ℕ) → number_at order n bytes ≡ Ok x → length x.1 ≤ length bytes
unfolding number_at
read_within order n bytes x h =
    elim (chosen (ltb (length bytes) n) (Err (Short, length bytes)) (Ok (number_of order n bytes, drop n bytes)) (Ok x) h) [
      | inl short ↦ absurd cc
      | inr a ↦ let same = ok_is (number_of order n bytes, drop n bytes) x a.1 in omega (arith, length-drop n bytes, ap (λ (y : ℕ × List ℕ). length y.1) same)
    ]

pub unlifted : {A : Type 0} (r : Result A (Cause × ℕ)) (x : A) → lifted r ≡ Ok x → r ≡ Ok x
unlifted (Ok y) x h = cc
unlifted (Err e) x h = absurd cc

pub id_within : (order : Order) (bytes rest : List ℕ) (id : ℕ) → id_at order bytes ≡ Ok (id, rest) → length rest ≤ length bytes
id_within order bytes rest id h = read_within order 2 bytes (id, rest) (unlifted (number_at order 2 bytes) (id, rest) h)

pub chain_step : (order : Order) (bytes : List ℕ) → chain_at order (253 ∷ bytes) ≡ (id_at order bytes >>= λ i. chain_at order i.1 >>= λ c. Ok (i.0 ∷ c.0, c.1))
unfolding chain_at number_at
chain_step order [] = refl
chain_step order (x ∷ []) = refl
chain_step order (x ∷ (y ∷ rest)) = rw (le-ltb (length (x ∷ (y ∷ rest))) 2 (omega arith), pair_is order x y rest) refl

chain_end : (order : Order) (b : ℕ) (bytes : List ℕ) → (b ≡ 253 → ⊥) → chain_at order (b ∷ bytes) ≡ Ok ([], b ∷ bytes)
unfolding chain_at
chain_end order b [] other = rw (differs b 253 other) refl
chain_end order b (x ∷ []) other = rw (differs b 253 other) refl
chain_end order b (x ∷ (y ∷ rest)) other = rw (differs b 253 other) refl

chain_none : (order : Order) → chain_at order [] ≡ Ok ([], [])
unfolding chain_at
chain_none order = refl

definition_at : (b : ℕ) (bytes rest : List ℕ) (t : Bool) → eqb b 253 ≡ t → ◌≡◌ {A = Option (List ℕ)} (cond t (Some bytes) None) (Some rest) → b ∷ bytes ≡ 253 ∷ rest
definition_at b bytes rest true e h = let is : b ≡ 253 = eqb-true b 253 e in rw is (ap (λ (o : Option (List ℕ)). 253 ∷ some_or o bytes) h)
  where
    some_or : Option (List ℕ) → List ℕ → List ℕ
    some_or None d = d
    some_or (Some x) d = x
definition_at b bytes rest false e h = absurd cc

definition_is : (bytes rest : List ℕ) → definition bytes ≡ Some rest → bytes ≡ 253 ∷ rest
unfolding definition
definition_is [] rest h = absurd cc
definition_is (b ∷ bytes) rest h = definition_at b bytes rest (eqb b 253) refl h

other_at : (b : ℕ) (bytes : List ℕ) (t : Bool) → eqb b 253 ≡ t → ◌≡◌ {A = Option (List ℕ)} (cond t (Some bytes) None) None → b ≡ 253 → ⊥
other_at b bytes true e h is = absurd cc
other_at b bytes false e h is = true≢false (sym (eq-eqb b 253 is) ∙ e)

chain_other : (order : Order) (bytes : List ℕ) → definition bytes ≡ None → chain_at order bytes ≡ Ok ([], bytes)
unfolding definition
chain_other order [] h = chain_none order
chain_other order (b ∷ bytes) h = chain_end order b bytes (other_at b bytes (eqb b 253) refl h)

pub chain_fails : (order : Order) (ids rest bytes : List ℕ) (stop : DescStop) (all : Part (List ℕ)) → definition rest ≡ Some bytes → Fails stop (id_at order bytes) → after ids (chain_at order rest) ≡ all → Fails stop all
chain_fails order ids rest bytes stops.Memory all d h e = tt
chain_fails order ids rest bytes (stops.Fault cause left) all d h e =
    let step : chain_at order rest ≡ Err (cause, left) = ap (chain_at order) (definition_is rest bytes d) ∙ chain_step order bytes ∙ rw h refl in
    sym e ∙ ap (after ids) step

after_more : (ids : List ℕ) (id : ℕ) (r : Part (List ℕ)) → after (ids ++ id ∷ []) r ≡ after ids (r >>= λ c. Ok (id ∷ c.0, c.1))
after_more ids id (Ok c) = ap (λ (xs : List ℕ). Ok (xs, c.1)) (append_assoc ids (id ∷ []) c.0)
after_more ids id (Err e) = refl

pub chain_goes : (order : Order) (ids rest bytes next : List ℕ) (id : ℕ) (all : Part (List ℕ)) → definition rest ≡ Some bytes → id_at order bytes ≡ Ok (id, next) → after ids (chain_at order rest) ≡ all → after (ids ++ id ∷ []) (chain_at order next) ≡ all
chain_goes order ids rest bytes next id all d h e =
    let step : chain_at order rest ≡ (chain_at order next >>= λ c. Ok (id ∷ c.0, c.1)) = ap (chain_at order) (definition_is rest bytes d) ∙ chain_step order bytes ∙ rw h refl in
    after_more ids id (chain_at order next) ∙ ap (after ids) (sym step) ∙ e

pub chain_done : (order : Order) (ids bytes : List ℕ) (all : Part (List ℕ)) → definition bytes ≡ None → after ids (chain_at order bytes) ≡ all → all ≡ Ok (ids, bytes)
chain_done order ids bytes all other e = sym e ∙ ap (after ids) (chain_other order bytes other) ∙ ap (λ (xs : List ℕ). Ok (xs, bytes)) (append-nil ids)

-- members, one after another
module _ (order : Order) (nodes_at : Nodes) (ms : List Member) (seen : ℕ) (types : Types) (bytes : List ℕ) where
  fields_none : fields_with order nodes_at (names_of ms) 0 seen types bytes ≡ Ok (no_fields, seen, bytes, types)
  unfolding fields_with
  fields_none = refl

  joined_none : (ms : List Member) → join_fields ms no_fields ≡ members_view ms
  joined_none [] = refl
  joined_none (m ∷ ms) = ap (field (member_view m).0 (member_view m).1) (joined_none ms)

  pub fields_done : (n : ℕ) (all : Read Fields) → n ≡ 0 → behind ms (fields_with order nodes_at (names_of ms) n seen types bytes) ≡ all → all ≡ Ok (members_view ms, seen, bytes, types)
  fields_done n all none e = sym e ∙ ap (λ n. behind ms (fields_with order nodes_at (names_of ms) n seen types bytes)) none ∙ ap (behind ms) fields_none ∙ ap (λ (fs : Fields). Ok (fs, seen, bytes, types)) (joined_none ms)

  fields_step : (n : ℕ) → 0 < n → fields_with order nodes_at (names_of ms) n seen types bytes
      ≡ (member_with order nodes_at seen (names_of ms) types bytes >>= λ m. fields_with order nodes_at (names_of ms ++ m.0.0 ∷ []) (n - 1) m.1 m.3 m.2 >>= λ fs. Ok (field m.0.0 m.0.1 fs.0, fs.1, fs.2, fs.3))
  unfolding fields_with
  fields_step zero h = absurd (omega arith)
  fields_step (suc n) h = let e : suc n - 1 ≡ n = omega arith in rw e refl

  pub fields_fails : (n : ℕ) (stop : DescStop) (all : Read Fields) → 0 < n → Fails stop (member_with order nodes_at seen (names_of ms) types bytes)
      → behind ms (fields_with order nodes_at (names_of ms) n seen types bytes) ≡ all → Fails stop all
  fields_fails n stops.Memory all some h e = tt
  fields_fails n (stops.Fault cause left) all some h e =
      let step : fields_with order nodes_at (names_of ms) n seen types bytes ≡ Err (cause, left) = fields_step n some ∙ rw h refl in
      sym e ∙ ap (behind ms) step

  pub fields_goes : (n : ℕ) (all : Read Fields) (m : Member) (more : ℕ) (rest : List ℕ) (known : Types) → 0 < n
      → member_with order nodes_at seen (names_of ms) types bytes ≡ Ok (member_view m, more, rest, known)
      → behind ms (fields_with order nodes_at (names_of ms) n seen types bytes) ≡ all
      → behind (ms ++ m ∷ []) (fields_with order nodes_at (names_of (ms ++ m ∷ [])) (n - 1) more known rest) ≡ all
  fields_goes n all m more rest known some h e =
      let step : fields_with order nodes_at (names_of ms) n seen types bytes ≡ (fields_with order nodes_at (names_of ms ++ (member_view m).0 ∷ []) (n - 1) more known rest >>= λ fs. Ok (field (member_view m).0 (member_view m).1 fs.0, fs.1, fs.2, fs.3)) = fields_step n some ∙ rw h refl in
      let names : names_of (ms ++ m ∷ []) ≡ names_of ms ++ (member_view m).0 ∷ [] = map_push (λ (x : Member). x.name) ms m ∙ ap (λ (p : List ℕ × Tree). names_of ms ++ p.0 ∷ []) (sym (member_is m)) in
      ap (λ (ns : List (List ℕ)). behind (ms ++ m ∷ []) (fields_with order nodes_at ns (n - 1) more known rest)) names
      ∙ behind_more ms m (fields_with order nodes_at (names_of ms ++ (member_view m).0 ∷ []) (n - 1) more known rest)
      ∙ ap (behind ms) (sym step) ∙ e
    where
      join_more : (ms : List Member) (m : Member) (fs : Fields) → join_fields (ms ++ m ∷ []) fs ≡ join_fields ms (field (member_view m).0 (member_view m).1 fs)
      join_more [] m fs = refl
      join_more (x ∷ ms) m fs = ap (field (member_view x).0 (member_view x).1) (join_more ms m fs)

      behind_more : (ms : List Member) (m : Member) (r : Read Fields) → behind (ms ++ m ∷ []) r ≡ behind ms (r >>= λ fs. Ok (field (member_view m).0 (member_view m).1 fs.0, fs.1, fs.2, fs.3))
      behind_more ms m (Ok fs) = ap (λ (x : Fields). Ok (x, fs.1, fs.2, fs.3)) (join_more ms m fs.0)
      behind_more ms m (Err e) = refl

pub below_zero : (order : Order) (room : ℕ) → 0 < room → fields_below order room ≡ fields_with order (node_at order (room - 1)) []
unfolding fields_below
below_zero order zero h = absurd (omega arith)
below_zero order (suc room) h = let e : suc room - 1 ≡ room = omega arith in rw e refl

module _ (order : Order) (level room seen : ℕ) (types : Types) (bytes : List ℕ) (id : List ℕ) (n : ℕ) (r1 r2 : List ℕ) (some : 0 < room)
    (id_is : lifted (text_at order bytes) ≡ Ok (id, r1)) (count_is : lifted (counted_at order 2 r1) ≡ Ok (n, r2)) where
  inside_fails : (stop : DescStop) → Fails stop (fields_with order (node_at order (room - 1)) [] n (seen + 1) types r2) → Fails stop (inside_at order level (fields_below order room) seen types bytes)
  unfolding inside_at
  inside_fails stops.Memory h = tt
  inside_fails (stops.Fault cause left) h = rw (id_is, count_is, below_zero order room some, h) refl

  inside_is : (fs : Fields) (k : ℕ) (rest : List ℕ) (known : Types) → fields_with order (node_at order (room - 1)) [] n (seen + 1) types r2 ≡ Ok (fs, k, rest, known)
      → inside_at order level (fields_below order room) seen types bytes ≡ Ok ((id, fs), k, rest, known)
  unfolding inside_at
  inside_is fs k rest known h = rw (id_is, count_is, below_zero order room some, h) refl

-- a structure or a union of what stands in it
module _ (kind : Kind) (order : Order) (level room seen : ℕ) (types : Types) (bytes : List ℕ) (id : List ℕ) (n : ℕ) (r1 r2 : List ℕ) (some : 0 < room)
    (id_is : lifted (text_at order bytes) ≡ Ok (id, r1)) (count_is : lifted (counted_at order 2 r1) ≡ Ok (n, r2)) where
  pub branch_fails : (stop : DescStop) → Fails stop (fields_with order (node_at order (room - 1)) [] n (seen + 1) types r2) → Fails stop (members_at order level (fields_below order room) kind seen types bytes)
  branch_fails stops.Memory h = tt
  branch_fails (stops.Fault cause left) h = rw (inside_fails order level room seen types bytes id n r1 r2 some id_is count_is (stops.Fault cause left) h) refl

  pub branch_is : (fs : Fields) (k : ℕ) (rest : List ℕ) (known : Types) → fields_with order (node_at order (room - 1)) [] n (seen + 1) types r2 ≡ Ok (fs, k, rest, known)
      → members_at order level (fields_below order room) kind seen types bytes ≡ Ok (node kind id fs, k, rest, known)
  branch_is fs k rest known h = rw (inside_is order level room seen types bytes id n r1 r2 some id_is count_is fs k rest known h) refl

pub node_is : (n : Node) → node_view n ≡ ((out-Node n).id, members_view (out-Node n).members.items)
node_is n = fold_out-Node Tree (List ℕ × Tree) (List ℕ × Fields) shape_step member_step node_step n

pub count_is : (ms : List Member) → count_fields (members_view ms) ≡ length ms
count_is [] = refl
count_is (m ∷ ms) = ap suc (count_is ms)
