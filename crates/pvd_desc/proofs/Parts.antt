-- What is read of the smaller parts of a description is spelled so.
use Rattle.std.proofs.Common.{◌≡◌, inl, inr, ℕ, suc, ◌+◌, ◌*◌, true, cond, ltb, eqb, List, [], ◌∷◌, ◌++◌, length, Option, Some, None, Ok, Err, refl, sym, ap, subst, ◌∙◌, arith, append_assoc}
use Rattle.std.proofs.lemmas.Bool.{eqb-true}
use Rattle.std.specs.FinMap.{get}
use Rattle.pva_wire.specs.declared.order.Order.{Order}
use Rattle.pva_wire.specs.declared.fault.Cause.TheVariants.{Short}
use Rattle.pva_wire.specs.Spelling.{IsBytes, SpellsNumber, SpellsSize, SpellsText}
use Rattle.pva_wire.specs.Reading.{◌>>=◌, number_of, number_at, size_at, count_of_size, count_at, counted_at, text_at}
use Rattle.pva_wire.proofs.Takes.{Takes, IsBytes-take, chosen, ok_is, bind_ok}
use Rattle.pva_wire.proofs.Digits.{number_takes, number_small, number_back}
use Rattle.pva_wire.proofs.Sizes.{size_takes}
use Rattle.pva_wire.proofs.Texts.{text_takes}
use Rattle.pvd_type.specs.Tree.{Tree, leaf, node, Leaf, struct, union, struct_list, union_list, Fields}
use Rattle.pvd_type.specs.Numbers.{nodes}
use Rattle.pvd_type.specs.Check.{below, first_fault}
use Rattle.pvd_desc.specs.declared.code.Code.{Code}
use Rattle.pvd_desc.specs.declared.code.Code.TheVariants as code
use Rattle.pvd_desc.specs.declared.code.Element.{Element}
use Rattle.pvd_desc.specs.declared.code.Element.TheVariants as elements
use Rattle.pvd_desc.specs.declared.fault.DescCause.{DescCause}
use Rattle.pvd_desc.specs.declared.fault.DescCause.TheVariants.{Wire}
use Rattle.pvd_desc.specs.Code.{code_of, element, is_element}
use Rattle.pvd_desc.specs.Types.{Types}
use Rattle.pvd_desc.specs.Reading.{Part, lifted, id_at, chain_at, known, code_at, unless, wants, cached_of, cached_at, sized_at}
use Rattle.pvd_desc.specs.Grammar.{SpellsChain}
use Rattle.pvd_desc.proofs.Codes.{CodeIs, code_is}
use Rattle.pvd_desc.proofs.Chains.{unlifted}
use Rattle.pvd_desc.proofs.Sound.{unless_ok}

-- one text after another
pub joined : (bytes first second mid rest : List ℕ) → Takes bytes first mid → Takes mid second rest → Takes bytes (first ++ second) rest
joined bytes first second mid rest a b = record {
  parts = a.parts ∙ ap (λ (t : List ℕ). first ++ t) b.parts ∙ sym (append_assoc first second rest);
  rest_fits = b.rest_fits;
}

-- a byte before a text
pub after_byte : (b : ℕ) (bytes text rest : List ℕ) → Takes bytes text rest → Takes (b ∷ bytes) (b ∷ text) rest
after_byte b bytes text rest t = record { parts = ap (λ (bs : List ℕ). b ∷ bs) t.parts; rest_fits = t.rest_fits }

pub id_takes : (o : Order) (bytes : List ℕ) (x : ℕ × List ℕ) → IsBytes bytes → id_at o bytes ≡ Ok x → (text : List ℕ) × SpellsNumber o 2 text x.0 × Takes bytes text x.1
id_takes o bytes x fits h = number_takes o 2 bytes x fits (unlifted (number_at o 2 bytes) x h)

pub name_takes : (o : Order) (bytes : List ℕ) (x : List ℕ × List ℕ) → IsBytes bytes → lifted (text_at o bytes) ≡ Ok x → (text : List ℕ) × SpellsText o text x.0 × Takes bytes text x.1
name_takes o bytes x fits h = text_takes o bytes x fits (unlifted (text_at o bytes) x h)

of_size_takes : (o : Order) (left : ℕ) (size : Option ℕ) (bytes after : List ℕ) (x : ℕ × List ℕ) → (text : List ℕ) × SpellsSize o text size × Takes bytes text after → count_of_size left size after ≡ Ok x
    → (text : List ℕ) × SpellsSize o text (Some x.0) × Takes bytes text x.1
of_size_takes o left None bytes after x t h = absurd cc
of_size_takes o left (Some n) bytes after x t h = subst (λ (y : ℕ × List ℕ). (text : List ℕ) × SpellsSize o text (Some y.0) × Takes bytes text y.1) (ok_is (n, after) x h) t

count_takes : (o : Order) (bytes : List ℕ) (x : ℕ × List ℕ) → IsBytes bytes → count_at o bytes ≡ Ok x → (text : List ℕ) × SpellsSize o text (Some x.0) × Takes bytes text x.1
unfolding count_at
count_takes o bytes x fits h =
    let b = bind_ok (size_at o bytes) (λ size. count_of_size (length bytes) size.0 size.1) x h in
    of_size_takes o (length bytes) b.0.0 bytes b.0.1 x (size_takes o bytes b.0 fits b.1) b.2

pub bound_takes : (o : Order) (bytes : List ℕ) (x : ℕ × List ℕ) → IsBytes bytes → lifted (count_at o bytes) ≡ Ok x → (text : List ℕ) × SpellsSize o text (Some x.0) × Takes bytes text x.1
bound_takes o bytes x fits h = count_takes o bytes x fits (unlifted (count_at o bytes) x h)

counted_takes_at : (o : Order) (width : ℕ) (bytes : List ℕ) (x : ℕ × List ℕ) → IsBytes bytes → counted_at o width bytes ≡ Ok x → (text : List ℕ) × SpellsSize o text (Some x.0) × Takes bytes text x.1
unfolding counted_at
counted_takes_at o width bytes x fits h =
    let b = bind_ok (count_at o bytes) (λ count. cond (ltb (length count.1) (count.0 * width)) (Err (Short, length bytes)) (Ok (count.0, count.1))) x h in
    elim (chosen (ltb (length b.0.1) (b.0.0 * width)) (Err (Short, length bytes)) (Ok (b.0.0, b.0.1)) (Ok x) b.2) [
      | inl short ↦ absurd cc
      | inr enough ↦ subst (λ (y : ℕ × List ℕ). (text : List ℕ) × SpellsSize o text (Some y.0) × Takes bytes text y.1) (ok_is (b.0.0, b.0.1) x enough.1) (count_takes o bytes b.0 fits b.1)
    ]

pub counted_takes : (o : Order) (width : ℕ) (bytes : List ℕ) (x : ℕ × List ℕ) → IsBytes bytes → lifted (counted_at o width bytes) ≡ Ok x → (text : List ℕ) × SpellsSize o text (Some x.0) × Takes bytes text x.1
counted_takes o width bytes x fits h = counted_takes_at o width bytes x fits (unlifted (counted_at o width bytes) x h)

-- definitions, one after another
abbrev ChainTaken : Order → List ℕ → List ℕ × List ℕ → Type 0
ChainTaken o bytes x = (head : List ℕ) × SpellsChain o x.0 head × Takes bytes head x.1

none_taken : (o : Order) (bytes : List ℕ) (x : List ℕ × List ℕ) → IsBytes bytes → ◌≡◌ {A = Part (List ℕ)} (Ok ([], bytes)) (Ok x) → ChainTaken o bytes x
none_taken o bytes x fits h = subst (ChainTaken o bytes) (ok_is ([], bytes) x h) ([], refl, record { parts = refl; rest_fits = fits })

pub chain_takes : (o : Order) (bytes : List ℕ) (x : List ℕ × List ℕ) → IsBytes bytes → chain_at o bytes ≡ Ok x → ChainTaken o bytes x
unfolding chain_at
chain_takes o [] x fits h = none_taken o [] x fits h
chain_takes o (b ∷ []) x fits h =
    elim (chosen (eqb b 253) (Err (Wire Short, 0)) (Ok ([], b ∷ [])) (Ok x) h) [ inl a ↦ absurd cc | inr a ↦ none_taken o (b ∷ []) x fits a.1 ]
chain_takes o (b ∷ (p ∷ [])) x fits h =
    elim (chosen (eqb b 253) (Err (Wire Short, 1)) (Ok ([], b ∷ (p ∷ []))) (Ok x) h) [ inl a ↦ absurd cc | inr a ↦ none_taken o (b ∷ (p ∷ [])) x fits a.1 ]
chain_takes o (b ∷ (p ∷ (q ∷ rest))) x fits h =
    let pair : List ℕ = p ∷ (q ∷ []) in
    let id = number_of o 2 pair in
    elim (chosen (eqb b 253) (chain_at o rest >>= λ c. Ok (id ∷ c.0, c.1)) (Ok ([], b ∷ (p ∷ (q ∷ rest)))) (Ok x) h) [
      | inl a ↦
          let c = bind_ok (chain_at o rest) (λ c. Ok (id ∷ c.0, c.1)) x a.1 in
          let rest_fits : IsBytes rest = λ i. fits (suc (suc (suc i))) in
          let pair_fits : IsBytes pair = IsBytes-take 2 (p ∷ (q ∷ rest)) (λ i. fits (suc i)) in
          let more = chain_takes o rest c.0 rest_fits c.1 in
          let spelled : SpellsNumber o 2 pair id = (number_small o 2 pair pair_fits, sym (number_back o 2 pair (omega arith) pair_fits)) in
          subst (ChainTaken o (b ∷ (p ∷ (q ∷ rest)))) (ok_is (id ∷ c.0.0, c.0.1) x c.2) (
            253 ∷ (pair ++ more.0),
            (pair, more.0, spelled, more.1, refl),
            record {
              parts = ap (λ (n : ℕ). n ∷ (p ∷ (q ∷ rest))) (eqb-true b 253 a.0) ∙ ap (λ (r : List ℕ). 253 ∷ (p ∷ (q ∷ r))) more.2.parts;
              rest_fits = more.2.rest_fits;
            },
          )
      | inr a ↦ none_taken o (b ∷ (p ∷ (q ∷ rest))) x fits a.1
    ]

-- a code
both_of : (c : Code) (rest : List ℕ) (x : Code × List ℕ) → ◌≡◌ {A = Part Code} (Ok (c, rest)) (Ok x) → (c ≡ x.0) × (rest ≡ x.1)
both_of c rest x h = let same = ok_is (c, rest) x h in (ap (λ (y : Code × List ℕ). y.0) same, ap (λ (y : Code × List ℕ). y.1) same)

known_ok : (c : Code) (b : ℕ) (rest : List ℕ) (x : Code × List ℕ) → known c b rest ≡ Ok x → (c ≡ x.0) × (rest ≡ x.1)
known_ok code.Unknown b rest x h = absurd cc
known_ok (code.Plain s) b rest x h = both_of (code.Plain s) rest x h
known_ok (code.List s) b rest x h = both_of (code.List s) rest x h
known_ok (code.Bounded s) b rest x h = both_of (code.Bounded s) rest x h
known_ok (code.Fixed s) b rest x h = both_of (code.Fixed s) rest x h
known_ok code.BoundText b rest x h = both_of code.BoundText rest x h
known_ok code.Variant b rest x h = both_of code.Variant rest x h
known_ok code.VariantList b rest x h = both_of code.VariantList rest x h
known_ok code.Struct b rest x h = both_of code.Struct rest x h
known_ok code.Union b rest x h = both_of code.Union rest x h
known_ok code.StructList b rest x h = both_of code.StructList rest x h
known_ok code.UnionList b rest x h = both_of code.UnionList rest x h
known_ok code.Cached b rest x h = both_of code.Cached rest x h

pub code_takes : (bytes : List ℕ) (x : Code × List ℕ) → code_at bytes ≡ Ok x → (b : ℕ) × CodeIs b x.0 × (bytes ≡ b ∷ x.1)
unfolding code_at
code_takes [] x h = absurd cc
code_takes (b ∷ rest) x h =
    let is = known_ok (code_of b) b rest x h in
    (b, subst (CodeIs b) is.0 (code_is b), ap (λ (r : List ℕ). b ∷ r) is.1)

-- a leaf with a size
pub record SizedTaken (o : Order) (make : ℕ → Leaf) (types : Types) (bytes : List ℕ) (x : Tree × ℕ × List ℕ × Types) : Type 0 where
  pub bound : ℕ
  pub text : List ℕ
  pub size : SpellsSize o text (Some bound)
  pub tree : x.0 ≡ leaf (make bound)
  pub same : x.3 ≡ types
  pub takes : Takes bytes text x.2

pub sized_takes : (o : Order) (make : ℕ → Leaf) (seen : ℕ) (types : Types) (bytes : List ℕ) (x : Tree × ℕ × List ℕ × Types) → IsBytes bytes → sized_at o make seen types bytes ≡ Ok x → SizedTaken o make types bytes x
unfolding sized_at
sized_takes o make seen types bytes x fits h =
    let n = bind_ok (lifted (count_at o bytes)) (λ n. Ok (leaf (make n.0), seen + 1, n.1, types)) x h in
    let t = bound_takes o bytes n.0 fits n.1 in
    subst (SizedTaken o make types bytes) (ok_is (leaf (make n.0.0), seen + 1, n.0.1, types) x n.2)
    (record { bound = n.0.0; text = t.0; size = t.1; tree = refl; same = refl; takes = t.2 })

-- a cached type
pub record CachedTaken (o : Order) (wanted : Option Element) (types : Types) (bytes : List ℕ) (x : Tree × ℕ × List ℕ × Types) : Type 0 where
  pub id : ℕ
  pub text : List ℕ
  pub number : SpellsNumber o 2 text id
  pub found : get types id ≡ Some x.0
  pub fits_there : wants wanted x.0 ≡ true
  pub same : x.3 ≡ types
  pub takes : Takes bytes text x.2

cached_of_takes : (o : Order) (wanted : Option Element) (other : DescCause × ℕ) (level seen left place id : ℕ) (t : Option Tree) (types : Types) (bytes rest text : List ℕ) (x : Tree × ℕ × List ℕ × Types)
    → get types id ≡ t → SpellsNumber o 2 text id → Takes bytes text rest → cached_of wanted other level seen left place id t types rest ≡ Ok x → CachedTaken o wanted types bytes x
cached_of_takes o wanted other level seen left place id None types bytes rest text x found number takes h = absurd cc
cached_of_takes o wanted other level seen left place id (Some t) types bytes rest text x found number takes h =
    elim (chosen (wants wanted t) (unless (first_fault (seen + 1) (below level t)) left (t, seen + nodes t, rest, types)) (Err other) (Ok x) h) [
      | inl a ↦
          let u = unless_ok (first_fault (seen + 1) (below level t)) left (t, seen + nodes t, rest, types) x a.1 in
          subst (CachedTaken o wanted types bytes) u.1 (record { id = id; text = text; number = number; found = found; fits_there = a.0; same = refl; takes = takes })
      | inr b ↦ absurd cc
    ]

pub cached_takes : (o : Order) (wanted : Option Element) (other : DescCause × ℕ) (level seen left : ℕ) (types : Types) (bytes : List ℕ) (x : Tree × ℕ × List ℕ × Types)
    → IsBytes bytes → cached_at o wanted other level seen left types bytes ≡ Ok x → CachedTaken o wanted types bytes x
unfolding cached_at
cached_takes o wanted other level seen left types bytes x fits h =
    let i = bind_ok (id_at o bytes) (λ i. cached_of wanted other level seen left (length bytes) i.0 (get types i.0) types i.1) x h in
    let t = id_takes o bytes i.0 fits i.1 in
    cached_of_takes o wanted other level seen left (length bytes) i.0.0 (get types i.0.0) types bytes i.0.1 t.0 x refl t.1 t.2 i.2

-- the node that an element is
pub element_view : (e : Element) (t : Tree) → is_element e t ≡ true → (id : List ℕ) × (fs : Fields) × (t ≡ node (element e) id fs)
element_view elements.Struct (node struct id fs) h = (id, fs, refl)
element_view elements.Union (node union id fs) h = (id, fs, refl)
element_view elements.Struct (node union id fs) h = absurd cc
element_view elements.Struct (node struct_list id fs) h = absurd cc
element_view elements.Struct (node union_list id fs) h = absurd cc
element_view elements.Struct (leaf l) h = absurd cc
element_view elements.Union (node struct id fs) h = absurd cc
element_view elements.Union (node struct_list id fs) h = absurd cc
element_view elements.Union (node union_list id fs) h = absurd cc
element_view elements.Union (leaf l) h = absurd cc
