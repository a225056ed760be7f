-- What is in the grammar is read.
use Rattle.std.proofs.Common.{◌≡◌, inl, inr, ℕ, ◌+◌, ◌*◌, ◌≤◌, false, eqb, List, [], ◌∷◌, ◌++◌, length, Option, Some, None, Ok, refl, ap, ◌∙◌, arith, append_assoc}
use Rattle.std.proofs.lemmas.Bool.{le-ltb}
use Rattle.std.proofs.lemmas.List.{length-append}
use Rattle.pva_wire.specs.declared.order.Order.{Order}
use Rattle.pva_wire.specs.Spelling.{SpellsNumber, SpellsSize, SpellsText}
use Rattle.pva_wire.specs.Reading.{count_at, counted_at, text_at}
use Rattle.pva_wire.proofs.Digits.{number_at_again}
use Rattle.pva_wire.proofs.Sizes.{size_again}
use Rattle.pva_wire.proofs.Texts.{text_again}
use Rattle.pvd_type.specs.declared.shape.Extent.TheVariants.{Variable, Bounded, Fixed}
use Rattle.pvd_type.specs.declared.checking.TypeFault.{TypeFault}
use Rattle.pvd_type.specs.Tree.{Tree, leaf, Leaf, plain, bound_text, list, variant, variant_list}
use Rattle.pvd_type.specs.Numbers.{nodes}
use Rattle.pvd_type.specs.Check.{below, first_fault}
use Rattle.pvd_desc.specs.Code.{scalar_code, code_of}
use Rattle.pvd_desc.specs.declared.code.Code.{Code}
use Rattle.pvd_desc.specs.declared.code.Code.TheVariants as code
use Rattle.pvd_desc.specs.Types.{Types, define_all}
use Rattle.pvd_desc.specs.Reading.{Members, lifted, id_at, chain_at, known, code_at, here_fault, cached_at, sized_at, parts_at, node_on}
use Rattle.pvd_desc.proofs.Codes.{plain_other, list_other, code_plain, code_list, code_bounded, code_fixed}
use Rattle.pvd_desc.proofs.Chains.{chain_step}
use Rattle.pvd_desc.specs.Grammar.{SpellsLeaf, SpellsChain, SpellsCached, Named}

pub id_again : (o : Order) (text rest : List ℕ) (id : ℕ) → SpellsNumber o 2 text id → id_at o (text ++ rest) ≡ Ok (id, rest)
id_again o text rest id h = ap lifted (number_at_again o 2 text rest id h)

chain_past : (o : Order) (id : ℕ) (ids head more body : List ℕ) → SpellsNumber o 2 head id → chain_at o more ≡ Ok (ids, body) → chain_at o (253 ∷ (head ++ more)) ≡ Ok (id ∷ ids, body)
chain_past o id ids head more body h e = chain_step o (head ++ more) ∙ rw (id_again o head more id h, e) refl

pub chain_stops : (o : Order) (b : ℕ) (bytes : List ℕ) → eqb b 253 ≡ false → chain_at o (b ∷ bytes) ≡ Ok ([], b ∷ bytes)
unfolding chain_at
chain_stops o b [] other = rw other refl
chain_stops o b (x ∷ []) other = rw other refl
chain_stops o b (x ∷ (y ∷ rest)) other = rw other refl

pub chain_again : (o : Order) (ids head : List ℕ) (b : ℕ) (body : List ℕ) → eqb b 253 ≡ false → SpellsChain o ids head → chain_at o (head ++ (b ∷ body)) ≡ Ok (ids, b ∷ body)
chain_again o [] head b body other h = ap (λ (t : List ℕ). chain_at o (t ++ (b ∷ body))) h ∙ chain_stops o b body other
chain_again o (id ∷ ids) head b body other h =
    let (text, tail, is_id, spelled, parts) = h in
    ap (λ (t : List ℕ). chain_at o (t ++ (b ∷ body))) parts ∙ ap (λ (t : List ℕ). chain_at o (253 ∷ t)) (append_assoc text tail (b ∷ body))
    ∙ chain_past o id ids text (tail ++ (b ∷ body)) (b ∷ body) is_id (chain_again o ids tail b body other spelled)

pub bound_again : (o : Order) (n : ℕ) (size rest : List ℕ) → SpellsSize o size (Some n) → lifted (count_at o (size ++ rest)) ≡ Ok (n, rest)
unfolding count_at
bound_again o n size rest h = rw (size_again o size rest (Some n) h) refl

pub counted_again : (o : Order) (w n : ℕ) (size rest : List ℕ) → SpellsSize o size (Some n) → n * w ≤ length rest → lifted (counted_at o w (size ++ rest)) ≡ Ok (n, rest)
unfolding counted_at count_at
counted_again o w n size rest h room = rw (size_again o size rest (Some n) h, le-ltb (length rest) (n * w) room) refl

pub sized_again : (o : Order) (make : ℕ → Leaf) (n seen : ℕ) (types : Types) (size rest : List ℕ) → SpellsSize o size (Some n) → sized_at o make seen types (size ++ rest) ≡ Ok (leaf (make n), seen + 1, rest, types)
unfolding sized_at
sized_again o make n seen types size rest h = rw (bound_again o n size rest h) refl

pub name_again : (o : Order) (text name rest : List ℕ) → SpellsText o text name → lifted (text_at o (text ++ rest)) ≡ Ok (name, rest)
name_again o text name rest h = ap lifted (text_again o text name rest h)

code_read : (b : ℕ) (c : Code) (rest : List ℕ) → code_of b ≡ c → known c b rest ≡ Ok (c, rest) → code_at (b ∷ rest) ≡ Ok (c, rest)
unfolding code_at
code_read b c rest is read = ap (λ (c : Code). known c b rest) is ∙ read

-- A row that begins with a code and is read, with nothing before it, as what it is: what a node makes of it.
pub row_read : (o : Order) (level : ℕ) (fields : Members) (seen : ℕ) (named : Option TypeFault) (types mid : Types) (ids head : List ℕ) (b : ℕ) (body rest : List ℕ) (c : Code) (t : Tree) (n : ℕ)
    → eqb b 253 ≡ false → SpellsChain o ids head → code_at (b ∷ (body ++ rest)) ≡ Ok (c, body ++ rest) → here_fault level seen named ≡ None
    → parts_at o level fields c (length (b ∷ (body ++ rest))) seen types (body ++ rest) ≡ Ok (t, n, rest, mid)
    → node_on o level fields seen named types ((head ++ (b ∷ body)) ++ rest) ≡ Ok (t, n, rest, define_all ids t mid)
unfolding node_on
row_read o level fields seen named types mid ids head b body rest c t n other chain is here parts =
    ap (node_on o level fields seen named types) (append_assoc head (b ∷ body) rest) ∙ rw (chain_again o ids head b (body ++ rest) other chain, is, here, parts) refl

-- a leaf's own row
pub leaf_parts : (o : Order) (level : ℕ) (fields : Members) (seen : ℕ) (types : Types) (l : Leaf) (bytes rest : List ℕ) → SpellsLeaf o l bytes
    → (b : ℕ) × (body : List ℕ) × (c : Code) × (eqb b 253 ≡ false) × (bytes ≡ b ∷ body) × (code_at (b ∷ (body ++ rest)) ≡ Ok (c, body ++ rest))
    × ((left : ℕ) → parts_at o level fields c left seen types (body ++ rest) ≡ Ok (leaf l, seen + 1, rest, types))
unfolding code_at code_of parts_at
leaf_parts o level fields seen types (plain s) bytes rest h = (scalar_code s, [], code.Plain s, plain_other s, h, code_read (scalar_code s) (code.Plain s) rest (code_plain s) refl, λ left. refl)
leaf_parts o level fields seen types (list s Variable) bytes rest h = (scalar_code s + 0x08, [], code.List s, list_other s 0x08 (omega arith), h, code_read (scalar_code s + 0x08) (code.List s) rest (code_list s) refl, λ left. refl)
leaf_parts o level fields seen types (list s (Bounded n)) bytes rest h =
    (scalar_code s + 0x10, h.0, code.Bounded s, list_other s 0x10 (omega arith), h.2, code_read (scalar_code s + 0x10) (code.Bounded s) (h.0 ++ rest) (code_bounded s) refl, λ left. sized_again o (λ n. list s (Bounded n)) n seen types h.0 rest h.1)
leaf_parts o level fields seen types (list s (Fixed n)) bytes rest h =
    (scalar_code s + 0x18, h.0, code.Fixed s, list_other s 0x18 (omega arith), h.2, code_read (scalar_code s + 0x18) (code.Fixed s) (h.0 ++ rest) (code_fixed s) refl, λ left. sized_again o (λ n. list s (Fixed n)) n seen types h.0 rest h.1)
leaf_parts o level fields seen types (bound_text n) bytes rest h = (0x83, h.0, code.BoundText, refl, h.2, refl, λ left. sized_again o bound_text n seen types h.0 rest h.1)
leaf_parts o level fields seen types variant bytes rest h = (0x82, [], code.Variant, refl, h, refl, λ left. refl)
leaf_parts o level fields seen types variant_list bytes rest h = (0x8A, [], code.VariantList, refl, h, refl, λ left. refl)

-- a cached type
pub cached_parts : (o : Order) (level : ℕ) (fields : Members) (seen : ℕ) (types mid : Types) (t : Tree) (bytes rest : List ℕ) → SpellsCached o types t bytes mid → first_fault (seen + 1) (below level t) ≡ None
    → (body : List ℕ) × (bytes ≡ 0xFE ∷ body) × (code_at (0xFE ∷ (body ++ rest)) ≡ Ok (code.Cached, body ++ rest))
    × ((left : ℕ) → parts_at o level fields code.Cached left seen types (body ++ rest) ≡ Ok (t, seen + nodes t, rest, mid))
unfolding code_at code_of parts_at cached_at
cached_parts o level fields seen types mid t bytes rest h none =
    let (id, tail, is_id, found, parts, same) = h in
    (tail, parts, refl, λ left. rw (id_again o tail rest id is_id, found, none, same) refl)

-- at least two bytes for each member
pub named_long : (o : Order) (before : Types) (t : Tree) (Row : List ℕ → Types → Type 0) (bytes : List ℕ) (after : Types) → ((body : List ℕ) (mid : Types) → Row body mid → 1 ≤ length body) → Named o before t Row bytes after → 1 ≤ length bytes
named_long o before t Row bytes after long (ids, head, body, mid, chain, inl cached, done, parts) =
    let (id, tail, is_id, found, spelled, same) = cached in omega (arith, ap length parts, length-append head body, ap length spelled)
named_long o before t Row bytes after long (ids, head, body, mid, chain, inr row, done, parts) =
    omega (arith, ap length parts, length-append head body, long body mid row)
