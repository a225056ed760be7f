-- Lists that are made item by item, and the structures made of them.
use Rattle.std.proofs.Common.{◌≡◌, ℕ, suc, ◌+◌, ◌<◌, Bool, true, false, cond, not, ◌==◌, ◌||◌, ◌&&◌, List, [], ◌∷◌, ◌++◌, map, length, take, drop, get_or}
use Rattle.std.proofs.Common.{Result, IfOk, codes, refl, ap, sym, subst, ◌∙◌, append_assoc, add-one, arith}
use Rattle.std.proofs.lemmas.List.{take_more, map-append}
use Rattle.std.proofs.lemmas.List.Folds.{list_any-append}
use Rattle.std.proofs.lemmas.List.Splits.{length-slice_split}
use Rattle.std.proofs.Math.Seq.{drop-cons}
use Rattle.std.specs.List.{flat_map, list_any}
use Rattle.std.specs.Str.{bytes_eq}
use Rattle.pvd_type.specs.Check.{contains}
use Rattle.pvd_type.specs.Numbers.{path_of}
use Rattle.pvd_type.specs.Tree.{Tree, Fields, no_fields, field}
use Rattle.pvd_type.specs.View.{fields_of}
use Rattle.pvd_value.proofs.Blanks.{blank_fits}
use Rattle.pvd_value.specs.Blank.{blank_of}
use Rattle.pvd_value.specs.Data.{Data, members, more, end}
use Rattle.pvd_value.specs.View.{view}
use Rattle.pvd_value.specs.declared.value.PvValue.{PvValue}
use Rattle.cli_session.specs.Seen.{pair_view}
use Rattle.std.proofs.lemmas.Result.{IfOk-weaker}
use Rattle.pvd_value.specs.Fits.{fits_of, row_fits}
use Rattle.cli_session.specs.Structures.{Texts, Path, texts_type, texts_value, behind, is_end, below, first_name, chosen, record_fields, record_row, request}
use Rattle.cli_session.specs.Structures.{members_by, structure, record_type, record_value, request_type, request_value}

-- one item more: what is made of the items is what is made of so many
pub made_more : {A B C : Type 0} (f : A → C) (g : B → C) (xs after : List A) (a : A) (bs : List B) (i : ℕ) (b : B) → i < length bs → get_or bs i b ≡ b
    → map f xs ≡ map g (take i bs) → after ≡ xs ++ a ∷ [] → f a ≡ g b → map f after ≡ map g (take (i + 1) bs)
made_more {A} {B} {C} f g xs after a bs i b short here so_far is made =
    ap (map f) is ∙ map-append f xs (a ∷ [])
    ∙ ap (λ (cs : List C). cs ++ f a ∷ []) so_far
    ∙ ap (λ (c : C). map g (take i bs) ++ c ∷ []) made
    ∙ ap (λ (y : B). map g (take i bs) ++ g y ∷ []) (sym here)
    ∙ sym (map-append g (take i bs) (get_or bs i b ∷ []))
    ∙ ap (map g) (sym (take_more bs i b short))

pub map_map : {A B C : Type 0} (f : B → C) (g : A → B) (xs : List A) → map f (map g xs) ≡ map (λ x. f (g x)) xs
map_map f g [] = refl
map_map f g (x ∷ xs) = ap (λ ys. f (g x) ∷ ys) (map_map f g xs)

-- the items from place i on, where b stands at i
pub map_from : {B C : Type 0} (g : B → C) (bs : List B) (i : ℕ) (b : B) → i < length bs → get_or bs i b ≡ b → map g (drop i bs) ≡ g b ∷ map g (drop (i + 1) bs)
map_from g bs i b within here = rw (drop-cons bs i b within, add-one, here) refl

-- Paths.

pub path_has_a_name : (text : List ℕ) → is_end (path_of text) ≡ false
path_has_a_name text = not_end (path_of text) _ (length-slice_split (λ b. b == 46) text) where
  not_end : (p : Path) (n : ℕ) → length p ≡ n + 1 → is_end p ≡ false
  not_end [] n h = absurd (omega (arith, h))
  not_end (name ∷ p) n h = refl

-- The paths from place i on, of which p is the first and begins with the name. `found` is what follows the name in those before.
module _ {B : Type 0} (seen : B → Path) (name : List ℕ) (bs : List B) (i : ℕ) (p : B) (found : List Path) (first : List ℕ) (rest : Path) (short : i < length bs) (here : get_or bs i p ≡ p)
    (is : seen p ≡ first ∷ rest) (same : bytes_eq first name ≡ true) where
  abbrev all : List Path
  all = flat_map (behind name) (map seen bs)

  abbrev from : ℕ → List Path
  from k = flat_map (behind name) (map seen (drop k bs))

  opened : from i ≡ rest ∷ from (i + 1)
  opened =
      ap (flat_map (behind name)) (map_from seen bs i p short here)
      ∙ ap (λ (q : Path). behind name q ++ from (i + 1)) is
      ∙ ap (λ (b : Bool). cond b (rest ∷ []) [] ++ from (i + 1)) same

  module _ (so_far : found ++ from i ≡ all) (after : List Path) (is_more : after ≡ found ++ rest ∷ []) where
    pub went_on : after ++ from (i + 1) ≡ all
    went_on =
        ap (λ (r : List Path). r ++ from (i + 1)) is_more
        ∙ append_assoc found (rest ∷ []) (from (i + 1))
        ∙ ap (λ (r : List Path). found ++ r) (sym opened) ∙ so_far

    pub goes_on : list_any is_end found ≡ false → is_end rest ≡ false → list_any is_end after ≡ false
    goes_on none no_end =
        ap (list_any is_end) is_more ∙ list_any-append is_end found (rest ∷ [])
        ∙ ap (λ (b : Bool). b || (is_end rest || false)) none ∙ ap (λ (b : Bool). b || false) no_end

pub not_not : (b : Bool) → false ≡ not b → b ≡ true
not_not true e = refl
not_not false e = absurd cc

-- The members of a level, for the paths from place i on, behind those that were made for the paths before it.

abbrev pub head_of : {B : Type 0} → (B → Path) → B → List ℕ
head_of seen p = first_name (seen p)

abbrev pub child : ℕ → List Path → List ℕ → Tree
child depth paths name = structure (chosen depth (below name paths))

module _ {B : Type 0} (seen : B → Path) (below : List ℕ → Tree) (bs : List B) (i : ℕ) (p : B) (name : List ℕ) (made : List (List ℕ × Tree)) (before : List (List ℕ))
    (short : i < length bs) (here : get_or bs i p ≡ p) (named : head_of seen p ≡ name) where
  abbrev rest : List (List ℕ) → ℕ → List (List ℕ × Tree)
  rest known k = members_by below known (map (head_of seen) (drop k bs))

  level : rest before i ≡ cond (contains name before) (rest before (i + 1)) ((name, below name) ∷ rest (before ++ name ∷ []) (i + 1))
  level =
      ap (members_by below before) (map_from (head_of seen) bs i p short here)
      ∙ ap (λ (n : List ℕ). members_by below before (n ∷ map (head_of seen) (drop (i + 1) bs))) named

  module _ (all : List (List ℕ × Tree)) (so_far : made ++ rest before i ≡ all) where
    pub named_first : (after : List (List ℕ × Tree)) (known : List (List ℕ)) → contains name before ≡ false → after ≡ made ++ (name, below name) ∷ [] → known ≡ before ++ name ∷ []
        → after ++ rest known (i + 1) ≡ all
    named_first after known is after_is known_is =
        ap (λ (r : List (List ℕ × Tree)). r ++ rest known (i + 1)) after_is
        ∙ append_assoc made ((name, below name) ∷ []) (rest known (i + 1))
        ∙ ap (λ (k : List (List ℕ)). made ++ (name, below name) ∷ rest k (i + 1)) known_is
        ∙ ap (λ (r : List (List ℕ × Tree)). made ++ r)
        (sym (level ∙ ap (λ (b : Bool). cond b (rest before (i + 1)) ((name, below name) ∷ rest (before ++ name ∷ []) (i + 1))) is)) ∙ so_far

-- all members of a level
pub level_is : {B : Type 0} (seen : B → Path) (depth : ℕ) (bs : List B) → fields_of (members_by (child depth (map seen bs)) [] (map (head_of seen) bs)) ≡ chosen (suc depth) (map seen bs)
unfolding chosen
level_is seen depth bs = ap (λ (names : List (List ℕ)). fields_of (members_by (child depth (map seen bs)) [] names)) (sym (map_map first_name seen bs))

-- a request with options
pub has_record : (root : List ℕ) (fields : Fields) (options : Texts) → (options ≡ [] → ⊥)
    → (structure (field root (structure fields) (record_fields options)), members (more (blank_of (structure fields)) (record_row options))) ≡ request root fields options
has_record root fs [] some = absurd (some refl)
has_record root fs (o ∷ os) some = refl

pub some_mapped : {A B : Type 0} (f : A → B) (xs : List A) → 0 < length xs → map f xs ≡ [] → ⊥
some_mapped f [] some e = absurd (omega (arith, some))
some_mapped f (x ∷ xs) some e = cc

-- What is sent fits its type.

both : (a b : Bool) → a ≡ true → b ≡ true → (a && b) ≡ true
both true b p q = q
both false b p q = p

pub texts_fit : (ts : Texts) → fits_of 16 (texts_value ts) (texts_type ts) ≡ true
texts_fit [] = refl
texts_fit (t ∷ ts) = texts_fit ts

record_fits : (options : Texts) → row_fits 16 (record_value options) (record_type options) ≡ true
record_fits [] = refl
record_fits (o ∷ os) = both (row_fits 16 (more (texts_value (o ∷ os)) end) (field (codes "_options") (texts_type (o ∷ os)) no_fields)) true
    (both (fits_of 16 (texts_value (o ∷ os)) (texts_type (o ∷ os))) true (texts_fit (o ∷ os)) refl) refl

request_fits : (root : List ℕ) (fs : Fields) (options : Texts) → fits_of 16 (request_value fs options) (request_type root fs options) ≡ true
request_fits root fs options =
    both (fits_of 16 (blank_of (structure fs)) (structure fs)) (row_fits 16 (record_value options) (record_type options)) (blank_fits 16 (structure fs) (omega arith)) (record_fits options)

fits_as : (x : Tree × Data) (r : Tree × PvValue) → fits_of 16 x.1 x.0 ≡ true → pair_view r ≡ x → fits_of 16 (view r.1) r.0 ≡ true
fits_as x r h is = subst (λ (y : Tree × Data). fits_of 16 y.1 y.0 ≡ true) (sym is) h

-- the same of what a call answers
module _ {E : Type 0} (result : Result (Tree × PvValue) E) where
  pub made_fits : (x : Tree × Data) → fits_of 16 x.1 x.0 ≡ true → IfOk result (λ r. pair_view r ≡ x) → IfOk result (λ r. fits_of 16 (view r.1) r.0 ≡ true)
  made_fits x h is = IfOk-weaker result (λ (r : Tree × PvValue). pair_view r ≡ x) (λ (r : Tree × PvValue). fits_of 16 (view r.1) r.0 ≡ true) (λ r. fits_as x r h) is

  pub request_made : (root : List ℕ) (fs : Fields) (options : Texts) → IfOk result (λ r. pair_view r ≡ request root fs options) → IfOk result (λ r. fits_of 16 (view r.1) r.0 ≡ true)
  request_made root fs options = made_fits (request root fs options) (request_fits root fs options)
