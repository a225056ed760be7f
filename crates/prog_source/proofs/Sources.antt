-- What is read as a source is what is meant by one.
use Rattle.std.proofs.Common.{◌≡◌, ◌≢◌, ℕ, suc, ◌<◌, ℤ, true, List, [], ◌∷◌, ◌++◌, length, get_or, drop, Option, None, Some, refl, sym, ◌∙◌, ap, subst, arith, lit<}
use Rattle.std.specs.Prelude.{Contains, MatchOption}
use Rattle.std.specs.Fmt.{signed_decimal}
use Rattle.std.proofs.lemmas.Fmt.{signed_decimal_injective}
use Rattle.std.proofs.lemmas.List.Elements.{Contains-get_or}
use Rattle.std.proofs.lemmas.Grind.{get_or_default_zero}
use Rattle.std.proofs.lemmas.Str.Pattern.{IsSplitOnceResult, split_after, split_parts}
use denote.Ref.{Bor}
use Rattle.desk_api.specs.Sites.{is_record_name}
use Rattle.prog_source.specs.Words.{Source, single, file, IsSource, IsSingle, IsNumber, IsNamed}

-- no byte of the name is a =
none_within : (name : List ℕ) → ¬ (Contains name 61) → (i : ℕ) → i < length name → get_or name i 0 ≢ 61
none_within name absent i within is = absent (subst (Contains name) is (Contains-get_or name i 0 within))

within_none : (name : List ℕ) → ((i : ℕ) → i < length name → get_or name i 0 ≢ 61) → ¬ (Contains name 61)
within_none name absent (i, within, is) = absent i within (sym (get_or_default_zero name i 61 within) ∙ is)

-- where the text of a source with a record is split
pub split_is : (text : List ℕ) (r : Option (Bor (List ℕ) × Bor (List ℕ))) → IsSplitOnceResult 61 text r → (name : List ℕ) (value : ℤ) (is : IsSingle text name value) → MatchOption r ⊥ (λ x. (x.0.now ≡ name) × (x.1.now ≡ is.number))
split_is text r split name value is = split_after 61 text name is.number r split (lit< tt) is.text_is (none_within name is.first)

-- a text in which a = stands
pub holds_it : (text xs ys : List ℕ) → text ≡ xs ++ 61 ∷ ys → ¬ (Contains text 61) → ⊥
holds_it text xs ys is absent = absent (subst (λ (t : List ℕ). Contains t 61) (sym is) (length xs, (stands xs ys).0, (stands xs ys).1))
  where
    stands : (xs ys : List ℕ) → (length xs < length (xs ++ 61 ∷ ys)) × (get_or (xs ++ 61 ∷ ys) (length xs) 61 ≡ 61)
    stands [] ys = (omega arith, refl)
    stands (x ∷ xs) ys = let more = stands xs ys in (omega (arith, more.0), more.1)

-- a text that was split names no file
pub no_file : (text : List ℕ) (x : Bor (List ℕ) × Bor (List ℕ)) → IsSplitOnceResult 61 text (Some x) → (name : List ℕ) → ¬ (IsSource text (file name))
no_file text x split name is = holds_it text x.0.now x.1.now (split_parts 61 text (Some x) split (lit< tt)).0 is.1

-- a text without a = names a file
pub names_file : (text : List ℕ) → IsSplitOnceResult 61 text None → IsSource text (file text)
names_file text split = (refl, within_none text (split_parts 61 text None split (lit< tt)))

-- a text that was split, with a name and a number
pub makes_single : (text : List ℕ) (x : Bor (List ℕ) × Bor (List ℕ)) (z : ℤ) → IsSplitOnceResult 61 text (Some x) → is_record_name x.0.now ≡ true → IsNumber x.1.now z → IsSource text (single x.0.now z)
makes_single text x z split name number =
    let parts = split_parts 61 text (Some x) split (lit< tt) in
    record { number = x.1.now; text_is = parts.0; name_is = name; first = within_none x.0.now parts.1; number_is = number }

-- nothing is named by a text that was split, where no record is
pub no_source : (text : List ℕ) (x : Bor (List ℕ) × Bor (List ℕ)) → IsSplitOnceResult 61 text (Some x)
    → ((name : List ℕ) (value : ℤ) → IsSingle text name value → ⊥) → (s : Source) → ¬ (IsSource text s)
no_source text x split none (single name value) is = none name value is
no_source text x split none (file name) is = no_file text x split name is

-- a source that was read may have its name
pub may_have_name : (text : List ℕ) (s : Source) → IsSource text s → IsNamed s
may_have_name text (single name value) is = is.name_is
may_have_name text (file name) is = tt

-- two texts that are one, up to their first =
pub same_parts : (xs ys zs ws : List ℕ) → ((i : ℕ) → i < length xs → get_or xs i 0 ≢ 61) → ((i : ℕ) → i < length zs → get_or zs i 0 ≢ 61) → xs ++ 61 ∷ ys ≡ zs ++ 61 ∷ ws → (xs ≡ zs) × (ys ≡ ws)
same_parts [] ys [] ws x z e = (refl, ap (drop 1) e)
same_parts [] ys (c ∷ zs) ws x z e = absurd (z 0 (omega arith) (sym (ap (λ (l : List ℕ). get_or l 0 0) e)))
same_parts (b ∷ xs) ys [] ws x z e = absurd (x 0 (omega arith) (ap (λ (l : List ℕ). get_or l 0 0) e))
same_parts (b ∷ xs) ys (c ∷ zs) ws x z e =
    let later = same_parts xs ys zs ws (λ i within. x (suc i) (omega arith)) (λ i within. z (suc i) (omega arith)) (ap (drop 1) e) in
    let first : b ≡ c = ap (λ (l : List ℕ). get_or l 0 0) e in
    ((λ i. first i ∷ later.0 i), later.1)

-- two sources of one text
pub one_source : (text : List ℕ) (s t : Source) → IsSource text s → IsSource text t → s ≡ t
one_source text (single name value) (single name' value') p q =
    let same = same_parts name p.number name' q.number (none_within name p.first) (none_within name' q.first) (sym p.text_is ∙ q.text_is) in
    let written : signed_decimal value ≡ signed_decimal value' = sym p.number_is.written ∙ same.1 ∙ q.number_is.written in
    let value_is : value ≡ value' = signed_decimal_injective value value' (omega (arith, p.number_is.fits.sfits)) (omega (arith, q.number_is.fits.sfits)) written in
    λ i. single (same.0 i) (value_is i)
one_source text (single name value) (file name') p q = absurd (holds_it text name p.number p.text_is q.1)
one_source text (file name) (single name' value') p q = absurd (holds_it text name' q.number q.text_is p.1)
one_source text (file name) (file name') p q = ap file (sym p.0 ∙ q.0)
