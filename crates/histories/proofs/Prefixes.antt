-- Beginnings of lists, and elements of them.
use Rattle.std.proofs.Common.{◌≡◌, ℕ, zero, suc, ◌<◌, ◌≤◌, List, [], ◌∷◌, ◌++◌, length, take, Some, slice_get, refl, sym, ◌∙◌, ap, arith, append_assoc, length-append}
use Rattle.std.proofs.lemmas.List.{append-nil}
use Rattle.std.proofs.lemmas.Option.{none-some}
use Rattle.histories.specs.History.{IsPrefixOf}

pub prefix_self : {A : Type 0} (xs : List A) → IsPrefixOf xs xs
prefix_self xs = record { rest = []; whole = sym (append-nil xs) }

pub prefix_trans : {A : Type 0} {xs ys zs : List A} → IsPrefixOf xs ys → IsPrefixOf ys zs → IsPrefixOf xs zs
prefix_trans {A} {xs} {ys} {zs} p q = record {
  rest = p.rest ++ q.rest;
  whole = q.whole ∙ ap (λ (l : List A). l ++ q.rest) p.whole ∙ append_assoc xs p.rest q.rest;
}

pub prefix_length : {A : Type 0} {xs ys : List A} → IsPrefixOf xs ys → length xs ≤ length ys
prefix_length {A} {xs} {ys} p = omega (arith, ap length p.whole, length-append xs p.rest)

-- of two beginnings of one list the shorter begins the longer
pub prefix_shorter : {A : Type 0} (xs ys zs : List A) → IsPrefixOf xs zs → IsPrefixOf ys zs → length xs ≤ length ys → IsPrefixOf xs ys
prefix_shorter [] ys zs p q le = record { rest = ys; whole = refl }
prefix_shorter (x ∷ xs) [] zs p q le = absurd (omega arith)
prefix_shorter (x ∷ xs) (y ∷ ys) [] p q le = absurd (cc (p.whole))
prefix_shorter (x ∷ xs) (y ∷ ys) (z ∷ zs) p q le =
    let heads : y ≡ x = cc (p.whole, q.whole) in
    let left : zs ≡ xs ++ p.rest = cc (p.whole) in
    let right : zs ≡ ys ++ q.rest = cc (q.whole) in
    let more = prefix_shorter xs ys zs (record { rest = p.rest; whole = left }) (record { rest = q.rest; whole = right }) (omega arith) in
    record { rest = more.rest; whole = λ i. heads i ∷ more.whole i }

-- a beginning that is no shorter is the whole
pub prefix_whole : {A : Type 0} (xs ys : List A) → IsPrefixOf xs ys → length ys ≤ length xs → xs ≡ ys
prefix_whole [] [] p le = refl
prefix_whole [] (y ∷ ys) p le = absurd (omega arith)
prefix_whole (x ∷ xs) [] p le = absurd (cc (p.whole))
prefix_whole (x ∷ xs) (y ∷ ys) p le =
    let head : x ≡ y = cc (p.whole) in
    let left : ys ≡ xs ++ p.rest = cc (p.whole) in
    let tail : xs ≡ ys = prefix_whole xs ys (record { rest = p.rest; whole = left }) (omega arith) in
    λ i. head i ∷ tail i

-- the last element, and the front before it
pub at_end : {A : Type 0} (xs : List A) (x : A) → slice_get (xs ++ x ∷ []) (length xs) ≡ Some x
at_end [] x = refl
at_end (y ∷ xs) x = at_end xs x

pub front_of : {A : Type 0} (xs : List A) (x : A) → take (length xs) (xs ++ x ∷ []) ≡ xs
front_of [] x = refl
front_of {A} (y ∷ xs) x = ap (λ (l : List A). y ∷ l) (front_of xs x)

-- an element stays as a list goes on
pub same_element : {A : Type 0} (xs more : List A) (n : ℕ) (x : A) → slice_get xs n ≡ Some x → slice_get (xs ++ more) n ≡ Some x
same_element [] more n x is = absurd (none-some x is)
same_element (y ∷ xs) more zero x is = is
same_element (y ∷ xs) more (suc n) x is = same_element xs more n x is

pub element_within : {A : Type 0} (xs : List A) (n : ℕ) (x : A) → slice_get xs n ≡ Some x → n < length xs
element_within [] n x is = absurd (none-some x is)
element_within (y ∷ xs) zero x is = omega arith
element_within (y ∷ xs) (suc n) x is = omega (arith, element_within xs n x is)
