-- Macros that the words give.
use Rattle.std.proofs.Common.{◌≡◌, ◌≢◌, ℕ, ◌+◌, ◌<◌, ◌≤◌, zero, suc, true, false, not, List, [], ◌∷◌, ◌++◌, map, length, get_or, drop, Option, None, Some, refl, sym, ◌∙◌, ap, subst, arith, lit<, add-one, append_assoc, eqb}
use Rattle.std.specs.Prelude.{MatchOption, ◌==◌}
use Rattle.std.specs.List.{list_all, slice_split}
use Rattle.std.proofs.lemmas.Bool.{and_parts, eqb-true}
use Rattle.std.proofs.lemmas.List.{append-nil, drop_all}
use Rattle.std.proofs.lemmas.Str.Pattern.{IsSplitOnceResult, split_after}
use denote.Ref.{Bor}
use Rattle.db_text.specs.Macros.{Macros}
use Rattle.prog_source.specs.Words.{IsPair, ArePairs, is_macro_name, is_name_byte, pieces, AreMacrosOr}
use Rattle.prog_source.proofs.Sources.{same_parts}

-- no byte of a name is a =
none_in : (name : List ℕ) → list_all is_name_byte name ≡ true → (i : ℕ) → i < length name → get_or name i 0 ≢ 61
none_in [] h i within is = absurd (omega (arith, within))
none_in (x ∷ name) h zero within is =
    let bad : is_name_byte 61 ≡ true = ap is_name_byte (sym is) ∙ (and_parts (is_name_byte x) (list_all is_name_byte name) h).0 in cc
none_in (x ∷ name) h (suc i) within is = none_in name (and_parts (is_name_byte x) (list_all is_name_byte name) h).1 i (omega (arith, within)) is

no_mark : (name : List ℕ) → is_macro_name name ≡ true → (i : ℕ) → i < length name → get_or name i 0 ≢ 61
no_mark name h = none_in name (and_parts (not (length name == 0)) (list_all is_name_byte name) h).1

-- where a pair is split
pub pair_split : (text : List ℕ) (r : Option (Bor (List ℕ) × Bor (List ℕ))) → IsSplitOnceResult 61 text r → (pair : List ℕ × List ℕ) → IsPair text pair → MatchOption r ⊥ (λ x. (x.0.now ≡ pair.0) × (x.1.now ≡ pair.1))
pair_split text r split pair is = split_after 61 text pair.0 pair.1 r split (lit< tt) is.text_is (no_mark pair.0 is.name_is)

-- one text is one pair
one_pair : (text : List ℕ) (p q : List ℕ × List ℕ) → IsPair text p → IsPair text q → p ≡ q
one_pair text p q a b =
    let same = same_parts p.0 p.1 q.0 q.1 (no_mark p.0 a.name_is) (no_mark q.0 b.name_is) (sym a.text_is ∙ b.text_is) in
    λ i. (same.0 i, same.1 i)

pub one_pairs : (texts : List (List ℕ)) (m n : Macros) → ArePairs texts m → ArePairs texts n → m ≡ n
one_pairs [] [] [] a b = refl
one_pairs [] [] (q ∷ n) a b = absurd b
one_pairs [] (p ∷ m) n a b = absurd a
one_pairs (t ∷ texts) [] n a b = absurd a
one_pairs (t ∷ texts) (p ∷ m) [] a b = absurd b
one_pairs (t ∷ texts) (p ∷ m) (q ∷ n) a b =
    let first = one_pair t p q a.0 b.0 in let more = one_pairs texts m n a.1 b.1 in λ i. first i ∷ more i

pub one_macros : (given : Option (List ℕ)) (m n : Macros) → AreMacrosOr given m → AreMacrosOr given n → m ≡ n
one_macros None m n a b = a ∙ sym b
one_macros (Some text) m n a b = one_pairs (pieces text) m n a b

-- a text that isn't empty is cut at its commas
pub cut_pieces : (text : List ℕ) → (length text == 0) ≡ false → pieces text ≡ slice_split (λ (b : ℕ). eqb b 44) text
cut_pieces [] some = cc
cut_pieces (b ∷ text) some = refl

pub no_pieces : (text : List ℕ) → (length text == 0) ≡ true → pieces text ≡ []
no_pieces [] none = refl
no_pieces (b ∷ text) none = absurd (omega (arith, eqb-true (length (b ∷ text)) 0 none))

-- the texts that are left from one on
from_piece : (texts : List (Bor (List ℕ))) (i : ℕ) (d : Bor (List ℕ)) → i < length texts
    → drop i (map (λ (b : Bor (List ℕ)). b.now) texts) ≡ (get_or texts i d).now ∷ drop (suc i) (map (λ (b : Bor (List ℕ)). b.now) texts)
from_piece [] i d within = absurd (omega (arith, within))
from_piece (y ∷ texts) zero d within = refl
from_piece (y ∷ texts) (suc i) d within = from_piece texts i d (omega (arith, within))

pub at_piece : (texts : List (Bor (List ℕ))) (i : ℕ) (d : Bor (List ℕ)) → i < length texts
    → drop i (map (λ (b : Bor (List ℕ)). b.now) texts) ≡ (get_or texts i d).now ∷ drop (i + 1) (map (λ (b : Bor (List ℕ)). b.now) texts)
at_piece texts i d within = rw add-one (from_piece texts i d within)

pub none_left : (texts : List (Bor (List ℕ))) (i : ℕ) → length texts ≤ i → drop i (map (λ (b : Bor (List ℕ)). b.now) texts) ≡ []
none_left [] i ended = drop_all i [] (omega arith)
none_left (y ∷ texts) zero ended = absurd (omega (arith, ended))
none_left (y ∷ texts) (suc i) ended = none_left texts i (omega (arith, ended))

-- The first texts are these macros.
pub record SoFar (texts : List (List ℕ)) (i : ℕ) (done : Macros) : Type 0 where
  pub on : (more : Macros) → ArePairs (drop i texts) more → ArePairs texts (done ++ more)
  pub back : (all : Macros) → ArePairs texts all → (more : Macros) × (all ≡ done ++ more) × ArePairs (drop i texts) more

pub none_so_far : (texts : List (List ℕ)) → SoFar texts 0 []
none_so_far texts = record { on = λ more h. h; back = λ all h. (all, refl, h) }

parted : (text : List ℕ) (rest : List (List ℕ)) (p : List ℕ × List ℕ) (done all more : Macros) → IsPair text p → all ≡ done ++ more → ArePairs (text ∷ rest) more
    → (later : Macros) × (all ≡ (done ++ p ∷ []) ++ later) × ArePairs rest later
parted text rest p done all [] is same h = absurd h
parted text rest p done all (q ∷ later) is same h =
    (later, same ∙ ap (λ (z : List ℕ × List ℕ). done ++ z ∷ later) (one_pair text q p h.0 is) ∙ sym (append_assoc done (p ∷ []) later), h.1)

pub one_more_so_far : (texts : List (List ℕ)) (i : ℕ) (text : List ℕ) (done : Macros) (p : List ℕ × List ℕ) → drop i texts ≡ text ∷ drop (i + 1) texts → IsPair text p
    → SoFar texts i done → SoFar texts (i + 1) (done ++ p ∷ [])
one_more_so_far texts i text done p ahead is s = record {
  on = λ more h. subst (ArePairs texts) (sym (append_assoc done (p ∷ []) more)) (s.on (p ∷ more) (subst (λ (l : List (List ℕ)). ArePairs l (p ∷ more)) (sym ahead) (is, h)));
  back = λ all h. let b = s.back all h in parted text (drop (i + 1) texts) p done all b.0 is b.1 (subst (λ (l : List (List ℕ)). ArePairs l b.0) ahead b.2);
}

unpaired : (text : List ℕ) (rest : List (List ℕ)) (more : Macros) → ((p : List ℕ × List ℕ) → ¬ (IsPair text p)) → ArePairs (text ∷ rest) more → ⊥
unpaired text rest [] none h = h
unpaired text rest (p ∷ more) none h = none p h.0

-- a text that is no pair
pub stops : (texts : List (List ℕ)) (i : ℕ) (text : List ℕ) (done : Macros) → drop i texts ≡ text ∷ drop (i + 1) texts → ((p : List ℕ × List ℕ) → ¬ (IsPair text p))
    → SoFar texts i done → (all : Macros) → ¬ (ArePairs texts all)
stops texts i text done ahead none s all h =
    let b = s.back all h in unpaired text (drop (i + 1) texts) b.0 none (subst (λ (l : List (List ℕ)). ArePairs l b.0) ahead b.2)

-- all texts were read
pub all_so_far : (texts : List (List ℕ)) (i : ℕ) (done : Macros) → drop i texts ≡ [] → SoFar texts i done → ArePairs texts done
all_so_far texts i done ended s = subst (ArePairs texts) (append-nil done) (s.on [] (subst (λ (l : List (List ℕ)). ArePairs l []) (sym ended) tt))
