-- The numbers of members by their names.
use Rattle.std.proofs.Common.{◌≡◌, ℕ, suc, ◌+◌, ◌<◌, Bool, not, cond, List, [], ◌∷◌, ◌++◌, map, length, drop, Some, None, refl, sym, ap, ◌∙◌, arith, append_assoc}
use Rattle.std.specs.Prelude.{position, nat_lt}
use Rattle.std.specs.List.{prefix_len, position_or_len}
use Rattle.std.proofs.lemmas.List.{drop_more, length-map}
use Rattle.group_defs.specs.Triggers.{numbers_from}

pub numbers_more : (names : List (List ℕ)) (i : ℕ) (done whole : List ℕ) → i < length names → done ++ numbers_from i (drop i names) ≡ whole → (done ++ i ∷ []) ++ numbers_from (i + 1) (drop (i + 1) names) ≡ whole
numbers_more names i done whole h same =
    let next : suc i ≡ i + 1 = omega arith in
    append_assoc done (i ∷ []) (numbers_from (i + 1) (drop (i + 1) names))
    ∙ ap (λ (ns : List ℕ). done ++ ns) (sym (ap (numbers_from i) (drop_more names i [] h) ∙ ap (λ (k : ℕ). i ∷ numbers_from k (drop (i + 1) names)) next)) ∙ same

prefix_map : {X Y : Type 0} (f : X → Y) (p : Y → Bool) (xs : List X) → prefix_len (λ x. p (f x)) xs ≡ prefix_len p (map f xs)
prefix_map f p [] = refl
prefix_map f p (x ∷ xs) = ap (λ (n : ℕ). cond (p (f x)) (1 + n) 0) (prefix_map f p xs)

pub position_map : {X Y : Type 0} (f : X → Y) (p : Y → Bool) (xs : List X) → position (λ x. p (f x)) xs ≡ position p (map f xs)
position_map f p xs =
    ap (λ (n : ℕ). cond (nat_lt n (length xs)) (Some n) None) (prefix_map f (λ y. not (p y)) xs)
    ∙ ap (λ (n : ℕ). cond (nat_lt (position_or_len p (map f xs)) n) (Some (position_or_len p (map f xs))) None) (sym (length-map xs f))
