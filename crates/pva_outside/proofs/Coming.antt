-- What comes next in lists.
use Rattle.std.proofs.Common.{◌≡◌, ℕ, ◌+◌, ◌<◌, List, ◌∷◌, length, drop, get_or, Option, None, Some, ap, ◌∙◌, sym, arith}
use Rattle.std.specs.Option.{option_flatten}
use Rattle.std.proofs.lemmas.List.{drop_more}

none_some : {X : Type 0} {x : X} → None ≡ Some x → ⊥
none_some e = grind arith

-- where something was found in two steps, it was found in each
pub flat : {X : Type 0} (found : Option (Option X)) (x : X) → option_flatten found ≡ Some x → found ≡ Some (Some x)
flat None x is = absurd (none_some is)
flat (Some one) x is = ap Some is

-- the items from a place on are the one there and those behind it
pub rest_from : {X : Type 0} (xs : List X) (n : ℕ) (x : X) → n < length xs → x ≡ get_or xs n x → drop n xs ≡ x ∷ drop (n + 1) xs
rest_from xs n x within is = drop_more xs n x within ∙ ap (λ one. one ∷ drop (n + 1) xs) (sym is)
