-- The objects of a text, one after another.
use Rattle.std.proofs.Common.{◌≡◌, ℕ, List, [], ◌∷◌, ◌++◌, Option, None, Some, Ok, option_and_then, refl, sym, ap, ◌∙◌, append_assoc}
use Rattle.std.proofs.lemmas.List.{append-nil}
use Rattle.json.specs.Json.{Json, Members, object}
use Rattle.json.specs.Find.{as_object}
use Rattle.group_defs.specs.Told.{Told}
use Rattle.group_defs.specs.Order.{by_name, with_object, objects_in, found_in, groups_of}

abbrev pub with_groups : List (List ℕ × Members) → Option (List (List ℕ × Members)) → Option (List (List ℕ × Members))
with_groups first None = None
with_groups first (Some rest) = Some (first ++ rest)

pub groups_begin : (o : Option (List (List ℕ × Members))) → with_groups [] o ≡ o
groups_begin None = refl
groups_begin (Some es) = refl

pub groups_end : (first : List (List ℕ × Members)) → with_groups first (objects_in []) ≡ Some first
groups_end first = ap (λ (es : List (List ℕ × Members)). Some es) (append-nil first)

pub groups_more : (first : List (List ℕ × Members)) (name : List ℕ) (ms : Members) (rest : Option (List (List ℕ × Members)))
    → with_groups first (with_object name (Some ms) rest) ≡ with_groups (first ++ (name, ms) ∷ []) rest
groups_more first name ms None = refl
groups_more first name ms (Some es) = ap (λ (xs : List (List ℕ × Members)). Some xs) (sym (append_assoc first ((name, ms) ∷ []) es))

pub groups_start : (j : Json) (ms : Members) → j ≡ object ms → found_in (with_groups [] (objects_in (by_name ms))) ≡ groups_of j
unfolding groups_of
groups_start j ms e = ap found_in (groups_begin (objects_in (by_name ms))) ∙ sym (ap (λ (k : Json). found_in (option_and_then (λ ms. objects_in (by_name ms)) (as_object k))) e)

pub groups_next : (first : List (List ℕ × Members)) (name : List ℕ) (j : Json) (ms : Members) (rest : Option (List (List ℕ × Members))) (whole : Told (List (List ℕ × Members))) → j ≡ object ms
    → found_in (with_groups first (with_object name (as_object j) rest)) ≡ whole → found_in (with_groups (first ++ (name, ms) ∷ []) rest) ≡ whole
groups_next first name j ms rest whole e same =
    sym (ap found_in (groups_more first name ms rest)) ∙ sym (ap (λ (k : Json). found_in (with_groups first (with_object name (as_object k) rest))) e) ∙ same

pub groups_done : (first : List (List ℕ × Members)) → found_in (with_groups first (objects_in [])) ≡ Ok first
groups_done first = ap found_in (groups_end first)
