-- JSON objects in the order in which they are read: by the bytes of their keys.
use Rattle.std.specs.Prelude.{ℕ, suc, List, [], ◌∷◌, Option, Some, None, Ok, Err, option_and_then, if◌then◌else◌}
use Rattle.std.specs.declared.cmp.Ordering.{Ordering}
use Rattle.std.specs.BTreeMap.{insert_entry}
use Rattle.std.specs.Ordering.{nat_cmp, ordering_then}
use Rattle.std.specs.Cmp.Lexicographic.{slice_cmp}
use Rattle.json.specs.Json.{Json, Members, no_members, member, document}
use Rattle.json.specs.Find.{as_object}
use Rattle.group_defs.specs.Told.{Told}
use Rattle.group_defs.specs.Members.{is_setting}
use Rattle.group_defs.specs.declared.fault.Stop.TheVariants.{BadJson}

abbrev pub text_cmp : List ℕ → List ℕ → Ordering
text_cmp = slice_cmp nat_cmp

-- The values of an object by their keys. Of a key that is doubled the last counts.
abbrev pub by_name_after : List (List ℕ × Json) → Members → List (List ℕ × Json)
by_name_after found no_members = found
by_name_after found (member key j ms) = by_name_after (insert_entry text_cmp found key j) ms

unfoldable pub by_name : Members → List (List ℕ × Json)
by_name ms = by_name_after [] ms

-- A key and its place among the keys that are equal to it. Settings have one place, so that of a doubled one the last
-- counts; a member's name that is doubled stands twice, in the order of the text.
abbrev pub Place : Type 0
Place = List ℕ × ℕ

abbrev pub place_of : ℕ → List ℕ → Place
place_of n key = (key, if is_setting key then 0 else n)

abbrev pub place_cmp : Place → Place → Ordering
place_cmp a b = ordering_then (text_cmp a.0 b.0) (nat_cmp a.1 b.1)

abbrev pub in_order_after : ℕ → List (Place × Json) → Members → List (Place × Json)
in_order_after n found no_members = found
in_order_after n found (member key j ms) =
    in_order_after (suc n) (insert_entry place_cmp found (place_of n key) j) ms

-- the keys of a group's object, in order
unfoldable pub in_order : Members → List (Place × Json)
in_order ms = in_order_after 0 [] ms

-- the objects among values, where every value is one
abbrev pub with_object : List ℕ → Option Members → Option (List (List ℕ × Members)) → Option (List (List ℕ × Members))
with_object name None rest = None
with_object name (Some ms) None = None
with_object name (Some ms) (Some rest) = Some ((name, ms) ∷ rest)

abbrev pub objects_in : List (List ℕ × Json) → Option (List (List ℕ × Members))
objects_in [] = Some []
objects_in (e ∷ es) = with_object e.0 (as_object e.1) (objects_in es)

-- the value that a text is
abbrev pub json_in : Option Json → Told Json
json_in None = Err BadJson
json_in (Some j) = Ok j

unfoldable pub json_of : List ℕ → Told Json
json_of text = json_in (document text)

-- the groups that a value is about, in order, if it is an object of objects
abbrev pub found_in : Option (List (List ℕ × Members)) → Told (List (List ℕ × Members))
found_in None = Err BadJson
found_in (Some es) = Ok es

unfoldable pub groups_of : Json → Told (List (List ℕ × Members))
groups_of j = found_in (option_and_then (λ ms. objects_in (by_name ms)) (as_object j))
