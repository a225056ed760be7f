-- Lists that an object outside tells or doesn't (None: not told).
use Rattle.std.specs.Prelude.{List, [], ◌∷◌, ◌++◌, Option, option_map}

-- one item more, where the list is told
abbrev pub and_one : {A : Type 0} → Option (List A) → A → Option (List A)
and_one told one = option_map (λ all. all ++ one ∷ []) told
