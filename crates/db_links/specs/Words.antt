-- The words of a link's text (EPICS record reference, "Address Specification").
use Rattle.std.specs.Prelude.{ℕ, ◌-◌, ◌==◌, Bool, ◌||◌, List, [], ◌∷◌, ◌++◌, length, take, Option, Some, None, nat_eq, if◌then◌else◌}
use Rattle.std.specs.List.{ends_with}

-- blanks are space and tab
abbrev pub is_blank : ℕ → Bool
is_blank b = b == 32 || b == 9

-- what stands between two blanks is a word where it isn't empty
abbrev pub word_of : List ℕ → List (List ℕ)
word_of bytes = if length bytes == 0 then [] else bytes ∷ []

-- the words of a text behind the bytes of a word that is begun
abbrev pub words_from : List ℕ → List ℕ → List (List ℕ)
words_from begun [] = word_of begun
words_from begun (b ∷ bs) = if is_blank b then word_of begun ++ words_from [] bs else words_from (begun ++ b ∷ []) bs

-- the words of a text, which blanks divide
abbrev pub words : List ℕ → List (List ℕ)
words text = words_from [] text

-- what stands before an ending
abbrev pub before : List ℕ → List ℕ → Option (List ℕ)
before ending word =
    if ends_with nat_eq word ending then Some (take (length word - length ending) word) else None
