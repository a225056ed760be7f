-- The map of records by their names, as a function.
use Rattle.std.specs.Prelude.{◌≡◌, ℕ, List, Option}
use Rattle.std.specs.Ordering.{nat_cmp}
use Rattle.std.specs.Cmp.Lexicographic.{slice_cmp}
use Rattle.std.specs.BTreeMap.{BTreeMap, get_by}
use Rattle.rec_kinds.specs.declared.record_text.RecText.{RecText}
use Rattle.db_links.specs.Live.{number_of}
use denote.Ref.{Bor}

-- the number under this name
abbrev pub number_in : BTreeMap (Bor (List ℕ)) ℕ → List ℕ → Option ℕ
number_in numbers name = get_by (λ k. slice_cmp nat_cmp name k.now) numbers

-- Under each name is the number of its record.
abbrev pub AreNumbers : List RecText → BTreeMap (Bor (List ℕ)) ℕ → Type 0
AreNumbers records numbers = (name : List ℕ) → number_in numbers name ≡ number_of records name
