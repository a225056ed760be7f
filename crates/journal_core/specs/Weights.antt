-- What an entry weighs.
use Rattle.std.specs.Prelude.{ℕ, ◌+◌, ◌*◌, List, length}
use Rattle.std.specs.List.{sum_by}
use Rattle.rec_kinds.specs.declared.datum.Datum.TheVariants.{Num, Index, Text, Nums, Texts}
use Rattle.rec_kinds.specs.declared.datum.Action.{Action}
use Rattle.rec_kinds.specs.declared.datum.Action.TheVariants.{Put, Process}
use Rattle.journal_core.specs.declared.entry.Entry.{Entry}

-- what a text of a list adds
abbrev pub text_payload : List ℕ → ℕ
text_payload text = 16 + length text

abbrev pub payload : Action → ℕ
payload Process = 0
payload (Put (Num n)) = 8
payload (Put (Index n)) = 8
payload (Put (Text text)) = length text
payload (Put (Nums numbers)) = 8 * length numbers
payload (Put (Texts texts)) = sum_by text_payload texts

-- what an action of an entry adds
abbrev pub action_weight : ℕ × Action → ℕ
action_weight a = 32 + payload a.1

-- what an entry with this footprint and these actions weighs
abbrev pub weight_with : List ℕ → List (ℕ × Action) → ℕ
weight_with footprint actions = 64 + 32 * length footprint + sum_by action_weight actions

abbrev pub weight : Entry → ℕ
weight entry = weight_with entry.footprint entry.actions
