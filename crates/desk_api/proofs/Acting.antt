-- The actions of puts.
use Rattle.std.specs.Prelude.{◌≡◌, ℕ, ◌<◌, List, [], ◌∷◌, length, Option, Some, None, MatchOption, Result, Ok, Err, slice_get, refl}
use Rattle.std.specs.FinSet.{FinSet}
use Rattle.std.specs.List.{AllByRecursion}
use Rattle.std.specs.Ordering.{nat_cmp}
use Rattle.std.proofs.Common.{arith, subst}
use Rattle.histories.proofs.Prefixes.{element_within}
use Rattle.pvd_value.specs.Data.{Data}
use Rattle.rec_kinds.specs.Configs.{Config}
use Rattle.rec_kinds.specs.Validity.{MayBeDone}
use Rattle.rec_kinds.specs.declared.datum.Action.{Action}
use Rattle.rec_fields.specs.declared.puts.FieldAnswer.{FieldAnswer}
use Rattle.group_view.specs.Groups.{GroupData}
use Rattle.group_view.specs.Puts.{MayBeDoneBy, actions_for, unless_none}

-- an action that may be done is done to a record that is there

within_by : (configs : List Config) (a : ℕ × Action) (config : Option Config) → slice_get configs a.0 ≡ config → MatchOption config ⊥ (λ c. MayBeDone c a.1) → a.0 < length configs
within_by configs a (Some config) is may = element_within configs a.0 config is
within_by configs a None is may = absurd may

pub all_within : (configs : List Config) (actions : List (ℕ × Action)) → AllByRecursion (MayBeDoneBy configs) actions → AllByRecursion (λ a. a.0 < length configs) actions
all_within configs [] may = tt
all_within configs (a ∷ actions) may = (within_by configs a (slice_get configs a.0) refl may.0, all_within configs actions may.1)

-- a put to a group has at least one action

some_by : (r : Result (List (ℕ × Action)) FieldAnswer) (actions : List (ℕ × Action)) → unless_none r ≡ Ok actions → 0 < length actions
some_by (Ok []) actions is = absurd (cc is)
some_by (Ok (a ∷ more)) actions is = let same : a ∷ more ≡ actions = cc in subst (λ (l : List (ℕ × Action)). 0 < length l) same (omega arith)
some_by (Err e) actions is = absurd (cc is)

pub some_actions : (g : GroupData) (value : Data) (mask : FinSet nat_cmp) (actions : List (ℕ × Action)) → actions_for g value mask ≡ Ok actions → 0 < length actions
unfolding actions_for
some_actions g value mask actions is = some_by _ actions is
