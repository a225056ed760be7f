-- A put of what a record shows.
use Rattle.std.specs.Prelude.{◌≡◌, ◌≤◌, Bool, true, false, Ok, length}
use Rattle.std.specs.FinSet.{FinSet, contains}
use Rattle.std.specs.Ordering.{nat_cmp}
use Rattle.rec_kinds.specs.Configs.{Config}
use Rattle.rec_kinds.specs.Moments.{Instant}
use Rattle.rec_kinds.specs.Processing.{clamped, processed}
use Rattle.rec_kinds.specs.Ranges.{most_choices}
use Rattle.rec_kinds.specs.Validity.{IsValid}
use Rattle.rec_kinds.specs.declared.datum.Action.TheVariants.{Put}
use Rattle.rec_kinds.specs.declared.state.RecState.{RecState}
use Rattle.rec_fields.specs.Puts.{action_for, value_leaf}
use Rattle.rec_fields.specs.Shown.{shown, value_shown}

-- The record takes puts and has no more choices than a record may have, the value's leaf is marked, and the record's limits
-- leave what it holds.
pub record MayBePutAgain (config : Config) (state : RecState) (mask : FinSet nat_cmp) : Type 0 where
  pub valid : IsValid config state
  pub enabled : config.disabled ≡ false
  pub marked : contains mask (value_leaf config.kind) ≡ true
  pub choices : length config.choices ≤ most_choices
  pub kept : clamped config state.datum ≡ state.datum

-- A put of what is shown puts what the record holds, and the record then shows the same value.
pub record IsPutAgain (config : Config) (state : RecState) (mask : FinSet nat_cmp) : Type 0 where
  pub action : action_for config (shown config state) mask ≡ Ok (Put state.datum)
  pub same : (moment : Instant) (drove : Bool) →
      value_shown config (processed config state (Put state.datum) moment drove).datum ≡ value_shown config state.datum
