use Rattle.std.specs.Prelude.{◌≡◌, ℕ, ◌<◌, List, length, Result, Ok, Err, IfOk}
use Rattle.std.specs.List.{AllByRecursion}
use Rattle.std.proofs.Common.{Vec, Global}
use Rattle.rec_kinds.specs.Configs.{Config}
use Rattle.rec_kinds.specs.declared.datum.Action.{Action}
use Rattle.rec_fields.specs.declared.puts.FieldAnswer.{FieldAnswer}
use Rattle.pvd_value.specs.Data.{Data}
use Rattle.std.specs.FinSet.{FinSet}
use Rattle.std.specs.Ordering.{nat_cmp}
use Rattle.group_view.specs.Groups.{GroupData, IsOver}
use Rattle.group_view.specs.Puts.{MayBeDoneBy, actions_for}
use Rattle.desk_api.proofs.Acting.{all_within, some_actions}
use Rattle.desk_api.proofs.site.Site.actions.Goals as goal

-- what may be done is done to records that are there
within : (r : Result (Vec (ℕ × Action) Global) FieldAnswer) (configs : List Config) → IfOk r (λ actions. AllByRecursion (MayBeDoneBy configs) actions.items)
    → IfOk r (λ actions. AllByRecursion (λ a. a.0 < length configs) actions.items)
within (Ok actions) configs may = all_within configs actions.items may
within (Err e) configs may = tt

may_over : (r : Result (Vec (ℕ × Action) Global) FieldAnswer) (configs : List Config) (g : GroupData) → IfOk r (λ actions. (cs : List Config) → IsOver cs g → AllByRecursion (MayBeDoneBy cs) actions.items)
    → IsOver configs g → IfOk r (λ actions. AllByRecursion (MayBeDoneBy configs) actions.items)
may_over (Ok actions) configs g may over = may configs over
may_over (Err e) configs g may over = tt

some : (r : Result (Vec (ℕ × Action) Global) FieldAnswer) (g : GroupData) (value : Data) (mask : FinSet nat_cmp) → IfOk r (λ actions. actions_for g value mask ≡ Ok actions.items) → IfOk r (λ actions. 0 < length actions.items)
some (Ok actions) g value mask are = some_actions g value mask actions.items are
some (Err e) g value mask are = tt

pub returns-in-Rec-clause-within : goal.returns-in-Rec-clause-within
returns-in-Rec-clause-within c = within c.record_actions.result c.args.self.now.configs c.record_actions.ensures.may

pub returns-in-Group-clause-may : goal.returns-in-Group-clause-may
returns-in-Group-clause-may c = may_over c.actions.result c.args.self.now.configs c.group.result.now c.actions.ensures.may c.group.ensures.over

pub returns-in-Group-clause-within : goal.returns-in-Group-clause-within
returns-in-Group-clause-within c =
    within c.actions.result c.args.self.now.configs (may_over c.actions.result c.args.self.now.configs c.group.result.now c.actions.ensures.may c.group.ensures.over)

pub returns-in-Group-clause-some : goal.returns-in-Group-clause-some
returns-in-Group-clause-some c = some c.actions.result c.group.result.now _ _ c.actions.ensures.actions
