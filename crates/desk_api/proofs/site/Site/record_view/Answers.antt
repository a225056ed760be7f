use Rattle.std.specs.Prelude.{◌≡◌, Option, Some, Result, Ok, Err, IfOk}
use Rattle.std.proofs.Common.{sym, ◌∙◌}
use Rattle.pvd_type.specs.declared.memory.NoMemory.{NoMemory}
use Rattle.pvd_value.specs.View.{view}
use Rattle.pvd_value.specs.declared.value.PvValue.{PvValue}
use Rattle.rec_fields.specs.Shown.{shown}
use Rattle.journal_core.proofs.Keeping.{valid_at}
use Rattle.histories.proofs.Prefixes.{element_within}
use Rattle.rec_kinds.specs.Configs.{Config}
use Rattle.rec_kinds.specs.declared.state.RecState.{RecState}
use Rattle.desk_api.proofs.Showing.{state_for}
use Rattle.desk_api.specs.Views.{shown_or_blank}
use Rattle.desk_api.proofs.site.Site.record_view.Goals as goal

pub state_of-requires : goal.state_of-requires
state_of-requires c =
    let found = state_for c.args.self.now.configs c.args.states.now c.args.rec c.config.result.now c.requires.valid c.config.ensures in
    element_within c.args.states.now c.args.rec found.0 found.1

pub view-requires : goal.view-requires
view-requires c = valid_at c.args.self.now.configs c.args.states.now c.args.rec _ _ c.requires.valid c.config.ensures c.state_of.ensures

shown_there : (r : Result PvValue NoMemory) (config : Config) (state : RecState) (configured : Option Config) (found : Option RecState) → configured ≡ Some config → found ≡ Some state
    → IfOk r (λ v. view v ≡ shown config state) → IfOk r (λ v. view v ≡ shown_or_blank configured found)
shown_there (Ok v) config state configured found config_is state_is is = is ∙ (λ i. shown_or_blank (sym config_is i) (sym state_is i))
shown_there (Err e) config state configured found config_is state_is is = tt

pub returns-clause-shown : goal.returns-clause-shown
returns-clause-shown c =
    shown_there c.view.result c.config.result.now c.state_of.result.now _ _ c.config.ensures c.state_of.ensures c.view.ensures.shown
