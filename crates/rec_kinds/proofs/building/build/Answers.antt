use Rattle.std.proofs.Common.{ap, ◌∙◌}
use Rattle.rec_kinds.specs.Building.{opening, opening_datum, opens_undefined}
use Rattle.rec_kinds.specs.Configs.{Config}
use Rattle.rec_kinds.proofs.Built.{valid_at}
use Rattle.rec_kinds.proofs.Ranged.{in_range_at}
use Rattle.rec_kinds.proofs.building.build.Goals as goal

pub returns-clause-valid : goal.returns-clause-valid
returns-clause-valid c =
    let kind = c.args.kind in
    let fields = c.args.fields.now in
    valid_at kind fields c.in_ok-config.config c.in_ok-state.state (c.in_ok-check_fields.ensures {u = tt}).ok (c.in_ok-config.ensures {u = tt})
    (c.in_ok-state.ensures {u = tt}
    ∙ ap (λ (x : Config). opening x (opening_datum kind fields) (opens_undefined kind fields)) (c.in_ok-config.ensures {u = tt}))

pub returns-clause-ranges : goal.returns-clause-ranges
returns-clause-ranges c =
    in_range_at c.args.kind c.args.fields.now c.in_ok-config.config (c.in_ok-check_fields.ensures {u = tt}).ok (c.in_ok-config.ensures {u = tt})
