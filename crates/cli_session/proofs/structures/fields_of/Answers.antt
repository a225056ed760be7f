use Rattle.std.proofs.Common.{◌≡◌, List, map, ap, ◌∙◌}
use Rattle.std.proofs.lemmas.List.{take_all}
use Rattle.std.proofs.lemmas.Result.{IfOk-weaker}
use Rattle.pvd_type.specs.Numbers.{path_of}
use Rattle.pvd_type.specs.View.{members_view}
use Rattle.pvd_type.specs.declared.shape.Member.{Member}
use Rattle.std.specs.Global.{Vec}
use Rattle.cli_session.specs.Seen.{paths_seen}
use Rattle.cli_session.specs.Structures.{Path, chosen, deepest}
use Rattle.cli_session.proofs.structures.fields_of.Goals as goal

pub returns : goal.returns
returns c =
    let fields = c.args.fields.now in
    let all : paths_seen c.deref.result.now ≡ map path_of fields =
    ap paths_seen c.deref.ensures.value ∙ c.loop-field.invariant ∙ ap (map path_of) (take_all c.loop-field.field-index fields c.loop-field-test.false) in
    IfOk-weaker c.chosen.result (λ (ms : Vec Member). members_view ms.items ≡ chosen deepest (paths_seen c.deref.result.now)) _ (λ ms is. is ∙ ap (λ (ps : List Path). chosen deepest ps) all) c.chosen.ensures
