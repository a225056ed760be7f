use Rattle.std.proofs.Common.{◌≡◌, ℕ, ◌<◌, [], List, length, ap, ◌∙◌, arith}
use Rattle.std.proofs.lemmas.Result.{IfOk-weaker}
use Rattle.pvd_type.specs.Tree.{Tree, field}
use Rattle.std.proofs.lemmas.Bool.Decides.{nat_tests}
use Rattle.pvd_type.specs.View.{shape_view, members_view}
use Rattle.pvd_value.specs.Blank.{blank_of}
use Rattle.pvd_value.specs.Data.{Data, members, more}
use Rattle.pvd_value.specs.View.{view}
use Rattle.pvd_value.specs.declared.value.PvValue.{PvValue}
use Rattle.cli_session.specs.Seen.{text_seen, texts_seen, pair_view}
use Rattle.cli_session.specs.Structures.{structure, record_fields, record_row, request}
use Rattle.cli_session.proofs.Building.{has_record, some_mapped}
use Rattle.cli_session.proofs.structures.request.Goals as goal

pub returns : goal.returns
returns c =
    let options = texts_seen c.args.options.now in
    let fields = members_view c.args.fields.items in
    let pair : Tree → Data → Tree × Data = λ t d. (t, d) in
    let long : 0 < length c.args.options.now = grind (arith, nat_tests, c.is_empty.ensures) in
    let some : options ≡ [] → ⊥ = some_mapped text_seen c.args.options.now long in
    let blank_is : view c.in_ok-blank.blank ≡ blank_of (shape_view c.in_ok-fields.fields) = c.in_ok-blank.ensures {u = tt} in
    let shape_is : shape_view c.in_ok-fields.fields ≡ structure fields = c.in_ok-fields.ensures {u = tt} in
    let made : (structure (field c.args.root.now (shape_view c.in_ok-fields.fields) (record_fields options)), members (more (view c.in_ok-blank.blank) (record_row options))) ≡ request c.args.root.now fields options =
    ap (λ (v : Data). pair (structure (field c.args.root.now (shape_view c.in_ok-fields.fields) (record_fields options))) (members (more v (record_row options)))) blank_is
    ∙ ap (λ (t : Tree). pair (structure (field c.args.root.now t (record_fields options))) (members (more (blank_of t) (record_row options)))) shape_is
    ∙ has_record c.args.root.now fields options some in
    IfOk-weaker c.with_options.result (λ (r : Tree × PvValue). pair_view r ≡ (structure (field c.args.root.now (shape_view c.in_ok-fields.fields) (record_fields options)), members (more (view c.in_ok-blank.blank) (record_row options)))) _
    (λ r is. is ∙ made) c.with_options.ensures
