use Rattle.std.proofs.Common.{◌≡◌, false, sym, ap, ◌∙◌}
use Rattle.std.specs.FinSet as set
use Rattle.pvd_value.specs.Data.{Data, members}
use Rattle.pvd_value.specs.Fits.{fits_of}
use Rattle.pvd_value.specs.Merge.{merged}
use Rattle.pvd_value.specs.View.{view, row_view}
use Rattle.pvd_value.specs.declared.value.PvValue.{Struct}
use Rattle.rec_fields.specs.Shown.{three, alarm_shown, time_shown}
use Rattle.rec_fields.specs.Types.{record_tree}
use Rattle.group_view.specs.Pieces.{list_number, value_without_list}
use Rattle.group_view.proofs.Keeping.{view_struct}
use Rattle.group_view.proofs.Lists.{light_part, light_whole_fits}
use Rattle.group_view.proofs.piece.whole_part.Goals as goal

pub returns-clause-part : goal.returns-clause-part
returns-clause-part c = λ old fits.
    let config = c.args.config.now in
    let state = c.args.state.now in
    let mask = c.args.mask.now in
    let whole : view (Struct c.in_ok-vec.field-0) ≡ three (value_without_list config state.datum) (alarm_shown state) (time_shown state) =
    view_struct c.in_ok-vec.field-0 ∙ ap (λ vs. members (row_view vs)) c.in_ok-vec.ensures.items ∙ (λ i. three (c.in_ok-value.ensures i) (c.in_ok-alarm.ensures i) (c.in_ok-time.ensures i)) in
    let unmarked : set.contains mask (list_number config.kind) ≡ false =
    ap (set.contains mask) (sym (c.list_number.ensures ∙ ap list_number c.kind.ensures)) ∙ sym (c.if-contains.ensures {u = tt}) in
    ap (λ (v : Data). merged (set.contains mask) 0 (record_tree config) old v) whole ∙ light_part mask config state c.requires.sort unmarked old fits

pub returns-clause-fits : goal.returns-clause-fits
returns-clause-fits c =
    let config = c.args.config.now in
    let state = c.args.state.now in
    let whole : view (Struct c.in_ok-vec.field-0) ≡ three (value_without_list config state.datum) (alarm_shown state) (time_shown state) =
    view_struct c.in_ok-vec.field-0 ∙ ap (λ vs. members (row_view vs)) c.in_ok-vec.ensures.items ∙ (λ i. three (c.in_ok-value.ensures i) (c.in_ok-alarm.ensures i) (c.in_ok-time.ensures i)) in
    ap (λ (v : Data). fits_of 16 v (record_tree config)) whole ∙ light_whole_fits config state c.requires.sort
