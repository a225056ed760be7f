use Rattle.std.proofs.Common.{sym, ap, ◌∙◌}
use Rattle.std.proofs.lemmas.Bool.{false≢true}
use Rattle.std.proofs.lemmas.Result.{err_from_is_err_and}
use Rattle.json.specs.Value.{value_view}
use Rattle.group_defs.specs.Told.{each}
use Rattle.group_defs.specs.Shown.{shown_places}
use Rattle.group_defs.specs.Joining.{join_key}
use Rattle.group_defs.proofs.Passing.{each_fails, each_goes, nothing_left}
use Rattle.group_defs.proofs.joining.join_keys.Goals as goal

pub returns-in_err-join_key : goal.returns-in_err-join_key
returns-in_err-join_key c =
    let p = err_from_is_err_and c.from_residual.result c.from_residual.ensures.1 in
    rw (p.1, p.2)
    (each_fails (λ g e. join_key c.args.number g e.0.0 e.1) c.loop-place.draft ((c.in-Some.place.0.now, c.in-Some.place.1), value_view c.in-Some.value.now) (shown_places c.pop_first.new.self.entries) _
    (sym (ap (λ es. each (λ g e. join_key c.args.number g e.0.0 e.1) c.loop-place.draft (shown_places es)) c.in-Some.ensures.removal) ∙ c.loop-place.invariant) _ c.in_err-join_key.ensures)

pub loop-place-preserved : goal.loop-place-preserved
loop-place-preserved c =
    each_goes (λ g e. join_key c.args.number g e.0.0 e.1) c.loop-place.draft ((c.in-Some.place.0.now, c.in-Some.place.1), value_view c.in-Some.value.now) (shown_places c.pop_first.new.self.entries) _
    (sym (ap (λ es. each (λ g e. join_key c.args.number g e.0.0 e.1) c.loop-place.draft (shown_places es)) c.in-Some.ensures.removal) ∙ c.loop-place.invariant) c.join_key.new.draft c.in_ok-join_key.ensures

pub returns : goal.returns
returns c =
    let none = nothing_left c.loop-place.left.entries (λ h. false≢true (c.in_default.ensures.variant.1 h)) in
    sym c.loop-place.invariant ∙ ap (λ es. each (λ g e. join_key c.args.number g e.0.0 e.1) c.loop-place.draft (shown_places es)) none
