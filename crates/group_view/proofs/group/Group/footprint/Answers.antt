use Rattle.std.proofs.Common.{◌≡◌, ℕ, List, false, sym, ap, ◌∙◌, subst}
use Rattle.group_view.specs.Built.{is_in}
use Rattle.group_view.specs.Groups.{GroupData}
use Rattle.group_view.specs.Leaves.{records_of}
use Rattle.group_view.proofs.Keeping.{no_record, not_reached, nothing_read}
use Rattle.group_view.proofs.group.Group.footprint.Goals as goal

pub returns-in-None : goal.returns-in-None
returns-in-None c =
    let g = c.args.self.now in
    let built = c.self.invariant.0 in
    let records = subst (λ (g : GroupData). c.self.inside.records.items ≡ records_of g.members) c.self.view_is built.members in
    let none : is_in (records_of g.members) c.args.rec ≡ false =
    ap (λ (rs : List ℕ). is_in rs c.args.rec) (sym records) ∙ not_reached _ _ (sym (built.reaching c.args.rec) ∙ sym c.in-None.ensures.value) in
    nothing_read g c.args.rec (no_record g c.args.rec none)
