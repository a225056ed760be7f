use Rattle.std.specs.Prelude.{◌≡◌, true}
use Rattle.std.proofs.Common.{subst}
use Rattle.pvd_type.specs.Tree.{Tree}
use Rattle.pvd_value.specs.Fits.{fits_of}
use Rattle.pvd_value.specs.View.{view}
use Rattle.group_view.proofs.Ready.{parts_ready}
use Rattle.desk_api.proofs.Showing.{are_ready}
use Rattle.desk_api.proofs.Watching.{part_is}
use Rattle.desk_api.proofs.site.Site.group_part.Goals as goal

pub view_into-requires-clause-ready : goal.view_into-requires-clause-ready
view_into-requires-clause-ready c =
    parts_ready c.args.mask.now c.args.states.now c.group-group.result.now
    (are_ready c.args.self.now.configs c.args.states.now c.group-group.result.now c.requires.valid c.group-group.ensures.over)

pub returns-in-Ok-clause-shown : goal.returns-in-Ok-clause-shown
returns-in-Ok-clause-shown c =
    let ready = are_ready c.args.self.now.configs c.args.states.now c.group-group.result.now c.requires.valid c.group-group.ensures.over in
    let fits = subst (λ (t : Tree). fits_of 16 (view c.in_ok-value.value) t ≡ true) c.type_of.ensures (c.in_ok-value.ensures {u = tt}).fits in
    part_is _ c.group-group.result.now c.args.states.now c.args.mask.now (view c.in_ok-value.value) (view c.view_into.new.value) c.group-group.ensures.found ready fits (c.in-Ok.ensures {u = tt}).shown
