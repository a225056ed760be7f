use Rattle.std.proofs.Common.{sym, ap, ◌∙◌}
use Rattle.pvd_value.specs.Fits.{fits_of}
use Rattle.pvd_value.specs.View.{view}
use Rattle.rec_kinds.specs.Configs.{Config}
use Rattle.rec_fields.specs.Plain.{plain_tree}
use Rattle.group_view.proofs.Heads.{leaf_fits}
use Rattle.group_view.proofs.puts.put_of.Goals as goal

pub leaf_action-requires : goal.leaf_action-requires
leaf_action-requires c =
    ap (λ (config : Config). fits_of 16 (view c.in-Some.leaf.now) (plain_tree config)) c.config.ensures
    ∙ leaf_fits 16 c.args.ty.now (view c.args.value.now) c.args.number (plain_tree c.args.link.now.config) (view c.in-Some.leaf.now)
    c.requires.fits c.requires.leaf (sym c.in-Some.ensures.leaf)
