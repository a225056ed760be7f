use Rattle.std.specs.Prelude.{ℕ, List}
use Rattle.std.proofs.Common.{sym, ◌∙◌, ap}
use Rattle.mon_shown.specs.Channels.{is_one_of}
use Rattle.desk_api.proofs.Watching.{untriggered}
use Rattle.desk_api.proofs.views.SiteViewsChannel.triggering.Goals as goal

pub returns : goal.returns
returns c = λ rec other.
    untriggered c.args.self.now c.args.channel rec (ap (λ (recs : List ℕ). is_one_of recs rec) (sym c.footprint_of.ensures) ∙ other)
