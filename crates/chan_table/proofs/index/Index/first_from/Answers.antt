use Rattle.std.specs.Prelude.{T}
use Rattle.std.proofs.Common.{sym, subst, ◌∙◌, ap}
use Rattle.std.specs.List.{slice_get}
use Rattle.chan_table.specs.Index.{IsFirstFrom}
use Rattle.chan_table.proofs.Places.{first-place}
use Rattle.chan_table.proofs.index.Index.first_from.Goals as goal

pub returns : goal.returns
returns g c =
    let R = g.K.Ord.cmp in
    let es = c.args.self.now.entries.items in
    subst (IsFirstFrom R es c.args.from) (sym (c.entry_at.ensures ∙ ap (slice_get es) c.place_of.ensures))
    (first-place R g.met.K.Ord.total es c.args.from (subst T (sym c.args.self.now.sorted) tt))
