use Rattle.std.proofs.Common.{◌∙◌, Some, ap, sym}
use Rattle.std.proofs.lemmas.Option.{slice_get-get_or}
use Rattle.mon_shown.proofs.Listing.{removed_at}
use Rattle.mon_shown.proofs.index.remove_at.Goals as goal

pub returns : goal.returns
returns c = λ r s.
    let lists = c.args.lists.now.items in
    let l = c.index_mut.result.now in
    removed_at lists c.args.at c.args.slot r s l c.remove.new.self (slice_get-get_or lists c.args.at l c.requires ∙ ap Some (sym c.index_mut.ensures.value)) c.remove.ensures
