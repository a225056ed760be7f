use Rattle.std.proofs.Common.{◌∙◌, Some, ap, sym}
use Rattle.std.proofs.lemmas.Option.{slice_get-get_or}
use Rattle.mon_shown.proofs.Listing.{ok_map, err_map, added_at, same_at}
use Rattle.mon_shown.proofs.index.add_at.Goals as goal

pub returns-clause-ok : goal.returns-clause-ok
returns-clause-ok c =
    let lists = c.args.lists.now.items in
    let l = c.index_mut.result.now in
    let here = slice_get-get_or lists c.args.at l c.requires ∙ ap Some (sym c.index_mut.ensures.value) in
    ok_map c.add.result (λ h r s. added_at lists c.args.at c.args.slot r s l c.add.new.self here h) c.add.ensures.ok

pub returns-clause-err : goal.returns-clause-err
returns-clause-err c =
    let lists = c.args.lists.now.items in
    let l = c.index_mut.result.now in
    let here = slice_get-get_or lists c.args.at l c.requires ∙ ap Some (sym c.index_mut.ensures.value) in
    err_map c.add.result (λ h r s. same_at lists c.args.at r s l c.add.new.self here h) c.add.ensures.err
