use Rattle.std.proofs.Common.{◌∙◌, ap}
use Rattle.std.specs.FinSet.{intersection}
use Rattle.pvd_value.specs.View.{view}
use Rattle.mon_queue.specs.Told.{are_leaves}
use Rattle.mon_queue.proofs.Rings.{joined_is, same_post, union_leaves, both_leaves, update_parts, update_whole}
use Rattle.mon_queue.proofs.joining.joined.Goals as goal

pub returns-clause-told : goal.returns-clause-told
returns-clause-told c =
    joined_is c.args.ty.now c.args.newest.now (record { changed = c.in_ok-changed.changed; overrun = c.in_ok-overrun.overrun; value = c.in_ok-value.value }) c.args.post.now.mask
    c.in_ok-changed.ensures c.in_ok-overrun.ensures c.in_ok-value.ensures.old

pub returns-clause-post : goal.returns-clause-post
returns-clause-post c = same_post c.args.ty.now (view c.in_ok-value.value) (view c.args.post.now.value) c.args.post.now.mask c.in_ok-value.ensures.new

pub returns-clause-update : goal.returns-clause-update
returns-clause-update c =
    let t = c.args.ty.now in
    let newest = c.args.newest.now in
    let old = update_parts t newest c.requires.newest in
    let mask = c.args.post.now.mask in
    let changed = union_leaves t newest.changed mask old.changed c.requires.post.mask in
    let overrun = union_leaves t (intersection mask newest.changed) newest.overrun (both_leaves t mask newest.changed c.requires.post.mask) old.overrun in
    update_whole t (record { changed = c.in_ok-changed.changed; overrun = c.in_ok-overrun.overrun; value = c.in_ok-value.value }) c.in_ok-value.ensures.fits
    (ap (are_leaves t) c.in_ok-changed.ensures ∙ changed)
    (ap (are_leaves t) c.in_ok-overrun.ensures ∙ overrun)
