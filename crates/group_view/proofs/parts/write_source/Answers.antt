use Rattle.std.proofs.Common.{◌≡◌, ◌+◌, ◌&&◌, ℕ, ltb, ap, ◌∙◌, length}
use Rattle.std.specs.FinSet as fin
use Rattle.pvd_type.specs.Numbers.{numbered}
use Rattle.pvd_type.specs.Tree.{Tree}
use Rattle.pvd_value.specs.Merge.{merged}
use Rattle.pvd_value.specs.View.{view}
use Rattle.group_view.specs.Types.{source_tree}
use Rattle.group_view.specs.Views.{source_shown}
use Rattle.group_view.proofs.Merging.{merged_same}
use Rattle.group_view.proofs.Parting.{part_taken, part_kept}
use Rattle.group_view.proofs.parts.write_source.Goals as goal

pub part-requires : goal.part-requires
part-requires c = c.requires.ready c.requires.marked.number c.requires.marked.from c.requires.marked.to c.requires.marked.marked

pub returns-in_err-marked-clause-kept : goal.returns-in_err-marked-clause-kept
returns-in_err-marked-clause-kept c = merged_same (fin.contains c.args.mask.now) c.args.number (source_tree c.args.source.now) (view c.args.into.now) c.requires.old_fits

pub returns-in_err-part-clause-kept : goal.returns-in_err-part-clause-kept
returns-in_err-part-clause-kept c = merged_same (fin.contains c.args.mask.now) c.args.number (source_tree c.args.source.now) (view c.args.into.now) c.requires.old_fits

pub returns-clause-shown : goal.returns-clause-shown
returns-clause-shown c =
    let t = source_tree c.args.source.now in
    let mask = c.args.mask.now in
    let n = c.args.number in
    let marked = c.in_ok-marked.marked in
    let old = view c.args.into.now in
    let part = view c.in_ok-part.part in
    let long = c.node_count-count.ensures.count ∙ ap (λ (x : Tree). length (numbered x)) c.ty-ty.ensures in
    let counted : (k : ℕ) → fin.contains marked k ≡ (ltb k (length (numbered t)) && fin.contains mask (n + k)) =
    λ k. c.in_ok-marked.ensures k ∙ ap (λ (m : ℕ). ltb k m && fin.contains mask (n + k)) long in
    let made = c.take_leaves.ensures.value ∙ ap (λ (x : Tree). merged (fin.contains marked) 0 x old part) c.ty-ty.ensures in
    part_taken mask marked n t counted old part (source_shown c.args.states.now c.args.source.now) _ c.requires.old_fits made c.in_ok-part.ensures.part

pub returns-clause-kept : goal.returns-clause-kept
returns-clause-kept c =
    let t = source_tree c.args.source.now in
    let mask = c.args.mask.now in
    let n = c.args.number in
    let marked = c.in_ok-marked.marked in
    let old = view c.args.into.now in
    let part = view c.in_ok-part.part in
    let long = c.node_count-count.ensures.count ∙ ap (λ (x : Tree). length (numbered x)) c.ty-ty.ensures in
    let counted : (k : ℕ) → fin.contains marked k ≡ (ltb k (length (numbered t)) && fin.contains mask (n + k)) =
    λ k. c.in_ok-marked.ensures k ∙ ap (λ (m : ℕ). ltb k m && fin.contains mask (n + k)) long in
    let made = c.take_leaves.ensures.value ∙ ap (λ (x : Tree). merged (fin.contains marked) 0 x old part) c.ty-ty.ensures in
    part_kept mask marked n t counted old part _ c.requires.old_fits c.in_ok-part.ensures.fits made
