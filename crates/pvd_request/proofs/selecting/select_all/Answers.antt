use Rattle.std.proofs.Common.{◌≡◌, ◌∙◌, Option, List, ℕ, IfOk, nat_cmp, subst, sym, ap, fold, option_map}
use Rattle.std.specs.FinSet as set
use Rattle.std.specs.FinSet.{FinSet}
use Rattle.pvd_type.specs.Tree.{Tree}
use Rattle.pvd_type.specs.View.{shape_view, members_view}
use Rattle.pvd_type.proofs.Leaves.{fold_is_set}
use Rattle.pvd_request.specs.Selection.{one_selects, leaves_where, selected}
use Rattle.pvd_request.proofs.Paths.{no_root, empty_root, named_root}
use Rattle.pvd_request.proofs.selecting.select_all.Goals as goal

pub returns-in_default : goal.returns-in_default
returns-in_default c =
    let root : Option Tree = option_map (λ s. shape_view s.now) c.args.root in
    subst (λ (all : FinSet nat_cmp). IfOk c.leaves.result (λ s. s ≡ all)) (no_root c.args.ty.now root (ap (option_map (λ s. shape_view s.now)) c.in_default.is)) c.leaves.ensures

pub returns-then-is_empty_structure : goal.returns-then-is_empty_structure
returns-then-is_empty_structure c =
    let root : Option Tree = option_map (λ s. shape_view s.now) c.args.root in
    let r = shape_view c.in-Some.root.now in
    let all = empty_root c.args.ty.now root r (ap (option_map (λ s. shape_view s.now)) c.in-Some.is) (sym c.is_empty_structure.ensures ∙ c.if-is_empty_structure.true) in
    subst (λ (all : FinSet nat_cmp). IfOk c.leaves-then-is_empty_structure.result (λ s. s ≡ all)) all c.leaves-then-is_empty_structure.ensures

pub returns : goal.returns
returns c =
    let t = c.args.ty.now in
    let root : Option Tree = option_map (λ s. shape_view s.now) c.args.root in
    let said = members_view c.members_in-said.result.now in
    let ns : List ℕ = leaves_where (one_selects said) 0 (shape_view c.shape.result.now) in
    let named : leaves_where (one_selects said) 0 t ≡ selected t root =
    named_root t root (shape_view c.in-Some.root.now) (ap (option_map (λ s. shape_view s.now)) c.in-Some.is) said c.members_in-said.ensures
    (sym c.is_empty_structure.ensures ∙ c.if-is_empty_structure.false) in
    c.in_ok-select_below.ensures ∙ (λ i. fold set.insert (c.new-found.ensures i) ns) ∙ fold_is_set ns
    ∙ ap (λ (t : Tree). set.from_list (leaves_where (one_selects said) 0 t)) c.shape.ensures.tree ∙ ap set.from_list named
