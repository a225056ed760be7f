use Rattle.std.specs.Prelude.{◌≡◌, ◌||◌, ◌++◌, ℕ, Bool, List, length, take}
use Rattle.std.proofs.Common.{sym, ◌∙◌, ap, arith}
use Rattle.std.proofs.Math.Seq.{take-length}
use Rattle.rec_kinds.specs.declared.datum.Action.{Action}
use Rattle.desk_api.proofs.Holding.{held_last, is_footprint}
use Rattle.desk_api.proofs.Noting.{among_both}
use Rattle.desk_api.proofs.Stating.{next_taken, there}
use Rattle.desk_api.specs.Grouping.{is_among}
use Rattle.desk_api.specs.Puts.{is_held, is_held_with}
use Rattle.desk_api.proofs.site.Site.footprint_with.Goals as goal

pub loop-rec-init : goal.loop-rec-init
loop-rec-init c = λ n. ap (λ (l : List ℕ). is_among l n) (c.in_ok-found.ensures {u = tt}).items

pub loop-rec-preserved : goal.loop-rec-preserved
loop-rec-preserved c = λ n.
    let actions = c.args.actions.now in
    let i = c.loop-rec.rec-index in
    let at = there actions i c.loop-rec-item.result c.loop-rec-test.true c.loop-rec-item.is in
    (c.in_ok-add_held.ensures {u = tt}) n
    ∙ ap (λ (b : Bool). b || is_held_with c.args.self.now n c.loop-rec-item.result.0) (c.loop-rec.invariant n)
    ∙ sym (held_last c.args.self.now (take i actions) c.loop-rec-item.result n)
    ∙ ap (λ (l : List (ℕ × Action)). is_held c.args.self.now l n) (sym (next_taken actions i c.loop-rec-item.result at))

pub returns : goal.returns
returns c =
    let site = c.args.self.now in
    let actions = c.args.actions.now in
    let looked = c.args.looked.now in
    let end : c.loop-rec.rec-index ≡ length actions = omega (arith, c.loop-rec-test.false, c.loop-rec.auto.rec-index-end) in
    let whole : take c.loop-rec.rec-index actions ≡ actions = ap (λ (n : ℕ). take n actions) end ∙ take-length actions in
    let more : c.extend_from_slice.new.self.items ≡ c.loop-rec.found.items ++ looked = (c.in_ok-extend_from_slice.ensures {u = tt}).items in
    is_footprint site actions looked c.in_rising_order.new.numbers.items c.are_over.ensures c.requires.within c.requires.below c.in_rising_order.ensures.rises
    (λ n. c.in_rising_order.ensures.same n ∙ ap (λ (l : List ℕ). is_among l n) more ∙ among_both c.loop-rec.found.items looked n
    ∙ ap (λ (b : Bool). b || is_among looked n) (c.loop-rec.invariant n ∙ ap (λ (l : List (ℕ × Action)). is_held site l n) whole))
