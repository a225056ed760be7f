use Rattle.std.proofs.Common.{arith, ◌≡◌, ℕ, List, [], ◌∷◌, ◌++◌, length, ◌∙◌, ap}
use Rattle.rec_kinds.specs.declared.datum.Action.{Action}
use Rattle.rec_kinds.specs.declared.datum.Action.TheVariants.{Put, Process}
use Rattle.record_tests.proofs.Singles.{two_are_light}
use Rattle.record_tests.proofs.history.weight_with.Goals as goal

pub weight-requires : goal.weight-requires
weight-requires c =
    let two : length c.from_vec.result ≡ 2 = omega (arith, ap length c.from_vec.ensures, c.in_ok-to_vec.ensures.len, c.in_ok-to_vec.field-0.ok.0) in
    let first : c.push.new.self.items ≡ (4, Put c.args.datum) ∷ [] =
    c.in_ok-push.ensures.items ∙ ap (λ (l : List (ℕ × Action)). l ++ (4, Put c.args.datum) ∷ []) c.new-actions.ensures.items in
    let actions : c.from_vec-2.result ≡ (4, Put c.args.datum) ∷ (7, Process) ∷ [] =
    c.from_vec-2.ensures ∙ c.in_ok-push-2.ensures.items ∙ ap (λ (l : List (ℕ × Action)). l ++ (7, Process) ∷ []) first in
    two_are_light c.from_vec.result c.from_vec-2.result c.args.datum two actions c.requires
