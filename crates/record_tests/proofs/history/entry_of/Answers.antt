use Rattle.std.proofs.Common.{arith, ◌≡◌, ℕ, List, [], ◌∷◌, ◌++◌, length, ◌∙◌, ap}
use Rattle.rec_kinds.specs.declared.datum.Action.{Action}
use Rattle.rec_kinds.specs.declared.state.RecState.{RecState}
use Rattle.record_tests.proofs.Singles.{weight_of_one, within_one}
use Rattle.record_tests.proofs.history.entry_of.Goals as goal

pub returns : goal.returns
returns c =
    let one : length c.from_vec.result ≡ 1 = omega (arith, ap length c.from_vec.ensures, c.in_ok-footprint.ensures.len, c.in_ok-footprint.footprint.ok.0) in
    let actions : c.from_vec-2.result ≡ (0, c.args.action) ∷ [] =
    c.from_vec-2.ensures ∙ c.in_ok-push.ensures.items ∙ ap (λ (l : List (ℕ × Action)). l ++ (0, c.args.action) ∷ []) c.new-actions.ensures.items in
    let writes : c.from_vec-4.result ≡ (0, c.args.state) ∷ [] =
    c.from_vec-4.ensures ∙ c.in_ok-push-2.ensures.items ∙ ap (λ (l : List (ℕ × RecState)). l ++ (0, c.args.state) ∷ []) c.new-writes.ensures.items in
    record {
      weight = weight_of_one c.from_vec.result c.from_vec-2.result c.args.action one actions c.requires;
      within = within_one c.from_vec-4.result c.args.state writes;
    }
