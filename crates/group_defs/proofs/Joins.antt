-- A group that is joined where it stands.
use Rattle.std.proofs.Common.{◌≡◌, ℕ, List, Ok, refl, sym, ap, ◌∙◌}
use Rattle.json.specs.Json.{Json, Members}
use Rattle.group_defs.specs.Told.{Told, Fails, ◌>>=◌}
use Rattle.group_defs.specs.Order.{Place, in_order}
use Rattle.group_defs.specs.Joined.{Joined, blank}
use Rattle.group_defs.specs.Joining.{known, with_group, join_keys, join_group}
use Rattle.group_defs.specs.Statements.{Groups}
use Rattle.group_defs.specs.declared.fault.Stop.{Stop}
use Rattle.group_defs.proofs.Drafts.{put_again}
use Rattle.group_defs.proofs.Passing.{fails_on}

module _ (number : ℕ) (groups : Groups) (name : List ℕ) (ms : Members) (first : Joined) (keys : List (Place × Json)) (is_known : first ≡ known groups name) (are_keys : keys ≡ in_order ms) where
  same_keys : join_keys number first keys ≡ join_keys number (known groups name) (in_order ms)
  same_keys = ap (λ (g : Joined). join_keys number g keys) is_known ∙ ap (λ (es : List (Place × Json)). join_keys number (known groups name) es) are_keys

  pub in_place : (left new : Groups) (last : Joined) → join_keys number first keys ≡ Ok last → left ≡ with_group groups name blank → new ≡ with_group left name last → join_group number groups (name, ms) ≡ Ok new
  unfolding join_group
  in_place left new last joined was put =
      ap (λ (r : Told Joined). r >>= λ g. Ok (with_group groups name g)) (sym same_keys ∙ joined)
      ∙ ap (λ (gs : Groups). Ok gs) (sym (put ∙ ap (λ (gs : Groups). with_group gs name last) was ∙ put_again groups name blank last))

  pub in_place_fails : (stop : Stop) → Fails stop (join_keys number first keys) → Fails stop (join_group number groups (name, ms))
  unfolding join_group
  in_place_fails stop h =
      fails_on Joined Groups (λ r. r >>= λ g. Ok (with_group groups name g)) stop (join_keys number first keys) _ (λ e. refl)
      (ap (λ (r : Told Joined). r >>= λ g. Ok (with_group groups name g)) same_keys) h
