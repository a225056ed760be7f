-- One state and one port are exchanged.
use Rattle.std.proofs.Common.{◌≡◌, ℕ, zero, suc, Bool, true, List, [], ◌∷◌, option_map, set, Option, Some, refl, sym, ◌∙◌, ap}
use Rattle.std.specs.List.{slice_get}
use Rattle.std.specs.Prelude.{is_some}
use Rattle.std.proofs.lemmas.Option.{none-some, slice_get-map}
use Rattle.rec_kinds.specs.declared.state.RecState.{RecState}
use Rattle.desk_core.specs.Ports.{ports_there}
use Rattle.desk_shared.specs.Exchanges.{IsExchanged, IsPortExchanged}
use Rattle.desk_shared.specs.Hands.{places_of, states_of}
use Rattle.desk_shared.specs.declared.lent.LentPort.{LentPort}
use Rattle.desk_shared.specs.declared.records.RecCell.{RecCell}
use Rattle.desk_shared.proofs.Listed.{some_same}

-- where there was a port, there is one
pub port_for_port : {X : Type 0} (ports : List (Option X)) (rec : ℕ) (new : X) (o : Option X) → slice_get ports rec ≡ Some o → is_some o ≡ true → ports_there (set ports rec (Some new)) ≡ ports_there ports
port_for_port [] rec new o there is = absurd (none-some o there)
port_for_port (p ∷ ports) zero new o there is = ap (λ (b : Bool). b ∷ ports_there ports) (sym (ap is_some (some_same p o there) ∙ is))
port_for_port (p ∷ ports) (suc rec) new o there is = ap (λ (l : List Bool). is_some p ∷ l) (port_for_port ports rec new o there is)

states_set : {P : Type 0} (cells : List (RecCell P)) (n : ℕ) (cell : RecCell P) → states_of (set cells n cell) ≡ set (states_of cells) n cell.state
states_set [] n cell = refl
states_set (c ∷ cells) zero cell = refl
states_set (c ∷ cells) (suc n) cell = ap (λ (l : List RecState). c.state ∷ l) (states_set cells n cell)

places_set : {P : Type 0} (cells : List (RecCell P)) (n : ℕ) (cell : RecCell P) → places_of (set cells n cell) ≡ set (places_of cells) n cell.port
places_set [] n cell = refl
places_set (c ∷ cells) zero cell = refl
places_set (c ∷ cells) (suc n) cell = ap (λ (l : List (LentPort _)). c.port ∷ l) (places_set cells n cell)

pub port_exchanged : {P : Type 0} (hand : List (RecCell P)) (at rec : ℕ) (ports after : List (Option (LentPort P))) (was now : RecCell P) → slice_get hand at ≡ Some was
    → ((place : LentPort P) → slice_get ports rec ≡ Some (Some place) → now.port ≡ place) → ((place : LentPort P) → slice_get ports rec ≡ Some (Some place) → after ≡ set ports rec (Some was.port))
    → IsPortExchanged at rec (places_of hand) (places_of (set hand at now)) ports after
port_exchanged hand at rec ports after was now here taken gives mine theirs mine_is there =
    let found = slice_get-map (λ (c : RecCell _). c.port) hand at ∙ ap (option_map (λ (c : RecCell _). c.port)) here in
    let same : was.port ≡ mine = some_same was.port mine (sym found ∙ mine_is) in
    (places_set hand at now ∙ ap (set (places_of hand) at) (taken theirs there), gives theirs there ∙ ap (λ (x : LentPort _). set ports rec (Some x)) same)

pub one_exchanged : {P : Type 0} (hand : List (RecCell P)) (at rec : ℕ) (states : List RecState) (was now : RecCell P) (theirs given : RecState) → slice_get hand at ≡ Some was → slice_get states rec ≡ Some theirs → now.state ≡ theirs → given ≡ was.state
    → IsExchanged at rec (states_of hand) (states_of (set hand at now)) states (set states rec given)
one_exchanged hand at rec states was now theirs given here there taken gives = record {
  mine = was.state;
  theirs = theirs;
  mine_is = slice_get-map (λ (c : RecCell _). c.state) hand at ∙ ap (option_map (λ (c : RecCell _). c.state)) here;
  theirs_is = there;
  hand_is = states_set hand at now ∙ ap (set (states_of hand) at) taken;
  states_are = ap (set states rec) gives;
}
