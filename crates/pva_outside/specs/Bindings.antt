-- Where a listener, or a socket for datagrams, is bound.
use Rattle.std.specs.Prelude.{◌≡◌, ◌≢◌, ℕ, List, [], ◌∷◌, ◌++◌, Option, Some, option_map}
use Rattle.pva_outside.specs.Count.{Rose}
use Rattle.pva_outside.specs.declared.binding.BindStep.{BindStep}
use Rattle.pva_outside.specs.declared.binding.BindStep.TheVariants.{Bound, Failed, NoMemory}
use Rattle.pva_outside.specs.declared.peer.Peer.{Peer}

-- The addresses that were asked for, in order, and the one that was last bound.
pub record Bindings : Type 0 where
  pub asked : List Peer
  pub bound : Option Peer

-- this address was asked for, where that is told
abbrev pub and_asked : Option Bindings → Peer → Option Bindings
and_asked told at = option_map {T = Bindings} (λ b. record b { asked = b.asked ++ at ∷ [] }) told

-- and it is bound
abbrev pub and_bound : Option Bindings → Peer → Option Bindings
and_bound told at = option_map {T = Bindings} (λ b. record { asked = b.asked ++ at ∷ []; bound = Some at }) told

-- The port is the one that was asked for. At port 0 it may be any.
abbrev pub HasPort : Peer → ℕ → Type 0
HasPort at port = at.port ≢ 0 → port ≡ at.port

-- One call of `bind`, by its answer: what it does to the bindings and to the count of faults.
abbrev pub Binds : Option Bindings → Option Bindings → ℕ → ℕ → BindStep → Peer → Type 0
Binds old new faults faults' (Bound port) at = HasPort at port × (new ≡ and_bound old at) × (faults' ≡ faults)
Binds old new faults faults' Failed at = (new ≡ and_asked old at) × Rose faults faults'
Binds old new faults faults' NoMemory at = (new ≡ old) × (faults' ≡ faults)
