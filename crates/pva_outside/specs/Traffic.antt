-- What is known of datagrams, and what their calls do.
-- Searches and beacons go as datagrams (pvAccess Protocol Specification, "Channel Discovery").
use Rattle.std.specs.Prelude.{◌≡◌, ℕ, ◌≤◌, List, length, take, Option}
use Rattle.pva_outside.specs.Bindings.{Bindings, Binds}
use Rattle.pva_outside.specs.Count.{Rose}
use Rattle.pva_outside.specs.Told.{and_one}
use Rattle.pva_outside.specs.declared.binding.BindStep.{BindStep}
use Rattle.pva_outside.specs.declared.datagrams.DatagramStep.{DatagramStep}
use Rattle.pva_outside.specs.declared.datagrams.DatagramStep.TheVariants as receives
use Rattle.pva_outside.specs.declared.datagrams.SendStep.{SendStep}
use Rattle.pva_outside.specs.declared.datagrams.SendStep.TheVariants as sends
use Rattle.pva_outside.specs.declared.peer.Peer.{Peer}

-- What one receive or one send came to.
pub data Traffic : Type 0 where
  -- these bytes came from this peer
  Got : List ℕ → Peer → Traffic
  -- nothing was received
  Nothing : Traffic
  -- these bytes were to go to this peer, whether they could be sent or not
  Tried : List ℕ → Peer → Traffic

-- How often they failed and were idle. Where they tell it (None: not told): where they are bound, and what was received
-- and sent, in order.
pub record DatagramsView : Type 0 where
  pub faults : ℕ
  pub idles : ℕ
  pub bindings : Option Bindings
  pub traffic : Option (List Traffic)

-- One call of `bind`, by its answer. All else is as it was.
pub record BindsDatagrams (old new : DatagramsView) (step : BindStep) (at : Peer) : Type 0 where
  pub binds : Binds old.bindings new.bindings old.faults new.faults step at
  pub others : new ≡ record old { faults = new.faults; bindings = new.bindings }

-- There was one receive or send more, which moves no binding.
pub record Passes (old new : DatagramsView) (one : Traffic) : Type 0 where
  pub traffic : new.traffic ≡ and_one old.traffic one
  pub bindings : new.bindings ≡ old.bindings

-- A datagram came, and is so many first bytes of the buffer.
pub record HasCome (old new : DatagramsView) (n : ℕ) (from : Peer) (buffer : List ℕ) : Type 0 where
  pub fits : n ≤ length buffer
  pub got : Passes old new (Got (take n buffer) from)
  pub faults : new.faults ≡ old.faults
  pub idles : new.idles ≡ old.idles

-- Nothing came, and the idles rose.
pub record NothingCame (old new : DatagramsView) : Type 0 where
  pub nothing : Passes old new Nothing
  pub idles : Rose old.idles new.idles
  pub faults : new.faults ≡ old.faults

-- Receiving failed, and the faults rose.
pub record ReceiveFailed (old new : DatagramsView) : Type 0 where
  pub nothing : Passes old new Nothing
  pub faults : Rose old.faults new.faults
  pub idles : new.idles ≡ old.idles

-- One call of `receive`, by its answer and the buffer after it.
abbrev pub Receives : DatagramsView → DatagramsView → DatagramStep → List ℕ → Type 0
Receives old new (receives.Got n from) buffer = HasCome old new n from buffer
Receives old new receives.Idle buffer = NothingCame old new
Receives old new receives.Failed buffer = ReceiveFailed old new
Receives old new receives.NoMemory buffer = new ≡ old

-- A datagram was handed on.
pub record WasSent (old new : DatagramsView) (bytes : List ℕ) (to : Peer) : Type 0 where
  pub tried : Passes old new (Tried bytes to)
  pub faults : new.faults ≡ old.faults
  pub idles : new.idles ≡ old.idles

-- A datagram couldn't be sent, and the faults rose.
pub record SendFailed (old new : DatagramsView) (bytes : List ℕ) (to : Peer) : Type 0 where
  pub tried : Passes old new (Tried bytes to)
  pub faults : Rose old.faults new.faults
  pub idles : new.idles ≡ old.idles

-- One call of `send`, by its answer.
abbrev pub Sends : DatagramsView → DatagramsView → SendStep → List ℕ → Peer → Type 0
Sends old new sends.Sent bytes to = WasSent old new bytes to
Sends old new sends.Failed bytes to = SendFailed old new bytes to
Sends old new sends.NoMemory bytes to = new ≡ old
