-- What is known of a listener, and what its calls do to it.
-- Clients connect to a listener, one after another (pvAccess Protocol Specification, "Connection Management").
use Rattle.std.specs.Prelude.{◌≡◌, ℕ, Bool, true, false, List, [], ◌∷◌, ◌++◌, Option, None, Some, option_map, IfSome, Result, Ok, Err}
use Rattle.pva_outside.specs.Bindings.{Bindings, Binds}
use Rattle.pva_outside.specs.Count.{Rose, RoseByOne}
use Rattle.pva_outside.specs.Fresh.{IsFresh}
use Rattle.pva_outside.specs.Wire.{Wire}
use Rattle.pva_outside.specs.declared.binding.BindStep.{BindStep}
use Rattle.pva_outside.specs.declared.listener.AcceptStep.{AcceptStep}
use Rattle.pva_outside.specs.declared.listener.AcceptStep.TheVariants as accepts
use Rattle.pva_outside.specs.declared.no_memory.NoMemory.{NoMemory}
use Rattle.pva_outside.specs.declared.peer.Peer.{Peer}

-- A client that will come: what it sends, and whether its link is steady.
pub record Client : Type 0 where
  pub input : List ℕ
  pub steady : Bool

-- How often the listener failed and was idle, the accepts that it answered and the links that it gave, and whether its
-- last accept was the end. Where it tells them (None: not told): where it is bound; the clients that will come, in
-- order; and of each link taken back, in order, the bytes that this link tells to be written.
pub record Door : Type 0 where
  pub faults : ℕ
  pub idles : ℕ
  pub accepts : ℕ
  pub links : ℕ
  pub at_end : Bool
  pub bindings : Option Bindings
  pub ahead : Option (List Client)
  pub back : Option (List (Option (List ℕ)))

-- One call of `bind`, by its answer. All else is as it was.
pub record BindsDoor (old new : Door) (step : BindStep) (at : Peer) : Type 0 where
  pub binds : Binds old.bindings new.bindings old.faults new.faults step at
  pub others : new ≡ record old { faults = new.faults; bindings = new.bindings }

-- One accept more was answered. It moves neither a binding nor a link taken back.
pub record Asks (old new : Door) : Type 0 where
  pub accepts : RoseByOne old.accepts new.accepts
  pub bindings : new.bindings ≡ old.bindings
  pub back : new.back ≡ old.back

-- The link is that of this client.
pub record IsLinkOf (client : Client) (link : Wire) : Type 0 where
  pub input : link.left ≡ Some client.input
  pub steady : link.steady ≡ client.steady

-- The link is that of the first client who was ahead, where these are told.
abbrev pub IsNext : Option (List Client) → Option (List Client) → Wire → Type 0
IsNext None after link = after ≡ None
IsNext (Some []) after link = ⊥
IsNext (Some (client ∷ clients)) after link = (after ≡ Some clients) × IsLinkOf client link

-- A fresh link came, of the client who was next.
pub record GaveLink (old new : Door) (link : Wire) : Type 0 where
  pub asks : Asks old new
  pub fresh : IsFresh link
  pub next : IsNext old.ahead new.ahead link
  pub links : RoseByOne old.links new.links
  pub faults : new.faults ≡ old.faults
  pub idles : new.idles ≡ old.idles
  pub at_end : new.at_end ≡ false

-- No link came, and who was ahead still is.
pub record GaveNone (old new : Door) : Type 0 where
  pub asks : Asks old new
  pub links : new.links ≡ old.links
  pub ahead : new.ahead ≡ old.ahead

-- No client will come any more, which a listener that tells them says only where none is left.
pub record AcceptEnded (old new : Door) : Type 0 where
  pub none : GaveNone old new
  pub all : IfSome old.ahead (λ clients. clients ≡ [])
  pub faults : new.faults ≡ old.faults
  pub idles : new.idles ≡ old.idles
  pub at_end : new.at_end ≡ true

-- Nobody came in this call, and the idles rose.
pub record AcceptIdled (old new : Door) : Type 0 where
  pub none : GaveNone old new
  pub idles : Rose old.idles new.idles
  pub faults : new.faults ≡ old.faults
  pub at_end : new.at_end ≡ false

-- The listener failed, and the faults rose.
pub record AcceptFailed (old new : Door) : Type 0 where
  pub none : GaveNone old new
  pub faults : Rose old.faults new.faults
  pub idles : new.idles ≡ old.idles
  pub at_end : new.at_end ≡ false

-- One call of `accept`, by its answer.
abbrev pub Accepts : {L : Type 0} → (L → Wire) → Door → Door → AcceptStep L → Type 0
Accepts wire old new (accepts.Link link) = GaveLink old new (wire link)
Accepts wire old new accepts.End = AcceptEnded old new
Accepts wire old new accepts.Idle = AcceptIdled old new
Accepts wire old new accepts.Failed = AcceptFailed old new
Accepts wire old new accepts.NoMemory = new ≡ old

-- the same listener, with more links taken back: of each the bytes written
abbrev pub with_back : Door → List (Option (List ℕ)) → Door
with_back door more = record door { back = option_map (λ taken. taken ++ more) door.back }

-- One call of `retire`, by its answer: this link was taken back, or nothing changed.
abbrev pub Retires : Door → Door → Wire → Result (Unit {0}) NoMemory → Type 0
Retires old new link (Ok _) = new ≡ with_back old (link.written ∷ [])
Retires old new link (Err _) = new ≡ old
