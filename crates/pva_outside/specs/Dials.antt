-- What is known of a dialer, and what its calls do to it.
-- A client connects to a server (pvAccess Protocol Specification, "Connection Management").
use Rattle.std.specs.Prelude.{◌≡◌, ℕ, Bool, true, false, List, Option, None, Some, Result, Ok, Err}
use Rattle.pva_outside.specs.Count.{Rose}
use Rattle.pva_outside.specs.Counted.{counted}
use Rattle.pva_outside.specs.Fresh.{IsFresh}
use Rattle.pva_outside.specs.Told.{and_one}
use Rattle.pva_outside.specs.Wire.{Wire}
use Rattle.pva_outside.specs.declared.dialer.DialStep.{DialStep}
use Rattle.pva_outside.specs.declared.dialer.DialStep.TheVariants as dials
use Rattle.pva_outside.specs.declared.no_memory.NoMemory.{NoMemory}
use Rattle.pva_outside.specs.declared.peer.Peer.{Peer}

-- One dial: where to, and whether it gave a link.
pub record Dial : Type 0 where
  pub to : Peer
  pub linked : Bool

-- What a link told when it was taken back: the bytes left and the bytes written.
pub record LinkBack : Type 0 where
  pub left : Option (List ℕ)
  pub written : Option (List ℕ)

-- How often the dialer failed; the faults, the idles and the ends of all links taken back. Where it tells them (None:
-- not told), in order: its dials, what the links that it gave were to bring, and the links taken back.
pub record DialerView : Type 0 where
  pub faults : ℕ
  pub link_faults : ℕ
  pub link_idles : ℕ
  pub link_ends : ℕ
  pub dials : Option (List Dial)
  pub inputs : Option (List (List ℕ))
  pub back : Option (List LinkBack)

-- What the link that was given is to bring is one input more, where these are told. The link then tells it as well.
abbrev pub IsInput : Option (List (List ℕ)) → Option (List (List ℕ)) → Option (List ℕ) → Type 0
IsInput None new left = new ≡ None
IsInput (Some inputs) new None = ⊥
IsInput (Some inputs) new (Some left) = new ≡ and_one (Some inputs) left

-- A fresh link was given.
pub record HasDialed (old new : DialerView) (link : Wire) (to : Peer) : Type 0 where
  pub fresh : IsFresh link
  pub input : IsInput old.inputs new.inputs link.left
  pub dials : new.dials ≡ and_one old.dials (record { to = to; linked = true })
  pub others : new ≡ record old { dials = new.dials; inputs = new.inputs }

-- No link was given, and the faults rose.
pub record DialFailed (old new : DialerView) (to : Peer) : Type 0 where
  pub faults : Rose old.faults new.faults
  pub dials : new.dials ≡ and_one old.dials (record { to = to; linked = false })
  pub others : new ≡ record old { faults = new.faults; dials = new.dials }

-- One call of `dial`, by its answer.
abbrev pub Dials : {L : Type 0} → (L → Wire) → DialerView → DialerView → DialStep L → Peer → Type 0
Dials wire old new (dials.Link link) to = HasDialed old new (wire link) to
Dials wire old new dials.Failed to = DialFailed old new to
Dials wire old new dials.NoMemory to = new ≡ old

-- the same dialer, with this link taken back and its counts added
abbrev pub with_link_back : DialerView → Wire → DialerView
with_link_back old link = record old {
  link_faults = counted old.link_faults link.faults;
  link_idles = counted old.link_idles link.idles;
  link_ends = counted old.link_ends link.ends;
  back = and_one old.back (record { left = link.left; written = link.written });
}

-- One call of `retire`, by its answer: this link was taken back, or nothing changed.
abbrev pub TakesBack : DialerView → DialerView → Wire → Result (Unit {0}) NoMemory → Type 0
TakesBack old new link (Ok _) = new ≡ with_link_back old link
TakesBack old new link (Err _) = new ≡ old
