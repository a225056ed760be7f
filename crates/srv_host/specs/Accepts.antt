-- What a host asks of its listener, and what that answers.
use Rattle.std.specs.Prelude.{◌≡◌, ℕ, ◌<◌, ◌≤◌, ◌⊎◌, List, [], ◌∷◌, ◌++◌, length, Option, None, Some}
use Rattle.histories.specs.History.{Every}
use Rattle.pva_outside.specs.Counted.{counted}
use Rattle.pva_outside.specs.Doors.{AcceptEnded, AcceptFailed, AcceptIdled, Client, Door, GaveLink, IsLinkOf}
use Rattle.pva_outside.specs.Fresh.{IsFresh}
use Rattle.pva_outside.specs.Wire.{Wire}
use Rattle.srv_host.specs.declared.accepting.Stop.{Stop}
use Rattle.srv_host.specs.declared.accepting.Stop.TheVariants as stops

-- Each turn of a host begins with one accept, which gives a link or is idle.

-- the links that came, in order
abbrev pub links_in : List (Option Wire) → List Wire
links_in [] = []
links_in (None ∷ turns) = links_in turns
links_in (Some link ∷ turns) = link ∷ links_in turns

-- Each link is that of the next of these clients, and these are left.
abbrev pub AreLinksOf : List Client → List Wire → List Client → Type 0
AreLinksOf clients [] left = left ≡ clients
AreLinksOf [] (link ∷ links) left = ⊥
AreLinksOf (client ∷ clients) (link ∷ links) left = IsLinkOf client link × AreLinksOf clients links left

-- the same, where it is told who will come
abbrev pub Came : Option (List Client) → List Wire → Option (List Client) → Type 0
Came None links after = after ≡ None
Came (Some clients) links after = (left : List Client) × (after ≡ Some left) × AreLinksOf clients links left

-- As many accepts as these turns were answered, which gave their links, each fresh and in the order of the clients. No
-- count of faults rose, and neither a binding nor a link that was taken back moved.
pub record Accepted (old new : Door) (turns : List (Option Wire)) : Type 0 where
  pub accepts : new.accepts ≡ counted old.accepts (length turns)
  pub links : new.links ≡ counted old.links (length (links_in turns))
  pub came : Came old.ahead (links_in turns) new.ahead
  pub fresh : Every IsFresh (links_in turns)
  pub faults : new.faults ≡ old.faults
  pub bindings : new.bindings ≡ old.bindings
  pub back : new.back ≡ old.back

-- One accept that gave this link, or was idle.
abbrev pub IsAccepted : Door → Door → Option Wire → Type 0
IsAccepted old new None = AcceptIdled old new
IsAccepted old new (Some link) = GaveLink old new link

-- One accept behind which memory ran out, or that found none itself.
abbrev pub AcceptedInVain : Door → Door → Type 0
AcceptedInVain old new = (new ≡ old) ⊎ ((link : Wire) × GaveLink old new link)

-- One accept behind which no further one is made, for this reason.
abbrev pub EndsAccepting : Door → Door → Stop → Type 0
EndsAccepting old new stops.End = AcceptEnded old new
EndsAccepting old new stops.Turns = ⊥
EndsAccepting old new stops.Fault = AcceptFailed old new
EndsAccepting old new stops.NoMemory = AcceptedInVain old new

-- Behind these turns, of which there are fewer than `most`, one accept more was made, which was of this kind.
pub record StoppedBy (Kind : Door → Door → Type 0) (old new : Door) (most : ℕ) (turns : List (Option Wire))
    : Type 0 where
  pub door : Door
  pub accepted : Accepted old door turns
  pub last : Kind door new
  pub few : length turns < most

-- Why no further link was accepted: no client will come any more; as many turns as may be were made; the listener
-- failed; or memory ran out, in an accept or behind one.
abbrev pub Stopped : Door → Door → ℕ → List (Option Wire) → Stop → Type 0
Stopped old new most turns stops.End = StoppedBy AcceptEnded old new most turns
Stopped old new most turns stops.Turns = Accepted old new turns × (length turns ≡ most)
Stopped old new most turns stops.Fault = StoppedBy AcceptFailed old new most turns
Stopped old new most turns stops.NoMemory = Accepted old new turns × (length turns ≤ most)
