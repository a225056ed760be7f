-- Sessions are joined, and their links handed back.
use Rattle.std.specs.Prelude.{◌≡◌, ℕ, Bool, true, false, List, [], ◌∷◌, ◌++◌, Option}
use Rattle.histories.specs.History.{Begins, Every, IsPrefixOf}
use Rattle.journal_core.specs.Moments.{Moment}
use Rattle.pva_outside.specs.Doors.{Door, with_back}
use Rattle.pva_outside.specs.Wire.{Wire}
use Rattle.pva_wire.specs.declared.order.Order.{Order}
use Rattle.desk_shared.specs.Records.{Sight}
use Rattle.srv_stream.specs.declared.ended.Ended.{Ended}
use Rattle.srv_stream.specs.declared.ended.Ended.TheVariants as ends
use Rattle.srv_host.specs.Sessions.{Session, WasServed, logs_of, starts_of, written_of}

abbrev pub has_memory : Ended → Bool
has_memory ends.NoMemory = false
has_memory ended = true

abbrev pub HasMemory : Session → Type 0
HasMemory session = has_memory session.ended ≡ true

-- A link was handed back, where those before it were taken back, and was taken back itself.
abbrev pub GivesBack : Door → Door → Wire → Bool → Bool → Type 0
GivesBack old new link false all = (new ≡ old) × (all ≡ false)
GivesBack old new link true false = new ≡ old
GivesBack old new link true true = new ≡ with_back old (link.written ∷ [])

-- The first of the links were taken back, of each the bytes written.
pub record AreBack (old new : Door) (written : List (Option (List ℕ))) : Type 0 where
  pub taken : List (Option (List ℕ))
  pub first : IsPrefixOf taken written
  pub door : new ≡ with_back old taken

-- The sessions of these links were joined, in order, into a pass that had this in sight and then has that; and their
-- links were handed back. `fine` tells that there was memory throughout.
pub record Joins (old new : Sight) (door after : Door) (told : Option Moment) (order : Order) (starts : List Wire)
    (fine : Bool) : Type 0 where
  pub sessions : List Session
  pub served : Every (WasServed old.seen told order) sessions
  pub links : starts_of sessions ≡ starts
  pub number : new.number ≡ old.number
  pub log : new.log ≡ old.log
  pub logs : new.others ≡ old.others ++ logs_of sessions
  pub grows : Begins old.seen new.seen
  pub seen : Every (λ session. Begins session.seen new.seen) sessions
  pub back : AreBack door after (written_of sessions)
  pub whole : fine ≡ true → Every HasMemory sessions × (after ≡ with_back door (written_of sessions))
