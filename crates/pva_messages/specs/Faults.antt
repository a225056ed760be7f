-- What the public readers answer.
use Rattle.std.specs.Prelude.{◌≡◌, ◌≤◌, ℕ, List, Result, Ok, Err}
use Rattle.pvd_desc.specs.Types.{Types}
use Rattle.pvd_codec.specs.Faults.{IsFaultOf}
use Rattle.pvd_codec.specs.Reading.{Read, State}
use Rattle.pvd_codec.specs.declared.fault.ValueFault.TheVariants.{NoMemory}
use Rattle.pva_messages.specs.declared.fault.MessageFault.{MessageFault}
use Rattle.pva_messages.specs.Requests.{Request, PutPart, unread, put, put_get}

-- What a call gave, and the types that are known after it, is what reading gives. A fault tells the command and the one
-- cause with its place in the payload, which has `end` bytes; the types known are then as before.
abbrev pub GivesMessage : {X Y : Type 0} → ℕ → ℕ → Types → Types → (X → Y) → Result X MessageFault → Read State Y
    → Type 0
GivesMessage command end before after view (Ok x) read = (rest : List ℕ) × (read ≡ Ok (view x, (rest, after)))
GivesMessage command end before after view (Err fault) read =
    (fault.command ≡ command) × IsFaultOf end fault.cause read × (after ≡ before)

-- a call answers this, unless memory ran out
abbrev pub AnswersMessage : {X Y : Type 0} → (X → Y) → Result X MessageFault → Y → Type 0
AnswersMessage view (Ok x) y = view x ≡ y
AnswersMessage view (Err fault) y = fault.cause ≡ NoMemory

-- the place of a part that was left unread lies in the payload
abbrev pub IsWithin : PutPart → ℕ → Type 0
IsWithin (unread place) end = place ≤ end
IsWithin part end = Unit {0}

abbrev pub PartWithin : Request → ℕ → Type 0
PartWithin (put sid req sub v part) end = IsWithin part end
PartWithin (put_get sid req sub v part) end = IsWithin part end
PartWithin m end = Unit {0}
