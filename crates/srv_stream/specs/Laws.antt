-- What holds of all dialogues and answers.
use Rattle.std.specs.Prelude.{◌≡◌, ◌⊎◌, ℕ, ◌<◌, List, Option, Some, ⊤}
use Rattle.pva_outside.specs.Wire.{Wire}
use Rattle.pva_wire.specs.declared.order.Order.{Order}
use Rattle.pva_frames.specs.declared.event.Event.{Event}
use Rattle.histories.specs.History.{IsPrefixOf}
use Rattle.desk_api.specs.History.{History}
use Rattle.desk_api.specs.Marks.{AllHold}
use Rattle.desk_api.specs.declared.history.SiteData.{SiteData}
use Rattle.desk_api.specs.declared.mark.Mark.{Mark}
use Rattle.srv_session.specs.Steps.{turns_of}
use Rattle.srv_stream.specs.Served.{Dialogue, Whole, IsProperPrefixOf, HasCause, turns_in}
use Rattle.srv_stream.specs.declared.ended.Ended.{Ended}
use Rattle.srv_stream.specs.declared.ended.Ended.TheVariants as ends

-- These marks are true in a history, behind others of their seat.
pub record AreTrue (marks : List Mark) : Type 0 where
  pub seen : History
  pub seat : ℕ
  pub before : List Mark
  pub hold : AllHold seat seen before marks

-- what a dialogue does in turn: it hears an event, or it pops a monitor
abbrev pub turns_by : (site : SiteData) (order : Order) (events : List Event) (marks : List Mark) (out : List ℕ)
    → Dialogue site order events marks out → List (Option Event)
turns_by site order events marks out d = turns_of d.talk.steps

-- On one site, in one byte order, dialogues of the same turns and the same true marks have one output.
abbrev pub OneOutput : Type 0
OneOutput = (site : SiteData) (order : Order) (events : List Event) (marks : List Mark) (a b : List ℕ)
    → AreTrue marks → (d : Dialogue site order events marks a) (e : Dialogue site order events marks b)
    → turns_by site order events marks a d ≡ turns_by site order events marks b e → a ≡ b

-- the answer tells the end, memory ran out, or not all was written
abbrev pub TellsEnd : (site : SiteData) (order : Order) (start end : Wire) (turns : ℕ) (read written : List ℕ)
    (log : List Mark) (result : Ended) → HasCause site order start end turns read written log result → Type 0
TellsEnd site order start end turns read written log ends.Closed a = ⊤
TellsEnd site order start end turns read written log (ends.Truncated place) a = ⊤
TellsEnd site order start end turns read written log (ends.Bad fault place) a = ⊥
TellsEnd site order start end turns read written log ends.NoMemory a = ⊤
TellsEnd site order start end turns read written log ends.ReadFault a = ⊥
TellsEnd site order start end turns read written log ends.WriteFault a = IsProperPrefixOf written a.out
TellsEnd site order start end turns read written log (ends.Spent calls) a = IsProperPrefixOf written a.out

-- Where the end of the stream was met, an answer that doesn't tell it leaves something unwritten.
abbrev pub AnEndIsTold : Type 0
AnEndIsTold = (site : SiteData) (order : Order) (start end : Wire) (turns : ℕ) (read written : List ℕ)
    (log : List Mark) (result : Ended) (a : HasCause site order start end turns read written log result)
    → start.ends < end.ends → TellsEnd site order start end turns read written log result a

-- the answer is this trouble, memory ran out, or not all was written
abbrev pub TellsTrouble : (site : SiteData) (order : Order) (start end : Wire) (turns : ℕ) (read written : List ℕ)
    (log : List Mark) (trouble result : Ended) → HasCause site order start end turns read written log result → Type 0
TellsTrouble site order start end turns read written log trouble ends.Closed a = ⊥
TellsTrouble site order start end turns read written log trouble (ends.Truncated place) a = ⊥
TellsTrouble site order start end turns read written log trouble (ends.Bad fault place) a =
    ends.Bad fault place ≡ trouble
TellsTrouble site order start end turns read written log trouble ends.NoMemory a = ⊤
TellsTrouble site order start end turns read written log trouble ends.ReadFault a = ⊥
TellsTrouble site order start end turns read written log trouble ends.WriteFault a = IsProperPrefixOf written a.out
TellsTrouble site order start end turns read written log trouble (ends.Spent calls) a = IsProperPrefixOf written a.out

-- One of them takes the turns of the other, and maybe more.
abbrev pub GoTogether : List (Option Event) → List (Option Event) → Type 0
GoTogether a b = IsPrefixOf a b ⊎ IsPrefixOf b a

-- Where what was read has a trouble, a header that is refused or an event that has no answer, behind a dialogue of the
-- same turns and marks as far as it goes, an answer that isn't that trouble leaves something unwritten.
abbrev pub ATroubleIsTold : Type 0
ATroubleIsTold = (site : SiteData) (order : Order) (start end : Wire) (turns : ℕ) (read written : List ℕ)
    (log : List Mark) (result : Ended) (a : HasCause site order start end turns read written log result)
    (out : List ℕ) (trouble : Ended) → AreTrue log → (w : Whole site order read log out (Some trouble))
    → GoTogether (turns_of w.dialogue.talk.steps) (turns_in site order start end turns read written log result a)
    → TellsTrouble site order start end turns read written log trouble result a
