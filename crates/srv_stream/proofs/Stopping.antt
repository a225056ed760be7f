-- What ends a connection before its stream does: a fault of the stream.
use Rattle.std.proofs.Common.{◌≡◌, Bool, true, false, List, [], ◌∷◌, Option, None, Some, Result, Ok, Err, sym, ap}
use Rattle.std.proofs.lemmas.Option.{none-some}
use Rattle.pva_frames.specs.Messages.{Unfinished}
use Rattle.pva_frames.specs.declared.event.Whole.{Whole}
use Rattle.pva_frames.specs.declared.event.Event.{Event}
use Rattle.pva_frames.specs.declared.event.Event.TheVariants.{Message, Control}
use Rattle.pva_frames.specs.declared.fault.FrameFault.{FrameFault}
use Rattle.desk_api.specs.declared.history.SiteData.{SiteData}
use Rattle.srv_session.specs.State.{State}
use Rattle.srv_session.specs.Tasks.{Hearing, asks, unreadable, over_range, heard}
use Rattle.srv_stream.specs.Streams.{stop_at, stop_of, refused, Stands}
use Rattle.srv_stream.specs.declared.ended.Ended.{Ended}
use Rattle.srv_stream.specs.declared.ended.Ended.TheVariants as ends

abbrev pub is_stop : Ended → Bool
is_stop (ends.Bad fault place) = true
is_stop other = false

-- what an option has, or else this
abbrev pub ended_in : Ended → Option Ended → Ended
ended_in d None = d
ended_in d (Some ended) = ended

refusal_stops : (left : Result Unfinished FrameFault) (ended : Ended) → Some ended ≡ refused left → is_stop ended ≡ true
refusal_stops (Ok left) ended is = absurd (none-some ended (sym is))
refusal_stops (Err fault) ended is = ap (λ (o : Option Ended). is_stop (ended_in ended o)) is

hearing_stops : (m : Whole) (hearing : Hearing) (ended : Ended) → Some ended ≡ stop_at m hearing → is_stop ended ≡ true
hearing_stops m (asks task types) ended is = absurd (none-some ended (sym is))
hearing_stops m (unreadable fault) ended is = ap (λ (o : Option Ended). is_stop (ended_in ended o)) is
hearing_stops m over_range ended is = ap (λ (o : Option Ended). is_stop (ended_in ended o)) is

pub event_stops : (site : SiteData) (s : State) (e : Event) (ended : Ended) → Some ended ≡ stop_of site s e → is_stop ended ≡ true
event_stops site s (Message m) ended is = hearing_stops m (heard site s (Message m)) ended is
event_stops site s (Control command number) ended is = absurd (none-some ended (sym is))

pub trouble_stops : (site : SiteData) (s : State) (remaining : List Event) (left : Result Unfinished FrameFault) (ended : Ended) → Stands site s remaining left (Some ended) → is_stop ended ≡ true
trouble_stops site s [] left ended h = refusal_stops left ended h
trouble_stops site s (e ∷ more) left ended h = event_stops site s e ended h.0
