-- What a put-get came to, on a desk that nobody shares.
use Rattle.std.specs.Prelude.{◌≡◌, ℕ, true, List, Result, Ok, Err}
use Rattle.pvd_value.specs.Fits.{fits_of}
use Rattle.pvd_value.specs.View.{view}
use Rattle.pvd_value.specs.declared.value.PvValue.{PvValue}
use Rattle.rec_kinds.specs.declared.datum.Action.{Action}
use Rattle.rec_kinds.specs.declared.state.RecState.{RecState}
use Rattle.journal_core.specs.Moments.{Moment}
use Rattle.desk_api.specs.Sites.{footprint_of}
use Rattle.desk_api.specs.Types.{type_of}
use Rattle.desk_api.specs.Views.{laid, value_of}
use Rattle.desk_api.specs.declared.channel.Channel.{Channel}
use Rattle.desk_api.specs.declared.history.SiteData.{SiteData}
use Rattle.desk_api.specs.declared.mark.Seat.{Seat}
use Rattle.desk_api.specs.declared.put.Done.{Done}
use Rattle.desk_api.specs.declared.put.PutAnswer.{PutAnswer}
use Rattle.desk_api.specs.declared.put.PutAnswer.TheVariants as answers
use Rattle.desk_core.specs.Begun.{IsAddedNow, IsFullNow, IsStoppedNow}
use Rattle.desk_core.specs.Ports.{Ports}

-- what a put-get's answer tells of its put
abbrev pub done_of : Result (Done × PvValue) PutAnswer → Result Done PutAnswer
done_of (Ok (done, value)) = Ok done
done_of (Err answer) = Err answer

-- One entry was added, and the value is what the channel shows of the records that were looked at behind it.
pub record IsShownNow (site : SiteData) (channel : Channel) (moment : Moment) (actions : List (ℕ × Action)) (s t : Seat)
    (old new : Ports) (done : Done) (value : PvValue) : Type 0 where
  pub found : List RecState
  pub added : IsAddedNow site moment actions (footprint_of site channel) found s t old new done.first
  pub count_is : done.count ≡ 1
  pub value_is : view value ≡ value_of site channel (laid site.opening (footprint_of site channel) found)
  pub fits : fits_of 16 (view value) (type_of site channel) ≡ true

-- What a put-get with these actions, which is one entry, came to.
abbrev pub IsPutGotNow : SiteData → Channel → Moment → List (ℕ × Action) → Seat → Seat → Ports → Ports
    → Result (Done × PvValue) PutAnswer → Type 0
IsPutGotNow site channel moment actions s t old new (Ok (done, value)) =
    IsShownNow site channel moment actions s t old new done value
IsPutGotNow site channel moment actions s t old new (Err (answers.Refused refusal)) = ⊥
IsPutGotNow site channel moment actions s t old new (Err (answers.JournalFull kept weight limit done)) =
    IsFullNow site moment actions (footprint_of site channel) s t old new kept weight limit × (done ≡ 0)
IsPutGotNow site channel moment actions s t old new (Err (answers.NoMemory done)) =
    IsStoppedNow site moment actions s t old new × (done ≡ 0)
