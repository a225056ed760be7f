-- What was seen before a session began.
use Rattle.std.proofs.Common.{◌≡◌, ◌⊎◌, List, [], Option, None, Some, ap, subst}
use Rattle.std.specs.Prelude.{IsSomeAnd}
use Rattle.journal_core.specs.Moments.{Moment}
use Rattle.journal_core.specs.declared.entry.Entry.{Entry}
use Rattle.hall_locks.specs.declared.view.View.{View}
use Rattle.pva_outside.specs.Wire.{Wire}
use Rattle.pva_wire.specs.declared.order.Order.{Order}
use Rattle.desk_api.specs.Calls.{Adds}
use Rattle.desk_api.specs.History.{Item}
use Rattle.desk_api.specs.declared.history.Base.{Base}
use Rattle.desk_api.specs.declared.history.SiteData.{SiteData}
use Rattle.desk_api.specs.declared.mark.Mark.{Mark}
use Rattle.desk_api.specs.declared.mark.Seat.{Seat}
use Rattle.desk_api.proofs.Adding.{adds_more}
use Rattle.desk_shared.specs.Desks.{shown_of}
use Rattle.srv_stream.specs.Served.{Completes, HasCause, Served, Settled}
use Rattle.srv_stream.specs.declared.ended.Ended.{Ended}
use Rattle.srv_host.specs.Running.{IsServed, seat_in}
use Rattle.srv_host.specs.Sessions.{most_calls}

-- a seat that saw more of the history before it was served
served_before : (old mid new : Seat) (start end : Wire) (told : Option Moment) (order : Order) (ended : Ended) → Adds old mid [] → Served mid new start end told order most_calls ended
    → Served old new start end told order most_calls ended
served_before old mid new start end told order ended before s =
    let site : mid.seen.base.site ≡ old.seen.base.site = ap (λ (b : Base). b.site) before.grows.base in
    let both = subst (λ (x : SiteData). (a : HasCause x order start end most_calls s.read s.written s.log ended) × Completes x order start end most_calls s.read s.written s.log ended a) site (s.answer, s.complete) in
    record {
      log = s.log;
      read = s.read;
      written = s.written;
      adds = adds_more before s.adds;
      moments = s.moments;
      folds = s.folds;
      moves = s.moves;
      settled = subst (λ (x : SiteData). (s.read ≡ []) ⊎ Settled x order s.read s.written s.log) site s.settled;
      answer = both.0;
      complete = both.1;
    }

-- what a desk saw as it was made
pub shown_adds : {X : Type 0} (seat other : Seat) (pass : Option X) (f : X → Seat) → IsSomeAnd pass (λ (p : X). Adds seat (f p) []) → Adds seat (shown_of pass other f) []
shown_adds seat other None f is = absurd is
shown_adds seat other (Some p) f is = is

pub served_from : {H S : Type 0} (old mid : Seat) (new : View H Entry Base Mark Item S) (start closed : Wire) (told : Option Moment) (order : Order) (ended : Ended) → Adds old mid []
    → IsServed mid new start closed told order ended → IsServed old new start closed told order ended
served_from old mid new start closed told order ended before s = record {
  end = s.end;
  served = served_before old mid (seat_in new) start s.end told order ended before s.served;
  steady = s.steady;
  closes = s.closes;
  others_are = s.others_are;
}
