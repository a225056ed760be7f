-- What a host comes to, of its accepts, its sessions and its last look.
use Rattle.std.proofs.Common.{◌≡◌, ◌⊎◌, inl, inr, ℕ, suc, Bool, true, false, List, [], ◌∷◌, ◌++◌, length, map, Option, refl, sym, ap, subst, ◌∙◌, append-nil}
use Rattle.histories.specs.History.{Begins, Every, deeds_by}
use Rattle.histories.proofs.Stories.{begins_trans}
use Rattle.hall_core.specs.Meanings.{AreDistinct}
use Rattle.hall_locks.specs.Hall.{numbers_of}
use Rattle.journal_core.specs.Moments.{Moment}
use Rattle.pva_outside.specs.Doors.{Door}
use Rattle.pva_outside.specs.Traffic.{DatagramsView}
use Rattle.pva_outside.specs.Wire.{Wire}
use Rattle.pva_outside.specs.declared.peer.Peer.{Peer}
use Rattle.pva_search.specs.declared.setup.Setup.{Setup}
use Rattle.pva_wire.specs.declared.order.Order.{Order}
use Rattle.desk_api.proofs.Adding.{all_still_hold}
use Rattle.desk_api.specs.Calls.{Adds}
use Rattle.desk_api.specs.History.{History}
use Rattle.desk_api.specs.Marks.{AllHold, deeds_of}
use Rattle.desk_api.specs.declared.history.SiteData.{SiteData}
use Rattle.desk_api.specs.declared.mark.Mark.{Mark}
use Rattle.desk_shared.specs.Records.{Sight, seat_of}
use Rattle.srv_host.specs.Hosting.{AreAllBegun, AreBegun, AreHosted, HasAccepted, Hosts, IsDone, IsInPart, IsWhole, StoppedSo, answer_of, served_of}
use Rattle.srv_host.specs.Joining.{Joins}
use Rattle.srv_host.specs.Sessions.{Session, WasServed, logs_of, starts_of}
use Rattle.srv_host.specs.declared.accepting.Stop.{Stop}
use Rattle.srv_host.specs.declared.accepting.Stop.TheVariants as stops
use Rattle.srv_host.specs.declared.hosted.Hosted.{Hosted}
use Rattle.srv_host.proofs.Joined.{all_begin_on}

-- the marks of a session are true in every history that goes on from what it has seen
true_log : (from : History) (told : Option Moment) (order : Order) (s : Session) (h : History) → WasServed from told order s → Begins s.seen h → AllHold s.number h [] s.log
true_log from told order s h was begins =
    let same : s.log ≡ was.served.log = was.served.adds.log in
    all_still_hold s.number begins [] s.log (subst (λ (l : List Mark). AllHold s.number s.seen [] l) (sym same) was.served.adds.true_)

true_logs : (from : History) (told : Option Moment) (order : Order) (ss : List Session) (h : History) → Every (WasServed from told order) ss → Every (λ (s : Session). Begins s.seen h) ss
    → Every (λ (log : ℕ × List Mark). AllHold log.0 h [] log.1) (logs_of ss)
true_logs from told order [] h was begins = tt
true_logs from told order (s ∷ ss) h was begins = (true_log from told order s h was.0 begins.0, true_logs from told order ss h was.1 begins.1)

pub are_hosted : (old joined new : Sight) (door after : Door) (told : Option Moment) (order : Order) (starts : List Wire) (fine : Bool) (j : Joins old joined door after told order starts fine)
    → Adds (seat_of joined) (seat_of new) [] → new.others ≡ joined.others → AreDistinct (new.number ∷ numbers_of new.others)
    → Every (λ (log : ℕ × List Mark). deeds_by log.0 new.seen.deeds ≡ deeds_of log.1) ((new.number, new.log) ∷ new.others)
    → AreHosted old new told order j.sessions
are_hosted old joined new door after told order starts fine j adds others distinct did =
    let seen = all_begin_on j.sessions joined.seen new.seen adds.grows j.seen in record {
      number = adds.number ∙ j.number;
      log = adds.log ∙ append-nil joined.log ∙ j.log;
      logs = others ∙ j.logs;
      distinct = distinct;
      legal = adds.legal;
      grows = begins_trans j.grows adds.grows;
      seen = seen;
      served = j.served;
      true_ = true_logs old.seen told order j.sessions new.seen j.served seen;
      did = did;
    }

module _ (site : SiteData) (setup : Setup) (beacon_to : Option Peer) (heard then_ : DatagramsView) where
  module _ (old joined : Sight) (door after : Door) (told : Option Moment) (starts : List Wire) (turns : List (Option Wire)) where
    whole : (j : Joins old joined door after told setup.order starts true) → AreAllBegun site setup beacon_to heard then_ turns starts → IsWhole site setup beacon_to door after heard then_ turns j.sessions
    whole j b = let w = j.whole refl in record { links = j.links ∙ b.links_are; memory = w.0; back = w.1; datagrams = b.datagrams }

    in_part : (fine : Bool) (stop : Stop) (j : Joins old joined door after told setup.order starts fine) → AreBegun site setup beacon_to heard then_ turns starts stop
        → IsInPart site setup beacon_to door after heard then_ turns j.sessions stop
    in_part fine stop j b = record { begun = subst (λ (ws : List Wire). AreBegun site setup beacon_to heard then_ turns ws stop) (sym j.links) b; back = j.back }

    done : (fine : Bool) (stop : Stop) (n : ℕ) (j : Joins old joined door after told setup.order starts fine) → AreBegun site setup beacon_to heard then_ turns starts stop
        → StoppedSo (answer_of stop fine n) stop × (served_of (answer_of stop fine n) ≡ n) × IsDone (answer_of stop fine n) site setup beacon_to door after heard then_ turns j.sessions stop
    done true stops.End n j b = (inl refl, refl, whole j b)
    done true stops.Turns n j b = (inr refl, refl, whole j b)
    done true stops.Fault n j b = (refl, refl, whole j b)
    done true stops.NoMemory n j b = (tt, refl, in_part true stops.NoMemory j b)
    done false stops.End n j b = (tt, refl, in_part false stops.End j b)
    done false stops.Turns n j b = (tt, refl, in_part false stops.Turns j b)
    done false stops.Fault n j b = (tt, refl, in_part false stops.Fault j b)
    done false stops.NoMemory n j b = (tt, refl, in_part false stops.NoMemory j b)

pub length_map : {A B : Type 0} (f : A → B) (xs : List A) → length (map f xs) ≡ length xs
length_map f [] = refl
length_map f (x ∷ xs) = ap suc (length_map f xs)

pub hosts : (site : SiteData) (setup : Setup) (beacon_to : Option Peer) (told : Option Moment) (most : ℕ) (old joined new : Sight) (before door after : Door) (heard then_ : DatagramsView) (starts : List Wire) (stop : Stop)
    (fine : Bool) (n : ℕ) (result : Hosted)
    → HasAccepted site setup beacon_to most before door heard then_ starts stop → Joins old joined door after told setup.order starts fine
    → Adds (seat_of joined) (seat_of new) [] → new.others ≡ joined.others → AreDistinct (new.number ∷ numbers_of new.others)
    → Every (λ (log : ℕ × List Mark). deeds_by log.0 new.seen.deeds ≡ deeds_of log.1) ((new.number, new.log) ∷ new.others)
    → n ≡ length starts → result ≡ answer_of stop fine n → Hosts site setup beacon_to told most old new before after heard then_ result
hosts site setup beacon_to told most old joined new before door after heard then_ starts stop fine n result a j adds others distinct did many is =
    let d = done site setup beacon_to heard then_ old joined door after told starts a.turns fine stop n j a.begun in
    let long : length starts ≡ length j.sessions = ap (λ (ws : List Wire). length ws) (sym j.links) ∙ length_map (λ (s : Session). s.start) j.sessions in record {
      turns = a.turns;
      sessions = j.sessions;
      mid = door;
      stop = stop;
      stopped = a.stopped;
      hosted = are_hosted old joined new door after told setup.order starts fine j adds others distinct did;
      served = ap served_of is ∙ (d.1 ∙ (many ∙ long));
      stop_is = subst (λ (r : Hosted). StoppedSo r stop) (sym is) d.0;
      done = subst (λ (r : Hosted). IsDone r site setup beacon_to door after heard then_ a.turns j.sessions stop) (sym is) d.2;
    }
