-- A site that is served.
use Rattle.std.proofs.Common.{◌≡◌, ℕ, ℤ, Option, Err, inl, inr, refl, ◌∙◌, ap, subst, arith}
use Rattle.pva_outside.specs.Makers.{MakerView}
use Rattle.pva_outside.specs.Wire.{Wire}
use Rattle.pva_wire.specs.declared.order.Order.{Order}
use Rattle.histories.specs.History.{deeds_by, tagged}
use Rattle.desk_api.specs.Calls.{first_seat}
use Rattle.desk_api.specs.declared.history.Base.{Base}
use Rattle.desk_api.specs.declared.history.SiteData.{SiteData}
use Rattle.desk_api.specs.declared.mark.Seat.{Seat}
use Rattle.srv_stream.specs.Served.{Served}
use Rattle.srv_stream.specs.Streams.{moment_told}
use Rattle.srv_stream.specs.declared.ended.Ended.{Ended}
use Rattle.srv_stream.specs.declared.ended.Ended.TheVariants as ends
use Rattle.srv_stream.proofs.Ending.{never_served}
use Rattle.srv_stream.specs.Faults.{EndsAtFirstFault, FirstFault}
use Rattle.prog_source.specs.Opening.{AllMade, PortsAre}
use Rattle.prog_server.specs.Running.{Serves, SiteServes, status_of, status_of_stop, status_of_unmade}
use Rattle.prog_server.specs.Words.{Asked}
use Rattle.prog_source.specs.declared.loading.SourceStop.{SourceStop}
use Rattle.prog_source.specs.declared.loading.SourceStop.TheVariants as stops
use Rattle.prog_source.specs.declared.ports.PortsStop.{PortsStop}
use Rattle.prog_source.specs.declared.ports.PortsStop.TheVariants as unmade

served_first : (base : Base) (order : Order) (turns : ℕ) (start end : Wire) (told : Option (ℤ × ℕ)) (ended : Ended) (s : Seat)
    → Served (first_seat base) s start end (moment_told told) order turns ended
    → s.seen.deeds ≡ tagged s.number (deeds_by s.number s.seen.deeds) → Serves base order turns start end told ended
served_first base order turns start end told ended s served own = record {
  seat = s;
  served = served;
  deeds_are = own ∙ ap (tagged s.number) served.adds.own;
}

-- Memory ran out before anything was served.
pub serves_nothing : (base : Base) (order : Order) (turns : ℕ) (start : Wire) (told : Option (ℤ × ℕ)) → Serves base order turns start start told ends.NoMemory
serves_nothing base order turns start told =
    served_first base order turns start start told ends.NoMemory (first_seat base) (never_served (first_seat base) start (moment_told told) order turns tt) refl

-- A desk was served whose deeds are all its own.
pub serves : (base : Base) (order : Order) (turns : ℕ) (start end : Wire) (told : Option (ℤ × ℕ)) (ended : Ended) (first s : Seat) → first ≡ first_seat base
    → Served first s start end (moment_told told) order turns ended
    → s.seen.deeds ≡ tagged s.number (deeds_by s.number s.seen.deeds) → Serves base order turns start end told ended
serves base order turns start end told ended first s is served own =
    served_first base order turns start end told ended s
    (subst (λ (z : Seat). Served z s start end (moment_told told) order turns ended) is served) own

-- The status of a failed link tells the first fault.
pub fault_at_six : {L : Type 0} (wire : L → Wire) (start end : L) (ended : Ended) → EndsAtFirstFault wire start end ended → status_of ended ≡ 6 → FirstFault wire start end
fault_at_six wire start end ends.Closed fault six = absurd (omega (arith, six))
fault_at_six wire start end (ends.Truncated place) fault six = absurd (omega (arith, six))
fault_at_six wire start end (ends.Bad cause place) fault six = absurd (omega (arith, six))
fault_at_six wire start end ends.ReadFault fault six = fault
fault_at_six wire start end ends.WriteFault fault six = fault
fault_at_six wire start end ends.NoMemory fault six = absurd (omega (arith, six))
fault_at_six wire start end (ends.Spent calls) fault six = absurd (omega (arith, six))

-- A site was served, with all its ports.
pub site_served : (asked : Asked) (site : SiteData) (told : Option (ℤ × ℕ)) (ports ports' : MakerView) (start end : Wire) (ended : Ended) (status : ℕ)
    → AllMade site.configs ports ports' → Serves (record { site = site; limit = asked.journal }) asked.order asked.turns start end told ended → status ≡ status_of ended
    → SiteServes asked site told ports ports' start end status
site_served asked site told ports ports' start end ended status made served same = inl (record { ended = ended; made = made; serves = served; status_is = same })

-- A port wasn't made.
pub site_unserved : (A : Type 0) (asked : Asked) (site : SiteData) (told : Option (ℤ × ℕ)) (ports ports' : MakerView) (wire : Wire) (stop : PortsStop) (status : ℕ)
    → PortsAre {A = A} site.configs ports ports' (Err stop) → status ≡ status_of_unmade stop → SiteServes asked site told ports ports' wire wire status
site_unserved A asked site told ports ports' wire unmade.Unmade status are same = inr (inl (record { unmade = are; wire = refl; status_is = same }))
site_unserved A asked site told ports ports' wire unmade.NoMemory status are same = inr (inr (record { some = are; wire = refl; status_is = same }))

-- no status of a stop is that of a fault of the link

pub unmade_no_six : (stop : PortsStop) (status : ℕ) → status ≡ status_of_unmade stop → status ≡ 6 → ⊥
unmade_no_six unmade.Unmade status same six = omega (arith, same, six)
unmade_no_six unmade.NoMemory status same six = omega (arith, same, six)

pub stop_no_six : (stop : SourceStop) (status : ℕ) → status ≡ status_of_stop stop → status ≡ 6 → ⊥
stop_no_six stops.Unread status same six = omega (arith, same, six)
stop_no_six (stops.Fault fault) status same six = omega (arith, same, six)
stop_no_six stops.NoMemory status same six = omega (arith, same, six)
