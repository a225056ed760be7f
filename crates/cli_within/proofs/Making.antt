-- A site over which an operation runs, and what a run comes to.
use Rattle.std.proofs.Common.{◌≡◌, ℕ, ℤ, List, Option, Err, inl, inr, refl, ◌∙◌, ap, subst}
use Rattle.pva_outside.specs.Makers.{MakerView}
use Rattle.histories.specs.History.{deeds_by, tagged}
use Rattle.desk_api.specs.Calls.{first_seat}
use Rattle.desk_api.specs.declared.history.Base.{Base}
use Rattle.desk_api.specs.declared.history.SiteData.{SiteData}
use Rattle.desk_api.specs.declared.mark.Seat.{Seat}
use Rattle.srv_stream.specs.Streams.{moment_told}
use Rattle.cli_session.specs.declared.ask.Ask.{Ask}
use Rattle.prog_source.specs.Opening.{AllMade, PortsAre}
use Rattle.prog_source.specs.declared.ports.PortsStop.{PortsStop}
use Rattle.prog_source.specs.declared.ports.PortsStop.TheVariants as unmade
use Rattle.cli_within.specs.Exchanging.{Exchanged}
use Rattle.cli_within.specs.Running.{HasRun, SiteRuns, journal, status_of, status_of_unmade}
use Rattle.cli_within.specs.declared.rounds.Limits.{Limits}
use Rattle.cli_within.specs.declared.stop.End.{End}
use Rattle.cli_within.specs.declared.stop.End.TheVariants as ends
use Rattle.cli_within.specs.declared.stop.Status.{Status}
use Rattle.cli_within.specs.declared.stop.Stop.TheVariants as stops
use Rattle.cli_within.proofs.Exchanged.{exchange_unbegun}

-- A desk whose deeds are all its own.
pub has_run : (ask : Ask) (limits : Limits) (base : Base) (told : Option (ℤ × ℕ)) (start now : Option (List ℕ)) (before after : ℕ) (end : End) (first s : Seat) → first ≡ first_seat base
    → Exchanged ask limits.idle limits.piece limits.turns (moment_told told) first s start now before after end → s.seen.deeds ≡ tagged s.number (deeds_by s.number s.seen.deeds) → HasRun ask limits base told start now before after end
has_run ask limits base told start now before after end first s is exchanged own =
    let x = subst (λ (z : Seat). Exchanged ask limits.idle limits.piece limits.turns (moment_told told) z s start now before after end) is exchanged in
    record { seat = s; exchanged = x; deeds_are = own ∙ ap (tagged s.number) x.adds.own }

-- Memory ran out before anything was done.
pub has_not_run : (ask : Ask) (limits : Limits) (base : Base) (told : Option (ℤ × ℕ)) (start : Option (List ℕ)) (before : ℕ) → HasRun ask limits base told start start before before (ends.Stopped stops.NoMemory)
has_not_run ask limits base told start before =
    has_run ask limits base told start start before before (ends.Stopped stops.NoMemory) (first_seat base) (first_seat base) refl (exchange_unbegun ask limits.idle limits.piece limits.turns (moment_told told) (first_seat base) start before tt) refl

pub site_run : (ask : Ask) (limits : Limits) (site : SiteData) (told : Option (ℤ × ℕ)) (ports ports' : MakerView) (start now : Option (List ℕ)) (before after : ℕ) (end : End) (code : Status) → AllMade site.configs ports ports'
    → HasRun ask limits (record { site = site; limit = journal }) told start now before after end → code ≡ status_of end → SiteRuns ask limits site told ports ports' start now before after code
site_run ask limits site told ports ports' start now before after end code made ran is = inl (record { end = end; made = made; ran = ran; status_is = is })

pub site_unrun : (A : Type 0) (ask : Ask) (limits : Limits) (site : SiteData) (told : Option (ℤ × ℕ)) (ports ports' : MakerView) (start : Option (List ℕ)) (before : ℕ) (stop : PortsStop) (code : Status)
    → PortsAre {A = A} site.configs ports ports' (Err stop) → code ≡ status_of_unmade stop → SiteRuns ask limits site told ports ports' start start before before code
site_unrun A ask limits site told ports ports' start before unmade.Unmade code are is = inr (inl (record { unmade = are; silent = record { printed = refl; print_faults = refl }; status_is = is }))
site_unrun A ask limits site told ports ports' start before unmade.NoMemory code are is = inr (inr (record { some = are; silent = record { printed = refl; print_faults = refl }; status_is = is }))
