-- A run that meets no fault.
use Rattle.std.proofs.Common.{◌≡◌, ◌⊎◌, ℕ, ℤ, Option, Result, Ok, Err, inl, inr, refl, ◌∙◌, ap}
use Rattle.pva_outside.specs.Count.{Rose}
use Rattle.desk_api.specs.declared.fault.SiteFault.{SiteFault}
use Rattle.desk_api.specs.declared.history.SiteData.{SiteData}
use Rattle.pva_outside.specs.Files.{FilesView}
use Rattle.srv_stream.specs.declared.ended.Ended.{Ended}
use Rattle.srv_stream.specs.declared.ended.Ended.TheVariants as ends
use Rattle.db_text.specs.Macros.{Macros}
use Rattle.prog_server.specs.Words.{Asked}
use Rattle.prog_source.specs.Words.{Source, single, file}
use Rattle.prog_source.specs.Opening.{Opens}
use Rattle.prog_server.specs.Running.{Does, Outside, SiteServes, status_of}
use Rattle.prog_server.specs.Completeness.{Completes, IsDoneSmoothly, IsServedSmoothly}
use Rattle.prog_source.specs.declared.loading.SourceStop.{SourceStop}
use Rattle.prog_source.specs.declared.loading.SourceStop.TheVariants as stops
use Rattle.prog_server.specs.declared.words.Task.{Task}
use Rattle.prog_server.specs.declared.words.Task.TheVariants.{Inetd, Check, Listen, Drill}

by_end : (ended : Ended) (status : ℕ) → status ≡ status_of ended → (ended ≡ ends.Closed) ⊎ (ended ≡ ends.NoMemory) → (status ≡ 0) ⊎ (status ≡ 7)
by_end ended status same (inl closed) = inl (same ∙ ap status_of closed)
by_end ended status same (inr short) = inr (same ∙ ap status_of short)

-- a file that can't be read is a fault
no_fault_read : (macros : Macros) (source : Source) (old new : FilesView) → ¬ (Rose old.faults new.faults) → Opens macros source old new (Err stops.Unread) → ⊥
no_fault_read macros (single name value) old new none is = is
no_fault_read macros (file name) old new none is = none is.faults

site_done : (asked : Asked) (site : SiteData) (told : Option (ℤ × ℕ)) (old new : Outside) (status : ℕ) → ¬ (Rose old.ports.faults new.ports.faults)
    → (served : SiteServes asked site told old.ports new.ports old.wire new.wire status)
    → IsServedSmoothly asked site told old.ports new.ports old.wire new.wire status served → (status ≡ 0) ⊎ (status ≡ 7)
site_done asked site told old new status none (inl s) smooth = by_end s.ended status s.status_is (s.serves.served.complete smooth)
site_done asked site told old new status none (inr (inl u)) smooth = absurd (none u.unmade.faults)
site_done asked site told old new status none (inr (inr u)) smooth = inr u.status_is

task_done : (task : Task) (asked : Asked) (source : Source) (found : Result SiteData SourceStop) (told : Option (ℤ × ℕ)) (old new : Outside) (status : ℕ)
    → ((fault : SiteFault) → ¬ (found ≡ Err (stops.Fault fault))) → ¬ (Rose old.files.faults new.files.faults) → ¬ (Rose old.ports.faults new.ports.faults)
    → Opens asked.macros source old.files new.files found
    → (does : Does task asked found told old new status) → IsDoneSmoothly task asked found told old new status does → (status ≡ 0) ⊎ (status ≡ 7)
task_done Check asked source found told old new status text files ports opens does smooth = absurd smooth
task_done (Listen at) asked source found told old new status text files ports opens does smooth = absurd smooth
task_done (Drill n) asked source found told old new status text files ports opens does smooth = absurd smooth
task_done Inetd asked source (Ok site) told old new status text files ports opens does smooth = site_done asked site told old new status ports does.0 smooth
task_done Inetd asked source (Err stops.Unread) told old new status text files ports opens does smooth = absurd (no_fault_read asked.macros source old.files new.files files opens)
task_done Inetd asked source (Err (stops.Fault fault)) told old new status text files ports opens does smooth = absurd (text fault refl)
task_done Inetd asked source (Err stops.NoMemory) told old new status text files ports opens does smooth = inr does.0.status_is

pub completes : Completes
completes words told old new status run none =
    task_done run.asked.task run.asked run.source run.found told old new status none.text none.files none.ports run.opens run.does none.smooth
