-- When a connection is served to its end.
use Rattle.std.specs.Prelude.{◌≡◌, ◌⊎◌, ℕ, ℤ, List, Option, Result, Ok, Err, ⊤}
use Rattle.std.proofs.Common.{inl, inr}
use Rattle.clap.specs.Words.{Text}
use Rattle.pva_outside.specs.Count.{Rose}
use Rattle.pva_outside.specs.Makers.{MakerView}
use Rattle.pva_outside.specs.Wire.{Wire}
use Rattle.desk_api.specs.declared.fault.SiteFault.{SiteFault}
use Rattle.desk_api.specs.declared.history.SiteData.{SiteData}
use Rattle.srv_stream.specs.Served.{IsSmooth}
use Rattle.prog_server.specs.Running.{Does, IsDone, SiteServes, Outside}
use Rattle.prog_server.specs.Words.{Asked}
use Rattle.prog_source.specs.declared.loading.SourceStop.{SourceStop}
use Rattle.prog_source.specs.declared.loading.SourceStop.TheVariants.{Fault}
use Rattle.prog_server.specs.declared.words.Task.{Task}
use Rattle.prog_server.specs.declared.words.Task.TheVariants.{Inetd, Check, Listen, Drill}

-- Where the link was served, the connection was smooth: the link's faults didn't rise, all that was read is whole messages that have
-- answers, and the turns were enough.
abbrev pub IsServedSmoothly : (asked : Asked) (site : SiteData) (told : Option (ℤ × ℕ)) (ports ports' : MakerView)
    (start end : Wire) (status : ℕ) → SiteServes asked site told ports ports' start end status → Type 0
IsServedSmoothly asked site told ports ports' start end status (inl s) =
    let served = s.serves.served in
    IsSmooth site asked.order start end asked.turns served.read served.written served.log s.ended served.answer
IsServedSmoothly asked site told ports ports' start end status (inr unserved) = ⊤

-- The task is to serve, and where it served, the connection was smooth.
abbrev pub IsDoneSmoothly : (task : Task) (asked : Asked) (found : Result SiteData SourceStop) (told : Option (ℤ × ℕ))
    (old new : Outside) (status : ℕ) → Does task asked found told old new status → Type 0
IsDoneSmoothly Check asked found told old new status does = ⊥
IsDoneSmoothly (Listen at) asked found told old new status does = ⊥
IsDoneSmoothly (Drill n) asked found told old new status does = ⊥
IsDoneSmoothly Inetd asked (Ok site) told old new status does =
    IsServedSmoothly asked site told old.ports new.ports old.wire new.wire status does.0
IsDoneSmoothly Inetd asked (Err stop) told old new status does = ⊤

-- The words ask to serve a source whose text has no fault, no count of faults of files or ports rose, and the connection was smooth.
pub record IsFaultless (words : List Text) (told : Option (ℤ × ℕ)) (old new : Outside) (status : ℕ)
    (run : IsDone words told old new status) : Type 0 where
  pub text : (fault : SiteFault) → ¬ (run.found ≡ Err (Fault fault))
  pub files : ¬ (Rose old.files.faults new.files.faults)
  pub ports : ¬ (Rose old.ports.faults new.ports.faults)
  pub smooth : IsDoneSmoothly run.asked.task run.asked run.found told old new status run.does

-- Such a run ends with status 0, or 7 for want of memory.
abbrev pub Completes : Type 0
Completes =
    (words : List Text) (told : Option (ℤ × ℕ)) (old new : Outside) (status : ℕ) (run : IsDone words told old new status)
    → IsFaultless words told old new status run → (status ≡ 0) ⊎ (status ≡ 7)
