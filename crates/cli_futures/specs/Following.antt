-- The next report, with the stream handed back.
use Rattle.std.specs.Prelude.{◌≡◌, Option, Some, IfSome, IsSome}
use Rattle.pva_outside.specs.Wire.{Wire}
use Rattle.cli_session.specs.declared.report.Report.{Report}
use Rattle.cli_futures.specs.Updating.{Follows}
use Rattle.cli_futures.specs.declared.next.NextUpdate.{NextUpdate}
use Rattle.cli_futures.specs.declared.updates.Updates.{Updates}

-- it is of this stream
abbrev pub IsNextOf : {L : Type 0} → Updates L → NextUpdate L → Type 0
IsNextOf u n = n.updates ≡ Some u

abbrev pub CanNext : {L : Type 0} → NextUpdate L → Type 0
CanNext n = IsSome n.updates

abbrev pub NextGives : {L : Type 0} → (L → Wire) → NextUpdate L → Option Report × Updates L → Type 0
NextGives wire n out = IfSome n.updates (λ u. Follows wire u out.1 out.0)
