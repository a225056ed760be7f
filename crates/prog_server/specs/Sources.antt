-- What becomes of a source that a run opens.
use Rattle.std.specs.Prelude.{ℕ, ℤ, List, Option, Result}
use Rattle.pva_outside.specs.Files.{FilesView}
use Rattle.pva_outside.specs.Makers.{MakerView}
use Rattle.pva_outside.specs.Wire.{Wire}
use Rattle.db_text.specs.Macros.{Macros}
use Rattle.desk_api.specs.declared.history.SiteData.{SiteData}
use Rattle.prog_source.specs.Opening.{Opens}
use Rattle.prog_source.specs.Words.{Source}
use Rattle.prog_source.specs.declared.loading.SourceStop.{SourceStop}
use Rattle.prog_server.specs.Running.{Checking, Serving}
use Rattle.prog_server.specs.Words.{Asked}

-- It was opened, and what was found is what `--check` tells of.
pub record IsChecked (macros : Macros) (source : Source) (files files' : FilesView) (old new : Option (List ℕ)) (faults faults' status : ℕ) : Type 0 where
  pub found : Result SiteData SourceStop
  pub opens : Opens macros source files files' found
  pub checking : Checking found old new faults faults' status

-- It was opened, and what was found is what `--inetd` serves.
pub record IsServedFrom (asked : Asked) (source : Source) (files files' : FilesView) (told : Option (ℤ × ℕ)) (ports ports' : MakerView) (start end : Wire) (status : ℕ) : Type 0 where
  pub found : Result SiteData SourceStop
  pub opens : Opens asked.macros source files files' found
  pub serving : Serving asked found told ports ports' start end status
