-- What becomes of a text that is printed.
use Rattle.std.specs.Prelude.{◌≡◌, ℕ, List, ◌++◌, Option}
use Rattle.std.specs.Io.KnownBytes.{Appends}
use Rattle.pva_outside.specs.Count.{Rose}
use Rattle.prog_source.specs.declared.printing.Printed.{Printed}
use Rattle.prog_source.specs.declared.printing.Printed.TheVariants.{Whole, Failed, NoMemory}

-- A front of the text was printed.
pub record IsPart (old new : Option (List ℕ)) (text : List ℕ) : Type 0 where
  pub front : List ℕ
  pub rest : List ℕ
  pub whole : text ≡ front ++ rest
  pub printed : Appends old new front

-- What became of a text: what was printed, and how often printing failed.
abbrev pub IsPrinted : Option (List ℕ) → Option (List ℕ) → ℕ → ℕ → List ℕ → Printed → Type 0
IsPrinted old new faults faults' text Whole = Appends old new text × (faults' ≡ faults)
IsPrinted old new faults faults' text Failed = IsPart old new text × Rose faults faults'
IsPrinted old new faults faults' text NoMemory = IsPart old new text × (faults' ≡ faults)
