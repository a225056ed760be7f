-- How a record is configured (EPICS record reference).
use Rattle.std.specs.Prelude.{ℕ, ℤ, Bool, List, Option}
use Rattle.rec_kinds.specs.declared.kind.Kind.{Kind}
use Rattle.rec_kinds.specs.declared.element.Element.{Element}
use Rattle.rec_kinds.specs.declared.severity.Severity.{Severity}

-- Each part has the name of its field, `disabled` that DISP is 1, and `port` where the record's port leads.
pub record Config : Type 0 where
  pub kind : Kind
  pub desc : List ℕ
  pub disabled : Bool
  pub port : Option (List ℕ)
  pub hihi : ℤ
  pub high : ℤ
  pub low : ℤ
  pub lolo : ℤ
  pub hhsv : Severity
  pub hsv : Severity
  pub lsv : Severity
  pub llsv : Severity
  pub drvh : ℤ
  pub drvl : ℤ
  -- the choices of a record that has them, and the severities of these
  pub choices : List (List ℕ)
  pub severities : List Severity
  pub ftvl : Element
  pub nelm : ℕ
