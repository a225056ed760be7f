-- What contracts see of the parts of a client.
use Rattle.std.specs.Prelude.{ℕ, Bool, true, false, List, [], ◌∷◌, ◌++◌, map, Option, None, Some, Result, Ok, Err}
use denote.Ref.{Bor}
use Rattle.pvd_type.specs.Numbers.{path_of}
use Rattle.pvd_type.specs.Tree.{Tree}
use Rattle.pvd_type.specs.View.{shape_view}
use Rattle.pvd_type.specs.declared.shape.Shape.{Shape}
use Rattle.pvd_value.specs.Data.{Data}
use Rattle.pvd_value.specs.View.{view}
use Rattle.pvd_value.specs.declared.value.PvValue.{PvValue}
use Rattle.pva_messages.specs.Views.{part_of, part_view, update_view, valued_view}
use Rattle.cli_session.specs.Answers as answer
use Rattle.cli_session.specs.Answers.{Answer}
use Rattle.cli_session.specs.Steps.{Told, part, of_type, refusal, finish}
use Rattle.cli_session.specs.Structures.{Texts, Path}
use Rattle.cli_session.specs.declared.answer.Answer as answers
use Rattle.cli_session.specs.declared.answer.Answer.TheVariants as found
use Rattle.cli_session.specs.declared.fault.ClientFault.{ClientFault}
use Rattle.cli_session.specs.declared.report.Report.{Report}
use Rattle.cli_session.specs.declared.report.Report.TheVariants as reports
use Rattle.cli_session.specs.declared.report.Telling.{Telling}

-- texts and paths that are borrowed
abbrev pub text_seen : Bor (List ℕ) × Bor (List ℕ) → List ℕ × List ℕ
text_seen t = (t.0.now, t.1.now)

abbrev pub texts_seen : List (Bor (List ℕ) × Bor (List ℕ)) → Texts
texts_seen ts = map text_seen ts

abbrev pub path_seen : Bor (List ℕ) → Path
path_seen p = path_of p.now

abbrev pub paths_seen : List (Bor (List ℕ)) → List Path
paths_seen ps = map path_seen ps

-- a type, or a shape that stands for one, with a value
abbrev pub pair_view : Tree × PvValue → Tree × Data
pair_view p = (p.0, view p.1)

abbrev pub shape_seen : Shape × PvValue → Tree × Data
shape_seen p = (shape_view p.0, view p.1)

-- what a report tells
abbrev pub report_view : Report → Told
report_view (reports.Part ty mask overrun value) = part (part_of ty mask value) overrun
report_view (reports.Kind ty) = of_type ty
report_view (reports.Refused status) = refusal status
report_view reports.Finished = finish

abbrev pub reports_view : Option Report → List Told
reports_view None = []
reports_view (Some r) = report_view r ∷ []

abbrev pub finish_told : Bool → List Told
finish_told true = finish ∷ []
finish_told false = []

-- a report, where there is one, and then perhaps the end
abbrev pub telling_view : Telling → List Told
telling_view t = reports_view t.report ++ finish_told t.finished

abbrev pub answer_view : answers.Answer → Answer
answer_view (found.Greeted buffer) = answer.greeted buffer
answer_view found.Accepted = answer.accepted
answer_view (found.Created sid) = answer.created sid
answer_view (found.Begun ty) = answer.begun ty
answer_view (found.Present p) = answer.present (part_view p)
answer_view (found.Value p) = answer.value (part_view p)
answer_view (found.Described ty) = answer.described ty
answer_view (found.Outcome v) = answer.outcome (valued_view v)
answer_view found.Done = answer.done
answer_view (found.Update u) = answer.update (update_view u)
answer_view (found.Refused status) = answer.refused status

abbrev pub answered_view : Result answers.Answer ClientFault → Result Answer ClientFault
answered_view (Ok a) = Ok (answer_view a)
answered_view (Err f) = Err f
