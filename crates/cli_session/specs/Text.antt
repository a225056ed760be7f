-- What is printed of what a client tells.
use Rattle.std.specs.Prelude.{ℕ, List, [], ◌∷◌, ◌++◌}
use Rattle.std.specs.List.{flat_map}
use Rattle.pva_frames.specs.declared.event.Event.{Event}
use Rattle.cli_text.specs.Lines.{part_text, type_text}
use Rattle.cli_session.specs.declared.ask.Ask.{Ask}
use Rattle.cli_session.specs.Steps.{Told, part, of_type, refusal, finish, client_told}

-- the lines of a value or of a type; the end of an operation has none
abbrev pub told_text : Told → List ℕ
told_text (part p overrun) = part_text p.mask overrun p.ty p.value
told_text (of_type t) = type_text t
told_text (refusal status) = []
told_text finish = []

-- The channel's name and a line feed, and then the lines of all that is told.
abbrev pub text_of : Ask → List Told → List ℕ
text_of ask told = (ask.name ++ 10 ∷ []) ++ flat_map told_text told

abbrev pub client_text : Ask → List Event → List ℕ
client_text ask events = text_of ask (client_told ask events)
