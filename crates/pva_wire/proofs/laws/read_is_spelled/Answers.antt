use Rattle.pva_wire.proofs.Digits.{number_takes}
use Rattle.pva_wire.proofs.Sizes.{size_takes}
use Rattle.pva_wire.proofs.Texts.{text_takes}
use Rattle.pva_wire.proofs.BitsRead.{bits_takes}
use Rattle.pva_wire.proofs.Statuses.{status_takes}
use Rattle.pva_wire.proofs.laws.read_is_spelled.Goals as goal

pub returns-clause-number : goal.returns-clause-number
returns-clause-number c = λ o n bytes rest x fits h. let t = number_takes o n bytes (x, rest) fits h in (t.0, t.1, t.2.parts)

pub returns-clause-size : goal.returns-clause-size
returns-clause-size c = λ o bytes rest x fits h. let t = size_takes o bytes (x, rest) fits h in (t.0, t.1, t.2.parts)

pub returns-clause-text : goal.returns-clause-text
returns-clause-text c = λ o bytes rest x fits h. let t = text_takes o bytes (x, rest) fits h in (t.0, t.1, t.2.parts)

pub returns-clause-bits : goal.returns-clause-bits
returns-clause-bits c = λ o bytes rest x fits h. let t = bits_takes o bytes (x, rest) fits h in (t.0, t.1, t.2.parts)

pub returns-clause-status : goal.returns-clause-status
returns-clause-status c = λ o bytes rest x fits h. let t = status_takes o bytes (x, rest) fits h in (t.0, t.1, t.2.parts)
