use Rattle.pva_wire.specs.Spelling.{SpellsNumber, SpellsSize, SpellsText}
use Rattle.pva_wire.specs.Bits.{SpellsBits, bits_at}
use Rattle.pva_wire.specs.Status.{SpellsStatus, status_at}
use Rattle.pva_wire.specs.Reading.{number_at, size_at, text_at}
use Rattle.pva_wire.proofs.OneReading.{one_from}
use Rattle.pva_wire.proofs.Digits.{number_at_again}
use Rattle.pva_wire.proofs.Sizes.{size_again}
use Rattle.pva_wire.proofs.Texts.{text_again}
use Rattle.pva_wire.proofs.BitsRead.{bits_again}
use Rattle.pva_wire.proofs.Statuses.{status_again}
use Rattle.pva_wire.proofs.laws.one_reading.Goals as goal

pub returns-clause-number : goal.returns-clause-number
returns-clause-number c = λ o n. one_from (SpellsNumber o n) (number_at o n) (λ front rest x spelled. number_at_again o n front rest x spelled)

pub returns-clause-size : goal.returns-clause-size
returns-clause-size c = λ o. one_from (SpellsSize o) (size_at o) (λ front rest x spelled. size_again o front rest x spelled)

pub returns-clause-text : goal.returns-clause-text
returns-clause-text c = λ o. one_from (SpellsText o) (text_at o) (λ front rest x spelled. text_again o front x rest spelled)

pub returns-clause-bits : goal.returns-clause-bits
returns-clause-bits c = λ o. one_from (SpellsBits o) (bits_at o) (λ front rest x spelled. bits_again o front rest x spelled)

pub returns-clause-status : goal.returns-clause-status
returns-clause-status c = λ o. one_from (SpellsStatus o) (status_at o) (λ front rest x spelled. status_again o front rest x spelled)
