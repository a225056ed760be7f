use Rattle.std.proofs.Common.{Some, refl}
use Rattle.pva_wire.specs.Spelling.{number_bytes, canonical_size, canonical_text}
use Rattle.pva_wire.specs.Bits.{canonical_bits}
use Rattle.pva_wire.specs.Status.{canonical_status}
use Rattle.pva_wire.proofs.Digits.{number_at_again}
use Rattle.pva_wire.proofs.Sizes.{size_again}
use Rattle.pva_wire.proofs.Texts.{text_again}
use Rattle.pva_wire.proofs.OneReading.{canonical_spells, canonical_text_spells}
use Rattle.pva_wire.proofs.BitsRead.{bits_again, canonical_bits_spell}
use Rattle.pva_wire.proofs.Statuses.{status_again, canonical_status_spells}
use Rattle.pva_wire.proofs.laws.canonical_is_read.Goals as goal

pub returns-clause-number : goal.returns-clause-number
returns-clause-number c = λ o n x rest h. number_at_again o n (number_bytes o n x) rest x (h, refl)

pub returns-clause-size : goal.returns-clause-size
returns-clause-size c = λ o n rest h. size_again o (canonical_size o n) rest (Some n) (canonical_spells o n h)

pub returns-clause-text : goal.returns-clause-text
returns-clause-text c = λ o text rest h. text_again o (canonical_text o text) text rest (canonical_text_spells o text h.1 h.0)

pub returns-clause-bits : goal.returns-clause-bits
returns-clause-bits c = λ o set rest low. bits_again o (canonical_bits o set) rest set (canonical_bits_spell o set low)

pub returns-clause-status : goal.returns-clause-status
returns-clause-status c = λ o s rest first second. status_again o (canonical_status o s) rest s (canonical_status_spells o s first second)
