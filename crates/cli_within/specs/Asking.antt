-- Which operation words ask for, with its values and its numbers.
use Rattle.std.specs.Prelude.{◌≡◌, true, List, length, Some, Result, Ok, Err, codes, ⊤}
use Rattle.std.specs.Option.{option_and_then}
use Rattle.clap.specs.Words.{Row}
use Rattle.cli_session.specs.declared.ask.Operation.{Operation}
use Rattle.cli_within.specs.Words.{AreNumbers, IsOperation, given, takes, values_in, verb_named}
use Rattle.cli_within.specs.declared.verb.Numbers.{Numbers}
use Rattle.cli_within.specs.declared.verb.Verb.{Verb}
use Rattle.cli_within.specs.declared.words.WordsStop.{WordsStop}
use Rattle.cli_within.specs.declared.words.WordsStop.TheVariants.{Refused, NoMemory}

-- What is given asks the client to do this.
pub record AsksTo (rows : List Row) (operation : Operation) : Type 0 where
  pub verb : Verb
  pub verb_is : option_and_then verb_named (given rows (codes "op")) ≡ Some verb
  pub taken : takes verb (length (values_in rows)) ≡ true
  pub numbers : Numbers
  pub numbers_are : AreNumbers rows numbers
  pub operation_is : IsOperation verb (values_in rows) numbers operation

-- what is given comes to, of the operation alone; want of memory is free
abbrev pub OperationIsRead : List Row → Result Operation WordsStop → Type 0
OperationIsRead rows (Ok operation) = AsksTo rows operation
OperationIsRead rows (Err Refused) = (operation : Operation) → ¬ (AsksTo rows operation)
OperationIsRead rows (Err NoMemory) = ⊤
