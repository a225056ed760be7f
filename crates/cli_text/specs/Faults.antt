-- Why words are refused.
use Rattle.std.specs.Prelude.{◌≡◌, ℕ, Result, Ok, Err}
use Rattle.cli_text.specs.declared.fault.Cause.{Cause}
use Rattle.cli_text.specs.declared.fault.Cause.TheVariants as cause
use Rattle.cli_text.specs.declared.fault.PutText.{PutText}
use Rattle.cli_text.specs.declared.fault.PutText.TheVariants as put

abbrev pub fault_at : Cause → ℕ → PutText
fault_at cause.BadNumber position = put.BadNumber position
fault_at cause.OutOfRange position = put.OutOfRange position
fault_at cause.BadChoice position = put.BadChoice position
fault_at cause.NoField position = put.NoField position
fault_at cause.NoMemory position = put.NoMemory

-- want of memory is free
abbrev pub Fails : {S : Type 0} → Cause → Result S Cause → Type 0
Fails cause.NoMemory read = Unit {0}
Fails c read = read ≡ Err c

-- what a call answers is what is read, or want of memory
abbrev pub Gives : {A S : Type 0} → (A → S) → Result A Cause → Result S Cause → Type 0
Gives view (Ok x) read = read ≡ Ok (view x)
Gives view (Err c) read = Fails c read

-- the same of a call that changes a value: it is what is read, or want of memory
abbrev pub Makes : {A S : Type 0} → Result A Cause → S → Result S Cause → Type 0
Makes (Ok x) after read = read ≡ Ok after
Makes (Err c) after read = Fails c read
