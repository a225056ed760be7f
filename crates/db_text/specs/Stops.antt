-- How the functions inside tell what is wrong with a macro.
use Rattle.std.specs.Prelude.{◌≡◌, ℕ, List, ◌++◌, Result, Ok, Err}
use Rattle.db_text.specs.Macros.{unclosed, unknown, too_deep, Made, before}
use Rattle.db_text.specs.Expanding.{Placed}
use Rattle.db_text.specs.declared.fault.MacroStop.{MacroStop}
use Rattle.db_text.specs.declared.fault.MacroStop.TheVariants.{Unclosed, Unknown, TooDeep, Memory}
use Rattle.db_text.specs.declared.fault.Stopped.{Stopped}

-- a stop is the fault that reading gives; want of memory is free
abbrev pub Fails : {A : Type 0} → MacroStop → Made A → Type 0
Fails Memory read = Unit {0}
Fails Unclosed read = read ≡ Err unclosed
Fails (Unknown name) read = read ≡ Err (unknown name.now)
Fails TooDeep read = read ≡ Err too_deep

-- what a function returned, seen by view, is what reading gives
abbrev pub Gives : {X A : Type 0} → (X → A) → Result X MacroStop → Made A → Type 0
Gives view (Ok x) read = read ≡ Ok (view x)
Gives view (Err stop) read = Fails stop read

-- what is read was added
abbrev pub Adds : List ℕ → List ℕ → Result (Unit {0}) MacroStop → Made (List ℕ) → Type 0
Adds old new (Ok u) read = before old read ≡ Ok new
Adds old new (Err stop) read = Fails stop read

-- what is read was added, and what follows it given back
abbrev pub AddsTo : {X : Type 0} → (X → List ℕ) → List ℕ → List ℕ → Result X MacroStop → Made (List ℕ × List ℕ) → Type 0
AddsTo view old new (Ok rest) read = (text : List ℕ) × (read ≡ Ok (text, view rest)) × (old ++ text ≡ new)
AddsTo view old new (Err stop) read = Fails stop read

abbrev pub FailsAt : MacroStop → ℕ → Placed → Type 0
FailsAt Memory line read = Unit {0}
FailsAt Unclosed line read = read ≡ Err (unclosed, line)
FailsAt (Unknown name) line read = read ≡ Err (unknown name.now, line)
FailsAt TooDeep line read = read ≡ Err (too_deep, line)

abbrev pub AddsPlaced : List ℕ → List ℕ → Result (Unit {0}) Stopped → Placed → Type 0
AddsPlaced old new (Ok u) read = before old read ≡ Ok new
AddsPlaced old new (Err e) read = FailsAt e.stop e.line read
