-- Which results of `expand` and `tokens` are right.
use Rattle.std.specs.Prelude.{◌≡◌, ◌⊎◌, ℕ, ◌^◌, ◌<◌, List, length, Result, Ok, Err}
use Rattle.std.specs.declared.vec.Vec.{Vec}
use Rattle.db_text.specs.Macros.{Macros, MacroFault, unclosed, unknown, too_deep}
use Rattle.db_text.specs.Expansion.{ExpandsTo, Expanded}
use Rattle.db_text.specs.Cutting.{Piece, bad, open_quotes}
use Rattle.db_text.specs.Grammar.{Tokens, FirstFault}
use Rattle.db_text.specs.declared.token.Token.{Token}
use Rattle.db_text.specs.declared.token.TokenKind.{TokenKind}
use Rattle.db_text.specs.declared.token.TokenStop.{TokenStop}
use Rattle.db_text.specs.declared.token.TokenStop.TheVariants as stops
use Rattle.db_text.specs.declared.fault.MacroStop.{MacroStop}
use Rattle.db_text.specs.declared.fault.MacroStop.TheVariants.{Unclosed, Unknown, TooDeep, Memory}
use Rattle.db_text.specs.declared.fault.TextFault.{TextFault}
use Rattle.db_text.specs.declared.fault.TextFault.TheVariants.{BadToken, UnknownMacro, MacroDepth, NoMemory}

-- a fault of a macro, with its line
abbrev pub macro_fault : MacroFault → ℕ → TextFault
macro_fault unclosed line = BadToken line
macro_fault (unknown name) line = UnknownMacro name line
macro_fault too_deep line = MacroDepth line

-- the fault of a text that stopped at a macro on a line
abbrev pub IsFaultOf : MacroStop → ℕ → TextFault → Type 0
IsFaultOf Memory line fault = fault ≡ NoMemory
IsFaultOf Unclosed line fault = fault ≡ BadToken line
IsFaultOf TooDeep line fault = fault ≡ MacroDepth line
IsFaultOf (Unknown name) line fault = (fault ≡ UnknownMacro name.now line) ⊎ (fault ≡ NoMemory)

-- A text is expanded, or its first fault is told; want of memory is free.
abbrev pub Expands : Macros → List ℕ → Result (List ℕ) TextFault → Type 0
Expands ms text (Ok plain) = Expanded ms text plain × (length plain < 2 ^ 32)
Expands ms text (Err NoMemory) = Unit {0}
Expands ms text (Err fault) =
    (cause : MacroFault) × (line : ℕ) × ExpandsTo ms text (Err (cause, line)) × (fault ≡ macro_fault cause line)

-- These are the tokens of a text, or this is its first fault; want of memory is free.
abbrev pub CutsInto : {Z : Type 0} → List ℕ → Result (Vec Token Z) TextFault → Type 0
CutsInto text (Ok tokens) = Tokens text tokens.items
CutsInto text (Err NoMemory) = Unit {0}
CutsInto text (Err fault) = FirstFault text fault

-- what a function returned is the token that begins there
abbrev pub GivesPiece : {X : Type 0} → (X → TokenKind × List ℕ × List ℕ) → Result X TokenStop → Piece → Type 0
GivesPiece view (Ok x) read = read ≡ Ok (view x)
GivesPiece view (Err stops.Bad) read = read ≡ Err bad
GivesPiece view (Err stops.OpenQuotes) read = read ≡ Err open_quotes
GivesPiece view (Err stops.Memory) read = Unit {0}
