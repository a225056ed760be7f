-- What reading an access security file gives.
use Rattle.std.specs.Prelude.{◌≡◌, ◌⊎◌, ℕ, ◌+◌, ◌-◌, List, length, take, count_by, Result, Ok, Err, ◌==◌}
use Rattle.db_text.specs.Macros.{Macros, MacroFault}
use Rattle.db_text.specs.Expansion.{ExpandsTo, Expanded}
use Rattle.db_text.specs.Faults.{macro_fault}
use Rattle.db_text.specs.Grammar.{Tokens, FirstFault}
use Rattle.db_text.specs.declared.fault.TextFault.{TextFault}
use Rattle.db_text.specs.declared.fault.TextFault.TheVariants as texts
use Rattle.db_text.specs.declared.token.Token.{Token}
use Rattle.acf_rules.specs.declared.rules.Rules.{Rules}
use Rattle.acf_rules.specs.declared.fault.AcfFault.{AcfFault}
use Rattle.acf_rules.specs.declared.fault.AcfFault.TheVariants.{Text, BadForm, NoMemory}
use Rattle.acf_rules.specs.declared.fault.FormStop.{FormStop}
use Rattle.acf_rules.specs.declared.fault.FormStop.TheVariants.{Short, Fault}
use Rattle.acf_rules.specs.Forms.{file_at}

-- a fault of a text as one of the file
abbrev pub text_fault : TextFault → AcfFault
text_fault texts.NoMemory = NoMemory
text_fault fault = Text fault

-- the line of a text's last byte
abbrev pub last_line : List ℕ → ℕ
last_line text = 1 + count_by (λ b. b == 10) (take (length text - 1) text)

-- a file whose tokens end inside a form is at fault on its last line
abbrev pub ended : ℕ → Result Rules FormStop → Result Rules AcfFault
ended end (Ok rules) = Ok rules
ended end (Err Short) = Err (BadForm end)
ended end (Err (Fault fault)) = Err fault

-- the rules of these tokens, or the first of them that can't stand where it does
abbrev pub rules_in : ℕ → List Token → Result Rules AcfFault
rules_in end tokens = ended end (file_at tokens)

-- what was returned is what reading gives; want of memory is free
abbrev pub IsRules : Result Rules AcfFault → Result Rules AcfFault → Type 0
IsRules (Err NoMemory) read = Unit {0}
IsRules found read = read ≡ found

-- These are the rules of a text with these macros.
abbrev pub RulesOf : Macros → List ℕ → Rules → Type 0
RulesOf ms text rules =
    (plain : List ℕ) × (tokens : List Token) × Expanded ms text plain × Tokens plain tokens
    × (rules_in (last_line text) tokens ≡ Ok rules)

-- This is the first fault of a text with these macros: that of a macro; else that of a token; else that of a form.
abbrev pub FirstFaultOf : Macros → List ℕ → AcfFault → Type 0
FirstFaultOf ms text fault =
    ((cause : MacroFault) × (line : ℕ) × ExpandsTo ms text (Err (cause, line)) × (fault ≡ Text (macro_fault cause line)))
    ⊎ (((plain : List ℕ) × (stop : TextFault) × Expanded ms text plain × FirstFault plain stop × (fault ≡ Text stop))
    ⊎ ((plain : List ℕ) × (tokens : List Token) × Expanded ms text plain × Tokens plain tokens
    × (rules_in (last_line text) tokens ≡ Err fault)))

-- These are the rules of a text, or this is its first fault; want of memory is free.
abbrev pub Reads : Macros → List ℕ → Result Rules AcfFault → Type 0
Reads ms text (Ok rules) = RulesOf ms text rules
Reads ms text (Err NoMemory) = Unit {0}
Reads ms text (Err fault) = FirstFaultOf ms text fault

-- A text has one set of rules or one first fault, and not both.
abbrev pub OneReading : Type 0
OneReading =
    (ms : Macros) (text : List ℕ)
    → ((rules others : Rules) → RulesOf ms text rules → RulesOf ms text others → rules ≡ others)
    × ((rules : Rules) (fault : AcfFault) → RulesOf ms text rules → FirstFaultOf ms text fault → ⊥)
    × ((fault other : AcfFault) → FirstFaultOf ms text fault → FirstFaultOf ms text other → fault ≡ other)
