-- What loading a database text gives.
use Rattle.std.specs.Prelude.{◌≡◌, ◌⊎◌, ◌≤◌, ℕ, ◌+◌, ◌-◌, List, [], length, take, count_by, Option, Some, None, Result}
use Rattle.std.specs.Prelude.{Ok, Err, ◌==◌, nat_lt, if◌then◌else◌}
use Rattle.std.specs.declared.vec.Vec.{Vec}
use Rattle.db_text.specs.Macros.{Macros, MacroFault}
use Rattle.db_text.specs.Expanding.{Placed, expanded}
use Rattle.db_text.specs.Expansion.{ExpandsTo, Expanded}
use Rattle.db_text.specs.Cutting.{Cut, cut}
use Rattle.db_text.specs.Faults.{macro_fault}
use Rattle.db_text.specs.Grammar.{TokensTo, Tokens}
use Rattle.db_text.specs.declared.fault.TextFault.{TextFault}
use Rattle.db_text.specs.declared.token.Token.{Token}
use Rattle.db_text.specs.declared.fault.TextFault.TheVariants as texts
use Rattle.rec_kinds.specs.declared.record_text.RecText.{RecText}
use Rattle.db_load.specs.declared.fault.LoadFault.{LoadFault}
use Rattle.db_load.specs.declared.fault.LoadFault.TheVariants.{Text, BadForm, Count, NoMemory}
use Rattle.db_load.specs.Forms.{Stop, short, faulty, records_from}
use Rattle.db_load.specs.Grammar.{Records}
use Rattle.db_load.specs.Places.{FaultOf}

abbrev pub Loaded : Type 0
Loaded = Result (List RecText) LoadFault

-- how many records a text may have
abbrev pub counted : List RecText → Loaded
counted records =
    if length records == 0 then Err (Count 0)
    else if nat_lt 4000 (length records) then Err (Count (length records))
    else Ok records

-- The forms of the tokens up to the text's fault, or to its end on the line given. What the forms find comes
-- before that.
abbrev pub formed : ℕ → Result (List RecText) Stop → Option TextFault → Loaded
formed end (Err (faulty fault)) stop = Err fault
formed end (Ok records) (Some fault) = Err (Text fault)
formed end (Err short) (Some fault) = Err (Text fault)
formed end (Err short) None = Err (BadForm end)
formed end (Ok records) None = counted records

abbrev pub loaded_cut : ℕ → Cut → Loaded
loaded_cut end c = formed end (records_from (length c.0) [] c.0) c.1

-- the line of a text's last byte
abbrev pub last_line : List ℕ → ℕ
last_line text = 1 + count_by (λ b. b == 10) (take (length text - 1) text)

abbrev pub loaded_plain : List ℕ → Placed → Loaded
loaded_plain text (Err e) = Err (Text (macro_fault e.0 e.1))
loaded_plain text (Ok plain) = loaded_cut (last_line text) (cut plain)

-- the records of a text with these macros, or its first fault: macros, then tokens and forms, then the count
unfoldable pub loaded : Macros → List ℕ → Loaded
loaded ms text = loaded_plain text (expanded ms text)

-- a fault of a text as one of its loading
abbrev pub text_fault : TextFault → LoadFault
text_fault texts.NoMemory = NoMemory
text_fault fault = Text fault

-- what was found, unless the text has a fault behind it
abbrev pub behind : {A : Type 0} → Option TextFault → Result A LoadFault → Result A LoadFault
behind None found = found
behind (Some fault) found = Err (text_fault fault)

-- what was returned is what loading gives; want of memory is free
abbrev pub IsLoaded : {Z : Type 0} → Result (Vec RecText Z) LoadFault → Loaded → Type 0
IsLoaded (Ok records) read = read ≡ Ok records.items
IsLoaded (Err NoMemory) read = Unit {0}
IsLoaded (Err fault) read = read ≡ Err fault

-- These are the records of a text with these macros: those of its tokens, as many as a text may have.
abbrev pub RecordsOf : Macros → List ℕ → List RecText → Type 0
RecordsOf ms text records =
    (plain : List ℕ) × (tokens : List Token) × Expanded ms text plain × Tokens plain tokens
    × Records tokens records × (1 ≤ length records) × (length records ≤ 4000)

-- This is the first fault of a text with these macros: that of a macro; else that of tokens and forms, which come from
-- left to right; else that of the count.
abbrev pub FirstFaultOf : Macros → List ℕ → LoadFault → Type 0
FirstFaultOf ms text fault =
    ((cause : MacroFault) × (line : ℕ) × ExpandsTo ms text (Err (cause, line))
    × (fault ≡ Text (macro_fault cause line)))
    ⊎ ((plain : List ℕ) × (tokens : List Token) × (stop : Option TextFault) × Expanded ms text plain
    × TokensTo plain tokens stop × FaultOf (last_line text) tokens stop fault)

-- These are the records of a text, or this is its first fault; want of memory is free.
abbrev pub Loads : {Z : Type 0} → Macros → List ℕ → Result (Vec RecText Z) LoadFault → Type 0
Loads ms text (Ok records) = RecordsOf ms text records.items
Loads ms text (Err NoMemory) = Unit {0}
Loads ms text (Err fault) = FirstFaultOf ms text fault

-- A text has one list of records or one first fault, and not both.
abbrev pub OneLoading : Type 0
OneLoading =
    (ms : Macros) (text : List ℕ)
    → ((records others : List RecText) → RecordsOf ms text records → RecordsOf ms text others → records ≡ others)
    × ((records : List RecText) (fault : LoadFault) → RecordsOf ms text records → FirstFaultOf ms text fault → ⊥)
    × ((fault other : LoadFault) → FirstFaultOf ms text fault → FirstFaultOf ms text other → fault ≡ other)
