-- A database text with its macros replaced and its comments dropped (EPICS IOC Application Developer's Guide, "Database
-- Definition", "Macro Substitution").
use Rattle.std.specs.Prelude.{ℕ, zero, suc, ◌+◌, Bool, false, not, ◌&&◌, ◌||◌, List, [], ◌∷◌}
use Rattle.std.specs.Prelude.{length, drop, Option, Some, None, Result, Ok, Err, ◌==◌, if◌then◌else◌}
use Rattle.db_text.specs.Macros.{Macros, MacroFault, Made, before_first, either, opening}
use Rattle.db_text.specs.Macros.{chosen, made_inside, before, followed}

-- a fault and its line, counted from 1
abbrev pub Placed : Type 0
Placed = Result (List ℕ) (MacroFault × ℕ)

-- What follows a comment, which begins at `#` outside of quotes and goes up to the end of the line.
unfoldable pub behind_comment : Bool → List ℕ → Option (List ℕ)
behind_comment quoted [] = None
behind_comment quoted (b ∷ rest) =
    if b == 35 && not quoted then Some (drop (before_first (λ x. x == 10) rest) rest) else None

-- In quotes a backslash keeps a quote, or another backslash, from meaning more: the byte after it, and what follows.
unfoldable pub escaped : Bool → List ℕ → Option (ℕ × List ℕ)
escaped quoted [] = None
escaped quoted (b ∷ []) = None
escaped quoted (b ∷ x ∷ rest) = if quoted && b == 92 && (x == 34 || x == 92) then Some (x, rest) else None

-- whether quotes are open behind a byte: they end at the end of the line
abbrev pub quoted_after : Bool → ℕ → Bool
quoted_after quoted b = if b == 10 then false else if b == 34 then not quoted else quoted

abbrev pub line_after : ℕ → ℕ → ℕ
line_after line b = if b == 10 then line + 1 else line

-- What a macro in a text makes, and what follows it. Sixteen levels may be opened.
abbrev pub replacing : Macros → Made (List ℕ × List ℕ) → Made (List ℕ × List ℕ)
replacing ms (Err fault) = Err fault
replacing ms (Ok m) = followed m.1 (made_inside ms 16 m.0)

unfoldable pub replaced : Macros → ℕ → List ℕ → Made (List ℕ × List ℕ)
replaced ms closer bytes = replacing ms (chosen ms 16 closer bytes)

-- a macro on a line, and the text after it
abbrev pub placed : ℕ → (List ℕ → Placed) → Made (List ℕ × List ℕ) → Placed
placed line more (Err fault) = Err (fault, line)
placed line more (Ok m) = before m.0 (more m.1)

-- What so many bytes of a text make, from this line on, inside of quotes or not.
unfoldable pub expanded_from : Macros → ℕ → Bool → ℕ → List ℕ → Placed
expanded_from ms zero quoted line bytes = Ok []
expanded_from ms (suc n) quoted line [] = Ok []
expanded_from ms (suc n) quoted line (b ∷ rest) =
    either
    (either
    (either
    (before (b ∷ []) (expanded_from ms n (quoted_after quoted b) (line_after line b) rest))
    (λ e. before (b ∷ e.0 ∷ []) (expanded_from ms n quoted line e.1))
    (escaped quoted (b ∷ rest)))
    (λ o. placed line (expanded_from ms n quoted line) (replaced ms o.0 o.1))
    (opening (b ∷ rest)))
    (expanded_from ms n quoted line)
    (behind_comment quoted (b ∷ rest))

-- the whole text, or its first fault
unfoldable pub expanded : Macros → List ℕ → Placed
expanded ms text = expanded_from ms (length text) false 1 text
