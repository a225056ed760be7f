-- Macros in a text (EPICS macro library): `$(NAME)`, `${NAME}`, `$(NAME=default)`.
use Rattle.std.specs.Prelude.{ℕ, zero, suc, ◌-◌, Bool, ◌||◌, List, [], ◌∷◌, ◌++◌, length, take, drop}
use Rattle.std.specs.Prelude.{Option, Some, None, Result, Ok, Err, ◌==◌, if◌then◌else◌}
use Rattle.std.specs.List.{position}
use Rattle.std.specs.Option.{unwrap_or}
use Rattle.std.specs.Str.{bytes_eq}

-- how many bytes stand before the first one that passes
abbrev pub before_first : (ℕ → Bool) → List ℕ → ℕ
before_first p bytes = unwrap_or (position p bytes) (length bytes)

-- the macros that are given, each with its value
abbrev pub Macros : Type 0
Macros = List (List ℕ × List ℕ)

-- the first of two that is there
abbrev pub first_of : {A : Type 0} → Option A → Option A → Option A
first_of None b = b
first_of (Some a) b = Some a

-- the value of a macro; of two values that one name is given the later one counts
unfoldable pub value_of : Macros → List ℕ → Option (List ℕ)
value_of [] name = None
value_of (m ∷ ms) name = first_of (value_of ms name) (if bytes_eq m.0 name then Some m.1 else None)

-- what is wrong with a macro
pub data MacroFault : Type 0 where
  unclosed : MacroFault
  unknown : List ℕ → MacroFault
  too_deep : MacroFault

abbrev pub Made : Type 0 → Type 0
Made A = Result A MacroFault

-- one or the other
abbrev pub either : {A B : Type 0} → B → (A → B) → Option A → B
either b f None = b
either b f (Some a) = f a

-- the first byte, and what follows
abbrev pub front : List ℕ → Option (ℕ × List ℕ)
front [] = None
front (b ∷ rest) = Some (b, rest)

-- The closing bracket of a macro that begins here, and what follows its opening bracket.
unfoldable pub opening : List ℕ → Option (ℕ × List ℕ)
opening [] = None
opening (b ∷ []) = None
opening (b ∷ x ∷ rest) =
    if b == 36 then (if x == 40 then Some (41, rest) else if x == 123 then Some (125, rest) else None) else None

-- what ends a macro's name: its closing bracket, `=`, or the end of the line
abbrev pub ends_name : ℕ → ℕ → Bool
ends_name closer b = b == closer || b == 61 || b == 10

abbrev pub named : List ℕ → List ℕ → Option (List ℕ × ℕ × List ℕ)
named name [] = None
named name (b ∷ rest) = if b == 10 then None else Some (name, b, rest)

-- a macro's name, the byte that ends it, and what follows
unfoldable pub name_at : ℕ → List ℕ → Option (List ℕ × ℕ × List ℕ)
name_at closer bytes =
    let n = before_first (ends_name closer) bytes in named (take n bytes) (drop n bytes)

-- what follows a default, by its innermost closing bracket, the other ones awaited, and the bytes to read
abbrev pub Behind : Type 0
Behind = ℕ → List ℕ → List ℕ → Option (List ℕ)

-- a bracket is closed
abbrev pub closed : Behind → List ℕ → List ℕ → Option (List ℕ)
closed behind [] rest = Some rest
closed behind (closer ∷ outer) rest = behind closer outer rest

-- A macro inside a default was opened: it has no default, or one of its own.
abbrev pub nested : Behind → ℕ → List ℕ → ℕ → Option (List ℕ × ℕ × List ℕ) → Option (List ℕ)
nested behind closer outer inner None = None
nested behind closer outer inner (Some x) =
    if x.1 == inner then behind closer outer x.2 else behind inner (closer ∷ outer) x.2

-- What follows the closing bracket of a default. Macros inside it are passed over whole; other brackets aren't counted.
unfoldable pub behind_default : ℕ → Behind
behind_default zero closer outer bytes = None
behind_default (suc n) closer outer [] = None
behind_default (suc n) closer outer (b ∷ rest) =
    if b == 10 then None
    else if b == closer then closed (behind_default n) outer rest
    else either (behind_default n closer outer rest)
    (λ m. nested (behind_default n) closer outer m.0 (name_at m.0 m.1)) (opening (b ∷ rest))

-- a macro: its name, its default where it has one, and what follows it
pub record Macro : Type 0 where
  pub name : List ℕ
  pub default : Option (List ℕ)
  pub rest : List ℕ

abbrev pub with_default : List ℕ → List ℕ → Option (List ℕ) → Option Macro
with_default name bytes None = None
with_default name bytes (Some rest) =
    Some (record { name = name; default = Some (take (length bytes - suc (length rest)) bytes); rest = rest })

abbrev pub macro_named : ℕ → Option (List ℕ × ℕ × List ℕ) → Option Macro
macro_named closer None = None
macro_named closer (Some x) =
    if x.1 == closer then Some (record { name = x.0; default = None; rest = x.2 })
    else with_default x.0 x.2 (behind_default (length x.2) closer [] x.2)

-- the macro whose opening bracket stood before these bytes, where it is closed
unfoldable pub macro_at : ℕ → List ℕ → Option Macro
macro_at closer bytes = macro_named closer (name_at closer bytes)

abbrev pub standing_of : List ℕ → Option (List ℕ) → Made (List ℕ)
standing_of name None = Err (unknown name)
standing_of name (Some text) = Ok text

-- the text that stands for a macro: its value, else its default
abbrev pub standing_for : Macros → Macro → Made (List ℕ)
standing_for ms m = standing_of m.name (first_of (value_of ms m.name) m.default)

abbrev pub followed : List ℕ → Made (List ℕ) → Made (List ℕ × List ℕ)
followed rest (Ok text) = Ok (text, rest)
followed rest (Err fault) = Err fault

-- The text that stands for a macro, and what follows the macro. So many levels of macros may still be opened.
abbrev pub chosen_of : Macros → ℕ → Option Macro → Made (List ℕ × List ℕ)
chosen_of ms room None = Err unclosed
chosen_of ms room (Some m) = if room == 0 then Err too_deep else followed m.rest (standing_for ms m)

unfoldable pub chosen : Macros → ℕ → ℕ → List ℕ → Made (List ℕ × List ℕ)
chosen ms room closer bytes = chosen_of ms room (macro_at closer bytes)

-- bytes before those that are made
abbrev pub before : {E : Type 0} → List ℕ → Result (List ℕ) E → Result (List ℕ) E
before made (Ok more) = Ok (made ++ more)
before made (Err fault) = Err fault

-- what a macro's text makes, and what the bytes after it make
abbrev pub made_then : (List ℕ → Made (List ℕ)) → List ℕ → Made (List ℕ) → Made (List ℕ)
made_then more rest (Err fault) = Err fault
made_then more rest (Ok text) = before text (more rest)

abbrev pub after_macro : (List ℕ → Made (List ℕ)) → (List ℕ → Made (List ℕ)) → Made (List ℕ × List ℕ) → Made (List ℕ)
after_macro inside more (Err fault) = Err fault
after_macro inside more (Ok m) = made_then more m.1 (inside m.0)

-- What a value or a default makes, where so many levels of macros may be opened: its macros are replaced, and every
-- other byte is kept. What stands for a macro is made by the function given.
unfoldable pub made_with : Macros → ℕ → (List ℕ → Made (List ℕ)) → ℕ → List ℕ → Made (List ℕ)
made_with ms room inside zero bytes = Ok []
made_with ms room inside (suc n) [] = Ok []
made_with ms room inside (suc n) (b ∷ rest) =
    either (before (b ∷ []) (made_with ms room inside n rest))
    (λ o. after_macro inside (made_with ms room inside n) (chosen ms room o.0 o.1)) (opening (b ∷ rest))

-- what stands for a macro makes, where so many levels may be opened with it
unfoldable pub made_inside : Macros → ℕ → List ℕ → Made (List ℕ)
made_inside ms zero text = Err too_deep
made_inside ms (suc room) text = made_with ms room (made_inside ms room) (length text) text
