-- What reading a text gives: something, or why it can't be read on.
use Rattle.std.specs.Prelude.{◌≡◌, List, [], ◌∷◌, Option, None, Some, Result, Ok, Err}
use Rattle.group_defs.specs.declared.fault.Stop.{Stop}
use Rattle.group_defs.specs.declared.fault.Stop.TheVariants.{BadMember, NoMemory}

abbrev pub Told : Type 0 → Type 0
Told A = Result A Stop

infixl 10 ◌>>=◌
abbrev pub ◌>>=◌ : {A B E : Type 0} → Result A E → (A → Result B E) → Result B E
(Ok x) >>= f = f x
(Err e) >>= f = Err e

-- what steps make of something, one for each of a list, up to the first that fails
abbrev pub each : {S X E : Type 0} → (S → X → Result S E) → S → List X → Result S E
each step s [] = Ok s
each step s (x ∷ xs) = step s x >>= λ s. each step s xs

-- a value of the type that is asked for
abbrev pub given : {A : Type 0} → Option A → Told A
given None = Err BadMember
given (Some x) = Ok x

-- What a function returned, seen by view, is what reading gives; want of memory is free.
abbrev pub Fails : {Y : Type 0} → Stop → Told Y → Type 0
Fails NoMemory told = Unit {0}
Fails stop told = told ≡ Err stop

abbrev pub Gives : {X Y : Type 0} → (X → Y) → Told X → Told Y → Type 0
Gives view (Ok x) told = told ≡ Ok (view x)
Gives view (Err e) told = Fails e told
