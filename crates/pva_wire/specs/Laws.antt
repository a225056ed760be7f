-- What holds between the spellings of items and a reading of them.
use Rattle.std.specs.Prelude.{◌≡◌, ℕ, List, ◌++◌, Ok}
use Rattle.pva_wire.specs.Spelling.{IsBytes}
use Rattle.pva_wire.specs.Reading.{Read}

-- Two items that one list of bytes begins with are one, and so is what follows them.
abbrev pub OneReading : {A : Type 0} → (List ℕ → A → Type 0) → Type 0
OneReading {A} Spells = (a b r s : List ℕ) (x y : A) → Spells a x → Spells b y → a ++ r ≡ b ++ s → (x ≡ y) × (r ≡ s)

-- What is spelled at the front is read, whatever follows.
abbrev pub SpelledIsRead : {A : Type 0} → (List ℕ → A → Type 0) → (List ℕ → Read A) → Type 0
SpelledIsRead {A} Spells read = (front rest : List ℕ) (x : A) → Spells front x → read (front ++ rest) ≡ Ok (x, rest)

-- What is read is spelled at the front.
abbrev pub ReadIsSpelled : {A : Type 0} → (List ℕ → A → Type 0) → (List ℕ → Read A) → Type 0
ReadIsSpelled {A} Spells read = (bytes rest : List ℕ) (x : A) → IsBytes bytes → read bytes ≡ Ok (x, rest) → (front : List ℕ) × Spells front x × (bytes ≡ front ++ rest)
