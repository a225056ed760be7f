-- The window of a pipelined monitor (pvAccess Protocol Specification, "Channel Monitor", pipeline).
use Rattle.std.specs.Prelude.{◌≡◌, ℕ, ◌+◌, ◌≤◌, List, [], ◌∷◌, take}

-- the greatest free number, 2^31 - 1
abbrev pub greatest : ℕ
greatest = 2147483647

-- What a window sees, in order: so many updates that are acknowledged, and an update that is sent.
pub data Step : Type 0 where
  acknowledged : ℕ → Step
  sent : Step

-- all that was acknowledged
abbrev pub acknowledged_in : List Step → ℕ
acknowledged_in [] = 0
acknowledged_in (acknowledged count ∷ steps) = count + acknowledged_in steps
acknowledged_in (sent ∷ steps) = acknowledged_in steps

-- how many updates were sent
abbrev pub sent_in : List Step → ℕ
sent_in [] = 0
sent_in (acknowledged count ∷ steps) = sent_in steps
sent_in (sent ∷ steps) = 1 + sent_in steps

-- The free number is the first count and all acknowledgements, less the updates sent. It is never above the greatest.
pub record IsFree (first : ℕ) (steps : List Step) (free : ℕ) : Type 0 where
  pub balance : free + sent_in steps ≡ first + acknowledged_in steps
  pub few : free ≤ greatest

-- A window that began with this first count and saw these steps has the free number that they leave, and it had one
-- after each of them: never was more sent than was free.
pub record StandsFor (window first : ℕ) (steps : List Step) : Type 0 where
  pub free : ℕ → ℕ
  pub always : (n : ℕ) → IsFree first (take n steps) (free n)
  pub now : IsFree first steps window
