-- What is so of every chain.
use Rattle.std.specs.Prelude.{◌≡◌, ◌≤◌, ℕ, ◌+◌, ◌==◌, true, false, List, [], ◌∷◌, if◌then◌else◌}
use Rattle.rec_kinds.specs.declared.state.RecState.{RecState}
use Rattle.db_links.specs.Chains.{Site, Step, IsChain, roots}
use Rattle.db_links.specs.Reaching.{Reached, is_among}

-- how often a record stands among steps
abbrev pub times : ℕ → List Step → ℕ
times q [] = 0
times q (step ∷ steps) = if q == step.0 then times q steps + 1 else times q steps

-- a root that reaches a record
pub record ReachedByRoot (site : Site) (actions : List Step) (q : ℕ) : Type 0 where
  pub root : ℕ
  pub is_root : is_among root (roots actions) ≡ true
  pub reaches : Reached site.links root q

-- Every step is on a record that a root reaches.
abbrev pub StepsAreReached : Type 0
StepsAreReached =
    (site : Site) (states : List RecState) (actions steps : List Step) → IsChain site states actions steps
    → (q : ℕ) → is_among q (roots steps) ≡ true → ReachedByRoot site actions q

-- A record that isn't a root stands in at most one step.
abbrev pub OthersOnce : Type 0
OthersOnce =
    (site : Site) (states : List RecState) (actions steps : List Step) → IsChain site states actions steps
    → (q : ℕ) → is_among q (roots actions) ≡ false → times q steps ≤ 1

-- The same actions after the same states have one chain.
abbrev pub OneChain : Type 0
OneChain =
    (site : Site) (states : List RecState) (actions steps others : List Step) → IsChain site states actions steps
    → IsChain site states actions others → steps ≡ others
