-- What is left to do of a chain.
use Rattle.std.specs.Prelude.{◌≡◌, ℕ, List, [], ◌∷◌, ◌++◌}
use Rattle.rec_kinds.specs.declared.datum.Action.{Action}
use Rattle.db_links.specs.Chains.{Site, Scene, Step, Does, DoesAll, stepped, source_of, fetched, written_of, forward_of, processing, writing, whole}
use Rattle.db_links.specs.Courses.{Stage}
use Rattle.db_links.specs.declared.course.Task.{Task}
use Rattle.db_links.specs.declared.course.Task.TheVariants.{Fetch, MakeStep, Forward}

-- ---- what each task means

-- a record's step by this action, and what follows
pub record Ends (site : Site) (rec : ℕ) (action : Action) (s : Scene) (steps : List Step) (end : Scene) : Type 0 where
  pub out : Scene
  pub next : List Step
  pub last : List Step
  pub writes : Does site (writing (written_of site rec (stepped site rec action s))) (stepped site rec action s) next out
  pub forwards : Does site (processing (forward_of site rec out)) out last end
  pub made : steps ≡ (rec, action) ∷ (next ++ last)

-- all that follows once a record is marked done
pub record Begins (site : Site) (rec : ℕ) (action : Action) (s : Scene) (steps : List Step) (end : Scene) : Type 0 where
  pub fed : Scene
  pub first : List Step
  pub rest : List Step
  pub asks : Does site (processing (source_of site rec action s)) s first fed
  pub ends : Ends site rec (fetched site rec action fed) fed rest end
  pub made : steps ≡ first ++ rest

abbrev pub Means : Site → Task → Scene → List Step → Scene → Type 0
Means site (Fetch rec action) s xs e = Begins site rec action s xs e
Means site (MakeStep rec action) s xs e = Ends site rec (fetched site rec action s) s xs e
Means site (Forward rec) s xs e = Does site (processing (forward_of site rec s)) s xs e

-- what is left, of which the last comes first
abbrev pub Rest : Site → List Task → Scene → List Step → Scene → Type 0
Rest site [] s xs e = (xs ≡ []) × (s ≡ e)
Rest site (t ∷ ts) s xs e = (mid : Scene) × (ys : List Step) × (zs : List Step) × Rest site ts s ys mid × Means site t mid zs e × (xs ≡ ys ++ zs)

pub record Later (site : Site) (a : Stage) (steps : List Step) (e : Scene) : Type 0 where
  pub more : List Step
  pub rest : Rest site a.tasks a.scene more e
  pub made : a.steps ++ more ≡ steps

-- Doing what the second leaves is doing what the first leaves.
abbrev pub Leads : Site → Stage → Stage → Type 0
Leads site a b = (xs : List Step) (e : Scene) → Rest site b.tasks b.scene xs e → Later site a (b.steps ++ xs) e

-- These actions are done from the first stage, some of whose steps these are.
pub record Took (site : Site) (actions : List Step) (a : Stage) (steps : List Step) (e : Scene) : Type 0 where
  pub more : List Step
  pub does : DoesAll site actions a.scene more e
  pub made : a.steps ++ more ≡ steps

-- an action is done from one stage to another
pub record Goes (site : Site) (step : Step) (a b : Stage) : Type 0 where
  pub more : List Step
  pub does : Does site (whole step.0 step.1) a.scene more b.scene
  pub made : b.steps ≡ a.steps ++ more
