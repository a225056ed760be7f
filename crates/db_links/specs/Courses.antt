-- How far a chain is: what is left to do, how the records stand, and the steps so far.
use Rattle.std.specs.Prelude.{◌≡◌, ⊤, ◌<◌, ℕ, zero, suc, ◌+◌, ◌*◌, Bool, true, List, [], ◌∷◌, ◌++◌, length, Option, Some, None, if◌then◌else◌}
use Rattle.std.specs.List.{slice_get, sum_by}
use Rattle.std.specs.Option.{option_or}
use Rattle.std.specs.Ordering.{nat_cmp}
use Rattle.std.specs.BTreeSet.{contains_by}
use Rattle.std.specs.BTreeMap as maps
use Rattle.rec_kinds.specs.declared.datum.Datum.{Datum}
use Rattle.rec_kinds.specs.declared.datum.Action.{Action}
use Rattle.rec_kinds.specs.declared.datum.Action.TheVariants.{Put, Process}
use Rattle.rec_kinds.specs.declared.state.RecState.{RecState}
use Rattle.db_links.specs.Live.{are_inside}
use Rattle.db_links.specs.Chains.{Site, Scene, Step, opening, marked, stepped, source_of, fetched, written_of, forward_of, AreValid, MayBeStep}
use Rattle.db_links.specs.declared.course.Task.{Task}
use Rattle.db_links.specs.declared.course.Task.TheVariants.{Fetch, MakeStep, Forward}
use Rattle.db_links.specs.declared.course.Course.{Course}
use Rattle.db_links.specs.declared.course.Records.{Records}
use Rattle.db_links.specs.declared.link.Link.{Link}

pub record Stage : Type 0 where
  pub tasks : List Task
  pub scene : Scene
  pub steps : List Step

abbrev pub site_of : Records → Site
site_of r = record { links = r.links.now; configs = r.configs.now; moment = r.moment }

abbrev pub scene_of : List RecState → Course → Scene
scene_of before c = record {
  states = λ q. option_or (maps.get_by (nat_cmp q) c.states) (slice_get before q);
  done = λ q. contains_by (nat_cmp q) c.done;
}

abbrev pub stage_of : Records → Course → Stage
stage_of r c = record { tasks = c.tasks.items; scene = scene_of r.states.now c; steps = c.steps.items }

-- how many of the first n records aren't marked done
abbrev pub undone : ℕ → (ℕ → Bool) → ℕ
undone zero done = 0
undone (suc n) done = if done n then undone n done else undone n done + 1

-- how much a task is at most, counted in what it leaves behind
abbrev pub weight : Task → ℕ
weight (Fetch rec action) = 3
weight (MakeStep rec action) = 2
weight (Forward rec) = 1

-- how much is left: each record that isn't done may still bring a task
abbrev pub left_of : ℕ → Stage → ℕ
left_of n st = 3 * undone n st.scene.done + sum_by weight st.tasks

-- The tables are those of all the records, and links name some of these.
pub record IsSite (r : Records) : Type 0 where
  pub configs : length r.configs.now ≡ length r.links.now
  pub states : length r.states.now ≡ length r.links.now
  pub inside : are_inside r.links.now ≡ true

abbrev pub IsTask : Records → Task → Type 0
IsTask r (Fetch rec action) = (rec < length r.links.now) × MayBeStep r.configs.now (rec, action)
IsTask r (MakeStep rec action) = (rec < length r.links.now) × MayBeStep r.configs.now (rec, action)
IsTask r (Forward rec) = rec < length r.links.now

abbrev pub AreTasks : Records → List Task → Type 0
AreTasks r [] = ⊤
AreTasks r (t ∷ ts) = IsTask r t × AreTasks r ts

-- What is left may be done, the states are valid, and the marks are of these records.
pub record IsSound (r : Records) (stage : Stage) : Type 0 where
  pub tasks : AreTasks r stage.tasks
  pub valid : AreValid r.configs.now stage.scene.states
  pub inside : (q : ℕ) → stage.scene.done q ≡ true → q < length r.links.now

-- ---- one thing more

abbrev pub with_task : Task → Stage → Stage
with_task task st = record { tasks = st.tasks ++ task ∷ []; scene = st.scene; steps = st.steps }

abbrev pub with_mark : ℕ → Stage → Stage
with_mark rec st = record { tasks = st.tasks; scene = marked rec st.scene; steps = st.steps }

abbrev pub with_step : Site → ℕ → Action → Stage → Stage
with_step site rec action st =
    record { tasks = st.tasks; scene = stepped site rec action st.scene; steps = st.steps ++ (rec, action) ∷ [] }

abbrev pub begun : ℕ → Action → Stage → Stage
begun rec action st = with_task (Fetch rec action) (with_mark rec st)

abbrev pub asked : Option ℕ → Stage → Stage
asked None st = st
asked (Some rec) st = begun rec Process st

abbrev pub written : Site → Link → Action → Stage → Stage
written site link action st =
    if link.processes then begun link.target action st else with_step site link.target action (with_mark link.target st)

abbrev pub wrote : Site → Option (Link × Datum) → Stage → Stage
wrote site None st = st
wrote site (Some w) st = written site w.0 (Put w.1) st

abbrev pub after_step : Site → ℕ → Action → Stage → Stage
after_step site rec action st = with_task (Forward rec) (with_step site rec action st)

-- a task is done
abbrev pub turned : Site → Task → Stage → Stage
turned site (Fetch rec action) st = asked (source_of site rec action st.scene) (with_task (MakeStep rec action) st)
turned site (MakeStep rec action) st =
    let next = after_step site rec (fetched site rec action st.scene) st in wrote site (written_of site rec next.scene) next
turned site (Forward rec) st = asked (forward_of site rec st.scene) st

-- before a chain its roots are marked done
abbrev pub at_start : Records → List Step → Stage
at_start r actions = record { tasks = []; scene = opening r.states.now actions; steps = [] }
