-- What one entry does to records by their live links (EPICS record reference, "Scan, Link and Lock").
use Rattle.std.specs.Prelude.{◌≡◌, ◌<◌, ⊤, ℕ, ◌==◌, Bool, true, ◌||◌, List, [], ◌∷◌, ◌++◌, map, Option, Some, None, if◌then◌else◌}
use Rattle.std.specs.List.{slice_get}
use Rattle.std.specs.Option.{option_and_then, option_map}
use Rattle.rec_kinds.specs.Configs.{Config}
use Rattle.rec_kinds.specs.Moments.{Instant}
use Rattle.rec_kinds.specs.Processing.{processed}
use Rattle.rec_kinds.specs.Validity.{IsValid, MayBeDone}
use Rattle.rec_kinds.specs.declared.datum.Datum.{Datum}
use Rattle.rec_kinds.specs.declared.datum.Action.{Action}
use Rattle.rec_kinds.specs.declared.datum.Action.TheVariants.{Put, Process}
use Rattle.rec_kinds.specs.declared.state.RecState.{RecState}
use Rattle.db_links.specs.Converting.{converted}
use Rattle.db_links.specs.Reaching.{is_among}
use Rattle.db_links.specs.declared.link.Link.{Link}
use Rattle.db_links.specs.declared.link.RecordLinks.{RecordLinks}

-- the records' links and configurations, and the moment at which all is done
pub record Site : Type 0 where
  pub links : List RecordLinks
  pub configs : List Config
  pub moment : Instant

-- A record, and what is done to it.
abbrev pub Step : Type 0
Step = ℕ × Action

-- How the records stand: their states, and which of them are marked done.
pub record Scene : Type 0 where
  pub states : ℕ → Option RecState
  pub done : ℕ → Bool

abbrev pub marked : ℕ → Scene → Scene
marked rec s = record { states = s.states; done = λ q. q == rec || s.done q }

-- ---- a step

abbrev pub state_after : Instant → Action → Option Config → Option RecState → Option RecState
state_after moment action (Some config) (Some old) = Some (processed config old action moment true)
state_after moment action _ old = old

-- The record is processed with the action; what its port says has no part in what a chain does.
abbrev pub stepped : Site → ℕ → Action → Scene → Scene
stepped site rec action s = record {
  states = λ q. if q == rec then state_after site.moment action (slice_get site.configs rec) (s.states rec) else s.states q;
  done = s.done;
}

-- ---- what links ask for

-- one of a record's links
abbrev pub link_at : (RecordLinks → Option Link) → Site → ℕ → Option Link
link_at which site rec = option_and_then which (slice_get site.links rec)

abbrev pub inp_at : Site → ℕ → Option Link
inp_at = link_at (λ l. l.inp)

abbrev pub out_at : Site → ℕ → Option Link
out_at = link_at (λ l. l.out)

abbrev pub flnk_at : Site → ℕ → Option Link
flnk_at = link_at (λ l. l.flnk)

-- a link whose record isn't marked done
abbrev pub open_link : Scene → Link → Option Link
open_link s link = if s.done link.target then None else Some link

-- the record of a PP link
abbrev pub pp_target : Link → Option ℕ
pp_target link = if link.processes then Some link.target else None

-- INP: the source that is processed before the record is
abbrev pub source_of : Site → ℕ → Action → Scene → Option ℕ
source_of site rec (Put datum) s = None
source_of site rec Process s = option_and_then pp_target (option_and_then (open_link s) (inp_at site rec))

-- what moves from one record into another
abbrev pub moved : Site → Scene → ℕ → ℕ → Option Datum
moved site s from to =
    option_and_then (λ config. option_and_then (λ state. converted config state.datum) (s.states from)) (slice_get site.configs to)

abbrev pub put_or_process : Option Datum → Action
put_or_process None = Process
put_or_process (Some datum) = Put datum

-- INP: what is done to the record then
abbrev pub fetched : Site → ℕ → Action → Scene → Action
fetched site rec (Put datum) s = Put datum
fetched site rec Process s = put_or_process (option_and_then (λ link. moved site s link.target rec) (inp_at site rec))

-- OUT: where to and what the record writes
abbrev pub written_of : Site → ℕ → Scene → Option (Link × Datum)
written_of site rec s =
    option_and_then (λ link. option_map (λ datum. (link, datum)) (moved site s rec link.target))
    (option_and_then (open_link s) (out_at site rec))

-- FLNK: the record that is processed next
abbrev pub forward_of : Site → ℕ → Scene → Option ℕ
forward_of site rec s = option_map (λ link. link.target) (option_and_then (open_link s) (flnk_at site rec))

-- ---- the chain

-- what a link asks for: nothing, a step without further links, or an action with all that follows from it
pub data Due : Type 0 where
  nothing : Due
  alone : ℕ → Action → Due
  whole : ℕ → Action → Due

abbrev pub processing : Option ℕ → Due
processing None = nothing
processing (Some rec) = whole rec Process

abbrev pub writing : Option (Link × Datum) → Due
writing None = nothing
writing (Some w) = if w.0.processes then whole w.0.target (Put w.1) else alone w.0.target (Put w.1)

-- Doing what is due, from one scene to another, is these steps. An action on a record marks it done; then come what INP
-- asks for, the record's own step, what OUT asks for, and what FLNK asks for, each in the scene that the one before left.
pub data Does (site : Site) : Due → Scene → List Step → Scene → Type 0 where
  nothing_due : {s : Scene} → Does site nothing s [] s
  one_step : {rec : ℕ} {action : Action} {s : Scene}
      → Does site (alone rec action) s ((rec, action) ∷ []) (stepped site rec action (marked rec s))
  in_order : {rec : ℕ} {action : Action} {s fed out end : Scene} {first next last : List Step}
      → Does site (processing (source_of site rec action (marked rec s))) (marked rec s) first fed
      → Does site (writing (written_of site rec (stepped site rec (fetched site rec action fed) fed)))
      (stepped site rec (fetched site rec action fed) fed) next out
      → Does site (processing (forward_of site rec out)) out last end
      → Does site (whole rec action) s (first ++ (rec, fetched site rec action fed) ∷ (next ++ last)) end

-- Doing actions one after another.
pub data DoesAll (site : Site) : List Step → Scene → List Step → Scene → Type 0 where
  all_done : {s : Scene} → DoesAll site [] s [] s
  one_more : {rec : ℕ} {action : Action} {actions : List Step} {s next end : Scene} {first others : List Step}
      → Does site (whole rec action) s first next
      → DoesAll site actions next others end
      → DoesAll site ((rec, action) ∷ actions) s (first ++ others) end

-- The records with an action of their own are the roots.
abbrev pub roots : List Step → List ℕ
roots actions = map (λ step. step.0) actions

-- The scene before: the roots are marked done.
abbrev pub opening : List RecState → List Step → Scene
opening states actions = record { states = slice_get states; done = λ q. is_among q (roots actions) }

-- These are the steps of an entry's actions after these states.
pub record IsChain (site : Site) (states : List RecState) (actions steps : List Step) : Type 0 where
  pub end : Scene
  pub does : DoesAll site actions (opening states actions) steps end

-- ---- what may be asked

-- each state is one that its record may be in
abbrev pub AreValid : List Config → (ℕ → Option RecState) → Type 0
AreValid configs states =
    (q : ℕ) (config : Config) (state : RecState) → slice_get configs q ≡ Some config → states q ≡ Some state → IsValid config state

-- an action may be done to its record
abbrev pub MayBeStep : List Config → Step → Type 0
MayBeStep configs step = (config : Config) → slice_get configs step.0 ≡ Some config → MayBeDone config step.1

-- each of these actions may, and is on one of so many records
abbrev pub MayBeAsked : List Config → ℕ → List Step → Type 0
MayBeAsked configs count [] = ⊤
MayBeAsked configs count (step ∷ steps) = (step.0 < count) × MayBeStep configs step × MayBeAsked configs count steps
