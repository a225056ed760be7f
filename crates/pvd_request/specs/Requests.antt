-- What a request asks of a channel (pvAccess Protocol Specification, "pvRequest").
use Rattle.std.specs.Prelude.{◌≡◌, ◌≢◌, ◌≤◌, ℕ, List, [], ◌∷◌, codes, Option, Some, None, option_map, Result, Ok, Err, slice_get}
use Rattle.std.specs.Option.{option_and_then}
use Rattle.std.specs.FinSet.{from_list, empty}
use Rattle.pvd_type.specs.Tree.{Tree}
use Rattle.pvd_type.specs.Numbers.{numbered, number_at}
use Rattle.pvd_value.specs.Data.{Data}
use Rattle.pvd_value.specs.View.{view}
use Rattle.pvd_value.specs.declared.value.PvValue.{PvValue}
use Rattle.pvd_request.specs.Selection.{selected, HoldsLeaves}
use Rattle.pvd_request.specs.Options.{options_in}
use Rattle.pvd_request.specs.declared.options.Options.{Options}
use Rattle.pvd_request.specs.declared.request.Request.{Request}
use Rattle.pvd_request.specs.declared.request.RequestFault.{RequestFault}
use Rattle.pvd_request.specs.declared.request.RequestFault.TheVariants.{NothingSelected, BadOption, NoMemory}
use Rattle.pvd_request.specs.declared.request.Root.{Root}
use Rattle.pvd_request.specs.declared.request.Root.TheVariants as root

-- a request's type and its value
abbrev pub shown : Option (Tree × PvValue) → Option (Tree × Data)
shown request = option_map (λ r. (r.0, view r.1)) request

-- the part of a type that has this path
abbrev pub part_at : List ℕ → Tree → Option Tree
part_at path t = option_and_then (slice_get (numbered t)) (number_at path t)

abbrev pub or_else : Option Tree → Option Tree → Option Tree
or_else (Some t) other = Some t
or_else None other = other

-- the root: `field`, or `getField` where that is asked for and there
abbrev pub root_of : Root → Tree → Option Tree
root_of root.Field t = part_at (codes "field") t
root_of root.GetField t = or_else (part_at (codes "getField") t) (part_at (codes "field") t)

abbrev pub root_in : Root → Option (Tree × Data) → Option Tree
root_in which None = None
root_in which (Some r) = root_of which r.0

-- What is asked of these leaves with these options. That there is no leaf is told before a bad option.
abbrev pub asked : List ℕ → Result Options RequestFault → Result Request RequestFault
asked [] options = Err NothingSelected
asked (n ∷ ns) (Err fault) = Err fault
asked (n ∷ ns) (Ok o) =
    Ok (record { mask = from_list (n ∷ ns); atomic = o.atomic; queue = o.queue; pipeline = o.pipeline })

-- What a request asks of a channel of this type, or why it asks nothing.
abbrev pub request_of : Tree → Root → Option (Tree × Data) → Result Request RequestFault
request_of t which request = asked (selected t (root_in which request)) (options_in request)

-- What holds of each request that asks something: it asks for leaves of the type, for one at least, and its queue has 1 to
-- 64 places.
pub record IsSound (t : Tree) (r : Request) : Type 0 where
  pub holds : HoldsLeaves t r.mask
  pub some : r.mask ≢ empty
  pub least : 1 ≤ r.queue
  pub most : r.queue ≤ 64

-- what a call answers is what is told, or want of memory
abbrev pub Gives : {A : Type 0} → Result A RequestFault → Result A RequestFault → Type 0
Gives (Ok x) told = told ≡ Ok x
Gives (Err NothingSelected) told = told ≡ Err NothingSelected
Gives (Err (BadOption name)) told = told ≡ Err (BadOption name)
Gives (Err NoMemory) told = Unit {0}
