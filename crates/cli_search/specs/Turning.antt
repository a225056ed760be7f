-- What calls of datagrams came to, one after another.
use Rattle.std.specs.Prelude.{◌≡◌, ℕ, ◌+◌, ◌^◌, ◌<◌, ◌≤◌, Bool, true, false, List, ◌++◌, Option, option_map, count_by}
use Rattle.pva_outside.specs.Count.{Rose}
use Rattle.pva_outside.specs.Traffic.{DatagramsView, Traffic, Got, Nothing, Tried}

-- these too, where the list is told
abbrev pub and_all : Option (List Traffic) → List Traffic → Option (List Traffic)
and_all told more = option_map (λ all. all ++ more) told

-- nothing was received
abbrev pub is_nothing : Traffic → Bool
is_nothing (Got bytes from) = false
is_nothing Nothing = true
is_nothing (Tried bytes to) = false

-- how often nothing was received
abbrev pub nothings : List Traffic → ℕ
nothings traffic = count_by is_nothing traffic

-- A count rose by so many at least. One that has come to 2^64 - 1 stands still, and tells no more.
pub record RoseBy (n old new : ℕ) : Type 0 where
  pub kept : old ≤ new
  pub more : new + 1 < 2 ^ 64 → old + n ≤ new

-- This is the traffic of some calls, none of which failed. The idles rose by one at least for each in which nothing came.
pub record Passed (old new : DatagramsView) (traffic : List Traffic) : Type 0 where
  pub traffic_is : new.traffic ≡ and_all old.traffic traffic
  pub bindings : new.bindings ≡ old.bindings
  pub faults : new.faults ≡ old.faults
  pub idles : RoseBy (nothings traffic) old.idles new.idles

-- This is the traffic of some calls, of which the last failed.
pub record Failed (old new : DatagramsView) (traffic : List Traffic) : Type 0 where
  pub traffic_is : new.traffic ≡ and_all old.traffic traffic
  pub bindings : new.bindings ≡ old.bindings
  pub faults : Rose old.faults new.faults
