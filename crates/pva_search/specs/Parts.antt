-- What the parts of a reading give, as the program holds them.
use Rattle.std.specs.Prelude.{◌≡◌, ◌<◌, ℕ, List, Bool, Option, Some, None, Result, Ok, Err, length}
use Rattle.pva_wire.specs.declared.order.Order.{Order}
use Rattle.pva_wire.specs.declared.fault.Stop.{Stop}
use Rattle.pva_wire.specs.declared.fault.Stop.TheVariants.{Memory, Fault}
use Rattle.pva_wire.specs.Reading.{Read, Fails, ◌>>=◌, number_at}
use Rattle.pva_search.specs.Messages.{Search, Response}
use Rattle.pva_search.specs.Reading.{each_at, channel_at}
use Rattle.pva_search.specs.Answers.{speaks_tcp, known_of}
use Rattle.pva_search.specs.declared.search.ReadSearch.{ReadSearch}
use Rattle.pva_search.specs.declared.response.ReadResponse.{ReadResponse}

-- what f makes of what is read
abbrev pub mapped : {A B : Type 0} → (A → B) → Read A → Read B
mapped f read = read >>= λ x. Ok (f x.0, x.1)

-- a search as the program holds it: its channels stand in the datagram
pub record HoldsSearch (x : ReadSearch) (s : Search) : Type 0 where
  pub head : x.head ≡ s.head
  pub protocols : x.speaks_tcp ≡ speaks_tcp s.protocols
  pub after : List ℕ
  pub channels : each_at (channel_at x.order) x.count x.channels.now ≡ Ok (s.channels, after)

-- the same of a response
pub record HoldsResponse (x : ReadResponse) (r : Response) : Type 0 where
  pub address : x.address ≡ r.address
  pub port : x.port ≡ r.port
  pub found : x.found ≡ r.found
  pub after : List ℕ
  pub instances : each_at (number_at x.order 4) x.count x.instances.now ≡ Ok (r.instances, after)

-- what a reader gave is what reading gives
abbrev pub Reads : {X A : Type 0} → (X → A → Type 0) → Result X Stop → Read A → Type 0
Reads {X} {A} Is (Ok x) read = (a : A) × (rest : List ℕ) × (read ≡ Ok (a, rest)) × Is x a
Reads Is (Err e) read = Fails e read

-- what was found in a datagram, in its order
abbrev pub Finds : {X A : Type 0} → (X → Order) → (X → A → Type 0) → Option X → Option (Order × A) → Type 0
Finds {X} {A} order Is (Some x) found = (a : A) × (found ≡ Some (order x, a)) × Is x a
Finds order Is None found = found ≡ None

-- The numbers of the channels whose names this test tells, among so many that stand in the bytes. Memory is taken only
-- where there are some.
abbrev pub IsKnown : {X : Type 0} → (X → List ℕ) → (List ℕ → Bool) → Order → ℕ → List ℕ → Result X Stop → Type 0
IsKnown view test order count channels (Ok v) =
    (after : List ℕ) × (mapped (known_of test) (each_at (channel_at order) count channels) ≡ Ok (view v, after))
IsKnown view test order count channels (Err Memory) =
    (found after : List ℕ) → mapped (known_of test) (each_at (channel_at order) count channels) ≡ Ok (found, after)
    → 0 < length found
IsKnown view test order count channels (Err (Fault cause left)) =
    mapped (known_of test) (each_at (channel_at order) count channels) ≡ Err (cause, left)
