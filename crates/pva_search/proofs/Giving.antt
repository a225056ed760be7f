-- What a response gives to the names that are open.
use Rattle.std.proofs.Common.{◌≡◌, ℕ, zero, suc, ◌+◌, ◌<◌, Bool, true, false, cond, ◌||◌, eqb, ltb, List, [], ◌∷◌, length, set, Option, Some, None, refl, sym, ap, ◌∙◌, arith, eq-eqb, inl, inr}
use Rattle.std.proofs.lemmas.Bool.{cases_lt, lt-ltb, le-ltb}
use Rattle.std.specs.List.{list_any}
use Rattle.pva_outside.specs.declared.peer.Peer.{Peer}
use Rattle.pva_wire.proofs.Takes.{differs}
use Rattle.pva_search.specs.Finding.{is_open, given, given_from}
use Rattle.pva_search.specs.Steps.{given_at}

-- the servers from a position on, where one number is named
abbrev pub give_from : ℕ → ℕ → Peer → List (Option Peer) → List (Option Peer)
give_from i x server [] = []
give_from i x server (s ∷ servers) = given (eqb x i) server s ∷ give_from (suc i) x server servers

given_twice : (a b : Bool) (server : Peer) (s : Option Peer) → given (a || b) server s ≡ given b server (given a server s)
given_twice true true server None = refl
given_twice true false server None = refl
given_twice false b server None = refl
given_twice true true server (Some t) = refl
given_twice true false server (Some t) = refl
given_twice false true server (Some t) = refl
given_twice false false server (Some t) = refl

one_more : (i x : ℕ) (xs : List ℕ) (server : Peer) (servers : List (Option Peer)) → given_from i (x ∷ xs) server servers ≡ given_from i xs server (give_from i x server servers)
one_more i x xs server [] = refl
one_more i x xs server (s ∷ servers) =
    ap (λ (t : Option Peer). t ∷ given_from (suc i) (x ∷ xs) server servers) (given_twice (eqb x i) (list_any (λ j. eqb j i) xs) server s)
    ∙ ap (λ (ts : List (Option Peer)). given (list_any (λ j. eqb j i) xs) server (given (eqb x i) server s) ∷ ts) (one_more (suc i) x xs server servers)

-- a number before all positions gives nothing
before : (i x : ℕ) (server : Peer) (servers : List (Option Peer)) → x < i → give_from i x server servers ≡ servers
before i x server [] h = refl
before i x server (s ∷ servers) h =
    let other : eqb x i ≡ false = differs x i (λ e. omega arith) in
    ap (λ (b : Bool). given b server s ∷ give_from (suc i) x server servers) other
    ∙ ap (λ (ts : List (Option Peer)). given false server s ∷ ts) (before (suc i) x server servers (omega arith))

same : (x : ℕ) → eqb x x ≡ true
same x = eq-eqb x x refl

past_end : (k : ℕ) (server : Peer) → given_at k server [] ≡ []
past_end k server = rw (le-ltb k 0 (omega arith)) refl

cons_either : (b : Bool) (s : Option Peer) (xs ys : List (Option Peer)) → cond b (s ∷ xs) (s ∷ ys) ≡ s ∷ cond b xs ys
cons_either true s xs ys = refl
cons_either false s xs ys = refl

ltb_suc : (a b : ℕ) → ltb (suc a) (suc b) ≡ ltb a b
ltb_suc a b =
    elim (cases_lt a b) [
      | inl lt ↦ rw (lt-ltb (suc a) (suc b) (omega arith), lt-ltb a b lt) refl
      | inr le ↦ rw (le-ltb (suc a) (suc b) (omega arith), le-ltb a b le) refl
    ]

at_first : (server : Peer) (s : Option Peer) (servers : List (Option Peer)) → given true server s ∷ servers ≡ given_at 0 server (s ∷ servers)
at_first server None servers = rw (lt-ltb 0 (suc (length servers)) (omega arith)) refl
at_first server (Some t) servers = rw (lt-ltb 0 (suc (length servers)) (omega arith)) refl

at_later : (k : ℕ) (server : Peer) (s : Option Peer) (servers : List (Option Peer)) → s ∷ given_at k server servers ≡ given_at (suc k) server (s ∷ servers)
at_later k server s servers = rw (ltb_suc k (length servers)) (sym (cons_either (is_open servers k) s (set servers k (Some server)) servers))

at_place : (k i : ℕ) (server : Peer) (servers : List (Option Peer)) → give_from i (i + k) server servers ≡ given_at k server servers
at_place k i server [] = sym (past_end k server)
at_place zero i server (s ∷ servers) =
    let e : i + 0 ≡ i = omega arith in
    ap (λ (x : ℕ). give_from i x server (s ∷ servers)) e
    ∙ ap (λ (b : Bool). given b server s ∷ give_from (suc i) i server servers) (same i)
    ∙ ap (λ (ts : List (Option Peer)). given true server s ∷ ts) (before (suc i) i server servers (omega arith))
    ∙ at_first server s servers
at_place (suc k) i server (s ∷ servers) =
    let e : i + suc k ≡ suc i + k = omega arith in
    let other : eqb (suc i + k) i ≡ false = differs (suc i + k) i (λ h. omega arith) in
    ap (λ (x : ℕ). give_from i x server (s ∷ servers)) e
    ∙ ap (λ (b : Bool). given b server s ∷ give_from (suc i) (suc i + k) server servers) other
    ∙ ap (λ (ts : List (Option Peer)). s ∷ ts) (at_place k (suc i) server servers)
    ∙ at_later k server s servers

-- one number more of a response
pub given_more : (x : ℕ) (xs : List ℕ) (server : Peer) (servers : List (Option Peer)) → given_from 0 (x ∷ xs) server servers ≡ given_from 0 xs server (given_at x server servers)
given_more x xs server servers =
    let e : 0 + x ≡ x = omega arith in
    one_more 0 x xs server servers
    ∙ ap (given_from 0 xs server) (ap (λ (y : ℕ). give_from 0 y server servers) (sym e) ∙ at_place x 0 server servers)

-- a response that names none
pub given_none : (i : ℕ) (server : Peer) (servers : List (Option Peer)) → given_from i [] server servers ≡ servers
given_none i server [] = refl
given_none i server (s ∷ servers) = ap (λ (ts : List (Option Peer)). s ∷ ts) (given_none (suc i) server servers)

pub or_assoc : (a b c : Bool) → (a || (b || c)) ≡ ((a || b) || c)
or_assoc true b c = refl
or_assoc false b c = refl

pub or_false : (a : Bool) → (a || false) ≡ a
or_false true = refl
or_false false = refl

told_true : (told a b : Bool) → (told || (true || a)) ≡ ((told || true) || b)
told_true true a b = refl
told_true false a b = refl

told_by : (told : Bool) (x : ℕ) (xs : List ℕ) (server : Peer) (servers : List (Option Peer)) (b : Bool) → is_open servers x ≡ b
    → (told || (b || list_any (is_open servers) xs)) ≡ ((told || b) || list_any (is_open (given_at x server servers)) xs)
told_by told x xs server servers true e = told_true told (list_any (is_open servers) xs) (list_any (is_open (given_at x server servers)) xs)
told_by told x xs server servers false e =
    let same : given_at x server servers ≡ servers = ap (λ (b : Bool). cond b (set servers x (Some server)) servers) e in
    or_assoc told false (list_any (is_open servers) xs)
    ∙ ap (λ (ss : List (Option Peer)). (told || false) || list_any (is_open ss) xs) (sym same)

-- whether anything is new, with one number more
pub told_more : (told : Bool) (x : ℕ) (xs : List ℕ) (server : Peer) (servers : List (Option Peer))
    → (told || list_any (is_open servers) (x ∷ xs)) ≡ ((told || is_open servers x) || list_any (is_open (given_at x server servers)) xs)
told_more told x xs server servers = told_by told x xs server servers (is_open servers x) refl
