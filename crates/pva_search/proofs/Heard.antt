-- A search that a finder writes is answered, and the answer is heard.
use Rattle.std.proofs.Common.{◌≡◌, ◌∙◌, ℕ, zero, suc, ◌+◌, ◌<◌, ◌||◌, Bool, true, false, cond, eqb, List, [], ◌∷◌, ◌++◌, length, get_or, Option, None, refl, sym, ap, arith}
use Rattle.std.proofs.lemmas.Bool.{eqb-true}
use Rattle.std.specs.List.{filter, list_any}
use Rattle.pva_outside.specs.declared.peer.Peer.{Peer}
use Rattle.pva_search.specs.Answers.{known_of}
use Rattle.pva_search.specs.Finding.{channels_of, given, given_from}

-- a number is among these
abbrev pub has : ℕ → List ℕ → Bool
has i xs = list_any (λ j. eqb j i) xs

-- which number it is, or that it is a later one
pub either : (a b : Bool) {P : Type 0} → (a || b) ≡ true → (a ≡ true → P) → (b ≡ true → P) → P
either true b h first later = first refl
either false b h first later = later h

pub or_first : (a b : Bool) → a ≡ true → (a || b) ≡ true
or_first true b e = refl
or_first false b e = absurd cc

pub or_later : (a b : Bool) → b ≡ true → (a || b) ≡ true
or_later true b e = refl
or_later false b e = e

pub in_front : (i : ℕ) (xs ys : List ℕ) → has i xs ≡ true → has i (xs ++ ys) ≡ true
in_front i [] ys h = absurd cc
in_front i (x ∷ xs) ys h =
    either (eqb x i) (has i xs) h (λ e. or_first (eqb x i) (has i (xs ++ ys)) e) (λ e. or_later (eqb x i) (has i (xs ++ ys)) (in_front i xs ys e))

-- a test holds of what passed it
passed : (p : ℕ → Bool) (i x : ℕ) (b : Bool) (rest : List ℕ) → p x ≡ b → has i (cond b (x ∷ rest) rest) ≡ true → (has i rest ≡ true → p i ≡ true) → p i ≡ true
passed p i x false rest e h later = later h
passed p i x true rest e h later =
    either (eqb x i) (has i rest) h (λ same. ap p (sym (eqb-true x i same)) ∙ e) later

pub in_filter : (p : ℕ → Bool) (i : ℕ) (xs : List ℕ) → has i (filter p xs) ≡ true → p i ≡ true
in_filter p i [] h = absurd cc
in_filter p i (x ∷ xs) h = passed p i x (p x) (filter p xs) refl h (in_filter p i xs)

pub any_of : (p : ℕ → Bool) (i : ℕ) (xs : List ℕ) → has i xs ≡ true → p i ≡ true → list_any p xs ≡ true
any_of p i [] h e = absurd cc
any_of p i (x ∷ xs) h e =
    either (eqb x i) (has i xs) h (λ same. or_first (p x) (list_any p xs) (ap p (eqb-true x i same) ∙ e)) (λ later. or_later (p x) (list_any p xs) (any_of p i xs later e))

pub some_in : (i : ℕ) (xs : List ℕ) → has i xs ≡ true → 0 < length xs
some_in i [] h = absurd cc
some_in i (x ∷ xs) h = omega arith

-- what a step of `known_of` keeps
kept : (i x : ℕ) (b : Bool) (rest : List ℕ) → has i rest ≡ true → has i (cond b (x ∷ rest) rest) ≡ true
kept i x true rest h = or_later (eqb x i) (has i rest) h
kept i x false rest h = h

first_kept : (i x : ℕ) (b : Bool) (rest : List ℕ) → b ≡ true → eqb x i ≡ true → has i (cond b (x ∷ rest) rest) ≡ true
first_kept i x true rest e same = or_first (eqb x i) (has i rest) same
first_kept i x false rest e same = absurd cc

pub known_step : (test : List ℕ → Bool) (x : ℕ) (name : List ℕ) (cs : List (ℕ × List ℕ)) (b : Bool) → test name ≡ b → known_of test ((x, name) ∷ cs) ≡ cond b (x ∷ known_of test cs) (known_of test cs)
known_step test x name cs true e = rw e refl
known_step test x name cs false e = rw e refl

-- a name that is known is among the numbers of a response
pub in_known : (test : List ℕ → Bool) (names : List (List ℕ)) (i : ℕ) (numbers : List ℕ) → has i numbers ≡ true → test (get_or names i []) ≡ true
    → has i (known_of test (channels_of names numbers)) ≡ true
in_known test names i [] h e = absurd cc
in_known test names i (x ∷ numbers) h e =
    let rest = known_of test (channels_of names numbers) in
    let b = test (get_or names x []) in
    ap (has i) (known_step test x (get_or names x []) (channels_of names numbers) b refl)
    ∙ either (eqb x i) (has i numbers) h
    (λ same. first_kept i x b rest (ap (λ (j : ℕ). test (get_or names j [])) (eqb-true x i same) ∙ e) same)
    (λ later. kept i x b rest (in_known test names i numbers later e))

-- what a response gives at a position
pub given_at_position : (k j : ℕ) (numbers : List ℕ) (server : Peer) (servers : List (Option Peer)) → j < length servers
    → get_or (given_from k numbers server servers) j None ≡ given (has (k + j) numbers) server (get_or servers j None)
given_at_position k j numbers server [] h = absurd (omega arith)
given_at_position k zero numbers server (s ∷ servers) h =
    let e : k ≡ k + 0 = omega arith in
    ap (λ (n : ℕ). given (has n numbers) server s) e
given_at_position k (suc j) numbers server (s ∷ servers) h =
    let e : suc k + j ≡ k + suc j = omega arith in
    given_at_position (suc k) j numbers server servers (omega arith) ∙ ap (λ (n : ℕ). given (has n numbers) server (get_or servers j None)) e
