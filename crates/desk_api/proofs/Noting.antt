-- Numbers that are noted for others.
use Rattle.std.specs.Prelude.{◌≡◌, ℕ, zero, suc, ◌+◌, ◌<◌, ◌==◌, ◌||◌, ◌&&◌, Bool, List, replicate, [], ◌∷◌, ◌++◌, length, fold, set, take, slice_get, map, option_map, Option, Some, None, refl}
use Rattle.std.specs.BTreeSet.{insert_key}
use Rattle.std.specs.List.{list_any, AllByRecursion}
use Rattle.std.specs.Ordering.{nat_cmp, match_ordering}
use Rattle.std.specs.declared.cmp.Ordering.{Ordering}
use Rattle.std.specs.declared.cmp.Ordering.TheVariants.{Less, Equal, Greater}
use Rattle.std.proofs.Common.{true, false, arith, sym, ◌∙◌, ap, subst, eq-eqb}
use Rattle.std.proofs.lemmas.Bool.{false≢true, eqb-true, eqb-false}
use Rattle.std.proofs.lemmas.Map.Lookups.{exact_unsigned}
use Rattle.std.proofs.lemmas.List.Folds.{list_any-append}
use Rattle.std.proofs.lemmas.Option.{none-some, slice_get_within, slice_get-map}
use Rattle.std.proofs.lemmas.List.{length-map, map-set}
use Rattle.std.proofs.lemmas.Map.Keys.{any_passes_from_place}
use Rattle.group_view.specs.Groups.{GroupData}
use Rattle.group_view.specs.Leaves.{footprint, records_of, rising}
use Rattle.desk_api.specs.Grouping.{is_among, noted, is_noted, has_record, AreNoted}

-- ---- what is among numbers

or_later : (a b : Bool) → b ≡ true → (a || b) ≡ true
or_later true b is = refl
or_later false b is = is

pub here : (m : ℕ) (ns : List ℕ) → is_among (m ∷ ns) m ≡ true
here m ns = rw (eq-eqb m m refl) refl

pub later : (m : ℕ) (ns : List ℕ) (n : ℕ) → is_among ns n ≡ true → is_among (m ∷ ns) n ≡ true
later m ns n is = or_later (m == n) (is_among ns n) is

-- ---- numbers in rising order

module _ (P : ℕ → Type 0) where
  pub all_inserted : (ks : List ℕ) (k : ℕ) → AllByRecursion P ks → P k → AllByRecursion P (insert_key nat_cmp ks k)
  all_inserted [] k all one = (one, tt)
  all_inserted (x ∷ xs) k all one =
      elim (nat_cmp k x) as (λ (o : Ordering). AllByRecursion P (match_ordering o (k ∷ x ∷ xs) (x ∷ xs) (x ∷ insert_key nat_cmp xs k))) [
        | Less ↦ (one, all)
        | Equal ↦ all
        | Greater ↦ (all.0, all_inserted xs k all.1 one)
      ]

  all_folded : (ns ks : List ℕ) → AllByRecursion P ks → AllByRecursion P ns → AllByRecursion P (fold (insert_key nat_cmp) ks ns)
  all_folded [] ks all more = all
  all_folded (n ∷ ns) ks all more = all_folded ns (insert_key nat_cmp ks n) (all_inserted ks n all more.0) more.1

  pub all_rising : (ns : List ℕ) → AllByRecursion P ns → AllByRecursion P (rising ns)
  all_rising ns all = all_folded ns [] tt all

  one_here : (m n : ℕ) (b more : Bool) → P m → (more ≡ true → P n) → (m == n) ≡ b → (b || more) ≡ true → P n
  one_here m n true more here later same is = subst P (eqb-true m n same) here
  one_here m n false more here later same is = later is

  pub one_of_all : (ns : List ℕ) (n : ℕ) → AllByRecursion P ns → is_among ns n ≡ true → P n
  one_of_all [] n all is = absurd (false≢true is)
  one_of_all (m ∷ ns) n all is = one_here m n (m == n) (is_among ns n) all.0 (λ e. one_of_all ns n all.1 e) refl is

  pub all_from_each : (ns : List ℕ) → ((n : ℕ) → is_among ns n ≡ true → P n) → AllByRecursion P ns
  all_from_each [] each = tt
  all_from_each (m ∷ ns) each = (each m (here m ns), all_from_each ns (λ n is. each n (later m ns n is)))

pub or_false : (b : Bool) → (b || false) ≡ b
or_false true = refl
or_false false = refl

pub among_last : (ns : List ℕ) (k n : ℕ) → is_among (ns ++ k ∷ []) n ≡ (is_among ns n || k == n)
among_last ns k n = list_any-append (λ m. m == n) ns (k ∷ []) ∙ ap (λ (b : Bool). is_among ns n || b) (or_false (k == n))

pub among_both : (ns ms : List ℕ) (n : ℕ) → is_among (ns ++ ms) n ≡ (is_among ns n || is_among ms n)
among_both ns ms n = list_any-append (λ m. m == n) ns ms

stays_among : (ks : List ℕ) (k n : ℕ) → is_among ks n ≡ true → is_among (insert_key nat_cmp ks k) n ≡ true
stays_among [] k n is = absurd (false≢true is)
stays_among (x ∷ xs) k n is =
    elim (nat_cmp k x) as (λ (o : Ordering). is_among (match_ordering o (k ∷ x ∷ xs) (x ∷ xs) (x ∷ insert_key nat_cmp xs k)) n ≡ true) [
      | Less ↦ later k (x ∷ xs) n is
      | Equal ↦ is
      | Greater ↦ stays_first (x == n) (is_among xs n) (is_among (insert_key nat_cmp xs k) n) (λ e. stays_among xs k n e) is
    ]
  where
    stays_first : (b c d : Bool) → (c ≡ true → d ≡ true) → (b || c) ≡ true → (b || d) ≡ true
    stays_first true c d grows is = refl
    stays_first false c d grows is = grows is

same_when_equal : (k x : ℕ) → nat_cmp k x ≡ Equal → k ≡ x
same_when_equal k x is = exact_unsigned k x is

comes_among : (ks : List ℕ) (k : ℕ) → is_among (insert_key nat_cmp ks k) k ≡ true
comes_among [] k = here k []
comes_among (x ∷ xs) k = comes_by (nat_cmp k x) (comes_among xs k) refl where
  comes_by : (o : Ordering) → is_among (insert_key nat_cmp xs k) k ≡ true → nat_cmp k x ≡ o → is_among (match_ordering o (k ∷ x ∷ xs) (x ∷ xs) (x ∷ insert_key nat_cmp xs k)) k ≡ true
  comes_by Less more is = here k (x ∷ xs)
  comes_by Equal more is = subst (λ (j : ℕ). is_among (x ∷ xs) j ≡ true) (sym (same_when_equal k x is)) (here x xs)
  comes_by Greater more is = later x (insert_key nat_cmp xs k) k more

stays_folded : (ns ks : List ℕ) (n : ℕ) → is_among ks n ≡ true → is_among (fold (insert_key nat_cmp) ks ns) n ≡ true
stays_folded [] ks n is = is
stays_folded (m ∷ ns) ks n is = stays_folded ns (insert_key nat_cmp ks m) n (stays_among ks m n is)

comes_folded : (ns ks : List ℕ) (n : ℕ) → is_among ns n ≡ true → is_among (fold (insert_key nat_cmp) ks ns) n ≡ true
comes_folded [] ks n is = absurd (false≢true is)
comes_folded (m ∷ ns) ks n is = comes_first (m == n) (is_among ns n) refl (λ e. comes_folded ns (insert_key nat_cmp ks m) n e) is where
  comes_first : (b c : Bool) → (m == n) ≡ b → (c ≡ true → is_among (fold (insert_key nat_cmp) (insert_key nat_cmp ks m) ns) n ≡ true) → (b || c) ≡ true
      → is_among (fold (insert_key nat_cmp) (insert_key nat_cmp ks m) ns) n ≡ true
  comes_first true c same more is =
      let same : m ≡ n = eqb-true m n same in
      stays_folded ns (insert_key nat_cmp ks m) n (subst (λ (j : ℕ). is_among (insert_key nat_cmp ks m) j ≡ true) same (comes_among ks m))
  comes_first false c same more is = more is

pub among_rising : (ns : List ℕ) (n : ℕ) → is_among ns n ≡ true → is_among (rising ns) n ≡ true
among_rising ns n is = comes_folded ns [] n is

-- ---- what is noted

-- one more number noted for a record
abbrev pub with_noted : List (List ℕ) → ℕ → ℕ → List (List ℕ)
with_noted index rec n = set index rec (noted (slice_get index rec) ++ n ∷ [])

set_there : {A : Type 0} (xs : List A) (k : ℕ) (x : A) → k < length xs → slice_get (set xs k x) k ≡ Some x
set_there [] k x less = absurd (omega (arith, less))
set_there (y ∷ xs) zero x less = refl
set_there (y ∷ xs) (suc k) x less = set_there xs k x (omega (arith, less))

set_elsewhere : {A : Type 0} (xs : List A) (k j : ℕ) (x : A) → (k ≡ j → ⊥) → slice_get (set xs k x) j ≡ slice_get xs j
set_elsewhere [] k j x apart = refl
set_elsewhere (y ∷ xs) zero zero x apart = absurd (apart refl)
set_elsewhere (y ∷ xs) zero (suc j) x apart = refl
set_elsewhere (y ∷ xs) (suc k) zero x apart = refl
set_elsewhere (y ∷ xs) (suc k) (suc j) x apart = set_elsewhere xs k j x (λ e. apart (ap suc e))

note_by : (index : List (List ℕ)) (rec n r m : ℕ) (b : Bool) → rec < length index → (rec == r) ≡ b
    → is_noted (with_noted index rec n) r m ≡ (is_noted index r m || (b && n == m))
note_by index rec n r m true less is =
    let same : rec ≡ r = eqb-true rec r is in
    let old = noted (slice_get index rec) in
    ap (λ (j : ℕ). is_among (noted (slice_get (with_noted index rec n) j)) m) (sym same)
    ∙ ap (λ (o : Option (List ℕ)). is_among (noted o) m) (set_there index rec (old ++ n ∷ []) less)
    ∙ among_last old n m
    ∙ ap (λ (j : ℕ). is_noted index j m || n == m) same
note_by index rec n r m false less is =
    ap (λ (o : Option (List ℕ)). is_among (noted o) m) (set_elsewhere index rec r (noted (slice_get index rec) ++ n ∷ []) (eqb-false rec r is))
    ∙ sym (or_false (is_noted index r m))

-- one more note
pub noted_more : (index : List (List ℕ)) (rec n r m : ℕ) → rec < length index → is_noted (with_noted index rec n) r m ≡ (is_noted index r m || (rec == r && n == m))
noted_more index rec n r m less = note_by index rec n r m (rec == r) less refl

-- one more number pushed into the list of a record
pub noted_pushed : {V : Type 0} (items : V → List ℕ) (xs : List V) (rec n : ℕ) (old new : V) → slice_get xs rec ≡ Some old → items new ≡ items old ++ n ∷ []
    → (r m : ℕ) → is_noted (map items (set xs rec new)) r m ≡ (is_noted (map items xs) r m || (is_among (rec ∷ []) r && n == m))
noted_pushed {V} items xs rec n old new is more r m =
    let index = map items xs in
    let less : rec < length index = omega (arith, slice_get_within xs rec old is, length-map xs items) in
    let was : noted (slice_get index rec) ≡ items old = ap noted (slice_get-map items xs rec ∙ ap (option_map items) is) in
    let now : map items (set xs rec new) ≡ with_noted index rec n = map-set items xs rec new ∙ ap (set index rec) (more ∙ ap (λ (l : List ℕ). l ++ n ∷ []) (sym was)) in
    ap (λ (l : List (List ℕ)). is_noted l r m) now ∙ noted_more index rec n r m less ∙ ap (λ (b : Bool). is_noted index r m || (b && n == m)) (sym (or_false (rec == r)))

more_cases : (a b c d : Bool) → ((a || (b && d)) || (c && d)) ≡ (a || ((b || c) && d))
more_cases true b c d = refl
more_cases false true true true = refl
more_cases false true true false = refl
more_cases false true false true = refl
more_cases false true false false = refl
more_cases false false c d = refl

-- notes for some records, and then for one more
pub noted_each : (index now next : List (List ℕ)) (recs more : List ℕ) (n r m : ℕ)
    → is_noted now r m ≡ (is_noted index r m || (is_among recs r && n == m)) → is_noted next r m ≡ (is_noted now r m || (is_among more r && n == m))
    → is_noted next r m ≡ (is_noted index r m || (is_among (recs ++ more) r && n == m))
noted_each index now next recs more n r m before step =
    step ∙ ap (λ (b : Bool). b || (is_among more r && n == m)) before
    ∙ more_cases (is_noted index r m) (is_among recs r) (is_among more r) (n == m)
    ∙ ap (λ (b : Bool). is_noted index r m || (b && n == m)) (sym (among_both recs more r))

taken_elsewhere : {A : Type 0} (xs : List A) (n m : ℕ) (x : A) → slice_get xs n ≡ Some x → (n ≡ m → ⊥) → slice_get (take (suc n) xs) m ≡ slice_get (take n xs) m
taken_elsewhere [] n m x is apart = absurd (none-some x is)
taken_elsewhere (y ∷ xs) zero zero x is apart = absurd (apart refl)
taken_elsewhere (y ∷ xs) zero (suc m) x is apart = refl
taken_elsewhere (y ∷ xs) (suc n) zero x is apart = refl
taken_elsewhere (y ∷ xs) (suc n) (suc m) x is apart = taken_elsewhere xs n m x is (λ e. apart (ap suc e))

taken_there : {A : Type 0} (xs : List A) (n : ℕ) (x : A) → slice_get xs n ≡ Some x → slice_get (take (suc n) xs) n ≡ Some x
taken_there [] n x is = absurd (none-some x is)
taken_there (y ∷ xs) zero x is = is
taken_there (y ∷ xs) (suc n) x is = taken_there xs n x is

not_taken : {A : Type 0} (xs : List A) (n : ℕ) → slice_get (take n xs) n ≡ None
not_taken [] zero = refl
not_taken [] (suc n) = refl
not_taken (y ∷ xs) zero = refl
not_taken (y ∷ xs) (suc n) = not_taken xs n

and_false : (b : Bool) → (b && false) ≡ false
and_false true = refl
and_false false = refl

and_true : (b : Bool) → (b && true) ≡ b
and_true true = refl
and_true false = refl

grown_by : (xs : List GroupData) (n m r : ℕ) (x : GroupData) (b : Bool) → slice_get xs n ≡ Some x → (n == m) ≡ b
    → (has_record (slice_get (take n xs) m) r || (is_among (records_of x.members) r && b)) ≡ has_record (slice_get (take (suc n) xs) m) r
grown_by xs n m r x true is same =
    let here : n ≡ m = eqb-true n m same in
    ap (λ (o : Option GroupData). has_record o r || (is_among (records_of x.members) r && true)) (ap (λ (j : ℕ). slice_get (take n xs) j) (sym here) ∙ not_taken xs n)
    ∙ and_true (is_among (records_of x.members) r)
    ∙ ap (λ (o : Option GroupData). has_record o r) (sym (taken_there xs n x is) ∙ ap (λ (j : ℕ). slice_get (take (suc n) xs) j) here)
grown_by xs n m r x false is same =
    ap (λ (b : Bool). has_record (slice_get (take n xs) m) r || b) (and_false (is_among (records_of x.members) r))
    ∙ or_false (has_record (slice_get (take n xs) m) r)
    ∙ ap (λ (o : Option GroupData). has_record o r) (sym (taken_elsewhere xs n m x is (eqb-false n m same)))

-- notes of the first of a list, and then of one more
pub noted_all : (xs : List GroupData) (now next : List (List ℕ)) (n r m : ℕ) (x : GroupData) → slice_get xs n ≡ Some x
    → is_noted now r m ≡ has_record (slice_get (take n xs) m) r → is_noted next r m ≡ (is_noted now r m || (is_among (records_of x.members) r && n == m))
    → is_noted next r m ≡ has_record (slice_get (take (n + 1) xs) m) r
noted_all xs now next n r m x is before step =
    let more : suc n ≡ n + 1 = omega arith in
    step ∙ ap (λ (b : Bool). b || (is_among (records_of x.members) r && n == m)) before ∙ grown_by xs n m r x (n == m) is refl
    ∙ ap (λ (j : ℕ). has_record (slice_get (take j xs) m) r) more

-- nothing is noted in empty lists
pub none_noted : (count r m : ℕ) (index : List (List ℕ)) → index ≡ replicate count [] → is_noted index r m ≡ false
none_noted count r m index is = ap (λ (l : List (List ℕ)). is_noted l r m) is ∙ empty count r where
  empty : (count r : ℕ) → is_noted (replicate count []) r m ≡ false
  empty zero r = refl
  empty (suc count) zero = refl
  empty (suc count) (suc r) = empty count r

-- what is noted is a group's
pub noted_within : (index : List (List ℕ)) (groups : List GroupData) (rec n : ℕ) → AreNoted index groups → is_noted index rec n ≡ true → n < length groups
noted_within index groups rec n are is = within_by (slice_get groups n) refl (sym (are rec n) ∙ is) where
  within_by : (o : Option GroupData) → slice_get groups n ≡ o → has_record o rec ≡ true → n < length groups
  within_by None found has = absurd (false≢true has)
  within_by (Some g) found has = slice_get_within groups n g found

-- ---- what is read

abbrev pub is_read : Option GroupData → ℕ → ℕ → Bool
is_read None rec n = false
is_read (Some group) rec n = is_among (footprint group rec) n

read_more_cases : (a b c : Bool) → ((a || b) || c) ≡ (a || (b || c))
read_more_cases true b c = refl
read_more_cases false b c = refl

-- what one more group reads
pub read_more : (groups : List GroupData) (rec n k : ℕ) (ks before now next : List ℕ) (g : GroupData) → slice_get groups k ≡ Some g
    → is_among now n ≡ (is_among before n || list_any (λ j. is_read (slice_get groups j) rec n) ks) → next ≡ now ++ footprint g rec
    → is_among next n ≡ (is_among before n || list_any (λ j. is_read (slice_get groups j) rec n) (ks ++ k ∷ []))
read_more groups rec n k ks before now next g is so_far more =
    let test : ℕ → Bool = λ j. is_read (slice_get groups j) rec n in
    let own : test k ≡ is_among (footprint g rec) n = ap (λ (o : Option GroupData). is_read o rec n) is in
    ap (λ (l : List ℕ). is_among l n) more ∙ among_both now (footprint g rec) n
    ∙ ap (λ (b : Bool). b || is_among (footprint g rec) n) so_far
    ∙ read_more_cases (is_among before n) (list_any test ks) (is_among (footprint g rec) n)
    ∙ ap (λ (b : Bool). is_among before n || (list_any test ks || b)) (sym own ∙ sym (or_false (test k)))
    ∙ ap (λ (b : Bool). is_among before n || b) (sym (list_any-append test ks (k ∷ [])))

-- the groups that are noted for a record read what all groups read

pub some_place : {A : Type 0} (test : A → Bool) (xs : List A) → list_any test xs ≡ true → (k : ℕ) × (x : A) × (slice_get xs k ≡ Some x) × (test x ≡ true)
some_place test [] is = absurd (false≢true is)
some_place {A} test (x ∷ xs) is = here_or_there (test x) refl (λ e. some_place test xs e) is where
  here_or_there : (b : Bool) → test x ≡ b → (list_any test xs ≡ true → (k : ℕ) × (y : A) × (slice_get xs k ≡ Some y) × (test y ≡ true)) → (b || list_any test xs) ≡ true
      → (k : ℕ) × (y : A) × (slice_get (x ∷ xs) k ≡ Some y) × (test y ≡ true)
  here_or_there true passes more is = (0, x, refl, passes)
  here_or_there false passes more is = let found = more is in (suc found.0, found.1, found.2, found.3)

pub passes_there : {A : Type 0} (test : A → Bool) (xs : List A) (k : ℕ) (x : A) → slice_get xs k ≡ Some x → test x ≡ true → list_any test xs ≡ true
passes_there test xs k x is passes = any_passes_from_place test xs k x is passes

read_there : (groups : List GroupData) (rec n k : ℕ) (o : Option GroupData) → slice_get groups k ≡ o → is_read o rec n ≡ true → list_any (λ g. is_among (footprint g rec) n) groups ≡ true
read_there groups rec n k None there reads = absurd (false≢true reads)
read_there groups rec n k (Some g) there reads = passes_there (λ g. is_among (footprint g rec) n) groups k g there reads

pub read_by_noted : (groups : List GroupData) (ks : List ℕ) (rec n : ℕ) → list_any (λ j. is_read (slice_get groups j) rec n) ks ≡ true → list_any (λ g. is_among (footprint g rec) n) groups ≡ true
read_by_noted groups ks rec n is =
    let found = some_place (λ j. is_read (slice_get groups j) rec n) ks is in
    read_there groups rec n found.1 (slice_get groups found.1) refl found.3
