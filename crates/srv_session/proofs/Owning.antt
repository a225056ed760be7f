-- What marks make of slots, and which requests have them.
use Rattle.std.proofs.Common.{◌≡◌, ◌==◌, ◌||◌, ℕ, ◌+◌, ◌≤◌, Bool, true, false, cond, T, List, [], ◌∷◌, ◌++◌, Option, None, Some, map, refl, sym, ◌∙◌, ap, subst, arith, inl, inr}
use Rattle.std.specs.Prelude.{◌⊎◌, is_some}
use Rattle.std.specs.List.{flat_map, list_any}
use Rattle.std.specs.FinMap.{FinMap, get as at, keys, entries, entries_sorted, is_sorted, contains_key-keys}
use Rattle.std.specs.FinMap.Entries.{below_all}
use Rattle.std.specs.Ordering.{nat_cmp, eq_by_cmp}
use Rattle.std.proofs.lemmas.Bool.{false≢true}
use Rattle.std.proofs.lemmas.Bool.Decides.{nat_tests}
use Rattle.desk_api.specs.Calls.{IsEnding}
use Rattle.desk_api.specs.Living.{Living, living_with, living_after}
use Rattle.desk_api.specs.declared.mark.Mark.{Mark}
use Rattle.desk_api.specs.declared.mark.Mark.TheVariants.{Dropped}
use Rattle.desk_api.specs.declared.sub.Sub.{Sub}
use Rattle.srv_session.specs.State.{Requests, Asked, slot_of_sub, slot_of, slots_of}
use Rattle.srv_session.specs.Rows.{AreEndingsOf}
use Rattle.srv_session.proofs.Tables.{AllFrom, above, both_parts, tied_back}

-- Marks leave what lives in each slot.
abbrev pub AllLeave : List Mark → Type 0
AllLeave marks = (slot : ℕ) (o : Option Living) → living_after slot o marks ≡ o

pub living_append : (slot : ℕ) (o : Option Living) (xs ys : List Mark) → living_after slot o (xs ++ ys) ≡ living_after slot (living_after slot o xs) ys
living_append slot o [] ys = refl
living_append slot o (x ∷ xs) ys = living_append slot (living_with slot o x) xs ys

-- A list of slots has a slot.
abbrev pub Has : ℕ → List ℕ → Type 0
Has n [] = ⊥
Has n (x ∷ xs) = (x ≡ n) ⊎ Has n xs

pub has_front : (n : ℕ) (xs ys : List ℕ) → Has n xs → Has n (xs ++ ys)
has_front n [] ys h = absurd h
has_front n (x ∷ xs) ys (inl e) = inl e
has_front n (x ∷ xs) ys (inr h) = inr (has_front n xs ys h)

pub has_back : (n : ℕ) (xs ys : List ℕ) → Has n ys → Has n (xs ++ ys)
has_back n [] ys h = h
has_back n (x ∷ xs) ys h = inr (has_back n xs ys h)

pub has_either : (n : ℕ) (xs ys : List ℕ) → Has n (xs ++ ys) → Has n xs ⊎ Has n ys
has_either n [] ys h = inr h
has_either n (x ∷ xs) ys (inl e) = inl (inl e)
has_either n (x ∷ xs) ys (inr h) = on_rest (has_either n xs ys h)
  where
    on_rest : Has n xs ⊎ Has n ys → Has n (x ∷ xs) ⊎ Has n ys
    on_rest (inl a) = inl (inr a)
    on_rest (inr b) = inr b

pub has_any : (n : ℕ) (xs : List ℕ) → list_any (λ x. x == n) xs ≡ true → Has n xs
has_any n [] is = absurd (false≢true is)
has_any n (x ∷ xs) is = by_test (x == n) refl (λ e. has_any n xs e) is
  where
    by_test : (b : Bool) → (x == n) ≡ b → (list_any (λ y. y == n) xs ≡ true → Has n xs) → (b || list_any (λ y. y == n) xs) ≡ true → Has n (x ∷ xs)
    by_test true test rest e = let same : x ≡ n = grind (arith, nat_tests) in inl same
    by_test false test rest e = inr (rest e)

pub any_has : (n : ℕ) (xs : List ℕ) → Has n xs → list_any (λ x. x == n) xs ≡ true
any_has n [] h = absurd h
any_has n (x ∷ xs) (inl same) = let test : (x == n) ≡ true = grind (arith, nat_tests) in ap (λ (b : Bool). b || list_any (λ y. y == n) xs) test
any_has n (x ∷ xs) (inr h) = by_test (x == n) (any_has n xs h)
  where
    by_test : (b : Bool) → list_any (λ y. y == n) xs ≡ true → (b || list_any (λ y. y == n) xs) ≡ true
    by_test true e = refl
    by_test false e = e

pub has_not : (n : ℕ) (xs : List ℕ) → (Has n xs → ⊥) → list_any (λ x. x == n) xs ≡ false
has_not n xs none = by_test (list_any (λ x. x == n) xs) refl
  where
    by_test : (b : Bool) → list_any (λ x. x == n) xs ≡ b → b ≡ false
    by_test true is = absurd (none (has_any n xs is))
    by_test false is = refl

-- What endings make of a slot.

abbrev mark_or : Mark → List Mark → Mark
mark_or a [] = a
mark_or a (b ∷ bs) = b

-- the mark ends the subscription in the slot x
ending_is : (x : ℕ) (mark : Mark) (p : IsEnding x (mark ∷ [])) → mark ≡ Dropped p.at p.index x
ending_is x mark p = ap (mark_or mark) p.marks_are

ends_beside : (slot x : ℕ) (mark : Mark) (o : Option Living) → IsEnding x (mark ∷ []) → (x ≡ slot → ⊥) → living_with slot o mark ≡ o
ends_beside slot x mark o p apart = ap (living_with slot o) (ending_is x mark p) ∙ by_test (x == slot) refl
  where
    by_test : (b : Bool) → (x == slot) ≡ b → cond b None o ≡ o
    by_test true test = let same : x ≡ slot = grind (arith, nat_tests) in absurd (apart same)
    by_test false test = refl

ends_here : (slot x : ℕ) (mark : Mark) (o : Option Living) → IsEnding x (mark ∷ []) → x ≡ slot → living_with slot o mark ≡ None
ends_here slot x mark o p same =
    let test : (x == slot) ≡ true = grind (arith, nat_tests) in ap (living_with slot o) (ending_is x mark p) ∙ ap (λ (b : Bool). cond b None o) test

ends_nothing : (slot x : ℕ) (mark : Mark) → IsEnding x (mark ∷ []) → living_with slot None mark ≡ None
ends_nothing slot x mark p = ap (living_with slot None) (ending_is x mark p) ∙ by_test (x == slot)
  where
    by_test : (b : Bool) → cond {A = Option Living} b None None ≡ None
    by_test true = refl
    by_test false = refl

-- one that isn't among those that end is as before
pub unended : (slot : ℕ) (slots : List ℕ) (marks : List Mark) (o : Option Living) → AreEndingsOf slots marks → (Has slot slots → ⊥) → living_after slot o marks ≡ o
unended slot [] [] o p apart = refl
unended slot [] (mark ∷ marks) o p apart = absurd p
unended slot (x ∷ slots) [] o p apart = absurd p
unended slot (x ∷ slots) (mark ∷ marks) o p apart =
    ap (λ (z : Option Living). living_after slot z marks) (ends_beside slot x mark o p.0 (λ e. apart (inl e)))
    ∙ unended slot slots marks o p.1 (λ h. apart (inr h))

pub stays_ended : (slot : ℕ) (slots : List ℕ) (marks : List Mark) → AreEndingsOf slots marks → living_after slot None marks ≡ None
stays_ended slot [] [] p = refl
stays_ended slot [] (mark ∷ marks) p = absurd p
stays_ended slot (x ∷ slots) [] p = absurd p
stays_ended slot (x ∷ slots) (mark ∷ marks) p =
    ap (λ (z : Option Living). living_after slot z marks) (ends_nothing slot x mark p.0) ∙ stays_ended slot slots marks p.1

-- one that is among them has ended
pub ended : (slot : ℕ) (slots : List ℕ) (marks : List Mark) (o : Option Living) → AreEndingsOf slots marks → Has slot slots → living_after slot o marks ≡ None
ended slot [] marks o p h = absurd h
ended slot (x ∷ slots) [] o p h = absurd p
ended slot (x ∷ slots) (mark ∷ marks) o p (inl here) =
    ap (λ (z : Option Living). living_after slot z marks) (ends_here slot x mark o p.0 here) ∙ stays_ended slot slots marks p.1
ended slot (x ∷ slots) (mark ∷ marks) o p (inr later) = ended slot slots marks (living_with slot o mark) p.1 later

-- A request has the subscription in a slot.
pub record Owns (requests : Requests) (slot : ℕ) : Type 0 where
  pub req : ℕ
  pub ask : Asked
  pub sub : Sub
  pub here : at requests req ≡ Some ask
  pub subscribed : ask.sub ≡ Some sub
  pub slot_is : sub.slot ≡ slot

-- one of these requests has it
pub record OwnsAmong (requests : Requests) (slot : ℕ) (ks : List ℕ) : Type 0 where
  pub owns : Owns requests slot
  pub among : Has owns.req ks

owner_at : (requests : Requests) (req slot : ℕ) (o : Option Asked) → at requests req ≡ o → Has slot (slot_of o) → OwnsAmong requests slot (req ∷ [])
owner_at requests req slot None here h = absurd h
owner_at requests req slot (Some ask) here h = by_sub ask.sub refl h
  where
    by_sub : (x : Option Sub) → ask.sub ≡ x → Has slot (slot_of_sub x) → OwnsAmong requests slot (req ∷ [])
    by_sub None is h = absurd h
    by_sub (Some sub) is (inl e) = record { owns = record { req = req; ask = ask; sub = sub; here = here; subscribed = is; slot_is = e }; among = inl refl }
    by_sub (Some sub) is (inr h) = absurd h

pub owner_here : (requests : Requests) (req slot : ℕ) → Has slot (slot_of (at requests req)) → OwnsAmong requests slot (req ∷ [])
owner_here requests req slot h = owner_at requests req slot (at requests req) refl h

pub owner_among : (requests : Requests) (slot : ℕ) (ks : List ℕ) → Has slot (flat_map (λ req. slot_of (at requests req)) ks) → OwnsAmong requests slot ks
owner_among requests slot [] h = absurd h
owner_among requests slot (k ∷ ks) h =
    by_place (λ b. owner_among requests slot ks b) (has_either slot (slot_of (at requests k)) (flat_map (λ req. slot_of (at requests req)) ks) h)
  where
    by_place : (Has slot (flat_map (λ req. slot_of (at requests req)) ks) → OwnsAmong requests slot ks)
        → Has slot (slot_of (at requests k)) ⊎ Has slot (flat_map (λ req. slot_of (at requests req)) ks) → OwnsAmong requests slot (k ∷ ks)
    by_place rest (inl a) = let o = owner_here requests k slot a in record { owns = o.owns; among = has_front o.owns.req (k ∷ []) ks o.among }
    by_place rest (inr b) = let o = rest b in record { owns = o.owns; among = inr o.among }

pub owner : (requests : Requests) (slot : ℕ) → Has slot (slots_of requests) → Owns requests slot
owner requests slot h = (owner_among requests slot (keys requests) h).owns

-- and back

pub has_owned : (requests : Requests) (slot : ℕ) (o : Owns requests slot) → Has slot (slot_of (at requests o.req))
has_owned requests slot o =
    subst (λ (x : Option Asked). Has slot (slot_of x)) (sym o.here) (subst (λ (x : Option Sub). Has slot (slot_of_sub x)) (sym o.subscribed) (inl o.slot_is))

any_key : (k : ℕ) (ks : List ℕ) → list_any (eq_by_cmp nat_cmp k) ks ≡ true → Has k ks
any_key k [] is = absurd (false≢true is)
any_key k (x ∷ ks) is = by_test (eq_by_cmp nat_cmp k x) refl (λ e. any_key k ks e) is
  where
    by_test : (b : Bool) → eq_by_cmp nat_cmp k x ≡ b → (list_any (eq_by_cmp nat_cmp k) ks ≡ true → Has k ks) → (b || list_any (eq_by_cmp nat_cmp k) ks) ≡ true → Has k (x ∷ ks)
    by_test true test rest e = inl (sym (tied_back k x test))
    by_test false test rest e = inr (rest e)

pub has_key : {V : Type 0} (m : FinMap nat_cmp V) (k : ℕ) (v : V) → at m k ≡ Some v → Has k (keys m)
has_key m k v here = any_key k (keys m) (sym (contains_key-keys m k) ∙ ap (λ x. is_some x) here)

has_flat : (f : ℕ → List ℕ) (n k : ℕ) (ks : List ℕ) → Has k ks → Has n (f k) → Has n (flat_map f ks)
has_flat f n k [] h has = absurd h
has_flat f n k (x ∷ ks) (inl e) has = has_front n (f x) (flat_map f ks) (subst (λ (z : ℕ). Has n (f z)) (sym e) has)
has_flat f n k (x ∷ ks) (inr h) has = has_back n (f x) (flat_map f ks) (has_flat f n k ks h has)

pub has_slot : (requests : Requests) (slot : ℕ) → Owns requests slot → Has slot (slots_of requests)
has_slot requests slot o =
    has_flat (λ req. slot_of (at requests req)) slot o.req (keys requests) (has_key requests o.req o.ask o.here) (has_owned requests slot o)

-- Keys stand once each.
abbrev pub NoneTwice : List ℕ → Type 0
NoneTwice [] = Unit {0}
NoneTwice (k ∷ ks) = (Has k ks → ⊥) × NoneTwice ks

module _ {V : Type 0} where
  not_behind : (k n : ℕ) (es : List (ℕ × V)) → k + 1 ≤ n → AllFrom n es → Has k (map (λ e. e.0) es) → ⊥
  not_behind k n [] low from h = h
  not_behind k n (e ∷ es) low from (inl same) = let first = from.0 in omega (arith, low, first, same)
  not_behind k n (e ∷ es) low from (inr h) = not_behind k n es low from.1 h

  entries_once : (es : List (ℕ × V)) → T (is_sorted nat_cmp es) → NoneTwice (map (λ e. e.0) es)
  entries_once [] sorted = tt
  entries_once (e ∷ es) sorted =
      let parts = both_parts (below_all nat_cmp e.0 es) (is_sorted nat_cmp es) sorted in
      (not_behind e.0 (e.0 + 1) es (omega arith) (above e.0 es parts.0), entries_once es parts.1)

pub keys_once : {V : Type 0} (m : FinMap nat_cmp V) → NoneTwice (keys m)
keys_once m = entries_once (entries m) (entries_sorted m)
