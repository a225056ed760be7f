-- Histories that go on.
use Rattle.std.proofs.Common.{◌≡◌, ◌≢◌, ℕ, suc, ◌≤◌, Bool, true, false, cond, eqb, List, [], ◌∷◌, ◌++◌, length, refl, sym, ◌∙◌, ap, arith, length-append}
use Rattle.std.proofs.lemmas.Bool.{eq-eqb}
use Rattle.std.proofs.lemmas.Bool.Decides.{nat_tests}
use Rattle.histories.specs.declared.story.Story.{Story}
use Rattle.histories.specs.declared.story.Deed.{Deed}
use Rattle.histories.specs.declared.story.Deed.TheVariants.{Entry, Item}
use Rattle.histories.specs.History.{entries_of, roll_of, entries_by_seat, roll_by_seat, deeds_by, tagged, Begins}
use Rattle.histories.specs.Laws.{GoOnAlike}
use Rattle.histories.proofs.Prefixes.{prefix_self, prefix_trans, prefix_shorter}

pub begins_self : {B E R : Type 0} (h : Story B E R) → Begins h h
begins_self h = record { base = refl; deeds = prefix_self h.deeds }

pub begins_trans : {B E R : Type 0} {h k l : Story B E R} → Begins h k → Begins k l → Begins h l
begins_trans p q = record { base = q.base ∙ p.base; deeds = prefix_trans p.deeds q.deeds }

pub begins_shorter : {B E R : Type 0} (h k l : Story B E R) → Begins h l → Begins k l → length h.deeds ≤ length k.deeds → Begins h k
begins_shorter h k l p q le = record { base = sym q.base ∙ p.base; deeds = prefix_shorter h.deeds k.deeds l.deeds p.deeds q.deeds le }

pub entries_append : {E R : Type 0} (ds es : List (ℕ × Deed E R)) → entries_of (ds ++ es) ≡ entries_of ds ++ entries_of es
entries_append [] es = refl
entries_append {E} ((k, Entry e) ∷ ds) es = ap (λ (l : List E). e ∷ l) (entries_append ds es)
entries_append ((k, Item i) ∷ ds) es = entries_append ds es

pub roll_append : {E R : Type 0} (ds es : List (ℕ × Deed E R)) → roll_of (ds ++ es) ≡ roll_of ds ++ roll_of es
roll_append [] es = refl
roll_append ((k, Entry e) ∷ ds) es = roll_append ds es
roll_append {E} {R} ((k, Item i) ∷ ds) es = ap (λ (l : List R). i ∷ l) (roll_append ds es)

pub entries_by_seat_append : {E R : Type 0} (ds es : List (ℕ × Deed E R)) → entries_by_seat (ds ++ es) ≡ entries_by_seat ds ++ entries_by_seat es
entries_by_seat_append [] es = refl
entries_by_seat_append {E} ((k, Entry e) ∷ ds) es = ap (λ (l : List (ℕ × E)). (k, e) ∷ l) (entries_by_seat_append ds es)
entries_by_seat_append ((k, Item i) ∷ ds) es = entries_by_seat_append ds es

pub roll_by_seat_append : {E R : Type 0} (ds es : List (ℕ × Deed E R)) → roll_by_seat (ds ++ es) ≡ roll_by_seat ds ++ roll_by_seat es
roll_by_seat_append [] es = refl
roll_by_seat_append ((k, Entry e) ∷ ds) es = roll_by_seat_append ds es
roll_by_seat_append {E} {R} ((k, Item i) ∷ ds) es = ap (λ (l : List (ℕ × R)). (k, i) ∷ l) (roll_by_seat_append ds es)

-- the same projection of a history that has grown
pub more_entries : {B E R : Type 0} {h k : Story B E R} (b : Begins h k) → entries_of k.deeds ≡ entries_of h.deeds ++ entries_of b.deeds.rest
more_entries {B} {E} {R} {h} b = ap entries_of b.deeds.whole ∙ entries_append h.deeds b.deeds.rest

pub more_by_seat : {B E R : Type 0} {h k : Story B E R} (b : Begins h k) → entries_by_seat k.deeds ≡ entries_by_seat h.deeds ++ entries_by_seat b.deeds.rest
more_by_seat {B} {E} {R} {h} b = ap entries_by_seat b.deeds.whole ∙ entries_by_seat_append h.deeds b.deeds.rest

pub grown_length : {B E R : Type 0} {h k : Story B E R} → Begins h k → length (entries_of h.deeds) ≤ length (entries_of k.deeds)
grown_length {B} {E} {R} {h} {k} b = omega (arith, ap length (more_entries b), length-append (entries_of h.deeds) (entries_of b.deeds.rest))

-- there are as many entries with their seats as without
pub as_many : {E R : Type 0} (ds : List (ℕ × Deed E R)) → length (entries_by_seat ds) ≡ length (entries_of ds)
as_many [] = refl
as_many ((k, Entry e) ∷ ds) = ap suc (as_many ds)
as_many ((k, Item i) ∷ ds) = as_many ds

-- deeds of seats
pub deeds_by_append : {D : Type 0} (k : ℕ) (xs ys : List (ℕ × D)) → deeds_by k (xs ++ ys) ≡ deeds_by k xs ++ deeds_by k ys
deeds_by_append k [] ys = refl
deeds_by_append {D} k (d ∷ xs) ys =
    elim (eqb d.0 k) as (λ (b : Bool). (cond b (d.1 ∷ deeds_by k (xs ++ ys)) (deeds_by k (xs ++ ys))) ≡ (cond b (d.1 ∷ deeds_by k xs) (deeds_by k xs)) ++ deeds_by k ys) [
      | true ↦ ap (λ (l : List D). d.1 ∷ l) (deeds_by_append k xs ys)
      | false ↦ deeds_by_append k xs ys
    ]

pub own_more : {D : Type 0} (k : ℕ) (ds : List (ℕ × D)) (es : List D) → deeds_by k (ds ++ tagged k es) ≡ deeds_by k ds ++ es
own_more k [] [] = refl
own_more {D} k [] (e ∷ es) = rw (eq-eqb k k refl) (ap (λ (l : List D). e ∷ l) (own_more k [] es))
own_more {D} k (d ∷ ds) es =
    elim (eqb d.0 k) as (λ (b : Bool). (cond b (d.1 ∷ deeds_by k (ds ++ tagged k es)) (deeds_by k (ds ++ tagged k es))) ≡ (cond b (d.1 ∷ deeds_by k ds) (deeds_by k ds)) ++ es) [
      | true ↦ ap (λ (l : List D). d.1 ∷ l) (own_more k ds es)
      | false ↦ own_more k ds es
    ]

pub others_same : {D : Type 0} (k j : ℕ) (ds : List (ℕ × D)) (es : List D) → k ≢ j → deeds_by j (ds ++ tagged k es) ≡ deeds_by j ds
others_same k j [] [] ne = refl
others_same {D} k j [] (e ∷ es) ne =
    let not_his : eqb k j ≡ false = grind (arith, nat_tests) in
    ap (λ (b : Bool). cond b (e ∷ deeds_by j (tagged k es)) (deeds_by j (tagged k es))) not_his ∙ others_same k j [] es ne
others_same {D} k j (d ∷ ds) es ne =
    elim (eqb d.0 j) as (λ (b : Bool). (cond b (d.1 ∷ deeds_by j (ds ++ tagged k es)) (deeds_by j (ds ++ tagged k es))) ≡ cond b (d.1 ∷ deeds_by j ds) (deeds_by j ds)) [
      | true ↦ ap (λ (l : List D). d.1 ∷ l) (others_same k j ds es ne)
      | false ↦ others_same k j ds es ne
    ]

pub tagged_append : {D : Type 0} (k : ℕ) (ds es : List D) → tagged k (ds ++ es) ≡ tagged k ds ++ tagged k es
tagged_append k [] es = refl
tagged_append {D} k (d ∷ ds) es = ap (λ (l : List (ℕ × D)). (k, d) ∷ l) (tagged_append k ds es)

pub go_on : (B E R : Type 0) → GoOnAlike B E R
go_on B E R = record {
  itself = begins_self;
  further = λ h k l p q. begins_trans p q;
  shorter = begins_shorter;
  entries = λ h k b. record { rest = entries_of b.deeds.rest; whole = more_entries b };
  roll = λ h k b. record { rest = roll_of b.deeds.rest; whole = ap roll_of b.deeds.whole ∙ roll_append h.deeds b.deeds.rest };
  made = λ h k b. record { rest = entries_by_seat b.deeds.rest; whole = more_by_seat b };
  held = λ h k b. record { rest = roll_by_seat b.deeds.rest; whole = ap roll_by_seat b.deeds.whole ∙ roll_by_seat_append h.deeds b.deeds.rest };
}
