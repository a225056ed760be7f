-- Updates that were handed out and those that are queued fold to what is shown.
use Rattle.std.specs.Prelude.{◌≡◌, ◌==◌, ℕ, ◌≤◌, Bool, List, [], ◌∷◌, ◌++◌, map, Option, None, Some, option_map, refl}
use Rattle.std.proofs.Common.{true, false, cond, sym, ◌∙◌, ap, subst, append_assoc}
use Rattle.std.proofs.lemmas.Bool.{eqb-true}
use Rattle.std.proofs.lemmas.List.{append-nil, map-append}
use Rattle.std.proofs.lemmas.Option.{none-some}
use Rattle.histories.specs.History.{AllTrue}
use Rattle.journal_core.specs.declared.entry.Entry.{Entry}
use Rattle.mon_queue.proofs.Courses.{folds}
use Rattle.mon_queue.specs.Runs.{Run, Told, update_of, oldest_of, folded}
use Rattle.mon_queue.specs.Shown.{blank}
use Rattle.mon_queue.specs.Course.{Subscription, Course, begun, taken_with, popped_at, after_pops}
use Rattle.mon_queue.specs.declared.update.Update.{Update}
use Rattle.desk_api.specs.History.{History, commits}
use Rattle.desk_api.specs.Living.{Living, BeganIn, at_first, popped_too, living_with, living_after, living, subscription, pop_places, course, unread_of, told_of, given, IsFolded, IsOldest, PopsUpTo}
use Rattle.desk_api.specs.Marks.{IsTrueIn, AllHold, IsFoldedAtEnd}
use Rattle.desk_api.specs.declared.mark.Mark.{Mark}
use Rattle.desk_api.specs.declared.mark.Mark.TheVariants.{Read, Entered, Overweight, Begun, Crowded, Popped, Dropped}

abbrev some_or : {A : Type 0} → A → Option A → A
some_or d None = d
some_or d (Some x) = x

same_some : {A : Type 0} (a b : A) → Some a ≡ Some b → a ≡ b
same_some a b is = ap (some_or a) is

-- ---- what lives after marks and more marks

pub living_after_append : (slot : ℕ) (o : Option Living) (xs ys : List Mark) → living_after slot o (xs ++ ys) ≡ living_after slot (living_after slot o xs) ys
living_after_append slot o [] ys = refl
living_after_append slot o (x ∷ xs) ys = living_after_append slot (living_with slot o x) xs ys

pub living_append : (xs ys : List Mark) (slot : ℕ) → living (xs ++ ys) slot ≡ living_after slot (living xs slot) ys
living_append xs ys slot = living_after_append slot None xs ys

-- ---- what its pops took

after_pops_append : {State Entry : Type 0} (sub : Subscription State Entry) (entries : List Entry) (c : Course) (ps qs : List ℕ)
    → after_pops sub entries c (ps ++ qs) ≡ after_pops sub entries (after_pops sub entries c ps) qs
after_pops_append sub entries c [] qs = refl
after_pops_append sub entries c (p ∷ ps) qs = after_pops_append sub entries (popped_at sub entries c p) ps qs

given_append : (ps qs : List (ℕ × Option Update)) → given (ps ++ qs) ≡ given ps ++ given qs
given_append [] qs = refl
given_append ((at, None) ∷ ps) qs = given_append ps qs
given_append ((at, Some update) ∷ ps) qs = ap (λ (l : List Update). update ∷ l) (given_append ps qs)

abbrev place_of : ℕ × Option Update → ℕ
place_of p = p.0

next_course : (h : History) (l : Living) (at : ℕ) (update : Option Update)
    → course h (popped_too at update l) ≡ popped_at (subscription h l) (commits h) (course h l) at
next_course h l at update =
    let sub = subscription h l in
    ap (after_pops sub (commits h) (begun sub)) (map-append place_of l.pops ((at, update) ∷ []))
    ∙ after_pops_append sub (commits h) (begun sub) (pop_places l) (at ∷ [])

took : (told : Update → Told) (before : List Told) (at : ℕ) (update : Option Update) (runs : List Run) → option_map told update ≡ oldest_of runs
    → before ++ map told (given ((at, update) ∷ [])) ≡ taken_with before runs
took told before at None [] is = append-nil before
took told before at None (r ∷ runs) is = absurd (none-some (update_of r) is)
took told before at (Some u) [] is = absurd (none-some (told u) (sym is))
took told before at (Some u) (r ∷ runs) is = ap (λ (t : Told). before ++ t ∷ []) (same_some (told u) (update_of r) is)

-- What a subscription's queue may hold is more than nothing, and its pops took what its course says.
record IsSound (h : History) (l : Living) : Type 0 where
  some : 1 ≤ l.size
  taken_is : map (told_of h l) (given l.pops) ≡ (course h l).taken

sound_popped : (h : History) (l : Living) (at : ℕ) (update : Option Update) → IsSound h l → IsOldest h l at update → IsSound h (popped_too at update l)
sound_popped h l at update s is = record {
  some = s.some;
  taken_is =
      ap (map (told_of h l)) (given_append l.pops ((at, update) ∷ []))
      ∙ map-append (told_of h l) (given l.pops) (given ((at, update) ∷ []))
      ∙ ap (λ (ts : List Told). ts ++ map (told_of h l) (given ((at, update) ∷ []))) s.taken_is
      ∙ took (told_of h l) (course h l).taken at update (unread_of h l at) is
      ∙ ap (λ (c : Course). c.taken) (sym (next_course h l at update));
}

is_folded : (h : History) (l : Living) (n : ℕ) → IsSound h l → PopsUpTo l n → IsFolded h l n
is_folded h l n s later =
    let sub = subscription h l in
    ap (λ (ts : List Told). folded (blank sub.watch) (ts ++ map update_of (unread_of h l n))) s.taken_is
    ∙ folds sub (commits h) (pop_places l) n s.some later

-- ---- mark after mark

-- What lives by the seat's own last marks lives by all of its marks, and is sound.
abbrev IsKept : History → Option Living → Option Living → Type 0
IsKept h None whole = Unit {0}
IsKept h (Some l) whole = (whole ≡ Some l) × IsSound h l

-- a pop of this slot or of another
popped_by : (h : History) (slot at s : ℕ) (update : Option Update) (o whole : Option Living) (b : Bool) → (b ≡ true → (l : Living) → whole ≡ Some l → IsOldest h l at update)
    → IsKept h o whole → IsKept h (cond b (option_map (popped_too at update) o) o) (cond b (option_map (popped_too at update) whole) whole)
popped_by h slot at s update None whole true taken kept = tt
popped_by h slot at s update (Some l) whole true taken kept =
    (ap (option_map (popped_too at update)) kept.0, sound_popped h l at update kept.1 (taken refl l kept.0))
popped_by h slot at s update o whole false taken kept = kept

same_living : (past : List Mark) (s slot : ℕ) (l m : Living) → (s == slot) ≡ true → living past s ≡ Some l → living past slot ≡ Some m → l ≡ m
same_living past s slot l m is here there = same_some l m (sym here ∙ ap (living past) (eqb-true s slot is) ∙ there)

kept_step : (h : History) (seat slot : ℕ) (o : Option Living) (mark : Mark) (past : List Mark) → IsTrueIn h seat mark past → IsKept h o (living past slot)
    → IsKept h (living_with slot o mark) (living_with slot (living past slot) mark)
kept_step h seat slot o (Read at channel footprint found) past t kept = kept
kept_step h seat slot o (Entered at entry looked found) past t kept = kept
kept_step h seat slot o (Overweight at footprint actions before added limit) past t kept = kept
kept_step h seat slot o (Begun at index s channel mask size) past t kept =
    let new : Living = record { place = at; channel = channel; mask = mask; size = size; pops = [] } in
    elim (s == slot) as (λ (b : Bool). IsKept h (cond b (Some new) o) (cond b (Some new) (living past slot))) [
      | true ↦ (refl, record { some = t.size_is.0; taken_is = refl })
      | false ↦ kept
    ]
kept_step h seat slot o (Crowded at index count) past t kept = kept
kept_step h seat slot o (Popped at s update) past t kept =
    popped_by h slot at s update o (living past slot) (s == slot)
    (λ is l there. subst (λ (m : Living). IsOldest h m at update) (same_living past s slot t.subscribed l is t.there there) t.taken) kept
kept_step h seat slot o (Dropped at index s) past t kept =
    elim (s == slot) as (λ (b : Bool). IsKept h (cond b None o) (cond b None (living past slot))) [ true ↦ tt | false ↦ kept ]

kept_next : (h : History) (seat slot : ℕ) (o : Option Living) (mark : Mark) (past : List Mark) → IsTrueIn h seat mark past → IsKept h o (living past slot)
    → IsKept h (living_with slot o mark) (living (past ++ mark ∷ []) slot)
kept_next h seat slot o mark past t kept =
    subst (IsKept h (living_with slot o mark)) (sym (living_append past (mark ∷ []) slot)) (kept_step h seat slot o mark past t kept)

sound_after : (h : History) (seat slot : ℕ) (o : Option Living) (past marks : List Mark) → IsKept h o (living past slot) → AllHold seat h past marks
    → (l : Living) → living_after slot o marks ≡ Some l → IsSound h l
sound_after h seat slot o past [] kept all l is = (subst (λ (x : Option Living). IsKept h x (living past slot)) is kept).1
sound_after h seat slot o past (mark ∷ marks) kept all l is =
    sound_after h seat slot (living_with slot o mark) (past ++ mark ∷ []) marks (kept_next h seat slot o mark past all.0 kept) all.1 l is

pub living_folds : (h : History) (seat : ℕ) (before marks : List Mark) → AllHold seat h before marks → (slot : ℕ) (l : Living) → living marks slot ≡ Some l → (n : ℕ) → PopsUpTo l n
    → IsFolded h l n
living_folds h seat before marks all slot l is n later = is_folded h l n (sound_after h seat slot None before marks tt all l is) later

-- ---- where subscriptions end

folds_here : (h : History) (seat : ℕ) (mark : Mark) (own past : List Mark) → ((slot : ℕ) → IsKept h (living own slot) (living past slot)) → IsTrueIn h seat mark past
    → IsFoldedAtEnd h mark own
folds_here h seat (Read at channel footprint found) own past kept t = tt
folds_here h seat (Entered at entry looked found) own past kept t = tt
folds_here h seat (Overweight at footprint actions before added limit) own past kept t = tt
folds_here h seat (Begun at index slot channel mask size) own past kept t = tt
folds_here h seat (Crowded at index count) own past kept t = tt
folds_here h seat (Popped at slot update) own past kept t = tt
folds_here h seat (Dropped at index slot) own past kept t = λ l is.
    let here = subst (λ (x : Option Living). IsKept h x (living past slot)) is (kept slot) in
    is_folded h l at here.1 (subst (λ (m : Living). PopsUpTo m at) (same_some t.subscribed l (sym t.there ∙ here.0)) t.later)

ends_fold_after : (h : History) (seat : ℕ) (own past marks : List Mark) → ((slot : ℕ) → IsKept h (living own slot) (living past slot)) → AllHold seat h past marks
    → AllTrue (IsFoldedAtEnd h) own marks
ends_fold_after h seat own past [] kept all = tt
ends_fold_after h seat own past (mark ∷ marks) kept all = (
  folds_here h seat mark own past kept all.0,
  ends_fold_after h seat (own ++ mark ∷ []) (past ++ mark ∷ []) marks
      (λ slot. subst (λ (x : Option Living). IsKept h x (living (past ++ mark ∷ []) slot)) (sym (living_append own (mark ∷ []) slot)) (kept_next h seat slot (living own slot) mark past all.0 (kept slot)))
      all.1,
)

pub ends_fold : (h : History) (seat : ℕ) (before marks : List Mark) → AllHold seat h before marks → AllTrue (IsFoldedAtEnd h) [] marks
ends_fold h seat before marks all = ends_fold_after h seat [] before marks (λ slot. tt) all

-- ---- where subscriptions began

abbrev HasBegunIn : List Mark → ℕ → Option Living → Type 0
HasBegunIn log slot None = Unit {0}
HasBegunIn log slot (Some l) = BeganIn log slot l

-- one mark more that leaves it there, popped or not
went_on : (log : List Mark) (slot : ℕ) (l m : Living) (mark : Mark) → living_with slot (Some l) mark ≡ Some m → at_first m ≡ at_first l → BeganIn log slot l → BeganIn (log ++ mark ∷ []) slot m
went_on log slot l m mark is same b = record {
  before = b.before;
  after = b.after ++ mark ∷ [];
  index = b.index;
  log_is =
      ap (λ (xs : List Mark). xs ++ mark ∷ []) b.log_is
      ∙ append_assoc b.before (Begun l.place b.index slot l.channel l.mask l.size ∷ b.after) (mark ∷ [])
      ∙ ap (λ (x : Living). b.before ++ Begun x.place b.index slot x.channel x.mask x.size ∷ (b.after ++ mark ∷ [])) (sym same);
  since =
      living_after_append slot (Some (at_first m)) b.after (mark ∷ [])
      ∙ ap (λ (x : Living). living_after slot (living_after slot (Some x) b.after) (mark ∷ [])) same
      ∙ ap (λ (x : Option Living). living_with slot x mark) b.since
      ∙ is;
}

other_went_on : (log : List Mark) (slot : ℕ) (o : Option Living) (mark : Mark) → living_with slot o mark ≡ o → HasBegunIn log slot o → HasBegunIn (log ++ mark ∷ []) slot o
other_went_on log slot None mark is b = tt
other_went_on log slot (Some l) mark is b = went_on log slot l l mark is refl b

begun_step : (log : List Mark) (slot : ℕ) (o : Option Living) (mark : Mark) → HasBegunIn log slot o → HasBegunIn (log ++ mark ∷ []) slot (living_with slot o mark)
begun_step log slot o (Read at channel footprint found) b = other_went_on log slot o (Read at channel footprint found) refl b
begun_step log slot o (Entered at entry looked found) b = other_went_on log slot o (Entered at entry looked found) refl b
begun_step log slot o (Overweight at footprint actions before added limit) b = other_went_on log slot o (Overweight at footprint actions before added limit) refl b
begun_step log slot o (Begun at index s channel mask size) b = began_by (s == slot) refl where
  began_by : (here : Bool) → (s == slot) ≡ here
      → HasBegunIn (log ++ Begun at index s channel mask size ∷ []) slot (cond here (Some (record { place = at; channel = channel; mask = mask; size = size; pops = [] })) o)
  began_by true is = record {
    before = log;
    after = [];
    index = index;
    log_is = ap (λ (k : ℕ). log ++ Begun at index k channel mask size ∷ []) (eqb-true s slot is);
    since = refl;
  }
  began_by false is =
      other_went_on log slot o (Begun at index s channel mask size)
      (ap (λ (c : Bool). cond c (Some (record { place = at; channel = channel; mask = mask; size = size; pops = [] })) o) is) b
begun_step log slot o (Crowded at index count) b = other_went_on log slot o (Crowded at index count) refl b
begun_step log slot o (Popped at s update) b = popped_on o (s == slot) refl b where
  popped_on : (o : Option Living) (here : Bool) → (s == slot) ≡ here → HasBegunIn log slot o
      → HasBegunIn (log ++ Popped at s update ∷ []) slot (cond here (option_map (popped_too at update) o) o)
  popped_on None true is b = tt
  popped_on (Some l) true is b =
      went_on log slot l (popped_too at update l) (Popped at s update) (ap (λ (c : Bool). cond {A = Option Living} c (Some (popped_too at update l)) (Some l)) is) refl b
  popped_on o false is b = other_went_on log slot o (Popped at s update) (ap (λ (c : Bool). cond c (option_map (popped_too at update) o) o) is) b
begun_step log slot o (Dropped at index s) b = dropped_by (s == slot) refl where
  dropped_by : (here : Bool) → (s == slot) ≡ here → HasBegunIn (log ++ Dropped at index s ∷ []) slot (cond here None o)
  dropped_by true is = tt
  dropped_by false is = other_went_on log slot o (Dropped at index s) (ap (λ (c : Bool). cond c None o) is) b

begun_after : (log : List Mark) (slot : ℕ) (o : Option Living) (marks : List Mark) → HasBegunIn log slot o → HasBegunIn (log ++ marks) slot (living_after slot o marks)
begun_after log slot o [] b = subst (λ (l : List Mark). HasBegunIn l slot o) (sym (append-nil log)) b
begun_after log slot o (mark ∷ marks) b =
    subst (λ (l : List Mark). HasBegunIn l slot (living_after slot o (mark ∷ marks))) (append_assoc log (mark ∷ []) marks)
    (begun_after (log ++ mark ∷ []) slot (living_with slot o mark) marks (begun_step log slot o mark b))

pub has_begun : (log : List Mark) (slot : ℕ) (l : Living) → living log slot ≡ Some l → BeganIn log slot l
has_begun log slot l is = subst (HasBegunIn log slot) is (begun_after [] slot None log tt)
