-- A log in which at most one subscription begins: its pops are all.
use Rattle.std.proofs.Common.{◌≡◌, ◌≢◌, ℕ, ◌≤◌, ◌==◌, Bool, true, false, cond, eq-eqb, ne_eqb, List, [], ◌∷◌, ◌++◌, map, Option, None, Some, refl, sym, ap, subst, ◌∙◌, inl, inr, append_assoc, arith}
use Rattle.std.proofs.lemmas.List.{append-nil}
use Rattle.std.specs.Prelude.{◌⊎◌, option_map}
use Rattle.mon_queue.specs.Course.{shown_at}
use Rattle.mon_queue.specs.Runs.{folded, update_of}
use Rattle.mon_queue.specs.Shown.{blank}
use Rattle.mon_queue.specs.declared.update.Update.{Update}
use Rattle.histories.specs.History.{AllTrue}
use Rattle.desk_api.proofs.Folding.{living_append}
use Rattle.desk_api.specs.History.{History, commits}
use Rattle.desk_api.specs.Living.{Living, living, popped_too, given, subscription, told_of, unread_of}
use Rattle.desk_api.specs.Marks.{AllFold, AllHold, IsFoldedAtEnd}
use Rattle.desk_api.specs.declared.mark.Mark.{Mark}
use Rattle.desk_api.specs.declared.mark.Mark.TheVariants.{Begun, Popped, Dropped}
use Rattle.srv_session.proofs.Tables.{same_or_not}
use Rattle.cli_within.specs.Answers.{updates_in}
use Rattle.cli_within.specs.Clear.{begun_in, IsTakenAtEnd, AreFoldedAtEnd, HasOneSubscription}

-- at most one begins in these marks where one may yet, and else none
abbrev pub Begin : Bool → List Mark → Type 0
Begin b [] = Unit {0}
Begin b (Begun at index slot channel mask size ∷ marks) = (b ≡ true) × Begin false marks
Begin b (mark ∷ marks) = Begin b marks

-- where one is popped, it lives
abbrev pub PopLives : Mark → List Mark → Type 0
PopLives (Popped at slot update) before = (l : Living) × (living before slot ≡ Some l)
PopLives mark before = Unit {0}

pub pops_live : (seat : ℕ) (h : History) (before marks : List Mark) → AllHold seat h before marks → AllTrue PopLives before marks
pops_live seat h before [] all = tt
pops_live seat h before (Popped at slot update ∷ marks) all = ((all.0.subscribed, all.0.there), pops_live seat h (before ++ Popped at slot update ∷ []) marks all.1)
pops_live seat h before (m ∷ marks) all = (tt, pops_live seat h (before ++ m ∷ []) marks all.1)

none_begun : (marks : List Mark) → Begin false marks → begun_in marks ≡ 0
none_begun [] h = refl
none_begun (Begun at index slot channel mask size ∷ marks) h = let clash = h.0 in absurd cc
none_begun (m ∷ marks) h = none_begun marks h

one_begun : (marks : List Mark) → Begin true marks → begun_in marks ≤ 1
one_begun [] h = omega arith
one_begun (Begun at index slot channel mask size ∷ marks) h = let none = none_begun marks h.1 in omega (arith, none)
one_begun (m ∷ marks) h = one_begun marks h

updates_append : (xs ys : List Mark) → updates_in (xs ++ ys) ≡ updates_in xs ++ updates_in ys
updates_append [] ys = refl
updates_append (Popped at slot (Some update) ∷ xs) ys = ap (λ (us : List Update). update ∷ us) (updates_append xs ys)
updates_append (Popped at slot None ∷ xs) ys = updates_append xs ys
updates_append (m ∷ xs) ys = updates_append xs ys

given_append : (xs ys : List (ℕ × Option Update)) → given (xs ++ ys) ≡ given xs ++ given ys
given_append [] ys = refl
given_append ((at, None) ∷ xs) ys = given_append xs ys
given_append ((at, Some update) ∷ xs) ys = ap (λ (us : List Update). update ∷ us) (given_append xs ys)

-- one mark further
moved : (before : List Mark) (m : Mark) (marks : List Mark) → updates_in (before ++ m ∷ []) ++ updates_in marks ≡ updates_in before ++ updates_in (m ∷ marks)
moved before m marks =
    ap (λ (us : List Update). us ++ updates_in marks) (updates_append before (m ∷ []))
    ∙ append_assoc (updates_in before) (updates_in (m ∷ [])) (updates_in marks)
    ∙ ap (λ (us : List Update). updates_in before ++ us) (sym (updates_append (m ∷ []) marks))

no_more : (before : List Mark) (m : Mark) → updates_in (m ∷ []) ≡ [] → updates_in (before ++ m ∷ []) ≡ updates_in before
no_more before m none = updates_append before (m ∷ []) ∙ ap (λ (us : List Update). updates_in before ++ us) none ∙ append-nil (updates_in before)

abbrev NoneLive : List Mark → Type 0
NoneLive before = (slot : ℕ) → living before slot ≡ None

ended_none : (b : Bool) (o : Option Living) → o ≡ None → cond b None o ≡ None
ended_none true o none = refl
ended_none false o none = none

popped_none : (b : Bool) (f : Living → Living) (o : Option Living) → o ≡ None → cond b (option_map f o) o ≡ None
popped_none true f o none = ap (option_map f) none
popped_none false f o none = none

-- none lives, and none begins any more
record Over (before marks : List Mark) : Type 0 where
  pub none : updates_in marks ≡ []
  pub took : (us : List Update) → AllTrue (IsTakenAtEnd us) before marks

over : (marks before : List Mark) → NoneLive before → Begin false marks → AllTrue PopLives before marks → Over before marks
over [] before none begin live = record { none = refl; took = λ us. tt }
over (Begun at index slot channel mask size ∷ marks) before none begin live = let clash = begin.0 in absurd cc
over (Popped at slot update ∷ marks) before none begin live = let clash : None ≡ Some live.0.0 = sym (none slot) ∙ live.0.1 in absurd cc
over (Dropped at index slot ∷ marks) before none begin live =
    let m = Dropped at index slot in
    let r = over marks (before ++ m ∷ []) (λ s. living_append before (m ∷ []) s ∙ ended_none (slot == s) (living before s) (none s)) begin live.1 in
    record { none = r.none; took = λ us. ((λ l is. absurd (let clash : None ≡ Some l = sym (none slot) ∙ is in cc)), r.took us) }
over (m ∷ marks) before none begin live =
    let r = over marks (before ++ m ∷ []) (λ s. living_append before (m ∷ []) s ∙ none s) begin live.1 in
    record { none = r.none; took = λ us. (tt, r.took us) }

-- one alone lives, whose pops took all updates so far
record Alone (before : List Mark) : Type 0 where
  pub slot : ℕ
  pub l : Living
  pub here : living before slot ≡ Some l
  pub took : given l.pops ≡ updates_in before
  pub others : (s : ℕ) → s ≢ slot → living before s ≡ None

abbrev taken_by : Option Living → List Update
taken_by None = []
taken_by (Some l) = given l.pops

one_pop : (at slot : ℕ) (update : Option Update) → given ((at, update) ∷ []) ≡ updates_in (Popped at slot update ∷ [])
one_pop at slot None = refl
one_pop at slot (Some update) = refl

popped_on : (before : List Mark) (at slot : ℕ) (update : Option Update) (a : Alone before) → slot ≡ a.slot → Alone (before ++ Popped at slot update ∷ [])
popped_on before at slot update a same =
    let m = Popped at slot update in
    record {
      slot = a.slot;
      l = popped_too at update a.l;
      here =
          living_append before (m ∷ []) a.slot
          ∙ ap (λ (b : Bool). cond b (option_map (popped_too at update) (living before a.slot)) (living before a.slot)) (eq-eqb slot a.slot same)
          ∙ ap (option_map (popped_too at update)) a.here;
      took = given_append a.l.pops ((at, update) ∷ []) ∙ (λ i. a.took i ++ one_pop at slot update i) ∙ sym (updates_append before (m ∷ []));
      others = λ s apart. living_append before (m ∷ []) s ∙ popped_none (slot == s) (popped_too at update) (living before s) (a.others s apart);
    }

none_left : (before : List Mark) (at index slot : ℕ) (a : Alone before) → slot ≡ a.slot → NoneLive (before ++ Dropped at index slot ∷ [])
none_left before at index slot a same s = living_append before (Dropped at index slot ∷ []) s ∙ by (same_or_not s a.slot)
  where
    by : (s ≡ a.slot) ⊎ (s ≢ a.slot) → cond (slot == s) None (living before s) ≡ None
    by (inl is) = ap (λ (b : Bool). cond b None (living before s)) (eq-eqb slot s (same ∙ sym is))
    by (inr apart) = ended_none (slot == s) (living before s) (a.others s apart)

another_ended : (before : List Mark) (at index slot : ℕ) (a : Alone before) → slot ≢ a.slot → Alone (before ++ Dropped at index slot ∷ [])
another_ended before at index slot a apart =
    let m = Dropped at index slot in
    record {
      slot = a.slot;
      l = a.l;
      here = living_append before (m ∷ []) a.slot ∙ ap (λ (b : Bool). cond b None (living before a.slot)) (ne_eqb slot a.slot apart) ∙ a.here;
      took = a.took ∙ sym (no_more before m refl);
      others = λ s far. living_append before (m ∷ []) s ∙ ended_none (slot == s) (living before s) (a.others s far);
    }

alone : (us : List Update) (marks before : List Mark) → Alone before → Begin false marks → AllTrue PopLives before marks → updates_in before ++ updates_in marks ≡ us → AllTrue (IsTakenAtEnd us) before marks
alone us [] before a begin live all = tt
alone us (Begun at index slot channel mask size ∷ marks) before a begin live all = let clash = begin.0 in absurd cc
alone us (Popped at slot update ∷ marks) before a begin live all =
    (tt, alone us marks (before ++ Popped at slot update ∷ []) (by (same_or_not slot a.slot)) begin live.1 (moved before (Popped at slot update) marks ∙ all))
  where
    by : (slot ≡ a.slot) ⊎ (slot ≢ a.slot) → Alone (before ++ Popped at slot update ∷ [])
    by (inl same) = popped_on before at slot update a same
    by (inr apart) = let clash : None ≡ Some live.0.0 = sym (a.others slot apart) ∙ live.0.1 in absurd cc
alone us (Dropped at index slot ∷ marks) before a begin live all = by (same_or_not slot a.slot) (λ other. alone us marks (before ++ Dropped at index slot ∷ []) other begin live.1 (moved before (Dropped at index slot) marks ∙ all))
  where
    by : (slot ≡ a.slot) ⊎ (slot ≢ a.slot) → (Alone (before ++ Dropped at index slot ∷ []) → AllTrue (IsTakenAtEnd us) (before ++ Dropped at index slot ∷ []) marks) → AllTrue (IsTakenAtEnd us) before (Dropped at index slot ∷ marks)
    by (inl same) more =
        let rest = over marks (before ++ Dropped at index slot ∷ []) (none_left before at index slot a same) begin live.1 in (
          (λ l is.
              ap taken_by (sym is ∙ ap (living before) same ∙ a.here) ∙ a.took
              ∙ sym (append-nil (updates_in before)) ∙ ap (λ (vs : List Update). updates_in before ++ vs) (sym rest.none) ∙ all),
          rest.took us,
        )
    by (inr apart) more = ((λ l is. absurd (let clash : None ≡ Some l = sym (a.others slot apart) ∙ is in cc)), more (another_ended before at index slot a apart))
alone us (m ∷ marks) before a begin live all = (
  tt,
  alone us marks (before ++ m ∷ [])
      (record {
        slot = a.slot;
        l = a.l;
        here = living_append before (m ∷ []) a.slot ∙ a.here;
        took = a.took ∙ sym (no_more before m refl);
        others = λ s far. living_append before (m ∷ []) s ∙ a.others s far;
      }) begin live.1 (moved before m marks ∙ all),
)

-- none has begun yet
not_yet : (us : List Update) (marks before : List Mark) → NoneLive before → updates_in before ≡ [] → Begin true marks → AllTrue PopLives before marks → updates_in before ++ updates_in marks ≡ us → AllTrue (IsTakenAtEnd us) before marks
not_yet us [] before none nothing begin live all = tt
not_yet us (Begun at index slot channel mask size ∷ marks) before none nothing begin live all =
    let m = Begun at index slot channel mask size in
    let l : Living = record { place = at; channel = channel; mask = mask; size = size; pops = [] } in (
      tt,
      alone us marks (before ++ m ∷ [])
          (record {
            slot = slot;
            l = l;
            here = living_append before (m ∷ []) slot ∙ ap (λ (b : Bool). cond b (Some l) (living before slot)) (eq-eqb slot slot refl);
            took = sym (no_more before m refl ∙ nothing);
            others = λ s far. living_append before (m ∷ []) s ∙ ap (λ (b : Bool). cond b (Some l) (living before s)) (ne_eqb slot s (λ e. far (sym e))) ∙ none s;
          }) begin.1 live.1 (moved before m marks ∙ all),
    )
not_yet us (Popped at slot update ∷ marks) before none nothing begin live all = let clash : None ≡ Some live.0.0 = sym (none slot) ∙ live.0.1 in absurd cc
not_yet us (Dropped at index slot ∷ marks) before none nothing begin live all =
    let m = Dropped at index slot in (
      (λ l is. absurd (let clash : None ≡ Some l = sym (none slot) ∙ is in cc)),
      not_yet us marks (before ++ m ∷ []) (λ s. living_append before (m ∷ []) s ∙ ended_none (slot == s) (living before s) (none s)) (no_more before m refl ∙ nothing) begin live.1 (moved before m marks ∙ all),
    )
not_yet us (m ∷ marks) before none nothing begin live all =
    (tt, not_yet us marks (before ++ m ∷ []) (λ s. living_append before (m ∷ []) s ∙ none s) (no_more before m refl ∙ nothing) begin live.1 (moved before m marks ∙ all))

-- What is folded of each is folded of all updates.
folds_so : (h : History) (us : List Update) (marks before : List Mark) → AllTrue (IsTakenAtEnd us) before marks → AllTrue (IsFoldedAtEnd h) before marks → AllTrue (AreFoldedAtEnd h us) before marks
folds_so h us [] before took folds = tt
folds_so h us (Dropped at index slot ∷ marks) before took folds = (
  (λ l is.
      subst
      (λ (vs : List Update). folded (blank (subscription h l).watch) (map (told_of h l) vs ++ map update_of (unread_of h l at)) ≡ shown_at (subscription h l) (commits h) at)
      (took.0 l is) (folds.0 l is)),
  folds_so h us marks (before ++ Dropped at index slot ∷ []) took.1 folds.1,
)
folds_so h us (m ∷ marks) before took folds = (tt, folds_so h us marks (before ++ m ∷ []) took.1 folds.1)

pub one_subscription : (h : History) (log : List Mark) → Begin true log → AllTrue PopLives [] log → AllFold h log → HasOneSubscription h log
one_subscription h log begin live folds =
    let took_all = not_yet (updates_in log) log [] (λ s. refl) refl begin live refl in
    record { one = one_begun log begin; took = took_all; fold = folds_so h (updates_in log) log [] took_all folds.folded_ }
