-- A subscription has an update at its first pop.
use Rattle.std.proofs.Common.{◌≡◌, ℕ, ◌==◌, Bool, true, false, cond, List, [], ◌∷◌, ◌++◌, length, map, Option, None, Some, is_some, refl, sym, ap, subst, ◌∙◌, inl, inr}
use Rattle.std.specs.Prelude.{◌⊎◌, nat_lt}
use Rattle.mon_queue.specs.Runs.{Posted, Run, fresh, joined, with_post, post, runs_after, oldest_of}
use Rattle.mon_queue.specs.Course.{after_pops, begun, posts_between, unread_at}
use Rattle.mon_queue.specs.Shown.{first_post}
use Rattle.mon_queue.specs.declared.update.Update.{Update}
use Rattle.desk_api.proofs.Folding.{living_append}
use Rattle.desk_api.specs.History.{History, commits}
use Rattle.desk_api.specs.Living.{Living, living, living_with, subscription, unread_of, IsOldest}
use Rattle.desk_api.specs.Marks.{AllHold}
use Rattle.desk_api.specs.declared.history.SiteData.{SiteData}
use Rattle.desk_api.specs.declared.mark.Mark.{Mark}
use Rattle.desk_api.specs.declared.mark.Mark.TheVariants.{Read, Entered, Overweight, Begun, Crowded, Popped, Dropped}
use Rattle.srv_session.specs.State.{State, is_due}
use Rattle.srv_session.specs.Steps.{Step, hears, pops, IsDrained, IsEmptyPop, last_pop, marks_of, state_after}
use Rattle.std.specs.FinMap.{get as at}
use Rattle.cli_within.specs.Answers.{updates_in}

-- Posts leave what is unread.

joined_some : (r : Run) (runs : List Run) (p : Posted) → is_some (oldest_of (joined (r ∷ runs) p)) ≡ true
joined_some r [] p = refl
joined_some r (s ∷ more) p = refl

after_some : (size : ℕ) (posts : List Posted) (runs : List Run) → is_some (oldest_of runs) ≡ true → is_some (oldest_of (runs_after size runs (map post posts))) ≡ true
after_some size [] runs some = some
after_some size (p ∷ posts) [] some = absurd cc
after_some size (p ∷ posts) (r ∷ runs) some = after_some size posts (with_post size (r ∷ runs) p) (by (nat_lt (length (r ∷ runs)) size))
  where
    by : (b : Bool) → is_some (oldest_of (cond b ((r ∷ runs) ++ fresh p ∷ []) (joined (r ∷ runs) p))) ≡ true
    by true = refl
    by false = joined_some r runs p

-- a subscription without pops
first_unread : (h : History) (l : Living) (n : ℕ) → l.pops ≡ [] → is_some (oldest_of (unread_of h l n)) ≡ true
first_unread h l n none =
    let sub = subscription h l in
    ap (λ (ps : List (ℕ × Option Update)). is_some (oldest_of (unread_at sub (commits h) (after_pops sub (commits h) (begun sub) (map (λ p. p.0) ps)) n))) none
    ∙ after_some sub.size (posts_between sub (commits h) sub.place n) (fresh (first_post sub.watch sub.state) ∷ []) refl

first_is_some : (h : History) (l : Living) (n : ℕ) → l.pops ≡ [] → IsOldest h l n None → ⊥
first_is_some h l n none is = let clash : false ≡ true = ap is_some is ∙ first_unread h l n none in absurd cc

-- whether a pop is among marks
abbrev pub HasPop : List Mark → Type 0
HasPop [] = ⊥
HasPop (Popped place slot update ∷ marks) = Unit {0}
HasPop (mark ∷ marks) = HasPop marks

pop_left : (xs ys : List Mark) → HasPop xs → HasPop (xs ++ ys)
pop_left [] ys h = absurd h
pop_left (Popped place slot update ∷ xs) ys h = tt
pop_left (Read p channel footprint found ∷ xs) ys h = pop_left xs ys h
pop_left (Entered p entry looked found ∷ xs) ys h = pop_left xs ys h
pop_left (Overweight p footprint actions kept added limit ∷ xs) ys h = pop_left xs ys h
pop_left (Begun p index slot channel mask size ∷ xs) ys h = pop_left xs ys h
pop_left (Crowded p index count ∷ xs) ys h = pop_left xs ys h
pop_left (Dropped p index slot ∷ xs) ys h = pop_left xs ys h

pop_right : (xs ys : List Mark) → HasPop ys → HasPop (xs ++ ys)
pop_right [] ys h = h
pop_right (Popped place slot update ∷ xs) ys h = tt
pop_right (Read p channel footprint found ∷ xs) ys h = pop_right xs ys h
pop_right (Entered p entry looked found ∷ xs) ys h = pop_right xs ys h
pop_right (Overweight p footprint actions kept added limit ∷ xs) ys h = pop_right xs ys h
pop_right (Begun p index slot channel mask size ∷ xs) ys h = pop_right xs ys h
pop_right (Crowded p index count ∷ xs) ys h = pop_right xs ys h
pop_right (Dropped p index slot ∷ xs) ys h = pop_right xs ys h

-- no living subscription was popped
abbrev NoPops : Option Living → Type 0
NoPops None = Unit {0}
NoPops (Some l) = l.pops ≡ []

abbrev Fresh : List Mark → Type 0
Fresh before = (slot : ℕ) → NoPops (living before slot)

module _ (before : List Mark) (m : Mark) (old : Fresh before) where
  fresh_with : ((slot : ℕ) (o : Option Living) → NoPops o → NoPops (living_with slot o m)) → Fresh (before ++ m ∷ [])
  fresh_with on slot = let is = living_append before (m ∷ []) slot in subst_pops (living_with slot (living before slot) m) (living (before ++ m ∷ []) slot) is (on slot (living before slot) (old slot))
    where
      subst_pops : (a b : Option Living) → b ≡ a → NoPops a → NoPops b
      subst_pops a b is h = subst NoPops (sym is) h

pops_none : (h : History) (before : List Mark) (place slot : ℕ) (l : Living) → Fresh before → living before slot ≡ Some l → IsOldest h l place None → ⊥
pops_none h before place slot l old there taken = first_is_some h l place (subst NoPops there (old slot)) taken

-- the first pop of a log takes an update
first_takes : (seat : ℕ) (h : History) (before marks : List Mark) → Fresh before → AllHold seat h before marks → updates_in marks ≡ [] → HasPop marks → ⊥
first_takes seat h before [] old true_ none has = has
first_takes seat h before (Popped place slot None ∷ marks) old true_ none has = let t = true_.0 in pops_none h before place slot t.subscribed old t.there t.taken
first_takes seat h before (Popped place slot (Some update) ∷ marks) old true_ none has = absurd cc
first_takes seat h before (Read p channel footprint found ∷ marks) old true_ none has =
    first_takes seat h (before ++ Read p channel footprint found ∷ []) marks (fresh_with before (Read p channel footprint found) old (λ slot o h_. h_)) true_.1 none has
first_takes seat h before (Entered p entry looked found ∷ marks) old true_ none has =
    first_takes seat h (before ++ Entered p entry looked found ∷ []) marks (fresh_with before (Entered p entry looked found) old (λ slot o h_. h_)) true_.1 none has
first_takes seat h before (Overweight p footprint actions kept added limit ∷ marks) old true_ none has =
    first_takes seat h (before ++ Overweight p footprint actions kept added limit ∷ []) marks (fresh_with before (Overweight p footprint actions kept added limit) old (λ slot o h_. h_)) true_.1 none has
first_takes seat h before (Crowded p index count ∷ marks) old true_ none has =
    first_takes seat h (before ++ Crowded p index count ∷ []) marks (fresh_with before (Crowded p index count) old (λ slot o h_. h_)) true_.1 none has
first_takes seat h before (Begun p index s channel mask size ∷ marks) old true_ none has =
    first_takes seat h (before ++ Begun p index s channel mask size ∷ []) marks (fresh_with before (Begun p index s channel mask size) old (λ slot o h_. begins_fresh slot (s == slot) o h_)) true_.1 none has
  where
    begins_fresh : (slot : ℕ) (b : Bool) (o : Option Living) → NoPops o → NoPops (cond b (Some (record { place = p; channel = channel; mask = mask; size = size; pops = [] })) o)
    begins_fresh slot true o h_ = refl
    begins_fresh slot false o h_ = h_
first_takes seat h before (Dropped p index s ∷ marks) old true_ none has =
    first_takes seat h (before ++ Dropped p index s ∷ []) marks (fresh_with before (Dropped p index s) old (λ slot o h_. ends_fresh (s == slot) o h_)) true_.1 none has
  where
    nothing : Option Living
    nothing = None

    ends_fresh : (b : Bool) (o : Option Living) → NoPops o → NoPops (cond b None o)
    ends_fresh true o h_ = tt
    ends_fresh false o h_ = h_

-- an empty pop is among the marks of its steps

one_popped : (o : Option (List Mark)) (marks more : List Mark) → o ≡ Some marks → IsEmptyPop o → HasPop (marks ++ more)
one_popped None marks more is h = absurd h
one_popped (Some (Popped place slot None ∷ [])) marks more is h = subst (λ (ms : List Mark). HasPop (ms ++ more)) (marks_in is) tt
  where
    marks_of_ : Option (List Mark) → List Mark
    marks_of_ None = []
    marks_of_ (Some ms) = ms

    marks_in : Some (Popped place slot None ∷ []) ≡ Some marks → Popped place slot None ∷ [] ≡ marks
    marks_in e = ap marks_of_ e
one_popped (Some other) marks more is h = absurd h

last_among : (req : ℕ) (steps : List Step) (o : Option (List Mark)) → IsEmptyPop (last_pop req o steps) → IsEmptyPop o ⊎ HasPop (marks_of steps)
last_among req [] o h = inl h
last_among req (hears e marks sent ∷ xs) o h = by (last_among req xs None h)
  where
    by : IsEmptyPop None ⊎ HasPop (marks_of xs) → IsEmptyPop o ⊎ HasPop (marks ++ marks_of xs)
    by (inl none) = absurd none
    by (inr has) = inr (pop_right marks (marks_of xs) has)
last_among req (pops r marks sent ∷ xs) o h = by (r == req) (last_among req xs (cond (r == req) (Some marks) o) h)
  where
    by : (b : Bool) → IsEmptyPop (cond b (Some marks) o) ⊎ HasPop (marks_of xs) → IsEmptyPop o ⊎ HasPop (marks ++ marks_of xs)
    by b (inr has) = inr (pop_right marks (marks_of xs) has)
    by true (inl empty_) = inr (one_popped (Some marks) marks (marks_of xs) refl empty_)
    by false (inl earlier) = inl earlier

-- A monitor that may be sent an update was sent one, where nothing is unread behind the last step.
pub not_starved : (site : SiteData) (s : State) (steps : List Step) (endings : List Mark) (seat : ℕ) (h : History) → IsDrained site s steps → AllHold seat h [] (marks_of steps ++ endings) → updates_in (marks_of steps ++ endings) ≡ []
    → is_due (at (state_after site s steps).requests 1) ≡ true → ⊥
not_starved site s steps endings seat h drained true_ none due = by (last_among 1 steps None (drained 1 due))
  where
    by : IsEmptyPop None ⊎ HasPop (marks_of steps) → ⊥
    by (inl nothing) = nothing
    by (inr has) = first_takes seat h [] (marks_of steps ++ endings) (λ slot. tt) true_ none (pop_left (marks_of steps) endings has)
