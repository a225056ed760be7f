-- A task that is done leaves what may be done, and less of it.
use Rattle.std.proofs.Common.{◌≡◌, ℕ, zero, suc, ◌+◌, ◌<◌, ◌≤◌, Bool, true, false, cond, ◌||◌, eqb, Option, None, Some, List, [], ◌∷◌, ◌++◌, length, refl, sym, ap, ◌∙◌, subst, arith, inl, inr, sum_by, IfSome}
use Rattle.std.proofs.lemmas.Bool.{cases_lt, true≢false}
use Rattle.std.proofs.lemmas.Bool.Decides.{eqb_tells}
use Rattle.std.proofs.lemmas.List.Sums.{sum_by-cons}
use Rattle.std.specs.List.{slice_get}
use Rattle.std.specs.Option.{option_and_then, option_map}
use Rattle.rec_kinds.specs.declared.datum.Action.{Action}
use Rattle.rec_kinds.specs.declared.datum.Action.TheVariants.{Put, Process}
use Rattle.rec_kinds.specs.declared.datum.Datum.{Datum}
use Rattle.rec_kinds.specs.declared.state.RecState.{RecState}
use Rattle.db_links.specs.Converting.{converted}
use Rattle.db_links.specs.Chains.{Site, Scene, Step, AreValid, MayBeStep, MayBeAsked, roots, marked, open_link, pp_target, source_of, fetched, moved, put_or_process, written_of, forward_of}
use Rattle.db_links.specs.Courses.{Stage, IsSite, IsSound, undone, weight, left_of, site_of, with_task, with_mark, with_step, begun, asked, wrote, after_step, turned, at_start}
use Rattle.db_links.specs.Reaching.{is_among}
use Rattle.db_links.specs.declared.course.Records.{Records}
use Rattle.db_links.specs.declared.course.Task.{Task}
use Rattle.db_links.specs.declared.course.Task.TheVariants.{Fetch, MakeStep, Forward}
use Rattle.rec_kinds.specs.Validity.{IsAllowed}
use Rattle.db_links.specs.declared.link.Link.{Link}
use Rattle.db_links.specs.declared.link.RecordLinks.{RecordLinks}
use Rattle.db_links.proofs.Walking.{split_or, equal}
use Rattle.db_links.proofs.Sound.{none_some, inp_inside, out_inside, flnk_inside, opened, valid_step, tasks_more, tasks_less, sound_step}
use Rattle.db_links.proofs.Allowed.{allowed_of}

-- ---- marks

abbrev with : ℕ → (ℕ → Bool) → ℕ → Bool
with rec done q = eqb q rec || done q

fewer_if : (b d : Bool) (a c : ℕ) → a ≤ c → cond (b || d) a (a + 1) ≤ cond d c (c + 1)
fewer_if true true a c h = h
fewer_if true false a c h = omega arith
fewer_if false true a c h = h
fewer_if false false a c h = omega arith

no_more : (n rec : ℕ) (done : ℕ → Bool) → undone n (with rec done) ≤ undone n done
no_more zero rec done = omega arith
no_more (suc n) rec done = fewer_if (eqb n rec) (done n) (undone n (with rec done)) (undone n done) (no_more n rec done)

one_less : (n rec : ℕ) (done : ℕ → Bool) → rec < n → done rec ≡ false → undone n (with rec done) + 1 ≤ undone n done
one_less zero rec done within clear = absurd (omega arith)
one_less (suc n) rec done within clear = elim (eqb_tells n rec) [
  | inl p ↦ (let less = no_more n rec done in
      let was : done n ≡ false = ap done p.1 ∙ clear in
      let a : undone (suc n) (with rec done) ≡ undone n (with rec done) = ap (λ b. cond (b || done n) (undone n (with rec done)) (undone n (with rec done) + 1)) p.0 in
      let b : undone (suc n) done ≡ undone n done + 1 = ap (λ b. cond b (undone n done) (undone n done + 1)) was in
      omega (arith, less, a, b))
  | inr p ↦ (let less = one_less n rec done (let other = p.1 in below n rec within other) clear in
      let a : undone (suc n) (with rec done) ≡ cond (done n) (undone n (with rec done)) (undone n (with rec done) + 1) = ap (λ b. cond (b || done n) (undone n (with rec done)) (undone n (with rec done) + 1)) p.0 in
      step (done n) (undone n (with rec done)) (undone n done) (undone (suc n) (with rec done)) less a)
]
  where
    below : (n rec : ℕ) → rec < suc n → (n ≡ rec → ⊥) → rec < n
    below n rec within other = elim (eqb_tells n rec) [ inl p ↦ absurd (other p.1) | inr p ↦ elim (cases_lt rec n) [ inl lt ↦ lt | inr ge ↦ absurd (other (omega arith)) ] ]

    step : (b : Bool) (x y z : ℕ) → x + 1 ≤ y → z ≡ cond b x (x + 1) → z + 1 ≤ cond b y (y + 1)
    step true x y z h e = omega arith
    step false x y z h e = omega arith

-- ---- what a stage has left

weight_more : (ts : List Task) (t : Task) → sum_by weight (ts ++ t ∷ []) ≡ sum_by weight ts + weight t
weight_more [] t = refl
weight_more (u ∷ us) t = let rest = weight_more us t in omega (arith, sum_by-cons weight u (us ++ t ∷ []), sum_by-cons weight u us, rest)

-- a link asks for an action on a record that isn't done
abbrev IsOpen : ℕ → Stage → ℕ → Type 0
IsOpen n st q = (q < n) × (st.scene.done q ≡ false)

begun_less : (n q : ℕ) (action : Action) (st : Stage) → IsOpen n st q → left_of n (begun q action st) ≤ left_of n st
begun_less n q action st clear =
    let less = one_less n q st.scene.done clear.0 clear.1 in
    let more = weight_more st.tasks (Fetch q action) in
    omega (arith, less, more)

asked_less : (n : ℕ) (o : Option ℕ) (st : Stage) → IfSome o (IsOpen n st) → left_of n (asked o st) ≤ left_of n st
asked_less n None st clear = omega arith
asked_less n (Some q) st clear = begun_less n q Process st clear

wrote_less : (n : ℕ) (site : Site) (o : Option (Link × Datum)) (st : Stage) → IfSome o (λ w. IsOpen n st w.0.target) → left_of n (wrote site o st) ≤ left_of n st
wrote_less n site None st clear = omega arith
wrote_less n site (Some w) st clear = go w.0.processes
  where
    go : (b : Bool) → left_of n (cond b (begun w.0.target (Put w.1) st) (with_step site w.0.target (Put w.1) (with_mark w.0.target st))) ≤ left_of n st
    go true = begun_less n w.0.target (Put w.1) st clear
    go false = let less = no_more n w.0.target st.scene.done in omega (arith, less)

-- ---- what links ask for

pp_open : (r : Records) (s : Scene) (which : RecordLinks → Option Link) (rec : ℕ) → ((l : Link) → option_and_then which (slice_get r.links.now rec) ≡ Some l → l.target < length r.links.now)
    → (o : Option Link) → option_and_then (open_link s) (option_and_then which (slice_get r.links.now rec)) ≡ o → IfSome (option_and_then pp_target o) (λ q. (q < length r.links.now) × (s.done q ≡ false))
pp_open r s which rec inside None e = tt
pp_open r s which rec inside (Some l) e = go l.processes
  where
    is : (option_and_then which (slice_get r.links.now rec) ≡ Some l) × (s.done l.target ≡ false)
    is = opened s (option_and_then which (slice_get r.links.now rec)) l e

    go : (b : Bool) → IfSome (cond b (Some l.target) None) (λ q. (q < length r.links.now) × (s.done q ≡ false))
    go true = (inside l is.0, is.1)
    go false = tt

source_open : (r : Records) (rec : ℕ) (action : Action) (s : Scene) → IsSite r → IfSome (source_of (site_of r) rec action s) (λ q. (q < length r.links.now) × (s.done q ≡ false))
source_open r rec (Put d) s site = tt
source_open r rec Process s site = pp_open r s (λ l. l.inp) rec (λ l e. inp_inside r.links.now rec l site.inside e) _ refl

next_open : (r : Records) (s : Scene) (rec : ℕ) → IsSite r → (o : Option Link) → option_and_then (open_link s) (option_and_then (λ l. l.flnk) (slice_get r.links.now rec)) ≡ o
    → IfSome (option_map (λ l. l.target) o) (λ q. (q < length r.links.now) × (s.done q ≡ false))
next_open r s rec site None e = tt
next_open r s rec site (Some l) e =
    let is = opened s (option_and_then (λ l. l.flnk) (slice_get r.links.now rec)) l e in (flnk_inside r.links.now rec l site.inside is.0, is.1)

moved_may : (r : Records) (s : Scene) (from to : ℕ) (d : Datum) → moved (site_of r) s from to ≡ Some d → MayBeStep r.configs.now (to, Put d)
moved_may r s from to d e config is =
    go (s.states from) (sym (ap (λ c. option_and_then (λ config. option_and_then (λ state. converted config state.datum) (s.states from)) c) is) ∙ e)
  where
    go : (o : Option RecState) → option_and_then (λ state. converted config state.datum) o ≡ Some d → IsAllowed config d
    go None e = absurd (none_some e)
    go (Some state) e = allowed_of config state.datum d e

abbrev MayWrite : Records → Scene → Link × Datum → Type 0
MayWrite r s w = ((w.0.target < length r.links.now) × (s.done w.0.target ≡ false)) × MayBeStep r.configs.now (w.0.target, Put w.1)

write_open : (r : Records) (s : Scene) (rec : ℕ) → IsSite r → IfSome (written_of (site_of r) rec s) (MayWrite r s)
write_open r s rec site = go _ refl
  where
    at : Option Link
    at = option_and_then (λ l. l.out) (slice_get r.links.now rec)

    moves : (l : Link) → (at ≡ Some l) × (s.done l.target ≡ false) → (d : Option Datum) → moved (site_of r) s rec l.target ≡ d → IfSome (option_map (λ datum. (l, datum)) d) (MayWrite r s)
    moves l is None e = tt
    moves l is (Some d) e = ((out_inside r.links.now rec l site.inside is.0, is.1), moved_may r s rec l.target d e)

    go : (o : Option Link) → option_and_then (open_link s) at ≡ o → IfSome (option_and_then (λ link. option_map (λ datum. (link, datum)) (moved (site_of r) s rec link.target)) o) (MayWrite r s)
    go None e = tt
    go (Some l) e = moves l (opened s at l e) _ refl

if_some : {X : Type 0} {P Q : X → Type 0} (o : Option X) → IfSome o P → ((x : X) → P x → Q x) → IfSome o Q
if_some None p f = tt
if_some (Some x) p f = f x p

-- ---- less is left

pub turned_less : (r : Records) (t : Task) (st : Stage) → IsSite r → left_of (length r.links.now) (turned (site_of r) t st) < left_of (length r.links.now) (with_task t st)
turned_less r (Fetch rec action) st site =
    let n = length r.links.now in
    let next = with_task (MakeStep rec action) st in
    let less = asked_less n (source_of (site_of r) rec action st.scene) next (source_open r rec action st.scene site) in
    let a = weight_more st.tasks (MakeStep rec action) in
    let b = weight_more st.tasks (Fetch rec action) in
    omega (arith, less, a, b)
turned_less r (MakeStep rec action) st site =
    let n = length r.links.now in
    let next = after_step (site_of r) rec (fetched (site_of r) rec action st.scene) st in
    let less = wrote_less n (site_of r) (written_of (site_of r) rec next.scene) next (if_some (written_of (site_of r) rec next.scene) (write_open r next.scene rec site) (λ w may. may.0)) in
    let a = weight_more st.tasks (Forward rec) in
    let b = weight_more st.tasks (MakeStep rec action) in
    omega (arith, less, a, b)
turned_less r (Forward rec) st site =
    let n = length r.links.now in
    let less = asked_less n (forward_of (site_of r) rec st.scene) st (next_open r st.scene rec site _ refl) in
    let b = weight_more st.tasks (Forward rec) in
    omega (arith, less, b)

-- ---- what is left may be done

marked_inside : (n q : ℕ) (s : Scene) → q < n → ((x : ℕ) → s.done x ≡ true → x < n) → (x : ℕ) → (marked q s).done x ≡ true → x < n
marked_inside n q s within inside x e = elim (split_or (eqb x q) (s.done x) e) [
  | inl h ↦ subst (λ (y : ℕ). y < n) (sym (equal x q h)) within
  | inr h ↦ inside x h
]

pub sound_begun : (r : Records) (q : ℕ) (action : Action) (st : Stage) → q < length r.links.now → MayBeStep r.configs.now (q, action) → IsSound r st → IsSound r (begun q action st)
sound_begun r q action st within may sound = record {
  tasks = tasks_more r st.tasks (Fetch q action) sound.tasks (within, may);
  valid = sound.valid;
  inside = marked_inside (length r.links.now) q st.scene within sound.inside;
}

sound_asked : (r : Records) (o : Option ℕ) (st : Stage) → IfSome o (λ q. (q < length r.links.now) × (st.scene.done q ≡ false)) → IsSound r st → IsSound r (asked o st)
sound_asked r None st clear sound = sound
sound_asked r (Some q) st clear sound = sound_begun r q Process st clear.0 (λ config is. tt) sound

sound_wrote : (r : Records) (o : Option (Link × Datum)) (st : Stage) → IfSome o (MayWrite r st.scene) → IsSound r st → IsSound r (wrote (site_of r) o st)
sound_wrote r None st may sound = sound
sound_wrote r (Some w) st may sound = go w.0.processes
  where
    go : (b : Bool) → IsSound r (cond b (begun w.0.target (Put w.1) st) (with_step (site_of r) w.0.target (Put w.1) (with_mark w.0.target st)))
    go true = sound_begun r w.0.target (Put w.1) st may.0.0 may.1 sound
    go false = record {
      tasks = sound.tasks;
      valid = valid_step r w.0.target (Put w.1) (marked w.0.target st.scene) sound.valid may.1;
      inside = marked_inside (length r.links.now) w.0.target st.scene may.0.0 sound.inside;
    }

fetched_may : (r : Records) (rec : ℕ) (action : Action) (s : Scene) → MayBeStep r.configs.now (rec, action) → MayBeStep r.configs.now (rec, fetched (site_of r) rec action s)
fetched_may r rec (Put d) s may = may
fetched_may r rec Process s may = go (option_and_then (λ l. l.inp) (slice_get r.links.now rec))
  where
    put : (from : ℕ) (d : Option Datum) → moved (site_of r) s from rec ≡ d → MayBeStep r.configs.now (rec, put_or_process d)
    put from None e = λ config is. tt
    put from (Some d) e = moved_may r s from rec d e

    go : (o : Option Link) → MayBeStep r.configs.now (rec, put_or_process (option_and_then (λ link. moved (site_of r) s link.target rec) o))
    go None = λ config is. tt
    go (Some l) = put l.target _ refl

pub sound_turned : (r : Records) (t : Task) (st : Stage) → IsSite r → IsSound r (with_task t st) → IsSound r (turned (site_of r) t st)
sound_turned r (Fetch rec action) st site sound =
    let split = tasks_less r st.tasks (Fetch rec action) sound.tasks in
    sound_asked r (source_of (site_of r) rec action st.scene) (with_task (MakeStep rec action) st) (source_open r rec action st.scene site)
    (record { tasks = tasks_more r st.tasks (MakeStep rec action) split.0 split.1; valid = sound.valid; inside = sound.inside })
sound_turned r (MakeStep rec action) st site sound =
    let split = tasks_less r st.tasks (MakeStep rec action) sound.tasks in
    let act = fetched (site_of r) rec action st.scene in
    let next = after_step (site_of r) rec act st in
    sound_wrote r (written_of (site_of r) rec next.scene) next (write_open r next.scene rec site) (sound_step r rec action act st sound (fetched_may r rec action st.scene split.1.1))
sound_turned r (Forward rec) st site sound =
    let split = tasks_less r st.tasks (Forward rec) sound.tasks in
    sound_asked r (forward_of (site_of r) rec st.scene) st (next_open r st.scene rec site _ refl) (record { tasks = split.0; valid = sound.valid; inside = sound.inside })

-- the roots are some of the records
roots_inside : (r : Records) (actions : List Step) (q : ℕ) → MayBeAsked r.configs.now (length r.links.now) actions → is_among q (roots actions) ≡ true → q < length r.links.now
roots_inside r [] q may e = absurd (true≢false (sym e))
roots_inside r (step ∷ steps) q may e = elim (split_or (eqb q step.0) (is_among q (roots steps)) e) [
  | inl h ↦ subst (λ (x : ℕ). x < length r.links.now) (sym (equal q step.0 h)) may.0
  | inr h ↦ roots_inside r steps q may.2 h
]

pub sound_at_start : (r : Records) (actions : List Step) → AreValid r.configs.now (slice_get r.states.now) → MayBeAsked r.configs.now (length r.links.now) actions → IsSound r (at_start r actions)
sound_at_start r actions valid may = record { tasks = tt; valid = valid; inside = λ q e. roots_inside r actions q may e }
