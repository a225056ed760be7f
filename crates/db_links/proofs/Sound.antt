-- What is left of a chain may be done, and grows less.
use Rattle.std.proofs.Common.{◌≡◌, ℕ, ◌<◌, Bool, true, false, cond, ◌&&◌, eqb, Option, None, Some, Result, Ok, Err, IfOk, OnOk, is_some, List, [], ◌∷◌, ◌++◌, length, refl, sym, ap, ◌∙◌, subst}
use Rattle.std.proofs.lemmas.Bool.{true≢false, ltb-true}
use Rattle.std.specs.List.{slice_get}
use Rattle.std.specs.Option.{option_and_then, unwrap_or}
use Rattle.rec_kinds.specs.Configs.{Config}
use Rattle.rec_kinds.specs.Moments.{Instant}
use Rattle.rec_kinds.specs.Processing.{processed}
use Rattle.rec_kinds.specs.Validity.{IsValid, MayBeDone}
use Rattle.rec_kinds.proofs.Keeping.{valid_after}
use Rattle.rec_kinds.specs.declared.datum.Action.{Action}
use Rattle.rec_kinds.specs.declared.state.RecState.{RecState}
use Rattle.db_links.specs.Live.{is_inside, all_inside, are_inside}
use Rattle.db_links.specs.Chains.{Scene, AreValid, MayBeStep, state_after, stepped, open_link}
use Rattle.db_links.specs.Courses.{Stage, IsSound, IsTask, AreTasks, site_of, with_task, after_step}
use Rattle.db_links.specs.declared.course.Records.{Records}
use Rattle.db_links.specs.declared.course.Task.{Task}
use Rattle.db_links.specs.declared.course.Task.TheVariants.{MakeStep, Forward}
use Rattle.db_links.specs.declared.link.Link.{Link}
use Rattle.db_links.specs.declared.link.RecordLinks.{RecordLinks}
use Rattle.db_links.proofs.Walking.{both, equal, each_inside}

pub on_more : {A E : Type 0} {P Q : Type 0} (r : Result A E) → OnOk r P → (P → Q) → OnOk r Q
on_more (Ok x) p f = f p
on_more (Err e) p f = tt

pub if_more : {A E : Type 0} {P Q : A → Type 0} (r : Result A E) → IfOk r P → ((x : A) → P x → Q x) → IfOk r Q
if_more (Ok x) p f = f x p
if_more (Err e) p f = tt

pub some_same : {X : Type 0} {x y : X} → Some x ≡ Some y → x ≡ y
some_same {X} {x} {y} e = ap (λ o. unwrap_or o x) e

pub none_some : {X : Type 0} {x : X} → None ≡ Some x → ⊥
none_some e = true≢false (sym (ap is_some e))

-- ---- links name some of the records

link_in : (count : ℕ) (which : RecordLinks → Option Link) (ls : List RecordLinks) (a : ℕ) (l : Link) (o : Option RecordLinks) → ((r : RecordLinks) → all_inside count r ≡ true → is_inside count (which r) ≡ true)
    → ((r : RecordLinks) → o ≡ Some r → all_inside count r ≡ true) → option_and_then which o ≡ Some l → l.target < count
link_in count which ls a l None part each e = absurd (none_some e)
link_in count which ls a l (Some r) part each e = ltb-true l.target count (sym (ap (is_inside count) e) ∙ part r (each r refl))

pub link_inside : (which : RecordLinks → Option Link) (ls : List RecordLinks) (a : ℕ) (l : Link) → ((r : RecordLinks) → all_inside (length ls) r ≡ true → is_inside (length ls) (which r) ≡ true)
    → are_inside ls ≡ true → option_and_then which (slice_get ls a) ≡ Some l → l.target < length ls
link_inside which ls a l part inside e = link_in (length ls) which ls a l (slice_get ls a) part (λ r is. each_inside (length ls) ls a r inside is) e

pub inp_inside : (ls : List RecordLinks) (a : ℕ) (l : Link) → are_inside ls ≡ true → option_and_then (λ r. r.inp) (slice_get ls a) ≡ Some l → l.target < length ls
inp_inside ls a l = link_inside (λ r. r.inp) ls a l (λ r all. (both (is_inside (length ls) r.inp) (is_inside (length ls) r.out) (both (is_inside (length ls) r.inp && is_inside (length ls) r.out) (is_inside (length ls) r.flnk) all).0).0)

pub out_inside : (ls : List RecordLinks) (a : ℕ) (l : Link) → are_inside ls ≡ true → option_and_then (λ r. r.out) (slice_get ls a) ≡ Some l → l.target < length ls
out_inside ls a l = link_inside (λ r. r.out) ls a l (λ r all. (both (is_inside (length ls) r.inp) (is_inside (length ls) r.out) (both (is_inside (length ls) r.inp && is_inside (length ls) r.out) (is_inside (length ls) r.flnk) all).0).1)

pub flnk_inside : (ls : List RecordLinks) (a : ℕ) (l : Link) → are_inside ls ≡ true → option_and_then (λ r. r.flnk) (slice_get ls a) ≡ Some l → l.target < length ls
flnk_inside ls a l = link_inside (λ r. r.flnk) ls a l (λ r all. (both (is_inside (length ls) r.inp && is_inside (length ls) r.out) (is_inside (length ls) r.flnk) all).1)

-- an open link is a link whose record isn't marked done
pub opened : (s : Scene) (o : Option Link) (l : Link) → option_and_then (open_link s) o ≡ Some l → (o ≡ Some l) × (s.done l.target ≡ false)
opened s None l e = absurd (none_some e)
opened s (Some k) l e = go (s.done k.target) refl e
  where
    go : (b : Bool) → s.done k.target ≡ b → cond b None (Some k) ≡ Some l → (Some k ≡ Some l) × (s.done l.target ≡ false)
    go true is e = absurd (none_some e)
    go false is e = (e, ap (λ (x : Link). s.done x.target) (sym (some_same e)) ∙ is)

-- ---- states stay valid

next_valid : (moment : Instant) (action : Action) (c : Option Config) (o : Option RecState) (config : Config) (state : RecState) → c ≡ Some config
    → ((old : RecState) → o ≡ Some old → IsValid config old) → MayBeDone config action → state_after moment action c o ≡ Some state → IsValid config state
next_valid moment action None o config state is valid may e = absurd (none_some is)
next_valid moment action (Some c) None config state is valid may e = absurd (none_some e)
next_valid moment action (Some c) (Some old) config state is valid may e =
    let same = some_same is in
    subst (IsValid config) (ap (λ (x : Config). processed x old action moment true) (sym same) ∙ some_same e) (valid_after config old action moment true (valid old refl) may)

pub valid_step : (r : Records) (rec : ℕ) (action : Action) (s : Scene) → AreValid r.configs.now s.states → MayBeStep r.configs.now (rec, action)
    → AreValid r.configs.now (stepped (site_of r) rec action s).states
valid_step r rec action s valid may q config state is_config is_state = go (eqb q rec) refl is_state
  where
    after : Option RecState
    after = state_after r.moment action (slice_get r.configs.now rec) (s.states rec)

    go : (b : Bool) → eqb q rec ≡ b → cond b after (s.states q) ≡ Some state → IsValid config state
    go false is e = valid q config state is_config e
    go true is e =
        let here = ap (slice_get r.configs.now) (sym (equal q rec is)) ∙ is_config in
        next_valid r.moment action (slice_get r.configs.now rec) (s.states rec) config state here (λ old was. valid rec config old here was) (may config here) e

-- ---- tasks

pub tasks_more : (r : Records) (ts : List Task) (t : Task) → AreTasks r ts → IsTask r t → AreTasks r (ts ++ t ∷ [])
tasks_more r [] t all one = (one, tt)
tasks_more r (u ∷ us) t all one = (all.0, tasks_more r us t all.1 one)

pub tasks_less : (r : Records) (ts : List Task) (t : Task) → AreTasks r (ts ++ t ∷ []) → AreTasks r ts × IsTask r t
tasks_less r [] t all = (tt, all.0)
tasks_less r (u ∷ us) t all = let rest = tasks_less r us t all.1 in ((all.0, rest.0), rest.1)

pub sound_step : (r : Records) (rec : ℕ) (old action : Action) (st : Stage) → IsSound r (with_task (MakeStep rec old) st) → MayBeStep r.configs.now (rec, action) → IsSound r (after_step (site_of r) rec action st)
sound_step r rec old action st sound may =
    let split = tasks_less r st.tasks (MakeStep rec old) sound.tasks in record {
      tasks = tasks_more r st.tasks (Forward rec) split.0 split.1.0;
      valid = valid_step r rec action st.scene sound.valid may;
      inside = sound.inside;
    }
