-- Actions that were done, one after another.
use Rattle.std.proofs.Common.{◌≡◌, ◌==◌, ℕ, ◌+◌, ◌*◌, ◌≤◌, ◌<◌, zero, suc, Bool, List, [], ◌∷◌, ◌++◌, length, take, drop, set, Option, None, Some, MatchOption, Result, Ok, Err, OnErr, OnOk, inl, inr, refl, sym, ◌∙◌, ap, subst, arith, length-append}
use Rattle.std.specs.List.{slice_get, AllByRecursion, All, filter, list_any, range_with_len, sum_by}
use Rattle.std.specs.Prelude.{◌^◌, ◌||◌, true, false, if◌then◌else◌, is_some}
use Rattle.std.proofs.Math.Seq.{take-length}
use Rattle.std.proofs.lemmas.List.{length-set}
use Rattle.std.proofs.lemmas.List.Elements.{All-cons, All-nil}
use Rattle.std.proofs.lemmas.List.Sums.{fold-append, sum_by-append, sum_by-cons}
use Rattle.std.proofs.lemmas.List.FromFn.{length-range_with_len}
use Rattle.std.proofs.lemmas.Option.{none-some, slice_get_within}
use Rattle.rec_kinds.specs.Configs.{Config}
use Rattle.rec_kinds.specs.Texts.{text_of_datum}
use Rattle.rec_kinds.specs.Processing.{processed, datum_after}
use Rattle.rec_kinds.specs.Validity.{MayBeDone}
use Rattle.rec_kinds.specs.declared.datum.Action.{Action}
use Rattle.rec_kinds.specs.declared.state.RecState.{RecState}
use Rattle.rec_kinds.proofs.Keeping.{valid_after}
use Rattle.journal_core.specs.Histories.{written, WritesWithin}
use Rattle.journal_core.specs.Legality.{AreProcessed, AreValid, IsDone}
use Rattle.journal_core.specs.Moments.{Moment}
use Rattle.journal_core.specs.Weights.{action_weight, weight}
use Rattle.journal_core.specs.declared.entry.Entry.{Entry}
use Rattle.desk_api.specs.Puts.{footprint_with, is_held}
use Rattle.desk_api.specs.declared.history.SiteData.{SiteData}
use Rattle.journal_core.proofs.Keeping.{valid_at, valid_set}
use Rattle.desk_core.specs.Effects.{restored, IsNextOf, AreDone, IsBroken}
use Rattle.desk_core.specs.Ports.{Ports, AreDriven, IsDrivenAt, IsTriedAt, ports_there}
use Rattle.desk_core.proofs.Listing.{next_taken, rest_at}
use Rattle.desk_core.proofs.Ported.{stay_at, same_set}

-- ---- states that are put back

restored_append : (cells : List RecState) (before more : List (ℕ × RecState)) → restored cells (before ++ more) ≡ restored (restored cells more) before
restored_append cells [] more = refl
restored_append cells (held ∷ before) more = ap (λ (l : List RecState). set l held.0 held.1) (restored_append cells before more)

set_back : (xs : List RecState) (n : ℕ) (old new : RecState) → slice_get xs n ≡ Some old → set (set xs n new) n old ≡ xs
set_back [] n old new is = refl
set_back (x ∷ xs) zero old new is = same_set (x ∷ xs) zero old is
set_back (x ∷ xs) (suc n) old new is = ap (λ (l : List RecState). x ∷ l) (set_back xs n old new is)

all_last : {X : Type 0} (P : X → Type 0) (xs : List X) (x : X) → AllByRecursion P xs → P x → AllByRecursion P (xs ++ x ∷ [])
all_last P [] x all last = (last, tt)
all_last P (y ∷ xs) x all last = (all.0, all_last P xs x all.1 last)

all_first : {X : Type 0} (P : X → Type 0) (xs : List X) (x : X) → AllByRecursion P (xs ++ x ∷ []) → AllByRecursion P xs
all_first P [] x all = tt
all_first P (y ∷ xs) x all = (all.0, all_first P xs x all.1)

-- one state is put back, the last of these
pub one_back : (cells : List RecState) (before : List (ℕ × RecState)) (held : ℕ × RecState) → restored (set cells held.0 held.1) before ≡ restored cells (before ++ held ∷ [])
one_back cells before held = sym (restored_append cells before (held ∷ []))

pub one_less : (cells : List RecState) (before : List (ℕ × RecState)) (rec : ℕ) (held new : RecState) → AllByRecursion (λ (h : ℕ × RecState). h.0 < length cells) (before ++ (rec, held) ∷ []) → AllByRecursion (λ (h : ℕ × RecState). h.0 < length (set cells rec new)) before
one_less cells before rec held new all =
    subst (λ (n : ℕ). AllByRecursion (λ (h : ℕ × RecState). h.0 < n) before) (sym (length-set cells rec new)) (all_first (λ (h : ℕ × RecState). h.0 < length cells) before (rec, held) all)

-- ---- actions behind others

written_append : (cells : List RecState) (writes more : List (ℕ × RecState)) → written cells (writes ++ more) ≡ written (written cells writes) more
written_append cells writes more = fold-append (λ (s : List RecState) (w : ℕ × RecState). set s w.0 w.1) cells writes more

pub processed_append : (configs : List Config) (was : List RecState) (moment : Moment) (actions more : List (ℕ × Action)) (drives more_drives : List Bool) (writes more_writes : List (ℕ × RecState))
    → AreProcessed configs was moment actions drives writes → AreProcessed configs (written was writes) moment more more_drives more_writes
    → AreProcessed configs was moment (actions ++ more) (drives ++ more_drives) (writes ++ more_writes)
processed_append configs was moment [] more [] more_drives [] more_writes p q = q
processed_append configs was moment [] more [] more_drives (w ∷ writes) more_writes p q = absurd p
processed_append configs was moment [] more (d ∷ drives) more_drives writes more_writes p q = absurd p
processed_append configs was moment (a ∷ actions) more [] more_drives writes more_writes p q = absurd p
processed_append configs was moment (a ∷ actions) more (d ∷ drives) more_drives [] more_writes p q = absurd p
processed_append configs was moment (a ∷ actions) more (d ∷ drives) more_drives (w ∷ writes) more_writes p q =
    (p.0, processed_append configs (set was w.0 w.1) moment actions more drives more_drives writes more_writes p.1 q)

pub driven_append : (old mid new : Ports) (drives more_drives : List Bool) (writes more_writes : List (ℕ × RecState)) → AreDriven old mid drives writes → AreDriven mid new more_drives more_writes
    → AreDriven old new (drives ++ more_drives) (writes ++ more_writes)
driven_append old mid new [] more_drives [] more_writes d e = subst (λ (p : Ports). AreDriven p new more_drives more_writes) d e
driven_append old mid new [] more_drives (w ∷ writes) more_writes d e = absurd d
driven_append old mid new (b ∷ drives) more_drives [] more_writes d e = absurd d
driven_append old mid new (b ∷ drives) more_drives (w ∷ writes) more_writes d e = (d.0, d.1, driven_append d.0 mid new drives more_drives writes more_writes d.2 e)

-- as many writes as actions
pub as_many_writes : (configs : List Config) (was : List RecState) (moment : Moment) (actions : List (ℕ × Action)) (drives : List Bool) (writes : List (ℕ × RecState)) → AreProcessed configs was moment actions drives writes → length writes ≡ length actions
as_many_writes configs was moment [] [] [] p = refl
as_many_writes configs was moment [] [] (w ∷ writes) p = absurd p
as_many_writes configs was moment [] (d ∷ drives) writes p = absurd p
as_many_writes configs was moment (a ∷ actions) [] writes p = absurd p
as_many_writes configs was moment (a ∷ actions) (d ∷ drives) [] p = absurd p
as_many_writes configs was moment (a ∷ actions) (d ∷ drives) (w ∷ writes) p = ap suc (as_many_writes configs (set was w.0 w.1) moment actions drives writes p.1)

-- what is written is of records that there are
within_by : (configs : List Config) (was : List RecState) (moment : Moment) (action : ℕ × Action) (drove : Bool) (write : ℕ × RecState) (config : Option Config) (old : Option RecState)
    → slice_get was action.0 ≡ old → IsDone config old moment action drove write → write.0 < length was
within_by configs was moment action drove write (Some config) (Some old) found p = omega (arith, ap (λ (w : ℕ × RecState). w.0) p.write_is, slice_get_within was action.0 old found)
within_by configs was moment action drove write (Some config) None found p = absurd p
within_by configs was moment action drove write None old found p = absurd p

pub writes_within : (configs : List Config) (was : List RecState) (moment : Moment) (actions : List (ℕ × Action)) (drives : List Bool) (writes : List (ℕ × RecState)) → AreProcessed configs was moment actions drives writes → WritesWithin (length was) writes
writes_within configs was moment [] [] [] p = All-nil (λ (w : ℕ × RecState). w.0 < length was)
writes_within configs was moment [] [] (w ∷ writes) p = absurd p
writes_within configs was moment [] (d ∷ drives) writes p = absurd p
writes_within configs was moment (a ∷ actions) [] writes p = absurd p
writes_within configs was moment (a ∷ actions) (d ∷ drives) [] p = absurd p
writes_within configs was moment (a ∷ actions) (d ∷ drives) (w ∷ writes) p =
    All-cons (λ (w : ℕ × RecState). w.0 < length was) w writes (within_by configs was moment a d w (slice_get configs a.0) (slice_get was a.0) refl p.0)
    (subst (λ (n : ℕ). WritesWithin n writes) (length-set was w.0 w.1) (writes_within configs (set was w.0 w.1) moment actions drives writes p.1))

-- the states stay valid
valid_by : (configs : List Config) (was : List RecState) (moment : Moment) (action : ℕ × Action) (drove : Bool) (write : ℕ × RecState) (config : Option Config) (old : Option RecState)
    → slice_get configs action.0 ≡ config → slice_get was action.0 ≡ old → AreValid configs was → IsDone config old moment action drove write → AreValid configs (set was write.0 write.1)
valid_by configs was moment action drove write (Some config) (Some old) configured found valid p =
    subst (λ (w : ℕ × RecState). AreValid configs (set was w.0 w.1)) (sym p.write_is)
    (valid_set configs was action.0 config (processed config old action.1 moment drove) valid configured
    (valid_after config old action.1 moment drove (valid_at configs was action.0 config old valid configured found) p.may))
valid_by configs was moment action drove write (Some config) None configured found valid p = absurd p
valid_by configs was moment action drove write None old configured found valid p = absurd p

pub valid_next : (configs : List Config) (was : List RecState) (moment : Moment) (action : ℕ × Action) (drove : Bool) (write : ℕ × RecState) → AreValid configs was → IsDone (slice_get configs action.0) (slice_get was action.0) moment action drove write → AreValid configs (set was write.0 write.1)
valid_next configs was moment action drove write valid p = valid_by configs was moment action drove write (slice_get configs action.0) (slice_get was action.0) refl refl valid p

-- ports stay where they are
-- what actions leave is valid
pub valid_done : (configs : List Config) (was : List RecState) (moment : Moment) (actions : List (ℕ × Action)) (drives : List Bool) (writes : List (ℕ × RecState)) → AreValid configs was → AreProcessed configs was moment actions drives writes → AreValid configs (written was writes)
valid_done configs was moment [] [] [] valid p = valid
valid_done configs was moment [] [] (w ∷ writes) valid p = absurd p
valid_done configs was moment [] (d ∷ drives) writes valid p = absurd p
valid_done configs was moment (a ∷ actions) [] writes valid p = absurd p
valid_done configs was moment (a ∷ actions) (d ∷ drives) [] valid p = absurd p
valid_done configs was moment (a ∷ actions) (d ∷ drives) (w ∷ writes) valid p =
    valid_done configs (set was w.0 w.1) moment actions drives writes (valid_next configs was moment a d w valid p.0) p.1

pub stay_driven : (old new : Ports) (drives : List Bool) (writes : List (ℕ × RecState)) → AreDriven old new drives writes → ports_there new ≡ ports_there old
stay_driven old new [] [] d = ap ports_there d
stay_driven old new [] (w ∷ writes) d = absurd d
stay_driven old new (b ∷ drives) [] d = absurd d
stay_driven old new (b ∷ drives) (w ∷ writes) d = stay_driven d.0 new drives writes d.2 ∙ stay_at old d.0 w.0 b (text_of_datum w.1.datum) d.1

written_count : (states : List RecState) (writes : List (ℕ × RecState)) → length (written states writes) ≡ length states
written_count states [] = refl
written_count states (w ∷ writes) = written_count (set states w.0 w.1) writes ∙ length-set states w.0 w.1

-- ---- what was done so far

module _ (configs : List Config) (moment : Moment) (was : List RecState) (old : Ports) where
  -- nothing
  pub none_done : (cells : List RecState) (new : Ports) (actions : List (ℕ × Action)) (drives : List Bool) (writes before : List (ℕ × RecState)) → cells ≡ was → new ≡ old → actions ≡ [] → drives ≡ [] → writes ≡ [] → before ≡ []
      → AreDone configs moment was cells old new actions drives writes before
  none_done cells new actions drives writes before same kept no_action no_drive no_write none_ = record {
    processed = subst (λ (l : List (ℕ × Action)). AreProcessed configs was moment l drives writes) (sym no_action) (subst (λ (l : List Bool). AreProcessed configs was moment [] l writes) (sym no_drive)
        (subst (λ (l : List (ℕ × RecState)). AreProcessed configs was moment [] [] l) (sym no_write) tt));
    driven = subst (λ (l : List Bool). AreDriven old new l writes) (sym no_drive) (subst (λ (l : List (ℕ × RecState)). AreDriven old new [] l) (sym no_write) kept);
    cells_are = same ∙ ap (written was) (sym no_write);
    kept = ap (restored cells) none_ ∙ same;
    within = subst (AllByRecursion (λ (held : ℕ × RecState). held.0 < length was)) (sym none_) tt;
  }

  module _ (cells : List RecState) (new : Ports) (actions : List (ℕ × Action)) (drives : List Bool) (writes before : List (ℕ × RecState)) (d : AreDone configs moment was cells old new actions drives writes before) where
    as_long : length cells ≡ length was
    as_long = ap length d.cells_are ∙ written_count was writes

    pub within_now : AllByRecursion (λ (held : ℕ × RecState). held.0 < length cells) before
    within_now = subst (λ (n : ℕ). AllByRecursion (λ (held : ℕ × RecState). held.0 < n) before) (sym as_long) d.within

    -- one more
    pub more_done : (cells_more : List RecState) (new_more : Ports) (action : ℕ × Action) (more_drives : List Bool) (more_writes more : List (ℕ × RecState))
        → IsNextOf configs moment action cells cells_more new new_more drives more_drives writes more_writes before more
        → AreDone configs moment was cells_more old new_more (actions ++ action ∷ []) more_drives more_writes more
    more_done cells_more new_more action more_drives more_writes more n =
        let write : ℕ × RecState = (action.0, n.state) in
        record {
          processed = subst (λ (l : List Bool). AreProcessed configs was moment (actions ++ action ∷ []) l more_writes) (sym n.drives_are)
              (subst (λ (l : List (ℕ × RecState)). AreProcessed configs was moment (actions ++ action ∷ []) (drives ++ n.drove ∷ []) l) (sym n.writes_are)
              (processed_append configs was moment actions (action ∷ []) drives (n.drove ∷ []) writes (write ∷ []) d.processed
              (subst (λ (l : List RecState). IsDone (slice_get configs action.0) (slice_get l action.0) moment action n.drove write) d.cells_are n.done, tt)));
          driven = subst (λ (l : List Bool). AreDriven old new_more l more_writes) (sym n.drives_are)
              (subst (λ (l : List (ℕ × RecState)). AreDriven old new_more (drives ++ n.drove ∷ []) l) (sym n.writes_are)
              (driven_append old new new_more drives (n.drove ∷ []) writes (write ∷ []) d.driven (new_more, n.driven, refl)));
          cells_are = n.written.cells_are ∙ ap (λ (l : List RecState). set l action.0 n.state) d.cells_are ∙ sym (written_append was writes (write ∷ [])) ∙ ap (written was) (sym n.writes_are);
          kept = ap (restored cells_more) n.written.before_are ∙ restored_append cells_more before ((action.0, n.written.held) ∷ [])
              ∙ ap (λ (l : List RecState). restored (set l action.0 n.written.held) before) n.written.cells_are
              ∙ ap (λ (l : List RecState). restored l before) (set_back cells action.0 n.written.held n.state n.written.there) ∙ d.kept;
          within = subst (AllByRecursion (λ (held : ℕ × RecState). held.0 < length was)) (sym n.written.before_are)
              (all_last (λ (held : ℕ × RecState). held.0 < length was) before (action.0, n.written.held) d.within
              (omega (arith, slice_get_within cells action.0 n.written.held n.written.there, as_long)));
        }

-- ---- memory ran out

-- before anything was done
pub none_broken : (configs : List Config) (was : List RecState) (old new : Ports) (actions : List (ℕ × Action)) (moment : Moment) → new ≡ old → IsBroken configs was old new actions moment
none_broken configs was old new actions moment same = record { drives = []; writes = []; processed = tt; driven = same }

pub on_err : {A E : Type 0} (r : Result A E) {P : Type 0} → P → OnErr r P
on_err (Ok x) p = tt
on_err (Err e) p = p

pub on_ok : {A E : Type 0} (r : Result A E) {P Q : Type 0} → OnOk r P → (P → Q) → OnOk r Q
on_ok (Ok x) p step = step p
on_ok (Err e) p step = tt

-- in an action
module _ (configs : List Config) (was : List RecState) (rec : ℕ) (action : Action) (moment : Moment) (config : Config) (state : RecState)
    (configured : slice_get configs rec ≡ Some config) (found : slice_get was rec ≡ Some state) (may : MayBeDone config action) where
  pub one_done : (drove : Bool) → (drove || is_some config.port) ≡ true → IsDone (slice_get configs rec) (slice_get was rec) moment (rec, action) drove (rec, processed config state action moment drove)
  one_done drove told =
      subst (λ (o : Option Config × Option RecState). IsDone o.0 o.1 moment (rec, action) drove (rec, processed config state action moment drove)) (λ i. (sym configured i, sym found i)) (record { may = may; driven = told; write_is = refl })

  pub one_broken : (old new : Ports) (drove : Bool) → (drove || is_some config.port) ≡ true → IsDrivenAt old new rec drove (text_of_datum (processed config state action moment drove).datum) → IsBroken configs was old new ((rec, action) ∷ []) moment
  one_broken old new drove told driven = record {
    drives = drove ∷ [];
    writes = (rec, processed config state action moment drove) ∷ [];
    processed = (one_done drove told, tt);
    driven = (new, driven, refl);
  }

  pub tried_broken : (old new : Ports) → ((drove : Bool) (text : List ℕ) → IsDrivenAt old new rec drove text → (drove || is_some config.port) ≡ true) → IsTriedAt old new rec (text_of_datum (datum_after config state action)) → IsBroken configs was old new ((rec, action) ∷ []) moment
  tried_broken old new told (inl same) = none_broken configs was old new ((rec, action) ∷ []) moment same
  tried_broken old new told (inr (drove, driven)) = one_broken old new drove (told drove (text_of_datum (datum_after config state action)) driven) driven

-- behind all of them
pub done_broken : (configs : List Config) (moment : Moment) (was cells : List RecState) (old new : Ports) (actions : List (ℕ × Action)) (drives : List Bool) (writes before : List (ℕ × RecState))
    → AreDone configs moment was cells old new actions drives writes before → IsBroken configs was old new actions moment
done_broken configs moment was cells old new actions drives writes before d = record {
  drives = drives;
  writes = writes;
  processed = subst (λ (l : List (ℕ × Action)). AreProcessed configs was moment l drives writes)
      (sym (ap (λ (n : ℕ). take n actions) (as_many_writes configs was moment actions drives writes d.processed) ∙ take-length actions)) d.processed;
  driven = d.driven;
}

-- behind others
one_of : (configs : List Config) (was : List RecState) (moment : Moment) (action : ℕ × Action) (drives : List Bool) (writes : List (ℕ × RecState)) → AreProcessed configs was moment (take (length writes) (action ∷ [])) drives writes
    → (rest : List (ℕ × Action)) → take (length writes) (action ∷ rest) ≡ take (length writes) (action ∷ [])
one_of configs was moment action drives [] p rest = refl
one_of configs was moment action drives (w ∷ []) p rest = refl
one_of configs was moment action [] (w ∷ v ∷ writes) p rest = absurd p
one_of configs was moment action (d ∷ []) (w ∷ v ∷ writes) p rest = absurd p.1
one_of configs was moment action (d ∷ e ∷ drives) (w ∷ v ∷ writes) p rest = absurd p.1

plus_none : (k : ℕ) → 0 + k ≡ k
plus_none k = omega arith

suc_plus : (i k : ℕ) → suc i + k ≡ suc (i + k)
suc_plus i k = omega arith

none_taken : {X : Type 0} (xs : List X) (n : ℕ) → xs ≡ [] → take n xs ≡ []
none_taken [] zero is = refl
none_taken [] (suc n) is = refl
none_taken (x ∷ xs) n is = absurd (cc is)

take_more : {X : Type 0} (xs : List X) (i k : ℕ) → take (i + k) xs ≡ take i xs ++ take k (drop i xs)
take_more xs zero k = ap (λ (n : ℕ). take n xs) (plus_none k)
take_more [] (suc i) k = none_taken [] (suc i + k) refl ∙ sym (none_taken [] k refl)
take_more {X} (x ∷ xs) (suc i) k = ap (λ (n : ℕ). take n (x ∷ xs)) (suc_plus i k) ∙ ap (λ (l : List X). x ∷ l) (take_more xs i k)

length_taken : {X : Type 0} (xs : List X) (i : ℕ) (x : X) → slice_get xs i ≡ Some x → length (take i xs) ≡ i
length_taken [] i x is = absurd (none-some x is)
length_taken (y ∷ xs) zero x is = refl
length_taken (y ∷ xs) (suc i) x is = ap suc (length_taken xs i x is)

pub more_broken : (configs : List Config) (moment : Moment) (was cells : List RecState) (old mid new : Ports) (actions : List (ℕ × Action)) (i : ℕ) (action : ℕ × Action) (drives : List Bool) (writes before : List (ℕ × RecState))
    → slice_get actions i ≡ Some action → AreDone configs moment was cells old mid (take i actions) drives writes before → IsBroken configs cells mid new (action ∷ []) moment → IsBroken configs was old new actions moment
more_broken configs moment was cells old mid new actions i action drives writes before is d b =
    let so_far : length writes ≡ i = as_many_writes configs was moment (take i actions) drives writes d.processed ∙ length_taken actions i action is in
    let count : length (writes ++ b.writes) ≡ i + length b.writes = length-append writes b.writes ∙ ap (λ (n : ℕ). n + length b.writes) so_far in
    let taken : take (length (writes ++ b.writes)) actions ≡ take i actions ++ take (length b.writes) (action ∷ []) =
    ap (λ (n : ℕ). take n actions) count ∙ take_more actions i (length b.writes)
    ∙ ap (λ (l : List (ℕ × Action)). take i actions ++ take (length b.writes) l) (rest_at actions i action is)
    ∙ ap (λ (l : List (ℕ × Action)). take i actions ++ l) (one_of configs cells moment action b.drives b.writes b.processed (drop (suc i) actions)) in record {
      drives = drives ++ b.drives;
      writes = writes ++ b.writes;
      processed = subst (λ (l : List (ℕ × Action)). AreProcessed configs was moment l (drives ++ b.drives) (writes ++ b.writes)) (sym taken)
          (processed_append configs was moment (take i actions) (take (length b.writes) (action ∷ [])) drives b.drives writes b.writes d.processed
          (subst (λ (l : List RecState). AreProcessed configs l moment (take (length b.writes) (action ∷ [])) b.drives b.writes) d.cells_are b.processed));
      driven = driven_append old mid new drives b.drives writes b.writes d.driven b.driven;
    }

-- ---- what was drafted is light

pub more_light : (actions : List (ℕ × Action)) (i : ℕ) (action : ℕ × Action) → slice_get actions i ≡ Some action → sum_by action_weight (take i actions) ≤ i * 2 ^ 39 → action_weight action ≤ 2 ^ 39 → sum_by action_weight (take (i + 1) actions) ≤ (i + 1) * 2 ^ 39
more_light actions i action is light one =
    omega (arith, light, one, ap (sum_by action_weight) (next_taken actions i action is), sum_by-append action_weight (take i actions) (action ∷ []), sum_by-cons action_weight action [])

pub may_be : (configured : Option Config) (config : Config) (action : Action) → configured ≡ Some config → MatchOption configured ⊥ (λ (k : Config). MayBeDone k action) → MayBeDone config action
may_be configured config action is may = subst (λ (o : Option Config). MatchOption o ⊥ (λ (k : Config). MayBeDone k action)) is may

kept_by : (p : ℕ → Bool) (ns : List ℕ) → length (filter p ns) ≤ length ns
kept_by p [] = omega arith
kept_by p (n ∷ ns) = kept_if (p n) (filter p ns) (length ns) (kept_by p ns) where
  kept_if : (b : Bool) (more : List ℕ) (count : ℕ) → length more ≤ count → length (if b then n ∷ more else more) ≤ suc count
  kept_if true more count le = omega (arith, le)
  kept_if false more count le = omega (arith, le)

pub entry_light : (site : SiteData) (actions : List (ℕ × Action)) (looked : List ℕ) (entry : Entry) → entry.footprint ≡ footprint_with site actions looked → entry.actions ≡ actions → length site.configs < 4001 → length actions ≤ 256
    → sum_by action_weight actions ≤ length actions * 2 ^ 39 → weight entry < 2 ^ 64
entry_light site actions looked entry footprint_is actions_are few_configs few light =
    omega (arith, few_configs, few, light, ap length footprint_is, kept_by (λ (rec : ℕ). is_held site actions rec || list_any (λ (r : ℕ). r == rec) looked) (range_with_len 0 (length site.configs)), length-range_with_len 0 (length site.configs), ap (sum_by action_weight) actions_are)
