-- The looks of a get that isn't atomic, and a look at all records.
use Rattle.std.proofs.Common.{◌≡◌, ◌<◌, ◌≤◌, ℕ, ◌+◌, zero, suc, Bool, false, List, [], ◌∷◌, ◌++◌, length, take, set, Option, Some, Result, Ok, Err, inl, inr, refl, sym, ◌∙◌, ap, subst, arith}
use Rattle.std.specs.List.{slice_get, range_with_len, AllByRecursion}
use Rattle.std.specs.Prelude.{IfOk, OnOk}
use Rattle.std.proofs.Math.Seq.{take-length}
use Rattle.std.proofs.lemmas.List.{append-nil, length-append, length-map, length-set, map-append}
use Rattle.std.proofs.lemmas.List.FromFn.{length-range_with_len}
use Rattle.std.proofs.lemmas.Option.{none-some, slice_get_within}
use Rattle.std.specs.declared.vec.Vec.{Vec}
use Rattle.pvd_type.specs.declared.memory.NoMemory.{NoMemory}
use Rattle.pvd_value.specs.View.{view}
use Rattle.pvd_value.specs.declared.value.PvValue.{PvValue}
use Rattle.rec_kinds.specs.Configs.{Config}
use Rattle.rec_kinds.specs.declared.state.RecState.{RecState}
use Rattle.journal_core.specs.Legality.{AreValid}
use Rattle.journal_core.proofs.Keeping.{valid_set}
use Rattle.desk_api.specs.Calls.{Calls, AreGet, AreLooks, AreSnapshot, EndsAtItsMarks, laid_by, looks_by, looks_of, now, rows_shown, with_mark}
use Rattle.desk_api.specs.History.{IsLegal, state_at}
use Rattle.desk_api.specs.Marks.{IsLookOf}
use Rattle.desk_api.specs.Sites.{all_records, channel_of, footprint_of, is_atomic}
use Rattle.desk_api.specs.Views.{AreStatesOf, value_of}
use Rattle.desk_api.specs.declared.channel.Channel.{Channel}
use Rattle.desk_api.specs.declared.channel.ChannelKind.TheVariants.{Service}
use Rattle.desk_api.specs.declared.history.SiteData.{SiteData}
use Rattle.desk_api.specs.declared.mark.Mark.{Mark}
use Rattle.desk_api.specs.declared.mark.Mark.TheVariants.{Read, Entered, Overweight, Begun, Crowded, Popped, Dropped}
use Rattle.desk_api.specs.declared.mark.Seat.{Seat}
use Rattle.desk_api.specs.declared.rows.RecRow.{RecRow}
use Rattle.desk_api.proofs.Adding.{adds_more}
use Rattle.desk_core.specs.Effects.{restored, IsWritten}
use Rattle.desk_core.proofs.Doing.{one_back}
use Rattle.desk_core.proofs.Reading.{looks_of_get}
use Rattle.desk_shared.specs.Hands.{states_of, Visits}
use Rattle.desk_shared.specs.Looks.{AreAll, AreLook, AreLookedAt, IsLook, IsRestorable, one_by_one}
use Rattle.desk_shared.specs.Records.{Sight}
use Rattle.desk_shared.specs.declared.records.RecCell.{RecCell}
use Rattle.desk_shared.proofs.Gotten.{read_adds}
use Rattle.desk_shared.proofs.Handed.{valid_in_hand}
use Rattle.desk_shared.proofs.Listed.{same_states, some_same, some_there, states_from_each}

-- ---- what is laid over states

pub laid_append : (states : List RecState) (xs ys : List Mark) → laid_by states (xs ++ ys) ≡ laid_by (laid_by states xs) ys
laid_append states [] ys = refl
laid_append states (Read at channel footprint found ∷ xs) ys = laid_append _ xs ys
laid_append states (Entered at entry looked found ∷ xs) ys = laid_append states xs ys
laid_append states (Overweight at footprint actions kept added limit ∷ xs) ys = laid_append states xs ys
laid_append states (Begun at index slot channel mask size ∷ xs) ys = laid_append states xs ys
laid_append states (Crowded at index count ∷ xs) ys = laid_append states xs ys
laid_append states (Popped at slot update ∷ xs) ys = laid_append states xs ys
laid_append states (Dropped at index slot ∷ xs) ys = laid_append states xs ys

-- ---- looks one after another

looks_append : (channel : Channel) (xs ys : List (List ℕ)) (ms ns : List Mark) → AreLooks channel xs ms → AreLooks channel ys ns → AreLooks channel (xs ++ ys) (ms ++ ns)
looks_append channel [] ys [] ns a b = b
looks_append channel [] ys (m ∷ ms) ns a b = absurd a
looks_append channel (x ∷ xs) ys [] ns a b = absurd a
looks_append channel (x ∷ xs) ys (m ∷ ms) ns a b = (a.0, looks_append channel xs ys ms ns a.1 b)

pub many_looks : (channel : Channel) (xs : List (List ℕ)) (ms : List Mark) → AreLooks channel xs ms → length ms ≡ length xs
many_looks channel [] [] a = refl
many_looks channel [] (m ∷ ms) a = absurd a
many_looks channel (x ∷ xs) [] a = absurd a
many_looks channel (x ∷ xs) (m ∷ ms) a = ap suc (many_looks channel xs ms a.1)

pub none_looked : (channel : Channel) (states : List RecState) → AreAll channel [] states states []
none_looked channel states = record { looks = tt; states_are = refl }

one_more : (channel : Channel) (recs : List ℕ) (rec : ℕ) (states mid after : List RecState) (xs ys : List Mark) → AreAll channel recs states mid xs → IsLook channel rec mid after ys → AreAll channel (recs ++ rec ∷ []) states after (xs ++ ys)
one_more channel recs rec states mid after xs ys x y =
    let mark : Mark = Read y.at channel (rec ∷ []) (y.state ∷ []) in
    subst (λ (l : List Mark). AreAll channel (recs ++ rec ∷ []) states after (xs ++ l)) (sym y.marks_are) (record {
      looks = subst (λ (l : List (List ℕ)). AreLooks channel l (xs ++ mark ∷ [])) (sym (map-append (λ (r : ℕ). r ∷ []) recs (rec ∷ [])))
          (looks_append channel (one_by_one recs) ((rec ∷ []) ∷ []) xs (mark ∷ []) x.looks ((y.at, (y.state ∷ [], refl)), tt));
      states_are = y.states_are ∙ ap (λ (l : List RecState). set l rec y.state) x.states_are ∙ sym (laid_append states xs (mark ∷ []));
    })

pub longer_log : (xs ys : List Mark) (m : Mark) → ys ≡ xs ++ m ∷ [] → ys ≡ xs → ⊥
longer_log xs ys m more same = let n : length xs + 1 ≡ length xs = sym (length-append xs (m ∷ [])) ∙ ap length (sym more ∙ same) in absurd (omega (arith, n))

module _ (s m t : Seat) (channel : Channel) (recs : List ℕ) (states mid : List RecState) (c : Calls s m (AreAll channel recs states mid)) where
  pub look_more : (rec : ℕ) (after : List RecState) → Calls m t (IsLook channel rec mid after) → Calls s t (AreAll channel (recs ++ rec ∷ []) states after)
  look_more rec after d = record {
    marks = c.marks ++ d.marks;
    adds = adds_more c.adds d.adds;
    named = one_more channel recs rec states mid after c.marks d.marks c.named d.named;
  }

  -- a look makes a mark, at which the history then ends
  pub look_ends : (rec : ℕ) (after : List RecState) → Calls m t (IsLook channel rec mid after) → EndsAtItsMarks m t → EndsAtItsMarks s t
  look_ends rec after d (inl same) = absurd (longer_log m.log t.log (Read d.named.at channel (rec ∷ []) (d.named.state ∷ [])) (d.adds.log ∙ ap (λ (l : List Mark). m.log ++ l) d.named.marks_are) same)
  look_ends rec after d (inr ends) = inr ends

  -- memory ran out behind the first of them
  pub look_stops : (A : Type 0) (e : NoMemory) (all : List ℕ) (i : ℕ) (after last : List RecState) → recs ≡ take i all → Calls m t (λ marks. marks ≡ []) → Calls s t (AreLookedAt {A = A} channel all after last (Err e))
  look_stops A e all i after last recs_are d = record {
    marks = c.marks ++ d.marks;
    adds = adds_more c.adds d.adds;
    named = subst (λ (l : List Mark). AreLooks channel (take (length l) (one_by_one all)) l) (sym (ap (λ (l : List Mark). c.marks ++ l) d.named ∙ append-nil c.marks)) (first_looks (many_looks channel (one_by_one recs) c.marks c.named.looks));
  }
    where
      cut : (n : ℕ) (xs : List ℕ) → take (length (take n xs)) (one_by_one xs) ≡ one_by_one (take n xs)
      cut zero xs = refl
      cut (suc n) [] = refl
      cut (suc n) (x ∷ xs) = ap (λ (l : List (List ℕ)). (x ∷ []) ∷ l) (cut n xs)

      first_looks : length c.marks ≡ length (one_by_one recs) → AreLooks channel (take (length c.marks) (one_by_one all)) c.marks
      first_looks many = subst (λ (l : List (List ℕ)). AreLooks channel l c.marks)
          (sym (ap (λ (n : ℕ). take n (one_by_one all)) (many ∙ length-map recs (λ (r : ℕ). r ∷ []) ∙ ap length recs_are) ∙ cut i all ∙ ap one_by_one (sym recs_are))) c.named.looks

  -- by what the look came to
  pub look_so_far : (rec : ℕ) (after : List RecState) (r : Result (Unit {0}) NoMemory) (done : Unit {0}) → r ≡ Ok done → Calls m t (AreLook channel rec mid after r) → OnOk r (EndsAtItsMarks m t) → Calls s t (AreAll channel (recs ++ rec ∷ []) states after) × EndsAtItsMarks s t
  look_so_far rec after r done is d ends =
      let look = subst (λ (z : Result (Unit {0}) NoMemory). Calls m t (AreLook channel rec mid after z)) is d in
      let end = subst (λ (z : Result (Unit {0}) NoMemory). OnOk z (EndsAtItsMarks m t)) is ends in
      (look_more rec after look, look_ends rec after look end)

  pub look_failed : (rec : ℕ) (all : List ℕ) (i : ℕ) (after : List RecState) (r : Result (Unit {0}) NoMemory) (e f : NoMemory) → r ≡ Err e → recs ≡ take i all → Calls m t (AreLook channel rec mid after r) → Calls s t (AreLookedAt {A = Unit {0}} channel all states after (Err f))
  look_failed rec all i after r e f is recs_are d = look_stops (Unit {0}) f all i states after recs_are (subst (λ (z : Result (Unit {0}) NoMemory). Calls m t (AreLook channel rec mid after z)) is d)

-- the records so far, and one more
pub take_more : (xs : List ℕ) (i x : ℕ) → slice_get xs i ≡ Some x → take (i + 1) xs ≡ take i xs ++ x ∷ []
take_more xs i x is = subst (λ (n : ℕ). take n xs ≡ take i xs ++ x ∷ []) (suc_is i) (taken xs i is) where
  suc_is : (n : ℕ) → suc n ≡ n + 1
  suc_is n = omega arith

  taken : (ys : List ℕ) (n : ℕ) → slice_get ys n ≡ Some x → take (suc n) ys ≡ take n ys ++ x ∷ []
  taken [] n e = absurd (none-some x e)
  taken (y ∷ ys) zero e = ap (λ (z : ℕ). z ∷ []) (some_same y x e)
  taken (y ∷ ys) (suc n) e = ap (λ (l : List ℕ). y ∷ l) (taken ys n e)

pub take_whole : (xs : List ℕ) (i : ℕ) → length xs ≤ i → take i xs ≡ xs
take_whole [] zero le = refl
take_whole [] (suc i) le = refl
take_whole (x ∷ xs) zero le = absurd (omega (arith, le))
take_whole (x ∷ xs) (suc i) le = ap (λ (l : List ℕ). x ∷ l) (take_whole xs i (omega (arith, le)))

pub all_at : (P : ℕ → Type 0) (xs : List ℕ) (n x : ℕ) → AllByRecursion P xs → slice_get xs n ≡ Some x → P x
all_at P [] n x all is = absurd (none-some x is)
all_at P (y ∷ xs) zero x all is = subst P (some_same y x is) all.0
all_at P (y ∷ xs) (suc n) x all is = all_at P xs n x all.1 is

-- ---- the state of one record in hand

pub one_state : {P : Type 0} (cells : List (RecCell P)) (cell : RecCell P) → length cells ≡ 1 → slice_get cells 0 ≡ Some cell → states_of cells ≡ cell.state ∷ []
one_state [] cell many is = absurd (omega (arith, many))
one_state (x ∷ []) cell many is = ap (λ (z : RecCell _). z.state ∷ []) (some_same x cell is)
one_state (x ∷ y ∷ cells) cell many is = absurd (omega (arith, many))

config_there : (configs : List Config) (n : ℕ) → n < length configs → (config : Config) × (slice_get configs n ≡ Some config)
config_there configs n less = some_there configs n less

-- the state in hand is valid
pub one_valid : (before v : Sight) (rec : ℕ) (state : RecState) (site : SiteData) (states after : List RecState) → Visits before v (rec ∷ []) (state ∷ []) → before.seen.base.site ≡ site → AreValid site.configs site.opening → rec < length site.configs
    → AreValid site.configs states → after ≡ set states rec state → AreValid site.configs after
one_valid before v rec state site states after x site_is opens less valid is =
    let c = config_there site.configs rec less in
    subst (AreValid site.configs) (sym is) (valid_set site.configs states rec c.0 state valid c.1 (valid_in_hand before v (rec ∷ []) (state ∷ []) x site site_is opens 0 rec c.0 state refl refl c.1))

-- ---- what was written may be put back

set_back : (states : List RecState) (rec : ℕ) (new held : RecState) → slice_get states rec ≡ Some held → set (set states rec new) rec held ≡ states
set_back [] rec new held is = absurd (none-some held is)
set_back (x ∷ states) zero new held is = ap (λ (z : RecState). z ∷ states) (sym (some_same x held is))
set_back (x ∷ states) (suc rec) new held is = ap (λ (l : List RecState). x ∷ l) (set_back states rec new held is)

within_more : (count rec : ℕ) (held : RecState) (before : List (ℕ × RecState)) → AllByRecursion (λ (h : ℕ × RecState). h.0 < count) before → rec < count → AllByRecursion (λ (h : ℕ × RecState). h.0 < count) (before ++ (rec, held) ∷ [])
within_more count rec held [] all less = (less, tt)
within_more count rec held (h ∷ before) all less = (all.0, within_more count rec held before all.1 less)

pub more_restorable : (back states after : List RecState) (rec : ℕ) (state : RecState) (before more : List (ℕ × RecState)) → IsRestorable back states before → IsWritten states after rec state before more → IsRestorable back after more
more_restorable back states after rec state before more x w = record {
  back_is = ap (restored after) w.before_are ∙ sym (one_back after before (rec, w.held)) ∙ ap (λ (l : List RecState). restored (set l rec w.held) before) w.cells_are
      ∙ ap (λ (l : List RecState). restored l before) (set_back states rec state w.held w.there) ∙ x.back_is;
  within = subst (λ (l : List (ℕ × RecState)). AllByRecursion (λ (h : ℕ × RecState). h.0 < length after) l) (sym w.before_are)
      (subst (λ (n : ℕ). AllByRecursion (λ (h : ℕ × RecState). h.0 < n) (before ++ (rec, w.held) ∷ [])) (sym (ap length w.cells_are ∙ length-set states rec state))
      (within_more (length states) rec w.held before x.within (slice_get_within states rec w.held w.there)));
}

-- where nothing was written, all is as it was
pub same_restorable : (back states after : List RecState) (before more : List (ℕ × RecState)) → IsRestorable back states before → after ≡ states → more ≡ before → IsRestorable back after more
same_restorable back states after before more x same none = subst (λ (z : List RecState × List (ℕ × RecState)). IsRestorable back z.0 z.1) (λ i. (sym same i, sym none i)) x

-- ---- a get whose looks are one after another

each_look : (site : SiteData) (channel : Channel) (recs : List ℕ) → AllByRecursion (IsLookOf site channel) (one_by_one recs) → AllByRecursion (λ (rec : ℕ). IsLookOf site channel (rec ∷ [])) recs
each_look site channel [] all = tt
each_look site channel (rec ∷ recs) all = (all.0, each_look site channel recs all.1)

pub looks_apart : (site : SiteData) (channel : Channel) (atomic : Option Bool) → is_atomic site channel atomic ≡ false → AllByRecursion (λ (rec : ℕ). IsLookOf site channel (rec ∷ [])) (footprint_of site channel)
looks_apart site channel atomic apart =
    each_look site channel (footprint_of site channel) (subst (λ (w : Bool). AllByRecursion (IsLookOf site channel) (looks_by w (footprint_of site channel))) apart (looks_of_get site channel atomic))

module _ (site : SiteData) (channel : Channel) (atomic : Option Bool) (apart : is_atomic site channel atomic ≡ false) (s t : Seat) (states after : List RecState) (opening : states ≡ site.opening) where
  are_looks : looks_of site channel atomic ≡ one_by_one (footprint_of site channel)
  are_looks = ap (λ (w : Bool). looks_by w (footprint_of site channel)) apart

  pub got_apart : Calls s t (AreAll channel (footprint_of site channel) states after) → (value : PvValue) → view value ≡ value_of site channel after → Calls s t (AreGet site channel atomic (Ok value))
  got_apart c value is = record {
    marks = c.marks;
    adds = c.adds;
    named = record {
      looks = subst (λ (l : List (List ℕ)). AreLooks channel l c.marks) (sym are_looks) c.named.looks;
      value_is = is ∙ ap (value_of site channel) (c.named.states_are ∙ ap (λ (l : List RecState). laid_by l c.marks) opening);
    };
  }

  part : (marks : List Mark) → AreLooks channel (take (length marks) (one_by_one (footprint_of site channel))) marks → AreLooks channel (take (length marks) (looks_of site channel atomic)) marks
  part marks l = subst (λ (ls : List (List ℕ)). AreLooks channel (take (length marks) ls) marks) (sym are_looks) l

  pub stopped_apart : (A : Type 0) (e f : NoMemory) → Calls s t (AreLookedAt {A = A} channel (footprint_of site channel) states after (Err e)) → Calls s t (AreGet site channel atomic (Err f))
  stopped_apart A e f c = record { marks = c.marks; adds = c.adds; named = record { looks = part c.marks c.named } }

  -- memory ran out behind all of them
  pub unshown_apart : (f : NoMemory) → Calls s t (AreAll channel (footprint_of site channel) states after) → Calls s t (AreGet site channel atomic (Err f))
  unshown_apart f c = record {
    marks = c.marks;
    adds = c.adds;
    named = record {
      looks = part c.marks
          (subst (λ (l : List (List ℕ)). AreLooks channel l c.marks) (sym (ap (λ (n : ℕ). take n (one_by_one (footprint_of site channel))) (many_looks channel (one_by_one (footprint_of site channel)) c.marks c.named.looks)
          ∙ take-length (one_by_one (footprint_of site channel)))) c.named.looks);
    };
  }

  pub shown_apart : Calls s t (AreAll channel (footprint_of site channel) states after) → (r : Result PvValue NoMemory) → IfOk r (λ value. view value ≡ value_of site channel after) → Calls s t (AreGet site channel atomic r)
  shown_apart c (Ok value) is = got_apart c value is
  shown_apart c (Err e) is = unshown_apart e c

-- what holds in any case
pub on_any : {A : Type 0} (P : Type 0) (r : Result A NoMemory) → P → OnOk r P
on_any P (Ok x) p = p
on_any P (Err e) p = tt

-- ---- a look at all records

range_at : (a n j r : ℕ) → slice_get (range_with_len a n) j ≡ Some r → r ≡ a + j
range_at a zero j r is = absurd (none-some r is)
range_at a (suc n) zero r is = sym (some_same a r is) ∙ omega arith
range_at a (suc n) (suc j) r is = range_at (a + 1) n j r is ∙ omega arith

-- the states of all records, in order, are all states
pub all_states : (states found : List RecState) (count : ℕ) → length states ≡ count → AreStatesOf states (range_with_len 0 count) found → found ≡ states
all_states states found count many are =
    same_states states (range_with_len 0 count) found states are
    (states_from_each states (range_with_len 0 count) states (many ∙ sym (length-range_with_len 0 count)) (λ j r is. (let same : j ≡ r = omega (arith, range_at 0 count j r is) in ap (slice_get states) same)))

abbrev pub service : Channel
service = channel_of Service 0

pub snapshot_told : {Z : Type 0} (site : SiteData) (at : ℕ) (rows : Vec RecRow Z) (mixed found : List RecState) → length mixed ≡ length site.names → AreStatesOf mixed (all_records site) found → rows.items ≡ rows_shown site.names mixed
    → AreSnapshot site (Ok rows) (Read at service (all_records site) found ∷ [])
snapshot_told {Z} site at rows mixed found many are is = record {
  at = at;
  found = found;
  marks_are = refl;
  rows_are = is ∙ ap (rows_shown site.names) (sym (all_states mixed found (length site.names) many are));
}

-- ---- one look

pub looked_calls : (s t : Seat) (channel : Channel) (rec : ℕ) (state : RecState) (states after : List RecState) → t ≡ with_mark s (λ at. Read at channel (rec ∷ []) (state ∷ [])) → IsLegal s.seen → IsLookOf s.seen.base.site channel (rec ∷ [])
    → AreStatesOf (state_at s.seen (now s)) (rec ∷ []) (state ∷ []) → after ≡ set states rec state → Calls s t (IsLook channel rec states after)
looked_calls s t channel rec state states after noted legal is finds written = record {
  marks = Read (now s) channel (rec ∷ []) (state ∷ []) ∷ [];
  adds = read_adds s t channel (rec ∷ []) (state ∷ []) noted legal is finds;
  named = record { at = now s; state = state; marks_are = refl; states_are = written };
}

pub snapshot_calls : {Z : Type 0} (s t : Seat) (site : SiteData) (rows : Vec RecRow Z) (mixed found : List RecState) → s.seen.base.site ≡ site → IsLegal s.seen → t ≡ with_mark s (λ at. Read at service (all_records site) found)
    → AreStatesOf (state_at s.seen (now s)) (all_records site) found → length mixed ≡ length site.names → AreStatesOf mixed (all_records site) found → rows.items ≡ rows_shown site.names mixed → Calls s t (AreSnapshot site (Ok rows))
snapshot_calls {Z} s t site rows mixed found site_is legal noted finds many are is = record {
  marks = Read (now s) service (all_records site) found ∷ [];
  adds = read_adds s t service (all_records site) found noted legal (inl (ap (λ (z : SiteData). all_records z) (sym site_is))) finds;
  named = snapshot_told site (now s) rows mixed found many are is;
}
