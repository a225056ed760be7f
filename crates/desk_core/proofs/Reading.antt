-- What a get adds, on a desk that nobody shares.
use Rattle.std.proofs.Common.{◌≡◌, ◌==◌, ◌||◌, ℕ, ◌+◌, ◌≤◌, ◌<◌, Bool, true, false, List, [], ◌∷◌, ◌++◌, length, map, take, drop, Option, None, Some, Ok, Err, IsTrue, zero, suc, inl, inr, refl, sym, ◌∙◌, ap, subst, arith}
use Rattle.std.specs.List.{slice_get, list_any, range_with_len, AllByRecursion}
use Rattle.std.proofs.lemmas.Bool.{eq-eqb, ltb-true}
use Rattle.std.proofs.lemmas.Option.{none-some}
use Rattle.rec_kinds.specs.declared.state.RecState.{RecState}
use Rattle.journal_core.specs.Histories.{Journal}
use Rattle.desk_api.specs.History.{History, commits, IsLegal}
use Rattle.desk_api.specs.Marks.{IsLookOf}
use Rattle.desk_api.specs.Calls.{Adds, Calls, AreGet, AreFindings, AreLooks, AreSnapshot, EndsAtItsMarks, EndsAtLastMark, laid_by, looks_by, looks_of, now, rows_shown}
use Rattle.desk_api.specs.declared.rows.RecRow.{RecRow}
use Rattle.std.specs.declared.vec.Vec.{Vec}
use Rattle.desk_api.specs.Sites.{AreOver, all_records, channel_of, footprint_for, footprint_of, is_atomic, is_atomic_for, is_atomic_group, is_channel, is_channel_of, records_in}
use Rattle.desk_api.specs.Views.{AreStatesOf, before_found, found_in, laid, value_of}
use Rattle.desk_api.proofs.Adding.{adds_nothing, adds_more}
use Rattle.desk_api.proofs.Reaching.{group_below}
use Rattle.desk_api.proofs.Showing.{over_at}
use Rattle.group_view.specs.Groups.{GroupData}
use Rattle.group_view.specs.Leaves.{records_of}
use Rattle.journal_core.proofs.Growing.{replayed_count}
use Rattle.pvd_type.specs.declared.memory.NoMemory as pvd
use Rattle.pvd_value.specs.View.{view}
use Rattle.pvd_value.specs.declared.value.PvValue.{PvValue}
use Rattle.desk_api.specs.declared.channel.Channel.{Channel}
use Rattle.desk_api.specs.declared.channel.ChannelKind.{ChannelKind}
use Rattle.desk_api.specs.declared.channel.ChannelKind.TheVariants.{Rec, Desc, Group, Service}
use Rattle.desk_api.specs.declared.history.Base.{Base}
use Rattle.desk_api.specs.declared.history.SiteData.{SiteData}
use Rattle.desk_api.specs.declared.mark.Mark.{Mark}
use Rattle.desk_api.specs.declared.mark.Mark.TheVariants.{Read}
use Rattle.desk_api.specs.declared.mark.Seat.{Seat}
use Rattle.desk_core.specs.Looking.{look_of, looked, looked_by}
use Rattle.desk_core.specs.Standing.{Stands}
use Rattle.desk_core.proofs.Listing.{rest_at}
use Rattle.desk_core.proofs.Marking.{looks, looks_end, still, same_seen}

-- ---- what is found

abbrev Within : ℕ → List ℕ → Type 0
Within count recs = AllByRecursion (λ (rec : ℕ). rec < count) recs

past : (xs : List RecState) (n : ℕ) → slice_get xs n ≡ None → n < length xs → ⊥
past [] n none less = omega (arith, less)
past (x ∷ xs) zero none less = none-some x (sym none)
past (x ∷ xs) (suc n) none less = past xs n none (omega (arith, less))

found_before : (o : Option RecState) (rec : ℕ) (cells : List RecState) (recs : List ℕ) (found : List RecState) → slice_get cells rec ≡ o → rec < length cells → map Some found ≡ map (λ (r : ℕ). slice_get cells r) recs
    → map Some (before_found o found) ≡ o ∷ map (λ (r : ℕ). slice_get cells r) recs
found_before None rec cells recs found is less rest = absurd (past cells rec is less)
found_before (Some state) rec cells recs found is less rest = ap (λ (l : List (Option RecState)). Some state ∷ l) rest

pub found_all : (cells : List RecState) (recs : List ℕ) → Within (length cells) recs → AreStatesOf cells recs (found_in cells recs)
found_all cells [] within = refl
found_all cells (rec ∷ recs) within = found_before (slice_get cells rec) rec cells recs (found_in cells recs) refl within.0 (found_all cells recs within.1)

-- ---- looks

abbrev among : List ℕ → ℕ → Bool
among recs rec = list_any (λ r. r == rec) recs

abbrev pub marks_of : Channel → List RecState → Seat → List (List ℕ) → List Mark
marks_of channel cells s [] = []
marks_of channel cells s (recs ∷ ls) = look_of channel cells recs (now s) ∷ marks_of channel cells (looked channel cells s recs) ls

module _ {base : Base} {cells : List RecState} {journal : Journal} (channel : Channel) where
  -- a look leaves the desk standing, and the history as it was
  module _ (s : Seat) (x : Stands base cells journal s) (legal : IsLegal s.seen) (recs : List ℕ) where
    pub look_stands : Stands base cells journal (looked channel cells s recs)
    look_stands = still s (look_of channel cells recs) refl x

    pub look_seen : (looked channel cells s recs).seen ≡ s.seen
    look_seen = same_seen s (look_of channel cells recs) refl

    pub look_legal : IsLegal (looked channel cells s recs).seen
    look_legal = subst IsLegal (sym look_seen) legal

    look_adds : IsLookOf base.site channel recs → Within (length cells) recs → Adds s (looked channel cells s recs) (look_of channel cells recs (now s) ∷ [])
    look_adds is within = looks s (look_of channel cells recs) refl refl refl (record {
      within = omega arith;
      footprint_is = subst (λ (b : Base). IsLookOf b.site channel recs) (sym x.base_is) is;
      found_is = subst (λ (l : List RecState). AreStatesOf l recs (found_in cells recs)) x.cells_are (found_all cells recs within);
    }) legal

    look_ends : EndsAtLastMark (looked channel cells s recs)
    look_ends = looks_end s (look_of channel cells recs) refl refl

  pub looks_stand : (s : Seat) → Stands base cells journal s → IsLegal s.seen → (ls : List (List ℕ)) → Stands base cells journal (looked_by channel cells s ls)
  looks_stand s x legal [] = x
  looks_stand s x legal (recs ∷ ls) = looks_stand (looked channel cells s recs) (look_stands s x legal recs) (look_legal s x legal recs) ls

  pub looks_legal : (s : Seat) → Stands base cells journal s → IsLegal s.seen → (ls : List (List ℕ)) → IsLegal (looked_by channel cells s ls).seen
  looks_legal s x legal [] = legal
  looks_legal s x legal (recs ∷ ls) = looks_legal (looked channel cells s recs) (look_stands s x legal recs) (look_legal s x legal recs) ls

  pub looks_seen : (s : Seat) → Stands base cells journal s → IsLegal s.seen → (ls : List (List ℕ)) → (looked_by channel cells s ls).seen ≡ s.seen
  looks_seen s x legal [] = refl
  looks_seen s x legal (recs ∷ ls) = looks_seen (looked channel cells s recs) (look_stands s x legal recs) (look_legal s x legal recs) ls ∙ look_seen s x legal recs

  last_ends : (s : Seat) → Stands base cells journal s → IsLegal s.seen → EndsAtLastMark s → (ls : List (List ℕ)) → EndsAtLastMark (looked_by channel cells s ls)
  last_ends s x legal end [] = end
  last_ends s x legal end (recs ∷ ls) = last_ends (looked channel cells s recs) (look_stands s x legal recs) (look_legal s x legal recs) (look_ends s x legal recs) ls

  pub looks_ends : (s : Seat) → Stands base cells journal s → IsLegal s.seen → (ls : List (List ℕ)) → EndsAtItsMarks s (looked_by channel cells s ls)
  looks_ends s x legal [] = inl refl
  looks_ends s x legal (recs ∷ ls) = inr (last_ends (looked channel cells s recs) (look_stands s x legal recs) (look_legal s x legal recs) (look_ends s x legal recs) ls)

  pub looks_add : (s : Seat) → Stands base cells journal s → IsLegal s.seen → (ls : List (List ℕ)) → AllByRecursion (IsLookOf base.site channel) ls → AllByRecursion (Within (length cells)) ls → Adds s (looked_by channel cells s ls) (marks_of channel cells s ls)
  looks_add s x legal [] are within = adds_nothing s legal
  looks_add s x legal (recs ∷ ls) are within =
      adds_more (look_adds s x legal recs are.0 within.0) (looks_add (looked channel cells s recs) (look_stands s x legal recs) (look_legal s x legal recs) ls are.1 within.1)

module _ (channel : Channel) (cells : List RecState) where
  pub looks_find : (s : Seat) (ls : List (List ℕ)) → AllByRecursion (Within (length cells)) ls → AreFindings cells channel ls (marks_of channel cells s ls)
  looks_find s [] within = tt
  looks_find s (recs ∷ ls) within = ((now s, (found_in cells recs, refl, found_all cells recs within.0)), looks_find (looked channel cells s recs) ls within.1)

  pub looks_are : (s : Seat) (ls : List (List ℕ)) → AreLooks channel ls (marks_of channel cells s ls)
  looks_are s [] = tt
  looks_are s (recs ∷ ls) = ((now s, (found_in cells recs, refl)), looks_are (looked channel cells s recs) ls)

-- ---- the looks of a get

each_within : (count : ℕ) (recs : List ℕ) → Within count recs → AllByRecursion (Within count) (map (λ (rec : ℕ). rec ∷ []) recs)
each_within count [] within = tt
each_within count (rec ∷ recs) within = ((within.0, tt), each_within count recs within.1)

pub all_within : (count : ℕ) (whole : Bool) (recs : List ℕ) → Within count recs → AllByRecursion (Within count) (looks_by whole recs)
all_within count true recs within = (within, tt)
all_within count false recs within = each_within count recs within

here : (m : ℕ) (ns : List ℕ) → among (m ∷ ns) m ≡ true
here m ns = rw (eq-eqb m m refl) refl

or_later : (a b : Bool) → b ≡ true → (a || b) ≡ true
or_later true b is = refl
or_later false b is = is

later : (m : ℕ) (ns : List ℕ) (n : ℕ) → among ns n ≡ true → among (m ∷ ns) n ≡ true
later m ns n is = or_later (m == n) (among ns n) is

each_look : (site : SiteData) (channel : Channel) (recs : List ℕ) → ((rec : ℕ) → among recs rec ≡ true → among (footprint_of site channel) rec ≡ true) → AllByRecursion (IsLookOf site channel) (map (λ (rec : ℕ). rec ∷ []) recs)
each_look site channel [] are = tt
each_look site channel (rec ∷ recs) are = (inr (rec, are rec (here rec recs), refl), each_look site channel recs (λ n is. are n (later rec recs n is)))

all_looks : (site : SiteData) (channel : Channel) (whole : Bool) → AllByRecursion (IsLookOf site channel) (looks_by whole (footprint_of site channel))
all_looks site channel true = (inl refl, tt)
all_looks site channel false = each_look site channel (footprint_of site channel) (λ n is. is)

pub looks_of_get : (site : SiteData) (channel : Channel) (atomic : Option Bool) → AllByRecursion (IsLookOf site channel) (looks_of site channel atomic)
looks_of_get site channel atomic = all_looks site channel (is_atomic site channel atomic)

-- ---- the records of a channel have cells

all_below : (n a count : ℕ) → a + n ≤ count → Within count (range_with_len a n)
all_below zero a count fits = tt
all_below (suc n) a count fits = (omega (arith, fits), all_below n (a + 1) count (omega (arith, fits)))

below_for : (kind : ChannelKind) (site : SiteData) (number count : ℕ) → AreOver site → length site.names ≡ length site.configs → length site.configs ≡ count → IsTrue (is_channel_of kind site number) → Within count (footprint_for kind site number)
below_for Rec site number count over named configured is = (omega (arith, ltb-true number (length site.names) is, named, configured), tt)
below_for Desc site number count over named configured is = tt
below_for Group site number count over named configured is = below_in (slice_get site.groups number) refl where
  below_in : (o : Option GroupData) → slice_get site.groups number ≡ o → Within count (records_in o)
  below_in None found = tt
  below_in (Some g) found = subst (λ (n : ℕ). Within n (records_of g.members)) configured (group_below site.configs g (over_at site.configs site.groups number g over found))
below_for Service site number count over named configured is = subst (λ (n : ℕ). Within n (all_records site)) (named ∙ configured) (all_below (length site.names) 0 (length site.names) (omega arith))

pub below : (site : SiteData) (channel : Channel) (count : ℕ) → AreOver site → length site.names ≡ length site.configs → length site.configs ≡ count → IsTrue (is_channel site channel) → Within count (footprint_of site channel)
below site channel count over named configured is = below_for channel.kind site channel.number count over named configured is

-- ---- a get

-- what a get's looks found shows what the channel shows of the states that they found
abbrev pub LooksShow : Type 0
LooksShow = (site : SiteData) (channel : Channel) (atomic : Option Bool) (states : List RecState) (marks : List Mark) → length site.opening ≡ length states → AreFindings states channel (looks_of site channel atomic) marks
    → value_of site channel (laid_by site.opening marks) ≡ value_of site channel states

module _ (base : Base) (cells : List RecState) (journal : Journal) (channel : Channel) (atomic : Option Bool) (s t : Seat) (x : Stands base cells journal s) (legal : IsLegal s.seen)
    (noted : t ≡ looked_by channel cells s (looks_of base.site channel atomic)) where
  abbrev ls : List (List ℕ)
  ls = looks_of base.site channel atomic

  pub get_stands : Stands base cells journal t
  get_stands = subst (Stands base cells journal) (sym noted) (looks_stand channel s x legal ls)

  pub get_legal : IsLegal t.seen
  get_legal = subst (λ (z : Seat). IsLegal z.seen) (sym noted) (looks_legal channel s x legal ls)

  pub get_ends : EndsAtItsMarks s t
  get_ends = subst (EndsAtItsMarks s) (sym noted) (looks_ends channel s x legal ls)

  pub get_seen : t.seen ≡ s.seen
  get_seen = ap (λ (z : Seat). z.seen) noted ∙ looks_seen channel s x legal ls

  pub get_base : t.seen.base ≡ s.seen.base
  get_base = ap (λ (z : Seat). z.seen.base) noted ∙ ap (λ (h : History). h.base) (looks_seen channel s x legal ls)

  pub gets : LooksShow → Within (length cells) (footprint_of base.site channel) → (value : PvValue) → view value ≡ value_of base.site channel cells → Calls s t (AreGet s.seen.base.site channel atomic (Ok value))
  gets shows within value is =
      let each = all_within (length cells) (is_atomic base.site channel atomic) (footprint_of base.site channel) within in
      let marks : List Mark = marks_of channel cells s ls in
      let long : length base.site.opening ≡ length cells =
      omega (arith, ap length x.cells_are, replayed_count s.seen.base.site.opening (take (now s) (commits s.seen)), ap (λ (b : Base). length b.site.opening) x.base_is) in
      let here : Calls s (looked_by channel cells s ls) (AreGet base.site channel atomic (Ok value)) = record {
        marks = marks;
        adds = looks_add channel s x legal ls (looks_of_get base.site channel atomic) each;
        named = record {
          looks = looks_are channel cells s ls;
          value_is = is ∙ sym (shows base.site channel atomic cells marks long (looks_find channel cells s ls each));
        };
      } in
      subst (λ (b : Base). Calls s t (AreGet b.site channel atomic (Ok value))) (sym x.base_is) (subst (λ (z : Seat). Calls s z (AreGet base.site channel atomic (Ok value))) (sym noted) here)

-- memory ran out before any look
pub no_get : (site : SiteData) (channel : Channel) (atomic : Option Bool) (s : Seat) → IsLegal s.seen → (e : pvd.NoMemory) → Calls s s (AreGet site channel atomic (Err e))
no_get site channel atomic s legal e = record { marks = []; adds = adds_nothing s legal; named = record { looks = tt } }

-- ---- a look at all records

-- all states, found one after another
all_found : (cells : List RecState) (n a : ℕ) → a + n ≡ length cells → found_in cells (range_with_len a n) ≡ drop a cells
all_found cells zero a whole = sym (none_left cells a (omega (arith, whole))) where
  none_left : (xs : List RecState) (k : ℕ) → length xs ≤ k → drop k xs ≡ []
  none_left [] zero le = refl
  none_left [] (suc k) le = refl
  none_left (x ∷ xs) zero le = absurd (omega (arith, le))
  none_left (x ∷ xs) (suc k) le = none_left xs k (omega (arith, le))
all_found cells (suc n) a whole = first_found (slice_get cells a) refl (all_found cells n (a + 1) (omega (arith, whole))) where
  next : a + 1 ≡ suc a
  next = omega arith

  first_found : (o : Option RecState) → slice_get cells a ≡ o → found_in cells (range_with_len (a + 1) n) ≡ drop (a + 1) cells → before_found o (found_in cells (range_with_len (a + 1) n)) ≡ drop a cells
  first_found None is rest = absurd (past cells a is (omega (arith, whole)))
  first_found (Some state) is rest = ap (λ (l : List RecState). state ∷ l) (rest ∙ ap (λ (k : ℕ). drop k cells) next) ∙ sym (rest_at cells a state is)

module _ (base : Base) (cells : List RecState) (journal : Journal) (s t : Seat) (x : Stands base cells journal s) (legal : IsLegal s.seen)
    (noted : t ≡ looked_by (channel_of Service 0) cells s (looks_of base.site (channel_of Service 0) None)) (count : length cells ≡ length base.site.names) where
  abbrev service : Channel
  service = channel_of Service 0

  abbrev all : List ℕ
  all = all_records base.site

  all_there : found_in cells all ≡ cells
  all_there = ap (λ (n : ℕ). found_in cells (range_with_len 0 n)) (sym count) ∙ all_found cells (length cells) 0 (omega arith)

  all_in : Within (length cells) all
  all_in = all_below (length base.site.names) 0 (length cells) (omega (arith, count))

  pub snapshots : {Z : Type 0} → (rows : Vec RecRow Z) → rows.items ≡ rows_shown base.site.names cells → Calls s t (AreSnapshot s.seen.base.site (Ok rows))
  snapshots rows is =
      let here : Calls s (looked_by service cells s (all ∷ [])) (AreSnapshot base.site (Ok rows)) = record {
        marks = marks_of service cells s (all ∷ []);
        adds = looks_add service s x legal (all ∷ []) (inl refl, tt) (all_in, tt);
        named = record {
          at = now s;
          found = found_in cells all;
          marks_are = refl;
          rows_are = is ∙ ap (rows_shown base.site.names) (sym all_there);
        };
      } in
      subst (λ (b : Base). Calls s t (AreSnapshot b.site (Ok rows))) (sym x.base_is) (subst (λ (z : Seat). Calls s z (AreSnapshot base.site (Ok rows))) (sym noted) here)

-- memory ran out before the look
pub no_snapshot : (Z : Type 0) (site : SiteData) (s : Seat) → IsLegal s.seen → (e : pvd.NoMemory) → Calls s s (AreSnapshot {Z = Z} site (Err e))
no_snapshot Z site s legal e = record { marks = []; adds = adds_nothing s legal; named = record { looks = tt } }

-- ---- what is looked at behind an entry

-- what was found of all records of a channel that is atomic shows what the channel shows
pub shows_at_once : LooksShow → (site : SiteData) (channel : Channel) (atomic : Option Bool) (states : List RecState) (found : List RecState) → is_atomic site channel atomic ≡ true → length site.opening ≡ length states
    → AreStatesOf states (footprint_of site channel) found → value_of site channel (laid site.opening (footprint_of site channel) found) ≡ value_of site channel states
shows_at_once shows site channel atomic states found whole long are =
    let recs = footprint_of site channel in
    let marks : List Mark = Read 0 channel recs found ∷ [] in
    let findings : AreFindings states channel (looks_of site channel atomic) marks =
    subst (λ (w : Bool). AreFindings states channel (looks_by w recs) marks) (sym whole) ((0, (found, refl, are)), tt) in
    shows site channel atomic states marks long findings

whole_for : (kind : ChannelKind) (site : SiteData) (number : ℕ) → is_atomic_for kind site number (Some true) ≡ true
whole_for Rec site number = refl
whole_for Desc site number = refl
whole_for Group site number = wanted (slice_get site.groups number) where
  wanted : (group : Option GroupData) → is_atomic_group group (Some true) ≡ true
  wanted None = refl
  wanted (Some group) = refl
whole_for Service site number = refl

-- a get that is wanted to be atomic is so
pub whole_wanted : (site : SiteData) (channel : Channel) → is_atomic site channel (Some true) ≡ true
whole_wanted site channel = whole_for channel.kind site channel.number
