-- What channels show.
use Rattle.std.specs.Prelude.{◌≡◌, ℕ, zero, suc, ◌+◌, ◌<◌, Bool, List, [], ◌∷◌, length, map, set, Option, Some, None, MatchOption, slice_get, refl, ⊤}
use Rattle.std.specs.List.{AllByRecursion}
use Rattle.std.proofs.Common.{true, false, sym, ◌∙◌, ap, subst, arith, take, eqb}
use Rattle.std.proofs.lemmas.Bool.{eqb-true, eqb-false}
use Rattle.std.proofs.lemmas.List.{length-set}
use Rattle.pvd_value.specs.Fits.{fits_of}
use Rattle.pvd_value.proofs.Blanks.{blank_fits}
use Rattle.rec_kinds.specs.Configs.{Config}
use Rattle.rec_kinds.specs.declared.state.RecState.{RecState}
use Rattle.rec_fields.specs.Shown.{shown}
use Rattle.rec_fields.specs.Types.{record_tree}
use Rattle.rec_fields.proofs.Shows.{shown_fits}
use Rattle.group_view.specs.Groups.{GroupData, IsOver, AreReady, HasState, IsLinkOf}
use Rattle.group_view.specs.Links.{Link}
use Rattle.group_view.specs.Laws.{Agree, ReadsRecords}
use Rattle.group_view.proofs.Keeping.{shown_fits as group_shown_fits}
use Rattle.group_view.specs.Slots.{entries_of, in_order, slots_of, structure_of}
use Rattle.group_view.specs.Types.{group_tree}
use Rattle.group_view.specs.Views.{group_shown}
use Rattle.journal_core.specs.Legality.{AreValid}
use Rattle.journal_core.specs.declared.entry.Entry.{Entry}
use Rattle.journal_core.proofs.Growing.{replayed_count}
use Rattle.journal_core.proofs.Keeping.{valid_at}
use Rattle.histories.proofs.Prefixes.{element_within}
use Rattle.desk_api.specs.History.{History, commits, state_at}
use Rattle.nt_types.specs.Types.{scalar_tree}
use Rattle.pvd_type.specs.declared.shape.Scalar.TheVariants.{Text}
use Rattle.desk_api.specs.Calls.{laid_by, looks_by, looks_of, AreFindings, IsFinding}
use Rattle.rec_kinds.specs.Validity.{IsValid}
use Rattle.desk_api.specs.Sites.{AreOver, footprint_for, footprint_of, is_atomic, records_in}
use Rattle.desk_api.specs.Types.{type_of, type_for, type_shown, group_type}
use Rattle.desk_api.specs.Views.{shown_or_blank, described, grouped, value_for, value_of, laid, AreStatesOf}
use Rattle.desk_api.specs.Marks.{IsTrueRead, IsTrueEntry}
use Rattle.desk_api.specs.declared.channel.Channel.{Channel}
use Rattle.desk_api.specs.declared.channel.ChannelKind.{ChannelKind}
use Rattle.desk_api.specs.declared.channel.ChannelKind.TheVariants.{Rec, Desc, Group, Service}
use Rattle.desk_api.specs.declared.history.SiteData.{SiteData}
use Rattle.desk_api.specs.declared.mark.Mark.{Mark}

-- ---- a group's records have states that they may be in

pub state_for : (configs : List Config) (states : List RecState) (n : ℕ) (config : Config) → AreValid configs states → slice_get configs n ≡ Some config → (s : RecState) × (slice_get states n ≡ Some s)
state_for [] states n config valid is = absurd (cc is)
state_for (c ∷ configs) [] n config valid is = absurd valid
state_for (c ∷ configs) (s ∷ states) zero config valid is = (s, refl)
state_for (c ∷ configs) (s ∷ states) (suc n) config valid is = state_for configs states n config valid.1 is

has_state : (configs : List Config) (states : List RecState) (l : Link) → AreValid configs states → IsLinkOf configs l → HasState states l
has_state configs states l valid is =
    let found = state_for configs states l.rec l.config valid is in
    subst (λ (o : Option RecState). MatchOption o ⊥ (λ s. IsValid l.config s)) (sym found.1) (valid_at configs states l.rec l.config found.0 valid is found.1)

ready_by : (configs : List Config) (states : List RecState) (link : Option Link) → AreValid configs states → MatchOption link ⊤ (IsLinkOf configs) → MatchOption link ⊤ (HasState states)
ready_by configs states None valid is = tt
ready_by configs states (Some l) valid is = has_state configs states l valid is

ready_each : {M : Type 0} (link : M → Option Link) (configs : List Config) (states : List RecState) (ms : List M) → AreValid configs states
    → AllByRecursion (λ m. MatchOption (link m) ⊤ (IsLinkOf configs)) ms → AllByRecursion (λ m. MatchOption (link m) ⊤ (HasState states)) ms
ready_each link configs states [] valid over = tt
ready_each link configs states (m ∷ ms) valid over = (ready_by configs states (link m) valid over.0, ready_each link configs states ms valid over.1)

pub are_ready : (configs : List Config) (states : List RecState) (g : GroupData) → AreValid configs states → IsOver configs g → AreReady states g
are_ready configs states g valid over = ready_each (λ m. m.link) configs states g.members valid over

pub over_at : (configs : List Config) (groups : List GroupData) (n : ℕ) (g : GroupData) → AllByRecursion (IsOver configs) groups → slice_get groups n ≡ Some g → IsOver configs g
over_at configs [] n g all is = absurd (cc is)
over_at configs (x ∷ groups) zero g all is = let same : x ≡ g = cc is in subst (IsOver configs) same all.0
over_at configs (x ∷ groups) (suc n) g all is = over_at configs groups n g all.1 is

-- ---- what is shown fits

or_blank_fits : (configs : List Config) (states : List RecState) (n : ℕ) (config : Option Config) (state : Option RecState) → AreValid configs states → slice_get configs n ≡ config → slice_get states n ≡ state
    → fits_of 16 (shown_or_blank config state) (type_shown config) ≡ true
or_blank_fits configs states n (Some config) (Some state) valid configured found = shown_fits config state (shown config state) (valid_at configs states n config state valid configured found).sort refl
or_blank_fits configs states n (Some config) None valid configured found = blank_fits 16 (record_tree config) (omega arith)
or_blank_fits configs states n None state valid configured found = blank_fits 16 (type_shown None) (omega arith)

described_fits : (config : Option Config) → fits_of 16 (described config) (scalar_tree Text) ≡ true
described_fits (Some config) = refl
described_fits None = blank_fits 16 (scalar_tree Text) (omega arith)

pub group_fits : (g : GroupData) (states : List RecState) → AreReady states g → fits_of 16 (group_shown g states) (group_tree g) ≡ true
unfolding structure_of
group_fits g states ready = group_shown_fits g (slots_of (in_order (entries_of g.members))) refl states ready

grouped_fits : (configs : List Config) (states : List RecState) (groups : List GroupData) (n : ℕ) (group : Option GroupData) → AllByRecursion (IsOver configs) groups → AreValid configs states → slice_get groups n ≡ group
    → fits_of 16 (grouped group states) (group_type group) ≡ true
grouped_fits configs states groups n None over valid is = blank_fits 16 (group_type None) (omega arith)
grouped_fits configs states groups n (Some g) over valid is = group_fits g states (are_ready configs states g valid (over_at configs groups n g over is))

fits_for : (kind : ChannelKind) (site : SiteData) (states : List RecState) (n : ℕ) → AreOver site → AreValid site.configs states
    → fits_of 16 (value_for kind site n states) (type_for kind site n) ≡ true
fits_for Rec site states n over valid = or_blank_fits site.configs states n (slice_get site.configs n) (slice_get states n) valid refl refl
fits_for Desc site states n over valid = described_fits (slice_get site.configs n)
fits_for Group site states n over valid = grouped_fits site.configs states site.groups n (slice_get site.groups n) over valid refl
fits_for Service site states n over valid = blank_fits 16 (group_type None) (omega arith)

pub value_fits : (site : SiteData) (channel : Channel) (states : List RecState) → AreOver site → AreValid site.configs states → fits_of 16 (value_of site channel states) (type_of site channel) ≡ true
value_fits site channel states over valid = fits_for channel.kind site states channel.number over valid

-- ---- what was found, laid over other states

pub got_set : {A : Type 0} (xs : List A) (n : ℕ) (x : A) → n < length xs → slice_get (set xs n x) n ≡ Some x
got_set [] n x less = absurd (omega (arith, less))
got_set (y ∷ xs) zero x less = refl
got_set (y ∷ xs) (suc n) x less = got_set xs n x (omega (arith, less))

kept_elsewhere : {A : Type 0} (xs : List A) (k j : ℕ) (x : A) → (k ≡ j → ⊥) → slice_get (set xs k x) j ≡ slice_get xs j
kept_elsewhere [] k j x apart = refl
kept_elsewhere (y ∷ xs) zero zero x apart = absurd (apart refl)
kept_elsewhere (y ∷ xs) zero (suc j) x apart = refl
kept_elsewhere (y ∷ xs) (suc k) zero x apart = refl
kept_elsewhere (y ∷ xs) (suc k) (suc j) x apart = kept_elsewhere xs k j x (λ e. apart (ap suc e))

-- both have the same state of this record
abbrev Same : List RecState → List RecState → ℕ → Type 0
Same a b n = slice_get a n ≡ slice_get b n

set_by : (a states : List RecState) (rec n : ℕ) (s : RecState) (here : Bool) → eqb rec n ≡ here → length a ≡ length states → Some s ≡ slice_get states rec → Same a states n → Same (set a rec s) states n
set_by a states rec n s true is long found same =
    let one : rec ≡ n = eqb-true rec n is in
    ap (λ (j : ℕ). slice_get (set a rec s) j) (sym one) ∙ got_set a rec s (omega (arith, long, element_within states rec s (sym found))) ∙ found ∙ ap (slice_get states) one
set_by a states rec n s false is long found same = kept_elsewhere a rec n s (eqb-false rec n is) ∙ same

set_same : (a states : List RecState) (rec n : ℕ) (s : RecState) → length a ≡ length states → Some s ≡ slice_get states rec → Same a states n → Same (set a rec s) states n
set_same a states rec n s long found same = set_by a states rec n s (eqb rec n) refl long found same

long_set : (a states : List RecState) (rec : ℕ) (s : RecState) → length a ≡ length states → length (set a rec s) ≡ length states
long_set a states rec s long = length-set a rec s ∙ long

abbrev pub first_or : {A : Type 0} → A → List A → A
first_or d [] = d
first_or d (x ∷ xs) = x

abbrev pub rest_of : {A : Type 0} → List A → List A
rest_of [] = []
rest_of (x ∷ xs) = xs

first_found : (states : List RecState) (rec : ℕ) (recs : List ℕ) (s : RecState) (found : List RecState) → AreStatesOf states (rec ∷ recs) (s ∷ found) → Some s ≡ slice_get states rec
first_found states rec recs s found is = ap (λ (l : List (Option RecState)). first_or None l) is

rest_found : (states : List RecState) (rec : ℕ) (recs : List ℕ) (s : RecState) (found : List RecState) → AreStatesOf states (rec ∷ recs) (s ∷ found) → AreStatesOf states recs found
rest_found states rec recs s found is = ap (λ (l : List (Option RecState)). rest_of l) is

long_laid : (a states : List RecState) (recs : List ℕ) (found : List RecState) → length a ≡ length states → length (laid a recs found) ≡ length states
long_laid a states [] found long = long
long_laid a states (rec ∷ recs) [] long = long
long_laid a states (rec ∷ recs) (s ∷ found) long = long_laid (set a rec s) states recs found (long_set a states rec s long)

laid_same : (a states : List RecState) (recs : List ℕ) (found : List RecState) (n : ℕ) → length a ≡ length states → AreStatesOf states recs found → Same a states n → Same (laid a recs found) states n
laid_same a states [] found n long is same = same
laid_same a states (rec ∷ recs) [] n long is same = absurd (cc is)
laid_same a states (rec ∷ recs) (s ∷ found) n long is same =
    laid_same (set a rec s) states recs found n (long_set a states rec s long) (rest_found states rec recs s found is)
    (set_same a states rec n s long (first_found states rec recs s found is) same)

laid_agrees : (a states : List RecState) (recs : List ℕ) (found : List RecState) → length a ≡ length states → AreStatesOf states recs found → Agree recs (laid a recs found) states
laid_agrees a states [] found long is = tt
laid_agrees a states (rec ∷ recs) [] long is = absurd (cc is)
laid_agrees a states (rec ∷ recs) (s ∷ found) long is =
    let here = first_found states rec recs s found is in
    let more = rest_found states rec recs s found is in
    let set_here : Same (set a rec s) states rec = got_set a rec s (omega (arith, long, element_within states rec s (sym here))) ∙ here in (
      laid_same (set a rec s) states recs found rec (long_set a states rec s long) more set_here,
      laid_agrees (set a rec s) states recs found (long_set a states rec s long) more,
    )

-- the same of the marks of several looks

laid_first : (a states : List RecState) (channel : Channel) (recs : List ℕ) (mark : Mark) (marks : List Mark) (P : List RecState → Type 0) → (f : IsFinding states channel recs mark)
    → P (laid_by (laid a recs f.1.0) marks) → P (laid_by a (mark ∷ marks))
laid_first a states channel recs mark marks P f p = subst (λ (m : Mark). P (laid_by a (m ∷ marks))) (sym f.1.1) p

looks_same : (a states : List RecState) (channel : Channel) (looks : List (List ℕ)) (marks : List Mark) (n : ℕ) → length a ≡ length states → AreFindings states channel looks marks → Same a states n → Same (laid_by a marks) states n
looks_same a states channel [] [] n long are same = same
looks_same a states channel [] (mark ∷ marks) n long are same = absurd are
looks_same a states channel (recs ∷ looks) [] n long are same = absurd are
looks_same a states channel (recs ∷ looks) (mark ∷ marks) n long are same =
    let f = are.0 in
    laid_first a states channel recs mark marks (λ b. Same b states n) f
    (looks_same (laid a recs f.1.0) states channel looks marks n (long_laid a states recs f.1.0 long) are.1 (laid_same a states recs f.1.0 n long f.1.2 same))

each_same : (a states : List RecState) (channel : Channel) (looks : List (List ℕ)) (marks : List Mark) (recs : List ℕ) → length a ≡ length states → AreFindings states channel looks marks → Agree recs a states
    → Agree recs (laid_by a marks) states
each_same a states channel looks marks [] long are agree = tt
each_same a states channel looks marks (rec ∷ recs) long are agree =
    (looks_same a states channel looks marks rec long are agree.0, each_same a states channel looks marks recs long are agree.1)

looks_agree : (a states : List RecState) (channel : Channel) (looks : List (List ℕ)) (marks : List Mark) → length a ≡ length states → AreFindings states channel looks marks
    → AllByRecursion (λ recs. Agree recs (laid_by a marks) states) looks
looks_agree a states channel [] marks long are = tt
looks_agree a states channel (recs ∷ looks) [] long are = absurd are
looks_agree a states channel (recs ∷ looks) (mark ∷ marks) long are =
    let f = are.0 in
    let b = laid a recs f.1.0 in
    let long_b : length b ≡ length states = long_laid a states recs f.1.0 long in
    laid_first a states channel recs mark marks (λ c. AllByRecursion (λ rs. Agree rs c states) (recs ∷ looks)) f (
      each_same b states channel looks marks recs long_b are.1 (laid_agrees a states recs f.1.0 long f.1.2),
      looks_agree b states channel looks marks long_b are.1,
    )

each_alone : (a states : List RecState) (recs : List ℕ) → AllByRecursion (λ rs. Agree rs a states) (map (λ rec. rec ∷ []) recs) → Agree recs a states
each_alone a states [] all = tt
each_alone a states (rec ∷ recs) all = (all.0.0, each_alone a states recs all.1)

all_looked_at : (a states : List RecState) (atomic : Bool) (recs : List ℕ) → AllByRecursion (λ rs. Agree rs a states) (looks_by atomic recs) → Agree recs a states
all_looked_at a states true recs all = all.0
all_looked_at a states false recs all = each_alone a states recs all

-- ---- the footprint decides what is shown

module _ (reads : (g : GroupData) → ReadsRecords g) where
  grouped_same : (group : Option GroupData) (a b : List RecState) → Agree (records_in group) a b → grouped group a ≡ grouped group b
  grouped_same None a b agree = refl
  grouped_same (Some g) a b agree = reads g a b agree

  shows_for : (kind : ChannelKind) (site : SiteData) (n : ℕ) (a b : List RecState) → Agree (footprint_for kind site n) a b → value_for kind site n a ≡ value_for kind site n b
  shows_for Rec site n a b agree = ap (shown_or_blank (slice_get site.configs n)) agree.0
  shows_for Desc site n a b agree = refl
  shows_for Group site n a b agree = grouped_same (slice_get site.groups n) a b agree
  shows_for Service site n a b agree = refl

  pub looks_show : (site : SiteData) (channel : Channel) (atomic : Option Bool) (states : List RecState) (marks : List Mark) → length site.opening ≡ length states
      → AreFindings states channel (looks_of site channel atomic) marks → value_of site channel (laid_by site.opening marks) ≡ value_of site channel states
  looks_show site channel atomic states marks long are =
      shows_for channel.kind site channel.number (laid_by site.opening marks) states
      (all_looked_at (laid_by site.opening marks) states (is_atomic site channel atomic) (footprint_of site channel)
      (looks_agree site.opening states channel (looks_of site channel atomic) marks long are))

  found_shows : (h : History) (at : ℕ) (channel : Channel) (found : List RecState) → AreStatesOf (state_at h at) (footprint_of h.base.site channel) found
      → value_of h.base.site channel (laid h.base.site.opening (footprint_of h.base.site channel) found) ≡ value_of h.base.site channel (state_at h at)
  found_shows h at channel found are =
      let site = h.base.site in
      shows_for channel.kind site channel.number (laid site.opening (footprint_of site channel) found) (state_at h at)
      (laid_agrees site.opening (state_at h at) (footprint_of site channel) found (sym (replayed_count site.opening (take at (commits h)))) are)

  pub read_shows : (h : History) (at : ℕ) (channel : Channel) (found : List RecState) → IsTrueRead h at channel (footprint_of h.base.site channel) found
      → value_of h.base.site channel (laid h.base.site.opening (footprint_of h.base.site channel) found) ≡ value_of h.base.site channel (state_at h at)
  read_shows h at channel found t = found_shows h at channel found t.found_is

  pub entry_shows : (h : History) (seat at : ℕ) (channel : Channel) (entry : Entry) (found : List RecState) → IsTrueEntry h seat at entry (footprint_of h.base.site channel) found
      → value_of h.base.site channel (laid h.base.site.opening (footprint_of h.base.site channel) found) ≡ value_of h.base.site channel (state_at h (at + 1))
  entry_shows h seat at channel entry found t = found_shows h (at + 1) channel found t.found_is
