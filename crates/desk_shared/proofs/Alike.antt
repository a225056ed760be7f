-- What an entry posts is seen of the records that it holds alone.
use Rattle.std.proofs.Common.{◌≡◌, ◌==◌, ◌||◌, ◌&&◌, ℕ, suc, zero, Bool, true, false, List, [], ◌∷◌, Option, None, Some, refl, sym, ◌∙◌, ap, subst, ◌⊎◌, inl, inr}
use Rattle.std.specs.List.{slice_get, list_all, list_any, fold}
use Rattle.std.specs.FinSet.{FinSet, contains, contains-empty, contains-intersection, contains-union, empty, intersection, union}
use Rattle.std.specs.Ordering.{nat_cmp}
use Rattle.std.specs.Cmp.{nat_cmp_total}
use Rattle.std.specs.Prelude.{if◌then◌else◌}
use Rattle.std.proofs.lemmas.Bool.{eqb-true, false≢true}
use Rattle.std.proofs.lemmas.Option.{none-some}
use Rattle.pvd_type.specs.Numbers.{leaves}
use Rattle.pvd_value.specs.Leaves.{leaf_at}
use Rattle.rec_kinds.specs.declared.state.RecState.{RecState}
use Rattle.group_view.specs.Groups.{GroupData}
use Rattle.group_view.specs.Laws.{Agree}
use Rattle.group_view.specs.Leaves.{footprint}
use Rattle.group_view.proofs.Depending.{reads_footprint}
use Rattle.journal_core.specs.Legality.{AreValid}
use Rattle.mon_shown.specs.Channels.{triggered as triggered_by}
use Rattle.desk_api.specs.Puts.{is_held_with}
use Rattle.desk_api.specs.Sites.{AreOver}
use Rattle.desk_api.specs.Triggers.{channel_view, triggered_in, triggers_for}
use Rattle.desk_api.specs.Types.{group_type, type_for, type_of}
use Rattle.desk_api.specs.Views.{grouped, shown_or_blank, value_for}
use Rattle.desk_api.specs.declared.channel.Channel.{Channel}
use Rattle.desk_api.specs.declared.channel.ChannelKind.{ChannelKind}
use Rattle.desk_api.specs.declared.channel.ChannelKind.TheVariants.{Rec, Desc, Group, Service}
use Rattle.desk_api.specs.declared.history.SiteData.{SiteData}
use Rattle.desk_api.proofs.Showing.{are_ready, over_at}
use Rattle.desk_shared.specs.Hands.{AgreeAt}
use Rattle.desk_shared.proofs.Listed.{among, among_there, some_same}

abbrev no_leaf : FinSet nat_cmp
no_leaf = empty

-- a leaf of a set that both have
in_second : (b c : Bool) → (b && c) ≡ true → b ≡ true
in_second true c is = refl
in_second false c is = is

-- a leaf that some of these writes trigger is triggered by one of them
by_one : (triggers : ℕ → FinSet nat_cmp) (writes : List (ℕ × RecState)) (before : FinSet nat_cmp) (k : ℕ) → contains (fold (λ leaves w. union leaves (triggers w.0)) before writes) k ≡ true
    → (contains before k ≡ true) ⊎ ((w : ℕ × RecState) × (j : ℕ) × (slice_get writes j ≡ Some w) × (contains (triggers w.0) k ≡ true))
by_one triggers [] before k is = inl is
by_one triggers (w ∷ writes) before k is = later (by_one triggers writes (union before (triggers w.0)) k is) where
  here : (a b : Bool) → (a || b) ≡ true → (a ≡ true) ⊎ (b ≡ true)
  here true b e = inl refl
  here false b e = inr e

  first : (contains before k ≡ true) ⊎ (contains (triggers w.0) k ≡ true) → (contains before k ≡ true) ⊎ ((x : ℕ × RecState) × (j : ℕ) × (slice_get (w ∷ writes) j ≡ Some x) × (contains (triggers x.0) k ≡ true))
  first (inl a) = inl a
  first (inr b) = inr (w, 0, refl, b)

  later : (contains (union before (triggers w.0)) k ≡ true) ⊎ ((x : ℕ × RecState) × (j : ℕ) × (slice_get writes j ≡ Some x) × (contains (triggers x.0) k ≡ true))
      → (contains before k ≡ true) ⊎ ((x : ℕ × RecState) × (j : ℕ) × (slice_get (w ∷ writes) j ≡ Some x) × (contains (triggers x.0) k ≡ true))
  later (inl a) = first (here (contains before k) (contains (triggers w.0) k) (sym (contains-union nat_cmp_total before (triggers w.0) k) ∙ a))
  later (inr t) = inr (t.0, suc t.1, t.2, t.3)

-- a write of an entry is of a record that it holds
pub held_write : (writes : List (ℕ × RecState)) (recs : List ℕ) (j : ℕ) (w : ℕ × RecState) → list_all (λ (write : ℕ × RecState). list_any (λ (rec : ℕ). rec == write.0) recs) writes ≡ true → slice_get writes j ≡ Some w → among recs w.0 ≡ true
held_write [] recs j w all is = absurd (none-some w is)
held_write (x ∷ writes) recs zero w all is = ap (λ (z : ℕ × RecState). among recs z.0) (sym (some_same x w is)) ∙ in_second (among recs x.0) (list_all (λ (write : ℕ × RecState). list_any (λ (rec : ℕ). rec == write.0) recs) writes) all
held_write (x ∷ writes) recs (suc j) w all is = held_write writes recs j w (in_rest (among recs x.0) (list_all (λ (write : ℕ × RecState). list_any (λ (rec : ℕ). rec == write.0) recs) writes) all) is where
  in_rest : (b c : Bool) → (b && c) ≡ true → c ≡ true
  in_rest true c e = e
  in_rest false c e = absurd (false≢true e)

module _ (site : SiteData) (a b : List RecState) (over : AreOver site) (valid_a : AreValid site.configs a) (valid_b : AreValid site.configs b) (recs : List ℕ) (agree : AgreeAt recs a b) where
  -- of a group under what a record triggers, where the records are held that its groups read for it
  group_alike : (o : Option GroupData) (number rec : ℕ) → slice_get site.groups number ≡ o → ((n : ℕ) → is_held_with site n rec ≡ true → among recs n ≡ true) → (k : ℕ) → contains (triggered_in o rec) k ≡ true
      → leaf_at k (group_type o) (grouped o a) ≡ leaf_at k (group_type o) (grouped o b)
  group_alike None number rec is held k in_it = absurd (false≢true (sym (contains-empty nat_cmp k) ∙ in_it))
  group_alike (Some g) number rec is held k in_it =
      reads_footprint g rec a b (are_ready site.configs a g valid_a (over_at site.configs site.groups number g over is)) (are_ready site.configs b g valid_b (over_at site.configs site.groups number g over is))
      (agree_all (footprint g rec) (λ n among_it. agree n (held n (held_by n among_it)))) k in_it
    where
      held_by : (n : ℕ) → among (footprint g rec) n ≡ true → is_held_with site n rec ≡ true
      held_by n among_it = or_later (n == rec) (list_any (λ (z : GroupData). list_any (λ (r : ℕ). r == n) (footprint z rec)) site.groups) (any_group site.groups number is) where
        or_later : (x y : Bool) → y ≡ true → (x || y) ≡ true
        or_later true y e = refl
        or_later false y e = e

        or_here : (x y : Bool) → x ≡ true → (x || y) ≡ true
        or_here true y e = refl
        or_here false y e = absurd (false≢true e)

        any_group : (gs : List GroupData) (m : ℕ) → slice_get gs m ≡ Some g → list_any (λ (z : GroupData). list_any (λ (r : ℕ). r == n) (footprint z rec)) gs ≡ true
        any_group [] m e = absurd (none-some g e)
        any_group (z ∷ gs) zero e = or_here (among (footprint z rec) n) (list_any (λ (y : GroupData). list_any (λ (r : ℕ). r == n) (footprint y rec)) gs) (ap (λ (y : GroupData). among (footprint y rec) n) (some_same z g e) ∙ among_it)
        any_group (z ∷ gs) (suc m) e = or_later (among (footprint z rec) n) (list_any (λ (y : GroupData). list_any (λ (r : ℕ). r == n) (footprint y rec)) gs) (any_group gs m e)

      agree_all : (ns : List ℕ) → ((n : ℕ) → among ns n ≡ true → slice_get a n ≡ slice_get b n) → Agree ns a b
      agree_all [] each = tt
      agree_all (n ∷ ns) each = (each n (among_there (n ∷ ns) 0 n refl), agree_all ns (λ m e. each m (later (n == m) (among ns m) e))) where
        later : (x y : Bool) → y ≡ true → (x || y) ≡ true
        later true y e = refl
        later false y e = e

  -- of a record under its own leaves
  rec_alike : (number rec k : ℕ) (own : FinSet nat_cmp) → among recs rec ≡ true → (here : Bool) → (rec == number) ≡ here → contains (if here then own else empty) k ≡ true → value_for Rec site number a ≡ value_for Rec site number b
  rec_alike number rec k own held true same in_it =
      ap (shown_or_blank (slice_get site.configs number)) (agree number (subst (λ (n : ℕ). among recs n ≡ true) (eqb-true rec number same) held))
  rec_alike number rec k own held false same in_it = absurd (false≢true (sym (contains-empty nat_cmp k) ∙ in_it))

  -- of a channel under what a record triggers that is held, with all that is held with it
  kind_alike : (kind : ChannelKind) (number rec k : ℕ) → among recs rec ≡ true → ((n : ℕ) → is_held_with site n rec ≡ true → among recs n ≡ true) → contains (triggers_for kind site number rec) k ≡ true
      → leaf_at k (type_for kind site number) (value_for kind site number a) ≡ leaf_at k (type_for kind site number) (value_for kind site number b)
  kind_alike Rec number rec k held with_it in_it =
      ap (leaf_at k (type_for Rec site number)) (rec_alike number rec k (leaves (type_of site (record { kind = Rec; number = number }))) held (rec == number) refl in_it)
  kind_alike Desc number rec k held with_it in_it = refl
  kind_alike Group number rec k held with_it in_it = group_alike (slice_get site.groups number) number rec refl with_it k in_it
  kind_alike Service number rec k held with_it in_it = refl

  -- of every subscription under what an entry takes anew that holds what it writes, with all that is held with it
  pub seen_alike : (writes : List (ℕ × RecState)) → ((j : ℕ) (w : ℕ × RecState) → slice_get writes j ≡ Some w → (among recs w.0 ≡ true) × ((n : ℕ) → is_held_with site n w.0 ≡ true → among recs n ≡ true))
      → (channel : Channel) (requested : FinSet nat_cmp) (k : ℕ) → contains (intersection (triggered_by (channel_view site channel).triggers writes) requested) k ≡ true
      → leaf_at k (channel_view site channel).ty ((channel_view site channel).view a) ≡ leaf_at k (channel_view site channel).ty ((channel_view site channel).view b)
  seen_alike writes held channel requested k wanted =
      by (by_one (channel_view site channel).triggers writes no_leaf k (in_second (contains all k) (contains requested k) (sym (contains-intersection nat_cmp_total all requested k) ∙ wanted)))
    where
      all : FinSet nat_cmp
      all = triggered_by (channel_view site channel).triggers writes

      by : (contains no_leaf k ≡ true) ⊎ ((w : ℕ × RecState) × (j : ℕ) × (slice_get writes j ≡ Some w) × (contains ((channel_view site channel).triggers w.0) k ≡ true))
          → leaf_at k (channel_view site channel).ty ((channel_view site channel).view a) ≡ leaf_at k (channel_view site channel).ty ((channel_view site channel).view b)
      by (inl none) = absurd (false≢true (sym (contains-empty nat_cmp k) ∙ none))
      by (inr t) = let h = held t.1 t.0 t.2 in kind_alike channel.kind channel.number t.0.0 k h.0 h.1 t.3
