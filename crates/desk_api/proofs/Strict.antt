-- Footprints rise strictly.
use Rattle.std.specs.Prelude.{◌≡◌, ℕ, zero, suc, ◌+◌, ◌<◌, ◌==◌, ◌||◌, List, [], ◌∷◌, fold, length, Option, None, Some, refl, slice_get, option_map}
use Rattle.std.specs.BTreeSet.{insert_key}
use Rattle.std.specs.Cmp.{nat_cmp_is}
use Rattle.std.specs.List.{AllByRecursion, filter_map, list_any, range_with_len}
use Rattle.std.specs.List.Sorted.{IsStrictlyIncreasing, IsStrictlySortedBy}
use Rattle.std.specs.Ordering.{nat_cmp, match_ordering, ordering_reverse}
use Rattle.std.specs.declared.cmp.Ordering.{Ordering}
use Rattle.std.specs.declared.cmp.Ordering.TheVariants.{Less, Equal, Greater}
use Rattle.std.proofs.Common.{arith, sym, ◌∙◌, ap}
use Rattle.std.proofs.lemmas.Cmp.{nat_cmp_total}
use Rattle.std.proofs.lemmas.List.Kept.{IsStrictlyIncreasing-filter}
use Rattle.std.proofs.lemmas.Map.Keys.{IsStrictlyIncreasing-from_sorted}
use Rattle.group_view.specs.Groups.{GroupData}
use Rattle.group_view.specs.Leaves.{rising}
use Rattle.rec_kinds.specs.declared.datum.Action.{Action}
use Rattle.desk_api.proofs.Noting.{all_inserted}
use Rattle.desk_api.specs.Puts.{footprint_by, footprint_with, is_held}
use Rattle.desk_api.specs.Sites.{footprint_for, footprint_of, records_in}
use Rattle.desk_api.specs.declared.channel.Channel.{Channel}
use Rattle.desk_api.specs.declared.channel.ChannelKind.{ChannelKind}
use Rattle.desk_api.specs.declared.channel.ChannelKind.TheVariants.{Rec, Desc, Group, Service}
use Rattle.desk_api.specs.declared.history.SiteData.{SiteData}

-- ---- numbers that are inserted in their order rise

-- what is above a number is above each that is below it
above_each : (k x : ℕ) (xs : List ℕ) → nat_cmp k x ≡ Less → AllByRecursion (λ y. nat_cmp x y ≡ Less) xs → AllByRecursion (λ y. nat_cmp k y ≡ Less) xs
above_each k x [] less above = tt
above_each k x (y ∷ xs) less above = (nat_cmp_total.trans k x y less above.0, above_each k x xs less above.1)

sorted_inserted : (ks : List ℕ) (k : ℕ) → IsStrictlySortedBy nat_cmp ks → IsStrictlySortedBy nat_cmp (insert_key nat_cmp ks k)
unfolding IsStrictlySortedBy
sorted_inserted [] k sorted = (tt, tt)
sorted_inserted (x ∷ xs) k sorted = by (nat_cmp k x) refl (sorted_inserted xs k sorted.1) where
  by : (o : Ordering) → nat_cmp k x ≡ o → IsStrictlySortedBy nat_cmp (insert_key nat_cmp xs k)
      → IsStrictlySortedBy nat_cmp (match_ordering o (k ∷ x ∷ xs) (x ∷ xs) (x ∷ insert_key nat_cmp xs k))
  by Less is later = ((is, above_each k x xs is sorted.0), sorted)
  by Equal is later = sorted
  by Greater is later = (all_inserted (λ y. nat_cmp x y ≡ Less) xs k sorted.0 (nat_cmp_total.antisymm x k ∙ ap ordering_reverse is), later)

sorted_folded : (ns ks : List ℕ) → IsStrictlySortedBy nat_cmp ks → IsStrictlySortedBy nat_cmp (fold (insert_key nat_cmp) ks ns)
sorted_folded [] ks sorted = sorted
sorted_folded (n ∷ ns) ks sorted = sorted_folded ns (insert_key nat_cmp ks n) (sorted_inserted ks n sorted)

none_sorted : IsStrictlySortedBy nat_cmp []
unfolding IsStrictlySortedBy
none_sorted = tt

one_sorted : (n : ℕ) → IsStrictlySortedBy nat_cmp (n ∷ [])
unfolding IsStrictlySortedBy
one_sorted n = (tt, tt)

rising_rises : (ns : List ℕ) → IsStrictlyIncreasing (rising ns)
rising_rises ns = IsStrictlyIncreasing-from_sorted (rising ns) (sorted_folded ns [] none_sorted)

-- ---- numbers in a row rise

above_range : (a b n : ℕ) → a < b → AllByRecursion (λ y. nat_cmp a y ≡ Less) (range_with_len b n)
above_range a b zero less = tt
above_range a b (suc n) less = (sym (nat_cmp_is a b Less less), above_range a (b + 1) n (omega (arith, less)))

sorted_range : (a n : ℕ) → IsStrictlySortedBy nat_cmp (range_with_len a n)
unfolding IsStrictlySortedBy
sorted_range a zero = tt
sorted_range a (suc n) = (above_range a (a + 1) n (omega arith), sorted_range (a + 1) n)

range_rises : (n : ℕ) → IsStrictlyIncreasing (range_with_len 0 n)
range_rises n = IsStrictlyIncreasing-from_sorted (range_with_len 0 n) (sorted_range 0 n)

-- ---- the footprints of gets

of_group : (group : Option GroupData) → IsStrictlyIncreasing (records_in group)
of_group None = IsStrictlyIncreasing-from_sorted [] none_sorted
of_group (Some group) = rising_rises (filter_map (λ m. option_map (λ l. l.rec) m.link) group.members)

of_kind : (kind : ChannelKind) (site : SiteData) (number : ℕ) → IsStrictlyIncreasing (footprint_for kind site number)
of_kind Rec site number = IsStrictlyIncreasing-from_sorted (number ∷ []) (one_sorted number)
of_kind Desc site number = IsStrictlyIncreasing-from_sorted [] none_sorted
of_kind Group site number = of_group (slice_get site.groups number)
of_kind Service site number = range_rises (length site.names)

pub gets_rise : (site : SiteData) (channel : Channel) → IsStrictlyIncreasing (footprint_of site channel)
gets_rise site channel = of_kind channel.kind site channel.number

-- ---- the footprints of entries

pub entries_rise : (site : SiteData) (actions : List (ℕ × Action)) → IsStrictlyIncreasing (footprint_by site actions)
entries_rise site actions = IsStrictlyIncreasing-filter (is_held site actions) (range_with_len 0 (length site.configs)) (range_rises (length site.configs))

pub put_gets_rise : (site : SiteData) (actions : List (ℕ × Action)) (looked : List ℕ) → IsStrictlyIncreasing (footprint_with site actions looked)
put_gets_rise site actions looked =
    IsStrictlyIncreasing-filter (λ rec. is_held site actions rec || list_any (λ r. r == rec) looked) (range_with_len 0 (length site.configs)) (range_rises (length site.configs))
