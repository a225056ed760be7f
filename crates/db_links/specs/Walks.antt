-- How far a walk along live links is: the records that are reached, and those whose links are left to be followed.
use Rattle.std.specs.Prelude.{◌≡◌, ◌<◌, ◌≤◌, ℕ, ◌+◌, Bool, true, false, not, ◌&&◌, ◌||◌, List, length}
use Rattle.std.specs.BTreeSet.{BTreeSet, contains_by, btree_set_len}
use Rattle.std.specs.List.Sorted.{IsStrictlySortedBy}
use Rattle.std.specs.Ordering.{nat_cmp}
use Rattle.db_links.specs.Live.{leads}
use Rattle.db_links.specs.Reaching.{Reached, is_among}
use Rattle.db_links.specs.declared.link.RecordLinks.{RecordLinks}

abbrev pub has : BTreeSet ℕ → ℕ → Bool
has s q = contains_by (nat_cmp q) s

-- Those that are wanted are reached besides, and what is new is left to be followed.
pub record Grows (wanted : ℕ → Bool) (old : BTreeSet ℕ) (left : List ℕ) (new : BTreeSet ℕ) (more : List ℕ) : Type 0 where
  pub reached : (q : ℕ) → has new q ≡ (wanted q || has old q)
  pub rest : (q : ℕ) → is_among q more ≡ (is_among q left || (wanted q && not (has old q)))
  pub count : btree_set_len new + length left ≡ btree_set_len old + length more
  pub grows : btree_set_len old ≤ btree_set_len new
  pub ordered : IsStrictlySortedBy nat_cmp old.keys → IsStrictlySortedBy nat_cmp new.keys

-- Nothing but what is to be reached is, and what the links of the others name.
pub record IsWalk (links : List RecordLinks) (from : ℕ) (reached : BTreeSet ℕ) (left : List ℕ) : Type 0 where
  pub ordered : IsStrictlySortedBy nat_cmp reached.keys
  pub start : has reached from ≡ true
  pub only : (q : ℕ) → has reached q ≡ true → Reached links from q
  pub inside : (q : ℕ) → has reached q ≡ true → q < length links
  pub among : (q : ℕ) → is_among q left ≡ true → has reached q ≡ true
  pub closed : (a b : ℕ) → has reached a ≡ true → is_among a left ≡ false → leads links a b ≡ true → has reached b ≡ true
