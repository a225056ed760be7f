-- What a record reaches by live links.
use Rattle.std.specs.Prelude.{◌≡◌, ℕ, Bool, true, List}
use Rattle.std.specs.List.{list_any}
use Rattle.std.specs.List.Sorted.{IsStrictlySortedBy}
use Rattle.std.specs.Ordering.{nat_cmp}
use Rattle.std.specs.Prelude.{nat_eq}
use Rattle.db_links.specs.Live.{leads}
use Rattle.db_links.specs.declared.link.RecordLinks.{RecordLinks}

-- The least set that holds a record and, with each of its records, those that its live links name.
pub data Reached (links : List RecordLinks) (from : ℕ) : ℕ → Type 0 where
  itself : Reached links from from
  further : (a b : ℕ) → Reached links from a → leads links a b ≡ true → Reached links from b

-- whether a record is one of these
abbrev pub is_among : ℕ → List ℕ → Bool
is_among q records = list_any (nat_eq q) records

-- These are the records that one reaches, in rising order, each once.
pub record IsReach (links : List RecordLinks) (from : ℕ) (records : List ℕ) : Type 0 where
  pub rising : IsStrictlySortedBy nat_cmp records
  pub only : (q : ℕ) → is_among q records ≡ true → Reached links from q
  pub all : (q : ℕ) → Reached links from q → is_among q records ≡ true
