-- What a desk on a pass has in hand.
use Rattle.std.specs.Prelude.{◌≡◌, ◌<◌, ◌≤◌, ◌+◌, ◌==◌, ℕ, true, List, [], length, map, reverse, Option, Some, slice_get}
use Rattle.std.specs.List.{AllByRecursion, list_any}
use Rattle.std.specs.List.Sorted.{IsStrictlyIncreasing}
use Rattle.rec_kinds.specs.declared.state.RecState.{RecState}
use Rattle.histories.specs.History.{Every}
use Rattle.hall_locks.specs.Hall.{numbers_of, WasShown}
use Rattle.hall_locks.specs.Hands.{in_visit, values_of}
use Rattle.journal_core.specs.Histories.{kept, written}
use Rattle.journal_core.specs.Legality.{IsLegalEntry}
use Rattle.journal_core.specs.Weights.{weight}
use Rattle.journal_core.specs.declared.entry.Entry.{Entry}
use Rattle.mon_shown.specs.Slots.{AreReady}
use Rattle.mon_shown.specs.declared.subscriptions.Readied.{Readied}
use Rattle.desk_api.specs.Calls.{Adds, now}
use Rattle.desk_api.specs.History.{commits, state_at, IsLegal}
use Rattle.desk_api.specs.Views.{AreStatesOf, found_in}
use Rattle.desk_api.specs.Puts.{is_held}
use Rattle.desk_api.specs.Triggers.{channel_view}
use Rattle.desk_api.specs.declared.history.Base.{Base}
use Rattle.desk_api.specs.declared.history.SiteData.{SiteData}
use Rattle.desk_core.specs.Effects.{restored}
use Rattle.desk_hub.specs.Seats.{KeepsSeat}
use Rattle.desk_hub.specs.Steps.{SeenAsAfter}
use Rattle.desk_shared.specs.Exchanges.{AreExchanged}
use Rattle.desk_shared.specs.Records.{Sight, base_of, records, seat_of}
use Rattle.desk_shared.specs.declared.books.Books.{Books}
use Rattle.desk_shared.specs.declared.lent.LentPort.{LentPort}
use Rattle.desk_shared.specs.declared.records.RecCell.{RecCell}

-- the states in these cells
abbrev pub states_of : {P : Type 0} → List (RecCell P) → List RecState
states_of cells = map (λ cell. cell.state) cells

-- the places of ports in them
abbrev pub places_of : {P : Type 0} → List (RecCell P) → List (LentPort P)
places_of cells = map (λ cell. cell.port) cells

-- these records have the same states in both
abbrev pub AgreeAt : List ℕ → List RecState → List RecState → Type 0
AgreeAt recs a b = (k : ℕ) → list_any (λ r. r == k) recs ≡ true → slice_get a k ≡ slice_get b k

-- a record that shows what it shows after some legal entries
abbrev pub WasLegal : Base → ℕ × Option RecState → Type 0
WasLegal base shown = WasShown (records {P = Unit {0}}) base shown

-- The cells of these records are in hand, in rising order, and have these states. The view has the last one first.
pub record Visits (before v : Sight) (recs : List ℕ) (states : List RecState) : Type 0 where
  pub same : v ≡ in_visit before v.bound v.cells
  pub numbers : numbers_of v.cells ≡ reverse recs
  pub values : values_of v.cells ≡ reverse (map Some states)
  pub was : Every (WasLegal before.seen.base) v.cells

-- The hub is in hand above the cells of these records, which have these states at the end of the history that is then
-- seen. Both are as they were taken, but for the room in the history.
pub record HasHub (v : Sight) (hub : Books) (recs : List ℕ) (states : List RecState) : Type 0 where
  pub as_taken : Books
  pub found : v.hub ≡ Some as_taken
  pub subs_are : as_taken.subs ≡ hub.subs
  pub base : base_of hub ≡ v.seen.base
  pub entries : hub.history.entries ≡ commits v.seen
  pub legal : IsLegal v.seen
  pub own : KeepsSeat v.seen hub.subs v.number v.log
  pub numbers : numbers_of v.cells ≡ reverse recs
  pub values : values_of v.cells ≡ reverse (map Some states)
  pub finds : AreStatesOf (state_at v.seen (now (seat_of v))) recs states

-- The hub was taken behind what others did.
pub record IsBehind (before w : Sight) (hub : Books) (recs : List ℕ) (states : List RecState) : Type 0 where
  pub has : HasHub w hub recs states
  pub others : Adds (seat_of before) (seat_of w) []

-- An entry of the records in hand may be added, of which these are the states after it: it is legal and light enough,
-- there is room for it, and what it posts was made ready. Its records have the states that it leaves, and so have those
-- that are then looked at.
pub record MayEnter (v : Sight) (hub : Books) (recs : List ℕ) (states : List RecState) (entry : Entry)
    (looked : List ℕ) (ready : Readied) : Type 0 where
  pub taken : List RecState
  pub has : HasHub v hub recs taken
  pub room : 0 < hub.history.room
  pub light : kept hub.history.entries + weight entry ≤ hub.limit
  pub legal : IsLegalEntry v.seen.base.site.configs (state_at v.seen (now (seat_of v))) entry
  pub footprint_is : entry.footprint ≡ recs
  pub after : AgreeAt recs states (written (state_at v.seen (now (seat_of v))) entry.writes)
  pub looks : AreStatesOf (written (state_at v.seen (now (seat_of v))) entry.writes) looked (found_in states looked)
  pub ready_is : AreReady (channel_view v.seen.base.site) states entry hub.subs ready
  pub seen_so : SeenAsAfter v.seen entry states hub.subs

-- What an entry wrote over the records in hand may be put back: they have then the states in which they were taken, and
-- the other records those that the desk keeps, which stand in hand in place of the taken ones.
pub record Undoes (v : Sight) (hub : Books) (recs : List ℕ) (hand opening states : List RecState)
    (before : List (ℕ × RecState)) : Type 0 where
  pub taken : List RecState
  pub mixed : List RecState
  pub has : HasHub v hub recs taken
  pub rises : IsStrictlyIncreasing recs
  pub inside : AllByRecursion (λ rec. rec < length opening) recs
  pub exchanged : AreExchanged recs taken hand opening mixed
  pub back_is : restored states before ≡ mixed
  pub within : AllByRecursion (λ held. held.0 < length states) before

-- An entry was drafted on them, which holds them, and these of them are then looked at.
pub record IsDrafted (v : Sight) (hub : Books) (recs : List ℕ) (hand : List RecState) (site : SiteData)
    (states : List RecState) (before : List (ℕ × RecState)) (entry : Entry) (looked : List ℕ) : Type 0 where
  pub undoes : Undoes v hub recs hand site.opening states before
  pub site_is : v.seen.base.site ≡ site
  pub legal : IsLegalEntry site.configs undoes.mixed entry
  pub states_are : states ≡ written undoes.mixed entry.writes
  pub footprint_is : entry.footprint ≡ recs
  pub actions_held : (k : ℕ) → is_held site entry.actions k ≡ true → list_any (λ r. r == k) recs ≡ true
  pub looked_held : (k : ℕ) → list_any (λ r. r == k) looked ≡ true → list_any (λ r. r == k) recs ≡ true

-- The same while the hub is still to be taken, whatever others do until then.
pub record IsDraftedAhead (v : Sight) (recs : List ℕ) (hand : List RecState) (site : SiteData) (states : List RecState)
    (before : List (ℕ × RecState)) (entry : Entry) (looked : List ℕ) : Type 0 where
  pub taken : List RecState
  pub visits : Visits v v recs taken
  pub drafted : (w : Sight) (hub : Books) → IsBehind v w hub recs taken
      → IsDrafted w hub recs hand site states before entry looked
