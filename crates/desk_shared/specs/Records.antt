-- What the records of a site are to a hall.
use Rattle.std.specs.Prelude.{◌≡◌, [], Option, Some, slice_get}
use Rattle.hall_core.specs.Meanings.{Meaning, Adds, adds_nothing, adds_entry, adds_item}
use Rattle.hall_locks.specs.declared.view.View.{View}
use Rattle.rec_kinds.specs.declared.state.RecState.{RecState}
use Rattle.journal_core.specs.Histories.{replayed}
use Rattle.journal_core.specs.Legality.{MayFollow}
use Rattle.journal_core.specs.declared.entry.Entry.{Entry}
use Rattle.mon_shown.specs.declared.roll.RollItem.TheVariants as items
use Rattle.desk_api.proofs.Adding.{still_holds}
use Rattle.desk_api.specs.History.{Item}
use Rattle.desk_api.specs.Marks.{IsTrueIn}
use Rattle.desk_api.specs.declared.history.Base.{Base}
use Rattle.desk_api.specs.declared.mark.Mark.{Mark}
use Rattle.desk_api.specs.declared.mark.Mark.TheVariants.{Read, Entered, Overweight, Begun, Crowded, Popped, Dropped}
use Rattle.desk_api.specs.declared.mark.Seat.{Seat}
use Rattle.desk_hub.specs.Seats.{KeepsSeat}
use Rattle.desk_shared.specs.RecordLaws.{untouched}
use Rattle.desk_shared.specs.declared.books.Books.{Books}
use Rattle.desk_shared.specs.declared.records.RecCell.{RecCell}

-- what a mark adds to the history
abbrev pub adds : Mark → Adds Item
adds (Read at channel footprint found) = adds_nothing
adds (Entered at entry looked found) = adds_entry
adds (Overweight at footprint actions kept added limit) = adds_nothing
adds (Begun at index slot channel mask size) = adds_item (items.Begins slot channel mask size)
adds (Crowded at index count) = adds_nothing
adds (Popped at slot update) = adds_nothing
adds (Dropped at index slot) = adds_item (items.Ends slot)

-- the entry of a mark that adds one is its own
abbrev pub fits : Mark → Entry → Type 0
fits (Read at channel footprint found) entry = ⊥
fits (Entered at own looked found) entry = own ≡ entry
fits (Overweight at footprint actions kept added limit) entry = ⊥
fits (Begun at index slot channel mask size) entry = ⊥
fits (Crowded at index count) entry = ⊥
fits (Popped at slot update) entry = ⊥
fits (Dropped at index slot) entry = ⊥

-- what a history of these books begins with
abbrev pub base_of : Books → Base
base_of books = record { site = books.about.value; limit = books.limit }

-- A cell is a record's state, and its port, which it doesn't show. The hub keeps the entries, and of each seat the
-- subscriptions that its log tells, each with what it is shown and what it has unread at the end of the history.
abbrev pub records : {P : Type 0} → Meaning (RecCell P) Books Entry Base Mark Item (Option RecState)
records = record {
  some_base = record { site = record { names = []; configs = []; opening = []; groups = [] }; limit = 0 };
  base_of = base_of;
  entries = λ books. books.history.entries;
  shows = λ cell. Some cell.state;
  shown_after = λ base entries rec. slice_get (replayed base.site.opening entries) rec;
  footprint = λ entry. entry.footprint;
  may_follow = λ base entries entry. MayFollow base.site.configs base.site.opening entries entry;
  adds = adds;
  fits = fits;
  is_true = λ mark h seat before. IsTrueIn h seat mark before;
  keeps = λ books h seat log. KeepsSeat h books.subs seat log;
  outside = λ base entries entry legal rec out. untouched base entries entry legal rec out;
  stays = λ mark h k seat before begins true. still_holds seat {h = h} {k = k} begins mark before true;
}

-- what a pass of a hall of records knows
abbrev pub Sight : Type 0
Sight = View Books Entry Base Mark Item (Option RecState)

-- the seat of a desk on a pass
abbrev pub seat_of : Sight → Seat
seat_of v = record { number = v.number; seen = v.seen; log = v.log }
