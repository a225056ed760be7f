-- Channels as functions of the records, and what an entry changes of them.
use Rattle.std.specs.Prelude.{◌≡◌, ◌==◌, ℕ, Bool, true, List}
use Rattle.std.specs.List.{fold, list_any}
use Rattle.std.specs.Ordering.{nat_cmp}
use Rattle.std.specs.FinSet.{FinSet, contains, empty, union}
use Rattle.pvd_type.specs.Tree.{Tree}
use Rattle.pvd_value.specs.Data.{Data}
use Rattle.rec_kinds.specs.declared.state.RecState.{RecState}
use Rattle.journal_core.specs.declared.entry.Entry.{Entry}
use Rattle.journal_core.specs.Histories.{written}
use Rattle.mon_queue.specs.Shown.{Watch, Scene, seen}

-- What a channel shows of the records.
pub record ChannelView : Type 0 where
  pub ty : Tree
  -- the value that it shows of the states of all records
  pub view : List RecState → Data
  -- the leaves that are taken anew where this record is written
  pub triggers : ℕ → FinSet nat_cmp

-- the leaves that some of these writes, each of a record by its number, trigger
abbrev pub triggered : (ℕ → FinSet nat_cmp) → List (ℕ × RecState) → FinSet nat_cmp
triggered triggers writes = fold (λ leaves w. union leaves (triggers w.0)) empty writes

abbrev pub RecordsWatch : Type 0
RecordsWatch = Watch (List RecState) Entry

abbrev pub RecordsScene : Type 0
RecordsScene = Scene (List RecState)

-- a channel and the leaves that are asked for, as what is watched
abbrev pub watch : ChannelView → FinSet nat_cmp → RecordsWatch
watch c requested = record {
  ty = c.ty;
  view = c.view;
  next = λ states e. written states e.writes;
  triggers = λ e. triggered c.triggers e.writes;
  requested = requested;
}

-- Under these numbers the same is seen of both.
abbrev pub SeenAlike : RecordsWatch → FinSet nat_cmp → List RecState → List RecState → Type 0
SeenAlike w mask a b = (k : ℕ) → contains mask k ≡ true → seen w a k ≡ seen w b k

abbrev pub is_one_of : List ℕ → ℕ → Bool
is_one_of ns n = list_any (λ k. n == k) ns
