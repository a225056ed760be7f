-- What a directory and a table end as, where a `&mut` into them is returned.
use Rattle.std.specs.Prelude.{ℕ, Option}
use Rattle.std.specs.Borrow.{Lends, LendsIf, Fml, RattleType, MutBor}
use Rattle.chan_table.specs.Kept.{Kept, with_value}
use Rattle.chan_table.specs.Tables.{Tables, with_ask}
use Rattle.chan_table.specs.declared.ask.Ask.{Ask}
use Rattle.chan_table.specs.contracts.ask.Ask as ask
use Rattle.chan_table.specs.contracts.directory.Directory as directory
use Rattle.chan_table.specs.contracts.table.Table as table

-- once the borrow r ends, the number has the last value written through r
abbrev pub lends_value : (V : RattleType) → MutBor (Kept V.Denot) → ℕ → MutBor V.Denot → Fml
lends_value V s n r = Lends (directory.the_row V) V s r (with_value s.now n)

module _ (C S : RattleType) (t : MutBor (Tables C.Denot S.Denot)) (id : ℕ) where
  -- once the borrow r ends, the id has the request that was last written through r
  abbrev pub lends_ask : MutBor (Ask S.Denot) → Fml
  lends_ask r = Lends (table.the_row C S) (ask.the_row S) t r (with_ask t.now id)

  -- the same where r is a reference, and at `None` all is as it was
  abbrev pub lends_found : Option (MutBor (Ask S.Denot)) → Fml
  lends_found r = LendsIf (table.the_row C S) (ask.the_row S) t r (with_ask t.now id) t.now
