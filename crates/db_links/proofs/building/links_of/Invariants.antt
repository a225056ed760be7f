use Rattle.std.proofs.Common.{◌≡◌, ◌++◌, map, drop}
use Rattle.db_links.specs.Live.{links_in, links_of}
use Rattle.db_links.proofs.building.links_of.Given as goal

abbrev pub invariant-loop-rec : goal.invariant-loop-rec
invariant-loop-rec l = l.links.items ++ map (links_in l.records) (drop l.rec-index l.records) ≡ links_of l.records
