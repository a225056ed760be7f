use Rattle.std.proofs.Common.{◌≡◌, ◌++◌, drop}
use Rattle.std.specs.List.{flat_map}
use Rattle.pva_wire.specs.Spelling.{number_bytes}
use Rattle.pva_search.proofs.writing.put_each_instance.Given as goal

abbrev pub invariant-loop-instance : goal.invariant-loop-instance
invariant-loop-instance l =
    l.out.items ++ flat_map (number_bytes l.order 4) (drop l.instance-index l.instances)
    ≡ l.fn.out.items ++ flat_map (number_bytes l.order 4) l.instances
