use Rattle.std.proofs.Common.{◌≡◌, ◌-◌, ◌++◌}
use Rattle.pva_search.specs.Finding.{open_in}
use Rattle.pva_search.specs.Steps.{channel_bytes}
use Rattle.pva_search.proofs.finder.put_channels.Given as goal

abbrev pub invariant-loop-i : goal.invariant-loop-i
invariant-loop-i l =
    l.out.items ++ channel_bytes l.names (open_in l.servers l.i (l.end - l.i))
    ≡ l.fn.out.items ++ channel_bytes l.names (open_in l.servers l.next (l.end - l.next))
