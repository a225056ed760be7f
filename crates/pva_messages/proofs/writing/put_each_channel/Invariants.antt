use Rattle.std.proofs.Common.{◌≡◌, ◌++◌, drop}
use Rattle.std.specs.List.{flat_map}
use Rattle.pvd_codec.specs.Written.{Begins, CanEach}
use Rattle.pva_messages.specs.Written.{CanChannel, canonical_channel}
use Rattle.pva_messages.proofs.writing.put_each_channel.Given as goal

abbrev pub invariant-loop-channel : goal.invariant-loop-channel
invariant-loop-channel l = record {
  written : l.out.items ++ flat_map (canonical_channel l.order) (drop l.channel-index l.channels) ≡ l.fn.out.items ++ flat_map (canonical_channel l.order) l.channels;
  can : CanEach CanChannel (drop l.channel-index l.channels) → CanEach CanChannel l.channels;
  begins : Begins l.fn.out.items l.out.items;
}
