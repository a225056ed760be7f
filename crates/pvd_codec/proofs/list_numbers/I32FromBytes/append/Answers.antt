use Rattle.std.proofs.Common.{◌≡◌, length, rules, pos}
use Rattle.std.specs.Int.{w32, cast_signed}
use Rattle.pva_wire.specs.declared.order.Order.TheVariants.{Little}
use Rattle.pvd_codec.proofs.Numbers.{numbers_appended}
use Rattle.pvd_codec.proofs.list_numbers.I32FromBytes.append.Goals as goal

pub returns-clause-numbers : goal.returns-clause-numbers
returns-clause-numbers c =
    let dst = c.read_i32_into.new.dst in
    let kept : length dst ≡ c.args.count = search rules in
    numbers_appended (cast_signed w32) Little 4 (pos 0) c.args.count c.args.bytes.now c.split_at.result.0.now c.split_at.result.1.now c.args.items.now.items c.extend_from_slice.new.self.items dst
    c.split_at.ensures.by_index.0 c.split_at.ensures.front_len kept c.in_ok-extend_from_slice.ensures.items (c.read_i32_into.ensures (pos 0))
