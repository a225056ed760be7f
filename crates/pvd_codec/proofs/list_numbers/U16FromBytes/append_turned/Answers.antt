use Rattle.std.proofs.Common.{◌≡◌, length, rules}
use Rattle.pva_wire.specs.declared.order.Order.TheVariants.{Big}
use Rattle.pvd_codec.proofs.Numbers.{numbers_appended}
use Rattle.pvd_codec.proofs.list_numbers.U16FromBytes.append_turned.Goals as goal

pub returns-then-count-eq-TURNED-clause-numbers : goal.returns-then-count-eq-TURNED-clause-numbers
returns-then-count-eq-TURNED-clause-numbers c =
    let dst = c.read_u16_into.new.dst in
    let kept : length dst ≡ c.args.count = search rules in
    numbers_appended (λ x. x) Big 2 0 c.args.count c.args.bytes.now c.split_at.result.0.now c.split_at.result.1.now c.args.items.now.items c.extend_from_slice.new.self.items dst
    c.split_at.ensures.by_index.0 c.split_at.ensures.front_len kept c.in_ok-extend_from_slice.ensures.items c.read_u16_into.ensures

pub returns-clause-numbers : goal.returns-clause-numbers
returns-clause-numbers c =
    let dst = c.read_u16_into-2.new.dst in
    let kept : length dst ≡ c.args.count = search rules in
    numbers_appended (λ x. x) Big 2 0 c.args.count c.args.bytes.now c.split_at.result.0.now c.split_at.result.1.now c.args.items.now.items c.extend_from_slice-2.new.self.items dst
    c.split_at.ensures.by_index.0 c.split_at.ensures.front_len kept c.in_ok-extend_from_slice-2.ensures.items c.read_u16_into-2.ensures
