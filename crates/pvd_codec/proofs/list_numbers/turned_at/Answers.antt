use Rattle.std.proofs.Common.{◌≡◌, ◌+◌, ◌-◌, ◌≤◌, ◌∙◌, ap, length, arith, rules}
use Rattle.std.proofs.lemmas.List.{length-append}
use Rattle.pva_wire.specs.declared.order.Order.TheVariants.{Big}
use Rattle.pvd_codec.specs.Reading.{valued, items_at}
use Rattle.pvd_codec.proofs.Loop.{goes_on_by, is_done}
use Rattle.pvd_codec.proofs.Numbers.{room_left}
use Rattle.pvd_codec.proofs.list_numbers.turned_at.Goals as goal

pub loop-items-preserved : goal.loop-items-preserved
loop-items-preserved g c =
    let item = valued g.T.FromBytes.meaning Big g.T.FromBytes.size in
    let before = c.loop-items.items.items in
    let few = c.min-next.result in
    let (xs, added, many, spelled) = c.in_ok-rest.ensures.numbers in
    let size : length c.append_turned.new.items.items ≡ length before + few = ap length added ∙ length-append before xs ∙ ap (λ k. length before + k) many in
    let some : few ≤ c.args.count - length before = search rules in
    let all : length before + few ≤ c.args.count = search rules in
    let others : c.args.count - (length before + few) ≡ c.args.count - length before - few = omega arith in
    record {
      read = rw (size, added) (goes_on_by item before c.args.count (length before) few c.loop-items.rest.now xs c.in_ok-rest.rest.now (items_at item c.args.count c.args.bytes.now) all spelled c.loop-items.invariant.read);
      enough = rw (size, others) (room_left g.T.FromBytes.size few (c.args.count - length before) (length c.loop-items.rest.now) (length c.in_ok-rest.rest.now) some c.loop-items.invariant.enough c.in_ok-rest.ensures.left);
    }

pub returns : goal.returns
returns g c =
    let item = valued g.T.FromBytes.meaning Big g.T.FromBytes.size in
    let whole : c.args.count ≤ length c.loop-items.items.items = search rules in
    is_done item c.loop-items.items.items c.args.count (length c.loop-items.items.items) c.loop-items.rest.now (items_at item c.args.count c.args.bytes.now) whole c.loop-items.invariant.read
