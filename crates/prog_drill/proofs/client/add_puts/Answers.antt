use Rattle.std.proofs.Common.{◌<◌, ◌≤◌, rules}
use Rattle.prog_drill.proofs.Drawing.{put_more, puts_end}
use Rattle.prog_drill.proofs.client.add_puts.Goals as goal

pub loop-preserved : goal.loop-preserved
loop-preserved c =
    let within : c.loop.counter < 10000 = search rules in (
      put_more _ c.loop.out.items c.add_put.new.out.items 10000 c.loop.counter c.loop.x c.next_number-first.result c.next_number-second.result within c.next_number-first.ensures.number
          c.next_number-second.ensures.number c.loop.invariant.0 c.in_ok-add_put.ensures,
      c.next_number-second.ensures.small,
    )

pub returns : goal.returns
returns c =
    let over : 10000 ≤ c.loop.counter = search rules in
    puts_end _ c.loop.out.items 10000 c.loop.counter c.loop.x over c.loop.invariant.0
