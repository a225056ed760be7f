use Rattle.std.proofs.Common.{rules, ◌+◌, ◌<◌, arith}
use Rattle.hall_locks.proofs.Lists.{all_among}
use Rattle.hall_locks.proofs.Cells.{took_first, took_is}
use Rattle.hall_locks.proofs.hall.Hall.take.Goals as goal

pub overflow_add-cell : goal.overflow_add-cell
overflow_add-cell g c =
    let inside : c.args.cell < c.args.self.now.count = all_among (λ n. n < c.args.self.now.count) c.args.cell g.B.Footprint.bound c.requires.may.among c.requires.inside in
    let few : c.args.cell < 4096 = omega (arith, inside, c.args.self.now.wide.2) in
    search rules

pub take_out-requires-clause-there : goal.take_out-requires-clause-there
take_out-requires-clause-there g c = took_first g.T.Law.meaning g.B.Footprint.bound (c.args.cell + 1) c.args.seat.now.me c.take_word.new.seat.me c.take_word.ensures.took

pub returns-clause-taken : goal.returns-clause-taken
returns-clause-taken g c = (took_is g.T.Law.meaning g.B.Footprint.bound c.args.cell (c.args.cell + 1) c.args.seat.now.me c.take_word.new.seat.me c.take_out.new.seat.me c.take_out.result (omega arith) c.take_word.ensures.took c.take_out.ensures.value c.take_out.ensures.away).0

pub returns-clause-was : goal.returns-clause-was
returns-clause-was g c = (took_is g.T.Law.meaning g.B.Footprint.bound c.args.cell (c.args.cell + 1) c.args.seat.now.me c.take_word.new.seat.me c.take_out.new.seat.me c.take_out.result (omega arith) c.take_word.ensures.took c.take_out.ensures.value c.take_out.ensures.away).1
