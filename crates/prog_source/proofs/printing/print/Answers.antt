use Rattle.std.proofs.Common.{◌≡◌, ◌-◌, List, ℕ, length, take, drop, sym, subst, arith}
use Rattle.std.proofs.lemmas.List.{take_all, take-append-drop, length-drop}
use Rattle.prog_source.proofs.Told.{Printing, printed_more}
use Rattle.prog_source.proofs.printing.print.Goals as goal

pub loop-rest-preserved : goal.loop-rest-preserved
loop-rest-preserved g c =
    let rest : List ℕ = c.loop-rest.rest.now in
    let n : ℕ = c.in-Took.count in
    let took = c.in-Took.ensures {u = tt} in
    let all : take (length rest - n) (drop n rest) ≡ drop n rest = take_all (length rest - n) (drop n rest) (omega (arith, length-drop n rest)) in
    subst (Printing (g.S.Sink.written c.args.sink.now) (g.S.Sink.written c.write.new.self) (g.S.Sink.faults c.args.sink.now) (g.S.Sink.faults c.write.new.self) c.args.text.now) (sym all)
    (printed_more _ _ _ _ _ _ c.args.text.now rest n c.loop-rest.invariant took.2 took.3 (sym (take-append-drop n rest)))
