use Rattle.prog_drill.proofs.drilling.+pump_out.Given as goal

abbrev pub decreases-pump_out : goal.decreases-pump_out
decreases-pump_out g l = l.rounds
