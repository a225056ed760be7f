use Rattle.prog_source.proofs.Opened.{MadeSoFar}
use Rattle.desk_core.specs.Ports.{ports_there}
use Rattle.prog_source.proofs.ports.make_ports.Given as goal

abbrev pub invariant-loop-rec : goal.invariant-loop-rec
invariant-loop-rec g l = MadeSoFar l.site.configs l.rec (g.M.PortMaker.maker l.fn.maker) (g.M.PortMaker.maker l.maker) (ports_there l.ports.items)
