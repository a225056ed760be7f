use Rattle.std.proofs.Common.{◌≡◌, [], ◌∷◌, length, map}
use Rattle.desk_core.specs.Begun.{AreBegun}
use Rattle.desk_core.specs.Desks.{ports_of}
use Rattle.desk_core.proofs.solo.SoloDesk.put_each.Given as goal

-- the actions so far were put, each as an entry of its own
abbrev pub invariant-loop-action : goal.invariant-loop-action
invariant-loop-action g l = record {
  begun : AreBegun l.fn.self.terms.site l.moment (map (λ action. action ∷ []) l.yielded) l.fn.self.log l.self.log (ports_of g.P.Port.port l.fn.self) (ports_of g.P.Port.port l.self);
  count : l.count ≡ length l.yielded;
  terms : l.self.terms ≡ l.fn.self.terms;
}
