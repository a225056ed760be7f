use Rattle.std.proofs.Common.{◌≡◌, drop, map}
use Rattle.rec_kinds.specs.Fields.{listed}
use Rattle.rec_kinds.proofs.field.listed.Given as goal

abbrev pub invariant-loop-other : goal.invariant-loop-other
invariant-loop-other l =
    listed l.rule (map (λ n. n.now) (drop l.other-index l.names)) l.name ≡ listed l.rule (map (λ n. n.now) l.names) l.name
