use Rattle.std.proofs.Common.{◌≡◌, ◌≤◌, drop}
use Rattle.rec_kinds.specs.Given.{text_told}
use Rattle.rec_kinds.proofs.Counts.{count_in, total}
use Rattle.rec_kinds.proofs.given.Given.up_to_last.Given as goal

abbrev pub invariant-loop-index : goal.invariant-loop-index
invariant-loop-index l =
    let told = text_told l.self.kind l.self.fields.now in
    (l.count ≤ l.index) × (total l.count l.index (count_in told (drop l.index l.names)) ≡ count_in told l.names)
