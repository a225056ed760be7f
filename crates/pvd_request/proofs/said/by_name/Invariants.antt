use Rattle.std.proofs.Common.{◌≡◌, ℕ, List, drop}
use Rattle.pvd_type.specs.View.{members_view}
use Rattle.pvd_request.specs.Selection.{said_of}
use Rattle.pvd_request.specs.Said.{said_in}
use Rattle.pvd_request.proofs.said.by_name.Given as goal

abbrev pub invariant-loop-i : goal.invariant-loop-i
invariant-loop-i l = (name : List ℕ) → said_in l.said name ≡ said_of name (members_view (drop l.i l.members))
