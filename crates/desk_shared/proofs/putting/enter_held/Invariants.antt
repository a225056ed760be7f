use Rattle.desk_api.specs.Calls.{now}
use Rattle.desk_api.specs.Views.{found_in}
use Rattle.desk_api.specs.declared.mark.Mark.TheVariants.{Entered, Overweight}
use Rattle.desk_shared.specs.Records.{seat_of}
use Rattle.desk_shared.proofs.putting.enter_held.Given as goal

abbrev pub ghosts-look_overweight : goal.ghosts-look_overweight
ghosts-look_overweight g a = record { mark = Overweight (now (seat_of a.held.seat.me.0)) a._entry.now.footprint a._entry.now.actions a._kept a._weight a._limit }

abbrev pub ghosts-commit_entered : goal.ghosts-commit_entered
ghosts-commit_entered g a = record { mark = Entered (now (seat_of a.held.seat.me.0)) a.entry a._looked.now (found_in a.cells.now.states.items a._looked.now) }
