-- What callers cite of a pass, of a visit, of a visit with the hub in hand, and of one that looks at the hub: of which
-- hall it is, and what its seat knows.
use Rattle.std.specs.Prelude.{ℕ, List}
use Rattle.atomic_table.specs.Seated.{TableId}
use Rattle.histories.specs.declared.story.Story.{Story}
use Rattle.hall_core.specs.declared.law.Law.{Ghosts}
use Rattle.hall_locks.specs.declared.view.View.{View}
use Rattle.hall_locks.specs.declared.hall.Hall.{Hall}
use Rattle.hall_locks.specs.declared.pass.Pass.{Pass}
use Rattle.hall_locks.specs.declared.visit.Visit.{Visit}
use Rattle.hall_locks.specs.declared.held.Held.{Held}
use Rattle.hall_locks.specs.declared.glance.Glance.{Glance}

abbrev pub hall_id : {T C H E B S M R : Type 0} → Hall T C H E B S M R → TableId
hall_id hall = hall.table.shared.table_id

module _ {T C H E B S M R : Type 0} {law : Ghosts T C H E B S M R} where
  -- of a pass: its hall, what it knows, its number, the history as far as it has seen it, its log, and the logs that it
  -- took in, each with the number of its seat
  abbrev pub pass_hall : Pass T C H E B S M R law → TableId
  pass_hall pass = pass.seat.table_id

  abbrev pub pass_view : Pass T C H E B S M R law → View H E B M R S
  pass_view pass = pass.seat.me.0

  abbrev pub pass_number : Pass T C H E B S M R law → ℕ
  pass_number pass = pass.seat.me.0.number

  abbrev pub pass_seen : Pass T C H E B S M R law → Story B E R
  pass_seen pass = pass.seat.me.0.seen

  abbrev pub pass_log : Pass T C H E B S M R law → List M
  pass_log pass = pass.seat.me.0.log

  abbrev pub pass_others : Pass T C H E B S M R law → List (ℕ × List M)
  pass_others pass = pass.seat.me.0.others

  -- the same of a visit
  abbrev pub visit_hall : Visit T C H E B S M R law → TableId
  visit_hall visit = visit.seat.table_id

  abbrev pub visit_view : Visit T C H E B S M R law → View H E B M R S
  visit_view visit = visit.seat.me.0

  abbrev pub visit_number : Visit T C H E B S M R law → ℕ
  visit_number visit = visit.seat.me.0.number

  abbrev pub visit_seen : Visit T C H E B S M R law → Story B E R
  visit_seen visit = visit.seat.me.0.seen

  abbrev pub visit_log : Visit T C H E B S M R law → List M
  visit_log visit = visit.seat.me.0.log

  abbrev pub visit_others : Visit T C H E B S M R law → List (ℕ × List M)
  visit_others visit = visit.seat.me.0.others

  -- and of a visit with the hub in hand
  abbrev pub held_hall : Held T C H E B S M R law → TableId
  held_hall held = held.seat.table_id

  abbrev pub held_view : Held T C H E B S M R law → View H E B M R S
  held_view held = held.seat.me.0

  abbrev pub held_number : Held T C H E B S M R law → ℕ
  held_number held = held.seat.me.0.number

  abbrev pub held_seen : Held T C H E B S M R law → Story B E R
  held_seen held = held.seat.me.0.seen

  abbrev pub held_log : Held T C H E B S M R law → List M
  held_log held = held.seat.me.0.log

  abbrev pub held_others : Held T C H E B S M R law → List (ℕ × List M)
  held_others held = held.seat.me.0.others

  -- and of one that looks at the hub
  abbrev pub glance_hall : Glance T C H E B S M R law → TableId
  glance_hall glance = glance.seat.table_id

  abbrev pub glance_view : Glance T C H E B S M R law → View H E B M R S
  glance_view glance = glance.seat.me.0

  abbrev pub glance_number : Glance T C H E B S M R law → ℕ
  glance_number glance = glance.seat.me.0.number

  abbrev pub glance_seen : Glance T C H E B S M R law → Story B E R
  glance_seen glance = glance.seat.me.0.seen

  abbrev pub glance_log : Glance T C H E B S M R law → List M
  glance_log glance = glance.seat.me.0.log

  abbrev pub glance_others : Glance T C H E B S M R law → List (ℕ × List M)
  glance_others glance = glance.seat.me.0.others
