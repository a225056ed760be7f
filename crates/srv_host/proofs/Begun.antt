-- Sessions that were begun, one after another.
use Rattle.std.proofs.Common.{◌≡◌, ℕ, ℤ, List, [], ◌∷◌, ◌++◌, map, Option, None, Some, refl, sym, ap, subst, ◌∙◌, append-nil}
use Rattle.atomic_table.specs.Seated.{TableId}
use Rattle.histories.specs.History.{Every}
use Rattle.journal_core.specs.declared.entry.Entry.{Entry}
use Rattle.hall_core.specs.declared.law.Law.{Ghosts}
use Rattle.pva_outside.specs.Wire.{Wire}
use Rattle.pva_wire.specs.declared.order.Order.{Order}
use Rattle.desk_api.specs.History.{History, Item}
use Rattle.desk_api.specs.declared.history.Base.{Base}
use Rattle.desk_api.specs.declared.mark.Mark.{Mark}
use Rattle.srv_host.specs.Accepts.{links_in}
use Rattle.srv_host.specs.Running.{BeginsTurn, IsBegun, IsRunning, all_serves, serves_of, wires_of}
use Rattle.srv_host.specs.declared.running.Running.{Running}
use Rattle.srv_host.specs.declared.running.Serves.{Serves}
use Rattle.srv_host.proofs.Turning.{every_snoc}

module _ {T C H S L K : Type 0} {law : Ghosts T C H Entry Base S Mark Item} (wire : L → Wire) (moment : K → Option (ℤ × ℕ)) (hall : TableId) (from : History) (clock : Option (ℤ × ℕ)) (order : Order) where
  wires_snoc : (sessions : List (Running T L K C H S law)) (one : Running T L K C H S law) → wires_of wire (sessions ++ one ∷ []) ≡ wires_of wire sessions ++ wire (serves_of one).link.value ∷ []
  wires_snoc [] one = refl
  wires_snoc (x ∷ xs) one = ap (λ (l : List Wire). wire (serves_of x).link.value ∷ l) (wires_snoc xs one)

  pub turn_wires : (turn : Option Wire) (before after : List (Running T L K C H S law)) → BeginsTurn wire moment hall from clock order turn before after → wires_of wire after ≡ wires_of wire before ++ links_in (turn ∷ [])
  turn_wires None before after same = ap (wires_of wire) same ∙ sym (append-nil (wires_of wire before))
  turn_wires (Some link) before after b = ap (wires_of wire) b.after_is ∙ (wires_snoc before b.session ∙ ap (λ (w : Wire). wires_of wire before ++ w ∷ []) b.link_is)

  pub turn_begun : (turn : Option Wire) (before after : List (Running T L K C H S law)) → BeginsTurn wire moment hall from clock order turn before after → Every (IsBegun wire moment hall from clock order) before
      → Every (IsBegun wire moment hall from clock order) after
  turn_begun None before after same all = subst (Every (IsBegun wire moment hall from clock order)) (sym same) all
  turn_begun (Some link) before after b all = subst (Every (IsBegun wire moment hall from clock order)) (sym b.after_is) (every_snoc (IsBegun wire moment hall from clock order) before b.session all b.begun)

  -- what a session was begun with
  abbrev IsMeant : Serves T L K C H S law → Type 0
  IsMeant p = (p.start.value.seat.table_id ≡ hall) × (p.start.value.seat.me.0.seen ≡ from) × (p.start.value.seat.me.0.log ≡ []) × (moment p.clock.value ≡ clock) × (p.order ≡ order)

  all_meant : (sessions : List (Running T L K C H S law)) → Every (IsBegun wire moment hall from clock order) sessions → Every IsMeant (all_serves sessions)
  all_meant [] all = tt
  all_meant (x ∷ xs) all = ((all.0.own, all.0.seen, all.0.log, all.0.clock_is, all.0.order_is), all_meant xs all.1)

  all_begun : (sessions : List (Running T L K C H S law)) → Every (IsRunning wire moment) sessions → Every IsMeant (all_serves sessions) → Every (IsBegun wire moment hall from clock order) sessions
  all_begun [] runs meant = tt
  all_begun (x ∷ xs) runs meant =
      let m = meant.0 in (record { runs = runs.0; own = m.0; seen = m.1; log = m.2; clock_is = m.3; order_is = m.4 }, all_begun xs runs.1 meant.1)

  pub all_run : (sessions : List (Running T L K C H S law)) → Every (IsBegun wire moment hall from clock order) sessions → Every (IsRunning wire moment) sessions
  all_run [] all = tt
  all_run (x ∷ xs) all = (all.0.runs, all_run xs all.1)

  -- the same sessions, of which some were joined
  pub still_begun : (before after : List (Running T L K C H S law)) → all_serves after ≡ all_serves before → Every (IsRunning wire moment) after → Every (IsBegun wire moment hall from clock order) before
      → Every (IsBegun wire moment hall from clock order) after
  still_begun before after same runs all = all_begun after runs (subst (Every IsMeant) (sym same) (all_meant before all))

module _ {T C H S L K : Type 0} {law : Ghosts T C H Entry Base S Mark Item} (wire : L → Wire) where
  wires_meant : (sessions : List (Running T L K C H S law)) → wires_of wire sessions ≡ map (λ (p : Serves T L K C H S law). wire p.link.value) (all_serves sessions)
  wires_meant [] = refl
  wires_meant (x ∷ xs) = ap (λ (l : List Wire). wire (serves_of x).link.value ∷ l) (wires_meant xs)

  pub same_wires : (before after : List (Running T L K C H S law)) → all_serves after ≡ all_serves before → wires_of wire after ≡ wires_of wire before
  same_wires before after same = wires_meant after ∙ (ap (map (λ (p : Serves T L K C H S law). wire p.link.value)) same ∙ sym (wires_meant before))
