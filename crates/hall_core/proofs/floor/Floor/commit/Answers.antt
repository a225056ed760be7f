use Rattle.std.proofs.Common.{rules, ◌≡◌, ℕ, List, Option, Some, None, true, false, ◌∙◌, refl, sym, subst, ap, length, slice_get}
use Rattle.histories.specs.History.{Every}
use Rattle.hall_core.specs.Floor.{FloorState, written}
use Rattle.hall_core.proofs.Floors.{disabled_commit, enabled_commit, held_inside, length_written}
use Rattle.hall_core.proofs.floor.Floor.commit.Goals as goal

pub returns-then-not-holds_all : goal.returns-then-not-holds_all
returns-then-not-holds_all g c =
    let now : c.as_slice.result.now ≡ c.args.self.now.holders = c.as_slice.ensures.value ∙ ap (λ (f : FloorState g.row.T-Cell.Denot g.row.T-Hub.Denot). f.holders) c.self.view_is in
    let writes : c.as_slice-2.result.now ≡ c.args.next.writes.items = c.as_slice-2.ensures.value in (
      disabled_commit _ _ _ _ _ _ _ g.T.Law.meaning c.args.self.now c.args.actor c.args.next.hub c.args.next.writes.items c.requires (λ all.
          let no : false ≡ true = c.if-not-holds_all.ensures.1 (subst (λ (z : List (Option ℕ) × List (ℕ × g.row.T-Cell.Denot)). Every (λ w. slice_get z.0 w.0 ≡ Some (Some c.args.actor)) z.1) (λ i. (sym now i, sym writes i)) all) in
          absurd (cc no)),
      refl,
    )

pub write_all-requires : goal.write_all-requires
write_all-requires g c = held_inside c.self.inside.holders.items c.args.actor _ c.args.next.writes.items c.self.invariant
    (subst (λ (z : List (Option ℕ) × List (ℕ × g.row.T-Cell.Denot)). Every (λ w. slice_get z.0 w.0 ≡ Some (Some c.args.actor)) z.1) (λ i. (c.as_slice.ensures.value i, c.as_slice-2.ensures.value i)) (c.if-not-holds_all.ensures.0 refl))

pub invariant_of-self : goal.invariant_of-self
invariant_of-self g c = c.self.invariant ∙ sym (ap length c.write_all.ensures ∙ length_written c.self.inside.cells.items c.args.next.writes.items)

pub returns : goal.returns
returns g c =
    let cells : c.self.inside.cells.items ≡ c.args.self.now.cells = ap (λ (f : FloorState g.row.T-Cell.Denot g.row.T-Hub.Denot). f.cells) c.self.view_is in
    let holders : c.self.inside.holders.items ≡ c.args.self.now.holders = ap (λ (f : FloorState g.row.T-Cell.Denot g.row.T-Hub.Denot). f.holders) c.self.view_is in
    let held : c.args.self.now.hub_holder ≡ Some c.args.actor = search rules in
    let found : c.as_slice.result.now ≡ c.args.self.now.holders = c.as_slice.ensures.value ∙ holders in
    let writes : c.as_slice-2.result.now ≡ c.args.next.writes.items = c.as_slice-2.ensures.value in
    let now : c.write_all.new.cells.items ≡ written c.args.self.now.cells c.args.next.writes.items = c.write_all.ensures ∙ ap (λ l. written l c.args.next.writes.items) cells in (
      enabled_commit _ _ _ _ _ _ _ g.T.Law.meaning c.args.self.now c.args.actor c.args.next.hub c.args.next.writes.items c.requires held
          (subst (λ (z : List (Option ℕ) × List (ℕ × g.row.T-Cell.Denot)). Every (λ w. slice_get z.0 w.0 ≡ Some (Some c.args.actor)) z.1) (λ i. (found i, writes i)) (c.if-not-holds_all.ensures.0 refl)),
      λ i. record { cells = now i; holders = holders i; hub = c.args.next.hub; hub_holder = None },
    )
