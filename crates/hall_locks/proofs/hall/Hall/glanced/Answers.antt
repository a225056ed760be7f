use Rattle.std.proofs.Common.{◌≡◌, ◌+◌, ◌∙◌, ap}
use Rattle.hall_locks.specs.Hall.{grown, deed_of, cells_after}
use Rattle.hall_locks.specs.Hands.{values_of, looked_at}
use Rattle.hall_locks.proofs.CellByCell.{cells_of_slots}
use Rattle.hall_locks.proofs.HubByHub.{carries_glanced, hub_there, look_gives, looked, look_cells}
use Rattle.hall_locks.proofs.hall.Hall.glanced.Goals as goal

pub give_hub_word-requires-clause-may : goal.give_hub_word-requires-clause-may
give_hub_word-requires-clause-may g c =
    let x = c.args.glance in
    let may = c.requires.may in
    (may.0, hub_there _ _ _ _ _ _ _ g.T.Law.meaning x.seat.me x.footprint.items may.0 x.glances may.1, look_gives _ _ _ _ _ _ _ g.T.Law.meaning x.seat.me.0 may.0 x.cells.items g.M.MarkOf.mark may.2)

pub give_all-requires-clause-carries : goal.give_all-requires-clause-carries
give_all-requires-clause-carries g c =
    let x = c.args.glance in
    let may = c.requires.may in
    carries_glanced _ _ _ _ _ _ _ g.T.Law.meaning x.seat.me c.give_hub_word.new.seat.me may.0 g.M.MarkOf.mark x.footprint.items x.glances may.1
    (c.give_hub_word.ensures.given may.0 (hub_there _ _ _ _ _ _ _ g.T.Law.meaning x.seat.me x.footprint.items may.0 x.glances may.1))

pub give_all-requires-clause-inside : goal.give_all-requires-clause-inside
give_all-requires-clause-inside g c =
    let wide = c.args.self.now.wide in
    let slots : c.args.glance.seat.table_id.slots ≡ c.args.self.now.count + 1 = ap (λ t. t.slots) c.requires.own ∙ wide.1 in
    cells_of_slots c.args.glance.footprint.items c.args.self.now.count c.args.glance.seat.table_id.slots slots c.args.glance.slots

pub give_all-requires-clause-taken : goal.give_all-requires-clause-taken
give_all-requires-clause-taken g c =
    let x = c.args.glance in
    let v = x.seat.me.0 in
    let may = c.requires.may in
    let mark = g.M.MarkOf.mark in
    let given = c.give_hub_word.ensures.given may.0 (hub_there _ _ _ _ _ _ _ g.T.Law.meaning x.seat.me x.footprint.items may.0 x.glances may.1) in
    let deed : deed_of g.T.Law.meaning mark may.0 ≡ looked_at g.T.Law.meaning mark = looked _ _ _ _ _ _ _ g.T.Law.meaning may.0 mark may.2.adds in
    ap (λ m. values_of m.0.cells) given
    ∙ (ap (λ d. values_of (cells_after g.T.Law.meaning (grown v.seen v.number d) d v.cells)) deed
    ∙ (ap values_of (look_cells _ _ _ _ _ _ _ g.T.Law.meaning mark (grown v.seen v.number (looked_at g.T.Law.meaning mark)) v.cells) ∙ may.2.taken))

pub returns-clause-seen : goal.returns-clause-seen
returns-clause-seen g c =
    let x = c.args.glance in
    let v = x.seat.me.0 in
    let may = c.requires.may in
    let given = c.give_hub_word.ensures.given may.0 (hub_there _ _ _ _ _ _ _ g.T.Law.meaning x.seat.me x.footprint.items may.0 x.glances may.1) in
    ap (λ w. w.seen) c.give_all.ensures.same ∙ (ap (λ m. m.0.seen) given ∙ ap (λ d. grown v.seen v.number d) (looked _ _ _ _ _ _ _ g.T.Law.meaning may.0 g.M.MarkOf.mark may.2.adds))

pub returns-clause-log : goal.returns-clause-log
returns-clause-log g c =
    let x = c.args.glance in
    let may = c.requires.may in
    let given = c.give_hub_word.ensures.given may.0 (hub_there _ _ _ _ _ _ _ g.T.Law.meaning x.seat.me x.footprint.items may.0 x.glances may.1) in
    ap (λ w. w.log) c.give_all.ensures.same ∙ ap (λ m. m.0.log) given

pub returns-clause-number : goal.returns-clause-number
returns-clause-number g c =
    let x = c.args.glance in
    let may = c.requires.may in
    let given = c.give_hub_word.ensures.given may.0 (hub_there _ _ _ _ _ _ _ g.T.Law.meaning x.seat.me x.footprint.items may.0 x.glances may.1) in
    ap (λ w. w.number) c.give_all.ensures.same ∙ ap (λ m. m.0.number) given

pub returns-clause-others : goal.returns-clause-others
returns-clause-others g c =
    let x = c.args.glance in
    let may = c.requires.may in
    let given = c.give_hub_word.ensures.given may.0 (hub_there _ _ _ _ _ _ _ g.T.Law.meaning x.seat.me x.footprint.items may.0 x.glances may.1) in
    ap (λ w. w.others) c.give_all.ensures.same ∙ ap (λ m. m.0.others) given
