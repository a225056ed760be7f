use Rattle.std.proofs.Common.{◌∙◌, ◌||◌, ◌&&◌, Bool, sym, ap, eqb}
use Rattle.mon_shown.specs.Noting.{names}
use Rattle.mon_shown.proofs.Listing.{ok_map, or_false}
use Rattle.mon_shown.proofs.slots.add_if.Goals as goal

pub returns-then-wanted-clause-ok : goal.returns-then-wanted-clause-ok
returns-then-wanted-clause-ok c =
    ok_map c.add.result (λ h r s. h r s ∙ ap (λ (b : Bool). names c.args.index.now r s || (b && (eqb r c.args.rec && eqb s c.args.slot))) (sym c.if-wanted.true)) c.add.ensures.ok

pub returns-clause-ok : goal.returns-clause-ok
returns-clause-ok c = λ r s.
    sym (ap (λ (b : Bool). names c.args.index.now r s || (b && (eqb r c.args.rec && eqb s c.args.slot))) c.if-wanted.false ∙ or_false (names c.args.index.now r s))
