use Rattle.std.proofs.Common.{◌∙◌, ◌||◌, ◌&&◌, Bool, ap, eqb}
use Rattle.mon_shown.proofs.Listing.{ok_map, err_map}
use Rattle.mon_shown.proofs.index.Index.add.Goals as goal

pub returns-clause-ok : goal.returns-clause-ok
returns-clause-ok c = ok_map c.add_at.result (λ h r s. h r s ∙ ap (λ (b : Bool). b || (eqb r c.args.rec && eqb s c.args.slot)) (c.widen.ensures.same r s)) c.add_at.ensures.ok

pub returns-clause-err : goal.returns-clause-err
returns-clause-err c = err_map c.add_at.result (λ h r s. h r s ∙ c.widen.ensures.same r s) c.add_at.ensures.err
