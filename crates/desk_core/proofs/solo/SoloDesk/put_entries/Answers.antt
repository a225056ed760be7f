use Rattle.std.proofs.Common.{Bool, Ok, Err, refl, sym, subst}
use Rattle.desk_api.specs.Puts.{entries_by}
use Rattle.desk_core.specs.Begun.{ArePutInTurn}
use Rattle.desk_core.specs.Desks.{ports_of}
use Rattle.desk_core.proofs.Beginning.{whole_put, whole_ends}
use Rattle.desk_core.proofs.solo.SoloDesk.put_entries.Goals as goal

pub returns-in-Ok-clause-put : goal.returns-in-Ok-clause-put
returns-in-Ok-clause-put g c =
    let d = c.args.self.now in
    let old = ports_of g.P.Port.port d in
    let new = ports_of g.P.Port.port c.put_entry.new.self in
    subst (λ (whole : Bool). ArePutInTurn d.terms.site c.args.moment (entries_by whole c.args.actions.items) d.log c.put_entry.new.self.log old new (Ok (record { first = c.in-Ok.first; count = 1 }))) (sym c.if-not-whole.false)
    (whole_put d.terms.site c.args.moment c.args.actions.items d.log c.put_entry.new.self.log old new c.in-Ok.first d.legal (c.in-Ok.ensures {u = tt}).put _ refl)

pub returns-in-Err-clause-put : goal.returns-in-Err-clause-put
returns-in-Err-clause-put g c =
    let d = c.args.self.now in
    let old = ports_of g.P.Port.port d in
    let new = ports_of g.P.Port.port c.put_entry.new.self in
    subst (λ (whole : Bool). ArePutInTurn d.terms.site c.args.moment (entries_by whole c.args.actions.items) d.log c.put_entry.new.self.log old new (Err c.in-Err.answer)) (sym c.if-not-whole.false)
    (whole_ends d.terms.site c.args.moment c.args.actions.items d.log c.put_entry.new.self.log old new d.legal c.in-Err.answer (c.in-Err.ensures {u = tt}).put)
