use Rattle.std.proofs.Common.{ap}
use Rattle.desk_api.specs.History.{History}
use Rattle.desk_core.proofs.Keeping.{popped_calls, popped_ends, popped_fits, popped_kept, popped_legal, popped_seen, popped_stands}
use Rattle.desk_core.proofs.solo.SoloDeskDesk.pop.Goals as goal

pub invariant_of-self : goal.invariant_of-self
invariant_of-self g c =
    let d = c.args.self.now in
    let slot = c.args.sub.now.slot in
    let update = c.pop-update.result in record {
      stands = popped_stands d.subs c.pop-update.new.subs slot update c.pop-update.ensures.pops d.log c.note_popped.new.log d.keeps c.requires d.legal c.note_popped.ensures d.stands;
      legal = popped_legal d.subs c.pop-update.new.subs slot update c.pop-update.ensures.pops d.log c.note_popped.new.log d.keeps c.requires d.legal c.note_popped.ensures;
      valid = d.valid;
      ported = d.ported;
      keeps = popped_kept d.subs c.pop-update.new.subs slot update c.pop-update.ensures.pops d.log c.note_popped.new.log d.keeps c.requires d.legal c.note_popped.ensures;
    }

pub returns-clause-calls : goal.returns-clause-calls
returns-clause-calls g c =
    let d = c.args.self.now in
    popped_calls d.subs c.pop-update.new.subs c.args.sub.now.slot c.pop-update.result c.pop-update.ensures.pops d.log c.note_popped.new.log d.keeps c.requires d.legal c.note_popped.ensures

pub returns-clause-ends : goal.returns-clause-ends
returns-clause-ends g c =
    let d = c.args.self.now in
    popped_ends d.subs c.pop-update.new.subs c.args.sub.now.slot c.pop-update.result c.pop-update.ensures.pops d.log c.note_popped.new.log d.keeps c.requires d.legal c.note_popped.ensures

pub returns-clause-fits : goal.returns-clause-fits
returns-clause-fits g c =
    let d = c.args.self.now in
    popped_fits c.logs_tell_slots.ensures.typed d.subs c.args.sub.now.slot d.log d.keeps c.pop-update.result c.pop-update.ensures.fits

pub returns-clause-seen : goal.returns-clause-seen
returns-clause-seen g c =
    let d = c.args.self.now in
    popped_seen d.subs c.pop-update.new.subs c.args.sub.now.slot c.pop-update.result c.pop-update.ensures.pops d.log c.note_popped.new.log d.keeps c.requires d.legal c.note_popped.ensures

pub returns-clause-base : goal.returns-clause-base
returns-clause-base g c =
    let d = c.args.self.now in
    ap (λ (h : History). h.base) (popped_seen d.subs c.pop-update.new.subs c.args.sub.now.slot c.pop-update.result c.pop-update.ensures.pops d.log c.note_popped.new.log d.keeps c.requires d.legal c.note_popped.ensures)
