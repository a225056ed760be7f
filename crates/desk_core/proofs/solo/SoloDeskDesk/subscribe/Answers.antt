use Rattle.std.proofs.Common.{sym, subst, ap, ◌∙◌}
use Rattle.std.specs.FinSet.{FinSet}
use Rattle.std.specs.Ordering.{nat_cmp}
use Rattle.journal_core.specs.Legality.{AreValid}
use Rattle.desk_api.specs.History.{History, IsLegal}
use Rattle.desk_api.specs.Triggers.{may_be_watched}
use Rattle.desk_api.specs.Types.{HoldsLeaves, type_of}
use Rattle.desk_api.specs.declared.history.Base.{Base}
use Rattle.desk_core.proofs.Keeping.{begun_base, begun_calls, begun_ends, begun_kept, begun_legal, begun_rolled, begun_stands, kept_stand, left_calls, left_ends, left_kept, left_rolled, left_seen, left_stands, stand_there, unbegun_calls}
use Rattle.desk_core.proofs.solo.SoloDeskDesk.subscribe.Goals as goal

pub begin-requires-clause-stand : goal.begin-requires-clause-stand
begin-requires-clause-stand g c =
    let d = c.args.self.now in
    kept_stand d.terms.site d.subs d.log (ap (λ (b : Base). b.site) d.stands.base_is) d.keeps

pub begin-requires-clause-is_of : goal.begin-requires-clause-is_of
begin-requires-clause-is_of g c = (c.in-Ok-ready.ensures {u = tt}).is_of

pub ready-requires-clause-channel : goal.ready-requires-clause-channel
ready-requires-clause-channel g c =
    let d = c.args.self.now in
    ap (λ (b : Base). may_be_watched b.site c.args.channel) (sym d.stands.base_is) ∙ c.requires.channel

pub ready-requires-clause-leaves : goal.ready-requires-clause-leaves
ready-requires-clause-leaves g c =
    let d = c.args.self.now in
    subst (λ (m : FinSet nat_cmp). HoldsLeaves (type_of d.terms.site c.args.channel) m) (sym (c.in-Ok.ensures {u = tt}))
    (subst (λ (b : Base). HoldsLeaves (type_of b.site c.args.channel) c.args.mask.now) d.stands.base_is c.requires.leaves)

pub ready-requires-clause-valid : goal.ready-requires-clause-valid
ready-requires-clause-valid g c = let d = c.args.self.now in subst (AreValid d.terms.site.configs) (sym c.as_slice-cells.ensures.value) d.valid

pub ready-requires-clause-size : goal.ready-requires-clause-size
ready-requires-clause-size g c = c.requires.size

pub returns-in_default-clause-calls : goal.returns-in_default-clause-calls
returns-in_default-clause-calls g c = unbegun_calls c.args.self.now.log c.args.self.now.legal c.args.channel c.args.mask.now c.args.size

pub returns-in_default-ready-clause-calls : goal.returns-in_default-ready-clause-calls
returns-in_default-ready-clause-calls g c = unbegun_calls c.args.self.now.log c.args.self.now.legal c.args.channel c.args.mask.now c.args.size

pub invariant_of-self : goal.invariant_of-self
invariant_of-self g c = let d = c.args.self.now in record { stands = d.stands; legal = d.legal; valid = d.valid; ported = d.ported; keeps = d.keeps }

pub invariant_of-self-in-Ok-begin : goal.invariant_of-self-in-Ok-begin
invariant_of-self-in-Ok-begin g c =
    let d = c.args.self.now in record {
      stands = begun_stands d.terms.site d.subs c.begin.new.subs c.in-Ok-begin.slot c.args.channel _ c.args.size _ ((c.in-Ok-begin.ensures {u = tt}).starts c.args.channel _ c.args.size _ c.requires.size (c.in-Ok-ready.ensures {u = tt})) c.args.mask.now (c.in-Ok.ensures {u = tt}) d.log c.note_begun.new.log (ap (λ (b : Base). b.site) d.stands.base_is) d.keeps (c.as_slice-cells.ensures.value ∙ d.stands.cells_are) d.legal c.note_begun.ensures d.stands;
      legal = begun_legal d.terms.site d.subs c.begin.new.subs c.in-Ok-begin.slot c.args.channel _ c.args.size _ ((c.in-Ok-begin.ensures {u = tt}).starts c.args.channel _ c.args.size _ c.requires.size (c.in-Ok-ready.ensures {u = tt})) c.args.mask.now (c.in-Ok.ensures {u = tt}) d.log c.note_begun.new.log (ap (λ (b : Base). b.site) d.stands.base_is) d.keeps (c.as_slice-cells.ensures.value ∙ d.stands.cells_are) d.legal c.note_begun.ensures;
      valid = d.valid;
      ported = d.ported;
      keeps = begun_kept d.terms.site d.subs c.begin.new.subs c.in-Ok-begin.slot c.args.channel _ c.args.size _ ((c.in-Ok-begin.ensures {u = tt}).starts c.args.channel _ c.args.size _ c.requires.size (c.in-Ok-ready.ensures {u = tt})) c.args.mask.now (c.in-Ok.ensures {u = tt}) d.log c.note_begun.new.log (ap (λ (b : Base). b.site) d.stands.base_is) d.keeps (c.as_slice-cells.ensures.value ∙ d.stands.cells_are) d.legal c.note_begun.ensures;
    }

pub returns-in-Ok-begin-clause-calls : goal.returns-in-Ok-begin-clause-calls
returns-in-Ok-begin-clause-calls g c = let d = c.args.self.now in begun_calls d.terms.site d.subs c.begin.new.subs c.in-Ok-begin.slot c.args.channel _ c.args.size _ ((c.in-Ok-begin.ensures {u = tt}).starts c.args.channel _ c.args.size _ c.requires.size (c.in-Ok-ready.ensures {u = tt})) c.args.mask.now (c.in-Ok.ensures {u = tt}) d.log c.note_begun.new.log (ap (λ (b : Base). b.site) d.stands.base_is) d.keeps (c.as_slice-cells.ensures.value ∙ d.stands.cells_are) d.legal c.note_begun.ensures

pub returns-in-Ok-begin-clause-ends : goal.returns-in-Ok-begin-clause-ends
returns-in-Ok-begin-clause-ends g c = let d = c.args.self.now in begun_ends d.terms.site d.subs c.begin.new.subs c.in-Ok-begin.slot c.args.channel _ c.args.size _ ((c.in-Ok-begin.ensures {u = tt}).starts c.args.channel _ c.args.size _ c.requires.size (c.in-Ok-ready.ensures {u = tt})) c.args.mask.now (c.in-Ok.ensures {u = tt}) d.log c.note_begun.new.log (ap (λ (b : Base). b.site) d.stands.base_is) d.keeps (c.as_slice-cells.ensures.value ∙ d.stands.cells_are) d.legal c.note_begun.ensures

pub returns-in-Ok-begin-clause-rolled : goal.returns-in-Ok-begin-clause-rolled
returns-in-Ok-begin-clause-rolled g c = let d = c.args.self.now in begun_rolled d.terms.site d.subs c.begin.new.subs c.in-Ok-begin.slot c.args.channel _ c.args.size _ ((c.in-Ok-begin.ensures {u = tt}).starts c.args.channel _ c.args.size _ c.requires.size (c.in-Ok-ready.ensures {u = tt})) c.args.mask.now (c.in-Ok.ensures {u = tt}) d.log c.note_begun.new.log (ap (λ (b : Base). b.site) d.stands.base_is) d.keeps (c.as_slice-cells.ensures.value ∙ d.stands.cells_are) d.legal c.note_begun.ensures

pub returns-in-Ok-begin-clause-base : goal.returns-in-Ok-begin-clause-base
returns-in-Ok-begin-clause-base g c = let d = c.args.self.now in begun_base d.terms.site d.subs c.begin.new.subs c.in-Ok-begin.slot c.args.channel _ c.args.size _ ((c.in-Ok-begin.ensures {u = tt}).starts c.args.channel _ c.args.size _ c.requires.size (c.in-Ok-ready.ensures {u = tt})) c.args.mask.now (c.in-Ok.ensures {u = tt}) d.log c.note_begun.new.log (ap (λ (b : Base). b.site) d.stands.base_is) d.keeps (c.as_slice-cells.ensures.value ∙ d.stands.cells_are) d.legal c.note_begun.ensures

pub invariant_of-self-in-Err : goal.invariant_of-self-in-Err
invariant_of-self-in-Err g c =
    let d = c.args.self.now in record {
      stands = left_stands c.marks_keep.ensures d.subs c.begin.new.subs d.log c.not_begun.new.log d.keeps (stand_there d.terms.site c.begin.new.subs d.log (ap (λ (b : Base). b.site) d.stands.base_is) (c.in-Err.ensures {u = tt}).stand) d.legal d.stands c.in-Err.cause c.not_begun.result c.not_begun.ensures;
      legal = subst IsLegal (sym (left_seen c.marks_keep.ensures d.subs c.begin.new.subs d.log c.not_begun.new.log d.keeps (stand_there d.terms.site c.begin.new.subs d.log (ap (λ (b : Base). b.site) d.stands.base_is) (c.in-Err.ensures {u = tt}).stand) d.legal c.in-Err.cause c.not_begun.result c.not_begun.ensures)) d.legal;
      valid = d.valid;
      ported = d.ported;
      keeps = left_kept c.marks_keep.ensures d.subs c.begin.new.subs d.log c.not_begun.new.log d.keeps (stand_there d.terms.site c.begin.new.subs d.log (ap (λ (b : Base). b.site) d.stands.base_is) (c.in-Err.ensures {u = tt}).stand) d.legal c.in-Err.cause c.not_begun.result (c.in-Err.ensures {u = tt}).starts_not c.not_begun.ensures;
    }

pub returns-in-Err-clause-calls : goal.returns-in-Err-clause-calls
returns-in-Err-clause-calls g c = let d = c.args.self.now in left_calls c.marks_keep.ensures d.subs c.begin.new.subs d.log c.not_begun.new.log d.keeps (stand_there d.terms.site c.begin.new.subs d.log (ap (λ (b : Base). b.site) d.stands.base_is) (c.in-Err.ensures {u = tt}).stand) d.legal c.args.channel c.args.mask.now c.args.size c.in-Err.cause c.not_begun.result (c.in-Err.ensures {u = tt}).starts_not c.not_begun.ensures

pub returns-in-Err-clause-ends : goal.returns-in-Err-clause-ends
returns-in-Err-clause-ends g c = let d = c.args.self.now in left_ends c.marks_keep.ensures d.subs c.begin.new.subs d.log c.not_begun.new.log d.keeps (stand_there d.terms.site c.begin.new.subs d.log (ap (λ (b : Base). b.site) d.stands.base_is) (c.in-Err.ensures {u = tt}).stand) d.legal c.in-Err.cause c.not_begun.result c.not_begun.ensures

pub returns-in-Err-clause-base : goal.returns-in-Err-clause-base
returns-in-Err-clause-base g c = let d = c.args.self.now in ap (λ (h : History). h.base) (left_seen c.marks_keep.ensures d.subs c.begin.new.subs d.log c.not_begun.new.log d.keeps (stand_there d.terms.site c.begin.new.subs d.log (ap (λ (b : Base). b.site) d.stands.base_is) (c.in-Err.ensures {u = tt}).stand) d.legal c.in-Err.cause c.not_begun.result c.not_begun.ensures)

pub returns-in-Err-clause-rolled : goal.returns-in-Err-clause-rolled
returns-in-Err-clause-rolled g c = let d = c.args.self.now in left_rolled c.marks_keep.ensures d.subs c.begin.new.subs d.log c.not_begun.new.log d.keeps (stand_there d.terms.site c.begin.new.subs d.log (ap (λ (b : Base). b.site) d.stands.base_is) (c.in-Err.ensures {u = tt}).stand) d.legal c.in-Err.cause c.not_begun.result c.not_begun.ensures
