use Rattle.std.proofs.Common.{ap}
use Rattle.desk_api.specs.declared.history.Base.{Base}
use Rattle.desk_core.proofs.Keeping.{ended_base, ended_calls, ended_ends, ended_kept, ended_legal, ended_rolled, ended_stands, kept_stand}
use Rattle.desk_core.proofs.solo.SoloDeskDesk.unsubscribe.Goals as goal

pub end-requires : goal.end-requires
end-requires g c =
    let d = c.args.self.now in
    kept_stand d.terms.site d.subs d.log (ap (λ (b : Base). b.site) d.stands.base_is) d.keeps

pub invariant_of-self : goal.invariant_of-self
invariant_of-self g c =
    let d = c.args.self.now in
    let site_is = ap (λ (b : Base). b.site) d.stands.base_is in record {
      stands = ended_stands d.terms.site d.subs c.end.new.subs c.args.sub.slot c.end.ensures.ends d.log c.note_dropped.new.log site_is d.keeps c.requires d.legal c.note_dropped.ensures d.stands;
      legal = ended_legal d.terms.site d.subs c.end.new.subs c.args.sub.slot c.end.ensures.ends d.log c.note_dropped.new.log site_is d.keeps c.requires d.legal c.note_dropped.ensures;
      valid = d.valid;
      ported = d.ported;
      keeps = ended_kept d.terms.site d.subs c.end.new.subs c.args.sub.slot c.end.ensures.ends d.log c.note_dropped.new.log site_is d.keeps c.requires d.legal c.note_dropped.ensures;
    }

pub returns-clause-calls : goal.returns-clause-calls
returns-clause-calls g c =
    let d = c.args.self.now in
    ended_calls d.terms.site d.subs c.end.new.subs c.args.sub.slot c.end.ensures.ends d.log c.note_dropped.new.log (ap (λ (b : Base). b.site) d.stands.base_is) d.keeps c.requires d.legal c.note_dropped.ensures

pub returns-clause-ends : goal.returns-clause-ends
returns-clause-ends g c =
    let d = c.args.self.now in
    ended_ends d.terms.site d.subs c.end.new.subs c.args.sub.slot c.end.ensures.ends d.log c.note_dropped.new.log (ap (λ (b : Base). b.site) d.stands.base_is) d.keeps c.requires d.legal c.note_dropped.ensures

pub returns-clause-base : goal.returns-clause-base
returns-clause-base g c =
    let d = c.args.self.now in
    ended_base d.terms.site d.subs c.end.new.subs c.args.sub.slot c.end.ensures.ends d.log c.note_dropped.new.log (ap (λ (b : Base). b.site) d.stands.base_is) d.keeps c.requires d.legal c.note_dropped.ensures

pub returns-clause-rolled : goal.returns-clause-rolled
returns-clause-rolled g c =
    let d = c.args.self.now in
    ended_rolled d.terms.site d.subs c.end.new.subs c.args.sub.slot c.end.ensures.ends d.log c.note_dropped.new.log (ap (λ (b : Base). b.site) d.stands.base_is) d.keeps c.requires d.legal c.note_dropped.ensures
