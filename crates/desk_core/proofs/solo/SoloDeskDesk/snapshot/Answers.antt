use Rattle.std.proofs.Common.{◌≡◌, List, None, Global, length, sym, subst, ap, ◌∙◌}
use Rattle.rec_kinds.specs.declared.state.RecState.{RecState}
use Rattle.desk_api.specs.Calls.{looks_of, rows_shown}
use Rattle.desk_api.specs.Sites.{channel_of}
use Rattle.desk_api.specs.declared.channel.Channel.{Channel}
use Rattle.desk_api.specs.declared.channel.ChannelKind.TheVariants.{Service}
use Rattle.desk_core.specs.Looking.{looked_by}
use Rattle.desk_core.specs.Standing.{base_of}
use Rattle.desk_core.proofs.Keeping.{Kept, looks_kept}
use Rattle.desk_core.proofs.Listing.{valid_count}
use Rattle.desk_core.proofs.Reading.{get_ends, get_legal, get_stands, no_snapshot, snapshots}
use Rattle.desk_core.proofs.solo.SoloDeskDesk.snapshot.Goals as goal

abbrev service : Channel
service = channel_of Service 0

pub rows-requires : goal.rows-requires
rows-requires g c = ap length c.as_slice-cells.ensures.value ∙ sym (valid_count _ _ c.args.self.now.valid) ∙ sym c.names_and_configs.ensures.same

pub returns-in_default-clause-calls : goal.returns-in_default-clause-calls
returns-in_default-clause-calls g c = no_snapshot Global c.args.self.now.log.seen.base.site c.args.self.now.log c.args.self.now.legal _

pub returns-clause-calls : goal.returns-clause-calls
returns-clause-calls g c =
    let d = c.args.self.now in
    let noted = c.note_looks.ensures ∙ ap (λ (l : List RecState). looked_by service l d.log (looks_of d.terms.site service None)) c.as_slice-cells.ensures.value in
    snapshots (base_of d.terms) d.cells.states.items d.history d.log c.note_looks.new.log d.stands d.legal noted (sym (valid_count _ _ d.valid) ∙ sym c.names_and_configs.ensures.same)
    c.in-Ok.rows ((c.in-Ok.ensures {u = tt}) ∙ ap (rows_shown d.terms.site.names) c.as_slice-cells.ensures.value)

pub returns-clause-ends : goal.returns-clause-ends
returns-clause-ends g c =
    let d = c.args.self.now in
    let noted = c.note_looks.ensures ∙ ap (λ (l : List RecState). looked_by service l d.log (looks_of d.terms.site service None)) c.as_slice-cells.ensures.value in
    get_ends (base_of d.terms) d.cells.states.items d.history service None d.log c.note_looks.new.log d.stands d.legal noted

pub invariant_of-self : goal.invariant_of-self
invariant_of-self g c = let d = c.args.self.now in record { stands = d.stands; legal = d.legal; valid = d.valid; ported = d.ported; keeps = d.keeps }

pub invariant_of-self-2 : goal.invariant_of-self-2
invariant_of-self-2 g c =
    let d = c.args.self.now in
    let noted = c.note_looks.ensures ∙ ap (λ (l : List RecState). looked_by service l d.log (looks_of d.terms.site service None)) c.as_slice-cells.ensures.value in record {
      stands = get_stands (base_of d.terms) d.cells.states.items d.history service None d.log c.note_looks.new.log d.stands d.legal noted;
      legal = get_legal (base_of d.terms) d.cells.states.items d.history service None d.log c.note_looks.new.log d.stands d.legal noted;
      valid = d.valid;
      ported = d.ported;
      keeps = subst (Kept d.subs) (sym noted) (looks_kept c.marks_keep.ensures d.subs service d.cells.states.items d.log d.keeps (looks_of d.terms.site service None));
    }
