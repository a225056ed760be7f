use Rattle.std.proofs.Common.{refl, sym, subst, ◌∙◌}
use Rattle.desk_api.specs.Calls.{first_seat}
use Rattle.journal_core.specs.Legality.{AreValid}
use Rattle.desk_core.proofs.Keeping.{Kept}
use Rattle.desk_core.proofs.Soloing.{first_stands, first_legal}
use Rattle.desk_core.proofs.solo.SoloDesk.new.Goals as goal

pub invariant_of-result : goal.invariant_of-result
invariant_of-result g c =
    let cells = (c.in_ok-states.ensures {u = tt}).states in
    let opening = (c.in_ok-opening_of.ensures {u = tt}).states in record {
      stands = first_stands _ _ _ _ c.in-Ok.ensures cells (c.new-history.ensures.opening ∙ opening) c.new-history.ensures.entries;
      legal = first_legal _ _ c.in-Ok.ensures;
      ported = c.requires;
      valid = subst (AreValid c.args.site.configs) (sym cells) (c.in_ok-states.ensures {u = tt}).valid;
      keeps = subst (Kept c.new-subs.result) (sym c.in-Ok.ensures) (c.a_new_desk_keeps.ensures (first_seat (record { site = c.args.site; limit = c.args.limit })).seen c.new-subs.result 0 refl (c.new-subs.ensures.stand _ _) c.new-subs.ensures.none);
    }
