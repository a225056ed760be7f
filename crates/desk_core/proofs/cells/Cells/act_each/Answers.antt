use Rattle.std.proofs.Common.{◌<◌, ℕ, List, length, take, map, option_map, sym, subst}
use Rattle.std.specs.List.{AllByRecursion}
use Rattle.rec_kinds.specs.Texts.{text_of_datum}
use Rattle.rec_kinds.specs.declared.datum.Action.{Action}
use Rattle.rec_kinds.specs.declared.state.RecState.{RecState}
use Rattle.journal_core.specs.Legality.{AreValid}
use Rattle.desk_core.specs.Effects.{AreDone}
use Rattle.desk_core.proofs.Doing.{on_err, more_broken, more_done, more_light, valid_next, within_now}
use Rattle.desk_core.proofs.Listing.{next_taken, got}
use Rattle.desk_core.proofs.Ported.{ported, stay_at}
use Rattle.desk_core.proofs.cells.Cells.act_each.Goals as goal

pub returns-in_err-act-clause-broken : goal.returns-in_err-act-clause-broken
returns-in_err-act-clause-broken g c =
    let i = c.loop-rec.rec-index in
    on_err c.from_residual.result
    (more_broken c.args.site.now.configs c.args.moment c.args.self.now.states.items c.loop-rec.self.states.items _ _ _ c.args.actions.now i _ _ _ _
    (got c.args.actions.now i _ c.loop-rec-test.true c.loop-rec-item.is) c.loop-rec.invariant.done (c.in_err-act.ensures {u = tt}).broken)

pub returns-in_err-act-clause-within : goal.returns-in_err-act-clause-within
returns-in_err-act-clause-within g c =
    let failed = c.in_err-act.ensures {u = tt} in
    on_err c.from_residual.result
    (subst (λ (x : List RecState × List (ℕ × RecState)). AllByRecursion (λ (held : ℕ × RecState). held.0 < length x.0) x.1) (λ i. (sym failed.states i, sym failed.before i))
    (within_now c.args.site.now.configs c.args.moment c.args.self.now.states.items _ c.loop-rec.self.states.items _ _ _ _ _ c.loop-rec.invariant.done))

pub loop-rec-preserved : goal.loop-rec-preserved
loop-rec-preserved g c =
    let i = c.loop-rec.rec-index in
    let actions = c.args.actions.now in
    let configs = c.args.site.now.configs in
    let at = got actions i c.loop-rec-item.result c.loop-rec-test.true c.loop-rec-item.is in
    let done = c.in_ok-act.ensures {u = tt} in
    let n = done.next in record {
      done = subst (λ (l : List (ℕ × Action)). AreDone configs c.args.moment c.args.self.now.states.items c.act.new.self.states.items (map (option_map g.P.Port.port) c.args.self.now.ports.items) (map (option_map g.P.Port.port) c.act.new.self.ports.items) l c.act.new.effects.drove c.act.new.effects.writes c.act.new.self.before.items)
          (sym (next_taken actions i c.loop-rec-item.result at))
          (more_done configs c.args.moment c.args.self.now.states.items _ c.loop-rec.self.states.items _ (take i actions) _ _ _ c.loop-rec.invariant.done _ _ c.loop-rec-item.result _ _ _ n);
      valid = subst (AreValid configs) (sym n.written.cells_are) (valid_next configs c.loop-rec.self.states.items c.args.moment c.loop-rec-item.result n.drove (c.loop-rec-item.result.0, n.state) c.loop-rec.invariant.valid n.done);
      ported = ported g.P.Port.port configs c.loop-rec.self.ports.items c.loop-rec.invariant.ported c.act.new.self.ports.items (stay_at _ _ c.loop-rec-item.result.0 n.drove (text_of_datum n.state.datum) n.driven);
      light = more_light actions i c.loop-rec-item.result at c.loop-rec.invariant.light done.light;
    }
