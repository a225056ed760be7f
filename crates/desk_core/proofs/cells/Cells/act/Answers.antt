use Rattle.std.proofs.Common.{map, option_map, sym, subst, ap}
use Rattle.std.specs.List.{slice_get}
use Rattle.std.proofs.lemmas.Option.{slice_get_within}
use Rattle.rec_kinds.specs.Processing.{processed}
use Rattle.rec_kinds.specs.Texts.{text_of_datum}
use Rattle.rec_kinds.specs.declared.state.RecState.{RecState}
use Rattle.journal_core.specs.Legality.{IsDone}
use Rattle.desk_core.specs.Ports.{Ports, IsDrivenAt}
use Rattle.desk_core.proofs.Doing.{on_err, on_ok, may_be, one_done, one_broken, tried_broken}
use Rattle.desk_core.proofs.Listing.{action_light}
use Rattle.desk_core.proofs.Ported.{told}
use Rattle.desk_core.proofs.cells.Cells.act.Goals as goal

pub returns-in_err-outcome-clause-broken : goal.returns-in_err-outcome-clause-broken
returns-in_err-outcome-clause-broken g c =
    let at = c.record_at.ensures in
    let configs = c.args.site.now.configs in
    on_err c.from_residual.result
    (tried_broken configs c.args.self.now.states.items c.args.rec c.args.action.now c.args.moment _ _ at.configured at.found (may_be _ _ c.args.action.now at.configured c.requires.may) _ _
    (told g.P.Port.port configs c.args.self.now.ports.items c.requires.ported _ c.args.rec _ at.configured)
    (c.in_err-outcome.ensures {u = tt}).tried)

pub returns-in_err-push-clause-broken : goal.returns-in_err-push-clause-broken
returns-in_err-push-clause-broken g c =
    let at = c.record_at.ensures in
    let configs = c.args.site.now.configs in
    let o = c.in_ok-outcome.ensures {u = tt} in
    let driven = subst (λ (z : RecState). IsDrivenAt (map (option_map g.P.Port.port) c.args.self.now.ports.items) (map (option_map g.P.Port.port) c.do_action_at.new.ports.items) c.args.rec c.in_ok-outcome.outcome.drove (text_of_datum z.datum)) o.state o.driven in
    on_err _
    (one_broken configs c.args.self.now.states.items c.args.rec c.args.action.now c.args.moment _ _ at.configured at.found (may_be _ _ c.args.action.now at.configured c.requires.may) _ _
    c.in_ok-outcome.outcome.drove (told g.P.Port.port configs c.args.self.now.ports.items c.requires.ported _ c.args.rec _ at.configured c.in_ok-outcome.outcome.drove _ o.driven) driven)

pub write-requires : goal.write-requires
write-requires g c = slice_get_within _ c.args.rec _ c.record_at.ensures.found

pub returns-clause-next : goal.returns-clause-next
returns-clause-next g c =
    let at = c.record_at.ensures in
    let configs = c.args.site.now.configs in
    let states = c.args.self.now.states.items in
    let o = c.in_ok-outcome.ensures {u = tt} in
    let pushed = c.in_ok-push.ensures {u = tt} in
    let drove = c.in_ok-outcome.outcome.drove in
    let told_so = told g.P.Port.port configs c.args.self.now.ports.items c.requires.ported _ c.args.rec _ at.configured drove _ o.driven in
    on_ok c.write.result c.write.ensures.ok (λ w. record {
      drove = drove;
      state = c.in_ok-outcome.outcome.state;
      done = subst (λ (z : RecState). IsDone (slice_get configs c.args.rec) (slice_get states c.args.rec) c.args.moment (c.args.rec, c.args.action.now) drove (c.args.rec, z)) (sym o.state)
          (one_done configs states c.args.rec c.args.action.now c.args.moment _ _ at.configured at.found (may_be _ _ c.args.action.now at.configured c.requires.may) drove told_so);
      driven = subst (λ (p : Ports). IsDrivenAt (map (option_map g.P.Port.port) c.args.self.now.ports.items) p c.args.rec drove (text_of_datum c.in_ok-outcome.outcome.state.datum)) (sym (ap (map (option_map g.P.Port.port)) c.write.ensures.ports)) o.driven;
      written = w;
      drives_are = pushed.drove;
      writes_are = pushed.writes;
    })

pub returns-clause-light : goal.returns-clause-light
returns-clause-light g c =
    let at = c.record_at.ensures in
    on_ok c.write.result c.write.ensures.ok (λ w. action_light c.args.rec _ c.args.action.now at.few (may_be _ _ c.args.action.now at.configured c.requires.may))

pub returns-clause-broken : goal.returns-clause-broken
returns-clause-broken g c =
    let at = c.record_at.ensures in
    let configs = c.args.site.now.configs in
    let o = c.in_ok-outcome.ensures {u = tt} in
    let drove = c.in_ok-outcome.outcome.drove in
    let old = map (option_map g.P.Port.port) c.args.self.now.ports.items in
    let driven = subst (λ (z : RecState). IsDrivenAt old (map (option_map g.P.Port.port) c.do_action_at.new.ports.items) c.args.rec drove (text_of_datum z.datum)) o.state o.driven in
    on_err c.write.result
    (one_broken configs c.args.self.now.states.items c.args.rec c.args.action.now c.args.moment _ _ at.configured at.found (may_be _ _ c.args.action.now at.configured c.requires.may) old _
    drove (told g.P.Port.port configs c.args.self.now.ports.items c.requires.ported _ c.args.rec _ at.configured drove _ o.driven)
    (subst (λ (p : Ports). IsDrivenAt old p c.args.rec drove (text_of_datum (processed c.record_at.result.0.now c.record_at.result.1.now c.args.action.now c.args.moment drove).datum)) (sym (ap (map (option_map g.P.Port.port)) c.write.ensures.ports)) driven))
