use Rattle.std.proofs.Common.{Ok, refl, sym, ◌∙◌, ap, subst}
use Rattle.std.specs.Prelude.{IsTrue}
use Rattle.pvd_type.specs.Tree.{Tree}
use Rattle.mon_queue.specs.Told.{IsUpdateOf}
use Rattle.desk_api.specs.Sites.{is_channel}
use Rattle.desk_api.specs.Types.{type_of}
use Rattle.desk_api.specs.declared.history.Base.{Base}
use Rattle.srv_session.specs.State.{is_due}
use Rattle.srv_session.proofs.Pops.{target, target_on, target_lives, target_open, target_channel, target_found, target_due, target_real, target_valued, target_fits, idles, pops_due, pops_failed, popped_nothing, popped_update, popped_unsent}
use Rattle.srv_session.proofs.session.Session.pop_due.Goals as goal

pub returns-in_default : goal.returns-in_default
returns-in_default g c = idles (g.D.Desk.seat c.args.desk.now) c.args.self.now c.args.req c.args.sent (ap is_due (sym c.in_default.ensures))

pub returns-in_default-due_sub : goal.returns-in_default-due_sub
returns-in_default-due_sub g c =
    idles (g.D.Desk.seat c.args.desk.now) c.args.self.now c.args.req c.args.sent
    (ap is_due (sym (c.in-Some.ensures {u = tt})) ∙ sym c.in_default-due_sub.ensures.due)

pub pop-requires : goal.pop-requires
pop-requires g c =
    let due = c.in-Some-due_sub.ensures {u = tt} in
    target_lives (target c.requires.holds c.requires.site (c.in-Some.ensures {u = tt}) due.sub due.due)

pub returns-in_default-pop : goal.returns-in_default-pop
returns-in_default-pop g c =
    let seat = g.D.Desk.seat c.args.desk.now in
    let there = g.D.Desk.seat c.pop.new.self in
    let due = c.in-Some-due_sub.ensures {u = tt} in
    let t = target c.requires.holds c.requires.site (c.in-Some.ensures {u = tt}) due.sub due.due in
    pops_due seat there c.args.self.now c.args.self.now c.args.req c.args.sent (Ok c.args.sent) (target_on t) refl
    (popped_nothing seat there c.args.self.now c.args.req c.in-Some.ask.now (target_channel t) c.in-Some-due_sub.sub.now (target_due t (target_channel t) (target_found t)) c.args.sent
    c.in_default-pop.ensures.calls)

pub unreachable-requires : goal.unreachable-requires
unreachable-requires g c =
    let due = c.in-Some-due_sub.ensures {u = tt} in
    target_open (target c.requires.holds c.requires.site (c.in-Some.ensures {u = tt}) due.sub due.due) (sym c.in_default-channel_at.ensures)

pub type_on-requires-clause-channel : goal.type_on-requires-clause-channel
type_on-requires-clause-channel g c =
    let due = c.in-Some-due_sub.ensures {u = tt} in
    let t = target c.requires.holds c.requires.site (c.in-Some.ensures {u = tt}) due.sub due.due in
    subst (λ (b : Base). IsTrue (is_channel b.site c.in-Some-channel_at.channel)) (sym c.pop.ensures.base)
    (target_real t c.in-Some-channel_at.channel (sym (c.in-Some-channel_at.ensures {u = tt})))

pub type_on-requires-clause-valued : goal.type_on-requires-clause-valued
type_on-requires-clause-valued g c =
    let due = c.in-Some-due_sub.ensures {u = tt} in
    target_valued (target c.requires.holds c.requires.site (c.in-Some.ensures {u = tt}) due.sub due.due) c.in-Some-channel_at.channel (sym (c.in-Some-channel_at.ensures {u = tt}))

pub send-requires : goal.send-requires
send-requires g c =
    let due = c.in-Some-due_sub.ensures {u = tt} in
    let channel = c.in-Some-channel_at.channel in
    let update = c.in-Some-pop.update in
    let t = target c.requires.holds c.requires.site (c.in-Some.ensures {u = tt}) due.sub due.due in
    subst (λ (y : Tree). IsUpdateOf y update) (sym (c.type_on.ensures ∙ ap (λ (b : Base). type_of b.site channel) c.pop.ensures.base))
    (target_fits t channel (sym (c.in-Some-channel_at.ensures {u = tt})) update (c.in-Some-pop.ensures {u = tt}).fits)

pub returns-in_err-send : goal.returns-in_err-send
returns-in_err-send g c =
    let seat = g.D.Desk.seat c.args.desk.now in
    let there = g.D.Desk.seat c.pop.new.self in
    let due = c.in-Some-due_sub.ensures {u = tt} in
    let channel = c.in-Some-channel_at.channel in
    let t = target c.requires.holds c.requires.site (c.in-Some.ensures {u = tt}) due.sub due.due in
    let failed = c.in_err-send.ensures {u = tt} in
    pops_due seat there c.args.self.now c.send.new.self c.args.req c.args.sent c.from_residual.result (target_on t) failed.monitors
    (pops_failed seat there c.args.self.now c.send.new.self c.args.req c.args.sent c.from_residual.result c.from_residual.ensures.0
    (popped_unsent seat there c.args.self.now c.args.req c.in-Some.ask.now channel c.in-Some-due_sub.sub.now (target_due t channel (sym (c.in-Some-channel_at.ensures {u = tt}))) c.args.sent c.in-Some-pop.update
    (c.in-Some-pop.ensures {u = tt}).calls c.send.new.self c.type_on.result.now (c.type_on.ensures ∙ ap (λ (b : Base). type_of b.site channel) c.pop.ensures.base) _ failed.sends))

pub returns : goal.returns
returns g c =
    let seat = g.D.Desk.seat c.args.desk.now in
    let there = g.D.Desk.seat c.pop.new.self in
    let due = c.in-Some-due_sub.ensures {u = tt} in
    let channel = c.in-Some-channel_at.channel in
    let t = target c.requires.holds c.requires.site (c.in-Some.ensures {u = tt}) due.sub due.due in
    let sent = c.in_ok-send.ensures {u = tt} in
    pops_due seat there c.args.self.now c.send.new.self c.args.req c.args.sent _ (target_on t) sent.monitors
    (popped_update seat there c.args.self.now c.args.req c.in-Some.ask.now channel c.in-Some-due_sub.sub.now (target_due t channel (sym (c.in-Some-channel_at.ensures {u = tt}))) c.args.sent c.in-Some-pop.update
    (c.in-Some-pop.ensures {u = tt}).calls c.send.new.self c.type_on.result.now (c.type_on.ensures ∙ ap (λ (b : Base). type_of b.site channel) c.pop.ensures.base) sent.sends)
