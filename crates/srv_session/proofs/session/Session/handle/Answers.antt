use Rattle.std.proofs.Common.{ℕ, List, sym, ◌∙◌, ap, subst}
use Rattle.pva_frames.specs.declared.event.Event.{Event}
use Rattle.pva_frames.specs.declared.event.Event.TheVariants.{Message, Control}
use Rattle.srv_session.specs.Calls.{Handles}
use Rattle.srv_session.specs.Views.{show}
use Rattle.srv_session.proofs.Heeding.{handles_control, handled_on_site}
use Rattle.srv_session.proofs.Kept.{handled_holds, handled_living}
use Rattle.srv_session.proofs.session.Session.handle.Goals as goal

pub returns-in-Control-clause-handles : goal.returns-in-Control-clause-handles
returns-in-Control-clause-handles g c =
    let seat = g.D.Desk.seat c.args.desk.now in
    let old = show seat c.args.self.now in
    let new = show seat c.handle_control.new.self in
    subst (λ (e : Event). Handles old new c.args.moment e c.stopping.result) (sym c.in-Control.is)
    (handles_control old new c.args.moment (Control c.in-Control.command c.in-Control.number) c.handle_control.result c.stopping.result c.stopping.ensures (c.handle_control.ensures seat c.has_legal_history.ensures c.args.moment))

pub returns-in-Control-clause-site : goal.returns-in-Control-clause-site
returns-in-Control-clause-site g c =
    let seat = g.D.Desk.seat c.args.desk.now in
    let old = show seat c.args.self.now in
    let new = show seat c.handle_control.new.self in
    let e = Control c.in-Control.command c.in-Control.number in
    handled_on_site old new c.args.moment e c.stopping.result
    (handles_control old new c.args.moment e c.handle_control.result c.stopping.result c.stopping.ensures (c.handle_control.ensures seat c.has_legal_history.ensures c.args.moment)) c.requires.site

pub returns-in-Control-clause-holds : goal.returns-in-Control-clause-holds
returns-in-Control-clause-holds g c =
    let seat = g.D.Desk.seat c.args.desk.now in
    let old = show seat c.args.self.now in
    let new = show seat c.handle_control.new.self in
    let e = Control c.in-Control.command c.in-Control.number in
    handled_holds old new c.args.moment e c.stopping.result
    (handles_control old new c.args.moment e c.handle_control.result c.stopping.result c.stopping.ensures (c.handle_control.ensures seat c.has_legal_history.ensures c.args.moment)) c.requires.holds

pub returns-in-Control-clause-living : goal.returns-in-Control-clause-living
returns-in-Control-clause-living g c =
    let seat = g.D.Desk.seat c.args.desk.now in
    let old = show seat c.args.self.now in
    let new = show seat c.handle_control.new.self in
    let e = Control c.in-Control.command c.in-Control.number in
    handled_living old new c.args.moment e c.stopping.result
    (handles_control old new c.args.moment e c.handle_control.result c.stopping.result c.stopping.ensures (c.handle_control.ensures seat c.has_legal_history.ensures c.args.moment)) c.requires.holds

pub returns-clause-handles : goal.returns-clause-handles
returns-clause-handles g c =
    let m = c.in-Message.whole in
    let same = ap (λ (p : List ℕ). Message (record { order = m.order; command = m.command; payload = p; place = m.place })) c.as_slice.ensures ∙ sym c.in-Message.is in
    subst (λ (e : Event). Handles (show (g.D.Desk.seat c.args.desk.now) c.args.self.now) (show (g.D.Desk.seat c.handle_message.new.desk) c.handle_message.new.self) c.args.moment e c.handle_message.result) same c.handle_message.ensures.handles
