use Rattle.std.proofs.Common.{ℕ, List, length, refl, sym, ◌∙◌, subst}
use Rattle.pva_frames.specs.LentView.{whole_of}
use Rattle.pva_messages.specs.Views.{request_view}
use Rattle.srv_session.specs.Steps.{knowing}
use Rattle.srv_session.specs.Tasks.{asks, echo, pass_over, heard_whole}
use Rattle.srv_session.specs.Views.{state_of, output_of, show, stop_by, HasPlace}
use Rattle.srv_session.proofs.Heeding.{heeds_as, heeds_so, heard_echo, heard_early, not_heard, stops_unread, heeds_read}
use Rattle.srv_session.proofs.Kept.{knowing_holds}
use Rattle.srv_session.proofs.OnSite.{knowing_on_site}
use Rattle.srv_session.proofs.Rows.{shown}
use Rattle.srv_session.proofs.Places.{put_has_place}
use Rattle.srv_session.proofs.session.Session.answer_message.Goals as goal

pub returns-then-message-eq-ECHO : goal.returns-then-message-eq-ECHO
returns-then-message-eq-ECHO g c =
    let seat = g.D.Desk.seat c.args.desk.now in
    let s = state_of c.args.self.now in
    let whole = whole_of c.args.message.now in
    let old = show seat c.args.self.now in
    let new = show seat c.echo.new.self in
    heeds_so old new c.args.moment (heard_whole seat.seen.base.site s whole) (asks (echo whole.payload) s.types) c.stopping.result
    (heard_echo seat.seen.base.site s whole c.if-message-eq-ECHO.true)
    (heeds_as old new c.args.moment (echo whole.payload) c.echo.result c.stopping.result c.stopping.ensures (c.echo.ensures seat c.has_legal_history.ensures c.args.moment))

pub returns-then-not-is_heard : goal.returns-then-not-is_heard
returns-then-not-is_heard g c =
    let seat = g.D.Desk.seat c.args.desk.now in
    let s = state_of c.args.self.now in
    let whole = whole_of c.args.message.now in
    let old = show seat c.args.self.now in
    let new = show seat c.pass_over.new.self in
    heeds_so old new c.args.moment (heard_whole seat.seen.base.site s whole) (asks pass_over s.types) c.stopping-then-not-is_heard.result
    (heard_early seat.seen.base.site s whole (sym c.is_heard.ensures ∙ c.if-not-is_heard.true))
    (heeds_as old new c.args.moment pass_over c.pass_over.result c.stopping-then-not-is_heard.result c.stopping-then-not-is_heard.ensures (c.pass_over.ensures seat c.has_legal_history.ensures c.args.moment))

pub returns-in_err-request : goal.returns-in_err-request
returns-in_err-request g c =
    let seat = g.D.Desk.seat c.args.desk.now in
    let s = state_of c.args.self.now in
    let whole = whole_of c.args.message.now in
    let t = knowing s c.read_request.new.registry in
    let new = shown seat t (output_of c.args.self.now) in
    let fault = c.in_err-request.field-0.0 in
    let exact = (c.in_err-request.ensures {u = tt}).exact in
    not_heard seat s t (output_of c.args.self.now) (output_of c.args.self.now) c.args.moment (heard_whole seat.seen.base.site s whole) (stop_by fault) c.from_residual.result c.from_residual.ensures.1
    (stops_unread seat.seen.base.site s whole (sym c.is_heard.ensures ∙ c.if-not-is_heard.false) fault exact.0 exact.1) c.has_legal_history.ensures refl refl

pub handle_request-answer-requires-clause-site : goal.handle_request-answer-requires-clause-site
handle_request-answer-requires-clause-site g c =
    knowing_on_site (g.D.Desk.seat c.args.desk.now).seen.base.site (state_of c.args.self.now) c.read_request.new.registry c.requires.site

pub handle_request-answer-requires-clause-holds : goal.handle_request-answer-requires-clause-holds
handle_request-answer-requires-clause-holds g c = knowing_holds (g.D.Desk.seat c.args.desk.now).log (state_of c.args.self.now) c.read_request.new.registry c.requires.holds

pub handle_request-answer-requires-clause-place : goal.handle_request-answer-requires-clause-place
handle_request-answer-requires-clause-place g c =
    let message = c.args.message.now in
    let m = request_view c.in_ok-request.request in
    let (front, follow, is, parts) = (c.in_ok-request.ensures {u = tt}).spelled in
    subst (λ (b : List ℕ). HasPlace m (length b)) (sym parts)
    (put_has_place message.order message.command (state_of c.args.self.now).types front follow m c.read_request.new.registry is)

pub returns : goal.returns
returns g c =
    let seat = g.D.Desk.seat c.args.desk.now in
    let s = state_of c.args.self.now in
    let whole = whole_of c.args.message.now in
    let known = c.read_request.new.registry in
    let new = show (g.D.Desk.seat c.handle_request-answer.new.desk) c.handle_request-answer.new.self in
    let exact = (c.in_ok-request.ensures {u = tt}).exact in
    heeds_read seat s (knowing s known) (output_of c.args.self.now) (output_of c.args.self.now) new c.args.moment whole known (request_view c.in_ok-request.request) exact.0 c.handle_request-answer.result
    (sym c.is_heard.ensures ∙ c.if-not-is_heard.false) exact.1 refl refl c.handle_request-answer.ensures
