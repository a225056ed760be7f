use Rattle.std.proofs.Common.{refl}
use Rattle.pvd_value.specs.View.{view}
use Rattle.pva_frames.specs.LentView.{whole_of}
use Rattle.desk_api.specs.Types.{type_of}
use Rattle.srv_session.specs.Tasks.{putting_as, reading_part, asks}
use Rattle.srv_session.specs.Steps.{knowing}
use Rattle.srv_session.specs.Views.{state_of, output_of, show, stop_by}
use Rattle.srv_session.proofs.Finding.{real_there, valued_there}
use Rattle.srv_session.proofs.Heeding.{not_heard, heeds_so}
use Rattle.srv_session.proofs.Parts.{part_read, part_stops, holds_leaves, heeds_later}
use Rattle.srv_session.proofs.session.Session.put_part.Goals as goal

pub type_on-ty-requires-clause-channel : goal.type_on-ty-requires-clause-channel
type_on-ty-requires-clause-channel g c =
    let t = c.requires.there in
    real_there (g.D.Desk.seat c.args.desk.now).seen.base.site (state_of c.args.self.now) c.requires.site c.args.sid c.args.req t.ask c.args.found.channel t.here

pub type_on-ty-requires-clause-valued : goal.type_on-ty-requires-clause-valued
type_on-ty-requires-clause-valued g c =
    let t = c.requires.there in
    valued_there (g.D.Desk.seat c.args.desk.now).seen.base.site (state_of c.args.self.now) c.requires.site c.args.sid c.args.req t.ask c.args.found.channel t.here t.selects

pub returns-in_err-part : goal.returns-in_err-part
returns-in_err-part g c ask here atomic =
    let seat = g.D.Desk.seat c.args.desk.now in
    let site = seat.seen.base.site in
    let s = state_of c.args.self.now in
    let whole = whole_of c.args.message.now in
    let fault = c.in_err-part.field-0.0 in
    let exact = (c.in_err-part.ensures {u = tt}).exact in
    not_heard seat s (knowing s c.read_request_part.new.registry) (output_of c.args.self.now) (output_of c.args.self.now) c.args.moment
    (reading_part c.args.gets site whole s.types c.args.req c.args.sub (ask, c.args.found.channel)) (stop_by fault) c.from_residual.result c.from_residual.ensures.1
    (part_stops c.args.gets site whole s.types c.args.req c.args.sub (ask, c.args.found.channel) c.type_on-ty.result.now c.type_on-ty.ensures fault exact.0 exact.1)
    c.has_legal_history.ensures refl refl

pub put_as-answer-requires-clause-leaves : goal.put_as-answer-requires-clause-leaves
put_as-answer-requires-clause-leaves g c =
    let site = (g.D.Desk.seat c.args.desk.now).seen.base.site in
    let read = c.in_ok-part.ensures {u = tt} in
    holds_leaves c.type_on-ty.result.now (type_of site c.args.found.channel) c.in_ok-part.part.0 read.spelled.2.2 c.type_on-ty.ensures read.spelled.2.5

pub returns : goal.returns
returns g c ask here atomic =
    let seat = g.D.Desk.seat c.args.desk.now in
    let site = seat.seen.base.site in
    let s = state_of c.args.self.now in
    let whole = whole_of c.args.message.now in
    let new = show (g.D.Desk.seat c.put_as-answer.new.desk) c.put_as-answer.new.self in
    let exact = (c.in_ok-part.ensures {u = tt}).exact in
    let types = c.read_request_part.new.registry in
    let task = putting_as c.args.gets c.args.req c.args.sub ask c.args.found.channel c.in_ok-part.part.0 (view c.in_ok-part.part.1) in
    heeds_so (show seat c.args.self.now) new c.args.moment (reading_part c.args.gets site whole s.types c.args.req c.args.sub (ask, c.args.found.channel)) (asks task types) c.stopping.result
    (part_read c.args.gets site whole s.types c.args.req c.args.sub (ask, c.args.found.channel) c.type_on-ty.result.now c.type_on-ty.ensures
    c.in_ok-part.part.0 (view c.in_ok-part.part.1) exact.0 types exact.1)
    (heeds_later seat s (output_of c.args.self.now) new c.args.moment types task c.put_as-answer.result c.stopping.result c.stopping.ensures (c.put_as-answer.ensures ask here atomic))
