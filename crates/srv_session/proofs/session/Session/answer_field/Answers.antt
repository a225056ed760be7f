use Rattle.std.proofs.Common.{cond, Bool, sym, ◌∙◌, ap}
use Rattle.std.specs.Prelude.{codes}
use Rattle.pvd_type.specs.Tree.{Tree}
use Rattle.pvd_request.specs.Requests.{part_at}
use Rattle.desk_api.specs.Types.{type_of}
use Rattle.srv_session.specs.Replies.{field_refused}
use Rattle.srv_session.specs.Tasks.{Task, refuse, told_field, asked_field}
use Rattle.srv_session.specs.Views.{show}
use Rattle.srv_session.proofs.Rows.{as_task}
use Rattle.srv_session.proofs.session.Session.answer_field.Goals as goal

pub returns-in_default : goal.returns-in_default
returns-in_default g c legal moment =
    let seat = g.D.Desk.seat c.args.desk.now in
    as_task (show seat c.args.self.now) (show seat c.refuse_field.new.self) moment (refuse (field_refused c.args.req (codes "unknown channel"))) _ c.refuse_field.result
    (ap (asked_field seat.seen.base.site c.args.req c.args.path.now) (sym c.channel_at.ensures ∙ c.in_default.is))
    (c.refuse_field.ensures seat legal moment)

pub returns-then-not-has_values : goal.returns-then-not-has_values
returns-then-not-has_values g c legal moment =
    let seat = g.D.Desk.seat c.args.desk.now in
    let told : Task = told_field c.args.req (part_at c.args.path.now (type_of seat.seen.base.site c.in-Some.channel)) in
    let none : Task = refuse (field_refused c.args.req (codes "channel has no value")) in
    as_task (show seat c.args.self.now) (show seat c.refuse_field-then-not-has_values.new.self) moment none _ c.refuse_field-then-not-has_values.result
    (ap (asked_field seat.seen.base.site c.args.req c.args.path.now) (sym c.channel_at.ensures ∙ c.in-Some.is)
    ∙ ap (λ (b : Bool). cond b told none) (sym c.has_values.ensures ∙ c.if-not-has_values.true))
    (c.refuse_field-then-not-has_values.ensures seat legal moment)

pub returns : goal.returns
returns g c legal moment =
    let seat = g.D.Desk.seat c.args.desk.now in
    let told : Tree → Task = λ (t : Tree). told_field c.args.req (part_at c.args.path.now t) in
    let none : Task = refuse (field_refused c.args.req (codes "channel has no value")) in
    as_task (show seat c.args.self.now) (show seat c.tell_field.new.self) moment (told c.type_on.result.now) _ c.tell_field.result
    (ap (asked_field seat.seen.base.site c.args.req c.args.path.now) (sym c.channel_at.ensures ∙ c.in-Some.is)
    ∙ ap (λ (b : Bool). cond b (told (type_of seat.seen.base.site c.in-Some.channel)) none) (sym c.has_values.ensures ∙ c.if-not-has_values.false)
    ∙ ap told (sym c.type_on.ensures))
    (c.tell_field.ensures seat legal moment)
