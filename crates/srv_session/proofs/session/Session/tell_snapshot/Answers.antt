use Rattle.std.proofs.Common.{◌∙◌, ap, subst, refl}
use Rattle.pvd_type.specs.Tree.{Tree}
use Rattle.pvd_value.specs.Data.{Data}
use Rattle.pvd_value.specs.View.{view}
use Rattle.srv_session.specs.Replies.{said, called}
use Rattle.srv_session.specs.Rows.{rows_data}
use Rattle.srv_session.specs.Views.{RepliesWith}
use Rattle.srv_session.proofs.Replying.{not_looked, look_untold, told_look}
use Rattle.srv_session.proofs.session.Session.tell_snapshot.Goals as goal

pub returns-in_err-rows : goal.returns-in_err-rows
returns-in_err-rows g c moment =
    let failed = c.in_err-rows.ensures {u = tt} in
    not_looked (g.D.Desk.seat c.args.desk.now) (g.D.Desk.seat c.snapshot.new.self) moment c.args.self.now c.args.self.now c.args.req c.args.sub
    c.from_residual.result failed.calls c.from_residual.ensures.0 (record { output = refl; subscribed = refl })

pub returns-in_err-told : goal.returns-in_err-told
returns-in_err-told g c moment =
    let got = c.in_ok-rows.ensures {u = tt} in
    look_untold (g.D.Desk.seat c.args.desk.now) (g.D.Desk.seat c.snapshot.new.self) moment c.args.self.now c.args.self.now c.args.req c.args.sub
    c.in_ok-rows.rows.items got.calls c.from_residual-in_err-told.result c.from_residual-in_err-told.ensures.0 (record { output = refl; subscribed = refl })

pub returns : goal.returns
returns g c moment =
    let got = c.in_ok-rows.ensures {u = tt} in
    let told = c.in_ok-told.ensures {u = tt} in
    told_look (g.D.Desk.seat c.args.desk.now) (g.D.Desk.seat c.snapshot.new.self) moment c.args.self.now c.say_told.new.self c.args.req c.args.sub
    c.in_ok-rows.rows.items got.calls c.say_told.result
    (subst (λ (x : Tree × Data). RepliesWith c.args.self.now c.say_told.new.self c.args.req c.args.sub (said (called c.args.req c.args.sub x.0 x.1)) c.say_told.result)
    (λ i. (told.tree i, (told.value ∙ ap rows_data c.deref.ensures.value) i)) c.say_told.ensures)
