use Rattle.std.proofs.Common.{refl, sym, ◌∙◌, ap}
use Rattle.pvd_type.specs.Tree.{Tree}
use Rattle.pvd_value.specs.Data.{Data}
use Rattle.pvd_value.specs.View.{view}
use Rattle.desk_api.specs.Sites.{names_of}
use Rattle.rpc_services.specs.Answers.{channels_tree, channels_data}
use Rattle.srv_session.specs.Replies.{called}
use Rattle.srv_session.specs.Tasks.{Task, respond}
use Rattle.srv_session.specs.Views.{state_of, output_of, show}
use Rattle.srv_session.proofs.Rows.{gave_up, as_task}
use Rattle.srv_session.proofs.Replying.{responded}
use Rattle.srv_session.proofs.session.Session.tell_channels.Goals as goal

pub returns-in_err-told : goal.returns-in_err-told
returns-in_err-told g c legal moment =
    let seat = g.D.Desk.seat c.args.desk.now in
    gave_up seat moment (state_of c.args.self.now) (state_of c.args.self.now) (output_of c.args.self.now) (output_of c.args.self.now)
    (respond c.args.req c.args.sub (called c.args.req c.args.sub channels_tree (channels_data (names_of seat.seen.base.site)))) c.from_residual.result legal c.from_residual.ensures.0 refl refl

pub returns : goal.returns
returns g c legal moment =
    let seat = g.D.Desk.seat c.args.desk.now in
    let told = c.in_ok-told.ensures {u = tt} in
    let says : Tree → Data → Task = λ (t : Tree) (v : Data). respond c.args.req c.args.sub (called c.args.req c.args.sub t v) in
    as_task (show seat c.args.self.now) (show seat c.say_told.new.self) moment _ (says channels_tree (channels_data (names_of seat.seen.base.site))) c.say_told.result
    (sym (ap (λ (t : Tree). says t (view c.in_ok-told.told.1)) told.tree ∙ ap (says channels_tree) told.value))
    (responded c.args.self.now c.say_told.new.self c.args.req c.args.sub (called c.args.req c.args.sub c.in_ok-told.told.0 (view c.in_ok-told.told.1)) c.say_told.result c.say_told.ensures seat legal moment)
