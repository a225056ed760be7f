use Rattle.std.proofs.Common.{Ok, ap}
use Rattle.desk_api.specs.Sites.{names_of}
use Rattle.rpc_services.specs.Answers.{channels_tree, channels_data, info_tree}
use Rattle.rpc_services.specs.declared.asking.RpcOp.{RpcOp}
use Rattle.srv_session.specs.Replies.{called}
use Rattle.srv_session.specs.Tasks.{respond, snapshot, info_of, called_for}
use Rattle.srv_session.specs.Views.{show}
use Rattle.srv_session.proofs.Rows.{as_task}
use Rattle.srv_session.proofs.session.Session.call_for.Goals as goal

pub returns-in-Channels : goal.returns-in-Channels
returns-in-Channels g c moment =
    let seat = g.D.Desk.seat c.args.desk.now in
    let site = seat.seen.base.site in
    as_task (show seat c.args.self.now) (show seat c.tell_channels.new.self) moment (respond c.args.req c.args.sub (called c.args.req c.args.sub channels_tree (channels_data (names_of site)))) _ c.tell_channels.result
    (ap (λ (o : RpcOp). called_for site c.args.req c.args.sub (Ok o)) c.in-Channels.is) (c.tell_channels.ensures c.has_legal_history.ensures moment)

pub returns-in-Info : goal.returns-in-Info
returns-in-Info g c moment =
    let seat = g.D.Desk.seat c.args.desk.now in
    let site = seat.seen.base.site in
    as_task (show seat c.args.self.now) (show seat c.tell_info.new.self) moment (respond c.args.req c.args.sub (called c.args.req c.args.sub info_tree (info_of site))) _ c.tell_info.result
    (ap (λ (o : RpcOp). called_for site c.args.req c.args.sub (Ok o)) c.in-Info.is) (c.tell_info.ensures c.has_legal_history.ensures moment)

pub returns-in-Snapshot : goal.returns-in-Snapshot
returns-in-Snapshot g c moment =
    let seat = g.D.Desk.seat c.args.desk.now in
    let site = seat.seen.base.site in
    as_task (show seat c.args.self.now) (show (g.D.Desk.seat c.tell_snapshot.new.desk) c.tell_snapshot.new.self) moment (snapshot c.args.req c.args.sub) _ c.tell_snapshot.result
    (ap (λ (o : RpcOp). called_for site c.args.req c.args.sub (Ok o)) c.in-Snapshot.is) (c.tell_snapshot.ensures moment)
