use Rattle.std.proofs.Common.{◌≡◌, ◌++◌, Some, sym, ◌∙◌, ap, subst}
use Rattle.std.specs.Prelude.{OnOk}
use Rattle.pva_messages.specs.Replies.{Reply}
use Rattle.chan_table.specs.Tables.{Tables}
use Rattle.desk_api.specs.Sites.{channel_named}
use Rattle.desk_api.specs.declared.channel.Channel.{Channel}
use Rattle.desk_api.specs.declared.sub.Sub.{Sub}
use Rattle.srv_session.specs.State.{State, Channels}
use Rattle.srv_session.specs.Replies.{IsSayable, spelled, said}
use Rattle.srv_session.specs.Views.{state_of, output_of}
use Rattle.srv_session.proofs.Opening.{opens, opens_reply, opened_asks}
use Rattle.srv_session.specs.Rising.{AreListed}
use Rattle.srv_session.proofs.Rows.{on_ok}
use Rattle.srv_session.proofs.session.Session.open.Goals as goal

pub returns-in-Ok-clause-state : goal.returns-in-Ok-clause-state
returns-in-Ok-clause-state g c =
    let s = state_of c.args.self.now in
    let site = (g.D.Desk.seat c.args.desk.now).seen.base.site in
    let is : channel_named site c.args.name.now ≡ Some c.in-Some.channel = ap (channel_named site) (sym c.as_str.ensures.text) ∙ sym c.find.ensures ∙ c.in-Some.is in
    let added = c.in-Ok.ensures {u = tt} in
    let after : Tables Channel Sub → State = λ (t : Tables Channel Sub). record s { channels = t.channels; requests = t.asks } in
    on_ok c.say_created-in-Ok.result
    (c.say_created-in-Ok.ensures.state ∙ ap after added.ok
    ∙ ap (λ (x : Channels). record s { channels = x }) (opens s.channels c.args.cid c.in-Some.channel (channel_named site c.args.name.now) is c.in-Ok.sid added.few added.least))

pub returns-in-Ok-clause-ok : goal.returns-in-Ok-clause-ok
returns-in-Ok-clause-ok g c =
    let s = state_of c.args.self.now in
    let site = (g.D.Desk.seat c.args.desk.now).seen.base.site in
    let is : channel_named site c.args.name.now ≡ Some c.in-Some.channel = ap (channel_named site) (sym c.as_str.ensures.text) ∙ sym c.find.ensures ∙ c.in-Some.is in
    let added = c.in-Ok.ensures {u = tt} in
    subst (λ (r : Reply). OnOk c.say_created-in-Ok.result ((output_of c.say_created-in-Ok.new.self ≡ output_of c.args.self.now ++ spelled s.order s.segment (said r)) × IsSayable (said r)))
    (opens_reply s.channels c.args.cid c.in-Some.channel (channel_named site c.args.name.now) is c.in-Ok.sid added.few added.least) c.say_created-in-Ok.ensures.ok

pub invariant_of-self : goal.invariant_of-self
invariant_of-self g c =
    let ids = c.args.self.now.monitors.items in
    let old = c.args.self.now.table in
    record {
      some = c.args.self.now.some;
      within = c.args.self.now.within;
      rising = c.args.self.now.rising;
      listed =
          subst (AreListed ids) (sym (opened_asks old c.add_channel.new.self c.args.cid c.in-Some.channel c.add_channel.result c.add_channel.ensures.ok c.add_channel.ensures.err)) c.args.self.now.listed;
    }
