use Rattle.std.proofs.Common.{◌≡◌, true, Ok, refl, sym, ◌∙◌, ap, subst}
use Rattle.std.specs.Prelude.{option_map}
use Rattle.std.specs.FinMap.{get, remove}
use Rattle.chan_table.specs.Tables.{Tables}
use Rattle.desk_api.specs.declared.channel.Channel.{Channel}
use Rattle.desk_api.specs.declared.sub.Sub.{Sub}
use Rattle.srv_session.specs.State.{State, Channels, Asked, is_open}
use Rattle.srv_session.specs.Tasks.{Task, asks, destroy_channel, pass_over}
use Rattle.srv_session.specs.Views.{state_of, output_of, show}
use Rattle.srv_session.proofs.Ending.{channel_lives, channel_closed}
use Rattle.srv_session.proofs.Heeding.{heeds_as, heeds_so}
use Rattle.srv_session.proofs.Opening.{open_test, end_task, taken_out, closed_asks}
use Rattle.srv_session.specs.Rising.{AreListed}
use Rattle.srv_session.proofs.Rows.{says_this, nothing_said}
use Rattle.srv_session.proofs.Tables.{none_stays}
use Rattle.srv_session.proofs.session.Session.destroy_channel.Goals as goal

pub returns-then-not-has_channel : goal.returns-then-not-has_channel
returns-then-not-has_channel g c moment =
    let seat = g.D.Desk.seat c.args.desk.now in
    let s = state_of c.args.self.now in
    let old = show seat c.args.self.now in
    let here = sym (open_test c.args.self.now.table c.args.sid c.args.cid) ∙ sym c.has_channel.ensures ∙ c.if-not-has_channel.true in
    heeds_so old old moment _ (asks pass_over s.types) (Ok tt) (ap (λ (t : Task). asks t s.types) (end_task s c.args.sid c.args.cid _ here))
    (heeds_as old old moment pass_over (Ok tt) (Ok tt) refl (nothing_said seat moment s s (output_of c.args.self.now) (output_of c.args.self.now) pass_over c.has_legal_history.ensures (says_this _) refl refl))

pub end_requests_on-requires : goal.end_requests_on-requires
end_requests_on-requires g c = channel_lives (g.D.Desk.seat c.args.desk.now).log (state_of c.args.self.now) c.args.sid c.requires

pub remove_channel-requires : goal.remove_channel-requires
remove_channel-requires g c =
    record {
      gone = λ some. record {
        none = λ id on. none_stays c.args.sid _ id (sym (ap (λ (z : State). option_map (λ (a : Asked). a.sid) (get z.requests id)) c.end_requests_on.ensures.state) ∙ on);
      };
    }

pub returns : goal.returns
returns g c moment =
    let seat = g.D.Desk.seat c.args.desk.now in
    let there = g.D.Desk.seat c.end_requests_on.new.desk in
    let s = state_of c.args.self.now in
    let ended = c.end_requests_on.new.self in
    let t = ended.table in
    let u = c.remove_channel.new.self in
    let after : Tables Channel Sub → State = λ (x : Tables Channel Sub). record (state_of ended) { channels = x.channels; requests = x.asks } in
    let here : is_open s.channels c.args.sid c.args.cid ≡ true = sym (open_test c.args.self.now.table c.args.sid c.args.cid) ∙ sym c.has_channel.ensures ∙ c.if-not-has_channel.false in
    let still : is_open t.channels c.args.sid c.args.cid ≡ true = ap (λ (z : State). is_open z.channels c.args.sid c.args.cid) c.end_requests_on.ensures.state ∙ here in
    let out = taken_out t u c.args.sid c.args.cid c.remove_channel.result c.remove_channel.ensures.value still c.remove_channel.ensures.removed in
    heeds_so (show seat c.args.self.now) (show there c.say_destroyed.new.self) moment _ (asks (destroy_channel c.args.sid c.args.cid) s.types) c.stopping.result
    (ap (λ (x : Task). asks x s.types) (end_task s c.args.sid c.args.cid _ here))
    (channel_closed seat there moment s (after u) (state_of c.say_destroyed.new.self) (output_of c.args.self.now) (output_of ended) (output_of c.say_destroyed.new.self) c.args.sid c.args.cid c.end_requests_on.ensures.calls
    (ap after out ∙ ap (λ (z : State). let y : State = record z { channels = remove z.channels c.args.sid } in y) c.end_requests_on.ensures.state)
    c.say_destroyed.ensures.state c.end_requests_on.ensures.output c.say_destroyed.result c.stopping.result c.stopping.ensures c.say_destroyed.ensures.ok c.say_destroyed.ensures.err)

pub invariant_of-self : goal.invariant_of-self
invariant_of-self g c =
    let ended = c.end_requests_on.new.self in
    record {
      some = ended.some;
      within = ended.within;
      rising = ended.rising;
      listed =
          subst (AreListed ended.monitors.items)
          (sym (closed_asks ended.table c.remove_channel.new.self c.args.sid c.remove_channel.result c.remove_channel.ensures.removed c.remove_channel.ensures.none)) ended.listed;
    }
