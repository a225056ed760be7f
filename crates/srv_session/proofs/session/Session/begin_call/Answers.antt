use Rattle.std.proofs.Common.{sym, subst}
use Rattle.chan_table.specs.Tables.{Tables, IsReady}
use Rattle.desk_api.specs.declared.channel.Channel.{Channel}
use Rattle.desk_api.specs.declared.sub.Sub.{Sub}
use Rattle.srv_session.specs.Tasks.{begin, nothing_wanted}
use Rattle.srv_session.specs.Views.{state_of, output_of}
use Rattle.srv_session.proofs.Rows.{gave_up}
use Rattle.srv_session.specs.Rising.{AreListed}
use Rattle.srv_session.proofs.Rising.{listed_insert}
use Rattle.srv_session.proofs.Slots.{still}
use Rattle.std.proofs.lemmas.Bool.{false≢true}
use Rattle.srv_session.proofs.session.Session.begin_call.Goals as goal

pub add-requires : goal.add-requires
add-requires c =
    subst (λ (t : Tables Channel Sub). IsReady t c.args.req) (sym (c.in_ok-say_answer.ensures {u = tt}).table) c.requires.room

pub returns-in_err-say_answer : goal.returns-in_err-say_answer
returns-in_err-say_answer c seat channel legal moment =
    let failed = c.in_err-say_answer.ensures {u = tt} in
    gave_up seat moment (state_of c.args.self.now) (state_of c.say_answer.new.self) (output_of c.args.self.now) (output_of c.say_answer.new.self)
    (begin c.args.kind c.args.req c.args.sub c.args.sid channel nothing_wanted) c.from_residual.result legal c.from_residual.ensures.0 failed.err (still failed.state)

pub invariant_of-self : goal.invariant_of-self
invariant_of-self c =
    let before = c.say_answer.new.self in
    record {
      some = before.some;
      within = before.within;
      rising = before.rising;
      listed = subst (λ (t : Tables Channel Sub). AreListed before.monitors.items t.asks) (sym c.add.ensures) (listed_insert before.monitors.items before.table.asks c.args.req _ before.listed (λ has. absurd (false≢true has)));
    }
