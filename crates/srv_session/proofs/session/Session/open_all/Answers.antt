use Rattle.std.proofs.Common.{◌∙◌}
use Rattle.srv_session.specs.Views.{state_of, output_of}
use Rattle.srv_session.proofs.Opening.{next_state, next_channels, next_output, next_sayable, keeps_more}
use Rattle.srv_session.proofs.session.Session.open_all.Goals as goal

pub loop-name-preserved : goal.loop-name-preserved
loop-name-preserved g c =
    let site = (g.D.Desk.seat c.args.desk.now).seen.base.site in
    let names = c.args.names.now in
    let i = c.loop-name.name-index in
    let x = c.name-item.result in
    let s = state_of c.args.self.now in
    let m = state_of c.loop-name.self in
    let n = state_of c.open.new.self in
    let done = c.in_ok-open.ensures {u = tt} in
    let before = c.loop-name.invariant in
    record {
      state = next_state site names i x c.name-item.is c.loop-name-test.true s m n before.state done.state;
      channels = next_channels site names i x c.name-item.is c.loop-name-test.true s m n before.state done.state ∙ before.channels;
      output =
          next_output site names i x c.name-item.is c.loop-name-test.true s m n before.state done.state (output_of c.loop-name.self) (output_of c.open.new.self) done.ok.0
          ∙ before.output;
      sayable = λ rest. before.sayable (next_sayable site names i x c.name-item.is c.loop-name-test.true s m n before.state done.state done.ok.1 rest);
      keeps = keeps_more c.args.self.now c.loop-name.self c.open.new.self before.keeps done.keeps;
    }
