use Rattle.std.proofs.Common.{refl, subst}
use Rattle.std.specs.Prelude.{Bool, Option, option_map}
use Rattle.pvd_value.specs.View.{view}
use Rattle.desk_api.specs.Calls as calls
use Rattle.desk_api.specs.Calls.{Calls, ArePut}
use Rattle.srv_session.specs.Replies.{outcome}
use Rattle.srv_session.specs.Views.{state_of}
use Rattle.srv_session.proofs.Finding.{real_there}
use Rattle.srv_session.proofs.Replying.{put_untold, told_put}
use Rattle.srv_session.proofs.session.Session.put.Goals as goal

pub put-answer-requires-clause-channel : goal.put-answer-requires-clause-channel
put-answer-requires-clause-channel g c =
    let t = c.requires.there in
    real_there (g.D.Desk.seat c.args.desk.now).seen.base.site (state_of c.args.self.now) c.requires.site c.args.sid c.args.req t.ask c.args.found.channel t.here

pub returns-in_err-problem : goal.returns-in_err-problem
returns-in_err-problem g c ask here atomic =
    let seat = g.D.Desk.seat c.args.desk.now in
    let there = g.D.Desk.seat c.put-answer.new.self in
    let with : Option Bool → calls.Asked = λ (a : Option Bool). record { site = seat.seen.base.site; channel = c.args.found.channel; mask = c.args.mask.now; value = view c.args.value.now; moment = c.args.moment; atomic = a } in
    put_untold seat there c.args.moment c.args.self.now c.args.self.now c.args.req c.args.sub ask c.args.found.channel c.args.mask.now (view c.args.value.now)
    c.put-answer.result (subst (λ (a : Option Bool). Calls seat there (ArePut (with a) c.put-answer.result)) atomic c.put-answer.ensures.calls)
    c.from_residual.result c.from_residual.ensures.0 (record { output = refl; subscribed = refl })

pub returns : goal.returns
returns g c ask here atomic =
    let seat = g.D.Desk.seat c.args.desk.now in
    let there = g.D.Desk.seat c.put-answer.new.self in
    let with : Option Bool → calls.Asked = λ (a : Option Bool). record { site = seat.seen.base.site; channel = c.args.found.channel; mask = c.args.mask.now; value = view c.args.value.now; moment = c.args.moment; atomic = a } in
    told_put seat there c.args.moment c.args.self.now c.say_outcome.new.self c.args.req c.args.sub ask c.args.found.channel c.args.mask.now (view c.args.value.now)
    c.put-answer.result (subst (λ (a : Option Bool). Calls seat there (ArePut (with a) c.put-answer.result)) atomic c.put-answer.ensures.calls)
    (outcome (option_map (λ t. t.now) c.in_ok-problem.problem)) (c.in_ok-problem.ensures {u = tt}) c.say_outcome.result c.say_outcome.ensures
