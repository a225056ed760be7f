use Rattle.std.proofs.Common.{◌≡◌, Some, refl, sym, ◌∙◌, ap, subst}
use Rattle.std.specs.Prelude.{Bool, Option, IsTrue, option_map}
use Rattle.pvd_type.specs.Tree.{Tree}
use Rattle.pvd_value.specs.Fits.{fits_of}
use Rattle.pvd_value.specs.View.{view}
use Rattle.pva_messages.specs.Replies.{Reply}
use Rattle.chan_table.specs.declared.ask.AskKind.TheVariants as kinds
use Rattle.desk_api.specs.Calls as calls
use Rattle.desk_api.specs.Calls.{Calls, ArePutGet}
use Rattle.desk_api.specs.Sites.{is_channel}
use Rattle.desk_api.specs.Types.{type_of}
use Rattle.desk_api.specs.declared.history.Base.{Base}
use Rattle.srv_session.specs.Replies.{outcome, got, answered}
use Rattle.srv_session.specs.Rows.{put_get_reply}
use Rattle.srv_session.specs.Views.{state_of}
use Rattle.srv_session.proofs.Finding.{real_there, valued_there, selected_there, is_on_it}
use Rattle.srv_session.proofs.Replying.{put_get_untold, told_put_get}
use Rattle.srv_session.proofs.session.Session.put_get.Goals as goal

pub put_get-requires-clause-channel : goal.put_get-requires-clause-channel
put_get-requires-clause-channel g c =
    let t = c.requires.there in
    real_there (g.D.Desk.seat c.args.desk.now).seen.base.site (state_of c.args.self.now) c.requires.site c.args.sid c.args.req t.ask c.args.found.channel t.here

pub type_on-ty-requires-clause-channel : goal.type_on-ty-requires-clause-channel
type_on-ty-requires-clause-channel g c =
    let t = c.requires.there in
    subst (λ (b : Base). IsTrue (is_channel b.site c.args.found.channel)) (sym c.put_get.ensures.base)
    (real_there (g.D.Desk.seat c.args.desk.now).seen.base.site (state_of c.args.self.now) c.requires.site c.args.sid c.args.req t.ask c.args.found.channel t.here)

pub type_on-ty-requires-clause-valued : goal.type_on-ty-requires-clause-valued
type_on-ty-requires-clause-valued g c =
    let t = c.requires.there in
    valued_there (g.D.Desk.seat c.args.desk.now).seen.base.site (state_of c.args.self.now) c.requires.site c.args.sid c.args.req t.ask c.args.found.channel t.here t.selects

pub say_got-requires-clause-there : goal.say_got-requires-clause-there
say_got-requires-clause-there g c =
    let t = c.requires.there in
    let site = (g.D.Desk.seat c.args.desk.now).seen.base.site in
    let same : c.type_on-ty.result.now ≡ type_of site c.args.found.channel = c.type_on-ty.ensures ∙ ap (λ (b : Base). type_of b.site c.args.found.channel) c.put_get.ensures.base in
    selected_there site (state_of c.args.self.now) c.requires.site c.args.sid c.args.req t.ask c.args.found.channel t.here t.selects c.type_on-ty.result.now same

pub say_got-requires-clause-fits : goal.say_got-requires-clause-fits
say_got-requires-clause-fits g c =
    let site = (g.D.Desk.seat c.args.desk.now).seen.base.site in
    let same : c.type_on-ty.result.now ≡ type_of site c.args.found.channel = c.type_on-ty.ensures ∙ ap (λ (b : Base). type_of b.site c.args.found.channel) c.put_get.ensures.base in
    ap (fits_of 16 (view c.in-Ok.done.1)) same ∙ (c.in-Ok.ensures {u = tt}).fits

pub returns-in-Ok : goal.returns-in-Ok
returns-in-Ok g c ask here atomic =
    let seat = g.D.Desk.seat c.args.desk.now in
    let there = g.D.Desk.seat c.put_get.new.self in
    let site = seat.seen.base.site in
    let with : Option Bool → calls.Asked = λ (a : Option Bool). record { site = site; channel = c.args.found.channel; mask = c.args.mask.now; value = view c.args.value.now; moment = c.args.moment; atomic = a } in
    let same : c.type_on-ty.result.now ≡ type_of site c.args.found.channel = c.type_on-ty.ensures ∙ ap (λ (b : Base). type_of b.site c.args.found.channel) c.put_get.ensures.base in
    let told : Tree → Reply = λ (t : Tree). got kinds.PutGet c.args.req c.args.sub t ask.mask (view c.in-Ok.done.1) in
    told_put_get seat there c.args.moment c.args.self.now c.say_got.new.self c.args.req c.args.sub ask c.args.found.channel c.args.mask.now (view c.args.value.now)
    c.put_get.result (subst (λ (a : Option Bool). Calls seat there (ArePutGet (with a) c.put_get.result)) atomic c.put_get.ensures.calls)
    (told c.type_on-ty.result.now) (ap (put_get_reply site c.args.req c.args.sub ask c.args.found.channel) c.in-Ok.is ∙ ap (λ (t : Tree). Some (told t)) (sym same)) c.say_got.result
    (c.say_got.ensures ask (is_on_it (state_of c.args.self.now) c.args.sid c.args.req ask c.args.found.channel here).there)

pub returns-in_err-problem-in-Err : goal.returns-in_err-problem-in-Err
returns-in_err-problem-in-Err g c ask here atomic =
    let seat = g.D.Desk.seat c.args.desk.now in
    let there = g.D.Desk.seat c.put_get.new.self in
    let with : Option Bool → calls.Asked = λ (a : Option Bool). record { site = seat.seen.base.site; channel = c.args.found.channel; mask = c.args.mask.now; value = view c.args.value.now; moment = c.args.moment; atomic = a } in
    put_get_untold seat there c.args.moment c.args.self.now c.args.self.now c.args.req c.args.sub ask c.args.found.channel c.args.mask.now (view c.args.value.now)
    c.put_get.result (subst (λ (a : Option Bool). Calls seat there (ArePutGet (with a) c.put_get.result)) atomic c.put_get.ensures.calls)
    c.from_residual.result c.from_residual.ensures.0 (record { output = refl; subscribed = refl })

pub returns-in_ok-problem-in-Err : goal.returns-in_ok-problem-in-Err
returns-in_ok-problem-in-Err g c ask here atomic =
    let seat = g.D.Desk.seat c.args.desk.now in
    let there = g.D.Desk.seat c.put_get.new.self in
    let site = seat.seen.base.site in
    let with : Option Bool → calls.Asked = λ (a : Option Bool). record { site = site; channel = c.args.found.channel; mask = c.args.mask.now; value = view c.args.value.now; moment = c.args.moment; atomic = a } in
    told_put_get seat there c.args.moment c.args.self.now c.say_outcome.new.self c.args.req c.args.sub ask c.args.found.channel c.args.mask.now (view c.args.value.now)
    c.put_get.result (subst (λ (a : Option Bool). Calls seat there (ArePutGet (with a) c.put_get.result)) atomic c.put_get.ensures.calls)
    (answered kinds.PutGet c.args.req c.args.sub (outcome (option_map (λ t. t.now) c.in_ok-problem-in-Err.problem)))
    (ap (put_get_reply site c.args.req c.args.sub ask c.args.found.channel) c.in-Err.is ∙ ap (option_map (answered kinds.PutGet c.args.req c.args.sub)) (c.in_ok-problem-in-Err.ensures {u = tt}))
    c.say_outcome.result c.say_outcome.ensures
