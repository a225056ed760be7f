use Rattle.std.proofs.Common.{◌≡◌, sym, ◌∙◌, ap, subst, refl}
use Rattle.std.specs.Prelude.{Bool, Option, IsTrue}
use Rattle.pvd_value.specs.View.{view}
use Rattle.desk_api.specs.Calls.{Calls, IsGet, IsPartOfGet}
use Rattle.desk_api.specs.Sites.{is_channel}
use Rattle.desk_api.specs.Types.{type_of}
use Rattle.desk_api.specs.declared.history.Base.{Base}
use Rattle.srv_session.specs.Views.{state_of}
use Rattle.srv_session.proofs.Finding.{is_on_it, selected_there, valued_there, real_there}
use Rattle.srv_session.proofs.Replying.{not_got, told_got}
use Rattle.srv_session.proofs.session.Session.get_from.Goals as goal

pub get-requires : goal.get-requires
get-requires g c =
    let t = c.requires.there in
    real_there (g.D.Desk.seat c.args.desk.now).seen.base.site (state_of c.args.self.now) c.requires.site c.args.sid c.args.req t.ask c.args.found.channel t.here

pub type_on-ty-requires-clause-channel : goal.type_on-ty-requires-clause-channel
type_on-ty-requires-clause-channel g c =
    let t = c.requires.there in
    subst (λ (b : Base). IsTrue (is_channel b.site c.args.found.channel)) (sym c.get.ensures.base)
    (real_there (g.D.Desk.seat c.args.desk.now).seen.base.site (state_of c.args.self.now) c.requires.site c.args.sid c.args.req t.ask c.args.found.channel t.here)

pub type_on-ty-requires-clause-valued : goal.type_on-ty-requires-clause-valued
type_on-ty-requires-clause-valued g c =
    let t = c.requires.there in
    valued_there (g.D.Desk.seat c.args.desk.now).seen.base.site (state_of c.args.self.now) c.requires.site c.args.sid c.args.req t.ask c.args.found.channel t.here t.selects

pub say_got-requires-clause-there : goal.say_got-requires-clause-there
say_got-requires-clause-there g c =
    let t = c.requires.there in
    let site = (g.D.Desk.seat c.args.desk.now).seen.base.site in
    let same : c.type_on-ty.result.now ≡ type_of site c.args.found.channel = c.type_on-ty.ensures ∙ ap (λ (b : Base). type_of b.site c.args.found.channel) c.get.ensures.base in
    selected_there site (state_of c.args.self.now) c.requires.site c.args.sid c.args.req t.ask c.args.found.channel t.here t.selects c.type_on-ty.result.now same

pub returns-in_err-value : goal.returns-in_err-value
returns-in_err-value g c ask here atomic moment =
    let failed = c.in_err-value.ensures {u = tt} in
    let seat = g.D.Desk.seat c.args.desk.now in
    let there = g.D.Desk.seat c.get.new.self in
    not_got seat there moment c.args.self.now c.args.self.now c.args.kind c.args.req c.args.sub ask c.args.found.channel c.from_residual.result
    (subst (λ (a : Option Bool). Calls seat there (IsPartOfGet seat.seen.base.site c.args.found.channel a)) atomic failed.calls) c.from_residual.ensures.0 (record { output = refl; subscribed = refl })

pub returns : goal.returns
returns g c ask here atomic moment =
    let seat = g.D.Desk.seat c.args.desk.now in
    let there = g.D.Desk.seat c.get.new.self in
    let given = c.in_ok-value.ensures {u = tt} in
    let same : c.type_on-ty.result.now ≡ type_of seat.seen.base.site c.args.found.channel = c.type_on-ty.ensures ∙ ap (λ (b : Base). type_of b.site c.args.found.channel) c.get.ensures.base in
    told_got seat there moment c.args.self.now c.say_got.new.self c.args.kind c.args.req c.args.sub ask c.args.found.channel (view c.in_ok-value.value)
    (subst (λ (a : Option Bool). Calls seat there (IsGet seat.seen.base.site c.args.found.channel a (view c.in_ok-value.value))) atomic given.calls)
    c.type_on-ty.result.now same c.say_got.result (c.say_got.ensures ask (is_on_it (state_of c.args.self.now) c.args.sid c.args.req ask c.args.found.channel here).there)
