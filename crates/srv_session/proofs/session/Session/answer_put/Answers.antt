use Rattle.std.proofs.Common.{cond, Bool, Ok, refl, sym, ◌∙◌, ap}
use Rattle.chan_table.specs.declared.ask.AskKind.TheVariants as kinds
use Rattle.pva_frames.specs.LentView.{whole_of}
use Rattle.pva_messages.specs.Subcommands.{begins, asks_back}
use Rattle.pva_messages.specs.Views.{valued_view}
use Rattle.srv_session.specs.State.{channel_at}
use Rattle.srv_session.specs.Replies.{refused}
use Rattle.srv_session.specs.Tasks.{asks, refuse, beginning, getting, found_for, heard_putting}
use Rattle.srv_session.specs.Views.{state_of, show}
use Rattle.srv_session.proofs.Finding.{is_here, there, not_here}
use Rattle.srv_session.proofs.Heeding.{heeds_as, heeds_so}
use Rattle.srv_session.proofs.session.Session.answer_put.Goals as goal

pub begin-requires-clause-fits : goal.begin-requires-clause-fits
begin-requires-clause-fits g c = c.requires.fits (sym c.begins.ensures ∙ c.if-begins.true)

pub returns-then-begins : goal.returns-then-begins
returns-then-begins g c =
    let seat = g.D.Desk.seat c.args.desk.now in
    let site = seat.seen.base.site in
    let s = state_of c.args.self.now in
    let begun = beginning site s kinds.Put c.args.req c.args.sub c.args.sid (valued_view c.args.request.now) (channel_at s.channels c.args.sid) in
    let gets = asks (getting kinds.Put c.args.req c.args.sub (found_for s kinds.Put c.args.sid c.args.req)) s.types in
    let puts = heard_putting site (whole_of c.args.message.now) s.types c.args.req c.args.sub (found_for s kinds.Put c.args.sid c.args.req) in
    let old = show seat c.args.self.now in
    let new = show seat c.begin.new.self in
    heeds_so old new c.args.moment (cond (begins c.args.sub) (asks begun s.types) (cond (asks_back c.args.sub) gets puts)) (asks begun s.types) c.stopping.result
    (ap (λ (b : Bool). cond b (asks begun s.types) (cond (asks_back c.args.sub) gets puts)) (sym c.begins.ensures ∙ c.if-begins.true))
    (heeds_as old new c.args.moment begun c.begin.result c.stopping.result c.stopping.ensures (c.begin.ensures c.has_legal_history.ensures c.args.moment))

pub returns-then-asks_back : goal.returns-then-asks_back
returns-then-asks_back g c =
    let seat = g.D.Desk.seat c.args.desk.now in
    let site = seat.seen.base.site in
    let s = state_of c.args.self.now in
    let begun = asks (beginning site s kinds.Put c.args.req c.args.sub c.args.sid (valued_view c.args.request.now) (channel_at s.channels c.args.sid)) s.types in
    let task = getting kinds.Put c.args.req c.args.sub (found_for s kinds.Put c.args.sid c.args.req) in
    let puts = heard_putting site (whole_of c.args.message.now) s.types c.args.req c.args.sub (found_for s kinds.Put c.args.sid c.args.req) in
    let old = show seat c.args.self.now in
    let new = show (g.D.Desk.seat c.get.new.desk) c.get.new.self in
    heeds_so old new c.args.moment (cond (begins c.args.sub) begun (cond (asks_back c.args.sub) (asks task s.types) puts)) (asks task s.types) c.stopping-then-asks_back.result
    (ap (λ (b : Bool). cond b begun (cond (asks_back c.args.sub) (asks task s.types) puts)) (sym c.begins.ensures ∙ c.if-begins.false)
    ∙ ap (λ (b : Bool). cond b (asks task s.types) puts) (sym c.asks_back.ensures ∙ c.if-asks_back.true))
    (heeds_as old new c.args.moment task c.get.result c.stopping-then-asks_back.result c.stopping-then-asks_back.ensures (c.get.ensures c.args.moment))

pub put_part-requires-clause-there : goal.put_part-requires-clause-there
put_part-requires-clause-there g c = there (state_of c.args.self.now) kinds.Put c.args.sid c.args.req c.in-Ok.found refl (c.in-Ok.ensures {u = tt})

pub put_part-requires-clause-plain : goal.put_part-requires-clause-plain
put_part-requires-clause-plain g c = sym c.asks_back.ensures ∙ c.if-asks_back.false

pub get-requires-clause-kind : goal.get-requires-clause-kind
get-requires-clause-kind g c = sym c.asks_back.ensures ∙ c.if-asks_back.true

pub returns-in-Ok : goal.returns-in-Ok
returns-in-Ok g c =
    let seat = g.D.Desk.seat c.args.desk.now in
    let site = seat.seen.base.site in
    let s = state_of c.args.self.now in
    let whole = whole_of c.args.message.now in
    let h = is_here s kinds.Put c.args.sid c.args.req c.in-Ok.found (c.in-Ok.ensures {u = tt}) in
    let begun = asks (beginning site s kinds.Put c.args.req c.args.sub c.args.sid (valued_view c.args.request.now) (channel_at s.channels c.args.sid)) s.types in
    let gets = asks (getting kinds.Put c.args.req c.args.sub (found_for s kinds.Put c.args.sid c.args.req)) s.types in
    let puts = heard_putting site whole s.types c.args.req c.args.sub (found_for s kinds.Put c.args.sid c.args.req) in
    heeds_so (show seat c.args.self.now) (show (g.D.Desk.seat c.put_part.new.desk) c.put_part.new.self) c.args.moment (cond (begins c.args.sub) begun (cond (asks_back c.args.sub) gets puts))
    (heard_putting site whole s.types c.args.req c.args.sub (Ok (h.ask, c.in-Ok.found.channel))) c.put_part.result
    (ap (λ (b : Bool). cond b begun (cond (asks_back c.args.sub) gets puts)) (sym c.begins.ensures ∙ c.if-begins.false)
    ∙ ap (λ (b : Bool). cond b gets puts) (sym c.asks_back.ensures ∙ c.if-asks_back.false)
    ∙ ap (heard_putting site whole s.types c.args.req c.args.sub) h.phase)
    (c.put_part.ensures h.ask h.here h.atomic)

pub returns-in-Err : goal.returns-in-Err
returns-in-Err g c =
    let seat = g.D.Desk.seat c.args.desk.now in
    let site = seat.seen.base.site in
    let s = state_of c.args.self.now in
    let whole = whole_of c.args.message.now in
    let begun = asks (beginning site s kinds.Put c.args.req c.args.sub c.args.sid (valued_view c.args.request.now) (channel_at s.channels c.args.sid)) s.types in
    let gets = asks (getting kinds.Put c.args.req c.args.sub (found_for s kinds.Put c.args.sid c.args.req)) s.types in
    let puts = heard_putting site whole s.types c.args.req c.args.sub (found_for s kinds.Put c.args.sid c.args.req) in
    let old = show seat c.args.self.now in
    let new = show seat c.refuse.new.self in
    let task = refuse (refused kinds.Put c.args.req c.args.sub c.in-Err.text.now) in
    heeds_so old new c.args.moment (cond (begins c.args.sub) begun (cond (asks_back c.args.sub) gets puts)) (asks task s.types) c.stopping-in-Err.result
    (ap (λ (b : Bool). cond b begun (cond (asks_back c.args.sub) gets puts)) (sym c.begins.ensures ∙ c.if-begins.false)
    ∙ ap (λ (b : Bool). cond b gets puts) (sym c.asks_back.ensures ∙ c.if-asks_back.false)
    ∙ ap (heard_putting site whole s.types c.args.req c.args.sub) (not_here s kinds.Put c.args.sid c.args.req c.in-Err.text (c.in-Err.ensures {u = tt})))
    (heeds_as old new c.args.moment task c.refuse.result c.stopping-in-Err.result c.stopping-in-Err.ensures (c.refuse.ensures seat c.has_legal_history.ensures c.args.moment))
