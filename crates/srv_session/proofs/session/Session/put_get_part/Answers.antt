use Rattle.std.proofs.Common.{true, cond, Bool, ◌||◌, sym, ◌∙◌, ap}
use Rattle.pva_frames.specs.LentView.{whole_of}
use Rattle.pva_messages.specs.Subcommands.{asks_back, counts}
use Rattle.srv_session.specs.Tasks.{asks, unsupported, reading_part}
use Rattle.srv_session.specs.Views.{state_of, show}
use Rattle.srv_session.proofs.Heeding.{heeds_as, heeds_so}
use Rattle.srv_session.proofs.session.Session.put_get_part.Goals as goal

pub returns-then-is_unsupported : goal.returns-then-is_unsupported
returns-then-is_unsupported g c ask here atomic =
    let seat = g.D.Desk.seat c.args.desk.now in
    let s = state_of c.args.self.now in
    let old = show seat c.args.self.now in
    let new = show seat c.refuse_behind.new.self in
    let task = unsupported c.args.req c.args.sub in
    let reads = reading_part true seat.seen.base.site (whole_of c.args.message.now) s.types c.args.req c.args.sub (ask, c.args.found.channel) in
    heeds_so old new c.args.moment (cond (asks_back c.args.sub || counts c.args.sub) (asks task s.types) reads) (asks task s.types) c.stopping.result
    (ap (λ (b : Bool). cond b (asks task s.types) reads) (sym c.is_unsupported.ensures ∙ c.if-is_unsupported.true))
    (heeds_as old new c.args.moment task c.refuse_behind.result c.stopping.result c.stopping.ensures (c.refuse_behind.ensures seat c.has_legal_history.ensures c.args.moment))

pub returns : goal.returns
returns g c ask here atomic =
    let seat = g.D.Desk.seat c.args.desk.now in
    let s = state_of c.args.self.now in
    let task = unsupported c.args.req c.args.sub in
    let reads = reading_part true seat.seen.base.site (whole_of c.args.message.now) s.types c.args.req c.args.sub (ask, c.args.found.channel) in
    heeds_so (show seat c.args.self.now) (show (g.D.Desk.seat c.put_part.new.desk) c.put_part.new.self) c.args.moment (cond (asks_back c.args.sub || counts c.args.sub) (asks task s.types) reads) reads c.put_part.result
    (ap (λ (b : Bool). cond b (asks task s.types) reads) (sym c.is_unsupported.ensures ∙ c.if-is_unsupported.false))
    (c.put_part.ensures ask here atomic)
