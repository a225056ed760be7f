use Rattle.std.proofs.Common.{Some, refl, sym, subst}
use Rattle.hall_locks.specs.Hands.{MayCommit}
use Rattle.desk_api.specs.Views.{found_in}
use Rattle.desk_api.specs.declared.mark.Mark.{Mark}
use Rattle.desk_api.specs.declared.mark.Mark.TheVariants.{Entered}
use Rattle.desk_shared.specs.Records.{records}
use Rattle.desk_shared.proofs.Marked.{entry_marked, may_enter, one_longer, writes_there}
use Rattle.desk_shared.proofs.noting.commit_entered.Goals as goal

pub push-requires-clause-within : goal.push-requires-clause-within
push-requires-clause-within g c =
    let h = c.args.held in
    writes_there h.seat.me.0 h.hub c.args.recs.now c.args.cells.now.states.items c.args.entry c.args._looked.now c.args.ready c.requires.may

pub commit-requires-clause-may : goal.commit-requires-clause-may
commit-requires-clause-may g c =
    let h = c.args.held in
    let r = c.requires in
    subst (λ (m : Mark). MayCommit records h.seat.me.0 (record { about = h.hub.about; limit = h.hub.limit; history = c.push.new.self; subs = c.post.new.subs; opening_is = c.hub-2-1.given.0 }) c.exchange.new.hand.items (Some m)) (sym r.mark)
    (may_enter h.seat.me.0 h.hub _ c.args.recs.now c.args.cells.now.states.items c.exchange.new.hand.items c.args.entry c.args._looked.now c.args.ready r.may c.exchange.ensures.exchanged.got refl c.push.ensures.entries
    (c.post.ensures h.seat.me.0.seen.base.site c.args.cells.now.states.items c.args.entry r.may.ready_is))

pub returns-clause-marked : goal.returns-clause-marked
returns-clause-marked g c =
    let h = c.args.held in
    let r = c.requires in
    let looked = c.args._looked.now in
    let found = found_in c.args.cells.now.states.items looked in
    entry_marked h.seat.me.0 c.commit.result.seat.me.0 (λ at. Entered at c.args.entry looked found) g.B.Notes.mark c.args.entry looked found r.mark refl c.commit.ensures.number
    (c.commit.ensures.seen c.args.entry (one_longer h.seat.me.0 h.hub c.push.new.self c.args.recs.now c.args.cells.now.states.items c.args.entry looked c.args.ready r.may c.push.ensures.entries)) c.commit.ensures.log
