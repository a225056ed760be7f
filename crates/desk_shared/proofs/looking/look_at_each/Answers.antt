use Rattle.std.proofs.Common.{◌∙◌, ◌≤◌, [], ℕ, List, get_or, inl, length, take, refl, sym, ap, subst, arith}
use Rattle.desk_api.specs.Calls.{Calls}
use Rattle.desk_api.specs.declared.history.Base.{Base}
use Rattle.desk_api.proofs.Adding.{adds_nothing}
use Rattle.desk_shared.specs.Looks.{AreAll}
use Rattle.desk_shared.specs.Records.{seat_of}
use Rattle.desk_shared.proofs.Listed.{got_at}
use Rattle.desk_shared.proofs.Looked.{look_failed, look_so_far, none_looked, take_more, take_whole}
use Rattle.desk_shared.proofs.looking.look_at_each.Goals as goal

pub loop-rec-init : goal.loop-rec-init
loop-rec-init g c = record {
  own = refl;
  others = refl;
  calls = record { marks = []; adds = adds_nothing (seat_of c.args.pass.seat.me.0) c.requires.legal; named = none_looked c.args.channel c.args.cells.now.states.items };
  ends = inl refl;
  valid = c.requires.valid;
  restorable = c.requires.restorable;
  ports = refl;
}

pub look_at-next-requires-clause-own : goal.look_at-next-requires-clause-own
look_at-next-requires-clause-own g c = c.loop-rec.invariant.own ∙ c.requires.own

pub look_at-next-requires-clause-site : goal.look_at-next-requires-clause-site
look_at-next-requires-clause-site g c = ap (λ (b : Base). b.site) c.loop-rec.invariant.calls.adds.grows.base ∙ c.requires.site

pub look_at-next-requires-clause-legal : goal.look_at-next-requires-clause-legal
look_at-next-requires-clause-legal g c = c.loop-rec.invariant.calls.adds.legal

pub look_at-next-requires-clause-valid : goal.look_at-next-requires-clause-valid
look_at-next-requires-clause-valid g c = c.loop-rec.invariant.valid

pub look_at-next-requires-clause-restorable : goal.look_at-next-requires-clause-restorable
look_at-next-requires-clause-restorable g c = c.loop-rec.invariant.restorable

pub loop-rec-preserved : goal.loop-rec-preserved
loop-rec-preserved g c =
    let i = c.loop-rec.invariant in
    let n = c.loop-rec.rec-index in
    let recs = c.args.recs.now in
    let r = get_or recs n 0 in
    let more = look_so_far (seat_of c.args.pass.seat.me.0) (seat_of c.loop-rec.pass.seat.me.0) (seat_of c.look_at-next.result.0.seat.me.0) c.args.channel (take n recs) c.args.cells.now.states.items c.loop-rec.cells.states.items i.calls r
    c.look_at-next.new.cells.states.items c.look_at-next.result.1 _ c.in-Ok.is c.look_at-next.ensures.calls c.look_at-next.ensures.ends in record {
      own = c.look_at-next.ensures.own ∙ i.own;
      others = c.look_at-next.ensures.others ∙ i.others;
      calls = subst (λ (l : List ℕ). Calls (seat_of c.args.pass.seat.me.0) (seat_of c.look_at-next.result.0.seat.me.0) (AreAll c.args.channel l c.args.cells.now.states.items c.look_at-next.new.cells.states.items)) (sym (take_more recs n r (got_at recs n c.loop-rec-test.true))) more.0;
      ends = more.1;
      valid = c.look_at-next.ensures.valid;
      restorable = c.look_at-next.ensures.restorable;
      ports = c.look_at-next.ensures.ports ∙ i.ports;
    }

pub returns-in-Err-clause-own : goal.returns-in-Err-clause-own
returns-in-Err-clause-own g c = c.look_at-next.ensures.own ∙ c.loop-rec.invariant.own

pub returns-in-Err-clause-calls : goal.returns-in-Err-clause-calls
returns-in-Err-clause-calls g c =
    look_failed (seat_of c.args.pass.seat.me.0) (seat_of c.loop-rec.pass.seat.me.0) (seat_of c.look_at-next.result.0.seat.me.0) c.args.channel (take c.loop-rec.rec-index c.args.recs.now) c.args.cells.now.states.items c.loop-rec.cells.states.items
    c.loop-rec.invariant.calls (get_or c.args.recs.now c.loop-rec.rec-index 0) c.args.recs.now c.loop-rec.rec-index c.look_at-next.new.cells.states.items c.look_at-next.result.1 _ _ c.in-Err.is refl c.look_at-next.ensures.calls

pub returns-in-Err-clause-ports : goal.returns-in-Err-clause-ports
returns-in-Err-clause-ports g c = c.look_at-next.ensures.ports ∙ c.loop-rec.invariant.ports

pub returns-clause-calls : goal.returns-clause-calls
returns-clause-calls g c =
    let past : length c.args.recs.now ≤ c.loop-rec.rec-index = omega arith in
    subst (λ (l : List ℕ). Calls (seat_of c.args.pass.seat.me.0) (seat_of c.loop-rec.pass.seat.me.0) (AreAll c.args.channel l c.args.cells.now.states.items c.loop-rec.cells.states.items)) (take_whole c.args.recs.now c.loop-rec.rec-index past) c.loop-rec.invariant.calls

pub returns-in-Err-clause-others : goal.returns-in-Err-clause-others
returns-in-Err-clause-others g c = c.look_at-next.ensures.others ∙ c.loop-rec.invariant.others
