use Rattle.std.proofs.Common.{◌≡◌, ◌-◌, ℕ, List, Some, take, drop, length, sym, subst, arith, take-append-drop, length-drop}
use Rattle.std.proofs.lemmas.List.{take_all}
use Rattle.std.proofs.Math.Seq.{take-add}
use Rattle.srv_stream.specs.Streams.{Passed, Feeds, FedErr, Took}
use Rattle.srv_stream.specs.Views.{view_of}
use Rattle.srv_stream.proofs.Passing.{passed_nothing, passed_more, fed_err}
use Rattle.srv_stream.proofs.Feeding.{passed_on_site, passed_holds, feeds_end}
use Rattle.srv_stream.proofs.serving.Serving.feed.Goals as goal

pub pieces-init : goal.pieces-init
pieces-init g c = record {
  within = omega arith;
  passed = passed_nothing (g.D.Desk.seat c.args.desk.now) (Some c.args.moment) (view_of c.args.self.now) c.has_legal_history.ensures c.args.self.now.sound;
}

pub take_some-requires-clause-site : goal.take_some-requires-clause-site
take_some-requires-clause-site g c = passed_on_site c.pieces.invariant.passed c.requires.site

pub take_some-requires-clause-holds : goal.take_some-requires-clause-holds
take_some-requires-clause-holds g c = passed_holds c.pieces.invariant.passed c.requires.holds

pub pieces-preserved : goal.pieces-preserved
pieces-preserved g c =
    let v = view_of c.args.self.now in
    let u = view_of c.pieces.self in
    let w = view_of c.take_some.new.self in
    let old = g.D.Desk.seat c.args.desk.now in
    let mid = g.D.Desk.seat c.pieces.desk in
    let new = g.D.Desk.seat c.take_some.new.desk in
    let piece = c.args.piece.now in
    let at = c.pieces.at in
    let all : take (length piece - at) (drop at piece) ≡ drop at piece = take_all (length piece - at) (drop at piece) (omega (arith, length-drop at piece)) in
    let x = subst (λ (z : List ℕ). Took mid new (Some c.args.moment) u w z c.in-Ok.count) all c.in-Ok.ensures.takes in record {
      within = omega (arith, x.within, length-drop at piece, c.pieces.invariant.within);
      passed = subst (λ (z : List ℕ). Passed old new (Some c.args.moment) v w z) (sym (take-add at c.in-Ok.count piece)) (passed_more c.pieces.invariant.passed x.passed);
    }

pub returns-in-Err-clause-feeds : goal.returns-in-Err-clause-feeds
returns-in-Err-clause-feeds g c =
    let v = view_of c.args.self.now in
    let u = view_of c.pieces.self in
    let w = view_of c.take_some.new.self in
    let old = g.D.Desk.seat c.args.desk.now in
    let mid = g.D.Desk.seat c.pieces.desk in
    let new = g.D.Desk.seat c.take_some.new.desk in
    let piece = c.args.piece.now in
    let at = c.pieces.at in
    let ended = c.in-Err.ended in
    let all : take (length piece - at) (drop at piece) ≡ drop at piece = take_all (length piece - at) (drop at piece) (omega (arith, length-drop at piece)) in
    let x = subst (λ (z : List ℕ). FedErr mid new (Some c.args.moment) u w z ended) all c.in-Err.ensures.takes in
    subst (λ (z : List ℕ). FedErr old new (Some c.args.moment) v w z ended) (take-append-drop at piece) (fed_err new w (drop at piece) ended c.pieces.invariant.passed x)

pub answer_ready-requires-clause-site : goal.answer_ready-requires-clause-site
answer_ready-requires-clause-site g c = passed_on_site c.pieces.invariant.passed c.requires.site

pub answer_ready-requires-clause-holds : goal.answer_ready-requires-clause-holds
answer_ready-requires-clause-holds g c = passed_holds c.pieces.invariant.passed c.requires.holds

pub returns-clause-feeds : goal.returns-clause-feeds
returns-clause-feeds g c =
    let v = view_of c.args.self.now in
    let w = view_of c.answer_ready.new.self in
    let old = g.D.Desk.seat c.args.desk.now in
    let new = g.D.Desk.seat c.answer_ready.new.desk in
    let piece = c.args.piece.now in
    let at = c.pieces.at in
    let all : take at piece ≡ piece = take_all at piece (omega arith) in
    subst (λ (z : List ℕ). Feeds old new (Some c.args.moment) v w z c.answer_ready.result) all (feeds_end new w c.answer_ready.result c.pieces.invariant.passed c.answer_ready.ensures.feeds)
