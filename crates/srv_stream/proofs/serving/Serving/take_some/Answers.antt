use Rattle.std.proofs.Common.{◌≡◌, ◌∷◌, ◌+◌, ℕ, List, [], Some, take, drop, length, refl, sym, ◌∙◌, ap, subst, arith, take-append-drop}
use Rattle.std.proofs.lemmas.List.{append-nil}
use Rattle.pva_frames.specs.Assembled.{Assembled, fed}
use Rattle.pva_frames.specs.LentView.{whole_of}
use Rattle.pva_frames.specs.declared.event.Event.{Event}
use Rattle.pva_frames.specs.declared.event.Event.TheVariants.{Message}
use Rattle.srv_stream.specs.Streams.{is_sound, View, Passed, FedErr}
use Rattle.srv_stream.specs.Views.{view_of}
use Rattle.srv_session.proofs.Kept.{are_living}
use Rattle.srv_stream.proofs.Passing.{passed_nothing, passed_fed, passed_more, fed_err}
use Rattle.srv_stream.proofs.Answering.{ready_answered, ready_err, ready_without}
use Rattle.srv_stream.proofs.Feeding.{passed_lent, sound_lent, sound_some, err_on}
use Rattle.srv_stream.proofs.serving.Serving.take_some.Goals as goal

pub invariant_of-self : goal.invariant_of-self
invariant_of-self g c = record { sound = sound_lent c.args.self.now.stream c.lend.new.self c.args.piece.now (whole_of c.in-Some.message) c.in-Some.ensures.lent }

pub returns-in-Ok-clause-takes : goal.returns-in-Ok-clause-takes
returns-in-Ok-clause-takes g c =
    let v = view_of c.args.self.now in
    let m = whole_of c.in-Some.message in
    let x = c.in-Some.ensures.lent in
    let a = passed_lent (g.D.Desk.seat c.args.desk.now) (Some c.args.moment) v c.lend.new.self c.args.piece.now m c.has_legal_history.ensures c.args.self.now.sound x in
    let v1 : View = record v { stream = c.lend.new.self } in record {
      some = omega arith;
      within = x.within;
      passed = ready_answered a v1 (view_of c.answer_message.new.self) (Message m) (ap (λ (l : List Event). Message m ∷ l) (sym x.given)) refl refl refl c.in-Ok.ensures.answers;
    }

pub returns-in-Err-clause-takes : goal.returns-in-Err-clause-takes
returns-in-Err-clause-takes g c =
    let v = view_of c.args.self.now in
    let m = whole_of c.in-Some.message in
    let x = c.in-Some.ensures.lent in
    let old = g.D.Desk.seat c.args.desk.now in
    let new = g.D.Desk.seat c.answer_message.new.desk in
    let w = view_of c.answer_message.new.self in
    let n = 8 + length c.in-Some.message.payload.now in
    let a = passed_lent old (Some c.args.moment) v c.lend.new.self c.args.piece.now m c.has_legal_history.ensures c.args.self.now.sound x in
    let v1 : View = record v { stream = c.lend.new.self } in
    subst (λ (z : List ℕ). FedErr old new (Some c.args.moment) v w z c.in-Err.ended) (take-append-drop n c.args.piece.now)
    (ready_err a new v1 w (drop n c.args.piece.now) (Message m) c.in-Err.ended (ap (λ (l : List Event). Message m ∷ l) (sym x.given)) refl refl c.in-Err.ensures.answers)

pub invariant_of-self-2 : goal.invariant_of-self-2
invariant_of-self-2 g c = record { sound = sound_some c.lend.new.self c.feed_some.new.self c.args.piece.now c.feed_some.result c.feed_some.ensures.ok c.feed_some.ensures.err (ap (λ (z : Assembled). is_sound z.left) c.in_default.ensures.none ∙ c.args.self.now.sound) }

pub returns-in_default-feed_some-clause-takes : goal.returns-in_default-feed_some-clause-takes
returns-in_default-feed_some-clause-takes g c =
    let v = view_of c.args.self.now in
    let w : View = record v { stream = c.feed_some.new.self } in
    ready_without (passed_nothing (g.D.Desk.seat c.args.desk.now) (Some c.args.moment) v c.has_legal_history.ensures c.args.self.now.sound) w c.args.piece.now refl refl

pub returns-in_default-feed_some-clause-living : goal.returns-in_default-feed_some-clause-living
returns-in_default-feed_some-clause-living g c = are_living (g.D.Desk.seat c.args.desk.now).log (view_of c.args.self.now).state c.requires.holds

pub returns-in-Ok-answer_ready-clause-takes : goal.returns-in-Ok-answer_ready-clause-takes
returns-in-Ok-answer_ready-clause-takes g c =
    let v = view_of c.args.self.now in
    let u : View = record v { stream = c.feed_some.new.self } in
    let w = view_of c.answer_ready.new.self in
    let old = g.D.Desk.seat c.args.desk.now in
    let new = g.D.Desk.seat c.answer_ready.new.desk in
    let piece = c.args.piece.now in
    let count = c.in-Ok-feed_some.count in
    let x = c.in-Ok-feed_some.ensures.ok in
    let stream : u.stream ≡ fed v.stream (take count piece) = x.taken ∙ ap (λ (z : Assembled). fed z (take count piece)) c.in_default.ensures.none in
    let a = passed_fed (passed_nothing old (Some c.args.moment) v c.has_legal_history.ensures c.args.self.now.sound) (take count piece) u stream refl refl in
    let b = c.in-Ok-answer_ready.ensures.feeds in record {
      some = x.some;
      within = x.within;
      passed = subst (λ (z : List ℕ). Passed old new (Some c.args.moment) v w z) (append-nil (take count piece)) (passed_more a b.passed);
    }

pub returns-in-Err-answer_ready-clause-takes : goal.returns-in-Err-answer_ready-clause-takes
returns-in-Err-answer_ready-clause-takes g c =
    let v = view_of c.args.self.now in
    let u : View = record v { stream = c.feed_some.new.self } in
    let w = view_of c.answer_ready.new.self in
    let old = g.D.Desk.seat c.args.desk.now in
    let new = g.D.Desk.seat c.answer_ready.new.desk in
    let piece = c.args.piece.now in
    let count = c.in-Ok-feed_some.count in
    let ended = c.in-Err-answer_ready.ended in
    let told = Some c.args.moment in
    let x = c.in-Ok-feed_some.ensures.ok in
    let stream : u.stream ≡ fed v.stream (take count piece) = x.taken ∙ ap (λ (z : Assembled). fed z (take count piece)) c.in_default.ensures.none in
    let a = passed_fed (passed_nothing old told v c.has_legal_history.ensures c.args.self.now.sound) (take count piece) u stream refl refl in
    let b = subst (λ (z : List ℕ). FedErr old new told v w z ended) (append-nil (take count piece)) (fed_err new w [] ended a c.in-Err-answer_ready.ensures.feeds) in
    subst (λ (z : List ℕ). FedErr old new told v w z ended) (take-append-drop count piece) (err_on old new told v w (take count piece) (drop count piece) ended b)
