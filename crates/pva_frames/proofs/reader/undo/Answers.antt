use Rattle.std.proofs.Common.{◌≤◌, ◌∷◌, [], List, length, take, drop, sym, ap, ◌∙◌, arith, length-append}
use Rattle.pva_frames.specs.declared.event.Event.{Event}
use Rattle.pva_frames.specs.Reader.{first_payload}
use Rattle.pva_frames.proofs.Growing.{front_of, payload_of}
use Rattle.pva_frames.proofs.reader.undo.Goals as goal

pub loop-ready-preserved-in-Some : goal.loop-ready-preserved-in-Some
loop-ready-preserved-in-Some c =
    let n = c.args.count in
    let es = c.pop_back.new.self.items in
    let was = c.in-Some.ensures.items in
    let long : n ≤ length es = omega (arith, c.len.ensures, c.loop-ready-test.true, ap length was, length-append es (c.in-Some.event ∷ [])) in
    record {
      front = front_of n es c.in-Some.event long ∙ ap (take n) (sym was) ∙ c.loop-ready.invariant.front;
      payload = ap (first_payload (drop n es)) c.give_back.ensures ∙ payload_of n es c.in-Some.event c.loop-ready.payload.items long ∙ ap (λ (l : List Event). first_payload (drop n l) c.loop-ready.payload.items) (sym was) ∙ c.loop-ready.invariant.payload;
    }
