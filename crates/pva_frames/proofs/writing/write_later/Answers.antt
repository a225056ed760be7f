use Rattle.std.proofs.Common.{◌≡◌, ◌+◌, ◌-◌, ◌≤◌, ◌<◌, ◌++◌, List, ℕ, length, take, drop, sym, ap, ◌∙◌, arith, append_assoc}
use Rattle.std.proofs.lemmas.List.{length-drop, drop-drop}
use Rattle.pva_frames.specs.Spelling.{frame_bytes, later_segments}
use Rattle.pva_frames.proofs.Taking.{parts}
use Rattle.pva_frames.proofs.Written.{later-middle, later-last, keeps-append, keeps-on}
use Rattle.pva_frames.proofs.writing.write_later.Goals as goal

pub loop-at-preserved : goal.loop-at-preserved
loop-at-preserved c =
    let s = c.args.sender in
    let at = c.loop-at.at in
    let n = c.args.segment in
    let p = c.args.payload.now in
    let rest = drop at p in
    let more : n < length rest = omega (arith, length-drop at p, c.loop-at-test.true) in
    let span : at + n - at ≡ n = omega arith in
    let frame : c.write_frame.new.out.items ≡ c.loop-at.out.items ++ frame_bytes s.order s.server 48 s.command (take n rest) = c.in_ok-write_frame.ensures.ok ∙ ap (λ (k : ℕ). c.loop-at.out.items ++ frame_bytes s.order s.server 48 s.command (take k rest)) span in
    record {
      within = omega (arith, c.loop-at-test.true, c.loop-at.invariant.within);
      all = ap (λ (l : List ℕ). l ++ later_segments s.order s.server s.command n (drop (at + n) p)) frame
          ∙ append_assoc c.loop-at.out.items (frame_bytes s.order s.server 48 s.command (take n rest)) (later_segments s.order s.server s.command n (drop (at + n) p))
          ∙ ap (λ (l : List ℕ). c.loop-at.out.items ++ (frame_bytes s.order s.server 48 s.command (take n rest) ++ later_segments s.order s.server s.command n l)) (sym (drop-drop n at p))
          ∙ ap (λ (l : List ℕ). c.loop-at.out.items ++ l) (sym (later-middle s.order s.server s.command n rest c.requires.some more))
          ∙ c.loop-at.invariant.all;
      keeps = keeps-on c.args.out.now.items c.loop-at.out.items c.write_frame.new.out.items c.loop-at.invariant.keeps (keeps-append c.loop-at.out.items c.write_frame.new.out.items (frame_bytes s.order s.server 48 s.command (take n rest)) frame);
    }

pub returns-clause-ok : goal.returns-clause-ok
returns-clause-ok c =
    let s = c.args.sender in
    let at = c.loop-at.at in
    let n = c.args.segment in
    let p = c.args.payload.now in
    let rest = drop at p in
    let fits : length rest ≤ n = omega (arith, length-drop at p, c.loop-at-test.false) in
    let frame : c.write_frame-2.new.out.items ≡ c.loop-at.out.items ++ frame_bytes s.order s.server 32 s.command rest = c.in_ok-write_frame-2.ensures.ok ∙ ap (λ (l : List ℕ). c.loop-at.out.items ++ frame_bytes s.order s.server 32 s.command l) (parts at p c.loop-at.invariant.within) in
    frame ∙ ap (λ (l : List ℕ). c.loop-at.out.items ++ l) (sym (later-last s.order s.server s.command n rest c.requires.some fits)) ∙ c.loop-at.invariant.all
