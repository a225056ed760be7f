use Rattle.std.proofs.Common.{◌≡◌, ◌+◌, ◌-◌, ◌<◌, ◌^◌, ◌++◌, List, ℕ, None, Some, Option, length, take, drop, refl, ap, ◌∙◌, subst, arith, rules}
use Rattle.std.proofs.lemmas.List.{take-append-drop, length-take-le, length-drop}
use Rattle.pva_frames.specs.declared.fault.FrameFault.{FrameFault}
use Rattle.pva_frames.specs.Reader.{unfinished_of, end_of, Takes}
use Rattle.pva_frames.proofs.Taking.{takes-more, takes-refused, takes-nothing, takes-end, grown-back, parts, part-more}
use Rattle.pva_frames.proofs.Growing.{grows-nothing, grows-on}
use Rattle.pva_frames.proofs.reader.Reader.take.Goals as goal

pub loop-at-init : goal.loop-at-init
loop-at-init c =
    let self = c.args.self.now in record {
      within = omega arith;
      takes = takes-nothing c.args.ready.now.items (unfinished_of self.mark self.payload.items) self.sound.unfinished;
      grows = grows-nothing c.args.ready.now.items self.payload.items c.args.ready.now.items refl;
    }

pub take_some-requires-clause-room : goal.take_some-requires-clause-room
take_some-requires-clause-room c =
    let self = c.args.self.now in
    let at = c.loop-at.at in
    let piece = c.args.piece.now in
    let room : end_of (unfinished_of self.mark self.payload.items) + length piece < 2 ^ 64 = c.has_room.ensures.0 (search rules) in
    let here = takes-end c.args.ready.now.items c.loop-at.ready.items (unfinished_of self.mark self.payload.items) (unfinished_of c.loop-at.self.mark c.loop-at.self.payload.items) (take at piece) c.loop-at.invariant.takes in
    let taken = length-take-le at piece c.loop-at.invariant.within in
    let rest = ap length (parts at piece c.loop-at.invariant.within) ∙ length-drop at piece in
    omega (arith, room, here, taken, rest, c.loop-at.invariant.within)

pub returns-in-Some-clause-ok : goal.returns-in-Some-clause-ok
returns-in-Some-clause-ok c =
    let self = c.args.self.now in
    let at = c.loop-at.at in
    let piece = c.args.piece.now in
    let n = c.in-Ok.taken.count in
    let old = unfinished_of self.mark self.payload.items in
    let mid = unfinished_of c.loop-at.self.mark c.loop-at.self.payload.items in
    let new = unfinished_of c.take_some.new.self.mark c.take_some.new.self.payload.items in
    let x = take n (take (length piece - at) (drop at piece)) in
    let last : Takes c.loop-at.ready.items mid x c.take_some.new.ready.items (Some c.in-Some.fault) new =
    subst (λ (f : Option FrameFault). Takes c.loop-at.ready.items mid x c.take_some.new.ready.items f new) c.in-Some.is c.in-Ok.ensures.ok in
    let all : (take at piece ++ x) ++ drop (at + n) piece ≡ piece =
    ap (λ (l : List ℕ). l ++ drop (at + n) piece) (part-more at n piece c.loop-at.invariant.within) ∙ take-append-drop (at + n) piece in
    subst (λ (l : List ℕ). Takes c.args.ready.now.items old l c.take_some.new.ready.items (Some c.in-Some.fault) new) all
    (takes-refused c.args.ready.now.items c.take_some.new.ready.items old new (take at piece ++ x) (drop (at + n) piece) c.in-Some.fault
    (takes-more c.args.ready.now.items c.loop-at.ready.items old mid (take at piece) x c.take_some.new.ready.items (Some c.in-Some.fault) new c.loop-at.invariant.takes last))

pub loop-at-preserved : goal.loop-at-preserved
loop-at-preserved c =
    let self = c.args.self.now in
    let at = c.loop-at.at in
    let piece = c.args.piece.now in
    let n = c.in-Ok.taken.count in
    let old = unfinished_of self.mark self.payload.items in
    let mid = unfinished_of c.loop-at.self.mark c.loop-at.self.payload.items in
    let new = unfinished_of c.take_some.new.self.mark c.take_some.new.self.payload.items in
    let x = take n (take (length piece - at) (drop at piece)) in
    let size = ap length (parts at piece c.loop-at.invariant.within) ∙ length-drop at piece in
    let count = c.in-Ok.ensures.count in
    let last : Takes c.loop-at.ready.items mid x c.take_some.new.ready.items None new =
    subst (λ (f : Option FrameFault). Takes c.loop-at.ready.items mid x c.take_some.new.ready.items f new) c.in_default.is c.in-Ok.ensures.ok in
    record {
      within = omega (arith, count.1, size, c.loop-at.invariant.within);
      takes = subst (λ (l : List ℕ). Takes c.args.ready.now.items old l c.take_some.new.ready.items None new) (part-more at n piece c.loop-at.invariant.within)
          (takes-more c.args.ready.now.items c.loop-at.ready.items old mid (take at piece) x c.take_some.new.ready.items None new c.loop-at.invariant.takes last);
      grows = grows-on c.loop-at.invariant.grows c.take_some.ensures.kept;
    }

pub invariant_of-self : goal.invariant_of-self
invariant_of-self c =
    let self = c.args.self.now in
    let back = grown-back c.len-count.result c.len-size.result (grows-on c.loop-at.invariant.grows c.take_some.ensures.kept) (search rules) (search rules) in
    record { sound = rw (c.undo.ensures.payload, back.1) self.sound }

pub returns-in-Err-clause-unchanged : goal.returns-in-Err-clause-unchanged
returns-in-Err-clause-unchanged c =
    let self = c.args.self.now in
    let back = grown-back c.len-count.result c.len-size.result (grows-on c.loop-at.invariant.grows c.take_some.ensures.kept) (search rules) (search rules) in
    ap (unfinished_of self.mark) (c.undo.ensures.payload ∙ back.1)
