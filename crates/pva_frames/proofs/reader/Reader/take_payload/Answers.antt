use Rattle.std.proofs.Common.{◌≡◌, ◌+◌, ◌-◌, ◌<◌, ◌++◌, List, ℕ, None, length, take, refl, sym, ap, subst, arith, length-append}
use Rattle.std.proofs.lemmas.List.{take_all, length-take-le}
use Rattle.std.specs.Result.{is_ok}
use Rattle.pva_frames.specs.declared.header.Header.{Header}
use Rattle.pva_frames.specs.Headers.{header_of}
use Rattle.pva_frames.specs.Reader.{run_size, unfinished_of, Takes}
use Rattle.pva_frames.proofs.Body.{coming, goes-on, goes-to-end-as, ends-sound, sound-appended}
use Rattle.pva_frames.proofs.Growing.{grows-longer, grows-on}
use Rattle.pva_frames.proofs.reader.Reader.take_payload.Goals as goal

pub overflow_sub-missing-2 : goal.overflow_sub-missing-2
overflow_sub-missing-2 c =
    let self = c.args.self.now in
    let come = coming self.mark self.payload.items self.sound c.requires.filled in
    let number = ap (λ (h : Header). h.number) c.header_in-header.ensures in
    omega (arith, come.missing, number, c.len.ensures, c.run_size.ensures)

pub invariant_of-self : goal.invariant_of-self
invariant_of-self c =
    let self = c.args.self.now in
    let come = coming self.mark self.payload.items self.sound c.requires.filled in
    let number = ap (λ (h : Header). h.number) c.header_in-header.ensures in
    let less : length self.payload.items + length c.args.bytes.now < run_size self.mark.run + (header_of self.mark.head).number =
    omega (arith, number, c.len.ensures, c.run_size.ensures, c.if-bytes-missing.true, self.sound.run) in
    record { sound = rw c.extend_from_slice.ensures.items (sound-appended (is_ok c.extend_from_slice.result) c.args.ready.now.items self.mark self.payload.items c.args.bytes.now self.sound c.requires.filled less) }

pub returns-then-bytes-missing-clause-ok : goal.returns-then-bytes-missing-clause-ok
returns-then-bytes-missing-clause-ok c =
    let self = c.args.self.now in
    let number = ap (λ (h : Header). h.number) c.header_in-header.ensures in
    let less : length self.payload.items + length c.args.bytes.now < run_size self.mark.run + (header_of self.mark.head).number =
    omega (arith, number, c.len.ensures, c.run_size.ensures, c.if-bytes-missing.true, self.sound.run) in
    let on = goes-on c.args.ready.now.items self.mark self.payload.items c.args.bytes.now self.sound c.requires.filled less in
    let left = unfinished_of self.mark self.payload.items in
    subst (λ (x : List ℕ). Takes c.args.ready.now.items left x c.args.ready.now.items None (unfinished_of self.mark c.extend_from_slice.new.self.items)) (sym (take_all (length c.args.bytes.now) c.args.bytes.now (omega arith)))
    (subst (λ (p : List ℕ). Takes c.args.ready.now.items left c.args.bytes.now c.args.ready.now.items None (unfinished_of self.mark p)) (sym c.in_ok-extend_from_slice.ensures.items) on.brings)

pub returns-then-bytes-missing-clause-kept : goal.returns-then-bytes-missing-clause-kept
returns-then-bytes-missing-clause-kept c =
    grows-longer c.args.ready.now.items c.args.self.now.payload.items c.args.ready.now.items c.extend_from_slice.new.self.items c.args.bytes.now refl c.in_ok-extend_from_slice.ensures.items

pub end_frame-requires-clause-whole : goal.end_frame-requires-clause-whole
end_frame-requires-clause-whole c =
    let self = c.args.self.now in
    let come = coming self.mark self.payload.items self.sound c.requires.filled in
    let number = ap (λ (h : Header). h.number) c.header_in-header.ensures in
    let x = take (c.header_in-header.result.number - (c.len.result - c.run_size.result)) c.args.bytes.now in
    let items : c.extend_from_slice-2.new.self.items ≡ self.payload.items ++ x = c.in_ok-extend_from_slice-2.ensures.items in
    let size = length-take-le (c.header_in-header.result.number - (c.len.result - c.run_size.result)) c.args.bytes.now c.if-bytes-missing.false in
    let whole : length c.extend_from_slice-2.new.self.items ≡ run_size self.mark.run + c.header_in-header.result.number =
    omega (arith, come.missing, number, c.len.ensures, c.run_size.ensures, self.sound.run, size, ap length items, length-append self.payload.items x) in
    whole

pub end_frame-requires-clause-fits : goal.end_frame-requires-clause-fits
end_frame-requires-clause-fits c =
    let self = c.args.self.now in
    let come = coming self.mark self.payload.items self.sound c.requires.filled in
    let number = ap (λ (h : Header). h.number) c.header_in-header.ensures in
    let whole = end_frame-requires-clause-whole c in
    omega (arith, come.fits, number, whole)

pub invariant_of-self-2 : goal.invariant_of-self-2
invariant_of-self-2 c = record { sound = ends-sound c.end_frame.new.mark c.end_frame.new.payload.items c.end_frame.ensures.ends }

pub returns-clause-count : goal.returns-clause-count
returns-clause-count c =
    let self = c.args.self.now in
    let come = coming self.mark self.payload.items self.sound c.requires.filled in
    let number = ap (λ (h : Header). h.number) c.header_in-header.ensures in
    (omega (arith, come.missing, number, c.len.ensures, c.run_size.ensures, self.sound.run), c.if-bytes-missing.false)

pub returns-clause-ok : goal.returns-clause-ok
returns-clause-ok c =
    let self = c.args.self.now in
    let come = coming self.mark self.payload.items self.sound c.requires.filled in
    let number = ap (λ (h : Header). h.number) c.header_in-header.ensures in
    let x = take (c.header_in-header.result.number - (c.len.result - c.run_size.result)) c.args.bytes.now in
    let items : c.extend_from_slice-2.new.self.items ≡ self.payload.items ++ x = c.in_ok-extend_from_slice-2.ensures.items in
    let size = length-take-le (c.header_in-header.result.number - (c.len.result - c.run_size.result)) c.args.bytes.now c.if-bytes-missing.false in
    let whole : length c.extend_from_slice-2.new.self.items ≡ run_size self.mark.run + c.header_in-header.result.number =
    omega (arith, come.missing, number, c.len.ensures, c.run_size.ensures, self.sound.run, size, ap length items, length-append self.payload.items x) in
    goes-to-end-as c.args.ready.now.items self.mark self.payload.items x c.extend_from_slice-2.new.self.items c.header_in-header.result c.end_frame.new.mark c.end_frame.new.payload.items c.reserve.new.self.items c.end_frame.new.ready.items self.sound c.requires.filled items c.header_in-header.ensures whole c.end_frame.ensures.ends c.reserve.ensures.items c.end_frame.ensures.event

pub returns-clause-kept : goal.returns-clause-kept
returns-clause-kept c =
    let self = c.args.self.now in
    let x = take (c.header_in-header.result.number - (c.len.result - c.run_size.result)) c.args.bytes.now in
    let items : c.extend_from_slice-2.new.self.items ≡ self.payload.items ++ x = c.in_ok-extend_from_slice-2.ensures.items in
    grows-on (grows-longer c.args.ready.now.items self.payload.items c.reserve.new.self.items c.extend_from_slice-2.new.self.items x c.reserve.ensures.items items) c.end_frame.ensures.kept
