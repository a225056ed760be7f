use Rattle.std.proofs.Common.{◌≡◌, ◌∙◌, ◌++◌, ap, sym, append_assoc, arith, ℕ}
use Rattle.std.proofs.lemmas.List.FromFn.{map-range_with_len_more}
use Rattle.pva_wire.specs.Bits.{place, byte_of}
use Rattle.pva_wire.proofs.bits.put_body.Goals as goal

pub loop-j-preserved : goal.loop-j-preserved
loop-j-preserved c =
    let f : ℕ → ℕ = λ j. byte_of c.args.bits.now (place c.args.order c.args.count j) in
    let x : c.byte.result ≡ f c.loop-j.j = c.byte.ensures ∙ ap (byte_of c.args.bits.now) c.byte_place-place.ensures.place in
    c.in_ok-push.ensures.items ∙ rw (c.loop-j.invariant, x) (append_assoc c.args.out.now.items _ _ ∙ ap (λ xs. c.args.out.now.items ++ xs) (sym (map-range_with_len_more f 0 c.loop-j.j c.loop-j.j (omega arith))))
