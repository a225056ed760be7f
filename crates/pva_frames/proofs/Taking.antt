-- Bytes taken one part after another.
use Rattle.std.proofs.Common.{◌≡◌, ℕ, ◌+◌, ◌-◌, ◌≤◌, List, [], ◌++◌, length, take, drop, Option, None, Some, Ok, sym, ap, ◌∙◌, subst, arith, length-append, true}
use Rattle.std.proofs.lemmas.List.{append-nil, take_at, drop_at, take_all, length-drop}
use Rattle.std.proofs.Math.Seq.{take-add}
use Rattle.pva_frames.specs.declared.event.Event.{Event}
use Rattle.pva_frames.specs.declared.fault.FrameFault.{FrameFault}
use Rattle.pva_frames.specs.Messages.{Unfinished}
use Rattle.pva_frames.specs.Assembled.{Assembled, fed}
use Rattle.pva_frames.proofs.Joins.{fed-join, left-size}
use Rattle.pva_frames.specs.Reader.{end_of, Takes, Grows, is_unfinished, first_payload, Brings}
use Rattle.pva_frames.proofs.Bringing.{brings-unfinished}

at_rest : List Event → Unfinished → Assembled
at_rest es left = record { events = es; left = Ok left }

-- some bytes, and then others
pub takes-more : (es fs : List Event) (left mid : Unfinished) (xs ys : List ℕ) (gs : List Event) (fault : Option FrameFault) (after : Unfinished) → Takes es left xs fs None mid → Takes fs mid ys gs fault after → Takes es left (xs ++ ys) gs fault after
unfolding at_rest
takes-more es fs left mid xs ys gs fault after a b =
    sym (fed-join (at_rest es left) xs ys) ∙ ap (λ (x : Assembled). fed x ys) a ∙ b

-- a header was refused: what stands behind it means nothing
pub takes-refused : (es fs : List Event) (left after : Unfinished) (xs ys : List ℕ) (fault : FrameFault) → Takes es left xs fs (Some fault) after → Takes es left (xs ++ ys) fs (Some fault) after
unfolding at_rest
takes-refused es fs left after xs ys fault a =
    sym (fed-join (at_rest es left) xs ys) ∙ ap (λ (x : Assembled). fed x ys) a

-- no bytes
pub takes-nothing : (es : List Event) (left : Unfinished) → is_unfinished left ≡ true → Takes es left [] es None left
takes-nothing es left is = subst (λ (l : List ℕ). Brings es left.place left.run l es None left) (sym (append-nil left.held)) (brings-unfinished es left is)

-- what is left ends where the bytes end
pub takes-end : (es fs : List Event) (left after : Unfinished) (xs : List ℕ) → Takes es left xs fs None after → end_of after ≡ end_of left + length xs
takes-end es fs left after xs a =
    let e = left-size left.place left.run (left.held ++ xs) after (ap (λ (x : Assembled). x.left) a) in
    omega (arith, e, length-append left.held xs)

-- what was there before is there again
pub grown-back : {es : List Event} {p : List ℕ} {fs : List Event} {q : List ℕ} (n m : ℕ) → Grows es p fs q → length es ≡ n → length p ≡ m → (take n fs ≡ es) × (take m (first_payload (drop n fs) q) ≡ p)
grown-back {es} {p} {fs} {q} n m g same size = (
  ap (take n) g.events ∙ take_at es g.added n same,
  ap (λ (l : List Event). take m (first_payload (drop n l) q)) g.events ∙ ap (λ (l : List Event). take m (first_payload l q)) (drop_at es g.added n same)
      ∙ ap (λ (k : ℕ). take k (first_payload g.added q)) (sym size) ∙ g.payload,
)

-- a part of a piece
pub parts : (at : ℕ) (piece : List ℕ) → at ≤ length piece → take (length piece - at) (drop at piece) ≡ drop at piece
parts at piece h = take_all (length piece - at) (drop at piece) (omega (arith, length-drop at piece))

pub part-more : (at n : ℕ) (piece : List ℕ) → at ≤ length piece → take at piece ++ take n (take (length piece - at) (drop at piece)) ≡ take (at + n) piece
part-more at n piece h = ap (λ (l : List ℕ). take at piece ++ take n l) (parts at piece h) ∙ sym (take-add at n piece)
