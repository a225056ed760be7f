-- Frames of bytes, and of further bytes behind them.
use Rattle.std.proofs.Common.{◌≡◌, ℕ, zero, suc, ◌+◌, ◌-◌, ◌≤◌, Bool, true, false, cond, List, [], ◌∷◌, ◌++◌, length, take, drop, get_or, slice_index, refl, sym, ap, ◌∙◌, arith, length-append}
use Rattle.std.proofs.lemmas.List.{get_or_append_left, drop-append-le, take-append-le, length-drop, length-take-le, take-append-drop}
use Rattle.std.proofs.lemmas.Bool.Decides.{nat_tests}
use Rattle.byteorder.specs.Numbers.{little_from-append, big_from-append}
use Rattle.pva_wire.specs.declared.order.Order.{Order}
use Rattle.pva_wire.specs.declared.order.Order.TheVariants.{Little, Big}
use Rattle.pva_frames.specs.declared.header.Header.{Header}
use Rattle.pva_frames.specs.Numbers.{number_of}
use Rattle.pva_frames.specs.Headers.{magic, order_of, header_of, payload_size}
use Rattle.pva_frames.specs.Frames.{Frame, Cut, size_of, has_frame, front, uncut, with_frame, cut_in, cut}

number-append : (order : Order) (xs ys : List ℕ) → 4 ≤ length xs → number_of order (xs ++ ys) ≡ number_of order xs
number-append Little xs ys h = little_from-append 4 xs ys h
number-append Big xs ys h = big_from-append 4 xs ys h

-- a header is its first eight bytes
pub header-append : (xs ys : List ℕ) → 8 ≤ length xs → header_of (xs ++ ys) ≡ header_of xs
unfolding header_of
header-append xs ys h =
    let flags = get_or_append_left xs ys 0 2 (omega arith) in
    let command = get_or_append_left xs ys 0 3 (omega arith) in
    let long : 4 ≤ length (drop 4 xs) = simp length-drop (omega arith) in
    let number : number_of (order_of (get_or xs 2 0)) (drop 4 (xs ++ ys)) ≡ number_of (order_of (get_or xs 2 0)) (drop 4 xs) =
    ap (number_of (order_of (get_or xs 2 0))) (drop-append-le 4 xs ys (omega arith)) ∙ number-append (order_of (get_or xs 2 0)) (drop 4 xs) ys long in
    rw (flags, command, number) refl

-- the two tests of a whole frame
pub record FrameInFront (bytes : List ℕ) : Type 0 where
  pub first : slice_index bytes 0 ≡ magic
  pub whole : size_of bytes ≤ length bytes

pub frame_in_front : (bytes : List ℕ) → has_frame bytes ≡ true → FrameInFront bytes
frame_in_front bytes h = record { first = grind (arith, nat_tests); whole = grind (arith, nat_tests) }

pub has_frame-true : (bytes : List ℕ) → FrameInFront bytes → has_frame bytes ≡ true
has_frame-true bytes h = grind (arith, nat_tests, h.first, h.whole)

pub header-append-frame : (xs ys : List ℕ) → size_of xs ≤ length xs → header_of (xs ++ ys) ≡ header_of xs
header-append-frame xs ys h = header-append xs ys (omega arith)

size-append : (xs ys : List ℕ) → size_of xs ≤ length xs → size_of (xs ++ ys) ≡ size_of xs
size-append xs ys h = ap (λ (head : Header). 8 + payload_size head) (header-append-frame xs ys h)

pub has_frame-append : (xs ys : List ℕ) → has_frame xs ≡ true → has_frame (xs ++ ys) ≡ true
has_frame-append xs ys h =
    let f = frame_in_front xs h in
    let first = get_or_append_left xs ys 0 0 (omega (arith, f.whole)) in
    has_frame-true (xs ++ ys) (record {
      first = first ∙ f.first;
      whole = let e = size-append xs ys f.whole in omega (arith, f.whole, e, length-append xs ys);
    })

front-append : (at : ℕ) (xs ys : List ℕ) → size_of xs ≤ length xs → front at (xs ++ ys) ≡ front at xs
front-append at xs ys h =
    let e : take (size_of (xs ++ ys)) (xs ++ ys) ≡ take (size_of xs) xs =
    ap (λ (n : ℕ). take n (xs ++ ys)) (size-append xs ys h) ∙ take-append-le (size_of xs) xs ys h in
    ap (λ (bytes : List ℕ). let f : Frame = record { place = at; bytes = bytes } in f) e

-- the bound on the recursion doesn't matter where it is at least the number of bytes
fuel : (n m at : ℕ) (bytes : List ℕ) → length bytes ≤ n → length bytes ≤ m → cut_in n at bytes ≡ cut_in m at bytes
unfolding cut_in
fuel zero zero at bytes h k = refl
fuel zero (suc m) at [] h k = refl
fuel zero (suc m) at (b ∷ bytes) h k = absurd (omega arith)
fuel (suc n) zero at [] h k = refl
fuel (suc n) zero at (b ∷ bytes) h k = absurd (omega arith)
fuel (suc n) (suc m) at bytes h k =
    let size = size_of bytes in
    let less : length (drop size bytes) ≡ length bytes - size = length-drop size bytes in
    let inner = fuel n m (at + size) (drop size bytes) (omega arith) (omega arith) in
    elim (has_frame bytes) as (λ (b : Bool). cond b (with_frame (front at bytes) (cut_in n (at + size) (drop size bytes))) (uncut at bytes) ≡ cond b (with_frame (front at bytes) (cut_in m (at + size) (drop size bytes))) (uncut at bytes)) [
      | true ↦ ap (with_frame (front at bytes)) inner
      | false ↦ refl
    ]

-- one frame, and the frames behind it
pub cut-step : (at : ℕ) (bytes : List ℕ) → cut at bytes ≡ cond (has_frame bytes) (with_frame (front at bytes) (cut (at + size_of bytes) (drop (size_of bytes) bytes))) (uncut at bytes)
unfolding cut cut_in
cut-step at bytes =
    let size = size_of bytes in
    let less : length (drop size bytes) ≡ length bytes - size = length-drop size bytes in
    fuel (length bytes) (suc (length bytes)) at bytes (omega arith) (omega arith)
    ∙ ap (λ (c : Cut). cond (has_frame bytes) (with_frame (front at bytes) c) (uncut at bytes)) (fuel (length bytes) (length (drop size bytes)) (at + size) (drop size bytes) (omega arith) (omega arith))

pub cut-frame : (at : ℕ) (bytes : List ℕ) → has_frame bytes ≡ true → cut at bytes ≡ with_frame (front at bytes) (cut (at + size_of bytes) (drop (size_of bytes) bytes))
cut-frame at bytes h = cut-step at bytes ∙ ap (λ (b : Bool). cond b (with_frame (front at bytes) (cut (at + size_of bytes) (drop (size_of bytes) bytes))) (uncut at bytes)) h

pub cut-none : (at : ℕ) (bytes : List ℕ) → has_frame bytes ≡ false → cut at bytes ≡ uncut at bytes
cut-none at bytes h = cut-step at bytes ∙ ap (λ (b : Bool). cond b (with_frame (front at bytes) (cut (at + size_of bytes) (drop (size_of bytes) bytes))) (uncut at bytes)) h

-- the frames of bytes, and then those of the rest and further bytes
unfoldable pub cut_more : Cut → List ℕ → Cut
cut_more c ys = let d = cut c.place (c.held ++ ys) in record { frames = c.frames ++ d.frames; place = d.place; held = d.held }

cut-join-in : (n at : ℕ) (xs ys : List ℕ) → length xs ≤ n → cut at (xs ++ ys) ≡ cut_more (cut at xs) ys
unfolding cut_more
cut-join-in zero at [] ys h = ap (λ (c : Cut). cut_more c ys) (sym (cut-none at [] refl))
cut-join-in zero at (x ∷ xs) ys h = absurd (omega arith)
cut-join-in (suc n) at xs ys h =
    let size = size_of xs in
    let step : (b : Bool) → has_frame xs ≡ b → cut at (xs ++ ys) ≡ cut_more (cut at xs) ys =
    λ b. elim b as (λ (b : Bool). has_frame xs ≡ b → cut at (xs ++ ys) ≡ cut_more (cut at xs) ys) [
      | true ↦ λ is.
          let f = frame_in_front xs is in
          let less : length (drop size xs) ≡ length xs - size = length-drop size xs in
          let rest : drop (size_of (xs ++ ys)) (xs ++ ys) ≡ drop size xs ++ ys =
          ap (λ (n : ℕ). drop n (xs ++ ys)) (size-append xs ys f.whole) ∙ drop-append-le size xs ys f.whole in
          cut-frame at (xs ++ ys) (has_frame-append xs ys is)
          ∙ ap (λ (g : Frame). with_frame g (cut (at + size_of (xs ++ ys)) (drop (size_of (xs ++ ys)) (xs ++ ys)))) (front-append at xs ys f.whole)
          ∙ ap (λ (m : ℕ). with_frame (front at xs) (cut (at + m) (drop (size_of (xs ++ ys)) (xs ++ ys)))) (size-append xs ys f.whole)
          ∙ ap (λ (l : List ℕ). with_frame (front at xs) (cut (at + size) l)) rest
          ∙ ap (with_frame (front at xs)) (cut-join-in n (at + size) (drop size xs) ys (omega (arith, f.whole)))
          ∙ ap (λ (c : Cut). cut_more c ys) (sym (cut-frame at xs is))
      | false ↦ λ is. ap (λ (c : Cut). cut_more c ys) (sym (cut-none at xs is))
    ] in
    step (has_frame xs) refl

pub cut-join : (at : ℕ) (xs ys : List ℕ) → cut at (xs ++ ys) ≡ cut_more (cut at xs) ys
cut-join at xs ys = cut-join-in (length xs) at xs ys (omega arith)

-- the rest is no whole frame
held-unwhole-in : (n at : ℕ) (xs : List ℕ) → length xs ≤ n → has_frame (cut at xs).held ≡ false
held-unwhole-in zero at [] h = ap (λ (c : Cut). has_frame c.held) (cut-none at [] refl)
held-unwhole-in zero at (x ∷ xs) h = absurd (omega arith)
held-unwhole-in (suc n) at xs h =
    let size = size_of xs in
    let step : (b : Bool) → has_frame xs ≡ b → has_frame (cut at xs).held ≡ false =
    λ b. elim b as (λ (b : Bool). has_frame xs ≡ b → has_frame (cut at xs).held ≡ false) [
      | true ↦ λ is.
          let less : length (drop size xs) ≡ length xs - size = length-drop size xs in
          ap (λ (c : Cut). has_frame c.held) (cut-frame at xs is) ∙ held-unwhole-in n (at + size) (drop size xs) (omega arith)
      | false ↦ λ is. ap (λ (c : Cut). has_frame c.held) (cut-none at xs is) ∙ is
    ] in
    step (has_frame xs) refl

pub held-unwhole : (at : ℕ) (xs : List ℕ) → has_frame (cut at xs).held ≡ false
held-unwhole at xs = held-unwhole-in (length xs) at xs (omega arith)

pub header-take : (n : ℕ) (xs : List ℕ) → 8 ≤ n → n ≤ length xs → header_of (take n xs) ≡ header_of xs
header-take n xs h k =
    let long : length (take n xs) ≡ n = length-take-le n xs k in
    sym (ap header_of (sym (take-append-drop n xs)) ∙ header-append (take n xs) (drop n xs) (omega arith))

-- no byte is lost or counted twice
cut-size-in : (n at : ℕ) (xs : List ℕ) → length xs ≤ n → (cut at xs).place + length (cut at xs).held ≡ at + length xs
cut-size-in zero at [] h = ap (λ (c : Cut). c.place + length c.held) (cut-none at [] refl)
cut-size-in zero at (x ∷ xs) h = absurd (omega arith)
cut-size-in (suc n) at xs h =
    let size = size_of xs in
    let step : (b : Bool) → has_frame xs ≡ b → (cut at xs).place + length (cut at xs).held ≡ at + length xs =
    λ b. elim b as (λ (b : Bool). has_frame xs ≡ b → (cut at xs).place + length (cut at xs).held ≡ at + length xs) [
      | true ↦ λ is.
          let f = frame_in_front xs is in
          let less : length (drop size xs) ≡ length xs - size = length-drop size xs in
          let inner = cut-size-in n (at + size) (drop size xs) (omega (arith, f.whole)) in
          ap (λ (c : Cut). c.place + length c.held) (cut-frame at xs is) ∙ inner ∙ omega (arith, less, f.whole)
      | false ↦ λ is. ap (λ (c : Cut). c.place + length c.held) (cut-none at xs is)
    ] in
    step (has_frame xs) refl

pub cut-size : (at : ℕ) (xs : List ℕ) → (cut at xs).place + length (cut at xs).held ≡ at + length xs
cut-size at xs = cut-size-in (length xs) at xs (omega arith)
