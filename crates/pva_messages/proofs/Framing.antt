-- A message whose payload was written straight behind the room for its header.
use Rattle.std.proofs.Common.{◌≡◌, ◌∙◌, ℕ, ◌+◌, ◌≤◌, Bool, List, ◌++◌, length, take, drop, Result, Ok, Err, OnOk, OnErr, refl, sym, ap, arith, append_assoc, length-append}
use Rattle.std.proofs.lemmas.List.{take_at, drop_at}
use Rattle.pva_wire.specs.declared.order.Order.{Order}
use Rattle.pvd_codec.specs.Written.{Begins}
use Rattle.pva_frames.specs.Spelling.{header_room, message_bytes}

room_size : length header_room ≡ 8
room_size = refl

module _ (start : ℕ) (old mid full payload : List ℕ) (at : start ≡ length old) (room : mid ≡ old ++ header_room) (written : full ≡ mid ++ payload) where
  -- the room stands where it is said to
  pub roomy : start + 8 ≤ length full
  roomy = omega (arith, at, ap length room, ap length written, length-append old header_room, length-append mid payload, room_size)

  -- what was there is still there
  pub unframed : take start full ≡ old
  unframed =
      ap (take start) (written ∙ ap (λ (l : List ℕ). l ++ payload) room ∙ append_assoc old header_room payload) ∙ take_at old (header_room ++ payload) start (sym at)

  -- the payload is that of the message
  whole : (order : Order) (server : Bool) (command number segment : ℕ) (new : List ℕ) → command ≡ number → new ≡ take start full ++ message_bytes order server command (drop (start + 8) full) segment
      → new ≡ old ++ message_bytes order server number payload segment
  whole order server command number segment new named ended =
      let long : length mid ≡ start + 8 = omega (arith, at, ap length room, length-append old header_room, room_size) in
      let behind : drop (start + 8) full ≡ payload = ap (drop (start + 8)) written ∙ drop_at mid payload (start + 8) long in
      ended ∙ ap (λ (l : List ℕ). l ++ message_bytes order server command (drop (start + 8) full) segment) unframed
      ∙ ap (λ (l : List ℕ). old ++ message_bytes order server command l segment) behind
      ∙ ap (λ (n : ℕ). old ++ message_bytes order server n payload segment) named

  pub framed : {A E : Type 0} (order : Order) (server : Bool) (command number segment : ℕ) (new : List ℕ) (r : Result A E) → command ≡ number
      → OnOk r (new ≡ take start full ++ message_bytes order server command (drop (start + 8) full) segment)
      → OnOk r (new ≡ old ++ message_bytes order server number payload segment)
  framed order server command number segment new (Ok x) named h = whole order server command number segment new named h
  framed order server command number segment new (Err e) named h = tt

  -- nothing is left of a message that couldn't be framed
  pub undone : {A E : Type 0} (new : List ℕ) (r : Result A E) → OnErr r (new ≡ take start full) → OnErr r (new ≡ old)
  undone new (Ok x) h = tt
  undone new (Err e) h = h ∙ unframed

-- what was there is still there where only a part was written
pub taken_back : (start : ℕ) (old mid full : List ℕ) → start ≡ length old → mid ≡ old ++ header_room → Begins mid full → take start full ≡ old
taken_back start old mid full at room begun = unframed start old mid full begun.after at room begun.parts

-- what holds anyway
pub on_ok : {A E : Type 0} {P : Type 0} (r : Result A E) → P → OnOk r P
on_ok (Ok x) p = p
on_ok (Err e) p = tt
