-- A header is put in front of a payload that stands already.
use Rattle.std.proofs.Common.{◌≡◌, ℕ, ◌+◌, ◌-◌, ◌≤◌, Bool, cond, List, [], ◌++◌, length, take, drop, sym, ap, ◌∙◌, arith, length-append}
use Rattle.std.proofs.lemmas.List.{append-nil, take_at, drop_all, length-drop, length-take, drop-drop}
use Rattle.std.proofs.lemmas.Bool.{le-leb}
use Rattle.pva_wire.specs.declared.order.Order.{Order}
use Rattle.pva_frames.specs.Spelling.{header_bytes, frame_bytes, later_segments, message_bytes}
use Rattle.pva_frames.proofs.Taking.{parts}
use Rattle.pva_frames.proofs.ReadBack.{header-size}

-- what stands in front of the room, then the header, then the payload: the bytes are as many as before
pub message_there : (order : Order) (server : Bool) (command segment start len number : ℕ) (items frame : List ℕ) → length items ≡ len → start + 8 ≤ length items → number ≡ len - start - 8 → number ≤ segment
    → frame ≡ header_bytes order server 0 command number ++ drop 8 (take (length items - start) (drop start items))
    → take len ((take start items ++ (frame ++ drop (length items - start) (drop start items))) ++ drop (length (take start items ++ (frame ++ drop (length items - start) (drop start items)))) items)
    ≡ take start items ++ message_bytes order server command (drop (start + 8) items) segment
message_there order server command segment start len number items frame long room count short is =
    let payload = drop (start + 8) items in
    let front = take start items in
    let size = length-drop (start + 8) items in
    let same : number ≡ length payload = omega (arith, size, long, count) in
    let whole = frame_bytes order server 0 command payload in
    let behind : drop (length items - start) (drop start items) ≡ [] = drop_all (length items - start) (drop start items) (omega (arith, length-drop start items)) in
    let ahead : frame ≡ whole =
    is ∙ ap (λ (l : List ℕ). header_bytes order server 0 command number ++ drop 8 l) (parts start items (omega (arith, room)))
    ∙ ap (λ (l : List ℕ). header_bytes order server 0 command number ++ l) (drop-drop 8 start items)
    ∙ ap (λ (n : ℕ). header_bytes order server 0 command n ++ payload) same in
    let all : front ++ (frame ++ drop (length items - start) (drop start items)) ≡ front ++ whole =
    ap (λ (l : List ℕ). front ++ (frame ++ l)) behind ∙ ap (λ (l : List ℕ). front ++ l) (append-nil frame ∙ ahead) in
    let as_long : length (front ++ whole) ≡ len =
    omega (arith, long, room, size, length-append front whole, length-take start items, length-append (header_bytes order server 0 command (length payload)) payload, header-size order server 0 command (length payload)) in
    let filled = ap (λ (l : List ℕ). take len (l ++ drop (length l) items)) all in
    let nothing : drop (length (front ++ whole)) items ≡ [] = drop_all (length (front ++ whole)) items (omega (arith, long, as_long)) in
    filled
    ∙ ap (λ (l : List ℕ). take len ((front ++ whole) ++ l)) nothing
    ∙ take_at (front ++ whole) [] len as_long
    ∙ ap (λ (b : Bool). front ++ cond b whole (frame_bytes order server 16 command (take segment payload) ++ later_segments order server command segment (drop segment payload)))
    (sym (le-leb (length payload) segment (omega (arith, same, short))))
