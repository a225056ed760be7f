-- The segments of a message, as they are written.
use Rattle.std.proofs.Common.{◌≡◌, ℕ, zero, suc, ◌≤◌, ◌<◌, Bool, cond, leb, List, [], ◌∷◌, ◌++◌, length, take, drop, refl, sym, ap, ◌∙◌, arith}
use Rattle.std.proofs.lemmas.List.{length-drop, length-take, take-append-le, take_all, take-append-drop}
use Rattle.std.proofs.lemmas.Bool.{le-leb, lt-leb}
use Rattle.pva_wire.specs.declared.order.Order.{Order}
use Rattle.pva_frames.specs.Spelling.{frame_bytes, later_in, later_segments, Keeps}

-- the bound on the recursion doesn't matter where it is at least the number of bytes
later-fuel : (n m : ℕ) (order : Order) (server : Bool) (command segment : ℕ) (payload : List ℕ) → 0 < segment → length payload ≤ n → length payload ≤ m → later_in n order server command segment payload ≡ later_in m order server command segment payload
unfolding later_in
later-fuel zero zero order server command segment payload some h k = refl
later-fuel zero (suc m) order server command segment [] some h k =
    sym (ap (λ (b : Bool). cond b (frame_bytes order server 32 command []) (frame_bytes order server 48 command (take segment []) ++ later_in m order server command segment (drop segment []))) (le-leb 0 segment (omega arith)))
later-fuel zero (suc m) order server command segment (b ∷ payload) some h k = absurd (omega arith)
later-fuel (suc n) zero order server command segment [] some h k =
    ap (λ (b : Bool). cond b (frame_bytes order server 32 command []) (frame_bytes order server 48 command (take segment []) ++ later_in n order server command segment (drop segment []))) (le-leb 0 segment (omega arith))
later-fuel (suc n) zero order server command segment (b ∷ payload) some h k = absurd (omega arith)
later-fuel (suc n) (suc m) order server command segment payload some h k =
    let less = length-drop segment payload in
    ap (λ (l : List ℕ). cond (leb (length payload) segment) (frame_bytes order server 32 command payload) (frame_bytes order server 48 command (take segment payload) ++ l))
    (later-fuel n m order server command segment (drop segment payload) some (omega arith) (omega arith))

later-suc : (order : Order) (server : Bool) (command segment : ℕ) (payload : List ℕ) → 0 < segment → later_segments order server command segment payload ≡ cond (leb (length payload) segment) (frame_bytes order server 32 command payload) (frame_bytes order server 48 command (take segment payload) ++ later_segments order server command segment (drop segment payload))
unfolding later_segments later_in
later-suc order server command segment payload some =
    let less = length-drop segment payload in
    later-fuel (length payload) (suc (length payload)) order server command segment payload some (omega arith) (omega arith)
    ∙ ap (λ (l : List ℕ). cond (leb (length payload) segment) (frame_bytes order server 32 command payload) (frame_bytes order server 48 command (take segment payload) ++ l))
    (later-fuel (length payload) (length (drop segment payload)) order server command segment (drop segment payload) some (omega arith) (omega arith))

pub later-middle : (order : Order) (server : Bool) (command segment : ℕ) (payload : List ℕ) → 0 < segment → segment < length payload → later_segments order server command segment payload ≡ frame_bytes order server 48 command (take segment payload) ++ later_segments order server command segment (drop segment payload)
later-middle order server command segment payload some more =
    later-suc order server command segment payload some
    ∙ ap (λ (b : Bool). cond b (frame_bytes order server 32 command payload) (frame_bytes order server 48 command (take segment payload) ++ later_segments order server command segment (drop segment payload))) (lt-leb (length payload) segment more)

pub later-last : (order : Order) (server : Bool) (command segment : ℕ) (payload : List ℕ) → 0 < segment → length payload ≤ segment → later_segments order server command segment payload ≡ frame_bytes order server 32 command payload
later-last order server command segment payload some fits =
    later-suc order server command segment payload some
    ∙ ap (λ (b : Bool). cond b (frame_bytes order server 32 command payload) (frame_bytes order server 48 command (take segment payload) ++ later_segments order server command segment (drop segment payload))) (le-leb (length payload) segment fits)

pub keeps-append : (old new x : List ℕ) → new ≡ old ++ x → Keeps old new
keeps-append old new x e = ap (take (length old)) e ∙ take-append-le (length old) old x (omega arith) ∙ take_all (length old) old (omega arith)

pub keeps-on : (old mid new : List ℕ) → Keeps old mid → Keeps mid new → Keeps old new
keeps-on old mid new h k =
    let short : length old ≤ length mid = omega (arith, length-take (length old) mid, ap length h) in
    let all : mid ++ drop (length mid) new ≡ new = ap (λ (l : List ℕ). l ++ drop (length mid) new) (sym k) ∙ take-append-drop (length mid) new in
    ap (take (length old)) (sym all) ∙ take-append-le (length old) mid (drop (length mid) new) short ∙ h
