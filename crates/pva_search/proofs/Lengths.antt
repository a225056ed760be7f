-- How many bytes a search takes, and a response.
use Rattle.std.proofs.Common.{◌≡◌, ◌∙◌, ℕ, zero, suc, Bool, true, not, ◌+◌, ◌*◌, ◌≤◌, List, [], ◌∷◌, ◌++◌, length, drop, Some, Ok, Option, None, sym, ap, arith, length-append, length-drop, inl, inr}
use Rattle.std.specs.List.{flat_map}
use Rattle.pva_wire.specs.declared.order.Order.{Order}
use Rattle.pva_wire.specs.Spelling.{IsBytes, SpellsNumber, SpellsSize, SpellsText, number_bytes}
use Rattle.pva_wire.specs.Reading.{Read, ◌>>=◌}
use Rattle.pva_wire.proofs.Digits.{number_len}
use Rattle.pva_wire.proofs.Takes.{ok_is, bind_ok}
use Rattle.pva_frames.specs.Spelling.{header_bytes}
use Rattle.pva_search.specs.declared.setup.Setup.{Setup}
use Rattle.pva_search.specs.Fields.{canonical}
use Rattle.pva_search.specs.Messages.{Search, search_fields, response_fields, response_bytes, flag, zero_address}
use Rattle.pva_search.specs.Grammar.{SpellsEach, SpellsChannel, Spells}
use Rattle.pva_search.specs.Reading.{each_at, search_in}
use Rattle.pva_search.specs.Answers.{response_of, is_empty}
use Rattle.pva_search.proofs.Taking.{search_take}
use Rattle.pva_search.proofs.Within.{search_within}

size_least : (o : Order) (x : Option ℕ) (xs : List ℕ) → SpellsSize o xs x → 1 ≤ length xs
size_least o None xs h = omega (arith, ap length h)
size_least o (Some n) xs (inl h) = omega (arith, ap length h.1)
size_least o (Some n) xs (inr h) = omega (arith, ap length h.1)

text_least : (o : Order) (xs text : List ℕ) → SpellsText o xs text → 1 ≤ length xs
text_least o xs text (inl h) = omega (arith, ap length h.0)
text_least o xs text (inr (size, is, valid, parts)) =
    omega (arith, ap length parts, length-append size text, size_least o (Some (length text)) size is)

number_size : (o : Order) (n x : ℕ) (xs : List ℕ) → SpellsNumber o n xs x → length xs ≡ n
number_size o n x xs h = ap length h.1 ∙ number_len o n x

pub channels_least : (o : Order) (cs : List (ℕ × List ℕ)) (xs : List ℕ) → SpellsEach (SpellsChannel o) xs cs → 5 * length cs ≤ length xs
channels_least o [] xs h = omega arith
channels_least o (x ∷ cs) xs (head, tail, (number, name, first, second, both), others, parts) =
    omega (
      arith,
      ap length parts,
      length-append head tail,
      ap length both,
      length-append number name,
      number_size o 4 x.0 number first,
      text_least o name x.1 second,
      channels_least o cs tail others,
    )

search_least : (o : Order) (unused : List ℕ) (s : Search) (front : List ℕ) → length unused ≡ 3 → length s.head.address ≡ 16
    → SpellsEach (Spells o) front (search_fields unused s) → 29 + 5 * length s.channels ≤ length front
search_least o unused s front three sixteen (h1, t1, s1, (h2, t2, s2, (h3, t3, s3, (h4, t4, s4, (h5, t5, s5, (h6, t6, (c6, r6, count6, each6, q6), (h7, t7, (c7, r7, count7, each7, q7), end, p7), p6), p5), p4), p3), p2), p1) =
    let n1 = number_size o 4 s.head.sequence h1 s1 in
    let n2 = number_size o 1 s.head.flags h2 s2 in
    let n3 = ap length s3 in
    let n4 = ap length s4 in
    let n5 = number_size o 2 s.head.port h5 s5 in
    let n6 = size_least o (Some (length s.protocols)) c6 count6 in
    let n7 = number_size o 2 (length s.channels) c7 count7 in
    let n8 = channels_least o s.channels r7 each7 in
    let m1 = ap length p1 ∙ length-append h1 t1 in
    let m2 = ap length p2 ∙ length-append h2 t2 in
    let m3 = ap length p3 ∙ length-append h3 t3 in
    let m4 = ap length p4 ∙ length-append h4 t4 in
    let m5 = ap length p5 ∙ length-append h5 t5 in
    let m6 = ap length p6 ∙ length-append h6 t6 in
    let k6 = ap length q6 ∙ length-append c6 r6 in
    let m7 = ap length p7 ∙ length-append h7 t7 in
    let k7 = ap length q7 ∙ length-append c7 r7 in
    omega arith

-- a datagram that is a search takes 37 bytes and five for each channel
pub search_size : (datagram : List ℕ) (o : Order) (s : Search) → IsBytes datagram → search_in datagram ≡ Some (o, s) → 37 + 5 * length s.channels ≤ length datagram
search_size datagram o s fits h =
    let w = search_within datagram o s fits h in
    let t = search_take o (drop 8 datagram) (s, w.rest) w.fits w.given in
    let least = search_least o t.0 s t.3.0 t.1 t.2 t.3.1 in
    omega (arith, least, ap length t.3.2.parts, length-append t.3.0 w.rest, length-drop 8 datagram)

pub each_length : {A : Type 0} (one : List ℕ → Read A) (n : ℕ) (xs : List ℕ) (ys : List A) (rest : List ℕ) → each_at one n xs ≡ Ok (ys, rest) → length ys ≡ n
unfolding each_at
each_length {A} one zero xs ys rest h = sym (ap (λ (z : List A × List ℕ). length z.0) (ok_is ([], xs) (ys, rest) h))
each_length {A} one (suc n) xs ys rest h =
    let a = bind_ok (one xs) (λ y. each_at one n y.1 >>= λ zs. Ok (y.0 ∷ zs.0, zs.1)) (ys, rest) h in
    let b = bind_ok (each_at one n a.0.1) (λ zs. Ok (a.0.0 ∷ zs.0, zs.1)) (ys, rest) a.2 in
    let e = ok_is (a.0.0 ∷ b.0.0, b.0.1) (ys, rest) b.2 in
    omega (arith, ap (λ (z : List A × List ℕ). length z.0) e, each_length one n a.0.1 b.0.0 b.0.1 b.1)

head_size : (o : Order) (server : Bool) (command n : ℕ) → length (header_bytes o server 0 command n) ≡ 8
head_size o server command n = omega (arith, number_len o 4 n)

numbers_size : (o : Order) (ns : List ℕ) → length (flat_map (number_bytes o 4) ns) ≡ 4 * length ns
numbers_size o [] = omega arith
numbers_size o (n ∷ ns) =
    omega (arith, length-append (number_bytes o 4 n) (flat_map (number_bytes o 4) ns), number_len o 4 n, numbers_size o ns)

pub payload_size : (o : Order) (setup : Setup) (sequence : ℕ) (found : List ℕ) → length setup.guid ≡ 12
    → length (canonical o (response_fields (response_of setup sequence found))) ≡ 41 + 4 * length found
payload_size o setup sequence found twelve =
    let told = flag (not (is_empty found)) in
    let numbers = flat_map (number_bytes o 4) found in
    let last = number_bytes o 2 (length found) ++ numbers in
    let behind_port = 3 ∷ 116 ∷ 99 ∷ 112 ∷ (number_bytes o 1 told ++ (last ++ [])) in
    let behind_address = number_bytes o 2 setup.port ++ behind_port in
    let behind_sequence = zero_address ++ behind_address in
    omega (
      arith,
      numbers_size o found,
      number_len o 4 sequence,
      number_len o 2 setup.port,
      number_len o 1 told,
      number_len o 2 (length found),
      length-append setup.guid (number_bytes o 4 sequence ++ behind_sequence),
      length-append (number_bytes o 4 sequence) behind_sequence,
      length-append (number_bytes o 2 setup.port) behind_port,
      length-append (number_bytes o 1 told) (last ++ []),
      length-append last [],
      length-append (number_bytes o 2 (length found)) numbers,
    )

pub response_size : (o : Order) (setup : Setup) (sequence : ℕ) (found : List ℕ) → length setup.guid ≡ 12
    → length (response_bytes o (response_of setup sequence found)) ≡ 49 + 4 * length found
response_size o setup sequence found twelve =
    let payload = canonical o (response_fields (response_of setup sequence found)) in
    omega (arith, length-append (header_bytes o true 0 4 (length payload)) payload, head_size o true 4 (length payload), payload_size o setup sequence found twelve)
