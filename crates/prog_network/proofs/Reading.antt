-- What is read as an address is what is meant by one.
use Rattle.std.proofs.Common.{◌≡◌, ◌≢◌, ℕ, zero, suc, ◌<◌, ◌≤◌, ◌+◌, ◌^◌, ◌%◌, List, [], ◌∷◌, ◌++◌, length, get_or, drop, Option, None, Some, inl, inr, refl, sym, ◌∙◌, ap, arith}
use Rattle.std.specs.Prelude.{MatchOption}
use Rattle.std.specs.Fmt.{decimal}
use Rattle.std.proofs.lemmas.Fmt.{decimal_by_steps, decimal_injective}
use Rattle.std.proofs.lemmas.Str.Pattern.{IsSplitOnceResult, split_after, split_parts}
use denote.Ref.{Bor}
use Rattle.pva_outside.specs.declared.peer.Peer.{Peer}
use Rattle.prog_source.specs.Words.{IsCount}
use Rattle.prog_network.specs.Addresses.{BeginsWith, IsAddress, IsMark, ipv4}

-- all bytes are decimal digits
abbrev AreDigits : List ℕ → Type 0
AreDigits [] = Unit {0}
AreDigits (c ∷ cs) = (48 ≤ c) × (c ≤ 57) × AreDigits cs

and_digit : (cs : List ℕ) (d : ℕ) → d < 10 → AreDigits cs → AreDigits (cs ++ (48 + d) ∷ [])
and_digit [] d few are = (omega (arith, few), omega (arith, few), tt)
and_digit (c ∷ cs) d few are = (are.0, are.1, and_digit cs d few are.2)

decimal_digits : (n : ℕ) → n < 2 ^ 64 → AreDigits (decimal n)
decimal_digits n few =
    decimal_by_steps (λ (n : ℕ) (ds : List ℕ). AreDigits ds) (λ n one. and_digit [] n one tt) (λ n ds ten are. and_digit ds (n % 10) (omega arith) are) n few

mark_few : (mark : ℕ) → IsMark mark → mark < 128
mark_few mark (inl dot) = omega (arith, dot)
mark_few mark (inr colon) = omega (arith, colon)

no_digit : (c mark : ℕ) → IsMark mark → 48 ≤ c → c ≤ 57 → c ≢ mark
no_digit c mark (inl dot) low high same = absurd (omega (arith, dot, low, same))
no_digit c mark (inr colon) low high same = absurd (omega (arith, colon, high, same))

no_mark : (cs : List ℕ) (mark : ℕ) → IsMark mark → AreDigits cs → (i : ℕ) → i < length cs → get_or cs i 0 ≢ mark
no_mark [] mark is are i within = absurd (omega (arith, within))
no_mark (c ∷ cs) mark is are zero within = no_digit c mark is are.0 are.1
no_mark (c ∷ cs) mark is are (suc i) within = no_mark cs mark is are.2 i (omega (arith, within))

-- Digits, a mark, and the rest: the text tells which.
same_rest : (cs ds xs ys : List ℕ) (mark : ℕ) → IsMark mark → AreDigits cs → AreDigits ds → cs ++ mark ∷ xs ≡ ds ++ mark ∷ ys → xs ≡ ys
same_rest [] [] xs ys mark is c d e = ap (drop 1) e
same_rest [] (b ∷ ds) xs ys mark is c d e = absurd (no_digit b mark is d.0 d.1 (sym (ap (λ (l : List ℕ). get_or l 0 0) e)))
same_rest (a ∷ cs) [] xs ys mark is c d e = absurd (no_digit a mark is c.0 c.1 (ap (λ (l : List ℕ). get_or l 0 0) e))
same_rest (a ∷ cs) (b ∷ ds) xs ys mark is c d e = same_rest cs ds xs ys mark is c.2 d.2 (ap (drop 1) e)

same_digits : (cs ds xs ys : List ℕ) (mark : ℕ) → IsMark mark → AreDigits cs → AreDigits ds → cs ++ mark ∷ xs ≡ ds ++ mark ∷ ys → cs ≡ ds
same_digits [] [] xs ys mark is c d e = refl
same_digits [] (b ∷ ds) xs ys mark is c d e = absurd (no_digit b mark is d.0 d.1 (sym (ap (λ (l : List ℕ). get_or l 0 0) e)))
same_digits (a ∷ cs) [] xs ys mark is c d e = absurd (no_digit a mark is c.0 c.1 (ap (λ (l : List ℕ). get_or l 0 0) e))
same_digits (a ∷ cs) (b ∷ ds) xs ys mark is c d e =
    let first : a ≡ b = ap (λ (l : List ℕ). get_or l 0 0) e in
    let later : cs ≡ ds = same_digits cs ds xs ys mark is c.2 d.2 (ap (drop 1) e) in
    λ i. first i ∷ later i

few : (n : ℕ) → n ≤ 255 → n < 2 ^ 64
few n small = omega (arith, small)

one_rest : (text xs ys : List ℕ) (mark m n : ℕ) → IsMark mark → BeginsWith text mark m xs → BeginsWith text mark n ys → xs ≡ ys
one_rest text xs ys mark m n is a b =
    same_rest (decimal m) (decimal n) xs ys mark is (decimal_digits m (few m a.few)) (decimal_digits n (few n b.few)) (sym a.text_is ∙ b.text_is)

one_number : (text xs ys : List ℕ) (mark m n : ℕ) → IsMark mark → BeginsWith text mark m xs → BeginsWith text mark n ys → m ≡ n
one_number text xs ys mark m n is a b =
    decimal_injective m n (few m a.few) (few n b.few)
    (same_digits (decimal m) (decimal n) xs ys mark is (decimal_digits m (few m a.few)) (decimal_digits n (few n b.few)) (sym a.text_is ∙ b.text_is))

-- One number and its mark.

cut_at : (text rest : List ℕ) (mark n : ℕ) (r : Option (Bor (List ℕ) × Bor (List ℕ))) → IsSplitOnceResult mark text r → IsMark mark → BeginsWith text mark n rest
    → MatchOption r ⊥ (λ x. (x.0.now ≡ decimal n) × (x.1.now ≡ rest))
cut_at text rest mark n r split is begins =
    split_after mark text (decimal n) rest r split (mark_few mark is) begins.text_is (no_mark (decimal n) mark is (decimal_digits n (few n begins.few)))

pub uncut : (text : List ℕ) (mark : ℕ) → IsSplitOnceResult mark text None → IsMark mark → (n : ℕ) (rest : List ℕ) → ¬ (BeginsWith text mark n rest)
uncut text mark split is n rest begins = cut_at text rest mark n None split is begins

pub no_number : (text : List ℕ) (mark : ℕ) (x : Bor (List ℕ) × Bor (List ℕ)) → IsSplitOnceResult mark text (Some x) → IsMark mark → ((n : ℕ) → ¬ (IsCount x.0.now 0 255 n)) → (n : ℕ) (rest : List ℕ)
    → ¬ (BeginsWith text mark n rest)
no_number text mark x split is none n rest begins =
    none n (record { written = (cut_at text rest mark n (Some x) split is begins).0; least_is = omega arith; most_is = begins.few })

pub begins_so : (text : List ℕ) (mark n : ℕ) (x : Bor (List ℕ) × Bor (List ℕ)) → IsSplitOnceResult mark text (Some x) → IsMark mark → IsCount x.0.now 0 255 n → BeginsWith text mark n x.1.now
begins_so text mark n x split is count = record {
  few = count.most_is;
  text_is = (split_parts mark text (Some x) split (mark_few mark is)).0 ∙ ap (λ (l : List ℕ). l ++ mark ∷ x.1.now) count.written;
}

-- What is left of an address behind its first numbers.

dot : IsMark 46
dot = inl refl

colon : IsMark 58
colon = inr refl

first_is : (text : List ℕ) (p : Peer) (is : IsAddress text p) → BeginsWith text 46 is.a (decimal is.b ++ 46 ∷ (decimal is.c ++ 46 ∷ (decimal is.d ++ 58 ∷ decimal p.port)))
first_is text p is = record { few = is.a_few; text_is = is.text_is }

second_is : (text t : List ℕ) (a : ℕ) (p : Peer) (is : IsAddress text p) → BeginsWith text 46 a t → BeginsWith t 46 is.b (decimal is.c ++ 46 ∷ (decimal is.d ++ 58 ∷ decimal p.port))
second_is text t a p is f = record { few = is.b_few; text_is = one_rest text t _ 46 a is.a dot f (first_is text p is) }

third_is : (text t u : List ℕ) (a b : ℕ) (p : Peer) (is : IsAddress text p) → BeginsWith text 46 a t → BeginsWith t 46 b u → BeginsWith u 46 is.c (decimal is.d ++ 58 ∷ decimal p.port)
third_is text t u a b p is f g = record { few = is.c_few; text_is = one_rest t u _ 46 b is.b dot g (second_is text t a p is f) }

fourth_is : (text t u v : List ℕ) (a b c : ℕ) (p : Peer) (is : IsAddress text p) → BeginsWith text 46 a t → BeginsWith t 46 b u → BeginsWith u 46 c v → BeginsWith v 58 is.d (decimal p.port)
fourth_is text t u v a b c p is f g h = record { few = is.d_few; text_is = one_rest u v _ 46 c is.c dot h (third_is text t u a b p is f g) }

port_is : (text t u v w : List ℕ) (a b c d : ℕ) (p : Peer) (is : IsAddress text p) → BeginsWith text 46 a t → BeginsWith t 46 b u → BeginsWith u 46 c v → BeginsWith v 58 d w → w ≡ decimal p.port
port_is text t u v w a b c d p is f g h j = one_rest v w _ 58 d is.d colon j (fourth_is text t u v a b c p is f g h)

-- A text names one address.
pub one_address : (text : List ℕ) (p q : Peer) → IsAddress text p → IsAddress text q → p ≡ q
one_address text p q x y =
    let w = decimal p.port in
    let v = decimal x.d ++ 58 ∷ w in
    let u = decimal x.c ++ 46 ∷ v in
    let t = decimal x.b ++ 46 ∷ u in
    let f : BeginsWith text 46 x.a t = first_is text p x in
    let g : BeginsWith t 46 x.b u = record { few = x.b_few; text_is = refl } in
    let h : BeginsWith u 46 x.c v = record { few = x.c_few; text_is = refl } in
    let j : BeginsWith v 58 x.d w = record { few = x.d_few; text_is = refl } in
    let a : x.a ≡ y.a = one_number text t _ 46 x.a y.a dot f (first_is text q y) in
    let b : x.b ≡ y.b = one_number t u _ 46 x.b y.b dot g (second_is text t x.a q y f) in
    let c : x.c ≡ y.c = one_number u v _ 46 x.c y.c dot h (third_is text t u x.a x.b q y f g) in
    let d : x.d ≡ y.d = one_number v w _ 58 x.d y.d colon j (fourth_is text t u v x.a x.b x.c q y f g h) in
    let few_ports : (r : Peer) → r.port ≤ 65535 → r.port < 2 ^ 64 = λ r less. omega (arith, less) in
    let port : p.port ≡ q.port = decimal_injective p.port q.port (few_ports p x.port_few) (few_ports q y.port_few) (port_is text t u v w x.a x.b x.c x.d q y f g h j) in
    let mapped : ipv4 x.a x.b x.c x.d ≡ ipv4 y.a y.b y.c y.d = λ i. ipv4 (a i) (b i) (c i) (d i) in
    let address : p.address ≡ q.address = x.address_is ∙ mapped ∙ sym y.address_is in
    λ i. record { address = address i; port = port i }

-- Why a text names no address.

pub no_first : (text : List ℕ) → ((n : ℕ) (rest : List ℕ) → ¬ (BeginsWith text 46 n rest)) → (p : Peer) → ¬ (IsAddress text p)
no_first text none p is = none is.a _ (first_is text p is)

pub no_second : (text t : List ℕ) (a : ℕ) → BeginsWith text 46 a t → ((n : ℕ) (rest : List ℕ) → ¬ (BeginsWith t 46 n rest)) → (p : Peer) → ¬ (IsAddress text p)
no_second text t a f none p is = none is.b _ (second_is text t a p is f)

pub no_third : (text t u : List ℕ) (a b : ℕ) → BeginsWith text 46 a t → BeginsWith t 46 b u → ((n : ℕ) (rest : List ℕ) → ¬ (BeginsWith u 46 n rest)) → (p : Peer) → ¬ (IsAddress text p)
no_third text t u a b f g none p is = none is.c _ (third_is text t u a b p is f g)

pub no_fourth : (text t u v : List ℕ) (a b c : ℕ) → BeginsWith text 46 a t → BeginsWith t 46 b u → BeginsWith u 46 c v → ((n : ℕ) (rest : List ℕ) → ¬ (BeginsWith v 58 n rest)) → (p : Peer) → ¬ (IsAddress text p)
no_fourth text t u v a b c f g h none p is = none is.d _ (fourth_is text t u v a b c p is f g h)

pub no_port : (text t u v w : List ℕ) (a b c d : ℕ) → BeginsWith text 46 a t → BeginsWith t 46 b u → BeginsWith u 46 c v → BeginsWith v 58 d w → ((n : ℕ) → ¬ (IsCount w 0 65535 n)) → (p : Peer) → ¬ (IsAddress text p)
no_port text t u v w a b c d f g h j none p is =
    none p.port (record { written = port_is text t u v w a b c d p is f g h j; least_is = omega arith; most_is = is.port_few })

pub is_address : (text t u v w : List ℕ) (a b c d port : ℕ) → BeginsWith text 46 a t → BeginsWith t 46 b u → BeginsWith u 46 c v → BeginsWith v 58 d w → IsCount w 0 65535 port
    → IsAddress text (record { address = ipv4 a b c d; port = port })
is_address text t u v w a b c d port f g h j count = record {
  a = a;
  b = b;
  c = c;
  d = d;
  a_few = f.few;
  b_few = g.few;
  c_few = h.few;
  d_few = j.few;
  port_few = count.most_is;
  text_is = f.text_is ∙ ap (λ (l : List ℕ). decimal a ++ 46 ∷ l) (g.text_is ∙ ap (λ (l : List ℕ). decimal b ++ 46 ∷ l) (h.text_is ∙ ap (λ (l : List ℕ). decimal c ++ 46 ∷ l) (j.text_is ∙ ap (λ (l : List ℕ). decimal d ++ 58 ∷ l) count.written)));
  address_is = refl;
}
