-- What is read of a datagram is spelled there.
use Rattle.std.proofs.Common.{◌≡◌, ◌∙◌, ℕ, zero, suc, Bool, true, false, cond, eqb, ltb, List, [], ◌∷◌, ◌++◌, length, take, drop, Option, Some, None, Ok, Err, refl, sym, ap, subst, append_assoc, arith, length-take, inl, inr}
use Rattle.std.proofs.lemmas.Bool.{ltb-false, eqb-true}
use Rattle.std.proofs.lemmas.List.{take-append-drop}
use Rattle.pva_wire.specs.declared.order.Order.{Order}
use Rattle.pva_wire.specs.declared.fault.Cause.TheVariants.{Short, Range}
use Rattle.pva_wire.specs.Spelling.{IsBytes, SpellsNumber, SpellsSize, SpellsText}
use Rattle.pva_wire.specs.Reading.{Read, ◌>>=◌, number_at, size_at, count_at, count_of_size, text_at}
use Rattle.pva_wire.proofs.Takes.{Takes, IsBytes-drop, chosen, ok_is, bind_ok}
use Rattle.pva_wire.proofs.Digits.{number_takes}
use Rattle.pva_wire.proofs.Sizes.{size_takes}
use Rattle.pva_wire.proofs.Texts.{text_takes}
use Rattle.pva_search.specs.declared.search.Head.{Head}
use Rattle.pva_search.specs.Fields.{Field, byte, short, word, bytes, text, texts, instances, channels}
use Rattle.pva_search.specs.Messages.{Search, Response, search_fields, response_fields, flag}
use Rattle.pva_search.specs.Grammar.{SpellsEach, SpellsChannel, Spells}
use Rattle.pva_search.specs.Reading.{bytes_at, each_at, texts_at, channel_at, channels_at, instances_at, flag_of, flag_at, head_at, search_at, response_at}

-- what follows what was taken
pub joins : (whole first middle second rest : List ℕ) → Takes whole first middle → Takes middle second rest → Takes whole (first ++ second) rest
joins whole first middle second rest t u = record {
  parts = t.parts ∙ ap (λ (r : List ℕ). first ++ r) u.parts ∙ sym (append_assoc first second rest);
  rest_fits = u.rest_fits;
}

bytes_take : (n : ℕ) (xs : List ℕ) (x : List ℕ × List ℕ) → IsBytes xs → bytes_at n xs ≡ Ok x → (length x.0 ≡ n) × Takes xs x.0 x.1
unfolding bytes_at
bytes_take n xs x fits h =
    elim (chosen (ltb (length xs) n) (Err (Short, length xs)) (Ok (take n xs, drop n xs)) (Ok x) h) [
      | inl few ↦ absurd cc
      | inr a ↦
          let enough = ltb-false (length xs) n a.0 in
          subst (λ (y : List ℕ × List ℕ). (length y.0 ≡ n) × Takes xs y.0 y.1) (ok_is (take n xs, drop n xs) x a.1)
          (omega (arith, length-take n xs), record { parts = sym (take-append-drop n xs); rest_fits = IsBytes-drop n xs fits })
    ]

each_take : {A : Type 0} (SpellsOne : List ℕ → A → Type 0) (one : List ℕ → Read A)
    → ((xs : List ℕ) (x : A × List ℕ) → IsBytes xs → one xs ≡ Ok x → (front : List ℕ) × SpellsOne front x.0 × Takes xs front x.1)
    → (n : ℕ) (xs : List ℕ) (x : List A × List ℕ) → IsBytes xs → each_at one n xs ≡ Ok x
    → (front : List ℕ) × SpellsEach SpellsOne front x.0 × Takes xs front x.1 × (length x.0 ≡ n)
unfolding each_at
each_take {A} SpellsOne one takes zero xs x fits h =
    subst (λ (y : List A × List ℕ). (front : List ℕ) × SpellsEach SpellsOne front y.0 × Takes xs front y.1 × (length y.0 ≡ 0)) (ok_is ([], xs) x h)
    ([], refl, record { parts = refl; rest_fits = fits }, refl)
each_take {A} SpellsOne one takes (suc n) xs x fits h =
    let a = bind_ok (one xs) (λ y. each_at one n y.1 >>= λ ys. Ok (y.0 ∷ ys.0, ys.1)) x h in
    let first = takes xs a.0 fits a.1 in
    let b = bind_ok (each_at one n a.0.1) (λ ys. Ok (a.0.0 ∷ ys.0, ys.1)) x a.2 in
    let others = each_take SpellsOne one takes n a.0.1 b.0 first.2.rest_fits b.1 in
    subst (λ (y : List A × List ℕ). (front : List ℕ) × SpellsEach SpellsOne front y.0 × Takes xs front y.1 × (length y.0 ≡ suc n)) (ok_is (a.0.0 ∷ b.0.0, b.0.1) x b.2) (
      first.0 ++ others.0,
      (first.0, others.0, first.1, others.1, refl),
      joins xs first.0 a.0.1 others.0 b.0.1 first.2 others.2,
      omega (arith, others.3),
    )

of_count : (o : Order) (left : ℕ) (size : Option ℕ) (after xs : List ℕ) (x : ℕ × List ℕ)
    → (front : List ℕ) × SpellsSize o front size × Takes xs front after → count_of_size left size after ≡ Ok x
    → (front : List ℕ) × SpellsSize o front (Some x.0) × Takes xs front x.1
of_count o left None after xs x t h = absurd cc
of_count o left (Some n) after xs x t h =
    subst (λ (y : ℕ × List ℕ). (front : List ℕ) × SpellsSize o front (Some y.0) × Takes xs front y.1) (ok_is (n, after) x h) t

count_take : (o : Order) (xs : List ℕ) (x : ℕ × List ℕ) → IsBytes xs → count_at o xs ≡ Ok x → (front : List ℕ) × SpellsSize o front (Some x.0) × Takes xs front x.1
unfolding count_at
count_take o xs x fits h =
    let a = bind_ok (size_at o xs) (λ size. count_of_size (length xs) size.0 size.1) x h in
    of_count o (length xs) a.0.0 a.0.1 xs x (size_takes o xs a.0 fits a.1) a.2

texts_take : (o : Order) (xs : List ℕ) (x : List (List ℕ) × List ℕ) → IsBytes xs → texts_at o xs ≡ Ok x → (front : List ℕ) × Spells o front (texts x.0) × Takes xs front x.1
unfolding texts_at
texts_take o xs x fits h =
    let a = bind_ok (count_at o xs) (λ n. each_at (text_at o) n.0 n.1) x h in
    let c = count_take o xs a.0 fits a.1 in
    let e = each_take (SpellsText o) (text_at o) (text_takes o) a.0.0 a.0.1 x c.2.rest_fits a.2 in
    (c.0 ++ e.0, (c.0, e.0, subst (λ (n : ℕ). SpellsSize o c.0 (Some n)) (sym e.3) c.1, e.1, refl), joins xs c.0 a.0.1 e.0 x.1 c.2 e.2)

channel_take : (o : Order) (xs : List ℕ) (x : (ℕ × List ℕ) × List ℕ) → IsBytes xs → channel_at o xs ≡ Ok x → (front : List ℕ) × SpellsChannel o front x.0 × Takes xs front x.1
unfolding channel_at
channel_take o xs x fits h =
    let a = bind_ok (number_at o 4 xs) (λ instance. text_at o instance.1 >>= λ name. Ok ((instance.0, name.0), name.1)) x h in
    let n = number_takes o 4 xs a.0 fits a.1 in
    let b = bind_ok (text_at o a.0.1) (λ name. Ok ((a.0.0, name.0), name.1)) x a.2 in
    let t = text_takes o a.0.1 b.0 n.2.rest_fits b.1 in
    subst (λ (y : (ℕ × List ℕ) × List ℕ). (front : List ℕ) × SpellsChannel o front y.0 × Takes xs front y.1) (ok_is ((a.0.0, b.0.0), b.0.1) x b.2)
    (n.0 ++ t.0, (n.0, t.0, n.1, t.1, refl), joins xs n.0 a.0.1 t.0 b.0.1 n.2 t.2)

pub channels_take : (o : Order) (xs : List ℕ) (x : List (ℕ × List ℕ) × List ℕ) → IsBytes xs → channels_at o xs ≡ Ok x → (front : List ℕ) × Spells o front (channels x.0) × Takes xs front x.1
unfolding channels_at
channels_take o xs x fits h =
    let a = bind_ok (number_at o 2 xs) (λ n. each_at (channel_at o) n.0 n.1) x h in
    let c = number_takes o 2 xs a.0 fits a.1 in
    let e = each_take (SpellsChannel o) (channel_at o) (channel_take o) a.0.0 a.0.1 x c.2.rest_fits a.2 in
    (c.0 ++ e.0, (c.0, e.0, subst (λ (n : ℕ). SpellsNumber o 2 c.0 n) (sym e.3) c.1, e.1, refl), joins xs c.0 a.0.1 e.0 x.1 c.2 e.2)

instances_take : (o : Order) (xs : List ℕ) (x : List ℕ × List ℕ) → IsBytes xs → instances_at o xs ≡ Ok x → (front : List ℕ) × Spells o front (instances x.0) × Takes xs front x.1
unfolding instances_at
instances_take o xs x fits h =
    let a = bind_ok (number_at o 2 xs) (λ n. each_at (number_at o 4) n.0 n.1) x h in
    let c = number_takes o 2 xs a.0 fits a.1 in
    let e = each_take (SpellsNumber o 4) (number_at o 4) (number_takes o 4) a.0.0 a.0.1 x c.2.rest_fits a.2 in
    (c.0 ++ e.0, (c.0, e.0, subst (λ (n : ℕ). SpellsNumber o 2 c.0 n) (sym e.3) c.1, e.1, refl), joins xs c.0 a.0.1 e.0 x.1 c.2 e.2)

of_flag : (left n : ℕ) (rest : List ℕ) (x : Bool × List ℕ) → flag_of left n rest ≡ Ok x → (n ≡ flag x.0) × (rest ≡ x.1)
of_flag left n rest x h =
    elim (chosen (eqb n 0) (Ok (false, rest)) (cond (eqb n 1) (Ok (true, rest)) (Err (Range, left))) (Ok x) h) [
      | inl no_flag ↦
          let e = ok_is (false, rest) x no_flag.1 in
          (eqb-true n 0 no_flag.0 ∙ ap (λ (z : Bool × List ℕ). flag z.0) e, ap (λ (z : Bool × List ℕ). z.1) e)
      | inr other ↦ elim (chosen (eqb n 1) (Ok (true, rest)) (Err (Range, left)) (Ok x) other.1) [
        | inl set_flag ↦
            let e = ok_is (true, rest) x set_flag.1 in
            (eqb-true n 1 set_flag.0 ∙ ap (λ (z : Bool × List ℕ). flag z.0) e, ap (λ (z : Bool × List ℕ). z.1) e)
        | inr neither ↦ absurd cc
      ]
    ]

flag_take : (o : Order) (xs : List ℕ) (x : Bool × List ℕ) → IsBytes xs → flag_at o xs ≡ Ok x → (front : List ℕ) × Spells o front (byte (flag x.0)) × Takes xs front x.1
unfolding flag_at
flag_take o xs x fits h =
    let a = bind_ok (number_at o 1 xs) (λ n. flag_of (length xs) n.0 n.1) x h in
    let c = number_takes o 1 xs a.0 fits a.1 in
    let e = of_flag (length xs) a.0.0 a.0.1 x a.2 in
    (c.0, subst (λ (n : ℕ). SpellsNumber o 1 c.0 n) e.0 c.1, subst (λ (r : List ℕ). Takes xs c.0 r) e.1 c.2)

-- the items that some bytes begin with, and what follows them
abbrev pub Taken : Order → List ℕ → List Field → List ℕ → Type 0
Taken o xs fields rest = (front : List ℕ) × SpellsEach (Spells o) front fields × Takes xs front rest

last : (o : Order) (xs : List ℕ) → IsBytes xs → Taken o xs [] xs
last o xs fits = ([], refl, record { parts = refl; rest_fits = fits })

-- one item, and then others
then : (o : Order) (xs front middle rest : List ℕ) (f : Field) (fs : List Field) → Spells o front f → Takes xs front middle → Taken o middle fs rest → Taken o xs (f ∷ fs) rest
then o xs front middle rest f fs spelled takes others =
    (front ++ others.0, (front, others.0, spelled, others.1, refl), joins xs front middle others.0 rest takes others.2)

each_join : (o : Order) (fs gs : List Field) (a b : List ℕ) → SpellsEach (Spells o) a fs → SpellsEach (Spells o) b gs → SpellsEach (Spells o) (a ++ b) (fs ++ gs)
each_join o [] gs a b h k = subst (λ (t : List ℕ). SpellsEach (Spells o) t gs) (ap (λ (s : List ℕ). s ++ b) (sym h)) k
each_join o (f ∷ fs) gs a b (head, tail, first, others, parts) k =
    (head, tail ++ b, first, each_join o fs gs tail b others k, ap (λ (s : List ℕ). s ++ b) parts ∙ append_assoc head tail b)

-- some items, and then others
pub join : (o : Order) (xs middle rest : List ℕ) (fs gs : List Field) → Taken o xs fs middle → Taken o middle gs rest → Taken o xs (fs ++ gs) rest
join o xs middle rest fs gs t u = (t.0 ++ u.0, each_join o fs gs t.0 u.0 t.1 u.1, joins xs t.0 middle u.0 rest t.2 u.2)

-- the items of a search before its protocols
abbrev head_fields : List ℕ → Head → List Field
head_fields unused head = word head.sequence ∷ byte head.flags ∷ bytes unused ∷ bytes head.address ∷ short head.port ∷ []

head_take : (o : Order) (xs : List ℕ) (x : Head × List ℕ) → IsBytes xs → head_at o xs ≡ Ok x
    → (unused : List ℕ) × (length unused ≡ 3) × (length x.0.address ≡ 16) × Taken o xs (head_fields unused x.0) x.1
unfolding head_at
head_take o xs x fits h =
    let a = bind_ok (number_at o 4 xs) (λ sequence. number_at o 1 sequence.1 >>= λ flags. bytes_at 3 flags.1 >>= λ unused. bytes_at 16 unused.1 >>= λ address. number_at o 2 address.1 >>= λ port. Ok (record { sequence = sequence.0; flags = flags.0; address = address.0; port = port.0 }, port.1)) x h in
    let b = bind_ok (number_at o 1 a.0.1) (λ flags. bytes_at 3 flags.1 >>= λ unused. bytes_at 16 unused.1 >>= λ address. number_at o 2 address.1 >>= λ port. Ok (record { sequence = a.0.0; flags = flags.0; address = address.0; port = port.0 }, port.1)) x a.2 in
    let d = bind_ok (bytes_at 3 b.0.1) (λ unused. bytes_at 16 unused.1 >>= λ address. number_at o 2 address.1 >>= λ port. Ok (record { sequence = a.0.0; flags = b.0.0; address = address.0; port = port.0 }, port.1)) x b.2 in
    let e = bind_ok (bytes_at 16 d.0.1) (λ address. number_at o 2 address.1 >>= λ port. Ok (record { sequence = a.0.0; flags = b.0.0; address = address.0; port = port.0 }, port.1)) x d.2 in
    let f = bind_ok (number_at o 2 e.0.1) (λ port. Ok (record { sequence = a.0.0; flags = b.0.0; address = e.0.0; port = port.0 }, port.1)) x e.2 in
    let ta = number_takes o 4 xs a.0 fits a.1 in
    let tb = number_takes o 1 a.0.1 b.0 ta.2.rest_fits b.1 in
    let td = bytes_take 3 b.0.1 d.0 tb.2.rest_fits d.1 in
    let te = bytes_take 16 d.0.1 e.0 td.1.rest_fits e.1 in
    let tf = number_takes o 2 e.0.1 f.0 te.1.rest_fits f.1 in
    subst (λ (y : Head × List ℕ). (unused : List ℕ) × (length unused ≡ 3) × (length y.0.address ≡ 16) × Taken o xs (head_fields unused y.0) y.1)
    (ok_is (record { sequence = a.0.0; flags = b.0.0; address = e.0.0; port = f.0.0 }, f.0.1) x f.2) (
      d.0.0,
      td.0,
      te.0,
      then o xs ta.0 a.0.1 f.0.1 (word a.0.0) (byte b.0.0 ∷ bytes d.0.0 ∷ bytes e.0.0 ∷ short f.0.0 ∷ []) ta.1 ta.2
          (then o a.0.1 tb.0 b.0.1 f.0.1 (byte b.0.0) (bytes d.0.0 ∷ bytes e.0.0 ∷ short f.0.0 ∷ []) tb.1 tb.2
          (then o b.0.1 d.0.0 d.0.1 f.0.1 (bytes d.0.0) (bytes e.0.0 ∷ short f.0.0 ∷ []) refl td.1
          (then o d.0.1 e.0.0 e.0.1 f.0.1 (bytes e.0.0) (short f.0.0 ∷ []) refl te.1
          (then o e.0.1 tf.0 f.0.1 f.0.1 (short f.0.0) [] tf.1 tf.2 (last o f.0.1 tf.2.rest_fits))))),
    )

pub search_take : (o : Order) (xs : List ℕ) (x : Search × List ℕ) → IsBytes xs → search_at o xs ≡ Ok x
    → (unused : List ℕ) × (length unused ≡ 3) × (length x.0.head.address ≡ 16) × Taken o xs (search_fields unused x.0) x.1
unfolding search_at
search_take o xs x fits h =
    let a = bind_ok (head_at o xs) (λ head. texts_at o head.1 >>= λ protocols. channels_at o protocols.1 >>= λ channels. Ok (record { head = head.0; protocols = protocols.0; channels = channels.0 }, channels.1)) x h in
    let b = bind_ok (texts_at o a.0.1) (λ protocols. channels_at o protocols.1 >>= λ channels. Ok (record { head = a.0.0; protocols = protocols.0; channels = channels.0 }, channels.1)) x a.2 in
    let d = bind_ok (channels_at o b.0.1) (λ channels. Ok (record { head = a.0.0; protocols = b.0.0; channels = channels.0 }, channels.1)) x b.2 in
    let ta = head_take o xs a.0 fits a.1 in
    let tb = texts_take o a.0.1 b.0 ta.3.2.rest_fits b.1 in
    let td = channels_take o b.0.1 d.0 tb.2.rest_fits d.1 in
    subst (λ (y : Search × List ℕ). (unused : List ℕ) × (length unused ≡ 3) × (length y.0.head.address ≡ 16) × Taken o xs (search_fields unused y.0) y.1)
    (ok_is (record { head = a.0.0; protocols = b.0.0; channels = d.0.0 }, d.0.1) x d.2) (
      ta.0,
      ta.1,
      ta.2,
      join o xs a.0.1 d.0.1 (head_fields ta.0 a.0.0) (texts b.0.0 ∷ channels d.0.0 ∷ []) ta.3
          (then o a.0.1 tb.0 b.0.1 d.0.1 (texts b.0.0) (channels d.0.0 ∷ []) tb.1 tb.2
          (then o b.0.1 td.0 d.0.1 d.0.1 (channels d.0.0) [] td.1 td.2 (last o d.0.1 td.2.rest_fits))),
    )

pub response_take : (o : Order) (xs : List ℕ) (x : Response × List ℕ) → IsBytes xs → response_at o xs ≡ Ok x
    → (length x.0.guid ≡ 12) × (length x.0.address ≡ 16) × Taken o xs (response_fields x.0) x.1
unfolding response_at
response_take o xs x fits h =
    let a = bind_ok (bytes_at 12 xs) (λ guid. number_at o 4 guid.1 >>= λ sequence. bytes_at 16 sequence.1 >>= λ address. number_at o 2 address.1 >>= λ port. text_at o port.1 >>= λ protocol. flag_at o protocol.1 >>= λ found. instances_at o found.1 >>= λ ns. Ok (record { guid = guid.0; sequence = sequence.0; address = address.0; port = port.0; protocol = protocol.0; found = found.0; instances = ns.0 }, ns.1)) x h in
    let b = bind_ok (number_at o 4 a.0.1) (λ sequence. bytes_at 16 sequence.1 >>= λ address. number_at o 2 address.1 >>= λ port. text_at o port.1 >>= λ protocol. flag_at o protocol.1 >>= λ found. instances_at o found.1 >>= λ ns. Ok (record { guid = a.0.0; sequence = sequence.0; address = address.0; port = port.0; protocol = protocol.0; found = found.0; instances = ns.0 }, ns.1)) x a.2 in
    let d = bind_ok (bytes_at 16 b.0.1) (λ address. number_at o 2 address.1 >>= λ port. text_at o port.1 >>= λ protocol. flag_at o protocol.1 >>= λ found. instances_at o found.1 >>= λ ns. Ok (record { guid = a.0.0; sequence = b.0.0; address = address.0; port = port.0; protocol = protocol.0; found = found.0; instances = ns.0 }, ns.1)) x b.2 in
    let e = bind_ok (number_at o 2 d.0.1) (λ port. text_at o port.1 >>= λ protocol. flag_at o protocol.1 >>= λ found. instances_at o found.1 >>= λ ns. Ok (record { guid = a.0.0; sequence = b.0.0; address = d.0.0; port = port.0; protocol = protocol.0; found = found.0; instances = ns.0 }, ns.1)) x d.2 in
    let f = bind_ok (text_at o e.0.1) (λ protocol. flag_at o protocol.1 >>= λ found. instances_at o found.1 >>= λ ns. Ok (record { guid = a.0.0; sequence = b.0.0; address = d.0.0; port = e.0.0; protocol = protocol.0; found = found.0; instances = ns.0 }, ns.1)) x e.2 in
    let g = bind_ok (flag_at o f.0.1) (λ found. instances_at o found.1 >>= λ ns. Ok (record { guid = a.0.0; sequence = b.0.0; address = d.0.0; port = e.0.0; protocol = f.0.0; found = found.0; instances = ns.0 }, ns.1)) x f.2 in
    let k = bind_ok (instances_at o g.0.1) (λ ns. Ok (record { guid = a.0.0; sequence = b.0.0; address = d.0.0; port = e.0.0; protocol = f.0.0; found = g.0.0; instances = ns.0 }, ns.1)) x g.2 in
    let ta = bytes_take 12 xs a.0 fits a.1 in
    let tb = number_takes o 4 a.0.1 b.0 ta.1.rest_fits b.1 in
    let td = bytes_take 16 b.0.1 d.0 tb.2.rest_fits d.1 in
    let te = number_takes o 2 d.0.1 e.0 td.1.rest_fits e.1 in
    let tf = text_takes o e.0.1 f.0 te.2.rest_fits f.1 in
    let tg = flag_take o f.0.1 g.0 tf.2.rest_fits g.1 in
    let tk = instances_take o g.0.1 k.0 tg.2.rest_fits k.1 in
    subst (λ (y : Response × List ℕ). (length y.0.guid ≡ 12) × (length y.0.address ≡ 16) × Taken o xs (response_fields y.0) y.1)
    (ok_is (record { guid = a.0.0; sequence = b.0.0; address = d.0.0; port = e.0.0; protocol = f.0.0; found = g.0.0; instances = k.0.0 }, k.0.1) x k.2) (
      ta.0,
      td.0,
      then o xs a.0.0 a.0.1 k.0.1 (bytes a.0.0) (word b.0.0 ∷ bytes d.0.0 ∷ short e.0.0 ∷ text f.0.0 ∷ byte (flag g.0.0) ∷ instances k.0.0 ∷ []) refl ta.1
          (then o a.0.1 tb.0 b.0.1 k.0.1 (word b.0.0) (bytes d.0.0 ∷ short e.0.0 ∷ text f.0.0 ∷ byte (flag g.0.0) ∷ instances k.0.0 ∷ []) tb.1 tb.2
          (then o b.0.1 d.0.0 d.0.1 k.0.1 (bytes d.0.0) (short e.0.0 ∷ text f.0.0 ∷ byte (flag g.0.0) ∷ instances k.0.0 ∷ []) refl td.1
          (then o d.0.1 te.0 e.0.1 k.0.1 (short e.0.0) (text f.0.0 ∷ byte (flag g.0.0) ∷ instances k.0.0 ∷ []) te.1 te.2
          (then o e.0.1 tf.0 f.0.1 k.0.1 (text f.0.0) (byte (flag g.0.0) ∷ instances k.0.0 ∷ []) tf.1 tf.2
          (then o f.0.1 tg.0 g.0.1 k.0.1 (byte (flag g.0.0)) (instances k.0.0 ∷ []) tg.1 tg.2
          (then o g.0.1 tk.0 k.0.1 k.0.1 (instances k.0.0) [] tk.1 tk.2 (last o k.0.1 tk.2.rest_fits))))))),
    )
