-- What spells a search or a response is read as it, whatever follows.
use Rattle.std.proofs.Common.{◌≡◌, ◌∙◌, ℕ, Bool, true, false, List, [], ◌∷◌, ◌++◌, length, ltb, Some, Ok, refl, ap, append_assoc, arith, length-append}
use Rattle.std.proofs.lemmas.Bool.{le-ltb}
use Rattle.std.proofs.lemmas.List.{take_at, drop_at}
use Rattle.pva_wire.specs.declared.order.Order.{Order}
use Rattle.pva_wire.specs.Spelling.{SpellsNumber, SpellsSize, SpellsText}
use Rattle.pva_wire.specs.Reading.{Read, ◌>>=◌, number_at, count_at, text_at}
use Rattle.pva_wire.proofs.Digits.{number_at_again}
use Rattle.pva_wire.proofs.Sizes.{size_again}
use Rattle.pva_wire.proofs.Texts.{text_again}
use Rattle.pva_search.specs.declared.search.Head.{Head}
use Rattle.pva_search.specs.Fields.{texts, instances, channels}
use Rattle.pva_search.specs.Messages.{Search, Response, search_fields, response_fields, flag}
use Rattle.pva_search.specs.Grammar.{SpellsEach, SpellsChannel, Spells}
use Rattle.pva_search.specs.Reading.{bytes_at, each_at, texts_at, channel_at, channels_at, instances_at, flag_at, head_at, search_at, response_at}

-- one item is read, and then the others
step : {A B : Type 0} (one : List ℕ → Read A) (next : A × List ℕ → Read B) (front head tail more : List ℕ) (x : A) (out : Read B)
    → front ≡ head ++ tail → one (head ++ (tail ++ more)) ≡ Ok (x, tail ++ more) → next (x, tail ++ more) ≡ out → (one (front ++ more) >>= next) ≡ out
step one next front head tail more x out parts again e =
    ap (λ (b : List ℕ). one (b ++ more) >>= next) parts ∙ ap (λ (b : List ℕ). one b >>= next) (append_assoc head tail more)
    ∙ ap (λ (r : Read _). r >>= next) again ∙ e

each_again : {A : Type 0} (SpellsOne : List ℕ → A → Type 0) (one : List ℕ → Read A) → ((spelling more : List ℕ) (x : A) → SpellsOne spelling x → one (spelling ++ more) ≡ Ok (x, more))
    → (xs : List A) (spelling more : List ℕ) → SpellsEach SpellsOne spelling xs → each_at one (length xs) (spelling ++ more) ≡ Ok (xs, more)
unfolding each_at
each_again SpellsOne one again [] spelling more h = ap (λ (b : List ℕ). Ok ([], b ++ more)) h
each_again SpellsOne one again (x ∷ xs) spelling more (head, tail, first, others, parts) =
    step one (λ y. each_at one (length xs) y.1 >>= λ ys. Ok (y.0 ∷ ys.0, ys.1)) spelling head tail more x (Ok (x ∷ xs, more)) parts (again head (tail ++ more) x first)
    (ap (λ (r : Read _). r >>= λ ys. Ok (x ∷ ys.0, ys.1)) (each_again SpellsOne one again xs tail more others))

bytes_again : (n : ℕ) (xs more : List ℕ) → length xs ≡ n → bytes_at n (xs ++ more) ≡ Ok (xs, more)
unfolding bytes_at
bytes_again n xs more e =
    let enough : ltb (length (xs ++ more)) n ≡ false = le-ltb (length (xs ++ more)) n (omega (arith, length-append xs more)) in
    rw (enough, take_at xs more n e, drop_at xs more n e) refl

count_again : (o : Order) (spelling more : List ℕ) (n : ℕ) → SpellsSize o spelling (Some n) → count_at o (spelling ++ more) ≡ Ok (n, more)
unfolding count_at
count_again o spelling more n h = rw (size_again o spelling more (Some n) h) refl

texts_again : (o : Order) (spelling more : List ℕ) (ts : List (List ℕ)) → Spells o spelling (texts ts) → texts_at o (spelling ++ more) ≡ Ok (ts, more)
unfolding texts_at
texts_again o spelling more ts (head, tail, count, each, parts) =
    step (count_at o) (λ n. each_at (text_at o) n.0 n.1) spelling head tail more (length ts) (Ok (ts, more)) parts (count_again o head (tail ++ more) (length ts) count)
    (each_again (SpellsText o) (text_at o) (λ s m t h. text_again o s t m h) ts tail more each)

channel_again : (o : Order) (spelling more : List ℕ) (c : ℕ × List ℕ) → SpellsChannel o spelling c → channel_at o (spelling ++ more) ≡ Ok (c, more)
unfolding channel_at
channel_again o spelling more c (head, tail, number, name, parts) =
    step (number_at o 4) (λ instance. text_at o instance.1 >>= λ name. Ok ((instance.0, name.0), name.1)) spelling head tail more c.0 (Ok (c, more)) parts (number_at_again o 4 head (tail ++ more) c.0 number)
    (ap (λ (r : Read _). r >>= λ name. Ok ((c.0, name.0), name.1)) (text_again o tail c.1 more name))

channels_again : (o : Order) (spelling more : List ℕ) (cs : List (ℕ × List ℕ)) → Spells o spelling (channels cs) → channels_at o (spelling ++ more) ≡ Ok (cs, more)
unfolding channels_at
channels_again o spelling more cs (head, tail, count, each, parts) =
    step (number_at o 2) (λ n. each_at (channel_at o) n.0 n.1) spelling head tail more (length cs) (Ok (cs, more)) parts (number_at_again o 2 head (tail ++ more) (length cs) count)
    (each_again (SpellsChannel o) (channel_at o) (channel_again o) cs tail more each)

instances_again : (o : Order) (spelling more : List ℕ) (ns : List ℕ) → Spells o spelling (instances ns) → instances_at o (spelling ++ more) ≡ Ok (ns, more)
unfolding instances_at
instances_again o spelling more ns (head, tail, count, each, parts) =
    step (number_at o 2) (λ n. each_at (number_at o 4) n.0 n.1) spelling head tail more (length ns) (Ok (ns, more)) parts (number_at_again o 2 head (tail ++ more) (length ns) count)
    (each_again (SpellsNumber o 4) (number_at o 4) (number_at_again o 4) ns tail more each)

flag_again : (o : Order) (spelling more : List ℕ) (b : Bool) → SpellsNumber o 1 spelling (flag b) → flag_at o (spelling ++ more) ≡ Ok (b, more)
unfolding flag_at
flag_again o spelling more true h = rw (number_at_again o 1 spelling more 1 h) refl
flag_again o spelling more false h = rw (number_at_again o 1 spelling more 0 h) refl

-- bytes that spell themselves
themselves : (n : ℕ) (spelling more xs : List ℕ) → spelling ≡ xs → length xs ≡ n → bytes_at n (spelling ++ more) ≡ Ok (xs, more)
themselves n spelling more xs e size = ap (λ (b : List ℕ). bytes_at n (b ++ more)) e ∙ bytes_again n xs more size

pub search_again : (o : Order) (unused : List ℕ) (s : Search) (front more : List ℕ) → length unused ≡ 3 → length s.head.address ≡ 16
    → SpellsEach (Spells o) front (search_fields unused s) → search_at o (front ++ more) ≡ Ok (s, more)
unfolding search_at head_at
search_again o unused s front more three sixteen (h1, t1, s1, (h2, t2, s2, (h3, t3, s3, (h4, t4, s4, (h5, t5, s5, (h6, t6, s6, (h7, t7, s7, end, p7), p6), p5), p4), p3), p2), p1) =
    let head : head_at o (front ++ more) ≡ Ok (s.head, t5 ++ more) =
    step (number_at o 4) (λ sequence. number_at o 1 sequence.1 >>= λ flags. bytes_at 3 flags.1 >>= λ unused. bytes_at 16 unused.1 >>= λ address. number_at o 2 address.1 >>= λ port. Ok (record { sequence = sequence.0; flags = flags.0; address = address.0; port = port.0 }, port.1)) front h1 t1 more s.head.sequence (Ok (s.head, t5 ++ more)) p1 (number_at_again o 4 h1 (t1 ++ more) s.head.sequence s1)
    (step (number_at o 1) (λ flags. bytes_at 3 flags.1 >>= λ unused. bytes_at 16 unused.1 >>= λ address. number_at o 2 address.1 >>= λ port. Ok (record { sequence = s.head.sequence; flags = flags.0; address = address.0; port = port.0 }, port.1)) t1 h2 t2 more s.head.flags (Ok (s.head, t5 ++ more)) p2 (number_at_again o 1 h2 (t2 ++ more) s.head.flags s2)
    (step (bytes_at 3) (λ unused. bytes_at 16 unused.1 >>= λ address. number_at o 2 address.1 >>= λ port. Ok (record { sequence = s.head.sequence; flags = s.head.flags; address = address.0; port = port.0 }, port.1)) t2 h3 t3 more unused (Ok (s.head, t5 ++ more)) p3 (themselves 3 h3 (t3 ++ more) unused s3 three)
    (step (bytes_at 16) (λ address. number_at o 2 address.1 >>= λ port. Ok (record { sequence = s.head.sequence; flags = s.head.flags; address = address.0; port = port.0 }, port.1)) t3 h4 t4 more s.head.address (Ok (s.head, t5 ++ more)) p4 (themselves 16 h4 (t4 ++ more) s.head.address s4 sixteen)
    (step (number_at o 2) (λ port. Ok (record { sequence = s.head.sequence; flags = s.head.flags; address = s.head.address; port = port.0 }, port.1)) t4 h5 t5 more s.head.port (Ok (s.head, t5 ++ more)) p5 (number_at_again o 2 h5 (t5 ++ more) s.head.port s5) refl)))) in
    ap (λ (r : Read Head). r >>= λ head. texts_at o head.1 >>= λ protocols. channels_at o protocols.1 >>= λ channels. Ok (record { head = head.0; protocols = protocols.0; channels = channels.0 }, channels.1)) head
    ∙ step (texts_at o) (λ protocols. channels_at o protocols.1 >>= λ channels. Ok (record { head = s.head; protocols = protocols.0; channels = channels.0 }, channels.1)) t5 h6 t6 more s.protocols (Ok (s, more)) p6 (texts_again o h6 (t6 ++ more) s.protocols s6)
    (step (channels_at o) (λ channels. Ok (record { head = s.head; protocols = s.protocols; channels = channels.0 }, channels.1)) t6 h7 t7 more s.channels (Ok (s, more)) p7 (channels_again o h7 (t7 ++ more) s.channels s7)
    (ap (λ (b : List ℕ). Ok (s, b ++ more)) end))

pub response_again : (o : Order) (r : Response) (front more : List ℕ) → length r.guid ≡ 12 → length r.address ≡ 16
    → SpellsEach (Spells o) front (response_fields r) → response_at o (front ++ more) ≡ Ok (r, more)
unfolding response_at
response_again o r front more twelve sixteen (h1, t1, s1, (h2, t2, s2, (h3, t3, s3, (h4, t4, s4, (h5, t5, s5, (h6, t6, s6, (h7, t7, s7, end, p7), p6), p5), p4), p3), p2), p1) =
    step (bytes_at 12) (λ guid. number_at o 4 guid.1 >>= λ sequence. bytes_at 16 sequence.1 >>= λ address. number_at o 2 address.1 >>= λ port. text_at o port.1 >>= λ protocol. flag_at o protocol.1 >>= λ found. instances_at o found.1 >>= λ ns. Ok (record { guid = guid.0; sequence = sequence.0; address = address.0; port = port.0; protocol = protocol.0; found = found.0; instances = ns.0 }, ns.1)) front h1 t1 more r.guid (Ok (r, more)) p1 (themselves 12 h1 (t1 ++ more) r.guid s1 twelve)
    (step (number_at o 4) (λ sequence. bytes_at 16 sequence.1 >>= λ address. number_at o 2 address.1 >>= λ port. text_at o port.1 >>= λ protocol. flag_at o protocol.1 >>= λ found. instances_at o found.1 >>= λ ns. Ok (record { guid = r.guid; sequence = sequence.0; address = address.0; port = port.0; protocol = protocol.0; found = found.0; instances = ns.0 }, ns.1)) t1 h2 t2 more r.sequence (Ok (r, more)) p2 (number_at_again o 4 h2 (t2 ++ more) r.sequence s2)
    (step (bytes_at 16) (λ address. number_at o 2 address.1 >>= λ port. text_at o port.1 >>= λ protocol. flag_at o protocol.1 >>= λ found. instances_at o found.1 >>= λ ns. Ok (record { guid = r.guid; sequence = r.sequence; address = address.0; port = port.0; protocol = protocol.0; found = found.0; instances = ns.0 }, ns.1)) t2 h3 t3 more r.address (Ok (r, more)) p3 (themselves 16 h3 (t3 ++ more) r.address s3 sixteen)
    (step (number_at o 2) (λ port. text_at o port.1 >>= λ protocol. flag_at o protocol.1 >>= λ found. instances_at o found.1 >>= λ ns. Ok (record { guid = r.guid; sequence = r.sequence; address = r.address; port = port.0; protocol = protocol.0; found = found.0; instances = ns.0 }, ns.1)) t3 h4 t4 more r.port (Ok (r, more)) p4 (number_at_again o 2 h4 (t4 ++ more) r.port s4)
    (step (text_at o) (λ protocol. flag_at o protocol.1 >>= λ found. instances_at o found.1 >>= λ ns. Ok (record { guid = r.guid; sequence = r.sequence; address = r.address; port = r.port; protocol = protocol.0; found = found.0; instances = ns.0 }, ns.1)) t4 h5 t5 more r.protocol (Ok (r, more)) p5 (text_again o h5 r.protocol (t5 ++ more) s5)
    (step (flag_at o) (λ found. instances_at o found.1 >>= λ ns. Ok (record { guid = r.guid; sequence = r.sequence; address = r.address; port = r.port; protocol = r.protocol; found = found.0; instances = ns.0 }, ns.1)) t5 h6 t6 more r.found (Ok (r, more)) p6 (flag_again o h6 (t6 ++ more) r.found s6)
    (step (instances_at o) (λ ns. Ok (record { guid = r.guid; sequence = r.sequence; address = r.address; port = r.port; protocol = r.protocol; found = r.found; instances = ns.0 }, ns.1)) t6 h7 t7 more r.instances (Ok (r, more)) p7 (instances_again o h7 (t7 ++ more) r.instances s7)
    (ap (λ (b : List ℕ). Ok (r, b ++ more)) end)))))))
