-- What a finder's datagrams take, and what they leave.
use Rattle.std.proofs.Common.{◌≡◌, ℕ, ◌+◌, ◌-◌, ◌%◌, ◌^◌, ◌≤◌, ◌<◌, false, List, [], ◌∷◌, ◌++◌, length, Option, refl, sym, ap, subst, ◌∙◌, arith, length-append, append_assoc, inl, inr}
use Rattle.std.proofs.lemmas.Bool.{cases_lt}
use Rattle.std.proofs.lemmas.List.{append-nil}
use Rattle.std.proofs.lemmas.Grind.{flat_map-append}
use Rattle.std.specs.List.{flat_map}
use Rattle.pva_wire.specs.declared.order.Order.TheVariants.{Little}
use Rattle.pva_wire.specs.Spelling.{number_bytes}
use Rattle.pva_wire.proofs.Digits.{number_len}
use Rattle.pva_frames.specs.Spelling.{header_bytes}
use Rattle.pva_outside.specs.declared.peer.Peer.{Peer}
use Rattle.pva_search.specs.declared.finder.Taken.{Taken}
use Rattle.pva_search.specs.Fields.{channels, canonical, canonical_field, canonical_channel}
use Rattle.pva_search.specs.Messages.{search_fields, search_bytes}
use Rattle.pva_search.specs.Finding.{Finding, IsFinding, Asked, IsFull, open_in, unasked, channels_of, asks_for, ask_bytes, most}
use Rattle.pva_search.specs.Steps.{IsTaken, asking_head, channel_bytes}
use Rattle.pva_search.proofs.Opens.{open_split, open_first, is_one, size_more}

-- the payload: what stands before the channels, their count, and they
asks_is : (sequence port : ℕ) (cs : List (ℕ × List ℕ)) → canonical Little (search_fields (0 ∷ 0 ∷ 0 ∷ []) (asks_for sequence port cs))
    ≡ canonical Little (asking_head sequence port) ++ (number_bytes Little 2 (length cs) ++ flat_map (canonical_channel Little) cs)
asks_is sequence port cs =
    flat_map-append (canonical_field Little) (asking_head sequence port) (channels cs ∷ [])
    ∙ ap (λ (xs : List ℕ). canonical Little (asking_head sequence port) ++ xs) (append-nil (number_bytes Little 2 (length cs) ++ flat_map (canonical_channel Little) cs))

pub asks_spelled : (sequence port count : ℕ) (cs : List (ℕ × List ℕ)) → count ≡ length cs
    → (canonical Little (asking_head sequence port) ++ number_bytes Little 2 count) ++ flat_map (canonical_channel Little) cs ≡ canonical Little (search_fields (0 ∷ 0 ∷ 0 ∷ []) (asks_for sequence port cs))
asks_spelled sequence port count cs e =
    append_assoc (canonical Little (asking_head sequence port)) (number_bytes Little 2 count) (flat_map (canonical_channel Little) cs)
    ∙ ap (λ (n : ℕ). canonical Little (asking_head sequence port) ++ (number_bytes Little 2 n ++ flat_map (canonical_channel Little) cs)) e
    ∙ sym (asks_is sequence port cs)

head_31 : (sequence port : ℕ) → length (canonical Little (asking_head sequence port)) ≡ 31
head_31 sequence port = refl

header_8 : (n : ℕ) → length (header_bytes Little false 0 3 n) ≡ 8
header_8 n = refl

pub asks_size : (sequence port : ℕ) (cs : List (ℕ × List ℕ)) → length (search_bytes Little (asks_for sequence port cs)) ≡ 41 + length (flat_map (canonical_channel Little) cs)
asks_size sequence port cs =
    let payload = canonical Little (search_fields (0 ∷ 0 ∷ 0 ∷ []) (asks_for sequence port cs)) in
    let e = ap length (asks_is sequence port cs) in
    omega (
      arith,
      e,
      length-append (header_bytes Little false 0 3 (length payload)) payload,
      header_8 (length payload),
      head_31 sequence port,
      length-append (canonical Little (asking_head sequence port)) (number_bytes Little 2 (length cs) ++ flat_map (canonical_channel Little) cs),
      length-append (number_bytes Little 2 (length cs)) (flat_map (canonical_channel Little) cs),
      number_len Little 2 (length cs),
    )

-- the numbers that were taken
abbrev pub numbers : Finding → Taken → List ℕ
numbers f taken = open_in f.servers f.next (taken.end - f.next)

length_nil : (xs : List ℕ) → length xs ≡ 0 → xs ≡ []
length_nil [] e = refl
length_nil (x ∷ xs) e = absurd (omega arith)

none_left : (servers : List (Option Peer)) (i n : ℕ) → n ≤ i → open_in servers i (n - i) ≡ []
none_left servers i n le =
    let e : n - i ≡ 0 = omega arith in
    ap (open_in servers i) e

module _ (f : Finding) (taken : Taken) (ok : IsFinding f) (is : IsTaken f.names f.servers f.next taken) where
  too_long : (port : ℕ) → taken.end < length f.names → most < length (ask_bytes f port (numbers f taken ++ taken.end ∷ []))
  too_long port lt =
      let short = ok.short taken.end in
      let more = size_more f.names (numbers f taken) taken.end (omega arith) in
      let size = asks_size f.sequence port (channels_of f.names (numbers f taken ++ taken.end ∷ [])) in
      let full = is.full lt in
      omega arith

  full_at : (port : ℕ) → IsFull f port (numbers f taken) (open_in f.servers taken.end (length f.names - taken.end))
  full_at port =
      elim (cases_lt taken.end (length f.names)) [
        | inl lt ↦
            let e = open_first f.servers taken.end (length f.names) lt in
            let one = is_one f.servers taken.end (is.open_at lt) in
            subst (IsFull f port (numbers f taken)) (sym (e ∙ ap (λ (xs : List ℕ). xs ++ open_in f.servers (taken.end + 1) (length f.names - (taken.end + 1))) one)) (too_long port lt)
        | inr le ↦ subst (IsFull f port (numbers f taken)) (sym (none_left f.servers taken.end (length f.names) le)) tt
      ]

  pub asked : (port : ℕ) (bytes : List ℕ) → (taken.count ≡ 0 → ⊥) → bytes ≡ ask_bytes f port (numbers f taken)
      → Asked f (record f { next = taken.end; sequence = (f.sequence + 1) % 2 ^ 32 }) port bytes
  asked port bytes some e =
      let count = is.count in
      let fits = is.fits in
      let size = asks_size f.sequence port (channels_of f.names (numbers f taken)) in
      record {
        taken = numbers f taken;
        others = open_in f.servers taken.end (length f.names - taken.end);
        divided = open_split f.servers f.next taken.end (length f.names) is.from is.within;
        some = omega arith;
        spelled = e;
        fits = omega arith;
        full = full_at port;
        left = refl;
        kept = refl;
      }

  pub none_asked : taken.count ≡ 0 → unasked f ≡ []
  none_asked e =
      let none : numbers f taken ≡ [] = length_nil (numbers f taken) (sym is.count ∙ e) in
      elim (cases_lt taken.end (length f.names)) [
        | inl lt ↦
            let short = ok.short taken.end in
            let full = is.full lt in
            let empty = ap (λ (xs : List ℕ). length (channel_bytes f.names xs)) none in
            absurd (omega arith)
        | inr le ↦
            open_split f.servers f.next taken.end (length f.names) is.from is.within
            ∙ ap (λ (xs : List ℕ). xs ++ open_in f.servers taken.end (length f.names - taken.end)) none ∙ none_left f.servers taken.end (length f.names) le
      ]

  pub some_left : (taken.count ≡ 0 → ⊥) → 0 < length (unasked f)
  some_left some =
      let count = is.count in
      let all = ap length (open_split f.servers f.next taken.end (length f.names) is.from is.within) in
      omega (arith, length-append (numbers f taken) (open_in f.servers taken.end (length f.names - taken.end)))
