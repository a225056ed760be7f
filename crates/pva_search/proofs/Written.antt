-- What is written of items spells them, and a datagram that was written is one whole message.
use Rattle.std.proofs.Common.{◌≡◌, ◌∙◌, ℕ, ◌+◌, ◌<◌, ◌^◌, ◌&&◌, Bool, true, false, eqb, leb, eq-eqb, List, [], ◌∷◌, length, take, slice_index, refl, sym, ap, arith, length-append}
use Rattle.std.proofs.lemmas.Bool.{le-leb}
use Rattle.std.proofs.lemmas.List.{append-nil, take_at}
use Rattle.std.specs.List.{flat_map}
use Rattle.pva_wire.specs.declared.order.Order.{Order}
use Rattle.pva_wire.specs.declared.order.Order.TheVariants.{Little, Big}
use Rattle.pva_wire.specs.Spelling.{IsSize, IsText, SpellsNumber, SpellsText, number_bytes, canonical_size, canonical_text}
use Rattle.pva_wire.specs.Reading.{number_of}
use Rattle.pva_wire.proofs.Digits.{number_len, number_again}
use Rattle.pva_wire.proofs.OneReading.{canonical_spells, canonical_text_spells}
use Rattle.pva_frames.specs.declared.header.Header.{Header}
use Rattle.pva_frames.specs.Headers.{header_of}
use Rattle.pva_frames.specs.Spelling.{header_bytes, frame_bytes}
use Rattle.pva_search.specs.Fields.{Field, byte, short, word, bytes, text, texts, instances, channels, canonical, canonical_field, canonical_channel}
use Rattle.pva_search.specs.Grammar.{SpellsEach, SpellsChannel, Spells}
use Rattle.pva_search.specs.Reading.{header_in, has_header, is_whole, is_message}

abbrev pub EachCan : {A : Type 0} → (A → Type 0) → List A → Type 0
EachCan Can [] = Unit {0}
EachCan Can (x ∷ xs) = Can x × EachCan Can xs

-- the numbers, sizes and texts of an item have spellings
abbrev pub CanField : Field → Type 0
CanField (byte n) = n < 256 ^ 1
CanField (short n) = n < 256 ^ 2
CanField (word n) = n < 256 ^ 4
CanField (bytes xs) = Unit {0}
CanField (text t) = IsText t
CanField (texts ts) = IsSize (length ts) × EachCan IsText ts
CanField (instances ns) = (length ns < 256 ^ 2) × EachCan (λ n. n < 256 ^ 4) ns
CanField (channels cs) = (length cs < 256 ^ 2) × EachCan (λ (c : ℕ × List ℕ). (c.0 < 256 ^ 4) × IsText c.1) cs

pub each_written : {A : Type 0} (SpellsOne : List ℕ → A → Type 0) (one : A → List ℕ) (Can : A → Type 0) → ((x : A) → Can x → SpellsOne (one x) x)
    → (xs : List A) → EachCan Can xs → SpellsEach SpellsOne (flat_map one xs) xs
each_written SpellsOne one Can each [] h = refl
each_written SpellsOne one Can each (x ∷ xs) h = (one x, flat_map one xs, each x h.0, each_written SpellsOne one Can each xs h.1, refl)

pub channel_written : (o : Order) (c : ℕ × List ℕ) → (c.0 < 256 ^ 4) × IsText c.1 → SpellsChannel o (canonical_channel o c) c
channel_written o c h = (number_bytes o 4 c.0, canonical_text o c.1, (h.0, refl), canonical_text_spells o c.1 h.1.1 h.1.0, refl)

field_written : (o : Order) (f : Field) → CanField f → Spells o (canonical_field o f) f
field_written o (byte n) can = (can, refl)
field_written o (short n) can = (can, refl)
field_written o (word n) can = (can, refl)
field_written o (bytes xs) can = refl
field_written o (text t) can = canonical_text_spells o t can.1 can.0
field_written o (texts ts) can =
    (canonical_size o (length ts), flat_map (canonical_text o) ts, canonical_spells o (length ts) can.0, each_written (SpellsText o) (canonical_text o) IsText (λ t h. canonical_text_spells o t h.1 h.0) ts can.1, refl)
field_written o (instances ns) can =
    (number_bytes o 2 (length ns), flat_map (number_bytes o 4) ns, (can.0, refl), each_written (SpellsNumber o 4) (number_bytes o 4) (λ n. n < 256 ^ 4) (λ n h. (h, refl)) ns can.1, refl)
field_written o (channels cs) can = (
  number_bytes o 2 (length cs),
  flat_map (canonical_channel o) cs,
  (can.0, refl),
  each_written (SpellsChannel o) (canonical_channel o) (λ (c : ℕ × List ℕ). (c.0 < 256 ^ 4) × IsText c.1) (λ c h. (number_bytes o 4 c.0, canonical_text o c.1, (h.0, refl), canonical_text_spells o c.1 h.1.1 h.1.0, refl)) cs can.1,
  refl,
)

pub all_written : (o : Order) (fields : List Field) → EachCan CanField fields → SpellsEach (Spells o) (canonical o fields) fields
all_written o fields can = each_written (Spells o) (canonical_field o) CanField (field_written o) fields can

-- the header that was written, of a message that comes whole
abbrev head_of : Order → ℕ → ℕ → ℕ → Header
head_of o flags command n = record { order = o; flags = flags; command = command; number = n }

number_alone : (o : Order) (n : ℕ) → n < 2 ^ 32 → number_of o 4 (number_bytes o 4 n) ≡ n
number_alone o n h = ap (number_of o 4) (sym (append-nil (number_bytes o 4 n))) ∙ number_again o 4 n [] h

pub flags_of : Order → Bool → ℕ
flags_of Little false = 0
flags_of Little true = 64
flags_of Big false = 128
flags_of Big true = 192

head_back : (o : Order) (server : Bool) (command n : ℕ) → n < 2 ^ 32 → header_of (header_bytes o server 0 command n) ≡ head_of o (flags_of o server) command n
unfolding header_of flags_of
head_back Little false command n h = ap (head_of Little 0 command) (number_alone Little n h)
head_back Little true command n h = ap (head_of Little 64 command) (number_alone Little n h)
head_back Big false command n h = ap (head_of Big 128 command) (number_alone Big n h)
head_back Big true command n h = ap (head_of Big 192 command) (number_alone Big n h)

both : (a b : Bool) → a ≡ true → b ≡ true → (a && b) ≡ true
both a b e f = rw (e, f) refl

whole_head : (o : Order) (server : Bool) (command n : ℕ) → is_whole command (8 + n) (head_of o (flags_of o server) command n) ≡ true
unfolding flags_of
whole_head Little false command n = rw (eq-eqb command command refl, eq-eqb (8 + n) (8 + n) refl) refl
whole_head Little true command n = rw (eq-eqb command command refl, eq-eqb (8 + n) (8 + n) refl) refl
whole_head Big false command n = rw (eq-eqb command command refl, eq-eqb (8 + n) (8 + n) refl) refl
whole_head Big true command n = rw (eq-eqb command command refl, eq-eqb (8 + n) (8 + n) refl) refl

pub head_size : (o : Order) (server : Bool) (command n : ℕ) → length (header_bytes o server 0 command n) ≡ 8
head_size o server command n = omega (arith, number_len o 4 n)

module _ (o : Order) (server : Bool) (command : ℕ) (payload : List ℕ) (fits : length payload < 2 ^ 32) where
  front_8 : take 8 (frame_bytes o server 0 command payload) ≡ header_bytes o server 0 command (length payload)
  front_8 = take_at (header_bytes o server 0 command (length payload)) payload 8 (head_size o server command (length payload))

  size_is : length (frame_bytes o server 0 command payload) ≡ 8 + length payload
  size_is = omega (arith, length-append (header_bytes o server 0 command (length payload)) payload, head_size o server command (length payload))

  pub header_is : header_in (frame_bytes o server 0 command payload) ≡ head_of o (flags_of o server) command (length payload)
  header_is = ap header_of front_8 ∙ head_back o server command (length payload) fits

  pub is_one : is_message command (frame_bytes o server 0 command payload) ≡ true
  is_one =
      both (has_header (frame_bytes o server 0 command payload)) (is_whole command (length (frame_bytes o server 0 command payload)) (header_in (frame_bytes o server 0 command payload)))
      (both (leb 8 (length (frame_bytes o server 0 command payload))) (eqb (slice_index (take 8 (frame_bytes o server 0 command payload)) 0) 202)
      (le-leb 8 (length (frame_bytes o server 0 command payload)) (omega (arith, size_is)))
      (ap (λ (xs : List ℕ). eqb (slice_index xs 0) 202) front_8))
      (ap (λ (n : ℕ). is_whole command n (header_in (frame_bytes o server 0 command payload))) size_is
      ∙ ap (is_whole command (8 + length payload)) header_is
      ∙ whole_head o server command (length payload))

  pub order_is : o ≡ (header_in (frame_bytes o server 0 command payload)).order
  order_is = ap (λ (h : Header). h.order) (sym header_is)
