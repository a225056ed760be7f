-- Bytes of a header.
use Rattle.std.proofs.Common.{◌≡◌, ℕ, ◌+◌, ◌≤◌, ◌<◌, Bool, true, leb, ◌&&◌, eq-eqb, List, [], ◌∷◌, ◌++◌, length, take, drop, slice_index, Option, None, Some, sym, ap, ◌∙◌, subst, arith}
use Rattle.std.proofs.lemmas.List.{append-nil, take_all, drop_all, length-take-le, get_or-take}
use Rattle.std.proofs.lemmas.Bool.{lt-leb, ne_eqb}
use Rattle.pva_frames.specs.declared.event.Whole.{Whole}
use Rattle.pva_frames.specs.declared.event.Event.{Event}
use Rattle.pva_frames.specs.declared.fault.FrameFault.{FrameFault}
use Rattle.pva_frames.specs.declared.fault.FrameFault.TheVariants.{BadMagic}
use Rattle.pva_frames.specs.declared.reader.Mark.{Mark}
use Rattle.pva_frames.specs.Headers.{magic, header_of}
use Rattle.pva_frames.specs.Frames.{size_of}
use Rattle.pva_frames.specs.Messages.{refusal, refusal_of_rest, Unfinished}
use Rattle.pva_frames.proofs.Joins.{refusal-header, refusal-magic, refusal-short}
use Rattle.pva_frames.specs.Reader.{run_of, run_size, unfinished_of, is_unfinished, IsSound, Brings, Takes}
use Rattle.pva_frames.proofs.Bringing.{brings-refused, brings-unfinished, unfinished-rests}

-- the bytes so far are those of the header
pub held-head : (mark : Mark) (payload : List ℕ) → IsSound mark payload → mark.filled < 8 → (unfinished_of mark payload).held ≡ take mark.filled mark.head
held-head mark payload s less =
    let none = s.header less in
    ap (λ (l : List ℕ). take mark.filled mark.head ++ l) (drop_all (run_size mark.run) payload (omega (arith, none))) ∙ append-nil (take mark.filled mark.head)

-- these bytes were put behind those of the header
pub record Filled (mark : Mark) (x head : List ℕ) (count : ℕ) : Type 0 where
  pub size : length head ≡ 8
  pub bytes : take count head ≡ take mark.filled mark.head ++ x
  pub total : count ≡ mark.filled + length x
  pub some : 0 < length x
  pub fits : count ≤ 8

pub held-filled : (mark : Mark) (payload x head : List ℕ) (filled : ℕ) → IsSound mark payload → mark.filled < 8 → Filled mark x head filled → (unfinished_of mark payload).held ++ x ≡ take filled head
held-filled mark payload x head filled s less f = ap (λ (l : List ℕ). l ++ x) (held-head mark payload s less) ∙ sym f.bytes

first-refused : (run : Option Whole) (at : ℕ) (bytes : List ℕ) → 0 < length bytes → (slice_index bytes 0 ≡ magic → ⊥) → refusal_of_rest run bytes at ≡ Some (BadMagic (slice_index bytes 0) at)
first-refused run at [] some other = absurd (omega arith)
first-refused run at (b ∷ bytes) some other = refusal-magic run at b bytes (ne_eqb b magic other)

first-of : (head : List ℕ) (filled : ℕ) → 0 < filled → slice_index (take filled head) 0 ≡ slice_index head 0
first-of head filled some = get_or-take filled head 0 0 some

-- the first byte is not CA
pub magic-refused : (es : List Event) (mark : Mark) (payload x head : List ℕ) (filled : ℕ) (left : Unfinished) → IsSound mark payload → mark.filled < 8 → Filled mark x head filled → (slice_index head 0 ≡ magic → ⊥) → Takes es (unfinished_of mark payload) x es (Some (BadMagic (slice_index head 0) mark.place)) left
magic-refused es mark payload x head filled left s less f other =
    let run = run_of mark.run payload in
    let bytes = take filled head in
    let some : 0 < filled = omega (arith, f.total, f.some) in
    let first = first-of head filled some in
    let long : length bytes ≡ filled = length-take-le filled head (omega (arith, f.size, f.fits)) in
    let is = first-refused run mark.place bytes (omega (arith, long, some)) (λ e. other (sym first ∙ e)) in
    subst (λ (l : List ℕ). Brings es mark.place run l es (Some (BadMagic (slice_index head 0) mark.place)) left) (sym (held-filled mark payload x head filled s less f))
    (brings-refused es mark.place run bytes (BadMagic (slice_index head 0) mark.place) left (is ∙ ap (λ (b : ℕ). Some (BadMagic b mark.place)) first))

-- no whole header yet
short-unfinished : (run : Option Whole) (at : ℕ) (bytes : List ℕ) → 0 < length bytes → slice_index bytes 0 ≡ magic → length bytes < 8 → is_unfinished (record { place = at; run = run; held = bytes }) ≡ true
short-unfinished run at [] some first short = absurd (omega arith)
short-unfinished run at (b ∷ bytes) some first short =
    unfinished-rests (record { place = at; run = run; held = b ∷ bytes }) (record {
      unwhole = ap (λ (t : Bool). t && leb (size_of (b ∷ bytes)) (length (b ∷ bytes))) (eq-eqb b magic first) ∙ lt-leb (size_of (b ∷ bytes)) (length (b ∷ bytes)) (omega (arith, short));
      sound = refusal-short run at b bytes (eq-eqb b magic first) short;
    })

pub record StillShort (es : List Event) (mark : Mark) (payload x head : List ℕ) (filled : ℕ) : Type 0 where
  pub sound : IsSound (record { place = mark.place; head = head; filled = filled; run = mark.run }) payload
  pub takes : Takes es (unfinished_of mark payload) x es None (unfinished_of (record { place = mark.place; head = head; filled = filled; run = mark.run }) payload)

pub still-short : (es : List Event) (mark : Mark) (payload x head : List ℕ) (filled : ℕ) → IsSound mark payload → mark.filled < 8 → Filled mark x head filled → slice_index head 0 ≡ magic → filled < 8 → StillShort es mark payload x head filled
still-short es mark payload x head filled s less f magic_first short =
    let new : Mark = record { place = mark.place; head = head; filled = filled; run = mark.run } in
    let run = run_of mark.run payload in
    let bytes = take filled head in
    let some : 0 < filled = omega (arith, f.total, f.some) in
    let first = first-of head filled some in
    let long : length bytes ≡ filled = length-take-le filled head (omega (arith, f.size, f.fits)) in
    let left : Unfinished = record { place = mark.place; run = run; held = bytes } in
    let is = short-unfinished run mark.place bytes (omega (arith, long, some)) (first ∙ magic_first) (omega (arith, long, short)) in
    let none = s.header less in
    let held : bytes ≡ take filled head ++ drop (run_size mark.run) payload =
    sym (ap (λ (l : List ℕ). take filled head ++ l) (drop_all (run_size mark.run) payload (omega (arith, none))) ∙ append-nil (take filled head)) in
    let same : left ≡ unfinished_of new payload = ap (λ (l : List ℕ). let u : Unfinished = record { place = mark.place; run = run; held = l } in u) held in record {
      sound = record { head = f.size; filled = f.fits; run = s.run; header = λ h. none; unfinished = ap is_unfinished (sym same) ∙ is };
      takes = subst (λ (l : List ℕ). Brings es mark.place run l es None (unfinished_of new payload)) (sym (held-filled mark payload x head filled s less f))
          (subst (λ (u : Unfinished). Brings es mark.place run bytes es None u) same (brings-unfinished es left is));
    }

-- the header is whole
pub held-is-head : (mark : Mark) (payload x head : List ℕ) (filled : ℕ) → IsSound mark payload → mark.filled < 8 → Filled mark x head filled → 8 ≤ filled → (unfinished_of mark payload).held ++ x ≡ head
held-is-head mark payload x head filled s less f whole = held-filled mark payload x head filled s less f ∙ take_all filled head (omega (arith, f.size, whole))

whole-refused : (run : Option Whole) (at : ℕ) (head : List ℕ) → length head ≡ 8 → slice_index head 0 ≡ magic → refusal_of_rest run head at ≡ refusal run (header_of head) at
whole-refused run at [] size first = absurd (omega arith)
whole-refused run at (b ∷ head) size first = refusal-header run at b head (eq-eqb b magic first) (omega (arith, size))

pub header-refused : (es : List Event) (mark : Mark) (payload x head : List ℕ) (filled : ℕ) (left : Unfinished) (fault : FrameFault) → IsSound mark payload → mark.filled < 8 → Filled mark x head filled → 8 ≤ filled → slice_index head 0 ≡ magic → refusal (run_of mark.run payload) (header_of head) mark.place ≡ Some fault → Takes es (unfinished_of mark payload) x es (Some fault) left
header-refused es mark payload x head filled left fault s less f whole first is =
    let run = run_of mark.run payload in
    subst (λ (l : List ℕ). Brings es mark.place run l es (Some fault) left) (sym (held-is-head mark payload x head filled s less f whole))
    (brings-refused es mark.place run head fault left (whole-refused run mark.place head f.size first ∙ is))
