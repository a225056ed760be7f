-- What spells a part is read as it, whatever follows.
use Rattle.std.proofs.Common.{◌≡◌, ◌∙◌, ℕ, zero, suc, ◌+◌, ◌-◌, ◌*◌, ◌≤◌, Bool, true, false, List, ◌++◌, length, None, Ok, refl, sym, ap, arith, append_assoc}
use Rattle.std.specs.FinSet.{FinSet, contains}
use Rattle.std.specs.Ordering.{nat_cmp}
use Rattle.std.proofs.lemmas.List.{length-append}
use Rattle.std.proofs.Math.Seq.{take-append_seam}
use Rattle.pva_wire.specs.declared.order.Order.{Order}
use Rattle.pva_wire.specs.Bits.{SpellsBits, byte_bit}
use Rattle.pva_wire.specs.Reading.{counted_at}
use Rattle.pva_wire.proofs.BitsRead.{bits_again}
use Rattle.pva_wire.proofs.Takes.{ok_is}
use Rattle.pvd_type.specs.Tree.{Tree, node, struct, Fields, no_fields, field}
use Rattle.pvd_type.specs.Numbers.{numbered}
use Rattle.pvd_value.specs.Data.{Data, single, many, members, unset, selected, empty, carried, structs, unions, variants, Row, end, more}
use Rattle.pvd_value.specs.Leaves.{marked_leaves}
use Rattle.pvd_desc.specs.Types.{Types}
use Rattle.pvd_codec.specs.Grammar.{SpellsLeaf, SpellsMarked, SpellsMarkedRow, AllInside}
use Rattle.pvd_codec.specs.Reading.{lifted, first_marked, marks_at, slot_at, marked_with, marked_row, part_at}
use Rattle.pvd_codec.specs.Written.{canonical_part}
use Rattle.pvd_codec.specs.Laws.{PartIsRead, OnePart, WrittenPartIsRead}
use Rattle.pvd_codec.proofs.SpelledParts.{part_written}
use Rattle.pvd_codec.proofs.ReadAgain.{counted_again, value_again}

-- a leaf, marked or not
slot_again : (b : Bool) (o : Order) (v : Data) (t : Tree) (before : Types) (bytes : List ℕ) (after : Types) → SpellsLeaf b o v t before bytes after → (rest : List ℕ) → slot_at b o t (bytes ++ rest, before) ≡ Ok (v, (rest, after))
slot_again true o v t before bytes after h rest = value_again o 16 v t before bytes after h rest
slot_again false o v t before bytes after (is, none, same) rest = λ i. Ok (sym is i, (none i ++ rest, sym same i))

module _ (o : Order) (m : ℕ → Bool) where
  mutual
    unfolding marked_with

    marked_again : (n : ℕ) (v : Data) (t : Tree) (before : Types) (bytes : List ℕ) (after : Types) → SpellsMarked m n o v t before bytes after → (rest : List ℕ)
        → marked_with o m n t (bytes ++ rest, before) ≡ Ok (v, (rest, after))
    marked_again n (members vs) (node struct id fs) before bytes after h rest = rw (marked_row_again (n + 1) vs fs before bytes after h rest) refl
    marked_again n (members vs) t before bytes after h rest = slot_again (m n) o (members vs) t before bytes after h rest
    marked_again n (single x) (node struct id fs) before bytes after h rest = absurd h
    marked_again n (single x) t before bytes after h rest = slot_again (m n) o (single x) t before bytes after h rest
    marked_again n (many xs) (node struct id fs) before bytes after h rest = absurd h
    marked_again n (many xs) t before bytes after h rest = slot_again (m n) o (many xs) t before bytes after h rest
    marked_again n unset (node struct id fs) before bytes after h rest = absurd h
    marked_again n unset t before bytes after h rest = slot_again (m n) o unset t before bytes after h rest
    marked_again n (selected k v) (node struct id fs) before bytes after h rest = absurd h
    marked_again n (selected k v) t before bytes after h rest = slot_again (m n) o (selected k v) t before bytes after h rest
    marked_again n empty (node struct id fs) before bytes after h rest = absurd h
    marked_again n empty t before bytes after h rest = slot_again (m n) o empty t before bytes after h rest
    marked_again n (carried u v) (node struct id fs) before bytes after h rest = absurd h
    marked_again n (carried u v) t before bytes after h rest = slot_again (m n) o (carried u v) t before bytes after h rest
    marked_again n (structs vs) (node struct id fs) before bytes after h rest = absurd h
    marked_again n (structs vs) t before bytes after h rest = slot_again (m n) o (structs vs) t before bytes after h rest
    marked_again n (unions vs) (node struct id fs) before bytes after h rest = absurd h
    marked_again n (unions vs) t before bytes after h rest = slot_again (m n) o (unions vs) t before bytes after h rest
    marked_again n (variants vs) (node struct id fs) before bytes after h rest = absurd h
    marked_again n (variants vs) t before bytes after h rest = slot_again (m n) o (variants vs) t before bytes after h rest

    marked_row_again : (n : ℕ) (vs : Row) (fs : Fields) (before : Types) (bytes : List ℕ) (after : Types) → SpellsMarkedRow m n o vs fs before bytes after → (rest : List ℕ)
        → marked_row o m n fs (bytes ++ rest, before) ≡ Ok (vs, (rest, after))
    marked_row_again n end no_fields before bytes after (none, same) rest = λ i. Ok (end, (none i ++ rest, sym same i))
    marked_row_again n (more v vs) (field name t fs) before bytes after (head, tail, mid, one, others, parts) rest =
        ap (λ (b : List ℕ). marked_row o m n (field name t fs) (b ++ rest, before)) parts
        ∙ ap (λ (b : List ℕ). marked_row o m n (field name t fs) (b, before)) (append_assoc head tail rest)
        ∙ rw (marked_again n v t before head mid one (tail ++ rest), marked_row_again (n + length (numbered t)) vs fs mid tail after others rest) refl
    marked_row_again n _ _ before bytes after h rest = absurd h

none_marked : (m : ℕ → Bool) (n k : ℕ) → ((q : ℕ) → n ≤ q → m q ≡ false) → first_marked m n k ≡ None
unfolding first_marked
none_marked m n zero h = refl
none_marked m n (suc k) h = rw (h n (omega arith)) (none_marked m (n + 1) k (λ q past. h q (omega arith)))

marks_again : (o : Order) (t : Tree) (head rest : List ℕ) (bits : FinSet nat_cmp) → SpellsBits o head bits → AllInside t bits → marks_at o t (head ++ rest) ≡ Ok (marked_leaves t bits, rest)
unfolding marks_at
marks_again o t head rest bits (size, body, count, fits, holds, low, parts) inside =
    let room : length body * 1 ≤ length (body ++ rest) = omega (arith, length-append body rest) in
    let counts : lifted (counted_at o 1 (head ++ rest)) ≡ Ok (length body, body ++ rest) =
    ap (λ (b : List ℕ). lifted (counted_at o 1 (b ++ rest))) parts ∙ ap (λ (b : List ℕ). lifted (counted_at o 1 b)) (append_assoc size body rest) ∙ counted_again o 1 (length body) size (body ++ rest) count room in
    let n = length (numbered t) in
    let none : first_marked (byte_bit o body) n (8 * length body - n) ≡ None = none_marked (byte_bit o body) n (8 * length body - n) (λ q past. sym (holds q) ∙ inside q past) in
    rw (counts, take-append_seam body rest, none, bits_again o head rest bits (size, body, count, fits, holds, low, parts)) refl

pub part_is_read : PartIsRead
unfolding part_at
part_is_read o before t front rest mask v after (head, tail, bits, spelled, inside, same, marked, parts) =
    ap (λ (b : List ℕ). part_at o t (b ++ rest, before)) parts
    ∙ ap (λ (b : List ℕ). part_at o t (b, before)) (append_assoc head tail rest)
    ∙ rw (marks_again o t head (tail ++ rest) bits spelled inside, ← same, marked_again o (contains mask) 0 v t before tail after marked rest) refl

pub one_part : OnePart
one_part o before t a b r s m n v w after later p q e =
    let same = ok_is ((m, v), (r, after)) ((n, w), (s, later)) (sym (part_is_read o before t a r m v after p) ∙ ap (λ (x : List ℕ). part_at o t (x, before)) e ∙ part_is_read o before t b s n w later q) in (
      ap (λ (x : (FinSet nat_cmp × Data) × (List ℕ × Types)). x.0.0) same,
      ap (λ (x : (FinSet nat_cmp × Data) × (List ℕ × Types)). x.0.1) same,
      ap (λ (x : (FinSet nat_cmp × Data) × (List ℕ × Types)). x.1.0) same,
      ap (λ (x : (FinSet nat_cmp × Data) × (List ℕ × Types)). x.1.1) same,
    )

pub written_part_is_read : WrittenPartIsRead
written_part_is_read o before t mask v rest type fits holds can =
    part_is_read o before t (canonical_part o mask v t) rest mask _ before (part_written o before t mask v type fits holds can)
