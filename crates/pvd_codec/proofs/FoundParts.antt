-- The parts that were read are spelled at the front.
use Rattle.std.proofs.Common.{◌≡◌, ℕ, ◌+◌, ◌-◌, ◌*◌, Bool, true, false, List, [], ◌++◌, length, take, Option, Some, None, Ok, refl, subst, nat_cmp}
use Rattle.std.specs.FinSet.{FinSet, contains}
use Rattle.pva_wire.specs.declared.order.Order.{Order}
use Rattle.pva_wire.specs.Spelling.{IsBytes}
use Rattle.pva_wire.specs.Reading.{◌>>=◌, counted_at}
use Rattle.pva_wire.specs.Bits.{SpellsBits, byte_bit, bits_at}
use Rattle.pva_wire.proofs.Takes.{Takes, ok_is, bind_ok}
use Rattle.pva_wire.proofs.BitsRead.{bits_takes}
use Rattle.pvd_type.specs.Tree.{Tree, leaf, node, struct, union, struct_list, union_list, Fields, no_fields, field}
use Rattle.pvd_type.specs.Numbers.{is_leaf, numbered}
use Rattle.pvd_value.specs.Data.{Data, members, Row, end, more}
use Rattle.pvd_value.specs.Blank.{blank_of}
use Rattle.pvd_value.specs.Leaves.{marked_leaves}
use Rattle.pvd_desc.specs.Types.{Types}
use Rattle.pvd_desc.proofs.Parts.{joined}
use Rattle.pvd_codec.specs.Grammar.{SpellsLeaf, SpellsMarked, SpellsMarkedRow, AllInside, Part}
use Rattle.pvd_codec.specs.Reading.{State, lifted, first_marked, unless_outside, marks_at, slot_at, marked_with, marked_row, part_at}
use Rattle.pvd_codec.specs.Found.{ReadIsPart}
use Rattle.pvd_codec.proofs.FirstBits.{inside_bits}
use Rattle.pvd_codec.proofs.FoundItems.{unlifted, err_ok}
use Rattle.pvd_codec.proofs.FoundValues.{full_takes}
use Rattle.pvd_codec.proofs.SpelledParts.{as_leaf}

slot_takes : (b : Bool) (o : Order) (t : Tree) (st : State) (x : Data × State) → IsBytes st.0 → slot_at b o t st ≡ Ok x → (text : List ℕ) × SpellsLeaf b o x.0 t st.1 text x.1.1 × Takes st.0 text x.1.0
slot_takes true o t st x fits h = full_takes o t st x fits h
slot_takes false o t st x fits h =
    subst (λ (y : Data × State). (text : List ℕ) × SpellsLeaf false o y.0 t st.1 text y.1.1 × Takes st.0 text y.1.0) (ok_is (blank_of t, st) x h)
    ([], (refl, refl, refl), record { parts = refl; rest_fits = fits })

module _ (o : Order) (marked : ℕ → Bool) where
  abbrev MarkedTaken : ℕ → Tree → State → Data × State → Type 0
  MarkedTaken n t st x = (text : List ℕ) × SpellsMarked marked n o x.0 t st.1 text x.1.1 × Takes st.0 text x.1.0

  abbrev MarkedRowTaken : ℕ → Fields → State → Row × State → Type 0
  MarkedRowTaken n fs st r = (text : List ℕ) × SpellsMarkedRow marked n o r.0 fs st.1 text r.1.1 × Takes st.0 text r.1.0

  leaf_taken : (n : ℕ) (t : Tree) (st : State) (x : Data × State) → is_leaf t ≡ true → IsBytes st.0 → slot_at (marked n) o t st ≡ Ok x → MarkedTaken n t st x
  leaf_taken n t st x is fits h =
      let (text, spelled, took) = slot_takes (marked n) o t st x fits h in
      (text, as_leaf marked n o x.0 t st.1 text x.1.1 is spelled, took)

  mutual
    unfolding marked_with marked_row

    marked_takes : (n : ℕ) (t : Tree) (st : State) (x : Data × State) → IsBytes st.0 → marked_with o marked n t st ≡ Ok x → MarkedTaken n t st x
    marked_takes n (leaf l) st x fits h = leaf_taken n (leaf l) st x refl fits h
    marked_takes n (node struct id fs) st x fits h =
        let r = bind_ok (marked_row o marked (n + 1) fs st) (λ r. Ok (members r.0, r.1)) x h in
        subst (MarkedTaken n (node struct id fs) st) (ok_is (members r.0.0, r.0.1) x r.2) (marked_row_takes (n + 1) fs st r.0 fits r.1)
    marked_takes n (node union id fs) st x fits h = leaf_taken n (node union id fs) st x refl fits h
    marked_takes n (node struct_list id fs) st x fits h = leaf_taken n (node struct_list id fs) st x refl fits h
    marked_takes n (node union_list id fs) st x fits h = leaf_taken n (node union_list id fs) st x refl fits h

    marked_row_takes : (n : ℕ) (fs : Fields) (st : State) (r : Row × State) → IsBytes st.0 → marked_row o marked n fs st ≡ Ok r → MarkedRowTaken n fs st r
    marked_row_takes n no_fields st r fits h = subst (MarkedRowTaken n no_fields st) (ok_is (end, st) r h) ([], (refl, refl), record { parts = refl; rest_fits = fits })
    marked_row_takes n (field name t fs) st r fits h =
        let v = bind_ok (marked_with o marked n t st) (λ v. marked_row o marked (n + length (numbered t)) fs v.1 >>= λ vs. Ok (more v.0 vs.0, vs.1)) r h in
        let first = marked_takes n t st v.0 fits v.1 in
        let vs = bind_ok (marked_row o marked (n + length (numbered t)) fs v.0.1) (λ vs. Ok (more v.0.0 vs.0, vs.1)) r v.2 in
        let others = marked_row_takes (n + length (numbered t)) fs v.0.1 vs.0 first.2.rest_fits vs.1 in
        subst (MarkedRowTaken n (field name t fs) st) (ok_is (more v.0.0 vs.0.0, vs.0.1) r vs.2)
        (first.0 ++ others.0, (first.0, others.0, v.0.1.1, first.1, others.1, refl), joined st.0 first.0 others.0 v.0.1.0 vs.0.1.0 first.2 others.2)

-- the marks of a part
abbrev MarksTaken : Order → Tree → List ℕ → FinSet nat_cmp × List ℕ → Type 0
MarksTaken o t bytes m = (text : List ℕ) × (bits : FinSet nat_cmp) × SpellsBits o text bits × AllInside t bits × (m.0 ≡ marked_leaves t bits) × Takes bytes text m.1

unless_ok : (r : Option ℕ) (left : ℕ) (x : Unit {0}) → unless_outside r left ≡ Ok x → r ≡ None
unless_ok None left x h = refl
unless_ok (Some n) left x h = absurd (err_ok _ x h)

marks_take : (o : Order) (t : Tree) (bytes : List ℕ) (m : FinSet nat_cmp × List ℕ) → IsBytes bytes → marks_at o t bytes ≡ Ok m → MarksTaken o t bytes m
unfolding marks_at
marks_take o t bytes m fits h =
    let n = bind_ok (lifted (counted_at o 1 bytes)) (λ n.
    unless_outside (first_marked (byte_bit o (take n.0 n.1)) (length (numbered t)) (8 * n.0 - length (numbered t))) (length bytes) >>= λ u. lifted (bits_at o bytes) >>= λ s. Ok (marked_leaves t s.0, s.1)) m h in
    let u = bind_ok (unless_outside (first_marked (byte_bit o (take n.0.0 n.0.1)) (length (numbered t)) (8 * n.0.0 - length (numbered t))) (length bytes)) (λ u. lifted (bits_at o bytes) >>= λ s. Ok (marked_leaves t s.0, s.1)) m n.2 in
    let s = bind_ok (lifted (bits_at o bytes)) (λ s. Ok (marked_leaves t s.0, s.1)) m u.2 in
    let read = unlifted (bits_at o bytes) s.0 s.1 in
    let (text, spelled, took) = bits_takes o bytes s.0 fits read in
    let inside = inside_bits o bytes n.0.1 s.0.1 n.0.0 (length (numbered t)) s.0.0 (unlifted (counted_at o 1 bytes) n.0 n.1) (unless_ok _ (length bytes) u.0 u.1) read in
    subst (MarksTaken o t bytes) (ok_is (marked_leaves t s.0.0, s.0.1) m s.2) (text, s.0.0, spelled, inside, refl, took)

abbrev PartTaken : Order → Types → Tree → List ℕ → (FinSet nat_cmp × Data) × State → Type 0
PartTaken o before t bytes x = (front : List ℕ) × Part o before t front x.0.0 x.0.1 x.1.1 × (bytes ≡ front ++ x.1.0)

pub read_is_part : ReadIsPart
unfolding part_at
read_is_part o before t bytes mask v rest after fits h =
    let m = bind_ok (marks_at o t bytes) (λ m. marked_with o (contains m.0) 0 t (m.1, before) >>= λ v. Ok ((m.0, v.0), v.1)) ((mask, v), (rest, after)) h in
    let (head, bits, spelled, inside, is, took) = marks_take o t bytes m.0 fits m.1 in
    let w = bind_ok (marked_with o (contains m.0.0) 0 t (m.0.1, before)) (λ v. Ok ((m.0.0, v.0), v.1)) ((mask, v), (rest, after)) m.2 in
    let (tail, values, others) = marked_takes o (contains m.0.0) 0 t (m.0.1, before) w.0 took.rest_fits w.1 in
    let all : PartTaken o before t bytes ((m.0.0, w.0.0), w.0.1) = (head ++ tail, (head, tail, bits, spelled, inside, is, values, refl), (joined bytes head tail m.0.1 w.0.1.0 took others).parts) in
    subst (PartTaken o before t bytes) (ok_is ((m.0.0, w.0.0), w.0.1) ((mask, v), (rest, after)) w.2) all
