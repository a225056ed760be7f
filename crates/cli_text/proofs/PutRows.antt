-- A word that is given to a member of a structure.
use Rattle.std.proofs.Common.{◌≡◌, ◌∙◌, ℕ, zero, suc, ◌+◌, ◌-◌, ◌<◌, ◌≤◌, min, Bool, true, cond, List, [], ◌∷◌, ◌++◌, length, get_or, take, drop, set, Result, Ok, Err, refl, sym, ap, arith}
use Rattle.std.proofs.Math.Seq.{take-suc}
use Rattle.std.proofs.lemmas.Bool.{lt-ltb, le-ltb}
use Rattle.pvd_type.specs.Tree.{Tree, leaf, node, Leaf, struct, union, struct_list, union_list, Fields, no_fields, field}
use Rattle.pvd_type.specs.Numbers.{is_leaf, numbered}
use Rattle.pvd_type.specs.View.{shape_view, members_view}
use Rattle.pvd_type.specs.declared.shape.Member.{Member}
use Rattle.pvd_value.specs.Data.{Data, Row, end, more, gap}
use Rattle.pvd_value.specs.View.{view, row_view}
use Rattle.pvd_value.specs.declared.value.PvValue.{PvValue}
use Rattle.pvd_value.proofs.Rows.{row_from, members_from, joined, joined_push}
use Rattle.cli_text.specs.declared.fault.Cause.{Cause}
use Rattle.cli_text.specs.declared.fault.Cause.TheVariants as cause
use Rattle.cli_text.specs.Faults.{Makes}
use Rattle.cli_text.specs.Words.{made}
use Rattle.cli_text.specs.Put.{given, put_at, put_among}

-- a node that is no structure is given a word as a leaf, or not at all
pub put_leaf : (f : Leaf → Data → Result Data Cause) (k : ℕ) (t : Tree) (v : Data) → is_leaf t ≡ true → put_at f k t v ≡ given f t v
put_leaf f k (leaf l) v h = refl
put_leaf f k (node struct id fs) v h = absurd cc
put_leaf f k (node union id fs) v h = refl
put_leaf f k (node struct_list id fs) v h = refl
put_leaf f k (node union_list id fs) v h = refl

-- nothing stands in front
pub made_all : (r : Result Row Cause) → made (joined end) r ≡ r
made_all (Ok x) = refl
made_all (Err c) = refl

onto_push : (vs : List PvValue) (v : PvValue) (r : Result Row Cause) → made (joined (row_view (vs ++ v ∷ []))) r ≡ made (joined (row_view vs)) (made (more (view v)) r)
onto_push vs v (Ok x) = ap Ok (joined_push vs v x)
onto_push vs v (Err c) = refl

set_suc : (vs : List PvValue) (i : ℕ) (y : PvValue) → i < length vs → row_view (set vs i y) ≡ joined (row_view (take i vs)) (more (view y) (row_view (drop (suc i) vs)))
set_suc [] i y h = absurd (omega arith)
set_suc (v ∷ vs) zero y h = refl
set_suc (v ∷ vs) (suc i) y h = ap (more (view v)) (set_suc vs i y (omega arith))

set_row : (vs : List PvValue) (i : ℕ) (y : PvValue) → i < length vs → row_view (set vs i y) ≡ joined (row_view (take i vs)) (more (view y) (row_view (drop (i + 1) vs)))
set_row vs i y h = let one : i + 1 ≡ suc i = omega arith in set_suc vs i y h ∙ ap (λ (n : ℕ). joined (row_view (take i vs)) (more (view y) (row_view (drop n vs)))) (sym one)

module _ (front row after : Row) (y : Data) (whole : Result Row Cause) where
  makes_in : (r : Result (Unit {0}) Cause) (p : Result Data Cause) → after ≡ joined front (more y row)
      → whole ≡ made (joined front) (made (λ w. more w row) p) → Makes r y p → Makes r after whole
  makes_in (Ok x) p is all h = all ∙ ap (λ (q : Result Data Cause). made (joined front) (made (λ w. more w row) q)) h ∙ ap Ok (sym is)
  makes_in (Err cause.BadNumber) p is all h = all ∙ ap (λ (q : Result Data Cause). made (joined front) (made (λ w. more w row) q)) h
  makes_in (Err cause.OutOfRange) p is all h = all ∙ ap (λ (q : Result Data Cause). made (joined front) (made (λ w. more w row) q)) h
  makes_in (Err cause.BadChoice) p is all h = all ∙ ap (λ (q : Result Data Cause). made (joined front) (made (λ w. more w row) q)) h
  makes_in (Err cause.NoField) p is all h = all ∙ ap (λ (q : Result Data Cause). made (joined front) (made (λ w. more w row) q)) h
  makes_in (Err cause.NoMemory) p is all h = tt

module _ (f : Leaf → Data → Result Data Cause) where
  put_first : (k : ℕ) (name : List ℕ) (t : Tree) (fs : Fields) (v : Data) (vs : Row) → k < length (numbered t) → put_among f k (field name t fs) (more v vs) ≡ made (λ w. more w vs) (put_at f k t v)
  put_first k name t fs v vs h =
      ap (λ (b : Bool). cond b (made (λ w. more w vs) (put_at f k t v)) (made (more v) (put_among f (k - length (numbered t)) fs vs))) (lt-ltb k (length (numbered t)) h)

  put_next : (k : ℕ) (name : List ℕ) (t : Tree) (fs : Fields) (v : Data) (vs : Row) → length (numbered t) ≤ k → put_among f k (field name t fs) (more v vs) ≡ made (more v) (put_among f (k - length (numbered t)) fs vs)
  put_next k name t fs v vs h =
      ap (λ (b : Bool). cond b (made (λ w. more w vs) (put_at f k t v)) (made (more v) (put_among f (k - length (numbered t)) fs vs))) (le-ltb k (length (numbered t)) h)

  no_values : (k : ℕ) (fs : Fields) → put_among f k fs end ≡ Err cause.NoField
  no_values k no_fields = refl
  no_values k (field name t fs) = refl

  no_members : (k : ℕ) (r : Row) → put_among f k no_fields r ≡ Err cause.NoField
  no_members k end = refl
  no_members k (more v r) = refl
  no_members k (gap r) = refl

  -- where the values or the members are over, there is no such leaf
  put_over : (k : ℕ) (vs : List PvValue) (ms : List Member) (i : ℕ) → min (length vs) (length ms) ≤ i → put_among f k (members_view (drop i ms)) (row_view (drop i vs)) ≡ Err cause.NoField
  put_over k [] ms zero h = no_values k (members_view ms)
  put_over k [] ms (suc i) h = no_values k (members_view (drop (suc i) ms))
  put_over k (v ∷ vs) [] zero h = refl
  put_over k (v ∷ vs) [] (suc i) h = no_members k (row_view (drop i vs))
  put_over k (v ∷ vs) (m ∷ ms) zero h = absurd (omega arith)
  put_over k (v ∷ vs) (m ∷ ms) (suc i) h = put_over k vs ms i (omega arith)

  pub put_past : (whole : Result Row Cause) (k : ℕ) (vs : List PvValue) (ms : List Member) (i : ℕ) → min (length vs) (length ms) ≤ i
      → made (joined (row_view (take i vs))) (put_among f k (members_view (drop i ms)) (row_view (drop i vs))) ≡ whole → whole ≡ Err cause.NoField
  put_past whole k vs ms i past same = sym same ∙ ap (λ (r : Result Row Cause). made (joined (row_view (take i vs))) r) (put_over k vs ms i past)

  -- the member in place i doesn't have the leaf
  pub put_on : (whole : Result Row Cause) (vs : List PvValue) (ms : List Member) (i k size : ℕ) (v : PvValue) (m : Member) → i < length vs → i < length ms → get_or vs i v ≡ v → get_or ms i m ≡ m
      → size ≡ length (numbered (shape_view m.shape)) → size ≤ k
      → made (joined (row_view (take i vs))) (put_among f k (members_view (drop i ms)) (row_view (drop i vs))) ≡ whole
      → made (joined (row_view (take (i + 1) vs))) (put_among f (k - size) (members_view (drop (i + 1) ms)) (row_view (drop (i + 1) vs))) ≡ whole
  put_on whole vs ms i k size v m in_vs in_ms at_v at_m is past same =
      let rest_v = row_from vs i v in_vs at_v in
      let rest_m = members_from ms i m in_ms at_m in
      let t = shape_view m.shape in
      let fs = members_view (drop (i + 1) ms) in
      let row = row_view (drop (i + 1) vs) in
      let left = put_among f (k - size) fs row in
      let here : made (joined (row_view (take i vs))) (put_among f k (field m.name t fs) (more (view v) row)) ≡ whole = (rw (rest_m, rest_v) at same) in
      let next : put_among f k (field m.name t fs) (more (view v) row) ≡ made (more (view v)) left =
      put_next k m.name t fs (view v) row (omega (arith, is, past)) ∙ ap (λ (n : ℕ). made (more (view v)) (put_among f (k - n) fs row)) (sym is) in
      let one : i + 1 ≡ suc i = omega arith in
      let longer : take (i + 1) vs ≡ take i vs ++ v ∷ [] = ap (λ (n : ℕ). take n vs) one ∙ take-suc vs i v in_vs ∙ ap (λ (x : PvValue). take i vs ++ x ∷ []) at_v in
      ap (λ (front : List PvValue). made (joined (row_view front)) left) longer
      ∙ onto_push (take i vs) v left
      ∙ ap (λ (r : Result Row Cause). made (joined (row_view (take i vs))) r) (sym next)
      ∙ here

  -- the member in place i has it
  pub put_in : (whole : Result Row Cause) (vs : List PvValue) (ms : List Member) (i k size : ℕ) (v : PvValue) (m : Member) (y : PvValue) (r : Result (Unit {0}) Cause)
      → i < length vs → i < length ms → get_or vs i v ≡ v → get_or ms i m ≡ m
      → size ≡ length (numbered (shape_view m.shape)) → k < size
      → made (joined (row_view (take i vs))) (put_among f k (members_view (drop i ms)) (row_view (drop i vs))) ≡ whole
      → Makes r (view y) (put_at f k (shape_view m.shape) (view v))
      → Makes r (row_view (set vs i y)) whole
  put_in whole vs ms i k size v m y r in_vs in_ms at_v at_m is within same h =
      let rest_v = row_from vs i v in_vs at_v in
      let rest_m = members_from ms i m in_ms at_m in
      let t = shape_view m.shape in
      let fs = members_view (drop (i + 1) ms) in
      let row = row_view (drop (i + 1) vs) in
      let here : made (joined (row_view (take i vs))) (put_among f k (field m.name t fs) (more (view v) row)) ≡ whole = (rw (rest_m, rest_v) at same) in
      let first : put_among f k (field m.name t fs) (more (view v) row) ≡ made (λ w. more w row) (put_at f k t (view v)) = put_first k m.name t fs (view v) row (omega (arith, is, within)) in
      let all : whole ≡ made (joined (row_view (take i vs))) (made (λ w. more w row) (put_at f k t (view v))) = sym here ∙ ap (λ (r : Result Row Cause). made (joined (row_view (take i vs))) r) first in
      makes_in (row_view (take i vs)) row (row_view (set vs i y)) (view y) whole r (put_at f k t (view v)) (set_row vs i y in_vs) all h
