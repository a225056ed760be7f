-- How a walk passes over members by their sizes.
use Rattle.std.proofs.Common.{◌≡◌, ℕ, suc, ◌+◌, ◌<◌, ◌≤◌, List, [], ◌∷◌, ◌++◌, length, get_or, drop, refl, sym, ap, ◌∙◌, arith, append_assoc}
use Rattle.std.proofs.lemmas.List.{length-append, map-append}
use Rattle.std.proofs.Math.Seq.{drop-append_seam, set-append_seam}
use Rattle.std.specs.Prelude.{set}
use Rattle.pvd_type.specs.Tree.{Tree, leaf, node, struct, Fields}
use Rattle.pvd_type.specs.Numbers.{numbered, numbered_fields, sizes_of, IsMeasured}

pub length-sizes_of : (ts : List Tree) → length (sizes_of ts) ≡ length ts
length-sizes_of [] = refl
length-sizes_of (t ∷ ts) = ap suc (length-sizes_of ts)

pub sizes_of-append : (xs ys : List Tree) → sizes_of (xs ++ ys) ≡ sizes_of xs ++ sizes_of ys
sizes_of-append xs ys = map-append (λ (t : Tree). length (numbered t)) xs ys

-- the members of a structure are measured by what follows its own size
pub measured_inside : (sizes id : List ℕ) (fs : Fields) → IsMeasured sizes (numbered (node struct id fs)) → IsMeasured (drop 1 sizes) (numbered_fields fs)
measured_inside sizes id fs m = record { rest = m.rest; front = ap (drop 1) m.front }

-- what the sizes of a first node and of others say
pub record Measures (sizes : List ℕ) (t : Tree) (ts : List Tree) : Type 0 where
  pub here : IsMeasured sizes (numbered t)
  pub size : get_or sizes 0 0 ≡ length (numbered t)
  pub some : 0 < length sizes
  pub some_number : 0 < length (numbered t)
  pub within : length (numbered t) ≤ length sizes
  pub after : IsMeasured (drop (length (numbered t)) sizes) ts

first_size : (t : Tree) (rest : List ℕ) → get_or (sizes_of (numbered t) ++ rest) 0 0 ≡ length (numbered t)
first_size (leaf l) rest = refl
first_size (node k id fs) rest = refl

pub some_number : (t : Tree) → 0 < length (numbered t)
some_number (leaf l) = omega arith
some_number (node k id fs) = omega arith

-- a size is written where its place was kept
pub size_set : (old : List ℕ) (inside : List ℕ) (x v : ℕ) → set ((old ++ x ∷ []) ++ inside) (length old) v ≡ old ++ v ∷ inside
size_set old inside x v = ap (λ xs. set xs (length old) v) (append_assoc old (x ∷ []) inside) ∙ set-append_seam old x inside v

pub measured_first : (sizes : List ℕ) (t : Tree) (ts : List Tree) → IsMeasured sizes (numbered t ++ ts) → Measures sizes t ts
measured_first sizes t ts m =
    let rest = sizes_of ts ++ m.rest in
    let front : sizes ≡ sizes_of (numbered t) ++ rest = m.front ∙ ap (λ xs. xs ++ m.rest) (sizes_of-append (numbered t) ts) ∙ append_assoc (sizes_of (numbered t)) (sizes_of ts) m.rest in
    let len : length sizes ≡ length (numbered t) + length rest = ap length front ∙ length-append (sizes_of (numbered t)) rest ∙ ap (λ n. n + length rest) (length-sizes_of (numbered t)) in
    record {
      here = record { rest = rest; front = front };
      size = ap (λ xs. get_or xs 0 0) front ∙ first_size t rest;
      some_number = some_number t;
      some = omega (arith, len, some_number t);
      within = omega (arith, len);
      after = record {
        rest = m.rest;
        front = ap (drop (length (numbered t))) front ∙ ap (λ n. drop n (sizes_of (numbered t) ++ rest)) (sym (length-sizes_of (numbered t))) ∙ drop-append_seam (sizes_of (numbered t)) rest;
      };
    }

-- all the sizes of a type measure it
pub measured_whole : (sizes : List ℕ) (t : Tree) → sizes ≡ sizes_of (numbered t) → IsMeasured sizes (numbered t)
measured_whole sizes t e = record { rest = []; front = e ∙ sym (append_nil (sizes_of (numbered t))) }
  where
    append_nil : (xs : List ℕ) → xs ++ [] ≡ xs
    append_nil [] = refl
    append_nil (x ∷ xs) = ap (λ ys. x ∷ ys) (append_nil xs)
