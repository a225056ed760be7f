-- Paths and lines, part by part.
use Rattle.std.proofs.Common.{◌≡◌, ◌∙◌, ℕ, ◌<◌, Bool, true, List, [], ◌∷◌, ◌++◌, length, take, refl, sym, ap, append_assoc, append-nil, arith}
use Rattle.std.proofs.Math.Seq.{take-append_seam}
use Rattle.pvd_type.specs.Tree.{Tree, leaf, node, struct, union, struct_list, union_list}
use Rattle.pvd_type.specs.Numbers.{is_leaf}
use Rattle.pvd_value.specs.Data.{Data}
use Rattle.cli_text.specs.Lines.{followed, path_to, id_text, leaf_line, lines_of, nodes_below}

pub followed_none : (path : List ℕ) (mark : ℕ) → length path ≡ 0 → followed path mark ≡ []
followed_none [] mark h = refl
followed_none (c ∷ cs) mark h = absurd (omega arith)

pub followed_some : (path : List ℕ) (mark : ℕ) → 0 < length path → followed path mark ≡ path ++ mark ∷ []
followed_some [] mark h = absurd (omega arith)
followed_some (c ∷ cs) mark h = refl

pub id_none : (id : List ℕ) → length id ≡ 0 → id_text id ≡ []
id_none [] h = refl
id_none (c ∷ cs) h = absurd (omega arith)

pub id_some : (id : List ℕ) → 0 < length id → id_text id ≡ 32 ∷ id
id_some [] h = absurd (omega arith)
id_some (c ∷ cs) h = refl

-- what is left of a member's path is the path that it was made from
pub take-path_to : (path name : List ℕ) → take (length path) (path_to path name) ≡ path
take-path_to [] name = refl
take-path_to (c ∷ cs) name = ap (λ (xs : List ℕ). take (length (c ∷ cs)) xs) (append_assoc (c ∷ cs) (46 ∷ []) name) ∙ take-append_seam (c ∷ cs) (46 ∷ name)

-- a node that is no structure has a line of its own, and none below it
pub leaf_lines : (marked over : ℕ → Bool) (n : ℕ) (path : List ℕ) (t : Tree) (v : Data) → is_leaf t ≡ true → lines_of marked over n path t v ≡ leaf_line (marked n) (over n) path t v
leaf_lines marked over n path (leaf l) v h = refl
leaf_lines marked over n path (node struct id fs) v h = absurd cc
leaf_lines marked over n path (node union id fs) v h = refl
leaf_lines marked over n path (node struct_list id fs) v h = refl
leaf_lines marked over n path (node union_list id fs) v h = refl

pub none_below : (path : List ℕ) (t : Tree) → is_leaf t ≡ true → nodes_below path t ≡ []
none_below path (leaf l) h = refl
none_below path (node struct id fs) h = absurd cc
none_below path (node union id fs) h = refl
none_below path (node struct_list id fs) h = refl
none_below path (node union_list id fs) h = refl

-- one text more, and no text more
pub one_more : (old new added rest all : List ℕ) → new ≡ old ++ added → old ++ (added ++ rest) ≡ all → new ++ rest ≡ all
one_more old new added rest all e same = ap (λ (n : List ℕ). n ++ rest) e ∙ append_assoc old added rest ∙ same

pub none_more : (out rest all : List ℕ) → rest ≡ [] → out ++ rest ≡ all → out ≡ all
none_more out rest all e same = sym (append-nil out) ∙ ap (λ (r : List ℕ). out ++ r) (sym e) ∙ same
