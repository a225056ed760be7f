-- Leaves whose paths pass.
use Rattle.std.proofs.Common.{◌≡◌, ◌∙◌, ℕ, suc, ◌+◌, Bool, true, false, not, cond, ◌||◌, List, [], ◌∷◌, ◌++◌, length, Option, Some, None, fold, get_or, drop, ◌<◌, refl, sym, ap, arith, add-zero}
use Rattle.std.proofs.lemmas.List.Sums.{fold-append}
use Rattle.std.specs.Ordering.{nat_cmp}
use Rattle.std.specs.FinSet as set
use Rattle.std.specs.FinSet.{FinSet}
use Rattle.pvd_type.specs.View.{shape_view, members_view}
use Rattle.pvd_type.specs.declared.shape.Member.{Member}
use Rattle.pvd_type.proofs.Walks.{members_from}
use Rattle.pvd_type.specs.Tree.{Tree, leaf, node, struct, union, struct_list, union_list, Fields, no_fields, field}
use Rattle.pvd_type.specs.Numbers.{is_leaf, leaves, leaves_from, numbered, numbered_fields}
use Rattle.pvd_request.specs.Selection.{is_empty_structure, root_selects, selected, fields_in, said_of, some_tree, name_fields, selects, one_selects, every, leaves_where, leaves_among}

one_more : (b : Bool) (n : ℕ) (r s z : List ℕ) → r ≡ s ++ z → cond b (n ∷ r) r ≡ cond b (n ∷ s) s ++ z
one_more true n r s z e = ap (λ xs. n ∷ xs) e
one_more false n r s z e = e

pub leaves_apart : (n : ℕ) (xs ys : List Tree) → leaves_from n (xs ++ ys) ≡ leaves_from n xs ++ leaves_from (n + length xs) ys
leaves_apart n [] ys = ap (λ k. leaves_from k ys) (sym (add-zero n))
leaves_apart n (x ∷ xs) ys =
    let e : (n + 1) + length xs ≡ n + suc (length xs) = omega arith in
    one_more (is_leaf x) n (leaves_from (n + 1) (xs ++ ys)) (leaves_from (n + 1) xs) (leaves_from (n + suc (length xs)) ys)
    (leaves_apart (n + 1) xs ys ∙ ap (λ k. leaves_from (n + 1) xs ++ leaves_from k ys) e)

-- where no path passes, there is no such leaf
mutual
  pub none_pass : (n : ℕ) (t : Tree) → leaves_where (λ path. false) n t ≡ []
  none_pass n (leaf l) = refl
  none_pass n (node struct id fs) = none_among (n + 1) fs
  none_pass n (node union id fs) = refl
  none_pass n (node struct_list id fs) = refl
  none_pass n (node union_list id fs) = refl

  none_among : (n : ℕ) (fs : Fields) → leaves_among (λ path. false) n fs ≡ []
  none_among n no_fields = refl
  none_among n (field name t fs) = λ i. none_pass n t i ++ none_among (n + length (numbered t)) fs i

-- where every path passes, all leaves do
mutual
  pub all_pass : (n : ℕ) (t : Tree) → leaves_where every n t ≡ leaves_from n (numbered t)
  all_pass n (leaf l) = refl
  all_pass n (node struct id fs) = all_among (n + 1) fs
  all_pass n (node union id fs) = refl
  all_pass n (node struct_list id fs) = refl
  all_pass n (node union_list id fs) = refl

  all_among : (n : ℕ) (fs : Fields) → leaves_among every n fs ≡ leaves_from n (numbered_fields fs)
  all_among n no_fields = refl
  all_among n (field name t fs) =
      (λ i. all_pass n t i ++ all_among (n + length (numbered t)) fs i) ∙ sym (leaves_apart n (numbered t) (numbered_fields fs))

module _ (t : Tree) where
  -- a member that names no field selects everything below its own
  goes_no_further : name_fields (fields_in t) ≡ false → (path : List (List ℕ)) → selects path t ≡ true
  goes_no_further h [] = ap not h
  goes_no_further h (name ∷ path) = ap (λ b. not b || some_tree (selects path) (said_of name (fields_in t))) h

  -- another selects what its members select
  goes_on : name_fields (fields_in t) ≡ true → (path : List (List ℕ)) → selects path t ≡ one_selects (fields_in t) path
  goes_on h [] = ap not h
  goes_on h (name ∷ path) = ap (λ b. not b || some_tree (selects path) (said_of name (fields_in t))) h

-- What is selected of a node, by what is said of it.
module _ (n : ℕ) (t : Tree) (said : Option Tree) where
  pub unsaid : said ≡ None → leaves_where (λ path. some_tree (selects path) said) n t ≡ []
  unsaid e = ap (λ (o : Option Tree). leaves_where (λ path. some_tree (selects path) o) n t) e ∙ none_pass n t

  module _ (r : Tree) (fs : Fields) (is : said ≡ Some r) (inside : fs ≡ fields_in r) where
    pub said_whole : name_fields fs ≡ false → leaves_where every n t ≡ leaves_where (λ path. some_tree (selects path) said) n t
    said_whole h =
        sym (ap (λ (o : Option Tree). leaves_where (λ path. some_tree (selects path) o) n t) is
        ∙ (λ i. leaves_where (λ path. goes_no_further r (ap name_fields (sym inside) ∙ h) path i) n t))

    pub said_inside : name_fields fs ≡ true → leaves_where (one_selects fs) n t ≡ leaves_where (λ path. some_tree (selects path) said) n t
    said_inside h =
        ap (λ (gs : Fields). leaves_where (one_selects gs) n t) inside
        ∙ sym (ap (λ (o : Option Tree). leaves_where (λ path. some_tree (selects path) o) n t) is
        ∙ (λ i. leaves_where (λ path. goes_on r (ap name_fields (sym inside) ∙ h) path i) n t))

-- a leaf is a single one
pub lone_where : (passes : List (List ℕ) → Bool) (n : ℕ) (t : Tree) → is_leaf t ≡ true → leaves_where passes n t ≡ cond (passes []) (n ∷ []) []
lone_where passes n (leaf l) h = refl
lone_where passes n (node struct id fs) h = absurd cc
lone_where passes n (node union id fs) h = refl
lone_where passes n (node struct_list id fs) h = refl
lone_where passes n (node union_list id fs) h = refl

-- what is said below a leaf selects nothing
pub nothing_below : (fs : Fields) (n : ℕ) (t : Tree) → is_leaf t ≡ true → leaves_where (one_selects fs) n t ≡ []
nothing_below fs n t h = lone_where (one_selects fs) n t h

-- members, one after another, where m stands in place i
module _ (passes : List (List ℕ) → Bool) (ms : List Member) (i : ℕ) (m : Member) (within : i < length ms) (here : get_or ms i m ≡ m) where
  pub leaves_from_member : (s : FinSet nat_cmp) (n : ℕ) → fold set.insert s (leaves_among passes n (members_view (drop i ms)))
      ≡ fold set.insert (fold set.insert s (leaves_where (λ path. passes (m.name ∷ path)) n (shape_view m.shape)))
      (leaves_among passes (n + length (numbered (shape_view m.shape))) (members_view (drop (i + 1) ms)))
  leaves_from_member s n =
      ap (λ (fs : Fields). fold set.insert s (leaves_among passes n fs)) (members_from ms i m within here)
      ∙ fold-append set.insert s (leaves_where (λ path. passes (m.name ∷ path)) n (shape_view m.shape))
      (leaves_among passes (n + length (numbered (shape_view m.shape))) (members_view (drop (i + 1) ms)))

-- What is selected of a type, by the root of a request.
module _ (t : Tree) (root : Option Tree) where
  selects_everything : ((path : List (List ℕ)) → root_selects root path ≡ true) → leaves t ≡ set.from_list (selected t root)
  selects_everything all = ap set.from_list (sym (all_pass 0 t) ∙ sym (λ i. leaves_where (λ path. all path i) 0 t))

  pub no_root : root ≡ None → leaves t ≡ set.from_list (selected t root)
  no_root e = selects_everything (λ path. ap (λ (o : Option Tree). root_selects o path) e)

  module _ (r : Tree) (is : root ≡ Some r) where
    pub empty_root : is_empty_structure r ≡ true → leaves t ≡ set.from_list (selected t root)
    empty_root e = selects_everything (λ path. ap (λ (o : Option Tree). root_selects o path) is ∙ ap (λ b. b || one_selects (fields_in r) path) e)

    -- the members of another root select
    pub named_root : (fs : Fields) → fs ≡ fields_in r → is_empty_structure r ≡ false → leaves_where (one_selects fs) 0 t ≡ selected t root
    named_root fs inside e =
        ap (λ (gs : Fields). leaves_where (one_selects gs) 0 t) inside
        ∙ sym (λ i. leaves_where (λ path. (ap (λ (o : Option Tree). root_selects o path) is ∙ ap (λ b. b || one_selects (fields_in r) path) e) i) 0 t)
