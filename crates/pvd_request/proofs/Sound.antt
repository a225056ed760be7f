-- What holds of each request that asks something.
use Rattle.std.proofs.Common.{◌≡◌, ◌∙◌, ◌≤◌, ℕ, ◌+◌, ℤ, pos, negsuc, Bool, true, false, cond, ◌||◌, min, max, List, [], ◌∷◌, length, codes, Option, Some, None, Result, Ok, Err, refl, sym, ap, subst, arith}
use Rattle.std.specs.Ordering.{nat_cmp, eq_by_cmp}
use Rattle.std.specs.Cmp.{nat_cmp_total}
use Rattle.std.specs.List.{list_any}
use Rattle.std.specs.FinSet.{from_list, contains-from_list}
use Rattle.std.specs.Str.Parse.{signed_digits_value}
use Rattle.std.proofs.lemmas.Bool.{false≢true}
use Rattle.std.proofs.lemmas.List.Folds.{list_any-append}
use Rattle.pvd_type.specs.Tree.{Tree, leaf, node, struct, union, struct_list, union_list, Fields, no_fields, field}
use Rattle.pvd_type.specs.Numbers.{leaves_from, numbered, numbered_fields}
use Rattle.pvd_value.specs.Data.{Data, Single, boolean, byte, short, int, long, ubyte, ushort, uint, ulong, float, double, text, single}
use Rattle.pvd_request.specs.Selection.{selected, leaves_where, leaves_among, root_selects, HoldsLeaves}
use Rattle.pvd_request.specs.Options.{queue_size, is_decimal, queue_of_single, queue_of, read_or, option_in, queue_in, atomic_in, pipeline_in, options_of, options_in}
use Rattle.pvd_request.specs.Requests.{asked, request_of, root_in, IsSound}
use Rattle.pvd_request.specs.declared.options.Options.{Options}
use Rattle.pvd_request.specs.declared.request.Request.{Request}
use Rattle.pvd_request.specs.declared.request.RequestFault.{RequestFault}
use Rattle.pvd_request.specs.declared.request.Root.{Root}
use Rattle.pvd_request.proofs.Paths.{leaves_apart}
use Rattle.pvd_request.proofs.Asked.{some_number}

either : (a b c d : Bool) → (a ≡ true → c ≡ true) → (b ≡ true → d ≡ true) → (a || b) ≡ true → (c || d) ≡ true
either true b c d f g h = ap (λ x. x || d) (f refl)
either false b true d f g h = refl
either false b false d f g h = g h

module _ (test : ℕ → Bool) where
  one_leaf : (b : Bool) (n : ℕ) → list_any test (cond b (n ∷ []) []) ≡ true → list_any test (n ∷ []) ≡ true
  one_leaf true n h = h
  one_leaf false n h = absurd (false≢true h)

  mutual
    where_leaves : (passes : List (List ℕ) → Bool) (n : ℕ) (t : Tree) → list_any test (leaves_where passes n t) ≡ true → list_any test (leaves_from n (numbered t)) ≡ true
    where_leaves passes n (leaf l) h = one_leaf (passes []) n h
    where_leaves passes n (node struct id fs) h = among_leaves passes (n + 1) fs h
    where_leaves passes n (node union id fs) h = one_leaf (passes []) n h
    where_leaves passes n (node struct_list id fs) h = one_leaf (passes []) n h
    where_leaves passes n (node union_list id fs) h = one_leaf (passes []) n h

    among_leaves : (passes : List (List ℕ) → Bool) (n : ℕ) (fs : Fields) → list_any test (leaves_among passes n fs) ≡ true → list_any test (leaves_from n (numbered_fields fs)) ≡ true
    among_leaves passes n no_fields h = h
    among_leaves passes n (field name t fs) h =
        let below : List (List ℕ) → Bool = λ path. passes (name ∷ path) in
        let xs = numbered t in
        let ys = numbered_fields fs in
        ap (list_any test) (leaves_apart n xs ys) ∙ list_any-append test (leaves_from n xs) (leaves_from (n + length xs) ys)
        ∙ either
        (list_any test (leaves_where below n t)) (list_any test (leaves_among passes (n + length xs) fs)) (list_any test (leaves_from n xs)) (list_any test (leaves_from (n + length xs) ys))
        (where_leaves below n t) (among_leaves passes (n + length xs) fs)
        (sym (list_any-append test (leaves_where below n t) (leaves_among passes (n + length xs) fs)) ∙ h)

-- leaves whose paths pass are leaves
pub passing_holds : (passes : List (List ℕ) → Bool) (t : Tree) → HoldsLeaves t (from_list (leaves_where passes 0 t))
passing_holds passes t q h =
    contains-from_list nat_cmp_total (leaves_from 0 (numbered t)) q
    ∙ where_leaves (eq_by_cmp nat_cmp q) passes 0 t (sym (contains-from_list nat_cmp_total (leaves_where passes 0 t) q) ∙ h)

abbrev Bounded : ℕ → Type 0
Bounded q = (1 ≤ q) × (q ≤ 64)

size_bounded : (z : ℤ) (q : ℕ) → Some (queue_size z) ≡ Some q → Bounded q
size_bounded (pos n) q e = let is : min 64 (max 1 n) ≡ q = cc in (omega arith, omega arith)
size_bounded (negsuc n) q e = let is : 1 ≡ q = cc in (omega arith, omega arith)

text_bounded : (b : Bool) (z : ℤ) (q : ℕ) → cond b (Some (queue_size z)) None ≡ Some q → Bounded q
text_bounded true z q e = size_bounded z q e
text_bounded false z q e = absurd cc

single_bounded : (x : Single) (q : ℕ) → queue_of_single x ≡ Some q → Bounded q
single_bounded (boolean b) q e = absurd cc
single_bounded (byte z) q e = size_bounded z q e
single_bounded (short z) q e = size_bounded z q e
single_bounded (int z) q e = size_bounded z q e
single_bounded (long z) q e = size_bounded z q e
single_bounded (ubyte n) q e = size_bounded (pos n) q e
single_bounded (ushort n) q e = size_bounded (pos n) q e
single_bounded (uint n) q e = size_bounded (pos n) q e
single_bounded (ulong n) q e = size_bounded (pos n) q e
single_bounded (float n) q e = absurd cc
single_bounded (double n) q e = absurd cc
single_bounded (text t) q e = text_bounded (is_decimal t) (signed_digits_value 10 t) q e

queue_bounded : (d : Data) (q : ℕ) → queue_of d ≡ Some q → Bounded q
queue_bounded (single x) q e = single_bounded x q e
queue_bounded _ q e = absurd cc

given_bounded : (given : Option (Option Data)) (q : ℕ) → read_or 4 queue_of given ≡ Some q → Bounded q
given_bounded None q e = let is : 4 ≡ q = cc in (omega arith, omega arith)
given_bounded (Some None) q e = absurd cc
given_bounded (Some (Some d)) q e = queue_bounded d q e

options_bounded : (q : Option ℕ) (a p : Option (Option Bool)) (o : Options) → ((x : ℕ) → q ≡ Some x → Bounded x) → options_of q a p ≡ Ok o → Bounded o.queue
options_bounded None a p o k e = absurd cc
options_bounded (Some x) None p o k e = absurd cc
options_bounded (Some x) (Some y) None o k e = absurd cc
options_bounded (Some x) (Some y) (Some z) o k e = let is : x ≡ o.queue = cc in subst Bounded is (k x refl)

sound_asked : (t : Tree) (ns : List ℕ) (options : Result Options RequestFault) (r : Request) → HoldsLeaves t (from_list ns)
    → ((o : Options) → options ≡ Ok o → Bounded o.queue) → asked ns options ≡ Ok r → IsSound t r
sound_asked t [] options r h k e = absurd cc
sound_asked t (n ∷ ns) (Err fault) r h k e = absurd cc
sound_asked t (n ∷ ns) (Ok o) r h k e =
    let mask : from_list (n ∷ ns) ≡ r.mask = cc in
    let queue : o.queue ≡ r.queue = cc in
    let bounded = k o refl in
    record {
      holds = subst (HoldsLeaves t) mask h;
      some = λ none. some_number n ns (mask ∙ none);
      least = omega (arith, bounded.0, queue);
      most = omega (arith, bounded.1, queue);
    }

-- whatever a request asks
pub request_sound : (t : Tree) (root : Root) (given : Option (Tree × Data)) (r : Request) → request_of t root given ≡ Ok r → IsSound t r
request_sound t root given r e =
    sound_asked t (selected t (root_in root given)) (options_in given) r (passing_holds (root_selects (root_in root given)) t)
    (λ o. options_bounded (queue_in given) (atomic_in given) (pipeline_in given) o (given_bounded (option_in given (codes "record._options.queueSize")))) e
