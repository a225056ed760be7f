-- The maps that keep types, as finite maps.
use Rattle.std.proofs.Common.{◌≡◌, ℕ, Bool, true, false, cond, ◌||◌, List, [], ◌∷◌, Option, Some, None, nat_eq, nat_cmp, option_map, refl, sym, ap, ◌∙◌, arith, inl, inr}
use Rattle.std.proofs.lemmas.Bool.{cases_lt, eq-eqb, eqb-true}
use Rattle.std.specs.Cmp.{nat_cmp_total, nat_cmp_is, eq_by_cmp_equiv}
use Rattle.std.specs.declared.cmp.Ordering.TheVariants.{Less, Equal, Greater}
use Rattle.std.specs.Ordering.{is_eq}
use Rattle.std.specs.FinMap.{FinMap, from_entries, insert, get, find, get-from_entries, get-insert, same_map, nat_cmp-IsAntisymmetric}
use Rattle.std.specs.BTreeMap.{is_at}
use Rattle.std.specs.Map.{lookup}
use Rattle.std.specs.Arc.{arc_value}
use Rattle.std.specs.declared.sync.Arc.{Arc}
use Rattle.pvd_type.specs.Tree.{Tree}
use Rattle.pvd_type.proofs.Sets.{differs}
use Rattle.pvd_desc.specs.Types.{laid}
use Rattle.pvd_desc.specs.Shared.{shared, first_of}
use Rattle.pvd_desc.proofs.Laid.{get_laid}

pub alike : (q k : ℕ) → is_eq (nat_cmp q k) ≡ nat_eq q k
alike q k =
    elim (cases_lt q k) [
      | inl lt ↦ ap is_eq (sym (nat_cmp_is q k Less lt)) ∙ sym (differs q k (λ e. omega arith))
      | inr le ↦ elim (cases_lt k q) [
        | inl lt ↦ ap is_eq (sym (nat_cmp_is q k Greater lt)) ∙ sym (differs q k (λ e. omega arith))
        | inr ge ↦ let same : q ≡ k = omega arith in ap is_eq (sym (nat_cmp_is q k Equal same)) ∙ sym (eq-eqb q k same)
      ]
    ]

-- a type that is there already is put there again
pub put_again : (types : FinMap nat_cmp Tree) (id : ℕ) (t : Tree) → get types id ≡ Some t → insert types id t ≡ types
put_again types id t there = same_map nat_cmp_total nat_cmp-IsAntisymmetric _ _ (λ q. get-insert nat_cmp_total types id t q ∙ ap (λ b. cond b (Some t) (get types q)) (alike q id) ∙ go q (nat_eq q id) refl)
  where
    go : (q : ℕ) (b : Bool) → nat_eq q id ≡ b → cond b (Some t) (get types q) ≡ get types q
    go q true e = sym (ap (get types) (eqb-true q id e) ∙ there)
    go q false e = refl

-- what is under a number once a type is put under another, or the same
pub put_there : (types : FinMap nat_cmp Tree) (id q : ℕ) (t : Tree) (known : Bool) → (known ≡ true → get types q ≡ Some t) → (nat_eq q id || known) ≡ true → get (insert types id t) q ≡ Some t
put_there types id q t known h some = get-insert nat_cmp_total types id t q ∙ ap (λ b. cond b (Some t) (get types q)) (alike q id) ∙ go (nat_eq q id) some
  where
    go : (b : Bool) → (b || known) ≡ true → cond b (Some t) (get types q) ≡ Some t
    go true e = refl
    go false e = h e

mapped : {A B : Type 0} (f : A → B) (c : Bool) (a : A) (o : Option A) → option_map f (cond c (Some a) o) ≡ cond c (Some (f a)) (option_map f o)
mapped f true a o = refl
mapped f false a o = refl

module _ {Z : Type 0} where
  find_shared : (es : List (ℕ × Arc Tree Z)) (q : ℕ) → find nat_cmp q (shared es) ≡ option_map arc_value (lookup (is_at (nat_cmp q)) es)
  find_shared [] q = refl
  find_shared (e ∷ es) q = ap (cond (is_at (nat_cmp q) e.0) (Some (arc_value e.1))) (find_shared es q) ∙ sym (mapped arc_value (is_at (nat_cmp q) e.0) e.1 (lookup (is_at (nat_cmp q)) es))

  -- what an ordered map has under a key
  pub found : (es : List (ℕ × Arc Tree Z)) (q : ℕ) → get (from_entries {R = nat_cmp} (shared es)) q ≡ option_map arc_value (lookup (is_at (nat_cmp q)) es)
  found es q = get-from_entries nat_cmp_total (shared es) q ∙ find_shared es q

  lookup_alike : (es : List (ℕ × Arc Tree Z)) (q : ℕ) → lookup (is_at (nat_cmp q)) es ≡ lookup (nat_eq q) es
  lookup_alike [] q = refl
  lookup_alike (e ∷ es) q = rw (alike q e.0, lookup_alike es q) refl

  -- what a hash map has under a key
  pub found_hashed : (es : List (ℕ × Arc Tree Z)) (q : ℕ) → get (from_entries {R = nat_cmp} (shared es)) q ≡ option_map arc_value (lookup (nat_eq q) es)
  found_hashed es q = found es q ∙ ap (option_map arc_value) (lookup_alike es q)

  pub given : (es fs : List (ℕ × Arc Tree Z)) (k : ℕ) (t : Arc Tree Z) → ((q : ℕ) → lookup (is_at (nat_cmp q)) fs ≡ cond (is_at (nat_cmp k) q) (Some t) (lookup (is_at (nat_cmp q)) es))
      → from_entries {R = nat_cmp} (shared fs) ≡ insert (from_entries (shared es)) k (arc_value t)
  given es fs k t h = same_map nat_cmp_total nat_cmp-IsAntisymmetric _ _ (λ q.
      found fs q ∙ ap (option_map arc_value) (h q) ∙ mapped arc_value (is_at (nat_cmp k) q) t (lookup (is_at (nat_cmp q)) es)
      ∙ ap (λ b. cond b (Some (arc_value t)) (option_map arc_value (lookup (is_at (nat_cmp q)) es))) ((eq_by_cmp_equiv nat_cmp_total).symm k q)
      ∙ sym (get-insert nat_cmp_total (from_entries (shared es)) k (arc_value t) q ∙ ap (cond (is_at (nat_cmp q) k) (Some (arc_value t))) (found es q)))

  mapped_first : (a b : Option (Arc Tree Z)) → option_map arc_value (first_of a b) ≡ first_of (option_map arc_value a) (option_map arc_value b)
  mapped_first None b = refl
  mapped_first (Some a) b = refl

  -- a hash map that has what was defined, and else what it had before
  pub filled : (before after defined : List (ℕ × Arc Tree Z)) → ((q : ℕ) → lookup (nat_eq q) after ≡ first_of (lookup (is_at (nat_cmp q)) defined) (lookup (nat_eq q) before))
      → from_entries {R = nat_cmp} (shared after) ≡ laid (from_entries (shared before)) (from_entries (shared defined))
  filled before after defined h = same_map nat_cmp_total nat_cmp-IsAntisymmetric _ _ (λ q.
      found_hashed after q ∙ ap (option_map arc_value) (h q) ∙ mapped_first (lookup (is_at (nat_cmp q)) defined) (lookup (nat_eq q) before)
      ∙ sym (get_laid (from_entries (shared before)) (from_entries (shared defined)) q ∙ rw (found defined q, found_hashed before q) refl))

  moved_at : (b : Bool) (l x : Option (Arc Tree Z)) (t : Arc Tree Z) → (b ≡ true → l ≡ Some t) → first_of (cond b None l) (cond b (Some t) x) ≡ first_of l x
  moved_at true l x t h = ap (λ (l : Option (Arc Tree Z)). first_of l x) (sym (h refl))
  moved_at false l x t h = refl

  -- an entry that was moved from what is left to what is kept
  pub moved : (left left' kept kept' : ℕ → Option (Arc Tree Z)) (id : ℕ) (t : Arc Tree Z) → left id ≡ Some t → ((q : ℕ) → left' q ≡ cond (is_at (nat_cmp id) q) None (left q))
      → ((q : ℕ) → kept' q ≡ cond (nat_eq id q) (Some t) (kept q)) → (q : ℕ) → first_of (left' q) (kept' q) ≡ first_of (left q) (kept q)
  moved left left' kept kept' id t here less more q =
      rw (less q, more q, alike id q) (moved_at (nat_eq id q) (left q) (kept q) t (λ e. ap left (sym (eqb-true id q e)) ∙ here))
