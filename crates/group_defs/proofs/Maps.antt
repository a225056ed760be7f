-- Maps that are seen through their keys and values.
use Rattle.std.proofs.Common.{◌≡◌, Bool, true, false, cond, List, [], ◌∷◌, map, Some, option_map, refl, ap, ◌∙◌}
use Rattle.std.specs.declared.cmp.Ordering.{Ordering}
use Rattle.std.specs.declared.cmp.Ordering.TheVariants.{Less, Equal, Greater}
use Rattle.std.specs.Ordering.{match_ordering}
use Rattle.std.specs.BTreeMap.{insert_entry}
use Rattle.std.specs.Map.{lookup}
use Rattle.indexmap.specs.IndexMap as index

module _ {K L V W : Type 0} (f : K → L) (g : V → W) where
  abbrev pub seen : List (K × V) → List (L × W)
  seen es = map (λ e. (f e.0, g e.1)) es

  pub seen-insert : (cmp : K → K → Ordering) (by : L → L → Ordering) → ((a b : K) → cmp a b ≡ by (f a) (f b)) → (es : List (K × V)) (k : K) (v : V)
      → seen (insert_entry cmp es k v) ≡ insert_entry by (seen es) (f k) (g v)
  seen-insert cmp by same [] k v = refl
  seen-insert cmp by same (e ∷ es) k v =
      go (seen-insert cmp by same es k v) (cmp k e.0) ∙ ap (λ (o : Ordering). match_ordering o ((f k, g v) ∷ (f e.0, g e.1) ∷ seen es) ((f e.0, g v) ∷ seen es) ((f e.0, g e.1) ∷ insert_entry by (seen es) (f k) (g v))) (same k e.0)
    where
      go : seen (insert_entry cmp es k v) ≡ insert_entry by (seen es) (f k) (g v) → (o : Ordering) → seen (match_ordering o ((k, v) ∷ e ∷ es) ((e.0, v) ∷ es) (e ∷ insert_entry cmp es k v))
          ≡ match_ordering o ((f k, g v) ∷ (f e.0, g e.1) ∷ seen es) ((f e.0, g v) ∷ seen es) ((f e.0, g e.1) ∷ insert_entry by (seen es) (f k) (g v))
      go rest Less = refl
      go rest Equal = refl
      go rest Greater = ap (λ (xs : List (L × W)). (f e.0, g e.1) ∷ xs) rest

  pub seen-lookup : (test : L → Bool) (es : List (K × V)) → option_map g (lookup (λ k. test (f k)) es) ≡ lookup test (seen es)
  seen-lookup test [] = refl
  seen-lookup test (e ∷ es) = go (seen-lookup test es) (test (f e.0))
    where
      go : option_map g (lookup (λ k. test (f k)) es) ≡ lookup test (seen es) → (b : Bool) → option_map g (cond b (Some e.1) (lookup (λ k. test (f k)) es)) ≡ cond b (Some (g e.1)) (lookup test (seen es))
      go rest true = refl
      go rest false = rest

  pub seen-put : (eq : L → L → Bool) (es : List (K × V)) (k : K) (v : V) → seen (index.insert_entry (λ a b. eq (f a) (f b)) es k v) ≡ index.insert_entry eq (seen es) (f k) (g v)
  seen-put eq [] k v = refl
  seen-put eq (e ∷ es) k v = go (seen-put eq es k v) (eq (f k) (f e.0))
    where
      go : seen (index.insert_entry (λ a b. eq (f a) (f b)) es k v) ≡ index.insert_entry eq (seen es) (f k) (g v) → (b : Bool) → seen (cond b ((e.0, v) ∷ es) (e ∷ index.insert_entry (λ a b. eq (f a) (f b)) es k v)) ≡ cond b ((f e.0, g v) ∷ seen es) ((f e.0, g e.1) ∷ index.insert_entry eq (seen es) (f k) (g v))
      go rest true = refl
      go rest false = ap (λ (xs : List (L × W)). (f e.0, g e.1) ∷ xs) rest
