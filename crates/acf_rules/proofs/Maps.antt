-- Groups that a map holds, seen by name.
use Rattle.std.proofs.Common.{◌≡◌, ◌||◌, ℕ, Bool, true, false, cond, List, [], ◌∷◌, ◌++◌, map, length, drop, get_or, ◌+◌, ◌<◌, Option, Some, None, option_map, is_some, string_bytes, refl, sym, ap, ◌∙◌}
use Rattle.std.specs.List.{list_any, fold}
use Rattle.std.specs.Map.{lookup}
use Rattle.std.specs.Str.{bytes_eq}
use Rattle.std.proofs.lemmas.List.{map-append, drop_more}
use Rattle.indexmap.specs.IndexMap.{insert_entry}
use Rattle.indexmap.specs.IndexSet.{IndexSet, insert_key}
use Rattle.std.specs.declared.string.String.{String}
use Rattle.acf_rules.specs.Access.{Name, is_among, has}
use Rattle.acf_rules.specs.Forms.{with_name, once}

abbrev pub members_of : {Y S : Type 0} → IndexSet (String Y) S → List Name
members_of set = map string_bytes set.keys

module _ {K V W : Type 0} (f : K → Name) (g : V → W) where
  abbrev pub seen : List (K × V) → List (Name × W)
  seen es = map (λ e. (f e.0, g e.1)) es

  pub seen-lookup : (test : Name → Bool) (es : List (K × V)) → option_map g (lookup (λ k. test (f k)) es) ≡ lookup test (seen es)
  seen-lookup test [] = refl
  seen-lookup test (e ∷ es) = go (seen-lookup test es) (test (f e.0))
    where
      go : option_map g (lookup (λ k. test (f k)) es) ≡ lookup test (seen es) → (b : Bool) → option_map g (cond b (Some e.1) (lookup (λ k. test (f k)) es)) ≡ cond b (Some (g e.1)) (lookup test (seen es))
      go rest true = refl
      go rest false = rest

  as_is : (o : Option V) → is_some o ≡ is_some (option_map g o)
  as_is None = refl
  as_is (Some v) = refl

  pub seen-has : (test : Name → Bool) (es : List (K × V)) → is_some (lookup (λ k. test (f k)) es) ≡ is_some (lookup test (seen es))
  seen-has test es = as_is (lookup (λ k. test (f k)) es) ∙ ap is_some (seen-lookup test es)

  -- what a map gave for a name is what is seen of it
  pub found : (test : Name → Bool) (es : List (K × V)) (r : Option V) (now : List (Name × W)) → r ≡ lookup (λ k. test (f k)) es → seen es ≡ now → option_map g r ≡ lookup test now
  found test es r now is shown = ap (option_map g) is ∙ seen-lookup test es ∙ ap (lookup test) shown

  -- a new name goes last
  put_new : (k : K) (v : V) (es : List (K × V)) → has (f k) (seen es) ≡ false → seen (insert_entry (λ a b. bytes_eq (f a) (f b)) es k v) ≡ seen es ++ (f k, g v) ∷ []
  put_new k v [] none = refl
  put_new k v (e ∷ es) none = go (put_new k v es) (bytes_eq (f k) (f e.0)) none
    where
      go : (has (f k) (seen es) ≡ false → seen (insert_entry (λ a b. bytes_eq (f a) (f b)) es k v) ≡ seen es ++ (f k, g v) ∷ []) → (b : Bool) → is_some (cond b (Some (g e.1)) (lookup (bytes_eq (f k)) (seen es))) ≡ false
          → seen (cond b ((e.0, v) ∷ es) (e ∷ insert_entry (λ a b. bytes_eq (f a) (f b)) es k v)) ≡ (f e.0, g e.1) ∷ (seen es ++ (f k, g v) ∷ [])
      go rest true none = absurd cc
      go rest false none = ap (λ (xs : List (Name × W)). (f e.0, g e.1) ∷ xs) (rest none)

  pub added : (k : K) (v : V) (es more : List (K × V)) (name : Name) (now : List (Name × W)) → more ≡ insert_entry (λ a b. bytes_eq (f a) (f b)) es k v → f k ≡ name → seen es ≡ now → has name now ≡ false
      → seen more ≡ now ++ (name, g v) ∷ []
  added k v es more name now put is shown none =
      let new : has (f k) (seen es) ≡ false = ap (λ (n : Name). has n (seen es)) is ∙ ap (has name) shown ∙ none in
      ap seen put ∙ put_new k v es new ∙ (λ i. shown i ++ (is i, g v) ∷ [])

-- ---- a set of names, one after another

module _ {K : Type 0} (f : K → Name) where
  pub names_any : (name : Name) (keys : List K) → list_any (λ k. bytes_eq name (f k)) keys ≡ is_among name (map f keys)
  names_any name [] = refl
  names_any name (k ∷ ks) = ap (λ (b : Bool). bytes_eq name (f k) || b) (names_any name ks)

  pub put_in : (keys : List K) (k : K) → map f (insert_key (λ a b. bytes_eq (f a) (f b)) keys k) ≡ with_name (map f keys) (f k)
  put_in keys k = go (list_any (λ a. bytes_eq (f k) (f a)) keys) ∙ ap (λ (b : Bool). cond b (map f keys) (map f keys ++ f k ∷ [])) (names_any (f k) keys)
    where
      go : (b : Bool) → map f (cond b keys (keys ++ k ∷ [])) ≡ cond b (map f keys) (map f keys ++ f k ∷ [])
      go true = refl
      go false = map-append f keys (k ∷ [])

-- the list from a place on, when the item there is known
pub from_place : {X : Type 0} (xs : List X) (i : ℕ) (x : X) → i < length xs → x ≡ get_or xs i x → drop i xs ≡ x ∷ drop (i + 1) xs
from_place xs i x inside is = drop_more xs i x inside ∙ ap (λ y. y ∷ drop (i + 1) xs) (sym is)

-- the names that are left go in one after another
pub put_next : (keys more : List Name) (names : List Name) (i : ℕ) (name : Name) → i < length names → name ≡ get_or names i name → more ≡ with_name keys name
    → fold with_name keys (drop i names) ≡ once names → fold with_name more (drop (i + 1) names) ≡ once names
put_next keys more names i name inside is put same =
    ap (λ (ks : List Name). fold with_name ks (drop (i + 1) names)) put ∙ sym (ap (fold with_name keys) (from_place names i name inside is)) ∙ same
