-- The updates of a ring.
use Rattle.std.proofs.Common.{◌≡◌, ℕ, zero, suc, ◌-◌, ◌<◌, ◌≤◌, Bool, true, false, cond, ◌&&◌, ◌||◌, List, [], ◌∷◌, ◌++◌, length, take, drop, map, Option, Some, None, refl, sym, ap, ◌∙◌, arith}
use Rattle.std.proofs.Math.Path.{fun_ext}
use Rattle.std.proofs.lemmas.Bool.{lt-ltb, le-ltb, false≢true}
use Rattle.std.proofs.lemmas.List.{length-map, map-append}
use Rattle.std.proofs.lemmas.Option.{slice_get-map}
use Rattle.std.specs.Prelude.{slice_get, option_map}
use Rattle.std.specs.List.{list_all}
use Rattle.std.specs.Ordering.{nat_cmp}
use Rattle.std.specs.FinSet.{FinSet, contains, empty, union, intersection, is_subset-contains, contains-is_subset}
use Rattle.std.specs.Cmp.{nat_cmp_total}
use Rattle.circular_buffer.specs.Buffer.{Buffer, buffer, last_item}
use Rattle.pvd_type.specs.Tree.{Tree}
use Rattle.pvd_type.specs.Numbers.{leaves}
use Rattle.pvd_type.specs.SameLaws.{both, and_true}
use Rattle.pvd_value.specs.Data.{Data}
use Rattle.pvd_value.specs.View.{view}
use Rattle.pvd_value.specs.Leaves.{leaf_at}
use Rattle.pvd_value.specs.Fits.{fits_of}
use Rattle.pvd_value.specs.LeafValues.{LeafValues, nothing, over, leaf_values}
use Rattle.pvd_value.specs.declared.value.PvValue.{PvValue}
use Rattle.mon_queue.specs.Runs.{Posted, posted, Run, fresh, Told, Event, post, pop, with_post, without_oldest, runs_with, runs_after, update_of}
use Rattle.mon_queue.specs.Merged.{first_told, told_more, last_more, told_with}
use Rattle.mon_queue.specs.Told.{told_by, are_leaves, is_update_of, IsPostOf, IsUpdateOf}
use Rattle.mon_queue.specs.declared.update.Update.{Update}
use Rattle.mon_queue.specs.declared.update.Post.{Post}
use Rattle.mon_queue.proofs.Merging.{in_union, in_both, in_none, added_is, told_first}

-- what a run comes to that takes a post

merged_leaves : (t : Tree) (a v : Data) (c m : FinSet nat_cmp) → ((k : ℕ) → contains m k ≡ false → contains c k ≡ true → leaf_at k t v ≡ leaf_at k t a)
    → over (union c m) nothing (leaf_values t v) ≡ over m (over c nothing (leaf_values t a)) (over m nothing (leaf_values t v))
merged_leaves t a v c m leaves = fun_ext (λ k.
    ap (λ (b : Bool). cond b (leaf_at k t v) None) (in_union c m k) ∙ step (contains c k) (contains m k) (leaf_at k t v) (leaf_at k t a) (leaves k))
  where
    step : (c m : Bool) (x y : Option Data) → (m ≡ false → c ≡ true → x ≡ y) → cond (c || m) x None ≡ cond m (cond m x None) (cond c y None)
    step true true x y h = refl
    step true false x y h = h refl refl
    step false true x y h = refl
    step false false x y h = refl

pub joined_is : (t : Tree) (u w : Update) (m : FinSet nat_cmp) → w.changed ≡ union u.changed m → w.overrun ≡ union (intersection m u.changed) u.overrun
    → ((k : ℕ) → contains m k ≡ false → contains u.changed k ≡ true → leaf_at k t (view w.value) ≡ leaf_at k t (view u.value))
    → told_by t w ≡ told_more (told_by t u) (posted m (leaf_values t (view w.value)))
joined_is t u w m changed overrun leaves = λ i. record {
  changed = changed i;
  overrun = overrun i;
  leaves = (ap (λ (c : FinSet nat_cmp). over c nothing (leaf_values t (view w.value))) changed ∙ merged_leaves t (view u.value) (view w.value) u.changed m leaves) i;
}

-- Values that agree under the mask make one post.
pub same_post : (t : Tree) (a b : Data) (m : FinSet nat_cmp) → ((k : ℕ) → contains m k ≡ true → leaf_at k t a ≡ leaf_at k t b) → posted m (leaf_values t a) ≡ posted m (leaf_values t b)
same_post t a b m leaves = λ i. record { mask = m; leaves = fun_ext (λ k. step k (contains m k) refl) i }
  where
    step : (k : ℕ) (x : Bool) → contains m k ≡ x → cond x (leaf_at k t a) None ≡ cond x (leaf_at k t b) None
    step k true h = leaves k h
    step k false h = refl

-- sets of leaves

pub union_leaves : (t : Tree) (a b : FinSet nat_cmp) → are_leaves t a ≡ true → are_leaves t b ≡ true → are_leaves t (union a b) ≡ true
union_leaves t a b h g = contains-is_subset nat_cmp_total _ _ (λ k is. step (contains a k) (contains b k) (sym (in_union a b k) ∙ is) (is_subset-contains nat_cmp_total a _ h k) (is_subset-contains nat_cmp_total b _ g k))
  where
    step : {X : Type 0} (x y : Bool) → (x || y) ≡ true → (x ≡ true → X) → (y ≡ true → X) → X
    step true y e f g = f refl
    step false y e f g = g e

pub both_leaves : (t : Tree) (a b : FinSet nat_cmp) → are_leaves t a ≡ true → are_leaves t (intersection a b) ≡ true
both_leaves t a b h = contains-is_subset nat_cmp_total _ _ (λ k is. is_subset-contains nat_cmp_total a _ h k (step (contains a k) (contains b k) (sym (in_both a b k) ∙ is)))
  where
    step : (x y : Bool) → (x && y) ≡ true → x ≡ true
    step true y e = refl
    step false y e = e

pub all_leaves : (t : Tree) → are_leaves t (leaves t) ≡ true
all_leaves t = contains-is_subset nat_cmp_total _ _ (λ k is. is)

pub update_parts : (t : Tree) (u : Update) → is_update_of t u ≡ true → IsUpdateOf t u
update_parts t u h =
    let p = both (fits_of 16 (view u.value) t) (are_leaves t u.changed && are_leaves t u.overrun) h in
    let q = both (are_leaves t u.changed) (are_leaves t u.overrun) p.1 in
    record { fits = p.0; changed = q.0; overrun = q.1 }

pub update_whole : (t : Tree) (u : Update) → fits_of 16 (view u.value) t ≡ true → are_leaves t u.changed ≡ true → are_leaves t u.overrun ≡ true → is_update_of t u ≡ true
update_whole t u fits changed overrun =
    and_true (fits_of 16 (view u.value) t) (are_leaves t u.changed && are_leaves t u.overrun) fits (and_true (are_leaves t u.changed) (are_leaves t u.overrun) changed overrun)

-- tests of all elements

module _ {X : Type 0} (p : X → Bool) where
  pub all_push : (xs : List X) (x : X) → list_all p xs ≡ true → p x ≡ true → list_all p (xs ++ x ∷ []) ≡ true
  all_push [] x h g = and_true (p x) true g refl
  all_push (y ∷ xs) x h g = let q = both (p y) (list_all p xs) h in and_true (p y) (list_all p (xs ++ x ∷ [])) q.0 (all_push xs x q.1 g)

  pub all_take : (n : ℕ) (xs : List X) → list_all p xs ≡ true → list_all p (take n xs) ≡ true
  all_take zero xs h = refl
  all_take (suc n) [] h = refl
  all_take (suc n) (x ∷ xs) h = let q = both (p x) (list_all p xs) h in and_true (p x) (list_all p (take n xs)) q.0 (all_take n xs q.1)

  pub all_tail : (xs : List X) → list_all p xs ≡ true → list_all p (drop 1 xs) ≡ true
  all_tail [] h = refl
  all_tail (x ∷ xs) h = (both (p x) (list_all p xs) h).1

  pub all_at : (xs : List X) (n : ℕ) (x : X) → list_all p xs ≡ true → slice_get xs n ≡ Some x → p x ≡ true
  all_at [] n x h is = absurd (let never : ⊥ = cc in never)
  all_at (y ∷ xs) zero x h is = let same : y ≡ x = cc in ap p (sym same) ∙ (both (p y) (list_all p xs) h).0
  all_at (y ∷ xs) (suc n) x h is = all_at xs n x (both (p y) (list_all p xs) h).1 is

pub map_take : {X Y : Type 0} (f : X → Y) (n : ℕ) (xs : List X) → map f (take n xs) ≡ take n (map f xs)
map_take f zero xs = refl
map_take f (suc n) [] = refl
map_take {X} {Y} f (suc n) (x ∷ xs) = ap (λ (ys : List Y). f x ∷ ys) (map_take f n xs)

pub map_tail : {X Y : Type 0} (f : X → Y) (xs : List X) → map f (drop 1 xs) ≡ drop 1 (map f xs)
map_tail f [] = refl
map_tail f (x ∷ xs) = refl

-- the last of a list is replaced
pub last_is : (us : List Told) (u w : Told) (p : Posted) → slice_get us (length us - 1) ≡ Some u → w ≡ told_more u p → take (length us - 1) us ++ w ∷ [] ≡ last_more us p
last_is [] u w p is made = absurd (let never : ⊥ = cc in never)
last_is (x ∷ []) u w p is made =
    let same : x ≡ u = one x u is in ap (λ (z : Told). z ∷ []) (made ∙ ap (λ (z : Told). told_more z p) (sym same))
  where
    one : (x u : Told) → slice_get (x ∷ []) (1 - 1) ≡ Some u → x ≡ u
    one x u is = cc
last_is (x ∷ y ∷ us) u w p is made =
    let e : length (x ∷ y ∷ us) - 1 ≡ suc (length (y ∷ us) - 1) = omega arith in
    ap (λ (n : ℕ). take n (x ∷ y ∷ us) ++ w ∷ []) e
    ∙ ap (λ (z : List Told). x ∷ z) (last_is (y ∷ us) u w p (sym (ap (λ (n : ℕ). slice_get (x ∷ y ∷ us) n) e) ∙ is) made)

-- events, one more

pub runs_append : (size : ℕ) (xs ys : List Event) (runs : List Run) → runs_after size runs (xs ++ ys) ≡ runs_after size (runs_after size runs xs) ys
runs_append size [] ys runs = refl
runs_append size (x ∷ xs) ys runs = runs_append size xs ys (runs_with size runs x)

-- Where a queue had the updates of some runs, or those that some events leave, it has those with one more post, or without the
-- oldest. A queue keeps its size.

pub holds_post : (size : ℕ) (us vs : List Told) (p : Posted) → vs ≡ told_with size us p → (runs : List Run) → us ≡ map update_of runs → vs ≡ map update_of (with_post size runs p)
holds_post size us vs p is runs here = is ∙ ap (λ (l : List Told). told_with size l p) here ∙ sym (added_is size runs p)

pub stands_post : (size now : ℕ) (us vs : List Told) (p : Posted) → now ≡ size → vs ≡ told_with size us p → (events : List Event) → us ≡ map update_of (runs_after size [] events)
    → vs ≡ map update_of (runs_after now [] (events ++ post p ∷ []))
stands_post size now us vs p same is events here =
    holds_post size us vs p is (runs_after size [] events) here
    ∙ ap (map update_of) (sym (runs_append size events (post p ∷ []) []))
    ∙ ap (λ (n : ℕ). map update_of (runs_after n [] (events ++ post p ∷ []))) (sym same)

pub holds_pop : (us vs : List Told) → vs ≡ drop 1 us → (runs : List Run) → us ≡ map update_of runs → vs ≡ map update_of (without_oldest runs)
holds_pop us vs is [] here = is ∙ ap (λ (l : List Told). drop 1 l) here
holds_pop us vs is (r ∷ runs) here = is ∙ ap (λ (l : List Told). drop 1 l) here

pub stands_pop : (size now : ℕ) (us vs : List Told) → now ≡ size → vs ≡ drop 1 us → (events : List Event) → us ≡ map update_of (runs_after size [] events)
    → vs ≡ map update_of (runs_after now [] (events ++ pop ∷ []))
stands_pop size now us vs same is events here =
    holds_pop us vs is (runs_after size [] events) here
    ∙ ap (map update_of) (sym (runs_append size events (pop ∷ []) []))
    ∙ ap (λ (n : ℕ). map update_of (runs_after n [] (events ++ pop ∷ []))) (sym same)

-- the update of one post

pub none_leaves : (t : Tree) → are_leaves t empty ≡ true
none_leaves t = contains-is_subset nat_cmp_total _ _ (λ k is. absurd (false≢true (sym (in_none k) ∙ is)))

pub first_is : (t : Tree) (p : Post) (u : Update) → IsPostOf t p → u.changed ≡ p.mask → u.overrun ≡ empty → u.value ≡ p.value → is_update_of t u ≡ true
first_is t p u is changed overrun value =
    update_whole t u (ap (λ (v : PvValue). fits_of 16 (view v) t) value ∙ is.fits) (ap (are_leaves t) changed ∙ is.mask) (ap (are_leaves t) overrun ∙ none_leaves t)

over_once : (m : FinSet nat_cmp) (l : LeafValues) → over m nothing l ≡ over m nothing (over m nothing l)
over_once m l = fun_ext (λ k. step (contains m k) (l k))
  where
    step : (b : Bool) (x : Option Data) → cond b x None ≡ cond b (cond b x None) None
    step true x = refl
    step false x = refl

pub told_alone : (t : Tree) (u : Update) → u.overrun ≡ empty → told_by t u ≡ first_told (posted u.changed (leaf_values t (view u.value)))
told_alone t u alone = λ i. record { changed = u.changed; overrun = alone i; leaves = over_once u.changed (leaf_values t (view u.value)) i }

pub told_fresh : (t : Tree) (u : Update) (mask : FinSet nat_cmp) (first : PvValue) → u.changed ≡ mask → u.overrun ≡ empty → u.value ≡ first
    → told_by t u ≡ update_of (fresh (posted mask (leaf_values t (view first))))
told_fresh t u mask first changed overrun value =
    told_alone t u overrun
    ∙ (λ i. first_told (posted (changed i) (leaf_values t (view (value i)))))
    ∙ sym (told_first (posted mask (leaf_values t (view first))))

-- a ring with one more update, and one whose last update took a post

pub begins_told : (t : Tree) (us : List Update) (u : Update) (size : ℕ) (ring : Buffer Update) → ring ≡ buffer (us ++ u ∷ []) size → length (map (told_by t) us) < size → u.overrun ≡ empty
    → map (told_by t) ring.items ≡ told_with size (map (told_by t) us) (posted u.changed (leaf_values t (view u.value)))
begins_told t us u size ring is room alone =
    let p = posted u.changed (leaf_values t (view u.value)) in
    ap (λ (b : Buffer Update). map (told_by t) b.items) is
    ∙ map-append (told_by t) us (u ∷ [])
    ∙ ap (λ (x : Told). map (told_by t) us ++ x ∷ []) (told_alone t u alone)
    ∙ ap (λ (b : Bool). cond b (map (told_by t) us ++ first_told p ∷ []) (last_more (map (told_by t) us) p)) (sym (lt-ltb (length (map (told_by t) us)) size room))

pub joins_told : (t : Tree) (us : List Update) (newest : Update) (p : Posted) (size : ℕ) (ring : Buffer Update) → last_item us ≡ Some newest → length (map (told_by t) us) ≡ size
    → map (told_by t) ring.items ≡ map (told_by t) (take (length us - 1) us) ++ told_more (told_by t newest) p ∷ []
    → map (told_by t) ring.items ≡ told_with size (map (told_by t) us) p
joins_told t us newest p size ring last full is =
    let w = told_more (told_by t newest) p in
    let at_last : slice_get (map (told_by t) us) (length (map (told_by t) us) - 1) ≡ Some (told_by t newest) =
    ap (λ (n : ℕ). slice_get (map (told_by t) us) (n - 1)) (length-map us (told_by t)) ∙ slice_get-map (told_by t) us (length us - 1) ∙ ap (option_map (told_by t)) last in
    is
    ∙ ap (λ (l : List Told). l ++ w ∷ []) (map_take (told_by t) (length us - 1) us ∙ ap (λ (n : ℕ). take (n - 1) (map (told_by t) us)) (sym (length-map us (told_by t))))
    ∙ last_is (map (told_by t) us) (told_by t newest) w p at_last refl
    ∙ ap (λ (b : Bool). cond b (map (told_by t) us ++ first_told p ∷ []) (last_more (map (told_by t) us) p)) (sym (le-ltb (length (map (told_by t) us)) size (omega (arith, full))))

pub has_last : (us : List Update) → 1 ≤ length us → (u : Update) × (last_item us ≡ Some u)
has_last [] some = absurd (omega (arith, some))
has_last (u ∷ us) some = step (slice_get (u ∷ us) (length (u ∷ us) - 1)) refl
  where
    past : (xs : List Update) (k : ℕ) → k < length xs → slice_get xs k ≡ None → ⊥
    past [] k less e = absurd (omega (arith, less))
    past (x ∷ xs) zero less e = let never : ⊥ = cc in never
    past (x ∷ xs) (suc k) less e = past xs k (omega (arith, less)) e

    step : (o : Option Update) → slice_get (u ∷ us) (length (u ∷ us) - 1) ≡ o → (w : Update) × (last_item (u ∷ us) ≡ Some w)
    step (Some w) e = (w, e)
    step None e = absurd (past (u ∷ us) (length (u ∷ us) - 1) (omega arith) e)
