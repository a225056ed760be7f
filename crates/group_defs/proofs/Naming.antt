-- Names that stand once each.
use Rattle.std.proofs.Common.{◌≡◌, ◌||◌, ℕ, ◌+◌, ◌<◌, Bool, true, false, cond, List, [], ◌∷◌, ◌++◌, map, length, drop, get_or, refl, sym, ap, ◌∙◌, subst, append_assoc}
use Rattle.std.specs.Borrow.{Bor}
use Rattle.std.specs.declared.cmp.Ordering.TheVariants.{Less}
use Rattle.std.specs.Ordering.{ordering_reverse}
use Rattle.std.specs.Cmp.Lexicographic.{nat_list_cmp_total, bytes_decides}
use Rattle.std.specs.List.{AllByRecursion, IsDistinct, list_any}
use Rattle.std.specs.List.Sorted.{IsStrictlySortedBy}
use Rattle.std.specs.Map.{keys_of}
use Rattle.std.specs.Str.{bytes_eq}
use Rattle.std.proofs.lemmas.List.{map-append}
use Rattle.indexmap.specs.IndexSet.{insert_key}
use Rattle.group_defs.specs.Order.{text_cmp}
use Rattle.group_defs.specs.Statements.{Groups}
use Rattle.group_defs.specs.Checking.{names_of, listed_members, listed}
use Rattle.group_defs.specs.declared.listed.Member.{Member}
use Rattle.group_defs.specs.declared.listed.Group.{Group}
use Rattle.group_defs.specs.declared.said.MemberText.{MemberText}
use Rattle.group_defs.proofs.Passing.{from_place}
use Rattle.group_defs.proofs.Sounds.{apart, IsSound}

-- ---- a set of names, one after another

keys_any : (name : List ℕ) (keys : List (Bor (List ℕ))) → list_any (λ k. bytes_eq name k.now) keys ≡ list_any (bytes_eq name) (map (λ k. k.now) keys)
keys_any name [] = refl
keys_any name (k ∷ ks) = ap (λ (b : Bool). bytes_eq name k.now || b) (keys_any name ks)

behind : (P : List ℕ → Type 0) (xs ys : List (List ℕ)) (y : List ℕ) → AllByRecursion P (xs ++ y ∷ ys) → P y
behind P [] ys y a = a.0
behind P (x ∷ xs) ys y a = behind P xs ys y a.1

new_name : (xs ys : List (List ℕ)) (y : List ℕ) → IsDistinct bytes_eq (xs ++ y ∷ ys) → list_any (bytes_eq y) xs ≡ false
unfolding IsDistinct
new_name [] ys y d = refl
new_name (x ∷ xs) ys y d =
    ap (λ (b : Bool). b || list_any (bytes_eq y) xs) (apart x y (behind (λ z. bytes_eq x z ≡ false) xs ys y d.0)) ∙ new_name xs ys y d.1

pub names_more : (keys new : List (Bor (List ℕ))) (v : Bor (List ℕ)) (ms : List Member) (i : ℕ) (m : Member) → IsDistinct bytes_eq (names_of ms) → i < length ms → m ≡ get_or ms i m → v.now ≡ m.name
    → new ≡ insert_key (λ a b. bytes_eq a.now b.now) keys v → map (λ k. k.now) keys ++ names_of (drop i ms) ≡ names_of ms → map (λ k. k.now) new ++ names_of (drop (i + 1) ms) ≡ names_of ms
names_more keys new v ms i m d inside here is put same =
    let rest : List (List ℕ) = names_of (drop (i + 1) ms) in
    let seen : List (List ℕ) = map (λ (k : Bor (List ℕ)). k.now) keys in
    let whole : seen ++ m.name ∷ rest ≡ names_of ms = sym (ap (λ (ms : List Member). seen ++ names_of ms) (from_place ms i m inside here)) ∙ same in
    let off : list_any (λ (k : Bor (List ℕ)). bytes_eq v.now k.now) keys ≡ false =
    keys_any v.now keys ∙ ap (λ (n : List ℕ). list_any (bytes_eq n) seen) is ∙ new_name seen rest m.name (subst (IsDistinct bytes_eq) (sym whole) d) in
    ap (λ (ks : List (Bor (List ℕ))). map (λ (k : Bor (List ℕ)). k.now) ks ++ rest) (put ∙ ap (λ (b : Bool). cond b keys (keys ++ v ∷ [])) off)
    ∙ ap (λ (ns : List (List ℕ)). ns ++ rest) (map-append (λ (k : Bor (List ℕ)). k.now) keys (v ∷ []))
    ∙ append_assoc seen (v.now ∷ []) rest ∙ ap (λ (n : List ℕ). seen ++ n ∷ rest) is ∙ whole

-- ---- names in order

below_differs : (a b : List ℕ) → text_cmp a b ≡ Less → bytes_eq a b ≡ false
below_differs a b h = go (bytes_eq a b) refl
  where
    go : (t : Bool) → bytes_eq a b ≡ t → bytes_eq a b ≡ false
    go true e =
        let itself : text_cmp a a ≡ Less = subst (λ (k : List ℕ). text_cmp a k ≡ Less) (sym ((bytes_decides a b).0 e)) h in
        let turned : Less ≡ ordering_reverse Less = sym itself ∙ nat_list_cmp_total.antisymm a a ∙ ap ordering_reverse itself in
        let never : ⊥ = cc in absurd never
    go false e = e

all_differ : (a : List ℕ) (ns : List (List ℕ)) → AllByRecursion (λ n. text_cmp a n ≡ Less) ns → AllByRecursion (λ n. bytes_eq a n ≡ false) ns
all_differ a [] h = tt
all_differ a (n ∷ ns) h = (below_differs a n h.0, all_differ a ns h.1)

sorted_distinct : (ns : List (List ℕ)) → IsStrictlySortedBy text_cmp ns → IsDistinct bytes_eq ns
unfolding IsStrictlySortedBy IsDistinct
sorted_distinct [] s = tt
sorted_distinct (n ∷ ns) s = (all_differ n ns s.0, sorted_distinct ns s.1)

names_listed : (ms : List (List ℕ × MemberText)) → names_of (listed_members ms) ≡ keys_of ms
names_listed [] = refl
names_listed (m ∷ ms) = ap (λ (ns : List (List ℕ)). m.0 ∷ ns) (names_listed ms)

-- the members of a group that is listed have names of their own
pub all_distinct : (records : ℕ) (gs : Groups) → AllByRecursion (λ e. IsSound records e.1) gs → AllByRecursion (λ (g : Group). IsDistinct bytes_eq (names_of g.members)) (listed gs)
all_distinct records [] s = tt
all_distinct records (e ∷ es) s = (subst (IsDistinct bytes_eq) (sym (names_listed e.1.members)) (sorted_distinct (keys_of e.1.members) s.0.sorted), all_distinct records es s.1)
