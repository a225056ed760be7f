-- What records trigger, one member after another.
use Rattle.std.proofs.Common.{◌≡◌, ℕ, zero, suc, ◌+◌, ◌<◌, true, false, cond, eqb, Option, Some, List, [], ◌∷◌, ◌++◌, length, get_or, drop, fold, refl, sym, ap, ◌∙◌, subst, arith, add-one, inl, inr}
use Rattle.std.proofs.lemmas.List.Sums.{fold-append}
use Rattle.std.proofs.lemmas.List.{append_assoc}
use Rattle.std.proofs.Math.Seq.{drop-cons}
use Rattle.std.proofs.lemmas.Bool.Decides.{eqb_tells}
use Rattle.std.specs.BTreeMap.{BTreeMap, get_by}
use Rattle.std.specs.BTreeSet.{insert_key}
use Rattle.std.specs.FinSet as set
use Rattle.std.specs.FinSet.{FinSet}
use Rattle.std.specs.List.{AllByRecursion, flat_map, filter, enumerate_from}
use Rattle.std.specs.Option.{option_map_or}
use Rattle.std.specs.declared.vec.Vec.{Vec}
use Rattle.std.specs.Ordering.{nat_cmp}
use Rattle.group_view.specs.Leaves.{is_about, numbers_at, triggered_by, leaves_at}
use Rattle.group_view.specs.Puts.{Place, writer_of, with_writer, writers_among}
use Rattle.group_view.specs.declared.writer.Writer.{Writer}
use Rattle.group_view.specs.declared.member.Member.{Member}
use Rattle.group_view.proofs.Depending.{all_append}

pub leaves_more : (leaves : ℕ → List ℕ) (ns : List ℕ) (i : ℕ) (before after whole : FinSet nat_cmp) → i < length ns
    → after ≡ fold set.insert before (leaves (get_or ns i 0)) → fold set.insert before (flat_map leaves (drop i ns)) ≡ whole
    → fold set.insert after (flat_map leaves (drop (i + 1) ns)) ≡ whole
leaves_more leaves ns i before after whole within is so_far =
    let n = get_or ns i 0 in
    let rest = flat_map leaves (drop (i + 1) ns) in
    let step : flat_map leaves (drop i ns) ≡ leaves n ++ rest = rw (drop-cons ns i 0 within, add-one) refl in
    ap (λ s. fold set.insert s rest) is ∙ sym (fold-append set.insert before (leaves n) rest) ∙ ap (fold set.insert before) (sym step) ∙ so_far

pub all_more : {A : Type 0} (P : A → Type 0) (xs : List A) (i : ℕ) (x : A) → i < length xs → AllByRecursion P (drop i xs) → AllByRecursion P (drop (i + 1) xs)
all_more P xs i x within all =
    let step : drop i xs ≡ get_or xs i x ∷ drop (i + 1) xs = rw (drop-cons xs i x within, add-one) refl in
    (subst (AllByRecursion P) step all).1

pub here_so : {A : Type 0} (P : A → Type 0) (xs : List A) (i : ℕ) (x : A) → i < length xs → AllByRecursion P (drop i xs) → P (get_or xs i x)
here_so P xs i x within all =
    let step : drop i xs ≡ get_or xs i x ∷ drop (i + 1) xs = rw (drop-cons xs i x within, add-one) refl in
    (subst (AllByRecursion P) step all).0

-- the leaves that stand under a number of a list
pub own_at : {Y : Type 0} (own : List (Vec ℕ Y)) (n : ℕ) (v : Vec ℕ Y) → n < length own → get_or own n v ≡ v → leaves_at own n ≡ v.items
own_at [] n v within here = absurd (omega arith)
own_at (x ∷ own) zero v within here = ap (λ (w : Vec ℕ _). w.items) here
own_at (x ∷ own) (suc n) v within here = own_at own n v (omega arith) here

pub writers_more : (leaves : ℕ → List ℕ) (ms : List Member) (i : ℕ) (m : Member) (before after whole : List (Place × Writer)) → i < length ms → get_or ms i m ≡ m
    → after ≡ with_writer before (writer_of i m (leaves i)) → writers_among leaves before (enumerate_from i (drop i ms)) ≡ whole
    → writers_among leaves after (enumerate_from (i + 1) (drop (i + 1) ms)) ≡ whole
writers_more leaves ms i m before after whole within here is so_far =
    let rest = enumerate_from (i + 1) (drop (i + 1) ms) in
    let step : enumerate_from i (drop i ms) ≡ (i, m) ∷ rest = rw (drop-cons ms i m within, add-one, here) refl in
    ap (λ (es : List (Place × Writer)). writers_among leaves es rest) is ∙ sym (ap (writers_among leaves before) step) ∙ so_far

pub triggered_within : (P : ℕ → Type 0) (ms : List Member) (rec : ℕ) → AllByRecursion (λ m. AllByRecursion P m.def.trigger) ms → AllByRecursion P (triggered_by ms rec)
triggered_within P [] rec all = tt
triggered_within P (m ∷ ms) rec all =
    elim (is_about rec m.link) as (λ b. AllByRecursion P (flat_map (λ (x : Member). x.def.trigger) (cond b (m ∷ filter (λ x. is_about rec x.link) ms) (filter (λ x. is_about rec x.link) ms)))) [
      | true ↦ all_append P m.def.trigger (triggered_by ms rec) all.0 (triggered_within P ms rec all.1)
      | false ↦ triggered_within P ms rec all.1
    ]

-- ---- what the members of each record trigger

abbrev pub own_triggers : ℕ → Member → List ℕ
own_triggers rec m = cond (is_about rec m.link) m.def.trigger []

triggered_first : (m : Member) (ms : List Member) (rec : ℕ) → triggered_by (m ∷ ms) rec ≡ own_triggers rec m ++ triggered_by ms rec
triggered_first m ms rec =
    elim (is_about rec m.link) as (λ b. flat_map (λ (x : Member). x.def.trigger) (cond b (m ∷ filter (λ x. is_about rec x.link) ms) (filter (λ x. is_about rec x.link) ms))
    ≡ cond b m.def.trigger [] ++ triggered_by ms rec) [ true ↦ refl | false ↦ refl ]

pub triggers_more : (ms : List Member) (i : ℕ) (m : Member) (rec : ℕ) (before after whole : List ℕ) → i < length ms → get_or ms i m ≡ m
    → after ≡ before ++ own_triggers rec m → before ++ triggered_by (drop i ms) rec ≡ whole → after ++ triggered_by (drop (i + 1) ms) rec ≡ whole
triggers_more ms i m rec before after whole within here is so_far =
    let step : drop i ms ≡ m ∷ drop (i + 1) ms = rw (drop-cons ms i m within, add-one, here) refl in
    ap (λ (xs : List ℕ). xs ++ triggered_by (drop (i + 1) ms) rec) is
    ∙ append_assoc before (own_triggers rec m) (triggered_by (drop (i + 1) ms) rec)
    ∙ ap (λ (xs : List ℕ). before ++ xs) (sym (ap (λ (xs : List Member). triggered_by xs rec) step ∙ triggered_first m (drop (i + 1) ms) rec))
    ∙ so_far

nothing_more : (xs : List ℕ) → xs ≡ xs ++ []
nothing_more [] = refl
nothing_more (x ∷ xs) = ap (λ (ys : List ℕ). x ∷ ys) (nothing_more xs)

-- one record's list grows and the others stay
pub triggers_added : {Y : Type 0} (mine rec : ℕ) (trigger : List ℕ) (old taken : BTreeMap ℕ (Vec ℕ Y)) (new : Option (Vec ℕ Y)) (numbers : Vec ℕ Y)
    → new ≡ cond (eqb mine rec) (Some numbers) (get_by (nat_cmp rec) taken) → numbers.items ≡ numbers_at old mine ++ trigger
    → (eqb mine rec ≡ false → numbers_at taken rec ≡ numbers_at old rec)
    → option_map_or (λ (v : Vec ℕ Y). v.items) new [] ≡ numbers_at old rec ++ cond (eqb mine rec) trigger []
triggers_added {Y} mine rec trigger old taken new numbers is grown kept =
    ap (λ (o : Option (Vec ℕ Y)). option_map_or (λ v. v.items) o []) is
    ∙ (elim (eqb_tells mine rec) [
      | inl p ↦
          ap (λ b. option_map_or (λ (v : Vec ℕ Y). v.items) (cond b (Some numbers) (get_by (nat_cmp rec) taken)) []) p.0 ∙ grown
          ∙ ap (λ (r : ℕ). numbers_at old r ++ trigger) p.1 ∙ sym (ap (λ b. numbers_at old rec ++ cond b trigger []) p.0)
      | inr p ↦
          ap (λ b. option_map_or (λ (v : Vec ℕ Y). v.items) (cond b (Some numbers) (get_by (nat_cmp rec) taken)) []) p.0 ∙ kept p.0
          ∙ nothing_more (numbers_at old rec) ∙ sym (ap (λ b. numbers_at old rec ++ cond b trigger []) p.0)
    ])

pub keys_more : (ns : List ℕ) (i : ℕ) (before after whole : List ℕ) → i < length ns → after ≡ insert_key nat_cmp before (get_or ns i 0)
    → fold (insert_key nat_cmp) before (drop i ns) ≡ whole → fold (insert_key nat_cmp) after (drop (i + 1) ns) ≡ whole
keys_more ns i before after whole within is so_far =
    let step : drop i ns ≡ get_or ns i 0 ∷ drop (i + 1) ns = rw (drop-cons ns i 0 within, add-one) refl in
    ap (λ (ks : List ℕ). fold (insert_key nat_cmp) ks (drop (i + 1) ns)) is ∙ sym (ap (λ (xs : List ℕ). fold (insert_key nat_cmp) before xs) step) ∙ so_far
