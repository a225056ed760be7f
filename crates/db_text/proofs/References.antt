-- A macro is read exactly where it is written.
use Rattle.std.proofs.Common.{◌≡◌, ◌≢◌, ℕ, zero, suc, ◌-◌, ◌≤◌, ◌<◌, Bool, eqb, true, false, not, ◌||◌, List, [], ◌∷◌, ◌++◌, length, take, drop, Option, Some, None, refl, sym, ap, subst, ◌∙◌, arith, inl, inr, append_assoc, length-append}
use Rattle.std.proofs.lemmas.Bool.{true≢false, eq-eqb, eqb-true}
use Rattle.std.proofs.lemmas.Bool.Decides.{eqb_tells}
use Rattle.std.proofs.Math.Seq.{take-append_seam, drop-append_seam}
use Rattle.std.proofs.lemmas.List.{take-append-drop}
use Rattle.pvd_type.proofs.Sets.{differs}
use Rattle.db_text.specs.Macros.{before_first, either, opening, ends_name, named as named_at, name_at, closed, nested, behind_default, Macro, with_default, macro_named, macro_at}
use Rattle.db_text.specs.Grammar.{Each, Ends}
use Rattle.db_text.specs.Expansion.{Reference, named, defaulted, Content, nothing, char, refers, opener, reference_bytes, content_bytes, IsNamed, Within, IsReference, IsContent, name_of, default_of}
use Rattle.db_text.proofs.Runs.{run_len, run_found, other_than}
use Rattle.db_text.proofs.Quoting.{the}
use Rattle.db_text.proofs.Defaults.{Still, still_plain, still_passed, still_nested, still_outer, still_closed}

abbrev pub is_closer : ℕ → Bool
is_closer b = eqb b 41 || eqb b 125

-- what may follow a `$` that is itself
abbrev pub Calm : List ℕ → Type 0
Calm [] = Unit {0}
Calm (x ∷ xs) = (eqb x 40 ≡ false) × (eqb x 123 ≡ false)

pub closer_calm : (x : ℕ) → is_closer x ≡ true → (eqb x 40 ≡ false) × (eqb x 123 ≡ false)
closer_calm x h = (other_than is_closer x 40 refl h, other_than is_closer x 123 refl h)

not_closer : (k x : ℕ) → is_closer k ≡ false → is_closer x ≡ true → k ≡ x → ⊥
not_closer k x none is e = true≢false (sym is ∙ sym (ap is_closer e) ∙ none)

pub none_some : {A : Type 0} (x : A) (r : Option A) → r ≡ None → r ≡ Some x → ⊥
none_some x r f g = absurd cc

-- where a macro opens
opening_round : (rest : List ℕ) → opening (36 ∷ 40 ∷ rest) ≡ Some (41, rest)
unfolding opening
opening_round rest = refl

opening_curly : (rest : List ℕ) → opening (36 ∷ 123 ∷ rest) ≡ Some (125, rest)
unfolding opening
opening_curly rest = refl

pub opening_other : (b : ℕ) (rest : List ℕ) → eqb b 36 ≡ false → opening (b ∷ rest) ≡ None
unfolding opening
opening_other b [] h = refl
opening_other b (x ∷ rest) h = rw h refl

opening_calm : (b x : ℕ) (rest : List ℕ) → eqb x 40 ≡ false → eqb x 123 ≡ false → opening (b ∷ x ∷ rest) ≡ None
unfolding opening
opening_calm b x rest f g = by_dollar (eqb b 36) refl
  where
    by_dollar : (v : Bool) → eqb b 36 ≡ v → opening (b ∷ x ∷ rest) ≡ None
    by_dollar true e = rw (e, f, g) refl
    by_dollar false e = rw e refl

opening_one : (b : ℕ) → opening (b ∷ []) ≡ None
unfolding opening
opening_one b = refl

pub opening_none : opening [] ≡ None
unfolding opening
opening_none = refl

pub opens_at : (closer : ℕ) (inside : List ℕ) → is_closer closer ≡ true → opening (36 ∷ opener closer ∷ inside) ≡ Some (closer, inside)
opens_at closer inside is =
    elim (eqb_tells closer 41) [
      | inl e ↦ rw e.0 (opening_round inside ∙ ap (λ c. Some (c, inside)) (sym e.1))
      | inr e ↦ let other : closer ≡ 125 = eqb-true closer 125 (rw e.0 at is) in rw e.0 (opening_curly inside ∙ ap (λ c. Some (c, inside)) (sym other))
    ]

-- the kinds of a beginning
abbrev Opening : List ℕ → ℕ → List ℕ → Type 0
Opening bytes closer inside = (bytes ≡ 36 ∷ opener closer ∷ inside) × (is_closer closer ≡ true)

opened : (x : ℕ) (rest : List ℕ) (k o closer : ℕ) (inside : List ℕ) → x ≡ o → opener k ≡ o → is_closer k ≡ true → ◌≡◌ {A = ℕ × List ℕ} (k, rest) (closer, inside) → Opening (36 ∷ x ∷ rest) closer inside
opened x rest k o closer inside here o_is is e =
    let same : k ≡ closer = ap (λ (p : ℕ × List ℕ). p.0) e in
    let left : rest ≡ inside = ap (λ (p : ℕ × List ℕ). p.1) e in
    (ap (λ y. 36 ∷ y ∷ rest) (here ∙ sym o_is ∙ ap opener same) ∙ ap (λ (xs : List ℕ). 36 ∷ opener closer ∷ xs) left, sym (ap is_closer same) ∙ is)

pub opening_is : (bytes : List ℕ) (closer : ℕ) (inside : List ℕ) → opening bytes ≡ Some (closer, inside) → Opening bytes closer inside
opening_is [] closer inside h = absurd (none_some (closer, inside) (opening []) opening_none h)
opening_is (b ∷ []) closer inside h = absurd (none_some (closer, inside) (opening (b ∷ [])) (opening_one b) h)
opening_is (b ∷ x ∷ rest) closer inside h =
    elim (eqb_tells b 36) [
      | inr e ↦ absurd (none_some (closer, inside) (opening (b ∷ x ∷ rest)) (opening_other b (x ∷ rest) e.0) h)
      | inl e ↦ subst (λ k. Opening (k ∷ x ∷ rest) closer inside) (sym e.1) (by_bracket (subst (λ k. opening (k ∷ x ∷ rest) ≡ Some (closer, inside)) e.1 h))
    ]
  where
    by_bracket : opening (36 ∷ x ∷ rest) ≡ Some (closer, inside) → Opening (36 ∷ x ∷ rest) closer inside
    by_bracket g =
        elim (eqb_tells x 40) [
          | inl e ↦ opened x rest 41 40 closer inside e.1 refl refl (ap (the (41, rest)) (sym (opening_round rest) ∙ subst (λ k. opening (36 ∷ k ∷ rest) ≡ Some (closer, inside)) e.1 g))
          | inr e ↦ elim (eqb_tells x 123) [
            | inl f ↦ opened x rest 125 123 closer inside f.1 refl refl (ap (the (125, rest)) (sym (opening_curly rest) ∙ subst (λ k. opening (36 ∷ k ∷ rest) ≡ Some (closer, inside)) f.1 g))
            | inr f ↦ absurd (none_some (closer, inside) (opening (36 ∷ x ∷ rest)) (opening_calm 36 x rest e.0 f.0) g)
          ]
        ]

-- whether a macro opens depends on two bytes alone
opening_pair : (b y : ℕ) (xs ys : List ℕ) → opening (b ∷ y ∷ xs) ≡ None → opening (b ∷ y ∷ ys) ≡ None
unfolding opening
opening_pair b y xs ys h = by_dollar (eqb b 36) (eqb y 40) (eqb y 123) refl refl refl
  where
    by_dollar : (u v w : Bool) → eqb b 36 ≡ u → eqb y 40 ≡ v → eqb y 123 ≡ w → opening (b ∷ y ∷ ys) ≡ None
    by_dollar false v w e f g = rw e refl
    by_dollar true false false e f g = rw (e, f, g) refl
    by_dollar true true w e f g = absurd (none_some (41, xs) (opening (b ∷ y ∷ xs)) h (rw (e, f) refl))
    by_dollar true false true e f g = absurd (none_some (125, xs) (opening (b ∷ y ∷ xs)) h (rw (e, f, g) refl))

pub opening_more : (b : ℕ) (xs rest : List ℕ) → opening (b ∷ xs) ≡ None → Calm rest → opening (b ∷ (xs ++ rest)) ≡ None
opening_more b [] [] h calm = h
opening_more b [] (x ∷ rest) h calm = opening_calm b x rest calm.0 calm.1
opening_more b (y ∷ ys) rest h calm = opening_pair b y ys (ys ++ rest) h

pub opening_less : (b : ℕ) (xs rest : List ℕ) → opening (b ∷ (xs ++ rest)) ≡ None → opening (b ∷ xs) ≡ None
opening_less b [] rest h = opening_one b
opening_less b (y ∷ ys) rest h = opening_pair b y (ys ++ rest) ys h

-- a name, up to the byte that ends it
not_not : (b : Bool) → not (not b) ≡ b
not_not true = refl
not_not false = refl

pub same_test : (q : ℕ → Bool) → (λ (b : ℕ). not (not (q b))) ≡ q
same_test q = λ i b. not_not (q b) i

name_only : (closer : ℕ) (name : List ℕ) (end : ℕ) (left : List ℕ) → Each (λ b. not (ends_name closer b)) name → ends_name closer end ≡ true → eqb end 10 ≡ false → name_at closer (name ++ end ∷ left) ≡ Some (name, end, left)
unfolding name_at
name_only closer name end left each ends line =
    let len : before_first (ends_name closer) (name ++ end ∷ left) ≡ length name =
    ap (λ (q : ℕ → Bool). before_first q (name ++ end ∷ left)) (sym (same_test (ends_name closer))) ∙ run_len (λ b. not (ends_name closer b)) name (end ∷ left) each (ap not ends) in
    ap (λ n. named_at (take n (name ++ end ∷ left)) (drop n (name ++ end ∷ left))) len
    ∙ ap (λ (xs : List ℕ). named_at xs (drop (length name) (name ++ end ∷ left))) (take-append_seam name (end ∷ left))
    ∙ ap (named_at name) (drop-append_seam name (end ∷ left)) ∙ rw line refl

abbrev pub NameRead : ℕ → List ℕ → List ℕ × ℕ × List ℕ → Type 0
NameRead closer bytes x = (bytes ≡ x.0 ++ x.1 ∷ x.2) × Each (λ b. not (ends_name closer b)) x.0 × (ends_name closer x.1 ≡ true) × (eqb x.1 10 ≡ false)

named_found : (closer : ℕ) (pre rest : List ℕ) (x : List ℕ × ℕ × List ℕ) → Each (λ b. not (ends_name closer b)) pre → Ends (λ b. not (ends_name closer b)) rest → named_at pre rest ≡ Some x → NameRead closer (pre ++ rest) x
named_found closer pre [] x each ends h = absurd cc
named_found closer pre (b ∷ rest) x each ends h = by_line (eqb b 10) refl
  where
    by_line : (v : Bool) → eqb b 10 ≡ v → NameRead closer (pre ++ b ∷ rest) x
    by_line true e = absurd (none_some x (named_at pre (b ∷ rest)) (rw e refl) h)
    by_line false e =
        let s : named_at pre (b ∷ rest) ≡ Some (pre, b, rest) = rw e refl in
        let same : ◌≡◌ {A = List ℕ × ℕ × List ℕ} (pre, b, rest) x = ap (the (pre, b, rest)) (sym s ∙ h) in
        subst (NameRead closer (pre ++ b ∷ rest)) same (refl, each, sym (not_not (ends_name closer b)) ∙ ap not ends, e)

pub name_found : (closer : ℕ) (bytes : List ℕ) (x : List ℕ × ℕ × List ℕ) → name_at closer bytes ≡ Some x → NameRead closer bytes x
unfolding name_at
name_found closer bytes x h =
    let n = before_first (ends_name closer) bytes in
    let same : before_first (λ b. not (not (ends_name closer b))) bytes ≡ n = ap (λ (q : ℕ → Bool). before_first q bytes) (same_test (ends_name closer)) in
    let cut = subst (λ (k : ℕ). Each (λ b. not (ends_name closer b)) (take k bytes) × Ends (λ b. not (ends_name closer b)) (drop k bytes)) same (run_found (λ b. not (ends_name closer b)) bytes) in
    subst (λ (xs : List ℕ). NameRead closer xs x) (take-append-drop n bytes) (named_found closer (take n bytes) (drop n bytes) x cut.0 cut.1 h)

-- the bytes of a macro and of those behind it
pub named_bytes : (closer : ℕ) (name after : List ℕ) → reference_bytes (named closer name) ++ after ≡ 36 ∷ opener closer ∷ (name ++ closer ∷ after)
named_bytes closer name after = ap (λ (xs : List ℕ). 36 ∷ opener closer ∷ xs) (append_assoc name (closer ∷ []) after)

pub defaulted_bytes : (closer : ℕ) (name : List ℕ) (d : Content) (after : List ℕ)
    → reference_bytes (defaulted closer name d) ++ after ≡ 36 ∷ opener closer ∷ (name ++ 61 ∷ (content_bytes d ++ closer ∷ after))
defaulted_bytes closer name d after =
    ap (λ (xs : List ℕ). 36 ∷ opener closer ∷ xs) (append_assoc name (61 ∷ (content_bytes d ++ closer ∷ [])) after
    ∙ ap (λ (xs : List ℕ). name ++ 61 ∷ xs) (append_assoc (content_bytes d) (closer ∷ []) after))

ends_closer : (closer : ℕ) → ends_name closer closer ≡ true
ends_closer closer = rw (eq-eqb closer closer refl) refl

ends_sign : (closer : ℕ) → ends_name closer 61 ≡ true
ends_sign closer = pick (eqb 61 closer)
  where
    pick : (v : Bool) → ((v || eqb 61 61) || eqb 61 10) ≡ true
    pick true = refl
    pick false = refl

pub closer_line : (closer : ℕ) → is_closer closer ≡ true → eqb closer 10 ≡ false
closer_line closer is = other_than is_closer closer 10 refl is

sign_closer : (closer : ℕ) → is_closer closer ≡ true → eqb 61 closer ≡ false
sign_closer closer is = differs 61 closer (not_closer 61 closer refl is)

name_named : (closer : ℕ) (name after : List ℕ) → IsNamed closer name → name_at closer (name ++ closer ∷ after) ≡ Some (name, closer, after)
name_named closer name after is = name_only closer name closer after is.1 (ends_closer closer) (closer_line closer is.0)

name_defaulted : (closer : ℕ) (name left : List ℕ) → IsNamed closer name → name_at closer (name ++ 61 ∷ left) ≡ Some (name, 61, left)
name_defaulted closer name left is = name_only closer name 61 left is.1 (ends_sign closer) refl

-- a default is passed over whole
content_still : (c : Content) (closer : ℕ) (outer : List ℕ) (rest : List ℕ) (whole : Option (List ℕ)) → is_closer closer ≡ true → IsContent c → Within closer c → Calm rest
    → Still closer outer (content_bytes c ++ rest) whole → Still closer outer rest whole
content_still nothing closer outer rest whole bracket is inside calm still = still
content_still (char b more) closer outer rest whole bracket is inside calm still =
    content_still more closer outer rest whole bracket is.1 inside.2 calm
    (still_plain closer outer (b ∷ (content_bytes more ++ rest)) whole b (content_bytes more ++ rest) refl inside.1 inside.0 (sym (opening_more b (content_bytes more) rest is.0 calm)) still)
content_still (refers (named inner name) more) closer outer rest whole bracket is inside calm still =
    let left : List ℕ = content_bytes more ++ rest in
    let bytes : (reference_bytes (named inner name) ++ content_bytes more) ++ rest ≡ 36 ∷ opener inner ∷ (name ++ inner ∷ left) = append_assoc (reference_bytes (named inner name)) (content_bytes more) rest ∙ named_bytes inner name left in
    let len = length-append name (inner ∷ left) in
    content_still more closer outer rest whole bracket is.1 inside calm
    (still_passed closer outer (36 ∷ opener inner ∷ (name ++ inner ∷ left)) whole 36 (opener inner ∷ (name ++ inner ∷ left)) refl (λ (e : 36 ≡ 10). absurd cc) (not_closer 36 closer refl bracket)
    inner (name ++ inner ∷ left) (sym (opens_at inner (name ++ inner ∷ left) is.0.0)) name inner left (sym (name_named inner name left is.0)) (omega (arith, len)) refl
    (subst (λ (xs : List ℕ). Still closer outer xs whole) bytes still))
content_still (refers (defaulted inner name d) more) closer outer rest whole bracket is inside calm still =
    let after : List ℕ = content_bytes more ++ rest in
    let left : List ℕ = content_bytes d ++ inner ∷ after in
    let bytes : (reference_bytes (defaulted inner name d) ++ content_bytes more) ++ rest ≡ 36 ∷ opener inner ∷ (name ++ 61 ∷ left) = append_assoc (reference_bytes (defaulted inner name d)) (content_bytes more) rest ∙ defaulted_bytes inner name d after in
    let len = length-append name (61 ∷ left) in
    let in_default = still_nested closer outer (36 ∷ opener inner ∷ (name ++ 61 ∷ left)) whole 36 (opener inner ∷ (name ++ 61 ∷ left)) refl (λ (e : 36 ≡ 10). absurd cc) (not_closer 36 closer refl bracket)
    inner (name ++ 61 ∷ left) (sym (opens_at inner (name ++ 61 ∷ left) is.0.0.0)) name 61 left (sym (name_defaulted inner name left is.0.0)) (omega (arith, len)) (not_closer 61 inner refl is.0.0.0)
    (subst (λ (xs : List ℕ). Still closer outer xs whole) bytes still) in
    let at_end = content_still d inner (closer ∷ outer) (inner ∷ after) whole is.0.0.0 is.0.1 is.0.2 (closer_calm inner is.0.0.0) in_default in
    content_still more closer outer rest whole bracket is.1 inside calm
    (still_outer inner (closer ∷ outer) (inner ∷ after) whole inner after refl (λ (e : inner ≡ 10). true≢false (sym (eq-eqb inner 10 e) ∙ closer_line inner is.0.0.0)) closer outer refl refl at_end)

default_only : (closer : ℕ) (d : Content) (after : List ℕ) → is_closer closer ≡ true → IsContent d → Within closer d
    → behind_default (length (content_bytes d ++ closer ∷ after)) closer [] (content_bytes d ++ closer ∷ after) ≡ Some after
default_only closer d after bracket is inside =
    let bytes : List ℕ = content_bytes d ++ closer ∷ after in
    let whole = behind_default (length bytes) closer [] bytes in
    let at_end = content_still d closer [] (closer ∷ after) whole bracket is inside (closer_calm closer bracket) (length bytes, omega arith, refl) in
    sym (still_closed closer [] (closer ∷ after) whole closer after refl (λ (e : closer ≡ 10). true≢false (sym (eq-eqb closer 10 e) ∙ closer_line closer bracket)) refl refl at_end)

-- a macro that is written is read
abbrev pub closer_of : Reference → ℕ
closer_of (named closer name) = closer
closer_of (defaulted closer name d) = closer

abbrev pub read_of : Reference → List ℕ → Macro
read_of r after = record { name = name_of r; default = default_of r; rest = after }

abbrev pub ReadAs : Reference → List ℕ → Type 0
ReadAs r after = (inside : List ℕ) × (opening (reference_bytes r ++ after) ≡ Some (closer_of r, inside)) × (macro_at (closer_of r) inside ≡ Some (read_of r after))

pub reference_only : (r : Reference) (after : List ℕ) → IsReference r → ReadAs r after
unfolding macro_at
reference_only (named closer name) after is = (
  name ++ closer ∷ after,
  ap opening (named_bytes closer name after) ∙ opens_at closer (name ++ closer ∷ after) is.0,
  ap (macro_named closer) (name_named closer name after is) ∙ rw (eq-eqb closer closer refl) refl,
)
reference_only (defaulted closer name d) after is =
    let left : List ℕ = content_bytes d ++ closer ∷ after in
    let len = length-append (content_bytes d) (closer ∷ after) in
    let n : length left - suc (length after) ≡ length (content_bytes d) = omega (arith, len) in (
      name ++ 61 ∷ left,
      ap opening (defaulted_bytes closer name d after) ∙ opens_at closer (name ++ 61 ∷ left) is.0.0,
      ap (macro_named closer) (name_defaulted closer name left is.0) ∙ rw (sign_closer closer is.0.0) (ap (with_default name left) (default_only closer d after is.0.0 is.1 is.2)
          ∙ ap (λ (xs : List ℕ). Some (record { name = name; default = Some xs; rest = after })) (ap (λ k. take k left) n ∙ take-append_seam (content_bytes d) (closer ∷ after))),
    )

-- a default that is passed over is written so
abbrev pub Closes : ℕ → ℕ → List ℕ → List ℕ → List ℕ → Type 0
Closes n closer outer bytes whole =
    (c : Content) × (after : List ℕ) × (bytes ≡ content_bytes c ++ closer ∷ after) × IsContent c × Within closer c × (m : ℕ) × (m < n) × (closed (behind_default m) outer after ≡ Some whole)

abbrev Finds : ℕ → Type 0
Finds n = (closer : ℕ) (outer bytes whole : List ℕ) → is_closer closer ≡ true → behind_default n closer outer bytes ≡ Some whole → Closes n closer outer bytes whole

at_byte : (n closer : ℕ) (outer : List ℕ) (b : ℕ) (rest : List ℕ) → eqb b 10 ≡ false → eqb b closer ≡ false
    → behind_default (suc n) closer outer (b ∷ rest) ≡ either (behind_default n closer outer rest) (λ m. nested (behind_default n) closer outer m.0 (name_at m.0 m.1)) (opening (b ∷ rest))
unfolding behind_default
at_byte n closer outer b rest line other = rw (line, other) refl

at_closer : (n closer : ℕ) (outer : List ℕ) (b : ℕ) (rest : List ℕ) → eqb b 10 ≡ false → eqb b closer ≡ true → behind_default (suc n) closer outer (b ∷ rest) ≡ closed (behind_default n) outer rest
unfolding behind_default
at_closer n closer outer b rest line is = rw (line, is) refl

at_line : (n closer : ℕ) (outer : List ℕ) (b : ℕ) (rest : List ℕ) → eqb b 10 ≡ true → behind_default (suc n) closer outer (b ∷ rest) ≡ None
unfolding behind_default
at_line n closer outer b rest is = rw is refl

at_nothing : (n closer : ℕ) (outer : List ℕ) → behind_default n closer outer [] ≡ None
unfolding behind_default
at_nothing zero closer outer = refl
at_nothing (suc n) closer outer = refl

at_zero : (closer : ℕ) (outer bytes : List ℕ) → behind_default zero closer outer bytes ≡ None
unfolding behind_default
at_zero closer outer bytes = refl

-- the byte that ends a name is its closing bracket, or `=`
sign_of : (inner end : ℕ) → ends_name inner end ≡ true → eqb end inner ≡ false → eqb end 10 ≡ false → end ≡ 61
sign_of inner end ends other line = eqb-true end 61 (pick (eqb end inner) (eqb end 61) (eqb end 10) other line ends)
  where
    pick : (u v w : Bool) → u ≡ false → w ≡ false → ((u || v) || w) ≡ true → v ≡ true
    pick true v w e f h = absurd (true≢false e)
    pick false true w e f h = refl
    pick false false true e f h = absurd (true≢false f)
    pick false false false e f h = h

module _ (n : ℕ) (finds : (m : ℕ) → m ≤ n → Finds m) (closer : ℕ) (outer whole : List ℕ) (bracket : is_closer closer ≡ true) where
  with_char : (b : ℕ) (rest : List ℕ) → (b ≢ closer) → (b ≢ 10) → opening (b ∷ rest) ≡ None → behind_default n closer outer rest ≡ Some whole → Closes (suc n) closer outer (b ∷ rest) whole
  with_char b rest other line none h =
      let (c, after, bytes, is, inside, m, less, more) = finds n (omega arith) closer outer rest whole bracket h in (
        char b c,
        after,
        ap (λ (xs : List ℕ). b ∷ xs) bytes,
        (opening_less b (content_bytes c) (closer ∷ after) (sym (ap (λ (xs : List ℕ). opening (b ∷ xs)) bytes) ∙ none), is),
        (other, line, inside),
        m,
        omega arith,
        more,
      )

  with_named : (bytes : List ℕ) (inner : ℕ) (name left : List ℕ) → bytes ≡ 36 ∷ opener inner ∷ (name ++ inner ∷ left) → IsNamed inner name → behind_default n closer outer left ≡ Some whole → Closes (suc n) closer outer bytes whole
  with_named all inner name left same is_named h =
      let (c, after, bytes, is, inside, m, less, more) = finds n (omega arith) closer outer left whole bracket h in (
        refers (named inner name) c,
        after,
        same ∙ sym (named_bytes inner name left) ∙ ap (λ (xs : List ℕ). reference_bytes (named inner name) ++ xs) bytes ∙ sym (append_assoc (reference_bytes (named inner name)) (content_bytes c) (closer ∷ after)),
        (is_named, is),
        inside,
        m,
        omega arith,
        more,
      )

  with_defaulted : (bytes : List ℕ) (inner : ℕ) (name left : List ℕ) → bytes ≡ 36 ∷ opener inner ∷ (name ++ 61 ∷ left) → IsNamed inner name → behind_default n inner (closer ∷ outer) left ≡ Some whole → Closes (suc n) closer outer bytes whole
  with_defaulted all inner name left same is_named h =
      let (d, next, bytes, is, inside, k, fewer, on) = finds n (omega arith) inner (closer ∷ outer) left whole is_named.0 h in
      let (c, after, more_bytes, also, inside_too, m, less, more) = finds k (omega arith) closer outer next whole bracket on in (
        refers (defaulted inner name d) c,
        after,
        same ∙ ap (λ (xs : List ℕ). 36 ∷ opener inner ∷ (name ++ 61 ∷ xs)) bytes ∙ sym (defaulted_bytes inner name d next)
            ∙ ap (λ (xs : List ℕ). reference_bytes (defaulted inner name d) ++ xs) more_bytes ∙ sym (append_assoc (reference_bytes (defaulted inner name d)) (content_bytes c) (closer ∷ after)),
        ((is_named, is, inside), also),
        inside_too,
        m,
        omega arith,
        more,
      )

  with_macro : (bytes : List ℕ) (inner : ℕ) (inside : List ℕ) → opening bytes ≡ Some (inner, inside) → (r : Option (List ℕ × ℕ × List ℕ)) → name_at inner inside ≡ r → nested (behind_default n) closer outer inner r ≡ Some whole
      → Closes (suc n) closer outer bytes whole
  with_macro bytes inner inside opens None is h = absurd cc
  with_macro bytes inner inside opens (Some x) is h =
      let at = opening_is bytes inner inside opens in
      let (same, each, ends, line) = name_found inner inside x is in
      let all : bytes ≡ 36 ∷ opener inner ∷ (x.0 ++ x.1 ∷ x.2) = at.0 ∙ ap (λ (xs : List ℕ). 36 ∷ opener inner ∷ xs) same in
      elim (eqb_tells x.1 inner) [
        | inl e ↦ with_named bytes inner x.0 x.2 (all ∙ ap (λ y. 36 ∷ opener inner ∷ (x.0 ++ y ∷ x.2)) e.1) (at.1, each) (rw e.0 at h)
        | inr e ↦ with_defaulted bytes inner x.0 x.2 (all ∙ ap (λ y. 36 ∷ opener inner ∷ (x.0 ++ y ∷ x.2)) (sign_of inner x.1 ends e.0 line)) (at.1, each) (rw e.0 at h)
      ]

  at_opening : (b : ℕ) (rest : List ℕ) (o : Option (ℕ × List ℕ)) → (b ≢ closer) → (b ≢ 10) → opening (b ∷ rest) ≡ o
      → either (behind_default n closer outer rest) (λ m. nested (behind_default n) closer outer m.0 (name_at m.0 m.1)) o ≡ Some whole → Closes (suc n) closer outer (b ∷ rest) whole
  at_opening b rest None other line opens h = with_char b rest other line opens h
  at_opening b rest (Some o) other line opens h = with_macro (b ∷ rest) o.0 o.1 opens (name_at o.0 o.1) refl h

  find_step : (bytes : List ℕ) → behind_default (suc n) closer outer bytes ≡ Some whole → Closes (suc n) closer outer bytes whole
  find_step [] h = absurd (none_some whole (behind_default (suc n) closer outer []) (at_nothing (suc n) closer outer) h)
  find_step (b ∷ rest) h =
      elim (eqb_tells b 10) [
        | inl l ↦ absurd (none_some whole (behind_default (suc n) closer outer (b ∷ rest)) (at_line n closer outer b rest l.0) h)
        | inr l ↦ elim (eqb_tells b closer) [
          | inl e ↦ (nothing, rest, ap (λ k. k ∷ rest) e.1, tt, tt, n, omega arith, sym (at_closer n closer outer b rest l.0 e.0) ∙ h)
          | inr e ↦ at_opening b rest (opening (b ∷ rest)) e.1 l.1 refl (sym (at_byte n closer outer b rest l.0 e.0) ∙ h)
        ]
      ]

finds_to : (k m : ℕ) → m ≤ k → Finds m
finds_to k zero few closer outer bytes whole bracket h = absurd (none_some whole (behind_default zero closer outer bytes) (at_zero closer outer bytes) h)
finds_to zero (suc m) few closer outer bytes whole bracket h = absurd (omega arith)
finds_to (suc k) (suc m) few closer outer bytes whole bracket h = find_step m (λ j less. finds_to k j (omega arith)) closer outer whole bracket bytes h

-- a macro that is read is written so
abbrev pub Written : List ℕ → Macro → Type 0
Written bytes m = (r : Reference) × (bytes ≡ reference_bytes r ++ m.rest) × IsReference r × (name_of r ≡ m.name) × (default_of r ≡ m.default)

default_found : (closer : ℕ) (bytes : List ℕ) (inside name left : List ℕ) (m : Macro) (r : Option (List ℕ)) → bytes ≡ 36 ∷ opener closer ∷ inside → inside ≡ name ++ 61 ∷ left → IsNamed closer name
    → behind_default (length left) closer [] left ≡ r → with_default name left r ≡ Some m → Written bytes m
default_found closer bytes inside name left m None opens is named_is from h = absurd cc
default_found closer bytes inside name left m (Some rest) opens is named_is from h =
    let (d, after, same, content, in_it, k, less, end) = finds_to (length left) (length left) (omega arith) closer [] left rest named_is.0 from in
    let here : after ≡ rest = ap (the after) end in
    let len = length-append (content_bytes d) (closer ∷ after) in
    let whole = ap length same in
    let short = ap length here in
    let n : length left - suc (length rest) ≡ length (content_bytes d) = omega (arith, len, whole, short) in
    let text : take (length left - suc (length rest)) left ≡ content_bytes d =
    ap (λ j. take j left) n ∙ ap (take (length (content_bytes d))) same ∙ take-append_seam (content_bytes d) (closer ∷ after) in
    let made : record { name = name; default = Some (take (length left - suc (length rest)) left); rest = rest } ≡ m =
    ap (the (record { name = name; default = Some (take (length left - suc (length rest)) left); rest = rest })) h in
    subst (Written bytes) made (
      defaulted closer name d,
      opens ∙ ap (λ (xs : List ℕ). 36 ∷ opener closer ∷ xs) (is ∙ ap (λ (xs : List ℕ). name ++ 61 ∷ xs) same) ∙ sym (defaulted_bytes closer name d after) ∙ ap (λ (xs : List ℕ). reference_bytes (defaulted closer name d) ++ xs) here,
      (named_is, content, in_it),
      refl,
      ap (λ (xs : List ℕ). Some xs) (sym text),
    )

named_as : (closer : ℕ) (bytes inside : List ℕ) (m : Macro) (r : Option (List ℕ × ℕ × List ℕ)) → bytes ≡ 36 ∷ opener closer ∷ inside → is_closer closer ≡ true → name_at closer inside ≡ r → macro_named closer r ≡ Some m → Written bytes m
named_as closer bytes inside m None opens bracket from h = absurd cc
named_as closer bytes inside m (Some x) opens bracket from h =
    let (same, each, ends, line) = name_found closer inside x from in
    elim (eqb_tells x.1 closer) [
      | inl e ↦ let made : record { name = x.0; default = None; rest = x.2 } ≡ m = ap (the (record { name = x.0; default = None; rest = x.2 })) (rw e.0 at h) in
          subst (Written bytes) made (
            named closer x.0,
            opens ∙ ap (λ (xs : List ℕ). 36 ∷ opener closer ∷ xs) (same ∙ ap (λ y. x.0 ++ y ∷ x.2) e.1) ∙ sym (named_bytes closer x.0 x.2),
            (bracket, each),
            refl,
            refl,
          )
      | inr e ↦ default_found closer bytes inside x.0 x.2 m (behind_default (length x.2) closer [] x.2) opens (same ∙ ap (λ y. x.0 ++ y ∷ x.2) (sign_of closer x.1 ends e.0 line)) (bracket, each) refl (rw e.0 at h)
    ]

pub reference_found : (bytes : List ℕ) (closer : ℕ) (inside : List ℕ) (m : Macro) → opening bytes ≡ Some (closer, inside) → macro_at closer inside ≡ Some m → Written bytes m
unfolding macro_at
reference_found bytes closer inside m opens h =
    let at = opening_is bytes closer inside opens in
    named_as closer bytes inside m (name_at closer inside) at.0 at.1 refl h
