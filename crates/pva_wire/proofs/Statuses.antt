-- A status is read as it is spelled, and what is read is spelled so.
use Rattle.std.proofs.Common.{◌≡◌, ℕ, suc, true, false, cond, eqb, List, [], ◌∷◌, ◌++◌, length, Option, Some, None, Ok, refl, sym, ap, subst, ◌∙◌, append_assoc, inl, inr, ◌⊎◌}
use Rattle.std.proofs.lemmas.Bool.{eqb-true}
use Rattle.pva_wire.specs.declared.order.Order.{Order}
use Rattle.pva_wire.specs.declared.status.Status.{Status}
use Rattle.pva_wire.specs.declared.status.StatusKind.{StatusKind}
use Rattle.pva_wire.specs.declared.status.StatusKind.TheVariants.{Good, Warning, Error, Fatal}
use Rattle.pva_wire.specs.Spelling.{IsBytes, IsText, SpellsText, canonical_text}
use Rattle.pva_wire.specs.Reading.{◌>>=◌, text_at}
use Rattle.pva_wire.specs.Status.{good, kind_code, SpellsStatus, is_empty_good, canonical_status, kind_of, parts_at, status_at}
use Rattle.pva_wire.proofs.Takes.{Takes, IsBytes-rest, chosen, ok_is, bind_ok}
use Rattle.pva_wire.proofs.Texts.{text_again, text_takes}
use Rattle.pva_wire.proofs.OneReading.{canonical_text_spells}

code_again : (k : StatusKind) → kind_of (kind_code k) ≡ Some k
unfolding kind_of
code_again Good = refl
code_again Warning = refl
code_again Error = refl
code_again Fatal = refl

not_255 : (k : StatusKind) → eqb (kind_code k) 255 ≡ false
not_255 Good = refl
not_255 Warning = refl
not_255 Error = refl
not_255 Fatal = refl

some_is : {A : Type 0} (x y : A) → Some x ≡ Some y → x ≡ y
some_is x y e = cc

kind_back : (b : ℕ) (k : StatusKind) → kind_of b ≡ Some k → b ≡ kind_code k
unfolding kind_of
kind_back b k h =
    elim (chosen (eqb b 0) (Some Good) (cond (eqb b 1) (Some Warning) (cond (eqb b 2) (Some Error) (cond (eqb b 3) (Some Fatal) None))) (Some k) h) [
      | inl x ↦ eqb-true b 0 x.0 ∙ ap kind_code (some_is Good k x.1)
      | inr a ↦ elim (chosen (eqb b 1) (Some Warning) (cond (eqb b 2) (Some Error) (cond (eqb b 3) (Some Fatal) None)) (Some k) a.1) [
        | inl x ↦ eqb-true b 1 x.0 ∙ ap kind_code (some_is Warning k x.1)
        | inr c ↦ elim (chosen (eqb b 2) (Some Error) (cond (eqb b 3) (Some Fatal) None) (Some k) c.1) [
          | inl x ↦ eqb-true b 2 x.0 ∙ ap kind_code (some_is Error k x.1)
          | inr d ↦ elim (chosen (eqb b 3) (Some Fatal) None (Some k) d.1) [
            | inl x ↦ eqb-true b 3 x.0 ∙ ap kind_code (some_is Fatal k x.1)
            | inr e ↦ absurd cc
          ]
        ]
      ]
    ]

parts_again : (o : Order) (left : ℕ) (s : Status) (message tree rest : List ℕ) → SpellsText o message s.message → SpellsText o tree s.tree
    → parts_at o left (Some s.kind) (message ++ (tree ++ rest)) ≡ Ok (s, rest)
parts_again o left s message tree rest first second =
    rw (text_again o message s.message (tree ++ rest) first, text_again o tree s.tree rest second) refl

pub status_again : (o : Order) (bytes rest : List ℕ) (s : Status) → SpellsStatus o bytes s → status_at o (bytes ++ rest) ≡ Ok (s, rest)
unfolding status_at
status_again o bytes rest s (inl plain) =
    ap (λ (t : List ℕ). status_at o (t ++ rest)) plain.0 ∙ ap (λ (x : Status). Ok (x, rest)) (sym plain.1)
status_again o bytes rest s (inr spelled) =
    let (message, tree, first, second, parts) = spelled in
    ap (λ (t : List ℕ). status_at o (t ++ rest)) parts
    ∙ rw (not_255 s.kind, code_again s.kind, append_assoc message tree rest) (parts_again o (suc (length (message ++ (tree ++ rest)))) s message tree rest first second)

parts_takes : (o : Order) (left b : ℕ) (kind : Option StatusKind) (bytes : List ℕ) (x : Status × List ℕ) → IsBytes bytes → kind_of b ≡ kind → parts_at o left kind bytes ≡ Ok x
    → (text : List ℕ) × SpellsStatus o text x.0 × Takes (b ∷ bytes) text x.1
parts_takes o left b None bytes x fits is h = absurd cc
parts_takes o left b (Some k) bytes x fits is h =
    let m = bind_ok (text_at o bytes) (λ message. text_at o message.1 >>= λ tree. Ok (record { kind = k; message = message.0; tree = tree.0 }, tree.1)) x h in
    let first = text_takes o bytes m.0 fits m.1 in
    let t = bind_ok (text_at o m.0.1) (λ tree. Ok (record { kind = k; message = m.0.0; tree = tree.0 }, tree.1)) x m.2 in
    let second = text_takes o m.0.1 t.0 first.2.rest_fits t.1 in
    subst (λ (y : Status × List ℕ). (text : List ℕ) × SpellsStatus o text y.0 × Takes (b ∷ bytes) text y.1) (ok_is (record { kind = k; message = m.0.0; tree = t.0.0 }, t.0.1) x t.2) (
      kind_code k ∷ (first.0 ++ second.0),
      inr (first.0, second.0, first.1, second.1, refl),
      record {
        parts = ap (λ (n : ℕ). n ∷ bytes) (kind_back b k is)
            ∙ ap (λ (r : List ℕ). kind_code k ∷ r) (first.2.parts ∙ ap (λ (r : List ℕ). first.0 ++ r) second.2.parts ∙ sym (append_assoc first.0 second.0 t.0.1));
        rest_fits = second.2.rest_fits;
      },
    )

pub status_takes : (o : Order) (bytes : List ℕ) (x : Status × List ℕ) → IsBytes bytes → status_at o bytes ≡ Ok x → (text : List ℕ) × SpellsStatus o text x.0 × Takes bytes text x.1
unfolding status_at
status_takes o [] x fits h = absurd cc
status_takes o (b ∷ bytes) x fits h =
    elim (chosen (eqb b 255) (Ok (good, bytes)) (parts_at o (suc (length bytes)) (kind_of b) bytes) (Ok x) h) [
      | inl plain ↦
          subst (λ (y : Status × List ℕ). (text : List ℕ) × SpellsStatus o text y.0 × Takes (b ∷ bytes) text y.1) (ok_is (good, bytes) x plain.1)
          (255 ∷ [], inl (refl, refl), record { parts = ap (λ (n : ℕ). n ∷ bytes) (eqb-true b 255 plain.0); rest_fits = IsBytes-rest b bytes fits })
      | inr other ↦ parts_takes o (suc (length bytes)) b (kind_of b) bytes x (IsBytes-rest b bytes fits) refl other.1
    ]

plain_cases : (k : StatusKind) (message tree : List ℕ) → ((is_empty_good k message tree ≡ true) × (◌≡◌ {A = Status} (record { kind = k; message = message; tree = tree }) good)) ⊎ (is_empty_good k message tree ≡ false)
plain_cases Good [] [] = inl (refl, refl)
plain_cases Good [] (x ∷ tree) = inr refl
plain_cases Good (x ∷ message) tree = inr refl
plain_cases Warning message tree = inr refl
plain_cases Error message tree = inr refl
plain_cases Fatal message tree = inr refl

-- what is written is a spelling
pub canonical_status_spells : (o : Order) (s : Status) → IsText s.message → IsText s.tree → SpellsStatus o (canonical_status o s) s
canonical_status_spells o s first second =
    elim (plain_cases s.kind s.message s.tree) [
      | inl plain ↦ inl (rw plain.0 refl, plain.1)
      | inr other ↦ inr (
        canonical_text o s.message,
        canonical_text o s.tree,
        canonical_text_spells o s.message first.1 first.0,
        canonical_text_spells o s.tree second.1 second.0,
        rw other refl,
      )
    ]
