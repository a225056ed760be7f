-- The code bytes, each led back from what it stands for.
use Rattle.std.proofs.Common.{◌≡◌, ℕ, ◌+◌, ◌*◌, ◌/◌, ◌%◌, ◌<◌, ◌≤◌, Bool as Truth, true, false, cond, eqb, Option, Some, None, inl, inr, refl, arith}
use Rattle.std.proofs.lemmas.Bool.{eqb-true}
use Rattle.std.proofs.lemmas.Bool.Decides.{eqb_tells}
use Rattle.pvd_type.specs.declared.shape.Scalar.{Scalar}
use Rattle.pvd_type.specs.declared.shape.Scalar.TheVariants.{Bool, I8, I16, I32, I64, U8, U16, U32, U64, F32, F64, Text}
use Rattle.pvd_desc.specs.declared.code.Code.{Code}
use Rattle.pvd_desc.specs.declared.code.Code.TheVariants as code
use Rattle.pvd_desc.specs.Code.{scalar_code, scalar_of, of_form, code_of}
use Rattle.pva_wire.proofs.Takes.{differs}

scalar_low : (s : Scalar) → scalar_code s ≤ 0x60
scalar_low Bool = omega arith
scalar_low I8 = omega arith
scalar_low I16 = omega arith
scalar_low I32 = omega arith
scalar_low I64 = omega arith
scalar_low U8 = omega arith
scalar_low U16 = omega arith
scalar_low U32 = omega arith
scalar_low U64 = omega arith
scalar_low F32 = omega arith
scalar_low F64 = omega arith
scalar_low Text = omega arith

pub plain_other : (s : Scalar) → eqb (scalar_code s) 253 ≡ false
plain_other s = let low = scalar_low s in differs (scalar_code s) 253 (λ e. omega (arith, e))

pub list_other : (s : Scalar) (form : ℕ) → form ≤ 0x18 → eqb (scalar_code s + form) 253 ≡ false
list_other s form h = let low = scalar_low s in differs (scalar_code s + form) 253 (λ e. omega (arith, e))

pub code_plain : (s : Scalar) → code_of (scalar_code s) ≡ code.Plain s
unfolding code_of scalar_of
code_plain Bool = refl
code_plain I8 = refl
code_plain I16 = refl
code_plain I32 = refl
code_plain I64 = refl
code_plain U8 = refl
code_plain U16 = refl
code_plain U32 = refl
code_plain U64 = refl
code_plain F32 = refl
code_plain F64 = refl
code_plain Text = refl

pub code_list : (s : Scalar) → code_of (scalar_code s + 0x08) ≡ code.List s
unfolding code_of scalar_of
code_list Bool = refl
code_list I8 = refl
code_list I16 = refl
code_list I32 = refl
code_list I64 = refl
code_list U8 = refl
code_list U16 = refl
code_list U32 = refl
code_list U64 = refl
code_list F32 = refl
code_list F64 = refl
code_list Text = refl

pub code_bounded : (s : Scalar) → code_of (scalar_code s + 0x10) ≡ code.Bounded s
unfolding code_of scalar_of
code_bounded Bool = refl
code_bounded I8 = refl
code_bounded I16 = refl
code_bounded I32 = refl
code_bounded I64 = refl
code_bounded U8 = refl
code_bounded U16 = refl
code_bounded U32 = refl
code_bounded U64 = refl
code_bounded F32 = refl
code_bounded F64 = refl
code_bounded Text = refl

pub code_fixed : (s : Scalar) → code_of (scalar_code s + 0x18) ≡ code.Fixed s
unfolding code_of scalar_of
code_fixed Bool = refl
code_fixed I8 = refl
code_fixed I16 = refl
code_fixed I32 = refl
code_fixed I64 = refl
code_fixed U8 = refl
code_fixed U16 = refl
code_fixed U32 = refl
code_fixed U64 = refl
code_fixed F32 = refl
code_fixed F64 = refl
code_fixed Text = refl

-- what a byte is that stands for something
abbrev pub CodeIs : ℕ → Code → Type 0
CodeIs b (code.Plain s) = b ≡ scalar_code s
CodeIs b (code.List s) = b ≡ scalar_code s + 0x08
CodeIs b (code.Bounded s) = b ≡ scalar_code s + 0x10
CodeIs b (code.Fixed s) = b ≡ scalar_code s + 0x18
CodeIs b code.BoundText = b ≡ 0x83
CodeIs b code.Variant = b ≡ 0x82
CodeIs b code.VariantList = b ≡ 0x8A
CodeIs b code.Struct = b ≡ 0x80
CodeIs b code.Union = b ≡ 0x81
CodeIs b code.StructList = b ≡ 0x88
CodeIs b code.UnionList = b ≡ 0x89
CodeIs b code.Cached = b ≡ 0xFE
CodeIs b code.Unknown = Unit {0}

-- a choice has what both ways have
picked : {A : Type 0} (P : A → Type 0) (t : Truth) (x y : A) → (t ≡ true → P x) → P y → P (cond t x y)
picked P true x y h k = h refl
picked P false x y h k = k

-- a scalar's code without its list bits
abbrev IsScalarOf : ℕ → Option Scalar → Type 0
IsScalarOf b None = Unit {0}
IsScalarOf b (Some s) = b ≡ scalar_code s

scalar_is : (b : ℕ) → IsScalarOf b (scalar_of b)
unfolding scalar_of
scalar_is b =
    picked (IsScalarOf b) (eqb b 0) (Some Bool) (cond (eqb b 32) (Some I8) (cond (eqb b 33) (Some I16) (cond (eqb b 34) (Some I32) (cond (eqb b 35) (Some I64) (cond (eqb b 36) (Some U8) (cond (eqb b 37) (Some U16) (cond (eqb b 38) (Some U32) (cond (eqb b 39) (Some U64) (cond (eqb b 66) (Some F32) (cond (eqb b 67) (Some F64) (cond (eqb b 96) (Some Text) None))))))))))) (λ e. eqb-true b 0 e) (
    picked (IsScalarOf b) (eqb b 32) (Some I8) (cond (eqb b 33) (Some I16) (cond (eqb b 34) (Some I32) (cond (eqb b 35) (Some I64) (cond (eqb b 36) (Some U8) (cond (eqb b 37) (Some U16) (cond (eqb b 38) (Some U32) (cond (eqb b 39) (Some U64) (cond (eqb b 66) (Some F32) (cond (eqb b 67) (Some F64) (cond (eqb b 96) (Some Text) None)))))))))) (λ e. eqb-true b 32 e) (
    picked (IsScalarOf b) (eqb b 33) (Some I16) (cond (eqb b 34) (Some I32) (cond (eqb b 35) (Some I64) (cond (eqb b 36) (Some U8) (cond (eqb b 37) (Some U16) (cond (eqb b 38) (Some U32) (cond (eqb b 39) (Some U64) (cond (eqb b 66) (Some F32) (cond (eqb b 67) (Some F64) (cond (eqb b 96) (Some Text) None))))))))) (λ e. eqb-true b 33 e) (
    picked (IsScalarOf b) (eqb b 34) (Some I32) (cond (eqb b 35) (Some I64) (cond (eqb b 36) (Some U8) (cond (eqb b 37) (Some U16) (cond (eqb b 38) (Some U32) (cond (eqb b 39) (Some U64) (cond (eqb b 66) (Some F32) (cond (eqb b 67) (Some F64) (cond (eqb b 96) (Some Text) None)))))))) (λ e. eqb-true b 34 e) (
    picked (IsScalarOf b) (eqb b 35) (Some I64) (cond (eqb b 36) (Some U8) (cond (eqb b 37) (Some U16) (cond (eqb b 38) (Some U32) (cond (eqb b 39) (Some U64) (cond (eqb b 66) (Some F32) (cond (eqb b 67) (Some F64) (cond (eqb b 96) (Some Text) None))))))) (λ e. eqb-true b 35 e) (
    picked (IsScalarOf b) (eqb b 36) (Some U8) (cond (eqb b 37) (Some U16) (cond (eqb b 38) (Some U32) (cond (eqb b 39) (Some U64) (cond (eqb b 66) (Some F32) (cond (eqb b 67) (Some F64) (cond (eqb b 96) (Some Text) None)))))) (λ e. eqb-true b 36 e) (
    picked (IsScalarOf b) (eqb b 37) (Some U16) (cond (eqb b 38) (Some U32) (cond (eqb b 39) (Some U64) (cond (eqb b 66) (Some F32) (cond (eqb b 67) (Some F64) (cond (eqb b 96) (Some Text) None))))) (λ e. eqb-true b 37 e) (
    picked (IsScalarOf b) (eqb b 38) (Some U32) (cond (eqb b 39) (Some U64) (cond (eqb b 66) (Some F32) (cond (eqb b 67) (Some F64) (cond (eqb b 96) (Some Text) None)))) (λ e. eqb-true b 38 e) (
    picked (IsScalarOf b) (eqb b 39) (Some U64) (cond (eqb b 66) (Some F32) (cond (eqb b 67) (Some F64) (cond (eqb b 96) (Some Text) None))) (λ e. eqb-true b 39 e) (
    picked (IsScalarOf b) (eqb b 66) (Some F32) (cond (eqb b 67) (Some F64) (cond (eqb b 96) (Some Text) None)) (λ e. eqb-true b 66 e) (
    picked (IsScalarOf b) (eqb b 67) (Some F64) (cond (eqb b 96) (Some Text) None) (λ e. eqb-true b 67 e) (
    picked (IsScalarOf b) (eqb b 96) (Some Text) None (λ e. eqb-true b 96 e) (
    tt {0}))))))))))))

form_is : (b base form : ℕ) (s : Option Scalar) → IsScalarOf base s → b ≡ base + 8 * form → form < 4 → CodeIs b (of_form s form)
form_is b base form None is split few = tt {0}
form_is b base form (Some s) is split few =
    elim (eqb_tells form 0) [
      | inl p ↦ rw p.0 (omega (arith, p.1, is))
      | inr p ↦ elim (eqb_tells form 1) [
        | inl q ↦ rw (p.0, q.0) (omega (arith, q.1, is))
        | inr q ↦ elim (eqb_tells form 2) [
          | inl r ↦ rw (p.0, q.0, r.0) (omega (arith, r.1, is))
          | inr r ↦ rw (p.0, q.0, r.0) (omega (arith, p.1, q.1, r.1, is))
        ]
      ]
    ]

pub code_is : (b : ℕ) → CodeIs b (code_of b)
unfolding code_of
code_is b =
    let last : CodeIs b (of_form (scalar_of (b / 32 * 32 + b % 8)) (b / 8 % 4)) =
    form_is b (b / 32 * 32 + b % 8) (b / 8 % 4) (scalar_of (b / 32 * 32 + b % 8)) (scalar_is (b / 32 * 32 + b % 8)) (omega arith) (omega arith) in
    picked (CodeIs b) (eqb b 128) code.Struct (cond (eqb b 129) code.Union (cond (eqb b 130) code.Variant (cond (eqb b 131) code.BoundText (cond (eqb b 136) code.StructList (cond (eqb b 137) code.UnionList (cond (eqb b 138) code.VariantList (cond (eqb b 254) code.Cached (of_form (scalar_of (b / 32 * 32 + b % 8)) (b / 8 % 4))))))))) (λ e. eqb-true b 128 e) (
    picked (CodeIs b) (eqb b 129) code.Union (cond (eqb b 130) code.Variant (cond (eqb b 131) code.BoundText (cond (eqb b 136) code.StructList (cond (eqb b 137) code.UnionList (cond (eqb b 138) code.VariantList (cond (eqb b 254) code.Cached (of_form (scalar_of (b / 32 * 32 + b % 8)) (b / 8 % 4)))))))) (λ e. eqb-true b 129 e) (
    picked (CodeIs b) (eqb b 130) code.Variant (cond (eqb b 131) code.BoundText (cond (eqb b 136) code.StructList (cond (eqb b 137) code.UnionList (cond (eqb b 138) code.VariantList (cond (eqb b 254) code.Cached (of_form (scalar_of (b / 32 * 32 + b % 8)) (b / 8 % 4))))))) (λ e. eqb-true b 130 e) (
    picked (CodeIs b) (eqb b 131) code.BoundText (cond (eqb b 136) code.StructList (cond (eqb b 137) code.UnionList (cond (eqb b 138) code.VariantList (cond (eqb b 254) code.Cached (of_form (scalar_of (b / 32 * 32 + b % 8)) (b / 8 % 4)))))) (λ e. eqb-true b 131 e) (
    picked (CodeIs b) (eqb b 136) code.StructList (cond (eqb b 137) code.UnionList (cond (eqb b 138) code.VariantList (cond (eqb b 254) code.Cached (of_form (scalar_of (b / 32 * 32 + b % 8)) (b / 8 % 4))))) (λ e. eqb-true b 136 e) (
    picked (CodeIs b) (eqb b 137) code.UnionList (cond (eqb b 138) code.VariantList (cond (eqb b 254) code.Cached (of_form (scalar_of (b / 32 * 32 + b % 8)) (b / 8 % 4)))) (λ e. eqb-true b 137 e) (
    picked (CodeIs b) (eqb b 138) code.VariantList (cond (eqb b 254) code.Cached (of_form (scalar_of (b / 32 * 32 + b % 8)) (b / 8 % 4))) (λ e. eqb-true b 138 e) (
    picked (CodeIs b) (eqb b 254) code.Cached (of_form (scalar_of (b / 32 * 32 + b % 8)) (b / 8 % 4)) (λ e. eqb-true b 254 e) (
    last))))))))
