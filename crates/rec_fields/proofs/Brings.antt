-- A value that fits a record's type brings a datum of the record's sort.
use Rattle.std.proofs.Common.{◌≡◌, ℕ, Bool, true, false, ◌&&◌, List, Option, None, Some, Ok, Err, refl, ap, sym, ◌∙◌, subst}
use Rattle.std.specs.Prelude.{IfSome}
use Rattle.std.proofs.lemmas.Bool.{false≢true}
use Rattle.nt_types.specs.Types.{with_meta, enum_value}
use Rattle.pvd_type.specs.Same.{same_scalar}
use Rattle.pvd_type.specs.SameLaws.{same_tree-Decides}
use Rattle.pvd_type.specs.Tree.{Tree, leaf, plain, list}
use Rattle.pvd_type.specs.declared.shape.Scalar.{Scalar}
use Rattle.pvd_type.specs.declared.shape.Scalar.TheVariants as scalars
use Rattle.pvd_type.specs.declared.shape.Extent.TheVariants.{Variable}
use Rattle.pvd_value.specs.Data.{Data, single, many, members, unset, selected, empty, carried, structs, unions, variants, end, more, gap}
use Rattle.pvd_value.specs.Fits.{fits_of, scalar_of, element_of, row_fits}
use Rattle.rec_kinds.specs.Sorts.{is_of, sort_of, element_sort}
use Rattle.rec_kinds.specs.Validity.{outcome_of}
use Rattle.rec_kinds.specs.declared.kind.Kind.{Kind}
use Rattle.rec_kinds.specs.declared.kind.Kind.TheVariants.{Longin, Longout, Int64in, Int64out, Bi, Bo, Mbbi, Mbbo, Stringin, Stringout, Waveform}
use Rattle.rec_kinds.specs.declared.element.Element.{Element}
use Rattle.rec_kinds.specs.declared.element.Element.TheVariants as elements
use Rattle.rec_kinds.specs.declared.datum.Datum.{Datum}
use Rattle.rec_kinds.specs.declared.put.PutRefusal.{PutRefusal}
use Rattle.rec_fields.specs.Given.{sort_in, single_sort, many_sort}
use Rattle.rec_fields.specs.Puts.{value_in}
use Rattle.rec_fields.specs.Types.{tree_of, scalar_of as scalar_by}

first : (a b : Bool) → (a && b) ≡ true → a ≡ true
first true b h = refl
first false b h = absurd (false≢true h)

-- the value of a structure with alarm and time stamp fits its own type
opened : (value : Data) (id : List ℕ) (t : Tree) → fits_of 16 value (with_meta id t) ≡ true → fits_of 16 (value_in value) t ≡ true
opened (members (more v vs)) id t h = first (fits_of 16 v t) (row_fits 16 vs _) h
opened (members end) id t h = absurd (false≢true h)
opened (members (gap vs)) id t h = absurd (false≢true h)
opened (single x) id t h = absurd (false≢true h)
opened (many xs) id t h = absurd (false≢true h)
opened unset id t h = absurd (false≢true h)
opened (selected n v) id t h = absurd (false≢true h)
opened empty id t h = absurd (false≢true h)
opened (carried u v) id t h = absurd (false≢true h)
opened (structs vs) id t h = absurd (false≢true h)
opened (unions vs) id t h = absurd (false≢true h)
opened (variants vs) id t h = absurd (false≢true h)

scalar_is : (s t : Scalar) → same_scalar s t ≡ true → s ≡ t
scalar_is s t h = let e : leaf (plain s) ≡ leaf (plain t) = (same_tree-Decides (leaf (plain s)) (leaf (plain t))).0 h in cc

plain_sort : (v : Data) (s : Scalar) → fits_of 16 v (leaf (plain s)) ≡ true → sort_in v ≡ single_sort s
plain_sort (single x) s h = ap single_sort (scalar_is (scalar_of x) s h)
plain_sort _ s h = absurd (false≢true h)

list_sort : (v : Data) (s : Scalar) → fits_of 16 v (leaf (list s Variable)) ≡ true → sort_in v ≡ many_sort s
list_sort (many xs) s h = ap many_sort (scalar_is (element_of xs) s (first (same_scalar (element_of xs) s) true h))
list_sort _ s h = absurd (false≢true h)

choice_sort : (v : Data) (ftvl : Element) → fits_of 16 v enum_value ≡ true → sort_in v ≡ sort_of Bi ftvl
choice_sort (members vs) ftvl h = refl
choice_sort _ ftvl h = absurd (false≢true h)

element_is : (e : Element) → many_sort (scalar_by e) ≡ element_sort e
element_is elements.Text = refl
element_is elements.I8 = refl
element_is elements.U8 = refl
element_is elements.I16 = refl
element_is elements.U16 = refl
element_is elements.I32 = refl
element_is elements.U32 = refl
element_is elements.I64 = refl
element_is elements.U64 = refl

sorts_agree : (kind : Kind) (ftvl : Element) (value : Data) → fits_of 16 value (tree_of kind ftvl) ≡ true → sort_in (value_in value) ≡ sort_of kind ftvl
sorts_agree Longin ftvl value h = plain_sort (value_in value) scalars.I32 (opened value _ _ h)
sorts_agree Longout ftvl value h = plain_sort (value_in value) scalars.I32 (opened value _ _ h)
sorts_agree Int64in ftvl value h = plain_sort (value_in value) scalars.I64 (opened value _ _ h)
sorts_agree Int64out ftvl value h = plain_sort (value_in value) scalars.I64 (opened value _ _ h)
sorts_agree Bi ftvl value h = choice_sort (value_in value) ftvl (opened value _ _ h)
sorts_agree Bo ftvl value h = choice_sort (value_in value) ftvl (opened value _ _ h)
sorts_agree Mbbi ftvl value h = choice_sort (value_in value) ftvl (opened value _ _ h)
sorts_agree Mbbo ftvl value h = choice_sort (value_in value) ftvl (opened value _ _ h)
sorts_agree Stringin ftvl value h = plain_sort (value_in value) scalars.Text (opened value _ _ h)
sorts_agree Stringout ftvl value h = plain_sort (value_in value) scalars.Text (opened value _ _ h)
sorts_agree Waveform ftvl value h = list_sort (value_in value) (scalar_by ftvl) (opened value _ _ h) ∙ element_is ftvl

pub brings : (kind : Kind) (ftvl : Element) (value first : Data) (o : Option Datum) (d : Datum) → fits_of 16 value (tree_of kind ftvl) ≡ true →
    first ≡ value_in value → o ≡ Some d → IfSome o (λ x. is_of (sort_in first) x ≡ true) → is_of (sort_of kind ftvl) d ≡ true
brings kind ftvl value first o d fits is some h =
    let k : is_of (sort_in first) d ≡ true = subst (λ (p : Option Datum). IfSome p (λ x. is_of (sort_in first) x ≡ true)) some h in
    sym (ap (λ s. is_of s d) (ap sort_in is ∙ sorts_agree kind ftvl value fits)) ∙ k

pub taken : (r : Option PutRefusal) (u : Unit {0}) → Ok u ≡ outcome_of r → r ≡ None
taken None u h = refl
taken (Some r) u h = absurd (cc)

pub refused : (r : Option PutRefusal) (x : PutRefusal) → Err x ≡ outcome_of r → r ≡ Some x
refused None x h = absurd (cc)
refused (Some r) x h = let e : x ≡ r = cc in ap Some (sym e)
