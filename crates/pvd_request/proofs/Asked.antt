-- What is asked of leaves with options.
use Rattle.std.proofs.Common.{◌≡◌, ◌∙◌, ℕ, true, ◌||◌, List, [], ◌∷◌, Result, Ok, Err, IsErrAnd, refl, sym, ap, subst}
use Rattle.std.specs.Ordering.{nat_cmp}
use Rattle.std.specs.Cmp.{nat_cmp_total}
use Rattle.std.specs.FinSet.{FinSet, contains, empty, from_list, contains-from_list, contains-empty}
use Rattle.std.specs.List.{list_any}
use Rattle.std.specs.Ordering.{eq_by_cmp}
use Rattle.std.proofs.lemmas.Bool.{false≢true, eq-eqb}
use Rattle.pvd_type.proofs.Sets.{by_cmp}
use Rattle.pvd_request.specs.Requests.{asked, Gives}
use Rattle.pvd_request.specs.declared.request.RequestFault.{RequestFault}
use Rattle.pvd_request.specs.declared.options.Options.{Options}
use Rattle.pvd_request.specs.declared.request.Request.{Request}
use Rattle.pvd_request.specs.declared.request.RequestFault.TheVariants.{NothingSelected, BadOption, NoMemory}

-- a set made of a list with a number isn't empty
pub some_number : (n : ℕ) (ns : List ℕ) → from_list (n ∷ ns) ≡ empty {R = nat_cmp} → ⊥
some_number n ns e =
    let here : eq_by_cmp nat_cmp n n ≡ true = by_cmp n n ∙ eq-eqb n n refl in
    let held : contains (from_list {R = nat_cmp} (n ∷ ns)) n ≡ true =
    contains-from_list nat_cmp_total (n ∷ ns) n ∙ ap (λ b. b || list_any (eq_by_cmp nat_cmp n) ns) here in
    false≢true (sym (contains-empty nat_cmp n) ∙ sym (ap (λ (s : FinSet nat_cmp). contains s n) e) ∙ held)

-- What is asked of leaves, whose set the mask is.
module _ (ns : List ℕ) (mask : FinSet nat_cmp) (is : mask ≡ from_list ns) (options : Result Options RequestFault) where
  pub nothing_selected : mask ≡ empty → asked ns options ≡ Err NothingSelected
  nothing_selected e = by ns (sym is ∙ e)
    where
      by : (ns : List ℕ) → from_list ns ≡ empty {R = nat_cmp} → asked ns options ≡ Err NothingSelected
      by [] e = refl
      by (n ∷ ns) e = absurd (some_number n ns e)

  module _ (some : mask ≡ empty → ⊥) where
    bad_is : (f : RequestFault) → options ≡ Err f → asked ns options ≡ Err f
    bad_is f e = ap (asked ns) e ∙ by ns (λ none. some (is ∙ none))
      where
        by : (ns : List ℕ) → (from_list ns ≡ empty {R = nat_cmp} → ⊥) → asked ns (Err f) ≡ Err f
        by [] some = absurd (some refl)
        by (n ∷ ns) some = refl

    pub bad_option : (f : RequestFault) → Gives (Err f) options → Gives (Err f) (asked ns options)
    bad_option NothingSelected h = bad_is NothingSelected h
    bad_option (BadOption name) h = bad_is (BadOption name) h
    bad_option NoMemory h = tt

    pub all_asked : (o : Options) → options ≡ Ok o → asked ns options ≡ Ok (record { mask = mask; atomic = o.atomic; queue = o.queue; pipeline = o.pipeline })
    all_asked o e =
        ap (asked ns) e ∙ by ns (λ none. some (is ∙ none))
        ∙ sym (ap (λ (m : FinSet nat_cmp). Ok (record { mask = m; atomic = o.atomic; queue = o.queue; pipeline = o.pipeline })) is)
      where
        by : (ns : List ℕ) → (from_list ns ≡ empty {R = nat_cmp} → ⊥) → asked ns (Ok o) ≡ Ok (record { mask = from_list ns; atomic = o.atomic; queue = o.queue; pipeline = o.pipeline })
        by [] some = absurd (some refl)
        by (n ∷ ns) some = refl

-- a fault that is handed on
pub handed_on : (result told : Result Request RequestFault) (f : RequestFault) → IsErrAnd result (λ e. e ≡ f) → Gives (Err f) told → Gives result told
handed_on (Ok r) told f is h = absurd is
handed_on (Err e) told f is h = subst (λ (x : RequestFault). Gives (Err x) told) (sym is) h
