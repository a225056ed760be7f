-- After an entry the records that it doesn't hold are as before.
use Rattle.std.specs.Prelude.{◌≡◌, ◌≢◌, ◌==◌, ◌||◌, ◌&&◌, ℕ, zero, suc, Bool, true, false, List, [], ◌∷◌, ◌++◌, set, slice_get}
use Rattle.std.specs.List.{list_all, list_any}
use Rattle.std.proofs.Common.{refl, ◌∙◌, ap, suc-le-suc, zero-le}
use Rattle.std.proofs.lemmas.Bool.{eqb-true, false≢true}
use Rattle.std.proofs.lemmas.List.Sums.{fold-append}
use Rattle.hall_core.specs.Meanings.{Among}
use Rattle.rec_kinds.specs.declared.state.RecState.{RecState}
use Rattle.journal_core.specs.Histories.{replayed, written}
use Rattle.journal_core.specs.Legality.{MayFollow}
use Rattle.journal_core.specs.declared.entry.Entry.{Entry}
use Rattle.desk_api.specs.declared.history.Base.{Base}

-- a number that is found in a list is among its numbers
among_any : (xs : List ℕ) (c : ℕ) → list_any (λ (rec : ℕ). rec == c) xs ≡ true → Among c xs
among_any [] c is = absurd (false≢true is)
among_any (x ∷ xs) c is = first (x == c) refl (λ found. among_any xs c found) is where
  first : (b : Bool) → (x == c) ≡ b → (list_any (λ (rec : ℕ). rec == c) xs ≡ true → Among c xs)
      → (b || list_any (λ (rec : ℕ). rec == c) xs) ≡ true → Among c (x ∷ xs)
  first true same later found = (0, suc-le-suc zero-le, eqb-true x c same)
  first false same later found =
      let more = later found in
      (suc more.0, suc-le-suc more.1, more.2)

set_elsewhere : (states : List RecState) (n rec : ℕ) (s : RecState) → n ≢ rec
    → slice_get (set states n s) rec ≡ slice_get states rec
set_elsewhere [] n rec s apart = refl
set_elsewhere (x ∷ xs) zero zero s apart = absurd (apart refl)
set_elsewhere (x ∷ xs) zero (suc rec) s apart = refl
set_elsewhere (x ∷ xs) (suc n) zero s apart = refl
set_elsewhere (x ∷ xs) (suc n) (suc rec) s apart = set_elsewhere xs n rec s (λ e. apart (ap suc e))

both_first : (a b : Bool) → (a && b) ≡ true → a ≡ true
both_first true b is = refl
both_first false b is = is

both_second : (a b : Bool) → (a && b) ≡ true → b ≡ true
both_second true b is = is
both_second false b is = absurd (false≢true is)

-- writes of records of the footprint leave a record outside it
written_elsewhere : (states : List RecState) (writes : List (ℕ × RecState)) (footprint : List ℕ) (rec : ℕ)
    → list_all (λ (write : ℕ × RecState). list_any (λ (r : ℕ). r == write.0) footprint) writes ≡ true
    → ¬ (Among rec footprint) → slice_get (written states writes) rec ≡ slice_get states rec
written_elsewhere states [] footprint rec inside out = refl
written_elsewhere states (w ∷ writes) footprint rec inside out =
    let here = list_any (λ (r : ℕ). r == w.0) footprint in
    let rest = list_all (λ (write : ℕ × RecState). list_any (λ (r : ℕ). r == write.0) footprint) writes in
    written_elsewhere (set states w.0 w.1) writes footprint rec (both_second here rest inside) out
    ∙ set_elsewhere states w.0 rec w.1 (λ e. out (among_as e (among_any footprint w.0 (both_first here rest inside))))
  where
    among_as : {n : ℕ} → n ≡ rec → Among n footprint → Among rec footprint
    among_as e among = (among.0, among.1, among.2 ∙ e)

pub untouched : (base : Base) (entries : List Entry) (entry : Entry)
    → MayFollow base.site.configs base.site.opening entries entry → (rec : ℕ) → ¬ (Among rec entry.footprint)
    → slice_get (replayed base.site.opening (entries ++ entry ∷ [])) rec ≡ slice_get (replayed base.site.opening entries) rec
untouched base entries entry legal rec out =
    ap (λ (s : List RecState). slice_get s rec)
    (fold-append (λ (s : List RecState) (e : Entry). written s e.writes) base.site.opening entries (entry ∷ []))
    ∙ written_elsewhere (replayed base.site.opening entries) entry.writes entry.footprint rec legal.inside out
