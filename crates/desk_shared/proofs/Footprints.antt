-- The records that an entry holds.
use Rattle.std.proofs.Common.{◌≡◌, ◌==◌, ◌||◌, ℕ, ◌+◌, ◌<◌, ◌≤◌, zero, suc, Bool, true, false, List, [], ◌∷◌, length, refl, sym, ◌∙◌, ap, arith}
use Rattle.std.specs.List.{filter, list_any, range_with_len, AllByRecursion}
use Rattle.std.proofs.lemmas.Bool.{eq-eqb, eqb-true, false≢true}
use Rattle.std.specs.Prelude.{if◌then◌else◌}
use Rattle.rec_kinds.specs.declared.datum.Action.{Action}
use Rattle.group_view.specs.Leaves.{footprint}
use Rattle.desk_api.specs.Grouping.{is_among}
use Rattle.desk_api.specs.Puts.{footprint_with, is_held, is_held_with}
use Rattle.desk_api.specs.Sites.{AreOver}
use Rattle.desk_api.specs.declared.history.SiteData.{SiteData}
use Rattle.desk_api.proofs.Noting.{one_of_all, some_place}
use Rattle.desk_api.proofs.Reaching.{footprint_below}
use Rattle.desk_api.proofs.Showing.{over_at}
use Rattle.desk_shared.proofs.Listed.{among}

-- ---- numbers of a range that pass

here_or : (a b : Bool) → a ≡ true → (a || b) ≡ true
here_or true b is = refl
here_or false b is = absurd (false≢true is)

later_or : (a b : Bool) → b ≡ true → (a || b) ≡ true
later_or true b is = refl
later_or false b is = is

within_cons : (P : ℕ → Type 0) (passes : ℕ → Bool) (a : ℕ) (ns : List ℕ) (b : Bool) → passes a ≡ b → P a → AllByRecursion P (filter passes ns) → AllByRecursion P (if b then a ∷ filter passes ns else filter passes ns)
within_cons P passes a ns true is one rest = (one, rest)
within_cons P passes a ns false is one rest = rest

pub within_range : (passes : ℕ → Bool) (n a count : ℕ) → a + n ≤ count → AllByRecursion (λ (rec : ℕ). rec < count) (filter passes (range_with_len a n))
within_range passes zero a count le = tt
within_range passes (suc n) a count le =
    within_cons (λ (rec : ℕ). rec < count) passes a (range_with_len (a + 1) n) (passes a) refl (omega (arith, le)) (within_range passes n (a + 1) count (omega (arith, le)))

among_cons : (passes : ℕ → Bool) (a k : ℕ) (ns : List ℕ) (b : Bool) → passes a ≡ b → (k ≡ a → passes a ≡ true) → ((k ≡ a → ⊥) → among (filter passes ns) k ≡ true) → among (if b then a ∷ filter passes ns else filter passes ns) k ≡ true
among_cons passes a k ns true is here later = by (a == k) refl where
  by : (e : Bool) → (a == k) ≡ e → (e || among (filter passes ns) k) ≡ true
  by true same = refl
  by false apart = later (λ s. false≢true (sym apart ∙ eq-eqb a k (sym s)))
among_cons passes a k ns false is here later = later (λ s. false≢true (sym is ∙ here s))

pub among_range : (passes : ℕ → Bool) (n a k : ℕ) → a ≤ k → k < a + n → passes k ≡ true → among (filter passes (range_with_len a n)) k ≡ true
among_range passes zero a k low high is = absurd (omega (arith, low, high))
among_range passes (suc n) a k low high is =
    among_cons passes a k (range_with_len (a + 1) n) (passes a) refl (λ s. ap passes (sym s) ∙ is)
    (λ ne. among_range passes n (a + 1) k (omega (arith, low, ne)) (omega (arith, high)) is)

-- ---- what is held is a record of the site

held_here : (site : SiteData) (rec written : ℕ) (own read : Bool) → (rec == written) ≡ own → list_any (λ g. is_among (footprint g written) rec) site.groups ≡ read → AreOver site → written < length site.configs
    → (own || read) ≡ true → rec < length site.configs
held_here site rec written true read is reads over less held = let same : rec ≡ written = eqb-true rec written is in omega (arith, less, same)
held_here site rec written false read is reads over less held =
    let found = some_place (λ g. is_among (footprint g written) rec) site.groups (reads ∙ held) in
    footprint_below site.configs found.1 written rec (over_at site.configs site.groups found.0 found.1 over found.2) found.3

held_within : (site : SiteData) (actions : List (ℕ × Action)) (rec : ℕ) → AreOver site → AllByRecursion (λ (a : ℕ × Action). a.0 < length site.configs) actions → is_held site actions rec ≡ true → rec < length site.configs
held_within site [] rec over within held = absurd (false≢true held)
held_within site (a ∷ actions) rec over within held = first_or_later (is_held_with site rec a.0) refl (λ e. held_within site actions rec over within.1 e) held where
  first_or_later : (b : Bool) → is_held_with site rec a.0 ≡ b → (is_held site actions rec ≡ true → rec < length site.configs) → (b || is_held site actions rec) ≡ true → rec < length site.configs
  first_or_later true is later e = held_here site rec a.0 (rec == a.0) (list_any (λ g. is_among (footprint g a.0) rec) site.groups) refl refl over within.0 is
  first_or_later false is later e = later e

-- the footprint has what is held, what is looked at, and nothing but records of the site
module _ (site : SiteData) (actions : List (ℕ × Action)) (looked : List ℕ) (over : AreOver site) (within : AllByRecursion (λ (a : ℕ × Action). a.0 < length site.configs) actions) (below : AllByRecursion (λ (rec : ℕ). rec < length site.configs) looked) where
  abbrev recs : List ℕ
  recs = footprint_with site actions looked

  abbrev passes : ℕ → Bool
  passes rec = is_held site actions rec || among looked rec

  pub footprint_within : AllByRecursion (λ (rec : ℕ). rec < length site.configs) recs
  footprint_within = within_range passes (length site.configs) 0 (length site.configs) (omega arith)

  pub held_there : (k : ℕ) → is_held site actions k ≡ true → among recs k ≡ true
  held_there k is = among_range passes (length site.configs) 0 k (omega arith) (omega (arith, held_within site actions k over within is)) (here_or (is_held site actions k) (among looked k) is)

  pub looked_there : (k : ℕ) → among looked k ≡ true → among recs k ≡ true
  looked_there k is = among_range passes (length site.configs) 0 k (omega arith) (omega (arith, one_of_all (λ (rec : ℕ). rec < length site.configs) looked k below is)) (later_or (is_held site actions k) (among looked k) is)
