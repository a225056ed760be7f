-- The greatest permission of the rules that match.
use Rattle.std.proofs.Common.{◌≡◌, ◌⊎◌, ◌≤◌, ◌<◌, ◌+◌, ℕ, zero, suc, Bool, true, false, cond, List, [], ◌∷◌, length, map, drop, get_or, Option, Some, refl, sym, ap, ◌∙◌, subst, arith, inl, inr}
use Rattle.std.specs.List.{filter, IsAmong}
use Rattle.acf_rules.specs.declared.access.Access.{Access}
use Rattle.acf_rules.specs.declared.access.Access.TheVariants.{Nothing, Read, Write}
use Rattle.acf_rules.specs.declared.rules.Rule.{Rule}
use Rattle.acf_rules.proofs.Maps.{from_place}
use Rattle.std.specs.Option.{unwrap_or}
use Rattle.std.proofs.lemmas.List.{drop_all}
use Rattle.acf_rules.specs.declared.rules.Rules.{Rules}
use Rattle.acf_rules.specs.Access.{Name, rank, greater, greatest, matches, guarding, rules_of, granted, IsGreatest}

-- the greater of two is as great as both, and is one of them
pub as_great : (a b : Access) → (rank a ≤ rank (greater a b)) × (rank b ≤ rank (greater a b)) × ((greater a b ≡ a) ⊎ (greater a b ≡ b))
as_great Nothing Nothing = (omega arith, omega arith, inl refl)
as_great Nothing Read = (omega arith, omega arith, inr refl)
as_great Nothing Write = (omega arith, omega arith, inr refl)
as_great Read Nothing = (omega arith, omega arith, inl refl)
as_great Read Read = (omega arith, omega arith, inl refl)
as_great Read Write = (omega arith, omega arith, inr refl)
as_great Write Nothing = (omega arith, omega arith, inl refl)
as_great Write Read = (omega arith, omega arith, inl refl)
as_great Write Write = (omega arith, omega arith, inl refl)

-- of three the order doesn't matter
pub regrouped : (a b c : Access) → greater (greater a b) c ≡ greater a (greater b c)
regrouped Nothing Nothing Nothing = refl
regrouped Nothing Nothing Read = refl
regrouped Nothing Nothing Write = refl
regrouped Nothing Read Nothing = refl
regrouped Nothing Read Read = refl
regrouped Nothing Read Write = refl
regrouped Nothing Write Nothing = refl
regrouped Nothing Write Read = refl
regrouped Nothing Write Write = refl
regrouped Read Nothing Nothing = refl
regrouped Read Nothing Read = refl
regrouped Read Nothing Write = refl
regrouped Read Read Nothing = refl
regrouped Read Read Read = refl
regrouped Read Read Write = refl
regrouped Read Write Nothing = refl
regrouped Read Write Read = refl
regrouped Read Write Write = refl
regrouped Write Nothing Nothing = refl
regrouped Write Nothing Read = refl
regrouped Write Nothing Write = refl
regrouped Write Read Nothing = refl
regrouped Write Read Read = refl
regrouped Write Read Write = refl
regrouped Write Write Nothing = refl
regrouped Write Write Read = refl
regrouped Write Write Write = refl

pub from_nothing : (a : Access) → greater Nothing a ≡ a
from_nothing Nothing = refl
from_nothing Read = refl
from_nothing Write = refl

pub alone : (a : Access) → greater a Nothing ≡ a
alone Nothing = refl
alone Read = refl
alone Write = refl

module _ (matches : Rule → Bool) where
  abbrev pub given : List Rule → Access
  given rules = greatest (map (λ r. r.access) (filter matches rules))

  -- none that matches grants more
  pub none_greater : (rules : List Rule) (r : Rule) → IsAmong rules r → matches r ≡ true → rank r.access ≤ rank (given rules)
  none_greater [] r (i, (inside, is)) m = absurd (omega (arith, inside))
  none_greater (x ∷ rules) r (zero, (inside, is)) m =
      let same : matches x ≡ true = ap matches (sym is) ∙ m in
      subst (λ (a : Access). rank a ≤ rank (given (x ∷ rules))) (ap (λ (s : Rule). s.access) (sym is)) (rw same ((as_great x.access (given rules)).0))
  none_greater (x ∷ rules) r (suc i, (inside, is)) m =
      let rest : rank r.access ≤ rank (given rules) = none_greater rules r (i, (omega (arith, inside), is)) m in
      go (matches x) rest
    where
      go : (b : Bool) → rank r.access ≤ rank (given rules) → rank r.access ≤ rank (greatest (map (λ r. r.access) (cond b (x ∷ filter matches rules) (filter matches rules))))
      go true rest = omega (arith, rest, (as_great x.access (given rules)).1)
      go false rest = rest

  -- one that matches grants this, or none grants anything
  abbrev pub Found : List Rule → Access → Type 0
  Found rules a = (a ≡ Nothing) ⊎ ((r : Rule) × IsAmong rules r × (matches r ≡ true) × (r.access ≡ a))

  further : (x : Rule) (rules : List Rule) (a : Access) → Found rules a → Found (x ∷ rules) a
  further x rules a (inl none) = inl none
  further x rules a (inr (r, (i, (inside, is)), m, same)) = inr (r, (suc i, (omega (arith, inside), is)), m, same)

  by_first : (x : Rule) (rules : List Rule) (a : Access) → matches x ≡ true → (greater x.access a ≡ x.access) ⊎ (greater x.access a ≡ a) → Found (x ∷ rules) a → Found (x ∷ rules) (greater x.access a)
  by_first x rules a m (inl e) rest = inr (x, (zero, (omega arith, refl)), m, sym e)
  by_first x rules a m (inr e) rest = subst (Found (x ∷ rules)) (sym e) rest

  pub one_grants : (rules : List Rule) → Found rules (given rules)
  one_grants [] = inl refl
  one_grants (x ∷ rules) = go (matches x) refl (further x rules (given rules) (one_grants rules))
    where
      go : (b : Bool) → matches x ≡ b → Found (x ∷ rules) (given rules) → Found (x ∷ rules) (greatest (map (λ r. r.access) (cond b (x ∷ filter matches rules) (filter matches rules))))
      go true m rest = by_first x rules (given rules) m ((as_great x.access (given rules)).2) rest
      go false m rest = rest

abbrev Bounds : (Rule → Bool) → List Rule → Access → Type 0
Bounds m rules a = ((r : Rule) → IsAmong rules r → m r ≡ true → rank r.access ≤ rank a) × Found m rules a

-- A rule that matches, or doesn't, is left behind.
module _ (matches : Rule → Bool) where
  pub rule_counts : (granted next : Access) (rules : List Rule) (i : ℕ) (r : Rule) (whole : Access) → i < length rules → r ≡ get_or rules i r → matches r ≡ true → next ≡ greater granted r.access
      → greater granted (given matches (drop i rules)) ≡ whole → greater next (given matches (drop (i + 1) rules)) ≡ whole
  rule_counts granted next rules i r whole inside is m more same =
      ap (λ (a : Access). greater a (given matches (drop (i + 1) rules))) more ∙ regrouped granted r.access (given matches (drop (i + 1) rules))
      ∙ ap (greater granted) (sym (ap (given matches) (from_place rules i r inside is) ∙ counted (drop (i + 1) rules))) ∙ same
    where
      counted : (rest : List Rule) → given matches (r ∷ rest) ≡ greater r.access (given matches rest)
      counted rest = ap (λ (b : Bool). greatest (map (λ r. r.access) (cond b (r ∷ filter matches rest) (filter matches rest)))) m

  pub rule_passed : (granted : Access) (rules : List Rule) (i : ℕ) (r : Rule) (whole : Access) → i < length rules → r ≡ get_or rules i r → matches r ≡ false
      → greater granted (given matches (drop i rules)) ≡ whole → greater granted (given matches (drop (i + 1) rules)) ≡ whole
  rule_passed granted rules i r whole inside is m same =
      ap (greater granted) (sym (ap (given matches) (from_place rules i r inside is) ∙ passed (drop (i + 1) rules))) ∙ same
    where
      passed : (rest : List Rule) → given matches (r ∷ rest) ≡ given matches rest
      passed rest = ap (λ (b : Bool). greatest (map (λ r. r.access) (cond b (r ∷ filter matches rest) (filter matches rest)))) m

  pub all_counted : (granted : Access) (rules : List Rule) (i : ℕ) (whole : Access) → length rules ≤ i → greater granted (given matches (drop i rules)) ≡ whole → granted ≡ whole
  all_counted granted rules i whole end same = sym (ap (λ (rest : List Rule). greater granted (given matches rest)) (drop_all i rules end) ∙ alone granted) ∙ same

bounded : (m : Rule → Bool) (list others : List Rule) (a : Access) → list ≡ others → a ≡ given m list → Bounds m others a
bounded m list others a same is = subst (λ (l : List Rule). Bounds m l a) same (subst (Bounds m list) (sym is) (none_greater m list, one_grants m list))

-- what the rules of a name grant is the greatest permission
pub is_greatest : (rules : Rules) (name : Name) (level : ℕ) (user host : Name) (list : List Rule) (a : Access) → Some list ≡ guarding rules name → a ≡ granted rules level user host list → IsGreatest rules name level user host a
is_greatest rules name level user host list a at is =
    bounded (matches rules level user host) list (rules_of rules name) a (ap (λ (o : Option (List Rule)). unwrap_or o []) at) is
