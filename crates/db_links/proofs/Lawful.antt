-- Every chain stays within what its roots reach, and does each other record once.
use Rattle.std.proofs.Common.{◌≡◌, ℕ, ◌+◌, ◌≤◌, Bool, true, false, cond, ◌||◌, eqb, Option, None, Some, IfSome, List, [], ◌∷◌, ◌++◌, refl, sym, ap, ◌∙◌, subst, arith, inl, inr, ◌⊎◌}
use Rattle.std.specs.Prelude.{⊤}
use Rattle.std.proofs.lemmas.Bool.{true≢false}
use Rattle.std.specs.List.{slice_get}
use Rattle.std.specs.Option.{option_and_then, option_map}
use Rattle.rec_kinds.specs.declared.datum.Action.{Action}
use Rattle.rec_kinds.specs.declared.datum.Action.TheVariants.{Put, Process}
use Rattle.rec_kinds.specs.declared.datum.Datum.{Datum}
use Rattle.db_links.specs.Live.{names, any_names, leads}
use Rattle.db_links.specs.Reaching.{Reached, itself, further, is_among}
use Rattle.db_links.specs.Chains.{Site, Scene, Step, Due, nothing, alone, whole, Does, nothing_due, one_step, in_order, DoesAll, all_done, one_more, roots, marked, stepped, open_link, pp_target, link_at, source_of, fetched, moved, written_of, forward_of, processing, writing}
use Rattle.db_links.specs.Laws.{times, ReachedByRoot, StepsAreReached, OthersOnce}
use Rattle.db_links.specs.declared.link.Link.{Link}
use Rattle.db_links.specs.declared.link.RecordLinks.{RecordLinks}
use Rattle.db_links.proofs.Walking.{split_or, left_or, right_or, same_is, equal}
use Rattle.db_links.proofs.Sound.{none_some, opened}

-- ---- what a link asks for is on a record that it names and that isn't marked done

abbrev IsDue : Site → ℕ → Scene → ℕ → Type 0
IsDue site rec s q = (leads site.links rec q ≡ true) × (s.done q ≡ false)

led : (which : RecordLinks → Option Link) (o : Option RecordLinks) (l : Link) → ((r : RecordLinks) → names (which r) l.target ≡ true → any_names (Some r) l.target ≡ true)
    → option_and_then which o ≡ Some l → any_names o l.target ≡ true
led which None l part e = absurd (none_some e)
led which (Some r) l part e = part r (ap (λ o. names o l.target) e ∙ same_is l.target)

due_of : (which : RecordLinks → Option Link) (site : Site) (rec : ℕ) (s : Scene) (l : Link) → ((r : RecordLinks) → names (which r) l.target ≡ true → any_names (Some r) l.target ≡ true)
    → option_and_then (open_link s) (link_at which site rec) ≡ Some l → IsDue site rec s l.target
due_of which site rec s l part e =
    let is = opened s (link_at which site rec) l e in (led which (slice_get site.links rec) l part is.0, is.1)

inp_part : (l : Link) (r : RecordLinks) → names r.inp l.target ≡ true → any_names (Some r) l.target ≡ true
inp_part l r h = left_or (names r.inp l.target || names r.out l.target) (names r.flnk l.target) (left_or (names r.inp l.target) (names r.out l.target) h)

out_part : (l : Link) (r : RecordLinks) → names r.out l.target ≡ true → any_names (Some r) l.target ≡ true
out_part l r h = left_or (names r.inp l.target || names r.out l.target) (names r.flnk l.target) (right_or (names r.inp l.target) (names r.out l.target) h)

flnk_part : (l : Link) (r : RecordLinks) → names r.flnk l.target ≡ true → any_names (Some r) l.target ≡ true
flnk_part l r h = right_or (names r.inp l.target || names r.out l.target) (names r.flnk l.target) h

source_due : (site : Site) (rec : ℕ) (action : Action) (s : Scene) → IfSome (source_of site rec action s) (IsDue site rec s)
source_due site rec (Put d) s = tt
source_due site rec Process s = go (option_and_then (open_link s) (link_at (λ l. l.inp) site rec)) refl
  where
    pp : (b : Bool) (l : Link) → IsDue site rec s l.target → IfSome (cond b (Some l.target) None) (IsDue site rec s)
    pp true l h = h
    pp false l h = tt

    go : (o : Option Link) → option_and_then (open_link s) (link_at (λ l. l.inp) site rec) ≡ o → IfSome (option_and_then pp_target o) (IsDue site rec s)
    go None e = tt
    go (Some l) e = pp l.processes l (due_of (λ r. r.inp) site rec s l (inp_part l) e)

forward_due : (site : Site) (rec : ℕ) (s : Scene) → IfSome (forward_of site rec s) (IsDue site rec s)
forward_due site rec s = go (option_and_then (open_link s) (link_at (λ l. l.flnk) site rec)) refl
  where
    go : (o : Option Link) → option_and_then (open_link s) (link_at (λ l. l.flnk) site rec) ≡ o → IfSome (option_map (λ link. link.target) o) (IsDue site rec s)
    go None e = tt
    go (Some l) e = due_of (λ r. r.flnk) site rec s l (flnk_part l) e

abbrev pair : Link → Datum → Link × Datum
pair l d = (l, d)

written_due : (site : Site) (rec : ℕ) (s : Scene) → IfSome (written_of site rec s) (λ w. IsDue site rec s w.0.target)
written_due site rec s = go (option_and_then (open_link s) (link_at (λ l. l.out) site rec)) refl
  where
    put : (l : Link) → IsDue site rec s l.target → (d : Option Datum) → IfSome (option_map (pair l) d) (λ w. IsDue site rec s w.0.target)
    put l h None = tt
    put l h (Some d) = h

    go : (o : Option Link) → option_and_then (open_link s) (link_at (λ l. l.out) site rec) ≡ o
        → IfSome (option_and_then (λ link. option_map (pair link) (moved site s rec link.target)) o) (λ w. IsDue site rec s w.0.target)
    go None e = tt
    go (Some l) e = put l (due_of (λ r. r.out) site rec s l (out_part l) e) (moved site s rec l.target)

-- P holds of the record of what is due
abbrev Of : (ℕ → Type 0) → Due → Type 0
Of P nothing = ⊤
Of P (alone rec action) = P rec
Of P (whole rec action) = P rec

of_processing : (P Q : ℕ → Type 0) (o : Option ℕ) → IfSome o P → ((q : ℕ) → P q → Q q) → Of Q (processing o)
of_processing P Q None h f = tt
of_processing P Q (Some q) h f = f q h

of_writing : (P Q : ℕ → Type 0) (o : Option (Link × Datum)) → IfSome o (λ w. P w.0.target) → ((q : ℕ) → P q → Q q) → Of Q (writing o)
of_writing P Q None h f = tt
of_writing P Q (Some w) h f = go w.0.processes
  where
    go : (b : Bool) → Of Q (cond b (whole w.0.target (Put w.1)) (alone w.0.target (Put w.1)))
    go true = f w.0.target h
    go false = f w.0.target h

-- ---- steps are reached

abbrev is_step : ℕ → List Step → Bool
is_step q steps = is_among q (roots steps)

step_append : (q : ℕ) (xs ys : List Step) → is_step q (xs ++ ys) ≡ true → (is_step q xs ≡ true) ⊎ (is_step q ys ≡ true)
step_append q [] ys e = inr e
step_append q (x ∷ xs) ys e = elim (split_or (eqb q x.0) (is_step q (xs ++ ys)) e) [
  | inl h ↦ inl (left_or (eqb q x.0) (is_step q xs) h)
  | inr h ↦ elim (step_append q xs ys h) [ inl k ↦ inl (right_or (eqb q x.0) (is_step q xs) k) | inr k ↦ inr k ]
]

does_reached : (site : Site) (root q : ℕ) (due : Due) (s : Scene) (xs : List Step) (e : Scene) → Does site due s xs e → Of (Reached site.links root) due → is_step q xs ≡ true → Reached site.links root q
does_reached site root q nothing s _ _ nothing_due h is = absurd (true≢false (sym is))
does_reached site root q (alone rec action) s _ _ one_step h is = elim (split_or (eqb q rec) false is) [
  | inl k ↦ subst (Reached site.links root) (sym (equal q rec k)) h
  | inr k ↦ absurd (true≢false (sym k))
]
does_reached site root q (whole rec action) s _ e (in_order {fed = fed} {out = out} {first = first} {next = next} {last = last} feeds writes forwards) h is =
    elim (step_append q first ((rec, fetched site rec action fed) ∷ (next ++ last)) is) [
      | inl k ↦ does_reached site root q _ _ first fed feeds (of_processing (IsDue site rec (marked rec s)) (Reached site.links root) (source_of site rec action (marked rec s)) (source_due site rec action (marked rec s)) onward) k
      | inr k ↦ elim (split_or (eqb q rec) (is_step q (next ++ last)) k) [
        | inl j ↦ subst (Reached site.links root) (sym (equal q rec j)) h
        | inr j ↦ elim (step_append q next last j) [
          | inl i ↦ does_reached site root q _ _ next out writes (of_writing (IsDue site rec (stepped site rec (fetched site rec action fed) fed)) (Reached site.links root) (written_of site rec (stepped site rec (fetched site rec action fed) fed)) (written_due site rec (stepped site rec (fetched site rec action fed) fed)) (λ t d. further rec t h d.0)) i
          | inr i ↦ does_reached site root q _ _ last e forwards (of_processing (IsDue site rec out) (Reached site.links root) (forward_of site rec out) (forward_due site rec out) (λ t d. further rec t h d.0)) i
        ]
      ]
    ]
  where
    onward : (t : ℕ) → IsDue site rec (marked rec s) t → Reached site.links root t
    onward t d = further rec t h d.0

widened : (site : Site) (step : Step) (actions : List Step) (q : ℕ) → ReachedByRoot site actions q → ReachedByRoot site (step ∷ actions) q
widened site step actions q r = record { root = r.root; is_root = right_or (eqb r.root step.0) (is_among r.root (roots actions)) r.is_root; reaches = r.reaches }

all_reached : (site : Site) (q : ℕ) (actions : List Step) (s : Scene) (xs : List Step) (e : Scene) → DoesAll site actions s xs e → is_step q xs ≡ true → ReachedByRoot site actions q
all_reached site q [] s _ _ all_done is = absurd (true≢false (sym is))
all_reached site q ((rec, action) ∷ actions) s _ e (one_more {next = next} {first = first} {others = others} does more) is =
    elim (step_append q first others is) [
      | inl k ↦ record { root = rec; is_root = left_or (eqb rec rec) (is_among rec (roots actions)) (same_is rec); reaches = does_reached site rec q (whole rec action) s first next does itself k }
      | inr k ↦ widened site (rec, action) actions q (all_reached site q actions next others e more k)
    ]

pub steps_reached : StepsAreReached
steps_reached site states actions steps chain q is = all_reached site q actions _ steps chain.end chain.does is

-- ---- each other record once

abbrev mark : Bool → ℕ
mark b = cond b 1 0

abbrev Fresh : ℕ → Scene → ℕ → Type 0
Fresh q s rec = eqb q rec ≡ true → s.done q ≡ false

fresh_of : (site : Site) (rec q : ℕ) (s : Scene) (t : ℕ) → IsDue site rec s t → Fresh q s t
fresh_of site rec q s t due is = ap s.done (equal q t is) ∙ due.1

times_append : (q : ℕ) (xs ys : List Step) → times q (xs ++ ys) ≡ times q xs + times q ys
times_append q [] ys = omega arith
times_append q (x ∷ xs) ys = go (eqb q x.0) (times_append q xs ys)
  where
    go : (b : Bool) → times q (xs ++ ys) ≡ times q xs + times q ys → cond b (times q (xs ++ ys) + 1) (times q (xs ++ ys)) ≡ cond b (times q xs + 1) (times q xs) + times q ys
    go true rest = omega (arith, rest)
    go false rest = rest

one_if : (b d : Bool) → (b ≡ true → d ≡ false) → cond b (0 + 1) 0 + mark d ≤ mark (b || d)
one_if true true f = absurd (true≢false (f refl))
one_if true false f = omega arith
one_if false true f = omega arith
one_if false false f = omega arith

summed : (b d : Bool) (x y z fed out end : ℕ) → (b ≡ true → d ≡ false) → x + mark (b || d) ≤ fed → y + fed ≤ out → z + out ≤ end → x + cond b ((y + z) + 1) (y + z) + mark d ≤ end
summed true true x y z fed out end f p q r = absurd (true≢false (f refl))
summed true false x y z fed out end f p q r = omega arith
summed false true x y z fed out end f p q r = omega arith
summed false false x y z fed out end f p q r = omega arith

does_once : (site : Site) (q : ℕ) (due : Due) (s : Scene) (xs : List Step) (e : Scene) → Does site due s xs e → Of (Fresh q s) due → times q xs + mark (s.done q) ≤ mark (e.done q)
does_once site q nothing s _ _ nothing_due h = omega arith
does_once site q (alone rec action) s _ _ one_step h = one_if (eqb q rec) (s.done q) h
does_once site q (whole rec action) s _ e (in_order {fed = fed} {out = out} {first = first} {next = next} {last = last} feeds writes forwards) h =
    let act = fetched site rec action fed in
    let now = stepped site rec act fed in
    let a = does_once site q _ _ first fed feeds (of_processing (IsDue site rec (marked rec s)) (Fresh q (marked rec s)) (source_of site rec action (marked rec s)) (source_due site rec action (marked rec s)) (fresh_of site rec q (marked rec s))) in
    let b = does_once site q _ _ next out writes (of_writing (IsDue site rec now) (Fresh q now) (written_of site rec now) (written_due site rec now) (fresh_of site rec q now)) in
    let c = does_once site q _ _ last e forwards (of_processing (IsDue site rec out) (Fresh q out) (forward_of site rec out) (forward_due site rec out) (fresh_of site rec q out)) in
    let all = times_append q first ((rec, act) ∷ (next ++ last)) ∙ ap (λ n. times q first + cond (eqb q rec) (n + 1) n) (times_append q next last) in
    let total = summed (eqb q rec) (s.done q) (times q first) (times q next) (times q last) (mark (fed.done q)) (mark (out.done q)) (mark (e.done q)) h a b c in
    subst (λ (n : ℕ). n + mark (s.done q) ≤ mark (e.done q)) (sym all) total

all_once : (site : Site) (q : ℕ) (actions : List Step) (s : Scene) (xs : List Step) (e : Scene) → DoesAll site actions s xs e → is_among q (roots actions) ≡ false → times q xs + mark (s.done q) ≤ mark (e.done q)
all_once site q [] s _ _ all_done other = omega arith
all_once site q ((rec, action) ∷ actions) s _ e (one_more {next = next} {first = first} {others = others} does more) other =
    let parts = neither (eqb q rec) (is_among q (roots actions)) other in
    let a = does_once site q (whole rec action) s first next does (λ is. absurd (true≢false (sym is ∙ parts.0))) in
    let b = all_once site q actions next others e more parts.1 in
    let sum = times_append q first others in
    omega (arith, a, b, sum)
  where
    neither : (x y : Bool) → (x || y) ≡ false → (x ≡ false) × (y ≡ false)
    neither true y h = absurd (true≢false h)
    neither false y h = (refl, h)

most_one : (b : Bool) → mark b ≤ 1
most_one true = omega arith
most_one false = omega arith

pub others_once : OthersOnce
others_once site states actions steps chain q other =
    let most = all_once site q actions _ steps chain.end chain.does other in
    let one = most_one (chain.end.done q) in
    omega (arith, most, one)
