-- Seats are cut and joined.
use Rattle.std.proofs.Common.{◌≡◌, ◌≢◌, ℕ, suc, ◌+◌, ◌<◌, ◌≤◌, eqb, Bool, true, false, nat_le, List, [], ◌∷◌, ◌++◌, length, set, sym, refl, ap, ◌∙◌, subst, ⊎_elim, arith, length-set, length-append, eq-eqb, ne_eqb, Some, None}
use prog.Atomic.{either}
use mathlib.Core.Logic.{dite}
use mathlib.Core.Option.{none, some, some-injective}
use native.Mathlib.Decide.{ℕ_discrete, dec_lt}
use lib.ListN.{get_elem?}
use lib.Seq.{set-get_or}
use Rattle.std.proofs.lemmas.Bool.Decides.{nat_tests}
use Rattle.std.proofs.lemmas.List.{append-nil}
use Rattle.atomic_table.specs.Table.{State, Me, step, keeps, Allows, Splits, Joins}
use Rattle.atomic_table.proofs.Lists.{set_again, set_here, set_else, at_longer}
use Rattle.histories.specs.declared.story.Story.{Story}
use Rattle.histories.specs.declared.story.Deed.{Deed}
use Rattle.hall_core.specs.Meanings.{Meaning, Adds, Among, AreDistinct, Pairs}
use Rattle.histories.specs.History.{Begins, Every, deeds_by}
use Rattle.hall_locks.specs.declared.view.View.{View}
use Rattle.hall_locks.specs.declared.view.Place.{Place}
use Rattle.hall_locks.specs.Hall.{new_view, note_view, spent_view, hearing, merging, longer, longer_if, InHand, Fits, HadAll, HasLog, HasSeen, Ruled, numbers_of}
use Rattle.hall_locks.specs.Hall as hall
use Rattle.hall_locks.specs.Hands.{Rests}
use Rattle.hall_locks.specs.Steps.{Knows, Compares}
use Rattle.hall_locks.specs.Steps as steps
use Rattle.histories.proofs.Judged.{every_weaken}
use Rattle.histories.proofs.Prefixes.{prefix_whole}
use Rattle.hall_locks.proofs.Lists.{every_append, at_end, held_by, held_here, held_else, not_none, numbers_append, among_left, among_right, all_among, distinct_append}
use Rattle.hall_locks.proofs.Rules.{Rule, seats, refit, within, seen_on, unmoved, same_in_hand, nothing_in_hand}
use Rattle.histories.proofs.Stories.{begins_self, begins_shorter, deeds_by_append}

no_length : {D : Type 0} (xs : List D) → length xs ≡ 0 → xs ≡ []
no_length [] e = refl
no_length (x ∷ xs) e = absurd (omega (arith, e))

longer_begins_if : {B E R : Type 0} (b : Bool) (h k j : Story B E R) → Begins h j → Begins k j → Begins (longer_if b h k) j
longer_begins_if true h k j x y = y
longer_begins_if false h k j x y = x

pub longer_begins : {B E R : Type 0} (h k j : Story B E R) → Begins h j → Begins k j → Begins (longer h k) j
longer_begins h k j x y = longer_begins_if (nat_le (length h.deeds) (length k.deeds)) h k j x y

longer_has_if : {B E R : Type 0} (h k j : Story B E R) → Begins h j → Begins k j → (b : Bool) → nat_le (length h.deeds) (length k.deeds) ≡ b → Begins h (longer_if b h k) × Begins k (longer_if b h k)
longer_has_if h k j x y true e = let le : length h.deeds ≤ length k.deeds = grind (arith, nat_tests) in (begins_shorter h k j x y le, begins_self k)
longer_has_if h k j x y false e = let le : length k.deeds ≤ length h.deeds = grind (arith, nat_tests) in (begins_self h, begins_shorter k h j y x le)

-- of two beginnings of one history the longer has both
pub longer_has : {B E R : Type 0} (h k j : Story B E R) → Begins h j → Begins k j → Begins h (longer h k) × Begins k (longer h k)
longer_has h k j x y = longer_has_if h k j x y (nat_le (length h.deeds) (length k.deeds)) refl

-- a history that begins another, and is no shorter, is that one
whole_begins : {B E R : Type 0} (h k : Story B E R) → Begins h k → length k.deeds ≤ length h.deeds → h ≡ k
whole_begins h k x le = let deeds : h.deeds ≡ k.deeds = prefix_whole h.deeds k.deeds x.deeds le in λ i. record { base = sym x.base i; deeds = deeds i }

longer_left_if : {B E R : Type 0} (h k j : Story B E R) (b : Bool) → nat_le (length h.deeds) (length k.deeds) ≡ b → h ≡ j → Begins k j → longer_if b h k ≡ j
longer_left_if {B} {E} {R} h k j true e is x = let le : length h.deeds ≤ length k.deeds = grind (arith, nat_tests) in whole_begins k j x (subst (λ (z : Story B E R). length z.deeds ≤ length k.deeds) is le)
longer_left_if h k j false e is x = is

longer_left : {B E R : Type 0} (h k j : Story B E R) → h ≡ j → Begins k j → longer h k ≡ j
longer_left h k j is x = longer_left_if h k j (nat_le (length h.deeds) (length k.deeds)) refl is x

longer_right_if : {B E R : Type 0} (h k j : Story B E R) (b : Bool) → nat_le (length h.deeds) (length k.deeds) ≡ b → Begins h j → k ≡ j → longer_if b h k ≡ j
longer_right_if h k j true e x is = is
longer_right_if {B} {E} {R} h k j false e x is = let le : length k.deeds ≤ length h.deeds = grind (arith, nat_tests) in whole_begins h j x (subst (λ (z : Story B E R). length z.deeds ≤ length h.deeds) is le)

longer_right : {B E R : Type 0} (h k j : Story B E R) → Begins h j → k ≡ j → longer h k ≡ j
longer_right h k j x is = longer_right_if h k j (nat_le (length h.deeds) (length k.deeds)) refl x is

-- what the seat did stands in each history between
between_did : {D : Type 0} (n : ℕ) (xs ys zs : List (ℕ × D)) → deeds_by n xs ≡ deeds_by n ((xs ++ ys) ++ zs) → deeds_by n (xs ++ ys) ≡ deeds_by n ((xs ++ ys) ++ zs)
between_did n xs ys zs e =
    let first = deeds_by_append n xs ys in
    let all = deeds_by_append n (xs ++ ys) zs in
    let many : length (deeds_by n xs) ≡ length (deeds_by n xs ++ deeds_by n ys) + length (deeds_by n zs) =
    ap length (e ∙ (all ∙ ap (λ l. l ++ deeds_by n zs) first)) ∙ length-append (deeds_by n xs ++ deeds_by n ys) (deeds_by n zs) in
    let none : deeds_by n zs ≡ [] = no_length (deeds_by n zs) (omega (arith, many, length-append (deeds_by n xs) (deeds_by n ys))) in
    sym (all ∙ (ap (λ l. deeds_by n (xs ++ ys) ++ l) none ∙ append-nil (deeds_by n (xs ++ ys))))

longer_did_if : {B E R : Type 0} (n : ℕ) (h k j : Story B E R) → Begins h j → Begins k j → deeds_by n h.deeds ≡ deeds_by n j.deeds → (b : Bool) → nat_le (length h.deeds) (length k.deeds) ≡ b → deeds_by n (longer_if b h k).deeds ≡ deeds_by n j.deeds
longer_did_if n h k j x y did false e = did
longer_did_if {B} {E} {R} n h k j x y did true e =
    let le : length h.deeds ≤ length k.deeds = grind (arith, nat_tests) in
    let z = (begins_shorter h k j x y le).deeds in
    let kd : k.deeds ≡ h.deeds ++ z.rest = z.whole in
    let jd : j.deeds ≡ (h.deeds ++ z.rest) ++ y.deeds.rest = y.deeds.whole ∙ ap (λ (l : List (ℕ × Deed E R)). l ++ y.deeds.rest) kd in
    ap (deeds_by n) kd ∙ (between_did n h.deeds z.rest y.deeds.rest (did ∙ ap (deeds_by n) jd) ∙ sym (ap (deeds_by n) jd))

-- of two histories of which one has all that a seat did, the longer has it
longer_did : {B E R : Type 0} (n : ℕ) (h k j : Story B E R) → Begins h j → Begins k j → deeds_by n h.deeds ≡ deeds_by n j.deeds → deeds_by n (longer h k).deeds ≡ deeds_by n j.deeds
longer_did n h k j x y did = longer_did_if n h k j x y did (nat_le (length h.deeds) (length k.deeds)) refl

none_paired : {M E R : Type 0} (adds : M → Adds R) (fits : M → E → Type 0) (ds : List (Deed E R)) → Pairs adds fits [] ds → ds ≡ []
none_paired adds fits [] p = refl
none_paired adds fits (d ∷ ds) p = absurd p

-- who did nothing in a history did nothing in what begins it
nothing_before : {B E R : Type 0} (n : ℕ) (h k : Story B E R) → Begins h k → deeds_by n k.deeds ≡ [] → deeds_by n h.deeds ≡ []
nothing_before n h k x none_did =
    let many : length (deeds_by n k.deeds) ≡ length (deeds_by n h.deeds) + length (deeds_by n x.deeds.rest) =
    ap length (ap (deeds_by n) x.deeds.whole ∙ deeds_by_append n h.deeds x.deeds.rest) ∙ length-append (deeds_by n h.deeds) (deeds_by n x.deeds.rest) in
    no_length (deeds_by n h.deeds) (omega (arith, many, ap length none_did))

module _ (C H E B M R S : Type 0) (law : Meaning C H E B M R S) (base : B) where
  abbrev Vw : Type 0
  Vw = View H E B M R S

  abbrev Pl : Type 0
  Pl = Place C H

  abbrev Rl : State Pl Vw → Type 0
  Rl = Rule C H E B M R S law base

  -- a number that some pass has or had is below the count of views
  seated : (s : State Pl Vw) (r : Rl s) (k seat : ℕ) → r.keeper k ≡ suc seat → k < length s.views
  seated s r k seat e = dite (dec_lt k (length s.views)) (λ l. l) (λ far. let z : 0 ≡ suc seat = sym (r.beyond k (omega (arith, far))) ∙ e in absurd (omega arith))

  keeper_of_others : (keeper : ℕ → ℕ) (logs : ℕ → List M) (ps : List (ℕ × List M)) (seat : ℕ) → Every (λ p. (p.1 ≡ logs p.0) × (keeper p.0 ≡ suc seat)) ps → Every (λ n. keeper n ≡ suc seat) (numbers_of ps)
  keeper_of_others keeper logs [] seat a = tt
  keeper_of_others keeper logs (p ∷ ps) seat a = (a.0.1, keeper_of_others keeper logs ps seat a.1)

  -- a note comes, which holds nothing and is no pass
  arrived : (s : State Pl Vw) (r : Rl s) (w : Vw) → Fits law r.journal r.holder r.keeper r.logs (length s.views) w → Rl record { words = s.words; homes = s.homes; views = s.views ++ w ∷ [] }
  arrived s r w mine = record {
    journal = r.journal;
    holder = r.holder;
    keeper = r.keeper;
    logs = r.logs;
    wide = r.wide;
    free = r.free;
    taken = r.taken;
    whose = λ k l z. let o = r.whose k l z in record { seat = o.seat; view = o.view; at = at_longer s.views (w ∷ []) o.seat o.view o.at; held = o.held; has = o.has };
    nowhere = r.nowhere;
    floor = r.floor;
    same_base = r.same_base;
    legal = r.legal;
    longest = let h = r.longest in record { seat = h.seat; view = h.view; at = at_longer s.views (w ∷ []) h.seat h.view h.at; tells = h.tells; whole = h.whole };
    each = λ j v e. ⊎_elim (λ at. r.each j v at)
        (λ (t : (j ≡ length s.views) × (w ≡ v)). subst (λ (z : ℕ × Vw). Fits law r.journal r.holder r.keeper r.logs z.0 z.1) (λ i. (sym t.0 i, t.1 i)) mine) (at_end s.views w v j e);
    kept = λ k seat e. let h = r.kept k seat e in record { view = h.view; at = at_longer s.views (w ∷ []) seat h.view h.at; live = h.live; has = h.has };
    unkept = r.unkept;
    beyond = λ k l. let n : length (s.views ++ w ∷ []) ≡ length s.views + 1 = length-append s.views (w ∷ []) in r.beyond k (omega arith);
    pairs = r.pairs;
    hub_home = r.hub_home;
    home = r.home;
    marks = r.marks;
  }

  -- what a pass knows, for a note
  abbrev noted : Vw → Vw
  noted v = note_view v.seen (v.number ∷ numbers_of v.others)

  -- a note of what was seen
  pub tells_note : (id : ℕ) (v : Vw) → v.live ≡ true → Splits Rl id v v (noted v)
  tells_note id v live s r at =
      let was = r.each id v at in
      let own = was.own live in
      subst (λ (vs : List Vw). Rl record { words = s.words; homes = s.homes; views = vs ++ noted v ∷ [] }) (sym (set_again s.views id v at))
      (arrived s r (noted v) record {
        seen = λ _. was.seen own.2;
        old = tt;
        own = λ e. absurd (cc e);
        did = λ e. absurd (cc e);
        had = λ _. tt;
        others = tt;
        distinct = (not_none (length s.views), tt);
        before = (
          seated s r v.number id (ap r.keeper own.0 ∙ own.3),
          every_weaken (λ n. r.keeper n ≡ suc id) (λ n. n < length s.views) (numbers_of v.others) (λ n e. seated s r n id e) (keeper_of_others r.keeper r.logs v.others id was.others),
        );
        unborn = λ _ _. r.beyond (length s.views) (omega arith);
        cells = tt;
        falls = tt;
        hub = λ x e. absurd (cc e);
        empty = λ _. (refl, refl);
      })

  -- a note becomes a pass, with the number of its place
  born : (s : State Pl Vw) (r : Rl s) (id : ℕ) (h : Story B E R) (ns : List ℕ) → get_elem? s.views id ≡ some (note_view h ns) → Rl record { words = s.words; homes = s.homes; views = set s.views id (new_view id h) }
  born s r id h ns at =
      let v : Vw = note_view h ns in
      let w : Vw = new_view id h in
      let was = r.each id v at in
      let fresh : r.keeper id ≡ 0 = was.unborn refl refl in
      let keeper' : ℕ → ℕ = held_by r.keeper id (suc id) in
      let inside : id < length s.views = within C H E B M R S law base s.views id v at in
      let none_did : deeds_by id r.journal.deeds ≡ [] = none_paired law.adds law.fits (deeds_by id r.journal.deeds) (subst (λ (l : List M). Pairs law.adds law.fits l (deeds_by id r.journal.deeds)) (r.unkept id fresh) (r.pairs id)) in
      record {
        journal = r.journal;
        holder = r.holder;
        keeper = keeper';
        logs = r.logs;
        wide = r.wide;
        free = r.free;
        taken = r.taken;
        whose = λ k l z. let o = r.whose k l z in dite (ℕ_discrete o.seat id)
            (λ e. let is : o.view ≡ v = some-injective o.view v (sym o.at ∙ (ap (get_elem? s.views) e ∙ at)) in
            absurd (nothing_in_hand C H E B M R S law base v refl refl k (subst (hall.InHandOf law k) is o.has)))
            (λ ne. record { seat = o.seat; view = o.view; at = set_else s.views id o.seat w ne ∙ o.at; held = o.held; has = o.has });
        nowhere = r.nowhere;
        floor = r.floor;
        same_base = r.same_base;
        legal = r.legal;
        longest = seen_on C H E B M R S law base s.views r.journal id v w at (λ t. refl) (λ t e. e) r.longest;
        each = seats C H E B M R S law base (Fits law r.journal r.holder keeper' r.logs) s.views id w
            record {
              seen = λ _. was.seen refl;
              old = tt;
              own = λ _. (refl, sym (r.unkept id fresh), refl, held_here r.keeper id (suc id) id refl);
              did = λ _. nothing_before id h r.journal (was.seen refl) none_did ∙ sym none_did;
              had = λ _. tt;
              others = tt;
              distinct = (not_none id, tt);
              before = tt;
              unborn = λ silent. absurd (cc silent);
              cells = tt;
              falls = tt;
              hub = λ x e. absurd (cc e);
              empty = λ _. (refl, refl);
            }
            (λ j u other e. refit C H E B M R S law base r.journal r.holder r.holder r.keeper keeper' r.logs j u (λ k is. is)
            (λ k is. held_else r.keeper id (suc id) k (λ same. let z : suc j ≡ 0 = sym is ∙ (ap r.keeper same ∙ fresh) in omega arith) ∙ is)
            (λ is. held_else r.keeper id (suc id) j other ∙ is) (r.each j u e));
        kept = λ k seat e. dite (ℕ_discrete k id)
            (λ is. let here : id ≡ seat = let z : suc id ≡ suc seat = sym (held_here r.keeper id (suc id) k is) ∙ e in omega arith in record {
              view = w;
              at = ap (get_elem? (set s.views id w)) (sym here) ∙ set_here s.views id w inside;
              live = refl;
              has = (0, omega arith, sym is);
            })
            (λ ne. let o = r.kept k seat (sym (held_else r.keeper id (suc id) k ne) ∙ e) in dite (ℕ_discrete seat id)
            (λ same. let is : o.view ≡ v = some-injective o.view v (sym o.at ∙ (ap (get_elem? s.views) same ∙ at)) in
            let f : false ≡ true = ap (λ (x : Vw). x.live) (sym is) ∙ o.live in absurd (cc f))
            (λ away. record { view = o.view; at = set_else s.views id seat w away ∙ o.at; live = o.live; has = o.has }));
        unkept = λ k e. dite (ℕ_discrete k id)
            (λ is. let z : suc id ≡ 0 = sym (held_here r.keeper id (suc id) k is) ∙ e in absurd (omega arith))
            (λ ne. r.unkept k (sym (held_else r.keeper id (suc id) k ne) ∙ e));
        beyond = λ k l. let far : length s.views ≤ k = subst (λ n. n ≤ k) (length-set s.views id w) l in held_else r.keeper id (suc id) k (λ e. omega arith) ∙ r.beyond k far;
        pairs = r.pairs;
        hub_home = r.hub_home;
        home = r.home;
        marks = r.marks;
      }

  enters_as : (slots id : ℕ) (h : Story B E R) (ns : List ℕ) (l : List (ℕ × Pl)) → Allows Rl slots id (note_view h ns, l) 0 (λ n. n) (steps.Enters (step slots 0 0 0 none) (note_view h ns, l))
  enters_as slots id h ns l s r long at small = (
    new_view id h,
    keeps,
    tt,
    subst (λ (ws : List ℕ). Rl record { words = ws; homes = s.homes; views = set s.views id (new_view id h) }) (sym (set-get_or s.words 0 0)) (born s r id h ns at),
    (id, refl, (r.each id (note_view h ns) at).before),
  )

  pub enters : (slots id : ℕ) (m : Me Pl Vw) (h : Story B E R) (ns : List ℕ) → m ≡ (note_view h ns, []) → Allows Rl slots id m 0 (λ n. n) (steps.Enters (step slots 0 0 0 none) m)
  enters slots id m h ns is = subst (λ (z : Me Pl Vw). Allows Rl slots id z 0 (λ n. n) (steps.Enters (step slots 0 0 0 none) z)) (sym is) (enters_as slots id h ns [])

  abbrev Gone : Vw
  Gone = spent_view law.some_base

  -- whoever had seen the whole journal, the longer of the two now has
  longest_after : (s : State Pl Vw) (r : Rl s) (id : ℕ) (v both o : Vw) (other : ℕ) → get_elem? s.views id ≡ some v → get_elem? (set s.views id both) other ≡ some o → ¬ (other ≡ id) → both.tells ≡ true → both.seen ≡ longer v.seen o.seen
      → Begins v.seen r.journal → Begins o.seen r.journal → HasSeen law (set (set s.views id both) other Gone) r.journal
  longest_after s r id v both o other at there apart tells seen a b =
      let h = r.longest in
      let vs : List Vw = set s.views id both in
      let inside : other < length vs = within C H E B M R S law base vs other o there in
      let here : get_elem? (set vs other Gone) id ≡ some both = set_else vs other id Gone (λ x. apart (sym x)) ∙ set_here s.views id both (within C H E B M R S law base s.views id v at) in
      dite (ℕ_discrete h.seat id)
      (λ e. let is : h.view ≡ v = some-injective h.view v (sym h.at ∙ (ap (get_elem? s.views) e ∙ at)) in
      record { seat = id; view = both; at = here; tells = tells; whole = seen ∙ longer_left v.seen o.seen r.journal (ap (λ (x : Vw). x.seen) (sym is) ∙ h.whole) b })
      (λ ne. dite (ℕ_discrete h.seat other)
      (λ e. let is : h.view ≡ o = some-injective h.view o (sym h.at ∙ (sym (set_else s.views id h.seat both ne) ∙ (ap (get_elem? vs) e ∙ there))) in
      record { seat = id; view = both; at = here; tells = tells; whole = seen ∙ longer_right v.seen o.seen r.journal a (ap (λ (x : Vw). x.seen) (sym is) ∙ h.whole) })
      (λ away. record { seat = h.seat; view = h.view; at = set_else vs other h.seat Gone away ∙ (set_else s.views id h.seat both ne ∙ h.at); tells = h.tells; whole = h.whole }))

  joined : (s : State Pl Vw) (r : Rl s) (id : ℕ) (v both o : Vw) (other : ℕ) (keeper' : ℕ → ℕ) → get_elem? (set s.views id both) other ≡ some o → ¬ (other ≡ id) → o.cells ≡ [] → o.hub ≡ None → both.hub ≡ v.hub → both.cells ≡ v.cells → get_elem? s.views id ≡ some v
      → ((k seat : ℕ) → seat ≢ other → r.keeper k ≡ suc seat → keeper' k ≡ suc seat) → ((k : ℕ) → keeper' k ≡ 0 → r.keeper k ≡ 0) → ((k : ℕ) → r.keeper k ≡ 0 → keeper' k ≡ 0)
      → ((k seat : ℕ) → keeper' k ≡ suc seat → HasLog law (set (set s.views id both) other Gone) seat k)
      → both.tells ≡ true → both.seen ≡ longer v.seen o.seen → Begins v.seen r.journal → Begins o.seen r.journal
      → Fits law r.journal r.holder keeper' r.logs id both
      → Rl record { words = s.words; homes = s.homes; views = set (set s.views id both) other Gone }
  joined s r id v both o other keeper' there apart no_cells no_hub same_hub same_cells at stays nobody never has tells seen a b mine =
      let vs : List Vw = set s.views id both in
      let vs' : List Vw = set vs other Gone in
      let inside : other < length vs = within C H E B M R S law base vs other o there in
      record {
        journal = r.journal;
        holder = r.holder;
        keeper = keeper';
        logs = r.logs;
        wide = r.wide;
        free = r.free;
        taken = r.taken;
        whose = λ k l z. let w = r.whose k l z in dite (ℕ_discrete w.seat id)
            (λ e. let is : w.view ≡ v = some-injective w.view v (sym w.at ∙ (ap (get_elem? s.views) e ∙ at)) in record {
              seat = id;
              view = both;
              at = set_else vs other id Gone (λ x. apart (sym x)) ∙ set_here s.views id both (within C H E B M R S law base s.views id v at);
              held = w.held ∙ ap suc e;
              has = same_in_hand C H E B M R S law base v both same_hub same_cells k (subst (hall.InHandOf law k) is w.has);
            })
            (λ ne. dite (ℕ_discrete w.seat other)
            (λ e. let is : w.view ≡ o = some-injective w.view o (sym w.at ∙ (sym (set_else s.views id w.seat both ne) ∙ (ap (get_elem? vs) e ∙ there))) in
            absurd (nothing_in_hand C H E B M R S law base o no_cells no_hub k (subst (hall.InHandOf law k) is w.has)))
            (λ away. record { seat = w.seat; view = w.view; at = set_else vs other w.seat Gone away ∙ (set_else s.views id w.seat both ne ∙ w.at); held = w.held; has = w.has }));
        nowhere = r.nowhere;
        floor = r.floor;
        same_base = r.same_base;
        legal = r.legal;
        longest = longest_after s r id v both o other at there apart tells seen a b;
        each = seats C H E B M R S law base (Fits law r.journal r.holder keeper' r.logs) vs other Gone
            record { seen = λ e. absurd (cc e); old = tt; own = λ e. absurd (cc e); did = λ e. absurd (cc e); had = λ _. tt; others = tt; distinct = (not_none other, tt); before = tt; unborn = λ _ e. absurd (cc e); cells = tt; falls = tt; hub = λ x e. absurd (cc e); empty = λ _. (refl, refl) }
            (λ j u apart_j at_j. seats C H E B M R S law base (λ i x. i ≢ other → Fits law r.journal r.holder keeper' r.logs i x) s.views id both (λ _. mine)
            (λ i x _ e ne. refit C H E B M R S law base r.journal r.holder r.holder r.keeper keeper' r.logs i x (λ k is. is) (λ k is. stays k i ne is) (λ is. never i is) (r.each i x e)) j u at_j apart_j);
        kept = has;
        unkept = λ k e. r.unkept k (nobody k e);
        beyond = λ k l. never k (r.beyond k (subst (λ n. n ≤ k) (length-set vs other Gone ∙ length-set s.views id both) l));
        pairs = r.pairs;
        hub_home = r.hub_home;
        home = r.home;
        marks = r.marks;
      }

  -- a pass that is neither of the two keeps its logs
  log_away : (s : State Pl Vw) (r : Rl s) (id other : ℕ) (both : Vw) (k seat : ℕ) → seat ≢ id → seat ≢ other → HasLog law s.views seat k → HasLog law (set (set s.views id both) other Gone) seat k
  log_away s r id other both k seat ne away h = record { view = h.view; at = set_else (set s.views id both) other seat Gone away ∙ (set_else s.views id seat both ne ∙ h.at); live = h.live; has = h.has }

  pub hears : (id : ℕ) (v : Vw) (other : ℕ) (n : Vw) → v.live ≡ true → v.hub ≡ None → n.live ≡ false → n.tells ≡ true → n.cells ≡ [] → n.hub ≡ None → Joins Rl id v other n (hearing v n) Gone
  hears id v other n live none_held silent tells no_cells no_hub s r at apart there =
      let both : Vw = hearing v n in
      let vs : List Vw = set s.views id both in
      let was = r.each id v at in
      let there_now : get_elem? s.views other ≡ some n = sym (set_else s.views id other both apart) ∙ there in
      let note = r.each other n there_now in
      let a = was.seen (was.own live).2 in
      let b = note.seen tells in
      let here : get_elem? (set vs other Gone) id ≡ some both = set_else vs other id Gone (λ x. apart (sym x)) ∙ set_here s.views id both (within C H E B M R S law base s.views id v at) in
      joined s r id v both n other r.keeper there apart no_cells no_hub refl refl at (λ k seat ne is. is) (λ k e. e) (λ k e. e)
      (λ k seat e. let h = r.kept k seat e in dite (ℕ_discrete seat id)
      (λ is. let same : h.view ≡ v = some-injective h.view v (sym h.at ∙ (ap (get_elem? s.views) is ∙ at)) in
      record { view = both; at = ap (get_elem? (set vs other Gone)) is ∙ here; live = live; has = subst (λ (x : Vw). Among k (x.number ∷ numbers_of x.others)) same h.has })
      (λ ne. dite (ℕ_discrete seat other)
      (λ is. let same : h.view ≡ n = some-injective h.view n (sym h.at ∙ (ap (get_elem? s.views) is ∙ there_now)) in
      let f : false ≡ true = sym silent ∙ (ap (λ (x : Vw). x.live) (sym same) ∙ h.live) in absurd (cc f))
      (λ away. log_away s r id other both k seat ne away h)))
      ((was.own live).2) refl a b
      record {
        seen = λ _. longer_begins v.seen n.seen r.journal a b;
        old = (a, (b, tt));
        own = was.own;
        did = λ l. longer_did id v.seen n.seen r.journal a b (was.did l);
        had = was.did;
        others = was.others;
        distinct = was.distinct;
        before = was.before;
        unborn = λ silent _. let f : true ≡ false = sym live ∙ silent in absurd (cc f);
        cells = was.cells;
        falls = was.falls;
        hub = λ x is. absurd (let e : None ≡ Some x = sym none_held ∙ is in cc e);
        empty = was.empty;
      }

  -- the keepers after the logs of one seat went to another
  abbrev passed : (ℕ → ℕ) → ℕ → ℕ → ℕ → ℕ
  passed keeper other id k = either (eqb (keeper k) (suc other)) (suc id) (keeper k)

  passed_here : (keeper : ℕ → ℕ) (other id k : ℕ) → keeper k ≡ suc other → passed keeper other id k ≡ suc id
  passed_here keeper other id k e = ap (λ b. either b (suc id) (keeper k)) (eq-eqb (keeper k) (suc other) e)

  passed_else : (keeper : ℕ → ℕ) (other id k : ℕ) → keeper k ≢ suc other → passed keeper other id k ≡ keeper k
  passed_else keeper other id k ne = ap (λ b. either b (suc id) (keeper k)) (ne_eqb (keeper k) (suc other) ne)

  -- another pass is taken in, whose hands are empty
  pub merges : (id : ℕ) (v : Vw) (other : ℕ) (o : Vw) → v.live ≡ true → v.hub ≡ None → o.live ≡ true → o.cells ≡ [] → o.hub ≡ None → Joins Rl id v other o (merging v o) Gone
  merges id v other o live none_held alive no_cells no_hub s r at apart there =
      let both : Vw = merging v o in
      let vs : List Vw = set s.views id both in
      let was = r.each id v at in
      let there_now : get_elem? s.views other ≡ some o = sym (set_else s.views id other both apart) ∙ there in
      let theirs = r.each other o there_now in
      let own = theirs.own alive in
      let mine = was.own live in
      let a = was.seen mine.2 in
      let b = theirs.seen own.2 in
      let keeper' : ℕ → ℕ = passed r.keeper other id in
      let here : get_elem? (set vs other Gone) id ≡ some both = set_else vs other id Gone (λ x. apart (sym x)) ∙ set_here s.views id both (within C H E B M R S law base s.views id v at) in
      let KNew : ℕ × List M → Type 0 = λ p. (p.1 ≡ r.logs p.0) × (keeper' p.0 ≡ suc id) in
      let numbers : numbers_of both.others ≡ numbers_of v.others ++ (o.number ∷ numbers_of o.others) = numbers_append v.others ((o.number, o.log) ∷ o.others) in
      let still : (k seat : ℕ) → seat ≢ other → r.keeper k ≡ suc seat → keeper' k ≡ suc seat = λ k seat ne is. passed_else r.keeper other id k (λ e. let z : suc seat ≡ suc other = sym is ∙ e in ne (omega arith)) ∙ is in
      joined s r id v both o other keeper' there apart no_cells no_hub refl refl at still
      (λ k e. dite (ℕ_discrete (r.keeper k) (suc other)) (λ is. let z : suc id ≡ 0 = sym (passed_here r.keeper other id k is) ∙ e in absurd (omega arith)) (λ ne. sym (passed_else r.keeper other id k ne) ∙ e))
      (λ k e. passed_else r.keeper other id k (λ is. let z : 0 ≡ suc other = sym e ∙ is in omega arith) ∙ e)
      (λ k seat e. dite (ℕ_discrete (r.keeper k) (suc other))
      (λ is. let at_id : seat ≡ id = let z : suc seat ≡ suc id = sym e ∙ passed_here r.keeper other id k is in omega arith in
      let h = r.kept k other is in
      let same : h.view ≡ o = some-injective h.view o (sym h.at ∙ there_now) in
      record {
        view = both;
        at = ap (get_elem? (set vs other Gone)) at_id ∙ here;
        live = live;
        has = subst (λ (ns : List ℕ). Among k (v.number ∷ ns)) (sym numbers) (among_right k (v.number ∷ numbers_of v.others) (o.number ∷ numbers_of o.others) (subst (λ (x : Vw). Among k (x.number ∷ numbers_of x.others)) same h.has));
      })
      (λ other_keeper. let is : r.keeper k ≡ suc seat = sym (passed_else r.keeper other id k other_keeper) ∙ e in
      let h = r.kept k seat is in dite (ℕ_discrete seat id)
      (λ at_id. let same : h.view ≡ v = some-injective h.view v (sym h.at ∙ (ap (get_elem? s.views) at_id ∙ at)) in
      record {
        view = both;
        at = ap (get_elem? (set vs other Gone)) at_id ∙ here;
        live = live;
        has = subst (λ (ns : List ℕ). Among k (v.number ∷ ns)) (sym numbers) (among_left k (v.number ∷ numbers_of v.others) (o.number ∷ numbers_of o.others) (subst (λ (x : Vw). Among k (x.number ∷ numbers_of x.others)) same h.has));
      })
      (λ ne. log_away s r id other both k seat ne (λ x. other_keeper (is ∙ ap suc x)) h)))
      mine.2 refl a b
      record {
        seen = λ _. longer_begins v.seen o.seen r.journal a b;
        old = (a, (b, tt));
        own = λ l. (mine.0, mine.1, mine.2, still id id (λ x. apart (sym x)) mine.3);
        did = λ l. longer_did id v.seen o.seen r.journal a b (was.did l);
        had = was.did;
        others = every_append KNew v.others ((o.number, o.log) ∷ o.others)
            (every_weaken (λ (p : ℕ × List M). (p.1 ≡ r.logs p.0) × (r.keeper p.0 ≡ suc id)) KNew v.others (λ p x. (x.0, still p.0 id (λ y. apart (sym y)) x.1)) was.others) (
              (own.1 ∙ ap r.logs (sym own.0), passed_here r.keeper other id o.number (ap r.keeper own.0 ∙ own.3)),
              every_weaken (λ (p : ℕ × List M). (p.1 ≡ r.logs p.0) × (r.keeper p.0 ≡ suc other)) KNew o.others (λ p x. (x.0, passed_here r.keeper other id p.0 x.1)) theirs.others,
            );
        distinct = subst (λ (ns : List ℕ). AreDistinct (id ∷ ns)) (sym numbers)
            (subst (λ n. AreDistinct (id ∷ (numbers_of v.others ++ (n ∷ numbers_of o.others)))) (sym own.0)
            (distinct_append (id ∷ numbers_of v.others) (other ∷ numbers_of o.others) was.distinct theirs.distinct (λ k x y.
            let left : r.keeper k ≡ suc id = all_among (λ n. r.keeper n ≡ suc id) k (id ∷ numbers_of v.others) x (mine.3, keeper_of_others r.keeper r.logs v.others id was.others) in
            let right : r.keeper k ≡ suc other = all_among (λ n. r.keeper n ≡ suc other) k (other ∷ numbers_of o.others) y (own.3, keeper_of_others r.keeper r.logs o.others other theirs.others) in
            let z : suc id ≡ suc other = sym left ∙ right in apart (omega arith))));
        before = was.before;
        unborn = λ silent _. let f : true ≡ false = sym live ∙ silent in absurd (cc f);
        cells = was.cells;
        falls = was.falls;
        hub = λ x is. absurd (let e : None ≡ Some x = sym none_held ∙ is in cc e);
        empty = was.empty;
      }

  -- a load of word 0 tells that all that was seen begins one history
  pub compares : (slots id : ℕ) (m : Me Pl Vw) → m.0.live ≡ true → Allows Rl slots id m 0 (λ n. n) (Compares (step slots 0 0 0 none) m)
  compares slots id m live s r long at small = let was = r.each id m.0 at in let own = was.own live in (
    m.0,
    keeps,
    tt,
    unmoved C H E B M R S law base s r 0 id m.0 m.1 at,
    (
      refl,
      record {
        history = r.journal;
        seen = was.seen own.2;
        old = was.old;
        did = subst (λ n. deeds_by n m.0.seen.deeds ≡ deeds_by n r.journal.deeds) (sym own.0) (was.did live);
        had = subst (λ n. HadAll n m.0.old r.journal) (sym own.0) (was.had live);
        distinct = subst (λ n. AreDistinct (n ∷ numbers_of m.0.others)) (sym own.0) was.distinct;
      },
    ),
  )

-- a new pass has nothing in hand
pub rests_new : {C H E B M R S : Type 0} (n : ℕ) (h : Story B E R) (m : Me (Place C H) (View H E B M R S)) → m ≡ (new_view n h, []) → Rests m
rests_new {C} {H} {E} {B} {M} {R} {S} n h m is = subst (λ (z : Me (Place C H) (View H E B M R S)). Rests z) (sym is) record { live = refl; cells = refl; hub = refl; slots = refl }

-- what a load of word 0 tells of two histories that were seen
pub told_is : {H E B M R S : Type 0} (a b : Story B E R) (v w : View H E B M R S) → v.old ≡ a ∷ b ∷ [] → v.seen ≡ longer a b → w ≡ v → Knows v → Begins a w.seen × Begins b w.seen
told_is a b v w old seen same t =
    let both : Every (λ k. Begins k t.history) (a ∷ b ∷ []) = subst (Every (λ k. Begins k t.history)) old t.old in
    subst (λ h. Begins a h × Begins b h) (sym (ap (λ x. x.seen) same ∙ seen)) (longer_has a b t.history both.0 both.1.0)

-- and of what was done in the name of the seat
pub told_did : {H E B M R S : Type 0} (a b : Story B E R) (v w : View H E B M R S) → v.old ≡ a ∷ b ∷ [] → w ≡ v → Knows v
    → deeds_by v.number w.seen.deeds ≡ deeds_by v.number a.deeds
told_did a b v w old same t =
    let had : HadAll v.number (a ∷ b ∷ []) t.history = subst (λ hs. HadAll v.number hs t.history) old t.had in
    ap (λ x. deeds_by v.number x.seen.deeds) same ∙ (t.did ∙ sym had)
