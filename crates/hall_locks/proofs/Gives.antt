-- The hub is given back, with what its holder did.
use Rattle.std.proofs.Common.{◌≡◌, ℕ, suc, ◌<◌, ◌≤◌, eqb, ◌≢◌, Bool, true, false, List, [], ◌∷◌, ◌++◌, length, set, sym, refl, ap, ◌∙◌, subst, arith, length-set, get_or-set_other, get_or-set_same, eq-eqb, ne_eqb, Option, Some, None, get_or, zero}
use mathlib.Core.Logic.{dite}
use mathlib.Core.Option.{none, some, some-injective}
use native.Mathlib.Decide.{ℕ_discrete, dec_lt}
use lib.ListN.{get_elem?}
use Rattle.atomic_table.specs.Table.{State, Me, step, gives, stepped, Allows, rest}
use Rattle.atomic_table.proofs.Lists.{set_here, set_else}
use Rattle.histories.specs.declared.story.Story.{Story}
use Rattle.histories.specs.declared.story.Deed.{Deed}
use Rattle.histories.specs.declared.story.Deed.TheVariants.{Entry, Item}
use Rattle.hall_core.specs.Meanings.{Meaning, Among, Pairs}
use Rattle.histories.specs.History.{Begins, IsLegalAfter, AllTrue, entries_of, deeds_by, Every}
use Rattle.hall_locks.specs.declared.view.View.{View}
use Rattle.hall_locks.specs.declared.view.Place.{Place}
use Rattle.hall_locks.specs.declared.view.Place.TheVariants.{Hub}
use Rattle.hall_locks.specs.Hall.{HadAll, given_hub, deed_of, shown_cells, cells_after, shown_by, MayGive, IsDue, IsMarked, IsTrueMark, grown, with_mark, numbers_of, IsHub, InHand, HubInHand, IsFloor, Fits, InHandOf, Whose}
use Rattle.hall_locks.specs.Steps.{GivesHub}
use Rattle.histories.proofs.Judged.{legal_snoc}
use Rattle.histories.proofs.Judged.{every_weaken}
use Rattle.hall_locks.proofs.Lists.{every_apart, held_by, held_else}
use Rattle.hall_locks.proofs.Floors.{floor_gives_hub}
use Rattle.hall_locks.proofs.Rules.{Rule, seats, within, kept_on, free_after, taken_after}
use Rattle.histories.proofs.Stories.{begins_self, begins_trans}
use Rattle.histories.proofs.Judged.{true_snoc, true_weaken}
use Rattle.hall_locks.proofs.Deeds.{begins_grown, base-grown, entries_snoc, entries_item, deeds_own, deeds_other, ds_with, pairs_more, every_among, falls_numbers}

had_still : {B E R : Type 0} (seat : ℕ) (old : List (Story B E R)) (j k : Story B E R) → deeds_by seat j.deeds ≡ deeds_by seat k.deeds → HadAll seat old j → HadAll seat old k
had_still seat [] j k same had = tt
had_still seat (h ∷ hs) j k same had = had ∙ same

module _ {C H E B M R S : Type 0} (law : Meaning C H E B M R S) where
  -- a cell that is not in hand shows what it did
  pub unaffected : (h : Story B E R) (n : ℕ) (hand : List ℕ) (deed : Option (Deed E R)) → IsDue law h hand deed → (c : ℕ) → ¬ (Among c hand) → (x : S) → x ≡ shown_by law h c → x ≡ shown_by law (grown h n deed) c
  unaffected h n hand None due c out x v = v
  unaffected h n hand (Some (Item i)) due c out x v = v ∙ ap (λ l. law.shown_after h.base l c) (sym (entries_item h.deeds n i))
  unaffected h n hand (Some (Entry e)) due c out x v = v ∙ (sym (law.outside h.base (entries_of h.deeds) e due.0 c (λ a. out (due.1 c a))) ∙ ap (λ l. law.shown_after h.base l c) (sym (entries_snoc h.deeds n e)))

  pub legal_grown : (g : B) (h : Story B E R) (n : ℕ) (hand : List ℕ) (deed : Option (Deed E R)) → h.base ≡ g → IsDue law h hand deed → IsLegalAfter (law.may_follow g) [] (entries_of h.deeds) → IsLegalAfter (law.may_follow g) [] (entries_of (grown h n deed).deeds)
  legal_grown g h n hand None is due a = a
  legal_grown g h n hand (Some (Item i)) is due a = subst (IsLegalAfter (law.may_follow g) []) (sym (entries_item h.deeds n i)) a
  legal_grown g h n hand (Some (Entry e)) is due a = subst (IsLegalAfter (law.may_follow g) []) (sym (entries_snoc h.deeds n e))
      (legal_snoc (law.may_follow g) [] (entries_of h.deeds) e a (subst (λ y. law.may_follow y (entries_of h.deeds) e) is due.0))

  pub true_own : (h : Story B E R) (n : ℕ) (log : List M) (mark : Option M) → AllTrue (λ m b. law.is_true m h n b) [] log → IsTrueMark law mark h n log → AllTrue (λ m b. law.is_true m h n b) [] (with_mark log mark)
  true_own h n log None a t = a
  true_own h n log (Some m) a t = true_snoc (λ m b. law.is_true m h n b) [] log m a t

  deeds_grown : (h : Story B E R) (n : ℕ) (deed : Option (Deed E R)) → deeds_by n (grown h n deed).deeds ≡ ds_with (deeds_by n h.deeds) deed
  deeds_grown h n None = refl
  deeds_grown h n (Some d) = deeds_own n h.deeds d

  pub pairs_own : (h : Story B E R) (n : ℕ) (log : List M) (mark : Option M) (deed : Option (Deed E R)) → IsMarked law mark deed → Pairs law.adds law.fits log (deeds_by n h.deeds) → Pairs law.adds law.fits (with_mark log mark) (deeds_by n (grown h n deed).deeds)
  pairs_own h n log None None k a = a
  pairs_own h n log None (Some d) k a = absurd k
  pairs_own h n log (Some m) deed k a = subst (λ ds. Pairs law.adds law.fits (log ++ m ∷ []) ds) (sym (deeds_grown h n deed)) (pairs_more law.adds law.fits log (deeds_by n h.deeds) m deed k a)

  pub deeds_else : (h : Story B E R) (n k : ℕ) (deed : Option (Deed E R)) → n ≢ k → deeds_by k (grown h n deed).deeds ≡ deeds_by k h.deeds
  deeds_else h n k None ne = refl
  deeds_else h n k (Some d) ne = deeds_other k n h.deeds d ne

module _ {C H E B M R S : Type 0} (law : Meaning C H E B M R S) where
  shown_numbers : (h : Story B E R) (ps : List (ℕ × S)) → numbers_of (shown_cells law h ps) ≡ numbers_of ps
  shown_numbers h [] = refl
  shown_numbers h (p ∷ ps) = ap (λ l. p.0 ∷ l) (shown_numbers h ps)

  pub numbers_after : (h : Story B E R) (deed : Option (Deed E R)) (ps : List (ℕ × S)) → numbers_of (cells_after law h deed ps) ≡ numbers_of ps
  numbers_after h None ps = refl
  numbers_after h (Some (Item i)) ps = refl
  numbers_after h (Some (Entry e)) ps = shown_numbers h ps

  shown_all : (h : Story B E R) (holder : ℕ → ℕ) (bound : List ℕ) (seat : ℕ) (ps : List (ℕ × S)) → Every (λ p. (holder (suc p.0) ≡ suc seat) × Among p.0 bound) ps → Every (InHand law h holder bound seat) (shown_cells law h ps)
  shown_all h holder bound seat [] a = tt
  shown_all h holder bound seat (p ∷ ps) a = (record { held = a.0.0; bounded = a.0.1; value = refl }, shown_all h holder bound seat ps a.1)

  -- the cells in hand after the step show what the history gives
  pub cells_now : (h : Story B E R) (n : ℕ) (holder holder' : ℕ → ℕ) (bound : List ℕ) (seat : ℕ) (deed : Option (Deed E R)) (ps : List (ℕ × S)) → ((c : ℕ) → holder (suc c) ≡ suc seat → holder' (suc c) ≡ suc seat)
      → Every (InHand law h holder bound seat) ps → Every (InHand law (grown h n deed) holder' bound seat) (cells_after law (grown h n deed) deed ps)
  cells_now h n holder holder' bound seat None ps same all = every_weaken (InHand law h holder bound seat) (InHand law h holder' bound seat) ps (λ p i. record { held = same p.0 i.held; bounded = i.bounded; value = i.value }) all
  cells_now h n holder holder' bound seat (Some (Item d)) ps same all = every_weaken (InHand law h holder bound seat) (InHand law (grown h n (Some (Item d))) holder' bound seat) ps
      (λ p i. record { held = same p.0 i.held; bounded = i.bounded; value = i.value ∙ ap (λ l. law.shown_after h.base l p.0) (sym (entries_item h.deeds n d)) }) all
  cells_now h n holder holder' bound seat (Some (Entry e)) ps same all = shown_all (grown h n (Some (Entry e))) holder' bound seat ps
      (every_weaken (InHand law h holder bound seat) (λ p. (holder' (suc p.0) ≡ suc seat) × Among p.0 bound) ps (λ p i. (same p.0 i.held, i.bounded)) all)

abbrev pub either_log : {A : Type 0} → Bool → A → A → A
either_log true a b = a
either_log false a b = b

-- the logs after the seat n has another
abbrev pub logs_with : {M : Type 0} → (ℕ → List M) → ℕ → List M → ℕ → List M
logs_with logs n log k = either_log (eqb k n) log (logs k)

log_here : {M : Type 0} (logs : ℕ → List M) (n : ℕ) (log : List M) (k : ℕ) → k ≡ n → logs_with logs n log k ≡ log
log_here logs n log k e = ap (λ b. either_log b log (logs k)) (eq-eqb k n e)

log_else : {M : Type 0} (logs : ℕ → List M) (n : ℕ) (log : List M) (k : ℕ) → k ≢ n → logs_with logs n log k ≡ logs k
log_else logs n log k e = ap (λ b. either_log b log (logs k)) (ne_eqb k n e)

module _ (C H E B M R S : Type 0) (law : Meaning C H E B M R S) (base : B) (slots id : ℕ) (inside : 0 < slots) where
  abbrev Vw : Type 0
  Vw = View H E B M R S

  abbrev Pl : Type 0
  Pl = Place C H

  module _ (s : State Pl Vw) (r : Rule C H E B M R S law base s) (v : Vw) (next : H) (mark : Option M) (at : get_elem? s.views id ≡ some v) (live : v.live ≡ true) (may : MayGive law v next mark) where
    abbrev deed : Option (Deed E R)
    deed = deed_of law mark next

    abbrev after : Story B E R
    after = grown v.seen v.number deed

    abbrev log' : List M
    log' = with_mark v.log mark

    abbrev logs' : ℕ → List M
    logs' = logs_with r.logs v.number log'

    abbrev holder' : ℕ → ℕ
    holder' = held_by r.holder 0 0

    abbrev w : Vw
    w = given_hub law v next mark

    abbrev views' : List Vw
    views' = set s.views id w

    number_is : v.number ≡ id
    number_is = ((r.each id v at).own live).0

    log_is : v.log ≡ r.logs id
    log_is = ((r.each id v at).own live).1

    held : HubInHand law r.journal r.holder r.logs id v.seen may.found
    held = (r.each id v at).hub may.found may.was

    whole : v.seen ≡ r.journal
    whole = held.whole

    -- whoever holds a cell that is in this hand is this seat
    in_hand : (c : ℕ) → Among c (numbers_of v.cells) → r.holder (suc c) ≡ suc id
    in_hand c a = every_among (λ n. r.holder (suc n) ≡ suc id) v.cells c a.0 a.1 a.2 (every_weaken (InHand law r.journal r.holder v.bound id) (λ p. r.holder (suc p.0) ≡ suc id) v.cells (λ p i. i.held) (r.each id v at).cells)

    -- what a seat holds is a cell of the hall
    in_words_of : (c : ℕ) → r.holder (suc c) ≡ suc id → suc c < length s.words
    in_words_of c holds = dite (dec_lt (suc c) (length s.words)) (λ l. l) (λ far. let z : 0 ≡ suc id = sym (r.nowhere (suc c) (omega (arith, far))) ∙ holds in absurd (omega arith))

    value_stays : (c : ℕ) → r.holder (suc c) ≢ suc id → (x : S) → x ≡ shown_by law r.journal c → x ≡ shown_by law after c
    value_stays c other x is = unaffected law v.seen v.number (numbers_of v.cells) deed may.due c (λ a. other (in_hand c a)) x (subst (λ h. x ≡ shown_by law h c) (sym whole) is)

    begins_after : Begins r.journal after
    begins_after = subst (λ h. Begins h after) whole (begins_grown v.seen v.number deed)

    keeper_is : r.keeper id ≡ suc id
    keeper_is = ((r.each id v at).own live).3

    -- a log that a seat took in isn't this seat's
    others_after : (j : ℕ) (u : Vw) → ¬ (Among v.number (numbers_of u.others)) → Every (λ (p : ℕ × List M). (p.1 ≡ r.logs p.0) × (r.keeper p.0 ≡ suc j)) u.others → Every (λ (p : ℕ × List M). (p.1 ≡ logs' p.0) × (r.keeper p.0 ≡ suc j)) u.others
    others_after j u out = every_apart (λ (p : ℕ × List M). (p.1 ≡ r.logs p.0) × (r.keeper p.0 ≡ suc j)) (λ (p : ℕ × List M). (p.1 ≡ logs' p.0) × (r.keeper p.0 ≡ suc j)) v.number u.others out
        (λ p ne a. (a.0 ∙ sym (log_else r.logs v.number log' p.0 ne), a.1))

    own_apart : ¬ (Among v.number (numbers_of v.others))
    own_apart = subst (λ n. ¬ (Among n (numbers_of v.others))) (sym number_is) (r.each id v at).distinct.0

    other_apart : (j : ℕ) (u : Vw) → j ≢ id → get_elem? s.views j ≡ some u → ¬ (Among v.number (numbers_of u.others))
    other_apart j u other e a =
        let k : r.keeper v.number ≡ suc j = every_among (λ n. r.keeper n ≡ suc j) u.others v.number a.0 a.1 a.2 (every_weaken (λ (p : ℕ × List M). (p.1 ≡ r.logs p.0) × (r.keeper p.0 ≡ suc j)) (λ p. r.keeper p.0 ≡ suc j) u.others (λ p b. b.1) (r.each j u e).others) in
        let both : suc j ≡ suc id = sym k ∙ (ap r.keeper number_is ∙ keeper_is) in other (omega arith)

    mine : Fits law after holder' r.keeper logs' id w
    mine = let was = r.each id v at in record {
      seen = λ _. begins_self after;
      old = tt;
      own = λ l. (number_is, sym (log_here r.logs v.number log' id (sym number_is)), (was.own l).2, keeper_is);
      did = λ _. refl;
      had = λ _. tt;
      others = others_after id v own_apart was.others;
      distinct = was.distinct;
      before = was.before;
      unborn = was.unborn;
      cells = cells_now law v.seen v.number r.holder holder' v.bound id deed v.cells (λ c is. held_else r.holder 0 0 (suc c) (λ e. omega arith) ∙ is) (subst (λ (h : Story B E R). Every (InHand law h r.holder v.bound id) v.cells) (sym whole) was.cells);
      falls = falls_numbers (cells_after law after deed v.cells) v.cells (numbers_after law after deed v.cells) was.falls;
      hub = λ x is. absurd (cc is);
      empty = λ dead. let e : true ≡ false = sym live ∙ dead in absurd (cc e);
    }

    -- nothing was done in another seat's name
    others_did : (j : ℕ) → j ≢ id → deeds_by j r.journal.deeds ≡ deeds_by j after.deeds
    others_did j other = sym (deeds_else law v.seen v.number j deed (λ same. other (sym same ∙ number_is)) ∙ ap (λ (h : Story B E R). deeds_by j h.deeds) whole)

    theirs : (j : ℕ) (u : Vw) → j ≢ id → get_elem? s.views j ≡ some u → Fits law after holder' r.keeper logs' j u
    theirs j u other e = let was = r.each j u e in record {
      seen = λ t. begins_trans (was.seen t) begins_after;
      old = every_weaken (λ h. Begins h r.journal) (λ h. Begins h after) u.old (λ h b. begins_trans b begins_after) was.old;
      own = λ l. let o = was.own l in (o.0, o.1 ∙ sym (log_else r.logs v.number log' j (λ same. other (same ∙ number_is))), o.2, o.3);
      did = λ l. was.did l ∙ others_did j other;
      had = λ l. had_still j u.old r.journal after (others_did j other) (was.had l);
      others = others_after j u (other_apart j u other e) was.others;
      distinct = was.distinct;
      before = was.before;
      unborn = was.unborn;
      cells = every_weaken (InHand law r.journal r.holder u.bound j) (InHand law after holder' u.bound j) u.cells
          (λ p i. record { held = held_else r.holder 0 0 (suc p.0) (λ e. omega arith) ∙ i.held; bounded = i.bounded; value = value_stays p.0 (λ same. other (let z : suc j ≡ suc id = sym i.held ∙ same in omega arith)) p.1 i.value }) was.cells;
      falls = was.falls;
      hub = λ x is. let i = was.hub x is in absurd (other (let z : suc j ≡ suc id = sym i.held ∙ held.held in omega arith));
      empty = was.empty;
    }

    hub_after : IsHub law after logs' next
    hub_after = record {
      base = may.base ∙ sym (base-grown v.seen v.number deed);
      entries = may.entries;
      keeps = λ k. dite (ℕ_discrete k v.number)
          (λ e. subst (λ (z : ℕ × List M). law.keeps next after z.0 z.1) (λ i. (sym e i, sym (log_here r.logs v.number log' k e) i)) may.own)
          (λ ne. subst (law.keeps next after k) (sym (log_else r.logs v.number log' k ne)) (may.others k (r.logs k) ne (subst (λ h. law.keeps may.found h k (r.logs k)) (sym whole) (held.hub.keeps k))));
    }

    whose_given : (i : ℕ) → i < length (set s.words 0 0) → get_or (set s.words 0 0) i 0 ≢ 0 → Whose law holder' views' i
    whose_given zero l z = absurd (z (get_or-set_same s.words 0 0 0 (subst (λ n. 0 < n) (length-set s.words 0 0) l)))
    whose_given (suc c) l z =
        let ne : suc c ≢ 0 = λ e. omega arith in
        let o = r.whose (suc c) (subst (λ n. suc c < n) (length-set s.words 0 0) l) (λ e. z (get_or-set_other s.words 0 (suc c) 0 0 ne ∙ e)) in
        let now : holder' (suc c) ≡ suc o.seat = held_else r.holder 0 0 (suc c) ne ∙ o.held in
        dite (ℕ_discrete o.seat id)
        (λ e. let is : o.view ≡ v = some-injective o.view v (sym o.at ∙ (ap (get_elem? s.views) e ∙ at)) in record {
          seat = id;
          view = w;
          at = set_here s.views id w (within C H E B M R S law base s.views id v at);
          held = now ∙ ap suc e;
          has = subst (Among c) (sym (numbers_after law after deed v.cells)) (subst (InHandOf law (suc c)) is o.has);
        })
        (λ other. record { seat = o.seat; view = o.view; at = set_else s.views id o.seat w other ∙ o.at; held = now; has = o.has })

    pub given : (cs : List (ℕ × Pl)) → length s.homes ≡ slots → Rule C H E B M R S law base (stepped s 0 0 id ((0, Hub next) ∷ cs) w gives)
    given cs long =
        let in_words : 0 < length s.words = omega (arith, r.wide) in
        let homes' : List (mathlib.Core.Option.Option Pl) = set s.homes 0 (some (Hub next)) in
        let gr : v.seen.base ≡ base = ap (λ (h : Story B E R). h.base) whole ∙ r.same_base in
        record {
          journal = after;
          holder = holder';
          keeper = r.keeper;
          logs = logs';
          same_base = base-grown v.seen v.number deed ∙ gr;
          legal = legal_grown law base v.seen v.number (numbers_of v.cells) deed gr may.due (subst (λ h. IsLegalAfter (law.may_follow base) [] (entries_of h.deeds)) (sym whole) r.legal);
          wide = length-set s.words 0 0 ∙ (r.wide ∙ sym (length-set s.homes 0 (some (Hub next))));
          free = free_after C H E B M R S law base s r 0 0 0 homes' in_words (λ i ne. set_else s.homes 0 i (some (Hub next)) ne) (λ _. refl);
          taken = taken_after C H E B M R S law base s r 0 0 0 homes' in_words (λ i ne. set_else s.homes 0 i (some (Hub next)) ne) (λ ne. absurd (ne refl));
          whose = whose_given;
          nowhere = λ k l. let far : length s.words ≤ k = subst (λ n. n ≤ k) (length-set s.words 0 0) l in held_else r.holder 0 0 k (λ e. omega arith) ∙ r.nowhere k far;
          floor = subst (λ n. IsFloor law base n after holder') (sym (length-set s.words 0 0))
              (floor_gives_hub C H E B M R S law base (length s.words) v.seen v.number deed (numbers_of v.cells) r.holder id number_is held.held may.due (λ c a. (in_hand c a, in_words_of c (in_hand c a)))
              (subst (λ (h : Story B E R). IsFloor law base (length s.words) h r.holder) (sym whole) r.floor));
          home = λ d l z. let ne : suc d ≢ 0 = λ e. omega arith in let zero_now = sym (get_or-set_other s.words 0 (suc d) 0 0 ne) ∙ z in let there : suc d < length s.words = subst (λ n. suc d < n) (length-set s.words 0 0) l in
              let a = r.home d there zero_now in
              record { value = a.value; there = set_else s.homes 0 (suc d) (some (Hub next)) ne ∙ a.there; shown = value_stays d (λ e. let q : 0 ≡ suc id = sym (r.free (suc d) there zero_now) ∙ e in omega arith) (law.shows a.value) a.shown };
          hub_home = λ _ _. record { value = next; there = set_here s.homes 0 (some (Hub next)) (omega arith); hub = hub_after };
          longest = record { seat = id; view = w; at = set_here s.views id w (within C H E B M R S law base s.views id v at); tells = ((r.each id v at).own live).2; whole = refl };
          each = seats C H E B M R S law base (Fits law after holder' r.keeper logs') s.views id w mine theirs;
          kept = λ k seat e. kept_on C H E B M R S law base s.views id v w at record { live = refl; number = refl; others = refl } seat k (r.kept k seat e);
          unkept = λ k e. log_else r.logs v.number log' k (λ same. let z : suc id ≡ 0 = sym (ap r.keeper (same ∙ number_is) ∙ keeper_is) ∙ e in omega arith) ∙ r.unkept k e;
          beyond = λ k l. r.beyond k (subst (λ n. n ≤ k) (length-set s.views id w) l);
          marks = λ k. dite (ℕ_discrete k v.number)
              (λ e. subst (λ (z : ℕ × List M). AllTrue (λ m b. law.is_true m after z.0 b) [] z.1) (λ i. (sym e i, sym (log_here r.logs v.number log' k e) i))
              (true_own law after v.number v.log mark (true_weaken (λ m b. law.is_true m r.journal v.number b) (λ m b. law.is_true m after v.number b) (λ m b. law.stays m r.journal after v.number b begins_after) [] v.log
              (subst (λ (z : ℕ × List M). AllTrue (λ m b. law.is_true m r.journal z.0 b) [] z.1) (λ i. (sym number_is i, sym log_is i)) (r.marks id))) may.true_mark))
              (λ ne. subst (AllTrue (λ m b. law.is_true m after k b) []) (sym (log_else r.logs v.number log' k ne)) (true_weaken (λ m b. law.is_true m r.journal k b) (λ m b. law.is_true m after k b) (λ m b. law.stays m r.journal after k b begins_after) [] (r.logs k) (r.marks k)));
          pairs = λ k. dite (ℕ_discrete k v.number)
              (λ e. subst (λ (z : ℕ × List M). Pairs law.adds law.fits z.1 (deeds_by z.0 after.deeds)) (λ i. (sym e i, sym (log_here r.logs v.number log' k e) i))
              (pairs_own law v.seen v.number v.log mark deed may.marked (subst (λ (z : ℕ × List M × Story B E R). Pairs law.adds law.fits z.1 (deeds_by z.0 z.2.deeds)) (λ i. (sym number_is i, sym log_is i, sym whole i)) (r.pairs id))))
              (λ ne. subst (λ (z : List M × List (Deed E R)). Pairs law.adds law.fits z.0 z.1) (λ i. (sym (log_else r.logs v.number log' k ne) i, sym (deeds_else law v.seen v.number k deed (λ e. ne (sym e)) ∙ ap (λ (h : Story B E R). deeds_by k h.deeds) whole) i)) (r.pairs k));
        }

  pub gives_hub : (me : Me Pl Vw) (next : H) (mark : Option M) → me.0.live ≡ true → me.1 ≡ (0, Hub next) ∷ rest me.1 → MayGive law me.0 next mark
      → Allows (Rule C H E B M R S law base) slots id me 0 (λ _. 0) (GivesHub law mark (step slots 0 0 0 none) me)
  gives_hub me next mark live carried may =
      subst (λ (l : List (ℕ × Pl)). Allows (Rule C H E B M R S law base) slots id (me.0, l) 0 (λ _. 0) (GivesHub law mark (step slots 0 0 0 none) (me.0, l))) (sym carried)
      (λ s r long at small. (given_hub law me.0 next mark, gives, tt, given s r me.0 next mark at live may (rest me.1) long, (next, refl, refl)))
