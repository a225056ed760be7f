-- A step that leaves the history as it is.
use Rattle.std.proofs.Common.{◌≡◌, ℕ, zero, suc, ◌<◌, ◌≤◌, ◌≢◌, true, List, [], ◌∷◌, length, get_or, set, sym, ap, ◌∙◌, subst, ⊎_elim, arith, length-set, get_or-set_other, get_or-set_same, refl, None, Some}
use mathlib.Core.Logic.{dite}
use mathlib.Core.Option.{none, some, some-injective}
use native.Mathlib.Decide.{ℕ_discrete}
use lib.ListN.{get_elem?}
use lib.Seq.{set-get_or}
use Rattle.atomic_table.specs.Table.{State, keeps, stepped}
use Rattle.atomic_table.proofs.Lists.{at_set, set_again, set_here, set_else}
use Rattle.histories.specs.declared.story.Story.{Story}
use Rattle.hall_core.specs.Meanings.{Meaning, Among}
use Rattle.hall_locks.specs.declared.view.View.{View}
use Rattle.hall_locks.specs.declared.view.Place.{Place}
use Rattle.hall_locks.specs.Hall.{InHand, Fits, CellHome, HubHome, InHandOf, Whose, HasLog, HasSeen, IsFloor, Ruled, with_cell, with_cells, with_hub, numbers_of}
use Rattle.histories.proofs.Judged.{every_weaken}
use Rattle.hall_locks.proofs.Lists.{held_by, held_here, held_else}

module _ (C H E B M R S : Type 0) (law : Meaning C H E B M R S) (base : B) where
  abbrev pub V : Type 0
  V = View H E B M R S

  abbrev pub P : Type 0
  P = Place C H

  abbrev pub St : Type 0
  St = State P V

  abbrev pub Rule : St → Type 0
  Rule = Ruled law base

  -- every view is as before but that of one seat
  pub seats : (K : ℕ → V → Type 0) (vs : List V) (id : ℕ) (w : V) → K id w → ((j : ℕ) (v : V) → j ≢ id → get_elem? vs j ≡ some v → K j v) → (j : ℕ) (v : V) → get_elem? (set vs id w) j ≡ some v → K j v
  seats K vs id w mine others j v e = ⊎_elim (λ (t : (j ≡ id) × (w ≡ v)). subst (λ (x : ℕ × V). K x.0 x.1) (λ i. (sym t.0 i, t.1 i)) mine)
      (λ (t : (j ≢ id) × (get_elem? vs j ≡ some v)). others j v t.0 t.1) (at_set vs id j w v e)

  pub within : {A : Type 0} (l : List A) (i : ℕ) (a : A) → get_elem? l i ≡ some a → i < length l
  within [] i a e = absurd cc
  within (x ∷ xs) zero a e = omega arith
  within (x ∷ xs) (suc i) a e = let h = within xs i a e in omega arith

  -- the holders may change where this seat holds nothing, and so may the keepers where it keeps nothing
  pub refit : (h : Story B E R) (holder holder' keeper keeper' : ℕ → ℕ) (logs : ℕ → List M) (j : ℕ) (v : V) → ((k : ℕ) → holder k ≡ suc j → holder' k ≡ suc j) → ((k : ℕ) → keeper k ≡ suc j → keeper' k ≡ suc j) → (keeper j ≡ 0 → keeper' j ≡ 0)
      → Fits law h holder keeper logs j v → Fits law h holder' keeper' logs j v
  refit h holder holder' keeper keeper' logs j v same keep_on nobody f = record {
    seen = f.seen;
    old = f.old;
    own = λ l. let o = f.own l in (o.0, o.1, o.2, keep_on j o.3);
    did = f.did;
    had = f.had;
    others = every_weaken (λ (p : ℕ × List M). (p.1 ≡ logs p.0) × (keeper p.0 ≡ suc j)) (λ (p : ℕ × List M). (p.1 ≡ logs p.0) × (keeper' p.0 ≡ suc j)) v.others (λ p a. (a.0, keep_on p.0 a.1)) f.others;
    distinct = f.distinct;
    before = f.before;
    unborn = λ silent tells. nobody (f.unborn silent tells);
    cells = every_weaken (InHand law h holder v.bound j) (InHand law h holder' v.bound j) v.cells (λ p i. record { held = same (suc p.0) i.held; bounded = i.bounded; value = i.value }) f.cells;
    falls = f.falls;
    hub = λ x is. let i = f.hub x is in record { held = same 0 i.held; whole = i.whole; hub = i.hub };
    empty = f.empty;
  }

  -- the two views are of one pass, with the same logs
  pub record SamePass (v w : V) : Type 0 where
    pub live : w.live ≡ v.live
    pub number : w.number ≡ v.number
    pub others : w.others ≡ v.others

  -- a view is changed, which stays of its pass
  pub kept_on : (vs : List V) (id : ℕ) (v w : V) → get_elem? vs id ≡ some v → SamePass v w → (seat k : ℕ) → HasLog law vs seat k → HasLog law (set vs id w) seat k
  kept_on vs id v w at same seat k h = dite (ℕ_discrete seat id)
      (λ e. let is : h.view ≡ v = some-injective h.view v (sym h.at ∙ (ap (get_elem? vs) e ∙ at)) in record {
        view = w;
        at = ap (get_elem? (set vs id w)) e ∙ set_here vs id w (within vs id v at);
        live = same.live ∙ (ap (λ (x : V). x.live) (sym is) ∙ h.live);
        has = subst (λ (z : ℕ × List (ℕ × List M)). Among k (z.0 ∷ numbers_of z.1)) (λ i. ((ap (λ (x : V). x.number) is ∙ sym same.number) i, (ap (λ (x : V). x.others) is ∙ sym same.others) i)) h.has;
      })
      (λ ne. record { view = h.view; at = set_else vs id seat w ne ∙ h.at; live = h.live; has = h.has })

  -- a view is changed, and what was seen of it is seen
  pub seen_on : (vs : List V) (journal : Story B E R) (id : ℕ) (v w : V) → get_elem? vs id ≡ some v → (v.tells ≡ true → w.tells ≡ true) → (v.tells ≡ true → v.seen ≡ journal → w.seen ≡ journal) → HasSeen law vs journal → HasSeen law (set vs id w) journal
  seen_on vs journal id v w at tells whole h = dite (ℕ_discrete h.seat id)
      (λ e. let is : h.view ≡ v = some-injective h.view v (sym h.at ∙ (ap (get_elem? vs) e ∙ at)) in
      let told : v.tells ≡ true = ap (λ (x : V). x.tells) (sym is) ∙ h.tells in record {
        seat = id;
        view = w;
        at = set_here vs id w (within vs id v at);
        tells = tells told;
        whole = whole told (ap (λ (x : V). x.seen) (sym is) ∙ h.whole);
      })
      (λ ne. record { seat = h.seat; view = h.view; at = set_else vs id h.seat w ne ∙ h.at; tells = h.tells; whole = h.whole })

  pub more_in_hand : (v : V) (bound : List ℕ) (c : ℕ) (y : S) (i : ℕ) → InHandOf law i v → InHandOf law i (with_cell v bound c y)
  more_in_hand v bound c y zero a = a
  more_in_hand v bound c y (suc d) a = (suc a.0, (let l : a.0 < length (numbers_of v.cells) = a.1 in omega arith), a.2)

  not_first : (c d : ℕ) (xs : List ℕ) → d ≢ c → Among d (c ∷ xs) → Among d xs
  not_first c d xs ne (zero, l, e) = absurd (ne (sym e))
  not_first c d xs ne (suc k, l, e) = (k, omega arith, e)

  pub less_in_hand : (v : V) (c : ℕ) (y : S) (ps : List (ℕ × S)) → v.cells ≡ (c, y) ∷ ps → (i : ℕ) → i ≢ suc c → InHandOf law i v → InHandOf law i (with_cells v ps)
  less_in_hand v c y ps last zero ne a = a
  less_in_hand v c y ps last (suc d) ne a = not_first c d (numbers_of ps) (λ e. ne (ap suc e)) (subst (λ (cs : List (ℕ × S)). Among d (numbers_of cs)) last a)

  pub hub_in_hand : (v : V) (seen : Story B E R) (h : H) (i : ℕ) → i ≢ 0 → InHandOf law i v → InHandOf law i (with_hub v seen h)
  hub_in_hand v seen h zero ne a = absurd (ne refl)
  hub_in_hand v seen h (suc d) ne a = a

  pub same_in_hand : (v w : V) → w.hub ≡ v.hub → w.cells ≡ v.cells → (i : ℕ) → InHandOf law i v → InHandOf law i w
  same_in_hand v w hub cells zero a = (a.0, hub ∙ a.1)
  same_in_hand v w hub cells (suc d) a = subst (λ (cs : List (ℕ × S)). Among d (numbers_of cs)) (sym cells) a

  pub nothing_in_hand : (o : V) → o.cells ≡ [] → o.hub ≡ None → (i : ℕ) → InHandOf law i o → ⊥
  nothing_in_hand o cells hub zero a = let e : None ≡ Some a.0 = sym hub ∙ a.1 in absurd (cc e)
  nothing_in_hand o cells hub (suc d) a = let b : Among d [] = subst (λ (cs : List (ℕ × S)). Among d (numbers_of cs)) cells a in let l : b.0 < 0 = b.1 in absurd (omega arith)

  -- what the holder of a word is said to have is in its hand
  pub has_it : (s : St) (r : Rule s) (id : ℕ) (v : V) → get_elem? s.views id ≡ some v → (k : ℕ) → k < length s.words → r.holder k ≡ suc id → InHandOf law k v
  has_it s r id v at k inside holds = dite (ℕ_discrete (get_or s.words k 0) 0)
      (λ zero_now. let z : 0 ≡ suc id = sym (r.free k inside zero_now) ∙ holds in absurd (omega arith))
      (λ taken. let o = r.whose k inside taken in
      let seat : o.seat ≡ id = let z : suc o.seat ≡ suc id = sym o.held ∙ holds in omega arith in
      let is : o.view ≡ v = some-injective o.view v (sym o.at ∙ (ap (get_elem? s.views) seat ∙ at)) in
      subst (InHandOf law k) is o.has)

  -- a seat without the hub in hand isn't its holder
  pub no_hub_of : (s : St) (r : Rule s) (id : ℕ) (v : V) → get_elem? s.views id ≡ some v → v.hub ≡ None → 0 < length s.words → r.holder 0 ≢ suc id
  no_hub_of s r id v at none_held inside holds = let a = has_it s r id v at 0 inside holds in let e : None ≡ Some a.0 = sym none_held ∙ a.1 in absurd (cc e)

  -- the words and the homes, after the word k becomes n and its holder h
  module _ (s : St) (r : Rule s) (k n h : ℕ) (homes' : List (mathlib.Core.Option.Option P)) (inside : k < length s.words) (else_same : (i : ℕ) → i ≢ k → get_elem? homes' i ≡ get_elem? s.homes i) where
    pub free_after : (n ≡ 0 → h ≡ 0) → (i : ℕ) → i < length (set s.words k n) → get_or (set s.words k n) i 0 ≡ 0 → held_by r.holder k h i ≡ 0
    free_after good i l z = dite (ℕ_discrete i k)
        (λ e. held_here r.holder k h i e ∙ good (sym (ap (λ x. get_or (set s.words k n) x 0) e ∙ get_or-set_same s.words k n 0 inside) ∙ z))
        (λ ne. held_else r.holder k h i ne ∙ r.free i (subst (λ x. i < x) (length-set s.words k n) l) (sym (get_or-set_other s.words k i n 0 ne) ∙ z))

    pub taken_after : (n ≢ 0 → (n ≤ 2) × (0 < h)) → (i : ℕ) → i < length (set s.words k n) → get_or (set s.words k n) i 0 ≢ 0 → (get_or (set s.words k n) i 0 ≤ 2) × (0 < held_by r.holder k h i)
    taken_after good i l z = dite (ℕ_discrete i k)
        (λ e. let is : get_or (set s.words k n) i 0 ≡ n = ap (λ x. get_or (set s.words k n) x 0) e ∙ get_or-set_same s.words k n 0 inside in let t = good (λ none_now. z (is ∙ none_now)) in
        (subst (λ x. x ≤ 2) (sym is) t.0, subst (λ x. 0 < x) (sym (held_here r.holder k h i e)) t.1))
        (λ ne. let same = get_or-set_other s.words k i n 0 ne in let t = r.taken i (subst (λ x. i < x) (length-set s.words k n) l) (λ e. z (same ∙ e)) in
        (subst (λ x. x ≤ 2) (sym same) t.0, subst (λ x. 0 < x) (sym (held_else r.holder k h i ne)) t.1))

    pub home_after : ((d : ℕ) → suc d ≡ k → n ≡ 0 → CellHome law r.journal homes' d) → (d : ℕ) → suc d < length (set s.words k n) → get_or (set s.words k n) (suc d) 0 ≡ 0 → CellHome law r.journal homes' d
    home_after here d l z = dite (ℕ_discrete (suc d) k)
        (λ e. here d e (sym (ap (λ x. get_or (set s.words k n) x 0) e ∙ get_or-set_same s.words k n 0 inside) ∙ z))
        (λ ne. let a = r.home d (subst (λ x. suc d < x) (length-set s.words k n) l) (sym (get_or-set_other s.words k (suc d) n 0 ne) ∙ z) in
        record { value = a.value; there = else_same (suc d) ne ∙ a.there; shown = a.shown })

    pub hub_home_after : (0 ≡ k → n ≡ 0 → HubHome law r.journal r.logs homes') → 0 < length (set s.words k n) → get_or (set s.words k n) 0 0 ≡ 0 → HubHome law r.journal r.logs homes'
    hub_home_after here l z = dite (ℕ_discrete 0 k)
        (λ e. here e (sym (ap (λ x. get_or (set s.words k n) x 0) e ∙ get_or-set_same s.words k n 0 inside) ∙ z))
        (λ ne. let a = r.hub_home (subst (λ x. 0 < x) (length-set s.words k n) l) (sym (get_or-set_other s.words k 0 n 0 ne) ∙ z) in
        record { value = a.value; there = else_same 0 ne ∙ a.there; hub = a.hub })

    whose_here : (id : ℕ) (v w : V) → get_elem? s.views id ≡ some v → (n ≢ 0 → (h ≡ suc id) × InHandOf law k w) → (i : ℕ) → i ≡ k → get_or (set s.words k n) i 0 ≢ 0 → Whose law (held_by r.holder k h) (set s.views id w) i
    whose_here id v w at got i e z =
        let is : get_or (set s.words k n) i 0 ≡ n = ap (λ x. get_or (set s.words k n) x 0) e ∙ get_or-set_same s.words k n 0 inside in
        let t = got (λ none_now. z (is ∙ none_now)) in
        record { seat = id; view = w; at = set_here s.views id w (within s.views id v at); held = held_here r.holder k h i e ∙ t.0; has = subst (λ x. InHandOf law x w) (sym e) t.1 }

    whose_else : (id : ℕ) (v w : V) → get_elem? s.views id ≡ some v → ((i : ℕ) → i ≢ k → InHandOf law i v → InHandOf law i w) → (i : ℕ) → i ≢ k → i < length (set s.words k n) → get_or (set s.words k n) i 0 ≢ 0 → Whose law (held_by r.holder k h) (set s.views id w) i
    whose_else id v w at still i ne l z =
        let o = r.whose i (subst (λ x. i < x) (length-set s.words k n) l) (λ e. z (get_or-set_other s.words k i n 0 ne ∙ e)) in
        let held : held_by r.holder k h i ≡ suc o.seat = held_else r.holder k h i ne ∙ o.held in
        dite (ℕ_discrete o.seat id)
        (λ e. let is : o.view ≡ v = some-injective o.view v (sym o.at ∙ (ap (get_elem? s.views) e ∙ at)) in
        record { seat = id; view = w; at = set_here s.views id w (within s.views id v at); held = held ∙ ap suc e; has = still i ne (subst (InHandOf law i) is o.has) })
        (λ other. record { seat = o.seat; view = o.view; at = set_else s.views id o.seat w other ∙ o.at; held = held; has = o.has })

    -- the seat id goes from v to w
    pub moved : (id : ℕ) (v w : V) → get_elem? s.views id ≡ some v → SamePass v w → (v.tells ≡ true → w.tells ≡ true) → (v.tells ≡ true → v.seen ≡ r.journal → w.seen ≡ r.journal) → length homes' ≡ length s.homes → (n ≡ 0 → h ≡ 0) → (n ≢ 0 → (n ≤ 2) × (0 < h))
        → ((d : ℕ) → suc d ≡ k → n ≡ 0 → CellHome law r.journal homes' d) → (0 ≡ k → n ≡ 0 → HubHome law r.journal r.logs homes')
        → ((j : ℕ) → j ≢ id → r.holder k ≢ suc j) → ((i : ℕ) → i ≢ k → InHandOf law i v → InHandOf law i w) → (n ≢ 0 → (h ≡ suc id) × InHandOf law k w)
        → IsFloor law base (length s.words) r.journal (held_by r.holder k h)
        → Fits law r.journal (held_by r.holder k h) r.keeper r.logs id w
        → Rule record { words = set s.words k n; homes = homes'; views = set s.views id w }
    moved id v w at same tells seen long zero_held one_held cell hub nobody still got floor mine = record {
      journal = r.journal;
      holder = held_by r.holder k h;
      keeper = r.keeper;
      logs = r.logs;
      wide = length-set s.words k n ∙ (r.wide ∙ sym long);
      free = free_after zero_held;
      taken = taken_after one_held;
      whose = λ i l z. dite (ℕ_discrete i k) (λ e. whose_here id v w at got i e z) (λ ne. whose_else id v w at still i ne l z);
      nowhere = λ i l. let far : length s.words ≤ i = subst (λ x. x ≤ i) (length-set s.words k n) l in held_else r.holder k h i (λ e. omega arith) ∙ r.nowhere i far;
      floor = subst (λ x. IsFloor law base x r.journal (held_by r.holder k h)) (sym (length-set s.words k n)) floor;
      same_base = r.same_base;
      legal = r.legal;
      longest = seen_on s.views r.journal id v w at tells seen r.longest;
      each = seats (Fits law r.journal (held_by r.holder k h) r.keeper r.logs) s.views id w mine
          (λ j u other e. refit r.journal r.holder (held_by r.holder k h) r.keeper r.keeper r.logs j u (λ i is. held_else r.holder k h i (λ same. nobody j other (ap r.holder (sym same) ∙ is)) ∙ is) (λ i is. is) (λ is. is) (r.each j u e));
      kept = λ i seat e. kept_on s.views id v w at same seat i (r.kept i seat e);
      unkept = r.unkept;
      beyond = λ i l. r.beyond i (subst (λ x. x ≤ i) (length-set s.views id w) l);
      pairs = r.pairs;
      hub_home = hub_home_after hub;
      home = home_after cell;
      marks = r.marks;
    }

  -- a step that changes nothing
  pub unmoved : (s : St) (r : Rule s) (i id : ℕ) (v : V) (cs : List (ℕ × P)) → get_elem? s.views id ≡ some v → Rule (stepped s i (get_or s.words i 0) id cs v keeps)
  unmoved s r i id v cs at = subst (λ (z : List ℕ × List V). Rule record { words = z.0; homes = s.homes; views = z.1 }) (λ k. (sym (set-get_or s.words i 0) k, sym (set_again s.views id v at) k)) r

  -- a taken word says that somebody may wait
  marked : (s : St) (r : Rule s) (k : ℕ) → k < length s.words → get_or s.words k 0 ≢ 0 → Rule record { words = set s.words k 2; homes = s.homes; views = s.views }
  marked s r k inside taken =
      let here : (i : ℕ) → i ≡ k → get_or (set s.words k 2) i 0 ≡ 2 = λ i e. ap (λ x. get_or (set s.words k 2) x 0) e ∙ get_or-set_same s.words k 2 0 inside in
      let else_same : (i : ℕ) → i ≢ k → get_or (set s.words k 2) i 0 ≡ get_or s.words i 0 = λ i ne. get_or-set_other s.words k i 2 0 ne in
      let within_words : (i : ℕ) → i < length (set s.words k 2) → i < length s.words = λ i l. subst (λ x. i < x) (length-set s.words k 2) l in
      let not_free : (i : ℕ) → get_or (set s.words k 2) i 0 ≡ 0 → i ≢ k = λ i z e. let h = here i e in omega (arith, h, z) in
      record {
        journal = r.journal;
        holder = r.holder;
        keeper = r.keeper;
        logs = r.logs;
        wide = length-set s.words k 2 ∙ r.wide;
        free = λ i l z. let ne = not_free i z in r.free i (within_words i l) (sym (else_same i ne) ∙ z);
        taken = λ i l z. dite (ℕ_discrete i k)
            (λ e. (subst (λ x. x ≤ 2) (sym (here i e)) (omega arith), subst (λ x. 0 < r.holder x) (sym e) (r.taken k inside taken).1))
            (λ ne. let t = r.taken i (within_words i l) (λ e. z (else_same i ne ∙ e)) in (subst (λ x. x ≤ 2) (sym (else_same i ne)) t.0, t.1));
        whose = λ i l z. dite (ℕ_discrete i k) (λ e. subst (Whose law r.holder s.views) (sym e) (r.whose k inside taken)) (λ ne. r.whose i (within_words i l) (λ e. z (else_same i ne ∙ e)));
        nowhere = λ i l. r.nowhere i (subst (λ x. x ≤ i) (length-set s.words k 2) l);
        floor = subst (λ x. IsFloor law base x r.journal r.holder) (sym (length-set s.words k 2)) r.floor;
        same_base = r.same_base;
        legal = r.legal;
        longest = r.longest;
        each = r.each;
        kept = r.kept;
        unkept = r.unkept;
        beyond = r.beyond;
        pairs = r.pairs;
        hub_home = λ l z. let ne = not_free 0 z in r.hub_home (within_words 0 l) (sym (else_same 0 ne) ∙ z);
        home = λ d l z. let ne = not_free (suc d) z in r.home d (within_words (suc d) l) (sym (else_same (suc d) ne) ∙ z);
        marks = r.marks;
      }

  -- a step that finds a word taken, and says that somebody may wait
  pub awaited : (s : St) (r : Rule s) (k id : ℕ) (v : V) (cs : List (ℕ × P)) → get_elem? s.views id ≡ some v → k < length s.words → get_or s.words k 0 ≢ 0 → Rule (stepped s k 2 id cs v keeps)
  awaited s r k id v cs at inside taken = subst (λ (vs : List V). Rule record { words = set s.words k 2; homes = s.homes; views = vs }) (sym (set_again s.views id v at)) (marked s r k inside taken)
