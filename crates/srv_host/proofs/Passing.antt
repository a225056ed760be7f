-- What was received and sent, joined part by part.
use Rattle.std.proofs.Common.{◌≡◌, ◌<◌, ◌≤◌, ◌+◌, ℕ, suc, Bool, true, false, List, [], ◌∷◌, ◌++◌, length, Option, None, Some, refl, sym, ap, subst, ◌∙◌, arith, append_assoc, append-nil}
use Rattle.std.specs.Prelude.{Result, Ok, Err, option_map, ◌==◌, if◌then◌else◌}
use Rattle.std.proofs.lemmas.Bool.{ne_eqb}
use Rattle.histories.specs.History.{IsPrefixOf}
use Rattle.pva_outside.specs.Traffic.{DatagramsView, Got, Nothing, Passes, Traffic, Tried}
use Rattle.pva_outside.specs.declared.peer.Peer.{Peer}
use Rattle.pva_search.specs.declared.setup.Setup.{Setup}
use Rattle.desk_api.specs.declared.history.SiteData.{SiteData}
use Rattle.pvd_type.specs.declared.memory.NoMemory.{NoMemory}
use Rattle.srv_host.specs.Datagrams.{AreReceives, AreTurns, GoesOn, IsReceive, IsTurn, Went, WentFirst, WentInPart, WentWhole, all_answered, answered, beacon_in, ending, joined, most_receives, sends}

told_none : (t : Option (List Traffic)) → t ≡ option_map (λ (b : List Traffic). b ++ []) t
told_none None = refl
told_none (Some t) = ap Some (sym (append-nil t))

told_more : (a b c : Option (List Traffic)) (xs ys : List Traffic) → b ≡ option_map (λ (t : List Traffic). t ++ xs) a → c ≡ option_map (λ (t : List Traffic). t ++ ys) b
    → c ≡ option_map (λ (t : List Traffic). t ++ (xs ++ ys)) a
told_more None b c xs ys p q = q ∙ ap (option_map (λ (t : List Traffic). t ++ ys)) p
told_more (Some t) b c xs ys p q = q ∙ (ap (option_map (λ (t : List Traffic). t ++ ys)) p ∙ ap Some (append_assoc t xs ys))

pub went_none : (d : DatagramsView) → Went d d []
went_none d = record { told = told_none d.traffic; bindings = refl }

-- nothing changed
pub went_same : (old new : DatagramsView) → new ≡ old → Went old new []
went_same old new same = subst (λ (d : DatagramsView). Went old d []) (sym same) (went_none old)

pub went_more : {a b c : DatagramsView} {xs ys : List Traffic} → Went a b xs → Went b c ys → Went a c (xs ++ ys)
went_more {a} {b} {c} {xs} {ys} p q = record { told = told_more a.traffic b.traffic c.traffic xs ys p.told q.told; bindings = q.bindings ∙ p.bindings }

-- one receive or one send
pub went_one : {a b : DatagramsView} {one : Traffic} → Passes a b one → Went a b (one ∷ [])
went_one p = record { told = p.traffic; bindings = p.bindings }

-- what was whole, and then the first of what comes next
pub first_more : {a b c : DatagramsView} {xs ys : List Traffic} → Went a b xs → WentFirst b c ys → WentFirst a c (xs ++ ys)
first_more {a} {b} {c} {xs} {ys} p q = record {
  done = xs ++ q.done;
  first = record { rest = q.first.rest; whole = ap (λ (l : List Traffic). xs ++ l) q.first.whole ∙ sym (append_assoc xs q.done q.first.rest) };
  went = went_more p q.went;
}

-- more would have come
pub first_of : {a b : DatagramsView} {xs : List Traffic} (ys : List Traffic) → WentFirst a b xs → WentFirst a b (xs ++ ys)
first_of {a} {b} {xs} ys p = record {
  done = p.done;
  first = record { rest = p.first.rest ++ ys; whole = ap (λ (l : List Traffic). l ++ ys) p.first.whole ∙ append_assoc p.done p.first.rest ys };
  went = p.went;
}

length_snoc : {A : Type 0} (xs : List A) (x : A) → length (xs ++ x ∷ []) ≡ length xs + 1
length_snoc [] x = refl
length_snoc (y ∷ ys) x = let e = length_snoc ys x in omega arith

module _ (site : SiteData) (setup : Setup) where
  pub answered_snoc : (xs : List (List ℕ × Peer)) (x : List ℕ × Peer) → all_answered site setup (xs ++ x ∷ []) ≡ all_answered site setup xs ++ answered site setup x
  answered_snoc [] x = append-nil (answered site setup x)
  answered_snoc (y ∷ ys) x = ap (λ (l : List Traffic). answered site setup y ++ l) (answered_snoc ys x)
      ∙ sym (append_assoc (answered site setup y) (all_answered site setup ys) (answered site setup x))

  -- the receives of a turn so far
  pub record Receiving (a b : DatagramsView) (n : ℕ) : Type 0 where
    pub came : List (List ℕ × Peer)
    pub many : length came ≡ n
    pub went : Went a b (all_answered site setup came)

  pub no_receive : (d : DatagramsView) → Receiving d d 0
  no_receive d = record { came = []; many = refl; went = went_none d }

  pub one_receive : {a b c : DatagramsView} {n : ℕ} {traffic : List Traffic} → Receiving a b n → IsReceive site setup true traffic → Went b c traffic → Receiving a c (n + 1)
  one_receive {a} {b} {c} {n} {traffic} r is went =
      let one : Went b c (answered site setup is.0) = subst (λ (l : List Traffic). Went b c l) is.1 went in record {
        came = r.came ++ is.0 ∷ [];
        many = length_snoc r.came is.0 ∙ ap (λ (k : ℕ). k + 1) r.many;
        went = subst (λ (l : List Traffic). Went a c l) (sym (answered_snoc r.came is.0)) (went_more r.went one);
      }

  ending_below : (n : ℕ) → n < 16 → ending n ≡ Nothing ∷ []
  ending_below n l = ap (λ (b : Bool). if b then [] else Nothing ∷ []) (ne_eqb n 16 (λ e. omega arith))

  -- nothing came any more
  pub receives_end : {a b c : DatagramsView} {n : ℕ} {traffic : List Traffic} → n < 16 → Receiving a b n → IsReceive site setup false traffic → Went b c traffic
      → (all : List Traffic) × AreReceives site setup all × Went a c all
  receives_end {a} {b} {c} {n} {traffic} l r is went =
      let short : length r.came < 16 = let m = r.many in omega arith in (
        all_answered site setup r.came ++ Nothing ∷ [],
        record { came = r.came; few = omega arith; traffic_is = ap (λ (t : List Traffic). all_answered site setup r.came ++ t) (sym (ending_below (length r.came) short)) },
        went_more r.went (subst (λ (t : List Traffic). Went b c t) is went),
      )

  -- as many were made as may be
  pub receives_full : {a b : DatagramsView} → Receiving a b 16 → (all : List Traffic) × AreReceives site setup all × Went a b all
  receives_full {a} {b} r = (
    all_answered site setup r.came,
    record { came = r.came; few = let m = r.many in omega arith; traffic_is = sym (ap (λ (n : ℕ). all_answered site setup r.came ++ ending n) r.many ∙ append-nil (all_answered site setup r.came)) },
    r.went,
  )

  short_of : (n : ℕ) → n < 16 → n ≤ 16
  short_of n l = omega arith

  -- memory ran out in a receive or behind it
  pub receives_in_part : {a b c : DatagramsView} {n : ℕ} (some : Bool) {traffic : List Traffic} → n < 16 → Receiving a b n → IsReceive site setup some traffic → WentFirst b c traffic
      → (all : List Traffic) × AreReceives site setup all × WentFirst a c all
  receives_in_part {a} {b} {c} {n} true {traffic} l r is first =
      let came = r.came ++ is.0 ∷ [] in
      let many : length came ≡ n + 1 = length_snoc r.came is.0 ∙ ap (λ (k : ℕ). k + 1) r.many in
      let one : WentFirst b c (answered site setup is.0) = subst (λ (t : List Traffic). WentFirst b c t) is.1 first in (
        all_answered site setup came ++ ending (length came),
        record { came = came; few = omega arith; traffic_is = refl },
        first_of (ending (length came)) (subst (λ (t : List Traffic). WentFirst a c t) (sym (answered_snoc r.came is.0)) (first_more r.went one)),
      )
  receives_in_part {a} {b} {c} {n} false {traffic} l r is first =
      let short : length r.came < 16 = let m = r.many in omega arith in (
        all_answered site setup r.came ++ Nothing ∷ [],
        record { came = r.came; few = omega arith; traffic_is = ap (λ (t : List Traffic). all_answered site setup r.came ++ t) (sym (ending_below (length r.came) short)) },
        first_more r.went (subst (λ (t : List Traffic). WentFirst b c t) is first),
      )

  -- a turn in which nothing comes
  silent : AreReceives site setup (Nothing ∷ [])
  silent = record { came = []; few = omega arith; traffic_is = refl }

  module _ (beacon_to : Option Peer) where
    pub turn_of : {turn : ℕ} {a b c : DatagramsView} {xs ys : List Traffic} → xs ≡ beacon_in setup beacon_to turn → Went a b xs → AreReceives site setup ys → Went b c ys
        → (all : List Traffic) × IsTurn site setup beacon_to turn all × Went a c all
    turn_of {turn} {a} {b} {c} {xs} {ys} is went receives then_ = (xs ++ ys, record { received = ys; receives = receives; traffic_is = ap (λ (t : List Traffic). t ++ ys) is }, went_more went then_)

    pub turn_in_part : {turn : ℕ} {a b c : DatagramsView} {xs ys : List Traffic} → xs ≡ beacon_in setup beacon_to turn → Went a b xs → AreReceives site setup ys → WentFirst b c ys
        → (all : List Traffic) × IsTurn site setup beacon_to turn all × WentFirst a c all
    turn_in_part {turn} {a} {b} {c} {xs} {ys} is went receives then_ = (xs ++ ys, record { received = ys; receives = receives; traffic_is = ap (λ (t : List Traffic). t ++ ys) is }, first_more went then_)

    pub turn_without_beacon : {turn : ℕ} {a b : DatagramsView} {xs : List Traffic} → xs ≡ beacon_in setup beacon_to turn → WentFirst a b xs
        → (all : List Traffic) × IsTurn site setup beacon_to turn all × WentFirst a b all
    turn_without_beacon {turn} {a} {b} {xs} is first = (xs ++ Nothing ∷ [], record { received = Nothing ∷ []; receives = silent; traffic_is = ap (λ (t : List Traffic). t ++ Nothing ∷ []) is }, first_of (Nothing ∷ []) first)

    pub turn_on : (turn : ℕ) (a b c : DatagramsView) (xs : List Traffic) (result : Result (Unit {0}) NoMemory) → xs ≡ beacon_in setup beacon_to turn → Went a b xs → GoesOn (AreReceives site setup) b c result
        → GoesOn (IsTurn site setup beacon_to turn) a c result
    turn_on turn a b c xs (Ok done) is went on = turn_of {turn = turn} is went on.1 on.2
    turn_on turn a b c xs (Err e) is went on = turn_in_part {turn = turn} is went on.1 on.2

    joined_snoc : (each : List (List Traffic)) (traffic : List Traffic) → joined (each ++ traffic ∷ []) ≡ joined each ++ traffic
    joined_snoc [] traffic = append-nil traffic
    joined_snoc (t ∷ each) traffic = ap (λ (l : List Traffic). t ++ l) (joined_snoc each traffic) ∙ sym (append_assoc t (joined each) traffic)

    turns_snoc : (before : ℕ) (each : List (List Traffic)) (traffic : List Traffic) → AreTurns site setup beacon_to before each → IsTurn site setup beacon_to (suc (before + length each)) traffic
        → AreTurns site setup beacon_to before (each ++ traffic ∷ [])
    turns_snoc before [] traffic are is = (subst (λ (n : ℕ). IsTurn site setup beacon_to (suc n) traffic) (omega arith) is, tt)
    turns_snoc before (t ∷ each) traffic are is =
        let same : before + length (t ∷ each) ≡ suc before + length each = omega arith in
        (are.0, turns_snoc (suc before) each traffic are.1 (subst (λ (n : ℕ). IsTurn site setup beacon_to (suc n) traffic) same is))

    pub whole_none : (d : DatagramsView) → WentWhole site setup beacon_to d d 0
    whole_none d = record { each = []; many = refl; are = tt; went = went_none d }

    pub whole_turn : {a b c : DatagramsView} {n : ℕ} {traffic : List Traffic} → WentWhole site setup beacon_to a b n → IsTurn site setup beacon_to (n + 1) traffic → Went b c traffic
        → WentWhole site setup beacon_to a c (n + 1)
    whole_turn {a} {b} {c} {n} {traffic} w is went =
        let at : n + 1 ≡ suc (0 + length w.each) = let m = w.many in omega arith in record {
          each = w.each ++ traffic ∷ [];
          many = length_snoc w.each traffic ∙ ap (λ (k : ℕ). k + 1) w.many;
          are = turns_snoc 0 w.each traffic w.are (subst (λ (k : ℕ). IsTurn site setup beacon_to k traffic) at is);
          went = subst (λ (t : List Traffic). Went a c t) (sym (joined_snoc w.each traffic)) (went_more w.went went);
        }

    pub part_turn : {a b c : DatagramsView} {n : ℕ} {traffic : List Traffic} → WentWhole site setup beacon_to a b n → IsTurn site setup beacon_to (n + 1) traffic → WentFirst b c traffic
        → WentInPart site setup beacon_to a c n
    part_turn {a} {b} {c} {n} {traffic} w is went =
        let at : n + 1 ≡ suc n = omega arith in record { mid = b; whole = w; next = traffic; is_turn = subst (λ (k : ℕ). IsTurn site setup beacon_to k traffic) at is; first = went }

-- the same of a list that is equal
pub kind_as : (a b : DatagramsView) (result : Result (Unit {0}) NoMemory) (xs ys : List Traffic) → xs ≡ ys → GoesOn (λ (t : List Traffic). t ≡ xs) a b result → GoesOn (λ (t : List Traffic). t ≡ ys) a b result
kind_as a b result xs ys same went = subst (λ (l : List Traffic). GoesOn (λ (t : List Traffic). t ≡ l) a b result) same went
