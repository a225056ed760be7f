-- Accepts and the datagrams between them, turn by turn.
use Rattle.std.proofs.Common.{◌≡◌, ◌≢◌, ◌⊎◌, inl, inr, ◌<◌, ◌≤◌, ◌+◌, ◌^◌, ℕ, suc, List, [], ◌∷◌, ◌++◌, length, Option, None, Some, refl, sym, ap, subst, ◌∙◌, arith, append-nil, append_assoc}
use mathlib.Core.Logic.{dite}
use native.Mathlib.Decide.{dec_lt}
use Rattle.histories.specs.History.{Every}
use Rattle.pva_outside.specs.Count.{RoseByOne}
use Rattle.pva_outside.specs.Counted.{counted}
use Rattle.pva_outside.specs.Doors.{AcceptEnded, AcceptFailed, AcceptIdled, Client, Door, GaveLink, IsLinkOf, IsNext}
use Rattle.pva_outside.specs.Fresh.{IsFresh}
use Rattle.pva_outside.specs.Traffic.{DatagramsView, Traffic}
use Rattle.pva_outside.specs.Wire.{Wire}
use Rattle.pva_outside.specs.declared.peer.Peer.{Peer}
use Rattle.pva_search.specs.declared.setup.Setup.{Setup}
use Rattle.desk_api.specs.declared.history.SiteData.{SiteData}
use Rattle.srv_host.specs.Accepts.{Accepted, AcceptedInVain, AreLinksOf, Came, EndsAccepting, IsAccepted, Stopped, StoppedBy, links_in}
use Rattle.srv_host.specs.Datagrams.{IsTurn, Went, WentFirst, WentInPart, WentWhole}
use Rattle.srv_host.specs.Hosting.{AreAllBegun, HasAccepted}
use Rattle.srv_host.specs.declared.accepting.Stop.{Stop}
use Rattle.srv_host.specs.declared.accepting.Stop.TheVariants as stops
use Rattle.srv_host.proofs.Passing.{whole_none, whole_turn, part_turn}

pub every_snoc : {A : Type 0} (P : A → Type 0) (xs : List A) (x : A) → Every P xs → P x → Every P (xs ++ x ∷ [])
every_snoc P [] x e p = (p, tt)
every_snoc P (y ∷ ys) x e p = (e.0, every_snoc P ys x e.1 p)

length_snoc : {A : Type 0} (xs : List A) (x : A) → length (xs ++ x ∷ []) ≡ length xs + 1
length_snoc [] x = refl
length_snoc (y ∷ ys) x = let e = length_snoc ys x in omega arith

count_one : (a n b : ℕ) → RoseByOne (counted a n) b → b ≡ counted a (n + 1)
count_one a n b r = dite (dec_lt (counted a n + 1) (2 ^ 64)) (λ below. let e = r.one below in omega arith) (λ full. let e = r.still (omega (arith, full)) in omega arith)

count_none : (a : ℕ) → a ≡ counted a 0
count_none a = omega arith

links_snoc : (turns : List (Option Wire)) (turn : Option Wire) → links_in (turns ++ turn ∷ []) ≡ links_in turns ++ links_in (turn ∷ [])
links_snoc [] None = refl
links_snoc [] (Some link) = refl
links_snoc (None ∷ turns) turn = links_snoc turns turn
links_snoc (Some link ∷ turns) turn = ap (λ (l : List Wire). link ∷ l) (links_snoc turns turn)

-- the link of the client who was next
links_of_snoc : (clients : List Client) (links : List Wire) (left : List Client) (link : Wire) (after : Option (List Client)) → AreLinksOf clients links left → IsNext (Some left) after link
    → (more : List Client) × (after ≡ Some more) × AreLinksOf clients (links ++ link ∷ []) more
links_of_snoc clients [] [] link after are next = absurd next
links_of_snoc [] [] (c ∷ cs) link after are next = absurd (cc are)
links_of_snoc (d ∷ ds) [] (c ∷ cs) link after are next =
    let first : c ≡ d = cc are in
    let rest : cs ≡ ds = cc are in
    (cs, next.0, (subst (λ (x : Client). IsLinkOf x link) first next.1, rest))
links_of_snoc [] (l ∷ links) left link after are next = absurd are
links_of_snoc (d ∷ ds) (l ∷ links) left link after are next =
    let r = links_of_snoc ds links left link after are.1 next in (r.0, r.1, (are.0, r.2))

came_snoc : (ahead mid after : Option (List Client)) (links : List Wire) (link : Wire) → Came ahead links mid → IsNext mid after link → Came ahead (links ++ link ∷ []) after
came_snoc None mid after links link came next = subst (λ (m : Option (List Client)). IsNext m after link) came next
came_snoc (Some clients) mid after links link came next =
    let r = links_of_snoc clients links came.0 link after came.2 (subst (λ (m : Option (List Client)). IsNext m after link) came.1 next) in
    (r.0, r.1, r.2)

came_none : (ahead : Option (List Client)) → Came ahead [] ahead
came_none None = refl
came_none (Some clients) = (clients, refl, refl)

pub accepted_none : (door : Door) → Accepted door door []
accepted_none door = record { accepts = count_none door.accepts; links = count_none door.links; came = came_none door.ahead; fresh = tt; faults = refl; bindings = refl; back = refl }

pub accepted_more : (door now next : Door) (turns : List (Option Wire)) (turn : Option Wire) → Accepted door now turns → IsAccepted now next turn → Accepted door next (turns ++ turn ∷ [])
accepted_more door now next turns None a i =
    let same : links_in (turns ++ None ∷ []) ≡ links_in turns = links_snoc turns None ∙ append-nil (links_in turns) in record {
      accepts = count_one door.accepts (length turns) next.accepts (subst (λ (n : ℕ). RoseByOne n next.accepts) a.accepts i.none.asks.accepts) ∙ ap (counted door.accepts) (sym (length_snoc turns None));
      links = i.none.links ∙ a.links ∙ ap (λ (l : List Wire). counted door.links (length l)) (sym same);
      came = subst (λ (l : List Wire). Came door.ahead l next.ahead) (sym same) (subst (λ (o : Option (List Client)). Came door.ahead (links_in turns) o) (sym i.none.ahead) a.came);
      fresh = subst (Every IsFresh) (sym same) a.fresh;
      faults = i.faults ∙ a.faults;
      bindings = i.none.asks.bindings ∙ a.bindings;
      back = i.none.asks.back ∙ a.back;
    }
accepted_more door now next turns (Some link) a g =
    let more : links_in (turns ++ Some link ∷ []) ≡ links_in turns ++ link ∷ [] = links_snoc turns (Some link) in record {
      accepts = count_one door.accepts (length turns) next.accepts (subst (λ (n : ℕ). RoseByOne n next.accepts) a.accepts g.asks.accepts) ∙ ap (counted door.accepts) (sym (length_snoc turns (Some link)));
      links = count_one door.links (length (links_in turns)) next.links (subst (λ (n : ℕ). RoseByOne n next.links) a.links g.links)
          ∙ ap (counted door.links) (sym (ap (λ (l : List Wire). length l) more ∙ length_snoc (links_in turns) link));
      came = subst (λ (l : List Wire). Came door.ahead l next.ahead) (sym more) (came_snoc door.ahead now.ahead next.ahead (links_in turns) link a.came g.next);
      fresh = subst (Every IsFresh) (sym more) (every_snoc IsFresh (links_in turns) link a.fresh g.fresh);
      faults = g.faults ∙ a.faults;
      bindings = g.asks.bindings ∙ a.bindings;
      back = g.asks.back ∙ a.back;
    }

module _ (site : SiteData) (setup : Setup) (beacon_to : Option Peer) where
  -- so many turns were made, in which these links came, which are served
  pub record Turning (door now : Door) (heard then_ : DatagramsView) (links : List Wire) (n : ℕ) : Type 0 where
    pub turns : List (Option Wire)
    pub accepted : Accepted door now turns
    pub many : length turns ≡ n
    pub links_are : links ≡ links_in turns
    pub went : WentWhole site setup beacon_to heard then_ n

  pub turning_none : (door : Door) (heard : DatagramsView) → Turning door door heard heard [] 0
  turning_none door heard = record { turns = []; accepted = accepted_none door; many = refl; links_are = refl; went = whole_none site setup beacon_to heard }

  pub turning_on : {door now : Door} {heard mid then_ : DatagramsView} {links : List Wire} {n : ℕ} (next : Door) (more : List Wire) (turn : Option Wire) {traffic : List Traffic}
      → Turning door now heard mid links n → IsAccepted now next turn → more ≡ links ++ links_in (turn ∷ []) → IsTurn site setup beacon_to (n + 1) traffic → Went mid then_ traffic
      → Turning door next heard then_ more (n + 1)
  turning_on {door} {now} {heard} {mid} {then_} {links} {n} next more turn {traffic} t is more_is turn_is went = record {
    turns = t.turns ++ turn ∷ [];
    accepted = accepted_more door now next t.turns turn t.accepted is;
    many = length_snoc t.turns turn ∙ ap (λ (k : ℕ). k + 1) t.many;
    links_are = more_is ∙ ap (λ (l : List Wire). l ++ links_in (turn ∷ [])) t.links_are ∙ sym (links_snoc t.turns turn);
    went = whole_turn site setup beacon_to t.went turn_is went;
  }

  module _ (most : ℕ) where
    all_begun : {door now : Door} {heard then_ : DatagramsView} {links : List Wire} {n : ℕ} (t : Turning door now heard then_ links n) → AreAllBegun site setup beacon_to heard then_ t.turns links
    all_begun {door} {now} {heard} {then_} t = record { links_are = t.links_are; datagrams = subst (λ (k : ℕ). WentWhole site setup beacon_to heard then_ k) (sym t.many) t.went }

    pub stops_end : {door now next : Door} {heard then_ : DatagramsView} {links : List Wire} {n : ℕ} → n < most → Turning door now heard then_ links n → AcceptEnded now next
        → HasAccepted site setup beacon_to most door next heard then_ links stops.End
    stops_end {door} {now} {next} l t e = record { turns = t.turns; stopped = record { door = now; accepted = t.accepted; last = e; few = let m = t.many in omega arith }; begun = all_begun t }

    pub stops_fault : {door now next : Door} {heard then_ : DatagramsView} {links : List Wire} {n : ℕ} → n < most → Turning door now heard then_ links n → AcceptFailed now next
        → HasAccepted site setup beacon_to most door next heard then_ links stops.Fault
    stops_fault {door} {now} {next} l t e = record { turns = t.turns; stopped = record { door = now; accepted = t.accepted; last = e; few = let m = t.many in omega arith }; begun = all_begun t }

    pub stops_turns : {door now : Door} {heard then_ : DatagramsView} {links : List Wire} → Turning door now heard then_ links most
        → HasAccepted site setup beacon_to most door now heard then_ links stops.Turns
    stops_turns t = record { turns = t.turns; stopped = (t.accepted, t.many); begun = all_begun t }

    within : (n : ℕ) → n < most → n ≤ most
    within n l = omega arith

    -- memory ran out before any accept, or in one
    pub stops_there : {door now : Door} {heard then_ : DatagramsView} {links : List Wire} {n : ℕ} → n ≤ most → Turning door now heard then_ links n
        → HasAccepted site setup beacon_to most door now heard then_ links stops.NoMemory
    stops_there l t = record { turns = t.turns; stopped = (t.accepted, let m = t.many in omega arith); begun = inl (all_begun t) }

    -- or behind one
    pub stops_behind : (next : Door) {door now : Door} {heard then_ : DatagramsView} {links : List Wire} {n : ℕ} → n < most → Turning door now heard then_ links n → AcceptedInVain now next
        → HasAccepted site setup beacon_to most door next heard then_ links stops.NoMemory
    stops_behind next {door} {now} {heard} {then_} {links} {n} l t (inl same) =
        subst (λ (d : Door). HasAccepted site setup beacon_to most door d heard then_ links stops.NoMemory) (sym same) (stops_there (within n l) t)
    stops_behind next {door} {now} {heard} {then_} {links} {n} l t (inr gave) =
        let turns = t.turns ++ Some gave.0 ∷ [] in
        let many : length turns ≡ n + 1 = length_snoc t.turns (Some gave.0) ∙ ap (λ (k : ℕ). k + 1) t.many in record {
          turns = turns;
          stopped = (accepted_more door now next t.turns (Some gave.0) t.accepted gave.1, omega arith);
          begun = inr (inl (record { before = t.turns; last = gave.0; turns_are = refl; begun = all_begun t }));
        }

    -- whatever the last accept ended with
    pub stops_by : (stop : Stop) (next : Door) {door now : Door} {heard then_ : DatagramsView} {links : List Wire} {n : ℕ} → n < most → Turning door now heard then_ links n → EndsAccepting now next stop
        → HasAccepted site setup beacon_to most door next heard then_ links stop
    stops_by stops.End next l t e = stops_end l t e
    stops_by stops.Turns next l t e = absurd e
    stops_by stops.Fault next l t e = stops_fault l t e
    stops_by stops.NoMemory next l t e = stops_behind next l t e

    -- or in the datagrams of a turn
    pub stops_amid : (next : Door) (more : List Wire) (turn : Option Wire) {door now : Door} {heard mid then_ : DatagramsView} {links : List Wire} {n : ℕ} {traffic : List Traffic} → n < most
        → Turning door now heard mid links n → IsAccepted now next turn → more ≡ links ++ links_in (turn ∷ []) → IsTurn site setup beacon_to (n + 1) traffic → WentFirst mid then_ traffic
        → HasAccepted site setup beacon_to most door next heard then_ more stops.NoMemory
    stops_amid next more turn {door} {now} {heard} {mid} {then_} {links} {n} {traffic} l t is more_is turn_is went =
        let turns = t.turns ++ turn ∷ [] in
        let many : length turns ≡ n + 1 = length_snoc t.turns turn ∙ ap (λ (k : ℕ). k + 1) t.many in
        let links_are : more ≡ links_in turns = more_is ∙ ap (λ (w : List Wire). w ++ links_in (turn ∷ [])) t.links_are ∙ sym (links_snoc t.turns turn) in record {
          turns = turns;
          stopped = (accepted_more door now next t.turns turn t.accepted is, omega arith);
          begun = inr (inr (record {
            before = t.turns;
            last = turn;
            turns_are = refl;
            links_are = links_are;
            datagrams = subst (λ (k : ℕ). WentInPart site setup beacon_to heard then_ k) (sym t.many) (part_turn site setup beacon_to t.went turn_is went);
          }));
        }
