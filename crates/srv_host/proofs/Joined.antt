-- Sessions joined one after another.
use Rattle.std.proofs.Common.{◌≡◌, ℕ, suc, Bool, true, false, List, [], ◌∷◌, ◌++◌, length, map, Option, None, Some, refl, sym, ap, subst, ◌∙◌, arith, append-nil, append_assoc}
use Rattle.std.specs.Prelude.{◌&&◌, option_map}
use Rattle.histories.specs.History.{Begins, Every, IsPrefixOf}
use Rattle.histories.proofs.Stories.{begins_self, begins_trans}
use Rattle.journal_core.specs.Moments.{Moment}
use Rattle.pva_outside.specs.Doors.{Door, with_back}
use Rattle.pva_outside.specs.Wire.{Wire}
use Rattle.pva_wire.specs.declared.order.Order.{Order}
use Rattle.desk_api.specs.History.{History}
use Rattle.desk_api.specs.declared.mark.Mark.{Mark}
use Rattle.desk_api.specs.declared.mark.Seat.{Seat}
use Rattle.desk_shared.specs.Records.{Sight, seat_of}
use Rattle.srv_stream.specs.Served.{Served}
use Rattle.srv_stream.specs.declared.ended.Ended.{Ended}
use Rattle.srv_host.specs.Joining.{AreBack, GivesBack, HasMemory, Joins, has_memory}
use Rattle.srv_host.specs.Running.{IsServed}
use Rattle.srv_host.specs.Sessions.{Session, WasServed, first_seat_of, last_seat_of, logs_of, most_calls, starts_of, written_of}
use Rattle.srv_host.proofs.Turning.{every_snoc}

-- joining so far: of these links those are still to be joined
pub record Joining (old now : Sight) (door after : Door) (told : Option Moment) (order : Order) (starts rest : List Wire) (fine going : Bool) : Type 0 where
  pub sessions : List Session
  pub served : Every (WasServed old.seen told order) sessions
  pub links : starts_of sessions ++ rest ≡ starts
  pub number : now.number ≡ old.number
  pub log : now.log ≡ old.log
  pub logs : now.others ≡ old.others ++ logs_of sessions
  pub grows : Begins old.seen now.seen
  pub seen : Every (λ (s : Session). Begins s.seen now.seen) sessions
  pub back : AreBack door after (written_of sessions)
  pub all : going ≡ true → after ≡ with_back door (written_of sessions)
  pub memory : fine ≡ true → Every HasMemory sessions

map_snoc : {A B : Type 0} (f : A → B) (xs : List A) (x : A) → map f (xs ++ x ∷ []) ≡ map f xs ++ f x ∷ []
map_snoc f [] x = refl
map_snoc {A} {B} f (y ∷ ys) x = ap (λ (l : List B). f y ∷ l) (map_snoc f ys x)

pub all_begin_on : (ss : List Session) (h k : History) → Begins h k → Every (λ (s : Session). Begins s.seen h) ss → Every (λ (s : Session). Begins s.seen k) ss
all_begin_on [] h k b e = tt
all_begin_on (s ∷ ss) h k b e = (begins_trans e.0 b, all_begin_on ss h k b e.1)

no_more : (b : Option (List (Option (List ℕ)))) → b ≡ option_map (λ (taken : List (Option (List ℕ))). taken ++ []) b
no_more None = refl
no_more (Some t) = ap Some (sym (append-nil t))

more_back : (b : Option (List (Option (List ℕ)))) (xs ys : List (Option (List ℕ))) → option_map (λ (t : List (Option (List ℕ))). t ++ ys) (option_map (λ (t : List (Option (List ℕ))). t ++ xs) b) ≡ option_map (λ (t : List (Option (List ℕ))). t ++ (xs ++ ys)) b
more_back None xs ys = refl
more_back (Some t) xs ys = ap Some (append_assoc t xs ys)

back_more : (d : Door) (xs ys : List (Option (List ℕ))) → with_back (with_back d xs) ys ≡ with_back d (xs ++ ys)
back_more d xs ys = ap (λ (b : Option (List (Option (List ℕ)))). record d { back = b }) (more_back d.back xs ys)

back_none : (d : Door) → d ≡ with_back d []
back_none d = ap (λ (b : Option (List (Option (List ℕ)))). record d { back = b }) (no_more d.back)

pub nothing_joined : (old : Sight) (door : Door) (told : Option Moment) (order : Order) (starts : List Wire) → Joining old old door door told order starts starts true true
nothing_joined old door told order starts = record {
  sessions = [];
  served = tt;
  links = refl;
  number = refl;
  log = refl;
  logs = sym (append-nil old.others);
  grows = begins_self old.seen;
  seen = tt;
  back = record { taken = []; first = record { rest = []; whole = refl }; door = back_none door };
  all = λ _. back_none door;
  memory = λ _. tt;
}

true_false : true ≡ false → ⊥
true_false e = grind arith

first_of : (a b : Bool) → (a && b) ≡ true → a ≡ true
first_of true b e = refl
first_of false b e = absurd (true_false (sym e))

second_of : (a b : Bool) → (a && b) ≡ true → b ≡ true
second_of true b e = e
second_of false b e = absurd (true_false (sym e))

-- one link more was handed back
back_on : (door mid after : Door) (written : List (Option (List ℕ))) (closed : Wire) (going all : Bool) → AreBack door mid written → (going ≡ true → mid ≡ with_back door written) → GivesBack mid after closed going all
    → AreBack door after (written ++ closed.written ∷ []) × (all ≡ true → after ≡ with_back door (written ++ closed.written ∷ []))
back_on door mid after written closed false all b whole g = (
  record {
    taken = b.taken;
    first = record { rest = b.first.rest ++ closed.written ∷ []; whole = ap (λ (l : List (Option (List ℕ))). l ++ closed.written ∷ []) b.first.whole ∙ append_assoc b.taken b.first.rest (closed.written ∷ []) };
    door = g.0 ∙ b.door;
  },
  λ e. absurd (true_false (sym e ∙ g.1)),
)
back_on door mid after written closed true false b whole g = (
  record {
    taken = b.taken;
    first = record { rest = b.first.rest ++ closed.written ∷ []; whole = ap (λ (l : List (Option (List ℕ))). l ++ closed.written ∷ []) b.first.whole ∙ append_assoc b.taken b.first.rest (closed.written ∷ []) };
    door = g ∙ b.door;
  },
  λ e. absurd (true_false (sym e)),
)
back_on door mid after written closed true true b whole g =
    let is : after ≡ with_back door (written ++ closed.written ∷ []) = g ∙ (ap (λ (d : Door). with_back d (closed.written ∷ [])) (whole refl) ∙ back_more door written (closed.written ∷ [])) in (
      record { taken = written ++ closed.written ∷ []; first = record { rest = []; whole = sym (append-nil (written ++ closed.written ∷ [])) }; door = is },
      λ _. is,
    )

memory_on : (ss : List Session) (s : Session) (fine : Bool) → (fine ≡ true → Every HasMemory ss) → (fine && has_memory s.ended) ≡ true → Every HasMemory (ss ++ s ∷ [])
memory_on ss s fine m e = every_snoc HasMemory ss s (m (first_of fine (has_memory s.ended) e)) (second_of fine (has_memory s.ended) e)

-- the session of a pass that was joined
abbrev session_of : (first other : Sight) (start closed : Wire) (told : Option Moment) (order : Order) (ended : Ended) → IsServed (seat_of first) other start closed told order ended → Session
session_of first other start closed told order ended s = record { number = other.number; log = other.log; seen = other.seen; start = start; end = s.end; closed = closed; ended = ended }

was_served : (from : History) (first other : Sight) (start closed : Wire) (told : Option Moment) (order : Order) (ended : Ended) → first.seen ≡ from → first.log ≡ [] → (s : IsServed (seat_of first) other start closed told order ended)
    → WasServed from told order (session_of first other start closed told order ended s)
was_served from first other start closed told order ended seen log s =
    let is : seat_of first ≡ record { number = other.number; seen = from; log = [] } = λ i. record { number = sym s.served.adds.number i; seen = seen i; log = log i } in record {
      served = subst (λ (z : Seat). Served z (seat_of other) start s.end told order most_calls ended) is s.served;
      steady = s.steady;
      closes = s.closes;
    }

pub joined_one : (old now next first other : Sight) (door mid after : Door) (told : Option Moment) (order : Order) (starts rest : List Wire) (start closed : Wire) (ended : Ended) (fine going all : Bool)
    → Joining old now door mid told order starts (start ∷ rest) fine going → first.seen ≡ old.seen → first.log ≡ [] → IsServed (seat_of first) other start closed told order ended
    → Begins now.seen next.seen → Begins other.seen next.seen → next.number ≡ now.number → next.log ≡ now.log → next.others ≡ now.others ++ (other.number, other.log) ∷ other.others
    → GivesBack mid after closed going all
    → Joining old next door after told order starts rest (fine && has_memory ended) all
joined_one old now next first other door mid after told order starts rest start closed ended fine going all j seen log served goes other_goes number same others gave =
    let s : Session = session_of first other start closed told order ended served in
    let back = back_on door mid after (written_of j.sessions) closed going all j.back j.all gave in
    let written : written_of (j.sessions ++ s ∷ []) ≡ written_of j.sessions ++ closed.written ∷ [] = map_snoc (λ (x : Session). x.closed.written) j.sessions s in record {
      sessions = j.sessions ++ s ∷ [];
      served = every_snoc (WasServed old.seen told order) j.sessions s j.served (was_served old.seen first other start closed told order ended seen log served);
      links = ap (λ (l : List Wire). l ++ rest) (map_snoc (λ (x : Session). x.start) j.sessions s) ∙ (append_assoc (starts_of j.sessions) (start ∷ []) rest ∙ j.links);
      number = number ∙ j.number;
      log = same ∙ j.log;
      logs = others ∙ (ap (λ (l : List (ℕ × List Mark)). now.others ++ (other.number, other.log) ∷ l) served.others_are ∙ (ap (λ (l : List (ℕ × List Mark)). l ++ (other.number, other.log) ∷ []) j.logs
          ∙ (append_assoc old.others (logs_of j.sessions) ((other.number, other.log) ∷ []) ∙ ap (λ (l : List (ℕ × List Mark)). old.others ++ l) (sym (map_snoc (λ (x : Session). (x.number, x.log)) j.sessions s)))));
      grows = begins_trans j.grows goes;
      seen = every_snoc (λ (x : Session). Begins x.seen next.seen) j.sessions s (all_begin_on j.sessions now.seen next.seen goes j.seen) other_goes;
      back = subst (AreBack door after) (sym written) back.0;
      all = λ e. back.1 e ∙ ap (with_back door) (sym written);
      memory = memory_on j.sessions s fine j.memory;
    }

-- all were joined
pub all_joined : (old now : Sight) (door after : Door) (told : Option Moment) (order : Order) (starts : List Wire) (fine going : Bool) → Joining old now door after told order starts [] fine going
    → Joins old now door after told order starts (fine && going)
all_joined old now door after told order starts fine going j = record {
  sessions = j.sessions;
  served = j.served;
  links = sym (append-nil (starts_of j.sessions)) ∙ j.links;
  number = j.number;
  log = j.log;
  logs = j.logs;
  grows = j.grows;
  seen = j.seen;
  back = j.back;
  whole = λ e. (j.memory (first_of fine going e), j.all (second_of fine going e));
}

pub nothing_left : {A : Type 0} (xs : List A) → length xs ≡ 0 → xs ≡ []
nothing_left [] e = refl
nothing_left (x ∷ xs) e = absurd (omega arith)
