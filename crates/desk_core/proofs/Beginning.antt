-- The entries of a put, one after another.
use Rattle.std.proofs.Common.{◌≡◌, ℕ, ◌+◌, ◌<◌, suc, Bool, true, false, List, [], ◌∷◌, ◌++◌, length, take, drop, map, option_map, Some, Result, Ok, Err, inl, inr, refl, sym, ◌∙◌, ap, subst, arith, length-append, append_assoc, IfOk}
use Rattle.std.specs.List.{slice_get}
use Rattle.std.proofs.Math.Seq.{take-length}
use Rattle.std.proofs.lemmas.List.{append-nil, length-map, map-append, take-map}
use Rattle.std.proofs.lemmas.Option.{slice_get-map}
use Rattle.rec_kinds.specs.declared.datum.Action.{Action}
use Rattle.rec_fields.specs.declared.puts.FieldAnswer.{FieldAnswer}
use Rattle.rec_fields.specs.declared.puts.FieldAnswer.TheVariants.{Refused, NoMemory}
use Rattle.journal_core.specs.Legality.{AreProcessed}
use Rattle.journal_core.specs.Moments.{Moment}
use Rattle.journal_core.specs.declared.entry.Entry.{Entry}
use Rattle.desk_api.specs.History.{History, entries, state_at, IsLegal}
use Rattle.desk_api.specs.Marks.{place}
use Rattle.desk_api.specs.Puts.{entries_by, footprint_by, IsRefusedBy}
use Rattle.desk_api.specs.Calls.{Adds, Calls, Asked, asked_actions, asked_entries, entries_of_actions, entries_or_none, AreAdded, ArePut, EndsAtItsMarks, OnTold, first_place, now}
use Rattle.desk_api.specs.Sites.{is_atomic}
use Rattle.desk_api.proofs.Adding.{adds_nothing, adds_more}
use Rattle.desk_api.proofs.Holding.{looks_at_none}
use Rattle.desk_api.specs.declared.history.SiteData.{SiteData}
use Rattle.desk_api.specs.declared.mark.Mark.{Mark}
use Rattle.desk_api.specs.declared.mark.Mark.TheVariants.{Entered, Overweight}
use Rattle.desk_api.specs.declared.mark.Seat.{Seat}
use Rattle.desk_api.specs.declared.put.Done.{Done}
use Rattle.desk_api.specs.declared.put.PutAnswer.{PutAnswer}
use Rattle.desk_api.specs.declared.put.PutAnswer.TheVariants as answers
use Rattle.desk_core.specs.Begun.{IsHeld, IsAddedNow, IsPutNow, AreHeld, AreBegun, AreFullAfter, AreStoppedAfter, ArePutInTurn}
use Rattle.desk_core.specs.Effects.{IsBroken}
use Rattle.desk_core.specs.Ports.{Ports, AreDriven, AreDrivenInTurn, AreOwnFrom, DrivesPorts, actions_or_none, next_actions}
use Rattle.desk_core.specs.Standing.{answer_of}
use Rattle.desk_core.proofs.Doing.{none_broken}

-- ---- one more entry

turn_append : (old mid new : Ports) (added : List Entry) (entry : Entry) → AreDrivenInTurn old mid added → AreDriven mid new entry.drove entry.writes → AreDrivenInTurn old new (added ++ entry ∷ [])
turn_append old mid new [] entry turn more = (new, subst (λ (p : Ports). AreDriven p new entry.drove entry.writes) turn more, refl)
turn_append old mid new (e ∷ added) entry turn more = (turn.0, turn.1, turn_append turn.0 mid new added entry turn.2 more)

module _ (site : SiteData) (moment : Moment) where
  held_append : (at : ℕ) (asked : List (List (ℕ × Action))) (added : List Entry) (marks : List Mark) (actions : List (ℕ × Action)) (entry : Entry)
      → AreHeld site moment at asked added marks → IsHeld site moment actions [] entry → AreHeld site moment at (asked ++ actions ∷ []) (added ++ entry ∷ []) (marks ++ Entered (at + length added) entry [] [] ∷ [])
  held_append at [] [] [] actions entry held more = (more, ap (λ (n : ℕ). Entered n entry [] []) (plus_none at), tt) where
    plus_none : (n : ℕ) → n + 0 ≡ n
    plus_none n = omega arith
  held_append at [] [] (m ∷ marks) actions entry held more = absurd held
  held_append at [] (e ∷ added) marks actions entry held more = absurd held
  held_append at (a ∷ asked) [] marks actions entry held more = absurd held
  held_append at (a ∷ asked) (e ∷ added) [] actions entry held more = absurd held
  held_append at (a ∷ asked) (e ∷ added) (m ∷ marks) actions entry held more = (
    held.0,
    held.1,
    subst (λ (n : ℕ). AreHeld site moment (at + 1) (asked ++ actions ∷ []) (added ++ entry ∷ []) (marks ++ Entered n entry [] [] ∷ [])) (further at (length added))
        (held_append (at + 1) asked added marks actions entry held.2 more),
  ) where
    further : (n m : ℕ) → n + 1 + m ≡ n + suc m
    further n m = omega arith

  -- nothing yet
  pub none_begun : (s : Seat) (ports : Ports) → IsLegal s.seen → AreBegun site moment [] s s ports ports
  none_begun s ports legal = record {
    added = [];
    marks = [];
    adds = adds_nothing s legal;
    held = tt;
    entries_are = sym (append-nil (entries s.seen));
    ends = inl refl;
    driven = refl;
  }

  pub more_begun : (asked : List (List (ℕ × Action))) (actions : List (ℕ × Action)) (s m t : Seat) (old mid new : Ports) (at : ℕ) → AreBegun site moment asked s m old mid → IsAddedNow site moment actions [] [] m t mid new at
      → AreBegun site moment (asked ++ actions ∷ []) s t old new
  more_begun asked actions s m t old mid new at b i =
      let tag : Entry → ℕ × Entry = λ e. (s.number, e) in
      let place_is : now m ≡ now s + length b.added = ap length b.entries_are ∙ length-append (entries s.seen) (map tag b.added) ∙ ap (λ (n : ℕ). now s + n) (length-map b.added tag) in record {
        added = b.added ++ i.entry ∷ [];
        marks = b.marks ++ Entered (now m) i.entry [] [] ∷ [];
        adds = adds_more b.adds i.adds;
        held = subst (λ (n : ℕ). AreHeld site moment (now s) (asked ++ actions ∷ []) (b.added ++ i.entry ∷ []) (b.marks ++ Entered n i.entry [] [] ∷ [])) (sym place_is) (held_append (now s) asked b.added b.marks actions i.entry b.held i.held);
        entries_are = i.entries_are ∙ (λ j. b.entries_are j ++ (b.adds.number j, i.entry) ∷ []) ∙ append_assoc (entries s.seen) (map tag b.added) ((s.number, i.entry) ∷ [])
            ∙ ap (λ (l : List (ℕ × Entry)). entries s.seen ++ l) (sym (map-append tag b.added (i.entry ∷ [])));
        ends = inr i.ends;
        driven = turn_append old mid new b.added i.entry b.driven i.driven;
      }

  -- ---- where a put ends

  pub ends_after : (asked : List (List (ℕ × Action))) (done : ℕ) (actions : List (ℕ × Action)) (s m t : Seat) (old mid new : Ports) → AreBegun site moment (take done asked) s m old mid → length (take done asked) ≡ done → slice_get asked done ≡ Some actions
      → (answer : PutAnswer) → IsPutNow site moment actions [] [] done m t mid new (Err answer) → ArePutInTurn site moment asked s t old new (Err answer)
  ends_after asked done actions s m t old mid new b many next (answers.Refused refusal) e = absurd e
  ends_after asked done actions s m t old mid new b many next (answers.JournalFull kept weight limit done_) e =
      subst (λ (n : ℕ). AreFullAfter site moment asked s t old new kept weight limit n) (sym e.1) (record {
        middle = m;
        between = mid;
        begun = b;
        as_many = many;
        actions = actions;
        next = next;
        full = e.0;
      })
  ends_after asked done actions s m t old mid new b many next (answers.NoMemory done_) e =
      subst (λ (n : ℕ). AreStoppedAfter site moment asked s t old new n) (sym e.1) (record {
        between = mid;
        begun = subst (λ (z : Seat). AreBegun site moment (take done asked) s z old mid) (sym e.0.same) b;
        as_many = many;
        actions = actions;
        next = next;
        tried = subst (λ (z : Seat). IsBroken site.configs (state_at z.seen (now z)) mid new actions moment) (sym e.0.same) e.0.tried;
      })

  pub stopped_after : (asked : List (List (ℕ × Action))) (done : ℕ) (actions : List (ℕ × Action)) (s m : Seat) (old mid : Ports) → AreBegun site moment (take done asked) s m old mid → length (take done asked) ≡ done → slice_get asked done ≡ Some actions
      → ArePutInTurn site moment asked s m old mid (Err (answers.NoMemory done))
  stopped_after asked done actions s m old mid b many next = record {
    between = mid;
    begun = b;
    as_many = many;
    actions = actions;
    next = next;
    tried = none_broken site.configs (state_at m.seen (now m)) mid mid actions moment refl;
  }

  -- a put of one entry
  pub whole_put : (actions : List (ℕ × Action)) (s t : Seat) (old new : Ports) (at : ℕ) → IsLegal s.seen → IsPutNow site moment actions [] [] 0 s t old new (Ok at) → (done : Done) → done ≡ record { first = at; count = 1 }
      → ArePutInTurn site moment (actions ∷ []) s t old new (Ok done)
  whole_put actions s t old new at legal i done is = record {
    begun = more_begun [] actions s s t old old new at (none_begun s old legal) i;
    first_is = ap (λ (d : Done). d.first) is ∙ i.at_is;
    count_is = ap (λ (d : Done). d.count) is;
  }

  pub whole_ends : (actions : List (ℕ × Action)) (s t : Seat) (old new : Ports) → IsLegal s.seen → (answer : PutAnswer) → IsPutNow site moment actions [] [] 0 s t old new (Err answer) → ArePutInTurn site moment (actions ∷ []) s t old new (Err answer)
  whole_ends actions s t old new legal answer i = ends_after (actions ∷ []) 0 actions s s t old old new (none_begun s old legal) refl refl answer i

-- an entry for each action, of which some were put
abbrev pub alone : ℕ × Action → List (ℕ × Action)
alone action = action ∷ []

module _ (actions done : List (ℕ × Action)) (count : ℕ) (count_is : count ≡ length done) (so_far : done ≡ take (length done) actions) (action : ℕ × Action) (at : slice_get actions (length done) ≡ Some action) where
  pub alone_taken : take count (map alone actions) ≡ map alone done
  alone_taken = ap (λ (n : ℕ). take n (map alone actions)) count_is ∙ take-map alone (length done) actions ∙ ap (map alone) (sym so_far)

  pub alone_many : length (take count (map alone actions)) ≡ count
  alone_many = ap length alone_taken ∙ length-map done alone ∙ sym count_is

  pub alone_next : slice_get (map alone actions) count ≡ Some (action ∷ [])
  alone_next = ap (slice_get (map alone actions)) count_is ∙ slice_get-map alone actions (length done) ∙ ap (option_map alone) at

-- ---- what a put is for every desk

added_by : (a : Asked) (at : ℕ) (asked : List (List (ℕ × Action))) (added : List Entry) (marks : List Mark) → AreHeld a.site a.moment at asked added marks → AreAdded a asked marks
added_by a at [] [] [] held = tt
added_by a at [] [] (m ∷ marks) held = absurd held
added_by a at [] (e ∷ added) marks held = absurd held
added_by a at (x ∷ asked) [] marks held = absurd held
added_by a at (x ∷ asked) (e ∷ added) [] held = absurd held
added_by a at (x ∷ asked) (e ∷ added) (m ∷ marks) held = (
  record { at = at; entry = e; mark_is = held.1; actions_are = held.0.actions_are; footprint_is = held.0.footprint_is ∙ looks_at_none a.site x; moment_is = held.0.moment_is },
  added_by a (at + 1) asked added marks held.2,
)

many_held : (site : SiteData) (moment : Moment) (at : ℕ) (asked : List (List (ℕ × Action))) (added : List Entry) (marks : List Mark) → AreHeld site moment at asked added marks → (length marks ≡ length asked) × (length added ≡ length asked)
many_held site moment at [] [] [] held = (refl, refl)
many_held site moment at [] [] (m ∷ marks) held = absurd held
many_held site moment at [] (e ∷ added) marks held = absurd held
many_held site moment at (x ∷ asked) [] marks held = absurd held
many_held site moment at (x ∷ asked) (e ∷ added) [] held = absurd held
many_held site moment at (x ∷ asked) (e ∷ added) (m ∷ marks) held =
    let more = many_held site moment (at + 1) asked added marks held.2 in
    (ap suc more.0, ap suc more.1)

first_held : (site : SiteData) (moment : Moment) (at : ℕ) (asked : List (List (ℕ × Action))) (added : List Entry) (marks : List Mark) → 0 < length asked → AreHeld site moment at asked added marks → first_place marks ≡ Some at
first_held site moment at [] added marks some held = absurd (omega (arith, some))
first_held site moment at (x ∷ asked) [] marks some held = absurd held
first_held site moment at (x ∷ asked) (e ∷ added) [] some held = absurd held
first_held site moment at (x ∷ asked) (e ∷ added) (m ∷ marks) some held = ap (λ (z : Mark). Some (place z)) held.1

dropped : {X : Type 0} (xs ys : List X) → drop (length xs) (xs ++ ys) ≡ ys
dropped [] ys = refl
dropped (x ∷ xs) ys = dropped xs ys

module _ (s t : Seat) (at : ℕ) (added : List Entry) (at_is : at ≡ now s) (number : t.number ≡ s.number) (entries_are : entries t.seen ≡ entries s.seen ++ map (λ (entry : Entry). (s.number, entry)) added) where
  pub own_from : AreOwnFrom t at added
  own_from =
      let tag : Entry → ℕ × Entry = λ e. (s.number, e) in
      let mine = map tag added in
      ap (λ (n : ℕ). map (λ (e : Entry). (n, e)) added) number
      ∙ sym (take-length mine) ∙ ap (λ (n : ℕ). take n mine) (length-map added tag)
      ∙ ap (take (length added)) (sym (dropped (entries s.seen) mine) ∙ (λ i. drop (sym at_is i) (sym entries_are i)))

-- the entries that a put asks for
pub asks : (a : Asked) (actions : List (ℕ × Action)) → asked_actions a ≡ Ok actions → asked_entries a ≡ Ok (entries_by (is_atomic a.site a.channel a.atomic) actions)
asks a actions is = ap (entries_of_actions (is_atomic a.site a.channel a.atomic)) is

pub put_of : (a : Asked) (actions : List (ℕ × Action)) (whole : Bool) → asked_actions a ≡ Ok actions → whole ≡ is_atomic a.site a.channel a.atomic → asked_entries a ≡ Ok (entries_by whole actions)
put_of a actions whole is whole_is = asks a actions is ∙ ap (λ (w : Bool). Ok (entries_by w actions)) (sym whole_is)

pub some_entries : (whole : Bool) (actions : List (ℕ × Action)) → 0 < length actions → 0 < length (entries_by whole actions)
some_entries true actions some = omega arith
some_entries false actions some = omega (arith, some, length-map actions (λ (action : ℕ × Action). action ∷ []))

module _ (a : Asked) (asked : List (List (ℕ × Action))) (is : asked_entries a ≡ Ok asked) (s t : Seat) (old new : Ports) where
  asked_are : entries_or_none (asked_entries a) ≡ asked
  asked_are = ap entries_or_none is

  pub in_turn_calls : 0 < length asked → (result : Result Done PutAnswer) → ArePutInTurn a.site a.moment asked s t old new result → Calls s t (ArePut a result)
  in_turn_calls some (Ok done) p = record {
    marks = p.begun.marks;
    adds = p.begun.adds;
    named = record {
      entries = asked;
      asked = is;
      added = added_by a (now s) asked p.begun.added p.begun.marks p.begun.held;
      first_is = first_held a.site a.moment (now s) asked p.begun.added p.begun.marks some p.begun.held ∙ ap Some (sym p.first_is);
      count_is = p.count_is ∙ sym (many_held a.site a.moment (now s) asked p.begun.added p.begun.marks p.begun.held).0;
    };
  }
  in_turn_calls some (Err (answers.Refused refusal)) p = absurd p
  in_turn_calls some (Err (answers.JournalFull kept weight limit done)) p =
      let b = p.begun in record {
        marks = b.marks ++ Overweight (now p.middle) (footprint_by a.site p.actions) p.actions kept weight limit ∷ [];
        adds = subst (λ (f : List ℕ). Adds s t (b.marks ++ Overweight (now p.middle) f p.actions kept weight limit ∷ [])) (looks_at_none a.site p.actions) (adds_more b.adds p.full.adds);
        named = record {
          entries = asked;
          asked = is;
          before = b.marks;
          added = added_by a (now s) (take done asked) b.added b.marks b.held;
          done_is = sym p.as_many ∙ sym (many_held a.site a.moment (now s) (take done asked) b.added b.marks b.held).0;
          actions = p.actions;
          next = p.next;
          at = now p.middle;
          marks_are = refl;
        };
      }
  in_turn_calls some (Err (answers.NoMemory done)) p =
      let b = p.begun in record {
        marks = b.marks;
        adds = b.adds;
        named = record {
          added = subst (λ (l : List (List (ℕ × Action))). AreAdded a (take done l) b.marks) (sym asked_are) (added_by a (now s) (take done asked) b.added b.marks b.held);
          done_is = sym p.as_many ∙ sym (many_held a.site a.moment (now s) (take done asked) b.added b.marks b.held).0;
        };
      }

  pub in_turn_ends : (result : Result Done PutAnswer) → ArePutInTurn a.site a.moment asked s t old new result → OnTold result (EndsAtItsMarks s t)
  in_turn_ends (Ok done) p = p.begun.ends
  in_turn_ends (Err (answers.Refused refusal)) p = absurd p
  in_turn_ends (Err (answers.JournalFull kept weight limit done)) p = inr p.full.ends
  in_turn_ends (Err (answers.NoMemory done)) p = tt

  pub in_turn_first : (result : Result Done PutAnswer) → ArePutInTurn a.site a.moment asked s t old new result → IfOk result (λ done. done.first ≡ now s)
  in_turn_first (Ok done) p = p.first_is
  in_turn_first (Err answer) p = tt

  first_actions : (done : ℕ) (actions : List (ℕ × Action)) → slice_get asked done ≡ Some actions → next_actions a done ≡ actions
  first_actions done actions next = ap (λ (l : List (List (ℕ × Action))). actions_or_none (slice_get l done)) asked_are ∙ ap actions_or_none next

  pub in_turn_drives : (result : Result Done PutAnswer) → ArePutInTurn a.site a.moment asked s t old new result → DrivesPorts s t old new a result
  in_turn_drives (Ok done) p = record {
    added = p.begun.added;
    as_many = (many_held a.site a.moment (now s) asked p.begun.added p.begun.marks p.begun.held).1 ∙ sym p.count_is;
    there = own_from s t done.first p.begun.added p.first_is p.begun.adds.number p.begun.entries_are;
    driven = p.begun.driven;
  }
  in_turn_drives (Err (answers.Refused refusal)) p = absurd p
  in_turn_drives (Err (answers.JournalFull kept weight limit done)) p =
      let b = p.begun in record {
        added = b.added;
        as_many = (many_held a.site a.moment (now s) (take done asked) b.added b.marks b.held).1 ∙ p.as_many;
        there = own_from s t (now s) b.added refl (p.full.adds.number ∙ b.adds.number) (ap entries p.full.same ∙ b.entries_are);
        between = p.between;
        driven = b.driven;
        drives = p.full.tried.drives;
        writes = p.full.tried.writes;
        tried = p.full.tried.driven;
        first = subst (λ (h : History). AreProcessed a.site.configs (state_at h (length (entries h))) a.moment (take (length p.full.tried.writes) (next_actions a done)) p.full.tried.drives p.full.tried.writes) (sym p.full.same)
            (subst (λ (l : List (ℕ × Action)). AreProcessed a.site.configs (state_at p.middle.seen (now p.middle)) a.moment (take (length p.full.tried.writes) l) p.full.tried.drives p.full.tried.writes) (sym (first_actions done p.actions p.next)) p.full.tried.processed);
      }
  in_turn_drives (Err (answers.NoMemory done)) p =
      let b = p.begun in record {
        added = b.added;
        as_many = (many_held a.site a.moment (now s) (take done asked) b.added b.marks b.held).1 ∙ p.as_many;
        there = own_from s t (now s) b.added refl b.adds.number b.entries_are;
        between = p.between;
        driven = b.driven;
        drives = p.tried.drives;
        writes = p.tried.writes;
        tried = p.tried.driven;
        first = subst (λ (l : List (ℕ × Action)). AreProcessed a.site.configs (state_at t.seen (now t)) a.moment (take (length p.tried.writes) l) p.tried.drives p.tried.writes) (sym (first_actions done p.actions p.next)) p.tried.processed;
      }

-- ---- a put that gives no action

pub stops_put : (a : Asked) (answer : FieldAnswer) → IsRefusedBy (asked_actions a) answer → ArePut a (Err (answer_of answer)) []
stops_put a (Refused refusal) is = record { refusal_is = is; marks_are = refl }
stops_put a NoMemory is = record { added = tt; done_is = refl }

pub refused_calls : (s : Seat) → IsLegal s.seen → (a : Asked) (answer : FieldAnswer) → IsRefusedBy (asked_actions a) answer → Calls s s (ArePut a (Err (answer_of answer)))
refused_calls s legal a answer is = record { marks = []; adds = adds_nothing s legal; named = stops_put a answer is }

pub stopped_drives : (s : Seat) (ports : Ports) (a : Asked) (answer : FieldAnswer) → DrivesPorts s s ports ports a (Err (answer_of answer))
stopped_drives s ports a (Refused refusal) = refl
stopped_drives s ports a NoMemory = record {
  added = [];
  as_many = refl;
  there = refl;
  between = ports;
  driven = refl;
  drives = [];
  writes = [];
  tried = refl;
  first = tt;
}

pub stopped_ends : (A : Type 0) (s : Seat) (answer : FieldAnswer) → OnTold {A = A} (Err (answer_of answer)) (EndsAtItsMarks s s)
stopped_ends A s (Refused refusal) = inl refl
stopped_ends A s NoMemory = tt
