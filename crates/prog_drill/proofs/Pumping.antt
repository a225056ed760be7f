-- Rounds of pops, pieces that are fed, and what they join to.
use Rattle.std.proofs.Common.{◌≡◌, ℕ, zero, suc, ◌+◌, ◌-◌, ◌<◌, ◌≤◌, Bool, true, false, List, [], ◌∷◌, ◌++◌, length, take, drop, Option, None, Result, Ok, Err, refl, sym, ◌∙◌, ap, ap₂, subst, arith, append_assoc}
use Rattle.std.proofs.lemmas.List.{append-nil, take_all, drop_all, length-drop}
use Rattle.std.specs.Prelude.{OnOk}
use Rattle.pva_frames.specs.Assembled.{Assembled, opening as unread, fed, fed_on}
use Rattle.pva_frames.specs.Messages.{Unfinished, events_from}
use Rattle.pva_frames.specs.declared.event.Event.{Event}
use Rattle.pva_frames.specs.declared.fault.FrameFault.{FrameFault}
use Rattle.pva_frames.proofs.Joins.{fed-join}
use Rattle.desk_api.proofs.Adding.{adds_nothing, adds_more}
use Rattle.desk_api.specs.Calls.{Adds}
use Rattle.desk_api.specs.History.{IsLegal}
use Rattle.desk_api.specs.declared.history.SiteData.{SiteData}
use Rattle.desk_api.specs.declared.mark.Mark.{Mark}
use Rattle.desk_api.specs.declared.mark.Seat.{Seat}
use Rattle.journal_core.specs.Moments.{Moment}
use Rattle.srv_session.specs.State.{State, due}
use Rattle.srv_session.specs.Steps.{Step, AreSteps, after_step, state_after, events_of, marks_in, marks_of}
use Rattle.srv_session.specs.Calls.{ArePopsOf, Pumped, sends}
use Rattle.srv_stream.specs.Streams.{FedOn, SameStream, View, shown_in}
use Rattle.prog_drill.specs.Drilling.{AreFed, AreRounds, Fed, pieces_in, together}
use Rattle.prog_drill.specs.Drives.{AllFed, IsBehind, Piece, Round, Rounds}

-- what a serving shows once its output is taken
abbrev pub taken : View → View
taken v = record v { pending = [] }

pub taken_all : (old new : View) (count : ℕ) (bytes : List ℕ) → bytes ≡ old.pending → count ≡ length bytes → new ≡ record old { pending = drop count old.pending } → new ≡ taken old
taken_all old new count bytes are is took =
    took ∙ ap (λ (l : List ℕ). record old { pending = l }) (drop_all count old.pending (omega (arith, is, ap length are)))

marks_join : (xs ys : List Step) → marks_of (xs ++ ys) ≡ marks_of xs ++ marks_of ys
marks_join [] ys = refl
marks_join (x ∷ xs) ys = ap (λ (l : List Mark). marks_in x ++ l) (marks_join xs ys) ∙ sym (append_assoc (marks_in x) (marks_of xs) (marks_of ys))

state_join : (site : SiteData) (s : State) (xs ys : List Step) → state_after site s (xs ++ ys) ≡ state_after site (state_after site s xs) ys
state_join site s [] ys = refl
state_join site s (x ∷ xs) ys = state_join site (after_step site s x) xs ys

same_site : {old new : Seat} {marks : List Mark} → Adds old new marks → new.seen.base.site ≡ old.seen.base.site
same_site adds = ap (λ b. b.site) adds.grows.base

adds_join : {a b c : Seat} (xs ys : List Step) → Adds a b (marks_of xs) → Adds b c (marks_of ys) → Adds a c (marks_of (xs ++ ys))
adds_join {a} {b} {c} xs ys p q = subst (Adds a c) (sym (marks_join xs ys)) (adds_more p q)

-- rounds

pub round_of : (old new : Seat) (v u w : View) (more : Bool) → Pumped (shown_in old v) (shown_in new u) more → SameStream v u → w ≡ taken u → Round old new v w more
round_of old new v u w more p same is = record {
  steps = p.steps;
  are = p.some.are;
  rules = p.some.rules;
  adds = subst (Adds old new) (append-nil (marks_of p.steps)) p.some.adds;
  state = ap (λ (x : View). x.state) is ∙ p.state;
  stream = ap (λ (x : View). x.stream) is ∙ same;
  more_is = p.more_is;
}

pub last_round : (old new : Seat) (v w : View) (more : Bool) → Round old new v w more → more ≡ false → Rounds old new v w
last_round old new v w more r none =
    let alone : r.steps ≡ r.steps ++ [] = sym (append-nil r.steps) in record {
      rounds = r.steps ∷ [];
      are = (r.are, r.rules, sym r.more_is ∙ none);
      adds = subst (λ (l : List Step). Adds old new (marks_of l)) alone r.adds;
      state = r.state ∙ ap (state_after old.seen.base.site v.state) alone;
      stream = r.stream;
    }

are_more : (site : SiteData) (s : State) (round : List Step) (rounds : List (List Step)) → ArePopsOf (due s.requests) round → AreSteps site s round → sends round ≡ true
    → AreRounds site (state_after site s round) rounds → AreRounds site s (round ∷ rounds)
are_more site s round [] are rules some more = absurd more
are_more site s round (next ∷ rounds) are rules some more = (are, rules, some, more)

-- the rounds at another site and state that are the same
are_at : (site site' : SiteData) (s s' : State) (rounds : List (List Step)) → site ≡ site' → s ≡ s' → AreRounds site s rounds → AreRounds site' s' rounds
are_at site site' s s' rounds one same are = subst (λ (x : SiteData). AreRounds x s' rounds) one (subst (λ (x : State). AreRounds site x rounds) same are)

state_at_same : (site site' : SiteData) (s s' : State) (steps : List Step) → site ≡ site' → s ≡ s' → state_after site s steps ≡ state_after site' s' steps
state_at_same site site' s s' steps one same = ap₂ (λ (x : SiteData) (y : State). state_after x y steps) one same

pub one_more_round : (old mid new : Seat) (v u w : View) (more : Bool) → Round old mid v u more → more ≡ true → Rounds mid new u w → Rounds old new v w
one_more_round old mid new v u w more r some rs =
    let site = same_site r.adds in record {
      rounds = r.steps ∷ rs.rounds;
      are = are_more old.seen.base.site v.state r.steps rs.rounds r.are r.rules (sym r.more_is ∙ some) (are_at _ _ _ _ rs.rounds site r.state rs.are);
      adds = adds_join r.steps (together rs.rounds) r.adds rs.adds;
      state = rs.state ∙ state_at_same _ _ _ _ (together rs.rounds) site r.state ∙ sym (state_join old.seen.base.site v.state r.steps (together rs.rounds));
      stream = rs.stream ∙ r.stream;
    }

-- pieces

pub piece_of : (old mid new : Seat) (told : Option Moment) (v u x w : View) (piece : List ℕ) → FedOn old mid told v u piece → x ≡ taken u → Rounds mid new x w → Piece old new v w piece
piece_of old mid new told v u x w piece f is rs =
    let p = f.passed in
    let site = same_site p.adds in
    let state : x.state ≡ state_after old.seen.base.site v.state p.steps = ap (λ (y : View). y.state) is ∙ p.state in
    let stream : w.stream ≡ u.stream = rs.stream ∙ ap (λ (y : View). y.stream) is in record {
      heard = p.steps;
      rounds = rs.rounds;
      rules = p.rules;
      events = p.events ∙ ap (λ (l : List Event). events_of p.steps ++ l) f.none ∙ append-nil (events_of p.steps);
      left = ap (λ (y : Assembled). y.left) stream ∙ p.left;
      none = ap (λ (y : Assembled). y.events) stream ∙ f.none;
      are = are_at _ _ _ _ rs.rounds site state rs.are;
      adds = adds_join p.steps (together rs.rounds) p.adds rs.adds;
      state = rs.state ∙ state_at_same _ _ _ _ (together rs.rounds) site state ∙ sym (state_join old.seen.base.site v.state p.steps (together rs.rounds));
    }

split_events : (es : List Event) (left : Result Unfinished FrameFault) (piece : List ℕ) → (fed_on es left piece).events ≡ es ++ (fed_on [] left piece).events
split_events es (Err fault) piece = sym (append-nil es)
split_events es (Ok left) piece = refl

same_left : (es : List Event) (left : Result Unfinished FrameFault) (piece : List ℕ) → (fed_on es left piece).left ≡ (fed_on [] left piece).left
same_left es (Err fault) piece = refl
same_left es (Ok left) piece = refl

-- the stream behind bytes, without their events
fed_behind : (before piece : List ℕ) (stream : Assembled) → IsBehind before stream → fed stream piece ≡ fed_on [] (fed unread before).left piece
fed_behind before piece stream b = ap₂ (λ (es : List Event) (l : Result Unfinished FrameFault). fed_on es l piece) b.none b.left

pub fed_of : (old new : Seat) (v w : View) (before piece : List ℕ) (p : Piece old new v w piece) → IsBehind before v.stream
    → Fed old.seen.base.site v.state before piece (p.heard ++ together p.rounds)
fed_of old new v w before piece p b =
    let start = fed unread before in record {
      heard = p.heard;
      rounds = p.rounds;
      steps_are = refl;
      rules = p.rules;
      completes = sym (ap (λ (x : Assembled). x.events) (fed-join unread before piece)) ∙ split_events start.events start.left piece
          ∙ ap (λ (l : List Event). start.events ++ l) (sym (ap (λ (x : Assembled). x.events) (fed_behind before piece v.stream b)) ∙ p.events);
      rounds_are = p.are;
    }

pub next_behind : (old new : Seat) (v w : View) (before piece : List ℕ) → Piece old new v w piece → IsBehind before v.stream → IsBehind (before ++ piece) w.stream
next_behind old new v w before piece p b =
    let start = fed unread before in record {
      none = p.none;
      left = p.left ∙ ap (λ (x : Assembled). x.left) (fed_behind before piece v.stream b) ∙ sym (same_left start.events start.left piece)
          ∙ ap (λ (x : Assembled). x.left) (fed-join unread before piece);
    }

-- all pieces

no_pieces : (n : ℕ) → pieces_in n [] ≡ []
unfolding pieces_in
no_pieces zero = refl
no_pieces (suc n) = refl

one_piece : (n b : ℕ) (bytes : List ℕ) → pieces_in (suc n) (b ∷ bytes) ≡ take 4096 (b ∷ bytes) ∷ pieces_in n (drop 4096 (b ∷ bytes))
unfolding pieces_in
one_piece n b bytes = refl

first_piece : (n : ℕ) (rest : List ℕ) → 0 < length rest → length rest ≤ n → pieces_in n rest ≡ take 4096 rest ∷ pieces_in (n - 1) (drop 4096 rest)
first_piece n [] some within = absurd (omega (arith, some))
first_piece zero (b ∷ bytes) some within = absurd (omega (arith, within))
first_piece (suc n) (b ∷ bytes) some within =
    let less : n ≡ suc n - 1 = omega arith in
    one_piece n b bytes ∙ ap (λ (m : ℕ). take 4096 (b ∷ bytes) ∷ pieces_in m (drop 4096 (b ∷ bytes))) less

pub fed_nothing : (s : Seat) (v : View) (before rest : List ℕ) (n : ℕ) → IsLegal s.seen → rest ≡ [] → AllFed s s v before (pieces_in n rest)
fed_nothing s v before rest n legal none =
    subst (λ (pieces : List (List ℕ)). AllFed s s v before pieces) (sym (ap (pieces_in n) none ∙ no_pieces n))
    (record { steps = []; are = tt; adds = adds_nothing s legal })

fed_first : (old mid new : Seat) (v u : View) (before piece : List ℕ) (pieces : List (List ℕ)) → Piece old mid v u piece → IsBehind before v.stream
    → AllFed mid new u (before ++ piece) pieces → AllFed old new v before (piece ∷ pieces)
fed_first old mid new v u before piece pieces p b more =
    let steps = p.heard ++ together p.rounds in
    let site = same_site p.adds in record {
      steps = steps ∷ more.steps;
      are = (
        fed_of old mid v u before piece p b,
        subst (λ (s : State). AreFed old.seen.base.site s (before ++ piece) pieces more.steps) p.state
            (subst (λ (x : SiteData). AreFed x u.state (before ++ piece) pieces more.steps) site more.are),
      );
      adds = adds_join steps (together more.steps) p.adds more.adds;
    }

pub fed_last : (old new : Seat) (v w : View) (before rest : List ℕ) (n : ℕ) → Piece old new v w rest → IsBehind before v.stream → 0 < length rest → length rest ≤ 4096 → length rest ≤ n
    → AllFed old new v before (pieces_in n rest)
fed_last old new v w before rest n p b some small within =
    subst (λ (pieces : List (List ℕ)). AllFed old new v before pieces)
    (sym (first_piece n rest some within ∙ ap₂ (λ (x y : List ℕ). x ∷ pieces_in (n - 1) y) (take_all 4096 rest small) (drop_all 4096 rest small)))
    (fed_first old new new v w before rest (pieces_in (n - 1) []) p b (fed_nothing new w (before ++ rest) [] (n - 1) p.adds.legal refl))

pub fed_more : (old mid new : Seat) (v u : View) (before rest : List ℕ) (n : ℕ) → Piece old mid v u (take 4096 rest) → IsBehind before v.stream → 4096 < length rest → length rest ≤ n
    → AllFed mid new u (before ++ take 4096 rest) (pieces_in (n - 1) (drop 4096 rest)) → AllFed old new v before (pieces_in n rest)
fed_more old mid new v u before rest n p b long within more =
    subst (λ (pieces : List (List ℕ)). AllFed old new v before pieces) (sym (first_piece n rest (omega (arith, long)) within))
    (fed_first old mid new v u before (take 4096 rest) (pieces_in (n - 1) (drop 4096 rest)) p b more)

-- The same by what the last call came to.

pub on_more : {E : Type 0} (old mid new : Seat) (v u w : View) (more : Bool) (result : Result (Unit {0}) E) → Round old mid v u more → more ≡ true → OnOk result (Rounds mid new u w)
    → OnOk result (Rounds old new v w)
on_more old mid new v u w more (Ok x) r some rs = one_more_round old mid new v u w more r some rs
on_more old mid new v u w more (Err e) r some rs = tt

pub on_piece : {E : Type 0} (old mid new : Seat) (told : Option Moment) (v u x w : View) (piece : List ℕ) (result : Result (Unit {0}) E) → FedOn old mid told v u piece → x ≡ taken u
    → OnOk result (Rounds mid new x w) → OnOk result (Piece old new v w piece)
on_piece old mid new told v u x w piece (Ok y) f is rs = piece_of old mid new told v u x w piece f is rs
on_piece old mid new told v u x w piece (Err e) f is rs = tt

-- what is to be said of all pieces of the rest
abbrev pub FedBy : {E : Type 0} → Result (Unit {0}) E → Seat → Seat → View → List ℕ → Type 0
FedBy result old new v rest =
    (before : List ℕ) (n : ℕ) → IsBehind before v.stream → length rest ≤ n → OnOk result (AllFed old new v before (pieces_in n rest))

pub on_nothing : (old : Seat) (v : View) (rest : List ℕ) → IsLegal old.seen → length rest ≡ 0 → (before : List ℕ) (n : ℕ) → IsBehind before v.stream → length rest ≤ n
    → AllFed old old v before (pieces_in n rest)
on_nothing old v [] legal none before n behind within = fed_nothing old v before [] n legal refl
on_nothing old v (b ∷ bytes) legal none before n behind within = absurd (omega (arith, none))

pub on_last : {E : Type 0} (old new : Seat) (v w : View) (rest : List ℕ) (result : Result (Unit {0}) E) → 0 < length rest → length rest ≤ 4096 → OnOk result (Piece old new v w rest)
    → FedBy result old new v rest
on_last old new v w rest (Ok x) some small p before n behind within = fed_last old new v w before rest n p behind some small within
on_last old new v w rest (Err e) some small p before n behind within = tt

pub on_first : {E : Type 0} (old mid new : Seat) (v u : View) (rest piece later : List ℕ) (result : Result (Unit {0}) E) → Piece old mid v u piece → 4096 < length rest → piece ≡ take 4096 rest
    → later ≡ drop 4096 rest → FedBy result mid new u later → FedBy result old new v rest
on_first old mid new v u rest piece later (Ok x) p long front is more before n behind within =
    let first : Piece old mid v u (take 4096 rest) = subst (λ (l : List ℕ). Piece old mid v u l) front p in
    let shorter : length later ≤ n - 1 = omega (arith, ap length is, length-drop 4096 rest, long, within) in
    fed_more old mid new v u before rest n first behind long within
    (subst (λ (l : List ℕ). AllFed mid new u (before ++ take 4096 rest) (pieces_in (n - 1) l)) is
    (more (before ++ take 4096 rest) (n - 1) (next_behind old mid v u before (take 4096 rest) first behind) shorter))
on_first old mid new v u rest piece later (Err e) p long front is more before n behind within = tt
