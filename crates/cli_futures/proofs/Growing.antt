-- A client that hears more events tells and sends more; and more bytes only add events.
use Rattle.std.proofs.Common.{◌≡◌, ℕ, List, [], ◌∷◌, ◌++◌, None, Some, Result, Ok, Err, refl, sym, ◌∙◌, ap, append_assoc}
use Rattle.std.proofs.lemmas.Option.{none-some}
use Rattle.histories.specs.History.{IsPrefixOf}
use Rattle.pva_frames.proofs.Cutting.{cut-none}
use Rattle.pva_frames.proofs.Joins.{fed-join}
use Rattle.pva_frames.specs.Assembled.{Assembled, fed, fed_on, opening as unread}
use Rattle.pva_frames.specs.Frames.{Cut, cut, uncut}
use Rattle.pva_frames.specs.Laws.{stream}
use Rattle.pva_frames.specs.Messages.{Unfinished, events_from, events_of, left_by, left_from, standing_after}
use Rattle.pva_frames.specs.declared.event.Event.{Event}
use Rattle.pva_frames.specs.declared.fault.FrameFault.{FrameFault}
use Rattle.cli_session.specs.Messages.{Written, spelled, written_bytes}
use Rattle.cli_session.specs.State.{State, opening}
use Rattle.cli_session.specs.Steps.{Told, Taken, Run, run, going_on, step, written_of, client_told, client_sent, client_bytes, client_fault}
use Rattle.cli_session.specs.declared.ask.Ask.{Ask}
use Rattle.cli_session.specs.declared.fault.ClientFault.{ClientFault}

-- Fronts of lists.

pub front_all : {A : Type 0} {xs ys : List A} → xs ++ [] ≡ ys → IsPrefixOf xs ys
front_all {A} {xs} {ys} is = record { rest = []; whole = sym is }

pub front_on : {A : Type 0} {xs ys zs : List A} → IsPrefixOf xs ys → IsPrefixOf ys zs → IsPrefixOf xs zs
front_on {A} {xs} {ys} {zs} a b = record {
  rest = a.rest ++ b.rest;
  whole = b.whole ∙ ap (λ (l : List A). l ++ b.rest) a.whole ∙ append_assoc xs a.rest b.rest;
}

-- One run goes on where another stops: it tells and sends what that does, and more.
record Grows (a b : Run) : Type 0 where
  told : List Told
  told_is : b.told ≡ a.told ++ told
  sent : List Written
  sent_is : b.sent ≡ a.sent ++ sent

grows_on : (ask : Ask) (s : State) (o : Result Taken ClientFault) (xs ys : List Event) → ((t : State) → Grows (run ask t xs) (run ask t (xs ++ ys)))
    → Grows (going_on s o (λ t. run ask t xs)) (going_on s o (λ t. run ask t (xs ++ ys)))
grows_on ask s (Err f) xs ys more = record { told = []; told_is = refl; sent = []; sent_is = refl }
grows_on ask s (Ok t) xs ys more = let g = more t.state in record {
  told = g.told;
  told_is = ap (λ (l : List Told). t.told ++ l) g.told_is ∙ sym (append_assoc t.told (run ask t.state xs).told g.told);
  sent = g.sent;
  sent_is = ap (λ (l : List Written). written_of t ++ l) g.sent_is ∙ sym (append_assoc (written_of t) (run ask t.state xs).sent g.sent);
}

grows : (ask : Ask) (s : State) (xs ys : List Event) → Grows (run ask s xs) (run ask s (xs ++ ys))
grows ask s [] ys = record { told = (run ask s ys).told; told_is = refl; sent = (run ask s ys).sent; sent_is = refl }
grows ask s (e ∷ xs) ys = grows_on ask s (step ask s e) xs ys (λ t. grows ask t xs ys)

pub told_grows : (ask : Ask) (xs ys : List Event) → IsPrefixOf (client_told ask xs) (client_told ask (xs ++ ys))
told_grows ask xs ys = let g = grows ask (opening ask) xs ys in record { rest = g.told; whole = g.told_is }

bytes_append : (xs ys : List Written) → written_bytes (xs ++ ys) ≡ written_bytes xs ++ written_bytes ys
bytes_append [] ys = refl
bytes_append (w ∷ xs) ys =
    let one = spelled w.order w.segment w.sent in
    ap (λ (l : List ℕ). one ++ l) (bytes_append xs ys) ∙ sym (append_assoc one (written_bytes xs) (written_bytes ys))

pub bytes_grow : (ask : Ask) (xs ys : List Event) → IsPrefixOf (client_bytes ask xs) (client_bytes ask (xs ++ ys))
bytes_grow ask xs ys =
    let g = grows ask (opening ask) xs ys in
    record { rest = written_bytes g.sent; whole = ap written_bytes g.sent_is ∙ bytes_append (client_sent ask xs) g.sent }

-- Behind an event that isn't taken nothing more is told.

stays_on : (ask : Ask) (s : State) (o : Result Taken ClientFault) (more : List Event) (f : ClientFault) → (going_on s o (λ t. run ask t [])).fault ≡ Some f → (going_on s o (λ t. run ask t more)).told ≡ []
stays_on ask s (Ok t) more f is = absurd (none-some f is)
stays_on ask s (Err g) more f is = refl

stays_by : (ask : Ask) (s : State) (o : Result Taken ClientFault) (xs : List Event) (e : Event) (more : List Event) (f : ClientFault)
    → ((t : State) → (run ask t xs).fault ≡ None → (run ask t (xs ++ e ∷ [])).fault ≡ Some f → (run ask t (xs ++ e ∷ more)).told ≡ (run ask t xs).told)
    → (going_on s o (λ t. run ask t xs)).fault ≡ None → (going_on s o (λ t. run ask t (xs ++ e ∷ []))).fault ≡ Some f
    → (going_on s o (λ t. run ask t (xs ++ e ∷ more))).told ≡ (going_on s o (λ t. run ask t xs)).told
stays_by ask s (Ok t) xs e more f later none some = ap (λ (z : List Told). t.told ++ z) (later t.state none some)
stays_by ask s (Err g) xs e more f later none some = absurd (none-some g (sym none))

stays : (ask : Ask) (s : State) (xs : List Event) (e : Event) (more : List Event) (f : ClientFault) → (run ask s xs).fault ≡ None → (run ask s (xs ++ e ∷ [])).fault ≡ Some f
    → (run ask s (xs ++ e ∷ more)).told ≡ (run ask s xs).told
stays ask s [] e more f none some = stays_on ask s (step ask s e) more f some
stays ask s (x ∷ xs) e more f none some = stays_by ask s (step ask s x) xs e more f (λ t. stays ask t xs e more f) none some

pub told_stays : (ask : Ask) (xs : List Event) (e : Event) (more : List Event) (f : ClientFault) → client_fault ask xs ≡ None → client_fault ask (xs ++ e ∷ []) ≡ Some f → client_told ask (xs ++ e ∷ more) ≡ client_told ask xs
told_stays ask xs e more f none some = stays ask (opening ask) xs e more f none some

-- Bytes of a stream.

-- events that stand before
before_fed : (es fs : List Event) (left : Result Unfinished FrameFault) (ys : List ℕ) → fed_on (es ++ fs) left ys ≡ (let b = fed_on fs left ys in let a : Assembled = record { events = es ++ b.events; left = b.left } in a)
before_fed es fs (Err fault) ys = refl
before_fed es fs (Ok l) ys = ap (λ (e : List Event). let a : Assembled = record { events = e; left = left_from l.place l.run (l.held ++ ys) } in a) (append_assoc es fs (events_from l.place l.run (l.held ++ ys)))

-- what more bytes bring, where the first of the events are these and u stands for the others
pub joined : (u : Assembled) (es : List Event) (xs ys : List ℕ) → (stream xs).events ≡ es ++ u.events → u.left ≡ (stream xs).left
    → stream (xs ++ ys) ≡ (let b : Assembled = record { events = es ++ (fed u ys).events; left = (fed u ys).left } in b)
joined u es xs ys events left =
    let is : fed unread xs ≡ (let b : Assembled = record { events = es ++ u.events; left = u.left } in b) = λ i. record { events = events i; left = sym left i } in
    sym (fed-join unread xs ys) ∙ ap (λ (b : Assembled). fed_on b.events b.left ys) is ∙ before_fed es u.events u.left ys

-- no byte brings nothing
pub unread_is : stream [] ≡ unread
unfolding left_from events_of standing_after
unread_is =
    let none : cut 0 [] ≡ uncut 0 [] = cut-none 0 [] refl in
    ap (λ (c : Cut). let a : Assembled = record { events = events_of (Ok None) c.frames; left = left_by (standing_after (Ok None) c.frames) c.place c.held } in a) none
