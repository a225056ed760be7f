-- A client that hears more events tells and sends more.
use Rattle.std.proofs.Common.{◌≡◌, ℕ, List, [], ◌∷◌, ◌++◌, None, Some, Result, Ok, Err, refl, sym, ◌∙◌, ap, append_assoc}
use Rattle.std.proofs.lemmas.Grind.{flat_map-append}
use Rattle.std.proofs.lemmas.Option.{none-some}
use Rattle.histories.specs.History.{IsPrefixOf}
use Rattle.pva_frames.specs.declared.event.Event.{Event}
use Rattle.cli_session.specs.Messages.{Written}
use Rattle.cli_session.specs.State.{State, opening}
use Rattle.cli_session.specs.Steps.{Told, Taken, Run, run, going_on, step, written_of, client_told, client_sent, client_fault}
use Rattle.cli_session.specs.Text.{told_text, client_text, text_of}
use Rattle.cli_session.specs.declared.ask.Ask.{Ask}
use Rattle.cli_session.specs.declared.fault.ClientFault.{ClientFault}
use Rattle.cli_within.specs.Telling.{lines_of}

-- One run goes on where another stops: it tells and sends what that does, and more.
record Grows (a b : Run) : Type 0 where
  told : List Told
  told_is : b.told ≡ a.told ++ told
  sent : List Written
  sent_is : b.sent ≡ a.sent ++ sent

grows_on : (ask : Ask) (s : State) (o : Result Taken ClientFault) (xs ys : List Event) → ((t : State) → Grows (run ask t xs) (run ask t (xs ++ ys)))
    → Grows (going_on s o (λ t. run ask t xs)) (going_on s o (λ t. run ask t (xs ++ ys)))
grows_on ask s (Err f) xs ys more = record { told = []; told_is = refl; sent = []; sent_is = refl }
grows_on ask s (Ok t) xs ys more = let g = more t.state in record {
  told = g.told;
  told_is = ap (λ (l : List Told). t.told ++ l) g.told_is ∙ sym (append_assoc t.told (run ask t.state xs).told g.told);
  sent = g.sent;
  sent_is = ap (λ (l : List Written). written_of t ++ l) g.sent_is ∙ sym (append_assoc (written_of t) (run ask t.state xs).sent g.sent);
}

grows : (ask : Ask) (s : State) (xs ys : List Event) → Grows (run ask s xs) (run ask s (xs ++ ys))
grows ask s [] ys = record { told = (run ask s ys).told; told_is = refl; sent = (run ask s ys).sent; sent_is = refl }
grows ask s (e ∷ xs) ys = grows_on ask s (step ask s e) xs ys (λ t. grows ask t xs ys)

pub told_grows : (ask : Ask) (xs ys : List Event) → IsPrefixOf (client_told ask xs) (client_told ask (xs ++ ys))
told_grows ask xs ys = let g = grows ask (opening ask) xs ys in record { rest = g.told; whole = g.told_is }

pub sent_grows : (ask : Ask) (xs ys : List Event) → (more : List Written) × (client_sent ask (xs ++ ys) ≡ client_sent ask xs ++ more)
sent_grows ask xs ys = let g = grows ask (opening ask) xs ys in (g.sent, g.sent_is)

-- The text of what is told.
pub text_more : (ask : Ask) (a b more : List Told) → b ≡ a ++ more → text_of ask b ≡ text_of ask a ++ lines_of more
text_more ask a b more is =
    ap (text_of ask) is ∙ ap (λ (z : List ℕ). (ask.name ++ 10 ∷ []) ++ z) (flat_map-append told_text a more)
    ∙ sym (append_assoc (ask.name ++ 10 ∷ []) (lines_of a) (lines_of more))

pub text_grows : (ask : Ask) (xs ys : List Event) → IsPrefixOf (client_text ask xs) (client_text ask (xs ++ ys))
text_grows ask xs ys =
    let g = told_grows ask xs ys in
    record { rest = lines_of g.rest; whole = text_more ask (client_told ask xs) (client_told ask (xs ++ ys)) g.rest g.whole }

-- Behind an event that isn't taken nothing more is told or sent.

stays_on : (ask : Ask) (s : State) (o : Result Taken ClientFault) (more : List Event) (f : ClientFault) → (going_on s o (λ t. run ask t [])).fault ≡ Some f
    → ((going_on s o (λ t. run ask t more)).told ≡ []) × ((going_on s o (λ t. run ask t more)).sent ≡ [])
stays_on ask s (Ok t) more f is = absurd (none-some f is)
stays_on ask s (Err g) more f is = (refl, refl)

stays_by : (ask : Ask) (s : State) (o : Result Taken ClientFault) (xs : List Event) (e : Event) (more : List Event) (f : ClientFault)
    → ((t : State) → (run ask t xs).fault ≡ None → (run ask t (xs ++ e ∷ [])).fault ≡ Some f → ((run ask t (xs ++ e ∷ more)).told ≡ (run ask t xs).told) × ((run ask t (xs ++ e ∷ more)).sent ≡ (run ask t xs).sent))
    → (going_on s o (λ t. run ask t xs)).fault ≡ None → (going_on s o (λ t. run ask t (xs ++ e ∷ []))).fault ≡ Some f
    → ((going_on s o (λ t. run ask t (xs ++ e ∷ more))).told ≡ (going_on s o (λ t. run ask t xs)).told) × ((going_on s o (λ t. run ask t (xs ++ e ∷ more))).sent ≡ (going_on s o (λ t. run ask t xs)).sent)
stays_by ask s (Ok t) xs e more f later none some = let l = later t.state none some in (ap (λ (z : List Told). t.told ++ z) l.0, ap (λ (z : List Written). written_of t ++ z) l.1)
stays_by ask s (Err g) xs e more f later none some = absurd (none-some g (sym none))

stays : (ask : Ask) (s : State) (xs : List Event) (e : Event) (more : List Event) (f : ClientFault) → (run ask s xs).fault ≡ None → (run ask s (xs ++ e ∷ [])).fault ≡ Some f
    → ((run ask s (xs ++ e ∷ more)).told ≡ (run ask s xs).told) × ((run ask s (xs ++ e ∷ more)).sent ≡ (run ask s xs).sent)
stays ask s [] e more f none some = stays_on ask s (step ask s e) more f some
stays ask s (x ∷ xs) e more f none some = stays_by ask s (step ask s x) xs e more f (λ t. stays ask t xs e more f) none some

pub text_stays : (ask : Ask) (xs : List Event) (e : Event) (more : List Event) (f : ClientFault) → client_fault ask xs ≡ None → client_fault ask (xs ++ e ∷ []) ≡ Some f → client_text ask (xs ++ e ∷ more) ≡ client_text ask xs
text_stays ask xs e more f none some = ap (text_of ask) (stays ask (opening ask) xs e more f none some).0
