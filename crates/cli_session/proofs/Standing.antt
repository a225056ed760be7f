-- What a client told and sent, over a list of events.
use Rattle.std.proofs.Common.{◌≡◌, ◌⊎◌, inl, inr, ℕ, List, [], ◌∷◌, ◌++◌, take, drop, None, Some, Result, Ok, Err, refl, sym, ap, subst, ◌∙◌, append_assoc}
use Rattle.std.proofs.lemmas.List.{append-nil, take-append-drop}
use Rattle.pva_frames.specs.declared.event.Event.{Event}
use Rattle.pvd_codec.specs.Written.{CanEach}
use Rattle.cli_session.specs.Calls.{Faults, Took, Keeps, Handled, Failed, Handles, Accounts, Stands, Fell, Continues, Gives}
use Rattle.cli_session.specs.Laws.{CanWrite}
use Rattle.cli_session.specs.Messages.{Written, spelled, written_bytes}
use Rattle.cli_session.specs.State.{State, opening}
use Rattle.cli_session.specs.Steps.{Told, Taken, Run, written_of, bytes_of, and_then, going_on, step, run, client_run, client_told, client_sent, client_bytes, client_fault}
use Rattle.cli_session.specs.Text.{text_of}
use Rattle.cli_session.specs.Views.{View}
use Rattle.cli_session.specs.declared.ask.Ask.{Ask}
use Rattle.cli_session.specs.declared.fault.ClientFault.{ClientFault}
use Rattle.cli_session.specs.declared.fault.ClientFault.TheVariants.{UnknownReply, WrongCommand, WrongPhase, Message, Words, NoMemory}

-- a run, and then another
abbrev joined : Run → Run → Run
joined a b = record { state = b.state; told = a.told ++ b.told; sent = a.sent ++ b.sent; fault = b.fault }

then_joined : (t : Taken) (a b : Run) → and_then t (joined a b) ≡ joined (and_then t a) b
then_joined t a b =
    let made : List Told → List Written → Run = λ told sent. record { state = b.state; told = told; sent = sent; fault = b.fault } in
    ap (λ (told : List Told). made told (written_of t ++ (a.sent ++ b.sent))) (sym (append_assoc t.told a.told b.told))
    ∙ ap (made ((t.told ++ a.told) ++ b.told)) (sym (append_assoc (written_of t) a.sent b.sent))

written_append : (xs ys : List Written) → written_bytes (xs ++ ys) ≡ written_bytes xs ++ written_bytes ys
written_append [] ys = refl
written_append (x ∷ xs) ys =
    let bytes = spelled x.order x.segment x.sent in
    ap (λ (zs : List ℕ). bytes ++ zs) (written_append xs ys) ∙ sym (append_assoc bytes (written_bytes xs) (written_bytes ys))

can_append : (xs ys : List Written) → CanEach CanWrite xs → CanEach CanWrite ys → CanEach CanWrite (xs ++ ys)
can_append [] ys cx cy = cy
can_append (x ∷ xs) ys cx cy = (cx.0, can_append xs ys cx.1 cy)

-- what is told is what is printed
accounts_of : (ask : Ask) (events : List Event) (given : List Told) (taken : List ℕ) (v : View) → given ++ v.told ≡ client_told ask events → taken ++ v.output ≡ client_bytes ask events
    → CanEach CanWrite (client_sent ask events) → Accounts ask events given taken v
accounts_of ask events given taken v told bytes can = record { told = told; text = ap (text_of ask) told; bytes = bytes; written = can }

-- something was handed out, or taken
pub handed : (ask : Ask) (events : List Event) (given : List Told) (taken : List ℕ) (old new : View) (g : List Told) → Gives old new g → Accounts ask events given taken old → Accounts ask events (given ++ g) taken new
handed ask events given taken old new g gives a =
    accounts_of ask events (given ++ g) taken new (append_assoc given g new.told ∙ ap (λ (xs : List Told). given ++ xs) (sym gives.told) ∙ a.told)
    (ap (λ (v : View). taken ++ v.output) gives.others ∙ a.bytes) a.written

pub taken_more : (ask : Ask) (events : List Event) (given : List Told) (taken : List ℕ) (old new : View) (n : ℕ) → new ≡ record old { output = drop n old.output } → Accounts ask events given taken old
    → Accounts ask events given (taken ++ take n old.output) new
taken_more ask events given taken old new n is a =
    accounts_of ask events given (taken ++ take n old.output) new (ap (λ (v : View). given ++ v.told) is ∙ a.told)
    (ap (λ (v : View). (taken ++ take n old.output) ++ v.output) is ∙ append_assoc taken (take n old.output) (drop n old.output)
    ∙ ap (λ (xs : List ℕ). taken ++ xs) (take-append-drop n old.output) ∙ a.bytes)
    a.written

-- a client that hasn't failed stands where it stood
pub handed_stands : (ask : Ask) (events : List Event) (given : List Told) (taken : List ℕ) (old new : View) (g : List Told) → Gives old new g → Stands ask events given taken old → Stands ask events (given ++ g) taken new
handed_stands ask events given taken old new g gives s = record {
  unfailed = ap (λ (v : View). v.fault) gives.others ∙ s.unfailed;
  readable = s.readable;
  state = ap (λ (v : View). v.state) gives.others ∙ s.state;
  accounts = handed ask events given taken old new g gives s.accounts;
}

pub taken_stands : (ask : Ask) (events : List Event) (given : List Told) (taken : List ℕ) (old new : View) (n : ℕ) → new ≡ record old { output = drop n old.output } → Stands ask events given taken old
    → Stands ask events given (taken ++ take n old.output) new
taken_stands ask events given taken old new n is s = record {
  unfailed = ap (λ (v : View). v.fault) is ∙ s.unfailed;
  readable = s.readable;
  state = ap (λ (v : View). v.state) is ∙ s.state;
  accounts = taken_more ask events given taken old new n is s.accounts;
}

module _ (ask : Ask) where
  step_append : (s : State) (r : Result Taken ClientFault) (es fs : List Event)
      → ((t : State) → (run ask t es).fault ≡ None → run ask t (es ++ fs) ≡ joined (run ask t es) (run ask (run ask t es).state fs))
      → (going_on s r (λ t. run ask t es)).fault ≡ None
      → going_on s r (λ t. run ask t (es ++ fs)) ≡ joined (going_on s r (λ t. run ask t es)) (run ask (going_on s r (λ t. run ask t es)).state fs)
  step_append s (Ok t) es fs more fine = ap (and_then t) (more t.state fine) ∙ then_joined t (run ask t.state es) (run ask (run ask t.state es).state fs)
  step_append s (Err f) es fs more fine = absurd cc

  -- the events before the first that isn't taken, and then more
  run_append : (es fs : List Event) (s : State) → (run ask s es).fault ≡ None → run ask s (es ++ fs) ≡ joined (run ask s es) (run ask (run ask s es).state fs)
  run_append [] fs s fine = refl
  run_append (e ∷ es) fs s fine = step_append s (step ask s e) es fs (λ t. run_append es fs t) fine

  module _ (events : List Event) (given : List Told) (taken : List ℕ) (old new : View) (e : Event) (stands : Stands ask events given taken old) where
    behind : List Event → Run
    behind more = run ask (client_run ask events).state (e ∷ more)

    goes_on : (more : List Event) → client_run ask (events ++ e ∷ more) ≡ joined (client_run ask events) (run ask (client_run ask events).state (e ∷ more))
    goes_on more = run_append events (e ∷ more) (opening ask) stands.readable

    step_is : (r : Result Taken ClientFault) → step ask old.state e ≡ r → step ask (client_run ask events).state e ≡ r
    step_is r is = ap (λ (s : State). step ask s e) (sym stands.state) ∙ is

    module _ (h : Handled ask old new e) where
      abbrev one : Run
      one = going_on (client_run ask events).state (Ok h.taken) (λ t. run ask t [])

      run_is : client_run ask (events ++ e ∷ []) ≡ joined (client_run ask events) one
      run_is =
          goes_on []
          ∙ ap (λ (r : Result Taken ClientFault). joined (client_run ask events) (going_on (client_run ask events).state r (λ t. run ask t []))) (step_is (Ok h.taken) h.is)

      stands_on : Stands ask (events ++ e ∷ []) given taken new
      stands_on = record {
        unfailed = h.fault;
        readable = ap (λ (r : Run). r.fault) run_is;
        state = h.state ∙ sym (ap (λ (r : Run). r.state) run_is);
        accounts = accounts_of ask (events ++ e ∷ []) given taken new told bytes can;
      } where
        sent_is : (client_run ask events).sent ++ written_of h.taken ≡ client_sent ask (events ++ e ∷ [])
        sent_is = ap (λ (xs : List Written). (client_run ask events).sent ++ xs) (sym (append-nil (written_of h.taken))) ∙ sym (ap (λ (r : Run). r.sent) run_is)

        told : given ++ new.told ≡ client_told ask (events ++ e ∷ [])
        told =
            ap (λ (xs : List Told). given ++ xs) h.told ∙ sym (append_assoc given old.told h.taken.told)
            ∙ ap (λ (xs : List Told). xs ++ h.taken.told) stands.accounts.told
            ∙ ap (λ (xs : List Told). (client_run ask events).told ++ xs) (sym (append-nil h.taken.told))
            ∙ sym (ap (λ (r : Run). r.told) run_is)

        bytes : taken ++ new.output ≡ client_bytes ask (events ++ e ∷ [])
        bytes =
            ap (λ (xs : List ℕ). taken ++ xs) h.output ∙ sym (append_assoc taken old.output (bytes_of h.taken))
            ∙ ap (λ (xs : List ℕ). xs ++ bytes_of h.taken) stands.accounts.bytes
            ∙ sym (written_append (client_run ask events).sent (written_of h.taken))
            ∙ ap written_bytes sent_is

        can : CanEach CanWrite (client_sent ask (events ++ e ∷ []))
        can = subst (CanEach CanWrite) sent_is (can_append (client_run ask events).sent (written_of h.taken) stands.accounts.written h.written)

    module _ (f : ClientFault) (h : Failed ask old new e f) where
      refused : step ask old.state e ≡ Err f → (more : List Event) → client_fault ask (events ++ e ∷ more) ≡ Some f
      refused is more =
          ap (λ (r : Run). r.fault) (goes_on more)
          ∙ ap (λ (r : Result Taken ClientFault). (going_on (client_run ask events).state r (λ t. run ask t more)).fault) (step_is (Err f) is)

      fell : ((f ≡ NoMemory) ⊎ ((more : List Event) → client_fault ask (events ++ e ∷ more) ≡ Some f)) → Fell ask events given taken new e f
      fell why = record {
        fault = h.fault;
        why = why;
        accounts =
            accounts_of ask events given taken new (ap (λ (xs : List Told). given ++ xs) h.told ∙ stands.accounts.told)
            (ap (λ (xs : List ℕ). taken ++ xs) h.output ∙ stands.accounts.bytes) stands.accounts.written;
      }

    -- want of memory, or the fault that was to come
    cause : (f : ClientFault) → Failed ask old new e f → Faults f (step ask old.state e) → (f ≡ NoMemory) ⊎ ((more : List Event) → client_fault ask (events ++ e ∷ more) ≡ Some f)
    cause NoMemory h is = inl refl
    cause (UnknownReply id) h is = inr (refused (UnknownReply id) h is)
    cause (WrongCommand have came) h is = inr (refused (WrongCommand have came) h is)
    cause (WrongPhase command) h is = inr (refused (WrongPhase command) h is)
    cause (Message fault) h is = inr (refused (Message fault) h is)
    cause (Words fault) h is = inr (refused (Words fault) h is)

    why_of : (f : ClientFault) → Failed ask old new e f → ((old.fault ≡ Some f) ⊎ ((old.fault ≡ None) × Faults f (step ask old.state e)))
        → (f ≡ NoMemory) ⊎ ((more : List Event) → client_fault ask (events ++ e ∷ more) ≡ Some f)
    why_of f h (inl before) = let e : Some f ≡ None = sym before ∙ stands.unfailed in absurd cc
    why_of f h (inr now) = cause f h now.1

    pub continues : (result : Result (Unit {0}) ClientFault) → Handles ask old new e result → Continues ask events given taken new e result
    continues (Ok u) h = stands_on h
    continues (Err f) h = fell f h (why_of f h h.why)

-- How an event is taken, between the view before it, and the same with another state.
module _ (ask : Ask) (old new : View) (e : Event) (state : State) (unfailed : old.fault ≡ None) where
  abbrev mid : View
  mid = record old { state = state }

  -- what it brought about was kept, or there was no memory for it
  pub kept : (bytes : List ℕ) (told : List Told) (result : Result (Unit {0}) ClientFault) → Took (step ask old.state e) state [] bytes told → Keeps mid new bytes told result → Handles ask old new e result
  kept bytes told (Ok u) took is = record {
    unfailed = unfailed;
    taken = took.taken;
    is = took.is;
    state = ap (λ (v : View). v.state) is ∙ took.went.state;
    told = ap (λ (v : View). v.told) is ∙ ap (λ (xs : List Told). old.told ++ xs) took.told_is;
    output = ap (λ (v : View). v.output) is ∙ ap (λ (xs : List ℕ). old.output ++ xs) took.went.bytes;
    written = took.went.written;
    fault = ap (λ (v : View). v.fault) is ∙ unfailed;
  }
  kept bytes told (Err f) took (none, is) = record {
    fault = ap (λ (v : View). v.fault) is ∙ ap Some (sym none);
    why = inr (unfailed, subst (λ (g : ClientFault). Faults g (step ask old.state e)) (sym none) tt);
    told = ap (λ (v : View). v.told) is;
    output = ap (λ (v : View). v.output) is;
  }

  -- it has this fault
  pub not_taken : (f : ClientFault) (result : Result (Unit {0}) ClientFault) → result ≡ Err f → Faults f (step ask old.state e) → new ≡ record mid { fault = Some f } → Handles ask old new e result
  not_taken f result failed why is =
      subst (λ (r : Result (Unit {0}) ClientFault). Handles ask old new e r) (sym failed) (record {
        fault = ap (λ (v : View). v.fault) is;
        why = inr (unfailed, why);
        told = ap (λ (v : View). v.told) is;
        output = ap (λ (v : View). v.output) is;
      })
