-- What a client of a monitor sends while it takes updates: acknowledgements, echoes, and the end of its request.
use Rattle.std.proofs.Common.{◌≡◌, ℕ, ◌==◌, Bool, true, false, cond, List, [], ◌∷◌, ◌++◌, map, Option, None, Some, Result, Ok, Err, refl, sym, ap, subst, inl, inr}
use Rattle.std.specs.Prelude.{◌⊎◌, nat_lt, ◌-◌}
use Rattle.std.specs.FinSet.{FinSet}
use Rattle.std.specs.Ordering.{nat_cmp}
use Rattle.pva_wire.specs.declared.order.Order.{Order}
use Rattle.pva_wire.specs.declared.status.Status.{Status}
use Rattle.pva_frames.specs.declared.event.Whole.{Whole}
use Rattle.pva_frames.specs.declared.event.Event.{Event}
use Rattle.pva_frames.specs.declared.event.Event.TheVariants.{Message, Control}
use Rattle.pvd_codec.specs.Reading.{Read, State as Source}
use Rattle.pvd_codec.specs.Written.{CanEach}
use Rattle.pva_messages.specs.Fields.{PartData}
use Rattle.pva_messages.specs.Replies as replies
use Rattle.pva_messages.specs.Replies.{Reply}
use Rattle.pva_messages.specs.Reading.{reply_at, request_id}
use Rattle.pva_messages.specs.Requests as requests
use Rattle.pva_messages.specs.Rows.{byte_of}
use Rattle.pva_messages.specs.Subcommands.{begins, ends, carries}
use Rattle.pva_messages.specs.declared.command.Command.TheVariants as command
use Rattle.srv_session.specs.Tasks.{started_by}
use Rattle.cli_session.specs.Answers.{done, refused, update, answer_of, foreign_id}
use Rattle.cli_session.specs.Messages.{Sent, said, control, Written, written, end_of, acknowledgement, window_of}
use Rattle.cli_session.specs.State.{State}
use Rattle.cli_session.specs.Steps.{Told, Taken, quietly, echoing, saying, finished, ended, update_told, refusal, finish, answered, replied, heard, is_reply, type_for, in_order, going_on, step, step_at, run, written_of}
use Rattle.cli_session.specs.declared.ask.Ask.{Ask}
use Rattle.cli_session.specs.declared.fault.ClientFault.{ClientFault}
use Rattle.cli_session.specs.declared.fault.ClientFault.TheVariants.{WrongPhase}
use Rattle.cli_session.specs.declared.turn.Turn.{Turn}
use Rattle.cli_session.specs.declared.turn.Turn.TheVariants as turn

-- an echo, a message that steers the monitor and doesn't stop it, or the end of its request
abbrev pub IsMild : ℕ → Sent → Type 0
IsMild sid x =
    ((number : ℕ) × (x ≡ control 4 number))
    ⊎ (((sub : ℕ) × (count : Option ℕ) × (begins sub ≡ false) × (ends sub ≡ false) × (started_by sub true ≡ true) × (x ≡ said (requests.monitor sid 1 sub None count)))
    ⊎ (x ≡ said (requests.destroy_request sid 1)))

abbrev pub IsMildWritten : ℕ → Written → Type 0
IsMildWritten sid w = IsMild sid w.sent

-- a client that takes updates, or has ended
pub record Steady (sid : ℕ) (d : State) : Type 0 where
  pub sid_is : d.sid ≡ sid
  pub req_is : d.req ≡ Some 1
  pub turns_are : (d.turns ≡ turn.Updates ∷ []) ⊎ (d.turns ≡ [])

module _ (ask : Ask) (sid : ℕ) where
  abbrev MildTaken : Result Taken ClientFault → Type 0
  MildTaken (Ok t) = CanEach (IsMild sid) t.sent × Steady sid t.state
  MildTaken (Err fault) = Unit {0}

  acks_mild : (n : ℕ) → n ≡ sid → (w : Option ℕ) → CanEach (IsMild sid) (map said (acknowledgement n w))
  acks_mild n is None = tt
  acks_mild n is (Some free) = (inr (inl (0x80, Some 1, refl, refl, refl, ap (λ (k : ℕ). said (requests.monitor k 1 0x80 None (Some 1))) is)), tt)

  end_mild : (n : ℕ) → n ≡ sid → (r : Option ℕ) → r ≡ Some 1 → CanEach (IsMild sid) (map said (end_of n r))
  end_mild n is r own = subst (λ (q : Option ℕ). CanEach (IsMild sid) (map said (end_of n q))) (sym own) (inr (inr (ap (λ (k : ℕ). said (requests.destroy_request k 1)) is)), tt)

  ended_mild : (d : State) → Steady sid d → (told : List Told) → MildTaken (Ok (ended d turn.Updates told))
  ended_mild d steady told = (end_mild d.sid steady.sid_is d.req steady.req_is, record { sid_is = steady.sid_is; req_is = steady.req_is; turns_are = inr refl })

  updated_mild : (d : State) → Steady sid d → (told : List Told) (w : Option ℕ) (b : Bool) → MildTaken (Ok (cond b (saying (record d { left = d.left - 1 }) (acknowledgement d.sid w) told) (finished d turn.Updates told)))
  updated_mild d steady told w true = (acks_mild d.sid steady.sid_is w, record { sid_is = steady.sid_is; req_is = steady.req_is; turns_are = steady.turns_are })
  updated_mild d steady told w false = (end_mild d.sid steady.sid_is d.req steady.req_is, record { sid_is = steady.sid_is; req_is = steady.req_is; turns_are = inr refl })

  update_mild : (d : State) → Steady sid d → (u : Option (PartData × FinSet nat_cmp)) (fault : ClientFault) (b : Bool) → MildTaken (answered ask d turn.Updates [] (cond b (Ok (update u)) (Err fault)))
  update_mild d steady u fault true = updated_mild d steady (update_told u) (window_of ask.operation) (nat_lt 1 d.left)
  update_mild d steady u fault false = tt

  stop_mild : (d : State) → Steady sid d → (status : Status) (fault : ClientFault) (b carried : Bool) → MildTaken (answered ask d turn.Updates [] (cond b (Ok (cond carried done (refused status))) (Err fault)))
  stop_mild d steady status fault true true = ended_mild d steady (finish ∷ [])
  stop_mild d steady status fault true false = ended_mild d steady (refusal status ∷ [])
  stop_mild d steady status fault false carried = tt

  answer_mild : (d : State) → Steady sid d → (r : Reply) → MildTaken (answered ask d turn.Updates [] (answer_of turn.Updates r))
  answer_mild d steady (replies.monitor_update req sub u) = update_mild d steady u (WrongPhase (byte_of command.Monitor)) (sub == 0x00)
  answer_mild d steady (replies.monitor_end req sub status) = stop_mild d steady status (WrongPhase (byte_of command.Monitor)) (sub == 0x10) (carries status)
  answer_mild d steady r = tt

  reply_mild : (d : State) → Steady sid d → (r : Reply) (foreign : Option ℕ) → MildTaken (replied ask d turn.Updates [] r foreign)
  reply_mild d steady r (Some id) = tt
  reply_mild d steady r None = answer_mild d steady r

  read_mild : (d : State) → Steady sid d → (whole : Whole) (read : Read Source Reply) → MildTaken (heard ask d turn.Updates [] whole read)
  read_mild d steady whole (Ok (r, (rest, types))) =
      reply_mild (record d { types = types }) (record { sid_is = steady.sid_is; req_is = steady.req_is; turns_are = steady.turns_are }) r (foreign_id (record d { types = types }) r)
  read_mild d steady whole (Err f) = tt

  whole_mild : (d : State) → Steady sid d → (whole : Whole) (b : Bool) (read : Read Source Reply) → MildTaken (cond b (heard ask d turn.Updates [] whole read) (Ok (quietly d)))
  whole_mild d steady whole true read = read_mild d steady whole read
  whole_mild d steady whole false read = (tt, steady)

  control_mild : (d : State) → Steady sid d → (number : ℕ) (a b : Bool) → MildTaken (Ok (cond a (quietly (record d { order_told = true })) (cond b (echoing d number) (quietly d))))
  control_mild d steady number true b = (tt, record { sid_is = steady.sid_is; req_is = steady.req_is; turns_are = steady.turns_are })
  control_mild d steady number false true = ((inl (number, refl), tt), steady)
  control_mild d steady number false false = (tt, steady)

  step_mild : (d : State) → Steady sid d → (ts : List Turn) → ((ts ≡ turn.Updates ∷ []) ⊎ (ts ≡ [])) → (e : Event) → MildTaken (step_at ask d ts e)
  step_mild d steady ts (inr none) e = subst (λ (xs : List Turn). MildTaken (step_at ask d xs e)) (sym none) (tt, steady)
  step_mild d steady ts (inl one) (Control n number) = subst (λ (xs : List Turn). MildTaken (step_at ask d xs (Control n number))) (sym one) (control_mild d steady number (n == 2) (n == 3))
  step_mild d steady ts (inl one) (Message whole) =
      let here = in_order d whole in
      subst (λ (xs : List Turn). MildTaken (step_at ask d xs (Message whole))) (sym one)
      (whole_mild here (record { sid_is = steady.sid_is; req_is = steady.req_is; turns_are = steady.turns_are }) whole (is_reply whole.command)
      (reply_at whole.order (type_for here.req here.ty (request_id whole.order whole.command whole.payload)) whole.command (whole.payload, here.types)))

  mild_append : (xs ys : List Written) → CanEach (IsMildWritten sid) xs → CanEach (IsMildWritten sid) ys → CanEach (IsMildWritten sid) (xs ++ ys)
  mild_append [] ys h k = k
  mild_append (x ∷ xs) ys h k = (h.0, mild_append xs ys h.1 k)

  mild_written : (order : Order) (segment : ℕ) (xs : List Sent) → CanEach (IsMild sid) xs → CanEach (IsMildWritten sid) (map (written order segment) xs)
  mild_written order segment [] h = tt
  mild_written order segment (x ∷ xs) h = (h.0, mild_written order segment xs h.1)

  goes_mild : (d : State) (es : List Event) (r : Result Taken ClientFault) → MildTaken r → ((n : State) → Steady sid n → CanEach (IsMildWritten sid) (run ask n es).sent) → CanEach (IsMildWritten sid) (going_on d r (λ t. run ask t es)).sent
  goes_mild d es (Ok t) mild more = mild_append (written_of t) (run ask t.state es).sent (mild_written t.state.order t.state.segment t.sent mild.0) (more t.state mild.1)
  goes_mild d es (Err f) mild more = tt

  pub sends_mild : (es : List Event) (d : State) → Steady sid d → CanEach (IsMildWritten sid) (run ask d es).sent
  sends_mild [] d steady = tt
  sends_mild (e ∷ es) d steady = goes_mild d es (step ask d e) (step_mild d steady d.turns steady.turns_are e) (λ n steady_. sends_mild es n steady_)
