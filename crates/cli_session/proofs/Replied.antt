-- What follows a message that was read, or passed over.
use Rattle.std.proofs.Common.{◌≡◌, ℕ, Bool, true, false, cond, List, Result, Ok, Err, sym, ap, subst, ◌∙◌}
use Rattle.pva_frames.specs.declared.event.Event.{Event}
use Rattle.pva_frames.specs.declared.event.Whole.{Whole}
use Rattle.pvd_codec.specs.declared.fault.ValueCause.{ValueCause}
use Rattle.pvd_desc.specs.Types.{Types}
use Rattle.pva_messages.specs.Replies.{Reply}
use Rattle.cli_session.specs.Calls.{Faults, Takes, IsFault, reply_in}
use Rattle.cli_session.specs.State.{State}
use Rattle.cli_session.specs.Steps.{Taken, quietly, fault_in, is_reply, heard, heard_reply, heard_whole, step, step_at}
use Rattle.cli_session.specs.declared.ask.Ask.{Ask}
use Rattle.cli_session.specs.declared.fault.ClientFault.{ClientFault}
use Rattle.cli_session.specs.declared.fault.ClientFault.TheVariants.{UnknownReply, WrongCommand, WrongPhase, Message, Words, NoMemory}
use Rattle.cli_session.specs.declared.report.Telling.{Telling}
use Rattle.cli_session.specs.declared.turn.Turn.{Turn}

module _ (ask : Ask) (s : State) (turn : Turn) (later : List Turn) (whole : Whole) where
  pub passed_over : is_reply whole.command ≡ false → heard_whole ask s turn later whole ≡ Ok (quietly s)
  passed_over is = ap (λ (b : Bool). cond b (heard ask s turn later whole (reply_in whole s)) (Ok (quietly s))) is

  pub is_heard : is_reply whole.command ≡ true → heard_whole ask s turn later whole ≡ heard ask s turn later whole (reply_in whole s)
  is_heard is = ap (λ (b : Bool). cond b (heard ask s turn later whole (reply_in whole s)) (Ok (quietly s))) is

  -- it was read
  pub heard_as : (reply : Reply) (rest : List ℕ) (types : Types) (new : State) → is_reply whole.command ≡ true → reply_in whole s ≡ Ok (reply, (rest, types)) → new ≡ record s { types = types }
      → heard_reply ask new turn later reply ≡ heard_whole ask s turn later whole
  heard_as reply rest types new is read same =
      ap (λ (t : State). heard_reply ask t turn later reply) same ∙ sym (is_heard is ∙ ap (heard ask s turn later whole) read)

  -- it can't be read
  faulty : (f : ClientFault) → (x : ValueCause × ℕ) × (reply_in whole s ≡ Err x) × (f ≡ Message (fault_in whole x)) → heard ask s turn later whole (reply_in whole s) ≡ Err f
  faulty f h = ap (heard ask s turn later whole) h.1 ∙ ap Err (sym h.2)

  faults : (f : ClientFault) → IsFault whole f (reply_in whole s) → Faults f (heard ask s turn later whole (reply_in whole s))
  faults NoMemory h = tt
  faults (UnknownReply id) h = faulty (UnknownReply id) h
  faults (WrongCommand have came) h = faulty (WrongCommand have came) h
  faults (WrongPhase command) h = faulty (WrongPhase command) h
  faults (Message fault) h = faulty (Message fault) h
  faults (Words fault) h = faulty (Words fault) h

  pub unread : (f : ClientFault) → is_reply whole.command ≡ true → IsFault whole f (reply_in whole s) → Faults f (heard_whole ask s turn later whole)
  unread f is h = subst (λ (r : Result Taken ClientFault). Faults f r) (sym (is_heard is)) (faults f h)

-- What follows an event, where these turns are awaited.
pub step_of : (ask : Ask) (s : State) (turns : List Turn) (e : Event) → s.turns ≡ turns → step ask s e ≡ step_at ask s turns e
step_of ask s turns e is = ap (λ (ts : List Turn). step_at ask s ts e) is

-- of one outcome what is said of another
pub takes_as : (a b : Result Taken ClientFault) (new : State) (before after : List ℕ) (result : Result Telling ClientFault) → a ≡ b → Takes a new before after result → Takes b new before after result
takes_as a b new before after result same h = subst (λ (r : Result Taken ClientFault). Takes r new before after result) same h
