-- A put prints nothing but the channel's name.
use Rattle.std.proofs.Common.{◌≡◌, ℕ, ◌==◌, Bool, true, false, cond, List, [], ◌∷◌, ◌++◌, Option, None, Some, Result, Ok, Err, refl, sym, ap, subst, ◌∙◌, append_assoc}
use Rattle.std.proofs.lemmas.List.{append-nil}
use Rattle.std.specs.List.{flat_map}
use Rattle.pva_wire.specs.declared.status.Status.{Status}
use Rattle.pva_frames.specs.declared.event.Whole.{Whole}
use Rattle.pva_frames.specs.declared.event.Event.{Event}
use Rattle.pva_frames.specs.declared.event.Event.TheVariants.{Message, Control}
use Rattle.pvd_codec.specs.Reading.{Read, State as Source}
use Rattle.pva_messages.specs.Fields.{PartData}
use Rattle.pva_messages.specs.Replies as replies
use Rattle.pva_messages.specs.Replies.{Reply}
use Rattle.pva_messages.specs.Reading.{reply_at, request_id}
use Rattle.pva_messages.specs.Rows.{byte_of}
use Rattle.pva_messages.specs.Subcommands.{begins, carries}
use Rattle.pva_messages.specs.declared.command.Command.TheVariants as command
use Rattle.cli_text.specs.declared.fault.PutText.{PutText}
use Rattle.desk_api.specs.Sites.{channel_named, has_values}
use Rattle.desk_api.specs.declared.channel.Channel.{Channel}
use Rattle.desk_api.specs.declared.history.SiteData.{SiteData}
use Rattle.desk_api.specs.declared.mark.Mark.{Mark}
use Rattle.srv_session.specs.Steps.{marks_of}
use Rattle.cli_session.specs.Answers.{Answer, begun, present, done, refused, answer_of, foreign_id}
use Rattle.cli_session.specs.State.{State}
use Rattle.cli_session.specs.Steps.{Told, Taken, quietly, echoing, next, words_of, read_words, put_next, answered, replied, heard, is_reply, type_for, in_order, going_on, step, step_at, run}
use Rattle.cli_session.specs.Text.{told_text}
use Rattle.cli_session.specs.Turns.{own_turns}
use Rattle.cli_session.specs.declared.ask.Ask.{Ask}
use Rattle.cli_session.specs.declared.fault.ClientFault.{ClientFault}
use Rattle.cli_session.specs.declared.fault.ClientFault.TheVariants.{WrongPhase}
use Rattle.cli_session.specs.declared.turn.Turn.{Turn}
use Rattle.cli_session.specs.declared.turn.Turn.TheVariants as turn
use Rattle.cli_within.specs.Answers.{valued_text, unvalued_text, channel_text}
use Rattle.cli_within.proofs.Creations.{GoesSoText as GoesSo}

printed_append : (xs ys : List Told) → flat_map told_text (xs ++ ys) ≡ flat_map told_text xs ++ flat_map told_text ys
printed_append [] ys = refl
printed_append (x ∷ xs) ys = ap (λ (more : List ℕ). told_text x ++ more) (printed_append xs ys) ∙ sym (append_assoc (told_text x) (flat_map told_text xs) (flat_map told_text ys))

-- the turns of a put
abbrev IsPut : Turn → Type 0
IsPut turn.BeginPut = Unit {0}
IsPut turn.ReadBack = Unit {0}
IsPut turn.Put = Unit {0}
IsPut other = ⊥

abbrev ArePut : List Turn → Type 0
ArePut [] = Unit {0}
ArePut (t ∷ ts) = IsPut t × ArePut ts

-- answers that tell no value and no type
abbrev IsBare : Answer → Type 0
IsBare (begun ty) = Unit {0}
IsBare (present p) = Unit {0}
IsBare done = Unit {0}
IsBare (refused status) = Unit {0}
IsBare other = ⊥

abbrev IsBareIf : Result Answer ClientFault → Type 0
IsBareIf (Ok answer) = IsBare answer
IsBareIf (Err fault) = Unit {0}

bare_if : (answer : Answer) → IsBare answer → (begun_ carried : Bool) (status : Status) (fault : ClientFault) → IsBareIf (cond begun_ (Ok (cond carried answer (refused status))) (Err fault))
bare_if answer bare true true status fault = bare
bare_if answer bare true false status fault = tt
bare_if answer bare false carried status fault = tt

begin_bare : (r : Reply) → IsBareIf (answer_of turn.BeginPut r)
begin_bare (replies.put req sub status ty p) = bare_if (begun ty) tt (begins sub) (carries status) status (WrongPhase (byte_of command.Put))
begin_bare r = tt

read_bare : (r : Reply) → IsBareIf (answer_of turn.ReadBack r)
read_bare (replies.put req sub status ty p) = bare_if (present p) tt (sub == 0x40) (carries status) status (WrongPhase (byte_of command.Put))
read_bare r = tt

put_bare : (r : Reply) → IsBareIf (answer_of turn.Put r)
put_bare (replies.put req sub status ty p) = bare_if done tt (sub == 0x00) (carries status) status (WrongPhase (byte_of command.Put))
put_bare r = tt

turn_bare : (t : Turn) → IsPut t → (r : Reply) → IsBareIf (answer_of t r)
turn_bare turn.BeginPut is r = begin_bare r
turn_bare turn.ReadBack is r = read_bare r
turn_bare turn.Put is r = put_bare r
turn_bare other is r = absurd is

-- it prints nothing, and awaits replies of a put
abbrev IsSilent : Result Taken ClientFault → Type 0
IsSilent (Ok t) = (flat_map told_text t.told ≡ []) × ArePut t.state.turns
IsSilent (Err fault) = Unit {0}

module _ (ask : Ask) where
  next_silent : (c : State) (ts : List Turn) → ArePut ts → IsSilent (Ok (next ask c ts))
  next_silent c [] are = (refl, tt)
  next_silent c (t ∷ ts) are = (refl, are)

  put_silent : (c : State) (later : List Turn) → ArePut later → (p : Result PartData PutText) → IsSilent (put_next ask c later p)
  put_silent c later are (Ok p) = next_silent (record c { put = Some p }) later are
  put_silent c later are (Err f) = tt

  answer_silent : (c : State) (t : Turn) (later : List Turn) → ArePut later → (a : Result Answer ClientFault) → IsBareIf a → IsSilent (answered ask c t later a)
  answer_silent c t later are (Ok (begun ty)) bare = next_silent (record c { ty = ty }) later are
  answer_silent c t later are (Ok (present p)) bare = put_silent c later are (read_words (words_of ask.operation) p)
  answer_silent c t later are (Ok done) bare = (refl, tt)
  answer_silent c t later are (Ok (refused status)) bare = (refl, tt)
  answer_silent c t later are (Ok other) bare = absurd bare
  answer_silent c t later are (Err fault) bare = tt

  reply_silent : (c : State) (t : Turn) (later : List Turn) → IsPut t → ArePut later → (r : Reply) (foreign : Option ℕ) → IsSilent (replied ask c t later r foreign)
  reply_silent c t later is are r (Some id) = tt
  reply_silent c t later is are r None = answer_silent c t later are (answer_of t r) (turn_bare t is r)

  read_silent : (c : State) (t : Turn) (later : List Turn) → IsPut t → ArePut later → (whole : Whole) (read : Read Source Reply) → IsSilent (heard ask c t later whole read)
  read_silent c t later is are whole (Ok (r, (rest, types))) = reply_silent (record c { types = types }) t later is are r (foreign_id (record c { types = types }) r)
  read_silent c t later is are whole (Err f) = tt

  whole_silent : (c : State) (t : Turn) (later : List Turn) → IsPut t → ArePut later → ArePut c.turns → (whole : Whole) (b : Bool) (read : Read Source Reply) → IsSilent (cond b (heard ask c t later whole read) (Ok (quietly c)))
  whole_silent c t later is are these whole true read = read_silent c t later is are whole read
  whole_silent c t later is are these whole false read = (refl, these)

  control_silent : (c : State) (number : ℕ) (a b : Bool) → ArePut c.turns → IsSilent (Ok (cond a (quietly (record c { order_told = true })) (cond b (echoing c number) (quietly c))))
  control_silent c number true b these = (refl, these)
  control_silent c number false true these = (refl, these)
  control_silent c number false false these = (refl, these)

  step_silent : (c : State) (ts : List Turn) → ArePut ts → ArePut c.turns → (e : Event) → IsSilent (step_at ask c ts e)
  step_silent c [] are these e = (refl, these)
  step_silent c (t ∷ later) are these (Control n number) = control_silent c number (n == 2) (n == 3) these
  step_silent c (t ∷ later) are these (Message whole) =
      let here = in_order c whole in
      whole_silent here t later are.0 are.1 these whole (is_reply whole.command)
      (reply_at whole.order (type_for here.req here.ty (request_id whole.order whole.command whole.payload)) whole.command (whole.payload, here.types))

  goes_silent : (c : State) (es : List Event) (r : Result Taken ClientFault) → IsSilent r → ((d : State) → ArePut d.turns → flat_map told_text (run ask d es).told ≡ []) → flat_map told_text (going_on c r (λ t. run ask t es)).told ≡ []
  goes_silent c es (Ok t) silent more =
      let later = more t.state silent.1 in
      printed_append t.told (run ask t.state es).told ∙ (λ i. silent.0 i ++ later i)
  goes_silent c es (Err f) silent more = refl

  silent_run : (es : List Event) (c : State) → ArePut c.turns → flat_map told_text (run ask c es).told ≡ []
  silent_run [] c are = refl
  silent_run (e ∷ es) c are = goes_silent c es (step ask c e) (step_silent c c.turns are are e) (λ d these. silent_run es d these)

  nothing_shown : (site : SiteData) (marks : List Mark) (o : Option Channel) → ((channel : Channel) → valued_text site marks ask channel ask.operation ≡ []) → unvalued_text site marks ask.operation ≡ [] → channel_text site marks ask o ≡ []
  nothing_shown site marks None valued unvalued = refl
  nothing_shown site marks (Some channel) valued unvalued = by (has_values channel)
    where
      by : (b : Bool) → cond b (valued_text site marks ask channel ask.operation) (unvalued_text site marks ask.operation) ≡ []
      by true = valued channel
      by false = unvalued

-- Where the turns of an operation are those of a put, and it tells nothing.
pub put_goes : (ask : Ask) (site : SiteData) → own_turns ask.operation ≡ turn.BeginPut ∷ turn.ReadBack ∷ turn.Put ∷ [] → ((marks : List Mark) (channel : Channel) → valued_text site marks ask channel ask.operation ≡ [])
    → ((marks : List Mark) → unvalued_text site marks ask.operation ≡ []) → GoesSo ask site (λ marks. channel_text site marks ask (channel_named site ask.name))
put_goes ask site turns valued unvalued channel is c s steps es opened left_ stand =
    let start = (next ask c (own_turns ask.operation)).state in
    let printed = silent_run ask es start (subst (λ (ts : List Turn). ArePut (next ask c ts).state.turns) (sym turns) (tt, (tt, (tt, tt)))) in
    let nothing = nothing_shown ask site (marks_of steps) (channel_named site ask.name) (valued (marks_of steps)) (unvalued (marks_of steps)) in
    record {
      whole = λ end over. printed ∙ sym nothing;
      front = record { rest = []; whole = nothing ∙ sym printed ∙ sym (append-nil (flat_map told_text (run ask start es).told)) };
      updates = tt;
    }
