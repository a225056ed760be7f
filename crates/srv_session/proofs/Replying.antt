-- What is written behind the output, and what the rows' functions did.
use Rattle.std.proofs.Common.{◌≡◌, ℕ, ◌≤◌, drop, length, Bool, true, false, not, ◌&&◌, List, [], ◌∷◌, ◌++◌, Option, None, Some, Result, Ok, Err, refl, sym, ◌∙◌, ap, subst, append_assoc}
use Rattle.std.specs.Prelude.{OnOk, OnErr, IsErr}
use Rattle.std.specs.FinSet.{FinSet}
use Rattle.std.specs.Ordering.{nat_cmp}
use Rattle.std.proofs.lemmas.Bool.{false≢true}
use Rattle.std.proofs.lemmas.List.{append-nil, drop-append-le}
use Rattle.pva_wire.specs.declared.order.Order.{Order}
use Rattle.pva_wire.specs.declared.status.Status.{Status}
use Rattle.pva_wire.specs.Status.{good}
use Rattle.pvd_type.specs.Tree.{Tree}
use Rattle.pvd_type.specs.declared.memory.NoMemory.{NoMemory}
use Rattle.pvd_value.specs.Data.{Data}
use Rattle.journal_core.specs.Moments.{Moment}
use Rattle.pvd_codec.specs.Written.{CanEach}
use Rattle.pva_frames.specs.Spelling.{message_bytes}
use Rattle.pva_messages.specs.Fields as field
use Rattle.pva_messages.specs.Fields.{Field, PartData}
use Rattle.pva_messages.specs.Replies as reply
use Rattle.pva_messages.specs.Replies.{Reply, CanReply, reply_fields, reply_command}
use Rattle.pva_messages.specs.Rows.{byte_of}
use Rattle.pva_messages.specs.Written.{FitsField, CanField, canonical}
use Rattle.pva_messages.specs.Subcommands.{begins, asks_back, ExactlyWhere}
use Rattle.chan_table.specs.declared.ask.AskKind.{AskKind}
use Rattle.chan_table.specs.declared.ask.AskKind.TheVariants as kinds
use Rattle.desk_api.specs.Calls.{Calls, IsGet, IsPartOfGet, ArePut, ArePutGet, IsSnapshot, IsPartOfSnapshot}
use Rattle.desk_api.specs.declared.rows.RecRow.{RecRow}
use Rattle.pvd_value.specs.declared.value.PvValue.{PvValue}
use Rattle.rpc_services.specs.Answers.{snapshot_tree}
use Rattle.desk_api.specs.Types.{type_of}
use Rattle.desk_api.specs.declared.channel.Channel.{Channel}
use Rattle.desk_api.specs.declared.mark.Seat.{Seat}
use Rattle.desk_api.specs.declared.put.Done.{Done}
use Rattle.desk_api.specs.declared.put.PutAnswer.{PutAnswer}
use Rattle.srv_session.specs.State.{State, Asked}
use Rattle.srv_session.specs.Replies.{Sent, HasLeafBits, IsSayable, said, control, methods, greetings, spelled, spelled_all, answered, got, called, command_of_kind}
use Rattle.srv_session.specs.Tasks.{get, put, put_get, respond, snapshot}
use Rattle.srv_session.specs.Rows.{asked, put_status, put_get_reply, rows_data, behind}
use Rattle.srv_session.specs.Calls.{Takes}
use Rattle.srv_session.specs.Views.{state_of, output_of, show, AnswersAlone, HasPart, HasSaid, IsAsBefore, RepliesWith}
use Rattle.srv_session.specs.declared.session.Session.{Session}
use Rattle.srv_session.proofs.Rows.{part_moments, whole_is_part, put_moments, put_get_moments, snapshot_moments, snapshot_is_part, gave_up, said_one, says_this}
use Rattle.srv_session.proofs.Slots.{still}

-- The greeting was written.
pub greeted : (s m : State) (names : List (List ℕ)) (first second last : List ℕ) → m ≡ s
    → second ≡ first ++ spelled s.order s.segment (control 2 0) → last ≡ second ++ spelled m.order m.segment (said (reply.validation 65536 32767 names))
    → names ≡ methods → last ≡ first ++ spelled_all s.order s.segment greetings
greeted s m names first second last same ok more named =
    let head : List ℕ = spelled s.order s.segment (control 2 0) in
    let tail : State → List (List ℕ) → List ℕ = λ (z : State) (ms : List (List ℕ)). spelled z.order z.segment (said (reply.validation 65536 32767 ms)) in
    more
    ∙ ap (λ (o : List ℕ). o ++ tail m names) ok
    ∙ append_assoc first head (tail m names)
    ∙ ap (λ (z : State). first ++ (head ++ tail z names)) same
    ∙ ap (λ (ms : List (List ℕ)). first ++ (head ++ tail s ms)) named
    ∙ ap (λ (z : List ℕ). first ++ (head ++ z)) (sym (append-nil (tail s methods)))

-- What is written behind the output, of which a front was sent already.

pub added : (sent : ℕ) (before after more : List ℕ) (result : Result (Unit {0}) NoMemory) → sent ≤ length before
    → OnOk result (after ≡ before ++ more) → OnOk result (drop sent after ≡ drop sent before ++ more)
added sent before after more (Ok u) within ok = ap (drop sent) ok ∙ drop-append-le sent before more within
added sent before after more (Err e) within ok = tt

pub left_out : (sent : ℕ) (before after : List ℕ) (result : Result (Unit {0}) NoMemory)
    → OnErr result (after ≡ before) → OnErr result (drop sent after ≡ drop sent before)
left_out sent before after (Ok u) err = tt
left_out sent before after (Err e) err = ap (drop sent) err

-- Leaves of a value that are told: the fields and the command of the reply.

bare : (b : Bool) (t : Option Tree) → b ≡ false → reply.type_field b t ≡ []
bare true t is = absurd (false≢true (sym is))
bare false t is = refl

got_fields : (kind : AskKind) (req sub : ℕ) (ty : Tree) (mask : FinSet nat_cmp) (value : Data) → HasPart kind sub → begins sub ≡ false
    → reply_fields (got kind req sub ty mask value) ≡ field.word req ∷ field.byte sub ∷ field.status good ∷ field.part (record { ty = ty; mask = mask; value = value }) ∷ []
got_fields kinds.Get req sub ty mask value part none =
    ap (λ (l : List Field). field.word req ∷ field.byte sub ∷ field.status good ∷ (l ++ field.part (record { ty = ty; mask = mask; value = value }) ∷ [])) (bare (begins sub) None none)
got_fields kinds.Put req sub ty mask value part none =
    ap (λ (l : List Field). field.word req ∷ field.byte sub ∷ field.status good ∷ (l ++ field.part (record { ty = ty; mask = mask; value = value }) ∷ [])) (bare (begins sub) None none)
got_fields kinds.PutGet req sub ty mask value part none =
    ap (λ (l : List Field). field.word req ∷ field.byte sub ∷ field.status good ∷ ((l ++ l) ++ field.part (record { ty = ty; mask = mask; value = value }) ∷ [])) (bare (begins sub) None none)
got_fields kinds.Rpc req sub ty mask value part none = absurd part
got_fields kinds.Monitor req sub ty mask value part none = absurd part

got_command : (kind : AskKind) (req sub : ℕ) (ty : Tree) (mask : FinSet nat_cmp) (value : Data) → HasPart kind sub → reply_command (got kind req sub ty mask value) ≡ byte_of (command_of_kind kind)
got_command kinds.Get req sub ty mask value part = refl
got_command kinds.Put req sub ty mask value part = refl
got_command kinds.PutGet req sub ty mask value part = refl
got_command kinds.Rpc req sub ty mask value part = absurd part
got_command kinds.Monitor req sub ty mask value part = absurd part

part_where : (b : Bool) (p : PartData) → b ≡ false → ExactlyWhere (not b) (Some p)
part_where true p is = absurd (false≢true (sym is))
part_where false p is = tt

part_asked : (b back : Bool) (p : PartData) → b ≡ false → back ≡ true → ExactlyWhere (not b && back) (Some p)
part_asked true back p is asked = absurd (false≢true (sym is))
part_asked false true p is asked = tt
part_asked false false p is asked = absurd (false≢true asked)

may_get : (kind : AskKind) (req sub : ℕ) (ty : Tree) (mask : FinSet nat_cmp) (value : Data) → HasPart kind sub → begins sub ≡ false → CanReply (got kind req sub ty mask value)
may_get kinds.Get req sub ty mask value part none = ((λ e. refl), part_where (begins sub) (record { ty = ty; mask = mask; value = value }) none)
may_get kinds.Put req sub ty mask value part none = ((λ e. refl), part_asked (begins sub) (asks_back sub) (record { ty = ty; mask = mask; value = value }) none part)
may_get kinds.PutGet req sub ty mask value part none = ((λ e. refl), (λ e. refl), part_where (begins sub) (record { ty = ty; mask = mask; value = value }) none)
may_get kinds.Rpc req sub ty mask value part none = absurd part
may_get kinds.Monitor req sub ty mask value part none = absurd part

got_bits : (kind : AskKind) (req sub : ℕ) (ty : Tree) (mask : FinSet nat_cmp) (value : Data) → HasPart kind sub → HasLeafBits (got kind req sub ty mask value)
got_bits kinds.Get req sub ty mask value part = tt
got_bits kinds.Put req sub ty mask value part = tt
got_bits kinds.PutGet req sub ty mask value part = tt
got_bits kinds.Rpc req sub ty mask value part = absurd part
got_bits kinds.Monitor req sub ty mask value part = absurd part

-- leaves of a value were written
pub got_said : (order : Order) (segment : ℕ) (kind : AskKind) (req sub : ℕ) (ty : Tree) (mask : FinSet nat_cmp) (value : Data) (sent : ℕ) (before after : List ℕ) (result : Result (Unit {0}) NoMemory)
    → HasPart kind sub → begins sub ≡ false → sent ≤ length before → FitsField (field.part (record { ty = ty; mask = mask; value = value }))
    → OnOk result
    (after ≡ before ++ message_bytes order true (byte_of (command_of_kind kind)) (canonical order (field.word req ∷ field.byte sub ∷ field.status good ∷ field.part (record { ty = ty; mask = mask; value = value }) ∷ [])) segment)
    → OnOk result (CanEach CanField (field.word req ∷ field.byte sub ∷ field.status good ∷ field.part (record { ty = ty; mask = mask; value = value }) ∷ []))
    → OnOk result ((drop sent after ≡ drop sent before ++ spelled order segment (said (got kind req sub ty mask value))) × IsSayable (said (got kind req sub ty mask value)))
got_said order segment kind req sub ty mask value sent before after (Err e) part none within fits ok can = tt
got_said order segment kind req sub ty mask value sent before after (Ok u) part none within fits ok can =
    let fields = got_fields kind req sub ty mask value part none in
    let bytes : ℕ → List Field → List ℕ = λ (n : ℕ) (fs : List Field). message_bytes order true n (canonical order fs) segment in
    let row : List Field = field.word req ∷ field.byte sub ∷ field.status good ∷ field.part (record { ty = ty; mask = mask; value = value }) ∷ [] in (
      ap (drop sent) ok ∙ drop-append-le sent before (bytes (byte_of (command_of_kind kind)) row) within
          ∙ ap (λ (n : ℕ). drop sent before ++ bytes n row) (sym (got_command kind req sub ty mask value part))
          ∙ ap (λ (fs : List Field). drop sent before ++ bytes (reply_command (got kind req sub ty mask value)) fs) (sym fields),
      (
        (may_get kind req sub ty mask value part none, subst (CanEach FitsField) (sym fields) (tt, (tt, (tt, (fits, tt)))), subst (CanEach CanField) (sym fields) can),
        got_bits kind req sub ty mask value part,
      ),
    )

-- A reply about a request, behind which the request ends where that was asked for.

module _ (old new : Session) (req sub : ℕ) where
  pub replied : (mid : Session) (x : Sent) → state_of mid ≡ state_of old → HasSaid old mid x
      → state_of new ≡ record (state_of mid) { requests = behind req sub (state_of mid).requests } → output_of new ≡ output_of mid → RepliesWith old new req sub x (Ok tt)
  replied mid x same said_ ended kept = (ended ∙ ap (λ (z : State). record z { requests = behind req sub z.requests }) same, (kept ∙ said_.0, said_.1))

  -- memory ran out for it
  pub unreplied : (x : Sent) (result : Result (Unit {0}) NoMemory) → IsErr result → output_of new ≡ output_of old → state_of new ≡ state_of old → RepliesWith old new req sub x result
  unreplied x (Ok u) failed kept same = absurd (false≢true failed)
  unreplied x (Err e) failed kept same = record { output = kept; subscribed = still same }

  -- nothing was asked of a desk for it
  pub responded : (r : Reply) (result : Result (Unit {0}) NoMemory) → RepliesWith old new req sub (said r) result → AnswersAlone old new (respond req sub r) result
  responded r (Ok u) p seat legal moment =
      said_one seat moment (state_of old) (state_of new) (output_of old) (output_of new) (respond req sub r) (Ok u) (said r) legal (says_this _) p.0 p.1 tt tt
  responded r (Err e) p seat legal moment =
      gave_up seat moment (state_of old) (state_of new) (output_of old) (output_of new) (respond req sub r) (Err e) legal refl p.output p.subscribed

-- A get of a channel.

module _ (here there : Seat) (moment : Moment) (old new : Session) (kind : AskKind) (req sub : ℕ) (ask : Asked) (channel : Channel) where
  -- memory ran out in it
  pub not_got : (result : Result (Unit {0}) NoMemory) → Calls here there (IsPartOfGet here.seen.base.site channel ask.atomic) → IsErr result → IsAsBefore old new
      → Takes (show here old) (show there new) moment (get kind req sub ask channel) result
  not_got (Ok u) calls failed same = absurd (false≢true failed)
  not_got (Err e) calls failed same = record {
    marks = calls.marks;
    part_is = calls.named;
    adds = calls.adds;
    moments = part_moments moment here.seen.base.site channel ask.atomic calls.marks calls.named;
    subscribed = same.subscribed;
    output = same.output;
  }

  -- it gave a value, with which its client was answered
  pub told_got : (value : Data) → Calls here there (IsGet here.seen.base.site channel ask.atomic value) → (ty : Tree) → ty ≡ type_of here.seen.base.site channel
      → (result : Result (Unit {0}) NoMemory) → RepliesWith old new req sub (said (got kind req sub ty ask.mask value)) result
      → Takes (show here old) (show there new) moment (get kind req sub ask channel) result
  told_got value calls ty ty_is (Ok u) p =
      let site = here.seen.base.site in
      let s = state_of old in
      record {
        marks = calls.marks;
        sent = said (got kind req sub (type_of site channel) ask.mask value) ∷ [];
        row = record { value = value; is_get = calls.named; sent_is = refl };
        sayable = (subst (λ (y : Tree). IsSayable (said (got kind req sub y ask.mask value))) ty_is p.1.1, tt);
        adds = calls.adds;
        moments = part_moments moment site channel ask.atomic calls.marks (whole_is_part site channel ask.atomic value calls.marks calls.named);
        state = p.0;
        output =
            p.1.0
            ∙ ap (λ (y : Tree). output_of old ++ spelled s.order s.segment (said (got kind req sub y ask.mask value))) ty_is
            ∙ ap (λ (z : List ℕ). output_of old ++ z) (sym (append-nil (spelled s.order s.segment (said (got kind req sub (type_of site channel) ask.mask value)))));
      }
  told_got value calls ty ty_is (Err e) p =
      not_got (Err e) (record { marks = calls.marks; adds = calls.adds; named = whole_is_part here.seen.base.site channel ask.atomic value calls.marks calls.named }) refl p

-- What became of a put is told, or memory ran out for that.
module _ (here there : Seat) (moment : Moment) (old new : Session) (req sub : ℕ) (ask : Asked) (channel : Channel) (mask : FinSet nat_cmp) (value : Data) (answer : Result Done PutAnswer)
    (calls : Calls here there (ArePut (asked here.seen.base.site ask channel mask value moment) answer)) where
  pub put_untold : (result : Result (Unit {0}) NoMemory) → IsErr result → IsAsBefore old new → Takes (show here old) (show there new) moment (put req sub ask channel mask value) result
  put_untold (Ok u) failed same = absurd (false≢true failed)
  put_untold (Err x) failed same = record {
    marks = calls.marks;
    part_is = (moment, answer, calls.named);
    adds = calls.adds;
    moments = put_moments (asked here.seen.base.site ask channel mask value moment) answer calls.marks calls.named;
    subscribed = same.subscribed;
    output = same.output;
  }

  pub told_put : (status : Status) → put_status answer ≡ Some status → (result : Result (Unit {0}) NoMemory) → RepliesWith old new req sub (said (answered kinds.Put req sub status)) result
      → Takes (show here old) (show there new) moment (put req sub ask channel mask value) result
  told_put status is (Ok u) p = record {
    marks = calls.marks;
    sent = said (answered kinds.Put req sub status) ∷ [];
    row = record { moment = moment; answer = answer; status = status; is_put = calls.named; status_is = is; sent_is = refl };
    sayable = (p.1.1, tt);
    adds = calls.adds;
    moments = put_moments (asked here.seen.base.site ask channel mask value moment) answer calls.marks calls.named;
    state = p.0;
    output = p.1.0 ∙ ap (λ (z : List ℕ). output_of old ++ z) (sym (append-nil (spelled (state_of old).order (state_of old).segment (said (answered kinds.Put req sub status)))));
  }
  told_put status is (Err x) p = put_untold (Err x) refl p

-- The same of a put-get.
module _ (here there : Seat) (moment : Moment) (old new : Session) (req sub : ℕ) (ask : Asked) (channel : Channel) (mask : FinSet nat_cmp) (value : Data) (answer : Result (Done × PvValue) PutAnswer)
    (calls : Calls here there (ArePutGet (asked here.seen.base.site ask channel mask value moment) answer)) where
  pub put_get_untold : (result : Result (Unit {0}) NoMemory) → IsErr result → IsAsBefore old new → Takes (show here old) (show there new) moment (put_get req sub ask channel mask value) result
  put_get_untold (Ok u) failed same = absurd (false≢true failed)
  put_get_untold (Err x) failed same = record {
    marks = calls.marks;
    part_is = (moment, answer, calls.named);
    adds = calls.adds;
    moments = put_get_moments (asked here.seen.base.site ask channel mask value moment) answer calls.marks calls.named;
    subscribed = same.subscribed;
    output = same.output;
  }

  pub told_put_get : (told : Reply) → put_get_reply here.seen.base.site req sub ask channel answer ≡ Some told → (result : Result (Unit {0}) NoMemory) → RepliesWith old new req sub (said told) result
      → Takes (show here old) (show there new) moment (put_get req sub ask channel mask value) result
  told_put_get told is (Ok u) p = record {
    marks = calls.marks;
    sent = said told ∷ [];
    row = record { moment = moment; answer = answer; told = told; is_put_get = calls.named; told_is = is; sent_is = refl };
    sayable = (p.1.1, tt);
    adds = calls.adds;
    moments = put_get_moments (asked here.seen.base.site ask channel mask value moment) answer calls.marks calls.named;
    state = p.0;
    output = p.1.0 ∙ ap (λ (z : List ℕ). output_of old ++ z) (sym (append-nil (spelled (state_of old).order (state_of old).segment (said told))));
  }
  told_put_get told is (Err x) p = put_get_untold (Err x) refl p

-- The same of a look at all records.
module _ (here there : Seat) (moment : Moment) (old new : Session) (req sub : ℕ) where
  pub not_looked : (result : Result (Unit {0}) NoMemory) → Calls here there (IsPartOfSnapshot here.seen.base.site) → IsErr result → IsAsBefore old new
      → Takes (show here old) (show there new) moment (snapshot req sub) result
  not_looked (Ok u) calls failed same = absurd (false≢true failed)
  not_looked (Err x) calls failed same = record {
    marks = calls.marks;
    part_is = calls.named;
    adds = calls.adds;
    moments = snapshot_moments moment here.seen.base.site calls.marks calls.named;
    subscribed = same.subscribed;
    output = same.output;
  }

  module _ (rows : List RecRow) (calls : Calls here there (IsSnapshot here.seen.base.site rows)) where
    pub look_untold : (result : Result (Unit {0}) NoMemory) → IsErr result → IsAsBefore old new → Takes (show here old) (show there new) moment (snapshot req sub) result
    look_untold result failed same =
        not_looked result (record { marks = calls.marks; adds = calls.adds; named = snapshot_is_part here.seen.base.site rows calls.marks calls.named }) failed same

    pub told_look : (result : Result (Unit {0}) NoMemory) → RepliesWith old new req sub (said (called req sub snapshot_tree (rows_data rows))) result
        → Takes (show here old) (show there new) moment (snapshot req sub) result
    told_look (Ok u) p = record {
      marks = calls.marks;
      sent = said (called req sub snapshot_tree (rows_data rows)) ∷ [];
      row = record { rows = rows; is_snapshot = calls.named; sent_is = refl };
      sayable = (p.1.1, tt);
      adds = calls.adds;
      moments = snapshot_moments moment here.seen.base.site calls.marks (snapshot_is_part here.seen.base.site rows calls.marks calls.named);
      state = p.0;
      output = p.1.0 ∙ ap (λ (z : List ℕ). output_of old ++ z) (sym (append-nil (spelled (state_of old).order (state_of old).segment (said (called req sub snapshot_tree (rows_data rows))))));
    }
    told_look (Err x) p = look_untold (Err x) refl p
