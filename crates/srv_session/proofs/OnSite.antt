-- A session stays one of its site.
use Rattle.std.proofs.Common.{◌≡◌, ◌≢◌, ◌==◌, ℕ, Bool, true, false, ◌||◌, cond, List, [], ◌∷◌, Option, None, Some, Result, Ok, Err, inl, inr, refl, sym, ◌∙◌, ap, subst, arith}
use Rattle.std.specs.Prelude.{◌⊎◌, IsTrue, is_some, option_map, bytes_eq, codes}
use Rattle.std.specs.FinMap.{get as at, insert, remove, get-empty}
use Rattle.std.specs.FinSet as set
use Rattle.std.specs.FinSet.{FinSet}
use Rattle.std.specs.Ordering.{nat_cmp}
use Rattle.std.proofs.lemmas.Bool.{false≢true}
use Rattle.std.proofs.lemmas.Bool.Decides.{nat_tests}
use Rattle.std.proofs.lemmas.Option.{none-some}
use Rattle.pvd_type.specs.Tree.{Tree}
use Rattle.pvd_value.specs.Data.{Data}
use Rattle.pvd_desc.specs.Types.{Types}
use Rattle.pvd_codec.specs.Reading.{Read, State as Source}
use Rattle.pva_wire.specs.declared.order.Order.{Order}
use Rattle.pva_frames.specs.declared.event.Whole.{Whole}
use Rattle.pva_frames.specs.declared.event.Event.{Event}
use Rattle.pva_frames.specs.declared.event.Event.TheVariants.{Message, Control}
use Rattle.pva_messages.specs.Fields.{Valued}
use Rattle.pva_messages.specs.Reading.{request_at}
use Rattle.pva_messages.specs.Replies.{Reply}
use Rattle.pva_messages.specs.Requests as said
use Rattle.pva_messages.specs.Requests.{Request}
use Rattle.pva_messages.specs.Subcommands.{begins, asks_back, counts, ends}
use Rattle.pvd_request.specs.Requests.{request_of}
use Rattle.pvd_request.specs.declared.request.Request.{Request as Wanted}
use Rattle.pvd_request.specs.declared.request.RequestFault.{RequestFault}
use Rattle.pvd_request.specs.declared.request.Root.{Root}
use Rattle.pvd_request.proofs.Sound.{request_sound}
use Rattle.chan_table.specs.declared.ask.AskKind.{AskKind}
use Rattle.chan_table.specs.declared.ask.AskKind.TheVariants as kinds
use Rattle.desk_api.proofs.Naming.{found_is_channel}
use Rattle.desk_api.specs.Sites.{channel_named, is_channel, has_values}
use Rattle.desk_api.specs.Types.{type_of, HoldsLeaves}
use Rattle.desk_api.specs.declared.channel.Channel.{Channel}
use Rattle.desk_api.specs.declared.history.SiteData.{SiteData}
use Rattle.desk_api.specs.declared.mark.Mark.{Mark}
use Rattle.desk_api.specs.declared.mark.Mark.TheVariants.{Read as Looked, Entered, Overweight, Begun, Crowded, Popped, Dropped}
use Rattle.srv_session.specs.State.{State, Channels, Requests, Asked, channel_at, is_full, is_on, is_open, least_free, without_channel, opening}
use Rattle.srv_session.specs.Tasks.{Task, pass_over, echo_control, refuse, tell, validate, echo, create, destroy_channel, begin, get, put, put_get, respond, snapshot, subscribe, steer, destroy_request, Hearing, asks, unreadable, over_range}
use Rattle.srv_session.specs.Tasks.{nothing_wanted, root_for, wanted_for, unfit_for, unfit, beginning_on, heard_getting, heard_monitor, is_kind, is_over, acknowledged, started_by, steering_found, windowed, told_field, asked_field, operation_in, called_for, calling}
use Rattle.srv_session.specs.Tasks.{heard, validated_by, beginning, beginning_as, found_for, getting, heard_part, heard_putting, heard_message, heard_read, is_heard}
use Rattle.rpc_services.specs.declared.asking.RpcOp.{RpcOp}
use Rattle.rpc_services.specs.declared.asking.RpcOp.TheVariants as operations
use Rattle.rpc_services.specs.declared.asking.RpcRefusal.{RpcRefusal}
use Rattle.srv_session.specs.Replies.{is_call, refused}
use Rattle.srv_session.specs.Rows.{opened, all_opened, ask_of, monitor_of, steered, subscribed, behind, after_task}
use Rattle.srv_session.specs.Steps.{knowing, after_hearing, after_event, after_pop, one_sent, with_sent}
use Rattle.srv_session.specs.Calls.{Selects, IsAskOf, IsOf}
use Rattle.srv_session.proofs.Finding.{found_at, monitor_kind}
use Rattle.srv_session.proofs.Tables.{same_or_not, got_inserted, got_beside, got_removed, got_left, is_least, opened_beside, opened_here, left_beside, left_none, stays_elsewhere}

-- the channels of a site, and requests on them

abbrev AreOf : SiteData → Channels → Type 0
AreOf site channels = (sid : ℕ) (channel : Channel) → channel_at channels sid ≡ Some channel → IsTrue (is_channel site channel)

abbrev AreOn : SiteData → Channels → Requests → Type 0
AreOn site channels requests = (req : ℕ) (ask : Asked) → at requests req ≡ Some ask → IsAskOf site channels ask

-- A channel is opened.

module _ (site : SiteData) (channels : Channels) (cid : ℕ) where
  one_of : (o : Option Channel) → ((channel : Channel) → o ≡ Some channel → IsTrue (is_channel site channel)) → AreOf site channels → AreOf site (opened channels cid o)
  one_of None real ok = ok
  one_of (Some channel) real ok = by_room (is_full channels)
    where
      new : (sid : ℕ) (c : Channel) → (sid ≡ least_free channels) ⊎ (sid ≢ least_free channels) → channel_at (insert channels (least_free channels) (cid, channel)) sid ≡ Some c → IsTrue (is_channel site c)
      new sid c (inl same) is =
          real c (sym (opened_here channels (least_free channels) (cid, channel)) ∙ ap (channel_at (insert channels (least_free channels) (cid, channel))) (sym same) ∙ is)
      new sid c (inr apart) is = ok sid c (sym (opened_beside channels (least_free channels) sid (cid, channel) apart) ∙ is)

      by_room : (b : Bool) → AreOf site (cond b channels (insert channels (least_free channels) (cid, channel)))
      by_room true = ok
      by_room false = λ sid c is. new sid c (same_or_not sid (least_free channels)) is

  -- what is open stays so
  stays_open : (o : Option Channel) (sid : ℕ) (c : Channel) → channel_at channels sid ≡ Some c → channel_at (opened channels cid o) sid ≡ Some c
  stays_open None sid c is = is
  stays_open (Some channel) sid c is = by_room (is_full channels)
    where
      taken : sid ≢ least_free channels
      taken same =
          none-some c (sym (ap (option_map (λ x. x.1)) ((is_least channels).absent)) ∙ ap (channel_at channels) (sym same) ∙ is)

      by_room : (b : Bool) → channel_at (cond b channels (insert channels (least_free channels) (cid, channel))) sid ≡ Some c
      by_room true = is
      by_room false = opened_beside channels (least_free channels) sid (cid, channel) taken ∙ is

same_ask : (site : SiteData) (old new : Channels) (ask : Asked) → ((sid : ℕ) (c : Channel) → channel_at old sid ≡ Some c → channel_at new sid ≡ Some c) → IsAskOf site old ask → IsAskOf site new ask
same_ask site old new ask stays p = record { channel = p.channel; open_ = stays ask.sid p.channel p.open_; selects = p.selects }

all_of : (site : SiteData) (channels : Channels) (names : List (ℕ × List ℕ)) → AreOf site channels → AreOf site (all_opened site channels names)
all_of site channels [] ok = ok
all_of site channels (x ∷ names) ok =
    all_of site (opened channels x.0 (channel_named site x.1)) names
    (one_of site channels x.0 (channel_named site x.1) (λ c is. found_is_channel site x.1 c is) ok)

pub all_stay : (site : SiteData) (channels : Channels) (names : List (ℕ × List ℕ)) (sid : ℕ) (c : Channel) → channel_at channels sid ≡ Some c → channel_at (all_opened site channels names) sid ≡ Some c
all_stay site channels [] sid c is = is
all_stay site channels (x ∷ names) sid c is =
    all_stay site (opened channels x.0 (channel_named site x.1)) names sid c (stays_open site channels x.0 (channel_named site x.1) sid c is)

-- A request comes, and goes.

more_on : (site : SiteData) (channels : Channels) (requests : Requests) (req : ℕ) (new : Asked) → IsAskOf site channels new → AreOn site channels requests → AreOn site channels (insert requests req new)
more_on site channels requests req new p ok q ask is = by_id (same_or_not q req)
  where
    by_id : (q ≡ req) ⊎ (q ≢ req) → IsAskOf site channels ask
    by_id (inl same) =
        let one : new ≡ ask = same_some (sym (got_inserted requests req new) ∙ ap (at (insert requests req new)) (sym same) ∙ is) in
        subst (IsAskOf site channels) one p
      where
        same_some : {x y : Asked} → Some x ≡ Some y → x ≡ y
        same_some e = cc
    by_id (inr apart) = ok q ask (sym (got_beside requests req new q apart) ∙ is)

fewer_on : (site : SiteData) (channels : Channels) (requests : Requests) (req : ℕ) → AreOn site channels requests → AreOn site channels (remove requests req)
fewer_on site channels requests req ok q ask is = by_id (same_or_not q req)
  where
    by_id : (q ≡ req) ⊎ (q ≢ req) → IsAskOf site channels ask
    by_id (inl same) = absurd (none-some ask (sym (got_removed requests req) ∙ ap (at (remove requests req)) (sym same) ∙ is))
    by_id (inr apart) = ok q ask (sym (got_left requests req q apart) ∙ is)

behind_on : (site : SiteData) (channels : Channels) (requests : Requests) (req sub : ℕ) → AreOn site channels requests → AreOn site channels (behind req sub requests)
behind_on site channels requests req sub ok = by_bit (ends sub)
  where
    by_bit : (b : Bool) → AreOn site channels (cond b (remove requests req) requests)
    by_bit true = fewer_on site channels requests req ok
    by_bit false = ok

-- A channel is ended, and its requests with it.

fewer_of : (site : SiteData) (channels : Channels) (sid : ℕ) → AreOf site channels → AreOf site (remove channels sid)
fewer_of site channels sid ok q c is = by_id (same_or_not q sid)
  where
    by_id : (q ≡ sid) ⊎ (q ≢ sid) → IsTrue (is_channel site c)
    by_id (inl same) = absurd (none-some c (sym (left_none channels sid) ∙ ap (channel_at (remove channels sid)) (sym same) ∙ is))
    by_id (inr apart) = ok q c (sym (left_beside channels sid q apart) ∙ is)

none_left : (site : SiteData) (channels : Channels) (requests : Requests) (sid : ℕ) → AreOn site channels requests → AreOn site (remove channels sid) (without_channel sid requests)
none_left site channels requests sid ok req ask is =
    let kept = stays_elsewhere sid requests req ask is in
    let p = ok req ask kept.0 in
    let apart : ask.sid ≢ sid = λ same. let other : (ask.sid == sid) ≡ true = grind (arith, nat_tests) in false≢true (sym kept.1 ∙ other) in
    record { channel = p.channel; open_ = left_beside channels sid ask.sid apart ∙ p.open_; selects = p.selects }

-- What a task needs for that: a request begins under an id that none has, on an open channel, and for leaves of it where it is no call.
pub record IsBeginning (site : SiteData) (s : State) (kind : AskKind) (req sid : ℕ) (channel : Channel) (wanted : Wanted) : Type 0 where
  pub free : at s.requests req ≡ None
  pub open_ : channel_at s.channels sid ≡ Some channel
  pub asked : is_call kind ≡ false → IsTrue (has_values channel) × ((which : Root) × ((v : Valued) × (request_of (type_of site channel) which v ≡ Ok wanted)))

-- the request of this id, where one is there, is no monitor
abbrev pub IsPlain : State → ℕ → Type 0
IsPlain s req = (ask : Asked) → at s.requests req ≡ Some ask → ask.kind ≡ kinds.Monitor → ⊥

-- A monitor that goes on is there, and its window stays within the greatest.
pub record IsSteering (s : State) (req : ℕ) (count : Option ℕ) (ask : Asked) : Type 0 where
  pub here : at s.requests req ≡ Some ask
  pub kind_is : ask.kind ≡ kinds.Monitor
  pub few : is_over (acknowledged count ask.window) ≡ false

abbrev pub IsTaskOf : SiteData → State → Task → Type 0
IsTaskOf site s (begin kind req sub sid channel wanted) = IsBeginning site s kind req sid channel wanted
IsTaskOf site s (get kind req sub ask channel) = IsPlain s req
IsTaskOf site s (put req sub ask channel mask value) = IsPlain s req
IsTaskOf site s (put_get req sub ask channel mask value) = IsPlain s req
IsTaskOf site s (respond req sub r) = IsPlain s req
IsTaskOf site s (snapshot req sub) = IsPlain s req
IsTaskOf site s (subscribe req sub sid channel wanted count) = IsBeginning site s kinds.Monitor req sid channel wanted × (is_over count ≡ false)
IsTaskOf site s (steer req count started ask) = IsSteering s req count ask
IsTaskOf site s task = Unit {0}

selects_some : (site : SiteData) (kind : AskKind) (sid : ℕ) (channel : Channel) (wanted : Wanted)
    → IsTrue (has_values channel) × ((which : Root) × ((v : Valued) × (request_of (type_of site channel) which v ≡ Ok wanted))) → Selects site channel (ask_of kind sid wanted)
selects_some site kind sid channel wanted (valued, (which, (v, is))) =
    let sound = request_sound (type_of site channel) which v wanted is in record { valued = valued; leaves = sound.holds; some = sound.some }

-- a monitor is asked of its channel as it began
same_selects : (site : SiteData) (channel : Channel) (one other : Asked) → other.mask ≡ one.mask → Selects site channel one → Selects site channel other
same_selects site channel one other same p = record {
  valued = p.valued;
  leaves = subst (λ (m : FinSet nat_cmp). HoldsLeaves (type_of site channel) m) (sym same) p.leaves;
  some = subst (λ (m : FinSet nat_cmp). m ≢ set.empty) (sym same) p.some;
}

subscribed_on : (site : SiteData) (channels : Channels) (requests : Requests) (req sid : ℕ) (wanted : Wanted) (window : Option ℕ) (marks : List Mark)
    → ((slot : ℕ) → IsAskOf site channels (monitor_of sid wanted slot window)) → AreOn site channels requests → AreOn site channels (subscribed req sid wanted window marks requests)
subscribed_on site channels requests req sid wanted window [] p ok = ok
subscribed_on site channels requests req sid wanted window (Looked place channel footprint found ∷ marks) p ok = ok
subscribed_on site channels requests req sid wanted window (Entered place entry looked found ∷ marks) p ok = ok
subscribed_on site channels requests req sid wanted window (Overweight place footprint actions kept added limit ∷ marks) p ok = ok
subscribed_on site channels requests req sid wanted window (Crowded place index count ∷ marks) p ok = ok
subscribed_on site channels requests req sid wanted window (Popped place slot update ∷ marks) p ok = ok
subscribed_on site channels requests req sid wanted window (Dropped place index slot ∷ marks) p ok = ok
subscribed_on site channels requests req sid wanted window (Begun place index slot channel mask size ∷ []) p ok =
    more_on site channels requests req (monitor_of sid wanted slot window) (p slot) ok
subscribed_on site channels requests req sid wanted window (Begun place index slot channel mask size ∷ mark ∷ marks) p ok = ok

begun_on : (site : SiteData) (s : State) (req sid : ℕ) (channel : Channel) (wanted : Wanted) (window : Option ℕ) → IsBeginning site s kinds.Monitor req sid channel wanted
    → (slot : ℕ) → IsAskOf site s.channels (monitor_of sid wanted slot window)
begun_on site s req sid channel wanted window p slot = record {
  channel = channel;
  open_ = p.open_;
  selects = λ call. same_selects site channel (ask_of kinds.Monitor sid wanted) (monitor_of sid wanted slot window) refl (selects_some site kinds.Monitor sid channel wanted (p.asked refl));
}

steered_on : (site : SiteData) (channels : Channels) (count : Option ℕ) (started : Bool) (ask : Asked) → IsAskOf site channels ask → IsAskOf site channels (steered count started ask)
steered_on site channels count started ask p = record {
  channel = p.channel;
  open_ = p.open_;
  selects = λ call. same_selects site p.channel ask (steered count started ask) refl (p.selects call);
}

pub task_on_site : (site : SiteData) (s : State) (task : Task) (marks : List Mark) → IsTaskOf site s task → IsOf site s → IsOf site (after_task site s task marks)
task_on_site site s pass_over marks p ok = ok
task_on_site site s (echo_control number) marks p ok = ok
task_on_site site s (refuse r) marks p ok = ok
task_on_site site s (tell r) marks p ok = ok
task_on_site site s (validate buffer registry user host) marks p ok = record { channels = ok.channels; requests = ok.requests }
task_on_site site s (echo payload) marks p ok = ok
task_on_site site s (create names) marks p ok = record {
  channels = all_of site s.channels names ok.channels;
  requests = λ req ask is. same_ask site s.channels (all_opened site s.channels names) ask (λ sid c here. all_stay site s.channels names sid c here) (ok.requests req ask is);
}
task_on_site site s (destroy_channel sid cid) marks p ok = record {
  channels = fewer_of site s.channels sid ok.channels;
  requests = none_left site s.channels s.requests sid ok.requests;
}
task_on_site site s (begin kind req sub sid channel wanted) marks p ok =
    record {
      channels = ok.channels;
      requests =
          more_on site s.channels s.requests req (ask_of kind sid wanted)
          (record { channel = channel; open_ = p.open_; selects = λ call. selects_some site kind sid channel wanted (p.asked call) }) ok.requests;
    }
task_on_site site s (get kind req sub ask channel) marks p ok = record { channels = ok.channels; requests = behind_on site s.channels s.requests req sub ok.requests }
task_on_site site s (put req sub ask channel mask value) marks p ok = record { channels = ok.channels; requests = behind_on site s.channels s.requests req sub ok.requests }
task_on_site site s (put_get req sub ask channel mask value) marks p ok = record { channels = ok.channels; requests = behind_on site s.channels s.requests req sub ok.requests }
task_on_site site s (respond req sub r) marks p ok = record { channels = ok.channels; requests = behind_on site s.channels s.requests req sub ok.requests }
task_on_site site s (snapshot req sub) marks p ok = record { channels = ok.channels; requests = behind_on site s.channels s.requests req sub ok.requests }
task_on_site site s (subscribe req sub sid channel wanted count) marks p ok = record {
  channels = ok.channels;
  requests = subscribed_on site s.channels s.requests req sid wanted count marks (begun_on site s req sid channel wanted count p.0) ok.requests;
}
task_on_site site s (steer req count started ask) marks p ok = record {
  channels = ok.channels;
  requests = more_on site s.channels s.requests req (steered count started ask) (steered_on site s.channels count started ask (ok.requests req ask p.here)) ok.requests;
}
task_on_site site s (destroy_request req) marks p ok = record { channels = ok.channels; requests = fewer_on site s.channels s.requests req ok.requests }

-- Each task that is heard is so.

abbrev pub IsHeardOf : SiteData → State → Hearing → Type 0
IsHeardOf site s (asks task types) = IsTaskOf site s task
IsHeardOf site s (unreadable fault) = Unit {0}
IsHeardOf site s over_range = Unit {0}

module _ (site : SiteData) (s : State) where
  either : (P : Task → Type 0) (b : Bool) (x y : Task) → P x → P y → P (cond b x y)
  either P true x y p q = p
  either P false x y p q = q

  -- a request for values begins on a channel that has some
  fit_valued : (call valued : Bool) → unfit_for call valued ≡ None → call ≡ false → IsTrue valued
  fit_valued true valued fit is = absurd (false≢true (sym is))
  fit_valued false true fit is = refl
  fit_valued false false fit is = absurd (none-some _ (sym fit))

  -- Of a request that begins is said what is said of refusals and of beginnings.
  module _ (P : Task → Type 0) (kind : AskKind) (req sub sid : ℕ) (v : Valued) (refusals : (r : Reply) → P (refuse r))
      (beginnings : (channel : Channel) (wanted : Wanted) → IsBeginning site s kind req sid channel wanted → P (begin kind req sub sid channel wanted)) where
    as_begun : (channel : Channel) (r : Result Wanted RequestFault) → at s.requests req ≡ None → channel_at s.channels sid ≡ Some channel
        → (is_call kind ≡ false → IsTrue (has_values channel)) → wanted_for kind (type_of site channel) v ≡ r → P (beginning_as kind req sub sid channel r)
    as_begun channel (Ok wanted) free here valued is = beginnings channel wanted (record {
      free = free;
      open_ = here;
      asked = λ call. (valued call, (root_for kind, (v, sym (ap (λ (b : Bool). cond b (Ok nothing_wanted) (request_of (type_of site channel) (root_for kind) v)) call) ∙ is)));
    })
    as_begun channel (Err fault) free here valued is = refusals _

    begins_on : (channel : Channel) (o : Option (List ℕ)) → at s.requests req ≡ None → channel_at s.channels sid ≡ Some channel → unfit kind channel ≡ o
        → P (beginning_on site kind req sub sid v channel o)
    begins_on channel (Some why) free is fit = refusals _
    begins_on channel None free is fit = as_begun channel (wanted_for kind (type_of site channel) v) free is (fit_valued (is_call kind) (has_values channel) fit) refl

    begins_so : (o : Option Channel) → channel_at s.channels sid ≡ o → P (beginning site s kind req sub sid v o)
    begins_so None is = refusals _
    begins_so (Some channel) is = by_use (at s.requests req) refl
      where
        full : Task
        full = refuse (refused kind req sub (codes "too many requests"))

        by_use : (found : Option Asked) → at s.requests req ≡ found → P (beginning site s kind req sub sid v (Some channel))
        by_use (Some ask) here =
            subst (λ (b : Bool). P (cond b (refuse (refused kind req sub (codes "request id in use"))) (cond (is_full s.requests) full (beginning_on site kind req sub sid v channel (unfit kind channel)))))
            (sym (ap is_some here)) (refusals _)
        by_use None free =
            either P (is_some (at s.requests req)) _ _ (refusals _) (either P (is_full s.requests) _ _ (refusals _) (begins_on channel (unfit kind channel) free is refl))

  task_begins : (kind : AskKind) (req sub sid : ℕ) (v : Valued) → IsTaskOf site s (beginning site s kind req sub sid v (channel_at s.channels sid))
  task_begins kind req sub sid v = begins_so (λ t. IsTaskOf site s t) kind req sub sid v (λ r. tt) (λ channel wanted p. p) (channel_at s.channels sid) refl

  -- a request that was found for a message about no monitor is none
  plain_found : (kind : AskKind) (sid req : ℕ) (found : Asked × Channel) → is_kind kind kinds.Monitor ≡ false → found_for s kind sid req ≡ Ok found → IsPlain s req
  plain_found kind sid req found other is ask here e =
      let f = found_at s kind sid req found is in
      let one : found.0 ≡ ask = same_some (sym f.here ∙ here) in
      false≢true (sym other ∙ sym (ap (is_kind kind) (ap (λ (x : Asked). x.kind) one ∙ e)) ∙ f.kind_is)
    where
      same_some : {x y : Asked} → Some x ≡ Some y → x ≡ y
      same_some e = cc

  gets_so : (kind : AskKind) (req sub sid : ℕ) (r : Result (Asked × Channel) (List ℕ)) → is_kind kind kinds.Monitor ≡ false → found_for s kind sid req ≡ r → IsTaskOf site s (getting kind req sub r)
  gets_so kind req sub sid (Ok found) other is = plain_found kind sid req found other is
  gets_so kind req sub sid (Err why) other is = tt

  validates_so : (buffer registry : ℕ) (method : List ℕ) (argument : Valued) → IsTaskOf site s (validated_by buffer registry method argument)
  validates_so buffer registry method argument =
      either (λ t. IsTaskOf site s t) (bytes_eq method (codes "anonymous")) _ _ tt (either (λ t. IsTaskOf site s t) (bytes_eq method (codes "ca")) _ _ tt tt)

  part_so : (gets : Bool) (whole : Whole) (req sub : ℕ) (found : Asked × Channel) (read : Read Source (FinSet nat_cmp × Data)) → IsPlain s req → IsHeardOf site s (heard_part gets whole req sub found read)
  part_so true whole req sub found (Ok x) plain = plain
  part_so false whole req sub found (Ok x) plain = plain
  part_so gets whole req sub found (Err fault) plain = tt

  puts_so : (whole : Whole) (types : Types) (req sub sid : ℕ) (r : Result (Asked × Channel) (List ℕ)) → found_for s kinds.Put sid req ≡ r → IsHeardOf site s (heard_putting site whole types req sub r)
  puts_so whole types req sub sid (Ok found) is = part_so false whole req sub found _ (plain_found kinds.Put sid req found refl is)
  puts_so whole types req sub sid (Err why) is = tt

  either_heard : (b : Bool) (x y : Hearing) → IsHeardOf site s x → IsHeardOf site s y → IsHeardOf site s (cond b x y)
  either_heard true x y p q = p
  either_heard false x y p q = q

  put_gets_so : (whole : Whole) (types : Types) (req sub sid : ℕ) (r : Result (Asked × Channel) (List ℕ)) → found_for s kinds.PutGet sid req ≡ r → IsHeardOf site s (heard_getting site whole types req sub r)
  put_gets_so whole types req sub sid (Ok found) is =
      let plain = plain_found kinds.PutGet sid req found refl is in either_heard (asks_back sub || counts sub) _ _ plain (part_so true whole req sub found _ plain)
  put_gets_so whole types req sub sid (Err why) is = tt

  field_so : (req : ℕ) (o : Option Tree) → IsTaskOf site s (told_field req o)
  field_so req None = tt
  field_so req (Some ty) = tt

  fields_so : (req : ℕ) (path : List ℕ) (o : Option Channel) → IsTaskOf site s (asked_field site req path o)
  fields_so req path None = tt
  fields_so req path (Some channel) = either (λ t. IsTaskOf site s t) (has_values channel) _ _ (field_so req _) tt

  operation_so : (req sub : ℕ) (r : Result RpcOp RpcRefusal) → IsPlain s req → IsTaskOf site s (called_for site req sub r)
  operation_so req sub (Ok operations.Channels) plain = plain
  operation_so req sub (Ok operations.Info) plain = plain
  operation_so req sub (Ok operations.Snapshot) plain = plain
  operation_so req sub (Err refusal) plain = plain

  calls_so : (req sub sid : ℕ) (v : Valued) (r : Result (Asked × Channel) (List ℕ)) → found_for s kinds.Rpc sid req ≡ r → IsTaskOf site s (calling site req sub v r)
  calls_so req sub sid v (Ok found) is = operation_so req sub (operation_in v) (plain_found kinds.Rpc sid req found refl is)
  calls_so req sub sid v (Err why) is = tt

  -- what is heard of a monitor
  begun_so : (types : Types) (req sub sid : ℕ) (count : Option ℕ) (channel : Channel) (wanted : Wanted) (b : Bool) → is_over count ≡ b → IsBeginning site s kinds.Monitor req sid channel wanted
      → IsHeardOf site s (cond b over_range (asks (subscribe req sub sid channel wanted count) types))
  begun_so types req sub sid count channel wanted true over p = tt
  begun_so types req sub sid count channel wanted false over p = (p, over)

  steers_so : (types : Types) (req sub sid : ℕ) (count : Option ℕ) (r : Result (Asked × Channel) (List ℕ)) → found_for s kinds.Monitor sid req ≡ r → IsHeardOf site s (steering_found types req sub count r)
  steers_so types req sub sid count (Err why) is = tt
  steers_so types req sub sid count (Ok found) is = by_range (is_over (acknowledged count found.0.window)) refl
    where
      by_range : (b : Bool) → is_over (acknowledged count found.0.window) ≡ b
          → IsHeardOf site s (cond b over_range (cond (ends sub) (asks (destroy_request req) types) (asks (steer req count (started_by sub found.0.started) found.0) types)))
      by_range true over = tt
      by_range false over =
          let f = found_at s kinds.Monitor sid req found is in
          either_heard (ends sub) _ _ tt (record { here = f.here; kind_is = monitor_kind found.0.kind f.kind_is; few = over })

  monitors_so : (types : Types) (sid req sub : ℕ) (v : Valued) (count : Option ℕ) → IsHeardOf site s (heard_monitor site s types sid req sub v count)
  monitors_so types sid req sub v count =
      either_heard (begins sub) _ _
      (begins_so (λ t. IsHeardOf site s (windowed types count t)) kinds.Monitor req sub sid v (λ r. tt) (λ channel wanted p. begun_so types req sub sid count channel wanted (is_over count) refl p) (channel_at s.channels sid) refl)
      (steers_so types req sub sid count (found_for s kinds.Monitor sid req) refl)

  message_so : (whole : Whole) (types : Types) (request : Request) → IsHeardOf site s (heard_message site s whole types request)
  message_so whole types (said.validation buffer registry qos method argument) = validates_so buffer registry method argument
  message_so whole types (said.echo payload) = tt
  message_so whole types (said.create channels) = tt
  message_so whole types (said.destroy_channel sid cid) = either (λ t. IsTaskOf site s t) (is_open s.channels sid cid) _ _ tt tt
  message_so whole types (said.get sid req sub v) =
      either (λ t. IsTaskOf site s t) (begins sub) _ _ (task_begins kinds.Get req sub sid v) (gets_so kinds.Get req sub sid (found_for s kinds.Get sid req) refl refl)
  message_so whole types (said.put sid req sub v part) =
      either_heard (begins sub) _ _ (task_begins kinds.Put req sub sid v)
      (either_heard (asks_back sub) _ _ (gets_so kinds.Put req sub sid (found_for s kinds.Put sid req) refl refl) (puts_so whole types req sub sid (found_for s kinds.Put sid req) refl))
  message_so whole types (said.destroy_request sid req) = either (λ t. IsTaskOf site s t) (is_on sid (at s.requests req)) _ _ tt tt
  message_so whole types (said.cancel sid req) = tt
  message_so whole types (said.message req kind words) = tt
  message_so whole types (said.skipped command) = tt
  message_so whole types (said.put_get sid req sub v part) =
      either_heard (begins sub) _ _ (task_begins kinds.PutGet req sub sid v) (put_gets_so whole types req sub sid (found_for s kinds.PutGet sid req) refl)
  message_so whole types (said.monitor sid req sub v count) = monitors_so types sid req sub v count
  message_so whole types (said.get_field sid req path) = fields_so req path (channel_at s.channels sid)
  message_so whole types (said.rpc sid req sub v) =
      either (λ t. IsTaskOf site s t) (begins sub) _ _ (task_begins kinds.Rpc req sub sid v) (calls_so req sub sid v (found_for s kinds.Rpc sid req) refl)

  read_so : (whole : Whole) (read : Read Source Request) → IsHeardOf site s (heard_read site s whole read)
  read_so whole (Ok x) = message_so whole x.1.1 x.0
  read_so whole (Err fault) = tt

  pub heard_so : (e : Event) → IsHeardOf site s (heard site s e)
  heard_so (Message whole) =
      either_heard (is_heard s whole.command) (heard_read site s whole (request_at whole.order None whole.command (whole.payload, s.types))) (asks pass_over s.types)
      (read_so whole (request_at whole.order None whole.command (whole.payload, s.types))) tt
  heard_so (Control command number) = either (λ t. IsTaskOf site s t) (command == 3) (echo_control number) pass_over tt tt

-- Knowing other types changes nothing of that.

pub knows : (site : SiteData) (s : State) (types : Types) (task : Task) → IsTaskOf site s task → IsTaskOf site (knowing s types) task
knows site s types pass_over p = p
knows site s types (echo_control number) p = p
knows site s types (refuse r) p = p
knows site s types (tell r) p = p
knows site s types (put_get req sub ask channel mask value) p = p
knows site s types (respond req sub r) p = p
knows site s types (snapshot req sub) p = p
knows site s types (validate buffer registry user host) p = p
knows site s types (echo payload) p = p
knows site s types (create names) p = p
knows site s types (destroy_channel sid cid) p = p
knows site s types (begin kind req sub sid channel wanted) p = record { free = p.free; open_ = p.open_; asked = p.asked }
knows site s types (subscribe req sub sid channel wanted count) p = (record { free = p.0.free; open_ = p.0.open_; asked = p.0.asked }, p.1)
knows site s types (steer req count started ask) p = record { here = p.here; kind_is = p.kind_is; few = p.few }
knows site s types (get kind req sub ask channel) p = p
knows site s types (put req sub ask channel mask value) p = p
knows site s types (destroy_request req) p = p

pub knowing_on_site : (site : SiteData) (s : State) (types : Types) → IsOf site s → IsOf site (knowing s types)
knowing_on_site site s types ok = record { channels = ok.channels; requests = ok.requests }

hearing_on_site : (site : SiteData) (s : State) (hearing : Hearing) (marks : List Mark) → IsHeardOf site s hearing → IsOf site s → IsOf site (after_hearing site s hearing marks)
hearing_on_site site s (asks task types) marks p ok = task_on_site site (knowing s types) task marks (knows site s types task p) (knowing_on_site site s types ok)
hearing_on_site site s (unreadable fault) marks p ok = ok
hearing_on_site site s over_range marks p ok = ok

pub event_on_site : (site : SiteData) (s : State) (e : Event) (marks : List Mark) → IsOf site s → IsOf site (after_event site s e marks)
event_on_site site s e marks ok = hearing_on_site site s (heard site s e) marks (heard_so site s e) ok

-- A pop changes the window of a request alone.

pops_on : (site : SiteData) (channels : Channels) (requests : Requests) (req : ℕ) (o : Option Asked) → at requests req ≡ o → AreOn site channels requests → AreOn site channels (with_sent req o requests)
pops_on site channels requests req None here ok = ok
pops_on site channels requests req (Some ask) here ok =
    let p = ok req ask here in
    more_on site channels requests req (one_sent ask) (record { channel = p.channel; open_ = p.open_; selects = λ call. same_selects site p.channel ask (one_sent ask) refl (p.selects call) }) ok

pub pop_on_site : (site : SiteData) (s : State) (req : ℕ) (marks : List Mark) → IsOf site s → IsOf site (after_pop s req marks)
pop_on_site site s req [] ok = ok
pop_on_site site s req (Looked place channel footprint found ∷ marks) ok = ok
pop_on_site site s req (Entered place entry looked found ∷ marks) ok = ok
pop_on_site site s req (Overweight place footprint actions kept added limit ∷ marks) ok = ok
pop_on_site site s req (Begun place index slot channel mask size ∷ marks) ok = ok
pop_on_site site s req (Crowded place index count ∷ marks) ok = ok
pop_on_site site s req (Dropped place index slot ∷ marks) ok = ok
pop_on_site site s req (Popped place slot None ∷ marks) ok = ok
pop_on_site site s req (Popped place slot (Some update) ∷ []) ok = record { channels = ok.channels; requests = pops_on site s.channels s.requests req (at s.requests req) refl ok.requests }
pop_on_site site s req (Popped place slot (Some update) ∷ mark ∷ marks) ok = ok

-- At first there are no channels and no requests.
pub opening_on_site : (site : SiteData) (order : Order) → IsOf site (opening order)
opening_on_site site order = record {
  channels = λ sid channel is. absurd (none-some channel (sym (ap (option_map (λ x. x.1)) (get-empty nat_cmp sid)) ∙ is));
  requests = λ req ask is. absurd (none-some ask (sym (get-empty nat_cmp req) ∙ is));
}
