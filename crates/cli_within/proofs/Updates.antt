-- The updates of a monitor: each that is popped is printed, until as many as were awaited.
use Rattle.std.proofs.Common.{◌≡◌, ◌≢◌, ℕ, suc, ◌-◌, ◌<◌, ◌≤◌, ◌==◌, Bool, true, false, cond, ltb-true, ltb-false, ne_eqb, List, [], ◌∷◌, ◌++◌, take, Option, None, Some, Result, Ok, refl, sym, ap, subst, ◌∙◌, append_assoc, arith}
use Rattle.std.specs.Prelude.{nat_lt}
use Rattle.std.specs.FinSet.{FinSet}
use Rattle.std.specs.List.{flat_map}
use Rattle.std.specs.Ordering.{nat_cmp}
use Rattle.pva_wire.specs.declared.order.Order.{Order}
use Rattle.pva_wire.specs.Spelling.{number_bytes}
use Rattle.pva_wire.proofs.Digits.{number_at_again}
use Rattle.pva_frames.specs.declared.event.Event.{Event}
use Rattle.pvd_type.specs.Tree.{Tree}
use Rattle.pvd_value.specs.Leaves.{marked_leaves}
use Rattle.pvd_value.specs.View.{view}
use Rattle.pvd_codec.specs.Written.{CanEach}
use Rattle.mon_queue.specs.declared.update.Update.{Update}
use Rattle.pva_messages.specs.Fields.{PartData, byte}
use Rattle.pva_messages.specs.Laws.{IsReplyWritable, reply_payload, seen_reply}
use Rattle.pva_messages.specs.Reading.{request_id, id_of}
use Rattle.pva_messages.specs.Replies as reply
use Rattle.pva_messages.specs.Replies.{Reply, reply_command, update_field}
use Rattle.pva_messages.specs.Rows.{byte_of, command_of}
use Rattle.pva_messages.specs.Written.{canonical, seen_part}
use Rattle.pva_messages.specs.declared.command.Command.TheVariants as command
use Rattle.desk_api.specs.Types.{type_of}
use Rattle.desk_api.specs.declared.channel.Channel.{Channel}
use Rattle.desk_api.specs.declared.history.SiteData.{SiteData}
use Rattle.desk_api.specs.declared.mark.Mark.{Mark}
use Rattle.desk_api.specs.declared.mark.Mark.TheVariants.{Popped}
use Rattle.srv_session.specs.Replies as replies
use Rattle.srv_session.specs.State as server
use Rattle.srv_session.specs.State.{Asked}
use Rattle.srv_session.specs.Steps.{Step, events_of, marks_of}
use Rattle.cli_text.specs.Lines.{part_text}
use Rattle.cli_session.specs.Answers.{unless_own}
use Rattle.cli_session.specs.Messages.{Written, acknowledgement, window_of}
use Rattle.cli_session.specs.State.{State}
use Rattle.cli_session.specs.Steps.{Told, Taken, Run, part, saying, finished, updated, replied, type_for, step, run}
use Rattle.cli_session.specs.Text.{told_text}
use Rattle.cli_session.specs.declared.ask.Ask.{Ask}
use Rattle.cli_session.specs.declared.fault.ClientFault.{ClientFault}
use Rattle.cli_session.specs.declared.turn.Turn.TheVariants as turn
use Rattle.cli_within.specs.Answers.{updates_in, update_text, awaited_updates}
use Rattle.cli_within.specs.Ends.{ending_of}
use Rattle.cli_within.specs.Updates.{IsUpdateTold}
use Rattle.cli_within.proofs.LeafSets.{leaves_stay}
use Rattle.cli_within.proofs.Broken.{AreMade}
use Rattle.cli_within.proofs.ClientTurns.{readied, reply_event, Knows, hears_reply, run_one, AreUpdatesIf, Expected, Tells, tells_last}
use Rattle.cli_within.proofs.Said.{AreRequests, AreReplies, IsReply, spoken}
use Rattle.cli_within.proofs.SeenTexts.{seen_text}
use Rattle.cli_within.proofs.Sends.{IsMildWritten}
use Rattle.cli_within.proofs.Watched.{Watches}

update_named : (order : Order) (u : Option (PartData × FinSet nat_cmp)) → request_id order (byte_of command.Monitor) (reply_payload order (reply.monitor_update 1 0 u)) ≡ Some 1
unfolding command_of
update_named order u = ap id_of (number_at_again order 4 (number_bytes order 4 1) (canonical order (byte 0 ∷ update_field u)) 1 (omega arith, refl))

-- how many updates are awaited

awaited_is : (n : ℕ) → 0 < n → awaited_updates n ≡ n
awaited_is n some = ap (λ (b : Bool). cond b 1 n) (ne_eqb n 0 (λ e. absurd (omega (arith, some, e))))

pub more_awaited : (n : ℕ) (u : Update) (us : List Update) → nat_lt 1 n ≡ true → take (awaited_updates n) (u ∷ us) ≡ u ∷ take (awaited_updates (n - 1)) us
more_awaited n u us more =
    let less : 1 < n = ltb-true 1 n more in
    let next : n ≡ suc (n - 1) = omega (arith, less) in
    ap (λ (k : ℕ). take k (u ∷ us)) (awaited_is n (omega (arith, less)) ∙ next)
    ∙ ap (λ (k : ℕ). u ∷ take k us) (sym (awaited_is (n - 1) (omega (arith, less))))

last_of : (n : ℕ) (b : Bool) → (n == 0) ≡ b → n ≤ 1 → cond b 1 n ≡ 1
last_of n true zero_ few = refl
last_of n false some few = let apart : n ≢ 0 = λ e. absurd (let is : (n == 0) ≡ true = ap (λ (k : ℕ). k == 0) e in let no = some in cc) in one_left n few apart
  where
    one_left : (n : ℕ) → n ≤ 1 → n ≢ 0 → n ≡ 1
    one_left n few apart = omega (arith, few, apart)

pub last_awaited : (n : ℕ) (u : Update) (us : List Update) → nat_lt 1 n ≡ false → take (awaited_updates n) (u ∷ us) ≡ u ∷ []
last_awaited n u us last = ap (λ (k : ℕ). take k (u ∷ us)) (last_of n (n == 0) refl (omega (arith, ltb-false 1 n last)))

sid_in : Option Asked → ℕ
sid_in None = 0
sid_in (Some x) = x.sid

channel_in : Channel → Option Channel → Channel
channel_in c None = c
channel_in c (Some x) = x

module _ (ask : Ask) (site : SiteData) (sid : ℕ) (channel : Channel) where
  abbrev ty : Tree
  ty = type_of site channel

  abbrev pub expected_of : ℕ → List Update → Expected
  expected_of left updates = record { text = flat_map (update_text ty) (take (awaited_updates left) updates); updates = Some (ty, updates) }

  abbrev pub expected : ℕ → List Mark → Expected
  expected left marks = expected_of left (updates_in marks)

  pub record Taking (d : State) : Type 0 where
    pub turns_are : d.turns ≡ turn.Updates ∷ []
    pub req_is : d.req ≡ Some 1
    pub ty_is : d.ty ≡ Some ty

  abbrev pub Loop : List Step → Type 0
  Loop xs = (s : server.State) (es : List Event) (ws : List Written) (d : State) → Watches site sid channel s → Taking d → AreMade site s xs → AreRequests (events_of xs) ws → CanEach (IsMildWritten sid) ws
      → AreReplies es (spoken site s xs) → Tells ask d es (expected d.left (marks_of xs))

  abbrev pub part_of : Update → PartData
  part_of u = record { ty = ty; mask = u.changed; value = view u.value }

  abbrev pub said_of : Update → Reply
  said_of u = reply.monitor_update 1 0 (Some (part_of u, u.overrun))

  abbrev pub told_of : Update → Told
  told_of u = part (seen_part (part_of u)) (marked_leaves ty u.overrun)

  pub update_taken : (d : State) → Taking d → (order : Order) (place : ℕ) (u : Update) → IsReplyWritable (said_of u) → step ask d (reply_event order place (said_of u)) ≡ Ok (updated ask (readied order d) turn.Updates (told_of u ∷ []))
  update_taken d taking order place u can =
      let r = said_of u in
      let known : Knows d order r =
      λ t same. ap (λ (q : Option ℕ). type_for q d.ty (request_id order (reply_command r) (reply_payload order r))) taking.req_is
      ∙ ap (λ (y : Option Tree). type_for (Some 1) y (request_id order (reply_command r) (reply_payload order r))) taking.ty_is
      ∙ ap (type_for (Some 1) (Some ty)) (update_named order (Some (part_of u, u.overrun))) ∙ same in
      hears_reply ask d turn.Updates [] order place r taking.turns_are refl can known
      ∙ ap (λ (q : Option ℕ). replied ask (readied order d) turn.Updates [] (seen_reply r) (unless_own q 1)) taking.req_is

  text_of_update : (u : Update) → IsReplyWritable (said_of u) → replies.HasLeafBits (said_of u) → told_text (told_of u) ≡ update_text ty u
  text_of_update u can bits =
      seen_text (part_of u) (marked_leaves ty u.overrun) can.1.1.1.0.0 ∙ ap (λ (o : FinSet nat_cmp). part_text u.changed o ty (view u.value)) (leaves_stay ty u.overrun bits)

  is_told : (u : Update) → IsReplyWritable (said_of u) → replies.HasLeafBits (said_of u) → IsUpdateTold ty (told_of u) u
  is_told u can bits = (text_of_update u can bits, (refl, leaves_stay ty u.overrun bits))

  -- an update was sent, and the client takes it
  module _ (xs : List Step) (loop : Loop xs) (d : State) (taking : Taking d) (s : server.State) (order : Order) (segment : ℕ) (u : Update) (e : Event) (es : List Event) (ws : List Written) (watches : Watches site sid channel s) (rules : AreMade site s xs)
      (heard_ : AreRequests (events_of xs) ws) (mild : CanEach (IsMildWritten sid) ws) (first : IsReply order (replies.said (said_of u)) e) (told : AreReplies es (spoken site s xs)) where
    abbrev here : State
    here = readied order d

    abbrev going : Taken
    going = saying (record here { left = d.left - 1 }) (acknowledgement d.sid (window_of ask.operation)) (told_of u ∷ [])

    abbrev ending_ : Taken
    ending_ = finished here turn.Updates (told_of u ∷ [])

    step_is : (b : Bool) → nat_lt 1 d.left ≡ b → step ask d e ≡ Ok (cond b going ending_)
    step_is b is = ap (step ask d) first.1 ∙ update_taken d taking order first.0 u first.2 ∙ ap (λ (c : Bool). ok_taken (cond c going ending_)) is
      where
        ok_taken : Taken → Result Taken ClientFault
        ok_taken t = Ok t

    one_more : (place : ℕ) (slot : ℕ) → nat_lt 1 d.left ≡ true → Tells ask d (e ∷ es) (expected d.left (Popped place slot (Some u) ∷ marks_of xs))
    one_more place slot more =
        let runs = run_one ask d e es going (step_is true more) in
        let same : (run ask d (e ∷ es)).told ≡ told_of u ∷ (run ask going.state es).told = ap (λ (r : Run). r.told) runs in
        let later = loop s es ws going.state watches (record { turns_are = taking.turns_are; req_is = taking.req_is; ty_is = taking.ty_is }) rules heard_ mild told in
        let text = text_of_update u first.2 first.3 in
        let here_printed = ap (flat_map told_text) same ∙ (λ i. text i ++ flat_map told_text (run ask going.state es).told) in
        let here_told = ap (flat_map (update_text ty)) (more_awaited d.left u (updates_in (marks_of xs)) more) in
        record {
          whole = λ end over. here_printed ∙ ap (λ (x : List ℕ). update_text ty u ++ x) (later.whole end (sym (ap ending_of same) ∙ over)) ∙ sym here_told;
          front = record {
            rest = later.front.rest;
            whole =
                here_told ∙ ap (λ (x : List ℕ). update_text ty u ++ x) later.front.whole
                ∙ sym (append_assoc (update_text ty u) (flat_map told_text (run ask going.state es).told) later.front.rest)
                ∙ ap (λ (x : List ℕ). x ++ later.front.rest) (sym here_printed);
          };
          updates = subst (λ (ts : List Told). AreUpdatesIf ts (Some (ty, u ∷ updates_in (marks_of xs)))) (sym same) (is_told u first.2 first.3, later.updates);
        }

    one_last : (place : ℕ) (slot : ℕ) → nat_lt 1 d.left ≡ false → Tells ask d (e ∷ es) (expected d.left (Popped place slot (Some u) ∷ marks_of xs))
    one_last place slot last =
        let runs = run_one ask d e es ending_ (step_is false last) in
        let text = text_of_update u first.2 first.3 in
        tells_last ask d e es ending_ (expected d.left (Popped place slot (Some u) ∷ marks_of xs)) runs refl
        ((λ i. text i ++ []) ∙ sym (ap (flat_map (update_text ty)) (last_awaited d.left u (updates_in (marks_of xs)) last))) (is_told u first.2 first.3, refl)

    pub update_told : (place : ℕ) (slot : ℕ) → Tells ask d (e ∷ es) (expected d.left (Popped place slot (Some u) ∷ marks_of xs))
    update_told place slot = by (nat_lt 1 d.left) refl
      where
        by : (b : Bool) → nat_lt 1 d.left ≡ b → Tells ask d (e ∷ es) (expected d.left (Popped place slot (Some u) ∷ marks_of xs))
        by true more = one_more place slot more
        by false last = one_last place slot last
