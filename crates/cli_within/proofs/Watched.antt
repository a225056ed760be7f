-- What a server with a monitor makes of what its client sends while it takes updates.
use Rattle.std.proofs.Common.{◌≡◌, ◌≢◌, ℕ, ◌==◌, Bool, true, false, cond, eq-eqb, List, [], ◌∷◌, ◌++◌, Option, None, Some, refl, sym, ap, subst, ◌∙◌, inl, inr}
use Rattle.std.specs.Prelude.{◌⊎◌}
use Rattle.std.specs.FinMap.{get as at, remove}
use Rattle.pva_wire.specs.declared.order.Order.{Order}
use Rattle.pva_frames.specs.declared.event.Event.{Event}
use Rattle.pvd_codec.specs.Written.{CanEach}
use Rattle.pva_messages.specs.Requests as requests
use Rattle.pva_messages.specs.Requests.{request_command}
use Rattle.chan_table.specs.declared.ask.AskKind.TheVariants as kinds
use Rattle.desk_api.specs.declared.channel.Channel.{Channel}
use Rattle.desk_api.specs.declared.history.SiteData.{SiteData}
use Rattle.desk_api.specs.declared.mark.Mark.{Mark}
use Rattle.srv_session.proofs.Finding.{in_use, no_request}
use Rattle.srv_session.proofs.Tables.{same_or_not, got_inserted, got_beside, got_removed, got_left}
use Rattle.srv_session.specs.Replies.{Sent}
use Rattle.srv_session.specs.Rows.{AreEndingsOf, steered}
use Rattle.srv_session.specs.State.{State, Asked, channel_at, is_on, slot_of}
use Rattle.srv_session.specs.Steps.{Step, hears, pops, IsAnswer, PopRow, after_hearing, events_of}
use Rattle.srv_session.specs.Tasks.{Hearing, asks, over_range, pass_over, destroy_request, steer, heard, is_kind, is_over, acknowledged, started_by, windowed, steering_found, beginning, found_for}
use Rattle.cli_session.specs.Messages as client
use Rattle.cli_session.specs.Messages.{Written}
use Rattle.cli_within.specs.Answers.{updates_in}
use Rattle.cli_within.proofs.Broken.{AreMade, broken_silent}
use Rattle.cli_within.proofs.Said.{IsRequest, AreRequests, AreReplies, speak, spoken}
use Rattle.cli_within.proofs.Sends.{IsMild, IsMildWritten}
use Rattle.cli_within.proofs.ServerTurns.{hears_it, heard_now}

first_or : Mark → List Mark → Mark
first_or m [] = m
first_or m (x ∷ xs) = x

-- endings take no update
ends_skip : (slots : List ℕ) (marks more : List Mark) → AreEndingsOf slots marks → updates_in (marks ++ more) ≡ updates_in more
unfolding first_or
ends_skip [] [] more h = refl
ends_skip [] (m ∷ marks) more h = absurd h
ends_skip (slot ∷ slots) [] more h = absurd h
ends_skip (slot ∷ slots) (m ∷ marks) more h = ap (λ (x : Mark). updates_in (x ∷ (marks ++ more))) (ap (first_or m) h.0.marks_are) ∙ ends_skip slots marks more h.1

module _ (site : SiteData) (sid : ℕ) (channel : Channel) where
  -- the only request is a monitor of the channel
  pub record Watches (s : State) : Type 0 where
    pub asked : Asked
    pub now : s.validated ≡ true
    pub there : channel_at s.channels sid ≡ Some channel
    pub here : at s.requests 1 ≡ Some asked
    pub sid_is : asked.sid ≡ sid
    pub kind_is : is_kind kinds.Monitor asked.kind ≡ true
    pub others : (q : ℕ) → q ≢ 1 → at s.requests q ≡ None

  -- there is no request
  pub record Gone (s : State) : Type 0 where
    pub now : s.validated ≡ true
    pub there : channel_at s.channels sid ≡ Some channel
    pub none : (q : ℕ) → at s.requests q ≡ None

  -- nothing is said and no update is taken
  pub record Passes (s : State) (hearing : Hearing) (marks : List Mark) (sent : List Sent) : Type 0 where
    pub silent : sent ≡ []
    pub skipped : (more : List Mark) → updates_in (marks ++ more) ≡ updates_in more
    pub after : Watches (after_hearing site s hearing marks) ⊎ Gone (after_hearing site s hearing marks)

  pub record GoneOn (s : State) (hearing : Hearing) (marks : List Mark) (sent : List Sent) : Type 0 where
    pub silent : sent ≡ []
    pub after : Gone (after_hearing site s hearing marks)

  module _ (s : State) (marks : List Mark) (sent : List Sent) where
    over_passes : Watches s → IsAnswer site s (asks pass_over s.types) marks sent → Passes s (asks pass_over s.types) marks sent
    over_passes w answer = record {
      silent = answer.sent_is;
      skipped = λ more. ap (λ (ms : List Mark). updates_in (ms ++ more)) answer.marks_are;
      after = inl w;
    }

    steer_passes : (w : Watches s) (count : Option ℕ) (started b : Bool) → IsAnswer site s (cond b over_range (asks (steer 1 count started w.asked) s.types)) marks sent
        → Passes s (cond b over_range (asks (steer 1 count started w.asked) s.types)) marks sent
    steer_passes w count started true answer = absurd answer
    steer_passes w count started false answer = record {
      silent = answer.sent_is;
      skipped = λ more. ap (λ (ms : List Mark). updates_in (ms ++ more)) answer.marks_are;
      after = inl (record {
        asked = steered count started w.asked;
        now = w.now;
        there = w.there;
        here = got_inserted s.requests 1 (steered count started w.asked);
        sid_is = w.sid_is;
        kind_is = w.kind_is;
        others = λ q apart. got_beside s.requests 1 (steered count started w.asked) q apart ∙ w.others q apart;
      });
    }

    end_passes : Watches s → IsAnswer site s (asks (destroy_request 1) s.types) marks sent → Passes s (asks (destroy_request 1) s.types) marks sent
    end_passes w answer = record {
      silent = answer.sent_is;
      skipped = λ more. ends_skip (slot_of (at s.requests 1)) marks more answer.endings;
      after = inr (record { now = w.now; there = w.there; none = λ q. left q (same_or_not q 1) });
    } where
      left : (q : ℕ) → (q ≡ 1) ⊎ (q ≢ 1) → at (remove s.requests 1) q ≡ None
      left q (inl e) = ap (at (remove s.requests 1)) e ∙ got_removed s.requests 1
      left q (inr apart) = got_left s.requests 1 q apart ∙ w.others q apart

    same_sid : (w : Watches s) → (w.asked.sid == sid) ≡ true
    same_sid w = ap (λ (n : ℕ). n == sid) w.sid_is ∙ eq-eqb sid sid refl

    pub steering_is : (w : Watches s) (order : Order) (e : Event) (sub : ℕ) (count : Option ℕ) → Rattle.pva_messages.specs.Subcommands.begins sub ≡ false → Rattle.pva_messages.specs.Subcommands.ends sub ≡ false
        → IsRequest order (client.said (requests.monitor sid 1 sub None count)) e
        → heard site s e ≡ cond (is_over (acknowledged count w.asked.window)) over_range (asks (steer 1 count (started_by sub w.asked.started) w.asked) s.types)
    steering_is w order e sub count no_begin no_end h =
        let m = requests.monitor sid 1 sub None count in
        ap (heard site s) h.1 ∙ hears_it site s order h.0 m (heard_now s (request_command m) w.now) h.2
        ∙ ap (λ (b : Bool). cond b (windowed s.types count (beginning site s kinds.Monitor 1 sub sid None (channel_at s.channels sid))) (steering_found s.types 1 sub count (found_for s kinds.Monitor sid 1))) no_begin
        ∙ ap (steering_found s.types 1 sub count) (in_use s kinds.Monitor sid 1 channel w.there w.asked w.here (same_sid w) w.kind_is)
        ∙ ap (λ (b : Bool). cond (is_over (acknowledged count w.asked.window)) over_range (cond b (asks (destroy_request 1) s.types) (asks (steer 1 count (started_by sub w.asked.started) w.asked) s.types))) no_end

    pub ending_is : (w : Watches s) (order : Order) (e : Event) → IsRequest order (client.said (requests.destroy_request sid 1)) e → heard site s e ≡ asks (destroy_request 1) s.types
    ending_is w order e h =
        let m = requests.destroy_request sid 1 in
        ap (heard site s) h.1 ∙ hears_it site s order h.0 m (heard_now s (request_command m) w.now) h.2
        ∙ ap (λ (o : Option Asked). asks (cond (is_on sid o) (destroy_request 1) pass_over) s.types) w.here
        ∙ ap (λ (b : Bool). asks (cond b (destroy_request 1) pass_over) s.types) (same_sid w)

    -- it goes on with its monitor, or without it
    pub watch_mild : (w : Watches s) (order : Order) (x : client.Sent) (e : Event) → IsRequest order x e → IsMild sid x → IsAnswer site s (heard site s e) marks sent → Passes s (heard site s e) marks sent
    watch_mild w order x e h (inl (number, is)) answer =
        let same : heard site s e ≡ asks pass_over s.types = ap (heard site s) (subst (λ (y : client.Sent). IsRequest order y e) is h) in
        subst (λ (k : Hearing). Passes s k marks sent) (sym same) (over_passes w (subst (λ (k : Hearing). IsAnswer site s k marks sent) same answer))
    watch_mild w order x e h (inr (inl (sub, count, no_begin, no_end, starts, is))) answer =
        let same = steering_is w order e sub count no_begin no_end (subst (λ (y : client.Sent). IsRequest order y e) is h) in
        subst (λ (k : Hearing). Passes s k marks sent) (sym same)
        (steer_passes w count (started_by sub w.asked.started) (is_over (acknowledged count w.asked.window)) (subst (λ (k : Hearing). IsAnswer site s k marks sent) same answer))
    watch_mild w order x e h (inr (inr is)) answer =
        let same = ending_is w order e (subst (λ (y : client.Sent). IsRequest order y e) is h) in
        subst (λ (k : Hearing). Passes s k marks sent) (sym same) (end_passes w (subst (λ (k : Hearing). IsAnswer site s k marks sent) same answer))

    over_gone : Gone s → IsAnswer site s (asks pass_over s.types) marks sent → GoneOn s (asks pass_over s.types) marks sent
    over_gone g answer = record { silent = answer.sent_is; after = g }

    pub gone_is : (g : Gone s) (order : Order) (x : client.Sent) (e : Event) → IsRequest order x e → IsMild sid x → heard site s e ≡ asks pass_over s.types
    gone_is g order x e h (inl (number, is)) = ap (heard site s) (subst (λ (y : client.Sent). IsRequest order y e) is h)
    gone_is g order x e h (inr (inl (sub, count, no_begin, no_end, starts, is))) =
        let m = requests.monitor sid 1 sub None count in
        let k = subst (λ (y : client.Sent). IsRequest order y e) is h in
        ap (heard site s) k.1 ∙ hears_it site s order k.0 m (heard_now s (request_command m) g.now) k.2
        ∙ ap (λ (b : Bool). cond b (windowed s.types count (beginning site s kinds.Monitor 1 sub sid None (channel_at s.channels sid))) (steering_found s.types 1 sub count (found_for s kinds.Monitor sid 1))) no_begin
        ∙ ap (steering_found s.types 1 sub count) (no_request s kinds.Monitor sid 1 channel g.there (g.none 1))
    gone_is g order x e h (inr (inr is)) =
        let m = requests.destroy_request sid 1 in
        let k = subst (λ (y : client.Sent). IsRequest order y e) is h in
        ap (heard site s) k.1 ∙ hears_it site s order k.0 m (heard_now s (request_command m) g.now) k.2
        ∙ ap (λ (o : Option Asked). asks (cond (is_on sid o) (destroy_request 1) pass_over) s.types) (g.none 1)

    gone_mild : (g : Gone s) (order : Order) (x : client.Sent) (e : Event) → IsRequest order x e → IsMild sid x → IsAnswer site s (heard site s e) marks sent → GoneOn s (heard site s e) marks sent
    gone_mild g order x e h mild answer =
        let same = gone_is g order x e h mild in
        subst (λ (k : Hearing). GoneOn s k marks sent) (sym same) (over_gone g (subst (λ (k : Hearing). IsAnswer site s k marks sent) same answer))

  pub gone_not_popped : (s : State) (req : ℕ) (marks : List Mark) (sent : List Sent) → Gone s → PopRow site s req marks sent → ⊥
  gone_not_popped s req marks sent g row = let clash : None ≡ Some row.is_pop.ask = sym (g.none req) ∙ row.is_pop.is_due.here in absurd cc

  -- without a monitor nothing more is said
  pub gone_silent : (steps : List Step) (s : State) (ws : List Written) (e : Event) (es : List Event) → Gone s → AreMade site s steps → AreRequests (events_of steps) ws → CanEach (IsMildWritten sid) ws → AreReplies (e ∷ es) (spoken site s steps) → ⊥
  gone_silent [] s ws e es g rules heard_ mild told = told
  gone_silent (pops req marks sent ∷ xs) s ws e es g (inl rules) heard_ mild told = gone_not_popped s req marks sent g rules.0.0
  gone_silent (pops req marks sent ∷ xs) s ws e es g (inr (last, broken)) heard_ mild told = broken_silent site s (pops req marks sent) xs e es last broken told
  gone_silent (hears f marks sent ∷ xs) s [] e es g rules heard_ mild told = heard_
  gone_silent (hears f marks sent ∷ xs) s (w ∷ ws) e es g (inr (last, broken)) heard_ mild told = broken_silent site s (hears f marks sent) xs e es last broken told
  gone_silent (hears f marks sent ∷ xs) s (w ∷ ws) e es g (inl rules) heard_ mild told =
      let on = gone_mild s marks sent g w.order w.sent f heard_.0 mild.0 rules.0.0 in
      let next = after_hearing site s (heard site s f) marks in
      gone_silent xs next ws e es on.after rules.1 heard_.1 mild.1
      (subst (λ (ys : List Sent). AreReplies (e ∷ es) (speak s.order s.segment ys ++ spoken site next xs)) on.silent told)
