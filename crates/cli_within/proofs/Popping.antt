-- A server with a monitor, and a client that takes its updates, step by step.
use Rattle.std.proofs.Common.{◌≡◌, ◌≢◌, ℕ, List, [], ◌∷◌, ◌++◌, Option, None, Some, sym, ap, subst, ◌∙◌, inl, inr}
use Rattle.std.specs.Prelude.{◌⊎◌}
use Rattle.std.specs.FinMap.{get as at, insert}
use Rattle.pva_frames.specs.declared.event.Event.{Event}
use Rattle.pvd_codec.specs.Written.{CanEach}
use Rattle.mon_queue.specs.declared.update.Update.{Update}
use Rattle.desk_api.specs.Types.{type_of}
use Rattle.desk_api.specs.declared.channel.Channel.{Channel}
use Rattle.desk_api.specs.declared.history.SiteData.{SiteData}
use Rattle.desk_api.specs.declared.mark.Mark.{Mark}
use Rattle.desk_api.specs.declared.mark.Mark.TheVariants.{Popped}
use Rattle.srv_session.proofs.Tables.{same_or_not, got_inserted, got_beside}
use Rattle.srv_session.specs.Replies.{Sent, said, updated}
use Rattle.srv_session.specs.State.{State, Asked, Requests, channel_at}
use Rattle.srv_session.specs.Steps.{Step, hears, pops, PopRow, after_pop, after_hearing, with_sent, one_sent, update_sent, events_of, marks_of}
use Rattle.srv_session.specs.Tasks.{heard}
use Rattle.cli_session.specs.Messages.{Written}
use Rattle.cli_session.specs.State as client
use Rattle.cli_session.specs.declared.ask.Ask.{Ask}
use Rattle.cli_within.specs.Answers.{updates_in}
use Rattle.cli_within.proofs.Broken.{AreMade, broken_silent}
use Rattle.cli_within.proofs.ClientTurns.{Tells, waits}
use Rattle.cli_within.proofs.Said.{AreRequests, AreReplies, speak, spoken}
use Rattle.cli_within.proofs.Sends.{IsMildWritten}
use Rattle.cli_within.proofs.Updates.{expected_of, expected, Taking, Loop, update_told}
use Rattle.cli_within.proofs.Watched.{Watches, Gone, watch_mild, gone_silent}

abbrev sid_in : Option Asked → ℕ
sid_in None = 0
sid_in (Some x) = x.sid

abbrev channel_in : Channel → Option Channel → Channel
channel_in c None = c
channel_in c (Some x) = x

module _ (ask : Ask) (site : SiteData) (sid : ℕ) (channel : Channel) where
  module _ (xs : List Step) (loop_ : Loop ask site sid channel xs) (s : State) (e : Event) (es : List Event) (ws : List Written) (d : client.State) (w : Watches site sid channel s) (taking : Taking ask site sid channel d) (heard_ : AreRequests (events_of xs) ws)
      (mild : CanEach (IsMildWritten sid) ws) where
    the_request : (req : ℕ) (x : Asked) → at s.requests req ≡ Some x → req ≡ 1
    the_request req x here = by (same_or_not req 1)
      where
        by : (req ≡ 1) ⊎ (req ≢ 1) → req ≡ 1
        by (inl is) = is
        by (inr apart) = let clash : None ≡ Some x = sym (w.others req apart) ∙ here in absurd cc

    abbrev after_sent : State
    after_sent = record s { requests = insert s.requests 1 (one_sent w.asked) }

    still : Watches site sid channel after_sent
    still = record {
      asked = one_sent w.asked;
      now = w.now;
      there = w.there;
      here = got_inserted s.requests 1 (one_sent w.asked);
      sid_is = w.sid_is;
      kind_is = w.kind_is;
      others = λ q apart. got_beside s.requests 1 (one_sent w.asked) q apart ∙ w.others q apart;
    }

    pop_by : (req place slot : ℕ) (marks : List Mark) (sent : List Sent) → req ≡ 1 → (update : Option Update) → sent ≡ update_sent site 1 channel update → marks ≡ Popped place slot update ∷ [] → AreMade site (after_pop s req marks) xs
        → AreReplies (e ∷ es) (speak s.order s.segment sent ++ spoken site (after_pop s req marks) xs) → Tells ask d (e ∷ es) (expected ask site sid channel d.left (marks ++ marks_of xs))
    pop_by req place slot marks sent one None sent_is marks_is rules told =
        let after : after_pop s req marks ≡ s = ap (after_pop s req) marks_is in
        let told_now = subst (λ (n : State). AreReplies (e ∷ es) (speak s.order s.segment sent ++ spoken site n xs)) after told in
        let told_here = subst (λ (ys : List Sent). AreReplies (e ∷ es) (speak s.order s.segment ys ++ spoken site s xs)) sent_is told_now in
        subst (λ (ms : List Mark). Tells ask d (e ∷ es) (expected ask site sid channel d.left (ms ++ marks_of xs))) (sym marks_is)
        (loop_ s (e ∷ es) ws d w taking (subst (λ (n : State). AreMade site n xs) after rules) heard_ mild told_here)
    pop_by req place slot marks sent one (Some u) sent_is marks_is rules told =
        let after : after_pop s req marks ≡ after_sent =
        ap (after_pop s req) marks_is ∙ ap (λ (q : ℕ). with_requests (with_sent q (at s.requests q) s.requests)) one ∙ ap (λ (o : Option Asked). with_requests (with_sent 1 o s.requests)) w.here in
        let told_now = subst (λ (n : State). AreReplies (e ∷ es) (speak s.order s.segment sent ++ spoken site n xs)) after told in
        let told_here : AreReplies (e ∷ es) (speak s.order s.segment (said (updated 1 (type_of site channel) u) ∷ []) ++ spoken site after_sent xs) =
        subst (λ (ys : List Sent). AreReplies (e ∷ es) (speak s.order s.segment ys ++ spoken site after_sent xs)) sent_is told_now in
        subst (λ (ms : List Mark). Tells ask d (e ∷ es) (expected ask site sid channel d.left (ms ++ marks_of xs))) (sym marks_is)
        (update_told ask site sid channel xs loop_ d taking after_sent s.order s.segment u e es ws still (subst (λ (n : State). AreMade site n xs) after rules) heard_ mild told_here.0 told_here.1 place slot)
      where
        with_requests : Requests → State
        with_requests r = record s { requests = r }

    popped : (req : ℕ) (marks : List Mark) (sent : List Sent) → PopRow site s req marks sent → AreMade site (after_pop s req marks) xs
        → AreReplies (e ∷ es) (speak s.order s.segment sent ++ spoken site (after_pop s req marks) xs) → Tells ask d (e ∷ es) (expected ask site sid channel d.left (marks ++ marks_of xs))
    popped req marks sent row rules told =
        let due = row.is_pop.is_due in
        let one = the_request req row.is_pop.ask due.here in
        let sid_is : row.is_pop.ask.sid ≡ sid = ap sid_in (sym due.here ∙ ap (at s.requests) one ∙ w.here) ∙ w.sid_is in
        let same : row.channel ≡ channel = ap (channel_in channel) (sym due.open_ ∙ ap (channel_at s.channels) sid_is ∙ w.there) in
        pop_by req row.is_pop.place row.is_pop.sub.slot marks sent one row.update (row.sent_is ∙ (λ i. update_sent site (one i) (same i) row.update)) row.is_pop.marks_are rules told

    passed : (marks : List Mark) (sent : List Sent) (next : State) → sent ≡ [] → ((more : List Mark) → updates_in (marks ++ more) ≡ updates_in more) → (Watches site sid channel next ⊎ Gone site sid channel next)
        → AreMade site next xs → AreReplies (e ∷ es) (speak s.order s.segment sent ++ spoken site next xs) → Tells ask d (e ∷ es) (expected ask site sid channel d.left (marks ++ marks_of xs))
    passed marks sent next silent skipped (inl on) rules told =
        subst (λ (us : List Update). Tells ask d (e ∷ es) (expected_of ask site sid channel d.left us)) (sym (skipped (marks_of xs)))
        (loop_ next (e ∷ es) ws d on taking rules heard_ mild (subst (λ (ys : List Sent). AreReplies (e ∷ es) (speak s.order s.segment ys ++ spoken site next xs)) silent told))
    passed marks sent next silent skipped (inr gone) rules told =
        absurd (gone_silent site sid channel xs next ws e es gone rules heard_ mild (subst (λ (ys : List Sent). AreReplies (e ∷ es) (speak s.order s.segment ys ++ spoken site next xs)) silent told))

  pub loop : (steps : List Step) → Loop ask site sid channel steps
  loop [] s [] ws d w taking rules heard_ mild told = waits ask d (expected ask site sid channel d.left [])
  loop [] s (e ∷ es) ws d w taking rules heard_ mild told = absurd told
  loop (x ∷ xs) s [] ws d w taking rules heard_ mild told = waits ask d (expected ask site sid channel d.left (marks_of (x ∷ xs)))
  loop (pops req marks sent ∷ xs) s (e ∷ es) ws d w taking (inr (last, broken)) heard_ mild told = absurd (broken_silent site s (pops req marks sent) xs e es last broken told)
  loop (pops req marks sent ∷ xs) s (e ∷ es) ws d w taking (inl rules) heard_ mild told = popped xs (loop xs) s e es ws d w taking heard_ mild req marks sent rules.0.0 rules.1 told
  loop (hears f marks sent ∷ xs) s (e ∷ es) [] d w taking rules heard_ mild told = absurd heard_
  loop (hears f marks sent ∷ xs) s (e ∷ es) (v ∷ ws) d w taking (inr (last, broken)) heard_ mild told = absurd (broken_silent site s (hears f marks sent) xs e es last broken told)
  loop (hears f marks sent ∷ xs) s (e ∷ es) (v ∷ ws) d w taking (inl rules) heard_ mild told =
      let p = watch_mild site sid channel s marks sent w v.order v.sent f heard_.0 mild.0 rules.0.0 in
      passed xs (loop xs) s e es ws d w taking heard_.1 mild.1 marks sent (after_hearing site s (heard site s f) marks) p.silent p.skipped p.after rules.1 told
