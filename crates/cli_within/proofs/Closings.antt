-- The last turn of an exchange.
use Rattle.std.proofs.Common.{◌≡◌, ℕ, true, List, [], ◌∷◌, ◌++◌, subst}
use Rattle.pva_wire.specs.declared.order.Order.{Order}
use Rattle.pva_frames.specs.declared.event.Event.{Event}
use Rattle.pva_messages.specs.Laws.{IsReplyWritable}
use Rattle.pva_messages.specs.Replies.{Reply}
use Rattle.pva_messages.specs.Requests as requests
use Rattle.desk_api.specs.declared.history.SiteData.{SiteData}
use Rattle.srv_session.specs.Replies as replies
use Rattle.srv_session.specs.State as server
use Rattle.srv_session.specs.Steps.{Step, after_hearing, events_of, marks_of}
use Rattle.srv_session.specs.Tasks.{Hearing}
use Rattle.cli_session.specs.Messages.{Written, written, said}
use Rattle.cli_session.specs.Steps.{Taken, written_of, run}
use Rattle.cli_session.specs.declared.ask.Ask.{Ask}
use Rattle.cli_within.proofs.ClientTurns.{Stand, nothing_sent}
use Rattle.cli_within.proofs.Said.{AreRequests, AreReplies, speak, spoken}
use Rattle.cli_within.proofs.ServerTurns.{Answered, HasNoSubs, ends_quietly}

-- the one reply of a turn has a spelling
pub said_clear : (site : SiteData) (s : server.State) (hearing : Hearing) (ws : List Written) (steps : List Step) (e : Event) (es : List Event) (r : Reply) (a : Answered site s hearing ws steps (e ∷ es)) → a.sent ≡ replies.said r ∷ [] → IsReplyWritable r
said_clear site s hearing ws steps e es r a sent_is =
    let next = after_hearing site s hearing a.marks in
    let told_now : AreReplies (e ∷ es) (speak s.order s.segment (replies.said r ∷ []) ++ spoken site next a.later) =
    subst (λ (xs : List replies.Sent). AreReplies (e ∷ es) (speak s.order s.segment xs ++ spoken site next a.later)) sent_is a.told in
    told_now.0.2

-- behind it the client ends its request, of which there is no mark
pub quiet_end : (ask : Ask) (site : SiteData) (t : Taken) (s : server.State) (steps : List Step) (es : List Event) (order : Order) (segment sid req : ℕ) → t.state.turns ≡ []
    → written_of t ≡ written order segment (said (requests.destroy_request sid req)) ∷ [] → HasNoSubs s → s.validated ≡ true → Stand ask site t.state s (written_of t) steps es → marks_of steps ≡ []
quiet_end ask site t s steps es order segment sid req over last none now stand =
    let sent : written_of t ++ (run ask t.state es).sent ≡ written order segment (said (requests.destroy_request sid req)) ∷ [] = λ i. last i ++ nothing_sent ask t.state es over i in
    ends_quietly site s order segment sid req none now steps stand.rules (subst (AreRequests (events_of steps)) sent stand.heard_of)
