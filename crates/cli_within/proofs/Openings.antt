-- The beginning of an exchange: the greeting, the validation, and the creation of the channel.
use Rattle.std.proofs.Common.{◌≡◌, ℕ, Bool, true, false, ◌||◌, List, [], ◌∷◌, ◌++◌, Option, None, Some, Ok, refl, ap, subst, ◌∙◌}
use Rattle.std.specs.Prelude.{codes, nat_le}
use Rattle.std.specs.FinMap.{empty, len-empty}
use Rattle.std.specs.Ordering.{nat_cmp}
use Rattle.pva_wire.specs.declared.order.Order.{Order}
use Rattle.pva_wire.specs.declared.order.Order.TheVariants.{Little}
use Rattle.pva_frames.specs.declared.event.Event.{Event}
use Rattle.pva_messages.specs.Laws.{IsReplyWritable, IsWritable}
use Rattle.pva_messages.specs.Replies as reply
use Rattle.pva_messages.specs.Requests.{Request, request_command}
use Rattle.chan_table.specs.Tables.{limit}
use Rattle.desk_api.specs.declared.channel.Channel.{Channel}
use Rattle.desk_api.specs.declared.history.SiteData.{SiteData}
use Rattle.srv_session.specs.Replies.{greetings, methods}
use Rattle.srv_session.specs.State as server
use Rattle.srv_session.specs.State.{channel_at, is_full}
use Rattle.srv_session.specs.Steps.{Step, events_of}
use Rattle.srv_session.specs.Tasks.{asks, validate, heard, text_in, is_heard}
use Rattle.cli_session.specs.Messages.{validation}
use Rattle.cli_session.specs.State.{State, opening, segment_for}
use Rattle.cli_session.specs.Steps.{Taken, Run, quietly, next, written_of, and_then, step, run}
use Rattle.cli_session.specs.Structures.{user_of}
use Rattle.cli_session.specs.Turns.{own_turns}
use Rattle.cli_session.specs.declared.ask.Ask.{Ask}
use Rattle.cli_session.specs.declared.turn.Turn.{Turn}
use Rattle.cli_session.specs.declared.turn.Turn.TheVariants as turn
use Rattle.cli_within.proofs.Broken.{AreMade}
use Rattle.cli_within.proofs.ClientTurns.{readied, reply_event, hears_reply, run_one, Expected, Tells, waits, tells_on, Stand}
use Rattle.cli_within.proofs.Said.{AreRequests, AreReplies, speak, spoken}
use Rattle.cli_within.proofs.ServerTurns.{event_of, hears_it}

-- a channel is open for the client
pub record Opened (c : State) (s : server.State) (channel : Channel) : Type 0 where
  pub now : s.validated ≡ true
  pub there : channel_at s.channels c.sid ≡ Some channel
  pub none : s.requests ≡ empty

pub none_yet : (X : Type 0) → is_full {X = X} empty ≡ false
none_yet X = ap (λ (n : ℕ). nat_le limit n) (len-empty nat_cmp X)

-- what the validation of a client asks for
pub record Validates (m : Request) : Type 0 where
  pub user : Option (List ℕ)
  pub host : Option (List ℕ)
  pub is : (site : SiteData) (s : server.State) (place : ℕ) (order : Order) → IsWritable m → heard site s (event_of order place m) ≡ asks (validate 65536 32767 user host) s.types

pub validates : (user : Option (List ℕ × List ℕ)) → Validates (validation user)
validates None = record {
  user = None;
  host = None;
  is = λ site s place order can. hears_it site s order place (validation None) (early s) can;
} where
  early : (s : server.State) → is_heard s (request_command (validation None)) ≡ true
  early s = by s.validated
    where
      by : (b : Bool) → (b || true) ≡ true
      by true = refl
      by false = refl
validates (Some user) = record {
  user = text_in (Some (user_of user)) (codes "user");
  host = text_in (Some (user_of user)) (codes "host");
  is = λ site s place order can. hears_it site s order place (validation (Some user)) (early s) can;
} where
  early : (s : server.State) → is_heard s (request_command (validation (Some user))) ≡ true
  early s = by s.validated
    where
      by : (b : Bool) → (b || true) ≡ true
      by true = refl
      by false = refl

module _ (ask : Ask) (site : SiteData) where
  -- the client's turns
  abbrev later_turns : List Turn
  later_turns = own_turns ask.operation

  abbrev pub told_order : State
  told_order = record (opening ask) { order_told = true }

  abbrev greeted : State
  greeted = record (readied Little told_order) { segment = segment_for 65536 }

  abbrev pub validating : Taken
  validating = next ask greeted (turn.Validation ∷ turn.Creation ∷ later_turns)

  pub greeting_taken : (place : ℕ) → IsReplyWritable (reply.validation 65536 32767 methods) → step ask told_order (reply_event Little place (reply.validation 65536 32767 methods)) ≡ Ok validating
  greeting_taken place can =
      hears_reply ask told_order turn.Greeting (turn.Validation ∷ turn.Creation ∷ later_turns) Little place (reply.validation 65536 32767 methods) refl refl can (λ t none. absurd cc)

  -- Where a text is told behind the greeting, it is told of the whole.
  pub greeting_first : (x : Expected) (steps : List Step) (es : List Event) → AreMade site (server.opening Little) steps → AreRequests (events_of steps) (run ask (opening ask) es).sent
      → AreReplies es (speak Little (server.segment_for 65536) greetings ++ spoken site (server.opening Little) steps)
      → ((later : List Event) → Stand ask site validating.state (server.opening Little) (written_of validating) steps later → Tells ask validating.state later x)
      → Tells ask (opening ask) es x
  greeting_first x steps [] rules heard_ told_ more = waits ask (opening ask) x
  greeting_first x steps (c ∷ []) rules heard_ told_ more =
      tells_on ask (opening ask) c [] (quietly told_order) x (run_one ask (opening ask) c [] (quietly told_order) (ap (step ask (opening ask)) told_.0)) refl (waits ask told_order x)
  greeting_first x steps (c ∷ g ∷ es) rules heard_ told_ more =
      let first = run_one ask (opening ask) c (g ∷ es) (quietly told_order) (ap (step ask (opening ask)) told_.0) in
      let second = run_one ask told_order g es validating (ap (step ask told_order) told_.1.0.1 ∙ greeting_taken told_.1.0.0 told_.1.0.2) in
      let stand : Stand ask site validating.state (server.opening Little) (written_of validating) steps es = record {
        rules = rules;
        heard_of = subst (AreRequests (events_of steps)) (ap (λ (x : Run). x.sent) (first ∙ ap (and_then (quietly told_order)) second)) heard_;
        told_of = told_.1.1;
      } in
      tells_on ask (opening ask) c (g ∷ es) (quietly told_order) x first refl
      (tells_on ask told_order g es validating x second refl (more es stand))
