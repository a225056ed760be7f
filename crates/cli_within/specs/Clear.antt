-- What is printed is what the marks tell.
use Rattle.std.specs.Prelude.{◌≡◌, ◌≤◌, ℕ, ◌+◌, List, [], ◌∷◌, ◌++◌, length, map, take, Option, Some, ⊤}
use Rattle.std.specs.List.{flat_map}
use Rattle.pva_wire.specs.declared.order.Order.{Order}
use Rattle.pva_frames.specs.Messages.{limit}
use Rattle.pvd_type.specs.Tree.{Tree}
use Rattle.pvd_codec.specs.Written.{CanEach}
use Rattle.mon_queue.specs.Course.{shown_at}
use Rattle.mon_queue.specs.Runs.{folded, update_of}
use Rattle.mon_queue.specs.Shown.{blank}
use Rattle.mon_queue.specs.declared.update.Update.{Update}
use Rattle.pva_messages.specs.Laws.{reply_payload}
use Rattle.histories.specs.History.{AllTrue, IsPrefixOf}
use Rattle.desk_api.specs.History.{History, commits}
use Rattle.desk_api.specs.Living.{Living, living, given, subscription, told_of, unread_of}
use Rattle.desk_api.specs.Sites.{channel_named}
use Rattle.desk_api.specs.Types.{type_of}
use Rattle.desk_api.specs.declared.channel.Channel.{Channel}
use Rattle.desk_api.specs.declared.history.SiteData.{SiteData}
use Rattle.desk_api.specs.declared.mark.Mark.{Mark}
use Rattle.desk_api.specs.declared.mark.Mark.TheVariants.{Begun, Dropped}
use Rattle.desk_api.specs.declared.mark.Seat.{Seat}
use Rattle.journal_core.specs.Moments.{Moment}
use Rattle.srv_session.specs.Replies.{Sent, said, control}
use Rattle.srv_session.specs.State.{State}
use Rattle.srv_session.specs.Steps.{Step, sent_in, after_step}
use Rattle.cli_session.specs.Steps.{client_told}
use Rattle.cli_session.specs.declared.ask.Ask.{Ask}
use Rattle.cli_session.specs.declared.ask.Operation.TheVariants as operation
use Rattle.cli_within.specs.Answers.{answer_text, update_text, updates_in}
use Rattle.cli_within.specs.Ends.{events_in, text_for, Begins, HasPrinted}
use Rattle.cli_within.specs.Exchanging.{Exchanged, HasTalked, ended_by}
use Rattle.cli_within.specs.Updates.{AreUpdatesTold}
use Rattle.prog_source.specs.Printing.{IsPart}
use Rattle.cli_within.specs.declared.stop.End.{End}
use Rattle.cli_within.specs.declared.stop.End.TheVariants as ends
use Rattle.cli_within.specs.declared.stop.Ending.{Ending}

-- a reply's payload is no longer than a payload may be
abbrev pub IsShortIn : Order → Sent → Type 0
IsShortIn order (said r) = length (reply_payload order r) ≤ limit
IsShortIn order (control command number) = ⊤

-- the same of all that these steps send
abbrev pub AreShort : SiteData → State → List Step → Type 0
AreShort site s [] = ⊤
AreShort site s (x ∷ xs) = CanEach (IsShortIn s.order) (sent_in x) × AreShort site (after_step site s x) xs

-- Where the operation ended, what is printed is the text that the marks tell, and otherwise a front of it.
pub record IsAsTold (ask : Ask) (site : SiteData) (taken : List ℕ) (log : List Mark) : Type 0 where
  pub whole : (ending : Ending) → ended_by ask taken ≡ Some ending → text_for ask taken ≡ answer_text ask site log
  pub front : IsPrefixOf (text_for ask taken) (answer_text ask site log)

abbrev pub EndsAsTold : Ask → Type 0
EndsAsTold ask = (site : SiteData) (given taken : List ℕ) (log : List Mark) → HasTalked site given taken log
    → Begins ask taken given → IsAsTold ask site taken log

-- It is so of every operation, whatever the sizes of the messages: what is too long, and all behind it, isn't read.
abbrev pub MarksAreTold : Type 0
MarksAreTold = (ask : Ask) → EndsAsTold ask

-- So what an exchange prints whose operation ended is the text that its own marks tell: the size of a piece doesn't stand in
-- that text. Two exchanges whose marks are equal print the same; that other pieces bring equal marks isn't said.
abbrev pub PrintsTheMarks : Type 0
PrintsTheMarks =
    (ask : Ask) (idle piece turns : ℕ) (told : Option Moment) (first last : Seat) (start now : Option (List ℕ))
    (before after : ℕ) (ending : Ending)
    (x : Exchanged ask idle piece turns told first last start now before after (ends.Told ending))
    → HasPrinted start now before after (answer_text ask first.seen.base.site x.log)

-- However an exchange ends, also for want of memory of either end, what is printed is a front of that text.
abbrev pub PrintsAFront : Type 0
PrintsAFront =
    (ask : Ask) (idle piece turns : ℕ) (told : Option Moment) (first last : Seat) (start now : Option (List ℕ))
    (before after : ℕ) (end : End)
    → (x : Exchanged ask idle piece turns told first last start now before after end)
    → IsPart start now (answer_text ask first.seen.base.site x.log)

-- The updates of a monitor that are printed are the first that its pops took, each with the leaves that it changed and with
-- those that had changed more than once. Those behind them were passed over after the operation's end, or stand in messages
-- that weren't read to their end; with them and with those that were unread they fold to what the subscription was shown
-- at its last mark (`HasOneSubscription.fold`, below).

pub record PrintsUpdates (ask : Ask) (ty : Tree) (updates : List Update) (taken : List ℕ) : Type 0 where
  pub told : AreUpdatesTold ty (client_told ask (events_in taken)) updates
  pub count : ℕ
  pub text : text_for ask taken ≡ (ask.name ++ 10 ∷ []) ++ flat_map (update_text ty) (take count updates)

abbrev pub MonitorsPrintUpdates : Type 0
MonitorsPrintUpdates =
    (ask : Ask) (queue count : ℕ) (window : Option ℕ) (site : SiteData) (channel : Channel) (given taken : List ℕ)
    (log : List Mark)
    → HasTalked site given taken log → ask.operation ≡ operation.Monitor queue window count
    → channel_named site ask.name ≡ Some channel → Begins ask taken given
    → PrintsUpdates ask (type_of site channel) (updates_in log) taken

-- A monitor has one subscription.

-- how many subscriptions begin in these marks
abbrev pub begun_in : List Mark → ℕ
begun_in [] = 0
begun_in (Begun at index slot channel mask size ∷ marks) = begun_in marks + 1
begun_in (mark ∷ marks) = begun_in marks

-- The pops of a subscription that ends here took these updates, in order.
abbrev pub IsTakenAtEnd : List Update → Mark → List Mark → Type 0
IsTakenAtEnd updates (Dropped at index slot) before =
    (l : Living) → living before slot ≡ Some l → given l.pops ≡ updates
IsTakenAtEnd updates mark before = ⊤

-- These updates and those that are still queued, merged in order into a blank value, are what is shown to a subscription that
-- ends here.
abbrev pub AreFoldedAtEnd : History → List Update → Mark → List Mark → Type 0
AreFoldedAtEnd h updates (Dropped at index slot) before = (l : Living) → living before slot ≡ Some l
    → folded (blank (subscription h l).watch) (map (told_of h l) updates ++ map update_of (unread_of h l at))
    ≡ shown_at (subscription h l) (commits h) at
AreFoldedAtEnd h updates mark before = ⊤

-- At most one subscription begins in the log. Where it ends, its pops took all updates of the log; these, and those that are
-- still queued there, fold to what it is shown.
pub record HasOneSubscription (h : History) (log : List Mark) : Type 0 where
  pub one : begun_in log ≤ 1
  pub took : AllTrue (IsTakenAtEnd (updates_in log)) [] log
  pub fold : AllTrue (AreFoldedAtEnd h (updates_in log)) [] log

-- So it is of the exchange of a monitor, however it ends, with a desk's seat that had made no mark before. The updates of
-- `PrintsUpdates`, the printed ones first, are those of this subscription.
abbrev pub MonitorsHaveOneSubscription : Type 0
MonitorsHaveOneSubscription =
    (ask : Ask) (queue count : ℕ) (window : Option ℕ) (idle piece turns : ℕ) (told : Option Moment) (first last : Seat)
    (start now : Option (List ℕ)) (before after : ℕ) (end : End)
    (x : Exchanged ask idle piece turns told first last start now before after end)
    → ask.operation ≡ operation.Monitor queue window count → first.log ≡ [] → HasOneSubscription last.seen x.log
