-- What is printed at the end of an operation is what the marks tell.
use Rattle.std.proofs.Common.{◌≡◌, ℕ, suc, List, [], ◌∷◌, ◌++◌, take, Option, None, Some, refl, sym, ◌∙◌, ap, subst, append_assoc}
use Rattle.std.proofs.lemmas.List.{append-nil}
use Rattle.std.specs.Prelude.{codes}
use Rattle.std.specs.List.{flat_map}
use Rattle.pvd_type.specs.Tree.{Tree}
use Rattle.mon_queue.specs.declared.update.Update.{Update}
use Rattle.desk_api.specs.Sites.{channel_named}
use Rattle.desk_api.specs.Types.{type_of}
use Rattle.desk_api.specs.declared.history.SiteData.{SiteData}
use Rattle.cli_session.specs.Messages.{put_id, monitor_beginning}
use Rattle.cli_session.specs.State.{updates_of}
use Rattle.cli_session.specs.Structures.{request, selected, monitor_options}
use Rattle.cli_session.specs.Steps.{Told, part, of_type, refusal, finish, client_told}
use Rattle.cli_session.specs.Text.{told_text}
use Rattle.cli_session.specs.Turns.{own_turns}
use Rattle.cli_session.specs.declared.ask.Ask.{Ask}
use Rattle.cli_session.specs.declared.ask.Operation.{Operation}
use Rattle.cli_session.specs.declared.ask.Operation.TheVariants as operation
use Rattle.cli_within.specs.Answers.{answer_text, updates_in, update_text, valued_text, unvalued_text, channel_text}
use Rattle.histories.specs.History.{IsPrefixOf}
use Rattle.pva_wire.specs.declared.order.Order.TheVariants.{Little}
use Rattle.desk_api.specs.declared.mark.Mark.{Mark}
use Rattle.srv_stream.specs.Served.{Whole}
use Rattle.srv_stream.specs.declared.ended.Ended.{Ended}
use Rattle.prog_source.specs.Printing.{IsPart}
use Rattle.cli_within.specs.Clear.{MarksAreTold, MonitorsPrintUpdates, PrintsAFront, PrintsTheMarks}
use Rattle.cli_within.specs.Ends.{events_in, text_for, Begins, HasPrinted}
use Rattle.cli_within.specs.Exchanging.{HasCause, HasTalked}
use Rattle.cli_within.specs.declared.stop.End.{End}
use Rattle.cli_within.specs.declared.stop.End.TheVariants as ends
use Rattle.cli_within.specs.declared.stop.Stop.TheVariants as stops
use Rattle.cli_within.proofs.Printed.{part_of_printed}
use Rattle.cli_within.specs.Updates.{AreUpdatesTold, IsUpdateTold}
use Rattle.cli_within.proofs.Calls.{call_goes}
use Rattle.cli_within.proofs.Creations.{GoesSo, GoesSoText}
use Rattle.cli_within.proofs.Gets.{get_goes}
use Rattle.cli_within.proofs.Infos.{info_goes}
use Rattle.cli_within.proofs.Joined.{ends_as_told, short_as_told, updates_as_told}
use Rattle.cli_within.proofs.Monitors.{monitor_goes, monitor_told}
use Rattle.cli_within.proofs.Puts.{put_goes}
use Rattle.cli_within.proofs.ReadBacks.{put_get_goes}

text_of_it : (ask : Ask) (site : SiteData) → GoesSo ask site (monitor_told ask site) → GoesSoText ask site (λ marks. channel_text site marks ask (channel_named site ask.name))
text_of_it ask site goes channel is c s steps es opened left_ stand = let t = goes channel is c s steps es opened left_ stand in record { whole = t.whole; front = t.front; updates = tt }

one_monitor : (ask : Ask) (site : SiteData) (queue count : ℕ) (window : Option ℕ) → ask.operation ≡ operation.Monitor queue window count → GoesSo ask site (monitor_told ask site)
one_monitor ask site queue count window is =
    monitor_goes ask site (Some (request (codes "field") (selected ask.fields.items) (monitor_options queue window))) window count (ap own_turns is) (λ sid. ap (monitor_beginning ask.fields.items sid) is) (ap updates_of is)
    (λ marks channel. ap (valued_text site marks ask channel) is) (λ marks. ap (unvalued_text site marks) is)

all_go : (ask : Ask) (site : SiteData) (op : Operation) → ask.operation ≡ op → GoesSoText ask site (λ marks. channel_text site marks ask (channel_named site ask.name))
all_go ask site operation.Get is = get_goes ask site is
all_go ask site (operation.Put words) is = put_goes ask site (ap own_turns is) (λ marks channel. ap (valued_text site marks ask channel) is) (λ marks. ap (unvalued_text site marks) is)
all_go ask site (operation.PutGet words) is =
    put_get_goes ask site (ap put_id is) (ap own_turns is) (λ marks channel. ap (valued_text site marks ask channel) is) (λ marks. ap (unvalued_text site marks) is)
all_go ask site (operation.Monitor queue window count) is = text_of_it ask site (one_monitor ask site queue count window is)
all_go ask site operation.Info is = info_goes ask site is
all_go ask site (operation.Call name) is = call_goes ask site name is

pub marks_are_told : MarksAreTold
marks_are_told ask = ends_as_told ask (λ site. all_go ask site ask.operation refl)

pub prints_the_marks : PrintsTheMarks
prints_the_marks ask idle piece turns told first last start now before after ending x =
    let site = first.seen.base.site in
    let told_so = marks_are_told ask site x.given x.taken x.log x.cause.talked x.begins in
    subst (HasPrinted start now before after) (told_so.whole ending x.cause.ended) x.cause.printed

-- A front of a front.
part_longer : {a b : Option (List ℕ)} {xs ys : List ℕ} → IsPart a b xs → IsPrefixOf xs ys → IsPart a b ys
part_longer p front = record {
  front = p.front;
  rest = p.rest ++ front.rest;
  whole = front.whole ∙ ap (λ (z : List ℕ). z ++ front.rest) p.whole ∙ append_assoc p.front p.rest front.rest;
  printed = p.printed;
}

-- a dialogue all of whose output was taken
pub talked_whole : (site : SiteData) (given taken : List ℕ) (log : List Mark) (trouble : Option Ended) → Whole site Little given log taken trouble → HasTalked site given taken log
talked_whole site given taken log trouble w = record { out = taken; trouble = trouble; whole = w; sent = record { rest = []; whole = sym (append-nil taken) } }

module _ (ask : Ask) (idle piece turns : ℕ) (site : SiteData) (start now : Option (List ℕ)) (before after : ℕ) (given taken : List ℕ) (log : List Mark) (begins : Begins ask taken given) where
  told_front : HasTalked site given taken log → IsPrefixOf (text_for ask taken) (answer_text ask site log)
  told_front talked = let t = marks_are_told ask site given taken log talked begins in t.front

  front_at : (end : End) → HasCause ask site idle piece turns start now before after given taken log end → IsPart start now (answer_text ask site log)
  front_at (ends.Told ending) cause = part_of_printed cause.printed (told_front cause.talked)
  front_at (ends.Stopped stops.NoMemory) cause =
      part_longer cause.stopped.stopped.0 (short_as_told ask (λ here. all_go ask here ask.operation refl) site start now before after given taken log cause begins)
  front_at (ends.Stopped stops.Sink) cause = part_longer cause.stopped.stopped.0 (told_front cause.talked)
  front_at (ends.Stopped (stops.Client fault)) cause = part_of_printed cause.stopped.stopped.0 (told_front cause.talked)
  front_at (ends.Stopped (stops.Frame fault)) cause = part_of_printed cause.stopped.stopped.0 (told_front cause.talked)
  front_at ends.Closed cause = part_of_printed cause.printed (told_front (talked_whole site given taken log (Some cause.trouble) cause.whole))
  front_at ends.Idle cause = part_of_printed cause.printed (told_front (talked_whole site given taken log None cause.quiet.whole))
  front_at ends.Spent cause = part_of_printed cause.printed (told_front cause.talked)

pub prints_a_front : PrintsAFront
prints_a_front ask idle piece turns told first last start now before after end x =
    front_at ask idle piece turns first.seen.base.site start now before after x.given x.taken x.log x.begins end x.cause

-- The text of the first updates.
pub record Front (ty : Tree) (updates : List Update) (text : List ℕ) : Type 0 where
  pub count : ℕ
  pub is : text ≡ flat_map (update_text ty) (take count updates)

none_first : (ty : Tree) (updates : List Update) (text : List ℕ) → text ≡ [] → Front ty updates text
none_first ty updates text is = record { count = 0; is = is }

printed_so : (ty : Tree) (t : Told) (told : List Told) (u : Update) (us : List Update) → IsUpdateTold ty t u → Front ty us (flat_map told_text told) → Front ty (u ∷ us) (flat_map told_text (t ∷ told))
printed_so ty (part p overrun) told u us one front = record { count = suc front.count; is = λ i. one.0 i ++ front.is i }
printed_so ty (of_type t) told u us one front = absurd one
printed_so ty (refusal status) told u us one front = absurd one
printed_so ty finish told u us one front = absurd one

front_of : (ty : Tree) (told : List Told) (us : List Update) → AreUpdatesTold ty told us → Front ty us (flat_map told_text told)
front_of ty [] us are = none_first ty us [] refl
front_of ty (finish ∷ told) us are = none_first ty us (flat_map told_text told) (ap (flat_map told_text) are)
front_of ty (refusal status ∷ told) us are = none_first ty us (flat_map told_text told) (ap (flat_map told_text) are)
front_of ty (part p overrun ∷ told) [] are = absurd are
front_of ty (part p overrun ∷ told) (u ∷ us) are = printed_so ty (part p overrun) told u us are.0 (front_of ty told us are.1)
front_of ty (of_type t ∷ told) [] are = absurd are
front_of ty (of_type t ∷ told) (u ∷ us) are = absurd are.0

pub monitors_print : MonitorsPrintUpdates
monitors_print ask queue count window site channel given taken log talked op is begins_ =
    let told = updates_as_told ask site channel is (one_monitor ask site queue count window op) given taken log talked begins_ in
    let front = front_of (type_of site channel) (client_told ask (events_in taken)) (updates_in log) told in
    record { told = told; count = front.count; text = ap (λ (xs : List ℕ). (ask.name ++ 10 ∷ []) ++ xs) front.is }
