-- A drill as a whole.
use Rattle.std.proofs.Common.{◌≡◌, ℕ, ◌+◌, ◌≤◌, List, [], ◌∷◌, ◌++◌, length, Result, Ok, Err, refl, sym, ◌∙◌, ap, subst, arith, codes}
use Rattle.std.specs.Fmt.{decimal}
use Rattle.pva_wire.specs.declared.order.Order.TheVariants.{Little}
use Rattle.histories.specs.History.{deeds_by, entries_by_seat, tagged}
use Rattle.desk_api.specs.Calls.{Adds, first_seat, now}
use Rattle.desk_api.specs.History.{entries, state_at}
use Rattle.desk_api.specs.Marks.{deeds_of}
use Rattle.desk_api.specs.declared.history.SiteData.{SiteData}
use Rattle.desk_api.specs.declared.mark.Mark.{Mark}
use Rattle.desk_api.specs.declared.mark.Mark.TheVariants.{Read, Entered, Overweight, Begun, Crowded, Popped, Dropped}
use Rattle.desk_api.specs.declared.mark.Seat.{Seat}
use Rattle.std.proofs.lemmas.Option.{none-some}
use Rattle.std.specs.FinMap.{get-empty}
use Rattle.std.specs.Ordering.{nat_cmp}
use Rattle.std.specs.Prelude.{IfOk, OnOk, option_map}
use Rattle.pva_wire.specs.declared.order.Order.{Order}
use Rattle.pva_frames.specs.Assembled.{Assembled, opening as unread, fed}
use Rattle.pva_frames.specs.Frames.{cut, cut_in}
use Rattle.pva_frames.specs.Messages.{events_of as frame_events, standing_after, left_from}
use Rattle.srv_session.specs.Calls.{Holds, IsOf}
use Rattle.srv_stream.specs.Views.{first_view}
use Rattle.srv_session.specs.State.{State, opening}
use Rattle.srv_session.specs.Steps.{marks_of}
use Rattle.srv_stream.specs.Streams.{View}
use Rattle.prog_drill.specs.Drilling.{AreFed, DrillRun, TellsDrill, count_by, drill_lines, drill_messages, input_of, is_commit, is_update, pieces_in, pieces_of, sum_of, together}
use Rattle.prog_drill.specs.Drives.{AllFed, AreTotals, IsBehind, IsDrillDesk, Played, SeatTotals, lines_of}
use Rattle.prog_drill.specs.declared.drilling.Totals.{Totals}
use Rattle.prog_drill.proofs.Drawing.{length_messages}
use Rattle.prog_drill.proofs.Pumping.{FedBy}

-- the entries of a seat's deeds are those of its marks
commits_of : (k : ℕ) (marks : List Mark) → length (entries_by_seat (tagged k (deeds_of marks))) ≡ count_by is_commit marks
commits_of k [] = refl
commits_of k (Read place channel footprint found ∷ marks) = omega (arith, commits_of k marks)
commits_of k (Entered place entry looked found ∷ marks) = omega (arith, commits_of k marks)
commits_of k (Overweight place footprint actions kept added limit ∷ marks) = omega (arith, commits_of k marks)
commits_of k (Begun place index slot channel mask size ∷ marks) = omega (arith, commits_of k marks)
commits_of k (Crowded place index count ∷ marks) = omega (arith, commits_of k marks)
commits_of k (Popped place slot update ∷ marks) = omega (arith, commits_of k marks)
commits_of k (Dropped place index slot ∷ marks) = omega (arith, commits_of k marks)

pub totals_are : (n : ℕ) (first last : Seat) (v : View) (bytes : List ℕ) (totals : Totals) → IsDrillDesk first → bytes ≡ input_of (drill_messages n) → AllFed first last v [] (pieces_of bytes)
    → v.state ≡ opening Little → last.seen.deeds ≡ tagged last.number (deeds_by last.number last.seen.deeds) → SeatTotals last totals → AreTotals n totals
totals_are n first last v bytes totals d input a state own t =
    let site : first.seen.base.site ≡ d.site = ap (λ (s : Seat). s.seen.base.site) d.first in
    let marks = marks_of (together a.steps) in
    let adds = subst (λ (s : Seat). Adds s last marks) d.first a.adds in
    let deeds : last.seen.deeds ≡ tagged last.number (deeds_of marks) = own ∙ ap (tagged last.number) adds.own in record {
      run = record {
        site = d.site;
        built = d.built;
        steps = a.steps;
        fed = subst (λ (s : SiteData). AreFed s (opening Little) [] (pieces_of (input_of (drill_messages n))) a.steps) site
            (subst (λ (s : State). AreFed first.seen.base.site s [] (pieces_of (input_of (drill_messages n))) a.steps) state
            (subst (λ (l : List ℕ). AreFed first.seen.base.site v.state [] (pieces_of l) a.steps) input a.are));
        seat = last;
        adds = adds;
        own = deeds;
      };
      commits = t.commits ∙ ap (λ ds. length (entries_by_seat ds)) deeds ∙ commits_of last.number marks;
      sum = t.sum;
      updates = t.updates ∙ ap (count_by is_update) adds.log;
    }

same_lines : (n : ℕ) (totals : Totals) (t : AreTotals n totals) → lines_of totals ≡ drill_lines n t.run
same_lines n totals t =
    let messages = sym (length_messages n) in
    λ i. codes "messages " ++ (decimal (messages i) ++ (codes "\ncommits " ++ (decimal (t.commits i) ++ (codes "\nsum " ++ (decimal (t.sum i)
    ++ (codes "\nupdates " ++ (decimal (t.updates i) ++ codes "\nclosed\n")))))))

-- the lines of such totals
pub drill_told : (n : ℕ) (totals : Totals) (lines : List ℕ) → AreTotals n totals → lines ≡ lines_of totals → TellsDrill n lines
drill_told n totals lines t is = record { run = t.run; lines_are = is ∙ same_lines n totals t }

-- A serving that begins.

pub starts_on_site : (site : SiteData) (v : View) (order : Order) → v ≡ first_view order → IsOf site v.state
starts_on_site site v order is = subst (λ (x : View). IsOf site x.state) (sym is) (record {
  channels = λ sid channel there. absurd (none-some channel (sym (ap (option_map (λ x. x.1)) (get-empty nat_cmp sid)) ∙ there));
  requests = λ req ask there. absurd (none-some ask (sym (get-empty nat_cmp req) ∙ there));
})

pub starts_holding : (log : List Mark) (v : View) (order : Order) → v ≡ first_view order → Holds log v.state
starts_holding log v order is = subst (λ (x : View). Holds log x.state) (sym is) (record {
  held = λ req ask sub here there. absurd (none-some ask (sym (get-empty nat_cmp req) ∙ here));
  apart = λ a b one other x y here there p q same. absurd (none-some one (sym (get-empty nat_cmp a) ∙ here));
})

-- a stream of which nothing was read
nothing_read : fed unread [] ≡ unread
unfolding cut cut_in frame_events standing_after left_from
nothing_read = refl

starts_behind : (v : View) (order : Order) → v ≡ first_view order → IsBehind [] v.stream
starts_behind v order is =
    subst (λ (x : View). IsBehind [] x.stream) (sym is) (record { none = refl; left = sym (ap (λ (a : Assembled). a.left) nothing_read) })

-- all of an input was fed to it
pub on_played : {E : Type 0} (old new : Seat) (v : View) (bytes : List ℕ) (result : Result (Unit {0}) E) → v ≡ first_view Little → FedBy result old new v bytes → OnOk result (Played old new bytes)
on_played old new v bytes (Ok x) start all = record { view = v; start = start; fed_ = all [] (length bytes) (starts_behind v Little start) (omega arith) }
on_played old new v bytes (Err e) start all = tt

-- what a drill came to, by the totals of its desk
pub run_totals : {E : Type 0} (n : ℕ) (first last : Seat) (bytes : List ℕ) (result : Result Totals E) → IsDrillDesk first → bytes ≡ input_of (drill_messages n) → Played first last bytes
    → last.seen.deeds ≡ tagged last.number (deeds_by last.number last.seen.deeds) → IfOk result (SeatTotals last) → IfOk result (AreTotals n)
run_totals n first last bytes (Ok totals) d input p own t = totals_are n first last p.view bytes totals d input p.fed_ (ap (λ (x : View). x.state) p.start) own t
run_totals n first last bytes (Err e) d input p own t = t
