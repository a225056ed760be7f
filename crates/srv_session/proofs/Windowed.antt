-- The windows of pipelined monitors have what is free.
use Rattle.std.proofs.Common.{◌≡◌, ◌≢◌, ◌==◌, ℕ, ◌+◌, ◌-◌, ◌≤◌, ◌<◌, Bool, true, false, cond, List, [], ◌∷◌, ◌++◌, Option, None, Some, refl, sym, ◌∙◌, ap, subst, arith, inl, inr}
use Rattle.std.specs.Prelude.{◌⊎◌, ◌&&◌, is_some, nat_lt, option_map}
use Rattle.std.specs.FinMap.{get as at, insert, remove, get-empty}
use Rattle.std.specs.Ordering.{nat_cmp}
use Rattle.std.proofs.lemmas.Bool.{false≢true}
use Rattle.std.proofs.lemmas.Bool.Decides.{nat_tests}
use Rattle.std.proofs.lemmas.Option.{none-some}
use Rattle.pva_wire.specs.declared.order.Order.{Order}
use Rattle.pva_messages.specs.Subcommands.{ends}
use Rattle.pvd_desc.specs.Types.{Types}
use Rattle.pvd_request.specs.declared.request.Request.{Request as Wanted}
use Rattle.mon_window.specs.Windows as windows
use Rattle.mon_window.specs.Windows.{greatest, StandsFor}
use Rattle.mon_window.proofs.Steps.{stands_first, stands_acknowledged, stands_sent}
use Rattle.mon_queue.specs.declared.update.Update.{Update}
use Rattle.desk_api.specs.declared.channel.Channel.{Channel}
use Rattle.desk_api.specs.declared.history.SiteData.{SiteData}
use Rattle.desk_api.specs.declared.mark.Mark.{Mark}
use Rattle.desk_api.specs.declared.mark.Mark.TheVariants.{Read, Entered, Overweight, Begun, Crowded, Popped, Dropped}
use Rattle.srv_session.specs.State.{State, Requests, Asked, without_channel, is_due, is_window_open, opening}
use Rattle.srv_session.specs.Tasks.{Task, pass_over, echo_control, refuse, tell, validate, echo, create, destroy_channel, begin, get, put, put_get, respond, snapshot, subscribe, steer, destroy_request, Hearing, asks, unreadable, over_range, heard, is_over, acknowledged}
use Rattle.srv_session.specs.Rows.{ask_of, monitor_of, steered, subscribed, behind, after_task}
use Rattle.srv_session.specs.Steps.{Step, hears, pops, knowing, IsStep, AreSteps, one_sent, with_sent, after_pop, after_hearing, after_step, state_after}
use Rattle.srv_session.specs.Windowing.{Grant, seeing, grant_heard, grant_popped, grant_with, grant_after, IsWindow, WindowsHold}
use Rattle.srv_session.proofs.OnSite.{IsTaskOf, IsHeardOf, heard_so, knows}
use Rattle.srv_session.proofs.Kept.{same_ask}
use Rattle.srv_session.proofs.Tables.{same_or_not, got_inserted, got_beside, got_removed, got_left, stays_elsewhere}

-- each window has what is free of these grants
abbrev AreWindows : (ℕ → Option Grant) → Requests → Type 0
AreWindows g requests = (req free : ℕ) (ask : Asked) → at requests req ≡ Some ask → ask.window ≡ Some free → IsWindow (g req) free

same_number : {x y : ℕ} → Some x ≡ Some y → x ≡ y
same_number e = cc

-- Requests go, and come.

fewer_windows : (g : ℕ → Option Grant) (requests : Requests) (req : ℕ) → AreWindows g requests → AreWindows g (remove requests req)
fewer_windows g requests req w q free ask here is = by_id (same_or_not q req)
  where
    by_id : (q ≡ req) ⊎ (q ≢ req) → IsWindow (g q) free
    by_id (inl same) = absurd (none-some ask (sym (got_removed requests req) ∙ ap (at (remove requests req)) (sym same) ∙ here))
    by_id (inr apart) = w q free ask (sym (got_left requests req q apart) ∙ here) is

windows_behind : (g : ℕ → Option Grant) (requests : Requests) (req sub : ℕ) → AreWindows g requests → AreWindows g (behind req sub requests)
windows_behind g requests req sub w = by_bit (ends sub)
  where
    by_bit : (b : Bool) → AreWindows g (cond b (remove requests req) requests)
    by_bit true = fewer_windows g requests req w
    by_bit false = w

elsewhere_windows : (g : ℕ → Option Grant) (requests : Requests) (sid : ℕ) → AreWindows g requests → AreWindows g (without_channel sid requests)
elsewhere_windows g requests sid w q free ask here is = w q free ask (stays_elsewhere sid requests q ask here).0 is

-- one comes: its window has what is free, and the grants of the others are as they were
put_window : (g h : ℕ → Option Grant) (requests : Requests) (req : ℕ) (new : Asked) → ((free : ℕ) → new.window ≡ Some free → IsWindow (h req) free) → ((q : ℕ) → q ≢ req → h q ≡ g q) → AreWindows g requests
    → AreWindows h (insert requests req new)
put_window g h requests req new first others w q free ask here is = by_id (same_or_not q req)
  where
    by_id : (q ≡ req) ⊎ (q ≢ req) → IsWindow (h q) free
    by_id (inl same) =
        let one : new ≡ ask = same_ask (sym (got_inserted requests req new) ∙ ap (at (insert requests req new)) (sym same) ∙ here) in
        subst (λ (k : ℕ). IsWindow (h k) free) (sym same) (first free (ap (λ (z : Asked). z.window) one ∙ is))
    by_id (inr apart) = subst (λ (o : Option Grant). IsWindow o free) (sym (others q apart)) (w q free ask (sym (got_beside requests req new q apart) ∙ here) is)

-- Whose grant it is.

here_is : {A : Type 0} (req q : ℕ) (x y : A) → q ≡ req → cond (req == q) x y ≡ x
here_is req q x y same = let test : (req == q) ≡ true = grind (arith, nat_tests) in ap (λ (b : Bool). cond b x y) test

beside_is : {A : Type 0} (req q : ℕ) (x y : A) → q ≢ req → cond (req == q) x y ≡ y
beside_is req q x y apart = let test : (req == q) ≡ false = grind (arith, nat_tests) in ap (λ (b : Bool). cond b x y) test

either_same : {A : Type 0} (b : Bool) (x : A) → cond b x x ≡ x
either_same true x = refl
either_same false x = refl

-- A monitor begins with a count.

begun_window : (g : ℕ → Option Grant) (requests : Requests) (req sid slot count : ℕ) (wanted : Wanted) → is_over (Some count) ≡ false → AreWindows g requests
    → AreWindows (λ q. cond (req == q) (Some (record { first = count; seen = [] })) (g q)) (insert requests req (monitor_of sid wanted slot (Some count)))
begun_window g requests req sid slot count wanted few w =
    put_window g (λ q. cond (req == q) (Some (record { first = count; seen = [] })) (g q)) requests req (monitor_of sid wanted slot (Some count)) first (λ q apart. beside_is req q _ (g q) apart) w
  where
    first : (free : ℕ) → Some count ≡ Some free → IsWindow (cond (req == req) (Some (record { first = count; seen = [] })) (g req)) free
    first free is =
        let same = same_number is in
        let test : nat_lt greatest count ≡ false = few in
        let bound : count ≤ greatest = grind (arith, nat_tests) in
        record {
          grant = record { first = count; seen = [] };
          there = here_is req req _ (g req) refl;
          stands = subst (λ (n : ℕ). StandsFor n count []) same (stands_first count bound);
        }

subscribed_windows : (g : ℕ → Option Grant) (s : State) (req sub sid : ℕ) (channel : Channel) (wanted : Wanted) (count : Option ℕ) (types : Types) (marks : List Mark) → is_over count ≡ false → AreWindows g s.requests
    → AreWindows (λ q. grant_heard q (asks (subscribe req sub sid channel wanted count) types) marks (g q)) (subscribed req sid wanted count marks s.requests)
subscribed_windows g s req sub sid channel wanted None types [] few w = w
subscribed_windows g s req sub sid channel wanted None types (Read place c footprint found ∷ marks) few w = w
subscribed_windows g s req sub sid channel wanted None types (Entered place entry looked found ∷ marks) few w = w
subscribed_windows g s req sub sid channel wanted None types (Overweight place footprint actions kept added limit ∷ marks) few w = w
subscribed_windows g s req sub sid channel wanted None types (Crowded place index n ∷ marks) few w = w
subscribed_windows g s req sub sid channel wanted None types (Popped place slot update ∷ marks) few w = w
subscribed_windows g s req sub sid channel wanted None types (Dropped place index slot ∷ marks) few w = w
subscribed_windows g s req sub sid channel wanted None types (Begun place index slot c mask size ∷ []) few w =
    put_window g g s.requests req (monitor_of sid wanted slot None) (λ free is. absurd (none-some free is)) (λ q apart. refl) w
subscribed_windows g s req sub sid channel wanted None types (Begun place index slot c mask size ∷ mark ∷ marks) few w = w
subscribed_windows g s req sub sid channel wanted (Some count) types [] few w = w
subscribed_windows g s req sub sid channel wanted (Some count) types (Read place c footprint found ∷ marks) few w = w
subscribed_windows g s req sub sid channel wanted (Some count) types (Entered place entry looked found ∷ marks) few w = w
subscribed_windows g s req sub sid channel wanted (Some count) types (Overweight place footprint actions kept added limit ∷ marks) few w = w
subscribed_windows g s req sub sid channel wanted (Some count) types (Crowded place index n ∷ marks) few w = w
subscribed_windows g s req sub sid channel wanted (Some count) types (Popped place slot update ∷ marks) few w = w
subscribed_windows g s req sub sid channel wanted (Some count) types (Dropped place index slot ∷ marks) few w = w
subscribed_windows g s req sub sid channel wanted (Some count) types (Begun place index slot c mask size ∷ []) few w = begun_window g s.requests req sid slot count wanted few w
subscribed_windows g s req sub sid channel wanted (Some count) types (Begun place index slot c mask size ∷ mark ∷ marks) few w = w

-- A monitor goes on: what is acknowledged is free too.

more_free : (o : Option Grant) (count free : ℕ) → free + count ≤ greatest → IsWindow o free → IsWindow (option_map (seeing (windows.acknowledged count)) o) (free + count)
more_free o count free few w = record {
  grant = seeing (windows.acknowledged count) w.grant;
  there = ap (option_map (seeing (windows.acknowledged count))) w.there;
  stands = stands_acknowledged free w.grant.first count w.grant.seen few w.stands;
}

steered_windows : (g : ℕ → Option Grant) (s : State) (req : ℕ) (count : Option ℕ) (started : Bool) (ask : Asked) (types : Types) (marks : List Mark) → at s.requests req ≡ Some ask
    → is_over (acknowledged count ask.window) ≡ false → AreWindows g s.requests
    → AreWindows (λ q. grant_heard q (asks (steer req count started ask) types) marks (g q)) (insert s.requests req (steered count started ask))
steered_windows g s req None started ask types marks here few w = put_window g g s.requests req (steered None started ask) (λ free is. w req free ask here is) (λ q apart. refl) w
steered_windows g s req (Some count) started ask types marks here few w =
    put_window g (λ q. cond (req == q) (option_map (seeing (windows.acknowledged count)) (g q)) (g q)) s.requests req (steered (Some count) started ask)
    (λ free is. by_window ask.window refl few free is) (λ q apart. beside_is req q _ (g q) apart) w
  where
    by_window : (o : Option ℕ) → ask.window ≡ o → is_over (acknowledged (Some count) o) ≡ false → (free : ℕ) → acknowledged (Some count) o ≡ Some free
        → IsWindow (cond (req == req) (option_map (seeing (windows.acknowledged count)) (g req)) (g req)) free
    by_window None is few free e = absurd (none-some free e)
    by_window (Some before) is few free e =
        let same : before + count ≡ free = same_number e in
        let test : nat_lt greatest (before + count) ≡ false = few in
        let bound : before + count ≤ greatest = grind (arith, nat_tests) in
        subst (λ (n : ℕ). IsWindow (cond (req == req) (option_map (seeing (windows.acknowledged count)) (g req)) (g req)) n) same
        (subst (λ (o : Option Grant). IsWindow o (before + count)) (sym (here_is req req _ (g req) refl)) (more_free (g req) count before bound (w req before ask here is)))

-- Tasks.

task_windows : (site : SiteData) (s : State) (task : Task) (types : Types) (marks : List Mark) (g : ℕ → Option Grant) → IsTaskOf site s task → AreWindows g s.requests
    → AreWindows (λ q. grant_heard q (asks task types) marks (g q)) (after_task site s task marks).requests
task_windows site s pass_over types marks g of w = w
task_windows site s (echo_control number) types marks g of w = w
task_windows site s (refuse r) types marks g of w = w
task_windows site s (tell r) types marks g of w = w
task_windows site s (validate buffer registry user host) types marks g of w = w
task_windows site s (echo payload) types marks g of w = w
task_windows site s (create names) types marks g of w = w
task_windows site s (destroy_channel sid cid) types marks g of w = elsewhere_windows g s.requests sid w
task_windows site s (begin kind req sub sid channel wanted) types marks g of w =
    put_window g g s.requests req (ask_of kind sid wanted) (λ free is. absurd (none-some free is)) (λ q apart. refl) w
task_windows site s (get kind req sub ask channel) types marks g of w = windows_behind g s.requests req sub w
task_windows site s (put req sub ask channel mask value) types marks g of w = windows_behind g s.requests req sub w
task_windows site s (put_get req sub ask channel mask value) types marks g of w = windows_behind g s.requests req sub w
task_windows site s (respond req sub r) types marks g of w = windows_behind g s.requests req sub w
task_windows site s (snapshot req sub) types marks g of w = windows_behind g s.requests req sub w
task_windows site s (subscribe req sub sid channel wanted count) types marks g of w = subscribed_windows g s req sub sid channel wanted count types marks of.1 w
task_windows site s (steer req count started ask) types marks g of w = steered_windows g s req count started ask types marks of.here of.few w
task_windows site s (destroy_request req) types marks g of w = fewer_windows g s.requests req w

heard_windows : (site : SiteData) (s : State) (hearing : Hearing) (marks : List Mark) (g : ℕ → Option Grant) → IsHeardOf site s hearing → AreWindows g s.requests
    → AreWindows (λ q. grant_heard q hearing marks (g q)) (after_hearing site s hearing marks).requests
heard_windows site s (asks task types) marks g of w = task_windows site (knowing s types) task types marks g (knows site s types task of) w
heard_windows site s (unreadable fault) marks g of w = w
heard_windows site s over_range marks g of w = w

-- Pops: an update takes one of what is free.

one_less : (o : Option Grant) (free : ℕ) → IsWindow o (free + 1) → IsWindow (option_map (seeing windows.sent) o) free
one_less o free w = record {
  grant = seeing windows.sent w.grant;
  there = ap (option_map (seeing windows.sent)) w.there;
  stands = stands_sent free w.grant.first w.grant.seen w.stands;
}

open_window : (ask : Asked) (free : ℕ) → is_due (Some ask) ≡ true → ask.window ≡ Some free → 0 < free
open_window ask free due is =
    let open_ : is_window_open ask.window ≡ true = last_of (is_some ask.sub) ask.started (is_window_open ask.window) due in
    let test : nat_lt 0 free ≡ true = sym (ap is_window_open is) ∙ open_ in
    grind (arith, nat_tests)
  where
    last_of : (a b c : Bool) → (a && (b && c)) ≡ true → c ≡ true
    last_of true true c e = e
    last_of true false c e = absurd (false≢true e)
    last_of false b c e = absurd (false≢true e)

popped_windows : (g : ℕ → Option Grant) (s : State) (req : ℕ) (ask : Asked) (place slot : ℕ) (update : Option Update) → at s.requests req ≡ Some ask → is_due (Some ask) ≡ true → AreWindows g s.requests
    → AreWindows (λ q. cond (req == q) (grant_popped (Popped place slot update ∷ []) (g q)) (g q)) (after_pop s req (Popped place slot update ∷ [])).requests
popped_windows g s req ask place slot None here due w =
    λ q free a there is. subst (λ (o : Option Grant). IsWindow o free) (sym (either_same (req == q) (g q))) (w q free a there is)
popped_windows g s req ask place slot (Some update) here due w =
    subst (λ (r : Requests). AreWindows (λ q. cond (req == q) (option_map (seeing windows.sent) (g q)) (g q)) r) (sym sent_is)
    (put_window g (λ q. cond (req == q) (option_map (seeing windows.sent) (g q)) (g q)) s.requests req (one_sent ask) (λ free is. by_window ask.window refl free is) (λ q apart. beside_is req q _ (g q) apart) w)
  where
    sent_is : with_sent req (at s.requests req) s.requests ≡ insert s.requests req (one_sent ask)
    sent_is = ap (λ (o : Option Asked). with_sent req o s.requests) here

    by_window : (o : Option ℕ) → ask.window ≡ o → (free : ℕ) → option_map (λ n. n - 1) o ≡ Some free → IsWindow (cond (req == req) (option_map (seeing windows.sent) (g req)) (g req)) free
    by_window None is free e = absurd (none-some free e)
    by_window (Some before) is free e =
        let some = open_window ask before due is in
        let less : before - 1 ≡ free = same_number e in
        let same : before ≡ free + 1 = omega (arith, some, less) in
        subst (λ (o : Option Grant). IsWindow o free) (sym (here_is req req _ (g req) refl)) (one_less (g req) free (subst (λ (n : ℕ). IsWindow (g req) n) same (w req before ask here is)))

-- Steps.

step_windows : (site : SiteData) (s : State) (x : Step) (g : ℕ → Option Grant) → IsStep site s x → AreWindows g s.requests → AreWindows (λ q. grant_with site s q (g q) x) (after_step site s x).requests
step_windows site s (hears e marks sent) g p w = heard_windows site s (heard site s e) marks g (heard_so site s e) w
step_windows site s (pops req marks sent) g p w =
    let u = p.0.is_pop in
    subst (λ (ms : List Mark). AreWindows (λ q. cond (req == q) (grant_popped ms (g q)) (g q)) (after_pop s req ms).requests) (sym u.marks_are)
    (popped_windows g s req u.ask u.place u.sub.slot p.0.update u.is_due.here u.is_due.due w)

steps_windows : (site : SiteData) (s : State) (xs : List Step) (g : ℕ → Option Grant) → AreSteps site s xs → AreWindows g s.requests → AreWindows (λ q. grant_after site s q (g q) xs) (state_after site s xs).requests
steps_windows site s [] g rules w = w
steps_windows site s (x ∷ xs) g rules w = steps_windows site (after_step site s x) xs (λ q. grant_with site s q (g q) x) rules.1 (step_windows site s x g rules.0 w)

steps_front : (site : SiteData) (s : State) (xs ys : List Step) → AreSteps site s (xs ++ ys) → AreSteps site s xs
steps_front site s [] ys rules = tt
steps_front site s (x ∷ xs) ys rules = (rules.0, steps_front site (after_step site s x) xs ys rules.1)

pub windows_hold : (site : SiteData) (order : Order) (steps : List Step) → AreSteps site (opening order) steps → WindowsHold site (opening order) steps
windows_hold site order steps rules front later whole req free ask here is =
    steps_windows site (opening order) front (λ q. None) (steps_front site (opening order) front later (subst (AreSteps site (opening order)) whole rules))
    (λ q n a there e. absurd (none-some a (sym (get-empty nat_cmp q) ∙ there))) req free ask here is
