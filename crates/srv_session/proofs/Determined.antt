-- What is said to an event is determined by its marks.
use Rattle.std.proofs.Common.{◌≡◌, ℕ, suc, ◌<◌, Bool, true, false, List, [], ◌∷◌, ◌++◌, length, take, Option, None, Some, Result, Ok, Err, refl, sym, ◌∙◌, ap, subst, arith, length-append, append_assoc}
use Rattle.std.specs.Prelude.{codes, nat_lt}
use Rattle.std.specs.FinSet.{FinSet}
use Rattle.std.specs.Ordering.{nat_cmp}
use Rattle.std.proofs.lemmas.Bool.{false≢true}
use Rattle.std.proofs.lemmas.Bool.Decides.{nat_tests}
use Rattle.std.proofs.lemmas.List.{append-nil}
use Rattle.std.proofs.lemmas.Option.{none-some}
use Rattle.pva_wire.specs.declared.status.Status.{Status}
use Rattle.pva_wire.specs.declared.status.StatusKind.TheVariants.{Good, Error}
use Rattle.pva_wire.specs.Status.{good}
use Rattle.pva_wire.specs.declared.order.Order.{Order}
use Rattle.pvd_value.specs.Data.{Data}
use Rattle.journal_core.specs.Moments.{Moment}
use Rattle.pva_frames.specs.declared.event.Event.{Event}
use Rattle.rec_kinds.specs.declared.datum.Action.{Action}
use Rattle.rec_kinds.specs.declared.put.PutRefusal.{PutRefusal}
use Rattle.histories.proofs.Prefixes.{element_within}
use Rattle.rec_fields.specs.declared.puts.FieldAnswer.{FieldAnswer}
use Rattle.rec_fields.specs.declared.puts.FieldAnswer.TheVariants.{Refused}
use Rattle.chan_table.specs.declared.ask.AskKind.{AskKind}
use Rattle.chan_table.specs.declared.ask.AskKind.TheVariants as kinds
use Rattle.desk_api.specs.Calls as calls
use Rattle.desk_api.specs.declared.sub.Sub.{Sub}
use Rattle.desk_api.specs.declared.sub.SubAnswer.{SubAnswer}
use Rattle.desk_api.specs.declared.sub.SubAnswer.TheVariants as sub_answers
use Rattle.mon_queue.specs.declared.update.Update.{Update}
use Rattle.pvd_request.specs.declared.request.Request.{Request as Wanted}
use Rattle.histories.specs.History.{AllTrue}
use Rattle.histories.proofs.Judged.{true_front, true_back}
use Rattle.std.specs.FinMap.{get as at}
use Rattle.desk_api.specs.Calls.{AreSubscribe, AreLooks, AreAdded, ArePut, ArePutGetBy, asked_actions, asked_entries, entries_of_actions, laid_by, looks_of, rows_shown}
use Rattle.pvd_value.specs.View.{view}
use Rattle.pvd_value.specs.declared.value.PvValue.{PvValue}
use Rattle.rec_kinds.specs.declared.state.RecState.{RecState}
use Rattle.desk_api.specs.declared.rows.RecRow.{RecRow}
use Rattle.desk_api.specs.Puts.{actions_of}
use Rattle.desk_api.specs.Sites.{is_atomic, footprint_of}
use Rattle.desk_api.specs.Types.{type_of}
use Rattle.desk_api.specs.Views.{value_of, laid}
use Rattle.desk_api.specs.declared.channel.Channel.{Channel}
use Rattle.desk_api.specs.declared.history.SiteData.{SiteData}
use Rattle.desk_api.specs.declared.mark.Mark.{Mark}
use Rattle.desk_api.specs.declared.mark.Mark.TheVariants.{Read, Entered, Overweight, Begun, Crowded, Popped, Dropped}
use Rattle.desk_api.specs.declared.put.Done.{Done}
use Rattle.desk_api.specs.declared.put.PutAnswer.{PutAnswer}
use Rattle.desk_api.specs.declared.put.PutAnswer.TheVariants as answers
use Rattle.srv_session.specs.State.{State, Asked, channel_at, opening}
use Rattle.srv_session.specs.Tasks.{Task, pass_over, echo_control, refuse, tell, validate, echo, create, destroy_channel, begin, get, put, put_get, respond, snapshot, subscribe, steer, destroy_request, Hearing, asks, unreadable, over_range, heard}
use Rattle.pva_messages.specs.Replies.{Reply}
use Rattle.rpc_services.specs.Answers.{snapshot_tree}
use Rattle.srv_session.specs.Replies as replies
use Rattle.srv_session.specs.Replies.{Sent, said, error, begun, got, answered, called}
use Rattle.srv_session.specs.Rows.{begins_alone, Says, GetRow, asked, refusal_text, put_status, PutRow, put_get_reply, PutGetRow, rows_data, SnapshotRow, AreEndingsOf, EndsThese, subscribed_reply, SubscribeRow, Row}
use Rattle.srv_session.specs.Steps.{Step, hears, pops, knowing, IsAnswer, PopRow, IsFreeBegun, BeginFree, update_sent, after_step, AreSteps, turns_of, marks_of, out_of}
use Rattle.srv_session.specs.Calls.{Holds}
use Rattle.srv_session.proofs.Kept.{holds_step, opening_holds}

-- two ways to split a list of marks, and what was sent by the first parts
pub record Same (m n k l : List Mark) (x y : List Sent) : Type 0 where
  pub marks : m ≡ n
  pub later : k ≡ l
  pub sent : x ≡ y

abbrev head_or : Mark → List Mark → Mark
head_or a [] = a
head_or a (b ∷ bs) = b

abbrev tail_of : List Mark → List Mark
tail_of [] = []
tail_of (b ∷ bs) = bs

same_says : (these : List Sent) (m n k l : List Mark) (x y : List Sent) → Says these m x → Says these n y → m ++ k ≡ n ++ l → Same m n k l x y
same_says these m n k l x y p q e = record {
  marks = p.marks_are ∙ sym q.marks_are;
  later = sym (ap (λ (z : List Mark). z ++ k) p.marks_are) ∙ e ∙ ap (λ (z : List Mark). z ++ l) q.marks_are;
  sent = p.sent_is ∙ sym q.sent_is;
}

-- parts of one length are equal
split : (m n k l : List Mark) → length m ≡ length n → m ++ k ≡ n ++ l → (m ≡ n) × (k ≡ l)
split [] [] k l same e = (refl, e)
split [] (b ∷ n) k l same e = absurd (omega (arith, same))
split (a ∷ m) [] k l same e = absurd (omega (arith, same))
split (a ∷ m) (b ∷ n) k l same e =
    let rest = split m n k l (omega (arith, same)) (ap tail_of e) in
    let first : a ≡ b = ap (head_or a) e in
    ((λ i. first i ∷ rest.0 i), rest.1)

-- Gets.

as_many_looks : (channel : Channel) (looks : List (List ℕ)) (marks : List Mark) → AreLooks channel looks marks → length marks ≡ length looks
as_many_looks channel [] [] p = refl
as_many_looks channel [] (mark ∷ marks) p = absurd p
as_many_looks channel (recs ∷ looks) [] p = absurd p
as_many_looks channel (recs ∷ looks) (mark ∷ marks) p = ap suc (as_many_looks channel looks marks p.1)

same_get : (site : SiteData) (kind : AskKind) (req sub : ℕ) (ask : Asked) (channel : Channel) (m n k l : List Mark) (x y : List Sent)
    → GetRow site kind req sub ask channel m x → GetRow site kind req sub ask channel n y → m ++ k ≡ n ++ l → Same m n k l x y
same_get site kind req sub ask channel m n k l x y p q e =
    let looks = looks_of site channel ask.atomic in
    let both = split m n k l (as_many_looks channel looks m p.is_get.looks ∙ sym (as_many_looks channel looks n q.is_get.looks)) e in
    let value : p.value ≡ q.value =
    p.is_get.value_is ∙ ap (λ (marks : List Mark). value_of site channel (laid_by site.opening marks)) both.0 ∙ sym q.is_get.value_is in
    record {
      marks = both.0;
      later = both.1;
      sent = p.sent_is ∙ ap (λ (v : Data). said (got kind req sub (type_of site channel) ask.mask v) ∷ []) value ∙ sym q.sent_is;
    }

-- Puts.

abbrev is_entry : Mark → Bool
is_entry (Read at channel footprint found) = false
is_entry (Entered at entry looked found) = true
is_entry (Overweight at footprint actions kept weight limit) = false
is_entry (Begun at index slot channel mask size) = false
is_entry (Crowded at index count) = false
is_entry (Popped at slot update) = false
is_entry (Dropped at index slot) = false

abbrev AllEntries : List Mark → Type 0
AllEntries [] = Unit {0}
AllEntries (mark ∷ marks) = (is_entry mark ≡ true) × AllEntries marks

added_entries : (a : calls.Asked) (entries : List (List (ℕ × Action))) (marks : List Mark) → AreAdded a entries marks → (length marks ≡ length entries) × AllEntries marks
added_entries a [] [] p = (refl, tt)
added_entries a [] (mark ∷ marks) p = absurd p
added_entries a (actions ∷ entries) [] p = absurd p
added_entries a (actions ∷ entries) (mark ∷ marks) p =
    let rest = added_entries a entries marks p.1 in
    (ap suc rest.0, (ap is_entry p.0.mark_is, rest.1))

-- a mark that is no entry doesn't stand among entries
apart : (m before k l : List Mark) (heavy : Mark) → AllEntries m → length before < length m → is_entry heavy ≡ false → m ++ k ≡ before ++ heavy ∷ l → ⊥
apart [] before k l heavy all few is e = omega (arith, few)
apart (a ∷ m) [] k l heavy all few is e = false≢true (sym is ∙ sym (ap (λ (marks : List Mark). is_entry (head_or a marks)) e) ∙ all.0)
apart (a ∷ m) (b ∷ before) k l heavy all few is e = apart m before k l heavy all.1 (omega (arith, few)) is (ap tail_of e)

-- What became of a put whose entries are these: all were added, it was refused, or the next was too heavy.
data Outcome (a : calls.Asked) (marks : List Mark) (status : Status) : Type 0 where
  done : (entries : List (List (ℕ × Action))) → asked_entries a ≡ Ok entries → length marks ≡ length entries → AllEntries marks → status ≡ good → Outcome a marks status
  refused : (refusal : PutRefusal) → marks ≡ [] → asked_actions a ≡ Err (Refused refusal) → status ≡ error (refusal_text refusal) → Outcome a marks status
  full : (entries : List (List (ℕ × Action))) → (before : List Mark) → (heavy : Mark) → asked_entries a ≡ Ok entries → AllEntries before → length before < length entries → is_entry heavy ≡ false
      → marks ≡ before ++ heavy ∷ [] → status ≡ error (codes "journal full") → Outcome a marks status

-- what an option has, or else this
abbrev status_in : Status → Option Status → Status
status_in d None = d
status_in d (Some s) = s

outcome : (a : calls.Asked) (answer : Result Done PutAnswer) (marks : List Mark) (status : Status) → ArePut a answer marks → put_status answer ≡ Some status → Outcome a marks status
outcome a (Ok d) marks status p s =
    let all = added_entries a p.entries marks p.added in done p.entries p.asked all.0 all.1 (sym (ap (status_in status) s))
outcome a (Err (answers.Refused refusal)) marks status p s = refused refusal p.marks_are p.refusal_is (sym (ap (status_in status) s))
outcome a (Err (answers.JournalFull kept weight limit d)) marks status p s =
    let all = added_entries a (take d p.entries) p.before p.added in
    let within = element_within p.entries d p.actions p.next in
    full p.entries p.before _ p.asked all.1 (omega (arith, within, p.done_is)) refl p.marks_are (sym (ap (status_in status) s))
outcome a (Err (answers.NoMemory d)) marks status p s = absurd (none-some status s)

same_entries : {A E : Type 0} {r : Result A E} {x y : A} → r ≡ Ok x → r ≡ Ok y → x ≡ y
same_entries p q = let e = sym p ∙ q in cc

same_refusal : {A : Type 0} {r : Result A FieldAnswer} {x y : PutRefusal} → r ≡ Err (Refused x) → r ≡ Err (Refused y) → x ≡ y
same_refusal p q = let e = sym p ∙ q in cc

-- a put that is refused asks for no entries
not_both : (a : calls.Asked) (entries : List (List (ℕ × Action))) (refusal : PutRefusal) → asked_entries a ≡ Ok entries → asked_actions a ≡ Err (Refused refusal) → ⊥
not_both a entries refusal ok err =
    let e : Err (Refused refusal) ≡ Ok entries = sym (ap (entries_of_actions (is_atomic a.site a.channel a.atomic)) err) ∙ ok in cc

refused_marks : (m n k l : List Mark) → m ≡ [] → n ≡ [] → m ++ k ≡ n ++ l → (m ≡ n) × (k ≡ l)
refused_marks m n k l p q e = (p ∙ sym q, sym (ap (λ (z : List Mark). z ++ k) p) ∙ e ∙ ap (λ (z : List Mark). z ++ l) q)

-- entries up to one that is too heavy, and something behind it
behind_heavy : (before k : List Mark) (heavy : Mark) (m : List Mark) → m ≡ before ++ heavy ∷ [] → m ++ k ≡ before ++ heavy ∷ k
behind_heavy before k heavy m is = ap (λ (z : List Mark). z ++ k) is ∙ append_assoc before (heavy ∷ []) k

-- The same is asked, at whatever moments.
same_outcome : (a b : calls.Asked) (m n k l : List Mark) (s t : Status) → asked_actions a ≡ asked_actions b → asked_entries a ≡ asked_entries b → Outcome a m s → Outcome b n t → m ++ k ≡ n ++ l
    → ((m ≡ n) × (k ≡ l)) × (s ≡ t)
same_outcome a b m n k l s t same all (done es ok many entries good_s) (done fs ok2 many2 entries2 good_t) both =
    (split m n k l (many ∙ ap length (same_entries ok (all ∙ ok2)) ∙ sym many2) both, good_s ∙ sym good_t)
same_outcome a b m n k l s t same all (done es ok many entries good_s) (refused r q err why) both = absurd (not_both b es r (sym all ∙ ok) err)
same_outcome a b m n k l s t same all (done es ok many entries good_s) (full fs before heavy ok2 entries2 few is q why) both =
    let one : length es ≡ length fs = ap length (same_entries ok (all ∙ ok2)) in
    absurd (apart m before k l heavy entries (omega (arith, many, one, few)) is (both ∙ behind_heavy before l heavy n q))
same_outcome a b m n k l s t same all (refused r p err why) (done fs ok2 many2 entries2 good_t) both = absurd (not_both a fs r (all ∙ ok2) err)
same_outcome a b m n k l s t same all (refused r p err why) (refused r2 q err2 why2) both =
    (refused_marks m n k l p q both, why ∙ ap (λ (z : PutRefusal). error (refusal_text z)) (same_refusal (sym same ∙ err) err2) ∙ sym why2)
same_outcome a b m n k l s t same all (refused r p err why) (full fs before heavy ok2 entries2 few is q why2) both = absurd (not_both a fs r (all ∙ ok2) err)
same_outcome a b m n k l s t same all (full es before heavy ok entries few is p why) (done fs ok2 many2 entries2 good_t) both =
    let one : length es ≡ length fs = ap length (same_entries ok (all ∙ ok2)) in
    absurd (apart n before l k heavy entries2 (omega (arith, many2, one, few)) is (sym both ∙ behind_heavy before k heavy m p))
same_outcome a b m n k l s t same all (full es before heavy ok entries few is p why) (refused r q err why2) both = absurd (not_both b es r (sym all ∙ ok) err)
same_outcome a b m n k l s t same all (full es before heavy ok entries few is p why) (full fs before2 heavy2 ok2 entries2 few2 is2 q why2) both =
    (split m n k l (ap length p ∙ counted ∙ sym (ap length q)) both, why ∙ sym why2)
  where
    joined : before ++ heavy ∷ k ≡ before2 ++ heavy2 ∷ l
    joined = sym (behind_heavy before k heavy m p) ∙ both ∙ behind_heavy before2 l heavy2 n q

    by_length : (less more : Bool) → nat_lt (length before) (length before2) ≡ less → nat_lt (length before2) (length before) ≡ more → length before ≡ length before2
    by_length true more lt gt = absurd (apart before2 before (heavy2 ∷ l) k heavy entries2 (grind (arith, nat_tests)) is (sym joined))
    by_length false true lt gt = absurd (apart before before2 (heavy ∷ k) l heavy2 entries (grind (arith, nat_tests)) is2 joined)
    by_length false false lt gt = grind (arith, nat_tests)

    counted : length (before ++ heavy ∷ []) ≡ length (before2 ++ heavy2 ∷ [])
    counted =
        let same = by_length (nat_lt (length before) (length before2)) (nat_lt (length before2) (length before)) refl refl in
        omega (arith, same, length-append before (heavy ∷ []), length-append before2 (heavy2 ∷ []))

same_put : (site : SiteData) (req sub : ℕ) (ask : Asked) (channel : Channel) (mask : FinSet nat_cmp) (value : Data) (m n k l : List Mark) (x y : List Sent)
    → PutRow site req sub ask channel mask value m x → PutRow site req sub ask channel mask value n y → m ++ k ≡ n ++ l → Same m n k l x y
same_put site req sub ask channel mask value m n k l x y p q e =
    let a = asked site ask channel mask value p.moment in
    let b = asked site ask channel mask value q.moment in
    let same = same_outcome a b m n k l p.status q.status refl refl (outcome a p.answer m p.status p.is_put p.status_is) (outcome b q.answer n q.status q.is_put q.status_is) e in
    record {
      marks = same.0.0;
      later = same.0.1;
      sent = p.sent_is ∙ ap (λ (s : Status). said (answered kinds.Put req sub s) ∷ []) same.1 ∙ sym q.sent_is;
    }

-- Put-gets.

-- what a mark found
abbrev found_in : Mark → List RecState
found_in (Read at channel footprint found) = found
found_in (Entered at entry looked found) = found
found_in (Overweight at footprint actions kept weight limit) = []
found_in (Begun at index slot channel mask size) = []
found_in (Crowded at index count) = []
found_in (Popped at slot update) = []
found_in (Dropped at index slot) = []

-- what an option has, or else this
abbrev reply_in : Reply → Option Reply → Reply
reply_in d None = d
reply_in d (Some r) = r

apart_kinds : Good ≡ Error → ⊥
apart_kinds e = cc

apart_results : {A : Type 0} {r : Result A FieldAnswer} {x : A} {y : FieldAnswer} → r ≡ Ok x → r ≡ Err y → ⊥
apart_results p q = let e = sym p ∙ q in cc

module _ (site : SiteData) (req sub : ℕ) (ask : Asked) (channel : Channel) (mask : FinSet nat_cmp) (value : Data) where
  abbrev acts : Result (List (ℕ × Action)) FieldAnswer
  acts = actions_of site channel mask value

  abbrev at_moment : Moment → calls.Asked
  at_moment moment = asked site ask channel mask value moment

  abbrev gives : Data → Reply
  gives v = got kinds.PutGet req sub (type_of site channel) ask.mask v

  abbrev right_after : Mark → Data
  right_after mark = value_of site channel (laid site.opening (footprint_of site channel) (found_in mark))

  -- One that is atomic: its entry was added, it would have been too heavy, or it was refused.
  data Alone (marks : List Mark) (told : Reply) : Type 0 where
    entered : (actions : List (ℕ × Action)) → (mark : Mark) → acts ≡ Ok actions → is_entry mark ≡ true → marks ≡ mark ∷ [] → told ≡ gives (right_after mark) → Alone marks told
    heavy : (actions : List (ℕ × Action)) → (mark : Mark) → acts ≡ Ok actions → is_entry mark ≡ false → marks ≡ mark ∷ [] → told ≡ answered kinds.PutGet req sub (error (codes "journal full")) → Alone marks told
    unasked : (refusal : PutRefusal) → acts ≡ Err (Refused refusal) → marks ≡ [] → told ≡ answered kinds.PutGet req sub (error (refusal_text refusal)) → Alone marks told

  alone : (moment : Moment) (r : Result (Done × PvValue) PutAnswer) (marks : List Mark) (told : Reply) → ArePutGetBy true (at_moment moment) r marks → put_get_reply site req sub ask channel r ≡ Some told → Alone marks told
  alone moment (Ok (d, v)) marks told p s =
      entered p.actions (Entered p.at p.entry (footprint_of site channel) p.found) p.asked refl p.marks_are (sym (ap (reply_in told) s) ∙ ap gives p.value_is)
  alone moment (Err (answers.Refused refusal)) marks told p s = unasked refusal p.refusal_is p.marks_are (sym (ap (reply_in told) s))
  alone moment (Err (answers.JournalFull kept weight limit d)) marks told p s = heavy p.actions _ p.asked refl p.marks_are (sym (ap (reply_in told) s))
  alone moment (Err (answers.NoMemory d)) marks told p s = absurd (none-some told s)

  -- the first marks are the same
  heads : (a b : Mark) (m n k l : List Mark) → m ≡ a ∷ [] → n ≡ b ∷ [] → m ++ k ≡ n ++ l → a ≡ b
  heads a b m n k l p q e = ap (head_or a) (sym (ap (λ (z : List Mark). z ++ k) p) ∙ e ∙ ap (λ (z : List Mark). z ++ l) q)

  one_each : (a b : Mark) (m n k l : List Mark) → m ≡ a ∷ [] → n ≡ b ∷ [] → m ++ k ≡ n ++ l → (m ≡ n) × (k ≡ l)
  one_each a b m n k l p q e = split m n k l (ap length p ∙ sym (ap length q)) e

  same_alone : (m n k l : List Mark) (t u : Reply) → Alone m t → Alone n u → m ++ k ≡ n ++ l → ((m ≡ n) × (k ≡ l)) × (t ≡ u)
  same_alone m n k l t u (entered es a ok is p told) (entered fs b ok2 is2 q told2) e =
      (one_each a b m n k l p q e, told ∙ ap (λ (z : Mark). gives (right_after z)) (heads a b m n k l p q e) ∙ sym told2)
  same_alone m n k l t u (entered es a ok is p told) (heavy fs b ok2 is2 q told2) e = absurd (false≢true (sym is2 ∙ sym (ap is_entry (heads a b m n k l p q e)) ∙ is))
  same_alone m n k l t u (entered es a ok is p told) (unasked r err q told2) e = absurd (apart_results ok err)
  same_alone m n k l t u (heavy es a ok is p told) (entered fs b ok2 is2 q told2) e = absurd (false≢true (sym is ∙ ap is_entry (heads a b m n k l p q e) ∙ is2))
  same_alone m n k l t u (heavy es a ok is p told) (heavy fs b ok2 is2 q told2) e = (one_each a b m n k l p q e, told ∙ sym told2)
  same_alone m n k l t u (heavy es a ok is p told) (unasked r err q told2) e = absurd (apart_results ok err)
  same_alone m n k l t u (unasked r err p told) (entered fs b ok2 is2 q told2) e = absurd (apart_results ok2 err)
  same_alone m n k l t u (unasked r err p told) (heavy fs b ok2 is2 q told2) e = absurd (apart_results ok2 err)
  same_alone m n k l t u (unasked r err p told) (unasked r2 err2 q told2) e =
      (refused_marks m n k l p q e, told ∙ ap (λ (z : PutRefusal). answered kinds.PutGet req sub (error (refusal_text z))) (same_refusal err err2) ∙ sym told2)

  -- One that isn't atomic is a put and then a get, or a put that wasn't done.
  put_alone : (moment : Moment) (answer : PutAnswer) (marks : List Mark) (status : Status) → put_status (Err answer) ≡ Some status → ArePutGetBy false (at_moment moment) (Err answer) marks
      → ArePut (at_moment moment) (Err answer) marks
  put_alone moment (answers.Refused refusal) marks status s p = p
  put_alone moment (answers.JournalFull kept weight limit d) marks status s p = p
  put_alone moment (answers.NoMemory d) marks status s p = absurd (none-some status s)

  record Problem (answer : PutAnswer) (told : Reply) : Type 0 where
    status : Status
    status_is : put_status (Err answer) ≡ Some status
    told_is : told ≡ answered kinds.PutGet req sub status
    kind_is : status.kind ≡ Error

  problem : (answer : PutAnswer) (told : Reply) → put_get_reply site req sub ask channel (Err answer) ≡ Some told → Problem answer told
  problem (answers.Refused refusal) told s = record { status = error (refusal_text refusal); status_is = refl; told_is = sym (ap (reply_in told) s); kind_is = refl }
  problem (answers.JournalFull kept weight limit d) told s = record { status = error (codes "journal full"); status_is = refl; told_is = sym (ap (reply_in told) s); kind_is = refl }
  problem (answers.NoMemory d) told s = absurd (none-some told s)

  -- where one did its put and the other didn't
  not_one : (a b : Moment) (d : Done) (answer : PutAnswer) (puts gets n k l : List Mark) (told : Reply) → ArePut (at_moment a) (Ok d) puts → ArePutGetBy false (at_moment b) (Err answer) n
      → put_get_reply site req sub ask channel (Err answer) ≡ Some told → (puts ++ gets) ++ k ≡ n ++ l → ⊥
  not_one a b d answer puts gets n k l told p q s e =
      let why = problem answer told s in
      let same =
      same_outcome (at_moment a) (at_moment b) puts n (gets ++ k) l good why.status refl refl (outcome (at_moment a) (Ok d) puts good p refl)
      (outcome (at_moment b) (Err answer) n why.status (put_alone b answer n why.status why.status_is q) why.status_is) (sym (append_assoc puts gets k) ∙ e) in
      apart_kinds (ap (λ (z : Status). z.kind) same.1 ∙ why.kind_is)

  same_in_turn : (a b : Moment) (r r2 : Result (Done × PvValue) PutAnswer) (m n k l : List Mark) (t u : Reply) → ArePutGetBy false (at_moment a) r m → ArePutGetBy false (at_moment b) r2 n
      → put_get_reply site req sub ask channel r ≡ Some t → put_get_reply site req sub ask channel r2 ≡ Some u → m ++ k ≡ n ++ l → ((m ≡ n) × (k ≡ l)) × (t ≡ u)
  same_in_turn a b (Ok (d, v)) (Ok (d2, v2)) m n k l t u p q s s2 e =
      let looks = looks_of site channel ask.atomic in
      let parts : p.puts ++ (p.gets ++ k) ≡ q.puts ++ (q.gets ++ l) =
      sym (append_assoc p.puts p.gets k) ∙ ap (λ (z : List Mark). z ++ k) (sym p.marks_are) ∙ e ∙ ap (λ (z : List Mark). z ++ l) q.marks_are ∙ append_assoc q.puts q.gets l in
      let first =
      same_outcome (at_moment a) (at_moment b) p.puts q.puts (p.gets ++ k) (q.gets ++ l) good good refl refl (outcome (at_moment a) (Ok d) p.puts good p.put refl) (outcome (at_moment b) (Ok d2) q.puts good q.put refl) parts in
      let second = split p.gets q.gets k l (as_many_looks channel looks p.gets p.got.looks ∙ sym (as_many_looks channel looks q.gets q.got.looks)) first.0.1 in
      let marks : m ≡ n = p.marks_are ∙ (λ i. first.0.0 i ++ second.0 i) ∙ sym q.marks_are in
      let one : view v ≡ view v2 = p.got.value_is ∙ ap (λ (z : List Mark). value_of site channel (laid_by site.opening z)) second.0 ∙ sym q.got.value_is in
      ((marks, second.1), sym (ap (reply_in t) s) ∙ ap gives one ∙ ap (reply_in u) s2)
  same_in_turn a b (Ok (d, v)) (Err answer) m n k l t u p q s s2 e =
      absurd (not_one a b d answer p.puts p.gets n k l u p.put q s2 (ap (λ (z : List Mark). z ++ k) (sym p.marks_are) ∙ e))
  same_in_turn a b (Err answer) (Ok (d, v)) m n k l t u p q s s2 e =
      absurd (not_one b a d answer q.puts q.gets m l k t q.put p s (ap (λ (z : List Mark). z ++ l) (sym q.marks_are) ∙ sym e))
  same_in_turn a b (Err answer) (Err answer2) m n k l t u p q s s2 e =
      let why = problem answer t s in
      let why2 = problem answer2 u s2 in
      let same =
      same_outcome (at_moment a) (at_moment b) m n k l why.status why2.status refl refl
      (outcome (at_moment a) (Err answer) m why.status (put_alone a answer m why.status why.status_is p) why.status_is)
      (outcome (at_moment b) (Err answer2) n why2.status (put_alone b answer2 n why2.status why2.status_is q) why2.status_is) e in
      (same.0, why.told_is ∙ ap (answered kinds.PutGet req sub) same.1 ∙ sym why2.told_is)

  by_wholeness : (whole : Bool) (a b : Moment) (r r2 : Result (Done × PvValue) PutAnswer) (m n k l : List Mark) (t u : Reply) → ArePutGetBy whole (at_moment a) r m → ArePutGetBy whole (at_moment b) r2 n
      → put_get_reply site req sub ask channel r ≡ Some t → put_get_reply site req sub ask channel r2 ≡ Some u → m ++ k ≡ n ++ l → ((m ≡ n) × (k ≡ l)) × (t ≡ u)
  by_wholeness true a b r r2 m n k l t u p q s s2 e = same_alone m n k l t u (alone a r m t p s) (alone b r2 n u q s2) e
  by_wholeness false a b r r2 m n k l t u p q s s2 e = same_in_turn a b r r2 m n k l t u p q s s2 e

  same_put_get : (m n k l : List Mark) (x y : List Sent) → PutGetRow site req sub ask channel mask value m x → PutGetRow site req sub ask channel mask value n y → m ++ k ≡ n ++ l → Same m n k l x y
  same_put_get m n k l x y p q e =
      let same = by_wholeness (is_atomic site channel ask.atomic) p.moment q.moment p.answer q.answer m n k l p.told q.told p.is_put_get q.is_put_get p.told_is q.told_is e in
      record {
        marks = same.0.0;
        later = same.0.1;
        sent = p.sent_is ∙ ap (λ (r : Reply). said r ∷ []) same.1 ∙ sym q.sent_is;
      }

same_snapshot : (site : SiteData) (req sub : ℕ) (m n k l : List Mark) (x y : List Sent) → SnapshotRow site req sub m x → SnapshotRow site req sub n y → m ++ k ≡ n ++ l → Same m n k l x y
same_snapshot site req sub m n k l x y p q e =
    let both = split m n k l (ap length p.is_snapshot.marks_are ∙ sym (ap length q.is_snapshot.marks_are)) e in
    let one = sym p.is_snapshot.marks_are ∙ both.0 ∙ q.is_snapshot.marks_are in
    let found : p.is_snapshot.found ≡ q.is_snapshot.found = ap (λ (z : List Mark). found_in (head_or (Overweight 0 [] [] 0 0 0) z)) one in
    let rows : p.rows ≡ q.rows = p.is_snapshot.rows_are ∙ ap (rows_shown site.names) found ∙ sym q.is_snapshot.rows_are in
    record {
      marks = both.0;
      later = both.1;
      sent = p.sent_is ∙ ap (λ (z : List RecRow). said (called req sub snapshot_tree (rows_data z)) ∷ []) rows ∙ sym q.sent_is;
    }

-- Monitors.

-- a list of one mark
pub one_mark : (a b : Mark) (m n k l : List Mark) → m ≡ a ∷ [] → n ≡ b ∷ [] → m ++ k ≡ n ++ l → (a ≡ b) × ((m ≡ n) × (k ≡ l))
one_mark a b m n k l p q e =
    (ap (head_or a) (sym (ap (λ (z : List Mark). z ++ k) p) ∙ e ∙ ap (λ (z : List Mark). z ++ l) q), split m n k l (ap length p ∙ sym (ap length q)) e)

as_many_endings : (slots : List ℕ) (marks : List Mark) → AreEndingsOf slots marks → length marks ≡ length slots
as_many_endings [] [] p = refl
as_many_endings [] (mark ∷ marks) p = absurd p
as_many_endings (slot ∷ slots) [] p = absurd p
as_many_endings (slot ∷ slots) (mark ∷ marks) p = ap suc (as_many_endings slots marks p.1)

same_ends : (slots : List ℕ) (these : List Sent) (m n k l : List Mark) (x y : List Sent) → EndsThese slots these m x → EndsThese slots these n y → m ++ k ≡ n ++ l → Same m n k l x y
same_ends slots these m n k l x y p q e =
    let both = split m n k l (as_many_endings slots m p.endings ∙ sym (as_many_endings slots n q.endings)) e in
    record { marks = both.0; later = both.1; sent = p.sent_is ∙ sym q.sent_is }

-- what is said of a subscription's mark
subscribed_by : SiteData → ℕ → ℕ → Channel → Mark → Reply
subscribed_by site req sub channel (Begun at index slot c mask size) = begun kinds.Monitor req begins_alone (type_of site channel)
subscribed_by site req sub channel mark = replies.refused kinds.Monitor req sub (codes "too many monitors")

record ToldBy (site : SiteData) (req sub : ℕ) (channel : Channel) (marks : List Mark) (told : Reply) : Type 0 where
  mark : Mark
  marks_are : marks ≡ mark ∷ []
  told_is : told ≡ subscribed_by site req sub channel mark

told_by : (site : SiteData) (req sub : ℕ) (channel : Channel) (wanted : Wanted) (answer : Result Sub SubAnswer) (marks : List Mark) (told : Reply)
    → AreSubscribe channel wanted.mask wanted.queue answer marks → subscribed_reply site req sub channel answer ≡ Some told → ToldBy site req sub channel marks told
unfolding subscribed_by
told_by site req sub channel wanted (Ok living) marks told p s =
    record { mark = Begun p.at p.index living.slot channel wanted.mask wanted.queue; marks_are = p.marks_are; told_is = sym (ap (reply_in told) s) }
told_by site req sub channel wanted (Err (sub_answers.TooManyMonitors count)) marks told p s =
    record { mark = Crowded p.at p.index count; marks_are = p.marks_are; told_is = sym (ap (reply_in told) s) }
told_by site req sub channel wanted (Err sub_answers.NoMemory) marks told p s = absurd (none-some told s)

same_subscribe : (site : SiteData) (req sub : ℕ) (channel : Channel) (wanted : Wanted) (m n k l : List Mark) (x y : List Sent)
    → SubscribeRow site req sub channel wanted m x → SubscribeRow site req sub channel wanted n y → m ++ k ≡ n ++ l → Same m n k l x y
same_subscribe site req sub channel wanted m n k l x y p q e =
    let a = told_by site req sub channel wanted p.answer m p.told p.is_subscribe p.told_is in
    let b = told_by site req sub channel wanted q.answer n q.told q.is_subscribe q.told_is in
    let one = one_mark a.mark b.mark m n k l a.marks_are b.marks_are e in
    let told : p.told ≡ q.told = a.told_is ∙ ap (subscribed_by site req sub channel) one.0 ∙ sym b.told_is in
    record { marks = one.1.0; later = one.1.1; sent = p.sent_is ∙ ap (λ (r : Reply). said r ∷ []) told ∙ sym q.sent_is }

same_row : (site : SiteData) (s : State) (task : Task) (m n k l : List Mark) (x y : List Sent) → Row site s task m x → Row site s task n y → m ++ k ≡ n ++ l → Same m n k l x y
same_row site s pass_over m n k l x y p q e = same_says _ m n k l x y p q e
same_row site s (echo_control number) m n k l x y p q e = same_says _ m n k l x y p q e
same_row site s (refuse r) m n k l x y p q e = same_says _ m n k l x y p q e
same_row site s (tell r) m n k l x y p q e = same_says _ m n k l x y p q e
same_row site s (respond req sub r) m n k l x y p q e = same_says _ m n k l x y p q e
same_row site s (put_get req sub ask channel mask value) m n k l x y p q e = same_put_get site req sub ask channel mask value m n k l x y p q e
same_row site s (snapshot req sub) m n k l x y p q e = same_snapshot site req sub m n k l x y p q e
same_row site s (validate buffer registry user host) m n k l x y p q e = same_says _ m n k l x y p q e
same_row site s (echo payload) m n k l x y p q e = same_says _ m n k l x y p q e
same_row site s (create names) m n k l x y p q e = same_says _ m n k l x y p q e
same_row site s (destroy_channel sid cid) m n k l x y p q e = same_ends _ _ m n k l x y p q e
same_row site s (subscribe req sub sid channel wanted count) m n k l x y p q e = same_subscribe site req sub channel wanted m n k l x y p q e
same_row site s (steer req count started ask) m n k l x y p q e = same_says _ m n k l x y p q e
same_row site s (begin kind req sub sid channel wanted) m n k l x y p q e = same_says _ m n k l x y p q e
same_row site s (get kind req sub ask channel) m n k l x y p q e = same_get site kind req sub ask channel m n k l x y p q e
same_row site s (put req sub ask channel mask value) m n k l x y p q e = same_put site req sub ask channel mask value m n k l x y p q e
same_row site s (destroy_request req) m n k l x y p q e = same_ends _ _ m n k l x y p q e

pub same_answer : (site : SiteData) (s : State) (hearing : Hearing) (m n k l : List Mark) (x y : List Sent) → IsAnswer site s hearing m x → IsAnswer site s hearing n y → m ++ k ≡ n ++ l → Same m n k l x y
same_answer site s (asks task types) m n k l x y p q e = same_row site (knowing s types) task m n k l x y p q e
same_answer site s (unreadable fault) m n k l x y p q e = absurd p
same_answer site s over_range m n k l x y p q e = absurd p

-- Pops.

abbrev slot_or : ℕ → Mark → ℕ
slot_or d (Popped at slot update) = slot
slot_or d mark = d

abbrev update_in : Mark → Option Update
update_in (Popped at slot update) = update
update_in mark = None

same_some : {A : Type 0} {x y : A} → Some x ≡ Some y → x ≡ y
same_some e = cc

-- Where no two requests have one slot, the mark tells the request.
same_pop : (site : SiteData) (s : State) (log : List Mark) (a b : ℕ) (m n k l : List Mark) (x y : List Sent) → Holds log s → PopRow site s a m x → PopRow site s b n y → m ++ k ≡ n ++ l
    → (a ≡ b) × Same m n k l x y
same_pop site s log a b m n k l x y holds p q e =
    let u = p.is_pop in
    let v = q.is_pop in
    let one = one_mark (Popped u.place u.sub.slot p.update) (Popped v.place v.sub.slot q.update) m n k l u.marks_are v.marks_are e in
    let slot : u.sub.slot ≡ v.sub.slot = ap (slot_or 0) one.0 in
    let update : p.update ≡ q.update = ap update_in one.0 in
    let req : a ≡ b = holds.apart a b u.ask v.ask u.sub v.sub u.is_due.here v.is_due.here u.is_due.subscribed v.is_due.subscribed slot in
    let ask : u.ask ≡ v.ask = same_some (sym u.is_due.here ∙ ap (λ (r : ℕ). at s.requests r) req ∙ v.is_due.here) in
    let channel : p.channel ≡ q.channel = same_some (sym u.is_due.open_ ∙ ap (λ (z : Asked). channel_at s.channels z.sid) ask ∙ v.is_due.open_) in (
      req,
      record {
        marks = one.1.0;
        later = one.1.1;
        sent = p.sent_is ∙ (λ i. update_sent site (req i) (channel i) (update i)) ∙ sym q.sent_is;
      },
    )

abbrev pub turn_or : Event → List (Option Event) → Event
turn_or a [] = a
turn_or a (None ∷ turns) = a
turn_or a (Some b ∷ turns) = b

abbrev is_pop_first : List (Option Event) → Bool
is_pop_first [] = false
is_pop_first (None ∷ turns) = true
is_pop_first (Some e ∷ turns) = false

abbrev pub later_turns : List (Option Event) → List (Option Event)
later_turns [] = []
later_turns (t ∷ turns) = turns

no_turns : {t : Option Event} {ts : List (Option Event)} → [] ≡ t ∷ ts → ⊥
no_turns is = cc

-- Steps go on from others: they begin with them, and then are about these turns, with the first of these marks.
pub record GoesOn (xs ys : List Step) (more : List (Option Event)) (k l : List Mark) : Type 0 where
  pub rest : List Step
  pub whole : ys ≡ xs ++ rest
  pub turns : turns_of rest ≡ more
  pub marks : k ≡ marks_of rest ++ l

-- Steps that are about the same, and then more, in one order, with the same marks, and then others, go on from them, where no subscription begins in a slot in which one lives.
pub goes_on : (site : SiteData) (s : State) (log : List Mark) (xs ys : List Step) (more : List (Option Event)) (k l : List Mark) → Holds log s → AllTrue IsFreeBegun log (marks_of xs)
    → AreSteps site s xs → AreSteps site s ys → turns_of xs ++ more ≡ turns_of ys → marks_of xs ++ k ≡ marks_of ys ++ l → GoesOn xs ys more k l
goes_on site s log [] ys more k l holds free a b turns marks = record { rest = ys; whole = refl; turns = sym turns; marks = marks }
goes_on site s log (hears e m x ∷ xs) [] more k l holds free a b turns marks = absurd (no_turns (sym turns))
goes_on site s log (pops r m x ∷ xs) [] more k l holds free a b turns marks = absurd (no_turns (sym turns))
goes_on site s log (hears e m x ∷ xs) (pops r n y ∷ ys) more k l holds free a b turns marks = absurd (false≢true (ap is_pop_first turns))
goes_on site s log (pops r m x ∷ xs) (hears e n y ∷ ys) more k l holds free a b turns marks = absurd (false≢true (sym (ap is_pop_first turns)))
goes_on site s log (hears d m x ∷ xs) (hears e n y ∷ ys) more k l holds free a b turns marks =
    let first : d ≡ e = ap (turn_or d) turns in
    let here = subst (λ (z : Event). IsAnswer site s (heard site s z) n y) (sym first) b.0.0 in
    let joined = sym (append_assoc m (marks_of xs) k) ∙ marks ∙ append_assoc n (marks_of ys) l in
    let same = same_answer site s (heard site s d) m n (marks_of xs ++ k) (marks_of ys ++ l) x y a.0.0 here joined in
    let step : hears d m x ≡ hears e n y = λ i. hears (first i) (same.marks i) (same.sent i) in
    let next = holds_step site s log (hears d m x) holds a.0 (true_front IsFreeBegun log m (marks_of xs) free) in
    let rest =
    goes_on site (after_step site s (hears e n y)) (log ++ m) xs ys more k l (subst (λ (z : Step). Holds (log ++ m) (after_step site s z)) step next) (true_back IsFreeBegun log m (marks_of xs) free)
    (subst (λ (z : Step). AreSteps site (after_step site s z) xs) step a.1) b.1 (ap later_turns turns) same.later in
    let back = sym step in record { rest = rest.rest; whole = λ i. back i ∷ rest.whole i; turns = rest.turns; marks = rest.marks }
goes_on site s log (pops q m x ∷ xs) (pops r n y ∷ ys) more k l holds free a b turns marks =
    let joined = sym (append_assoc m (marks_of xs) k) ∙ marks ∙ append_assoc n (marks_of ys) l in
    let both = same_pop site s log q r m n (marks_of xs ++ k) (marks_of ys ++ l) x y holds a.0.0 b.0.0 joined in
    let same = both.1 in
    let step : pops q m x ≡ pops r n y = λ i. pops (both.0 i) (same.marks i) (same.sent i) in
    let next = holds_step site s log (pops q m x) holds a.0 (true_front IsFreeBegun log m (marks_of xs) free) in
    let rest =
    goes_on site (after_step site s (pops r n y)) (log ++ m) xs ys more k l (subst (λ (z : Step). Holds (log ++ m) (after_step site s z)) step next) (true_back IsFreeBegun log m (marks_of xs) free)
    (subst (λ (z : Step). AreSteps site (after_step site s z) xs) step a.1) b.1 (ap later_turns turns) same.later in
    let back = sym step in record { rest = rest.rest; whole = λ i. back i ∷ rest.whole i; turns = rest.turns; marks = rest.marks }

no_steps : (xs : List Step) → turns_of xs ≡ [] → xs ≡ []
no_steps [] is = refl
no_steps (hears e m x ∷ xs) is = absurd (no_turns (sym is))
no_steps (pops r m x ∷ xs) is = absurd (no_turns (sym is))

-- steps about the same, in one order, with the same marks and then others, are the same
pub same_steps : (site : SiteData) (order : Order) (xs ys : List Step) (k l : List Mark) → AreSteps site (opening order) xs → AreSteps site (opening order) ys → BeginFree (marks_of xs)
    → turns_of xs ≡ turns_of ys → marks_of xs ++ k ≡ marks_of ys ++ l → xs ≡ ys
same_steps site order xs ys k l a b free turns marks =
    let g = goes_on site (opening order) [] xs ys [] k l (opening_holds [] order) free a b (append-nil (turns_of xs) ∙ turns) marks in
    sym (append-nil xs) ∙ ap (λ (z : List Step). xs ++ z) (sym (no_steps g.rest g.turns)) ∙ sym g.whole

-- and so is what they say
pub same_out : (site : SiteData) (order : Order) (xs ys : List Step) (k l : List Mark) → AreSteps site (opening order) xs → AreSteps site (opening order) ys → BeginFree (marks_of xs)
    → turns_of xs ≡ turns_of ys → marks_of xs ++ k ≡ marks_of ys ++ l → out_of site (opening order) xs ≡ out_of site (opening order) ys
same_out site order xs ys k l a b free turns marks = ap (out_of site (opening order)) (same_steps site order xs ys k l a b free turns marks)
