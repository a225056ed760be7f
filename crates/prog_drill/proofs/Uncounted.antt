-- Which marks take an update: none but those of pops.
use Rattle.std.proofs.Common.{◌≡◌, ℕ, ◌+◌, ◌-◌, ◌≤◌, ◌<◌, ◌^◌, Bool, true, false, List, [], ◌∷◌, ◌++◌, Option, None, Some, is_some, Result, Ok, Err, refl, sym, ◌∙◌, ap, subst, arith}
use Rattle.std.proofs.lemmas.Bool.{false≢true}
use Rattle.std.specs.Prelude.{min}
use Rattle.std.specs.FinSet.{FinSet}
use Rattle.std.specs.Ordering.{nat_cmp}
use Rattle.std.specs.declared.vec.Vec.{Vec}
use Rattle.pvd_type.specs.declared.memory.NoMemory.{NoMemory}
use Rattle.pvd_value.specs.declared.value.PvValue.{PvValue}
use Rattle.rec_kinds.specs.declared.datum.Action.{Action}
use Rattle.mon_queue.specs.declared.update.Update.{Update}
use Rattle.desk_api.specs.Calls.{Adds, Calls, AreLooks, AreGet, Asked, AreAdded, ArePut, ArePutGet, ArePutGetBy, AreSnapshot, AreSubscribe, IsEnding, IsFull, IsPop}
use Rattle.desk_api.specs.Sites.{channel_of, is_atomic}
use Rattle.desk_api.specs.declared.channel.Channel.{Channel}
use Rattle.desk_api.specs.declared.channel.ChannelKind.TheVariants.{Service}
use Rattle.desk_api.specs.declared.history.SiteData.{SiteData}
use Rattle.desk_api.specs.declared.mark.Mark.{Mark}
use Rattle.desk_api.specs.declared.mark.Seat.{Seat}
use Rattle.desk_api.specs.declared.put.Done.{Done}
use Rattle.desk_api.specs.declared.put.PutAnswer.{PutAnswer}
use Rattle.desk_api.specs.declared.put.PutAnswer.TheVariants as answers
use Rattle.desk_api.specs.declared.rows.RecRow.{RecRow}
use Rattle.desk_api.specs.declared.sub.Sub.{Sub}
use Rattle.desk_api.specs.declared.sub.SubAnswer.{SubAnswer}
use Rattle.desk_api.specs.declared.sub.SubAnswer.TheVariants as sub_answers
use Rattle.prog_drill.specs.Drilling.{count_by, is_update}
use Rattle.prog_drill.specs.Drives.{Counted}

abbrev updates_in : List Mark → ℕ
updates_in marks = count_by is_update marks

pub count_join : (f : Mark → ℕ) (xs ys : List Mark) → count_by f (xs ++ ys) ≡ count_by f xs + count_by f ys
count_join f [] ys = omega arith
count_join f (x ∷ xs) ys = omega (arith, count_join f xs ys)

-- marks that take none
abbrev Take0 : List Mark → Type 0
Take0 marks = updates_in marks ≡ 0

one_takes : (mark same : Mark) (marks : List Mark) → mark ≡ same → is_update same ≡ 0 → Take0 marks → Take0 (mark ∷ marks)
one_takes mark same marks is one more = let first : is_update mark ≡ 0 = ap is_update is ∙ one in omega (arith, first, more)

are_takes : (marks same : List Mark) → marks ≡ same → Take0 same → Take0 marks
are_takes marks same is none = ap updates_in is ∙ none

both_take : (xs ys : List Mark) → Take0 xs → Take0 ys → Take0 (xs ++ ys)
both_take xs ys a b = omega (arith, count_join is_update xs ys, a, b)

looks_take : (channel : Channel) (looks : List (List ℕ)) (marks : List Mark) → AreLooks channel looks marks → Take0 marks
looks_take channel [] [] are = refl
looks_take channel [] (mark ∷ marks) are = absurd are
looks_take channel (recs ∷ looks) [] are = absurd are
looks_take channel (recs ∷ looks) (mark ∷ marks) are = one_takes mark _ marks are.0.1.1 refl (looks_take channel looks marks are.1)

added_take : (a : Asked) (entries : List (List (ℕ × Action))) (marks : List Mark) → AreAdded a entries marks → Take0 marks
added_take a [] [] are = refl
added_take a [] (mark ∷ marks) are = absurd are
added_take a (actions ∷ entries) [] are = absurd are
added_take a (actions ∷ entries) (mark ∷ marks) are = one_takes mark _ marks are.0.mark_is refl (added_take a entries marks are.1)

gets_take : (site : SiteData) (channel : Channel) (atomic : Option Bool) (result : Result PvValue NoMemory) (marks : List Mark) → AreGet site channel atomic result marks → Take0 marks
gets_take site channel atomic (Ok value) marks are = looks_take channel _ marks are.looks
gets_take site channel atomic (Err e) marks are = looks_take channel _ marks are.looks

full_takes : (a : Asked) (kept added limit done : ℕ) (marks : List Mark) → IsFull a kept added limit done marks → Take0 marks
full_takes a kept added limit done marks are = are_takes marks _ are.marks_are (both_take are.before _ (added_take a _ are.before are.added) refl)

puts_take : (a : Asked) (result : Result Done PutAnswer) (marks : List Mark) → ArePut a result marks → Take0 marks
puts_take a (Ok done) marks are = added_take a are.entries marks are.added
puts_take a (Err (answers.Refused refusal)) marks are = are_takes marks [] are.marks_are refl
puts_take a (Err (answers.JournalFull kept added limit done)) marks are = full_takes a kept added limit done marks are
puts_take a (Err (answers.NoMemory done)) marks are = added_take a _ marks are.added

put_gets_by : (whole : Bool) (a : Asked) (result : Result (Done × PvValue) PutAnswer) (marks : List Mark) → ArePutGetBy whole a result marks → Take0 marks
put_gets_by true a (Ok (done, value)) marks are = are_takes marks _ are.marks_are refl
put_gets_by false a (Ok (done, value)) marks are =
    are_takes marks (are.puts ++ are.gets) are.marks_are (both_take are.puts are.gets (added_take a are.put.entries are.puts are.put.added) (looks_take a.channel _ are.gets are.got.looks))
put_gets_by true a (Err (answers.Refused refusal)) marks are = are_takes marks [] are.marks_are refl
put_gets_by false a (Err (answers.Refused refusal)) marks are = are_takes marks [] are.marks_are refl
put_gets_by true a (Err (answers.JournalFull kept added limit done)) marks are = are_takes marks _ are.marks_are refl
put_gets_by false a (Err (answers.JournalFull kept added limit done)) marks are = full_takes a kept added limit done marks are
put_gets_by true a (Err (answers.NoMemory done)) marks are = are_takes marks [] are.marks_are refl
put_gets_by false a (Err (answers.NoMemory done)) marks are =
    are_takes marks (are.puts ++ are.gets) are.marks_are (both_take are.puts are.gets (added_take a _ are.puts are.put.added) (looks_take a.channel _ are.gets are.got.looks))

snapshots_take : {Z : Type 0} (site : SiteData) (result : Result (Vec RecRow Z) NoMemory) (marks : List Mark) → AreSnapshot site result marks → Take0 marks
snapshots_take site (Ok rows) marks are = are_takes marks _ are.marks_are refl
snapshots_take site (Err e) marks are = looks_take (channel_of Service 0) _ marks are.looks

subscribes_take : (channel : Channel) (mask : FinSet nat_cmp) (size : ℕ) (result : Result Sub SubAnswer) (marks : List Mark) → AreSubscribe channel mask size result marks → Take0 marks
subscribes_take channel mask size (Ok sub) marks are = are_takes marks _ are.marks_are refl
subscribes_take channel mask size (Err (sub_answers.TooManyMonitors count)) marks are = are_takes marks _ are.marks_are refl
subscribes_take channel mask size (Err sub_answers.NoMemory) marks are = are_takes marks [] are refl

-- The count is as before behind a call that takes none ..
stays : (old new : Seat) (marks : List Mark) (count : ℕ) → Adds old new marks → Take0 marks → Counted count (updates_in old.log) → Counted count (updates_in new.log)
stays old new marks count adds none counted = λ few.
    counted few ∙ omega (arith, count_join is_update old.log marks, none, ap updates_in adds.log)

pub by_get : (old new : Seat) (count : ℕ) (site : SiteData) (channel : Channel) (atomic : Option Bool) (result : Result PvValue NoMemory) → Calls old new (AreGet site channel atomic result)
    → Counted count (updates_in old.log) → Counted count (updates_in new.log)
by_get old new count site channel atomic result calls = stays old new calls.marks count calls.adds (gets_take site channel atomic result calls.marks calls.named)

pub by_put : (old new : Seat) (count : ℕ) (a : Asked) (result : Result Done PutAnswer) → Calls old new (ArePut a result) → Counted count (updates_in old.log) → Counted count (updates_in new.log)
by_put old new count a result calls = stays old new calls.marks count calls.adds (puts_take a result calls.marks calls.named)

pub by_put_get : (old new : Seat) (count : ℕ) (a : Asked) (result : Result (Done × PvValue) PutAnswer) → Calls old new (ArePutGet a result) → Counted count (updates_in old.log)
    → Counted count (updates_in new.log)
by_put_get old new count a result calls = stays old new calls.marks count calls.adds (put_gets_by (is_atomic a.site a.channel a.atomic) a result calls.marks calls.named)

pub by_snapshot : {Z : Type 0} (old new : Seat) (count : ℕ) (site : SiteData) (result : Result (Vec RecRow Z) NoMemory) → Calls old new (AreSnapshot site result) → Counted count (updates_in old.log)
    → Counted count (updates_in new.log)
by_snapshot old new count site result calls = stays old new calls.marks count calls.adds (snapshots_take site result calls.marks calls.named)

pub by_subscribe : (old new : Seat) (count : ℕ) (channel : Channel) (mask : FinSet nat_cmp) (size : ℕ) (result : Result Sub SubAnswer) → Calls old new (AreSubscribe channel mask size result)
    → Counted count (updates_in old.log) → Counted count (updates_in new.log)
by_subscribe old new count channel mask size result calls = stays old new calls.marks count calls.adds (subscribes_take channel mask size result calls.marks calls.named)

pub by_ending : (old new : Seat) (count : ℕ) (slot : ℕ) → Calls old new (IsEnding slot) → Counted count (updates_in old.log) → Counted count (updates_in new.log)
by_ending old new count slot calls = stays old new calls.marks count calls.adds (are_takes calls.marks _ calls.named.marks_are refl)

-- .. and behind a pop one more, where there was an update.

capped : (n : ℕ) → min (n + 1) (2 ^ 64 - 1) + 1 ≤ 2 ^ 64 - 1 → min (n + 1) (2 ^ 64 - 1) ≡ n + 1
capped n few = omega (arith, few)

below : (n : ℕ) → min (n + 1) (2 ^ 64 - 1) + 1 ≤ 2 ^ 64 - 1 → n + 1 ≤ 2 ^ 64 - 1
below n few = omega (arith, few)

pub by_empty_pop : (old new : Seat) (count slot : ℕ) (update : Option Update) → Calls old new (IsPop slot update) → is_some update ≡ false → Counted count (updates_in old.log)
    → Counted count (updates_in new.log)
by_empty_pop old new count slot None calls none = stays old new calls.marks count calls.adds (are_takes calls.marks _ calls.named.marks_are refl)
by_empty_pop old new count slot (Some update) calls none = absurd (false≢true (sym none))

pub by_pop : (old new : Seat) (count slot : ℕ) (update : Option Update) → Calls old new (IsPop slot update) → is_some update ≡ true → Counted count (updates_in old.log)
    → Counted (min (count + 1) (2 ^ 64 - 1)) (updates_in new.log)
by_pop old new count slot None calls some counted = absurd (false≢true some)
by_pop old new count slot (Some update) calls some counted = λ few.
    let one : updates_in calls.marks ≡ 1 = ap updates_in calls.named.marks_are in
    let more : updates_in new.log ≡ updates_in old.log + 1 = ap updates_in calls.adds.log ∙ count_join is_update old.log calls.marks ∙ ap (λ (n : ℕ). updates_in old.log + n) one in
    capped count few ∙ ap (λ (n : ℕ). n + 1) (counted (below count few)) ∙ sym more
