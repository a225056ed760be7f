-- Calls that are none of subscriptions leave what lives in a slot.
use Rattle.std.specs.Prelude.{◌≡◌, ℕ, Bool, List, [], ◌∷◌, ◌++◌, Option, Result, Ok, Err, refl}
use Rattle.std.proofs.Common.{true, false, ◌∙◌, ap}
use Rattle.std.specs.declared.vec.Vec.{Vec}
use Rattle.pvd_type.specs.declared.memory.NoMemory.{NoMemory}
use Rattle.pvd_value.specs.declared.value.PvValue.{PvValue}
use Rattle.rec_kinds.specs.declared.datum.Action.{Action}
use Rattle.desk_api.proofs.Folding.{living_after_append}
use Rattle.desk_api.specs.Calls.{AreLooks, AreGet, Asked, AreAdded, ArePut, ArePutGet, ArePutGetBy, AreSnapshot, IsFull}
use Rattle.desk_api.specs.Living.{Living, living_with, living_after}
use Rattle.desk_api.specs.Sites.{channel_of, is_atomic}
use Rattle.desk_api.specs.declared.channel.Channel.{Channel}
use Rattle.desk_api.specs.declared.channel.ChannelKind.TheVariants.{Service}
use Rattle.desk_api.specs.declared.history.SiteData.{SiteData}
use Rattle.desk_api.specs.declared.mark.Mark.{Mark}
use Rattle.desk_api.specs.declared.put.Done.{Done}
use Rattle.desk_api.specs.declared.put.PutAnswer.{PutAnswer}
use Rattle.desk_api.specs.declared.put.PutAnswer.TheVariants as answers
use Rattle.desk_api.specs.declared.rows.RecRow.{RecRow}

module _ (slot : ℕ) (o : Option Living) where
  -- marks that leave it
  abbrev Leave : List Mark → Type 0
  Leave marks = living_after slot o marks ≡ o

  one_leaves : (mark same : Mark) (marks : List Mark) → mark ≡ same → living_with slot o same ≡ o → Leave marks → Leave (mark ∷ marks)
  one_leaves mark same marks is one more =
      ap (λ (m : Mark). living_after slot (living_with slot o m) marks) is ∙ ap (λ (x : Option Living). living_after slot x marks) one ∙ more

  are_leaves : (marks same : List Mark) → marks ≡ same → Leave same → Leave marks
  are_leaves marks same is leave = ap (living_after slot o) is ∙ leave

  both_leave : (xs ys : List Mark) → Leave xs → Leave ys → Leave (xs ++ ys)
  both_leave xs ys a b = living_after_append slot o xs ys ∙ ap (λ (x : Option Living). living_after slot x ys) a ∙ b

  looks_leave : (channel : Channel) (looks : List (List ℕ)) (marks : List Mark) → AreLooks channel looks marks → Leave marks
  looks_leave channel [] [] are = refl
  looks_leave channel [] (mark ∷ marks) are = absurd are
  looks_leave channel (recs ∷ looks) [] are = absurd are
  looks_leave channel (recs ∷ looks) (mark ∷ marks) are = one_leaves mark _ marks are.0.1.1 refl (looks_leave channel looks marks are.1)

  added_leave : (a : Asked) (entries : List (List (ℕ × Action))) (marks : List Mark) → AreAdded a entries marks → Leave marks
  added_leave a [] [] are = refl
  added_leave a [] (mark ∷ marks) are = absurd are
  added_leave a (actions ∷ entries) [] are = absurd are
  added_leave a (actions ∷ entries) (mark ∷ marks) are = one_leaves mark _ marks are.0.mark_is refl (added_leave a entries marks are.1)

  pub gets_leave : (site : SiteData) (channel : Channel) (atomic : Option Bool) (result : Result PvValue NoMemory) (marks : List Mark) → AreGet site channel atomic result marks → Leave marks
  gets_leave site channel atomic (Ok value) marks are = looks_leave channel _ marks are.looks
  gets_leave site channel atomic (Err e) marks are = looks_leave channel _ marks are.looks

  full_leaves : (a : Asked) (kept added limit done : ℕ) (marks : List Mark) → IsFull a kept added limit done marks → Leave marks
  full_leaves a kept added limit done marks are = are_leaves marks _ are.marks_are (both_leave are.before _ (added_leave a _ are.before are.added) refl)

  pub puts_leave : (a : Asked) (result : Result Done PutAnswer) (marks : List Mark) → ArePut a result marks → Leave marks
  puts_leave a (Ok done) marks are = added_leave a are.entries marks are.added
  puts_leave a (Err (answers.Refused refusal)) marks are = are_leaves marks [] are.marks_are refl
  puts_leave a (Err (answers.JournalFull kept added limit done)) marks are = full_leaves a kept added limit done marks are
  puts_leave a (Err (answers.NoMemory done)) marks are = added_leave a _ marks are.added

  put_gets_by : (whole : Bool) (a : Asked) (result : Result (Done × PvValue) PutAnswer) (marks : List Mark) → ArePutGetBy whole a result marks → Leave marks
  put_gets_by true a (Ok (done, value)) marks are = are_leaves marks _ are.marks_are refl
  put_gets_by false a (Ok (done, value)) marks are =
      are_leaves marks (are.puts ++ are.gets) are.marks_are (both_leave are.puts are.gets (added_leave a are.put.entries are.puts are.put.added) (looks_leave a.channel _ are.gets are.got.looks))
  put_gets_by true a (Err (answers.Refused refusal)) marks are = are_leaves marks [] are.marks_are refl
  put_gets_by false a (Err (answers.Refused refusal)) marks are = are_leaves marks [] are.marks_are refl
  put_gets_by true a (Err (answers.JournalFull kept added limit done)) marks are = are_leaves marks _ are.marks_are refl
  put_gets_by false a (Err (answers.JournalFull kept added limit done)) marks are = full_leaves a kept added limit done marks are
  put_gets_by true a (Err (answers.NoMemory done)) marks are = are_leaves marks [] are.marks_are refl
  put_gets_by false a (Err (answers.NoMemory done)) marks are =
      are_leaves marks (are.puts ++ are.gets) are.marks_are (both_leave are.puts are.gets (added_leave a _ are.puts are.put.added) (looks_leave a.channel _ are.gets are.got.looks))

  pub put_gets_leave : (a : Asked) (result : Result (Done × PvValue) PutAnswer) (marks : List Mark) → ArePutGet a result marks → Leave marks
  put_gets_leave a result marks are = put_gets_by (is_atomic a.site a.channel a.atomic) a result marks are

  pub snapshots_leave : {Z : Type 0} (site : SiteData) (result : Result (Vec RecRow Z) NoMemory) (marks : List Mark) → AreSnapshot site result marks → Leave marks
  snapshots_leave site (Ok rows) marks are = are_leaves marks _ are.marks_are refl
  snapshots_leave site (Err e) marks are = looks_leave (channel_of Service 0) _ marks are.looks
