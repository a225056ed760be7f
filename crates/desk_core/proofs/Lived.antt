-- What lives behind calls.
use Rattle.std.proofs.Common.{◌≡◌, ℕ, Bool, true, false, cond, List, [], Option, None, Some, Result, Ok, Err, refl, ◌∙◌, ap}
use Rattle.std.proofs.lemmas.Bool.{eq-eqb}
use Rattle.std.specs.Prelude.{◌==◌, is_some, option_map}
use Rattle.std.specs.FinSet.{FinSet}
use Rattle.std.specs.Ordering.{nat_cmp}
use Rattle.mon_queue.specs.declared.update.Update.{Update}
use Rattle.desk_api.specs.Living.{Living, living, living_after, lives, popped_too}
use Rattle.desk_api.specs.Calls.{Adds, Calls, ArePut, AreSubscribe, Asked, IsPop}
use Rattle.desk_api.proofs.Folding.{living_after_append}
use Rattle.desk_api.specs.declared.channel.Channel.{Channel}
use Rattle.desk_api.specs.declared.mark.Mark.{Mark}
use Rattle.desk_api.specs.declared.mark.Seat.{Seat}
use Rattle.desk_api.specs.declared.put.Done.{Done}
use Rattle.desk_api.specs.declared.put.PutAnswer.{PutAnswer}
use Rattle.desk_api.specs.declared.sub.Sub.{Sub}
use Rattle.desk_api.specs.declared.sub.SubAnswer.{SubAnswer}
use Rattle.desk_api.specs.declared.sub.SubAnswer.TheVariants.{TooManyMonitors, NoMemory}

-- a put leaves what lives
abbrev pub PutsLeave : Type 0
PutsLeave = (slot : ℕ) (o : Option Living) (a : Asked) (result : Result Done PutAnswer) (marks : List Mark) → ArePut a result marks → living_after slot o marks ≡ o

either_lives : (b : Bool) (l : Living) (o : Option Living) → is_some o ≡ true → is_some (cond b (Some l) o) ≡ true
either_lives true l o is = refl
either_lives false l o is = is

popped_lives : (b : Bool) (f : Living → Living) (o : Option Living) → is_some (cond b (option_map f o) o) ≡ is_some o
popped_lives true f None = refl
popped_lives true f (Some l) = refl
popped_lives false f o = refl

module _ (s t : Seat) where
  lived : (marks same : List Mark) → Adds s t marks → marks ≡ same → (slot : ℕ) → lives t.log slot ≡ is_some (living_after slot (living s.log slot) same)
  lived marks same adds is slot =
      ap (λ (l : List Mark). lives l slot) adds.log
      ∙ ap (λ (o : Option Living). is_some o) (living_after_append slot None s.log marks ∙ ap (living_after slot (living s.log slot)) is)

  pub put_lives : PutsLeave → (a : Asked) (result : Result Done PutAnswer) → Calls s t (ArePut a result) → (slot : ℕ) → lives t.log slot ≡ lives s.log slot
  put_lives leave a result c slot = lived c.marks c.marks c.adds refl slot ∙ ap (λ (o : Option Living). is_some o) (leave slot (living s.log slot) a result c.marks c.named)

  module _ (channel : Channel) (mask : FinSet nat_cmp) (size : ℕ) where
    pub begun_lives : (sub : Sub) → Calls s t (AreSubscribe channel mask size (Ok sub)) → lives t.log sub.slot ≡ true
    begun_lives sub c = lived c.marks _ c.adds c.named.marks_are sub.slot ∙ (rw (eq-eqb sub.slot sub.slot refl) refl)

    pub still_lives : (result : Result Sub SubAnswer) → Calls s t (AreSubscribe channel mask size result) → (slot : ℕ) → lives s.log slot ≡ true → lives t.log slot ≡ true
    still_lives (Ok sub) c slot is =
        lived c.marks _ c.adds c.named.marks_are slot
        ∙ either_lives (sub.slot == slot) (record { place = c.named.at; channel = channel; mask = mask; size = size; pops = [] }) (living s.log slot) is
    still_lives (Err (TooManyMonitors count)) c slot is = lived c.marks _ c.adds c.named.marks_are slot ∙ is
    still_lives (Err NoMemory) c slot is = lived c.marks [] c.adds c.named slot ∙ is

  pub pop_lives : (slot : ℕ) (update : Option Update) → Calls s t (IsPop slot update) → lives s.log slot ≡ true → lives t.log slot ≡ true
  pop_lives slot update c is =
      lived c.marks _ c.adds c.named.marks_are slot ∙ popped_lives (slot == slot) (popped_too c.named.at update) (living s.log slot) ∙ is
