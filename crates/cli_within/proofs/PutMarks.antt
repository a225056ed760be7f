-- What the marks of puts and gets tell of a put-get.
use Rattle.std.proofs.Common.{◌≡◌, ℕ, Bool, true, false, ◌||◌, ◌&&◌, not, List, [], ◌∷◌, ◌++◌, Some, refl, sym, ap, ◌∙◌}
use Rattle.std.proofs.lemmas.List.{append-nil}
use Rattle.std.specs.List.{list_any}
use Rattle.pvd_value.specs.Data.{Data}
use Rattle.rec_kinds.specs.declared.datum.Action.{Action}
use Rattle.rec_kinds.specs.declared.state.RecState.{RecState}
use Rattle.desk_api.specs.Calls.{Asked, AreLooks, AreAdded, IsDoneAndGot, IsDoneThenGot, IsFull, first_place, laid_by}
use Rattle.desk_api.specs.Views.{value_of}
use Rattle.desk_api.specs.declared.channel.Channel.{Channel}
use Rattle.desk_api.specs.declared.mark.Mark.{Mark}
use Rattle.desk_api.specs.declared.put.Done.{Done}
use Rattle.cli_within.specs.Answers.{found_by, is_entry, is_overweight, was_put, from_entry}
use Rattle.cli_within.proofs.Gets.{looks_laid}

-- looks make no entry, and weigh nothing

pub looks_behind : (channel : Channel) (looks : List (List ℕ)) (marks more : List Mark) → AreLooks channel looks marks → from_entry (marks ++ more) ≡ from_entry more
looks_behind channel [] [] more h = refl
looks_behind channel [] (m ∷ marks) more h = absurd h
looks_behind channel (recs ∷ looks) [] more h = absurd h
looks_behind channel (recs ∷ looks) (m ∷ marks) more h = ap (λ (x : Mark). from_entry (x ∷ (marks ++ more))) h.0.1.1 ∙ looks_behind channel looks marks more h.1

pub looks_entries : (channel : Channel) (looks : List (List ℕ)) (marks more : List Mark) → AreLooks channel looks marks → list_any is_entry (marks ++ more) ≡ list_any is_entry more
looks_entries channel [] [] more h = refl
looks_entries channel [] (m ∷ marks) more h = absurd h
looks_entries channel (recs ∷ looks) [] more h = absurd h
looks_entries channel (recs ∷ looks) (m ∷ marks) more h = ap (λ (x : Mark). list_any is_entry (x ∷ (marks ++ more))) h.0.1.1 ∙ looks_entries channel looks marks more h.1

pub looks_weigh : (channel : Channel) (looks : List (List ℕ)) (marks more : List Mark) → AreLooks channel looks marks → list_any is_overweight (marks ++ more) ≡ list_any is_overweight more
looks_weigh channel [] [] more h = refl
looks_weigh channel [] (m ∷ marks) more h = absurd h
looks_weigh channel (recs ∷ looks) [] more h = absurd h
looks_weigh channel (recs ∷ looks) (m ∷ marks) more h = ap (λ (x : Mark). list_any is_overweight (x ∷ (marks ++ more))) h.0.1.1 ∙ looks_weigh channel looks marks more h.1

-- entries find nothing by themselves, and weigh nothing

added_found : (a : Asked) (states : List RecState) (entries : List (List (ℕ × Action))) (puts gets : List Mark) → AreAdded a entries puts → found_by states (puts ++ gets) ≡ found_by states gets
added_found a states [] [] gets h = refl
added_found a states [] (m ∷ puts) gets h = absurd h
added_found a states (x ∷ entries) [] gets h = absurd h
added_found a states (x ∷ entries) (m ∷ puts) gets h = ap (λ (y : Mark). found_by states (y ∷ (puts ++ gets))) h.0.mark_is ∙ added_found a states entries puts gets h.1

added_weigh : (a : Asked) (entries : List (List (ℕ × Action))) (puts gets : List Mark) → AreAdded a entries puts → list_any is_overweight (puts ++ gets) ≡ list_any is_overweight gets
added_weigh a [] [] gets h = refl
added_weigh a [] (m ∷ puts) gets h = absurd h
added_weigh a (x ∷ entries) [] gets h = absurd h
added_weigh a (x ∷ entries) (m ∷ puts) gets h = ap (λ (y : Mark). list_any is_overweight (y ∷ (puts ++ gets))) h.0.mark_is ∙ added_weigh a entries puts gets h.1

-- a put that was done begins with an entry

first_entry : (a : Asked) (entries : List (List (ℕ × Action))) (puts gets : List Mark) (place : ℕ) → AreAdded a entries puts → first_place puts ≡ Some place → list_any is_entry (puts ++ gets) ≡ true
first_entry a [] [] gets place h first = absurd cc
first_entry a [] (m ∷ puts) gets place h first = absurd h
first_entry a (x ∷ entries) [] gets place h first = absurd h
first_entry a (x ∷ entries) (m ∷ puts) gets place h first = ap (λ (y : Mark). list_any is_entry (y ∷ (puts ++ gets))) h.0.mark_is

from_first : (a : Asked) (entries : List (List (ℕ × Action))) (puts gets : List Mark) (place : ℕ) → AreAdded a entries puts → first_place puts ≡ Some place → from_entry (puts ++ gets) ≡ puts ++ gets
from_first a [] [] gets place h first = absurd cc
from_first a [] (m ∷ puts) gets place h first = absurd h
from_first a (x ∷ entries) [] gets place h first = absurd h
from_first a (x ∷ entries) (m ∷ puts) gets place h first =
    ap (λ (y : Mark). from_entry (y ∷ (puts ++ gets))) h.0.mark_is ∙ sym (ap (λ (y : Mark). y ∷ (puts ++ gets)) h.0.mark_is)

put_by : (entered heavy : Bool) → entered ≡ true → heavy ≡ false → (entered && not heavy) ≡ true
put_by entered heavy e h = λ i. e i && not (h i)

heavy_put : (entered heavy : Bool) → heavy ≡ true → (entered && not heavy) ≡ false
heavy_put true heavy h = ap not h
heavy_put false heavy h = refl

-- A put and a get of it were done: the value is what was found from its entry on.
pub record PutTold (a : Asked) (marks : List Mark) (value : Data) : Type 0 where
  pub put : was_put marks ≡ true
  pub value_is : value ≡ value_of a.site a.channel (found_by a.site.opening (from_entry marks))

pub done_and_got : (a : Asked) (done : Done) (value : Data) (marks : List Mark) → IsDoneAndGot a done value marks → PutTold a marks value
done_and_got a done value marks h = record {
  put = ap was_put h.marks_are;
  value_is = h.value_is ∙ ap (λ (ms : List Mark). value_of a.site a.channel (found_by a.site.opening (from_entry ms))) (sym h.marks_are);
}

pub done_then_got : (a : Asked) (done : Done) (value : Data) (marks : List Mark) → IsDoneThenGot a done value marks → PutTold a marks value
done_then_got a done value marks h =
    let entered = first_entry a h.put.entries h.puts h.gets done.first h.put.added h.put.first_is in
    let light : list_any is_overweight (h.puts ++ h.gets) ≡ false =
    added_weigh a h.put.entries h.puts h.gets h.put.added ∙ ap (list_any is_overweight) (sym (append-nil h.gets)) ∙ looks_weigh a.channel _ h.gets [] h.got.looks in
    let found : found_by a.site.opening (from_entry (h.puts ++ h.gets)) ≡ laid_by a.site.opening h.gets =
    ap (found_by a.site.opening) (from_first a h.put.entries h.puts h.gets done.first h.put.added h.put.first_is)
    ∙ added_found a a.site.opening h.put.entries h.puts h.gets h.put.added
    ∙ looks_laid a.site.opening a.channel _ h.gets h.got.looks in
    record {
      put = ap was_put h.marks_are ∙ put_by (list_any is_entry (h.puts ++ h.gets)) (list_any is_overweight (h.puts ++ h.gets)) entered light;
      value_is =
          h.got.value_is ∙ ap (value_of a.site a.channel) (sym found)
          ∙ ap (λ (ms : List Mark). value_of a.site a.channel (found_by a.site.opening (from_entry ms))) (sym h.marks_are);
    }

or_true : (b c : Bool) → c ≡ true → (b || c) ≡ true
or_true true c h = refl
or_true false c h = h

last_heavy : (before : List Mark) (m : Mark) → is_overweight m ≡ true → list_any is_overweight (before ++ m ∷ []) ≡ true
last_heavy [] m heavy = ap (λ (b : Bool). b || false) heavy
last_heavy (x ∷ before) m heavy = or_true (is_overweight x) (list_any is_overweight (before ++ m ∷ [])) (last_heavy before m heavy)

-- one that was too heavy wasn't done
pub full_is_none : (a : Asked) (kept weight limit done : ℕ) (marks : List Mark) → IsFull a kept weight limit done marks → was_put marks ≡ false
full_is_none a kept weight limit done marks h =
    ap was_put h.marks_are ∙ heavy_put (list_any is_entry (h.before ++ _ ∷ [])) (list_any is_overweight (h.before ++ _ ∷ [])) (last_heavy h.before _ refl)
