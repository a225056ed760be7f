-- A call behind what others did before it.
use Rattle.std.proofs.Common.{◌≡◌, ℕ, Bool, List, [], true, Result, Ok, Err, inl, inr, ◌⊎◌, sym, ◌∙◌, ap, subst}
use Rattle.std.proofs.lemmas.List.{append-nil}
use Rattle.atomic_table.specs.Seated.{TableId}
use Rattle.rec_kinds.specs.declared.state.RecState.{RecState}
use Rattle.desk_api.specs.Calls.{Adds, Calls, EndsAtItsMarks, EndsAtLastMark, OnSubscribed, OnTold}
use Rattle.desk_api.specs.Living.{lives}
use Rattle.desk_api.specs.declared.history.Base.{Base}
use Rattle.desk_api.specs.declared.history.SiteData.{SiteData}
use Rattle.desk_api.specs.declared.mark.Mark.{Mark}
use Rattle.desk_api.specs.declared.mark.Seat.{Seat}
use Rattle.desk_api.specs.declared.put.PutAnswer.{PutAnswer}
use Rattle.desk_api.specs.declared.sub.Sub.{Sub}
use Rattle.desk_api.specs.declared.sub.SubAnswer.{SubAnswer}
use Rattle.desk_api.specs.declared.sub.SubAnswer.TheVariants as answers
use Rattle.desk_api.proofs.Adding.{adds_more}
use Rattle.desk_shared.specs.Desks.{Stands}
use Rattle.desk_shared.specs.Records.{Sight, seat_of}

module _ (a b c : Seat) (before : Adds a b []) where
  pub same_log : b.log ≡ a.log
  same_log = before.log ∙ append-nil a.log

  pub behind : (are : List Mark → Type 0) → Calls b c are → Calls a c are
  behind are call = record { marks = call.marks; adds = adds_more before call.adds; named = call.named }

  pub ends_behind : EndsAtItsMarks b c → EndsAtItsMarks a c
  ends_behind (inl same) = inl (same ∙ same_log)
  ends_behind (inr ends) = inr ends

  pub lives_behind : (slot : ℕ) → lives a.log slot ≡ true → lives b.log slot ≡ true
  lives_behind slot is = ap (λ (l : List Mark). lives l slot) same_log ∙ is

  pub subscribed_behind : (answer : Result Sub SubAnswer) → OnSubscribed answer (EndsAtItsMarks b c) → OnSubscribed answer (EndsAtItsMarks a c)
  subscribed_behind (Ok sub) ends = ends_behind ends
  subscribed_behind (Err (answers.TooManyMonitors count)) ends = ends_behind ends
  subscribed_behind (Err answers.NoMemory) ends = tt

  pub told_behind : {A : Type 0} (answer : Result A PutAnswer) → OnTold answer (EndsAtItsMarks b c) → OnTold answer (EndsAtItsMarks a c)
  told_behind answer ends = subst (λ (l : List Mark). OnTold answer ((c.log ≡ l) ⊎ EndsAtLastMark c)) same_log ends

-- no call, which leaves all as it was
pub uncalled : (a b : Seat) (are : List Mark → Type 0) → b ≡ a → Adds a a [] → are [] → Calls a b are
uncalled a b are same none is = subst (λ (z : Seat). Calls a z are) (sym same) (record { marks = []; adds = none; named = is })

-- the pass stands where it stood, with the same states and ports
pub stands_on : (table : TableId) (count : ℕ) (site : SiteData) (states after : List RecState) (ports more : List Bool) (own next : TableId) (v w : Sight) → Stands table count site states ports own v → after ≡ states → more ≡ ports → next ≡ own
    → (are : List Mark → Type 0) → Calls (seat_of v) (seat_of w) are → Stands table count site after more next w
stands_on table count site states after ports more own next v w x same_states same_ports same_own are call = record {
  own_is = same_own ∙ x.own_is;
  site_is = ap (λ (b : Base). b.site) call.adds.grows.base ∙ x.site_is;
  legal = call.adds.legal;
  furnished = record {
    count_is = x.furnished.count_is;
    states_are = same_states ∙ x.furnished.states_are;
    ports_are = same_ports ∙ x.furnished.ports_are;
  };
}
