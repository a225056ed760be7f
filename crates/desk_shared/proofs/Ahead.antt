-- A visit before its hub is taken, which has seen and done what its pass had.
use Rattle.std.proofs.Common.{◌≡◌, ℕ, List, Result, refl, sym, ap, subst}
use Rattle.rec_kinds.specs.declared.state.RecState.{RecState}
use Rattle.histories.specs.History.{Every}
use Rattle.desk_api.specs.Calls.{Calls, EndsAtItsMarks, OnTold}
use Rattle.desk_api.specs.declared.history.Base.{Base}
use Rattle.desk_api.specs.declared.history.SiteData.{SiteData}
use Rattle.desk_api.specs.declared.mark.Mark.{Mark}
use Rattle.desk_api.specs.declared.mark.Seat.{Seat}
use Rattle.desk_api.specs.declared.put.PutAnswer.{PutAnswer}
use Rattle.desk_shared.specs.Hands.{Visits, WasLegal}
use Rattle.desk_shared.specs.Records.{Sight, seat_of}

module _ (before v : Sight) (recs : List ℕ) (states : List RecState) (x : Visits before v recs states) where
  seat_ahead : seat_of v ≡ seat_of before
  seat_ahead = ap seat_of x.same

  base_ahead : v.seen.base ≡ before.seen.base
  base_ahead = ap (λ (z : Sight). z.seen.base) x.same

  pub site_ahead : (site : SiteData) → before.seen.base.site ≡ site → v.seen.base.site ≡ site
  site_ahead site is = subst (λ (b : Base). b.site ≡ site) (sym base_ahead) is

  pub visits_ahead : Visits v v recs states
  visits_ahead = record {
    same = refl;
    numbers = x.numbers;
    values = x.values;
    was = subst (λ (b : Base). Every (WasLegal b) v.cells) (sym base_ahead) x.was;
  }

  pub calls_ahead : (c : Seat) (are : List Mark → Type 0) → Calls (seat_of v) c are → Calls (seat_of before) c are
  calls_ahead c are call = subst (λ (z : Seat). Calls z c are) seat_ahead call

  pub told_ahead : {A : Type 0} (c : Seat) (answer : Result A PutAnswer) → OnTold answer (EndsAtItsMarks (seat_of v) c) → OnTold answer (EndsAtItsMarks (seat_of before) c)
  told_ahead c answer ends = subst (λ (z : Seat). OnTold answer (EndsAtItsMarks z c)) seat_ahead ends
