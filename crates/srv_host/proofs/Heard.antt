-- What a session over a steady link has heard and said.
use Rattle.std.proofs.Common.{◌≡◌, ◌⊎◌, inl, inr, ◌+◌, ◌<◌, ◌≤◌, ◌^◌, ℕ, true, false, List, [], ◌∷◌, ◌++◌, length, Option, None, Some, refl, sym, ap, subst, ◌∙◌, arith}
use Rattle.std.specs.Io.KnownBytes.{Appends, Consumes, Keeps}
use Rattle.std.proofs.lemmas.List.{length-append}
use Rattle.histories.specs.History.{IsPrefixOf}
use Rattle.journal_core.specs.Moments.{Moment}
use Rattle.pva_outside.specs.Count.{Rose}
use Rattle.pva_outside.specs.Fresh.{IsFresh}
use Rattle.pva_outside.specs.Wire.{StaysSteady, Wire}
use Rattle.pva_wire.specs.declared.order.Order.{Order}
use Rattle.desk_api.specs.History.{History}
use Rattle.desk_api.specs.declared.history.SiteData.{SiteData}
use Rattle.desk_api.specs.declared.mark.Mark.{Mark}
use Rattle.srv_stream.specs.Moves.{IsAll}
use Rattle.srv_stream.specs.Served.{HasCause, Whole}
use Rattle.srv_stream.specs.declared.ended.Ended.{Ended}
use Rattle.srv_stream.specs.declared.ended.Ended.TheVariants as ends
use Rattle.srv_host.specs.Joining.{has_memory}
use Rattle.srv_host.specs.Sessions.{Session, most_calls}
use Rattle.srv_host.specs.Steady.{IsHeardOut, IsTooLong, SteadyLinksAreHeardOut}

written_told : (start end closed : Option (List ℕ)) (written : List ℕ) → Appends start end written → Keeps end closed → start ≡ Some [] → closed ≡ Some written
written_told None end closed written a k e = absurd (cc e)
written_told (Some xs) None closed written a k e = absurd a
written_told (Some xs) (Some ys) None written a k e = absurd k
written_told (Some xs) (Some ys) (Some zs) written a k e =
    let none : xs ≡ [] = cc e in
    ap Some (k ∙ (a ∙ ap (λ (l : List ℕ). l ++ written) none))

front_of : (start end : Option (List ℕ)) (read input : List ℕ) → Consumes start end read → start ≡ Some input → IsPrefixOf read input
front_of None end read input c e = absurd (cc e)
front_of (Some xs) None read input c e = absurd c
front_of (Some xs) (Some ys) read input c e = let same : xs ≡ input = cc e in record { rest = ys; whole = sym same ∙ c }

all_of : (start : Option (List ℕ)) (read input : List ℕ) → IsAll start read → start ≡ Some input → read ≡ input
all_of None read input a e = absurd (cc e)
all_of (Some xs) read input a e = let same : xs ≡ input = cc e in sym a ∙ same

no_rise : (start end : ℕ) → start ≡ 0 → end ≡ start → Rose start end → ⊥
no_rise start end zero_ same rose = let below = rose.more (omega arith) in omega arith

some_none : {A : Type 0} {x : A} → Some x ≡ None → ⊥
some_none e = absurd (cc e)

module _ (site : SiteData) (order : Order) (session : Session) (input read written : List ℕ) (fresh : IsFresh session.start) (steady : StaysSteady session.start session.end)
    (front : IsPrefixOf read input) (told : session.start.written ≡ Some [] → session.closed.written ≡ Some written) (left : session.start.left ≡ Some input) where
  heard_all : Whole site order read session.log written None → IsAll session.start.left read → IsHeardOut site order session input
  heard_all whole all = record { read = read; written = written; trouble = None; front = front; all = λ _. all_of session.start.left read input all left; whole = whole; told = told }

  heard : (ended : Ended) → has_memory ended ≡ true → HasCause site order session.start session.end most_calls read written session.log ended → IsHeardOut site order session input ⊎ IsTooLong session input
  heard ends.Closed memory a = inl (heard_all a.whole a.all)
  heard (ends.Truncated place) memory a = inl (heard_all a.whole a.all)
  heard (ends.Bad fault place) memory a = inl (record { read = read; written = written; trouble = Some (ends.Bad fault place); front = front; all = λ e. absurd (some_none e); whole = a.whole; told = told })
  heard ends.ReadFault memory a = absurd (no_rise session.start.faults session.end.faults fresh.faults steady.faults a.faults)
  heard ends.WriteFault memory a = absurd (no_rise session.start.faults session.end.faults fresh.faults steady.faults a.faults)
  heard (ends.Spent calls) memory a =
      let idle : session.end.idles ≡ 0 = steady.idles ∙ fresh.idles in
      let bound = a.bound (omega arith) in
      let first = fresh.idles in
      let many = a.all in
      let shorter : length input ≡ length read + length front.rest = ap (λ (l : List ℕ). length l) front.whole ∙ length-append read front.rest in
      inr (record { written = written; long = omega arith; told = told })
  heard ends.NoMemory memory a = absurd (cc memory)

pub heard_out : SteadyLinksAreHeardOut
heard_out from clock order session input was memory fresh steady left =
    let s = was.served in
    let same : session.log ≡ s.log = s.adds.log in
    heard from.base.site order session input s.read s.written fresh (was.steady steady) (front_of session.start.left session.end.left s.read input s.moves.taken left)
    (λ e. written_told session.start.written session.end.written session.closed.written s.written s.moves.given was.closes.rests.written e) left session.ended memory
    (subst (λ (l : List Mark). HasCause from.base.site order session.start session.end most_calls s.read s.written l session.ended) (sym same) s.answer)
