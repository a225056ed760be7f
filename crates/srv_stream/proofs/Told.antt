-- The laws of dialogues and answers.
use Rattle.std.specs.Prelude.{◌≡◌, ℕ, ◌<◌, ◌⊎◌, List}
use Rattle.std.proofs.Common.{arith, inl, inr, sym, ◌∙◌, ap, subst, ◌++◌, Option, None, Some}
use Rattle.std.proofs.lemmas.Option.{none-some}
use Rattle.pva_outside.specs.Wire.{Wire}
use Rattle.pva_wire.specs.declared.order.Order.{Order}
use Rattle.pva_frames.specs.Messages.{left_from}
use Rattle.pva_frames.specs.declared.event.Event.{Event}
use Rattle.histories.specs.History.{IsPrefixOf}
use Rattle.desk_api.specs.declared.history.SiteData.{SiteData}
use Rattle.desk_api.specs.declared.mark.Mark.{Mark}
use Rattle.srv_session.specs.State.{slots_of, opening}
use Rattle.srv_session.specs.Steps.{Step, marks_of, out_of, state_after, turns_of}
use Rattle.srv_session.specs.Replies.{greeting}
use Rattle.srv_stream.specs.Served.{Dialogue, Whole, IsProperPrefixOf, DueRead}
use Rattle.srv_stream.specs.Laws.{AreTrue, GoTogether, OneOutput, AnEndIsTold, ATroubleIsTold}
use Rattle.srv_stream.specs.declared.ended.Ended.{Ended}
use Rattle.srv_stream.specs.declared.ended.Ended.TheVariants as ends
use Rattle.srv_stream.proofs.Determined.{same_trouble, same_turns}
use Rattle.srv_stream.proofs.Stopping.{ended_in}

-- its marks, with those of the steps
all_said : {site : SiteData} {order : Order} {events : List Event} {marks : List Mark} {out : List ℕ} (d : Dialogue site order events marks out) → marks_of d.talk.steps ++ d.endings ≡ marks
all_said d = ap (λ (z : List Mark). z ++ d.endings) d.talk.marks_are ∙ d.marks_are

true_said : {site : SiteData} {order : Order} {events : List Event} {marks : List Mark} {out : List ℕ} (d : Dialogue site order events marks out) → AreTrue marks → AreTrue (marks_of d.talk.steps ++ d.endings)
true_said d holds = subst AreTrue (sym (all_said d)) holds

pub one_output : OneOutput
one_output site order events marks a b holds d e turns =
    let steps = same_turns site order d.talk.steps e.talk.steps d.endings e.endings (true_said d holds) d.talk.rules e.talk.rules turns (all_said d ∙ sym (all_said e)) in
    sym d.talk.out_is ∙ ap (λ (z : List Step). greeting order ++ out_of site (opening order) z) steps ∙ e.talk.out_is

unwritten : {start end : Wire} {written out : List ℕ} {trouble : Option Ended} → start.ends < end.ends → IsProperPrefixOf written out ⊎ DueRead start end written out trouble → IsProperPrefixOf written out
unwritten rose (inl p) = p
unwritten rose (inr r) = absurd (omega (arith, r.ends))

pub tells_end : AnEndIsTold
tells_end site order start end turns read written log ends.Closed a rose = tt
tells_end site order start end turns read written log (ends.Truncated place) a rose = tt
tells_end site order start end turns read written log (ends.Bad fault place) a rose = omega (arith, a.ends)
tells_end site order start end turns read written log ends.NoMemory a rose = tt
tells_end site order start end turns read written log ends.ReadFault a rose = omega (arith, a.ends)
tells_end site order start end turns read written log ends.WriteFault a rose = a.short
tells_end site order start end turns read written log (ends.Spent calls) a rose = unwritten rose a.due

-- Two dialogues of the same bytes and marks come to one trouble, where one takes the turns of the other.

trouble_behind : {site : SiteData} {order : Order} {read : List ℕ} {log : List Mark} {a b : List ℕ} {t u : Option Ended} (p : Whole site order read log a t) (q : Whole site order read log b u) → AreTrue log
    → IsPrefixOf (turns_of p.dialogue.talk.steps) (turns_of q.dialogue.talk.steps) → t ≡ u
trouble_behind {site} {order} {read} {log} {a} {b} {t} {u} p q holds front =
    let d = p.dialogue in
    let e = q.dialogue in
    same_trouble site order d.talk.steps e.talk.steps front.rest p.remaining q.remaining (left_from 0 None read) t u
    (slots_of (state_after site (opening order) d.talk.steps).requests) d.endings e.endings (true_said d holds) d.talk.rules e.talk.rules front.whole (all_said d ∙ sym (all_said e)) d.ends
    (ap (λ (l : List Event). l ++ p.remaining) d.talk.events_are ∙ sym p.all ∙ q.all ∙ sym (ap (λ (l : List Event). l ++ q.remaining) e.talk.events_are)) p.stands q.stands

one_trouble : {site : SiteData} {order : Order} {read : List ℕ} {log : List Mark} {a b : List ℕ} {t u : Option Ended} (p : Whole site order read log a t) (q : Whole site order read log b u) → AreTrue log
    → GoTogether (turns_of q.dialogue.talk.steps) (turns_of p.dialogue.talk.steps) → t ≡ u
one_trouble p q holds (inl front) = sym (trouble_behind q p holds front)
one_trouble p q holds (inr front) = trouble_behind p q holds front

same_end : {a b : Ended} → Some a ≡ Some b → a ≡ b
same_end {a} {b} is = ap (ended_in a) is

unwritten_yet : {start end : Wire} {written out : List ℕ} {t : Option Ended} (trouble : Ended) → t ≡ Some trouble → IsProperPrefixOf written out ⊎ DueRead start end written out t → IsProperPrefixOf written out
unwritten_yet trouble is (inl p) = p
unwritten_yet trouble is (inr r) = absurd (none-some trouble (sym r.trouble_is ∙ is))

pub tells_trouble : ATroubleIsTold
tells_trouble site order start end turns read written log ends.Closed a out trouble holds w turns_ = absurd (none-some trouble (one_trouble a.whole w holds turns_))
tells_trouble site order start end turns read written log (ends.Truncated place) a out trouble holds w turns_ = absurd (none-some trouble (one_trouble a.whole w holds turns_))
tells_trouble site order start end turns read written log (ends.Bad fault place) a out trouble holds w turns_ = same_end (one_trouble a.whole w holds turns_)
tells_trouble site order start end turns read written log ends.NoMemory a out trouble holds w turns_ = tt
tells_trouble site order start end turns read written log ends.ReadFault a out trouble holds w turns_ = absurd (none-some trouble (one_trouble a.whole w holds turns_))
tells_trouble site order start end turns read written log ends.WriteFault a out trouble holds w turns_ = a.short
tells_trouble site order start end turns read written log (ends.Spent calls) a out trouble holds w turns_ = unwritten_yet trouble (one_trouble a.whole w holds turns_) a.due
