-- The reports of an exchange, collected.
use Rattle.std.proofs.Common.{◌≡◌, ℕ, List, [], ◌∷◌, ◌++◌, map, Option, None, Some, IfSome, refl, sym, ◌∙◌, ap, subst}
use Rattle.std.proofs.lemmas.List.{map-append}
use Rattle.futures.specs.Poll.{OnPending}
use Rattle.futures.specs.declared.task.Poll.{Poll}
use Rattle.futures.specs.declared.task.Poll.TheVariants.{Ready, Pending}
use Rattle.pva_outside.specs.Wire.{Wire}
use Rattle.cli_session.specs.Seen.{report_view}
use Rattle.cli_session.specs.Steps.{Told}
use Rattle.cli_session.specs.declared.ask.Ask.{Ask}
use Rattle.cli_session.specs.declared.report.Report.{Report}
use Rattle.cli_futures.specs.Exchanges.{Gives, IsCollecting, MayGive}
use Rattle.cli_futures.specs.Exchanging.{Conversing, HasExchanged}
use Rattle.cli_futures.specs.Taking.{ClientView}
use Rattle.cli_futures.specs.Turning.{IsGoing}
use Rattle.cli_futures.specs.declared.conversation.Conversation.{Conversation}
use Rattle.cli_futures.specs.declared.end.ExchangeEnd.TheVariants as ends
use Rattle.cli_futures.specs.declared.end.Outcome.{Outcome}
use Rattle.cli_futures.specs.declared.end.Patience.{Patience}
use Rattle.cli_futures.specs.declared.exchange.Collecting.{Collecting}
use Rattle.cli_futures.proofs.Growing.{front_on}
use Rattle.cli_futures.proofs.Taken.{said_front, told_front}

-- there was no memory for the last of what was told
pub conversing_short : {ask : Ask} {begin wire : Wire} {told : List Told} (t : Told) {v : ClientView} {calls idles : ℕ} → Conversing ask begin wire (told ++ t ∷ []) v calls idles → (p : Patience) → HasExchanged ask p begin wire told ends.NoMemory
conversing_short {ask} {begin} {wire} {told} t c p = record {
  read = c.read;
  written = c.written;
  moves = c.moves;
  begins = said_front c.taken;
  cause = record { stopped = front_on (record { rest = t ∷ []; whole = refl }) (told_front c.taken); faults = c.faults; ends = c.ends };
}

-- a report was put behind the others
pub told_push : (old new : List Report) (r : Report) → new ≡ old ++ r ∷ [] → map report_view old ++ report_view r ∷ [] ≡ map report_view new
told_push old new r is = sym (map-append report_view old (r ∷ [])) ∙ sym (ap (map report_view) is)

pub on_pending : {A : Type 0} {P : Type 0} (r : Poll A) → P → OnPending r P
on_pending (Ready x) h = tt
on_pending Pending h = h

pub given_from : {G : Type 0} (P : G → Type 0) (o : Option G) (g : G) → o ≡ Some g → P g → IfSome o P
given_from P o g is h = subst (λ (z : Option _). IfSome z P) (sym is) h

module _ {L : Type 0} (wire : L → Wire) where
  -- it gives no more behind calls that it went on over
  pub may_give_on : (a b : Collecting L) → b.conversation.patience ≡ a.conversation.patience
      → ((ask : Ask) (begin : Wire) → IsCollecting wire ask begin a → IsCollecting wire ask begin b) → (x : Outcome L) → MayGive wire b x → MayGive wire a x
  may_give_on a b same on x gives ask begin going =
      subst (λ (p : Patience). HasExchanged ask p begin (wire x.link) (map report_view x.reports.items) x.end) same (gives ask begin (on ask begin going))
