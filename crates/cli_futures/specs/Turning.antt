-- What an exchange comes to from call to call.
use Rattle.std.specs.Prelude.{◌≡◌, ◌⊎◌, ℕ, ◌+◌, ◌≤◌, Bool, true, false, List, [], ◌∷◌, ◌++◌, Result, Ok, Err, ⊤}
use Rattle.pva_outside.specs.Count.{Rose}
use Rattle.pva_outside.specs.Wire.{Wire, Rests}
use Rattle.cli_session.specs.Seen.{report_view}
use Rattle.cli_session.specs.Steps.{Told}
use Rattle.cli_session.specs.declared.ask.Ask.{Ask}
use Rattle.cli_futures.specs.Exchanging.{Conversing, HasExchanged}
use Rattle.cli_futures.specs.Taking.{IsWaiting, client_view}
use Rattle.cli_futures.specs.declared.conversation.Conversation.{Conversation}
use Rattle.cli_futures.specs.declared.end.ExchangeEnd.{ExchangeEnd}
use Rattle.cli_futures.specs.declared.end.ExchangeEnd.TheVariants as ends
use Rattle.cli_futures.specs.declared.end.Step.{Step}
use Rattle.cli_futures.specs.declared.end.Step.TheVariants as steps

-- How often in a row the link was idle.

-- No call was made, or a byte moved in the last one.
pub record Ran (old new : Wire) (idles idles' : ℕ) : Type 0 where
  pub idles_same : new.idles ≡ old.idles
  pub since : ((new ≡ old) × (idles' ≡ idles)) ⊎ (idles' ≡ 0)

-- The link was idle in the last call: once since a byte moved, or once more and no byte moved.
pub record Rested (old new : Wire) (idles idles' : ℕ) : Type 0 where
  pub rose : Rose old.idles new.idles
  pub since : (idles' ≡ 1) ⊎ ((idles' ≡ idles + 1) × Rests old new)

-- The limit is reached only where the link was idle so often before, and no byte moved since.
abbrev pub EndsBy : Wire → Wire → ℕ → ExchangeEnd → Type 0
EndsBy old new idles (ends.IdleLimit n) = (1 ≤ n) × (n ≤ idles) × Rests old new
EndsBy old new idles other = ⊤

abbrev pub CountsBy : Wire → Wire → ℕ → ℕ → Result Bool ExchangeEnd → Type 0
CountsBy old new idles idles' (Ok true) = Ran old new idles idles'
CountsBy old new idles idles' (Ok false) = Rested old new idles idles'
CountsBy old new idles idles' (Err end) = EndsBy old new idles end

abbrev pub StepsBy : Wire → Wire → ℕ → ℕ → Step → Type 0
StepsBy old new idles idles' (steps.Told report) = Ran old new idles idles'
StepsBy old new idles idles' steps.Waits = Rested old new idles idles'
StepsBy old new idles idles' (steps.Ended end) = EndsBy old new idles end

module _ {L : Type 0} (wire : L → Wire) where
  -- it has come so far since its link was so
  abbrev pub IsGoing : Ask → Wire → List Told → Conversation L → Type 0
  IsGoing ask begin told c = Conversing ask begin (wire c.link) told (client_view c.client) c.calls c.idles

  -- a further call was made, or the exchange has ended
  abbrev pub GoesBy : Ask → Wire → List Told → Conversation L → Result Bool ExchangeEnd → Type 0
  GoesBy ask begin told c (Ok moved) = IsGoing ask begin told c
  GoesBy ask begin told c (Err end) = HasExchanged ask c.patience begin (wire c.link) told end

  abbrev pub Turns : Conversation L → Conversation L → Result Bool ExchangeEnd → Type 0
  Turns old new result =
      (ask : Ask) (begin : Wire) (told : List Told) → IsGoing ask begin told old → IsWaiting (client_view old.client)
      → GoesBy ask begin told new result

  -- this was told, or nothing more can be done now, or the exchange has ended
  abbrev pub AdvancesBy : Ask → Wire → List Told → Conversation L → Step → Type 0
  AdvancesBy ask begin told c (steps.Told report) = IsGoing ask begin (told ++ report_view report ∷ []) c
  AdvancesBy ask begin told c steps.Waits = IsGoing ask begin told c
  AdvancesBy ask begin told c (steps.Ended end) = HasExchanged ask c.patience begin (wire c.link) told end

  abbrev pub Advances : Conversation L → Conversation L → Step → Type 0
  Advances old new step =
      (ask : Ask) (begin : Wire) (told : List Told) → IsGoing ask begin told old → AdvancesBy ask begin told new step
