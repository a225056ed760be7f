-- One step after another, up to the last.
use Rattle.std.proofs.Common.{◌≡◌, ℕ, zero, suc, ◌+◌, ◌<◌, Bool, true, false, length, Result, Ok, Err, refl, sym, ap, ◌∙◌, arith}
use Rattle.acf_rules.specs.declared.fault.FormStop.{FormStop}
use Rattle.acf_rules.specs.declared.fault.FormStop.TheVariants as stops
use Rattle.acf_rules.specs.declared.fault.AcfFault.TheVariants as faults
use Rattle.acf_rules.specs.Forms.{Tokens, Read, Fails, ◌>>=◌, Step, on, repeat, all_steps}

-- a reading that passes a fault on
pub fails_on : (A B : Type 0) (f : Result A FormStop → Result B FormStop) (stop : FormStop) (r : Result A FormStop) (s : Result B FormStop) → ((e : FormStop) → f (Err e) ≡ Err e) → f r ≡ s → Fails stop r → Fails stop s
fails_on A B f stops.Short r s on same h = sym same ∙ ap f h ∙ on _
fails_on A B f (stops.Fault faults.NoMemory) r s on same h = tt
fails_on A B f (stops.Fault (faults.Text t)) r s on same h = sym same ∙ ap f h ∙ on _
fails_on A B f (stops.Fault (faults.BadForm line)) r s on same h = sym same ∙ ap f h ∙ on _
fails_on A B f (stops.Fault (faults.SameName name line)) r s on same h = sym same ∙ ap f h ∙ on _
fails_on A B f (stops.Fault (faults.UnknownName name line)) r s on same h = sym same ∙ ap f h ∙ on _
fails_on A B f (stops.Fault (faults.Unsupported name line)) r s on same h = sym same ∙ ap f h ∙ on _

module _ (A : Type 0) (step : Step A) where
  -- from here so many more steps at most give the whole
  abbrev pub Goes : A → Tokens → Read A → Type 0
  Goes a tokens whole = (n : ℕ) × (length tokens < n) × (repeat step n a tokens ≡ whole)

  next_step : (n : ℕ) (a : A) (tokens : Tokens) → repeat step (suc n) a tokens ≡ (step a tokens >>= on (repeat step n))
  unfolding repeat
  next_step n a tokens = refl

  pub steps_begin : (a : A) (tokens : Tokens) → Goes a tokens (all_steps step a tokens)
  steps_begin a tokens = (length tokens + 1, omega arith, refl)

  module _ (a : A) (tokens : Tokens) (whole : Read A) where
    pub steps_fail : (stop : FormStop) → Fails stop (step a tokens) → Goes a tokens whole → Fails stop whole
    steps_fail stop h (zero, enough, same) = absurd (omega arith)
    steps_fail stop h (suc n, enough, same) =
        fails_on ((A × Bool) × Tokens) (A × Tokens) (λ r. r >>= on (repeat step n)) stop (step a tokens) whole (λ e. refl) (sym (next_step n a tokens) ∙ same) h

    pub steps_end : (b : A) (more : Bool) (rest : Tokens) → more ≡ false → step a tokens ≡ Ok ((b, more), rest) → Goes a tokens whole → whole ≡ Ok (b, rest)
    steps_end b more rest last h (zero, enough, same) = absurd (omega arith)
    steps_end b more rest last h (suc n, enough, same) =
        sym same ∙ next_step n a tokens ∙ ap (λ r. r >>= on (repeat step n)) (h ∙ ap (λ (m : Bool). Ok ((b, m), rest)) last)

    pub steps_go_on : (b : A) (more : Bool) (rest : Tokens) → more ≡ true → step a tokens ≡ Ok ((b, more), rest) → length rest < length tokens → Goes a tokens whole → Goes b rest whole
    steps_go_on b more rest goes h shorter (zero, enough, same) = absurd (omega arith)
    steps_go_on b more rest goes h shorter (suc n, enough, same) =
        (n, omega arith, sym (ap (λ r. r >>= on (repeat step n)) (h ∙ ap (λ (m : Bool). Ok ((b, m), rest)) goes)) ∙ sym (next_step n a tokens) ∙ same)
