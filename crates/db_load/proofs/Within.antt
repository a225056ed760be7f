-- What stands in a record's braces, read step by step.
use Rattle.std.proofs.Common.{◌≡◌, ℕ, zero, suc, ◌<◌, List, [], ◌∷◌, ◌++◌, length, Result, Ok, Err, refl, sym, ap, ◌∙◌, arith, append_assoc}
use Rattle.std.proofs.lemmas.List.{append-nil}
use Rattle.rec_kinds.specs.declared.kind.Kind.{Kind}
use Rattle.rec_kinds.specs.declared.record_text.FieldText.{FieldText}
use Rattle.rec_kinds.specs.declared.record_text.Info.{Info}
use Rattle.db_load.specs.declared.bodies.Item.{Item}
use Rattle.db_load.specs.declared.bodies.Item.TheVariants as items
use Rattle.db_load.specs.declared.fault.LoadFault.TheVariants as faults
use Rattle.db_load.specs.declared.fault.FormStop.{FormStop}
use Rattle.db_load.specs.declared.fault.FormStop.TheVariants as stops
use Rattle.db_load.specs.Forms.{Stop, Tokens, Read, Fails, ◌>>=◌, Body, with_items, after_item, item_at, body_at}

-- a reading that passes a fault on
pub fails_on : (A B : Type 0) (f : Result A Stop → Result B Stop) (stop : FormStop) (r : Result A Stop) (s : Result B Stop) → ((e : Stop) → f (Err e) ≡ Err e) → f r ≡ s → Fails stop r → Fails stop s
fails_on A B f stops.Short r s on same h = sym same ∙ ap f h ∙ on _
fails_on A B f (stops.Fault faults.NoMemory) r s on same h = tt
fails_on A B f (stops.Fault (faults.Text t)) r s on same h = sym same ∙ ap f h ∙ on _
fails_on A B f (stops.Fault (faults.SameRecord name line)) r s on same h = sym same ∙ ap f h ∙ on _
fails_on A B f (stops.Fault (faults.UnknownKind name line)) r s on same h = sym same ∙ ap f h ∙ on _
fails_on A B f (stops.Fault (faults.UnknownField name line)) r s on same h = sym same ∙ ap f h ∙ on _
fails_on A B f (stops.Fault (faults.BadForm line)) r s on same h = sym same ∙ ap f h ∙ on _
fails_on A B f (stops.Fault (faults.Count n)) r s on same h = sym same ∙ ap f h ∙ on _

module _ (kind : Kind) where
  abbrev pub BodyGoes : List FieldText → List Info → Tokens → Read Body → Type 0
  BodyGoes fields infos tokens whole = (n : ℕ) × (length tokens < n) × (with_items (fields, infos) (body_at kind n tokens) ≡ whole)

  step : (n : ℕ) (tokens : Tokens) → body_at kind (suc n) tokens ≡ (item_at kind tokens >>= λ x. after_item (body_at kind n) x.0 x.1)
  unfolding body_at
  step n tokens = refl

  pub body_begins : (tokens : Tokens) (n : ℕ) (whole : Read Body) → length tokens < n → body_at kind n tokens ≡ whole → BodyGoes [] [] tokens whole
  body_begins tokens n whole enough same = (n, enough, as_it_is (body_at kind n tokens) ∙ same)
    where
      as_it_is : (r : Read Body) → with_items ([], []) r ≡ r
      as_it_is (Ok b) = refl
      as_it_is (Err e) = refl

  module _ (fields : List FieldText) (infos : List Info) (tokens : Tokens) (whole : Read Body) where
    pub body_fails : (stop : FormStop) → Fails stop (item_at kind tokens) → BodyGoes fields infos tokens whole → Fails stop whole
    body_fails stop h (zero, enough, same) = absurd (omega arith)
    body_fails stop h (suc n, enough, same) =
        fails_on (Item × Tokens) (Body × Tokens) (λ r. with_items (fields, infos) (r >>= λ x. after_item (body_at kind n) x.0 x.1)) stop (item_at kind tokens) whole (λ e. refl)
        (ap (with_items (fields, infos)) (sym (step n tokens)) ∙ same) h

    module _ (after : Tokens) where
      pub body_closes : item_at kind tokens ≡ Ok (items.Close, after) → BodyGoes fields infos tokens whole → whole ≡ Ok ((fields, infos), after)
      body_closes h (zero, enough, same) = absurd (omega arith)
      body_closes h (suc n, enough, same) =
          sym same ∙ ap (with_items (fields, infos)) (step n tokens ∙ ap (λ r. r >>= λ x. after_item (body_at kind n) x.0 x.1) h)
          ∙ ap (λ (fs : List FieldText). Ok ((fs, infos ++ []), after)) (append-nil fields) ∙ ap (λ (is : List Info). Ok ((fields, is), after)) (append-nil infos)

      pub body_field : (f : FieldText) → item_at kind tokens ≡ Ok (items.Field f, after) → length after < length tokens → BodyGoes fields infos tokens whole → BodyGoes (fields ++ f ∷ []) infos after whole
      body_field f h shorter (zero, enough, same) = absurd (omega arith)
      body_field f h shorter (suc n, enough, same) =
          (n, omega arith, more (body_at kind n after) ∙ ap (with_items (fields, infos)) (sym (step n tokens ∙ ap (λ r. r >>= λ x. after_item (body_at kind n) x.0 x.1) h)) ∙ same)
        where
          more : (r : Read Body) → with_items (fields ++ f ∷ [], infos) r ≡ with_items (fields, infos) (with_items (f ∷ [], []) r)
          more (Ok b) = ap (λ (fs : List FieldText). Ok ((fs, infos ++ b.0.1), b.1)) (append_assoc fields (f ∷ []) b.0.0)
          more (Err e) = refl

      pub body_info : (i : Info) → item_at kind tokens ≡ Ok (items.Info i, after) → length after < length tokens → BodyGoes fields infos tokens whole → BodyGoes fields (infos ++ i ∷ []) after whole
      body_info i h shorter (zero, enough, same) = absurd (omega arith)
      body_info i h shorter (suc n, enough, same) =
          (n, omega arith, more (body_at kind n after) ∙ ap (with_items (fields, infos)) (sym (step n tokens ∙ ap (λ r. r >>= λ x. after_item (body_at kind n) x.0 x.1) h)) ∙ same)
        where
          more : (r : Read Body) → with_items (fields, infos ++ i ∷ []) r ≡ with_items (fields, infos) (with_items ([], i ∷ []) r)
          more (Ok b) = ap (λ (is : List Info). Ok ((fields ++ b.0.0, is), b.1)) (append_assoc infos (i ∷ []) b.0.1)
          more (Err e) = refl
