-- Legal entries leave the states valid.
use Rattle.std.specs.Prelude.{◌≡◌, ℕ, ◌≤◌, zero, suc, Bool, List, [], ◌∷◌, ◌++◌, length, take, set, Option, Some, None, slice_get, refl}
use Rattle.std.proofs.Common.{sym, ◌∙◌, ap, subst, arith}
use Rattle.std.proofs.lemmas.Option.{none-some}
use Rattle.std.proofs.lemmas.List.Sums.{fold-append}
use Rattle.rec_kinds.specs.Processing.{processed}
use Rattle.rec_kinds.specs.Validity.{IsValid}
use Rattle.rec_kinds.proofs.Keeping.{valid_after}
use Rattle.histories.proofs.Judged.{legal_at}
use Rattle.rec_kinds.specs.Configs.{Config}
use Rattle.rec_kinds.specs.declared.datum.Action.{Action}
use Rattle.rec_kinds.specs.declared.state.RecState.{RecState}
use Rattle.journal_core.specs.Moments.{Moment}
use Rattle.journal_core.specs.declared.entry.Entry.{Entry}
use Rattle.journal_core.specs.Histories.{written, replayed, state_at}
use Rattle.journal_core.specs.Legality.{AreValid, IsDone, AreProcessed, IsLegalEntry, IsLegal, MayFollow}

-- the state of one of the records is valid for it
pub valid_at : (configs : List Config) (states : List RecState) (n : ℕ) (config : Config) (state : RecState) → AreValid configs states → slice_get configs n ≡ Some config → slice_get states n ≡ Some state → IsValid config state
valid_at [] [] n config state valid configured found = absurd (none-some config configured)
valid_at [] (s ∷ states) n config state valid configured found = absurd valid
valid_at (c ∷ configs) [] n config state valid configured found = absurd valid
valid_at (c ∷ configs) (s ∷ states) zero config state valid configured found =
    let same_config : c ≡ config = cc in
    let same_state : s ≡ state = cc in
    subst (λ (z : Config). IsValid z state) same_config (subst (λ (z : RecState). IsValid c z) same_state valid.0)
valid_at (c ∷ configs) (s ∷ states) (suc n) config state valid configured found = valid_at configs states n config state valid.1 configured found

-- one record gets a state that is valid for it
pub valid_set : (configs : List Config) (states : List RecState) (n : ℕ) (config : Config) (state : RecState) → AreValid configs states → slice_get configs n ≡ Some config → IsValid config state → AreValid configs (set states n state)
valid_set [] [] n config state valid configured new = absurd (none-some config configured)
valid_set [] (s ∷ states) n config state valid configured new = absurd valid
valid_set (c ∷ configs) [] n config state valid configured new = absurd valid
valid_set (c ∷ configs) (s ∷ states) zero config state valid configured new =
    let same : c ≡ config = cc in
    (subst (λ (z : Config). IsValid z state) (sym same) new, valid.1)
valid_set (c ∷ configs) (s ∷ states) (suc n) config state valid configured new = (valid.0, valid_set configs states n config state valid.1 configured new)

-- one write
valid_write : (configs : List Config) (states : List RecState) (moment : Moment) (action : ℕ × Action) (drove : Bool) (write : ℕ × RecState) (config : Option Config) (old : Option RecState)
    → slice_get configs action.0 ≡ config → slice_get states action.0 ≡ old → AreValid configs states → IsDone config old moment action drove write → AreValid configs (set states write.0 write.1)
valid_write configs states moment action drove write (Some config) (Some old) configured found valid p =
    subst (λ (w : ℕ × RecState). AreValid configs (set states w.0 w.1)) (sym p.write_is)
    (valid_set configs states action.0 config (processed config old action.1 moment drove) valid configured
    (valid_after config old action.1 moment drove (valid_at configs states action.0 config old valid configured found) p.may))
valid_write configs states moment action drove write (Some config) None configured found valid p = absurd p
valid_write configs states moment action drove write None old configured found valid p = absurd p

-- the writes of an entry
valid_writes : (configs : List Config) (states : List RecState) (moment : Moment) (actions : List (ℕ × Action)) (drives : List Bool) (writes : List (ℕ × RecState)) → AreValid configs states → AreProcessed configs states moment actions drives writes → AreValid configs (written states writes)
valid_writes configs states moment [] [] [] valid p = valid
valid_writes configs states moment [] [] (w ∷ writes) valid p = absurd p
valid_writes configs states moment [] (d ∷ drives) writes valid p = absurd p
valid_writes configs states moment (a ∷ actions) [] writes valid p = absurd p
valid_writes configs states moment (a ∷ actions) (d ∷ drives) [] valid p = absurd p
valid_writes configs states moment (a ∷ actions) (d ∷ drives) (w ∷ writes) valid p =
    valid_writes configs (set states w.0 w.1) moment actions drives writes (valid_write configs states moment a d w (slice_get configs a.0) (slice_get states a.0) refl refl valid p.0) p.1

-- A legal entry leaves the states valid.
pub valid_entry : (configs : List Config) (states : List RecState) (entry : Entry) → IsLegalEntry configs states entry → AreValid configs (written states entry.writes)
valid_entry configs states entry legal = valid_writes configs states entry.moment entry.actions entry.drove entry.writes legal.valid legal.processed

-- an element, and the front that ends with it
one_further : {X : Type 0} (xs : List X) (n : ℕ) → suc n ≤ length xs → (x : X) × ((slice_get xs n ≡ Some x) × (take (suc n) xs ≡ take n xs ++ x ∷ []))
one_further [] n le = absurd (omega (arith, le))
one_further (x ∷ xs) zero le = (x, (refl, refl))
one_further {X} (x ∷ xs) (suc n) le =
    let more = one_further xs n (omega (arith, le)) in
    (more.0, (more.1.0, ap (λ (l : List X). x ∷ l) more.1.1))

-- A legal history that opens with valid states has valid states at every place.
pub valid_history : (configs : List Config) (opening : List RecState) (entries : List Entry) → AreValid configs opening → IsLegal configs opening entries → (n : ℕ) → n ≤ length entries → AreValid configs (state_at opening entries n)
valid_history configs opening entries valid legal zero le = valid
valid_history configs opening entries valid legal (suc n) le =
    let last = one_further entries n le in
    subst (AreValid configs) (sym (ap (replayed opening) last.1.1 ∙ fold-append (λ s e. written s e.writes) opening (take n entries) (last.0 ∷ [])))
    (valid_entry configs (state_at opening entries n) last.0 (legal_at (MayFollow configs opening) [] entries legal n last.0 last.1.0))
