-- That states are valid and that a history is legal are facts: each holds in one way at most.
use Rattle.std.specs.Prelude.{◌≡◌, ◌==◌, ◌||◌, ℕ, Bool, true, List, [], ◌∷◌, set, Option, Some, None, is_some, slice_get, IsTrue}
use Rattle.std.specs.List.{list_all, list_any}
use Rattle.std.proofs.Props.{props}
use Rattle.rec_kinds.specs.Processing.{processed}
use Rattle.rec_kinds.specs.Sorts.{sort_of}
use Rattle.rec_kinds.specs.Validity.{own_refusal, drive_fits, IsOfSort, IsValid, IsAllowed, MayBeDone, refusal}
use Rattle.rec_kinds.specs.Configs.{Config}
use Rattle.rec_kinds.specs.declared.datum.Action.{Action}
use Rattle.rec_kinds.specs.declared.datum.Action.TheVariants.{Put, Process}
use Rattle.rec_kinds.specs.declared.datum.Datum.{Datum}
use Rattle.rec_kinds.specs.declared.state.RecState.{RecState}
use Rattle.histories.proofs.Judged.{legal_prop}
use Rattle.journal_core.specs.Moments.{Moment}
use Rattle.journal_core.specs.declared.entry.Entry.{Entry}
use Rattle.journal_core.specs.Legality.{AreValid, IsProcessed, IsDone, AreProcessed, IsLegalEntry, MayFollow, IsLegal}
use Rattle.journal_core.specs.Histories.{replayed}

sort_prop : (config : Config) (datum : Datum) → IsProp (IsOfSort config datum)
sort_prop config datum = hlevel props

valid_prop : (config : Config) (state : RecState) → IsProp (IsValid config state)
valid_prop config state x y =
    let sort : IsProp (IsOfSort config state.datum) = sort_prop config state.datum in
    let taken : IsProp (own_refusal config state.datum ≡ None) = hlevel props in
    let drive : IsProp (drive_fits config (sort_of config.kind config.ftvl) ≡ true) = hlevel props in
    λ i. record { sort = sort x.sort y.sort i; taken = taken x.taken y.taken i; drive = drive x.drive y.drive i }

pub are_valid_prop : (configs : List Config) (states : List RecState) → IsProp (AreValid configs states)
are_valid_prop [] [] = hlevel props
are_valid_prop [] (s ∷ states) = hlevel props
are_valid_prop (c ∷ configs) [] = hlevel props
are_valid_prop (c ∷ configs) (s ∷ states) = λ x y i. (valid_prop c s x.0 y.0 i, are_valid_prop configs states x.1 y.1 i)

allowed_prop : (config : Config) (datum : Datum) → IsProp (IsAllowed config datum)
allowed_prop config datum x y =
    let taken : IsProp (refusal config datum ≡ None) = hlevel props in
    λ i. record { sort = sort_prop config datum x.sort y.sort i; taken = taken x.taken y.taken i }

may_prop : (config : Config) (action : Action) → IsProp (MayBeDone config action)
may_prop config (Put datum) = allowed_prop config datum
may_prop config Process = hlevel props

processed_prop : (config : Config) (old : RecState) (moment : Moment) (action : ℕ × Action) (drove : Bool) (write : ℕ × RecState) → IsProp (IsProcessed config old moment action drove write)
processed_prop config old moment action drove write x y =
    let driven : IsProp ((drove || is_some config.port) ≡ true) = hlevel props in
    let write_is : IsProp (write ≡ (action.0, processed config old action.1 moment drove)) = hlevel props in
    λ i. record { may = may_prop config action.1 x.may y.may i; driven = driven x.driven y.driven i; write_is = write_is x.write_is y.write_is i }

done_prop : (config : Option Config) (old : Option RecState) (moment : Moment) (action : ℕ × Action) (drove : Bool) (write : ℕ × RecState) → IsProp (IsDone config old moment action drove write)
done_prop (Some config) (Some old) moment action drove write = processed_prop config old moment action drove write
done_prop (Some config) None moment action drove write = hlevel props
done_prop None old moment action drove write = hlevel props

are_processed_prop : (configs : List Config) (states : List RecState) (moment : Moment) (actions : List (ℕ × Action)) (drives : List Bool) (writes : List (ℕ × RecState)) → IsProp (AreProcessed configs states moment actions drives writes)
are_processed_prop configs states moment [] [] [] = hlevel props
are_processed_prop configs states moment [] [] (w ∷ writes) = hlevel props
are_processed_prop configs states moment [] (d ∷ drives) writes = hlevel props
are_processed_prop configs states moment (a ∷ actions) [] writes = hlevel props
are_processed_prop configs states moment (a ∷ actions) (d ∷ drives) [] = hlevel props
are_processed_prop configs states moment (a ∷ actions) (d ∷ drives) (w ∷ writes) = λ x y i. (
  done_prop (slice_get configs a.0) (slice_get states a.0) moment a d w x.0 y.0 i,
  are_processed_prop configs (set states w.0 w.1) moment actions drives writes x.1 y.1 i,
)

pub legal_entry_prop : (configs : List Config) (states : List RecState) (entry : Entry) → IsProp (IsLegalEntry configs states entry)
legal_entry_prop configs states entry x y =
    let inside : IsProp (IsTrue (list_all (λ write. list_any (λ rec. rec == write.0) entry.footprint) entry.writes)) = hlevel props in
    λ i. record {
      valid = are_valid_prop configs states x.valid y.valid i;
      processed = are_processed_prop configs states entry.moment entry.actions entry.drove entry.writes x.processed y.processed i;
      inside = inside x.inside y.inside i;
    }

pub are_legal_prop : (configs : List Config) (opening : List RecState) (entries : List Entry) → IsProp (IsLegal configs opening entries)
are_legal_prop configs opening entries = legal_prop (MayFollow configs opening) (λ past entry. legal_entry_prop configs (replayed opening past) entry) [] entries
