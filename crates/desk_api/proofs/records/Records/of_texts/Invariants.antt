use Rattle.std.specs.Prelude.{◌≡◌, None, take}
use Rattle.desk_api.specs.Loading.{first_fault}
use Rattle.desk_api.specs.Records.{records_of}
use Rattle.desk_api.proofs.records.Records.of_texts.Given as goal

-- the records so far are those of the texts so far, all of which could be built
abbrev pub invariant-loop-stated : goal.invariant-loop-stated
invariant-loop-stated l = (first_fault (take l.stated-index l.texts) ≡ None) × (l.records ≡ records_of (take l.stated-index l.texts))
