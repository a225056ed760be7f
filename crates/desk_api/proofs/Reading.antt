-- The groups that are noted for a record read what all groups read for it.
use Rattle.std.specs.Prelude.{◌≡◌, ℕ, ◌==◌, Bool, List, Option, Some, slice_get, refl}
use Rattle.std.specs.List.{list_any}
use Rattle.std.proofs.Common.{true, ◌∙◌, ap, eq-eqb}
use Rattle.std.proofs.lemmas.Bool.{eqb-true}
use Rattle.std.proofs.lemmas.Bool.Decides.{same_from_decides}
use Rattle.group_view.specs.Groups.{GroupData}
use Rattle.group_view.specs.Leaves.{footprint}
use Rattle.desk_api.proofs.Noting.{is_read, some_place, passes_there, read_by_noted}
use Rattle.desk_api.proofs.Reaching.{about_it}
use Rattle.desk_api.specs.Grouping.{is_among, has_record, noted, AreNoted}

same_bools : (a b : Bool) → (a ≡ true → b ≡ true) → (b ≡ true → a ≡ true) → a ≡ b
same_bools a b there back = same_from_decides {P = a ≡ true} a b ((λ e. e), (λ e. e)) ((λ e. back e), (λ e. there e))

noted_reads : (index : List (List ℕ)) (groups : List GroupData) (rec n : ℕ) → AreNoted index groups → list_any (λ g. is_among (footprint g rec) n) groups ≡ true
    → list_any (λ j. is_read (slice_get groups j) rec n) (noted (slice_get index rec)) ≡ true
noted_reads index groups rec n are is =
    let found = some_place (λ g. is_among (footprint g rec) n) groups is in
    let has : has_record (slice_get groups found.0) rec ≡ true = ap (λ (o : Option GroupData). has_record o rec) found.2 ∙ about_it found.1 rec n found.3 in
    let at = some_place (λ m. m == found.0) (noted (slice_get index rec)) (are rec found.0 ∙ has) in
    let same : at.1 ≡ found.0 = eqb-true at.1 found.0 at.3 in
    passes_there (λ j. is_read (slice_get groups j) rec n) (noted (slice_get index rec)) at.0 at.1 at.2
    (ap (λ (j : ℕ). is_read (slice_get groups j) rec n) same ∙ ap (λ (o : Option GroupData). is_read o rec n) found.2 ∙ found.3)

pub reads_noted : (index : List (List ℕ)) (groups : List GroupData) (rec n : ℕ) → AreNoted index groups
    → list_any (λ j. is_read (slice_get groups j) rec n) (noted (slice_get index rec)) ≡ list_any (λ g. is_among (footprint g rec) n) groups
reads_noted index groups rec n are =
    same_bools (list_any (λ j. is_read (slice_get groups j) rec n) (noted (slice_get index rec))) (list_any (λ g. is_among (footprint g rec) n) groups)
    (λ e. read_by_noted groups (noted (slice_get index rec)) rec n e) (λ e. noted_reads index groups rec n are e)

-- a number of a list is among its numbers
pub among_at : (ns : List ℕ) (i n : ℕ) → slice_get ns i ≡ Some n → is_among ns n ≡ true
among_at ns i n is = passes_there (λ m. m == n) ns i n is (eq-eqb n n refl)
