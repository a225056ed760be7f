-- The live links of records (EPICS record reference, "Address Specification").
use Rattle.std.specs.Prelude.{ℕ, ◌+◌, ◌==◌, nat_lt, Bool, true, false, not, ◌&&◌, ◌||◌, List, [], ◌∷◌, length, map, Option, Some, None, codes, if◌then◌else◌}
use Rattle.std.specs.List.{list_any, list_all, slice_get}
use Rattle.std.specs.Option.{option_or, option_map, option_and_then}
use Rattle.std.specs.Str.{bytes_eq}
use Rattle.rec_kinds.specs.Given.{text_of, is_file}
use Rattle.rec_kinds.specs.declared.kind.Kind.{Kind}
use Rattle.rec_kinds.specs.declared.kind.Kind.TheVariants.{Longin, Longout, Int64in, Int64out, Bi, Bo, Mbbi, Mbbo, Stringin, Stringout}
use Rattle.rec_kinds.specs.declared.record_text.FieldText.{FieldText}
use Rattle.rec_kinds.specs.declared.record_text.RecText.{RecText}
use Rattle.db_links.specs.Words.{words, before}
use Rattle.db_links.specs.declared.link.Link.{Link}
use Rattle.db_links.specs.declared.link.RecordLinks.{RecordLinks}

-- the number of the first of these records that has the name, where they are numbered from n
abbrev pub number_from : ℕ → List RecText → List ℕ → Option ℕ
number_from n [] name = None
number_from n (r ∷ rs) name = if bytes_eq r.name name then Some n else number_from (n + 1) rs name

-- the number of the record of a name
abbrev pub number_of : List RecText → List ℕ → Option ℕ
number_of records name = number_from 0 records name

-- the record that a word names behind which this ending stands
abbrev pub number_before : List RecText → List ℕ → List ℕ → Option ℕ
number_before records ending word = option_and_then (number_of records) (before ending word)

-- The record whose value a word names: by its name alone or with `.VAL`.
abbrev pub value_of : List RecText → List ℕ → Option ℕ
value_of records word = option_or (number_of records word) (number_before records (codes ".VAL") word)

-- The record that a word names; for a link that processes also with `.PROC`.
abbrev pub target_named : List RecText → Bool → List ℕ → Option ℕ
target_named records proc word =
    option_or (value_of records word) (if proc then number_before records (codes ".PROC") word else None)

-- The live link of these words: the first names its record, and `PP` may stand among the others.
abbrev pub link_of : (List ℕ → Option ℕ) → List (List ℕ) → Option Link
link_of named [] = None
link_of named (w ∷ ws) =
    option_map (λ target. record { target = target; processes = list_any (λ w. bytes_eq w (codes "PP")) ws }) (named w)

abbrev pub link_in : (List ℕ → Option ℕ) → Option (List ℕ) → Option Link
link_in named text = option_and_then (λ t. link_of named (words t)) text

-- the kinds whose field INP counts
abbrev pub has_inp : Kind → Bool
has_inp Longin = true
has_inp Int64in = true
has_inp Bi = true
has_inp Mbbi = true
has_inp Stringin = true
has_inp _ = false

-- the kinds whose field OUT counts
abbrev pub has_out : Kind → Bool
has_out Longout = true
has_out Int64out = true
has_out Bo = true
has_out Mbbo = true
has_out Stringout = true
has_out _ = false

-- the text of a field where it counts; the last that is given
abbrev pub counted : Bool → List FieldText → List ℕ → Option (List ℕ)
counted counts fields name = if counts then text_of fields name else None

-- OUT leads to a port where DTYP is `File`
abbrev pub out_counts : Kind → List FieldText → Bool
out_counts kind fields = has_out kind && not (is_file (text_of fields (codes "DTYP")))

-- the live links of a record among these
abbrev pub links_in : List RecText → RecText → RecordLinks
links_in records r = record {
  inp = link_in (target_named records false) (counted (has_inp r.kind) r.fields (codes "INP"));
  out = link_in (target_named records false) (counted (out_counts r.kind r.fields) r.fields (codes "OUT"));
  flnk = link_in (target_named records true) (text_of r.fields (codes "FLNK"));
}

-- the live links of these records, by their numbers
abbrev pub links_of : List RecText → List RecordLinks
links_of records = map (links_in records) records

-- whether a link names this record
abbrev pub names : Option Link → ℕ → Bool
names None q = false
names (Some link) q = link.target == q

-- whether one of a record's live links names this record
abbrev pub any_names : Option RecordLinks → ℕ → Bool
any_names None q = false
any_names (Some l) q = names l.inp q || names l.out q || names l.flnk q

-- whether a live link of the first record names the second
abbrev pub leads : List RecordLinks → ℕ → ℕ → Bool
leads links a b = any_names (slice_get links a) b

-- whether a link names one of so many records, if any
abbrev pub is_inside : ℕ → Option Link → Bool
is_inside count None = true
is_inside count (Some link) = nat_lt link.target count

abbrev pub all_inside : ℕ → RecordLinks → Bool
all_inside count l = is_inside count l.inp && is_inside count l.out && is_inside count l.flnk

-- whether all links name some of the records
abbrev pub are_inside : List RecordLinks → Bool
are_inside links = list_all (all_inside (length links)) links
