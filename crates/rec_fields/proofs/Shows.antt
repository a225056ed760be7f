-- What a record shows fits its type, and a put of it puts what the record holds.
use Rattle.std.proofs.Common.{◌≡◌, ℕ, ◌<◌, ◌≤◌, ◌^◌, ◌==◌, ℤ, pos, negsuc, unsigned_abs, nat_lt, length, Bool, true, false, ◌&&◌, List, [], ◌∷◌, map, Option, None, Some, Err, if◌then◌else◌, Result, refl, sym, subst, ap, ◌∙◌, arith}
use Rattle.std.specs.List.{list_all}
use Rattle.std.specs.Prelude.{⊤}
use Rattle.std.specs.FinSet.{FinSet, contains}
use Rattle.std.specs.Ordering.{nat_cmp}
use Rattle.std.proofs.lemmas.Bool.{false≢true}
use Rattle.std.proofs.lemmas.Bool.Decides.{nat_tests}
use Rattle.pvd_value.specs.Data.{Data, single, int, long, text}
use Rattle.pvd_value.specs.Fits.{fits_of}
use Rattle.rec_kinds.specs.Configs.{Config}
use Rattle.rec_kinds.specs.Severities.{severity_number, status_number}
use Rattle.rec_kinds.specs.Sorts.{is_of, sort_of, within}
use Rattle.rec_kinds.specs.Ranges.{most_choices}
use Rattle.rec_kinds.specs.Validity.{refusal, own_refusal, refused_unless, index_bound}
use Rattle.rec_kinds.specs.declared.kind.Kind.{Kind}
use Rattle.rec_kinds.specs.declared.kind.Kind.TheVariants.{Longin, Longout, Int64in, Int64out, Bi, Bo, Mbbi, Mbbo, Stringin, Stringout, Waveform}
use Rattle.rec_kinds.specs.declared.element.Element.{Element}
use Rattle.rec_kinds.specs.declared.element.Element.TheVariants as elements
use Rattle.rec_kinds.specs.declared.datum.Datum.{Datum}
use Rattle.rec_kinds.specs.declared.datum.Datum.TheVariants.{Num, Index, Text, Nums, Texts}
use Rattle.rec_kinds.specs.declared.datum.Action.{Action}
use Rattle.rec_kinds.specs.declared.put.PutRefusal.{PutRefusal}
use Rattle.rec_kinds.specs.declared.put.PutRefusal.TheVariants.{IndexOutside, Disabled, NothingWritable}
use Rattle.rec_kinds.specs.declared.state.RecState.{RecState}
use Rattle.rec_fields.specs.Again.{MayBePutAgain, IsPutAgain}
use Rattle.rec_fields.specs.Puts.{datum_in, value_in, action_for, put_of, taken_unless, value_leaf, IsAction}
use Rattle.rec_fields.specs.Shown.{three, datum_shown, value_shown, shown}
use Rattle.rec_fields.specs.Types.{tree_of, record_tree}
use Rattle.rec_fields.specs.declared.puts.FieldAnswer.{FieldAnswer}
use Rattle.rec_fields.specs.declared.puts.FieldAnswer.TheVariants.{Refused}

-- an alarm and a time stamp of any numbers
abbrev alarm : ℤ → ℤ → List ℕ → Data
alarm severity status message = three (single (int severity)) (single (int status)) (single (text message))

abbrev time : ℤ → ℤ → ℤ → Data
time seconds nanoseconds tag = three (single (long seconds)) (single (int nanoseconds)) (single (int tag))

whole_fits : (kind : Kind) (ftvl : Element) (choices : List (List ℕ)) (d : Datum) (a b : ℤ) (m : List ℕ) (x y z : ℤ) →
    is_of (sort_of kind ftvl) d ≡ true → fits_of 16 (three (datum_shown kind ftvl choices d) (alarm a b m) (time x y z)) (tree_of kind ftvl) ≡ true
whole_fits Longin ftvl cs (Num n) a b m x y z h = refl
whole_fits Longin ftvl cs _ a b m x y z h = absurd (false≢true h)
whole_fits Longout ftvl cs (Num n) a b m x y z h = refl
whole_fits Longout ftvl cs _ a b m x y z h = absurd (false≢true h)
whole_fits Int64in ftvl cs (Num n) a b m x y z h = refl
whole_fits Int64in ftvl cs _ a b m x y z h = absurd (false≢true h)
whole_fits Int64out ftvl cs (Num n) a b m x y z h = refl
whole_fits Int64out ftvl cs _ a b m x y z h = absurd (false≢true h)
whole_fits Bi ftvl cs (Index i) a b m x y z h = refl
whole_fits Bi ftvl cs _ a b m x y z h = absurd (false≢true h)
whole_fits Bo ftvl cs (Index i) a b m x y z h = refl
whole_fits Bo ftvl cs _ a b m x y z h = absurd (false≢true h)
whole_fits Mbbi ftvl cs (Index i) a b m x y z h = refl
whole_fits Mbbi ftvl cs _ a b m x y z h = absurd (false≢true h)
whole_fits Mbbo ftvl cs (Index i) a b m x y z h = refl
whole_fits Mbbo ftvl cs _ a b m x y z h = absurd (false≢true h)
whole_fits Stringin ftvl cs (Text t) a b m x y z h = refl
whole_fits Stringin ftvl cs _ a b m x y z h = absurd (false≢true h)
whole_fits Stringout ftvl cs (Text t) a b m x y z h = refl
whole_fits Stringout ftvl cs _ a b m x y z h = absurd (false≢true h)
whole_fits Waveform elements.Text cs (Texts ts) a b m x y z h = refl
whole_fits Waveform elements.Text cs _ a b m x y z h = absurd (false≢true h)
whole_fits Waveform elements.I8 cs (Nums ns) a b m x y z h = refl
whole_fits Waveform elements.I8 cs _ a b m x y z h = absurd (false≢true h)
whole_fits Waveform elements.U8 cs (Nums ns) a b m x y z h = refl
whole_fits Waveform elements.U8 cs _ a b m x y z h = absurd (false≢true h)
whole_fits Waveform elements.I16 cs (Nums ns) a b m x y z h = refl
whole_fits Waveform elements.I16 cs _ a b m x y z h = absurd (false≢true h)
whole_fits Waveform elements.U16 cs (Nums ns) a b m x y z h = refl
whole_fits Waveform elements.U16 cs _ a b m x y z h = absurd (false≢true h)
whole_fits Waveform elements.I32 cs (Nums ns) a b m x y z h = refl
whole_fits Waveform elements.I32 cs _ a b m x y z h = absurd (false≢true h)
whole_fits Waveform elements.U32 cs (Nums ns) a b m x y z h = refl
whole_fits Waveform elements.U32 cs _ a b m x y z h = absurd (false≢true h)
whole_fits Waveform elements.I64 cs (Nums ns) a b m x y z h = refl
whole_fits Waveform elements.I64 cs _ a b m x y z h = absurd (false≢true h)
whole_fits Waveform elements.U64 cs (Nums ns) a b m x y z h = refl
whole_fits Waveform elements.U64 cs _ a b m x y z h = absurd (false≢true h)

pub shown_fits : (config : Config) (state : RecState) (v : Data) → is_of (sort_of config.kind config.ftvl) state.datum ≡ true → v ≡ shown config state →
    fits_of 16 v (record_tree config) ≡ true
shown_fits config state v h e =
    ap (λ (w : Data). fits_of 16 w (record_tree config)) e
    ∙ whole_fits config.kind config.ftvl config.choices state.datum (pos (severity_number state.severity)) (pos (status_number state.status)) state.message
    state.moment.seconds (pos state.moment.nanoseconds) state.tag h

both : (a b : Bool) → (a && b) ≡ true → (a ≡ true) × (b ≡ true)
both true b h = (refl, h)
both false b h = absurd (false≢true h)

-- numbers that aren't negative are those of their sizes
sizes : (high : ℤ) (ns : List ℤ) → list_all (within (pos 0) high) ns ≡ true → map (λ n. pos n) (map unsigned_abs ns) ≡ ns
sizes high [] h = refl
sizes high (pos n ∷ ns) h = ap (λ (zs : List ℤ). pos n ∷ zs) (sizes high ns (both (within (pos 0) high (pos n)) (list_all (within (pos 0) high) ns) h).1)
sizes high (negsuc n ∷ ns) h = absurd (false≢true h)

-- an index is a number of 16 bits
abbrev IsWord : Datum → Type 0
IsWord (Index i) = i < 2 ^ 16
IsWord _ = ⊤

at_most_sixteen : (count : ℕ) → count ≤ most_choices → (if count == 0 then most_choices else count) ≤ most_choices
at_most_sixteen count h = grind (arith, nat_tests)

allowed : (good : Bool) → refused_unless good IndexOutside None ≡ None → good ≡ true
allowed true h = refl
allowed false h = absurd (cc)

below_word : (i bound : ℕ) → nat_lt i bound ≡ true → bound ≤ most_choices → i < 2 ^ 16
below_word i bound h few = grind (arith, nat_tests)

-- an index that the record takes is one where it has no more choices than a record may have
word_of : (config : Config) (d : Datum) → length config.choices ≤ most_choices → own_refusal config d ≡ None → IsWord d
word_of config (Index i) few taken =
    below_word i (index_bound config.choices) (allowed (nat_lt i (index_bound config.choices)) taken) (at_most_sixteen (length config.choices) few)
word_of config (Num n) few taken = tt
word_of config (Text t) few taken = tt
word_of config (Nums ns) few taken = tt
word_of config (Texts ts) few taken = tt

word_test : (i : ℕ) → i < 2 ^ 16 → nat_lt i 65536 ≡ true
word_test i h = grind (arith, nat_tests)

datum_back : (kind : Kind) (ftvl : Element) (choices : List (List ℕ)) (d : Datum) → is_of (sort_of kind ftvl) d ≡ true → IsWord d →
    datum_in (datum_shown kind ftvl choices d) ≡ Some d
datum_back Longin ftvl cs (Num n) h w = refl
datum_back Longin ftvl cs _ h w = absurd (false≢true h)
datum_back Longout ftvl cs (Num n) h w = refl
datum_back Longout ftvl cs _ h w = absurd (false≢true h)
datum_back Int64in ftvl cs (Num n) h w = refl
datum_back Int64in ftvl cs _ h w = absurd (false≢true h)
datum_back Int64out ftvl cs (Num n) h w = refl
datum_back Int64out ftvl cs _ h w = absurd (false≢true h)
datum_back Bi ftvl cs (Index i) h w = ap (λ b. if b then Some (Index i) else None) (word_test i w)
datum_back Bi ftvl cs _ h w = absurd (false≢true h)
datum_back Bo ftvl cs (Index i) h w = ap (λ b. if b then Some (Index i) else None) (word_test i w)
datum_back Bo ftvl cs _ h w = absurd (false≢true h)
datum_back Mbbi ftvl cs (Index i) h w = ap (λ b. if b then Some (Index i) else None) (word_test i w)
datum_back Mbbi ftvl cs _ h w = absurd (false≢true h)
datum_back Mbbo ftvl cs (Index i) h w = ap (λ b. if b then Some (Index i) else None) (word_test i w)
datum_back Mbbo ftvl cs _ h w = absurd (false≢true h)
datum_back Stringin ftvl cs (Text t) h w = refl
datum_back Stringin ftvl cs _ h w = absurd (false≢true h)
datum_back Stringout ftvl cs (Text t) h w = refl
datum_back Stringout ftvl cs _ h w = absurd (false≢true h)
datum_back Waveform elements.Text cs (Texts ts) h w = refl
datum_back Waveform elements.Text cs _ h w = absurd (false≢true h)
datum_back Waveform elements.I8 cs (Nums ns) h w = refl
datum_back Waveform elements.I8 cs _ h w = absurd (false≢true h)
datum_back Waveform elements.U8 cs (Nums ns) h w = ap (λ (zs : List ℤ). Some (Nums zs)) (sizes _ ns h)
datum_back Waveform elements.U8 cs _ h w = absurd (false≢true h)
datum_back Waveform elements.I16 cs (Nums ns) h w = refl
datum_back Waveform elements.I16 cs _ h w = absurd (false≢true h)
datum_back Waveform elements.U16 cs (Nums ns) h w = ap (λ (zs : List ℤ). Some (Nums zs)) (sizes _ ns h)
datum_back Waveform elements.U16 cs _ h w = absurd (false≢true h)
datum_back Waveform elements.I32 cs (Nums ns) h w = refl
datum_back Waveform elements.I32 cs _ h w = absurd (false≢true h)
datum_back Waveform elements.U32 cs (Nums ns) h w = ap (λ (zs : List ℤ). Some (Nums zs)) (sizes _ ns h)
datum_back Waveform elements.U32 cs _ h w = absurd (false≢true h)
datum_back Waveform elements.I64 cs (Nums ns) h w = refl
datum_back Waveform elements.I64 cs _ h w = absurd (false≢true h)
datum_back Waveform elements.U64 cs (Nums ns) h w = ap (λ (zs : List ℤ). Some (Nums zs)) (sizes _ ns h)
datum_back Waveform elements.U64 cs _ h w = absurd (false≢true h)

-- what a put does where the leaf is marked, by what the datum is refused for
pub put_at : (config : Config) (value : Data) (mask : FinSet nat_cmp) (d : Datum) (r : Option PutRefusal) →
    contains mask (value_leaf config.kind) ≡ true → datum_in (value_in value) ≡ Some d → refusal config d ≡ r →
    action_for config value mask ≡ taken_unless r d
put_at config value mask d r marked is refused =
    ap (λ b. if b then put_of config (datum_in (value_in value)) else Err (Refused NothingWritable)) marked
    ∙ (ap (put_of config) is ∙ ap (λ (q : Option PutRefusal). taken_unless q d) refused)

-- a put that is checked is what the put does
pub is_action : (config : Config) (value : Data) (mask : FinSet nat_cmp) (d : Datum) (r : Option PutRefusal) (answer : Result Action FieldAnswer) →
    action_for config value mask ≡ taken_unless r d → answer ≡ taken_unless r d → IsAction config value mask answer
is_action config value mask d None answer e h = subst (IsAction config value mask) (sym h) e
is_action config value mask d (Some r) answer e h = subst (IsAction config value mask) (sym h) e

pub again : (config : Config) (state : RecState) (mask : FinSet nat_cmp) → MayBePutAgain config state mask → IsPutAgain config state mask
again config state mask m = record {
  action = put_at config (shown config state) mask state.datum None m.marked
      (datum_back config.kind config.ftvl config.choices state.datum m.valid.sort (word_of config state.datum m.choices m.valid.taken))
      (ap (λ b. if b then Some Disabled else own_refusal config state.datum) m.enabled ∙ m.valid.taken);
  same = λ moment drove. ap (value_shown config) m.kept;
}
