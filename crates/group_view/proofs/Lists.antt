-- A record's structure with an empty list in place of its own.
use Rattle.std.proofs.Common.{◌≡◌, ℕ, ◌+◌, ◌<◌, Bool, true, false, ◌&&◌, cond, pos, codes, length, List, [], refl, sym, ap, ◌∙◌, arith}
use Rattle.std.proofs.lemmas.Bool.{false≢true}
use Rattle.std.specs.FinSet.{FinSet, contains}
use Rattle.std.specs.Ordering.{nat_cmp}
use Rattle.pvd_type.specs.Numbers.{numbered}
use Rattle.pvd_type.specs.Tree.{Tree, Fields, no_fields, field}
use Rattle.pvd_type.specs.declared.shape.Scalar.TheVariants as scalars
use Rattle.pvd_value.specs.Blank.{blank_of}
use Rattle.pvd_value.specs.Data.{Data, int, texts, single, many, members, Row, end, more, gap}
use Rattle.pvd_value.specs.Fits.{fits_of}
use Rattle.pvd_value.specs.Leaves.{row_in}
use Rattle.pvd_value.specs.Merge.{merged, merged_row}
use Rattle.pvd_value.proofs.Blanks.{blank_fits}
use Rattle.nt_types.specs.Types.{alarm_tree, time_tree, enum_value, scalar, list_of}
use Rattle.rec_kinds.specs.Configs.{Config}
use Rattle.rec_kinds.specs.Sorts.{is_of, sort_of, suits}
use Rattle.rec_kinds.specs.declared.kind.Kind.{Kind}
use Rattle.rec_kinds.specs.declared.kind.Kind.TheVariants.{Longin, Longout, Int64in, Int64out, Bi, Bo, Mbbi, Mbbo, Stringin, Stringout, Waveform}
use Rattle.rec_kinds.specs.declared.element.Element.{Element}
use Rattle.rec_kinds.specs.declared.datum.Datum.{Datum}
use Rattle.rec_kinds.specs.declared.datum.Datum.TheVariants.{Num, Index, Text, Nums, Texts}
use Rattle.rec_kinds.specs.declared.state.RecState.{RecState}
use Rattle.rec_fields.specs.Plain.{value_tree}
use Rattle.rec_fields.specs.Shown.{three, datum_shown, alarm_shown, time_shown, shown}
use Rattle.rec_fields.specs.Types.{scalar_of, tree_of, record_tree}
use Rattle.group_view.specs.Pieces.{list_number, value_without_list}
use Rattle.group_view.specs.Views.{IsPart}
use Rattle.group_view.proofs.Fitting.{by_itself_fits}

abbrev light : Kind → Element → List (List ℕ) → Datum → Data
light kind ftvl cs (Index i) = members (more (single (int (pos i))) (more (many (texts [])) end))
light kind ftvl cs (Nums ns) = blank_of (value_tree kind ftvl)
light kind ftvl cs (Texts ts) = blank_of (value_tree kind ftvl)
light kind ftvl cs d = datum_shown kind ftvl cs d

is_light : (config : Config) (d : Datum) → value_without_list config d ≡ light config.kind config.ftvl config.choices d
is_light config (Index i) = refl
is_light config (Num n) = refl
is_light config (Text t) = refl
is_light config (Nums ns) = refl
is_light config (Texts ts) = refl

abbrev meta_fields : Fields
meta_fields = field (codes "alarm") alarm_tree (field (codes "timeStamp") time_tree no_fields)

abbrev index_fields : Fields
index_fields = field (codes "index") (scalar scalars.I32) (field (codes "choices") (list_of scalars.Text) no_fields)

-- ---- where the list isn't marked, it isn't read

module _ (mask : FinSet nat_cmp) where
  unread : (n : ℕ) (x y a : Data) → contains mask n ≡ false → cond (contains mask n) x a ≡ cond (contains mask n) y a
  unread n x y a h = ap (λ m. cond m x a) h ∙ sym (ap (λ m. cond m y a) h)

  same_first : (n : ℕ) (name : List ℕ) (t : Tree) (fs : Fields) (x y : Data) (rest r : Row) → ((a : Data) → merged (contains mask) n t a x ≡ merged (contains mask) n t a y)
      → merged_row (contains mask) n (field name t fs) r (more x rest) ≡ merged_row (contains mask) n (field name t fs) r (more y rest)
  same_first n name t fs x y rest end h = refl
  same_first n name t fs x y rest (gap r) h = refl
  same_first n name t fs x y rest (more a r) h = λ i. more (h a i) (merged_row (contains mask) (n + length (numbered t)) fs r rest)

  same_choices : (i xs ys : Data) (r : Row) → contains mask 3 ≡ false
      → merged_row (contains mask) 2 index_fields r (more i (more xs end)) ≡ merged_row (contains mask) 2 index_fields r (more i (more ys end))
  same_choices i xs ys end h = refl
  same_choices i xs ys (gap r) h = refl
  same_choices i xs ys (more a end) h = refl
  same_choices i xs ys (more a (gap r)) h = refl
  same_choices i xs ys (more a (more b r)) h = λ j. more (cond (contains mask 2) i a) (more (unread 3 xs ys b h j) r)

  unread_part : (kind : Kind) (ftvl : Element) (cs : List (List ℕ)) (d : Datum) (alarm time old : Data) → is_of (sort_of kind ftvl) d ≡ true → contains mask (list_number kind) ≡ false
      → merged (contains mask) 0 (tree_of kind ftvl) old (three (light kind ftvl cs d) alarm time) ≡ merged (contains mask) 0 (tree_of kind ftvl) old (three (datum_shown kind ftvl cs d) alarm time)
  unread_part Longin ftvl cs (Num n) alarm time old h none = refl
  unread_part Longin ftvl cs _ alarm time old h none = absurd (false≢true h)
  unread_part Longout ftvl cs (Num n) alarm time old h none = refl
  unread_part Longout ftvl cs _ alarm time old h none = absurd (false≢true h)
  unread_part Int64in ftvl cs (Num n) alarm time old h none = refl
  unread_part Int64in ftvl cs _ alarm time old h none = absurd (false≢true h)
  unread_part Int64out ftvl cs (Num n) alarm time old h none = refl
  unread_part Int64out ftvl cs _ alarm time old h none = absurd (false≢true h)
  unread_part Stringin ftvl cs (Text t) alarm time old h none = refl
  unread_part Stringin ftvl cs _ alarm time old h none = absurd (false≢true h)
  unread_part Stringout ftvl cs (Text t) alarm time old h none = refl
  unread_part Stringout ftvl cs _ alarm time old h none = absurd (false≢true h)
  unread_part Bi ftvl cs (Index i) alarm time old h none =
      ap members (same_first 1 (codes "value") enum_value meta_fields (members (more (single (int (pos i))) (more (many (texts [])) end))) (members (more (single (int (pos i))) (more (many (texts cs)) end))) (more alarm (more time end)) (row_in old) (λ a. ap members (same_choices (single (int (pos i))) (many (texts [])) (many (texts cs)) (row_in a) none)))
  unread_part Bi ftvl cs _ alarm time old h none = absurd (false≢true h)
  unread_part Bo ftvl cs (Index i) alarm time old h none =
      ap members (same_first 1 (codes "value") enum_value meta_fields (members (more (single (int (pos i))) (more (many (texts [])) end))) (members (more (single (int (pos i))) (more (many (texts cs)) end))) (more alarm (more time end)) (row_in old) (λ a. ap members (same_choices (single (int (pos i))) (many (texts [])) (many (texts cs)) (row_in a) none)))
  unread_part Bo ftvl cs _ alarm time old h none = absurd (false≢true h)
  unread_part Mbbi ftvl cs (Index i) alarm time old h none =
      ap members (same_first 1 (codes "value") enum_value meta_fields (members (more (single (int (pos i))) (more (many (texts [])) end))) (members (more (single (int (pos i))) (more (many (texts cs)) end))) (more alarm (more time end)) (row_in old) (λ a. ap members (same_choices (single (int (pos i))) (many (texts [])) (many (texts cs)) (row_in a) none)))
  unread_part Mbbi ftvl cs _ alarm time old h none = absurd (false≢true h)
  unread_part Mbbo ftvl cs (Index i) alarm time old h none =
      ap members (same_first 1 (codes "value") enum_value meta_fields (members (more (single (int (pos i))) (more (many (texts [])) end))) (members (more (single (int (pos i))) (more (many (texts cs)) end))) (more alarm (more time end)) (row_in old) (λ a. ap members (same_choices (single (int (pos i))) (many (texts [])) (many (texts cs)) (row_in a) none)))
  unread_part Mbbo ftvl cs _ alarm time old h none = absurd (false≢true h)
  unread_part Waveform ftvl cs d alarm time old h none =
      ap members (same_first 1 (codes "value") (list_of (scalar_of ftvl)) meta_fields (light Waveform ftvl cs d) (datum_shown Waveform ftvl cs d) (more alarm (more time end)) (row_in old)
      (λ a. unread 1 (light Waveform ftvl cs d) (datum_shown Waveform ftvl cs d) a none))

pub light_part : (mask : FinSet nat_cmp) (config : Config) (state : RecState) → suits config state.datum ≡ true → contains mask (list_number config.kind) ≡ false
    → IsPart mask 0 (record_tree config) (three (value_without_list config state.datum) (alarm_shown state) (time_shown state)) (shown config state)
light_part mask config state h none old fits =
    ap (λ (v : Data). merged (contains mask) 0 (record_tree config) old (three v (alarm_shown state) (time_shown state))) (is_light config state.datum)
    ∙ unread_part mask config.kind config.ftvl config.choices state.datum (alarm_shown state) (time_shown state) old h none

-- ---- it fits

light_fits : (kind : Kind) (ftvl : Element) (cs : List (List ℕ)) (d : Datum) (state : RecState) → is_of (sort_of kind ftvl) d ≡ true
    → fits_of 16 (three (light kind ftvl cs d) (alarm_shown state) (time_shown state)) (tree_of kind ftvl) ≡ true
light_fits Longin ftvl cs (Num n) state h = refl
light_fits Longin ftvl cs _ state h = absurd (false≢true h)
light_fits Longout ftvl cs (Num n) state h = refl
light_fits Longout ftvl cs _ state h = absurd (false≢true h)
light_fits Int64in ftvl cs (Num n) state h = refl
light_fits Int64in ftvl cs _ state h = absurd (false≢true h)
light_fits Int64out ftvl cs (Num n) state h = refl
light_fits Int64out ftvl cs _ state h = absurd (false≢true h)
light_fits Stringin ftvl cs (Text t) state h = refl
light_fits Stringin ftvl cs _ state h = absurd (false≢true h)
light_fits Stringout ftvl cs (Text t) state h = refl
light_fits Stringout ftvl cs _ state h = absurd (false≢true h)
light_fits Bi ftvl cs (Index i) state h = refl
light_fits Bi ftvl cs _ state h = absurd (false≢true h)
light_fits Bo ftvl cs (Index i) state h = refl
light_fits Bo ftvl cs _ state h = absurd (false≢true h)
light_fits Mbbi ftvl cs (Index i) state h = refl
light_fits Mbbi ftvl cs _ state h = absurd (false≢true h)
light_fits Mbbo ftvl cs (Index i) state h = refl
light_fits Mbbo ftvl cs _ state h = absurd (false≢true h)
light_fits Waveform ftvl cs (Nums ns) state h = ap (λ b. b && true) (blank_fits 16 (list_of (scalar_of ftvl)) (omega arith))
light_fits Waveform ftvl cs (Texts ts) state h = ap (λ b. b && true) (blank_fits 16 (list_of (scalar_of ftvl)) (omega arith))
light_fits Waveform ftvl cs (Num n) state h = absurd (false≢true (by_itself_fits 16 Waveform ftvl cs (Num n) h))
light_fits Waveform ftvl cs (Index i) state h = absurd (false≢true (by_itself_fits 16 Waveform ftvl cs (Index i) h))
light_fits Waveform ftvl cs (Text t) state h = absurd (false≢true (by_itself_fits 16 Waveform ftvl cs (Text t) h))

pub light_whole_fits : (config : Config) (state : RecState) → suits config state.datum ≡ true
    → fits_of 16 (three (value_without_list config state.datum) (alarm_shown state) (time_shown state)) (record_tree config) ≡ true
light_whole_fits config state h =
    ap (λ (v : Data). fits_of 16 (three v (alarm_shown state) (time_shown state)) (record_tree config)) (is_light config state.datum)
    ∙ light_fits config.kind config.ftvl config.choices state.datum state h
