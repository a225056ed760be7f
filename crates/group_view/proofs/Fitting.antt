-- What a group shows of valid states fits its type.
use Rattle.std.proofs.Common.{◌≡◌, ℕ, Bool, true, ◌&&◌, pos, List, refl, ap, ◌∙◌}
use Rattle.std.specs.Prelude.{slice_get, MatchOption, Some, None}
use Rattle.std.proofs.lemmas.Bool.{false≢true}
use Rattle.pvd_value.specs.Fits.{fits_of, row_fits}
use Rattle.pvd_value.specs.Data.{Data, single, int}
use Rattle.rec_kinds.specs.Configs.{Config}
use Rattle.rec_kinds.specs.Sorts.{is_of, sort_of}
use Rattle.rec_kinds.specs.Validity.{IsValid}
use Rattle.rec_kinds.specs.declared.kind.Kind.{Kind}
use Rattle.rec_kinds.specs.declared.kind.Kind.TheVariants.{Longin, Longout, Int64in, Int64out, Bi, Bo, Mbbi, Mbbo, Stringin, Stringout, Waveform}
use Rattle.rec_kinds.specs.declared.element.Element.{Element}
use Rattle.rec_kinds.specs.declared.element.Element.TheVariants as elements
use Rattle.rec_kinds.specs.declared.datum.Datum.{Datum}
use Rattle.rec_kinds.specs.declared.datum.Datum.TheVariants.{Num, Index, Text, Nums, Texts}
use Rattle.rec_kinds.specs.declared.state.RecState.{RecState}
use Rattle.rec_fields.specs.Plain.{value_tree, plain_tree, plain_shown}
use Rattle.rec_fields.specs.Shown.{shown, datum_shown}
use Rattle.rec_fields.proofs.Shows.{shown_fits}
use Rattle.group_view.specs.Groups.{HasState}
use Rattle.group_view.specs.Pieces.{piece_tree, piece_shown}
use Rattle.group_view.specs.Slots.{Slot, shows, level, Slots, no_slots, slot, EachShown, EachOfShown}
use Rattle.group_view.specs.Types.{source_tree, slot_tree, slot_fields}
use Rattle.group_view.specs.Views.{shown_or_blank, source_shown, slot_shown, slots_shown}
use Rattle.group_view.specs.declared.piece.Piece.{Piece}
use Rattle.group_view.specs.declared.piece.Piece.TheVariants as pieces
use Rattle.group_view.specs.Sources.{Source}

-- a record's value by itself
abbrev by_itself : Kind → Element → List (List ℕ) → Datum → Data
by_itself kind ftvl choices (Index i) = single (int (pos i))
by_itself kind ftvl choices d = datum_shown kind ftvl choices d

pub by_itself_fits : (left : ℕ) (kind : Kind) (ftvl : Element) (cs : List (List ℕ)) (d : Datum) → is_of (sort_of kind ftvl) d ≡ true
    → fits_of left (by_itself kind ftvl cs d) (value_tree kind ftvl) ≡ true
by_itself_fits left Longin ftvl cs (Num n) h = refl
by_itself_fits left Longin ftvl cs _ h = absurd (false≢true h)
by_itself_fits left Longout ftvl cs (Num n) h = refl
by_itself_fits left Longout ftvl cs _ h = absurd (false≢true h)
by_itself_fits left Int64in ftvl cs (Num n) h = refl
by_itself_fits left Int64in ftvl cs _ h = absurd (false≢true h)
by_itself_fits left Int64out ftvl cs (Num n) h = refl
by_itself_fits left Int64out ftvl cs _ h = absurd (false≢true h)
by_itself_fits left Bi ftvl cs (Index i) h = refl
by_itself_fits left Bi ftvl cs _ h = absurd (false≢true h)
by_itself_fits left Bo ftvl cs (Index i) h = refl
by_itself_fits left Bo ftvl cs _ h = absurd (false≢true h)
by_itself_fits left Mbbi ftvl cs (Index i) h = refl
by_itself_fits left Mbbi ftvl cs _ h = absurd (false≢true h)
by_itself_fits left Mbbo ftvl cs (Index i) h = refl
by_itself_fits left Mbbo ftvl cs _ h = absurd (false≢true h)
by_itself_fits left Stringin ftvl cs (Text t) h = refl
by_itself_fits left Stringin ftvl cs _ h = absurd (false≢true h)
by_itself_fits left Stringout ftvl cs (Text t) h = refl
by_itself_fits left Stringout ftvl cs _ h = absurd (false≢true h)
by_itself_fits left Waveform elements.Text cs (Texts ts) h = refl
by_itself_fits left Waveform elements.Text cs _ h = absurd (false≢true h)
by_itself_fits left Waveform elements.I8 cs (Nums ns) h = refl
by_itself_fits left Waveform elements.I8 cs _ h = absurd (false≢true h)
by_itself_fits left Waveform elements.U8 cs (Nums ns) h = refl
by_itself_fits left Waveform elements.U8 cs _ h = absurd (false≢true h)
by_itself_fits left Waveform elements.I16 cs (Nums ns) h = refl
by_itself_fits left Waveform elements.I16 cs _ h = absurd (false≢true h)
by_itself_fits left Waveform elements.U16 cs (Nums ns) h = refl
by_itself_fits left Waveform elements.U16 cs _ h = absurd (false≢true h)
by_itself_fits left Waveform elements.I32 cs (Nums ns) h = refl
by_itself_fits left Waveform elements.I32 cs _ h = absurd (false≢true h)
by_itself_fits left Waveform elements.U32 cs (Nums ns) h = refl
by_itself_fits left Waveform elements.U32 cs _ h = absurd (false≢true h)
by_itself_fits left Waveform elements.I64 cs (Nums ns) h = refl
by_itself_fits left Waveform elements.I64 cs _ h = absurd (false≢true h)
by_itself_fits left Waveform elements.U64 cs (Nums ns) h = refl
by_itself_fits left Waveform elements.U64 cs _ h = absurd (false≢true h)

pub is_by_itself : (config : Config) (d : Datum) → plain_shown config d ≡ by_itself config.kind config.ftvl config.choices d
is_by_itself config (Index i) = refl
is_by_itself config (Num n) = refl
is_by_itself config (Text t) = refl
is_by_itself config (Nums ns) = refl
is_by_itself config (Texts ts) = refl

plain_fits : (left : ℕ) (config : Config) (d : Datum) → is_of (sort_of config.kind config.ftvl) d ≡ true → fits_of left (plain_shown config d) (plain_tree config) ≡ true
plain_fits left config d h =
    ap (λ (v : Data). fits_of left v (plain_tree config)) (is_by_itself config d) ∙ by_itself_fits left config.kind config.ftvl config.choices d h

pub piece_fits : (p : Piece) (config : Config) (state : RecState) → IsValid config state → fits_of 16 (piece_shown p config state) (piece_tree p config) ≡ true
piece_fits pieces.Whole config state valid = shown_fits config state (shown config state) valid.sort refl
piece_fits pieces.Plain config state valid = plain_fits 16 config state.datum valid.sort
piece_fits pieces.Any config state valid = plain_fits 15 config state.datum valid.sort
piece_fits pieces.Meta config state valid = refl
piece_fits pieces.Alarm config state valid = refl
piece_fits pieces.Time config state valid = refl

pub source_fits : (states : List RecState) (s : Source) → HasState states s.link → fits_of 16 (source_shown states s) (source_tree s) ≡ true
source_fits states s h =
    elim (slice_get states s.link.rec) as (λ o. MatchOption o ⊥ (IsValid s.link.config) → fits_of 16 (shown_or_blank s o) (source_tree s) ≡ true) [
      | Some state ↦ λ valid. piece_fits s.piece s.link.config state valid
      | None ↦ λ none. absurd none
    ] h

both : (a b : Bool) → a ≡ true → b ≡ true → (a && b) ≡ true
both a b h k = ap (λ x. x && b) h ∙ k

mutual
  pub slot_fits : (states : List RecState) (t : Slot) → EachShown (λ s. HasState states s.link) t → fits_of 16 (slot_shown states t) (slot_tree t) ≡ true
  slot_fits states (shows s) h = source_fits states s h
  slot_fits states (level id ss) h = slots_fit states ss h

  pub slots_fit : (states : List RecState) (ss : Slots) → EachOfShown (λ s. HasState states s.link) ss → row_fits 16 (slots_shown states ss) (slot_fields ss) ≡ true
  slots_fit states no_slots h = refl
  slots_fit states (slot name s ss) h =
      both (fits_of 16 (slot_shown states s) (slot_tree s)) (row_fits 16 (slots_shown states ss) (slot_fields ss)) (slot_fits states s h.0) (slots_fit states ss h.1)
