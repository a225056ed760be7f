-- What gets of a desk on a pass add.
use Rattle.std.proofs.Common.{◌≡◌, ℕ, suc, Bool, true, false, List, [], ◌∷◌, length, Option, Some, Ok, refl, sym, ◌∙◌, ap, subst, arith}
use Rattle.std.specs.List.{slice_get}
use Rattle.std.proofs.lemmas.Bool.{false≢true}
use Rattle.pvd_value.specs.View.{view}
use Rattle.pvd_value.specs.declared.value.PvValue.{PvValue}
use Rattle.rec_kinds.specs.Configs.{Config}
use Rattle.rec_kinds.specs.Validity.{IsValid}
use Rattle.rec_kinds.specs.declared.state.RecState.{RecState}
use Rattle.hall_locks.specs.Hands.{MayLook}
use Rattle.journal_core.specs.Legality.{AreValid}
use Rattle.journal_core.proofs.Keeping.{valid_at}
use Rattle.desk_api.specs.Calls.{Adds, AreFindings, AreGet, AreLooks, EndsAtLastMark, laid_by, looks_by, looks_of, now, with_mark}
use Rattle.desk_api.specs.History.{IsLegal, state_at}
use Rattle.desk_api.specs.Marks.{IsLookOf}
use Rattle.desk_api.specs.Sites.{footprint_of, is_atomic}
use Rattle.desk_api.specs.Views.{AreStatesOf, value_of}
use Rattle.desk_api.specs.declared.channel.Channel.{Channel}
use Rattle.desk_api.specs.declared.history.SiteData.{SiteData}
use Rattle.desk_api.specs.declared.mark.Mark.{Mark}
use Rattle.desk_api.specs.declared.mark.Mark.TheVariants.{Read}
use Rattle.desk_api.specs.declared.mark.Seat.{Seat}
use Rattle.desk_core.proofs.Marking.{looks, looks_end}
use Rattle.desk_core.proofs.Reading.{shows_at_once, whole_wanted}
use Rattle.desk_hub.proofs.Logs.{marked}
use Rattle.desk_shared.specs.Exchanges.{AreExchanged}
use Rattle.desk_shared.specs.Hands.{states_of, HasHub}
use Rattle.desk_shared.specs.Records.{Sight, records, seat_of}
use Rattle.desk_shared.specs.declared.books.Books.{Books}
use Rattle.desk_shared.specs.declared.records.RecCell.{RecCell}
use Rattle.desk_shared.proofs.Listed.{among, each_from_states, place_among}
use Rattle.desk_shared.proofs.Marked.{is_entry, may_look_aside}

-- ---- states that are valid

valid_from_each : (configs : List Config) (states : List RecState) → length configs ≡ length states
    → ((n : ℕ) (config : Config) (s : RecState) → slice_get configs n ≡ Some config → slice_get states n ≡ Some s → IsValid config s) → AreValid configs states
valid_from_each [] [] many each = tt
valid_from_each [] (s ∷ states) many each = absurd (omega (arith, many))
valid_from_each (c ∷ configs) [] many each = absurd (omega (arith, many))
valid_from_each (c ∷ configs) (s ∷ states) many each = (each 0 c s refl refl, valid_from_each configs states (omega (arith, many)) (λ n config state a b. each (suc n) config state a b))

valid_count : (configs : List Config) (states : List RecState) → AreValid configs states → length configs ≡ length states
valid_count [] [] v = refl
valid_count [] (s ∷ states) v = absurd v
valid_count (c ∷ configs) [] v = absurd v
valid_count (c ∷ configs) (s ∷ states) v = ap suc (valid_count configs states v.1)

-- valid states at these records, and at all others those of the opening
pub valid_exchanged : (configs : List Config) (opening : List RecState) → AreValid configs opening → (recs : List ℕ) (hand more mixed : List RecState) → AreExchanged recs hand more opening mixed
    → ((j r : ℕ) (config : Config) (s : RecState) → slice_get recs j ≡ Some r → slice_get hand j ≡ Some s → slice_get configs r ≡ Some config → IsValid config s) → AreValid configs mixed
valid_exchanged configs opening valid recs hand more mixed x each =
    valid_from_each configs mixed (valid_count configs opening valid ∙ sym x.long) (λ n config s a b. at_place n config s a b (among recs n) refl)
  where
    at_place : (n : ℕ) (config : Config) (s : RecState) → slice_get configs n ≡ Some config → slice_get mixed n ≡ Some s → (b : Bool) → among recs n ≡ b → IsValid config s
    at_place n config s a b true is =
        let p = place_among recs n is in
        each p.0 n config s p.1 (each_from_states mixed recs hand x.given p.0 n p.1 ∙ b) a
    at_place n config s a b false is = valid_at configs opening n config s valid a (sym (x.others n is) ∙ b)

-- ---- a look with the records in hand

-- a look at these records is true, and keeps what is kept
module _ {P : Type 0} where
  pub may_read : (v : Sight) (hub : Books) (recs : List ℕ) (states : List RecState) (cells : List (RecCell P)) (channel : Channel) → HasHub v hub recs states → states_of cells ≡ states → IsLookOf v.seen.base.site channel recs
      → MayLook (records {P = P}) v hub cells (Some (Read (now (seat_of v)) channel recs (states_of cells)))
  may_read v hub recs states cells channel x same is =
      may_look_aside (λ h subs seat log mark aside k. marked h subs seat log k mark aside) v hub hub recs states cells (Read (now (seat_of v)) channel recs (states_of cells)) x same refl refl
      (λ k log kept. kept) refl (λ e. false≢true (ap is_entry e)) (λ slot o. refl) (record {
        within = omega arith;
        footprint_is = is;
        found_is = subst (AreStatesOf (state_at v.seen (now (seat_of v))) recs) (sym same) x.finds;
      })

module _ (s t : Seat) (channel : Channel) (recs : List ℕ) (found : List RecState) (noted : t ≡ with_mark s (λ at. Read at channel recs found)) where
  abbrev read : ℕ → Mark
  read at = Read at channel recs found

  pub read_adds : IsLegal s.seen → IsLookOf s.seen.base.site channel recs → AreStatesOf (state_at s.seen (now s)) recs found → Adds s t (Read (now s) channel recs found ∷ [])
  read_adds legal is are = subst (λ (z : Seat). Adds s z (read (now s) ∷ [])) (sym noted)
      (looks s read refl refl refl (record { within = omega arith; footprint_is = is; found_is = are }) legal)

  pub read_ends : EndsAtLastMark t
  read_ends = subst EndsAtLastMark (sym noted) (looks_end s read refl refl)

-- what a get's looks found shows what the channel shows of the states that they found
abbrev pub LooksShow : Type 0
LooksShow = (site : SiteData) (channel : Channel) (atomic : Option Bool) (states : List RecState) (marks : List Mark) → length site.opening ≡ length states → AreFindings states channel (looks_of site channel atomic) marks
    → value_of site channel (laid_by site.opening marks) ≡ value_of site channel states

-- a get at one place
pub got_at_once : LooksShow → (site : SiteData) (channel : Channel) (atomic : Option Bool) → is_atomic site channel atomic ≡ true → (mixed found : List RecState) → length site.opening ≡ length mixed → AreStatesOf mixed (footprint_of site channel) found
    → (value : PvValue) → view value ≡ value_of site channel mixed → (at : ℕ) → AreGet site channel atomic (Ok value) (Read at channel (footprint_of site channel) found ∷ [])
got_at_once shows site channel atomic whole mixed found long are value is at = record {
  looks = subst (λ (w : Bool). AreLooks channel (looks_by w (footprint_of site channel)) (Read at channel (footprint_of site channel) found ∷ [])) (sym whole) ((at, (found, refl)), tt);
  value_is = is ∙ sym (shows_at_once shows site channel (Some true) mixed found (whole_wanted site channel) long are);
}
