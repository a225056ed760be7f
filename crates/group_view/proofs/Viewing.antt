-- What slots show, one after another.
use Rattle.std.proofs.Common.{◌≡◌, ℕ, ◌+◌, ◌<◌, List, [], ◌∷◌, ◌++◌, length, get_or, drop, ap, ◌∙◌}
use Rattle.pvd_value.specs.Data.{Data, Row, more}
use Rattle.pvd_value.specs.View.{view, row_view}
use Rattle.pvd_value.specs.declared.value.PvValue.{PvValue}
use Rattle.pvd_value.proofs.Rows.{joined, joined_push}
use Rattle.rec_kinds.specs.declared.state.RecState.{RecState}
use Rattle.group_view.specs.Seen.{branch_seen, slots_seen}
use Rattle.group_view.specs.Slots.{EachShown, EachOfShown}
use Rattle.group_view.specs.Views.{slot_shown, slots_shown}
use Rattle.group_view.specs.Sources.{Source}
use Rattle.group_view.specs.declared.slots.Named.{Named}
use Rattle.group_view.proofs.Walks.{slots_from}

module _ (P : Source → Type 0) (ns : List Named) (i : ℕ) (n : Named) (within : i < length ns) (here : get_or ns i n ≡ n) where
  pub first_ready : EachOfShown P (slots_seen (drop i ns)) → EachShown P (branch_seen n.branch)
  first_ready h = (rw (slots_from ns i n within here) at h).0

  pub rest_ready : EachOfShown P (slots_seen (drop i ns)) → EachOfShown P (slots_seen (drop (i + 1) ns))
  rest_ready h = (rw (slots_from ns i n within here) at h).1

module _ (states : List RecState) (ns : List Named) (i : ℕ) (n : Named) (within : i < length ns) (here : get_or ns i n ≡ n) where
  pub values_more : (vs after : List PvValue) (v : PvValue) (whole : Row) → after ≡ vs ++ v ∷ [] → view v ≡ slot_shown states (branch_seen n.branch)
      → joined (row_view vs) (slots_shown states (slots_seen (drop i ns))) ≡ whole → joined (row_view after) (slots_shown states (slots_seen (drop (i + 1) ns))) ≡ whole
  values_more vs after v whole is made so_far =
      let rest = slots_shown states (slots_seen (drop (i + 1) ns)) in
      ap (λ (xs : List PvValue). joined (row_view xs) rest) is
      ∙ joined_push vs v rest
      ∙ ap (λ (d : Data). joined (row_view vs) (more d rest)) made
      ∙ (rw (slots_from ns i n within here) at so_far)
