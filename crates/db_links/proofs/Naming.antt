-- Records by their names, from the last to the first.
use Rattle.std.proofs.Common.{◌≡◌, ℕ, ◌+◌, ◌<◌, cond, Option, Some, List, ◌∷◌, length, get_or, drop, refl, sym, ap, ◌∙◌, add-one}
use Rattle.std.proofs.Math.Seq.{drop-cons}
use Rattle.std.specs.Str.{bytes_eq}
use Rattle.rec_kinds.specs.declared.record_text.RecText.{RecText}
use Rattle.db_links.specs.Live.{number_from}

pub one_before : (rs : List RecText) (i : ℕ) (r : RecText) (name : List ℕ) (kept : Option ℕ) → i < length rs → get_or rs i r ≡ r
    → kept ≡ number_from (i + 1) (drop (i + 1) rs) name
    → cond (bytes_eq r.name name) (Some i) kept ≡ number_from i (drop i rs) name
one_before rs i r name kept within here e =
    let step : drop i rs ≡ r ∷ drop (i + 1) rs = rw (drop-cons rs i r within, add-one, here) refl in
    ap (cond (bytes_eq r.name name) (Some i)) e ∙ sym (ap (λ (xs : List RecText). number_from i xs name) step)
