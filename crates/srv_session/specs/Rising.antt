-- The ids of a session's monitors, which it keeps rising.
use Rattle.std.specs.Prelude.{◌≡◌, ◌==◌, ◌&&◌, ℕ, Bool, true, false, not, List, [], ◌∷◌, Option, None, Some, is_some, nat_lt, slice_get, if◌then◌else◌}
use Rattle.std.specs.FinMap.{get as at}
use Rattle.std.specs.List.{filter, list_all, list_any}
use Rattle.srv_session.specs.State.{Requests, Asked}

-- each is below those behind it
abbrev pub is_rising : List ℕ → Bool
is_rising [] = true
is_rising (id ∷ ids) = list_all (λ x. nat_lt id x) ids && is_rising ids

abbrev pub is_among : ℕ → List ℕ → Bool
is_among id ids = list_any (λ x. x == id) ids

abbrev pub is_same : ℕ → Option ℕ → Bool
is_same id None = false
is_same id (Some x) = x == id

-- whether it stands at this place
abbrev pub is_at : ℕ → ℕ → List ℕ → Bool
is_at id place ids = is_same id (slice_get ids place)

-- with one more, in its place, if it isn't there
abbrev pub with_id : ℕ → List ℕ → List ℕ
with_id id [] = id ∷ []
with_id id (x ∷ ids) =
    if nat_lt x id then x ∷ with_id id ids
    else if x == id then x ∷ ids
    else id ∷ x ∷ ids

abbrev pub without_id : ℕ → List ℕ → List ℕ
without_id id ids = filter (λ x. not (x == id)) ids

-- All requests that have subscriptions are among these.
abbrev pub AreListed : List ℕ → Requests → Type 0
AreListed ids requests = (req : ℕ) (ask : Asked) → at requests req ≡ Some ask → is_some ask.sub ≡ true → is_among req ids ≡ true
