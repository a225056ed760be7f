-- What is told of all records and groups.
use Rattle.std.specs.Prelude.{◌≡◌, ℕ, zero, suc, ◌+◌, ◌≤◌, List, [], ◌∷◌, ◌++◌, length, map, take, Option, Some, None, slice_get, option_map, refl}
use Rattle.std.specs.List.{range_with_len}
use Rattle.std.proofs.Common.{sym, ◌∙◌, ap, arith, drop}
use Rattle.std.proofs.lemmas.List.{take-map}
use Rattle.std.proofs.lemmas.Option.{none-some, slice_get-map}
use Rattle.group_view.specs.Groups.{GroupData}
use Rattle.rec_kinds.specs.declared.state.RecState.{RecState}
use Rattle.journal_core.proofs.Growing.{replayed_count}
use Rattle.desk_api.proofs.Stating.{next_taken}
use Rattle.desk_api.specs.History.{History, commits, state_at}
use Rattle.desk_api.specs.Marks.{IsTrueRead}
use Rattle.desk_api.specs.Sites.{all_records, channel_of}
use Rattle.desk_api.specs.declared.channel.ChannelKind.TheVariants.{Service}
use Rattle.desk_api.specs.Calls.{row_shown, rows_shown}
use Rattle.desk_api.specs.declared.rows.RecRow.{RecRow}

abbrev pub name_of : GroupData → List ℕ
name_of group = group.name

-- the names of groups, and of one more
pub next_named : (groups : List GroupData) (n : ℕ) (name : List ℕ) → option_map name_of (slice_get groups n) ≡ Some name
    → map name_of (take (n + 1) groups) ≡ map name_of (take n groups) ++ name ∷ []
next_named groups n name is =
    sym (take-map name_of (n + 1) groups)
    ∙ next_taken (map name_of groups) n name (slice_get-map name_of groups n ∙ is)
    ∙ ap (λ (l : List (List ℕ)). l ++ name ∷ []) (take-map name_of n groups)

-- the rows of records, and of one more

row_after : (names : List (List ℕ)) (states : List RecState) (n : ℕ) (name : List ℕ) (state : RecState) → slice_get names n ≡ Some name → slice_get states n ≡ Some state
    → rows_shown (take (suc n) names) (take (suc n) states) ≡ rows_shown (take n names) (take n states) ++ row_shown name state ∷ []
row_after [] states n name state is there = absurd (none-some name is)
row_after (x ∷ names) [] n name state is there = absurd (none-some state there)
row_after (x ∷ names) (s ∷ states) zero name state is there =
    let named : x ≡ name = cc in
    let found : s ≡ state = cc in
    λ i. row_shown (named i) (found i) ∷ []
row_after (x ∷ names) (s ∷ states) (suc n) name state is there = ap (λ (l : List RecRow). row_shown x s ∷ l) (row_after names states n name state is there)

pub next_row : (names : List (List ℕ)) (states : List RecState) (n : ℕ) (name : List ℕ) (state : RecState) → slice_get names n ≡ Some name → slice_get states n ≡ Some state
    → rows_shown (take (n + 1) names) (take (n + 1) states) ≡ rows_shown (take n names) (take n states) ++ row_shown name state ∷ []
next_row names states n name state is there =
    let next : n + 1 ≡ suc n = omega arith in
    ap (λ (m : ℕ). rows_shown (take m names) (take m states)) next ∙ row_after names states n name state is there

-- ---- a look at all records

abbrev got : List RecState → ℕ → Option RecState
got states rec = slice_get states rec

none_left : (states : List RecState) (k : ℕ) → length states ≤ k → drop k states ≡ []
none_left [] zero le = refl
none_left [] (suc k) le = refl
none_left (s ∷ states) zero le = absurd (omega (arith, le))
none_left (s ∷ states) (suc k) le = none_left states k (omega (arith, le))

first_left : (states : List RecState) (k : ℕ) → suc k ≤ length states → got states k ∷ map Some (drop (suc k) states) ≡ map Some (drop k states)
first_left [] k le = absurd (omega (arith, le))
first_left (s ∷ states) zero le = refl
first_left (s ∷ states) (suc k) le = first_left states k (omega (arith, le))

got_all : (states : List RecState) (n a : ℕ) → a + n ≡ length states → map (got states) (range_with_len a n) ≡ map Some (drop a states)
got_all states zero a whole = ap (map Some) (sym (none_left states a (omega (arith, whole))))
got_all states (suc n) a whole =
    let next : a + 1 ≡ suc a = omega arith in
    ap (λ (l : List (Option RecState)). got states a ∷ l) (got_all states n (a + 1) (omega (arith, whole)) ∙ ap (λ (k : ℕ). map Some (drop k states)) next)
    ∙ first_left states a (omega (arith, whole))

abbrev somes : List (Option RecState) → List RecState
somes [] = []
somes (None ∷ xs) = somes xs
somes (Some s ∷ xs) = s ∷ somes xs

all_somes : (states : List RecState) → somes (map Some states) ≡ states
all_somes [] = refl
all_somes (s ∷ states) = ap (λ (l : List RecState). s ∷ l) (all_somes states)

pub all_shown : (h : History) (at : ℕ) (found : List RecState) → length h.base.site.names ≡ length h.base.site.opening → IsTrueRead h at (channel_of Service 0) (all_records h.base.site) found → found ≡ state_at h at
all_shown h at found as_many t =
    let states = state_at h at in
    let count : 0 + length h.base.site.names ≡ length states = omega (arith, as_many, replayed_count h.base.site.opening (take at (commits h))) in
    sym (all_somes found) ∙ ap somes (t.found_is ∙ got_all states (length h.base.site.names) 0 count) ∙ all_somes states
