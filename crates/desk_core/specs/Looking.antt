-- What the looks of a get leave, on a desk that nobody shares.
use Rattle.std.specs.Prelude.{ℕ, List}
use Rattle.std.specs.List.{fold}
use Rattle.rec_kinds.specs.declared.state.RecState.{RecState}
use Rattle.desk_api.specs.Calls.{with_mark}
use Rattle.desk_api.specs.Views.{found_in}
use Rattle.desk_api.specs.declared.channel.Channel.{Channel}
use Rattle.desk_api.specs.declared.mark.Mark.{Mark}
use Rattle.desk_api.specs.declared.mark.Mark.TheVariants.{Read}
use Rattle.desk_api.specs.declared.mark.Seat.{Seat}

-- a look at these records, which finds them as they are, as a mark by its place
abbrev pub look_of : Channel → List RecState → List ℕ → ℕ → Mark
look_of channel cells recs at = Read at channel recs (found_in cells recs)

abbrev pub looked : Channel → List RecState → Seat → List ℕ → Seat
looked channel cells s recs = with_mark s (look_of channel cells recs)

-- The seat after these looks, each at the place where the seat then is.
abbrev pub looked_by : Channel → List RecState → Seat → List (List ℕ) → Seat
looked_by channel cells s looks = fold (looked channel cells) s looks
