-- The part of a put, which is read where nothing else decides.
use Rattle.std.proofs.Common.{◌≡◌, ℕ, Bool, List, drop, length, Result, Ok, refl, sym, ◌∙◌, ap, subst}
use Rattle.std.specs.FinSet.{FinSet}
use Rattle.std.specs.Ordering.{nat_cmp}
use Rattle.pvd_type.specs.Tree.{Tree}
use Rattle.pvd_type.specs.declared.memory.NoMemory.{NoMemory}
use Rattle.pvd_value.specs.Data.{Data}
use Rattle.pvd_value.specs.Leaves.{marked_leaves}
use Rattle.pvd_desc.specs.Types.{Types}
use Rattle.pvd_codec.specs.Faults.{IsFaultOf}
use Rattle.pvd_codec.specs.Reading.{Read, State as Source, part_at}
use Rattle.pvd_codec.proofs.Holding.{marked_holds}
use Rattle.pva_frames.specs.declared.event.Whole.{Whole}
use Rattle.pva_messages.specs.Requests.{part_place}
use Rattle.pva_messages.specs.declared.fault.MessageFault.{MessageFault}
use Rattle.journal_core.specs.Moments.{Moment}
use Rattle.desk_api.specs.Types.{type_of, HoldsLeaves}
use Rattle.desk_api.specs.declared.channel.Channel.{Channel}
use Rattle.desk_api.specs.declared.history.SiteData.{SiteData}
use Rattle.desk_api.specs.declared.mark.Seat.{Seat}
use Rattle.srv_session.specs.State.{State, Asked}
use Rattle.srv_session.specs.Tasks.{Task, Hearing, asks, putting_as, heard_part, reading_part}
use Rattle.srv_session.specs.Steps.{knowing}
use Rattle.srv_session.specs.Calls.{Shown, Takes, Heeds}
use Rattle.srv_session.specs.Views.{stop_by, stopping}
use Rattle.srv_session.specs.declared.stop.SessionStop.{SessionStop}
use Rattle.srv_session.proofs.Rows.{shown}
use Rattle.srv_session.proofs.Heeding.{StopsAt, stops_at_fault, heeds_as, known_heeds}

module _ (gets : Bool) (site : SiteData) (whole : Whole) (before : Types) (req sub : ℕ) (found : Asked × Channel) (ty : Tree) (ty_is : ty ≡ type_of site found.1) where
  abbrev read : Read Source (FinSet nat_cmp × Data)
  read = part_at whole.order ty (drop part_place whole.payload, before)

  reads : reading_part gets site whole before req sub found ≡ heard_part gets whole req sub found read
  reads = ap (λ (t : Tree). heard_part gets whole req sub found (part_at whole.order t (drop part_place whole.payload, before))) (sym ty_is)

  pub part_read : (mask : FinSet nat_cmp) (value : Data) (rest : List ℕ) (after : Types) → read ≡ Ok ((mask, value), (rest, after))
      → reading_part gets site whole before req sub found ≡ asks (putting_as gets req sub found.0 found.1 mask value) after
  part_read mask value rest after read_is = reads ∙ ap (heard_part gets whole req sub found) read_is

  pub part_stops : (fault : MessageFault) → fault.command ≡ whole.command → IsFaultOf (length whole.payload) fault.cause read
      → StopsAt (stop_by fault) (reading_part gets site whole before req sub found)
  part_stops fault is f =
      subst (λ (h : Hearing). StopsAt (stop_by fault) h) (sym reads)
      (stops_at_fault whole (heard_part gets whole req sub found) (λ x. refl) fault read is f)

-- the part marks leaves of the type alone
pub holds_leaves : (ty channel_ty : Tree) (mask : FinSet nat_cmp) (bits : FinSet nat_cmp) → ty ≡ channel_ty → mask ≡ marked_leaves ty bits → HoldsLeaves channel_ty mask
holds_leaves ty channel_ty mask bits ty_is is =
    subst (λ (t : Tree). HoldsLeaves t mask) ty_is (subst (λ (m : FinSet nat_cmp). HoldsLeaves ty m) (sym is) (marked_holds ty bits))

-- what was asked once more types were known
pub heeds_later : (seat : Seat) (s : State) (out : List ℕ) (new : Shown) (moment : Moment) (types : Types) (task : Task) (answer : Result (Unit {0}) NoMemory) (result : Result (Unit {0}) SessionStop)
    → result ≡ stopping answer → Takes (shown seat (knowing s types) out) new moment task answer → Heeds (shown seat s out) new moment (asks task types) result
heeds_later seat s out new moment types task answer result is t =
    known_heeds seat s out new moment types (asks task types) result (heeds_as (shown seat (knowing s types) out) new moment task answer result is t)
