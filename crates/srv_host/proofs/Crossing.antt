-- A desk on a pass, the pass itself, and what else a session is served with may go to another thread; and threads may share what tells
-- their ends.
use mir.Syntax.{Sym}
use denote.Ref.{NamedLft}
use denote.Struct.Declared.{shape}
use denote.Struct.Field.{shr_ref_field, u64-field}
use denote.Struct.Struct.{Struct}
use denote.Struct.Tuple.{TupleAt, type_at}
use denote.RattleType.{RattleType}
use denote.Param.Send.{IsSend, IsSync, AllSend, recorded_send, shr_send, struct_send, sendable}
use denote.Param.SendFields.{declared_send, variants_send, as_row_send}
use Rattle.std.proofs.Common.{List, [], ◌∷◌}
use Rattle.std.proofs.Crossing.{crosses, send as heap_send}
use Rattle.std.specs.contracts.option.Option as Option
use Rattle.hall_core.specs.declared.law.Law.{Ghosts}
use Rattle.hall_locks.specs.contracts.hall.Hall as Hall
use Rattle.hall_locks.specs.contracts.pass.Pass as Pass
use Rattle.hall_locks.proofs.hall.Hall.TheSendSync as hall
use Rattle.hall_locks.proofs.pass.Pass.TheSendSync as pass
use Rattle.journal_core.specs.contracts.entry.Entry as Entry
use Rattle.mon_shown.specs.contracts.roll.RollItem as RollItem
use Rattle.desk_api.specs.contracts.channel.Channel as Channel
use Rattle.desk_api.specs.contracts.history.Base as Base
use Rattle.desk_api.specs.contracts.mark.Mark as Mark
use Rattle.desk_api.specs.contracts.site.Site as Site
use Rattle.desk_core.specs.contracts.cells.Cells as Cells
use Rattle.pva_outside.specs.declared.port.Port as Port
use Rattle.rec_kinds.specs.contracts.state.RecState as RecState
use Rattle.rec_kinds.proofs.state.RecState.TheSendSync as state
use Rattle.desk_api.proofs.Crossing.{site_sync}
use Rattle.desk_core.proofs.cells.Cells.TheSendSync as cells
use Rattle.desk_shared.proofs.Crossing.{books_send}
use Rattle.desk_shared.proofs.lent.LentPort.TheSendSync as lent
use Rattle.desk_shared.proofs.records.RecCell.TheSendSync as cell
use Rattle.desk_shared.specs.contracts.books.Books as Books
use Rattle.desk_shared.specs.contracts.records.RecCell as RecCell
use Rattle.desk_shared.specs.contracts.lent.LentPort as LentPort
use Rattle.desk_shared.specs.contracts.records.Records as Records
use Rattle.desk_shared.specs.contracts.records.RecordsLaw.TheImpl as law
use Rattle.desk_shared.specs.contracts.shared.SharedDesk as SharedDesk
use Rattle.desk_shared.specs.declared.home.Home as Home
use Rattle.pva_wire.proofs.order.Order.TheSendSync as order
use Rattle.srv_host.specs.contracts.endings.Endings as Endings
use Rattle.srv_host.specs.contracts.session.Means as Means

cell_send : (P : RattleType) → IsSend P → IsSend (RecCell.the_row P)
cell_send P s = cell.the_send P s

lent_send : (P : RattleType) → IsSend P → IsSend (LentPort.the_row P)
lent_send P s = lent.the_send P s

abbrev pass_row : RattleType → RattleType
pass_row P = Pass.the_row (Records.the_row P) (RecCell.the_row P) Books.the_row Entry.the_row Base.the_row (Option.the_row RecState.the_row) Mark.the_row (RollItem.the_row Channel.the_row) (law.ghosts P law.no_dict)

abbrev hall_row : RattleType → RattleType
hall_row P = Hall.the_row (Records.the_row P) (RecCell.the_row P) Books.the_row Entry.the_row Base.the_row (Option.the_row RecState.the_row) Mark.the_row (RollItem.the_row Channel.the_row) (law.ghosts P law.no_dict)

pub pass_send : (P : RattleType) → IsSend P → IsSend (pass_row P)
pass_send P s = pass.the_send (Records.the_row P) (RecCell.the_row P) Books.the_row Entry.the_row Base.the_row (Option.the_row RecState.the_row) Mark.the_row (RollItem.the_row Channel.the_row) (law.ghosts P law.no_dict) (cell_send P s) books_send

hall_sync : (P : RattleType) → IsSend P → IsSync (hall_row P)
hall_sync P s = hall.the_sync (Records.the_row P) (RecCell.the_row P) Books.the_row Entry.the_row Base.the_row (Option.the_row RecState.the_row) Mark.the_row (RollItem.the_row Channel.the_row) (law.ghosts P law.no_dict) (cell_send P s) books_send

option_send : (R : RattleType) → IsSend R → IsSend (Option.the_row R)
option_send R s = variants_send (Option.enum R) (search (s, sendable) depth 12)

pub desk_send : (P R K : RattleType) (p : Port.Ghosts P.Denot) (k : Home.Ghosts K.Denot) → IsSend P → IsSync R → (ℓ : NamedLft)
    → IsSend (SharedDesk.the_row ℓ R P (Records.the_row P) K (RecCell.the_row P) Books.the_row (Option.the_row RecState.the_row) p (law.ghosts P law.no_dict) k)
desk_send P R K p k ps rs ℓ = declared_send (SharedDesk.the_type ℓ R P (Records.the_row P) K (RecCell.the_row P) Books.the_row (Option.the_row RecState.the_row) p (law.ghosts P law.no_dict) k) (
  search (rs, shr_send, sendable) depth 12,
  (
    search (crosses, sendable) depth 20,
    (
      as_row_send (shr_ref_field ℓ (hall_row P) (tt {0})) (shr_send ℓ.mir ℓ.lft (hall_row P) (hall_sync P ps)),
      (
        as_row_send (shr_ref_field ℓ Site.the_row (tt {0})) (shr_send ℓ.mir ℓ.lft Site.the_row site_sync),
        (
          cells.the_send (LentPort.the_row P) (lent_send P ps),
          (
            option_send (pass_row P) (pass_send P ps),
            (search sendable depth 12, tt),
          ),
        ),
      ),
    ),
  ),
)

pub means_send : IsSend Means.the_row
means_send = search (heap_send, order.the_send, sendable) depth 20

pub endings_sync : IsSync Endings.the_row
endings_sync = search (crosses, sendable) depth 20

pub number_send : IsSend u64-field.row
number_send = search sendable depth 12

-- a closure that takes seven things along
pub taken_send : (ν : Sym) (A B C D E F G : RattleType) → IsSend A → IsSend B → IsSend C → IsSend D → IsSend E → IsSend F → IsSend G → IsSend (TupleAt ν (A ∷ B ∷ C ∷ D ∷ E ∷ F ∷ G ∷ []))
taken_send ν A B C D E F G a b c d e f g =
    let Ts : List RattleType = A ∷ B ∷ C ∷ D ∷ E ∷ F ∷ G ∷ [] in
    let all : AllSend Ts = (a, (b, (c, (d, (e, (f, (g, tt))))))) in
    recorded_send (Struct (shape (type_at ν Ts))) (type_at ν Ts).D (type_at ν Ts).to (type_at ν Ts).to_one (struct_send (shape (type_at ν Ts)) all)
