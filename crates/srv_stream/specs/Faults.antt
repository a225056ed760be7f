-- The first fault of a connection, told by the link itself (pvAccess Protocol Specification, "Connection Management").
use Rattle.std.specs.Prelude.{◌≡◌, ⊤}
use Rattle.pva_outside.specs.Wire.{Wire, Failed}
use Rattle.srv_stream.specs.declared.ended.Ended.{Ended}
use Rattle.srv_stream.specs.declared.ended.Ended.TheVariants as ends

-- A link that the connection met before it had counted any fault, and from which one call, which failed, led to the
-- end.
pub record FirstFault {L : Type 0} (wire : L → Wire) (start end : L) : Type 0 where
  pub before : L
  pub faults : (wire before).faults ≡ (wire start).faults
  pub call : Failed (wire before) (wire end)

-- A connection over a link of any kind, which ended for a failed read or write, ended at the first fault. Since nothing
-- is known of the kind, the link that is named is one of this connection.
abbrev pub EndsAtFirstFault : {L : Type 0} → (L → Wire) → L → L → Ended → Type 0
EndsAtFirstFault wire start end ends.ReadFault = FirstFault wire start end
EndsAtFirstFault wire start end ends.WriteFault = FirstFault wire start end
EndsAtFirstFault wire start end other = ⊤
