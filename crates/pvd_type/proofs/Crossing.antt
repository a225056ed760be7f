-- Shapes and types may go to another thread, and several may read one.
use denote.Param.Send.{IsSend, IsSync, sendable}
use Rattle.std.proofs.Crossing.{crosses}
use Rattle.pvd_type.specs.contracts.pv_type.PvType as PvType
use Rattle.pvd_type.specs.contracts.pv_type.Whole as Whole
use Rattle.pvd_type.specs.contracts.shape.Shape as Shape
use Rattle.pvd_type.proofs.name.Name.TheSendSync as name
use Rattle.pvd_type.proofs.shape.Scalar.TheSendSync as scalar
use Rattle.pvd_type.proofs.shape.Extent.TheSendSync as extent
use Rattle.pvd_type.proofs.shape.Shape.TheLaws.TheKnot as shapes

pub shape_send : IsSend Shape.the_row
shape_send = search (shapes.crosses_both, crosses, name.the_send, name.the_sync, scalar.the_field_send, extent.the_field_send, scalar.the_field_sync, extent.the_field_sync, sendable) depth 40 fits 10000

pub shape_sync : IsSync Shape.the_row
shape_sync = search (shapes.crosses_both, crosses, name.the_send, name.the_sync, scalar.the_field_send, extent.the_field_send, scalar.the_field_sync, extent.the_field_sync, sendable) depth 40 fits 10000

-- What a type shares with its copies holds its shape as a field.
whole_send : IsSend Whole.the_row
whole_send = search (shapes.crosses_both, crosses, name.the_send, name.the_sync, scalar.the_field_send, extent.the_field_send, scalar.the_field_sync, extent.the_field_sync, sendable) depth 40 fits 10000

whole_sync : IsSync Whole.the_row
whole_sync = search (shapes.crosses_both, crosses, name.the_send, name.the_sync, scalar.the_field_send, extent.the_field_send, scalar.the_field_sync, extent.the_field_sync, sendable) depth 40 fits 10000

pub type_send : IsSend PvType.the_row
type_send = search (whole_send, whole_sync, crosses, sendable) depth 40 fits 10000

pub type_sync : IsSync PvType.the_row
type_sync = search (whole_send, whole_sync, crosses, sendable) depth 40 fits 10000

-- The same of a type that is a field.
pub type_field_send : IsSend (PvType.the_field).row
type_field_send = search (whole_send, whole_sync, crosses, sendable) depth 40 fits 10000

pub type_field_sync : IsSync (PvType.the_field).row
type_field_sync = search (whole_send, whole_sync, crosses, sendable) depth 40 fits 10000
