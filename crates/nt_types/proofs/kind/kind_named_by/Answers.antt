use Rattle.std.proofs.Common.{Some, refl}
use Rattle.nt_types.proofs.Names.{past}
use Rattle.nt_types.specs.declared.kind.NtKind.TheVariants.{NtScalar, NtScalarArray, NtEnum, NtTable, NtUri}
use Rattle.nt_types.proofs.kind.kind_named_by.Goals as goal

pub returns-in_default : goal.returns-in_default
returns-in_default c =
    let d = c.in_default in
    past (Some NtScalar) d.not-text (past (Some NtScalarArray) d.not-text-2 (past (Some NtEnum) d.not-text-3
    (past (Some NtTable) d.not-text-4 (past (Some NtUri) d.not-text-5 refl))))
