-- Why names make no type: the first fault of the tree, or want of memory.
use Rattle.std.specs.Prelude.{◌≡◌, ⊤, Some}
use Rattle.pvd_type.specs.Check.{type_fault}
use Rattle.pvd_type.specs.Tree.{Tree}
use Rattle.pvd_type.specs.declared.checking.TypeFault.{TypeFault}
use Rattle.pvd_type.specs.declared.checking.TypeFault.TheVariants.{NoMemory}

abbrev pub IsFirstFault : Tree → TypeFault → Type 0
IsFirstFault t NoMemory = ⊤
IsFirstFault t f = type_fault t ≡ Some f
