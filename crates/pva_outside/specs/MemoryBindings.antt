-- What is known of where an object in memory was bound.
use Rattle.std.specs.Prelude.{[], None}
use Rattle.pva_outside.specs.Bindings.{Bindings}
use Rattle.pva_outside.specs.declared.binding.MemoryBindings.{MemoryBindings}

abbrev pub memory_bindings : MemoryBindings → Bindings
memory_bindings b = record { asked = b.asked.items; bound = b.bound }

-- before the first call
abbrev pub no_bindings : Bindings
no_bindings = record { asked = []; bound = None }
