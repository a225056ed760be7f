-- The elements of a list that mostly has one.
use Rattle.std.specs.Prelude.{List}
use Rattle.journal_core.specs.declared.few.Held.{Held}
use Rattle.journal_core.specs.declared.few.Held.TheVariants.{One, Many}

abbrev pub elements : {T : Type 0} → Held T → List T
elements (One only) = only
elements (Many items) = items.items
