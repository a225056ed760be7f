-- An option as code sees it.
use Rattle.std.specs.Prelude.{Option, option_map}
use Rattle.pvd_value.specs.Data.{Data}
use Rattle.pvd_value.specs.View.{view}
use Rattle.pvd_value.specs.declared.value.PvValue.{PvValue}
use denote.Ref.{Bor}

abbrev pub given_view : Option (Option (Bor PvValue)) → Option (Option Data)
given_view given = option_map (λ value. option_map (λ v. view v.now) value) given
