-- A hall that is none, and what begins no history.
use Rattle.std.specs.Prelude.{[]}
use Rattle.atomic_table.specs.Seated.{TableId}
use Rattle.desk_api.specs.declared.history.Base.{Base}

abbrev pub nowhere : TableId
nowhere = record { words = 0; slots = 0; views_name = 0; atom = 0; block = 0; offset = 0; slot_names = [] }

abbrev pub no_base : Base
no_base = record { site = record { names = []; configs = []; opening = []; groups = [] }; limit = 0 }
