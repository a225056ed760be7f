-- What `--check` prints.
use Rattle.std.specs.Prelude.{ℕ, List, ◌++◌, codes}
use Rattle.std.specs.Fmt.{decimal}
use Rattle.db_text.specs.declared.fault.TextFault.{TextFault}
use Rattle.db_text.specs.declared.fault.TextFault.TheVariants as texts
use Rattle.db_load.specs.declared.fault.LoadFault.{LoadFault}
use Rattle.db_load.specs.declared.fault.LoadFault.TheVariants as loads
use Rattle.rec_kinds.specs.declared.fault.BuildFault.{BuildFault}
use Rattle.rec_kinds.specs.declared.fault.BuildFault.TheVariants as builds
use Rattle.pvd_type.specs.declared.checking.TypeFault.{TypeFault}
use Rattle.pvd_type.specs.declared.checking.TypeFault.TheVariants as types
use Rattle.group_defs.specs.declared.fault.GroupFault.{GroupFault}
use Rattle.group_defs.specs.declared.fault.GroupFault.TheVariants as definitions
use Rattle.desk_api.specs.declared.fault.SiteFault.{SiteFault}
use Rattle.desk_api.specs.declared.fault.SiteFault.TheVariants as faults
use Rattle.prog_server.specs.declared.telling.Place.{Place as PlaceRead}

-- A fault by its line, 0 where it has none, and the name of its innermost variant.

abbrev pub place_told : PlaceRead → ℕ × List ℕ
place_told p = (p.line, p.name.now)

abbrev pub place_in_text : TextFault → ℕ × List ℕ
place_in_text (texts.BadToken line) = (line, codes "BadToken")
place_in_text (texts.OpenString line) = (line, codes "OpenString")
place_in_text (texts.UnknownMacro name line) = (line, codes "UnknownMacro")
place_in_text (texts.MacroDepth line) = (line, codes "MacroDepth")
place_in_text texts.NoMemory = (0, codes "NoMemory")

abbrev pub place_in_load : LoadFault → ℕ × List ℕ
place_in_load (loads.Text fault) = place_in_text fault
place_in_load (loads.SameRecord name line) = (line, codes "SameRecord")
place_in_load (loads.UnknownKind name line) = (line, codes "UnknownKind")
place_in_load (loads.UnknownField name line) = (line, codes "UnknownField")
place_in_load (loads.BadForm line) = (line, codes "BadForm")
place_in_load (loads.Count found) = (0, codes "Count")
place_in_load loads.NoMemory = (0, codes "NoMemory")

abbrev pub place_in_build : BuildFault → ℕ × List ℕ
place_in_build (builds.BadNumber field) = (field.line, codes "BadNumber")
place_in_build (builds.BadChoice field) = (field.line, codes "BadChoice")
place_in_build (builds.BadLength field) = (field.line, codes "BadLength")
place_in_build (builds.BadPort field) = (field.line, codes "BadPort")
place_in_build builds.NoMemory = (0, codes "NoMemory")

-- A group's fault has no line.

abbrev pub place_in_type : TypeFault → ℕ × List ℕ
place_in_type types.TooDeep = (0, codes "TooDeep")
place_in_type types.TooMany = (0, codes "TooMany")
place_in_type types.EmptyName = (0, codes "EmptyName")
place_in_type types.SameName = (0, codes "SameName")
place_in_type types.NoMemory = (0, codes "NoMemory")

abbrev pub place_in_group : GroupFault → ℕ × List ℕ
place_in_group (definitions.BadJson name) = (0, codes "BadJson")
place_in_group (definitions.UnknownKey name) = (0, codes "UnknownKey")
place_in_group (definitions.SameMember name) = (0, codes "SameMember")
place_in_group (definitions.UnknownTrigger name) = (0, codes "UnknownTrigger")
place_in_group (definitions.NameTaken name) = (0, codes "NameTaken")
place_in_group (definitions.BadMember name) = (0, codes "BadMember")
place_in_group (definitions.Shape fault) = place_in_type fault
place_in_group (definitions.TooMany found) = (0, codes "TooMany")
place_in_group definitions.NoMemory = (0, codes "NoMemory")

abbrev pub place_of : SiteFault → ℕ × List ℕ
place_of (faults.Load fault) = place_in_load fault
place_of (faults.Build name fault) = place_in_build fault
place_of (faults.Group fault) = place_in_group fault
place_of faults.NoMemory = (0, codes "NoMemory")

-- the line about a site of so many records and groups
abbrev pub counts_line : ℕ → ℕ → List ℕ
counts_line records groups = decimal records ++ (codes " records, " ++ (decimal groups ++ codes " groups\n"))

-- the line about a fault
abbrev pub fault_line : SiteFault → List ℕ
fault_line fault = codes "line " ++ (decimal (place_of fault).0 ++ (codes ": " ++ ((place_of fault).1 ++ codes "\n")))
