-- What building a site from a database text answers.
use Rattle.std.specs.Prelude.{◌≡◌, ℕ, List, [], ◌∷◌, map, Option, None, Some, Result, Ok, Err, ⊤}
use Rattle.std.specs.Option.{option_or, option_map}
use Rattle.db_text.specs.Macros.{Macros}
use Rattle.db_load.specs.Loading.{RecordsOf, FirstFaultOf}
use Rattle.db_load.specs.declared.fault.LoadFault.TheVariants as loads
use Rattle.rec_kinds.specs.Building.{build_fault}
use Rattle.rec_kinds.specs.Configs.{Config}
use Rattle.rec_kinds.specs.declared.fault.BuildFault.{BuildFault}
use Rattle.rec_kinds.specs.declared.record_text.RecText.{RecText}
use Rattle.group_defs.specs.Checking.{defined}
use Rattle.group_defs.specs.Told.{◌>>=◌}
use Rattle.group_defs.specs.declared.def.GroupDef.{GroupDef}
use Rattle.group_defs.specs.declared.fault.GroupFault.{GroupFault}
use Rattle.group_defs.specs.declared.fault.GroupFault.TheVariants as faults
use Rattle.group_view.specs.Faults.{group_fault}
use Rattle.group_view.specs.Groups.{GroupData, group_of}
use Rattle.desk_api.specs.Sites.{configs_of, site_of}
use Rattle.desk_api.specs.declared.fault.SiteFault.{SiteFault}
use Rattle.desk_api.specs.declared.fault.SiteFault.TheVariants.{Load, Build, Group, NoMemory}
use Rattle.desk_api.specs.declared.history.SiteData.{SiteData}

-- why this record can't be built, with its name
abbrev pub fault_in : RecText → Option (List ℕ × BuildFault)
fault_in r = option_map (λ fault. (r.name, fault)) (build_fault r.kind r.fields)

-- the first of these records that can't be built, and why
abbrev pub first_fault : List RecText → Option (List ℕ × BuildFault)
first_fault [] = None
first_fault (r ∷ records) = option_or (fault_in r) (first_fault records)

-- why the first of these groups can't be built that can't
abbrev pub first_group_fault : List GroupData → Option GroupFault
first_group_fault [] = None
first_group_fault (group ∷ groups) = option_or (group_fault group) (first_group_fault groups)

abbrev pub unless_faulty : Option GroupFault → List GroupData → Result (List GroupData) GroupFault
unless_faulty None groups = Ok groups
unless_faulty (Some fault) groups = Err fault

-- The groups of these definitions over records of these configurations, or the fault of the first that can't be built.
abbrev pub built_over : List Config → List GroupDef → Result (List GroupData) GroupFault
built_over configs defs = unless_faulty (first_group_fault (map (group_of configs) defs)) (map (group_of configs) defs)

-- The groups that these records define, or the first fault: of their texts, and then of the groups in order (QSRV
-- manual, "Group PV definitions").
abbrev pub groups_of : List RecText → Result (List GroupData) GroupFault
groups_of records = defined records >>= built_over (configs_of records)

-- The text has these records, all of which can be built, with these groups, and the site is theirs.
pub record IsBuilt (macros : Macros) (text : List ℕ) (site : SiteData) : Type 0 where
  pub records : List RecText
  pub groups : List GroupData
  pub loaded : RecordsOf macros text records
  pub faultless : first_fault records ≡ None
  pub grouped : groups_of records ≡ Ok groups
  pub site_is : site ≡ site_of records groups

-- The text has records, the first of which that can't be built is the one of this name, for this reason.
pub record IsUnbuilt (macros : Macros) (text : List ℕ) (name : List ℕ) (fault : BuildFault) : Type 0 where
  pub records : List RecText
  pub loaded : RecordsOf macros text records
  pub fault_is : first_fault records ≡ Some (name, fault)

-- The text has records that can all be built, and their groups have this first fault.
pub record IsUngrouped (macros : Macros) (text : List ℕ) (fault : GroupFault) : Type 0 where
  pub records : List RecText
  pub loaded : RecordsOf macros text records
  pub faultless : first_fault records ≡ None
  pub fault_is : groups_of records ≡ Err fault

-- The site that a text with these macros gives, or its first fault: that of the text, then of its records in order,
-- then of its groups. Want of memory has an answer of its own, and is free.
abbrev pub Builds : Macros → List ℕ → Result SiteData SiteFault → Type 0
Builds macros text (Ok site) = IsBuilt macros text site
Builds macros text (Err (Group faults.NoMemory)) = ⊥
Builds macros text (Err (Group fault)) = IsUngrouped macros text fault
Builds macros text (Err (Load loads.NoMemory)) = ⊥
Builds macros text (Err (Load fault)) = FirstFaultOf macros text fault
Builds macros text (Err (Build name fault)) = IsUnbuilt macros text name fault
Builds macros text (Err NoMemory) = ⊤
