-- Records of a site, one more at a time.
use Rattle.std.specs.Prelude.{◌≡◌, ℕ, ◌+◌, false, IsTrue, List, [], ◌∷◌, ◌++◌, Option, None, Some, if◌then◌else◌}
use Rattle.std.specs.Prelude.{bytes_eq, ⊤}
use Rattle.rec_kinds.specs.Building.{config_of, opening_of}
use Rattle.rec_kinds.specs.Configs.{Config}
use Rattle.rec_kinds.specs.declared.record_text.RecText.{RecText}
use Rattle.rec_kinds.specs.declared.state.RecState.{RecState}
use Rattle.db_load.specs.Forms.{is_among}
use Rattle.db_load.specs.Loading.{FirstFaultOf}
use Rattle.db_text.specs.Macros.{Macros}
use Rattle.db_load.specs.declared.fault.LoadFault.{LoadFault}
use Rattle.db_load.specs.declared.fault.LoadFault.TheVariants as loads
use Rattle.desk_api.specs.Loading.{fault_in, first_fault}
use Rattle.group_view.specs.Groups.{GroupData}
use Rattle.desk_api.specs.Sites.{channel_of, is_record_name, site_of}
use Rattle.desk_api.specs.declared.channel.Channel.{Channel}
use Rattle.desk_api.specs.declared.channel.ChannelKind.{ChannelKind}
use Rattle.desk_api.specs.declared.fault.SiteFault.{SiteFault}
use Rattle.desk_api.specs.declared.fault.SiteFault.TheVariants.{Load, Build, Group, NoMemory}
use Rattle.desk_api.specs.declared.history.SiteData.{SiteData}

-- the site of these records alone, without a group
abbrev pub records_of : List RecText → SiteData
records_of records = site_of records []

-- the same records, with these groups
abbrev pub with_groups : SiteData → List GroupData → SiteData
with_groups site groups = record {
  names = site.names;
  configs = site.configs;
  opening = site.opening;
  groups = groups;
}

-- a site with one more record
abbrev pub with_one : SiteData → List ℕ → Config → RecState → SiteData
with_one site name config opening = record {
  names = site.names ++ name ∷ [];
  configs = site.configs ++ config ∷ [];
  opening = site.opening ++ opening ∷ [];
  groups = site.groups;
}

abbrev pub with_record : SiteData → RecText → SiteData
with_record site r = with_one site r.name (config_of r.kind r.fields) (opening_of r.kind r.fields)

-- why this record can't be built; want of memory is free
abbrev pub IsFaultIn : RecText → SiteFault → Type 0
IsFaultIn r (Build name fault) = fault_in r ≡ Some (name, fault)
IsFaultIn r (Load fault) = ⊥
IsFaultIn r (Group fault) = ⊥
IsFaultIn r NoMemory = ⊤

-- the first of the records that can't be built; want of memory is free
abbrev pub IsFirstFault : List RecText → SiteFault → Type 0
IsFirstFault records (Build name fault) = first_fault records ≡ Some (name, fault)
IsFirstFault records (Load fault) = ⊥
IsFirstFault records (Group fault) = ⊥
IsFirstFault records NoMemory = ⊤

-- Each record may have its name, which none before it has and none of these is.
abbrev pub AreNew : List (List ℕ) → List RecText → Type 0
AreNew taken [] = ⊤
AreNew taken (r ∷ records) =
    IsTrue (is_record_name r.name) × (is_among r.name taken ≡ false) × AreNew (r.name ∷ taken) records

-- why a site can't be built whose text can't be loaded
abbrev pub unloaded : LoadFault → SiteFault
unloaded loads.NoMemory = NoMemory
unloaded fault = Load fault

-- the text can't be loaded, for this reason; want of memory is free
abbrev pub IsLoadFault : Macros → List ℕ → SiteFault → Type 0
IsLoadFault macros text (Load loads.NoMemory) = ⊥
IsLoadFault macros text (Load fault) = FirstFaultOf macros text fault
IsLoadFault macros text (Build name fault) = ⊥
IsLoadFault macros text (Group fault) = ⊥
IsLoadFault macros text NoMemory = ⊤

-- the channel of this kind on the record of this name, of records of these names, which are counted from n
abbrev pub channel_at : ChannelKind → ℕ → List (List ℕ) → List ℕ → Option Channel
channel_at kind n [] name = None
channel_at kind n (x ∷ names) name =
    if bytes_eq name x then Some (channel_of kind n) else channel_at kind (n + 1) names name
