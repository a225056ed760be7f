-- What becomes of SOURCE: its site, with the ports of its records.
use Rattle.std.specs.Prelude.{◌≡◌, ◌⊎◌, ℕ, ℤ, ◌+◌, List, [], ◌∷◌, ◌++◌, take, Option, None, Some, option_map, Result, Ok, Err, ⊤, ◌==◌, count_by, IsUtf8}
use Rattle.std.specs.List.{filter_map}
use Rattle.std.specs.Str.{IsValidUpTo}
use Rattle.pva_outside.specs.Count.{Rose}
use Rattle.pva_outside.specs.Files.{FilesView, HasRead, HasFailed}
use Rattle.pva_outside.specs.Makers.{MakerView}
use Rattle.db_text.specs.Macros.{Macros}
use Rattle.db_text.specs.declared.fault.TextFault.TheVariants as texts
use Rattle.db_load.specs.declared.fault.LoadFault.TheVariants as loads
use Rattle.rec_kinds.specs.Configs.{Config}
use Rattle.desk_api.specs.Loading.{Builds}
use Rattle.desk_api.specs.Sites as sites
use Rattle.desk_api.specs.declared.fault.SiteFault.{SiteFault}
use Rattle.desk_api.specs.declared.fault.SiteFault.TheVariants as faults
use Rattle.desk_api.specs.declared.history.SiteData.{SiteData}
use Rattle.prog_source.specs.Words.{Source, single, file}
use Rattle.prog_source.specs.declared.loading.SourceStop.{SourceStop}
use Rattle.prog_source.specs.declared.loading.SourceStop.TheVariants.{Unread, Fault, NoMemory}
use Rattle.prog_source.specs.declared.ports.PortsStop.{PortsStop}
use Rattle.prog_source.specs.declared.ports.PortsStop.TheVariants as unmade

-- the line on which the next byte stands, behind these
abbrev pub line_after : List ℕ → ℕ
line_after bytes = count_by (λ b. b == 10) bytes + 1

-- the fault of bytes of which so many are UTF-8, and no more
abbrev pub bad_byte : List ℕ → ℕ → SiteFault
bad_byte bytes at = faults.Load (loads.Text (texts.BadToken (line_after (take at bytes))))

-- The bytes are no UTF-8, and are at fault on the line of the first byte that isn't.
pub record IsNoText (bytes : List ℕ) (fault : SiteFault) : Type 0 where
  pub at : ℕ
  pub valid : IsValidUpTo bytes at
  pub fault_is : fault ≡ bad_byte bytes at

-- The bytes are UTF-8, and as a database text have this fault.
pub record IsBadText (macros : Macros) (bytes : List ℕ) (fault : SiteFault) : Type 0 where
  pub utf8 : IsUtf8 bytes
  pub builds : Builds macros bytes (Err fault)

-- the site of the bytes of a database text
pub record IsSiteOf (macros : Macros) (bytes : List ℕ) (site : SiteData) : Type 0 where
  pub utf8 : IsUtf8 bytes
  pub builds : Builds macros bytes (Ok site)

-- The bytes of a database text have this fault: of their UTF-8, or of their text. Want of memory is none.
abbrev pub BytesFail : Macros → List ℕ → SiteFault → Type 0
BytesFail macros bytes faults.NoMemory = ⊥
BytesFail macros bytes fault = IsBadText macros bytes fault ⊎ IsNoText bytes fault

abbrev pub BytesGive : Macros → List ℕ → Result SiteData SourceStop → Type 0
BytesGive macros bytes (Ok site) = IsSiteOf macros bytes site
BytesGive macros bytes (Err Unread) = ⊥
BytesGive macros bytes (Err (Fault fault)) = BytesFail macros bytes fault
BytesGive macros bytes (Err NoMemory) = ⊤

-- what a site that can't be built for this fault comes to
abbrev pub stop_at : SiteFault → SourceStop
stop_at faults.NoMemory = NoMemory
stop_at fault = Fault fault

-- the site of one record; memory may run out
abbrev pub IsSingleSite : List ℕ → ℤ → Result SiteData SourceStop → Type 0
IsSingleSite name value (Ok site) = site ≡ sites.single name value
IsSingleSite name value (Err NoMemory) = ⊤
IsSingleSite name value (Err stop) = ⊥

-- A file was read, which gives this site.
pub record FileGives (macros : Macros) (old new : FilesView) (name : List ℕ) (site : SiteData) : Type 0 where
  pub bytes : List ℕ
  pub read : HasRead old new name bytes
  pub gives : IsSiteOf macros bytes site

-- A file was read, which has this fault.
pub record FileFails (macros : Macros) (old new : FilesView) (name : List ℕ) (fault : SiteFault) : Type 0 where
  pub bytes : List ℕ
  pub read : HasRead old new name bytes
  pub fails : BytesFail macros bytes fault

-- Memory ran out before a file was asked for, or behind that.
abbrev pub IsCutShort : FilesView → FilesView → List ℕ → Type 0
IsCutShort old new name = (new ≡ old) ⊎ ((bytes : List ℕ) × HasRead old new name bytes)

-- What a source gives: the files are asked for nothing but its file, and for that once at most.
abbrev pub Opens : Macros → Source → FilesView → FilesView → Result SiteData SourceStop → Type 0
Opens macros (single name value) old new (Ok site) = (new ≡ old) × (site ≡ sites.single name value)
Opens macros (single name value) old new (Err NoMemory) = new ≡ old
Opens macros (single name value) old new (Err stop) = ⊥
Opens macros (file name) old new (Ok site) = FileGives macros old new name site
Opens macros (file name) old new (Err Unread) = HasFailed old new name
Opens macros (file name) old new (Err (Fault fault)) = FileFails macros old new name fault
Opens macros (file name) old new (Err NoMemory) = IsCutShort old new name

-- The ports.

-- the paths that the ports of records lead to, in order
abbrev pub paths_of : List Config → List (List ℕ)
paths_of configs = filter_map (λ config. config.port) configs

-- these texts asked for, behind those before
abbrev pub and_these : Option (List (List ℕ)) → List (List ℕ) → Option (List (List ℕ))
and_these asked texts = option_map (λ before. before ++ texts) asked

-- All ports were made, each asked for once, in order.
pub record AllMade (configs : List Config) (old new : MakerView) : Type 0 where
  pub asked : new.asked ≡ and_these old.asked (paths_of configs)
  pub faults : new.faults ≡ old.faults

-- The ports were asked for up to the first that wasn't made.
pub record OneUnmade (configs : List Config) (old new : MakerView) : Type 0 where
  pub made : List (List ℕ)
  pub path : List ℕ
  pub later : List (List ℕ)
  pub paths : paths_of configs ≡ made ++ path ∷ later
  pub asked : new.asked ≡ and_these old.asked (made ++ path ∷ [])
  pub faults : Rose old.faults new.faults

-- Memory ran out, behind some ports.
pub record SomeMade (configs : List Config) (old new : MakerView) : Type 0 where
  pub made : List (List ℕ)
  pub later : List (List ℕ)
  pub paths : paths_of configs ≡ made ++ later
  pub asked : new.asked ≡ and_these old.asked made
  pub faults : new.faults ≡ old.faults

abbrev pub PortsAre : {A : Type 0} → List Config → MakerView → MakerView → Result A PortsStop → Type 0
PortsAre configs old new (Ok ports) = AllMade configs old new
PortsAre configs old new (Err unmade.Unmade) = OneUnmade configs old new
PortsAre configs old new (Err unmade.NoMemory) = SomeMade configs old new

-- One record's port was asked for, where it has one.
abbrev pub PathIs : {A : Type 0} → Option (List ℕ) → MakerView → MakerView → Result A PortsStop → Type 0
PathIs None old new (Ok port) = new ≡ old
PathIs None old new (Err stop) = ⊥
PathIs (Some path) old new (Ok port) = (new.asked ≡ and_these old.asked (path ∷ [])) × (new.faults ≡ old.faults)
PathIs (Some path) old new (Err unmade.Unmade) =
    (new.asked ≡ and_these old.asked (path ∷ [])) × Rose old.faults new.faults
PathIs (Some path) old new (Err unmade.NoMemory) = new ≡ old
