-- What a source gives.
use Rattle.std.proofs.Common.{◌≡◌, ℕ, ◌+◌, ◌≤◌, zero, suc, ℤ, Bool, List, [], ◌∷◌, ◌++◌, length, drop, Option, None, Some, Result, Ok, Err, refl, sym, ◌∙◌, ap, subst, inl, inr, append_assoc, add-one, arith}
use Rattle.std.specs.Prelude.{IsUtf8, is_some, option_map}
use Rattle.std.specs.List.{slice_get}
use Rattle.std.specs.Str.{IsValidUpTo}
use Rattle.std.proofs.lemmas.List.{append-nil, drop_all}
use Rattle.std.proofs.lemmas.Option.{none-some}
use Rattle.pva_outside.specs.Files.{FilesView, HasRead}
use Rattle.pva_outside.specs.Makers.{MakerView}
use Rattle.db_text.specs.Macros.{Macros}
use Rattle.rec_kinds.specs.Configs.{Config}
use Rattle.rec_kinds.specs.declared.state.RecState.{RecState}
use Rattle.journal_core.specs.Legality.{AreValid}
use Rattle.desk_api.specs.Loading.{Builds}
use Rattle.desk_api.specs.declared.fault.SiteFault.{SiteFault}
use Rattle.desk_api.specs.declared.fault.SiteFault.TheVariants as faults
use Rattle.desk_api.specs.declared.history.SiteData.{SiteData}
use Rattle.prog_source.specs.Words.{single, file}
use Rattle.desk_core.specs.Ports.{ports_there, ports_wanted}
use Rattle.pva_outside.specs.Count.{Rose}
use Rattle.prog_source.specs.declared.ports.PortsStop.{PortsStop}
use Rattle.prog_source.specs.declared.ports.PortsStop.TheVariants as unmade
use Rattle.prog_source.specs.Opening.{AllMade, SomeMade, PathIs, PortsAre, BytesGive, BytesFail, IsSingleSite, Opens, bad_byte, stop_at, paths_of, and_these}
use Rattle.prog_source.specs.declared.loading.SourceStop.{SourceStop}
use Rattle.prog_source.specs.declared.loading.SourceStop.TheVariants.{Unread, Fault, NoMemory}

pub no_text : (macros : Macros) (bytes : List ℕ) (fault : SiteFault) (at : ℕ) → IsValidUpTo bytes at → fault ≡ bad_byte bytes at → BytesFail macros bytes fault
no_text macros bytes fault at valid same = subst (BytesFail macros bytes) (sym same) (inr (record { at = at; valid = valid; fault_is = refl }))

pub built : (macros : Macros) (bytes : List ℕ) (site : SiteData) → IsUtf8 bytes → Builds macros bytes (Ok site) → BytesGive macros bytes (Ok site)
built macros bytes site utf8 is = record { utf8 = utf8; builds = is }

pub unbuilt : (macros : Macros) (bytes : List ℕ) (fault : SiteFault) (stop : SourceStop) → IsUtf8 bytes → Builds macros bytes (Err fault) → stop ≡ stop_at fault → BytesGive macros bytes (Err stop)
unbuilt macros bytes faults.NoMemory stop utf8 is same = subst (λ (s : SourceStop). BytesGive macros bytes (Err s)) (sym same) tt
unbuilt macros bytes (faults.Load fault) stop utf8 is same = subst (λ (s : SourceStop). BytesGive macros bytes (Err s)) (sym same) (inl (record { utf8 = utf8; builds = is }))
unbuilt macros bytes (faults.Group fault) stop utf8 is same = subst (λ (s : SourceStop). BytesGive macros bytes (Err s)) (sym same) (inl (record { utf8 = utf8; builds = is }))
unbuilt macros bytes (faults.Build name fault) stop utf8 is same = subst (λ (s : SourceStop). BytesGive macros bytes (Err s)) (sym same) (inl (record { utf8 = utf8; builds = is }))

pub file_gives : (macros : Macros) (old new : FilesView) (name bytes : List ℕ) (r : Result SiteData SourceStop) → HasRead old new name bytes → BytesGive macros bytes r → Opens macros (file name) old new r
file_gives macros old new name bytes (Ok site) read gives = record { bytes = bytes; read = read; gives = gives }
file_gives macros old new name bytes (Err Unread) read gives = absurd gives
file_gives macros old new name bytes (Err (Fault fault)) read gives = record { bytes = bytes; read = read; fails = gives }
file_gives macros old new name bytes (Err NoMemory) read gives = inr (bytes, read)

pub single_opens : (macros : Macros) (name : List ℕ) (value : ℤ) (files : FilesView) (r : Result SiteData SourceStop) → IsSingleSite name value r → Opens macros (single name value) files files r
single_opens macros name value files (Ok site) is = (refl, is)
single_opens macros name value files (Err Unread) is = absurd is
single_opens macros name value files (Err (Fault fault)) is = absurd is
single_opens macros name value files (Err NoMemory) is = refl

-- The ports.

-- what is left from an element on
from_rec : {X : Type 0} (xs : List X) (n : ℕ) (x : X) → slice_get xs n ≡ Some x → drop n xs ≡ x ∷ drop (suc n) xs
from_rec [] n x is = absurd (none-some x is)
from_rec {X} (y ∷ xs) zero x is = let same : y ≡ x = cc in ap (λ (z : X). z ∷ xs) same
from_rec (y ∷ xs) (suc n) x is = from_rec xs n x is

and_nothing : (o : Option (List (List ℕ))) → o ≡ and_these o []
and_nothing None = refl
and_nothing (Some texts) = ap Some (sym (append-nil texts))

and_more : (o : Option (List (List ℕ))) (xs ys : List (List ℕ)) → and_these (and_these o xs) ys ≡ and_these o (xs ++ ys)
and_more None xs ys = refl
and_more (Some texts) xs ys = ap Some (append_assoc texts xs ys)

-- The ports of the first records were made.
pub record MadeSoFar (configs : List Config) (i : ℕ) (old now : MakerView) (there : List Bool) : Type 0 where
  pub made : List (List ℕ)
  pub paths : paths_of configs ≡ made ++ paths_of (drop i configs)
  pub asked : now.asked ≡ and_these old.asked made
  pub faults : now.faults ≡ old.faults
  pub there_is : there ++ ports_wanted (drop i configs) ≡ ports_wanted configs

pub none_made : (configs : List Config) (old : MakerView) → MadeSoFar configs 0 old old []
none_made configs old = record { made = []; paths = refl; asked = and_nothing old.asked; faults = refl; there_is = refl }

-- the record whose port a reader of the site told
pub told_config : (o : Option Config) (p : Option (List ℕ)) → Some p ≡ option_map (λ (config : Config). config.port) o → (config : Config) × (o ≡ Some config) × (p ≡ config.port)
told_config None p is = absurd (none-some p (sym is))
told_config (Some config) p is = (config, refl, cc)

paths_none : (config : Config) (rest : List Config) → config.port ≡ None → paths_of (config ∷ rest) ≡ paths_of rest
paths_none config rest none = rw none refl

paths_some : (config : Config) (rest : List Config) (path : List ℕ) → config.port ≡ Some path → paths_of (config ∷ rest) ≡ path ∷ paths_of rest
paths_some config rest path some = rw some refl

with_port : (configs : List Config) (i : ℕ) (config : Config) (path : Option (List ℕ)) (old now later : MakerView) (there : List Bool) → MadeSoFar configs i old now there
    → drop i configs ≡ config ∷ drop (i + 1) configs → path ≡ config.port → PathIs {A = Option (Unit {0})} path now later (Ok None) → MadeSoFar configs (i + 1) old later (there ++ is_some path ∷ [])
with_port configs i config None old now later there m ahead is same = record {
  made = m.made;
  paths = m.paths ∙ ap (λ (l : List (List ℕ)). m.made ++ l) (ap paths_of ahead ∙ paths_none config (drop (i + 1) configs) (sym is));
  asked = ap (λ (v : MakerView). v.asked) same ∙ m.asked;
  faults = ap (λ (v : MakerView). v.faults) same ∙ m.faults;
  there_is = append_assoc there (is_some {T = List ℕ} None ∷ []) (ports_wanted (drop (i + 1) configs)) ∙ ap (λ (p : Option (List ℕ)). there ++ is_some p ∷ ports_wanted (drop (i + 1) configs)) is ∙ ap (λ (l : List Config). there ++ ports_wanted l) (sym ahead) ∙ m.there_is;
}
with_port configs i config (Some path) old now later there m ahead is same = record {
  made = m.made ++ path ∷ [];
  paths = m.paths ∙ ap (λ (l : List (List ℕ)). m.made ++ l) (ap paths_of ahead ∙ paths_some config (drop (i + 1) configs) path (sym is)) ∙ sym (append_assoc m.made (path ∷ []) (paths_of (drop (i + 1) configs)));
  asked = same.0 ∙ ap (λ (o : Option (List (List ℕ))). and_these o (path ∷ [])) m.asked ∙ and_more old.asked m.made (path ∷ []);
  faults = same.1 ∙ m.faults;
  there_is = append_assoc there (is_some (Some path) ∷ []) (ports_wanted (drop (i + 1) configs)) ∙ ap (λ (p : Option (List ℕ)). there ++ is_some p ∷ ports_wanted (drop (i + 1) configs)) is ∙ ap (λ (l : List Config). there ++ ports_wanted l) (sym ahead) ∙ m.there_is;
}

plain_path : {A : Type 0} (path : Option (List ℕ)) (now later : MakerView) (port : A) → PathIs {A = A} path now later (Ok port) → PathIs {A = Option (Unit {0})} path now later (Ok None)
plain_path None now later port is = is
plain_path (Some path) now later port is = is

-- one port more was made, where the record has one
pub one_made : {A : Type 0} (configs : List Config) (i : ℕ) (path : Option (List ℕ)) (old now later : MakerView) (there : List Bool) (port : A) → MadeSoFar configs i old now there
    → Some path ≡ option_map (λ (config : Config). config.port) (slice_get configs i) → PathIs {A = A} path now later (Ok port) → MadeSoFar configs (i + 1) old later (there ++ is_some path ∷ [])
one_made configs i path old now later there port m told is =
    let found = told_config (slice_get configs i) path told in
    let ahead : drop i configs ≡ found.0 ∷ drop (i + 1) configs = rw add-one (from_rec configs i found.0 found.1) in
    with_port configs i found.0 path old now later there m ahead found.2 (plain_path path now later port is)

pub some_made : (configs : List Config) (i : ℕ) (old now : MakerView) (there : List Bool) → MadeSoFar configs i old now there → SomeMade configs old now
some_made configs i old now there m = record { made = m.made; later = paths_of (drop i configs); paths = m.paths; asked = m.asked; faults = m.faults }

stop_behind : (A B : Type 0) (configs : List Config) (i : ℕ) (config : Config) (path : Option (List ℕ)) (old now later : MakerView) (there : List Bool) (stop : PortsStop) → MadeSoFar configs i old now there
    → drop i configs ≡ config ∷ drop (i + 1) configs → path ≡ config.port → PathIs {A = A} path now later (Err stop) → PortsAre {A = B} configs old later (Err stop)
stop_behind A B configs i config None old now later there stop m ahead is same = absurd same
stop_behind A B configs i config (Some path) old now later there unmade.Unmade m ahead is same = record {
  made = m.made;
  path = path;
  later = paths_of (drop (i + 1) configs);
  paths = m.paths ∙ ap (λ (l : List (List ℕ)). m.made ++ l) (ap paths_of ahead ∙ paths_some config (drop (i + 1) configs) path (sym is));
  asked = same.0 ∙ ap (λ (o : Option (List (List ℕ))). and_these o (path ∷ [])) m.asked ∙ and_more old.asked m.made (path ∷ []);
  faults = subst (λ (n : ℕ). Rose n later.faults) m.faults same.1;
}
stop_behind A B configs i config (Some path) old now later there unmade.NoMemory m ahead is same =
    some_made configs i old later there (subst (λ (v : MakerView). MadeSoFar configs i old v there) (sym same) m)

-- a port that wasn't made
pub stopped_at : (A B : Type 0) (configs : List Config) (i : ℕ) (path : Option (List ℕ)) (old now later : MakerView) (there : List Bool) (stop : PortsStop) → MadeSoFar configs i old now there
    → Some path ≡ option_map (λ (config : Config). config.port) (slice_get configs i) → PathIs {A = A} path now later (Err stop) → PortsAre {A = B} configs old later (Err stop)
stopped_at A B configs i path old now later there stop m told is =
    let found = told_config (slice_get configs i) path told in
    let ahead : drop i configs ≡ found.0 ∷ drop (i + 1) configs = rw add-one (from_rec configs i found.0 found.1) in
    stop_behind A B configs i found.0 path old now later there stop m ahead found.2 is

-- all ports were made
pub all_made : (configs : List Config) (i : ℕ) (old now : MakerView) (there : List Bool) → drop i configs ≡ [] → MadeSoFar configs i old now there → AllMade configs old now
all_made configs i old now there ended m = record {
  asked = m.asked ∙ ap (and_these old.asked) (sym (append-nil m.made) ∙ ap (λ (l : List Config). m.made ++ paths_of l) (sym ended) ∙ sym m.paths);
  faults = m.faults;
}

pub all_there : (configs : List Config) (i : ℕ) (old now : MakerView) (there : List Bool) → drop i configs ≡ [] → MadeSoFar configs i old now there → there ≡ ports_wanted configs
all_there configs i old now there ended m = sym (append-nil there) ∙ ap (λ (l : List Config). there ++ ports_wanted l) (sym ended) ∙ m.there_is

valid_count : (configs : List Config) (states : List RecState) → AreValid configs states → length configs ≡ length states
valid_count [] [] v = refl
valid_count [] (s ∷ states) v = absurd v
valid_count (c ∷ configs) [] v = absurd v
valid_count (c ∷ configs) (s ∷ states) v = ap suc (valid_count configs states v.1)

pub ended_at : (configs : List Config) (states : List RecState) (i count : ℕ) → AreValid configs states → count ≡ length states → count ≤ i → drop i configs ≡ []
ended_at configs states i count valid are passed = drop_all i configs (omega (arith, valid_count configs states valid, are, passed))

pub is_some_map : {X Y : Type 0} (f : X → Y) (o : Option X) → is_some (option_map f o) ≡ is_some o
is_some_map f None = refl
is_some_map f (Some x) = refl

pub there_more : {P : Type 0} (ports : List (Option P)) (port : Option P) → ports_there (ports ++ port ∷ []) ≡ ports_there ports ++ is_some port ∷ []
there_more [] port = refl
there_more (x ∷ ports) port = ap (λ (l : List Bool). is_some x ∷ l) (there_more ports port)
