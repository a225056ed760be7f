-- The groups of a site, built one after another.
use Rattle.std.specs.Prelude.{◌≡◌, ℕ, zero, suc, ◌≤◌, List, [], ◌∷◌, ◌++◌, length, map, Option, Some, None, Result, Ok, Err, slice_get, refl}
use Rattle.std.specs.List.{AllByRecursion, IsDistinct}
use Rattle.std.specs.Option.{option_or}
use Rattle.std.specs.Str.{bytes_eq}
use Rattle.std.proofs.Common.{arith, take, drop, sym, ◌∙◌, ap, subst}
use Rattle.std.proofs.lemmas.List.{length-map, map-append}
use Rattle.std.proofs.lemmas.Option.{none-some}
use Rattle.rec_kinds.specs.Configs.{Config}
use Rattle.rec_kinds.specs.declared.record_text.RecText.{RecText}
use Rattle.group_defs.specs.Checking.{defined}
use Rattle.group_defs.specs.Groups.{FailsAs}
use Rattle.group_defs.specs.Sound.{AreGroups}
use Rattle.group_defs.specs.Told.{◌>>=◌}
use Rattle.group_defs.specs.declared.def.GroupDef.{GroupDef}
use Rattle.group_defs.specs.declared.fault.GroupFault.{GroupFault}
use Rattle.group_defs.specs.declared.fault.GroupFault.TheVariants.{BadJson, UnknownKey, SameMember, UnknownTrigger, NameTaken, BadMember, Shape, TooMany, NoMemory}
use Rattle.group_view.specs.Faults.{group_fault, IsGroupFault}
use Rattle.group_view.specs.Groups.{GroupData, IsOver, group_of}
use Rattle.desk_api.proofs.Reaching.{are_over, group_below}
use Rattle.desk_api.proofs.Stating.{split_at}
use Rattle.desk_api.specs.Grouping.{AreBelow, IsFaultOver, IsFaultOfGroups, ungrouped}
use Rattle.desk_api.specs.Loading.{built_over, first_group_fault, groups_of, unless_faulty}
use Rattle.desk_api.specs.Sites.{configs_of}

-- ---- faults

pub read_fault : (records : List RecText) (fault : GroupFault) → FailsAs fault (defined records) → IsFaultOfGroups records (ungrouped fault)
read_fault records (BadJson name) is = ap (λ (d : Result (List GroupDef) GroupFault). d >>= built_over (configs_of records)) is
read_fault records (UnknownKey name) is = ap (λ (d : Result (List GroupDef) GroupFault). d >>= built_over (configs_of records)) is
read_fault records (SameMember name) is = ap (λ (d : Result (List GroupDef) GroupFault). d >>= built_over (configs_of records)) is
read_fault records (UnknownTrigger name) is = ap (λ (d : Result (List GroupDef) GroupFault). d >>= built_over (configs_of records)) is
read_fault records (NameTaken name) is = ap (λ (d : Result (List GroupDef) GroupFault). d >>= built_over (configs_of records)) is
read_fault records (BadMember name) is = ap (λ (d : Result (List GroupDef) GroupFault). d >>= built_over (configs_of records)) is
read_fault records (Shape fault) is = ap (λ (d : Result (List GroupDef) GroupFault). d >>= built_over (configs_of records)) is
read_fault records (TooMany count) is = ap (λ (d : Result (List GroupDef) GroupFault). d >>= built_over (configs_of records)) is
read_fault records NoMemory is = tt

or_none : {A : Type 0} (x y : Option A) → x ≡ None → option_or x y ≡ y
or_none {A} x y none_ = ap (λ (z : Option A). option_or z y) none_

none_parts : {A : Type 0} (x y : Option A) → option_or x y ≡ None → (x ≡ None) × (y ≡ None)
none_parts (Some a) y is = absurd (none-some a (sym is))
none_parts None y is = (refl, is)

behind_faultless : (gs more : List GroupData) → first_group_fault gs ≡ None → first_group_fault (gs ++ more) ≡ first_group_fault more
behind_faultless [] more none_ = refl
behind_faultless (g ∷ gs) more none_ =
    let parts = none_parts (group_fault g) (first_group_fault gs) none_ in
    or_none (group_fault g) (first_group_fault (gs ++ more)) parts.0 ∙ behind_faultless gs more parts.1

pub faultless_more : (gs : List GroupData) (g : GroupData) → first_group_fault gs ≡ None → group_fault g ≡ None → first_group_fault (gs ++ g ∷ []) ≡ None
faultless_more gs g none_ one = behind_faultless gs (g ∷ []) none_ ∙ or_none (group_fault g) None one

module _ (configs : List Config) (defs : List GroupDef) where
  -- the fault of the definition behind those that could be built
  fault_at : (done : List GroupDef) (def : GroupDef) (fault : GroupFault) → done ≡ take (length done) defs → slice_get defs (length done) ≡ Some def
      → first_group_fault (map (group_of configs) done) ≡ None → group_fault (group_of configs def) ≡ Some fault → built_over configs defs ≡ Err fault
  fault_at done def fault before at none_ is =
      let n = length done in
      let rest = drop (suc n) defs in
      let parts : defs ≡ done ++ def ∷ rest = split_at defs n def at ∙ ap (λ (l : List GroupDef). l ++ def ∷ rest) (sym before) in
      let whole : map (group_of configs) defs ≡ map (group_of configs) done ++ group_of configs def ∷ map (group_of configs) rest = ap (map (group_of configs)) parts ∙ map-append (group_of configs) done (def ∷ rest) in
      let found : first_group_fault (map (group_of configs) defs) ≡ Some fault =
      ap first_group_fault whole ∙ behind_faultless (map (group_of configs) done) (group_of configs def ∷ map (group_of configs) rest) none_
      ∙ ap (λ (o : Option GroupFault). option_or o (first_group_fault (map (group_of configs) rest))) is in
      ap (λ (o : Option GroupFault). unless_faulty o (map (group_of configs) defs)) found

  pub build_fault : (done : List GroupDef) (def : GroupDef) (fault : GroupFault) → done ≡ take (length done) defs → slice_get defs (length done) ≡ Some def
      → first_group_fault (map (group_of configs) done) ≡ None → IsGroupFault (group_of configs def) fault → IsFaultOver configs defs (ungrouped fault)
  build_fault done def (BadJson name) before at none_ is = fault_at done def (BadJson name) before at none_ is
  build_fault done def (UnknownKey name) before at none_ is = fault_at done def (UnknownKey name) before at none_ is
  build_fault done def (SameMember name) before at none_ is = fault_at done def (SameMember name) before at none_ is
  build_fault done def (UnknownTrigger name) before at none_ is = fault_at done def (UnknownTrigger name) before at none_ is
  build_fault done def (NameTaken name) before at none_ is = fault_at done def (NameTaken name) before at none_ is
  build_fault done def (BadMember name) before at none_ is = fault_at done def (BadMember name) before at none_ is
  build_fault done def (Shape fault) before at none_ is = fault_at done def (Shape fault) before at none_ is
  build_fault done def (TooMany count) before at none_ is = fault_at done def (TooMany count) before at none_ is
  build_fault done def NoMemory before at none_ is = tt

  pub built_all : (groups : List GroupData) → groups ≡ map (group_of configs) defs → first_group_fault groups ≡ None → built_over configs defs ≡ Ok groups
  built_all groups are none_ =
      ap (λ (gs : List GroupData). unless_faulty (first_group_fault gs) gs) (sym are) ∙ ap (λ (o : Option GroupFault). unless_faulty o groups) none_

  built_by : (o : Option GroupFault) (gs groups : List GroupData) → unless_faulty o gs ≡ Ok groups → groups ≡ gs
  built_by None gs groups is = cc
  built_by (Some fault) gs groups is = absurd (cc is)

  pub are_built : (groups : List GroupData) → built_over configs defs ≡ Ok groups → groups ≡ map (group_of configs) defs
  are_built groups is = built_by (first_group_fault (map (group_of configs) defs)) (map (group_of configs) defs) groups is

  pub built_few : (groups : List GroupData) → AreGroups (length configs) defs → built_over configs defs ≡ Ok groups → length groups ≤ 1024
  built_few groups sound is =
      let count : length groups ≡ length defs = ap length (are_built groups is) ∙ length-map defs (group_of configs) in
      omega (arith, sound.few, count)

  same_names : (ds : List GroupDef) → map (λ (g : GroupData). g.name) (map (group_of configs) ds) ≡ map (λ (d : GroupDef). d.name) ds
  same_names [] = refl
  same_names (d ∷ ds) = ap (λ (l : List (List ℕ)). d.name ∷ l) (same_names ds)

  pub built_distinct : (groups : List GroupData) → AreGroups (length configs) defs → built_over configs defs ≡ Ok groups → IsDistinct bytes_eq (map (λ (g : GroupData). g.name) groups)
  built_distinct groups sound is =
      subst (IsDistinct bytes_eq) (sym (ap (map (λ (g : GroupData). g.name)) (are_built groups is) ∙ same_names defs)) sound.distinct

  below_each : (gs : List GroupData) → AllByRecursion (IsOver configs) gs → AreBelow (length configs) gs
  below_each [] over = tt
  below_each (g ∷ gs) over = (group_below configs g over.0, below_each gs over.1)

  pub built_below : (groups : List GroupData) → built_over configs defs ≡ Ok groups → AreBelow (length configs) groups
  built_below groups is = subst (AreBelow (length configs)) (sym (are_built groups is)) (below_each (map (group_of configs) defs) (are_over configs defs))

-- ---- groups of records

pub all_at : {A : Type 0} (P : A → Type 0) (xs : List A) (n : ℕ) (x : A) → AllByRecursion P xs → slice_get xs n ≡ Some x → P x
all_at P [] n x all is = absurd (none-some x is)
all_at P (y ∷ xs) zero x all is = let same : y ≡ x = cc is in subst P same all.0
all_at P (y ∷ xs) (suc n) x all is = all_at P xs n x all.1 is

over_by : (records : List RecText) (d : Result (List GroupDef) GroupFault) (groups : List GroupData) → (d >>= built_over (configs_of records)) ≡ Ok groups → AllByRecursion (IsOver (configs_of records)) groups
over_by records (Ok defs) groups is = subst (AllByRecursion (IsOver (configs_of records))) (sym (are_built (configs_of records) defs groups is)) (are_over (configs_of records) defs)
over_by records (Err fault) groups is = absurd (cc is)

pub groups_over : (records : List RecText) (groups : List GroupData) → groups_of records ≡ Ok groups → AllByRecursion (IsOver (configs_of records)) groups
groups_over records groups is = over_by records (defined records) groups is

pub groups_from : (records : List RecText) (defs : List GroupDef) (groups : List GroupData) → defined records ≡ Ok defs → built_over (configs_of records) defs ≡ Ok groups → groups_of records ≡ Ok groups
groups_from records defs groups are built = ap (λ (d : Result (List GroupDef) GroupFault). d >>= built_over (configs_of records)) are ∙ built
