-- What every group that is read keeps, so that the layers above need not test it again.
use Rattle.std.specs.Prelude.{◌≡◌, ℕ, ◌<◌, ◌≤◌, IsTrue, List, length, map, MatchOption}
use Rattle.std.specs.List.{AllByRecursion, IsDistinct}
use Rattle.std.specs.List.Sorted.{IsStrictlySortedBy}
use Rattle.std.specs.Str.{bytes_eq}
use Rattle.group_defs.specs.Names.{name_fits}
use Rattle.group_defs.specs.Order.{text_cmp}
use Rattle.group_defs.specs.declared.def.MemberDef.{MemberDef}
use Rattle.group_defs.specs.declared.def.GroupDef.{GroupDef}
use Rattle.group_defs.specs.declared.def.MemberKind.TheVariants.{Structure}

-- A member among so many of its group, over so many records: its name may stand, `structure` alone has no record, and
-- what it triggers are members.
pub record IsMember (records members : ℕ) (m : MemberDef) : Type 0 where
  pub named : IsTrue (name_fits m.kind m.name)
  pub recorded : MatchOption m.rec (m.kind ≡ Structure) (λ n. n < records)
  pub triggers : AllByRecursion (λ n. n < members) m.trigger

-- A group over so many records: its members stand in the order of the bytes of their names, each name once.
pub record IsGroup (records : ℕ) (g : GroupDef) : Type 0 where
  pub sorted : IsStrictlySortedBy text_cmp (map (λ m. m.name) g.members)
  pub few : length g.members ≤ 256
  pub all_members : AllByRecursion (IsMember records (length g.members)) g.members

-- Groups over so many records, no two of one name.
pub record AreGroups (records : ℕ) (groups : List GroupDef) : Type 0 where
  pub distinct : IsDistinct bytes_eq (map (λ g. g.name) groups)
  pub few : length groups ≤ 1024
  pub all_groups : AllByRecursion (IsGroup records) groups
