-- The records that groups are about, and those that they read.
use Rattle.std.specs.Prelude.{◌≡◌, ℕ, zero, suc, ◌<◌, ◌||◌, Bool, List, [], ◌∷◌, length, map, Option, Some, None, MatchOption, option_map, slice_get, refl, ⊤}
use Rattle.std.specs.List.{AllByRecursion, filter, filter_map, flat_map, cons_option}
use Rattle.std.specs.Option.{option_and_then}
use Rattle.std.proofs.Common.{true, false, cond, sym, ◌∙◌, ap, eqb}
use Rattle.std.proofs.lemmas.Bool.{false≢true}
use Rattle.histories.proofs.Prefixes.{element_within}
use Rattle.rec_kinds.specs.Configs.{Config}
use Rattle.group_defs.specs.declared.def.GroupDef.{GroupDef}
use Rattle.group_defs.specs.declared.def.MemberDef.{MemberDef}
use Rattle.group_view.specs.Groups.{GroupData, IsOver, IsLinkOf, group_of, link_of, member_of}
use Rattle.group_view.specs.Leaves.{footprint, records_of, records_read, read_by, reads, rising, is_about, triggered_by}
use Rattle.group_view.specs.Links.{Link}
use Rattle.desk_api.proofs.Noting.{all_rising, among_rising, one_of_all}
use Rattle.desk_api.specs.Grouping.{is_among}

-- ---- a group is over the records that it was made of

found_link : (configs : List Config) (rec : ℕ) (config : Option Config) → slice_get configs rec ≡ config → MatchOption (option_map (λ c. record { rec = rec; config = c }) config) ⊤ (IsLinkOf configs)
found_link configs rec None is = tt
found_link configs rec (Some config) is = is

over_link : (configs : List Config) (rec : Option ℕ) → MatchOption (option_and_then (link_of configs) rec) ⊤ (IsLinkOf configs)
over_link configs None = tt
over_link configs (Some rec) = found_link configs rec (slice_get configs rec) refl

over_members : (configs : List Config) (ms : List MemberDef) → AllByRecursion (λ m. MatchOption m.link ⊤ (IsLinkOf configs)) (map (member_of configs) ms)
over_members configs [] = tt
over_members configs (m ∷ ms) = (over_link configs m.rec, over_members configs ms)

pub is_over : (configs : List Config) (def : GroupDef) → IsOver configs (group_of configs def)
is_over configs def = over_members configs def.members

pub are_over : (configs : List Config) (defs : List GroupDef) → AllByRecursion (IsOver configs) (map (group_of configs) defs)
are_over configs [] = tt
are_over configs (def ∷ defs) = (is_over configs def, are_over configs defs)

-- ---- its records are among these

module _ (configs : List Config) where
  abbrev IsBelow : ℕ → Type 0
  IsBelow rec = rec < length configs

  more_below : (link : Option Link) (recs : List ℕ) → MatchOption link ⊤ (IsLinkOf configs) → AllByRecursion IsBelow recs → AllByRecursion IsBelow (cons_option (option_map (λ l. l.rec) link) recs)
  more_below None recs over below = below
  more_below (Some l) recs over below = (element_within configs l.rec l.config over, below)

  records_below : {M : Type 0} (link : M → Option Link) (ms : List M) → AllByRecursion (λ m. MatchOption (link m) ⊤ (IsLinkOf configs)) ms
      → AllByRecursion IsBelow (filter_map (λ m. option_map (λ l. l.rec) (link m)) ms)
  records_below link [] over = tt
  records_below link (m ∷ ms) over = more_below (link m) (filter_map (λ m. option_map (λ l. l.rec) (link m)) ms) over.0 (records_below link ms over.1)

  pub group_below : (g : GroupData) → IsOver configs g → AllByRecursion IsBelow (records_of g.members)
  group_below g over = all_rising IsBelow (filter_map (λ m. option_map (λ l. l.rec) m.link) g.members) (records_below (λ m. m.link) g.members over)

  read_below : {M : Type 0} (link : M → Option Link) (test : M → Bool) (m : Option M) (recs : List ℕ) → MatchOption m ⊤ (λ m. MatchOption (link m) ⊤ (IsLinkOf configs)) → AllByRecursion IsBelow recs
      → AllByRecursion IsBelow (cons_option (option_and_then (λ m. cond (test m) (option_map (λ l. l.rec) (link m)) None) m) recs)
  read_below link test None recs over below = below
  read_below {M} link test (Some m) recs over below =
      elim (test m) as (λ (b : Bool). AllByRecursion IsBelow (cons_option (cond b (option_map (λ l. l.rec) (link m)) None) recs)) [
        | true ↦ more_below (link m) recs over below
        | false ↦ below
      ]

  one_at : {M : Type 0} (P : M → Type 0) (ms : List M) (n : ℕ) → AllByRecursion P ms → MatchOption (slice_get ms n) ⊤ P
  one_at P [] n all = tt
  one_at P (m ∷ ms) zero all = all.0
  one_at P (m ∷ ms) (suc n) all = one_at P ms n all.1

  all_read_below : {M : Type 0} (link : M → Option Link) (test : M → Bool) (ms : List M) (ns : List ℕ) → AllByRecursion (λ m. MatchOption (link m) ⊤ (IsLinkOf configs)) ms
      → AllByRecursion IsBelow (filter_map (λ n. option_and_then (λ m. cond (test m) (option_map (λ l. l.rec) (link m)) None) (slice_get ms n)) ns)
  all_read_below link test ms [] over = tt
  all_read_below link test ms (n ∷ ns) over =
      read_below link test (slice_get ms n) (filter_map (λ n. option_and_then (λ m. cond (test m) (option_map (λ l. l.rec) (link m)) None) (slice_get ms n)) ns)
      (one_at (λ m. MatchOption (link m) ⊤ (IsLinkOf configs)) ms n over) (all_read_below link test ms ns over)

  pub footprint_below : (g : GroupData) (rec n : ℕ) → IsOver configs g → is_among (footprint g rec) n ≡ true → n < length configs
  unfolding footprint
  footprint_below g rec n over is =
      one_of_all IsBelow (footprint g rec) n
      (all_rising IsBelow (filter_map (λ k. option_and_then read_by (slice_get g.members k)) (triggered_by g.members rec)) (all_read_below (λ m. m.link) (λ m. reads m.def.kind) g.members (triggered_by g.members rec) over)) is

-- ---- a record of which a group isn't makes it read nothing

neither : (a b : Bool) → (a || b) ≡ false → (a ≡ false) × (b ≡ false)
neither true b is = absurd (false≢true (sym is))
neither false b is = (refl, is)

none_more : {M : Type 0} (m : M) (link : Option Link) (rec : ℕ) (recs : List ℕ) (rest : List M) → (is_among recs rec ≡ false → rest ≡ []) → is_among (cons_option (option_map (λ l. l.rec) link) recs) rec ≡ false
    → cond (is_about rec link) (m ∷ rest) rest ≡ []
none_more m None rec recs rest later is = later is
none_more {M} m (Some l) rec recs rest later is =
    let parts = neither (eqb l.rec rec) (is_among recs rec) is in
    ap (λ (b : Bool). cond b (m ∷ rest) rest) parts.0 ∙ later parts.1

none_about : {M : Type 0} (link : M → Option Link) (ms : List M) (rec : ℕ) → is_among (filter_map (λ m. option_map (λ l. l.rec) (link m)) ms) rec ≡ false → filter (λ m. is_about rec (link m)) ms ≡ []
none_about link [] rec is = refl
none_about link (m ∷ ms) rec is =
    none_more m (link m) rec (filter_map (λ m. option_map (λ l. l.rec) (link m)) ms) (filter (λ m. is_about rec (link m)) ms) (none_about link ms rec) is

not_risen : (ns : List ℕ) (n : ℕ) (b : Bool) → is_among ns n ≡ b → is_among (rising ns) n ≡ false → b ≡ false
not_risen ns n true is missing = absurd (false≢true (sym missing ∙ among_rising ns n is))
not_risen ns n false is missing = refl

reads_nothing : (g : GroupData) (rec : ℕ) → is_among (records_of g.members) rec ≡ false → footprint g rec ≡ []
unfolding footprint
reads_nothing g rec missing =
    let recs = filter_map (λ m. option_map (λ l. l.rec) m.link) g.members in
    let none_here = none_about (λ m. m.link) g.members rec (not_risen recs rec (is_among recs rec) refl missing) in
    ap (λ l. records_read g.members (flat_map (λ m. m.def.trigger) l)) none_here

about_by : (g : GroupData) (rec n : ℕ) (b : Bool) → is_among (records_of g.members) rec ≡ b → is_among (footprint g rec) n ≡ true → b ≡ true
about_by g rec n true is read = refl
about_by g rec n false is read = absurd (false≢true (ap (λ (l : List ℕ). is_among l n) (sym (reads_nothing g rec is)) ∙ read))

pub about_it : (g : GroupData) (rec n : ℕ) → is_among (footprint g rec) n ≡ true → is_among (records_of g.members) rec ≡ true
about_it g rec n read = about_by g rec n (is_among (records_of g.members) rec) refl read
