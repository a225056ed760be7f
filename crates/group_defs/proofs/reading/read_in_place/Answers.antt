use Rattle.std.proofs.Common.{◌≡◌, List, length, Ok, subst, sym, ◌∙◌}
use Rattle.std.specs.List.{AllByRecursion, IsDistinct}
use Rattle.std.specs.Str.{bytes_eq}
use Rattle.rec_kinds.specs.declared.record_text.RecText.{RecText}
use Rattle.group_defs.specs.Groups.{groups_seen}
use Rattle.group_defs.specs.Statements.{Groups}
use Rattle.group_defs.specs.Joining.{join_texts}
use Rattle.group_defs.specs.Checking.{names_of, listed}
use Rattle.group_defs.specs.declared.listed.Group.{Group}
use Rattle.group_defs.proofs.Sounds.{texts_sound}
use Rattle.group_defs.proofs.Naming.{all_distinct}
use Rattle.group_defs.proofs.Lasting.{few_groups, read_last}
use Rattle.group_defs.proofs.reading.read_in_place.Goals as goal

abbrev AreDistinct : List Group → Type 0
AreDistinct groups = AllByRecursion (λ (g : Group). IsDistinct bytes_eq (names_of g.members)) groups

read_distinct : (texts : List RecText) (gs : Groups) (groups : List Group) → join_texts texts ≡ Ok gs → groups ≡ listed gs → AreDistinct groups
read_distinct texts gs groups joined same = subst AreDistinct (sym same) (all_distinct (length texts) gs (texts_sound texts gs joined).all_sound)

pub check-requires : goal.check-requires
check-requires c =
    read_distinct c.args.texts.now (groups_seen c.in_ok-drafts.drafts) c.as_slice-groups.result.now c.in_ok-drafts.ensures (c.as_slice-groups.ensures.value ∙ c.in_ok-found.ensures)

pub group_defs-requires-clause-distinct : goal.group_defs-requires-clause-distinct
group_defs-requires-clause-distinct c =
    read_distinct c.args.texts.now (groups_seen c.in_ok-drafts.drafts) c.as_slice-groups.result.now c.in_ok-drafts.ensures (c.as_slice-groups.ensures.value ∙ c.in_ok-found.ensures)

pub group_defs-requires-clause-few : goal.group_defs-requires-clause-few
group_defs-requires-clause-few c = (few_groups c.args.texts.now c.as_slice-groups.result.now c.in_ok-check.ensures).1

pub returns-clause-sound : goal.returns-clause-sound
returns-clause-sound c =
    read_last c.args.texts.now (groups_seen c.in_ok-drafts.drafts) c.as_slice-groups.result.now c.in_ok-group_defs.field-0.items c.in_ok-drafts.ensures
    (c.as_slice-groups.ensures.value ∙ c.in_ok-found.ensures) c.in_ok-check.ensures c.in_ok-group_defs.ensures
