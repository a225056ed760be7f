use Rattle.std.specs.Prelude.{◌≡◌, ℕ, List, length}
use Rattle.std.specs.Arc.{arc_value}
use Rattle.std.proofs.Common.{sym, ◌∙◌, ap, subst}
use Rattle.std.proofs.lemmas.List.{length-map}
use Rattle.rec_kinds.specs.Building.{config_of}
use Rattle.rec_kinds.specs.Configs.{Config}
use Rattle.rec_kinds.specs.declared.record_text.RecText.{RecText}
use Rattle.group_defs.specs.Sound.{AreGroups}
use Rattle.group_view.specs.Seen.{configs_seen}
use Rattle.desk_api.proofs.Building.{built_few, built_distinct, built_below}
use Rattle.desk_api.specs.Grouping.{AreBelow}
use Rattle.desk_api.specs.Sites.{configs_of}
use Rattle.desk_api.proofs.groups.Groups.of_texts.Goals as goal

-- there are as many configurations as texts
as_many : (texts : List RecText) (configs : List Config) → configs ≡ configs_of texts → length configs ≡ length texts
as_many texts configs are = ap length are ∙ length-map texts (λ (r : RecText). config_of r.kind r.fields)

pub build_each-requires : goal.build_each-requires
build_each-requires c =
    let texts = c.args.texts.now in
    let count : length c.args.configs.now ≡ length texts = sym (length-map c.args.configs.now arc_value) ∙ as_many texts (configs_seen c.args.configs.now) c.requires in
    subst (λ (n : ℕ). AreGroups n c.in_ok-defs.defs.items) (sym count) (c.in_ok-defs.ensures {u = tt}).sound

pub of_built-requires : goal.of_built-requires
of_built-requires c =
    let texts = c.args.texts.now in
    let configs = configs_seen c.args.configs.now in
    let defs = c.in_ok-defs.defs.items in
    let groups = c.in_ok-groups.groups.items in
    let count = as_many texts configs c.requires in
    let sound : AreGroups (length configs) defs = subst (λ (n : ℕ). AreGroups n defs) (sym count) (c.in_ok-defs.ensures {u = tt}).sound in
    let built = (c.in_ok-groups.ensures {u = tt}).ok in
    record {
      few = built_few configs defs groups sound built;
      distinct = built_distinct configs defs groups sound built;
      within = subst (λ (n : ℕ). AreBelow n groups) count (built_below configs defs groups built);
    }
