use Rattle.std.specs.Prelude.{◌≡◌, List, ◌++◌, ◌∷◌, [], map, length, take, None}
use Rattle.std.proofs.Common.{sym, ◌∙◌, ap, subst}
use Rattle.std.proofs.lemmas.Iterator.Adapters.{YieldsList-from_vec}
use Rattle.std.proofs.lemmas.Iterator.Consumers.{YieldsList-so_far, YieldsList-turn, YieldsList-end}
use Rattle.std.proofs.lemmas.List.{map-append, map-id}
use Rattle.group_defs.specs.Sound.{IsGroup}
use Rattle.group_view.specs.Faults.{group_fault}
use Rattle.group_view.specs.Groups.{GroupData, group_of}
use Rattle.group_view.specs.Seen.{configs_seen}
use Rattle.desk_api.proofs.Building.{all_at, build_fault, built_all, faultless_more}
use Rattle.desk_api.proofs.Stating.{there}
use Rattle.desk_api.specs.Grouping.{IsFaultOver}
use Rattle.desk_api.specs.Loading.{first_group_fault}
use Rattle.desk_api.specs.declared.fault.SiteFault.{SiteFault}
use Rattle.desk_api.proofs.groups.build_each.Goals as goal

pub build-requires : goal.build-requires
build-requires c =
    let defs = c.args.defs.items in
    let road = YieldsList-from_vec defs c.into_iter-def-iterator.ensures.into_iter_gives.0 (c.into_iter-def-iterator.ensures.into_iter_gives.1 ∙ c.args.defs.ok.0) in
    let turn = YieldsList-turn road c.loop-def.yielded c.loop-def.def-iterator c.loop-def.yielded_by c.next.result c.next.new.self c.in-Some.def c.in-Some.is c.next.ensures.steps in
    all_at (IsGroup (length c.args.configs.now)) defs (length c.loop-def.yielded) c.in-Some.def c.requires.all_groups (there defs (length c.loop-def.yielded) c.in-Some.def turn.0 turn.1)

pub returns-in-Err-clause-fault : goal.returns-in-Err-clause-fault
returns-in-Err-clause-fault c =
    let defs = c.args.defs.items in
    let done = c.loop-def.yielded in
    let configs = configs_seen c.args.configs.now in
    let road = YieldsList-from_vec defs c.into_iter-def-iterator.ensures.into_iter_gives.0 (c.into_iter-def-iterator.ensures.into_iter_gives.1 ∙ c.args.defs.ok.0) in
    let turn = YieldsList-turn road done c.loop-def.def-iterator c.loop-def.yielded_by c.next.result c.next.new.self c.in-Some.def c.in-Some.is c.next.ensures.steps in
    let so_far : done ≡ take (length done) defs = sym (map-id done) ∙ YieldsList-so_far road done c.loop-def.def-iterator c.loop-def.yielded_by in
    let none_ : first_group_fault (map (group_of configs) done) ≡ None = ap first_group_fault (sym c.loop-def.invariant.0) ∙ c.loop-def.invariant.1 in
    subst (λ (f : SiteFault). IsFaultOver configs defs f) (sym c.ungrouped.ensures)
    (build_fault configs defs done c.in-Some.def c.in-Err.fault so_far (there defs (length done) c.in-Some.def turn.0 turn.1) none_ (c.in-Err.ensures {u = tt}).fault)

pub loop-def-preserved : goal.loop-def-preserved
loop-def-preserved c =
    let configs = configs_seen c.args.configs.now in
    let built = c.in-Ok.ensures {u = tt} in
    let pushed = (c.in_ok-push-in-Ok.ensures {u = tt}).items in
    let more : c.push.new.self.items ≡ c.loop-def.groups.items ++ group_of configs c.in-Some.def ∷ [] = pushed ∙ ap (λ (g : GroupData). c.loop-def.groups.items ++ g ∷ []) built.group in (
      more ∙ ap (λ (l : List GroupData). l ++ group_of configs c.in-Some.def ∷ []) c.loop-def.invariant.0 ∙ sym (map-append (group_of configs) c.loop-def.yielded (c.in-Some.def ∷ [])),
      ap first_group_fault more ∙ faultless_more c.loop-def.groups.items (group_of configs c.in-Some.def) c.loop-def.invariant.1 (ap group_fault (sym built.group) ∙ built.faultless),
    )

pub returns-clause-ok : goal.returns-clause-ok
returns-clause-ok c =
    let defs = c.args.defs.items in
    let configs = configs_seen c.args.configs.now in
    let road = YieldsList-from_vec defs c.into_iter-def-iterator.ensures.into_iter_gives.0 (c.into_iter-def-iterator.ensures.into_iter_gives.1 ∙ c.args.defs.ok.0) in
    let end = YieldsList-end road c.loop-def.yielded c.loop-def.def-iterator c.loop-def.yielded_by c.next.result c.next.new.self c.in-None.is c.next.ensures.steps in
    let all : c.loop-def.yielded ≡ defs = sym (map-id c.loop-def.yielded) ∙ end.0 in
    built_all configs defs c.loop-def.groups.items (c.loop-def.invariant.0 ∙ ap (map (group_of configs)) all) c.loop-def.invariant.1
