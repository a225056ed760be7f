use Rattle.std.proofs.Common.{◌≡◌, ◌<◌, ℕ, List, length, map, sym, ap, ◌∙◌, subst}
use Rattle.std.specs.Prelude.{⊤, MatchOption}
use Rattle.std.specs.List.{AllByRecursion}
use Rattle.group_view.specs.Faults.{is_misplaced, is_doubled}
use Rattle.group_view.specs.Groups.{member_of, group_of, IsLinkOf, IsOver}
use Rattle.group_view.specs.Seen.{configs_seen}
use Rattle.group_view.specs.declared.member.Member.{Member}
use Rattle.group_view.proofs.Keeping.{placed_fault, single_fault, within_of, over_of, length_defs}
use Rattle.group_view.proofs.Parting.{if_ok}
use Rattle.group_view.proofs.group.Group.build.Goals as goal

pub returns-then-branch-clause-fault : goal.returns-then-branch-clause-fault
returns-then-branch-clause-fault c =
    let configs = configs_seen c.args.configs.now in
    let members : c.in_ok-members.members.items ≡ map (member_of configs) c.args.def.members = c.in_ok-members.ensures ∙ ap (map (member_of configs)) c.into_vec.ensures in
    placed_fault (group_of configs c.args.def) (sym c.if-branch.true ∙ c.in_ok-is_misplaced.ensures ∙ ap is_misplaced (c.deref.ensures.value ∙ members))

pub returns-then-is_doubled-clause-fault : goal.returns-then-is_doubled-clause-fault
returns-then-is_doubled-clause-fault c =
    let configs = configs_seen c.args.configs.now in
    let members : c.in_ok-members.members.items ≡ map (member_of configs) c.args.def.members = c.in_ok-members.ensures ∙ ap (map (member_of configs)) c.into_vec.ensures in
    single_fault (group_of configs c.args.def) (sym c.if-branch.false ∙ c.in_ok-is_misplaced.ensures ∙ ap is_misplaced (c.deref.ensures.value ∙ members))
    (sym c.if-is_doubled.true ∙ c.is_doubled.ensures ∙ ap is_doubled (c.deref-2.ensures.value ∙ members))

pub of_members-requires-clause-within : goal.of_members-requires-clause-within
of_members-requires-clause-within c =
    let configs = configs_seen c.args.configs.now in
    let members : c.in_ok-members.members.items ≡ map (member_of configs) c.args.def.members = c.in_ok-members.ensures ∙ ap (map (member_of configs)) c.into_vec.ensures in
    subst (λ (ms : List Member). AllByRecursion (λ m. AllByRecursion (λ n. n < length ms) m.def.trigger) ms) (sym members)
    (subst (λ (k : ℕ). AllByRecursion (λ m. AllByRecursion (λ n. n < k) m.def.trigger) (map (member_of configs) c.args.def.members)) (sym (length_defs configs c.args.def.members))
    (within_of configs _ (length c.args.def.members) c.args.def.members c.requires.all_members))

pub returns-clause-over : goal.returns-clause-over
returns-clause-over c =
    let configs = configs_seen c.args.configs.now in
    let members : c.in_ok-members.members.items ≡ map (member_of configs) c.args.def.members = c.in_ok-members.ensures ∙ ap (map (member_of configs)) c.into_vec.ensures in
    if_ok c.of_members.result
    (λ g is. subst (IsOver configs) (sym is) (subst (λ (ms : List Member). AllByRecursion (λ m. MatchOption m.link ⊤ (IsLinkOf configs)) ms) (sym members) (over_of configs c.args.def.members)))
    c.of_members.ensures.group
