-- Groups that can be viewed.
use Rattle.std.proofs.Common.{ℕ, ◌+◌, List, [], ◌∷◌, length, Option, None, Some}
use Rattle.std.specs.Prelude.{⊤, MatchOption}
use Rattle.std.specs.FinSet.{FinSet}
use Rattle.std.specs.List.{AllByRecursion}
use Rattle.std.specs.Ordering.{nat_cmp}
use Rattle.pvd_type.specs.Numbers.{numbered}
use Rattle.rec_kinds.specs.Configs.{Config}
use Rattle.rec_kinds.specs.declared.state.RecState.{RecState}
use Rattle.group_view.specs.Groups.{GroupData, IsLinkOf, IsReady, AreReady, HasState, AreConfigured}
use Rattle.group_view.specs.Links.{Link}
use Rattle.group_view.specs.Slots.{Slot, shows, level, Slots, no_slots, slot, structure_of, EachShown, EachOfShown}
use Rattle.group_view.specs.Types.{slot_tree}
use Rattle.group_view.specs.Views.{IsReadyUnder, AreReadyUnder, IsReadyFor}
use Rattle.group_view.specs.declared.member.Member.{Member}
use Rattle.group_view.proofs.Depending.{slots_ready}

module _ (configs : List Config) (states : List RecState) (valid : AreConfigured configs states) where
  link_ready : (o : Option Link) → MatchOption o ⊤ (IsLinkOf configs) → MatchOption o ⊤ (HasState states)
  link_ready None h = tt
  link_ready (Some l) h = valid l.rec l.config h

  pub over_ready : (ms : List Member) → AllByRecursion (λ m. MatchOption m.link ⊤ (IsLinkOf configs)) ms → AllByRecursion (IsReady states) ms
  over_ready [] h = tt
  over_ready (m ∷ ms) h = (link_ready m.link h.0, over_ready ms h.1)

module _ (mask : FinSet nat_cmp) (states : List RecState) where
  mutual
    under : (t : Slot) (n : ℕ) → EachShown (λ s. HasState states s.link) t → IsReadyUnder mask states n t
    under (shows s) n h = λ k from to marked. h
    under (level id ss) n h = all_under ss (n + 1) h

    all_under : (ss : Slots) (n : ℕ) → EachOfShown (λ s. HasState states s.link) ss → AreReadyUnder mask states n ss
    all_under no_slots n h = tt
    all_under (slot name s ss) n h = (under s n h.0, all_under ss (n + length (numbered (slot_tree s))) h.1)

  pub parts_ready : (g : GroupData) → AreReady states g → IsReadyFor mask states g
  unfolding structure_of IsReadyFor
  parts_ready g ready = all_under _ 1 (slots_ready states g ready)
