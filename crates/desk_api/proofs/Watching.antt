-- What subscriptions see of a channel.
use Rattle.std.specs.Prelude.{◌≡◌, ◌==◌, ℕ, Bool, List, [], ◌∷◌, Option, None, Some, slice_get, refl}
use Rattle.std.specs.FinSet.{FinSet, contains, empty}
use Rattle.std.specs.Ordering.{nat_cmp}
use Rattle.std.proofs.Common.{true, false, cond, ◌||◌, sym, ◌∙◌, ap, subst}
use Rattle.std.proofs.lemmas.Bool.{false≢true}
use Rattle.pvd_type.specs.Numbers.{leaves}
use Rattle.rec_kinds.specs.declared.state.RecState.{RecState}
use Rattle.pvd_value.specs.Data.{Data}
use Rattle.pvd_value.specs.Fits.{fits_of}
use Rattle.pvd_value.specs.Leaves.{leaf_at}
use Rattle.pvd_value.specs.Merge.{merged}
use Rattle.pvd_value.proofs.Slots.{merged_leaf}
use Rattle.mon_shown.specs.Channels.{is_one_of}
use Rattle.group_view.specs.Built.{is_in}
use Rattle.group_view.specs.Groups.{GroupData, AreReady}
use Rattle.group_view.specs.Leaves.{records_of, triggered}
use Rattle.group_view.specs.Types.{group_tree}
use Rattle.group_view.specs.Views.{group_shown}
use Rattle.group_view.proofs.Keeping.{no_record, nothing_triggered}
use Rattle.desk_api.proofs.Holding.{turned_eq}
use Rattle.desk_api.proofs.Showing.{group_fits}
use Rattle.desk_api.specs.Sites.{footprint_for, footprint_of, records_in}
use Rattle.desk_api.specs.Triggers.{triggered_in, triggers_for, triggers_of}
use Rattle.desk_api.specs.Types.{type_of, group_type}
use Rattle.desk_api.specs.Views.{grouped}
use Rattle.desk_api.specs.declared.channel.Channel.{Channel}
use Rattle.desk_api.specs.declared.channel.ChannelKind.{ChannelKind}
use Rattle.desk_api.specs.declared.channel.ChannelKind.TheVariants.{Rec, Desc, Group, Service}
use Rattle.desk_api.specs.declared.history.SiteData.{SiteData}

-- ---- a record that the channel doesn't read triggers nothing

any_turned : (ns : List ℕ) (n : ℕ) → is_in ns n ≡ is_one_of ns n
any_turned [] n = refl
any_turned (k ∷ ns) n = (λ i. turned_eq k n i || any_turned ns n i)

group_untriggered : (g : GroupData) (rec : ℕ) → is_one_of (records_of g.members) rec ≡ false → triggered g rec ≡ empty
group_untriggered g rec other = sym (nothing_triggered g rec (no_record g rec (any_turned (records_of g.members) rec ∙ other)))

group_none : (group : Option GroupData) (rec : ℕ) → is_one_of (records_in group) rec ≡ false → triggered_in group rec ≡ empty
group_none None rec other = refl
group_none (Some g) rec other = group_untriggered g rec other

not_this : (here : Bool) (all : FinSet nat_cmp) → (here || false) ≡ false → cond here all empty ≡ empty
not_this true all other = absurd (false≢true (sym other))
not_this false all other = refl

none_for : (kind : ChannelKind) (site : SiteData) (n rec : ℕ) → is_one_of (footprint_for kind site n) rec ≡ false → triggers_for kind site n rec ≡ empty
none_for Rec site n rec other = not_this (rec == n) (leaves (type_of site (record { kind = Rec; number = n }))) other
none_for Desc site n rec other = refl
none_for Group site n rec other = group_none (slice_get site.groups n) rec other
none_for Service site n rec other = refl

pub untriggered : (site : SiteData) (channel : Channel) (rec : ℕ) → is_one_of (footprint_of site channel) rec ≡ false → triggers_of site channel rec ≡ empty
untriggered site channel rec other = none_for channel.kind site channel.number rec other

-- ---- the marked leaves of a group's part are those of what it shows

pub part_is : (group : Option GroupData) (g : GroupData) (states : List RecState) (mask : FinSet nat_cmp) (old new : Data) → group ≡ Some g → AreReady states g
    → fits_of 16 old (group_tree g) ≡ true → new ≡ merged (contains mask) 0 (group_tree g) old (group_shown g states)
    → (k : ℕ) → contains mask k ≡ true → leaf_at k (group_type group) new ≡ leaf_at k (group_type group) (grouped group states)
part_is group g states mask old new is ready fits merge k marked =
    let t = group_tree g in
    let all = group_shown g states in
    let there : leaf_at k t new ≡ leaf_at k t all =
    ap (leaf_at k t) merge ∙ merged_leaf 16 (contains mask) t old all k fits (group_fits g states ready) ∙ ap (λ b. cond b (leaf_at k t all) (leaf_at k t old)) marked in
    subst (λ (o : Option GroupData). leaf_at k (group_type o) new ≡ leaf_at k (group_type o) (grouped o states)) (sym is) there
