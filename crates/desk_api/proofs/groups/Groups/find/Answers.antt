use Rattle.std.specs.Prelude.{◌≡◌, ℕ, Option, List, position, bytes_eq, string_bytes, map}
use Rattle.std.specs.Option.{option_map}
use Rattle.std.proofs.Common.{sym, ◌∙◌, ap, String, Global}
use Rattle.std.proofs.lemmas.Iterator.Adapters.{position_from-zero}
use Rattle.group_view.specs.Groups.{GroupData}
use Rattle.desk_api.proofs.Naming.{group_place}
use Rattle.desk_api.specs.Sites.{channel_of, first_named, group_names_from}
use Rattle.desk_api.specs.declared.channel.ChannelKind.TheVariants.{Group}
use Rattle.desk_api.proofs.groups.Groups.find.Goals as goal

-- what was found at a place of the set is the group's channel
found_at : (name : List ℕ) (keys : List (String Global)) (groups seen : List GroupData) (found : Option ℕ) → map string_bytes keys ≡ map (λ (g : GroupData). g.name) groups → groups ≡ seen
    → found ≡ position (λ k. bytes_eq name (string_bytes k)) keys → option_map (channel_of Group) found ≡ first_named name (group_names_from 0 seen)
found_at name keys groups seen found names view_is index =
    ap (option_map (channel_of Group)) (index ∙ position_from-zero (λ k. bytes_eq name (string_bytes k)) keys)
    ∙ sym (group_place 0 name keys groups names)
    ∙ ap (λ (gs : List GroupData). first_named name (group_names_from 0 gs)) view_is

pub returns-in-Some : goal.returns-in-Some
returns-in-Some c = ap (option_map (channel_of Group)) (sym c.in-Some.is) ∙ found_at c.args.name.now c.self.inside.names.keys c.self.inside.groups.items _ _ c.self.invariant.1 c.self.view_is c.get_index_of.ensures.index

pub returns-in-None : goal.returns-in-None
returns-in-None c = ap (option_map (channel_of Group)) (sym c.in-None.is) ∙ found_at c.args.name.now c.self.inside.names.keys c.self.inside.groups.items _ _ c.self.invariant.1 c.self.view_is c.get_index_of.ensures.index
