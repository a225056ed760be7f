use Rattle.std.specs.Prelude.{◌≡◌, Option, List, position, bytes_eq, string_bytes, ℕ}
use Rattle.std.specs.Map.{keys_of}
use Rattle.std.specs.Option.{option_map}
use Rattle.std.proofs.Common.{sym, ◌∙◌, ap}
use Rattle.std.proofs.lemmas.Iterator.Adapters.{position_from-zero}
use Rattle.desk_api.proofs.Recording.{Entries, data_of, at_place}
use Rattle.desk_api.specs.Records.{channel_at}
use Rattle.desk_api.specs.Sites.{channel_of}
use Rattle.desk_api.specs.declared.channel.ChannelKind.{ChannelKind}
use Rattle.desk_api.specs.declared.history.SiteData.{SiteData}
use Rattle.desk_api.proofs.records.Records.channel.Goals as goal

-- what was found at a place of the map is the channel's
found_at : (kind : ChannelKind) (name : List ℕ) (es : Entries) (site : SiteData) (found : Option ℕ) → data_of es ≡ site → found ≡ position (λ k. bytes_eq name (string_bytes k)) (keys_of es)
    → option_map (channel_of kind) found ≡ channel_at kind 0 site.names name
found_at kind name es site found view_is index =
    ap (option_map (channel_of kind)) (index ∙ position_from-zero (λ k. bytes_eq name (string_bytes k)) (keys_of es))
    ∙ sym (at_place kind 0 name es)
    ∙ ap (λ (s : SiteData). channel_at kind 0 s.names name) view_is

pub returns-in-Some-clause-found : goal.returns-in-Some-clause-found
returns-in-Some-clause-found c = ap (option_map (channel_of c.args.kind)) (sym c.in-Some.is) ∙ found_at c.args.kind c.args.name.now c.self.inside.by_name.entries _ _ c.self.view_is c.get_index_of.ensures.index

pub returns-in-None-clause-found : goal.returns-in-None-clause-found
returns-in-None-clause-found c = ap (option_map (channel_of c.args.kind)) (sym c.in-None.is) ∙ found_at c.args.kind c.args.name.now c.self.inside.by_name.entries _ _ c.self.view_is c.get_index_of.ensures.index
