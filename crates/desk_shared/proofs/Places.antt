-- The places of the ports of records.
use Rattle.std.proofs.Common.{◌≡◌, ◌++◌, ℕ, zero, suc, List, [], ◌∷◌, Bool, Option, None, Some, Bor, take, refl, sym, ap, ◌∙◌}
use Rattle.std.specs.Option.{option_copied}
use Rattle.std.specs.Prelude.{is_some, option_map, slice_get}
use Rattle.rec_kinds.specs.Configs.{Config}
use Rattle.desk_core.specs.Ports.{ports_wanted}

copied : (port : Option (Bor (List ℕ))) → is_some (option_copied port) ≡ is_some port
copied None = refl
copied (Some port) = refl

-- of one record more a place is wanted where its configuration has a port
pub one_more : (configs : List Config) (n : ℕ) (port : Option (Bor (List ℕ))) → Some (option_copied port) ≡ option_map (λ (config : Config). config.port) (slice_get configs n)
    → take (suc n) (ports_wanted configs) ≡ take n (ports_wanted configs) ++ is_some port ∷ []
one_more [] n port is = absurd (cc is)
one_more (config ∷ configs) zero port is =
    let same : option_copied port ≡ config.port = cc in
    ap (λ (b : Bool). b ∷ []) (ap (λ (o : Option (List ℕ)). is_some o) (sym same) ∙ copied port)
one_more (config ∷ configs) (suc n) port is = ap (λ (l : List Bool). is_some config.port ∷ l) (one_more configs n port is)
