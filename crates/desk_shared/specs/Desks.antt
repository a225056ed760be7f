-- Where a desk on a pass stands.
use Rattle.std.specs.Prelude.{◌≡◌, ℕ, Bool, List, [], length, Option, None, Some}
use Rattle.atomic_table.specs.Seated.{TableId}
use Rattle.rec_kinds.specs.declared.state.RecState.{RecState}
use Rattle.desk_api.specs.History.{History, IsLegal}
use Rattle.desk_api.specs.declared.history.Base.{Base}
use Rattle.desk_api.specs.declared.history.SiteData.{SiteData}
use Rattle.desk_core.specs.Ports.{ports_wanted}
use Rattle.desk_shared.specs.Records.{Sight}

-- of what may be away
abbrev pub shown_of : {X A : Type 0} → Option X → A → (X → A) → A
shown_of None other f = other
shown_of (Some x) other f = f x

-- The hall has a cell for each record of the site, and the desk keeps of each record its opening state, and the place of
-- a port where it has one.
pub record IsFurnished (count : ℕ) (site : SiteData) (states : List RecState) (ports : List Bool) : Type 0 where
  pub count_is : count ≡ length site.names
  pub states_are : states ≡ site.opening
  pub ports_are : ports ≡ ports_wanted site.configs

-- The pass is of this hall, and the history that it has seen begins with this site and is legal.
pub record Stands (table : TableId) (count : ℕ) (site : SiteData) (states : List RecState) (ports : List Bool)
    (own : TableId) (v : Sight) : Type 0 where
  pub own_is : own ≡ table
  pub site_is : v.seen.base.site ≡ site
  pub legal : IsLegal v.seen
  pub furnished : IsFurnished count site states ports

-- before any call
abbrev pub first_history : Base → History
first_history base = record { base = base; deeds = [] }
