-- The record that a member of a group is about.
use Rattle.std.specs.Prelude.{ℕ}
use Rattle.rec_kinds.specs.Configs.{Config}

-- a record: its number, and how it is configured
pub record Link : Type 0 where
  pub rec : ℕ
  pub config : Config
