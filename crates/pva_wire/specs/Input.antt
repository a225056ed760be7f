-- What is left to read.
use Rattle.std.specs.Prelude.{ℕ, List}
use Rattle.pva_wire.specs.declared.order.Order.{Order}

pub record Input : Type 0 where
  pub order : Order
  -- how many bytes there were
  pub end : ℕ
  pub rest : List ℕ
