-- What stands at a place of a group's structure.
use Rattle.std.specs.Prelude.{ℕ}
use Rattle.group_view.specs.Links.{Link}
use Rattle.group_view.specs.declared.piece.Piece.{Piece}

-- what the member of this number shows, and of which record
pub record Source : Type 0 where
  pub member : ℕ
  pub piece : Piece
  pub link : Link
