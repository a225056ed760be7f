-- A link that was just given.
use Rattle.std.specs.Prelude.{◌≡◌, [], IfSome}
use Rattle.pva_outside.specs.Wire.{Wire}

-- Nothing was written to it, where it tells what was, and its counts are 0.
pub record IsFresh (link : Wire) : Type 0 where
  pub written : IfSome link.written (λ bytes. bytes ≡ [])
  pub faults : link.faults ≡ 0
  pub idles : link.idles ≡ 0
  pub ends : link.ends ≡ 0
