-- Which calls of an object in memory fail.
use Rattle.std.specs.Prelude.{◌≡◌, Contains}
use Rattle.pva_outside.specs.Count.{RoseByOne}
use Rattle.pva_outside.specs.declared.memory_calls.MemoryCalls.{MemoryCalls}

-- One call more was made.
pub record IsOneMore (old new : MemoryCalls) : Type 0 where
  pub made : RoseByOne old.made new.made
  pub failing : new.failing.items ≡ old.failing.items

-- The last call is one of those that are to fail.
abbrev pub IsToFail : MemoryCalls → Type 0
IsToFail calls = Contains calls.failing.items calls.made
