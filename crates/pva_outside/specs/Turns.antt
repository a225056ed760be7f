-- How much the links in memory move in one call.
use Rattle.std.specs.Prelude.{◌≡◌, ℕ, ◌<◌, ⊤, min, max}
use Rattle.pva_outside.specs.declared.link.ReadStep.{ReadStep}
use Rattle.pva_outside.specs.declared.link.ReadStep.TheVariants as reads
use Rattle.pva_outside.specs.declared.link.WriteStep.{WriteStep}
use Rattle.pva_outside.specs.declared.link.WriteStep.TheVariants as writes
use Rattle.pva_outside.specs.declared.memory.Turn.{Turn}
use Rattle.pva_outside.specs.declared.memory.Turn.TheVariants as turns

-- A read that can give n bytes gives them all, and none is the end.
pub record Gives (n : ℕ) (step : ReadStep) : Type 0 where
  pub at_end : n ≡ 0 → step ≡ reads.End
  pub gives : 0 < n → step ≡ reads.Got n

-- A write that can take n bytes takes them all, or there is no memory for them.
abbrev pub Takes : ℕ → WriteStep → Type 0
Takes n (writes.Took m) = m ≡ n
Takes n writes.NoMemory = ⊤
Takes n writes.Idle = ⊥
Takes n writes.Failed = ⊥

-- What a read answers at this turn, where n bytes could be given. A turn that gives nothing gives 1.
abbrev pub ReadsBy : Turn → ℕ → ReadStep → Type 0
ReadsBy (turns.Give most) n step = Gives (min (max most 1) n) step
ReadsBy turns.Idle n step = step ≡ reads.Idle
ReadsBy turns.Fail n step = step ≡ reads.Failed

-- What a write answers at this turn, where it was given n bytes.
abbrev pub WritesBy : Turn → ℕ → WriteStep → Type 0
WritesBy (turns.Give most) n step = Takes (min (max most 1) n) step
WritesBy turns.Idle n step = step ≡ writes.Idle
WritesBy turns.Fail n step = step ≡ writes.Failed
