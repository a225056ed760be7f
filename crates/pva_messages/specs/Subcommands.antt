-- What the subcommand and the status of a message say of the items behind them.
use Rattle.std.specs.Prelude.{◌≡◌, ℕ, Bool, true, false, Option, Some, None, if◌then◌else◌}
use Rattle.pva_wire.specs.declared.status.Status.{Status}
use Rattle.pva_wire.specs.declared.status.StatusKind.{StatusKind}
use Rattle.pva_wire.specs.declared.status.StatusKind.TheVariants.{Good, Warning, Error, Fatal}
use Rattle.pvd_type.specs.Sets.{bit}

-- the bits of a subcommand: 08 begins a request, 10 ends it, 40 asks for a put's present value, 80 says that a count of
-- updates follows
abbrev pub begins : ℕ → Bool
begins sub = bit sub 3

abbrev pub ends : ℕ → Bool
ends sub = bit sub 4

abbrev pub asks_back : ℕ → Bool
asks_back sub = bit sub 6

abbrev pub counts : ℕ → Bool
counts sub = bit sub 7

-- whether a put brings a part
abbrev pub has_part : ℕ → Bool
has_part sub = if begins sub then false else if asks_back sub then false else true

-- whether a reply with this status brings a description, a part or a value: OK or WARNING
abbrev pub carries_kind : StatusKind → Bool
carries_kind Good = true
carries_kind Warning = true
carries_kind Error = false
carries_kind Fatal = false

abbrev pub carries : Status → Bool
carries s = carries_kind s.kind

-- there is none, unless the message has a place for it
abbrev pub OnlyWhere : {A : Type 0} → Bool → Option A → Type 0
OnlyWhere here v = here ≡ false → v ≡ None

-- there is one exactly where the message has a place for it
abbrev pub ExactlyWhere : {A : Type 0} → Bool → Option A → Type 0
ExactlyWhere true None = ⊥
ExactlyWhere true (Some x) = Unit {0}
ExactlyWhere false v = v ≡ None
