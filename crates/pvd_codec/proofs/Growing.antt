-- What a writer left begins with what was there.
use Rattle.std.proofs.Common.{◌≡◌, ◌∙◌, ℕ, List, [], ◌++◌, ap, sym, append_assoc, append-nil}
use Rattle.pvd_codec.specs.Written.{Begins}

pub begins_same : (xs : List ℕ) → Begins xs xs
begins_same xs = record { after = []; parts = sym (append-nil xs) }

pub begins_written : (old new added : List ℕ) → new ≡ old ++ added → Begins old new
begins_written old new added e = record { after = added; parts = e }

pub begins_is : (old new : List ℕ) → new ≡ old → Begins old new
begins_is old new e = record { after = []; parts = e ∙ sym (append-nil old) }

pub begins_on : (a b c : List ℕ) → Begins a b → Begins b c → Begins a c
begins_on a b c x y = record { after = x.after ++ y.after; parts = y.parts ∙ ap (λ (s : List ℕ). s ++ y.after) x.parts ∙ append_assoc a x.after y.after }
