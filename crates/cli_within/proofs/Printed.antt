-- Texts that are printed one after another.
use Rattle.std.proofs.Common.{◌≡◌, ℕ, List, [], ◌++◌, Option, Err, refl, sym, ◌∙◌, ap, subst, append_assoc}
use Rattle.pva_outside.specs.Count.{Rose}
use Rattle.histories.specs.History.{IsPrefixOf}
use Rattle.prog_source.specs.Printing.{IsPart}
use Rattle.prog_source.specs.declared.printing.Printed.TheVariants.{NoMemory}
use Rattle.prog_source.proofs.Told.{appends_more, appends_none}
use Rattle.cli_within.specs.Ends.{HasPrinted}
use Rattle.cli_within.specs.Telling.{Puts}
use Rattle.cli_within.specs.declared.stop.Stop.{Stop}
use Rattle.cli_within.specs.declared.stop.Stop.TheVariants as stops

pub printed_nothing : (now : Option (List ℕ)) (faults : ℕ) → HasPrinted now now faults faults []
printed_nothing now faults = record { printed = appends_none now; same = refl }

pub printed_more : {a b c : Option (List ℕ)} {l m n : ℕ} {xs ys : List ℕ} → HasPrinted a b l m xs → HasPrinted b c m n ys → HasPrinted a c l n (xs ++ ys)
printed_more {a} {b} {c} {l} {m} {n} {xs} {ys} p q = record { printed = appends_more a b c xs ys p.printed q.printed; same = q.same ∙ p.same }

pub printed_as : {a b : Option (List ℕ)} {l m : ℕ} {xs ys : List ℕ} → xs ≡ ys → HasPrinted a b l m xs → HasPrinted a b l m ys
printed_as {a} {b} {l} {m} {xs} {ys} is p = subst (HasPrinted a b l m) is p

-- A front of a text.

pub part_of_printed : {a b : Option (List ℕ)} {l m : ℕ} {xs ys : List ℕ} → HasPrinted a b l m xs → IsPrefixOf xs ys → IsPart a b ys
part_of_printed {a} {b} {l} {m} {xs} {ys} p front = record { front = xs; rest = front.rest; whole = front.whole; printed = p.printed }

part_behind : {a b c : Option (List ℕ)} {l m : ℕ} {xs ys : List ℕ} (zs : List ℕ) → HasPrinted a b l m xs → IsPart b c ys → IsPart a c (xs ++ (ys ++ zs))
part_behind {a} {b} {c} {l} {m} {xs} {ys} zs p q = record {
  front = xs ++ q.front;
  rest = q.rest ++ zs;
  whole = ap (λ (z : List ℕ). xs ++ (z ++ zs)) q.whole ∙ ap (λ (z : List ℕ). xs ++ z) (append_assoc q.front q.rest zs) ∙ sym (append_assoc xs q.front (q.rest ++ zs));
  printed = appends_more a b c xs q.front p.printed q.printed;
}

-- a print that stopped behind others, of a text that goes on
pub puts_behind : {a b : Option (List ℕ)} (c : Option (List ℕ)) {l m : ℕ} (n : ℕ) {xs : List ℕ} (ys zs : List ℕ) (stop : Stop) → HasPrinted a b l m xs → Puts b c m n ys (Err stop) → Puts a c l n (xs ++ (ys ++ zs)) (Err stop)
puts_behind {a} {b} c {l} {m} n {xs} ys zs stops.Sink p q = (part_behind zs p q.0, subst (λ (k : ℕ). Rose k n) p.same q.1)
puts_behind {a} {b} c {l} {m} n {xs} ys zs stops.NoMemory p q = (part_behind zs p q.0, q.1 ∙ p.same)
puts_behind {a} {b} c {l} {m} n {xs} ys zs (stops.Client f) p q = absurd q
puts_behind {a} {b} c {l} {m} n {xs} ys zs (stops.Frame f) p q = absurd q

pub puts_as : (a b : Option (List ℕ)) (m n : ℕ) {xs ys : List ℕ} (stop : Stop) → xs ≡ ys → Puts a b m n xs (Err stop) → Puts a b m n ys (Err stop)
puts_as a b m n {xs} {ys} stop is p = subst (λ (z : List ℕ). Puts a b m n z (Err stop)) is p
