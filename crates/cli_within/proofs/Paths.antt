-- The fields that the words ask for.
use Rattle.std.proofs.Common.{◌≡◌, ℕ, ◌<◌, ◌≤◌, Bool, true, List, Bor, length, map, sym, ◌∙◌, ap, arith}
use Rattle.std.specs.Prelude.{◌==◌, ◌&&◌, false, nat_le}
use Rattle.std.specs.List.{list_all, slice_split}
use Rattle.std.proofs.lemmas.Bool.{both_ways, le-leb, lt-leb}
use Rattle.std.proofs.lemmas.List.{length-map}
use Rattle.std.proofs.lemmas.List.Folds.{list_all-map}
use Rattle.cli_within.specs.Words.{AreFields, is_path, is_some_part}

-- a path

pub too_deep : (text : List ℕ) (parts : List (Bor (List ℕ))) → map (λ (b : Bor (List ℕ)). b.now) parts ≡ slice_split (λ c. c == 46) text → 30 < length parts → false ≡ is_path text
too_deep text parts cut deep =
    let long : nat_le (length (slice_split (λ c. c == 46) text)) 30 ≡ false = lt-leb (length (slice_split (λ c. c == 46) text)) 30 (omega (arith, deep, ap length cut, length-map parts (λ (b : Bor (List ℕ)). b.now))) in
    sym (ap (λ (b : Bool). b && list_all is_some_part (slice_split (λ c. c == 46) text)) long)

pub deep_enough : (text : List ℕ) (parts : List (Bor (List ℕ))) (b : Bool) → map (λ (b : Bor (List ℕ)). b.now) parts ≡ slice_split (λ c. c == 46) text → length parts ≤ 30
    → b ≡ list_all (λ (p : Bor (List ℕ)). is_some_part p.now) parts → b ≡ is_path text
deep_enough text parts b cut few is =
    let short : nat_le (length (slice_split (λ c. c == 46) text)) 30 ≡ true = le-leb (length (slice_split (λ c. c == 46) text)) 30 (omega (arith, few, ap length cut, length-map parts (λ (b : Bor (List ℕ)). b.now))) in
    is ∙ sym (list_all-map is_some_part (λ (p : Bor (List ℕ)). p.now) parts) ∙ ap (list_all is_some_part) cut
    ∙ sym (ap (λ (b : Bool). b && list_all is_some_part (slice_split (λ c. c == 46) text)) short)

-- several of them

pub too_many : (text : List ℕ) (parts : List (Bor (List ℕ))) → map (λ (b : Bor (List ℕ)). b.now) parts ≡ slice_split (λ c. c == 44) text → 64 < length parts → (paths : List (List ℕ))
    → ¬ (AreFields text paths)
too_many text parts cut many paths is = let few = is.few in omega (arith, many, few, ap length is.paths_are, ap length cut, length-map parts (λ (b : Bor (List ℕ)). b.now))

pub bad_path : (text : List ℕ) (parts : List (Bor (List ℕ))) → map (λ (b : Bor (List ℕ)). b.now) parts ≡ slice_split (λ c. c == 44) text
    → list_all (λ (p : Bor (List ℕ)). is_path p.now) parts ≡ false → (paths : List (List ℕ)) → ¬ (AreFields text paths)
bad_path text parts cut bad paths is =
    both_ways (list_all (λ (p : Bor (List ℕ)). is_path p.now) parts) bad
    (sym (list_all-map is_path (λ (p : Bor (List ℕ)). p.now) parts) ∙ ap (list_all is_path) cut ∙ ap (list_all is_path) (sym is.paths_are) ∙ is.each)

pub are_fields : (text : List ℕ) (parts : List (Bor (List ℕ))) (names : List (List ℕ)) → map (λ (b : Bor (List ℕ)). b.now) parts ≡ slice_split (λ c. c == 44) text → length parts ≤ 64
    → list_all (λ (p : Bor (List ℕ)). is_path p.now) parts ≡ true → names ≡ map (λ (b : Bor (List ℕ)). b.now) parts → AreFields text names
are_fields text parts names cut few each same = record {
  paths_are = same ∙ cut;
  few = omega (arith, few, ap length same, length-map parts (λ (b : Bor (List ℕ)). b.now));
  each = ap (list_all is_path) same ∙ list_all-map is_path (λ (p : Bor (List ℕ)). p.now) parts ∙ each;
}
