use Rattle.std.proofs.Common.{◌≡◌, ◌∙◌, ℕ, Bool, List, Option, Some, None, Bor, option_map, cond, length, eqb, sym, ap, arith}
use Rattle.std.specs.List.{position_or_len, before_first, after_first}
use Rattle.std.proofs.lemmas.Bool.{lt-ltb, le-ltb}
use Rattle.std.proofs.lemmas.Str.Pattern.{split_once_first, IsSplitOnceResult}
use Rattle.cli_text.specs.Put.{split_word}
use Rattle.cli_text.proofs.words.split_word.Goals as goal

split_is : (w : List ℕ) (r : Option (Bor (List ℕ) × Bor (List ℕ))) → IsSplitOnceResult 61 w r → option_map (λ p. (p.0.now, p.1.now)) r ≡ split_word w
split_is w None h =
    let past : position_or_len (λ b. eqb b 61) w ≡ length w = split_once_first 61 w None h (omega arith) in
    sym (ap (λ (b : Bool). cond b (Some (before_first (λ c. eqb c 61) w, after_first (λ c. eqb c 61) w)) None) (le-ltb (position_or_len (λ c. eqb c 61) w) (length w) (omega (arith, past))))
split_is w (Some p) h =
    let cut = split_once_first 61 w (Some p) h (omega arith) in
    (λ i. Some (cut.1 i, cut.2 i))
    ∙ sym (ap (λ (b : Bool). cond b (Some (before_first (λ c. eqb c 61) w, after_first (λ c. eqb c 61) w)) None) (lt-ltb (position_or_len (λ c. eqb c 61) w) (length w) cut.0))

pub returns : goal.returns
returns c = split_is c.args.word.now c.split_once.result c.split_once.ensures.cases
