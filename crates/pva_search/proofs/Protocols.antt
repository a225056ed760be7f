-- Whether a list of protocols is empty or names TCP.
use Rattle.std.proofs.Common.{◌≡◌, ◌∙◌, ℕ, zero, suc, List, ◌∷◌, length, true, Ok, Err, refl, ap, arith}
use Rattle.pva_wire.specs.declared.order.Order.{Order}
use Rattle.pva_wire.specs.Reading.{Read, ◌>>=◌, count_at, text_at}
use Rattle.pva_wire.proofs.Takes.{differs}
use Rattle.pva_search.specs.Reading.{each_at, texts_at}
use Rattle.pva_search.specs.Answers.{names_tcp, speaks_tcp}
use Rattle.pva_search.specs.Parts.{mapped}

pub none_named : (o : Order) (bytes rest : List ℕ) → count_at o bytes ≡ Ok (0, rest) → mapped speaks_tcp (texts_at o bytes) ≡ Ok (true, rest)
unfolding texts_at each_at
none_named o bytes rest h = rw h refl

speaks_by_name : (t : List ℕ) (ts : List (List ℕ)) → speaks_tcp (t ∷ ts) ≡ names_tcp (t ∷ ts)
speaks_by_name t ts = rw (differs (suc (length ts)) 0 (λ e. omega arith)) refl

named_behind : (t : List ℕ) (read : Read (List (List ℕ)))
    → mapped speaks_tcp (read >>= λ ts. Ok (t ∷ ts.0, ts.1)) ≡ mapped names_tcp (read >>= λ ts. Ok (t ∷ ts.0, ts.1))
named_behind t (Ok ts) = ap (λ b. Ok (b, ts.1)) (speaks_by_name t ts.0)
named_behind t (Err e) = refl

named_first : (o : Order) (n : ℕ) (read : Read (List ℕ))
    → mapped speaks_tcp (read >>= λ t. each_at (text_at o) n t.1 >>= λ ts. Ok (t.0 ∷ ts.0, ts.1))
    ≡ mapped names_tcp (read >>= λ t. each_at (text_at o) n t.1 >>= λ ts. Ok (t.0 ∷ ts.0, ts.1))
named_first o n (Ok t) = named_behind t.0 (each_at (text_at o) n t.1)
named_first o n (Err e) = refl

each_named : (o : Order) (n : ℕ) (bytes : List ℕ) → (n ≡ 0 → ⊥)
    → mapped speaks_tcp (each_at (text_at o) n bytes) ≡ mapped names_tcp (each_at (text_at o) n bytes)
unfolding each_at
each_named o zero bytes some = absurd (some refl)
each_named o (suc n) bytes some = named_first o n (text_at o bytes)

pub some_named : (o : Order) (bytes : List ℕ) (count : ℕ) (rest : List ℕ) → count_at o bytes ≡ Ok (count, rest) → (count ≡ 0 → ⊥)
    → mapped speaks_tcp (texts_at o bytes) ≡ mapped names_tcp (each_at (text_at o) count rest)
unfolding texts_at
some_named o bytes count rest h some = ap (λ (r : Read ℕ). mapped speaks_tcp (r >>= λ n. each_at (text_at o) n.0 n.1)) h ∙ each_named o count rest some
