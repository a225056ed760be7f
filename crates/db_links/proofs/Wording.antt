-- Words, one byte after another.
use Rattle.std.proofs.Common.{◌≡◌, ℕ, ◌+◌, ◌-◌, ◌<◌, ◌≤◌, Bool, true, false, cond, List, [], ◌∷◌, ◌++◌, length, get_or, take, drop, refl, sym, ap, ◌∙◌, arith, add-one}
use Rattle.std.proofs.lemmas.List.{take_more, drop-append-le, length-take-le, drop-take, append_assoc}
use Rattle.std.proofs.Math.Seq.{drop-cons}
use Rattle.std.proofs.Math.ListN.{drop_of_length-le}
use Rattle.db_links.specs.Words.{is_blank, word_of, words_from}

behind : (text : List ℕ) (place d b : ℕ) → place < length text → get_or text place d ≡ b → drop place text ≡ b ∷ drop (place + 1) text
behind text place d b within here = rw (drop-cons text place d within, add-one, here) refl

-- the word that is begun, with one byte more
begun_more : (text : List ℕ) (start place d b : ℕ) → place < length text → start ≤ place → get_or text place d ≡ b
    → drop start (take (place + 1) text) ≡ drop start (take place text) ++ b ∷ []
begun_more text start place d b within before here =
    ap (drop start) (take_more text place d within ∙ ap (λ (x : ℕ). take place text ++ x ∷ []) here)
    ∙ drop-append-le start (take place text) (b ∷ []) (let n : length (take place text) ≡ place = length-take-le place text (omega arith) in omega (arith, n))

-- nothing is begun behind a blank
begun_anew : (text : List ℕ) (place : ℕ) → place < length text → drop (place + 1) (take (place + 1) text) ≡ []
begun_anew text place within = drop_of_length-le (take (place + 1) text) (let n : length (take (place + 1) text) ≡ place + 1 = length-take-le (place + 1) text (omega arith) in omega (arith, n))

-- what is begun, as a slice
pub begun_is : (text : List ℕ) (start place : ℕ) → start ≤ place → take (place - start) (drop start text) ≡ drop start (take place text)
begun_is text start place before =
    let e : start + (place - start) ≡ place = omega arith in
    sym (drop-take start (place - start) text) ∙ ap (λ n. drop start (take n text)) e

pub in_word : (text : List ℕ) (start place d b : ℕ) (made : List (List ℕ)) (whole : List (List ℕ)) → place < length text → start ≤ place → get_or text place d ≡ b → is_blank b ≡ false
    → made ++ words_from (drop start (take place text)) (drop place text) ≡ whole
    → made ++ words_from (drop start (take (place + 1) text)) (drop (place + 1) text) ≡ whole
in_word text start place d b made whole within before here is so_far =
    ap (λ (w : List ℕ). made ++ words_from w (drop (place + 1) text)) (begun_more text start place d b within before here)
    ∙ ap (λ (c : Bool). made ++ cond c (word_of (drop start (take place text)) ++ words_from [] (drop (place + 1) text)) (words_from (drop start (take place text) ++ b ∷ []) (drop (place + 1) text))) (sym is)
    ∙ ap (λ (bs : List ℕ). made ++ words_from (drop start (take place text)) bs) (sym (behind text place d b within here))
    ∙ so_far

pub at_blank : (text : List ℕ) (start place d b : ℕ) (made more whole : List (List ℕ)) → place < length text → start ≤ place → get_or text place d ≡ b → is_blank b ≡ true
    → more ≡ made ++ word_of (drop start (take place text))
    → made ++ words_from (drop start (take place text)) (drop place text) ≡ whole
    → more ++ words_from (drop (place + 1) (take (place + 1) text)) (drop (place + 1) text) ≡ whole
at_blank text start place d b made more whole within before here is grown so_far =
    ap (λ (w : List ℕ). more ++ words_from w (drop (place + 1) text)) (begun_anew text place within)
    ∙ ap (λ (m : List (List ℕ)). m ++ words_from [] (drop (place + 1) text)) grown
    ∙ append_assoc made (word_of (drop start (take place text))) (words_from [] (drop (place + 1) text))
    ∙ ap (λ (c : Bool). made ++ cond c (word_of (drop start (take place text)) ++ words_from [] (drop (place + 1) text)) (words_from (drop start (take place text) ++ b ∷ []) (drop (place + 1) text))) (sym is)
    ∙ ap (λ (bs : List ℕ). made ++ words_from (drop start (take place text)) bs) (sym (behind text place d b within here))
    ∙ so_far
