-- What the client of the drill sends.
use Rattle.std.proofs.Common.{◌≡◌, ℕ, zero, suc, ◌+◌, ◌-◌, ◌*◌, ◌<◌, ◌≤◌, ◌^◌, ◌/◌, ◌%◌, List, [], ◌∷◌, ◌++◌, length, Result, Ok, Err, refl, sym, ◌∙◌, ap, ap₂, arith, append_assoc, codes}
use Rattle.std.specs.Prelude.{OnOk}
use Rattle.std.specs.Fmt.{digits}
use Rattle.std.proofs.lemmas.List.{append-nil}
use Rattle.prog_drill.specs.Drilling.{drill_messages, drill_text, frame_of, input_of, next_number, put, puts, word}

-- what so many puts are, of which there is at least one
pub puts_step : (n x : ℕ) → puts (suc n) x ≡ put ((next_number x / 256) % 16) (next_number (next_number x) % 1000) ∷ puts n (next_number (next_number x))
unfolding puts
puts_step n x = refl

pub no_puts : (x : ℕ) → puts 0 x ≡ []
unfolding puts
no_puts x = refl

length_puts : (n x : ℕ) → length (puts n x) ≡ n
unfolding puts
length_puts zero x = refl
length_puts (suc n) x = ap suc (length_puts n (next_number (next_number x)))

pub length_messages : (n : ℕ) → length (drill_messages n) ≡ 10026
unfolding drill_messages
length_messages n = omega (arith, length_puts 10000 (n % 2 ^ 31))

-- one more put behind what was written, by the next two numbers
put_drawn : (whole out next : List ℕ) (left i x : ℕ) → i < left → out ++ input_of (puts (left - i) x) ≡ whole
    → next ≡ out ++ frame_of (put ((next_number x / 256) % 16) (next_number (next_number x) % 1000)) → next ++ input_of (puts (left - (i + 1)) (next_number (next_number x))) ≡ whole
put_drawn whole out next left i x within so_far is =
    let one : left - i ≡ suc (left - (i + 1)) = omega (arith, within) in
    let rest = input_of (puts (left - (i + 1)) (next_number (next_number x))) in
    let frame = frame_of (put ((next_number x / 256) % 16) (next_number (next_number x) % 1000)) in
    let all : input_of (puts (left - i) x) ≡ frame ++ rest = ap input_of (ap (λ (n : ℕ). puts n x) one ∙ puts_step (left - (i + 1)) x) in
    ap (λ (l : List ℕ). l ++ rest) is ∙ append_assoc out frame rest ∙ ap (λ (l : List ℕ). out ++ l) (sym all) ∙ so_far

pub put_more : (whole out next : List ℕ) (left i x first second : ℕ) → i < left → first ≡ next_number x → second ≡ next_number first → out ++ input_of (puts (left - i) x) ≡ whole
    → next ≡ out ++ frame_of (put ((first / 256) % 16) (second % 1000)) → next ++ input_of (puts (left - (i + 1)) second) ≡ whole
put_more whole out next left i x first second within one two so_far is =
    let both : second ≡ next_number (next_number x) = two ∙ ap next_number one in
    let drawn = is ∙ ap₂ (λ (a b : ℕ). out ++ frame_of (put ((a / 256) % 16) (b % 1000))) one both in
    ap (λ (y : ℕ). next ++ input_of (puts (left - (i + 1)) y)) both ∙ put_drawn whole out next left i x within so_far drawn

-- the database text in full
pub text_is : codes "record(longout, \"drill:0\") { info(Q:group, {\"drill:g0\": {\"a\": {+channel:\"VAL\", +type:\"plain\"}}}) }\nrecord(longout, \"drill:1\") { info(Q:group, {\"drill:g0\": {\"b\": {+channel:\"VAL\", +type:\"plain\"}}}) }\nrecord(longout, \"drill:2\") { info(Q:group, {\"drill:g0\": {\"c\": {+channel:\"VAL\", +type:\"plain\"}}}) }\nrecord(longout, \"drill:3\") { info(Q:group, {\"drill:g0\": {\"d\": {+channel:\"VAL\", +type:\"plain\"}}}) }\nrecord(longout, \"drill:4\") { info(Q:group, {\"drill:g1\": {\"a\": {+channel:\"VAL\", +type:\"plain\"}}}) }\nrecord(longout, \"drill:5\") { info(Q:group, {\"drill:g1\": {\"b\": {+channel:\"VAL\", +type:\"plain\"}}}) }\nrecord(longout, \"drill:6\") { info(Q:group, {\"drill:g1\": {\"c\": {+channel:\"VAL\", +type:\"plain\"}}}) }\nrecord(longout, \"drill:7\") { info(Q:group, {\"drill:g1\": {\"d\": {+channel:\"VAL\", +type:\"plain\"}}}) }\nrecord(longout, \"drill:8\") { info(Q:group, {\"drill:g2\": {\"a\": {+channel:\"VAL\", +type:\"plain\"}}}) }\nrecord(longout, \"drill:9\") { info(Q:group, {\"drill:g2\": {\"b\": {+channel:\"VAL\", +type:\"plain\"}}}) }\nrecord(longout, \"drill:10\") { info(Q:group, {\"drill:g2\": {\"c\": {+channel:\"VAL\", +type:\"plain\"}}}) }\nrecord(longout, \"drill:11\") { info(Q:group, {\"drill:g2\": {\"d\": {+channel:\"VAL\", +type:\"plain\"}}}) }\nrecord(longout, \"drill:12\") { info(Q:group, {\"drill:g3\": {\"a\": {+channel:\"VAL\", +type:\"plain\"}}}) }\nrecord(longout, \"drill:13\") { info(Q:group, {\"drill:g3\": {\"b\": {+channel:\"VAL\", +type:\"plain\"}}}) }\nrecord(longout, \"drill:14\") { info(Q:group, {\"drill:g3\": {\"c\": {+channel:\"VAL\", +type:\"plain\"}}}) }\nrecord(longout, \"drill:15\") { info(Q:group, {\"drill:g3\": {\"d\": {+channel:\"VAL\", +type:\"plain\"}}}) }\n" ≡ drill_text
unfolding drill_text digits
text_is = refl

-- all puts were written
pub puts_end : (whole out : List ℕ) (left i x : ℕ) → left ≤ i → out ++ input_of (puts (left - i) x) ≡ whole → out ≡ whole
puts_end whole out left i x over so_far =
    let none : left - i ≡ 0 = omega (arith, over) in
    sym (append-nil out) ∙ sym (ap (λ (n : ℕ). out ++ input_of (puts n x)) none ∙ ap (λ l. out ++ input_of l) (no_puts x)) ∙ so_far

-- one put, written part by part
pub put_written : (a b c d e f : List ℕ) (n value : ℕ) → b ≡ a ++ 202 ∷ 2 ∷ 0 ∷ 11 ∷ 15 ∷ 0 ∷ 0 ∷ 0 ∷ [] → c ≡ b ++ word n → d ≡ c ++ word n → e ≡ d ++ 0 ∷ 1 ∷ 2 ∷ []
    → f ≡ e ++ word value → f ≡ a ++ frame_of (put n value)
put_written a b c d e f n value one two three four five =
    let head : List ℕ = 202 ∷ 2 ∷ 0 ∷ 11 ∷ 15 ∷ 0 ∷ 0 ∷ 0 ∷ [] in
    let mid : List ℕ = 0 ∷ 1 ∷ 2 ∷ [] in
    five ∙ ap (λ (l : List ℕ). l ++ word value) (four ∙ ap (λ (l : List ℕ). l ++ mid) (three ∙ ap (λ (l : List ℕ). l ++ word n) (two ∙ ap (λ (l : List ℕ). l ++ word n) one)))
    ∙ append_assoc (((a ++ head) ++ word n) ++ word n) mid (word value)
    ∙ append_assoc ((a ++ head) ++ word n) (word n) (mid ++ word value)
    ∙ append_assoc (a ++ head) (word n) (word n ++ (mid ++ word value))
    ∙ append_assoc a head (word n ++ (word n ++ (mid ++ word value)))

pub put_done : {E : Type 0} (a b c d e f : List ℕ) (n value : ℕ) (r : Result (Unit {0}) E) → b ≡ a ++ 202 ∷ 2 ∷ 0 ∷ 11 ∷ 15 ∷ 0 ∷ 0 ∷ 0 ∷ [] → c ≡ b ++ word n → d ≡ c ++ word n
    → e ≡ d ++ 0 ∷ 1 ∷ 2 ∷ [] → OnOk r (f ≡ e ++ word value) → OnOk r (f ≡ a ++ frame_of (put n value))
put_done a b c d e f n value (Ok u) one two three four five = put_written a b c d e f n value one two three four five
put_done a b c d e f n value (Err stop) one two three four five = tt

-- what is sent before the puts
abbrev pub opening_bytes : List ℕ
opening_bytes =
    202 ∷ 2 ∷ 0 ∷ 1 ∷ 19 ∷ 0 ∷ 0 ∷ 0 ∷ 0 ∷ 0 ∷ 1 ∷ 0 ∷ 0 ∷ 0 ∷ 0 ∷ 0 ∷ 9 ∷ 97 ∷ 110 ∷ 111 ∷ 110 ∷ 121 ∷ 109 ∷ 111 ∷ 117 ∷ 115 ∷ 255 ∷ 202 ∷ 2 ∷ 0 ∷
    7 ∷ 252 ∷ 0 ∷ 0 ∷ 0 ∷ 20 ∷ 0 ∷ 0 ∷ 0 ∷ 0 ∷ 0 ∷ 7 ∷ 100 ∷ 114 ∷ 105 ∷ 108 ∷ 108 ∷ 58 ∷ 48 ∷ 1 ∷ 0 ∷ 0 ∷ 0 ∷ 7 ∷ 100 ∷ 114 ∷ 105 ∷ 108 ∷ 108 ∷ 58 ∷
    49 ∷ 2 ∷ 0 ∷ 0 ∷ 0 ∷ 7 ∷ 100 ∷ 114 ∷ 105 ∷ 108 ∷ 108 ∷ 58 ∷ 50 ∷ 3 ∷ 0 ∷ 0 ∷ 0 ∷ 7 ∷ 100 ∷ 114 ∷ 105 ∷ 108 ∷ 108 ∷ 58 ∷ 51 ∷ 4 ∷ 0 ∷ 0 ∷ 0 ∷ 7 ∷
    100 ∷ 114 ∷ 105 ∷ 108 ∷ 108 ∷ 58 ∷ 52 ∷ 5 ∷ 0 ∷ 0 ∷ 0 ∷ 7 ∷ 100 ∷ 114 ∷ 105 ∷ 108 ∷ 108 ∷ 58 ∷ 53 ∷ 6 ∷ 0 ∷ 0 ∷ 0 ∷ 7 ∷ 100 ∷ 114 ∷ 105 ∷ 108 ∷
    108 ∷ 58 ∷ 54 ∷ 7 ∷ 0 ∷ 0 ∷ 0 ∷ 7 ∷ 100 ∷ 114 ∷ 105 ∷ 108 ∷ 108 ∷ 58 ∷ 55 ∷ 8 ∷ 0 ∷ 0 ∷ 0 ∷ 7 ∷ 100 ∷ 114 ∷ 105 ∷ 108 ∷ 108 ∷ 58 ∷ 56 ∷ 9 ∷ 0 ∷
    0 ∷ 0 ∷ 7 ∷ 100 ∷ 114 ∷ 105 ∷ 108 ∷ 108 ∷ 58 ∷ 57 ∷ 10 ∷ 0 ∷ 0 ∷ 0 ∷ 8 ∷ 100 ∷ 114 ∷ 105 ∷ 108 ∷ 108 ∷ 58 ∷ 49 ∷ 48 ∷ 11 ∷ 0 ∷ 0 ∷ 0 ∷ 8 ∷ 100 ∷
    114 ∷ 105 ∷ 108 ∷ 108 ∷ 58 ∷ 49 ∷ 49 ∷ 12 ∷ 0 ∷ 0 ∷ 0 ∷ 8 ∷ 100 ∷ 114 ∷ 105 ∷ 108 ∷ 108 ∷ 58 ∷ 49 ∷ 50 ∷ 13 ∷ 0 ∷ 0 ∷ 0 ∷ 8 ∷ 100 ∷ 114 ∷ 105 ∷
    108 ∷ 108 ∷ 58 ∷ 49 ∷ 51 ∷ 14 ∷ 0 ∷ 0 ∷ 0 ∷ 8 ∷ 100 ∷ 114 ∷ 105 ∷ 108 ∷ 108 ∷ 58 ∷ 49 ∷ 52 ∷ 15 ∷ 0 ∷ 0 ∷ 0 ∷ 8 ∷ 100 ∷ 114 ∷ 105 ∷ 108 ∷ 108 ∷
    58 ∷ 49 ∷ 53 ∷ 16 ∷ 0 ∷ 0 ∷ 0 ∷ 8 ∷ 100 ∷ 114 ∷ 105 ∷ 108 ∷ 108 ∷ 58 ∷ 103 ∷ 48 ∷ 17 ∷ 0 ∷ 0 ∷ 0 ∷ 8 ∷ 100 ∷ 114 ∷ 105 ∷ 108 ∷ 108 ∷ 58 ∷ 103 ∷
    49 ∷ 18 ∷ 0 ∷ 0 ∷ 0 ∷ 8 ∷ 100 ∷ 114 ∷ 105 ∷ 108 ∷ 108 ∷ 58 ∷ 103 ∷ 50 ∷ 19 ∷ 0 ∷ 0 ∷ 0 ∷ 8 ∷ 100 ∷ 114 ∷ 105 ∷ 108 ∷ 108 ∷ 58 ∷ 103 ∷ 51 ∷ 202 ∷
    2 ∷ 0 ∷ 11 ∷ 12 ∷ 0 ∷ 0 ∷ 0 ∷ 0 ∷ 0 ∷ 0 ∷ 0 ∷ 0 ∷ 0 ∷ 0 ∷ 0 ∷ 8 ∷ 128 ∷ 0 ∷ 0 ∷ 202 ∷ 2 ∷ 0 ∷ 11 ∷ 12 ∷ 0 ∷ 0 ∷ 0 ∷ 1 ∷ 0 ∷ 0 ∷ 0 ∷ 1 ∷ 0 ∷ 0 ∷
    0 ∷ 8 ∷ 128 ∷ 0 ∷ 0 ∷ 202 ∷ 2 ∷ 0 ∷ 11 ∷ 12 ∷ 0 ∷ 0 ∷ 0 ∷ 2 ∷ 0 ∷ 0 ∷ 0 ∷ 2 ∷ 0 ∷ 0 ∷ 0 ∷ 8 ∷ 128 ∷ 0 ∷ 0 ∷ 202 ∷ 2 ∷ 0 ∷ 11 ∷ 12 ∷ 0 ∷ 0 ∷ 0 ∷
    3 ∷ 0 ∷ 0 ∷ 0 ∷ 3 ∷ 0 ∷ 0 ∷ 0 ∷ 8 ∷ 128 ∷ 0 ∷ 0 ∷ 202 ∷ 2 ∷ 0 ∷ 11 ∷ 12 ∷ 0 ∷ 0 ∷ 0 ∷ 4 ∷ 0 ∷ 0 ∷ 0 ∷ 4 ∷ 0 ∷ 0 ∷ 0 ∷ 8 ∷ 128 ∷ 0 ∷ 0 ∷ 202 ∷ 2 ∷
    0 ∷ 11 ∷ 12 ∷ 0 ∷ 0 ∷ 0 ∷ 5 ∷ 0 ∷ 0 ∷ 0 ∷ 5 ∷ 0 ∷ 0 ∷ 0 ∷ 8 ∷ 128 ∷ 0 ∷ 0 ∷ 202 ∷ 2 ∷ 0 ∷ 11 ∷ 12 ∷ 0 ∷ 0 ∷ 0 ∷ 6 ∷ 0 ∷ 0 ∷ 0 ∷ 6 ∷ 0 ∷ 0 ∷ 0 ∷
    8 ∷ 128 ∷ 0 ∷ 0 ∷ 202 ∷ 2 ∷ 0 ∷ 11 ∷ 12 ∷ 0 ∷ 0 ∷ 0 ∷ 7 ∷ 0 ∷ 0 ∷ 0 ∷ 7 ∷ 0 ∷ 0 ∷ 0 ∷ 8 ∷ 128 ∷ 0 ∷ 0 ∷ 202 ∷ 2 ∷ 0 ∷ 11 ∷ 12 ∷ 0 ∷ 0 ∷ 0 ∷ 8 ∷
    0 ∷ 0 ∷ 0 ∷ 8 ∷ 0 ∷ 0 ∷ 0 ∷ 8 ∷ 128 ∷ 0 ∷ 0 ∷ 202 ∷ 2 ∷ 0 ∷ 11 ∷ 12 ∷ 0 ∷ 0 ∷ 0 ∷ 9 ∷ 0 ∷ 0 ∷ 0 ∷ 9 ∷ 0 ∷ 0 ∷ 0 ∷ 8 ∷ 128 ∷ 0 ∷ 0 ∷ 202 ∷ 2 ∷ 0 ∷
    11 ∷ 12 ∷ 0 ∷ 0 ∷ 0 ∷ 10 ∷ 0 ∷ 0 ∷ 0 ∷ 10 ∷ 0 ∷ 0 ∷ 0 ∷ 8 ∷ 128 ∷ 0 ∷ 0 ∷ 202 ∷ 2 ∷ 0 ∷ 11 ∷ 12 ∷ 0 ∷ 0 ∷ 0 ∷ 11 ∷ 0 ∷ 0 ∷ 0 ∷ 11 ∷ 0 ∷ 0 ∷ 0 ∷
    8 ∷ 128 ∷ 0 ∷ 0 ∷ 202 ∷ 2 ∷ 0 ∷ 11 ∷ 12 ∷ 0 ∷ 0 ∷ 0 ∷ 12 ∷ 0 ∷ 0 ∷ 0 ∷ 12 ∷ 0 ∷ 0 ∷ 0 ∷ 8 ∷ 128 ∷ 0 ∷ 0 ∷ 202 ∷ 2 ∷ 0 ∷ 11 ∷ 12 ∷ 0 ∷ 0 ∷ 0 ∷
    13 ∷ 0 ∷ 0 ∷ 0 ∷ 13 ∷ 0 ∷ 0 ∷ 0 ∷ 8 ∷ 128 ∷ 0 ∷ 0 ∷ 202 ∷ 2 ∷ 0 ∷ 11 ∷ 12 ∷ 0 ∷ 0 ∷ 0 ∷ 14 ∷ 0 ∷ 0 ∷ 0 ∷ 14 ∷ 0 ∷ 0 ∷ 0 ∷ 8 ∷ 128 ∷ 0 ∷ 0 ∷ 202 ∷
    2 ∷ 0 ∷ 11 ∷ 12 ∷ 0 ∷ 0 ∷ 0 ∷ 15 ∷ 0 ∷ 0 ∷ 0 ∷ 15 ∷ 0 ∷ 0 ∷ 0 ∷ 8 ∷ 128 ∷ 0 ∷ 0 ∷ 202 ∷ 2 ∷ 0 ∷ 13 ∷ 12 ∷ 0 ∷ 0 ∷ 0 ∷ 16 ∷ 0 ∷ 0 ∷ 0 ∷ 16 ∷ 0 ∷
    0 ∷ 0 ∷ 8 ∷ 128 ∷ 0 ∷ 0 ∷ 202 ∷ 2 ∷ 0 ∷ 13 ∷ 12 ∷ 0 ∷ 0 ∷ 0 ∷ 17 ∷ 0 ∷ 0 ∷ 0 ∷ 17 ∷ 0 ∷ 0 ∷ 0 ∷ 8 ∷ 128 ∷ 0 ∷ 0 ∷ 202 ∷ 2 ∷ 0 ∷ 13 ∷ 12 ∷ 0 ∷ 0 ∷
    0 ∷ 18 ∷ 0 ∷ 0 ∷ 0 ∷ 18 ∷ 0 ∷ 0 ∷ 0 ∷ 8 ∷ 128 ∷ 0 ∷ 0 ∷ 202 ∷ 2 ∷ 0 ∷ 13 ∷ 12 ∷ 0 ∷ 0 ∷ 0 ∷ 19 ∷ 0 ∷ 0 ∷ 0 ∷ 19 ∷ 0 ∷ 0 ∷ 0 ∷ 8 ∷ 128 ∷ 0 ∷ 0 ∷
    202 ∷ 2 ∷ 0 ∷ 13 ∷ 9 ∷ 0 ∷ 0 ∷ 0 ∷ 16 ∷ 0 ∷ 0 ∷ 0 ∷ 16 ∷ 0 ∷ 0 ∷ 0 ∷ 68 ∷ 202 ∷ 2 ∷ 0 ∷ 13 ∷ 9 ∷ 0 ∷ 0 ∷ 0 ∷ 17 ∷ 0 ∷ 0 ∷ 0 ∷ 17 ∷ 0 ∷ 0 ∷ 0 ∷
    68 ∷ 202 ∷ 2 ∷ 0 ∷ 13 ∷ 9 ∷ 0 ∷ 0 ∷ 0 ∷ 18 ∷ 0 ∷ 0 ∷ 0 ∷ 18 ∷ 0 ∷ 0 ∷ 0 ∷ 68 ∷ 202 ∷ 2 ∷ 0 ∷ 13 ∷ 9 ∷ 0 ∷ 0 ∷ 0 ∷ 19 ∷ 0 ∷ 0 ∷ 0 ∷ 19 ∷ 0 ∷ 0 ∷
    0 ∷ 68 ∷ []

input_is : (n : ℕ) → opening_bytes ++ input_of (puts 10000 (n % 2 ^ 31)) ≡ input_of (drill_messages n)
unfolding drill_messages digits
input_is n = refl

pub input_written : (n x : ℕ) (empty begun out : List ℕ) → x ≡ n % 2 ^ 31 → empty ≡ [] → begun ≡ empty ++ opening_bytes → out ≡ begun ++ input_of (puts 10000 x) → out ≡ input_of (drill_messages n)
input_written n x empty begun out same none start is =
    let opened : begun ≡ opening_bytes = start ∙ ap (λ (l : List ℕ). l ++ opening_bytes) none in
    is ∙ ap₂ (λ (l : List ℕ) (y : ℕ). l ++ input_of (puts 10000 y)) opened same ∙ input_is n
