-- Records are read exactly where their forms are written.
use Rattle.std.proofs.Common.{◌≡◌, ℕ, zero, suc, ◌+◌, ◌≤◌, Bool, cond, true, false, List, [], ◌∷◌, ◌++◌, length, Option, Some, None, Result, Ok, Err, is_some, codes, refl, sym, ap, subst, ◌∙◌, arith, length-append}
use Rattle.std.proofs.lemmas.Bool.{true≢false}
use Rattle.std.proofs.lemmas.Slice.Eq.{bytes_eq-Decides}
use Rattle.std.specs.Str.{bytes_eq}
use Rattle.db_text.specs.Grammar.{is_name}
use Rattle.db_text.specs.declared.token.Token.{Token}
use Rattle.db_text.specs.declared.token.TokenKind.{TokenKind}
use Rattle.db_text.specs.declared.token.TokenKind.TheVariants.{Bare, Quoted, Mark, Json}
use Rattle.rec_kinds.specs.declared.kind.Kind.{Kind}
use Rattle.rec_kinds.specs.declared.record_text.FieldText.{FieldText}
use Rattle.rec_kinds.specs.declared.record_text.Info.{Info}
use Rattle.rec_kinds.specs.declared.record_text.RecText.{RecText}
use Rattle.rec_kinds.specs.Kinds.{kind_of}
use Rattle.rec_kinds.specs.Fields.{rule_of}
use Rattle.db_load.specs.declared.bodies.Item.{Item}
use Rattle.db_load.specs.declared.fault.LoadFault.TheVariants as faults
use Rattle.db_load.specs.declared.bodies.Item.TheVariants as items
use Rattle.db_load.specs.Forms.{Stop, short, faulty, Tokens, Read, ◌>>=◌, bad, next, mark_in, mark_at, word_in, word_at, value_in, value_at, told_at, known_in, known_at, field_of, field_at, info_of, info_at, as_field, as_info, keyword_at, item_in, item_at, Body, with_items, after_item, body_at, is_record_name, is_among, name_in, kind_in, begin_in, begin_at, head_with, record_of, record_with, then_records, records_from}
use Rattle.db_load.specs.Grammar.{IsWord, IsMark, IsText, is_value, is_json, Part, field, info, parts_tokens, AreParts, fields_of, infos_of, Head, IsHead, Form, form_tokens, IsForm, record_is, RecordsAfter}

pub same_bytes : (xs ys : List ℕ) → xs ≡ ys → bytes_eq xs ys ≡ true
same_bytes xs ys e = (bytes_eq-Decides xs ys).1 e

-- each token that is written is read
pub mark_only : (b : ℕ) (t : Token) (rest : Tokens) → IsMark b t → mark_at b (t ∷ rest) ≡ Ok rest
unfolding mark_at next
mark_only b t rest is = ap (λ (k : TokenKind). mark_in b t k rest) is.0 ∙ rw (same_bytes t.text (b ∷ []) is.1) refl

begin_only : (t : Token) (rest : Tokens) → IsWord (codes "record") t → begin_at (t ∷ rest) ≡ Ok (t, rest)
unfolding begin_at next
begin_only t rest is = ap (λ (k : TokenKind). begin_in t k rest) is.0 ∙ rw (same_bytes t.text (codes "record") is.1) refl

word_kind : (t : Token) (rest : Tokens) (k : TokenKind) → is_name k ≡ true → word_in t k rest ≡ Ok (t, rest)
word_kind t rest Bare h = refl
word_kind t rest Quoted h = refl
word_kind t rest Mark h = absurd (true≢false (sym h))
word_kind t rest Json h = absurd (true≢false (sym h))

word_only : (t : Token) (rest : Tokens) → IsText t → word_at (t ∷ rest) ≡ Ok (t, rest)
unfolding word_at next
word_only t rest h = word_kind t rest t.kind h

value_kind : (t : Token) (rest : Tokens) (k : TokenKind) → is_value k ≡ true → value_in t k rest ≡ Ok ((t, is_json k), rest)
value_kind t rest Bare h = refl
value_kind t rest Quoted h = refl
value_kind t rest Json h = refl
value_kind t rest Mark h = absurd (true≢false (sym h))

value_only : (t : Token) (rest : Tokens) → is_value t.kind ≡ true → value_at (t ∷ rest) ≡ Ok ((t, is_json t.kind), rest)
unfolding value_at next
value_only t rest h = value_kind t rest t.kind h

known_only : (kind : Kind) (n : Token) (rest : Tokens) → IsText n → is_some (rule_of kind n.text) ≡ true → known_at kind (n ∷ rest) ≡ Ok (n, rest)
unfolding known_at
known_only kind n rest a b = rw (word_only n rest a, b) refl

pub field_only : (kind : Kind) (o n c t e : Token) (rest : Tokens) → IsMark 40 o → IsText n → IsMark 44 c → IsText t → is_some (rule_of kind n.text) ≡ true → IsMark 41 e
    → field_at kind (o ∷ n ∷ c ∷ t ∷ e ∷ rest) ≡ Ok (record { name = n.text; text = t.text; line = t.line }, rest)
unfolding field_at
field_only kind o n c t e rest a b d f g h =
    rw (mark_only 40 o (n ∷ c ∷ t ∷ e ∷ rest) a, known_only kind n (c ∷ t ∷ e ∷ rest) b g, mark_only 44 c (t ∷ e ∷ rest) d, word_only t (e ∷ rest) f, mark_only 41 e rest h) refl

pub info_only : (o n c v e : Token) (rest : Tokens) → IsMark 40 o → IsText n → IsMark 44 c → is_value v.kind ≡ true → IsMark 41 e
    → info_at (o ∷ n ∷ c ∷ v ∷ e ∷ rest) ≡ Ok (record { name = n.text; text = v.text; json = is_json v.kind; line = v.line }, rest)
unfolding info_at
info_only o n c v e rest a b d f h =
    rw (mark_only 40 o (n ∷ c ∷ v ∷ e ∷ rest) a, word_only n (c ∷ v ∷ e ∷ rest) b, mark_only 44 c (v ∷ e ∷ rest) d, value_only v (e ∷ rest) f, mark_only 41 e rest h) refl

pub item_bare : (kind : Kind) (w : Token) (rest : Tokens) → w.kind ≡ Bare → item_at kind (w ∷ rest) ≡ keyword_at kind w rest
unfolding item_at next
item_bare kind w rest is = ap (λ (k : TokenKind). item_in kind w k rest) is

pub item_close : (kind : Kind) (e : Token) (rest : Tokens) → IsMark 125 e → item_at kind (e ∷ rest) ≡ Ok (items.Close, rest)
unfolding item_at next
item_close kind e rest is = ap (λ (k : TokenKind). item_in kind e k rest) is.0 ∙ rw (same_bytes e.text (125 ∷ []) is.1) refl

pub word_field : (kind : Kind) (w : Token) (rest : Tokens) → w.text ≡ codes "field" → keyword_at kind w rest ≡ as_field (field_at kind rest)
unfolding keyword_at
word_field kind w rest is = rw (same_bytes w.text (codes "field") is) refl

info_other : bytes_eq (codes "info") (codes "field") ≡ false
info_other = refl

pub word_info : (kind : Kind) (w : Token) (rest : Tokens) → w.text ≡ codes "info" → keyword_at kind w rest ≡ as_info (info_at rest)
unfolding keyword_at
word_info kind w rest is =
    let other : bytes_eq w.text (codes "field") ≡ false = ap (λ (t : List ℕ). bytes_eq t (codes "field")) is ∙ info_other in
    rw (other, same_bytes w.text (codes "info") is) refl

pub body_step : (kind : Kind) (n : ℕ) (tokens : Tokens) → body_at kind (suc n) tokens ≡ (item_at kind tokens >>= λ x. after_item (body_at kind n) x.0 x.1)
unfolding body_at
body_step kind n tokens = refl

body_only : (kind : Kind) (ps : List Part) (e : Token) (rest : Tokens) (n : ℕ) → length (parts_tokens ps ++ e ∷ rest) ≤ n → AreParts kind ps → IsMark 125 e
    → body_at kind n (parts_tokens ps ++ e ∷ rest) ≡ Ok ((fields_of ps, infos_of ps), rest)
body_only kind [] e rest zero enough are is = let h : suc (length rest) ≤ 0 = enough in absurd (omega (arith, h))
body_only kind [] e rest (suc n) enough are is = body_step kind n (e ∷ rest) ∙ ap (λ r. r >>= λ x. after_item (body_at kind n) x.0 x.1) (item_close kind e rest is)
body_only kind (field w o n c t x ∷ ps) e rest zero enough are is = let h : suc (suc (suc (suc (suc (suc (length (parts_tokens ps ++ e ∷ rest))))))) ≤ 0 = enough in absurd (omega (arith, h))
body_only kind (field w o n c t x ∷ ps) e rest (suc m) enough are is =
    let h : suc (suc (suc (suc (suc (suc (length (parts_tokens ps ++ e ∷ rest))))))) ≤ suc m = enough in
    let after : Tokens = parts_tokens ps ++ e ∷ rest in
    let more = body_only kind ps e rest m (omega (arith, h)) are.7 is in
    let here = item_bare kind w (o ∷ n ∷ c ∷ t ∷ x ∷ after) are.0.0 ∙ word_field kind w (o ∷ n ∷ c ∷ t ∷ x ∷ after) are.0.1 ∙ ap as_field (field_only kind o n c t x after are.1 are.2 are.3 are.4 are.5 are.6) in
    body_step kind m (w ∷ o ∷ n ∷ c ∷ t ∷ x ∷ after) ∙ ap (λ r. r >>= λ x. after_item (body_at kind m) x.0 x.1) here
    ∙ ap (with_items (record { name = n.text; text = t.text; line = t.line } ∷ [], [])) more
body_only kind (info w o n c t x ∷ ps) e rest zero enough are is = let h : suc (suc (suc (suc (suc (suc (length (parts_tokens ps ++ e ∷ rest))))))) ≤ 0 = enough in absurd (omega (arith, h))
body_only kind (info w o n c t x ∷ ps) e rest (suc m) enough are is =
    let h : suc (suc (suc (suc (suc (suc (length (parts_tokens ps ++ e ∷ rest))))))) ≤ suc m = enough in
    let after : Tokens = parts_tokens ps ++ e ∷ rest in
    let more = body_only kind ps e rest m (omega (arith, h)) are.6 is in
    let here = item_bare kind w (o ∷ n ∷ c ∷ t ∷ x ∷ after) are.0.0 ∙ word_info kind w (o ∷ n ∷ c ∷ t ∷ x ∷ after) are.0.1 ∙ ap as_info (info_only o n c t x after are.1 are.2 are.3 are.4 are.5) in
    body_step kind m (w ∷ o ∷ n ∷ c ∷ t ∷ x ∷ after) ∙ ap (λ r. r >>= λ x. after_item (body_at kind m) x.0 x.1) here
    ∙ ap (with_items ([], record { name = n.text; text = t.text; json = is_json t.kind; line = t.line } ∷ [])) more

pub head_only : (names : List (List ℕ)) (k : Kind) (f : Head) (rest : Tokens) → IsHead names k f
    → head_with (λ name. is_among name names) (f.word ∷ f.opens ∷ f.kind ∷ f.comma ∷ f.name ∷ f.closes ∷ rest) ≡ Ok ((k, f.name.text, f.word.line), rest)
unfolding head_with
head_only names k f rest is =
    rw (
      begin_only f.word (f.opens ∷ f.kind ∷ f.comma ∷ f.name ∷ f.closes ∷ rest) is.word_is,
      mark_only 40 f.opens (f.kind ∷ f.comma ∷ f.name ∷ f.closes ∷ rest) is.opens_is,
      word_only f.kind (f.comma ∷ f.name ∷ f.closes ∷ rest) is.kind_text,
      is.kind_is,
      mark_only 44 f.comma (f.name ∷ f.closes ∷ rest) is.comma_is,
      word_only f.name (f.closes ∷ rest) is.name_text,
      is.name_may,
      is.name_new,
      mark_only 41 f.closes rest is.closes_is,
    ) refl

pub form_only : (names : List (List ℕ)) (k : Kind) (f : Form) (rest : Tokens) → IsForm names k f → record_with (λ name. is_among name names) (form_tokens f rest) ≡ Ok (record_is k f, rest)
unfolding record_with
form_only names k f rest is =
    let after : Tokens = parts_tokens f.parts ++ f.end ∷ rest in
    rw (
      head_only names k f.head (f.head.brace ∷ (parts_tokens f.parts ++ f.end ∷ rest)) is.head_is,
      mark_only 123 f.head.brace (parts_tokens f.parts ++ f.end ∷ rest) is.head_is.brace_is,
      body_only k f.parts f.end rest (length (parts_tokens f.parts ++ f.end ∷ rest) + 1) (omega arith) is.parts_are is.end_is,
    ) refl

pub records_step : (n : ℕ) (names : List (List ℕ)) (t : Token) (rest : Tokens)
    → records_from (suc n) names (t ∷ rest) ≡ (record_with (λ name. is_among name names) (t ∷ rest) >>= λ r. then_records r.0 (records_from n (r.0.name ∷ names) r.1))
unfolding records_from
records_step n names t rest = refl

pub records_none : (n : ℕ) (names : List (List ℕ)) → records_from n names [] ≡ Ok []
unfolding records_from
records_none zero names = refl
records_none (suc n) names = refl

pub records_only : (rs : List RecText) (names : List (List ℕ)) (tokens : Tokens) (n : ℕ) → length tokens ≤ n → RecordsAfter names tokens rs → records_from n names tokens ≡ Ok rs
records_only [] names tokens n enough is = ap (records_from n names) is ∙ records_none n names
records_only (r ∷ rs) names tokens zero enough (k, f, rest, same, is, made, more) = let e = ap length same in absurd (omega (arith, enough, e))
records_only (r ∷ rs) names tokens (suc n) enough (k, f, rest, same, is, made, more) =
    let e = ap length same in
    let g = length-append (parts_tokens f.parts) (f.end ∷ rest) in
    let on = records_only rs (f.head.name.text ∷ names) rest n (omega (arith, enough, e, g)) more in
    ap (records_from (suc n) names) same
    ∙ records_step n names f.head.word (f.head.opens ∷ f.head.kind ∷ f.head.comma ∷ f.head.name ∷ f.head.closes ∷ f.head.brace ∷ (parts_tokens f.parts ++ f.end ∷ rest))
    ∙ ap (λ x. x >>= λ r. then_records r.0 (records_from n (r.0.name ∷ names) r.1)) (form_only names k f rest is)
    ∙ ap (then_records (record_is k f)) on ∙ ap (λ (x : RecText). Ok (x ∷ rs)) (sym made)

-- what was read before the rest
bound : {A B : Type 0} (r : Result A Stop) (f : A → Result B Stop) (y : B) → (r >>= f) ≡ Ok y → (x : A) × (r ≡ Ok x) × (f x ≡ Ok y)
bound (Ok x) f y h = (x, refl, h)
bound (Err e) f y h = absurd cc

abbrev held : {A : Type 0} → A → Result A Stop → A
held d (Ok x) = x
held d (Err e) = d

ok_is : {A : Type 0} (a b : A) (r : Result A Stop) → r ≡ Ok a → r ≡ Ok b → a ≡ b
ok_is a b r f g = sym (ap (held a) f) ∙ ap (held a) g

bad_ok : {A : Type 0} (t : Token) (a : A) → bad t ≡ Ok a → ⊥
bad_ok t a h = absurd cc

short_ok : {A : Type 0} (e : Stop) (a : A) (r : Result A Stop) → r ≡ Err e → r ≡ Ok a → ⊥
short_ok e a r f g = absurd cc

if_ok : {A : Type 0} (c : Bool) (a x : A) (t : Token) (r : Result A Stop) → r ≡ cond c (Ok a) (bad t) → r ≡ Ok x → (c ≡ true) × (a ≡ x)
if_ok true a x t r f g = (refl, ok_is a x r f g)
if_ok false a x t r f g = absurd (bad_ok t x (sym f ∙ g))

bytes_same : (xs ys : List ℕ) → bytes_eq xs ys ≡ true → xs ≡ ys
bytes_same xs ys e = (bytes_eq-Decides xs ys).0 e

mark_in_found : (b : ℕ) (t : Token) (ts rest : Tokens) (k : TokenKind) → t.kind ≡ k → mark_in b t k ts ≡ Ok rest → IsMark b t × (ts ≡ rest)
mark_in_found b t ts rest Mark is h = let p = if_ok (bytes_eq t.text (b ∷ [])) ts rest t (mark_in b t Mark ts) refl h in ((is, bytes_same t.text (b ∷ []) p.0), p.1)
mark_in_found b t ts rest Bare is h = absurd (bad_ok t rest h)
mark_in_found b t ts rest Quoted is h = absurd (bad_ok t rest h)
mark_in_found b t ts rest Json is h = absurd (bad_ok t rest h)

abbrev pub Marked : ℕ → Tokens → Tokens → Type 0
Marked b tokens rest = (t : Token) × (tokens ≡ t ∷ rest) × IsMark b t

pub mark_found : (b : ℕ) (tokens rest : Tokens) → mark_at b tokens ≡ Ok rest → Marked b tokens rest
unfolding mark_at next
mark_found b [] rest h = absurd cc
mark_found b (t ∷ ts) rest h = let p = mark_in_found b t ts rest t.kind refl h in (t, ap (λ (xs : Tokens). t ∷ xs) p.1, p.0)

word_in_found : (t : Token) (ts : Tokens) (x : Token × Tokens) (k : TokenKind) → t.kind ≡ k → word_in t k ts ≡ Ok x → (t ∷ ts ≡ x.0 ∷ x.1) × IsText x.0
word_in_found t ts x Bare is h = let e = ok_is (t, ts) x (word_in t Bare ts) refl h in (ap (λ (p : Token × Tokens). p.0 ∷ p.1) e, ap (λ (p : Token × Tokens). is_name p.0.kind) (sym e) ∙ ap is_name is)
word_in_found t ts x Quoted is h = let e = ok_is (t, ts) x (word_in t Quoted ts) refl h in (ap (λ (p : Token × Tokens). p.0 ∷ p.1) e, ap (λ (p : Token × Tokens). is_name p.0.kind) (sym e) ∙ ap is_name is)
word_in_found t ts x Mark is h = absurd (bad_ok t x h)
word_in_found t ts x Json is h = absurd (bad_ok t x h)

word_found : (tokens : Tokens) (x : Token × Tokens) → word_at tokens ≡ Ok x → (tokens ≡ x.0 ∷ x.1) × IsText x.0
unfolding word_at next
word_found [] x h = absurd cc
word_found (t ∷ ts) x h = word_in_found t ts x t.kind refl h

abbrev pub Valued : Tokens → (Token × Bool) × Tokens → Type 0
Valued tokens x = (tokens ≡ x.0.0 ∷ x.1) × (is_value x.0.0.kind ≡ true) × (x.0.1 ≡ is_json x.0.0.kind)

valued : (t : Token) (ts : Tokens) (x : (Token × Bool) × Tokens) (k : TokenKind) → t.kind ≡ k → is_value k ≡ true → ((t, is_json k), ts) ≡ x → Valued (t ∷ ts) x
valued t ts x k is may e = (
  ap (λ (p : (Token × Bool) × Tokens). p.0.0 ∷ p.1) e,
  ap (λ (p : (Token × Bool) × Tokens). is_value p.0.0.kind) (sym e) ∙ ap is_value is ∙ may,
  ap (λ (p : (Token × Bool) × Tokens). p.0.1) (sym e) ∙ ap is_json (sym is) ∙ ap (λ (p : (Token × Bool) × Tokens). is_json p.0.0.kind) e,
)

value_in_found : (t : Token) (ts : Tokens) (x : (Token × Bool) × Tokens) (k : TokenKind) → t.kind ≡ k → value_in t k ts ≡ Ok x → Valued (t ∷ ts) x
value_in_found t ts x Bare is h = valued t ts x Bare is refl (ok_is ((t, false), ts) x (value_in t Bare ts) refl h)
value_in_found t ts x Quoted is h = valued t ts x Quoted is refl (ok_is ((t, false), ts) x (value_in t Quoted ts) refl h)
value_in_found t ts x Json is h = valued t ts x Json is refl (ok_is ((t, true), ts) x (value_in t Json ts) refl h)
value_in_found t ts x Mark is h = absurd (bad_ok t x h)

value_found : (tokens : Tokens) (x : (Token × Bool) × Tokens) → value_at tokens ≡ Ok x → Valued tokens x
unfolding value_at next
value_found [] x h = absurd cc
value_found (t ∷ ts) x h = value_in_found t ts x t.kind refl h

-- a field's name, which its kind knows
known_in_found : (kind : Kind) (n : Token) (rest : Tokens) (x : Token × Tokens) → known_in kind n rest ≡ Ok x → (is_some (rule_of kind n.text) ≡ true) × ((n, rest) ≡ x)
known_in_found kind n rest x h = by_rule (is_some (rule_of kind n.text)) refl
  where
    faulty_ok : (r : Read Token) (e : Stop) → r ≡ Err e → r ≡ Ok x → ⊥
    faulty_ok r e f g = absurd cc

    by_rule : (c : Bool) → is_some (rule_of kind n.text) ≡ c → (is_some (rule_of kind n.text) ≡ true) × ((n, rest) ≡ x)
    by_rule true c = (c, ok_is (n, rest) x (known_in kind n rest) (rw c refl) h)
    by_rule false c = absurd (faulty_ok (known_in kind n rest) (faulty (faults.UnknownField n.text (told_at n rest))) (rw c refl) h)

known_found : (kind : Kind) (tokens : Tokens) (x : Token × Tokens) → known_at kind tokens ≡ Ok x → (tokens ≡ x.0 ∷ x.1) × IsText x.0 × (is_some (rule_of kind x.0.text) ≡ true)
unfolding known_at
known_found kind tokens x h =
    let b = bound (word_at tokens) _ x h in
    let n = word_found tokens b.0 b.1 in
    let k = known_in_found kind b.0.0 b.0.1 x b.2 in (
      n.0 ∙ ap (λ (p : Token × Tokens). p.0 ∷ p.1) k.1,
      sym (ap (λ (p : Token × Tokens). is_name p.0.kind) k.1) ∙ n.1,
      sym (ap (λ (p : Token × Tokens). is_some (rule_of kind p.0.text)) k.1) ∙ k.0,
    )

abbrev pub FieldRead : Kind → Tokens → FieldText × Tokens → Type 0
FieldRead kind tokens x =
    (o : Token) × (n : Token) × (c : Token) × (t : Token) × (e : Token) × (tokens ≡ o ∷ n ∷ c ∷ t ∷ e ∷ x.1) × IsMark 40 o × IsText n × IsMark 44 c × IsText t
    × (is_some (rule_of kind n.text) ≡ true) × IsMark 41 e × (x.0 ≡ record { name = n.text; text = t.text; line = t.line })

field_found : (kind : Kind) (tokens : Tokens) (x : FieldText × Tokens) → field_at kind tokens ≡ Ok x → FieldRead kind tokens x
unfolding field_at
field_found kind tokens x h =
    let a = bound (mark_at 40 tokens) _ x h in
    let b = bound (known_at kind a.0) _ x a.2 in
    let c = bound (mark_at 44 b.0.1) _ x b.2 in
    let d = bound (word_at c.0) _ x c.2 in
    let g = bound (mark_at 41 d.0.1) _ x d.2 in
    let o = mark_found 40 tokens a.0 a.1 in
    let n = known_found kind a.0 b.0 b.1 in
    let m = mark_found 44 b.0.1 c.0 c.1 in
    let t = word_found c.0 d.0 d.1 in
    let e = mark_found 41 d.0.1 g.0 g.1 in
    let made = ok_is (field_of b.0.0 d.0.0, g.0) x (Ok (field_of b.0.0 d.0.0, g.0)) refl g.2 in (
      o.0,
      b.0.0,
      m.0,
      d.0.0,
      e.0,
      o.1 ∙ ap (λ (xs : Tokens). o.0 ∷ xs) (n.0 ∙ ap (λ (xs : Tokens). b.0.0 ∷ xs) (m.1 ∙ ap (λ (xs : Tokens). m.0 ∷ xs) (t.0 ∙ ap (λ (xs : Tokens). d.0.0 ∷ xs) (e.1
          ∙ ap (λ (p : FieldText × Tokens). e.0 ∷ p.1) made)))),
      o.2,
      n.1,
      m.2,
      t.1,
      n.2,
      e.2,
      sym (ap (λ (p : FieldText × Tokens). p.0) made),
    )

abbrev pub InfoRead : Tokens → Info × Tokens → Type 0
InfoRead tokens x =
    (o : Token) × (n : Token) × (c : Token) × (v : Token) × (e : Token) × (tokens ≡ o ∷ n ∷ c ∷ v ∷ e ∷ x.1) × IsMark 40 o × IsText n × IsMark 44 c × (is_value v.kind ≡ true)
    × IsMark 41 e × (x.0 ≡ record { name = n.text; text = v.text; json = is_json v.kind; line = v.line })

info_found : (tokens : Tokens) (x : Info × Tokens) → info_at tokens ≡ Ok x → InfoRead tokens x
unfolding info_at
info_found tokens x h =
    let a = bound (mark_at 40 tokens) _ x h in
    let b = bound (word_at a.0) _ x a.2 in
    let c = bound (mark_at 44 b.0.1) _ x b.2 in
    let d = bound (value_at c.0) _ x c.2 in
    let g = bound (mark_at 41 d.0.1) _ x d.2 in
    let o = mark_found 40 tokens a.0 a.1 in
    let n = word_found a.0 b.0 b.1 in
    let m = mark_found 44 b.0.1 c.0 c.1 in
    let v = value_found c.0 d.0 d.1 in
    let e = mark_found 41 d.0.1 g.0 g.1 in
    let made = ok_is (info_of b.0.0 d.0.0, g.0) x (Ok (info_of b.0.0 d.0.0, g.0)) refl g.2 in (
      o.0,
      b.0.0,
      m.0,
      d.0.0.0,
      e.0,
      o.1 ∙ ap (λ (xs : Tokens). o.0 ∷ xs) (n.0 ∙ ap (λ (xs : Tokens). b.0.0 ∷ xs) (m.1 ∙ ap (λ (xs : Tokens). m.0 ∷ xs) (v.0 ∙ ap (λ (xs : Tokens). d.0.0.0 ∷ xs) (e.1
          ∙ ap (λ (p : Info × Tokens). e.0 ∷ p.1) made)))),
      o.2,
      n.1,
      m.2,
      v.1,
      e.2,
      sym (ap (λ (p : Info × Tokens). p.0) made) ∙ ap (λ (j : Bool). record { name = b.0.0.text; text = d.0.0.0.text; json = j; line = d.0.0.0.line }) v.2,
    )

-- what an item of a record's braces is: its closing brace, or one part and what follows
abbrev pub ItemRead : Kind → Tokens → Item → Tokens → Type 0
ItemRead kind tokens items.Close rest = Marked 125 tokens rest
ItemRead kind tokens (items.Field f) rest = (w : Token) × (after : Tokens) × (tokens ≡ w ∷ after) × IsWord (codes "field") w × FieldRead kind after (f, rest)
ItemRead kind tokens (items.Info i) rest = (w : Token) × (after : Tokens) × (tokens ≡ w ∷ after) × IsWord (codes "info") w × InfoRead after (i, rest)

field_item : (kind : Kind) (w : Token) (ts : Tokens) (r : Read FieldText) (x : Item) (rest : Tokens) → IsWord (codes "field") w → field_at kind ts ≡ r → as_field r ≡ Ok (x, rest) → ItemRead kind (w ∷ ts) x rest
field_item kind w ts (Err e) x rest is from h = absurd cc
field_item kind w ts (Ok f) x rest is from h =
    let e = ok_is (items.Field f.0, f.1) (x, rest) (as_field (Ok f)) refl h in
    let here : ItemRead kind (w ∷ ts) (items.Field f.0) f.1 = (w, ts, refl, is, field_found kind ts (f.0, f.1) from) in
    subst (λ (p : Item × Tokens). ItemRead kind (w ∷ ts) p.0 p.1) e here

info_item : (kind : Kind) (w : Token) (ts : Tokens) (r : Read Info) (x : Item) (rest : Tokens) → IsWord (codes "info") w → info_at ts ≡ r → as_info r ≡ Ok (x, rest) → ItemRead kind (w ∷ ts) x rest
info_item kind w ts (Err e) x rest is from h = absurd cc
info_item kind w ts (Ok i) x rest is from h =
    let e = ok_is (items.Info i.0, i.1) (x, rest) (as_info (Ok i)) refl h in
    let here : ItemRead kind (w ∷ ts) (items.Info i.0) i.1 = (w, ts, refl, is, info_found ts (i.0, i.1) from) in
    subst (λ (p : Item × Tokens). ItemRead kind (w ∷ ts) p.0 p.1) e here

keyword_is : (kind : Kind) (w : Token) (ts : Tokens) → keyword_at kind w ts ≡ cond (bytes_eq w.text (codes "field")) (as_field (field_at kind ts)) (cond (bytes_eq w.text (codes "info")) (as_info (info_at ts)) (bad w))
unfolding keyword_at
keyword_is kind w ts = refl

keyword_found : (kind : Kind) (w : Token) (ts : Tokens) (x : Item) (rest : Tokens) → w.kind ≡ Bare → keyword_at kind w ts ≡ Ok (x, rest) → ItemRead kind (w ∷ ts) x rest
keyword_found kind w ts x rest is h = by_field (bytes_eq w.text (codes "field")) refl (sym (keyword_is kind w ts) ∙ h)
  where
    by_info : (c : Bool) → bytes_eq w.text (codes "info") ≡ c → cond c (as_info (info_at ts)) (bad w) ≡ Ok (x, rest) → ItemRead kind (w ∷ ts) x rest
    by_info true c e = info_item kind w ts (info_at ts) x rest (is, bytes_same w.text (codes "info") c) refl e
    by_info false c e = absurd (bad_ok w (x, rest) e)

    by_field : (c : Bool) → bytes_eq w.text (codes "field") ≡ c → cond c (as_field (field_at kind ts)) (cond (bytes_eq w.text (codes "info")) (as_info (info_at ts)) (bad w)) ≡ Ok (x, rest) → ItemRead kind (w ∷ ts) x rest
    by_field true c e = field_item kind w ts (field_at kind ts) x rest (is, bytes_same w.text (codes "field") c) refl e
    by_field false c e = by_info (bytes_eq w.text (codes "info")) refl e

item_in_found : (kind : Kind) (w : Token) (ts : Tokens) (x : Item) (rest : Tokens) (k : TokenKind) → w.kind ≡ k → item_in kind w k ts ≡ Ok (x, rest) → ItemRead kind (w ∷ ts) x rest
item_in_found kind w ts x rest Bare is h = keyword_found kind w ts x rest is h
item_in_found kind w ts x rest Quoted is h = absurd (bad_ok w (x, rest) h)
item_in_found kind w ts x rest Json is h = absurd (bad_ok w (x, rest) h)
item_in_found kind w ts x rest Mark is h =
    let p = if_ok (bytes_eq w.text (125 ∷ [])) (items.Close, ts) (x, rest) w (item_in kind w Mark ts) refl h in
    subst (λ (p : Item × Tokens). ItemRead kind (w ∷ ts) p.0 p.1) p.1 (w, refl, (is, bytes_same w.text (125 ∷ []) p.0))

pub item_found : (kind : Kind) (tokens : Tokens) (x : Item) (rest : Tokens) → item_at kind tokens ≡ Ok (x, rest) → ItemRead kind tokens x rest
unfolding item_at next
item_found kind [] x rest h = absurd cc
item_found kind (w ∷ ts) x rest h = item_in_found kind w ts x rest w.kind refl h

-- the parts of a record up to its closing brace
abbrev BodyRead : Kind → Tokens → Body → Tokens → Type 0
BodyRead kind tokens body rest =
    (ps : List Part) × (e : Token) × (tokens ≡ parts_tokens ps ++ e ∷ rest) × AreParts kind ps × IsMark 125 e × (body ≡ (fields_of ps, infos_of ps))

abbrev BodyStep : Kind → ℕ → Type 0
BodyStep kind n = (tokens : Tokens) (body : Body) (rest : Tokens) → body_at kind n tokens ≡ Ok (body, rest) → BodyRead kind tokens body rest

with_gives : (first : Body) (r : Read Body) (x : Body × Tokens) → with_items first r ≡ Ok x → (b : Body × Tokens) × (r ≡ Ok b) × (((first.0 ++ b.0.0, first.1 ++ b.0.1), b.1) ≡ x)
with_gives first (Ok b) x h = (b, refl, ok_is ((first.0 ++ b.0.0, first.1 ++ b.0.1), b.1) x (with_items first (Ok b)) refl h)
with_gives first (Err e) x h = absurd cc

body_field : (kind : Kind) (w : Token) (after tokens left rest : Tokens) (f : FieldText) (inner body : Body) → tokens ≡ w ∷ after → IsWord (codes "field") w → FieldRead kind after (f, left)
    → BodyRead kind left inner rest → (f ∷ [] ++ inner.0, [] ++ inner.1) ≡ body → BodyRead kind tokens body rest
body_field kind w after tokens left rest f inner body same is (o, n, c, t, e, cut, oo, nn, cc', tt', known, ee, made) (ps, close, bytes, are, closing, parts) joined = (
  field w o n c t e ∷ ps,
  close,
  same ∙ ap (λ (xs : Tokens). w ∷ xs) (cut ∙ ap (λ (xs : Tokens). o ∷ n ∷ c ∷ t ∷ e ∷ xs) bytes),
  (is, oo, nn, cc', tt', known, ee, are),
  closing,
  sym joined ∙ ap (λ (b : Body). (f ∷ b.0, b.1)) parts ∙ ap (λ (x : FieldText). (x ∷ fields_of ps, infos_of ps)) made,
)

body_info : (kind : Kind) (w : Token) (after tokens left rest : Tokens) (i : Info) (inner body : Body) → tokens ≡ w ∷ after → IsWord (codes "info") w → InfoRead after (i, left)
    → BodyRead kind left inner rest → ([] ++ inner.0, i ∷ [] ++ inner.1) ≡ body → BodyRead kind tokens body rest
body_info kind w after tokens left rest i inner body same is (o, n, c, t, e, cut, oo, nn, cc', tt', ee, made) (ps, close, bytes, are, closing, parts) joined = (
  info w o n c t e ∷ ps,
  close,
  same ∙ ap (λ (xs : Tokens). w ∷ xs) (cut ∙ ap (λ (xs : Tokens). o ∷ n ∷ c ∷ t ∷ e ∷ xs) bytes),
  (is, oo, nn, cc', tt', ee, are),
  closing,
  sym joined ∙ ap (λ (b : Body). (b.0, i ∷ b.1)) parts ∙ ap (λ (x : Info). (fields_of ps, x ∷ infos_of ps)) made,
)

after_found : (kind : Kind) (n : ℕ) (tokens : Tokens) (x : Item) (left : Tokens) (body : Body) (rest : Tokens) → BodyStep kind n → ItemRead kind tokens x left
    → after_item (body_at kind n) x left ≡ Ok (body, rest) → BodyRead kind tokens body rest
after_found kind n tokens items.Close left body rest step (e, same, is) h =
    let p = ok_is (([], []), left) (body, rest) (after_item (body_at kind n) items.Close left) refl h in
    ([], e, same ∙ ap (λ (q : Body × Tokens). e ∷ q.1) p, tt, is, sym (ap (λ (q : Body × Tokens). q.0) p))
after_found kind n tokens (items.Field f) left body rest step (w, after, same, is, read) h =
    let p = with_gives (f ∷ [], []) (body_at kind n left) (body, rest) h in
    let inner = step left p.0.0 p.0.1 p.1 in
    let here = body_field kind w after tokens left p.0.1 f p.0.0 (f ∷ [] ++ p.0.0.0, [] ++ p.0.0.1) same is read inner refl in
    subst (λ (q : Body × Tokens). BodyRead kind tokens q.0 q.1) p.2 here
after_found kind n tokens (items.Info i) left body rest step (w, after, same, is, read) h =
    let p = with_gives ([], i ∷ []) (body_at kind n left) (body, rest) h in
    let inner = step left p.0.0 p.0.1 p.1 in
    let here = body_info kind w after tokens left p.0.1 i p.0.0 ([] ++ p.0.0.0, i ∷ [] ++ p.0.0.1) same is read inner refl in
    subst (λ (q : Body × Tokens). BodyRead kind tokens q.0 q.1) p.2 here

pub body_zero : (kind : Kind) (tokens : Tokens) → body_at kind zero tokens ≡ Err short
unfolding body_at
body_zero kind tokens = refl

body_found : (kind : Kind) (n : ℕ) → BodyStep kind n
body_found kind zero tokens body rest h = absurd (short_ok short (body, rest) (body_at kind zero tokens) (body_zero kind tokens) h)
body_found kind (suc n) tokens body rest h =
    let p = bound (item_at kind tokens) (λ x. after_item (body_at kind n) x.0 x.1) (body, rest) (sym (body_step kind n tokens) ∙ h) in
    after_found kind n tokens p.0.0 p.0.1 body rest (body_found kind n) (item_found kind tokens p.0.0 p.0.1 p.1) p.2

begin_in_found : (t : Token) (ts : Tokens) (x : Token × Tokens) (k : TokenKind) → t.kind ≡ k → begin_in t k ts ≡ Ok x → (t ∷ ts ≡ x.0 ∷ x.1) × IsWord (codes "record") x.0
begin_in_found t ts x Bare is h =
    let p = if_ok (bytes_eq t.text (codes "record")) (t, ts) x t (begin_in t Bare ts) refl h in
    let here : IsWord (codes "record") t = (is, bytes_same t.text (codes "record") p.0) in
    (ap (λ (q : Token × Tokens). q.0 ∷ q.1) p.1, subst (λ (q : Token × Tokens). IsWord (codes "record") q.0) p.1 here)
begin_in_found t ts x Quoted is h = absurd (bad_ok t x h)
begin_in_found t ts x Mark is h = absurd (bad_ok t x h)
begin_in_found t ts x Json is h = absurd (bad_ok t x h)

begin_found : (tokens : Tokens) (x : Token × Tokens) → begin_at tokens ≡ Ok x → (tokens ≡ x.0 ∷ x.1) × IsWord (codes "record") x.0
unfolding begin_at next
begin_found [] x h = absurd cc
begin_found (t ∷ ts) x h = begin_in_found t ts x t.kind refl h

kind_found : (t : Token) (found : Option Kind) (k : Kind) → kind_in t found ≡ Ok k → found ≡ Some k
kind_found t None k h = absurd cc
kind_found t (Some x) k h = ap (λ (y : Kind). Some y) (ok_is x k (kind_in t (Some x)) refl h)

abbrev Named : Bool → Token → List ℕ → Type 0
Named taken t name = (is_record_name t.text ≡ true) × (taken ≡ false) × (t.text ≡ name)

name_found : (taken : Bool) (t : Token) (name : List ℕ) → name_in taken t ≡ Ok name → Named taken t name
name_found taken t name h = by_name (is_record_name t.text) refl taken refl
  where
    refused : (r : Result (List ℕ) Stop) (e : Stop) → r ≡ Err e → r ≡ Ok name → ⊥
    refused r e f g = absurd cc

    by_name : (c : Bool) → is_record_name t.text ≡ c → (v : Bool) → taken ≡ v → Named taken t name
    by_name true c false v = (c, v, ok_is t.text name (name_in taken t) (rw (c, v) refl) h)
    by_name true c true v = absurd (refused (name_in taken t) (faulty (faults.SameRecord t.text t.line)) (rw (c, v) refl) h)
    by_name false c v e = absurd (refused (name_in taken t) (faulty (faults.BadForm t.line)) (rw c refl) h)

abbrev pub HeadRead : (List ℕ → Bool) → Tokens → (Kind × List ℕ × ℕ) × Tokens → Type 0
HeadRead taken tokens x =
    (w : Token) × (o : Token) × (k : Token) × (c : Token) × (n : Token) × (e : Token) × (tokens ≡ w ∷ o ∷ k ∷ c ∷ n ∷ e ∷ x.1) × IsWord (codes "record") w × IsMark 40 o × IsText k
    × (kind_of k.text ≡ Some x.0.0) × IsMark 44 c × IsText n × (is_record_name n.text ≡ true) × (taken n.text ≡ false) × IsMark 41 e × (n.text ≡ x.0.1) × (w.line ≡ x.0.2)

pub head_found : (taken : List ℕ → Bool) (tokens : Tokens) (x : (Kind × List ℕ × ℕ) × Tokens) → head_with taken tokens ≡ Ok x → HeadRead taken tokens x
unfolding head_with
head_found taken tokens x h =
    let w = bound (begin_at tokens) _ x h in
    let a = bound (mark_at 40 w.0.1) _ x w.2 in
    let k = bound (word_at a.0) _ x a.2 in
    let kind = bound (kind_in k.0.0 (kind_of k.0.0.text)) _ x k.2 in
    let b = bound (mark_at 44 k.0.1) _ x kind.2 in
    let n = bound (word_at b.0) _ x b.2 in
    let name = bound (name_in (taken n.0.0.text) n.0.0) _ x n.2 in
    let rest = bound (mark_at 41 n.0.1) _ x name.2 in
    let ww = begin_found tokens w.0 w.1 in
    let oo = mark_found 40 w.0.1 a.0 a.1 in
    let kk = word_found a.0 k.0 k.1 in
    let cc' = mark_found 44 k.0.1 b.0 b.1 in
    let nn = word_found b.0 n.0 n.1 in
    let may = name_found (taken n.0.0.text) n.0.0 name.0 name.1 in
    let ee = mark_found 41 n.0.1 rest.0 rest.1 in
    let made = ok_is ((kind.0, name.0, w.0.0.line), rest.0) x (Ok ((kind.0, name.0, w.0.0.line), rest.0)) refl rest.2 in (
      w.0.0,
      oo.0,
      k.0.0,
      cc'.0,
      n.0.0,
      ee.0,
      ww.0 ∙ ap (λ (xs : Tokens). w.0.0 ∷ xs) (oo.1 ∙ ap (λ (xs : Tokens). oo.0 ∷ xs) (kk.0 ∙ ap (λ (xs : Tokens). k.0.0 ∷ xs) (cc'.1 ∙ ap (λ (xs : Tokens). cc'.0 ∷ xs) (nn.0
          ∙ ap (λ (xs : Tokens). n.0.0 ∷ xs) (ee.1 ∙ ap (λ (p : (Kind × List ℕ × ℕ) × Tokens). ee.0 ∷ p.1) made))))),
      ww.1,
      oo.2,
      kk.1,
      kind_found k.0.0 (kind_of k.0.0.text) kind.0 kind.1 ∙ ap (λ (p : (Kind × List ℕ × ℕ) × Tokens). Some p.0.0) made,
      cc'.2,
      nn.1,
      may.0,
      may.1,
      ee.2,
      may.2 ∙ ap (λ (p : (Kind × List ℕ × ℕ) × Tokens). p.0.1) made,
      ap (λ (p : (Kind × List ℕ × ℕ) × Tokens). p.0.2) made,
    )

abbrev pub FormRead : List (List ℕ) → Tokens → RecText × Tokens → Type 0
FormRead names tokens x = (k : Kind) × (f : Form) × (tokens ≡ form_tokens f x.1) × IsForm names k f × (x.0 ≡ record_is k f)

form_parts : (names : List (List ℕ)) (tokens left after : Tokens) (k : Kind) (name : List ℕ) (line : ℕ) (body : Body) (x : RecText × Tokens) → HeadRead (λ name. is_among name names) tokens ((k, name, line), left)
    → Marked 123 left after → BodyRead k after body x.1 → record_of (k, name, line) body ≡ x.0 → FormRead names tokens x
form_parts names tokens left after k name line body x (w, o, kind, c, n, e, cut, ww, oo, kk, known, cc', nn, may, new, ee, named, at) (b, braced, bb) (ps, close, bytes, are, closing, parts) made = (
  k,
  record { head = record { word = w; opens = o; kind = kind; comma = c; name = n; closes = e; brace = b }; parts = ps; end = close },
  cut ∙ ap (λ (xs : Tokens). w ∷ o ∷ kind ∷ c ∷ n ∷ e ∷ xs) (braced ∙ ap (λ (xs : Tokens). b ∷ xs) bytes),
  record {
    head_is = record { word_is = ww; opens_is = oo; kind_text = kk; kind_is = known; comma_is = cc'; name_text = nn; name_may = may; name_new = new; closes_is = ee; brace_is = bb };
    parts_are = are;
    end_is = closing;
  },
  sym made ∙ ap (λ (m : List ℕ). record_of (k, m, line) body) (sym named) ∙ ap (λ (l : ℕ). record_of (k, n.text, l) body) (sym at) ∙ ap (λ (q : Body). record_of (k, n.text, w.line) q) parts,
)

pub form_found : (names : List (List ℕ)) (tokens : Tokens) (x : RecText × Tokens) → record_with (λ name. is_among name names) tokens ≡ Ok x → FormRead names tokens x
unfolding record_with
form_found names tokens x h =
    let a = bound (head_with (λ name. is_among name names) tokens) _ x h in
    let b = bound (mark_at 123 a.0.1) _ x a.2 in
    let c = bound (body_at a.0.0.0 (length b.0 + 1) b.0) _ x b.2 in
    let made = ok_is (record_of a.0.0 c.0.0, c.0.1) x (Ok (record_of a.0.0 c.0.0, c.0.1)) refl c.2 in
    let body = body_found a.0.0.0 (length b.0 + 1) b.0 c.0.0 c.0.1 c.1 in
    subst (FormRead names tokens) made
    (form_parts names tokens a.0.1 b.0 a.0.0.0 a.0.0.1 a.0.0.2 c.0.0 (record_of a.0.0 c.0.0, c.0.1) (head_found (λ name. is_among name names) tokens a.0 a.1) (mark_found 123 a.0.1 b.0 b.1) body refl)

then_gives : (r : RecText) (more : Result (List RecText) Stop) (rs : List RecText) → then_records r more ≡ Ok rs → (left : List RecText) × (more ≡ Ok left) × (r ∷ left ≡ rs)
then_gives r (Ok left) rs h = (left, refl, ok_is (r ∷ left) rs (then_records r (Ok left)) refl h)
then_gives r (Err e) rs h = absurd cc

abbrev RecordsStep : ℕ → Type 0
RecordsStep n = (names : List (List ℕ)) (tokens : Tokens) (rs : List RecText) → length tokens ≤ n → records_from n names tokens ≡ Ok rs → RecordsAfter names tokens rs

next_form : (n : ℕ) (names : List (List ℕ)) (tokens : Tokens) (r : RecText) (rest : Tokens) (left rs : List RecText) → RecordsStep n → length tokens ≤ suc n → FormRead names tokens (r, rest)
    → records_from n (r.name ∷ names) rest ≡ Ok left → r ∷ left ≡ rs → RecordsAfter names tokens rs
next_form n names tokens r rest left rs step enough (k, f, same, is, made) more joined =
    let e = ap length same in
    let g = length-append (parts_tokens f.parts) (f.end ∷ rest) in
    let name : r.name ≡ f.head.name.text = ap (λ (x : RecText). x.name) made in
    let on = step (f.head.name.text ∷ names) rest left (omega (arith, enough, e, g)) (ap (λ (m : List ℕ). records_from n (m ∷ names) rest) (sym name) ∙ more) in
    subst (RecordsAfter names tokens) joined (k, f, rest, same, is, made, on)

nothing_is : (names : List (List ℕ)) (n : ℕ) (rs : List RecText) → records_from n names [] ≡ Ok rs → RecordsAfter names [] rs
nothing_is names n rs h = subst (RecordsAfter names []) (ok_is [] rs (records_from n names []) (records_none n names) h) refl

pub records_found : (n : ℕ) → RecordsStep n
records_found n names [] rs enough h = nothing_is names n rs h
records_found zero names (t ∷ ts) rs enough h = let e : suc (length ts) ≤ 0 = enough in absurd (omega (arith, e))
records_found (suc n) names (t ∷ ts) rs enough h =
    let a = bound (record_with (λ name. is_among name names) (t ∷ ts)) _ rs (sym (records_step n names t ts) ∙ h) in
    let b = then_gives a.0.0 (records_from n (a.0.0.name ∷ names) a.0.1) rs a.2 in
    next_form n names (t ∷ ts) a.0.0 a.0.1 b.0 rs (records_found n) enough (form_found names (t ∷ ts) a.0 a.1) b.1 b.2
