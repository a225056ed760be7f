-- Reading forms stops exactly where they do.
use Rattle.std.proofs.Common.{◌≡◌, ℕ, zero, suc, ◌+◌, ◌≤◌, ◌<◌, Bool, cond, true, false, not, ◌&&◌, List, [], ◌∷◌, ◌++◌, length, Option, Some, None, Result, Ok, Err, is_some, codes, refl, sym, ap, ◌∙◌, arith, inl, inr, length-append}
use Rattle.std.proofs.lemmas.Bool.{true≢false}
use Rattle.std.proofs.lemmas.Slice.Eq.{bytes_eq-Decides}
use Rattle.std.specs.Str.{bytes_eq}
use Rattle.db_text.specs.Grammar.{is_bare, is_sign, is_name}
use Rattle.db_text.specs.declared.token.Token.{Token}
use Rattle.db_text.specs.declared.token.TokenKind.{TokenKind}
use Rattle.db_text.specs.declared.token.TokenKind.TheVariants.{Bare, Quoted, Mark, Json}
use Rattle.rec_kinds.specs.declared.kind.Kind.{Kind}
use Rattle.rec_kinds.specs.declared.record_text.FieldText.{FieldText}
use Rattle.rec_kinds.specs.declared.record_text.Info.{Info}
use Rattle.rec_kinds.specs.declared.record_text.RecText.{RecText}
use Rattle.rec_kinds.specs.Kinds.{kind_of}
use Rattle.rec_kinds.specs.Fields.{rule_of}
use Rattle.db_load.specs.declared.bodies.Item.{Item}
use Rattle.db_load.specs.declared.bodies.Item.TheVariants as items
use Rattle.db_load.specs.declared.fault.LoadFault.{LoadFault}
use Rattle.db_load.specs.declared.fault.LoadFault.TheVariants.{SameRecord, UnknownKind, UnknownField, BadForm}
use Rattle.db_load.specs.Forms.{Stop, short, faulty, Tokens, Read, ◌>>=◌, next, mark_in, mark_at, word_in, word_at, value_in, value_at, told_at, known_in, known_at, field_at, info_at, as_field, as_info, keyword_at, item_in, item_at, Body, with_items, after_item, body_at, is_record_name, is_among, name_in, kind_in, begin_in, begin_at, head_with, record_of, record_with, then_records, records_from}
use Rattle.db_load.specs.Grammar.{IsWord, IsMark, is_value, is_json, Part, field, info, parts_tokens, AreParts, Head, head_tokens, Form, record_is}
use Rattle.db_load.specs.Places.{Place, unless, the_word, the_mark, a_text, a_value, a_kind, a_name, a_field, head_places, StopsIn, PartStops, FormStops, StopsBehind}
use Rattle.db_load.proofs.RecordsRead.{Marked, mark_found, mark_only, HeadRead, head_found, head_only, ItemRead, item_found, item_bare, word_field, word_info, field_only, info_only, body_step, FormRead, form_found, form_only, records_step, records_none, same_bytes}

abbrev why : {A : Type 0} → Stop → Result A Stop → Stop
why d (Ok x) = d
why d (Err e) = e

pub stop_is : {A : Type 0} (a b : Stop) (r : Result A Stop) → r ≡ Err a → r ≡ Err b → a ≡ b
stop_is a b r f g = sym (ap (why a) f) ∙ ap (why a) g

pub ok_err : {A : Type 0} (a : A) (e : Stop) (r : Result A Stop) → r ≡ Ok a → r ≡ Err e → ⊥
ok_err a e r f g = absurd cc

-- tokens that are put into places, and what follows them
abbrev on : {A : Type 0} → Option LoadFault → Result A Stop → Result A Stop
on None r = r
on (Some fault) r = Err (faulty fault)

abbrev fill : List Place → Tokens → Result Tokens Stop
fill [] ts = Ok ts
fill (p ∷ ps) [] = Err short
fill (p ∷ ps) (t ∷ ts) = on (p t ts) (fill ps ts)

abbrev left : {A : Type 0} → (A → Tokens) → Result A Stop → Result Tokens Stop
left view (Ok x) = Ok (view x)
left view (Err e) = Err e

left_err : {A : Type 0} (view : A → Tokens) (e : Stop) (r : Result A Stop) → left view r ≡ Err e → r ≡ Err e
left_err view e (Ok x) h = absurd cc
left_err view e (Err d) h = let same : d ≡ e = cc in ap (λ (x : Stop). Err x) same

stops_only : (ps : List Place) (ts : Tokens) (stop : Stop) → StopsIn ps ts stop → fill ps ts ≡ Err stop
stops_only [] ts stop h = absurd h
stops_only (p ∷ ps) [] stop h = ap (λ (e : Stop). Err e) (sym h)
stops_only (p ∷ ps) (t ∷ ts) stop (inl (fault, at, is)) = ap (λ o. on o (fill ps ts)) at ∙ ap (λ (e : Stop). Err e) (sym is)
stops_only (p ∷ ps) (t ∷ ts) stop (inr (at, more)) = ap (λ o. on o (fill ps ts)) at ∙ stops_only ps ts stop more

stops_at : (p : Place) (ps : List Place) (t : Token) (ts : Tokens) (stop : Stop) → (fill ps ts ≡ Err stop → StopsIn ps ts stop) → (o : Option LoadFault) → p t ts ≡ o → fill (p ∷ ps) (t ∷ ts) ≡ Err stop → StopsIn (p ∷ ps) (t ∷ ts) stop
stops_at p ps t ts stop more None e h = inr (e, more (sym (ap (λ o. on o (fill ps ts)) e) ∙ h))
stops_at p ps t ts stop more (Some fault) e h = inl (fault, e, sym (stop_is (faulty fault) stop (fill (p ∷ ps) (t ∷ ts)) (ap (λ o. on o (fill ps ts)) e) h))

stops_found : (ps : List Place) (ts : Tokens) (stop : Stop) → fill ps ts ≡ Err stop → StopsIn ps ts stop
stops_found [] ts stop h = absurd (ok_err ts stop (fill [] ts) refl h)
stops_found (p ∷ ps) [] stop h = sym (stop_is short stop (fill (p ∷ ps) []) refl h)
stops_found (p ∷ ps) (t ∷ ts) stop h = stops_at p ps t ts stop (λ e. stops_found ps ts stop e) (p t ts) refl h

on_bind : {A B : Type 0} (o : Option LoadFault) (r : Result A Stop) (f : A → Result B Stop) → (on o r >>= f) ≡ on o (r >>= f)
on_bind None r f = refl
on_bind (Some fault) r f = refl

left_on : {A : Type 0} (view : A → Tokens) (o : Option LoadFault) (r : Result A Stop) → left view (on o r) ≡ on o (left view r)
left_on view None r = refl
left_on view (Some fault) r = refl

fill_more : (ps qs : List Place) (ts : Tokens) → fill (ps ++ qs) ts ≡ (fill ps ts >>= fill qs)
fill_more [] qs ts = refl
fill_more (p ∷ ps) qs [] = refl
fill_more (p ∷ ps) qs (t ∷ ts) = ap (on (p t ts)) (fill_more ps qs ts) ∙ sym (on_bind (p t ts) (fill ps ts) (fill qs))

-- each reader puts one token into a place
pick : {A : Type 0} (c : Bool) (r : Result A Stop) (fault : LoadFault) → cond c r (Err (faulty fault)) ≡ on (unless (true && c) fault) r
pick true r fault = refl
pick false r fault = refl

mark_in_is : (b : ℕ) (t : Token) (rest : Tokens) (k : TokenKind) → mark_in b t k rest ≡ on (unless (is_sign k && bytes_eq t.text (b ∷ [])) (BadForm t.line)) (Ok rest)
mark_in_is b t rest Mark = pick (bytes_eq t.text (b ∷ [])) (Ok rest) (BadForm t.line)
mark_in_is b t rest Bare = refl
mark_in_is b t rest Quoted = refl
mark_in_is b t rest Json = refl

mark_is : (b : ℕ) (t : Token) (rest : Tokens) → mark_at b (t ∷ rest) ≡ on (the_mark b t rest) (Ok rest)
unfolding mark_at next
mark_is b t rest = mark_in_is b t rest t.kind

mark_none : (b : ℕ) → mark_at b [] ≡ Err short
unfolding mark_at next
mark_none b = refl

begin_in_is : (t : Token) (rest : Tokens) (k : TokenKind) → begin_in t k rest ≡ on (unless (is_bare k && bytes_eq t.text (codes "record")) (BadForm t.line)) (Ok (t, rest))
begin_in_is t rest Bare = pick (bytes_eq t.text (codes "record")) (Ok (t, rest)) (BadForm t.line)
begin_in_is t rest Mark = refl
begin_in_is t rest Quoted = refl
begin_in_is t rest Json = refl

begin_is : (t : Token) (rest : Tokens) → begin_at (t ∷ rest) ≡ on (the_word (codes "record") t rest) (Ok (t, rest))
unfolding begin_at next
begin_is t rest = begin_in_is t rest t.kind

begin_none : begin_at [] ≡ Err short
unfolding begin_at next
begin_none = refl

word_in_is : (t : Token) (rest : Tokens) (k : TokenKind) → word_in t k rest ≡ on (unless (is_name k) (BadForm t.line)) (Ok (t, rest))
word_in_is t rest Bare = refl
word_in_is t rest Mark = refl
word_in_is t rest Quoted = refl
word_in_is t rest Json = refl

word_is : (t : Token) (rest : Tokens) → word_at (t ∷ rest) ≡ on (a_text t rest) (Ok (t, rest))
unfolding word_at next
word_is t rest = word_in_is t rest t.kind

word_none : word_at [] ≡ Err short
unfolding word_at next
word_none = refl

value_in_is : (t : Token) (rest : Tokens) (k : TokenKind) → value_in t k rest ≡ on (unless (is_value k) (BadForm t.line)) (Ok ((t, is_json k), rest))
value_in_is t rest Bare = refl
value_in_is t rest Mark = refl
value_in_is t rest Quoted = refl
value_in_is t rest Json = refl

value_is : (t : Token) (rest : Tokens) → value_at (t ∷ rest) ≡ on (a_value t rest) (Ok ((t, is_json t.kind), rest))
unfolding value_at next
value_is t rest = value_in_is t rest t.kind

value_none : value_at [] ≡ Err short
unfolding value_at next
value_none = refl

module _ {A : Type 0} (view : A → Tokens) (ps : List Place) where
  one_step : {B : Type 0} (r : Result B Stop) (o : Option LoadFault) (x : B) (rest : Tokens) (f : B → Result A Stop) → r ≡ on o (Ok x) → left view (f x) ≡ fill ps rest → left view (r >>= f) ≡ on o (fill ps rest)
  one_step r o x rest f is same = ap (λ m. left view (m >>= f)) is ∙ ap (left view) (on_bind o (Ok x) f) ∙ left_on view o (f x) ∙ ap (on o) same

  mark_cons : (b : ℕ) (f : Tokens → Result A Stop) (t : Token) (rest : Tokens) → left view (f rest) ≡ fill ps rest → left view (mark_at b (t ∷ rest) >>= f) ≡ fill (the_mark b ∷ ps) (t ∷ rest)
  mark_cons b f t rest same = one_step (mark_at b (t ∷ rest)) (the_mark b t rest) rest rest f (mark_is b t rest) same

  mark_step : (b : ℕ) (f : Tokens → Result A Stop) (ts : Tokens) → ((rest : Tokens) → left view (f rest) ≡ fill ps rest) → left view (mark_at b ts >>= f) ≡ fill (the_mark b ∷ ps) ts
  mark_step b f [] same = ap (λ m. left view (m >>= f)) (mark_none b)
  mark_step b f (t ∷ rest) same = mark_cons b f t rest (same rest)

  begin_step : (f : Token × Tokens → Result A Stop) (ts : Tokens) → ((t : Token) (rest : Tokens) → left view (f (t, rest)) ≡ fill ps rest) → left view (begin_at ts >>= f) ≡ fill (the_word (codes "record") ∷ ps) ts
  begin_step f [] same = ap (λ m. left view (m >>= f)) begin_none
  begin_step f (t ∷ rest) same = one_step (begin_at (t ∷ rest)) (the_word (codes "record") t rest) (t, rest) rest f (begin_is t rest) (same t rest)

  word_cons : (f : Token × Tokens → Result A Stop) (t : Token) (rest : Tokens) → left view (f (t, rest)) ≡ fill ps rest → left view (word_at (t ∷ rest) >>= f) ≡ fill (a_text ∷ ps) (t ∷ rest)
  word_cons f t rest same = one_step (word_at (t ∷ rest)) (a_text t rest) (t, rest) rest f (word_is t rest) same

  word_end : (f : Token × Tokens → Result A Stop) → left view (word_at [] >>= f) ≡ fill (a_text ∷ ps) []
  word_end f = ap (λ m. left view (m >>= f)) word_none

  word_step : (f : Token × Tokens → Result A Stop) (ts : Tokens) → ((t : Token) (rest : Tokens) → left view (f (t, rest)) ≡ fill ps rest) → left view (word_at ts >>= f) ≡ fill (a_text ∷ ps) ts
  word_step f [] same = word_end f
  word_step f (t ∷ rest) same = word_cons f t rest (same t rest)

  value_step : (f : (Token × Bool) × Tokens → Result A Stop) (ts : Tokens) → ((t : Token) (j : Bool) (rest : Tokens) → left view (f ((t, j), rest)) ≡ fill ps rest) → left view (value_at ts >>= f) ≡ fill (a_value ∷ ps) ts
  value_step f [] same = ap (λ m. left view (m >>= f)) value_none
  value_step f (t ∷ rest) same = one_step (value_at (t ∷ rest)) (a_value t rest) ((t, is_json t.kind), rest) rest f (value_is t rest) (same t (is_json t.kind) rest)

  -- a text, of which more is asked
  kind_step : (g : Token × Tokens → Kind → Result A Stop) (ts : Tokens) → ((t : Token) (kind : Kind) (rest : Tokens) → left view (g (t, rest) kind) ≡ fill ps rest)
      → left view (word_at ts >>= λ k. kind_in k.0 (kind_of k.0.text) >>= λ kind. g k kind) ≡ fill (a_kind ∷ ps) ts
  kind_step g [] same = ap (λ m. left view (m >>= λ k. kind_in k.0 (kind_of k.0.text) >>= λ kind. g k kind)) word_none
  kind_step g (t ∷ rest) same =
      ap (λ m. left view (m >>= λ k. kind_in k.0 (kind_of k.0.text) >>= λ kind. g k kind)) (word_is t rest)
      ∙ ap (left view) (on_bind (a_text t rest) (Ok (t, rest)) (λ k. kind_in k.0 (kind_of k.0.text) >>= λ kind. g k kind)) ∙ by_kind (is_name t.kind) (kind_of t.text)
    where
      by_kind : (c : Bool) (o : Option Kind) → left view (on (unless c (BadForm t.line)) (kind_in t o >>= λ kind. g (t, rest) kind)) ≡ on (cond c (unless (is_some o) (UnknownKind t.text t.line)) (Some (BadForm t.line))) (fill ps rest)
      by_kind false o = refl
      by_kind true None = refl
      by_kind true (Some kind) = same t kind rest

  name_step : (names : List (List ℕ)) (g : Token × Tokens → List ℕ → Result A Stop) (ts : Tokens) → ((t : Token) (name : List ℕ) (rest : Tokens) → left view (g (t, rest) name) ≡ fill ps rest)
      → left view (word_at ts >>= λ n. name_in (is_among n.0.text names) n.0 >>= λ name. g n name) ≡ fill (a_name names ∷ ps) ts
  name_step names g [] same = ap (λ m. left view (m >>= λ n. name_in (is_among n.0.text names) n.0 >>= λ name. g n name)) word_none
  name_step names g (t ∷ rest) same =
      ap (λ m. left view (m >>= λ n. name_in (is_among n.0.text names) n.0 >>= λ name. g n name)) (word_is t rest)
      ∙ ap (left view) (on_bind (a_text t rest) (Ok (t, rest)) (λ n. name_in (is_among n.0.text names) n.0 >>= λ name. g n name)) ∙ by_name (is_name t.kind) (is_record_name t.text) (is_among t.text names)
    where
      by_name : (c r v : Bool) → left view (on (unless c (BadForm t.line)) (cond {A = Result (List ℕ) Stop} r (cond {A = Result (List ℕ) Stop} v (Err (faulty (SameRecord t.text t.line))) (Ok t.text)) (Err (faulty (BadForm t.line))) >>= λ name. g (t, rest) name))
          ≡ on (cond (c && r) (unless (not v) (SameRecord t.text t.line)) (Some (BadForm t.line))) (fill ps rest)
      by_name false r v = refl
      by_name true false v = refl
      by_name true true true = refl
      by_name true true false = same t t.text rest

  -- a field's name, which its kind must know
  known_step : (kind : Kind) (f : Token × Tokens → Result A Stop) (ts : Tokens) → ((t : Token) (rest : Tokens) → left view (f (t, rest)) ≡ fill ps rest) → left view (known_at kind ts >>= f) ≡ fill (a_field kind ∷ ps) ts
  unfolding known_at
  known_step kind f [] same = ap (λ m. left view ((m >>= λ n. known_in kind n.0 n.1) >>= f)) word_none
  known_step kind f (t ∷ rest) same =
      ap (λ m. left view ((m >>= λ n. known_in kind n.0 n.1) >>= f)) (word_is t rest)
      ∙ ap (λ m. left view (m >>= f)) (on_bind (a_text t rest) (Ok (t, rest)) (λ n. known_in kind n.0 n.1)) ∙ by_rule (is_name t.kind) (is_some (rule_of kind t.text))
    where
      by_rule : (c r : Bool) → left view (on (unless c (BadForm t.line)) (cond {A = Read Token} r (Ok (t, rest)) (Err (faulty (UnknownField t.text (told_at t rest))))) >>= f)
          ≡ on (cond c (unless r (UnknownField t.text (told_at t rest))) (Some (BadForm t.line))) (fill ps rest)
      by_rule false r = refl
      by_rule true false = refl
      by_rule true true = same t rest

abbrev field_rest : Kind → List Place
field_rest kind = the_mark 40 ∷ a_field kind ∷ the_mark 44 ∷ a_text ∷ the_mark 41 ∷ []

abbrev info_rest : List Place
info_rest = the_mark 40 ∷ a_text ∷ the_mark 44 ∷ a_value ∷ the_mark 41 ∷ []

abbrev head_rest : List (List ℕ) → List Place
head_rest names = the_word (codes "record") ∷ the_mark 40 ∷ a_kind ∷ the_mark 44 ∷ a_name names ∷ the_mark 41 ∷ []

abbrev after : {A : Type 0} → A × Tokens → Tokens
after x = x.1

field_left : (kind : Kind) (ts : Tokens) → left after (field_at kind ts) ≡ fill (field_rest kind) ts
unfolding field_at
field_left kind ts =
    mark_step after (a_field kind ∷ the_mark 44 ∷ a_text ∷ the_mark 41 ∷ []) 40 _ ts
    (λ a. known_step after (the_mark 44 ∷ a_text ∷ the_mark 41 ∷ []) kind _ a
    (λ n b. mark_step after (a_text ∷ the_mark 41 ∷ []) 44 _ b
    (λ c. word_step after (the_mark 41 ∷ []) _ c (λ t d. mark_step after [] 41 _ d (λ end. refl)))))

info_left : (ts : Tokens) → left after (info_at ts) ≡ fill info_rest ts
unfolding info_at
info_left ts =
    mark_step after (a_text ∷ the_mark 44 ∷ a_value ∷ the_mark 41 ∷ []) 40 _ ts
    (λ a. word_step after (the_mark 44 ∷ a_value ∷ the_mark 41 ∷ []) _ a
    (λ n b. mark_step after (a_value ∷ the_mark 41 ∷ []) 44 _ b
    (λ c. value_step after (the_mark 41 ∷ []) _ c (λ v j d. mark_step after [] 41 _ d (λ end. refl)))))

head_left : (names : List (List ℕ)) (ts : Tokens) → left after (head_with (λ name. is_among name names) ts) ≡ fill (head_rest names) ts
unfolding head_with
head_left names ts =
    begin_step after (the_mark 40 ∷ a_kind ∷ the_mark 44 ∷ a_name names ∷ the_mark 41 ∷ []) _ ts
    (λ w a. mark_step after (a_kind ∷ the_mark 44 ∷ a_name names ∷ the_mark 41 ∷ []) 40 _ a
    (λ b. kind_step after (the_mark 44 ∷ a_name names ∷ the_mark 41 ∷ [])
    (λ k kind. mark_at 44 k.1 >>= λ b. word_at b >>= λ n. name_in (is_among n.0.text names) n.0 >>= λ name. mark_at 41 n.1 >>= λ rest. Ok ((kind, name, w.line), rest)) b
    (λ k kind c. mark_step after (a_name names ∷ the_mark 41 ∷ []) 44 _ c
    (λ d. name_step after (the_mark 41 ∷ []) names (λ n name. mark_at 41 n.1 >>= λ rest. Ok ((kind, name, w.line), rest)) d
    (λ n name e. mark_step after [] 41 _ e (λ end. refl))))))

-- an item stops where a part does
passes : (word : List ℕ) (t : Token) (rest : Tokens) → IsWord word t → the_word word t rest ≡ None
passes word t rest is = rw (is.0, same_bytes t.text word is.1) refl

field_err : (r : Read FieldText) (stop : Stop) → as_field r ≡ Err stop → r ≡ Err stop
field_err (Ok x) stop h = absurd cc
field_err (Err e) stop h = let same : e ≡ stop = cc in ap (λ (x : Stop). Err x) same

info_err : (r : Read Info) (stop : Stop) → as_info r ≡ Err stop → r ≡ Err stop
info_err (Ok x) stop h = absurd cc
info_err (Err e) stop h = let same : e ≡ stop = cc in ap (λ (x : Stop). Err x) same

item_none : (kind : Kind) → item_at kind [] ≡ Err short
unfolding item_at next
item_none kind = refl

item_is : (kind : Kind) (w : Token) (ts : Tokens) → item_at kind (w ∷ ts) ≡ item_in kind w w.kind ts
unfolding item_at next
item_is kind w ts = refl

keyword_is : (kind : Kind) (w : Token) (ts : Tokens) → keyword_at kind w ts ≡ cond (bytes_eq w.text (codes "field")) (as_field (field_at kind ts)) (cond (bytes_eq w.text (codes "info")) (as_info (info_at ts)) (Err (faulty (BadForm w.line))))
unfolding keyword_at
keyword_is kind w ts = refl

differ : (xs ys : List ℕ) → bytes_eq xs ys ≡ false → xs ≡ ys → ⊥
differ xs ys h e = true≢false (sym (same_bytes xs ys e) ∙ h)

kinds_differ : (f : TokenKind → Bool) (a b : TokenKind) (w : Token) → f a ≡ true → f b ≡ false → w.kind ≡ b → w.kind ≡ a → ⊥
kinds_differ f a b w yes_a no_b is e = true≢false (sym yes_a ∙ ap f (sym e ∙ is) ∙ no_b)

bad_stop : {A : Type 0} (w : Token) (stop : Stop) (r : Result A Stop) → r ≡ Err (faulty (BadForm w.line)) → r ≡ Err stop → stop ≡ faulty (BadForm w.line)
bad_stop w stop r f g = sym (stop_is (faulty (BadForm w.line)) stop r f g)

module _ (kind : Kind) (w : Token) (ts : Tokens) (stop : Stop) where
  field_stops : IsWord (codes "field") w → field_at kind ts ≡ Err stop → PartStops kind (w ∷ ts) stop
  field_stops is h = inl (is, inr (passes (codes "field") w ts is, stops_found (field_rest kind) ts stop (sym (field_left kind ts) ∙ ap (left after) h)))

  info_stops : IsWord (codes "info") w → info_at ts ≡ Err stop → PartStops kind (w ∷ ts) stop
  info_stops is h = inr (inl (is, inr (passes (codes "info") w ts is, stops_found info_rest ts stop (sym (info_left ts) ∙ ap (left after) h))))

  keyword_stops : w.kind ≡ Bare → (c d : Bool) → bytes_eq w.text (codes "field") ≡ c → bytes_eq w.text (codes "info") ≡ d
      → cond c (as_field (field_at kind ts)) (cond d (as_info (info_at ts)) (Err (faulty (BadForm w.line)))) ≡ Err stop → PartStops kind (w ∷ ts) stop
  keyword_stops is true d c e h = field_stops (is, (bytes_eq-Decides w.text (codes "field")).0 c) (field_err (field_at kind ts) stop h)
  keyword_stops is false true c e h = info_stops (is, (bytes_eq-Decides w.text (codes "info")).0 e) (info_err (info_at ts) stop h)
  keyword_stops is false false c e h =
      inr (inr (λ f. differ w.text (codes "field") c f.1, λ f. differ w.text (codes "info") e f.1, λ f. kinds_differ is_sign Mark Bare w refl refl is f.0, sym (stop_is {A = Item × Tokens} (faulty (BadForm w.line)) stop (Err (faulty (BadForm w.line))) refl h)))

  brace_stops : w.kind ≡ Mark → (c : Bool) → bytes_eq w.text (125 ∷ []) ≡ c → ◌≡◌ {A = Read Item} (cond c (Ok (items.Close, ts)) (Err (faulty (BadForm w.line)))) (Err stop) → PartStops kind (w ∷ ts) stop
  brace_stops is true c h = absurd (ok_err {A = Item × Tokens} (items.Close, ts) stop (Ok (items.Close, ts)) refl h)
  brace_stops is false c h =
      inr (inr (λ f. kinds_differ is_bare Bare Mark w refl refl is f.0, λ f. kinds_differ is_bare Bare Mark w refl refl is f.0, λ f. differ w.text (125 ∷ []) c f.1, sym (stop_is {A = Item × Tokens} (faulty (BadForm w.line)) stop (Err (faulty (BadForm w.line))) refl h)))

  other_stops : (k : TokenKind) → w.kind ≡ k → is_bare k ≡ false → is_sign k ≡ false → stop ≡ faulty (BadForm w.line) → PartStops kind (w ∷ ts) stop
  other_stops k is a b h = inr (inr (λ f. kinds_differ is_bare Bare k w refl a is f.0, λ f. kinds_differ is_bare Bare k w refl a is f.0, λ f. kinds_differ is_sign Mark k w refl b is f.0, h))

  in_stops : (k : TokenKind) → w.kind ≡ k → item_in kind w k ts ≡ Err stop → PartStops kind (w ∷ ts) stop
  in_stops Bare is h = keyword_stops is (bytes_eq w.text (codes "field")) (bytes_eq w.text (codes "info")) refl refl (sym (keyword_is kind w ts) ∙ h)
  in_stops Mark is h = brace_stops is (bytes_eq w.text (125 ∷ [])) refl h
  in_stops Quoted is h = other_stops Quoted is refl refl (sym (stop_is {A = Item × Tokens} (faulty (BadForm w.line)) stop (item_in kind w Quoted ts) refl h))
  in_stops Json is h = other_stops Json is refl refl (sym (stop_is {A = Item × Tokens} (faulty (BadForm w.line)) stop (item_in kind w Json ts) refl h))

  -- and the other way round
  nothing_begins : (IsWord (codes "field") w → ⊥) → (IsWord (codes "info") w → ⊥) → (IsMark 125 w → ⊥) → (k : TokenKind) → w.kind ≡ k → item_in kind w k ts ≡ Err (faulty (BadForm w.line))
  nothing_begins nf ni nm Quoted is = refl
  nothing_begins nf ni nm Json is = refl
  nothing_begins nf ni nm Mark is = by_brace (bytes_eq w.text (125 ∷ [])) refl
    where
      by_brace : (c : Bool) → bytes_eq w.text (125 ∷ []) ≡ c → ◌≡◌ {A = Read Item} (cond c (Ok (items.Close, ts)) (Err (faulty (BadForm w.line)))) (Err (faulty (BadForm w.line)))
      by_brace true c = absurd (nm (is, (bytes_eq-Decides w.text (125 ∷ [])).0 c))
      by_brace false c = refl
  nothing_begins nf ni nm Bare is = keyword_is kind w ts ∙ by_word (bytes_eq w.text (codes "field")) (bytes_eq w.text (codes "info")) refl refl
    where
      by_word : (c d : Bool) → bytes_eq w.text (codes "field") ≡ c → bytes_eq w.text (codes "info") ≡ d → cond c (as_field (field_at kind ts)) (cond d (as_info (info_at ts)) (Err (faulty (BadForm w.line)))) ≡ Err (faulty (BadForm w.line))
      by_word true d c e = absurd (nf (is, (bytes_eq-Decides w.text (codes "field")).0 c))
      by_word false true c e = absurd (ni (is, (bytes_eq-Decides w.text (codes "info")).0 e))
      by_word false false c e = refl

  rest_stops : (word : List ℕ) (ps : List Place) → IsWord word w → StopsIn (the_word word ∷ ps) (w ∷ ts) stop → fill ps ts ≡ Err stop
  rest_stops word ps is (inl (fault, at, e)) = let none = passes word w ts is in absurd cc
  rest_stops word ps is (inr (at, more)) = stops_only ps ts stop more

item_stops_found : (kind : Kind) (tokens : Tokens) (stop : Stop) → item_at kind tokens ≡ Err stop → PartStops kind tokens stop
item_stops_found kind [] stop h = sym (stop_is short stop (item_at kind []) (item_none kind) h)
item_stops_found kind (w ∷ ts) stop h = in_stops kind w ts stop w.kind refl (sym (item_is kind w ts) ∙ h)

item_stops_only : (kind : Kind) (tokens : Tokens) (stop : Stop) → PartStops kind tokens stop → item_at kind tokens ≡ Err stop
item_stops_only kind [] stop h = item_none kind ∙ ap (λ (e : Stop). Err e) (sym h)
item_stops_only kind (w ∷ ts) stop (inl (is, stops)) =
    let at = left_err after stop (field_at kind ts) (field_left kind ts ∙ rest_stops kind w ts stop (codes "field") (field_rest kind) is stops) in
    item_bare kind w ts is.0 ∙ word_field kind w ts is.1 ∙ ap as_field at
item_stops_only kind (w ∷ ts) stop (inr (inl (is, stops))) =
    let at = left_err after stop (info_at ts) (info_left ts ∙ rest_stops kind w ts stop (codes "info") info_rest is stops) in
    item_bare kind w ts is.0 ∙ word_info kind w ts is.1 ∙ ap as_info at
item_stops_only kind (w ∷ ts) stop (inr (inr (nf, ni, nm, is))) = item_is kind w ts ∙ nothing_begins kind w ts stop nf ni nm w.kind refl ∙ ap (λ (e : Stop). Err e) (sym is)

-- a body stops behind whole parts
abbrev BodyStops : Kind → Tokens → Stop → Type 0
BodyStops kind tokens stop = (parts : List Part) × (rest : Tokens) × (tokens ≡ parts_tokens parts ++ rest) × AreParts kind parts × PartStops kind rest stop

abbrev after_items : Kind → ℕ → Item × Tokens → Read Body
after_items kind n x = after_item (body_at kind n) x.0 x.1

with_err : (first : Body) (r : Read Body) (stop : Stop) → with_items first r ≡ Err stop → r ≡ Err stop
with_err first (Ok b) stop h = absurd cc
with_err first (Err e) stop h = let same : e ≡ stop = cc in ap (λ (x : Stop). Err x) same

item_then : (kind : Kind) (n : ℕ) (tokens : Tokens) (x : Item) (rest : Tokens) (stop : Stop) → ((ts : Tokens) → length ts < n → body_at kind n ts ≡ Err stop → BodyStops kind ts stop) → length tokens < suc n → ItemRead kind tokens x rest
    → after_item (body_at kind n) x rest ≡ Err stop → BodyStops kind tokens stop
item_then kind n tokens items.Close rest stop more few read h = absurd cc
item_then kind n tokens (items.Field f) rest stop more few (w, next, same, is, (o, m, c, t, e, cut, oo, mm, cc', tt', known, ee, made)) h =
    let a = ap length same in
    let b = ap length cut in
    let (parts, left, bytes, are, stops) = more rest (omega (arith, few, a, b)) (with_err (f ∷ [], []) (body_at kind n rest) stop h) in
    (field w o m c t e ∷ parts, left, same ∙ ap (λ (xs : Tokens). w ∷ xs) (cut ∙ ap (λ (xs : Tokens). o ∷ m ∷ c ∷ t ∷ e ∷ xs) bytes), (is, oo, mm, cc', tt', known, ee, are), stops)
item_then kind n tokens (items.Info i) rest stop more few (w, next, same, is, (o, m, c, t, e, cut, oo, mm, cc', tt', ee, made)) h =
    let a = ap length same in
    let b = ap length cut in
    let (parts, left, bytes, are, stops) = more rest (omega (arith, few, a, b)) (with_err ([], i ∷ []) (body_at kind n rest) stop h) in
    (info w o m c t e ∷ parts, left, same ∙ ap (λ (xs : Tokens). w ∷ xs) (cut ∙ ap (λ (xs : Tokens). o ∷ m ∷ c ∷ t ∷ e ∷ xs) bytes), (is, oo, mm, cc', tt', ee, are), stops)

body_read : (kind : Kind) (n : ℕ) (tokens : Tokens) (stop : Stop) (r : Read Item) → ((ts : Tokens) → length ts < n → body_at kind n ts ≡ Err stop → BodyStops kind ts stop) → length tokens < suc n → item_at kind tokens ≡ r
    → (r >>= after_items kind n) ≡ Err stop → BodyStops kind tokens stop
body_read kind n tokens stop (Err e) more few is h = let same : e ≡ stop = stop_is {A = Body × Tokens} e stop (Err e) refl h in ([], tokens, refl, tt, item_stops_found kind tokens stop (is ∙ ap (λ (x : Stop). Err x) same))
body_read kind n tokens stop (Ok x) more few is h = item_then kind n tokens x.0 x.1 stop more few (item_found kind tokens x.0 x.1 is) h

body_stops_found : (kind : Kind) (n : ℕ) (tokens : Tokens) (stop : Stop) → length tokens < n → body_at kind n tokens ≡ Err stop → BodyStops kind tokens stop
body_stops_found kind zero tokens stop few h = absurd (omega arith)
body_stops_found kind (suc n) tokens stop few h =
    body_read kind n tokens stop (item_at kind tokens) (λ ts less e. body_stops_found kind n ts stop less e) few refl (sym (body_step kind n tokens) ∙ h)

body_stops_only : (kind : Kind) (parts : List Part) (rest : Tokens) (n : ℕ) (stop : Stop) → length (parts_tokens parts ++ rest) < n → AreParts kind parts → PartStops kind rest stop → body_at kind n (parts_tokens parts ++ rest) ≡ Err stop
body_stops_only kind parts rest zero stop few are stops = absurd (omega arith)
body_stops_only kind [] rest (suc n) stop few are stops = body_step kind n rest ∙ ap (λ r. r >>= after_items kind n) (item_stops_only kind rest stop stops)
body_stops_only kind (field w o n c t x ∷ ps) rest (suc m) stop few are stops =
    let h : suc (suc (suc (suc (suc (suc (length (parts_tokens ps ++ rest))))))) < suc m = few in
    let left : Tokens = parts_tokens ps ++ rest in
    let more = body_stops_only kind ps rest m stop (omega (arith, h)) are.7 stops in
    let here = item_bare kind w (o ∷ n ∷ c ∷ t ∷ x ∷ left) are.0.0 ∙ word_field kind w (o ∷ n ∷ c ∷ t ∷ x ∷ left) are.0.1 ∙ ap as_field (field_only kind o n c t x left are.1 are.2 are.3 are.4 are.5 are.6) in
    body_step kind m (w ∷ o ∷ n ∷ c ∷ t ∷ x ∷ left) ∙ ap (λ r. r >>= after_items kind m) here ∙ ap (with_items (record { name = n.text; text = t.text; line = t.line } ∷ [], [])) more
body_stops_only kind (info w o n c t x ∷ ps) rest (suc m) stop few are stops =
    let h : suc (suc (suc (suc (suc (suc (length (parts_tokens ps ++ rest))))))) < suc m = few in
    let left : Tokens = parts_tokens ps ++ rest in
    let more = body_stops_only kind ps rest m stop (omega (arith, h)) are.6 stops in
    let here = item_bare kind w (o ∷ n ∷ c ∷ t ∷ x ∷ left) are.0.0 ∙ word_info kind w (o ∷ n ∷ c ∷ t ∷ x ∷ left) are.0.1 ∙ ap as_info (info_only o n c t x left are.1 are.2 are.3 are.4 are.5) in
    body_step kind m (w ∷ o ∷ n ∷ c ∷ t ∷ x ∷ left) ∙ ap (λ r. r >>= after_items kind m) here
    ∙ ap (with_items ([], record { name = n.text; text = t.text; json = is_json t.kind; line = t.line } ∷ [])) more

-- a record stops in its head, or in its body
module _ (names : List (List ℕ)) where
  abbrev taken : List ℕ → Bool
  taken name = is_among name names

  head_is : (ts : Tokens) → fill (head_places names) ts ≡ (fill (head_rest names) ts >>= fill (the_mark 123 ∷ []))
  head_is ts = fill_more (head_rest names) (the_mark 123 ∷ []) ts

  abbrev same_tokens : Tokens → Tokens
  same_tokens ts = ts

  brace_left : (ts : Tokens) → left same_tokens (mark_at 123 ts) ≡ fill (the_mark 123 ∷ []) ts
  brace_left [] = ap (left same_tokens) (mark_none 123)
  brace_left (t ∷ rest) = ap (left same_tokens) (mark_is 123 t rest) ∙ left_on same_tokens (the_mark 123 t rest) (Ok rest)

  abbrev finish : Kind × List ℕ × ℕ → Body × Tokens → Read RecText
  finish head body = Ok (record_of head body.0, body.1)

  abbrev with_body : (Kind × List ℕ × ℕ) × Tokens → Tokens → Read RecText
  with_body h a = body_at h.0.0 (length a + 1) a >>= finish h.0

  abbrev with_brace : (Kind × List ℕ × ℕ) × Tokens → Read RecText
  with_brace h = mark_at 123 h.1 >>= λ a. with_body h a

  record_is_read : (ts : Tokens) → record_with taken ts ≡ (head_with taken ts >>= with_brace)
  unfolding record_with
  record_is_read ts = refl

  head_of : (w o k c n e b : Token) → Head
  head_of w o k c n e b = record { word = w; opens = o; kind = k; comma = c; name = n; closes = e; brace = b }

  by_body : (tokens : Tokens) (stop : Stop) (h : (Kind × List ℕ × ℕ) × Tokens) (a : Tokens) (r : Read Body) → HeadRead taken tokens h → Marked 123 h.1 a → body_at h.0.0 (length a + 1) a ≡ r
      → (r >>= finish h.0) ≡ Err stop → FormStops names tokens stop
  by_body tokens stop h a (Ok x) head brace is e = absurd (ok_err {A = RecText × Tokens} (record_of h.0 x.0, x.1) stop (Ok (record_of h.0 x.0, x.1)) refl e)
  by_body tokens stop h a (Err d) (w, o, k, c, n, e, cut, ww, oo, kk, known, cc', nn, may, new, ee, named, at) (b, braced, bb) is f =
      let same : d ≡ stop = stop_is {A = RecText × Tokens} d stop (Err d) refl f in
      let (parts, rest, bytes, are, stops) = body_stops_found h.0.0 (length a + 1) a stop (omega arith) (is ∙ ap (λ (x : Stop). Err x) same) in
      inr (
        h.0.0,
        record { word = w; opens = o; kind = k; comma = c; name = n; closes = e; brace = b },
        parts,
        rest,
        cut ∙ ap (λ (xs : Tokens). w ∷ o ∷ k ∷ c ∷ n ∷ e ∷ xs) (braced ∙ ap (λ (xs : Tokens). b ∷ xs) bytes),
        record { word_is = ww; opens_is = oo; kind_text = kk; kind_is = known; comma_is = cc'; name_text = nn; name_may = may; name_new = new; closes_is = ee; brace_is = bb },
        are,
        stops,
      )

  by_brace : (tokens : Tokens) (stop : Stop) (h : (Kind × List ℕ × ℕ) × Tokens) (r : Result Tokens Stop) → head_with taken tokens ≡ Ok h → mark_at 123 h.1 ≡ r → (r >>= λ a. with_body h a) ≡ Err stop → FormStops names tokens stop
  by_brace tokens stop h (Ok a) head is e = by_body tokens stop h a (body_at h.0.0 (length a + 1) a) (head_found taken tokens h head) (mark_found 123 h.1 a is) refl e
  by_brace tokens stop h (Err d) head is e =
      let same : d ≡ stop = stop_is {A = RecText × Tokens} d stop (Err d) refl e in
      let at : fill (head_rest names) tokens ≡ Ok h.1 = sym (head_left names tokens) ∙ ap (left after) head in
      let here : fill (the_mark 123 ∷ []) h.1 ≡ Err d = sym (brace_left h.1) ∙ ap (left same_tokens) is in
      inl (stops_found (head_places names) tokens stop (head_is tokens ∙ ap (λ r. r >>= fill (the_mark 123 ∷ [])) at ∙ here ∙ ap (λ (x : Stop). Err x) same))

  by_head : (tokens : Tokens) (stop : Stop) (r : Read (Kind × List ℕ × ℕ)) → head_with taken tokens ≡ r → (r >>= with_brace) ≡ Err stop → FormStops names tokens stop
  by_head tokens stop (Ok h) is e = by_brace tokens stop h (mark_at 123 h.1) is refl e
  by_head tokens stop (Err d) is e =
      let same : d ≡ stop = stop_is {A = RecText × Tokens} d stop (Err d) refl e in
      let at : fill (head_rest names) tokens ≡ Err d = sym (head_left names tokens) ∙ ap (left after) is in
      inl (stops_found (head_places names) tokens stop (head_is tokens ∙ ap (λ r. r >>= fill (the_mark 123 ∷ [])) at ∙ ap (λ (x : Stop). Err x) same))

  form_stops_found : (tokens : Tokens) (stop : Stop) → record_with taken tokens ≡ Err stop → FormStops names tokens stop
  form_stops_found tokens stop h = by_head tokens stop (head_with taken tokens) refl (sym (record_is_read tokens) ∙ h)

  head_stops : (tokens : Tokens) (stop : Stop) (r : Read (Kind × List ℕ × ℕ)) → head_with taken tokens ≡ r → (left after r >>= fill (the_mark 123 ∷ [])) ≡ Err stop → (r >>= with_brace) ≡ Err stop
  head_stops tokens stop (Err d) is e = let same : d ≡ stop = stop_is {A = Tokens} d stop (Err d) refl e in ap (λ (x : Stop). Err x) same
  head_stops tokens stop (Ok h) is e = ap (λ r. r >>= λ a. with_body h a) (left_err same_tokens stop (mark_at 123 h.1) (brace_left h.1 ∙ e))

  form_stops_only : (tokens : Tokens) (stop : Stop) → FormStops names tokens stop → record_with taken tokens ≡ Err stop
  form_stops_only tokens stop (inl stops) =
      let at = sym (head_is tokens) ∙ stops_only (head_places names) tokens stop stops in
      record_is_read tokens ∙ head_stops tokens stop (head_with taken tokens) refl (ap (λ r. r >>= fill (the_mark 123 ∷ [])) (head_left names tokens) ∙ at)
  form_stops_only tokens stop (inr (k, h, parts, rest, same, is, are, stops)) =
      let a : Tokens = parts_tokens parts ++ rest in
      let head : head_with taken (head_tokens h a) ≡ Ok ((k, h.name.text, h.word.line), h.brace ∷ a) = head_only names k h (h.brace ∷ a) is in
      ap (record_with taken) same ∙ record_is_read (head_tokens h a) ∙ ap (λ r. r >>= with_brace) head
      ∙ ap (λ r. r >>= λ b. with_body ((k, h.name.text, h.word.line), h.brace ∷ a) b) (mark_only 123 h.brace a is.brace_is)
      ∙ ap (λ (r : Read Body). r >>= finish (k, h.name.text, h.word.line)) (body_stops_only k parts rest (length a + 1) stop (omega arith) are stops)

-- records stop behind whole ones
nonempty : (t : Token) (ts : Tokens) → t ∷ ts ≡ [] → ⊥
nonempty t ts h = cc

pub forms_stop_only : (fs : List Form) (names : List (List ℕ)) (tokens : Tokens) (stop : Stop) (n : ℕ) → length tokens ≤ n → StopsBehind names fs tokens stop → records_from n names tokens ≡ Err stop
forms_stop_only [] names [] stop n enough (some, stops) = absurd (some refl)
forms_stop_only [] names (t ∷ ts) stop zero enough (some, stops) = let e : suc (length ts) ≤ 0 = enough in absurd (omega (arith, e))
forms_stop_only [] names (t ∷ ts) stop (suc n) enough (some, stops) =
    records_step n names t ts ∙ ap (λ x. x >>= λ r. then_records r.0 (records_from n (r.0.name ∷ names) r.1)) (form_stops_only names (t ∷ ts) stop stops)
forms_stop_only (f ∷ fs) names tokens stop zero enough (k, rest, same, is, more) = let e = ap length same in absurd (omega (arith, enough, e))
forms_stop_only (f ∷ fs) names tokens stop (suc n) enough (k, rest, same, is, more) =
    let e = ap length same in
    let g = length-append (parts_tokens f.parts) (f.end ∷ rest) in
    let further = forms_stop_only fs (f.head.name.text ∷ names) rest stop n (omega (arith, enough, e, g)) more in
    ap (records_from (suc n) names) same
    ∙ records_step n names f.head.word (f.head.opens ∷ f.head.kind ∷ f.head.comma ∷ f.head.name ∷ f.head.closes ∷ f.head.brace ∷ (parts_tokens f.parts ++ f.end ∷ rest))
    ∙ ap (λ x. x >>= λ r. then_records r.0 (records_from n (r.0.name ∷ names) r.1)) (form_only names k f rest is) ∙ ap (then_records (record_is k f)) further

abbrev Stopped : List (List ℕ) → Tokens → Stop → Type 0
Stopped names tokens stop = (fs : List Form) × StopsBehind names fs tokens stop

then_err : (r : RecText) (more : Result (List RecText) Stop) (stop : Stop) → then_records r more ≡ Err stop → more ≡ Err stop
then_err r (Ok rs) stop h = absurd cc
then_err r (Err e) stop h = let same : e ≡ stop = cc in ap (λ (x : Stop). Err x) same

behind_form : (n : ℕ) (names : List (List ℕ)) (tokens : Tokens) (x : RecText × Tokens) (stop : Stop) → ((taken : List (List ℕ)) (ts : Tokens) → length ts ≤ n → records_from n taken ts ≡ Err stop → Stopped taken ts stop)
    → length tokens ≤ suc n → FormRead names tokens x → records_from n (x.0.name ∷ names) x.1 ≡ Err stop → Stopped names tokens stop
behind_form n names tokens x stop more enough (k, f, same, is, made) h =
    let e = ap length same in
    let g = length-append (parts_tokens f.parts) (f.end ∷ x.1) in
    let name : x.0.name ≡ f.head.name.text = ap (λ (r : RecText). r.name) made in
    let further = more (f.head.name.text ∷ names) x.1 (omega (arith, enough, e, g)) (ap (λ (m : List ℕ). records_from n (m ∷ names) x.1) (sym name) ∙ h) in
    (f ∷ further.0, (k, x.1, same, is, further.1))

by_record : (n : ℕ) (names : List (List ℕ)) (t : Token) (ts : Tokens) (stop : Stop) (r : Read RecText) → ((taken : List (List ℕ)) (ts : Tokens) → length ts ≤ n → records_from n taken ts ≡ Err stop → Stopped taken ts stop)
    → suc (length ts) ≤ suc n → record_with (λ name. is_among name names) (t ∷ ts) ≡ r → (r >>= λ r. then_records r.0 (records_from n (r.0.name ∷ names) r.1)) ≡ Err stop → Stopped names (t ∷ ts) stop
by_record n names t ts stop (Err e) more enough is h =
    let same : e ≡ stop = stop_is {A = List RecText} e stop (Err e) refl h in
    ([], (nonempty t ts, form_stops_found names (t ∷ ts) stop (is ∙ ap (λ (x : Stop). Err x) same)))
by_record n names t ts stop (Ok x) more enough is h = behind_form n names (t ∷ ts) x stop more enough (form_found names (t ∷ ts) x is) (then_err x.0 (records_from n (x.0.name ∷ names) x.1) stop h)

pub forms_stop_found : (n : ℕ) (names : List (List ℕ)) (tokens : Tokens) (stop : Stop) → length tokens ≤ n → records_from n names tokens ≡ Err stop → Stopped names tokens stop
forms_stop_found n names [] stop enough h = absurd (ok_err [] stop (records_from n names []) (records_none n names) h)
forms_stop_found zero names (t ∷ ts) stop enough h = let e : suc (length ts) ≤ 0 = enough in absurd (omega (arith, e))
forms_stop_found (suc n) names (t ∷ ts) stop enough h =
    by_record n names t ts stop (record_with (λ name. is_among name names) (t ∷ ts)) (λ taken xs few e. forms_stop_found n taken xs stop few e) enough refl (sym (records_step n names t ts) ∙ h)
