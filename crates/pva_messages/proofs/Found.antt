-- The items that were read, and those of a row, are spelled at the front.
use Rattle.std.proofs.Common.{◌≡◌, ◌∙◌, ℕ, zero, suc, List, [], ◌∷◌, ◌++◌, length, map, Option, Some, None, Result, Ok, Err, refl, sym, ap, subst, inl, inr, append_assoc}
use Rattle.std.proofs.lemmas.List.{append-nil}
use Rattle.std.proofs.Math.Seq.{drop-append_seam}
use Rattle.pva_wire.specs.declared.order.Order.{Order}
use Rattle.pva_wire.specs.Spelling.{IsBytes, SpellsNumber, SpellsSize, SpellsText}
use Rattle.pva_wire.specs.Reading.{◌>>=◌, number_at, count_at, text_at}
use Rattle.pva_wire.specs.Bits.{SpellsBits, bits_at}
use Rattle.pva_wire.specs.Status.{SpellsStatus, status_at}
use Rattle.pva_wire.proofs.Takes.{Takes, IsBytes-drop, ok_is, bind_ok}
use Rattle.pva_wire.proofs.Digits.{number_takes}
use Rattle.pva_wire.proofs.Texts.{text_takes}
use Rattle.pva_wire.proofs.BitsRead.{bits_takes}
use Rattle.pva_wire.proofs.Statuses.{status_takes}
use Rattle.pvd_type.specs.Tree.{Tree}
use Rattle.pvd_desc.specs.declared.fault.DescCause.{DescCause}
use Rattle.pvd_desc.specs.Types.{Types}
use Rattle.pvd_desc.specs.Reading.{desc_at}
use Rattle.pvd_desc.specs.Grammar.{Desc}
use Rattle.pvd_desc.proofs.Parts.{joined, bound_takes}
use Rattle.pvd_desc.proofs.FoundThere.{found_there}
use Rattle.pvd_codec.specs.Grammar.{SpellsItems, Counted}
use Rattle.pvd_codec.specs.Reading.{Read, State, lifted, described, steady, items_at, full_at, part_at}
use Rattle.pvd_codec.proofs.FoundItems.{unlifted, err_ok, Taken}
use Rattle.pvd_codec.proofs.FoundValues.{full_takes}
use Rattle.pvd_codec.proofs.FoundParts.{read_is_part}
use Rattle.pva_messages.specs.Items.{Item}
use Rattle.pva_messages.specs.Items as item
use Rattle.pva_messages.specs.Fields.{Field, Valued, item_of, byte, short, word, text, texts, channels, status, description, valued, last_valued, part, bits, rest}
use Rattle.pva_messages.specs.Rows.{Stage}
use Rattle.pva_messages.specs.Grammar.{SpellsChannel, SpellsChannels, SpellsValued, Spells, SpellsAll, OfRow}
use Rattle.pva_messages.specs.Reading.{texts_at, channel_at, channels_at, value_of, type_at, valued_at, last_valued_at, says, item_at, all_at, stages_at}

-- items, one after another
abbrev ItemsTaken : {A : Type 0} → (List ℕ → A → Type 0) → ℕ → List ℕ → List A × List ℕ → Type 0
ItemsTaken SpellsOne n bytes xs = (front : List ℕ) × SpellsItems SpellsOne front xs.0 × (length xs.0 ≡ n) × Takes bytes front xs.1

items_take : {A : Type 0} (SpellsOne : List ℕ → A → Type 0) (one : List ℕ → Read (List ℕ) A) → ((bytes : List ℕ) (x : A × List ℕ) → IsBytes bytes → one bytes ≡ Ok x → Taken SpellsOne bytes x)
    → (n : ℕ) (bytes : List ℕ) (xs : List A × List ℕ) → IsBytes bytes → items_at one n bytes ≡ Ok xs → ItemsTaken SpellsOne n bytes xs
unfolding items_at
items_take SpellsOne one takes zero bytes xs fits h = subst (ItemsTaken SpellsOne 0 bytes) (ok_is ([], bytes) xs h) ([], refl, refl, record { parts = refl; rest_fits = fits })
items_take SpellsOne one takes (suc n) bytes xs fits h =
    let x = bind_ok (one bytes) (λ x. items_at one n x.1 >>= λ ys. Ok (x.0 ∷ ys.0, ys.1)) xs h in
    let first = takes bytes x.0 fits x.1 in
    let ys = bind_ok (items_at one n x.0.1) (λ ys. Ok (x.0.0 ∷ ys.0, ys.1)) xs x.2 in
    let others = items_take SpellsOne one takes n x.0.1 ys.0 first.2.rest_fits ys.1 in
    subst (ItemsTaken SpellsOne (suc n) bytes) (ok_is (x.0.0 ∷ ys.0.0, ys.0.1) xs ys.2)
    (first.0 ++ others.0, (first.0, others.0, first.1, others.1, refl), ap suc others.2, joined bytes first.0 others.0 x.0.1 ys.0.1 first.2 others.3)

name_takes : (o : Order) (bytes : List ℕ) (x : List ℕ × List ℕ) → IsBytes bytes → lifted (text_at o bytes) ≡ Ok x → Taken (SpellsText o) bytes x
name_takes o bytes x fits h = text_takes o bytes x fits (unlifted (text_at o bytes) x h)

count_takes : (o : Order) (bytes : List ℕ) (x : ℕ × List ℕ) → IsBytes bytes → lifted (count_at o bytes) ≡ Ok x → (front : List ℕ) × SpellsSize o front (Some x.0) × Takes bytes front x.1
count_takes o bytes x fits h = let e = unlifted (count_at o bytes) x h in bound_takes o bytes x fits (rw e refl)

texts_take : (o : Order) (bytes : List ℕ) (x : List (List ℕ) × List ℕ) → IsBytes bytes → texts_at o bytes ≡ Ok x → Taken (λ front ts. Counted o (length ts) (λ tail. SpellsItems (SpellsText o) tail ts) front) bytes x
unfolding texts_at
texts_take o bytes x fits h =
    let n = bind_ok (lifted (count_at o bytes)) (λ n. items_at (λ b. lifted (text_at o b)) n.0 n.1) x h in
    let (head, count, first) = count_takes o bytes n.0 fits n.1 in
    let (tail, all, long, second) = items_take (SpellsText o) (λ b. lifted (text_at o b)) (name_takes o) n.0.0 n.0.1 x first.rest_fits n.2 in
    (head ++ tail, (head, tail, subst (λ (k : ℕ). SpellsSize o head (Some k)) (sym long) count, all, refl), joined bytes head tail n.0.1 x.1 first second)

channel_takes : (o : Order) (bytes : List ℕ) (x : (ℕ × List ℕ) × List ℕ) → IsBytes bytes → channel_at o bytes ≡ Ok x → Taken (SpellsChannel o) bytes x
unfolding channel_at
channel_takes o bytes x fits h =
    let id = bind_ok (lifted (number_at o 4 bytes)) (λ id. lifted (text_at o id.1) >>= λ name. Ok ((id.0, name.0), name.1)) x h in
    let (head, number, first) = number_takes o 4 bytes id.0 fits (unlifted (number_at o 4 bytes) id.0 id.1) in
    let name = bind_ok (lifted (text_at o id.0.1)) (λ name. Ok ((id.0.0, name.0), name.1)) x id.2 in
    let (tail, letters, second) = name_takes o id.0.1 name.0 first.rest_fits name.1 in
    subst (Taken (SpellsChannel o) bytes) (ok_is ((id.0.0, name.0.0), name.0.1) x name.2) (head ++ tail, (head, tail, number, letters, refl), joined bytes head tail id.0.1 name.0.1 first second)

channels_take : (o : Order) (bytes : List ℕ) (x : List (ℕ × List ℕ) × List ℕ) → IsBytes bytes → channels_at o bytes ≡ Ok x → Taken (SpellsChannels o) bytes x
unfolding channels_at
channels_take o bytes x fits h =
    let n = bind_ok (lifted (number_at o 2 bytes)) (λ n. items_at (channel_at o) n.0 n.1) x h in
    let (head, count, first) = number_takes o 2 bytes n.0 fits (unlifted (number_at o 2 bytes) n.0 n.1) in
    let (tail, all, long, second) = items_take (SpellsChannel o) (channel_at o) (channel_takes o) n.0.0 n.0.1 x first.rest_fits n.2 in
    (head ++ tail, (head, tail, subst (SpellsNumber o 2 head) (sym long) count, all, refl), joined bytes head tail n.0.1 x.1 first second)

undescribed : {A : Type 0} (r : Result A (DescCause × ℕ)) (x : A) → described r ≡ Ok x → r ≡ Ok x
undescribed (Ok y) x h = cc
undescribed (Err e) x h = absurd cc

behind : (front follow : List ℕ) → IsBytes (front ++ follow) → IsBytes follow
behind front follow fits = subst IsBytes (drop-append_seam front follow) (IsBytes-drop (length front) (front ++ follow) fits)

-- something that was taken from the front, and may define types
abbrev Took : {A : Type 0} → (Types → List ℕ → A → Types → Type 0) → State → A × State → Type 0
Took SpellsOne st x = (front : List ℕ) × SpellsOne st.1 front x.0 x.1.1 × Takes st.0 front x.1.0

type_takes : (o : Order) (st : State) (x : Option Tree × State) → IsBytes st.0 → type_at o st ≡ Ok x → Took (λ before front t after. Desc o before t front after) st x
unfolding type_at
type_takes o st x fits h =
    let d = bind_ok (described (desc_at o st.1 st.0)) (λ d. Ok (d.0, (d.1, d.2))) x h in
    let (front, desc, parts) = found_there o st.1 st.0 d.0.0 d.0.1 d.0.2 fits (undescribed (desc_at o st.1 st.0) d.0 d.1) in
    subst (Took (λ before front t after. Desc o before t front after) st) (ok_is (d.0.0, (d.0.1, d.0.2)) x d.2) (front, desc, record { parts = parts; rest_fits = behind front d.0.1 (subst IsBytes parts fits) })

value_takes : (o : Order) (st : State) (t : Option Tree) (mid : State) (front : List ℕ) (x : Valued × State) → Desc o st.1 t front mid.1 → Takes st.0 front mid.0 → value_of o t mid ≡ Ok x
    → Took (λ before front v after. SpellsValued o before front v after) st x
value_takes o st None mid front x desc took h = subst (Took (λ before front v after. SpellsValued o before front v after) st) (ok_is (None, mid) x h) (front, desc, took)
value_takes o st (Some t) mid front x desc took h =
    let v = bind_ok (full_at o t mid) (λ v. Ok (Some (t, v.0), v.1)) x h in
    let (tail, spelled, more) = full_takes o t mid v.0 took.rest_fits v.1 in
    subst (Took (λ before front v after. SpellsValued o before front v after) st) (ok_is (Some (t, v.0.0), v.0.1) x v.2)
    (front ++ tail, (front, tail, mid.1, desc, spelled, refl), joined st.0 front tail mid.0 v.0.1.0 took more)

valued_takes : (o : Order) (st : State) (x : Valued × State) → IsBytes st.0 → valued_at o st ≡ Ok x → Took (λ before front v after. SpellsValued o before front v after) st x
unfolding valued_at
valued_takes o st x fits h =
    let d = bind_ok (type_at o st) (λ d. value_of o d.0 d.1) x h in
    let (front, desc, took) = type_takes o st d.0 fits d.1 in
    value_takes o st d.0.0 d.0.1 front x desc took d.2

-- an item that was taken from the front
abbrev pub ItemTaken : Order → Item → State → Field × State → Type 0
ItemTaken o i st x = (front : List ℕ) × (item_of x.0 ≡ i) × Spells o x.0 st.1 front x.1.1 x.1.0 × Takes st.0 front x.1.0

-- one that defines no types
plain_taken : {A : Type 0} (o : Order) (i : Item) (field : A → Field) (SpellsOne : List ℕ → A → Type 0) (st : State) (x : Field × State) (read : Read (List ℕ) A) → ((a : A) → item_of (field a) ≡ i)
    → ((a : A) (front follow : List ℕ) → SpellsOne front a → Spells o (field a) st.1 front st.1 follow) → ((y : A × List ℕ) → read ≡ Ok y → Taken SpellsOne st.0 y) → says field (steady st.1 read) ≡ Ok x → ItemTaken o i st x
plain_taken o i field SpellsOne st x (Ok y) is spells takes h =
    let t = takes y refl in
    subst (ItemTaken o i st) (ok_is (field y.0, (y.1, st.1)) x h) (t.0, is y.0, spells y.0 t.0 y.1 t.1, t.2)
plain_taken o i field SpellsOne st x (Err e) is spells takes h = absurd (err_ok e x h)

-- one that may define types
typed_taken : {A : Type 0} (o : Order) (i : Item) (field : A → Field) (SpellsOne : Types → List ℕ → A → Types → Type 0) (st : State) (x : Field × State) (read : Read State A) → ((a : A) → item_of (field a) ≡ i)
    → ((a : A) (front : List ℕ) (after : Types) (follow : List ℕ) → SpellsOne st.1 front a after → Spells o (field a) st.1 front after follow) → ((y : A × State) → read ≡ Ok y → Took SpellsOne st y) → says field read ≡ Ok x → ItemTaken o i st x
typed_taken o i field SpellsOne st x (Ok y) is spells takes h =
    let t = takes y refl in
    subst (ItemTaken o i st) (ok_is (field y.0, y.1) x h) (t.0, is y.0, spells y.0 t.0 y.1.1 y.1.0 t.1, t.2)
typed_taken o i field SpellsOne st x (Err e) is spells takes h = absurd (err_ok e x h)

last_taken : (o : Order) (bytes : List ℕ) (before : Types) (x : Field × State) → IsBytes bytes → says last_valued (last_valued_at o (bytes, before)) ≡ Ok x → ItemTaken o item.last_valued (bytes, before) x
unfolding last_valued_at
last_taken o [] before x fits h = subst (ItemTaken o item.last_valued ([], before)) (ok_is (last_valued None, ([], before)) x h) ([], refl, inl (refl, refl, refl, refl), record { parts = refl; rest_fits = fits })
last_taken o (b ∷ bytes) before x fits h =
    typed_taken o item.last_valued last_valued (λ before front v after. SpellsValued o before front v after) (b ∷ bytes, before) x (valued_at o (b ∷ bytes, before)) (λ v. refl) (λ v front after follow s. inr s)
    (λ y e. valued_takes o (b ∷ bytes, before) y fits e) h

part_taken : (o : Order) (t : Tree) (st : State) (x : Field × State) → IsBytes st.0 → (part_at o t st >>= λ p. Ok (part (record { ty = t; mask = p.0.0; value = p.0.1 }), p.1)) ≡ Ok x → ItemTaken o (item.part t) st x
part_taken o t st x fits h =
    let p = bind_ok (part_at o t st) (λ p. Ok (part (record { ty = t; mask = p.0.0; value = p.0.1 }), p.1)) x h in
    let (front, spelled, parts) = read_is_part o st.1 t st.0 p.0.0.0 p.0.0.1 p.0.1.0 p.0.1.1 fits p.1 in
    subst (ItemTaken o (item.part t) st) (ok_is (part (record { ty = t; mask = p.0.0.0; value = p.0.0.1 }), p.0.1) x p.2)
    (front, refl, spelled, record { parts = parts; rest_fits = behind front p.0.1.0 (subst IsBytes parts fits) })

pub item_takes : (o : Order) (i : Item) (st : State) (x : Field × State) → IsBytes st.0 → item_at o i st ≡ Ok x → ItemTaken o i st x
unfolding item_at
item_takes o item.byte st x fits h =
    plain_taken o item.byte byte (SpellsNumber o 1) st x (lifted (number_at o 1 st.0)) (λ a. refl) (λ a f g s. (s, refl)) (λ y e. number_takes o 1 st.0 y fits (unlifted (number_at o 1 st.0) y e)) h
item_takes o item.short st x fits h =
    plain_taken o item.short short (SpellsNumber o 2) st x (lifted (number_at o 2 st.0)) (λ a. refl) (λ a f g s. (s, refl)) (λ y e. number_takes o 2 st.0 y fits (unlifted (number_at o 2 st.0) y e)) h
item_takes o item.word st x fits h =
    plain_taken o item.word word (SpellsNumber o 4) st x (lifted (number_at o 4 st.0)) (λ a. refl) (λ a f g s. (s, refl)) (λ y e. number_takes o 4 st.0 y fits (unlifted (number_at o 4 st.0) y e)) h
item_takes o item.text st x fits h = plain_taken o item.text text (SpellsText o) st x (lifted (text_at o st.0)) (λ a. refl) (λ a f g s. (s, refl)) (λ y e. name_takes o st.0 y fits e) h
item_takes o item.texts st x fits h =
    plain_taken o item.texts texts (λ front ts. Counted o (length ts) (λ tail. SpellsItems (SpellsText o) tail ts) front) st x (texts_at o st.0) (λ a. refl) (λ a f g s. (s, refl)) (λ y e. texts_take o st.0 y fits e) h
item_takes o item.channels st x fits h = plain_taken o item.channels channels (SpellsChannels o) st x (channels_at o st.0) (λ a. refl) (λ a f g s. (s, refl)) (λ y e. channels_take o st.0 y fits e) h
item_takes o item.status st x fits h =
    plain_taken o item.status status (SpellsStatus o) st x (lifted (status_at o st.0)) (λ a. refl) (λ a f g s. (s, refl)) (λ y e. status_takes o st.0 y fits (unlifted (status_at o st.0) y e)) h
item_takes o item.description st x fits h =
    typed_taken o item.description description (λ before front t after. Desc o before t front after) st x (type_at o st) (λ a. refl) (λ a f after g s. s) (λ y e. type_takes o st y fits e) h
item_takes o item.valued st x fits h =
    typed_taken o item.valued valued (λ before front v after. SpellsValued o before front v after) st x (valued_at o st) (λ a. refl) (λ a f after g s. s) (λ y e. valued_takes o st y fits e) h
item_takes o item.last_valued st x fits h = last_taken o st.0 st.1 x fits h
item_takes o (item.part t) st x fits h = part_taken o t st x fits h
item_takes o item.bits st x fits h =
    plain_taken o item.bits bits (SpellsBits o) st x (lifted (bits_at o st.0)) (λ a. refl) (λ a f g s. (s, refl)) (λ y e. bits_takes o st.0 y fits (unlifted (bits_at o st.0) y e)) h
item_takes o item.rest st x fits h =
    subst (ItemTaken o item.rest st) (ok_is (rest st.0, ([], st.1)) x h) (st.0, refl, (refl, refl, refl), record { parts = sym (append-nil st.0); rest_fits = behind st.0 [] (subst IsBytes (sym (append-nil st.0)) fits) })

-- items one after another
abbrev pub AllTaken : Order → List Item → State → List Field × State → Type 0
AllTaken o is st xs = (front : List ℕ) × (map item_of xs.0 ≡ is) × SpellsAll o xs.0 st.1 front xs.1.1 xs.1.0 × Takes st.0 front xs.1.0

pub all_take : (o : Order) (is : List Item) (st : State) (xs : List Field × State) → IsBytes st.0 → all_at o is st ≡ Ok xs → AllTaken o is st xs
unfolding all_at
all_take o [] st xs fits h = subst (AllTaken o [] st) (ok_is ([], st) xs h) ([], refl, (refl, refl), record { parts = refl; rest_fits = fits })
all_take o (i ∷ is) st xs fits h =
    let x = bind_ok (item_at o i st) (λ x. all_at o is x.1 >>= λ ys. Ok (x.0 ∷ ys.0, ys.1)) xs h in
    let (head, item, first, took) = item_takes o i st x.0 fits x.1 in
    let ys = bind_ok (all_at o is x.0.1) (λ ys. Ok (x.0.0 ∷ ys.0, ys.1)) xs x.2 in
    let (tail, items, others, more) = all_take o is x.0.1 ys.0 took.rest_fits ys.1 in
    subst (AllTaken o (i ∷ is) st) (ok_is (x.0.0 ∷ ys.0.0, ys.0.1) xs ys.2) (
      head ++ tail,
      ap (λ (j : Item). j ∷ map item_of ys.0.0) item ∙ ap (λ (js : List Item). i ∷ js) items,
      (head, tail, x.0.1.1, subst (Spells o x.0.0 st.1 head x.0.1.1) more.parts first, others, refl),
      joined st.0 head tail x.0.1.0 ys.0.1.0 took more,
    )

-- items, and then others
pub both_spelled : (o : Order) (these others : List Field) (before mid after : Types) (head tail follow : List ℕ) → SpellsAll o these before head mid (tail ++ follow) → SpellsAll o others mid tail after follow
    → SpellsAll o (these ++ others) before (head ++ tail) after follow
both_spelled o [] others before mid after head tail follow first second =
    subst (λ (types : Types). SpellsAll o others types (head ++ tail) after follow) first.1 (subst (λ (b : List ℕ). SpellsAll o others mid (b ++ tail) after follow) (sym first.0) second)
both_spelled o (f ∷ these) others before mid after head tail follow (one, more, between, is, first, parts) second =
    let rest_is : more ++ (tail ++ follow) ≡ (more ++ tail) ++ follow = sym (append_assoc more tail follow) in (
      one,
      more ++ tail,
      between,
      subst (Spells o f before one between) rest_is is,
      both_spelled o these others between mid after more tail follow first second,
      ap (λ (b : List ℕ). b ++ tail) parts ∙ append_assoc one more tail,
    )

-- the items of a row's stages
abbrev pub StagesTaken : Order → List Stage → List Field → State → List Field × State → Type 0
StagesTaken o stages done st xs = (fields : List Field) × (front : List ℕ) × (xs.0 ≡ done ++ fields) × OfRow stages done fields × SpellsAll o fields st.1 front xs.1.1 xs.1.0 × Takes st.0 front xs.1.0

pub stages_take : (o : Order) (stages : List Stage) (done : List Field) (st : State) (xs : List Field × State) → IsBytes st.0 → stages_at o stages done st ≡ Ok xs → StagesTaken o stages done st xs
unfolding stages_at
stages_take o [] done st xs fits h = subst (StagesTaken o [] done st) (ok_is (done, st) xs h) ([], [], sym (append-nil done), refl, (refl, refl), record { parts = refl; rest_fits = fits })
stages_take o (stage ∷ stages) done st xs fits h =
    let x = bind_ok (all_at o (stage done) st) (λ x. stages_at o stages (done ++ x.0) x.1) xs h in
    let (head, items, first, took) = all_take o (stage done) st x.0 fits x.1 in
    let (others, tail, all, row, second, more) = stages_take o stages (done ++ x.0.0) x.0.1 xs took.rest_fits x.2 in (
      x.0.0 ++ others,
      head ++ tail,
      all ∙ append_assoc done x.0.0 others,
      (x.0.0, others, items, row, refl),
      both_spelled o x.0.0 others st.1 x.0.1.1 xs.1.1 head tail xs.1.0 (subst (SpellsAll o x.0.0 st.1 head x.0.1.1) more.parts first) second,
      joined st.0 head tail x.0.1.0 xs.1.0 took more,
    )
