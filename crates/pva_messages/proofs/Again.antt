-- What spells an item, or the items of a row, is read as it, whatever follows.
use Rattle.std.proofs.Common.{◌≡◌, ◌∙◌, ℕ, suc, List, [], ◌∷◌, ◌++◌, length, map, Option, Some, None, Ok, Err, refl, sym, ap, subst, inl, inr, append_assoc}
use Rattle.std.proofs.lemmas.List.{append-nil}
use Rattle.pva_wire.specs.declared.order.Order.{Order}
use Rattle.pva_wire.specs.Spelling.{SpellsSize, SpellsText}
use Rattle.pva_wire.specs.declared.fault.Cause.TheVariants.{Short}
use Rattle.pva_wire.proofs.Sizes.{size_again}
use Rattle.pva_wire.specs.Reading.{count_at, text_at}
use Rattle.pva_wire.proofs.Digits.{number_at_again}
use Rattle.pva_wire.proofs.Texts.{text_again}
use Rattle.pva_wire.proofs.BitsRead.{bits_again}
use Rattle.pva_wire.proofs.Statuses.{status_again}
use Rattle.pvd_type.specs.Tree.{Tree}
use Rattle.pvd_desc.specs.Types.{Types}
use Rattle.pvd_desc.specs.declared.fault.DescCause.TheVariants as desc_causes
use Rattle.pvd_desc.specs.Reading.{desc_at, null, node_on, chain_at, code_at}
use Rattle.pvd_desc.specs.Grammar.{Desc}
use Rattle.pvd_desc.proofs.OnlyThis.{only_this}
use Rattle.pvd_codec.specs.Grammar.{SpellsItems, Counted}
use Rattle.pvd_codec.specs.Reading.{Read, State, lifted, items_at}
use Rattle.pvd_codec.proofs.FoundItems.{err_ok}
use Rattle.pvd_codec.proofs.OneValue.{full_is_read}
use Rattle.pvd_codec.proofs.PartAgain.{part_is_read}
use Rattle.pva_messages.specs.Items.{Item}
use Rattle.pva_messages.specs.Fields.{Field, Valued, item_of, byte, short, word, text, texts, channels, status, description, valued, last_valued, part, bits, rest}
use Rattle.pva_messages.specs.Rows.{Stage}
use Rattle.pva_messages.specs.Grammar.{SpellsChannel, SpellsChannels, SpellsValued, Spells, SpellsAll, OfRow}
use Rattle.pva_messages.specs.Reading.{texts_at, channel_at, channels_at, type_at, valued_at, last_valued_at, item_at, all_at, stages_at}

-- what is spelled one after another is read one after another
items_again : {A : Type 0} (SpellsOne : List ℕ → A → Type 0) (one : List ℕ → Read (List ℕ) A) → ((bytes more : List ℕ) (x : A) → SpellsOne bytes x → one (bytes ++ more) ≡ Ok (x, more))
    → (xs : List A) (bytes more : List ℕ) → SpellsItems SpellsOne bytes xs → items_at one (length xs) (bytes ++ more) ≡ Ok (xs, more)
unfolding items_at
items_again SpellsOne one again [] bytes more h = ap (λ (b : List ℕ). Ok ([], b ++ more)) h
items_again SpellsOne one again (x ∷ xs) bytes more (head, tail, first, others, parts) =
    ap (λ (b : List ℕ). items_at one (suc (length xs)) (b ++ more)) parts
    ∙ ap (λ (b : List ℕ). items_at one (suc (length xs)) b) (append_assoc head tail more)
    ∙ rw (again head (tail ++ more) x first, items_again SpellsOne one again xs tail more others) refl

count_again : (o : Order) (bytes more : List ℕ) (n : ℕ) → SpellsSize o bytes (Some n) → lifted (count_at o (bytes ++ more)) ≡ Ok (n, more)
unfolding count_at
count_again o bytes more n h = rw (size_again o bytes more (Some n) h) refl

name_again : (o : Order) (bytes more name : List ℕ) → SpellsText o bytes name → lifted (text_at o (bytes ++ more)) ≡ Ok (name, more)
name_again o bytes more name h = rw (text_again o bytes name more h) refl

channel_again : (o : Order) (bytes more : List ℕ) (c : ℕ × List ℕ) → SpellsChannel o bytes c → channel_at o (bytes ++ more) ≡ Ok (c, more)
unfolding channel_at
channel_again o bytes more c (head, tail, id, name, parts) =
    ap (λ (b : List ℕ). channel_at o (b ++ more)) parts
    ∙ ap (λ (b : List ℕ). channel_at o b) (append_assoc head tail more)
    ∙ rw (number_at_again o 4 head (tail ++ more) c.0 id, text_again o tail c.1 more name) refl

texts_again : (o : Order) (bytes more : List ℕ) (ts : List (List ℕ)) → Counted o (length ts) (λ tail. SpellsItems (SpellsText o) tail ts) bytes → texts_at o (bytes ++ more) ≡ Ok (ts, more)
unfolding texts_at
texts_again o bytes more ts (head, tail, count, each, parts) =
    ap (λ (b : List ℕ). texts_at o (b ++ more)) parts
    ∙ ap (λ (b : List ℕ). texts_at o b) (append_assoc head tail more)
    ∙ rw (count_again o head (tail ++ more) (length ts) count, items_again (SpellsText o) (λ b. lifted (text_at o b)) (λ b r t. name_again o b r t) ts tail more each) refl

channels_again : (o : Order) (bytes more : List ℕ) (cs : List (ℕ × List ℕ)) → SpellsChannels o bytes cs → channels_at o (bytes ++ more) ≡ Ok (cs, more)
unfolding channels_at
channels_again o bytes more cs (head, tail, count, each, parts) =
    ap (λ (b : List ℕ). channels_at o (b ++ more)) parts
    ∙ ap (λ (b : List ℕ). channels_at o b) (append_assoc head tail more)
    ∙ rw (number_at_again o 2 head (tail ++ more) (length cs) count, items_again (SpellsChannel o) (channel_at o) (channel_again o) cs tail more each) refl

type_again : (o : Order) (before : Types) (front follow : List ℕ) (t : Option Tree) (after : Types) → Desc o before t front after → type_at o (front ++ follow, before) ≡ Ok (t, (follow, after))
unfolding type_at
type_again o before front follow t after h = rw (only_this o before front follow t after h) refl

pub valued_again : (o : Order) (before : Types) (v : Valued) (front follow : List ℕ) (after : Types) → SpellsValued o before front v after → valued_at o (front ++ follow, before) ≡ Ok (v, (follow, after))
unfolding valued_at
valued_again o before None front follow after h = rw (type_again o before front follow None after h) refl
valued_again o before (Some v) front follow after (head, tail, mid, type, value, parts) =
    ap (λ (b : List ℕ). valued_at o (b ++ follow, before)) parts
    ∙ ap (λ (b : List ℕ). valued_at o (b, before)) (append_assoc head tail follow)
    ∙ rw (type_again o before head (tail ++ follow) (Some v.0) mid type, full_is_read o mid v.0 tail follow v.1 after value) refl

-- where no byte is left, there is no description
no_description : (o : Order) (before : Types) → desc_at o before [] ≡ Err (desc_causes.Wire Short, 0)
unfolding desc_at null node_on chain_at code_at
no_description o before = refl

no_valued : (o : Order) (before : Types) (x : Valued × State) → valued_at o ([], before) ≡ Ok x → ⊥
unfolding valued_at type_at
no_valued o before x h = let e = rw (no_description o before) at h in err_ok _ x e

last_from : (o : Order) (bytes : List ℕ) (before : Types) (x : Valued × State) → valued_at o (bytes, before) ≡ Ok x → last_valued_at o (bytes, before) ≡ Ok x
unfolding last_valued_at
last_from o [] before x h = absurd (no_valued o before x h)
last_from o (b ∷ bytes) before x h = h

pub item_again : (o : Order) (f : Field) (before : Types) (front follow : List ℕ) (after : Types) → Spells o f before front after follow → item_at o (item_of f) (front ++ follow, before) ≡ Ok (f, (follow, after))
unfolding item_at last_valued_at
item_again o (byte n) before front follow after h = rw (number_at_again o 1 front follow n h.0, h.1) refl
item_again o (short n) before front follow after h = rw (number_at_again o 2 front follow n h.0, h.1) refl
item_again o (word n) before front follow after h = rw (number_at_again o 4 front follow n h.0, h.1) refl
item_again o (text t) before front follow after h = rw (text_again o front t follow h.0, h.1) refl
item_again o (texts ts) before front follow after h = rw (texts_again o front follow ts h.0, h.1) refl
item_again o (channels cs) before front follow after h = rw (channels_again o front follow cs h.0, h.1) refl
item_again o (status s) before front follow after h = rw (status_again o front follow s h.0, h.1) refl
item_again o (description t) before front follow after h = rw (type_again o before front follow t after h) refl
item_again o (valued v) before front follow after h = rw (valued_again o before v front follow after h) refl
item_again o (last_valued v) before front follow after (inl h) = rw (h.0, h.1, h.2, h.3) refl
item_again o (last_valued v) before front follow after (inr h) = rw (last_from o (front ++ follow) before (v, (follow, after)) (valued_again o before v front follow after h)) refl
item_again o (part p) before front follow after h = rw (part_is_read o before p.ty front follow p.mask p.value after h) refl
item_again o (bits s) before front follow after h = rw (bits_again o front follow s h.0, h.1) refl
item_again o (rest xs) before front follow after h = rw (h.0, h.1, h.2, append-nil xs) refl

-- items one after another
pub all_again : (o : Order) (fields : List Field) (before : Types) (front follow : List ℕ) (after : Types) → SpellsAll o fields before front after follow
    → all_at o (map item_of fields) (front ++ follow, before) ≡ Ok (fields, (follow, after))
unfolding all_at
all_again o [] before front follow after h = rw (h.0, h.1) refl
all_again o (f ∷ fields) before front follow after (head, tail, mid, first, others, parts) =
    ap (λ (b : List ℕ). all_at o (map item_of (f ∷ fields)) (b ++ follow, before)) parts
    ∙ ap (λ (b : List ℕ). all_at o (map item_of (f ∷ fields)) (b, before)) (append_assoc head tail follow)
    ∙ rw (item_again o f before head (tail ++ follow) mid first, all_again o fields mid tail follow after others) refl

-- the first of some items, and the others
pub record Divided (o : Order) (these others : List Field) (before : Types) (front : List ℕ) (after : Types) (follow : List ℕ) : Type 0 where
  pub head : List ℕ
  pub tail : List ℕ
  pub mid : Types
  pub first : SpellsAll o these before head mid (tail ++ follow)
  pub second : SpellsAll o others mid tail after follow
  pub parts : front ≡ head ++ tail

pub divided : (o : Order) (these others : List Field) (before : Types) (front : List ℕ) (after : Types) (follow : List ℕ) → SpellsAll o (these ++ others) before front after follow
    → Divided o these others before front after follow
divided o [] others before front after follow h = record { head = []; tail = front; mid = before; first = (refl, refl); second = h; parts = refl }
divided o (f ∷ these) others before front after follow (head, tail, mid, first, more, parts) =
    let d = divided o these others mid tail after follow more in
    record {
      head = head ++ d.head;
      tail = d.tail;
      mid = d.mid;
      first = (head, d.head, mid, subst (Spells o f before head mid) (ap (λ (b : List ℕ). b ++ follow) d.parts ∙ append_assoc d.head d.tail follow) first, d.first, refl);
      second = d.second;
      parts = parts ∙ ap (λ (b : List ℕ). head ++ b) d.parts ∙ sym (append_assoc head d.head d.tail);
    }

-- the items of a row's stages
pub stages_again : (o : Order) (stages : List Stage) (done fields : List Field) (before : Types) (front follow : List ℕ) (after : Types) → OfRow stages done fields
    → SpellsAll o fields before front after follow → stages_at o stages done (front ++ follow, before) ≡ Ok (done ++ fields, (follow, after))
unfolding stages_at
stages_again o [] done fields before front follow after none h =
    let s : SpellsAll o [] before front after follow = subst (λ (fs : List Field). SpellsAll o fs before front after follow) none h in
    rw (none, append-nil done, s.0, s.1) refl
stages_again o (stage ∷ stages) done fields before front follow after (these, others, items, row, all) h =
    let d = divided o these others before front after follow (subst (λ (fs : List Field). SpellsAll o fs before front after follow) all h) in
    let first : all_at o (stage done) (d.head ++ (d.tail ++ follow), before) ≡ Ok (these, (d.tail ++ follow, d.mid)) =
    ap (λ (is : List Item). all_at o is (d.head ++ (d.tail ++ follow), before)) (sym items) ∙ all_again o these before d.head (d.tail ++ follow) d.mid d.first in
    let second = stages_again o stages (done ++ these) others d.mid d.tail follow after row d.second in
    ap (λ (b : List ℕ). stages_at o (stage ∷ stages) done (b ++ follow, before)) d.parts
    ∙ ap (λ (b : List ℕ). stages_at o (stage ∷ stages) done (b, before)) (append_assoc d.head d.tail follow)
    ∙ rw (first, second, append_assoc done these others, all) refl
