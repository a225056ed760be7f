-- Which bytes spell an item, and which datagrams are a search or a response (pvAccess Protocol Specification, "Data
-- Encoding", "searchRequest" and "searchResponse").
use Rattle.std.specs.Prelude.{◌≡◌, ℕ, List, [], ◌∷◌, ◌++◌, length, true, Some}
use Rattle.pva_wire.specs.declared.order.Order.{Order}
use Rattle.pva_wire.specs.Spelling.{SpellsNumber, SpellsSize, SpellsText}
use Rattle.pva_search.specs.Fields.{Field, byte, short, word, bytes, text, texts, instances, channels}
use Rattle.pva_search.specs.Reading.{is_message, header_in}

-- a count, and what it counts
abbrev pub Counted : (List ℕ → Type 0) → (List ℕ → Type 0) → List ℕ → Type 0
Counted Count Rest spelling =
    (head : List ℕ) × (tail : List ℕ) × Count head × Rest tail × (spelling ≡ head ++ tail)

-- items one after another
abbrev pub SpellsEach : {A : Type 0} → (List ℕ → A → Type 0) → List ℕ → List A → Type 0
SpellsEach Spells spelling [] = spelling ≡ []
SpellsEach Spells spelling (x ∷ xs) =
    (head : List ℕ) × (tail : List ℕ) × Spells head x × SpellsEach Spells tail xs × (spelling ≡ head ++ tail)

-- a channel's number and its name
abbrev pub SpellsChannel : Order → List ℕ → ℕ × List ℕ → Type 0
SpellsChannel order spelling c =
    (head : List ℕ) × (tail : List ℕ) × SpellsNumber order 4 head c.0 × SpellsText order tail c.1
    × (spelling ≡ head ++ tail)

abbrev pub Spells : Order → List ℕ → Field → Type 0
Spells order spelling (byte n) = SpellsNumber order 1 spelling n
Spells order spelling (short n) = SpellsNumber order 2 spelling n
Spells order spelling (word n) = SpellsNumber order 4 spelling n
Spells order spelling (bytes xs) = spelling ≡ xs
Spells order spelling (text t) = SpellsText order spelling t
Spells order spelling (texts ts) =
    Counted (λ head. SpellsSize order head (Some (length ts))) (λ tail. SpellsEach (SpellsText order) tail ts) spelling
Spells order spelling (instances ns) =
    Counted (λ head. SpellsNumber order 2 head (length ns)) (λ tail. SpellsEach (SpellsNumber order 4) tail ns) spelling
Spells order spelling (channels cs) =
    Counted (λ head. SpellsNumber order 2 head (length cs)) (λ tail. SpellsEach (SpellsChannel order) tail cs) spelling

-- The datagram is a header that tells this command and this order, the items, and maybe more, which is passed over.
pub record IsSpelled (command : ℕ) (datagram : List ℕ) (order : Order) (fields : List Field) : Type 0 where
  pub head : List ℕ
  pub front : List ℕ
  pub more : List ℕ
  pub size : length head ≡ 8
  pub parts : datagram ≡ head ++ (front ++ more)
  pub message : is_message command datagram ≡ true
  pub told : order ≡ (header_in datagram).order
  pub items : SpellsEach (Spells order) front fields
