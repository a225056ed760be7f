-- What is written of items spells them, as a reader sees them.
use Rattle.std.proofs.Common.{◌≡◌, ℕ, List, [], ◌∷◌, ◌++◌, length, map, Option, Some, None, refl, inr}
use Rattle.std.specs.List.{flat_map}
use Rattle.pva_wire.specs.declared.order.Order.{Order}
use Rattle.pva_wire.specs.Spelling.{IsText, SpellsText, canonical_text, canonical_size, number_bytes}
use Rattle.pva_wire.proofs.OneReading.{canonical_spells, canonical_text_spells}
use Rattle.pva_wire.proofs.BitsRead.{canonical_bits_spell}
use Rattle.pva_wire.proofs.Statuses.{canonical_status_spells}
use Rattle.pvd_type.specs.Tree.{Tree}
use Rattle.pvd_desc.specs.Types.{Types}
use Rattle.pvd_desc.specs.Grammar.{Desc, CanDesc, canonical_desc}
use Rattle.pvd_desc.proofs.Back.{node_written}
use Rattle.pvd_codec.specs.Grammar.{SpellsItems}
use Rattle.pvd_codec.specs.Written.{CanEach, canonical_value}
use Rattle.pvd_codec.proofs.Spelled.{value_written}
use Rattle.pvd_codec.proofs.SpelledParts.{part_written}
use Rattle.pva_messages.specs.Fields.{Field, Valued, byte, short, word, text, texts, channels, status, description, valued, last_valued, part, bits, rest}
use Rattle.pva_messages.specs.Grammar.{SpellsChannel, SpellsValued, Spells, SpellsAll}
use Rattle.pva_messages.specs.Written.{canonical_channel, canonical_valued, canonical_field, canonical, FitsValued, FitsField, CanChannel, CanValued, CanField, seen}

items_written : {A : Type 0} (SpellsOne : List ℕ → A → Type 0) (bytes : A → List ℕ) (Can : A → Type 0) → ((x : A) → Can x → SpellsOne (bytes x) x) → (xs : List A) → CanEach Can xs → SpellsItems SpellsOne (flat_map bytes xs) xs
items_written SpellsOne bytes Can each [] h = refl
items_written SpellsOne bytes Can each (x ∷ xs) h = (bytes x, flat_map bytes xs, each x h.0, items_written SpellsOne bytes Can each xs h.1, refl)

desc_written : (o : Order) (before : Types) (t : Option Tree) → CanDesc t → Desc o before t (canonical_desc o t) before
desc_written o before None can = (refl, refl)
desc_written o before (Some t) can = (node_written o before t can.0, can.1)

valued_written : (o : Order) (before : Types) (v : Valued) → FitsValued v → CanValued v → SpellsValued o before (canonical_valued o v) v before
valued_written o before None fits can = (refl, refl)
valued_written o before (Some v) fits can =
    (canonical_desc o (Some v.0), canonical_value o v.1 v.0, before, desc_written o before (Some v.0) can.0, value_written o before 16 v.1 v.0 fits can.1, refl)

-- the rest of a payload stands at its end
abbrev pub AtEnd : Field → List Field → List ℕ → Type 0
AtEnd (rest xs) others follow = (others ≡ []) × (follow ≡ [])
AtEnd f others follow = Unit {0}

abbrev pub RestLast : List Field → List ℕ → Type 0
RestLast [] follow = Unit {0}
RestLast (f ∷ fields) follow = AtEnd f fields follow × RestLast fields follow

channel_written : (o : Order) (c : ℕ × List ℕ) → CanChannel c → SpellsChannel o (canonical_channel o c) c
channel_written o c can = (number_bytes o 4 c.0, canonical_text o c.1, (can.0, refl), canonical_text_spells o c.1 can.1.1 can.1.0, refl)

field_written : (o : Order) (f : Field) (others : List Field) (before : Types) (follow : List ℕ) → FitsField f → CanField f → AtEnd f others follow
    → Spells o (seen f) before (canonical_field o f) before (canonical o others ++ follow)
field_written o (byte n) others before follow fits can end = ((can, refl), refl)
field_written o (short n) others before follow fits can end = ((can, refl), refl)
field_written o (word n) others before follow fits can end = ((can, refl), refl)
field_written o (text t) others before follow fits can end = (canonical_text_spells o t can.1 can.0, refl)
field_written o (texts ts) others before follow fits can end =
    ((canonical_size o (length ts), flat_map (canonical_text o) ts, canonical_spells o (length ts) can.0, items_written (SpellsText o) (canonical_text o) IsText (λ t h. canonical_text_spells o t h.1 h.0) ts can.1, refl), refl)
field_written o (channels cs) others before follow fits can end =
    ((number_bytes o 2 (length cs), flat_map (canonical_channel o) cs, (can.0, refl), items_written (SpellsChannel o) (canonical_channel o) CanChannel (channel_written o) cs can.1, refl), refl)
field_written o (status s) others before follow fits can end = (canonical_status_spells o s can.0 can.1, refl)
field_written o (description t) others before follow fits can end = desc_written o before t can
field_written o (valued v) others before follow fits can end = valued_written o before v fits can
field_written o (last_valued v) others before follow fits can end = inr (valued_written o before v fits can)
field_written o (part p) others before follow fits can end = part_written o before p.ty p.mask p.value can.0 fits.0 fits.1 can.1
field_written o (bits s) others before follow fits can end = (canonical_bits_spell o s can, refl)
field_written o (rest xs) others before follow fits can end = (refl, rw (end.0, end.1) refl, refl)

pub all_written : (o : Order) (fields : List Field) (before : Types) (follow : List ℕ) → CanEach FitsField fields → CanEach CanField fields → RestLast fields follow
    → SpellsAll o (map seen fields) before (canonical o fields) before follow
all_written o [] before follow fits can end = (refl, refl)
all_written o (f ∷ fields) before follow fits can end =
    (canonical_field o f, canonical o fields, before, field_written o f fields before follow fits.0 can.0 end.0, all_written o fields before follow fits.1 can.1 end.1, refl)
