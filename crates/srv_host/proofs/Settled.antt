-- What the seats did whose logs a pass holds.
use Rattle.std.proofs.Common.{◌≡◌, ℕ, List, [], ◌∷◌, ◌++◌, refl, sym, ap, subst, ◌∙◌}
use Rattle.histories.specs.History.{Every, deeds_by}
use Rattle.histories.specs.declared.story.Deed.{Deed}
use Rattle.histories.specs.declared.story.Deed.TheVariants as deeds
use Rattle.hall_core.specs.Meanings.{Pairs}
use Rattle.journal_core.specs.declared.entry.Entry.{Entry}
use Rattle.mon_shown.specs.declared.roll.RollItem.TheVariants as items
use Rattle.desk_api.specs.History.{History, Item}
use Rattle.desk_api.specs.Marks.{deeds_of}
use Rattle.desk_api.specs.declared.mark.Mark.{Mark}
use Rattle.desk_api.specs.declared.mark.Mark.TheVariants.{Read, Entered, Overweight, Begun, Crowded, Popped, Dropped}
use Rattle.desk_shared.specs.Records.{adds, fits}

-- marks pair with just what they say was done
pub pairs_deeds : (log : List Mark) (ds : List (Deed Entry Item)) → Pairs adds fits log ds → ds ≡ deeds_of log
pairs_deeds [] [] p = refl
pairs_deeds [] (d ∷ ds) p = absurd p
pairs_deeds (Read at channel footprint found ∷ ms) ds p = pairs_deeds ms ds p
pairs_deeds (Entered at entry looked found ∷ ms) [] p = absurd p
pairs_deeds (Entered at entry looked found ∷ ms) (deeds.Entry e ∷ ds) p = ap (λ (x : Entry). deeds.Entry x ∷ ds) (sym p.0) ∙ ap (λ (l : List (Deed Entry Item)). deeds.Entry entry ∷ l) (pairs_deeds ms ds p.1)
pairs_deeds (Entered at entry looked found ∷ ms) (deeds.Item i ∷ ds) p = absurd p
pairs_deeds (Overweight at footprint actions kept added limit ∷ ms) ds p = pairs_deeds ms ds p
pairs_deeds (Begun at index slot channel mask size ∷ ms) [] p = absurd p
pairs_deeds (Begun at index slot channel mask size ∷ ms) (deeds.Entry e ∷ ds) p = absurd p
pairs_deeds (Begun at index slot channel mask size ∷ ms) (deeds.Item i ∷ ds) p =
    ap (λ (x : Item). deeds.Item x ∷ ds) p.0 ∙ ap (λ (l : List (Deed Entry Item)). deeds.Item (items.Begins slot channel mask size) ∷ l) (pairs_deeds ms ds p.1)
pairs_deeds (Crowded at index count ∷ ms) ds p = pairs_deeds ms ds p
pairs_deeds (Popped at slot update ∷ ms) ds p = pairs_deeds ms ds p
pairs_deeds (Dropped at index slot ∷ ms) [] p = absurd p
pairs_deeds (Dropped at index slot ∷ ms) (deeds.Entry e ∷ ds) p = absurd p
pairs_deeds (Dropped at index slot ∷ ms) (deeds.Item i ∷ ds) p =
    ap (λ (x : Item). deeds.Item x ∷ ds) p.0 ∙ ap (λ (l : List (Deed Entry Item)). deeds.Item (items.Ends slot) ∷ l) (pairs_deeds ms ds p.1)

pub all_did : (logs : List (ℕ × List Mark)) (h : History) → Every (λ (p : ℕ × List Mark). Pairs adds fits p.1 (deeds_by p.0 h.deeds)) logs → Every (λ (p : ℕ × List Mark). deeds_by p.0 h.deeds ≡ deeds_of p.1) logs
all_did [] h e = tt
all_did (p ∷ ps) h e = (pairs_deeds p.1 (deeds_by p.0 h.deeds) e.0, all_did ps h e.1)

-- the same of a seat, of logs and of a history that are these
pub did_as : (n m : ℕ) (log same : List Mark) (others they : List (ℕ × List Mark)) (h k : History) → m ≡ n → same ≡ log → they ≡ others → k ≡ h
    → Every (λ (p : ℕ × List Mark). deeds_by p.0 h.deeds ≡ deeds_of p.1) ((n, log) ∷ others) → Every (λ (p : ℕ × List Mark). deeds_by p.0 k.deeds ≡ deeds_of p.1) ((m, same) ∷ they)
did_as n m log same others they h k e f g i all =
    subst (λ (x : ℕ). Every (λ (p : ℕ × List Mark). deeds_by p.0 k.deeds ≡ deeds_of p.1) ((x, same) ∷ they)) (sym e) (subst (λ (x : List Mark). Every (λ (p : ℕ × List Mark). deeds_by p.0 k.deeds ≡ deeds_of p.1) ((n, x) ∷ they)) (sym f)
    (subst (λ (x : List (ℕ × List Mark)). Every (λ (p : ℕ × List Mark). deeds_by p.0 k.deeds ≡ deeds_of p.1) ((n, log) ∷ x)) (sym g) (subst (λ (x : History). Every (λ (p : ℕ × List Mark). deeds_by p.0 x.deeds ≡ deeds_of p.1) ((n, log) ∷ others)) (sym i) all)))
