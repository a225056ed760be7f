-- Histories that grow.
use Rattle.std.specs.Prelude.{◌≡◌, ℕ, ◌+◌, ◌≤◌, set, refl, List, [], ◌∷◌, ◌++◌, length}
use Rattle.std.proofs.Common.{take, sym, ◌∙◌, ap, subst, length-append}
use Rattle.std.proofs.lemmas.List.{take-append-le, length-set}
use Rattle.std.proofs.lemmas.List.Sums.{sum_by-append, fold-append}
use Rattle.std.proofs.Math.Seq.{take-length}
use Rattle.histories.proofs.Judged.{legal_snoc}
use Rattle.rec_kinds.specs.Configs.{Config}
use Rattle.rec_kinds.specs.declared.state.RecState.{RecState}
use Rattle.journal_core.specs.declared.entry.Entry.{Entry}
use Rattle.journal_core.specs.Weights.{weight}
use Rattle.journal_core.specs.Histories.{written, replayed, state_at, kept}
use Rattle.journal_core.specs.Legality.{MayFollow, IsLegalEntry, IsLegal}

-- the states at a place stay as entries are added behind it
pub same_state : (opening : List RecState) (entries more : List Entry) (n : ℕ) → n ≤ length entries → state_at opening (entries ++ more) n ≡ state_at opening entries n
same_state opening entries more n le = ap (replayed opening) (take-append-le n entries more le)

-- the states at the end
pub last_state : (opening : List RecState) (entries : List Entry) → state_at opening entries (length entries) ≡ replayed opening entries
last_state opening entries = ap (replayed opening) (take-length entries)

-- the states after one more entry
pub next_state : (opening : List RecState) (entries : List Entry) (entry : Entry) → state_at opening (entries ++ entry ∷ []) (length entries + 1) ≡ written (state_at opening entries (length entries)) entry.writes
next_state opening entries entry =
    let whole : take (length entries + 1) (entries ++ entry ∷ []) ≡ entries ++ entry ∷ [] =
    subst (λ (n : ℕ). take n (entries ++ entry ∷ []) ≡ entries ++ entry ∷ []) (length-append entries (entry ∷ [])) (take-length (entries ++ entry ∷ [])) in
    ap (replayed opening) whole
    ∙ fold-append (λ s e. written s e.writes) opening entries (entry ∷ [])
    ∙ ap (λ (s : List RecState). written s entry.writes) (sym (last_state opening entries))

-- weights add up
pub kept_append : (entries more : List Entry) → kept (entries ++ more) ≡ kept entries + kept more
kept_append entries more = sum_by-append weight entries more

-- A legal history with an entry that is legal after it is legal.
pub legal_push : (configs : List Config) (opening : List RecState) (entries : List Entry) (entry : Entry) → IsLegal configs opening entries → IsLegalEntry configs (state_at opening entries (length entries)) entry → IsLegal configs opening (entries ++ entry ∷ [])
legal_push configs opening entries entry legal last =
    legal_snoc (MayFollow configs opening) [] entries entry legal (subst (λ (s : List RecState). IsLegalEntry configs s entry) (last_state opening entries) last)

-- entries neither make nor lose a record
written_count : (states : List RecState) (writes : List (ℕ × RecState)) → length (written states writes) ≡ length states
written_count states [] = refl
written_count states (w ∷ writes) = written_count (set states w.0 w.1) writes ∙ length-set states w.0 w.1

pub replayed_count : (states : List RecState) (entries : List Entry) → length (replayed states entries) ≡ length states
replayed_count states [] = refl
replayed_count states (e ∷ entries) = replayed_count (written states e.writes) entries ∙ written_count states e.writes
