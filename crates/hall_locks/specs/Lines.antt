-- The words of a hall's table lie eight apart, so that each lies on a cache line of its own. The rule speaks of these words
-- alone, as if they lay side by side: those between are never read or written.
use Rattle.std.specs.Prelude.{ℕ, zero, suc, ◌*◌, List, [], ◌∷◌}
use Rattle.atomic_table.specs.Table.{State}

-- the word of the hub, which is number 0, or of a cell, which is one more than the cell's number
abbrev pub word_at : ℕ → ℕ
word_at place = place * 8

-- every eighth, behind so many others
abbrev pub eighths_after : ℕ → List ℕ → List ℕ
eighths_after n [] = []
eighths_after zero (x ∷ xs) = x ∷ eighths_after 7 xs
eighths_after (suc n) (x ∷ xs) = eighths_after n xs

-- the table with the words of the hub and of the cells side by side
abbrev pub thin : {S V : Type 0} → State S V → State S V
thin s = record { words = eighths_after 0 s.words; homes = s.homes; views = s.views }
