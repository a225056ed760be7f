-- The kinds of records by their names (EPICS record reference).
use Rattle.std.specs.Prelude.{ℕ, List, [], ◌∷◌, Option, codes}
use Rattle.rec_kinds.specs.Named.{first_named}
use Rattle.rec_kinds.specs.declared.kind.Kind.{Kind}
use Rattle.rec_kinds.specs.declared.kind.Kind.TheVariants.{Longin, Longout, Int64in, Int64out, Bi, Bo, Mbbi, Mbbo, Stringin, Stringout, Waveform}

abbrev pub kinds : List (List ℕ × Kind)
kinds =
    (codes "longin", Longin) ∷ (codes "longout", Longout) ∷
    (codes "int64in", Int64in) ∷ (codes "int64out", Int64out) ∷
    (codes "bi", Bi) ∷ (codes "bo", Bo) ∷
    (codes "mbbi", Mbbi) ∷ (codes "mbbo", Mbbo) ∷
    (codes "stringin", Stringin) ∷ (codes "stringout", Stringout) ∷
    (codes "waveform", Waveform) ∷ []

-- the kind of this name, if there is one
abbrev pub kind_of : List ℕ → Option Kind
kind_of name = first_named name kinds
