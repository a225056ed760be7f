-- The fields of a record's choices, and of the severities of these (EPICS record reference, "bi", "mbbi").
use Rattle.std.specs.Prelude.{ℕ, List, [], ◌∷◌, codes}
use Rattle.rec_kinds.specs.declared.kind.Kind.{Kind}
use Rattle.rec_kinds.specs.declared.kind.Kind.TheVariants.{Bi, Bo, Mbbi, Mbbo}

-- one of two
abbrev pub two_choices : List (List ℕ)
two_choices = codes "ZNAM" ∷ codes "ONAM" ∷ []

abbrev pub two_severities : List (List ℕ)
two_severities = codes "ZSV" ∷ codes "OSV" ∷ []

-- one of up to sixteen
abbrev pub sixteen_choices : List (List ℕ)
sixteen_choices =
    codes "ZRST" ∷ codes "ONST" ∷ codes "TWST" ∷ codes "THST" ∷
    codes "FRST" ∷ codes "FVST" ∷ codes "SXST" ∷ codes "SVST" ∷
    codes "EIST" ∷ codes "NIST" ∷ codes "TEST" ∷ codes "ELST" ∷
    codes "TVST" ∷ codes "TTST" ∷ codes "FTST" ∷ codes "FFST" ∷ []

abbrev pub sixteen_severities : List (List ℕ)
sixteen_severities =
    codes "ZRSV" ∷ codes "ONSV" ∷ codes "TWSV" ∷ codes "THSV" ∷
    codes "FRSV" ∷ codes "FVSV" ∷ codes "SXSV" ∷ codes "SVSV" ∷
    codes "EISV" ∷ codes "NISV" ∷ codes "TESV" ∷ codes "ELSV" ∷
    codes "TVSV" ∷ codes "TTSV" ∷ codes "FTSV" ∷ codes "FFSV" ∷ []

-- the fields of a kind's choices
abbrev pub choice_names : Kind → List (List ℕ)
choice_names Bi = two_choices
choice_names Bo = two_choices
choice_names Mbbi = sixteen_choices
choice_names Mbbo = sixteen_choices
choice_names _ = []

-- the fields of the severities of a kind's choices
abbrev pub severity_names : Kind → List (List ℕ)
severity_names Bi = two_severities
severity_names Bo = two_severities
severity_names Mbbi = sixteen_severities
severity_names Mbbo = sixteen_severities
severity_names _ = []
