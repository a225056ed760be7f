-- In which ranges the parts of a configuration stand that is made of fields (EPICS record reference).
use Rattle.std.specs.Prelude.{◌≡◌, ◌≤◌, pos, Bool, true, ◌&&◌, length}
use Rattle.rec_kinds.specs.Configs.{Config}
use Rattle.rec_kinds.specs.Ranges.{desc_bytes, most_choices, element_count}
use Rattle.rec_kinds.specs.Sorts.{Sort, number, sort_of, within}

-- whether the limits of alarms and of what is put are numbers of the record's sort
abbrev pub limits_fit : Config → Sort → Bool
limits_fit config (number low high) =
    within low high config.hihi && (within low high config.high && (within low high config.low
    && (within low high config.lolo && (within low high config.drvh && within low high config.drvl))))
limits_fit config _ = true

-- Each part stands in the range of its field.
pub record IsInRange (config : Config) : Type 0 where
  pub desc : length config.desc ≤ desc_bytes
  pub limits : limits_fit config (sort_of config.kind config.ftvl) ≡ true
  pub choices : length config.choices ≤ most_choices
  pub nelm : within element_count.0 element_count.1 (pos config.nelm) ≡ true
