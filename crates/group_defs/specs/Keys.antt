-- What a key of a group's object says: a setting of the group, or a member (QSRV manual, "Group PV definitions").
use Rattle.std.specs.Prelude.{ℕ, List, Ok, Err, codes, if◌then◌else◌}
use Rattle.std.specs.Str.{bytes_eq}
use Rattle.json.specs.Json.{Json}
use Rattle.json.specs.Find.{as_str, as_bool}
use Rattle.group_defs.specs.Told.{Told, ◌>>=◌, given}
use Rattle.group_defs.specs.Members.{is_setting, member_of}
use Rattle.group_defs.specs.declared.fault.Stop.TheVariants.{UnknownKey}
use Rattle.group_defs.specs.declared.said.Said.{Said}
use Rattle.group_defs.specs.declared.said.Said.TheVariants.{Id, Atomic, Member}

abbrev pub id_of : Json → Told Said
id_of j = given (as_str j) >>= λ text. Ok (Id text)

abbrev pub flag_of : Json → Told Said
flag_of j = given (as_bool j) >>= λ flag. Ok (Atomic flag)

abbrev pub setting_of : List ℕ → Json → Told Said
setting_of key j =
    if bytes_eq key (codes "+id") then id_of j
    else if bytes_eq key (codes "+atomic") then flag_of j
    else Err UnknownKey

-- what this key says in a text of the record with this number
unfoldable pub said_by : ℕ → List ℕ → Json → Told Said
said_by number key j =
    if is_setting key then setting_of key j else (member_of number key j >>= λ m. Ok (Member m))
