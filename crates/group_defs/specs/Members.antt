-- What a member's object says (QSRV manual, "Group PV definitions").
use Rattle.std.specs.Prelude.{ℕ, ℤ, Bool, true, false, not, ◌&&◌, ◌||◌, List, [], length, Option, Some, None, Ok}
use Rattle.std.specs.Prelude.{Err}
use Rattle.std.specs.Prelude.{codes, if◌then◌else◌, nat_eq, nat_lt, option_and_then, negsuc, pos}
use Rattle.std.specs.Char.{digit_value}
use Rattle.std.specs.List.{list_any, list_all, starts_with}
use Rattle.std.specs.Str.{bytes_eq}
use Rattle.std.specs.Str.Parse.{without_leading_sign, signed_digits_value}
use Rattle.json.specs.Json.{Json}
use Rattle.json.specs.Find.{get, as_str, as_number, as_object}
use Rattle.json.specs.Strict.{keys}
use Rattle.rec_kinds.specs.Sorts.{within}
use Rattle.group_defs.specs.Told.{Told, ◌>>=◌, given}
use Rattle.group_defs.specs.Names.{name_fits}
use Rattle.group_defs.specs.declared.fault.Stop.TheVariants.{BadMember, UnknownKey}
use Rattle.group_defs.specs.declared.said.MemberText.{MemberText}
use Rattle.group_defs.specs.declared.def.MemberKind.{MemberKind}
use Rattle.group_defs.specs.declared.def.MemberKind.TheVariants.{Whole, Plain, Any, Meta, Proc, Structure}

-- whether a key stands for a setting, and not for a member's name
abbrev pub is_setting : List ℕ → Bool
is_setting key = starts_with nat_eq key (codes "+")

-- the settings of a member
abbrev pub is_member_setting : List ℕ → Bool
is_member_setting key =
    bytes_eq key (codes "+type") || bytes_eq key (codes "+channel") || bytes_eq key (codes "+id")
    || bytes_eq key (codes "+trigger") || bytes_eq key (codes "+putorder")

abbrev pub is_unknown : List ℕ → Bool
is_unknown key = is_setting key && not (is_member_setting key)

-- the value of a key that may be missing; of a key that is doubled the last counts
abbrev pub optional : {A : Type 0} → (Json → Told A) → Option Json → Told (Option A)
optional read None = Ok None
optional read (Some j) = read j >>= λ x. Ok (Some x)

abbrev pub text_of : Json → Told (List ℕ)
text_of j = given (as_str j)

unfoldable pub text_at : List ℕ → Json → Told (Option (List ℕ))
text_at key j = optional text_of (get key j)

abbrev pub kind_named : List ℕ → Option MemberKind
kind_named text =
    if bytes_eq text (codes "scalar") then Some Whole
    else if bytes_eq text (codes "plain") then Some Plain
    else if bytes_eq text (codes "any") then Some Any
    else if bytes_eq text (codes "meta") then Some Meta
    else if bytes_eq text (codes "proc") then Some Proc
    else if bytes_eq text (codes "structure") then Some Structure
    else None

abbrev pub kind_given : Option (List ℕ) → Told MemberKind
kind_given None = Ok Whole
kind_given (Some text) = given (kind_named text)

unfoldable pub kind_at : Json → Told MemberKind
kind_at j = text_at (codes "+type") j >>= kind_given

-- The number that a JSON number writes, where it has neither a fraction nor an exponent and fits 32 bits.
abbrev pub whole : List ℕ → Option ℤ
whole text =
    if (nat_lt 0 (length (without_leading_sign text))
    && list_all (λ c. nat_lt (digit_value c) 10) (without_leading_sign text))
    && within (negsuc 2147483647) (pos 2147483647) (signed_digits_value 10 text)
    then Some (signed_digits_value 10 text) else None

abbrev pub order_of : Json → Told ℤ
order_of j = given (option_and_then whole (as_number j))

unfoldable pub order_at : Json → Told (Option ℤ)
order_at j = optional order_of (get (codes "+putorder") j)

-- `structure` alone may lack a channel, and `proc` alone may have another than `VAL`
abbrev pub channel_fits : MemberKind → Option (List ℕ) → Bool
channel_fits Structure None = true
channel_fits Whole None = false
channel_fits Plain None = false
channel_fits Any None = false
channel_fits Meta None = false
channel_fits Proc None = false
channel_fits Proc (Some channel) = true
channel_fits Whole (Some channel) = bytes_eq channel (codes "VAL")
channel_fits Plain (Some channel) = bytes_eq channel (codes "VAL")
channel_fits Any (Some channel) = bytes_eq channel (codes "VAL")
channel_fits Meta (Some channel) = bytes_eq channel (codes "VAL")
channel_fits Structure (Some channel) = bytes_eq channel (codes "VAL")

-- the record that a member of this kind shows or processes
abbrev pub record_of : MemberKind → ℕ → Option ℕ
record_of Structure number = None
record_of Whole number = Some number
record_of Plain number = Some number
record_of Any number = Some number
record_of Meta number = Some number
record_of Proc number = Some number

abbrev pub or_empty : Option (List ℕ) → List ℕ
or_empty None = []
or_empty (Some text) = text

abbrev pub member_text : MemberKind → ℕ → Option (List ℕ) → Option ℤ → Option (List ℕ) → MemberText
member_text kind number id order trigger =
    record { kind = kind; rec = record_of kind number; id = or_empty id; order = order; trigger = trigger }

-- the member of this name that the object of the record with this number states
unfoldable pub settled : ℕ → List ℕ → Json → Told MemberText
settled number name j =
    kind_at j >>= λ kind. text_at (codes "+channel") j >>= λ channel. text_at (codes "+id") j >>= λ id.
    text_at (codes "+trigger") j >>= λ trigger. order_at j >>= λ order.
    (if channel_fits kind channel && name_fits kind name then Ok (member_text kind number id order trigger)
    else Err BadMember)

unfoldable pub member_of : ℕ → List ℕ → Json → Told MemberText
member_of number name j =
    given (as_object j) >>= λ ms. (if list_any is_unknown (keys ms) then Err UnknownKey else settled number name j)
