-- What access security rules grant (EPICS IOC Application Developer's Guide, "Access Security").
use Rattle.std.specs.Prelude.{◌≡◌, ◌⊎◌, ◌≤◌, ℕ, Bool, true, ◌&&◌, ◌||◌, List, [], ◌∷◌, length, map, Option}
use Rattle.std.specs.Prelude.{◌==◌, nat_le, is_some, unwrap_or, codes, if◌then◌else◌}
use Rattle.std.specs.List.{filter, list_any, IsAmong}
use Rattle.std.specs.Map.{lookup}
use Rattle.std.specs.Str.{bytes_eq}
use Rattle.db_text.specs.Macros.{first_of}
use Rattle.acf_rules.specs.declared.access.Access.{Access}
use Rattle.acf_rules.specs.declared.access.Access.TheVariants.{Nothing, Read, Write}
use Rattle.acf_rules.specs.declared.rules.Rule.{Rule}
use Rattle.acf_rules.specs.declared.rules.Rules.{Rules}

abbrev pub Name : Type 0
Name = List ℕ

-- groups of users, or of hosts: each has a name, and names of its own
abbrev pub Groups : Type 0
Groups = List (Name × List Name)

abbrev pub is_among : Name → List Name → Bool
is_among name names = list_any (bytes_eq name) names

-- what has this name, if anything
abbrev pub named : {A : Type 0} → Name → List (Name × A) → Option A
named name list = lookup (bytes_eq name) list

abbrev pub has : {A : Type 0} → Name → List (Name × A) → Bool
has name list = is_some (named name list)

-- whether the group of this name holds a user, or a host
abbrev pub holds : Groups → Name → Name → Bool
holds groups who group = is_among who (unwrap_or (named group groups) [])

-- whether one of these groups holds a user, or a host; where there are none, everybody is let in
abbrev pub admit : Groups → Name → List Name → Bool
admit groups who names = (length names == 0) || list_any (holds groups who) names

-- The rules of a name are those of the group of that name, or of `DEFAULT` where there is none, or none.
abbrev pub guarding : Rules → Name → Option (List Rule)
guarding rules name = first_of (named name rules.groups) (named (codes "DEFAULT") rules.groups)

abbrev pub rules_of : Rules → Name → List Rule
rules_of rules name = unwrap_or (guarding rules name) []

-- A rule matches where its level is at least the channel's, and its groups of users, where it has any, hold the user,
-- and its groups of hosts, where it has any, hold the host.
abbrev pub matches : Rules → ℕ → Name → Name → Rule → Bool
matches rules level user host rule =
    nat_le level rule.level && (admit rules.users user rule.users && admit rules.hosts host rule.hosts)

-- NONE is below READ, READ below WRITE
abbrev pub rank : Access → ℕ
rank Nothing = 0
rank Read = 1
rank Write = 2

abbrev pub greater : Access → Access → Access
greater a b = if nat_le (rank a) (rank b) then b else a

abbrev pub greatest : List Access → Access
greatest [] = Nothing
greatest (a ∷ others) = greater a (greatest others)

abbrev pub granted : Rules → ℕ → Name → Name → List Rule → Access
granted rules level user host list = greatest (map (λ r. r.access) (filter (matches rules level user host) list))

-- The access to a channel of this level that rules of this name grant: the greatest permission of the rules that match.
abbrev pub access : Rules → Name → ℕ → Name → Name → Access
access rules name level user host = granted rules level user host (rules_of rules name)

-- No rule that matches grants more, and one of them grants this, or it is nothing.
abbrev pub IsGreatest : Rules → Name → ℕ → Name → Name → Access → Type 0
IsGreatest rules name level user host a =
    ((r : Rule) → IsAmong (rules_of rules name) r → matches rules level user host r ≡ true → rank r.access ≤ rank a)
    × ((a ≡ Nothing) ⊎ ((r : Rule) × IsAmong (rules_of rules name) r × (matches rules level user host r ≡ true) × (r.access ≡ a)))
