-- A group as the texts that were read state it together.
use Rattle.std.specs.Prelude.{ℕ, Bool, true, List, [], map, string_bytes}
use Rattle.std.specs.declared.string.String.{String}
use Rattle.group_defs.specs.declared.said.MemberText.{MemberText}

pub record Joined : Type 0 where
  pub id : List ℕ
  pub atomic : Bool
  pub members : List (List ℕ × MemberText)  -- by their names, sorted by bytes

-- a group of which nothing is said yet
abbrev pub blank : Joined
blank = record { id = []; atomic = true; members = [] }

-- the members of a map, by the bytes of their names
abbrev pub members_seen : {Y : Type 0} → List (String Y × MemberText) → List (List ℕ × MemberText)
members_seen es = map (λ e. (string_bytes e.0, e.1)) es
