-- What the tables of a connection hold (pvAccess Protocol Specification, "Channel Life-cycle", and the requests on
-- channels).
use Rattle.std.specs.Prelude.{◌≡◌, ◌≢◌, ℕ, ◌<◌, Option, None, Some, IsSome, MatchOption}
use Rattle.std.specs.Prelude.{if◌then◌else◌, ◌==◌, refl}
use Rattle.std.specs.Option.{option_map}
use Rattle.std.specs.Coded.{Coded, code_by, coded×, coded_ℕ}
use Rattle.std.specs.Ordering.{nat_cmp}
use Rattle.std.specs.FinMap.{FinMap, code, empty, get, insert, remove, len}
use Rattle.chan_table.specs.declared.ask.Ask.{Ask}
use Rattle.chan_table.specs.declared.answer.TableAnswer.{TableAnswer}
use Rattle.chan_table.specs.declared.answer.TableAnswer.TheVariants.{InUse, Full, NoMemory}
use Rattle.chan_table.specs.Codes.{ask_code}

-- The channels by the server's ids, each with the client's id of it; the requests by the client's ids of them; and how
-- many requests fit without more memory.
pub record Tables (C S : Type 0) : Type 0 where
  pub channels : FinMap nat_cmp (ℕ × C)
  pub asks : FinMap nat_cmp (Ask S)
  pub room : ℕ

-- they are stored as the tuple of these
abbrev pub tables_code : {C S : Type 0} → Coded C → Coded S → Coded (Tables C S)
tables_code {C} {S} c s =
    code_by
    (FinMap nat_cmp (ℕ × C) × (FinMap nat_cmp (Ask S) × ℕ))
    (coded× (code coded_ℕ (coded× coded_ℕ c)) (coded× (code coded_ℕ (ask_code s)) coded_ℕ))
    (λ t. (t.channels, (t.asks, t.room)))
    (λ p. record { channels = p.0; asks = p.1.0; room = p.1.1 })
    (λ _. refl)

-- the most channels, and the most requests
abbrev pub limit : ℕ
limit = 4096

-- no channels and no requests
abbrev pub blank : {C S : Type 0} → Tables C S
blank = record { channels = empty; asks = empty; room = 0 }

-- the channel that an entry has where it has this cid
abbrev pub of_cid : {C : Type 0} → ℕ → Option (ℕ × C) → Option C
of_cid cid None = None
of_cid cid (Some open_) = if open_.0 == cid then Some open_.1 else None

module _ {C S : Type 0} where
  -- with a channel more, of these ids
  abbrev pub with_channel : Tables C S → ℕ → ℕ → C → Tables C S
  with_channel t sid cid channel = record t { channels = insert t.channels sid (cid, channel) }

  abbrev pub without_channel : Tables C S → ℕ → Tables C S
  without_channel t sid = record t { channels = remove t.channels sid }

  -- with this request under an id
  abbrev pub with_ask : Tables C S → ℕ → Ask S → Tables C S
  with_ask t id ask = record t { asks = insert t.asks id ask }

  abbrev pub without_ask : Tables C S → ℕ → Tables C S
  without_ask t id = record t { asks = remove t.asks id }

  -- the channel of this sid and this cid
  abbrev pub channel_of : Tables C S → ℕ → ℕ → Option C
  channel_of t sid cid = of_cid cid (get t.channels sid)

-- the sid of a request
abbrev pub sid_at : {S : Type 0} → FinMap nat_cmp (Ask S) → ℕ → Option ℕ
sid_at asks id = option_map (λ ask. ask.sid) (get asks id)

-- No request is on the channel.
pub record IsFreeOf (sids : ℕ → Option ℕ) (sid : ℕ) : Type 0 where
  pub none : (id : ℕ) → sids id ≢ Some sid

-- The least request on the channel has this id.
pub record IsLeastOn (sids : ℕ → Option ℕ) (sid id : ℕ) : Type 0 where
  pub on : sids id ≡ Some sid
  pub least : (k : ℕ) → k < id → sids k ≢ Some sid

-- It, if there is one.
abbrev pub IsFirstOn : (ℕ → Option ℕ) → ℕ → Option ℕ → Type 0
IsFirstOn sids sid found = MatchOption found (IsFreeOf sids sid) (IsLeastOn sids sid)

-- A request of this id can be put in: none has it, there may be one more, and there is room.
pub record IsReady {C S : Type 0} (t : Tables C S) (id : ℕ) : Type 0 where
  pub free : get t.asks id ≡ None
  pub few : len t.asks < limit
  pub room : len t.asks < t.room

-- There are as many as there may be, and the answer says so.
pub record IsFull (count : ℕ) (answer : TableAnswer) : Type 0 where
  pub full : count ≡ limit
  pub told : answer ≡ Full limit

-- Why none can be: the id is in use; or it isn't, and there are as many as there may be; or neither, and memory is
-- short.
abbrev pub Refuses : {C S : Type 0} → Tables C S → ℕ → TableAnswer → Type 0
Refuses t id InUse = IsSome (get t.asks id)
Refuses t id (Full said) = (get t.asks id ≡ None) × IsFull (len t.asks) (Full said)
Refuses t id NoMemory = (get t.asks id ≡ None) × (len t.asks < limit)
