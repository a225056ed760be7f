-- What a session keeps from message to message (pvAccess Protocol Specification, "Connection Validation" and
-- "Channel Life-cycle").
use Rattle.std.specs.Prelude.{ℕ, ◌-◌, ◌+◌, ◌==◌, ◌&&◌, Bool, true, false, not, List, [], ◌∷◌, Option, None, Some, is_some, nat_lt, nat_le, option_map, if◌then◌else◌}
use Rattle.std.specs.List.{filter, flat_map}
use Rattle.std.specs.FinMap.{FinMap, empty, get, keys, len, retain_keys}
use Rattle.std.specs.Ordering.{nat_cmp}
use Rattle.pva_wire.specs.declared.order.Order.{Order}
use Rattle.pvd_desc.specs.Types.{Types}
use Rattle.chan_table.specs.Tables.{limit}
use Rattle.chan_table.specs.declared.ask.Ask.{Ask}
use Rattle.desk_api.specs.declared.channel.Channel.{Channel}
use Rattle.desk_api.specs.declared.sub.Sub.{Sub}

-- The open channels under the server's ids, each with the client's id.
abbrev pub Channels : Type 0
Channels = FinMap nat_cmp (ℕ × Channel)

-- a request; that of a monitor has a subscription of the desk
abbrev pub Asked : Type 0
Asked = Ask Sub

-- The requests that have begun, under the client's ids.
abbrev pub Requests : Type 0
Requests = FinMap nat_cmp Asked

-- The byte order that it writes in; whether a validation was answered OK, and what the last such one said: the most
-- payload that a frame to the client has, the number of types that the client's registry holds, its user and its host;
-- the types that the client has defined; the channels and the requests.
pub record State : Type 0 where
  pub order : Order
  pub validated : Bool
  pub segment : ℕ
  pub registry : ℕ
  pub user : Option (List ℕ)
  pub host : Option (List ℕ)
  pub types : Types
  pub channels : Channels
  pub requests : Requests

-- The buffer of a peer that announced this size: at least 1,024 bytes and at most 65,536.
abbrev pub buffer_for : ℕ → ℕ
buffer_for size = if nat_lt size 1024 then 1024 else if nat_lt 65536 size then 65536 else size

-- The most payload of a frame to this peer: the header of eight bytes stands in its buffer too.
abbrev pub segment_for : ℕ → ℕ
segment_for size = buffer_for size - 8

-- before the first message
abbrev pub opening : Order → State
opening order = record {
  order = order;
  validated = false;
  segment = segment_for 65536;
  registry = 0;
  user = None;
  host = None;
  types = empty;
  channels = empty;
  requests = empty;
}

-- the channel that is open under this id of the server
abbrev pub channel_at : Channels → ℕ → Option Channel
channel_at channels sid = option_map (λ c. c.1) (get channels sid)

-- whether a channel is open under this id of the server and this one of the client
abbrev pub has_cid : ℕ → Option (ℕ × Channel) → Bool
has_cid cid None = false
has_cid cid (Some c) = c.0 == cid

abbrev pub is_open : Channels → ℕ → ℕ → Bool
is_open channels sid cid = has_cid cid (get channels sid)

-- whether there are as many channels, or requests, as there may be
abbrev pub is_full : {X : Type 0} → FinMap nat_cmp X → Bool
is_full table = nat_le limit (len table)

-- the least number from n on that isn't one of these, which rise from n on
abbrev pub least_from : ℕ → List ℕ → ℕ
least_from n [] = n
least_from n (id ∷ ids) = if id == n then least_from (n + 1) ids else n

-- A new channel has the least number that no open channel has.
abbrev pub least_free : Channels → ℕ
least_free channels = least_from 0 (keys channels)

-- whether a request is on the channel of this id
abbrev pub is_on : ℕ → Option Asked → Bool
is_on sid None = false
is_on sid (Some ask) = ask.sid == sid

-- the requests that are on other channels
abbrev pub without_channel : ℕ → Requests → Requests
without_channel sid requests = retain_keys requests (λ req. not (is_on sid (get requests req)))

-- The request of this id with its channel, where it is on the open channel of this id.

abbrev pub on_channel : ℕ → Option Channel → Option Asked → Option (Asked × Channel)
on_channel sid (Some channel) (Some ask) = if ask.sid == sid then Some (ask, channel) else None
on_channel sid channel ask = None

abbrev pub request_on : State → ℕ → ℕ → Option (Asked × Channel)
request_on s sid req = on_channel sid (channel_at s.channels sid) (get s.requests req)

-- Monitors.

-- whether one more update may be sent: a window is open while it isn't spent, and a monitor without one always
abbrev pub is_window_open : Option ℕ → Bool
is_window_open None = true
is_window_open (Some free) = nat_lt 0 free

-- whether a request is a monitor that is started and may be sent an update
abbrev pub is_due : Option Asked → Bool
is_due None = false
is_due (Some ask) = is_some ask.sub && (ask.started && is_window_open ask.window)

-- the ids of these, rising
abbrev pub due : Requests → List ℕ
due requests = filter (λ req. is_due (get requests req)) (keys requests)

-- the slot of a request's subscription, if it has one

abbrev pub slot_of_sub : Option Sub → List ℕ
slot_of_sub None = []
slot_of_sub (Some sub) = sub.slot ∷ []

abbrev pub slot_of : Option Asked → List ℕ
slot_of None = []
slot_of (Some ask) = slot_of_sub ask.sub

-- the slots of the subscriptions of these requests, by the rising ids of the requests
abbrev pub slots_of : Requests → List ℕ
slots_of requests = flat_map (λ req. slot_of (get requests req)) (keys requests)

-- the requests that are on the channel of this id
abbrev pub on_only : ℕ → Requests → Requests
on_only sid requests = retain_keys requests (λ req. is_on sid (get requests req))
