-- Channels that are opened and ended.
use Rattle.std.proofs.Common.{◌≡◌, ◌==◌, ℕ, ◌<◌, Bool, true, false, cond, List, ◌∷◌, ◌++◌, drop, take, length, ◌+◌, Option, None, Some, Result, Ok, Err, refl, sym, ◌∙◌, ap, subst, arith, append_assoc}
use Rattle.std.specs.Prelude.{IfNone, IfOk, OnErr, OnSome, is_some, get_or, codes}
use Rattle.std.specs.FinMap.{get, insert, len}
use Rattle.std.proofs.Math.Seq.{take-append_seam}
use Rattle.std.proofs.lemmas.Bool.{false≢true}
use Rattle.std.proofs.lemmas.List.{at_drop_more}
use Rattle.std.proofs.lemmas.Bool.Decides.{nat_tests}
use Rattle.pva_messages.specs.Replies as reply
use Rattle.pvd_codec.specs.Written.{CanEach}
use Rattle.chan_table.specs.Numbers.{IsLeastAbsent}
use Rattle.chan_table.specs.Tables.{Tables, limit, of_cid, channel_of, with_channel, without_channel as less_channel}
use Rattle.chan_table.specs.declared.answer.TableAnswer.{TableAnswer}
use Rattle.desk_api.specs.declared.channel.Channel.{Channel}
use Rattle.desk_api.specs.declared.sub.Sub.{Sub}
use Rattle.srv_session.specs.State.{State, Channels, is_full, is_open, has_cid, least_free}
use Rattle.desk_api.specs.Sites.{channel_named}
use Rattle.desk_api.specs.declared.history.SiteData.{SiteData}
use Rattle.srv_session.specs.Replies.{Sent, IsSayable, said, spelled, spelled_all, outcome}
use Rattle.srv_session.specs.Rows.{created, opened, all_created, all_opened}
use Rattle.srv_session.specs.Tasks.{destroy_channel, pass_over, asked_end}
use Rattle.srv_session.specs.Views.{Keeps}
use Rattle.srv_session.specs.declared.session.Session.{Session}
use Rattle.srv_session.proofs.Tables.{is_least, one_least}

-- whether a channel is open under both ids

cid_test : (cid : ℕ) (o : Option (ℕ × Channel)) → is_some (of_cid cid o) ≡ has_cid cid o
cid_test cid None = refl
cid_test cid (Some x) = by_test (x.0 == cid)
  where
    by_test : (b : Bool) → is_some (cond b (Some x.1) None) ≡ b
    by_test true = refl
    by_test false = refl

pub open_test : (t : Tables Channel Sub) (sid cid : ℕ) → is_some (channel_of t sid cid) ≡ is_open t.channels sid cid
open_test t sid cid = cid_test cid (get t.channels sid)

pub end_task : (s : State) (sid cid : ℕ) (b : Bool) → is_open s.channels sid cid ≡ b → asked_end s sid cid ≡ cond b (destroy_channel sid cid) pass_over
end_task s sid cid b is = ap (λ (x : Bool). cond x (destroy_channel sid cid) pass_over) is

-- a channel that was there was taken out
pub taken_out : (t u : Tables Channel Sub) (sid cid : ℕ) (result : Option Channel) → result ≡ channel_of t sid cid → is_open t.channels sid cid ≡ true
    → OnSome result (u ≡ less_channel t sid) → u ≡ less_channel t sid
taken_out t u sid cid result is here removed = by_result result is removed
  where
    by_result : (r : Option Channel) → r ≡ channel_of t sid cid → OnSome r (u ≡ less_channel t sid) → u ≡ less_channel t sid
    by_result None none removed = absurd (false≢true (ap is_some none ∙ open_test t sid cid ∙ here))
    by_result (Some c) some removed = removed

-- A name opens a channel, or the table is full.

pub room_left : (channels : Channels) → len channels < limit → is_full channels ≡ false
room_left channels few = grind (arith, nat_tests)

pub none_left : (channels : Channels) → len channels ≡ limit → is_full channels ≡ true
none_left channels full = grind (arith, nat_tests)

module _ (channels : Channels) (cid : ℕ) (channel : Channel) (o : Option Channel) (is : o ≡ Some channel) where
  module _ (sid : ℕ) (few : len channels < limit) (least : IsLeastAbsent (get channels) sid) where
    abbrev free : sid ≡ least_free channels
    free = one_least channels sid (least_free channels) least (is_least channels)

    pub opens : insert channels sid (cid, channel) ≡ opened channels cid o
    opens =
        ap (λ (n : ℕ). insert channels n (cid, channel)) free
        ∙ sym (ap (λ (b : Bool). cond b channels (insert channels (least_free channels) (cid, channel))) (room_left channels few))
        ∙ ap (opened channels cid) (sym is)

    pub opens_reply : reply.created cid sid (outcome None) ≡ created channels cid o
    opens_reply =
        ap (λ (n : ℕ). reply.created cid n (outcome None)) free
        ∙ sym (ap (λ (b : Bool). cond b (reply.created cid 0xFFFF_FFFF (outcome (Some (codes "too many channels")))) (reply.created cid (least_free channels) (outcome None))) (room_left channels few))
        ∙ ap (created channels cid) (sym is)

  module _ (full : len channels ≡ limit) where
    pub opens_none : channels ≡ opened channels cid o
    opens_none =
        sym (ap (λ (b : Bool). cond b channels (insert channels (least_free channels) (cid, channel))) (none_left channels full))
        ∙ ap (opened channels cid) (sym is)

    pub full_reply : reply.created cid 0xFFFF_FFFF (outcome (Some (codes "too many channels"))) ≡ created channels cid o
    full_reply =
        sym (ap (λ (b : Bool). cond b (reply.created cid 0xFFFF_FFFF (outcome (Some (codes "too many channels")))) (reply.created cid (least_free channels) (outcome None))) (none_left channels full))
        ∙ ap (created channels cid) (sym is)

-- Name by name.

next_name : {Y : Type 0} (F : List (ℕ × List ℕ) → Y) (names : List (ℕ × List ℕ)) (i : ℕ) (x : ℕ × List ℕ) → x ≡ get_or names i x → i < length names → F (drop i names) ≡ F (x ∷ drop (i + 1) names)
next_name F names i x is lt = at_drop_more F names i x lt ∙ ap (λ (y : ℕ × List ℕ). F (y ∷ drop (i + 1) names)) (sym is)

module _ (site : SiteData) (names : List (ℕ × List ℕ)) (i : ℕ) (x : ℕ × List ℕ) (is : x ≡ get_or names i x) (lt : i < length names) (s m n : State)
    (m_is : m ≡ record s { channels = m.channels }) (n_is : n ≡ record m { channels = opened m.channels x.0 (channel_named site x.1) }) where
  abbrev new_channels : Channels
  new_channels = opened m.channels x.0 (channel_named site x.1)

  same_channels : n.channels ≡ new_channels
  same_channels = ap (λ (z : State). z.channels) n_is

  pub next_state : n ≡ record s { channels = n.channels }
  next_state =
      n_is ∙ ap (λ (z : State). let u : State = record z { channels = new_channels } in u) m_is
      ∙ ap (λ (c : Channels). let u : State = record s { channels = c } in u) (sym same_channels)

  pub next_channels : all_opened site n.channels (drop (i + 1) names) ≡ all_opened site m.channels (drop i names)
  next_channels =
      ap (λ (c : Channels). all_opened site c (drop (i + 1) names)) same_channels ∙ sym (next_name (all_opened site m.channels) names i x is lt)

  module _ (mid new : List ℕ) (new_is : new ≡ mid ++ spelled m.order m.segment (said (created m.channels x.0 (channel_named site x.1)))) where
    abbrev rest : Channels → List Sent
    rest c = all_created site c (drop (i + 1) names)

    abbrev reply_ : Sent
    reply_ = said (created m.channels x.0 (channel_named site x.1))

    pub next_output : new ++ spelled_all s.order s.segment (all_created site n.channels (drop (i + 1) names)) ≡ mid ++ spelled_all s.order s.segment (all_created site m.channels (drop i names))
    next_output =
        ap (λ (o : List ℕ). o ++ spelled_all s.order s.segment (rest n.channels)) new_is
        ∙ ap (λ (c : Channels). (mid ++ spelled m.order m.segment reply_) ++ spelled_all s.order s.segment (rest c)) same_channels
        ∙ ap (λ (z : State). (mid ++ spelled z.order z.segment reply_) ++ spelled_all s.order s.segment (rest new_channels)) m_is
        ∙ append_assoc mid (spelled s.order s.segment reply_) (spelled_all s.order s.segment (rest new_channels))
        ∙ sym (next_name (λ ns. mid ++ spelled_all s.order s.segment (all_created site m.channels ns)) names i x is lt)

  -- and what is told of all names can be said, where what is told of those behind it can
  pub next_sayable : IsSayable (said (created m.channels x.0 (channel_named site x.1))) → CanEach IsSayable (all_created site n.channels (drop (i + 1) names)) → CanEach IsSayable (all_created site m.channels (drop i names))
  next_sayable first rest =
      subst (CanEach IsSayable) (sym (next_name (all_created site m.channels) names i x is lt)) (first, subst (λ (c : Channels). CanEach IsSayable (all_created site c (drop (i + 1) names))) same_channels rest)

pub keeps_more : (a b c : Session) → Keeps a b → Keeps b c → Keeps a c
keeps_more a b c p q = record {
  more = p.more ++ q.more;
  sent = q.sent ∙ p.sent;
  output = q.output ∙ ap (λ (xs : List ℕ). xs ++ q.more) p.output ∙ append_assoc a.output.items p.more q.more;
}

-- the requests stay as they are
pub opened_asks : (old new : Tables Channel Sub) (cid : ℕ) (channel : Channel) (result : Result ℕ TableAnswer) → IfOk result (λ sid. new ≡ with_channel old sid cid channel) → OnErr result (new ≡ old) → new.asks ≡ old.asks
opened_asks old new cid channel (Ok sid) ok err = ap (λ (t : Tables Channel Sub). t.asks) ok
opened_asks old new cid channel (Err answer) ok err = ap (λ (t : Tables Channel Sub). t.asks) err

-- what was written since is cut off again
pub cut_back : (old new : Session) (n : ℕ) (cut : List ℕ) → Keeps old new → n ≡ length old.output.items → cut ≡ take n new.output.items → drop new.sent cut ≡ drop old.sent old.output.items
cut_back old new n cut keeps n_is cut_is =
    ap (λ (k : ℕ). drop k cut) keeps.sent
    ∙ ap (drop old.sent) (cut_is ∙ ap (take n) keeps.output ∙ ap (λ (k : ℕ). take k (old.output.items ++ keeps.more)) n_is ∙ take-append_seam old.output.items keeps.more)

pub closed_asks : (old new : Tables Channel Sub) (sid : ℕ) (result : Option Channel) → OnSome result (new ≡ less_channel old sid) → IfNone result (new ≡ old) → new.asks ≡ old.asks
closed_asks old new sid (Some channel) removed none = ap (λ (t : Tables Channel Sub). t.asks) removed
closed_asks old new sid None removed none = ap (λ (t : Tables Channel Sub). t.asks) none
