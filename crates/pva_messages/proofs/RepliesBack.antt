-- What one end writes is read back by the other: the messages of a server.
use Rattle.std.proofs.Common.{◌≡◌, ◌∙◌, ℕ, Bool, true, false, cond, ◌&&◌, not, List, [], ◌∷◌, ◌++◌, map, Option, Some, None, option_map, if◌then◌else◌, Ok, refl, sym}
use Rattle.std.specs.Ordering.{nat_cmp}
use Rattle.std.specs.FinSet.{FinSet}
use Rattle.std.proofs.lemmas.List.{append-nil}
use Rattle.pva_wire.specs.declared.order.Order.{Order}
use Rattle.pva_wire.specs.declared.status.Status.{Status}
use Rattle.pvd_type.specs.Tree.{Tree}
use Rattle.pvd_desc.specs.Types.{Types}
use Rattle.pvd_codec.specs.Written.{CanEach}
use Rattle.pva_messages.specs.declared.command.Command.TheVariants as command
use Rattle.pva_messages.specs.Items.{Item}
use Rattle.pva_messages.specs.Items as item
use Rattle.pva_messages.specs.Fields.{Field, Valued, PartData, item_of, byte, word, status, description, valued, part, bits}
use Rattle.pva_messages.specs.Subcommands.{begins, ends, asks_back, carries, OnlyWhere, ExactlyWhere}
use Rattle.pva_messages.specs.Rows.{Stage, always, by_status, get_reply, put_reply, put_get_reply, rpc_reply, begun_reply, monitor_next, field_next, command_of}
use Rattle.pva_messages.specs.Replies as replies
use Rattle.pva_messages.specs.Replies.{Reply, reply_of, reply_fields, CanReply}
use Rattle.pva_messages.specs.Grammar.{OfRow}
use Rattle.pva_messages.specs.Reading.{message_at, reply_at}
use Rattle.pva_messages.specs.Written.{canonical, CanField, FitsField, seen, seen_part}
use Rattle.pva_messages.specs.Laws.{ReplyReadBack, type_of_part}
use Rattle.pva_messages.proofs.Spelled.{RestLast}
use Rattle.pva_messages.proofs.ReadBack.{of_fixed, of_two, written_is}

abbrev Back : Order → Types → List Stage → (List Field → Reply) → Reply → List Field → Reply → Type 0
Back o before row made passed fields m = message_at o (Some row) made passed (canonical o fields, before) ≡ Ok (m, ([], before))

-- a reply: an id, a subcommand, a status, and what they say
reply_written : (o : Order) (made : List Field → Reply) (next : ℕ → List Item) (before : Types) (req sub : ℕ) (s : Status) (tail all : List Field) (m : Reply) → all ≡ word req ∷ byte sub ∷ status s ∷ tail
    → map item_of (map seen tail) ≡ (if carries s then next sub else []) → RestLast tail [] → made (word req ∷ byte sub ∷ status s ∷ map seen tail) ≡ m → CanEach FitsField all → CanEach CanField all
    → Back o before (always (item.word ∷ item.byte ∷ item.status ∷ []) ∷ by_status next ∷ []) made (replies.skipped 0) all m
reply_written o made next before req sub s tail all m same items end is fits can =
    written_is o (always (item.word ∷ item.byte ∷ item.status ∷ []) ∷ by_status next ∷ []) made (replies.skipped 0) before (word req ∷ byte sub ∷ status s ∷ tail) [] all m (same ∙ sym (append-nil (word req ∷ byte sub ∷ status s ∷ tail)))
    (of_two (item.word ∷ item.byte ∷ item.status ∷ []) (by_status next) (word req ∷ byte sub ∷ status s ∷ []) (map seen tail) refl items) (tt, (tt, (tt, end))) is fits can

-- a message of one stage
fixed_back : (o : Order) (before : Types) (items : List Item) (made : List Field → Reply) (fields : List Field) (m : Reply) → map item_of (map seen fields) ≡ items → RestLast fields [] → made (map seen fields) ≡ m
    → CanEach FitsField fields → CanEach CanField fields → Back o before (always items ∷ []) made (replies.skipped 0) fields m
fixed_back o before items made fields m same end is fits can =
    written_is o (always items ∷ []) made (replies.skipped 0) before fields [] fields m (sym (append-nil fields)) (of_fixed items (map seen fields) same) end is fits can

-- the type of a part is known
abbrev Knows : Option Tree → Option PartData → Type 0
Knows known p = (t : Tree) → type_of_part p ≡ Some t → known ≡ Some t

module _ (o : Order) (known : Option Tree) (before : Types) (req sub : ℕ) (s : Status) where
  get_back : (t : Option Tree) (p : Option PartData) (a b : Bool) → carries s ≡ a → begins sub ≡ b → OnlyWhere (a && b) t → ExactlyWhere (a && not b) p → Knows known p
      → CanEach FitsField (reply_fields (replies.get req sub s t p)) → CanEach CanField (reply_fields (replies.get req sub s t p))
      → Back o before (always (item.word ∷ item.byte ∷ item.status ∷ []) ∷ by_status (get_reply known) ∷ []) (reply_of command.Get) (replies.skipped 0) (reply_fields (replies.get req sub s t p)) (replies.get req sub s t (option_map seen_part p))
  get_back t p false b e d only there knows fits can =
      reply_written o (reply_of command.Get) (get_reply known) before req sub s [] (reply_fields (replies.get req sub s t p)) (replies.get req sub s t (option_map seen_part p)) (rw (e, there) refl) (rw e refl) tt
      (rw (only refl, there) refl) fits can
  get_back t p true true e d only there knows fits can =
      reply_written o (reply_of command.Get) (get_reply known) before req sub s (description t ∷ []) (reply_fields (replies.get req sub s t p)) (replies.get req sub s t (option_map seen_part p)) (rw (e, d, there) refl) (rw (e, d) refl) (tt, tt)
      (rw there refl) fits can
  get_back t None true false e d only there knows fits can = absurd there
  get_back t (Some p) true false e d only there knows fits can =
      reply_written o (reply_of command.Get) (get_reply known) before req sub s (part p ∷ []) (reply_fields (replies.get req sub s t (Some p))) (replies.get req sub s t (Some (seen_part p))) (rw (e, d) refl) (rw (e, d, knows p.ty refl) refl) (tt, tt)
      (rw (only refl) refl) fits can

  put_back : (t : Option Tree) (p : Option PartData) (a b c : Bool) → carries s ≡ a → begins sub ≡ b → asks_back sub ≡ c → OnlyWhere (a && b) t → ExactlyWhere (a && (not b && c)) p → Knows known p
      → CanEach FitsField (reply_fields (replies.put req sub s t p)) → CanEach CanField (reply_fields (replies.put req sub s t p))
      → Back o before (always (item.word ∷ item.byte ∷ item.status ∷ []) ∷ by_status (put_reply known) ∷ []) (reply_of command.Put) (replies.skipped 0) (reply_fields (replies.put req sub s t p)) (replies.put req sub s t (option_map seen_part p))
  put_back t p false b c e d f only there knows fits can =
      reply_written o (reply_of command.Put) (put_reply known) before req sub s [] (reply_fields (replies.put req sub s t p)) (replies.put req sub s t (option_map seen_part p)) (rw (e, there) refl) (rw e refl) tt
      (rw (only refl, there) refl) fits can
  put_back t p true true c e d f only there knows fits can =
      reply_written o (reply_of command.Put) (put_reply known) before req sub s (description t ∷ []) (reply_fields (replies.put req sub s t p)) (replies.put req sub s t (option_map seen_part p)) (rw (e, d, there) refl) (rw (e, d) refl) (tt, tt)
      (rw there refl) fits can
  put_back t p true false false e d f only there knows fits can =
      reply_written o (reply_of command.Put) (put_reply known) before req sub s [] (reply_fields (replies.put req sub s t p)) (replies.put req sub s t (option_map seen_part p)) (rw (e, d, there) refl) (rw (e, d, f) refl) tt
      (rw (only refl, there) refl) fits can
  put_back t None true false true e d f only there knows fits can = absurd there
  put_back t (Some p) true false true e d f only there knows fits can =
      reply_written o (reply_of command.Put) (put_reply known) before req sub s (part p ∷ []) (reply_fields (replies.put req sub s t (Some p))) (replies.put req sub s t (Some (seen_part p))) (rw (e, d) refl) (rw (e, d, f, knows p.ty refl) refl) (tt, tt)
      (rw (only refl) refl) fits can

  put_get_back : (t u : Option Tree) (p : Option PartData) (a b : Bool) → carries s ≡ a → begins sub ≡ b → OnlyWhere (a && b) t → OnlyWhere (a && b) u → ExactlyWhere (a && not b) p → Knows known p
      → CanEach FitsField (reply_fields (replies.put_get req sub s t u p)) → CanEach CanField (reply_fields (replies.put_get req sub s t u p))
      → Back o before (always (item.word ∷ item.byte ∷ item.status ∷ []) ∷ by_status (put_get_reply known) ∷ []) (reply_of command.PutGet) (replies.skipped 0) (reply_fields (replies.put_get req sub s t u p)) (replies.put_get req sub s t u (option_map seen_part p))
  put_get_back t u p false b e d only also there knows fits can =
      reply_written o (reply_of command.PutGet) (put_get_reply known) before req sub s [] (reply_fields (replies.put_get req sub s t u p)) (replies.put_get req sub s t u (option_map seen_part p)) (rw (e, there) refl) (rw e refl) tt
      (rw (only refl, also refl, there) refl) fits can
  put_get_back t u p true true e d only also there knows fits can =
      reply_written o (reply_of command.PutGet) (put_get_reply known) before req sub s (description t ∷ description u ∷ []) (reply_fields (replies.put_get req sub s t u p)) (replies.put_get req sub s t u (option_map seen_part p)) (rw (e, d, there) refl)
      (rw (e, d) refl) (tt, (tt, tt)) (rw there refl) fits can
  put_get_back t u None true false e d only also there knows fits can = absurd there
  put_get_back t u (Some p) true false e d only also there knows fits can =
      reply_written o (reply_of command.PutGet) (put_get_reply known) before req sub s (part p ∷ []) (reply_fields (replies.put_get req sub s t u (Some p))) (replies.put_get req sub s t u (Some (seen_part p))) (rw (e, d) refl) (rw (e, d, knows p.ty refl) refl) (tt, tt)
      (rw (only refl, also refl) refl) fits can

  rpc_back : (v : Valued) (a b : Bool) → carries s ≡ a → begins sub ≡ b → OnlyWhere (a && not b) v → CanEach FitsField (reply_fields (replies.rpc req sub s v)) → CanEach CanField (reply_fields (replies.rpc req sub s v))
      → Back o before (always (item.word ∷ item.byte ∷ item.status ∷ []) ∷ by_status rpc_reply ∷ []) (reply_of command.Rpc) (replies.skipped 0) (reply_fields (replies.rpc req sub s v)) (replies.rpc req sub s v)
  rpc_back v false b e d only fits can =
      reply_written o (reply_of command.Rpc) rpc_reply before req sub s [] (reply_fields (replies.rpc req sub s v)) (replies.rpc req sub s v) (rw e refl) (rw e refl) tt (rw (only refl) refl) fits can
  rpc_back v true true e d only fits can =
      reply_written o (reply_of command.Rpc) rpc_reply before req sub s [] (reply_fields (replies.rpc req sub s v)) (replies.rpc req sub s v) (rw (e, d) refl) (rw (e, d) refl) tt (rw (only refl) refl) fits can
  rpc_back v true false e d only fits can =
      reply_written o (reply_of command.Rpc) rpc_reply before req sub s (valued v ∷ []) (reply_fields (replies.rpc req sub s v)) (replies.rpc req sub s v) (rw (e, d) refl) (rw (e, d) refl) (tt, tt) refl fits can

-- ---- the type of a field
field_written : (o : Order) (before : Types) (req : ℕ) (s : Status) (tail all : List Field) (m : Reply) → all ≡ word req ∷ status s ∷ tail → map item_of (map seen tail) ≡ (if carries s then item.description ∷ [] else []) → RestLast tail []
    → reply_of command.GetField (word req ∷ status s ∷ map seen tail) ≡ m → CanEach FitsField all → CanEach CanField all
    → Back o before (always (item.word ∷ item.status ∷ []) ∷ field_next ∷ []) (reply_of command.GetField) (replies.skipped 0) all m
field_written o before req s tail all m same items end is fits can =
    written_is o (always (item.word ∷ item.status ∷ []) ∷ field_next ∷ []) (reply_of command.GetField) (replies.skipped 0) before (word req ∷ status s ∷ tail) [] all m (same ∙ sym (append-nil (word req ∷ status s ∷ tail)))
    (of_two (item.word ∷ item.status ∷ []) field_next (word req ∷ status s ∷ []) (map seen tail) refl items) (tt, (tt, end)) is fits can

field_back : (o : Order) (before : Types) (req : ℕ) (s : Status) (t : Option Tree) (a : Bool) → carries s ≡ a → OnlyWhere a t → CanEach FitsField (reply_fields (replies.get_field req s t)) → CanEach CanField (reply_fields (replies.get_field req s t))
    → Back o before (always (item.word ∷ item.status ∷ []) ∷ field_next ∷ []) (reply_of command.GetField) (replies.skipped 0) (reply_fields (replies.get_field req s t)) (replies.get_field req s t)
field_back o before req s t true e only fits can = field_written o before req s (description t ∷ []) (reply_fields (replies.get_field req s t)) (replies.get_field req s t) (rw e refl) (rw e refl) (tt, tt) refl fits can
field_back o before req s t false e only fits can = field_written o before req s [] (reply_fields (replies.get_field req s t)) (replies.get_field req s t) (rw e refl) (rw e refl) tt (rw (only refl) refl) fits can

-- ---- a monitor's replies
of_three : (first : List Item) (second third : Stage) (xs ys zs : List Field) → map item_of xs ≡ first → map item_of ys ≡ second xs → map item_of zs ≡ third (xs ++ ys) → OfRow (always first ∷ second ∷ third ∷ []) [] (xs ++ (ys ++ zs))
of_three first second third xs ys zs h k l = (xs, ys ++ zs, h, (ys, zs, k, (zs, [], l, refl, sym (append-nil zs)), refl), refl)

either : {A : Type 0} (b : Bool) (x : A) → cond b x x ≡ x
either true x = refl
either false x = refl

module _ (o : Order) (known : Option Tree) (before : Types) (req sub : ℕ) where
  abbrev monitor_row : List Stage
  monitor_row = always (item.word ∷ item.byte ∷ []) ∷ monitor_next known ∷ by_status begun_reply ∷ []

  monitor_written : (ys zs all : List Field) (m : Reply) → all ≡ word req ∷ byte sub ∷ (ys ++ zs) → map item_of (map seen ys) ≡ monitor_next known (word req ∷ byte sub ∷ []) → map item_of (map seen zs) ≡ by_status begun_reply (word req ∷ byte sub ∷ map seen ys)
      → map seen (ys ++ zs) ≡ map seen ys ++ map seen zs → RestLast (ys ++ zs) [] → reply_of command.Monitor (word req ∷ byte sub ∷ map seen (ys ++ zs)) ≡ m → CanEach FitsField all → CanEach CanField all
      → Back o before monitor_row (reply_of command.Monitor) (replies.skipped 0) all m
  monitor_written ys zs all m same second third both end is fits can =
      written_is o monitor_row (reply_of command.Monitor) (replies.skipped 0) before (word req ∷ byte sub ∷ (ys ++ zs)) [] all m (same ∙ sym (append-nil (word req ∷ byte sub ∷ (ys ++ zs))))
      (rw both (of_three (item.word ∷ item.byte ∷ []) (monitor_next known) (by_status begun_reply) (word req ∷ byte sub ∷ []) (map seen ys) (map seen zs) refl second third)) (tt, (tt, end)) is fits can

  begun_back : (s : Status) (t : Option Tree) (a : Bool) → carries s ≡ a → begins sub ≡ true → OnlyWhere a t → CanEach FitsField (reply_fields (replies.monitor_begun req sub s t)) → CanEach CanField (reply_fields (replies.monitor_begun req sub s t))
      → Back o before monitor_row (reply_of command.Monitor) (replies.skipped 0) (reply_fields (replies.monitor_begun req sub s t)) (replies.monitor_begun req sub s t)
  begun_back s t true e d only fits can =
      monitor_written (status s ∷ []) (description t ∷ []) (reply_fields (replies.monitor_begun req sub s t)) (replies.monitor_begun req sub s t) (rw e refl) (rw d refl) (rw (e, d) refl) refl (tt, (tt, tt)) (rw d refl) fits can
  begun_back s t false e d only fits can =
      monitor_written (status s ∷ []) [] (reply_fields (replies.monitor_begun req sub s t)) (replies.monitor_begun req sub s t) (rw e refl) (rw d refl) (rw e refl) refl (tt, tt) (rw (d, only refl) refl) fits can

  ended_back : (s : Status) → begins sub ≡ false → ends sub ≡ true → CanEach FitsField (reply_fields (replies.monitor_end req sub s)) → CanEach CanField (reply_fields (replies.monitor_end req sub s))
      → Back o before monitor_row (reply_of command.Monitor) (replies.skipped 0) (reply_fields (replies.monitor_end req sub s)) (replies.monitor_end req sub s)
  ended_back s d f fits can =
      monitor_written (status s ∷ []) [] (reply_fields (replies.monitor_end req sub s)) (replies.monitor_end req sub s) refl (rw (d, f) refl) (rw (d, either {A = List Item} (carries s) []) refl) refl (tt, tt) (rw (d, f) refl) fits can

  update_back : (p : PartData) (overrun : FinSet nat_cmp) → begins sub ≡ false → ends sub ≡ false → known ≡ Some p.ty → CanEach FitsField (reply_fields (replies.monitor_update req sub (Some (p, overrun)))) → CanEach CanField (reply_fields (replies.monitor_update req sub (Some (p, overrun))))
      → Back o before monitor_row (reply_of command.Monitor) (replies.skipped 0) (reply_fields (replies.monitor_update req sub (Some (p, overrun)))) (replies.monitor_update req sub (Some (seen_part p, overrun)))
  update_back p overrun d f knows fits can =
      monitor_written (part p ∷ bits overrun ∷ []) [] (reply_fields (replies.monitor_update req sub (Some (p, overrun)))) (replies.monitor_update req sub (Some (seen_part p, overrun))) refl (rw (d, f, knows) refl) refl refl (tt, (tt, tt)) (rw (d, f) refl) fits can

pub reply_back : ReplyReadBack
unfolding reply_at command_of
reply_back o before (replies.validation buffer registry methods) known (send, fits, can) knows =
    fixed_back o before (item.word ∷ item.short ∷ item.texts ∷ []) (reply_of command.Validation) (reply_fields (replies.validation buffer registry methods)) (replies.validation buffer registry methods) refl (tt, (tt, (tt, tt))) refl fits can
reply_back o before (replies.echo xs) known (send, fits, can) knows = fixed_back o before (item.rest ∷ []) (reply_of command.Echo) (reply_fields (replies.echo xs)) (replies.echo xs) refl ((refl, refl), tt) refl fits can
reply_back o before (replies.created cid sid s) known (send, fits, can) knows =
    fixed_back o before (item.word ∷ item.word ∷ item.status ∷ []) (reply_of command.CreateChannel) (reply_fields (replies.created cid sid s)) (replies.created cid sid s) refl (tt, (tt, (tt, tt))) refl fits can
reply_back o before (replies.channel_destroyed sid cid) known (send, fits, can) knows =
    fixed_back o before (item.word ∷ item.word ∷ []) (reply_of command.DestroyChannel) (reply_fields (replies.channel_destroyed sid cid)) (replies.channel_destroyed sid cid) refl (tt, (tt, tt)) refl fits can
reply_back o before (replies.validated s) known (send, fits, can) knows = fixed_back o before (item.status ∷ []) (reply_of command.Validated) (reply_fields (replies.validated s)) (replies.validated s) refl (tt, tt) refl fits can
reply_back o before (replies.get req sub s t p) known (send, fits, can) knows = get_back o known before req sub s t p (carries s) (begins sub) refl refl send.0 send.1 knows fits can
reply_back o before (replies.put req sub s t p) known (send, fits, can) knows = put_back o known before req sub s t p (carries s) (begins sub) (asks_back sub) refl refl refl send.0 send.1 knows fits can
reply_back o before (replies.put_get req sub s t u p) known (send, fits, can) knows = put_get_back o known before req sub s t u p (carries s) (begins sub) refl refl send.0 send.1 send.2 knows fits can
reply_back o before (replies.monitor_begun req sub s t) known (send, fits, can) knows = begun_back o known before req sub s t (carries s) refl send.0 send.1 fits can
reply_back o before (replies.monitor_update req sub None) known (send, fits, can) knows = absurd send.2
reply_back o before (replies.monitor_update req sub (Some u)) known (send, fits, can) knows = update_back o known before req sub u.0 u.1 send.0 send.1 (knows u.0.ty refl) fits can
reply_back o before (replies.monitor_end req sub s) known (send, fits, can) knows = ended_back o known before req sub s send.0 send.1 fits can
reply_back o before (replies.get_field req s t) known (send, fits, can) knows = field_back o before req s t (carries s) refl send fits can
reply_back o before (replies.message req kind t) known (send, fits, can) knows =
    fixed_back o before (item.word ∷ item.byte ∷ item.text ∷ []) (reply_of command.Message) (reply_fields (replies.message req kind t)) (replies.message req kind t) refl (tt, (tt, (tt, tt))) refl fits can
reply_back o before (replies.rpc req sub s v) known (send, fits, can) knows = rpc_back o known before req sub s v (carries s) (begins sub) refl refl send fits can
reply_back o before (replies.skipped c) known (send, fits, can) knows = absurd send
