-- What one end writes is read back by the other: the messages of a client.
use Rattle.std.proofs.Common.{◌≡◌, ◌∙◌, ℕ, Bool, true, false, cond, List, [], ◌∷◌, ◌++◌, map, Option, Some, None, Ok, refl, sym, ap, subst}
use Rattle.std.proofs.lemmas.List.{append-nil}
use Rattle.std.proofs.lemmas.Grind.{flat_map-append}
use Rattle.pva_wire.specs.declared.order.Order.{Order}
use Rattle.pvd_desc.specs.Types.{Types}
use Rattle.pvd_codec.specs.Written.{CanEach}
use Rattle.pva_messages.specs.declared.command.Command.TheVariants as command
use Rattle.pva_messages.specs.Items.{Item}
use Rattle.pva_messages.specs.Items as item
use Rattle.pva_messages.specs.Fields.{Field, Valued, PartData, item_of, byte, word, valued, part}
use Rattle.pva_messages.specs.Subcommands.{begins, asks_back, counts, OnlyWhere, ExactlyWhere}
use Rattle.pva_messages.specs.Rows.{Stage, always, request, by_sub, begun_next, count_next, put_next, command_of}
use Rattle.pva_messages.specs.Requests as requests
use Rattle.pva_messages.specs.Requests.{Request, PutPart, absent, unread, given, part_place, valued_in, part_in, count_in, begun, part_field, count_field, request_of, request_fields, PartWhere}
use Rattle.pva_messages.specs.Grammar.{OfRow}
use Rattle.pva_messages.specs.Reading.{message_at, request_at}
use Rattle.pva_messages.specs.Written.{canonical, canonical_field, CanField, FitsField, seen}
use Rattle.pva_messages.specs.Laws.{RequestReadBack, left_unread, left_over, given_part}
use Rattle.pva_messages.proofs.Spelled.{RestLast, all_written}
use Rattle.pva_messages.proofs.Messages.{message_again}

pub of_fixed : (items : List Item) (fields : List Field) → map item_of fields ≡ items → OfRow (always items ∷ []) [] fields
of_fixed items fields h = (fields, [], h, refl, sym (append-nil fields))

pub of_two : (heads : List Item) (stage : Stage) (hs others : List Field) → map item_of hs ≡ heads → map item_of others ≡ stage hs → OfRow (always heads ∷ stage ∷ []) [] (hs ++ others)
of_two heads stage hs others h k = (hs, others, h, (others, [], k, refl, sym (append-nil others)), refl)

pub each_front : (P : Field → Type 0) (xs ys : List Field) → CanEach P (xs ++ ys) → CanEach P xs
each_front P [] ys h = tt
each_front P (x ∷ xs) ys h = (h.0, each_front P xs ys h.1)

-- the items of a row that were written, and others behind them that aren't read
pub written_is : {M : Type 0} (o : Order) (row : List Stage) (made : List Field → M) (passed : M) (before : Types) (fields others all : List Field) (m : M) → all ≡ fields ++ others → OfRow row [] (map seen fields)
    → RestLast fields (canonical o others) → made (map seen fields) ≡ m → CanEach FitsField all → CanEach CanField all → message_at o (Some row) made passed (canonical o all, before) ≡ Ok (m, (canonical o others, before))
written_is o row made passed before fields others all m parts of end is fits can =
    let fit = each_front FitsField fields others (subst (CanEach FitsField) parts fits) in
    let able = each_front CanField fields others (subst (CanEach CanField) parts can) in
    ap (λ (fs : List Field). message_at o (Some row) made passed (canonical o fs, before)) parts
    ∙ ap (λ (b : List ℕ). message_at o (Some row) made passed (b, before)) (flat_map-append (canonical_field o) fields others)
    ∙ message_again o made passed before (Some row) (canonical o fields) (canonical o others) m before (map seen fields, of, all_written o fields before (canonical o others) fit able end, sym is)

-- a request: two ids, a subcommand, and what that says
request_written : (o : Order) (made : List Field → Request) (passed : Request) (next : ℕ → List Item) (before : Types) (sid req sub : ℕ) (tail others all : List Field) (m : Request)
    → all ≡ (word sid ∷ word req ∷ byte sub ∷ tail) ++ others → map item_of (map seen tail) ≡ next sub → RestLast tail (canonical o others) → made (word sid ∷ word req ∷ byte sub ∷ map seen tail) ≡ m
    → CanEach FitsField all → CanEach CanField all → message_at o (request next) made passed (canonical o all, before) ≡ Ok (m, (canonical o others, before))
request_written o made passed next before sid req sub tail others all m parts items end is fits can =
    written_is o (always (item.word ∷ item.word ∷ item.byte ∷ []) ∷ by_sub next ∷ []) made passed before (word sid ∷ word req ∷ byte sub ∷ tail) others all m parts
    (of_two (item.word ∷ item.word ∷ item.byte ∷ []) (by_sub next) (word sid ∷ word req ∷ byte sub ∷ []) (map seen tail) refl items) (tt, (tt, (tt, end))) is fits can

-- ---- a get
get_back : (o : Order) (before : Types) (sid req sub : ℕ) (v : Valued) (b : Bool) → begins sub ≡ b → OnlyWhere b v → CanEach FitsField (request_fields (requests.get sid req sub v)) → CanEach CanField (request_fields (requests.get sid req sub v))
    → message_at o (request begun_next) (request_of command.Get) (requests.skipped 0) (canonical o (request_fields (requests.get sid req sub v)), before) ≡ Ok (requests.get sid req sub v, ([], before))
get_back o before sid req sub v true e only fits can =
    request_written o (request_of command.Get) (requests.skipped 0) begun_next before sid req sub (valued v ∷ []) [] (request_fields (requests.get sid req sub v)) (requests.get sid req sub v) (rw e refl) (rw e refl) (tt, tt) refl fits can
get_back o before sid req sub v false e only fits can =
    request_written o (request_of command.Get) (requests.skipped 0) begun_next before sid req sub [] [] (request_fields (requests.get sid req sub v)) (requests.get sid req sub v) (rw e refl) (rw e refl) tt (ap (requests.get sid req sub) (sym (only refl))) fits can

-- ---- a put
module _ (o : Order) (before : Types) (made : List Field → Request) (build : Valued → PutPart → Request) (sid req sub : ℕ) (v : Valued)
    (is : (fields : List Field) → made (word sid ∷ word req ∷ byte sub ∷ fields) ≡ build (valued_in fields) (part_in sub fields)) where
  abbrev put_fields : PutPart → List Field
  put_fields p = word sid ∷ word req ∷ byte sub ∷ (begun sub v ++ part_field p)

  abbrev PutBack : PutPart → Type 0
  PutBack p = message_at o (request (put_next None)) made (requests.skipped 0) (canonical o (put_fields p), before) ≡ Ok (build v (left_unread p), (left_over o (given_part p), before))

  put_begun : begins sub ≡ true → CanEach FitsField (put_fields absent) → CanEach CanField (put_fields absent) → PutBack absent
  put_begun e fits can = request_written o made (requests.skipped 0) (put_next None) before sid req sub (valued v ∷ []) [] (put_fields absent) (build v absent) (rw e refl) (rw e refl) (tt, tt) (is (valued v ∷ [])) fits can

  put_asks : begins sub ≡ false → asks_back sub ≡ true → v ≡ None → CanEach FitsField (put_fields absent) → CanEach CanField (put_fields absent) → PutBack absent
  put_asks e d none fits can =
      request_written o made (requests.skipped 0) (put_next None) before sid req sub [] [] (put_fields absent) (build v absent) (rw e refl) (rw (e, d) refl) tt (is [] ∙ rw (d, none) refl) fits can

  put_given : (p : PartData) → begins sub ≡ false → asks_back sub ≡ false → v ≡ None → CanEach FitsField (put_fields (given p)) → CanEach CanField (put_fields (given p)) → PutBack (given p)
  put_given p e d none fits can =
      request_written o made (requests.skipped 0) (put_next None) before sid req sub [] (part p ∷ []) (put_fields (given p)) (build v (unread part_place)) (rw e refl) (rw (e, d) refl) tt (is [] ∙ rw (d, none) refl) fits can

  pub put_back : (b c : Bool) (p : PutPart) → begins sub ≡ b → asks_back sub ≡ c → OnlyWhere b v → PartWhere (cond b false (cond c false true)) p → CanEach FitsField (put_fields p) → CanEach CanField (put_fields p) → PutBack p
  put_back true c p e d only there fits can =
      subst PutBack (sym there) (put_begun e (subst (λ (q : PutPart). CanEach FitsField (put_fields q)) there fits) (subst (λ (q : PutPart). CanEach CanField (put_fields q)) there can))
  put_back false true p e d only there fits can =
      subst PutBack (sym there) (put_asks e d (only refl) (subst (λ (q : PutPart). CanEach FitsField (put_fields q)) there fits) (subst (λ (q : PutPart). CanEach CanField (put_fields q)) there can))
  put_back false false absent e d only there fits can = absurd there
  put_back false false (unread place) e d only there fits can = absurd there
  put_back false false (given p) e d only there fits can = put_given p e d (only refl) fits can

-- ---- a monitor
monitor_back : (o : Order) (before : Types) (sid req sub : ℕ) (v : Valued) (n : Option ℕ) (b c : Bool) → begins sub ≡ b → counts sub ≡ c → OnlyWhere b v → ExactlyWhere c n
    → CanEach FitsField (request_fields (requests.monitor sid req sub v n)) → CanEach CanField (request_fields (requests.monitor sid req sub v n))
    → message_at o (request (λ sub. begun_next sub ++ count_next sub)) (request_of command.Monitor) (requests.skipped 0) (canonical o (request_fields (requests.monitor sid req sub v n)), before) ≡ Ok (requests.monitor sid req sub v n, ([], before))
monitor_back o before sid req sub v (Some n) true true e d only there fits can =
    request_written o (request_of command.Monitor) (requests.skipped 0) (λ sub. begun_next sub ++ count_next sub) before sid req sub (valued v ∷ word n ∷ []) [] (request_fields (requests.monitor sid req sub v (Some n))) (requests.monitor sid req sub v (Some n))
    (rw e refl) (rw (e, d) refl) (tt, (tt, tt)) refl fits can
monitor_back o before sid req sub v None true true e d only there fits can = absurd there
monitor_back o before sid req sub v n true false e d only there fits can =
    request_written o (request_of command.Monitor) (requests.skipped 0) (λ sub. begun_next sub ++ count_next sub) before sid req sub (valued v ∷ []) [] (request_fields (requests.monitor sid req sub v n)) (requests.monitor sid req sub v n)
    (rw (e, there) refl) (rw (e, d) refl) (tt, tt) (ap (requests.monitor sid req sub v) (sym there)) fits can
monitor_back o before sid req sub v (Some n) false true e d only there fits can =
    request_written o (request_of command.Monitor) (requests.skipped 0) (λ sub. begun_next sub ++ count_next sub) before sid req sub (word n ∷ []) [] (request_fields (requests.monitor sid req sub v (Some n))) (requests.monitor sid req sub v (Some n))
    (rw e refl) (rw (e, d) refl) (tt, tt) (ap (λ (w : Valued). requests.monitor sid req sub w (Some n)) (sym (only refl))) fits can
monitor_back o before sid req sub v None false true e d only there fits can = absurd there
monitor_back o before sid req sub v n false false e d only there fits can =
    request_written o (request_of command.Monitor) (requests.skipped 0) (λ sub. begun_next sub ++ count_next sub) before sid req sub [] [] (request_fields (requests.monitor sid req sub v n)) (requests.monitor sid req sub v n)
    (rw (e, there) refl) (rw (e, d) refl) tt (ap (λ (w : Valued). requests.monitor sid req sub w None) (sym (only refl)) ∙ ap (requests.monitor sid req sub v) (sym there)) fits can

-- a message of one stage
fixed_back : (o : Order) (before : Types) (items : List Item) (made : List Field → Request) (passed : Request) (fields : List Field) (m : Request) → map item_of (map seen fields) ≡ items → RestLast fields [] → made (map seen fields) ≡ m
    → CanEach FitsField fields → CanEach CanField fields → message_at o (Some (always items ∷ [])) made passed (canonical o fields, before) ≡ Ok (m, ([], before))
fixed_back o before items made passed fields m same end is fits can =
    written_is o (always items ∷ []) made passed before fields [] fields m (sym (append-nil fields)) (of_fixed items (map seen fields) same) end is fits can

pub request_back : RequestReadBack
unfolding request_at command_of
request_back o before (requests.validation buffer registry qos method v) (send, fits, can) =
    fixed_back o before (item.word ∷ item.short ∷ item.short ∷ item.text ∷ item.last_valued ∷ []) (request_of command.Validation) (requests.skipped 1) (request_fields (requests.validation buffer registry qos method v)) (requests.validation buffer registry qos method v)
    refl (tt, (tt, (tt, (tt, (tt, tt))))) refl fits can
request_back o before (requests.echo xs) (send, fits, can) =
    fixed_back o before (item.rest ∷ []) (request_of command.Echo) (requests.skipped 2) (request_fields (requests.echo xs)) (requests.echo xs) refl ((refl, refl), tt) refl fits can
request_back o before (requests.create cs) (send, fits, can) =
    fixed_back o before (item.channels ∷ []) (request_of command.CreateChannel) (requests.skipped 7) (request_fields (requests.create cs)) (requests.create cs) refl (tt, tt) refl fits can
request_back o before (requests.destroy_channel sid cid) (send, fits, can) =
    fixed_back o before (item.word ∷ item.word ∷ []) (request_of command.DestroyChannel) (requests.skipped 8) (request_fields (requests.destroy_channel sid cid)) (requests.destroy_channel sid cid) refl (tt, (tt, tt)) refl fits can
request_back o before (requests.get sid req sub v) (send, fits, can) = get_back o before sid req sub v (begins sub) refl send fits can
request_back o before (requests.put sid req sub v p) (send, fits, can) =
    put_back o before (request_of command.Put) (requests.put sid req sub) sid req sub v (λ fields. refl) (begins sub) (asks_back sub) p refl refl send.0 send.1 fits can
request_back o before (requests.put_get sid req sub v p) (send, fits, can) =
    put_back o before (request_of command.PutGet) (requests.put_get sid req sub) sid req sub v (λ fields. refl) (begins sub) (asks_back sub) p refl refl send.0 send.1 fits can
request_back o before (requests.monitor sid req sub v n) (send, fits, can) = monitor_back o before sid req sub v n (begins sub) (counts sub) refl refl send.0 send.1 fits can
request_back o before (requests.destroy_request sid req) (send, fits, can) =
    fixed_back o before (item.word ∷ item.word ∷ []) (request_of command.DestroyRequest) (requests.skipped 15) (request_fields (requests.destroy_request sid req)) (requests.destroy_request sid req) refl (tt, (tt, tt)) refl fits can
request_back o before (requests.cancel sid req) (send, fits, can) =
    fixed_back o before (item.word ∷ item.word ∷ []) (request_of command.Cancel) (requests.skipped 21) (request_fields (requests.cancel sid req)) (requests.cancel sid req) refl (tt, (tt, tt)) refl fits can
request_back o before (requests.get_field sid req path) (send, fits, can) =
    fixed_back o before (item.word ∷ item.word ∷ item.text ∷ []) (request_of command.GetField) (requests.skipped 17) (request_fields (requests.get_field sid req path)) (requests.get_field sid req path) refl (tt, (tt, (tt, tt))) refl fits can
request_back o before (requests.message req kind t) (send, fits, can) =
    fixed_back o before (item.word ∷ item.byte ∷ item.text ∷ []) (request_of command.Message) (requests.skipped 18) (request_fields (requests.message req kind t)) (requests.message req kind t) refl (tt, (tt, (tt, tt))) refl fits can
request_back o before (requests.rpc sid req sub v) (send, fits, can) =
    fixed_back o before (item.word ∷ item.word ∷ item.byte ∷ item.valued ∷ []) (request_of command.Rpc) (requests.skipped 20) (request_fields (requests.rpc sid req sub v)) (requests.rpc sid req sub v) refl (tt, (tt, (tt, (tt, tt)))) refl fits can
request_back o before (requests.skipped c) (send, fits, can) = absurd send
