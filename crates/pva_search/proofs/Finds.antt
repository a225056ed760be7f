-- A search that a finder writes is answered, and the answer is heard.
use Rattle.std.proofs.Common.{◌≡◌, ◌∙◌, ℕ, zero, suc, ◌+◌, ◌-◌, ◌<◌, ◌≤◌, ◌^◌, ◌&&◌, Bool, true, false, not, cond, eqb, ltb, eq-eqb, List, [], ◌∷◌, ◌++◌, length, get_or, Option, Some, None, is_none, refl, sym, ap, arith, length-append, lit<}
use Rattle.std.proofs.lemmas.Bool.{ltb-true}
use Rattle.std.proofs.lemmas.List.{append-nil, length-map}
use Rattle.std.proofs.lemmas.Str.{IsUtf8-from_ascii}
use Rattle.std.specs.List.{flat_map, list_any, range_with_len}
use Rattle.std.specs.Str.{IsUtf8}
use Rattle.pva_wire.specs.declared.order.Order.{Order}
use Rattle.pva_wire.specs.declared.order.Order.TheVariants.{Little}
use Rattle.pva_wire.specs.Spelling.{IsText}
use Rattle.pva_wire.proofs.Takes.{differs}
use Rattle.pva_frames.specs.Spelling.{header_bytes}
use Rattle.pva_outside.specs.declared.peer.Peer.{Peer}
use Rattle.pva_search.specs.declared.setup.Setup.{Setup}
use Rattle.pva_search.specs.Fields.{Field, canonical, canonical_channel}
use Rattle.pva_search.specs.Messages.{Search, Response, search_fields, response_fields, search_command, response_command, datagram, flag, tcp, response_bytes}
use Rattle.pva_search.specs.Grammar.{SpellsChannel, IsSpelled}
use Rattle.pva_search.specs.Reading.{search_in, response_in}
use Rattle.pva_search.specs.Answers.{is_empty, known_of, response_of}
use Rattle.pva_search.specs.Finding.{Finding, IsFinding, Asked, is_open, channels_of, asks_for, given, given_from, server_at}
use Rattle.pva_search.specs.Laws.{Finds, SearchFinds}
use Rattle.pva_search.proofs.Asking.{asks_size}
use Rattle.pva_search.proofs.Heard.{has, or_first, or_later, in_front, in_filter, any_of, some_in, in_known, known_step, given_at_position}
use Rattle.pva_search.proofs.Lengths.{channels_least, payload_size}
use Rattle.pva_search.proofs.Replies.{replied, some_wanted}
use Rattle.pva_search.proofs.Spelled.{search_is_read, response_is_read}
use Rattle.pva_search.proofs.Written.{EachCan, CanField, all_written, each_written, channel_written, head_size, is_one, order_is}

-- what is written spells its items
is_spelled : (order : Order) (server : Bool) (command : ℕ) (fields : List Field) → EachCan CanField fields → length (canonical order fields) < 2 ^ 32
    → IsSpelled command (datagram order server command fields) order fields
is_spelled order server command fields can fits = record {
  head = header_bytes order server 0 command (length (canonical order fields));
  front = canonical order fields;
  more = [];
  size = head_size order server command (length (canonical order fields));
  parts = ap (λ (xs : List ℕ). header_bytes order server 0 command (length (canonical order fields)) ++ xs) (sym (append-nil (canonical order fields)));
  message = is_one order server command (canonical order fields) fits;
  told = order_is order server command (canonical order fields) fits;
  items = all_written order fields can;
}

tcp_ascii : (i : ℕ) → get_or tcp i 0 < 128
tcp_ascii zero = lit< tt
tcp_ascii (suc zero) = lit< tt
tcp_ascii (suc (suc zero)) = lit< tt
tcp_ascii (suc (suc (suc i))) = lit< tt

tcp_text : IsText tcp
tcp_text = (IsUtf8-from_ascii tcp tcp_ascii, lit< tt)

flag_small : (b : Bool) → flag b < 256 ^ 1
flag_small true = lit< tt
flag_small false = lit< tt

-- what holds of each number holds of each channel
each_channel : (P : ℕ × List ℕ → Type 0) (names : List (List ℕ)) (numbers : List ℕ) → ((j : ℕ) → has j numbers ≡ true → P (j, get_or names j []))
    → EachCan P (channels_of names numbers)
each_channel P names [] all = tt
each_channel P names (x ∷ numbers) all =
    (all x (or_first (eqb x x) (has x numbers) (eq-eqb x x refl)), each_channel P names numbers (λ j h. all j (or_later (eqb x j) (has j numbers) h)))

keep : (x : ℕ) (rest : List ℕ) (b : Bool) → x < 256 ^ 4 → EachCan (λ n. n < 256 ^ 4) rest → EachCan (λ n. n < 256 ^ 4) (cond b (x ∷ rest) rest)
keep x rest true h others = (h, others)
keep x rest false h others = others

each_known : (test : List ℕ → Bool) (names : List (List ℕ)) (numbers : List ℕ) → ((j : ℕ) → has j numbers ≡ true → j < 256 ^ 4)
    → EachCan (λ n. n < 256 ^ 4) (known_of test (channels_of names numbers))
each_known test names [] all = tt
each_known test names (x ∷ numbers) all =
    let name = get_or names x [] in
    let rest = known_of test (channels_of names numbers) in
    rw (known_step test x name (channels_of names numbers) (test name) refl)
    (keep x rest (test name) (all x (or_first (eqb x x) (has x numbers) (eq-eqb x x refl)))
    (each_known test names numbers (λ j h. all j (or_later (eqb x j) (has j numbers) h))))

shorter : (x : ℕ) (rest : List ℕ) (b : Bool) (n : ℕ) → length rest ≤ n → length (cond b (x ∷ rest) rest) ≤ suc n
shorter x rest true n h = omega arith
shorter x rest false n h = omega arith

known_fewer : (test : List ℕ → Bool) (names : List (List ℕ)) (numbers : List ℕ) → length (known_of test (channels_of names numbers)) ≤ length numbers
known_fewer test names [] = omega arith
known_fewer test names (x ∷ numbers) =
    let name = get_or names x [] in
    let rest = known_of test (channels_of names numbers) in
    let size = ap length (known_step test x name (channels_of names numbers) (test name) refl) in
    omega (arith, size, shorter x rest (test name) (length numbers) (known_fewer test names numbers))

some_found : (found : List ℕ) → 0 < length found → not (is_empty found) ≡ true
some_found [] h = absurd (omega arith)
some_found (x ∷ found) h = ap not (differs (suc (length found)) 0 (λ e. omega arith))

both_front : (a b : Bool) → (a && b) ≡ true → a ≡ true
both_front true b h = refl
both_front false b h = absurd cc

both_back : (a b : Bool) → (a && b) ≡ true → b ≡ true
both_back true b h = h
both_back false b h = absurd cc

no_server : (s : Option Peer) → is_none s ≡ true → s ≡ None
no_server None h = refl
no_server (Some x) h = absurd cc

module _ (f after : Finding) (port : ℕ) (written : List ℕ) (asked : Asked f after port written) (i : ℕ) (setup : Setup) (client server : Peer) (known : List ℕ → Bool)
    (ok : IsFinding f) (sequence : f.sequence < 2 ^ 32) (port_fits : port < 2 ^ 16) (texts : (j : ℕ) → IsUtf8 (get_or f.names j []))
    (twelve : length setup.guid ≡ 12) (server_fits : setup.port < 2 ^ 16) (named : has i asked.taken ≡ true) (is_known : known (get_or f.names i []) ≡ true) where
  abbrev cs : List (ℕ × List ℕ)
  cs = channels_of f.names asked.taken

  abbrev search : Search
  search = asks_for f.sequence port cs

  abbrev found : List ℕ
  found = known_of known cs

  abbrev response : Response
  response = response_of setup f.sequence found

  opened : (j : ℕ) → has j asked.taken ≡ true → is_open f.servers j ≡ true
  opened j h =
      in_filter (is_open f.servers) j (range_with_len f.next (length f.names - f.next))
      (ap (has j) (asked.divided) ∙ in_front j asked.taken asked.others h)

  low : (j : ℕ) → has j asked.taken ≡ true → j < 64
  low j h =
      let few = ok.few in
      let each = ok.each in
      omega (arith, ltb-true j (length f.servers) (both_front (ltb j (length f.servers)) (is_none (server_at f.servers j)) (opened j h)))

  abbrev CanChannel : ℕ × List ℕ → Type 0
  CanChannel c = (c.0 < 256 ^ 4) × IsText c.1

  can_channels : EachCan CanChannel cs
  can_channels = each_channel CanChannel f.names asked.taken (λ j h.
      let lower = low j h in
      let short = ok.short j in
      (omega arith, (texts j, omega arith)))

  size : 41 + length (flat_map (canonical_channel Little) cs) ≤ 1400
  size =
      let fits = asked.fits in
      omega (arith, asks_size f.sequence port cs)

  few_channels : length cs ≤ 271
  few_channels =
      omega (
        arith,
        size,
        channels_least Little cs (flat_map (canonical_channel Little) cs)
            (each_written (SpellsChannel Little) (canonical_channel Little) CanChannel (λ c h. channel_written Little c h) cs can_channels),
      )

  can_search : EachCan CanField (search_fields (0 ∷ 0 ∷ 0 ∷ []) search)
  can_search =
      (sequence, (lit< tt, (tt, (tt, (port_fits, ((lit< tt, (tcp_text, tt)), ((omega (arith, few_channels), can_channels), tt)))))))

  fits_search : length (canonical Little (search_fields (0 ∷ 0 ∷ 0 ∷ []) search)) < 2 ^ 32
  fits_search =
      let payload = canonical Little (search_fields (0 ∷ 0 ∷ 0 ∷ []) search) in
      let fits = asked.fits in
      omega (arith, length-append (header_bytes Little false 0 3 (length payload)) payload)

  searched : search_in written ≡ Some (Little, search)
  searched =
      ap search_in asked.spelled
      ∙ search_is_read (datagram Little false search_command (search_fields (0 ∷ 0 ∷ 0 ∷ []) search)) Little (0 ∷ 0 ∷ 0 ∷ []) search refl refl
      (is_spelled Little false search_command (search_fields (0 ∷ 0 ∷ 0 ∷ []) search) can_search fits_search)

  is_found : has i found ≡ true
  is_found = in_known known f.names i asked.taken named is_known

  some : 0 < length found
  some = some_in i found is_found

  few_found : length found ≤ 271
  few_found =
      omega (arith, known_fewer known f.names asked.taken, few_channels, length-map {B = ℕ × List ℕ} asked.taken (λ (j : ℕ). (j, get_or f.names j [])))

  can_response : EachCan CanField (response_fields response)
  can_response = (
    tt,
    (
      sequence,
      (
        tt,
        (
          server_fits,
          (
            tcp_text,
            (
              flag_small (not (is_empty found)),
              ((omega (arith, few_found), each_known known f.names asked.taken (λ j h. let lower = low j h in omega arith)), tt),
            ),
          ),
        ),
      ),
    ),
  )

  fits_response : length (canonical Little (response_fields response)) < 2 ^ 32
  fits_response = omega (arith, few_found, payload_size Little setup f.sequence found twelve)

  heard_as : response_in (response_bytes Little response) ≡ Some (Little, response)
  heard_as =
      response_is_read (datagram Little true response_command (response_fields response)) Little response twelve refl
      (is_spelled Little true response_command (response_fields response) can_response fits_response)

  open_i : is_open f.servers i ≡ true
  open_i = opened i named

  unfound : server_at f.servers i ≡ None
  unfound = no_server (server_at f.servers i) (both_back (ltb i (length f.servers)) (is_none (server_at f.servers i)) open_i)

  abbrev to : Peer
  to = record { address = server.address; port = setup.port }

  given_now : server_at (given_from 0 found to f.servers) i ≡ Some to
  given_now =
      let below = ltb-true i (length f.servers) (both_front (ltb i (length f.servers)) (is_none (server_at f.servers i)) open_i) in
      let e : 0 + i ≡ i = omega arith in
      given_at_position 0 i found to f.servers below
      ∙ ap (λ (n : ℕ). given (has n found) to (server_at f.servers i)) e
      ∙ ap (λ (b : Bool). given b to (server_at f.servers i)) is_found
      ∙ ap (λ (s : Option Peer). given true to s) unfound

  pub finds : Finds f written port i setup client server known
  finds = record {
    reply = response_bytes Little response;
    answered = replied known setup client Little search (search_in written) searched refl (some_wanted 128 found some);
    response = response;
    heard_as = heard_as;
    new = ap (λ (b : Bool). b && list_any (is_open f.servers) found) (some_found found some) ∙ any_of (is_open f.servers) i found is_found open_i;
    found = ap (λ (b : Bool). server_at (cond b (record f { servers = given_from 0 found to f.servers }) f).servers i) (some_found found some) ∙ given_now;
  }

pub every_search_finds : SearchFinds
every_search_finds f after port written asked i setup client server known ok sequence port_fits texts twelve server_fits named is_known =
    finds f after port written asked i setup client server known ok sequence port_fits texts twelve server_fits named is_known
