-- The names that are open, and what they take in a datagram.
use Rattle.std.proofs.Common.{◌≡◌, ℕ, zero, suc, ◌+◌, ◌-◌, ◌≤◌, ◌<◌, true, false, List, [], ◌∷◌, ◌++◌, length, get_or, Option, refl, sym, ap, ◌∙◌, arith, length-append}
use Rattle.std.proofs.lemmas.Bool.{lt-ltb}
use Rattle.std.proofs.lemmas.List.{map-append, append-nil}
use Rattle.std.proofs.lemmas.List.Elements.{filter-append}
use Rattle.std.proofs.lemmas.Grind.{flat_map-append}
use Rattle.std.specs.List.{filter, flat_map, range_with_len}
use Rattle.pva_wire.specs.declared.order.Order.{Order}
use Rattle.pva_wire.specs.declared.order.Order.TheVariants.{Little}
use Rattle.pva_wire.specs.Spelling.{number_bytes, canonical_size, canonical_text}
use Rattle.pva_wire.proofs.Digits.{number_len}
use Rattle.pva_outside.specs.declared.peer.Peer.{Peer}
use Rattle.pva_search.specs.Fields.{canonical_channel}
use Rattle.pva_search.specs.Finding.{is_open, open_in, channels_of}
use Rattle.pva_search.specs.Steps.{channel_bytes}

range_split : (a m n : ℕ) → range_with_len a (m + n) ≡ range_with_len a m ++ range_with_len (a + m) n
range_split a zero n =
    let e : 0 + n ≡ n = omega arith in
    let f : a + 0 ≡ a = omega arith in
    ap (range_with_len a) e ∙ ap (λ (b : ℕ). range_with_len b n) (sym f)
range_split a (suc m) n =
    let e : suc m + n ≡ suc (m + n) = omega arith in
    let f : (a + 1) + m ≡ a + suc m = omega arith in
    ap (range_with_len a) e ∙ ap (λ (xs : List ℕ). a ∷ xs) (range_split (a + 1) m n)
    ∙ ap (λ (b : ℕ). (a ∷ range_with_len (a + 1) m) ++ range_with_len b n) f

-- the open names up to a position, and from it on
pub open_split : (servers : List (Option Peer)) (from mid n : ℕ) → from ≤ mid → mid ≤ n
    → open_in servers from (n - from) ≡ open_in servers from (mid - from) ++ open_in servers mid (n - mid)
open_split servers from mid n low high =
    let e : n - from ≡ (mid - from) + (n - mid) = omega arith in
    let f : from + (mid - from) ≡ mid = omega arith in
    ap (open_in servers from) e ∙ ap (filter (is_open servers)) (range_split from (mid - from) (n - mid))
    ∙ filter-append (is_open servers) (range_with_len from (mid - from)) (range_with_len (from + (mid - from)) (n - mid))
    ∙ ap (λ (b : ℕ). open_in servers from (mid - from) ++ open_in servers b (n - mid)) f

one_open : (servers : List (Option Peer)) (i : ℕ) → open_in servers i (i + 1 - i) ≡ filter (is_open servers) (i ∷ [])
one_open servers i =
    let e : i + 1 - i ≡ 1 = omega arith in
    ap (open_in servers i) e

-- one position more
pub open_more : (servers : List (Option Peer)) (from i : ℕ) → from ≤ i
    → open_in servers from (i + 1 - from) ≡ open_in servers from (i - from) ++ filter (is_open servers) (i ∷ [])
open_more servers from i low =
    open_split servers from i (i + 1) low (omega arith)
    ∙ ap (λ (xs : List ℕ). open_in servers from (i - from) ++ xs) (one_open servers i)

-- the first of some positions
pub open_first : (servers : List (Option Peer)) (i n : ℕ) → i < n
    → open_in servers i (n - i) ≡ filter (is_open servers) (i ∷ []) ++ open_in servers (i + 1) (n - (i + 1))
open_first servers i n lt =
    open_split servers i (i + 1) n (omega arith) (omega arith)
    ∙ ap (λ (xs : List ℕ). xs ++ open_in servers (i + 1) (n - (i + 1))) (one_open servers i)

pub is_one : (servers : List (Option Peer)) (i : ℕ) → is_open servers i ≡ true → filter (is_open servers) (i ∷ []) ≡ i ∷ []
is_one servers i e = rw e refl

pub is_none : (servers : List (Option Peer)) (i : ℕ) → is_open servers i ≡ false → filter (is_open servers) (i ∷ []) ≡ []
is_none servers i e = rw e refl

pub bytes_append : (names : List (List ℕ)) (xs ys : List ℕ) → channel_bytes names (xs ++ ys) ≡ channel_bytes names xs ++ channel_bytes names ys
bytes_append names xs ys =
    ap (flat_map (canonical_channel Little)) (map-append (λ i. (i, get_or names i [])) xs ys)
    ∙ flat_map-append (canonical_channel Little) (channels_of names xs) (channels_of names ys)

pub one_channel : (names : List (List ℕ)) (i : ℕ) → channel_bytes names (i ∷ []) ≡ canonical_channel Little (i, get_or names i [])
one_channel names i = append-nil (canonical_channel Little (i, get_or names i []))

pub small_size : (o : Order) (n : ℕ) → n < 254 → canonical_size o n ≡ n ∷ []
small_size o n h = rw (lt-ltb n 254 h) refl

pub channel_size : (o : Order) (i : ℕ) (name : List ℕ) → length name < 254 → length (canonical_channel o (i, name)) ≡ 5 + length name
channel_size o i name h =
    let head : length (number_bytes o 4 i) ≡ 4 = number_len o 4 i in
    let text : canonical_text o name ≡ length name ∷ name = ap (λ (s : List ℕ). s ++ name) (small_size o (length name) h) in
    omega (arith, length-append (number_bytes o 4 i) (canonical_text o name), ap length text)

-- what one name more takes
pub size_more : (names : List (List ℕ)) (numbers : List ℕ) (i : ℕ) → length (get_or names i []) < 254
    → length (channel_bytes names (numbers ++ i ∷ [])) ≡ length (channel_bytes names numbers) + (5 + length (get_or names i []))
size_more names numbers i h =
    let all = bytes_append names numbers (i ∷ []) in
    let one = one_channel names i in
    omega (arith, ap length all, length-append (channel_bytes names numbers) (channel_bytes names (i ∷ [])), ap length one, channel_size Little i (get_or names i []) h)

pub open_none : (servers : List (Option Peer)) (i n : ℕ) → i < n → is_open servers i ≡ false
    → open_in servers i (n - i) ≡ open_in servers (i + 1) (n - (i + 1))
open_none servers i n lt e =
    open_first servers i n lt ∙ ap (λ (xs : List ℕ). xs ++ open_in servers (i + 1) (n - (i + 1))) (is_none servers i e)

pub open_one : (servers : List (Option Peer)) (i n : ℕ) → i < n → is_open servers i ≡ true
    → open_in servers i (n - i) ≡ i ∷ open_in servers (i + 1) (n - (i + 1))
open_one servers i n lt e =
    open_first servers i n lt ∙ ap (λ (xs : List ℕ). xs ++ open_in servers (i + 1) (n - (i + 1))) (is_one servers i e)

pub more_none : (servers : List (Option Peer)) (from i : ℕ) → from ≤ i → is_open servers i ≡ false
    → open_in servers from (i + 1 - from) ≡ open_in servers from (i - from)
more_none servers from i low e =
    open_more servers from i low ∙ ap (λ (xs : List ℕ). open_in servers from (i - from) ++ xs) (is_none servers i e)
    ∙ append-nil (open_in servers from (i - from))

pub more_one : (servers : List (Option Peer)) (from i : ℕ) → from ≤ i → is_open servers i ≡ true
    → open_in servers from (i + 1 - from) ≡ open_in servers from (i - from) ++ i ∷ []
more_one servers from i low e =
    open_more servers from i low ∙ ap (λ (xs : List ℕ). open_in servers from (i - from) ++ xs) (is_one servers i e)
