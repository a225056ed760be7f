-- What options and arguments ask for over the network.
use Rattle.std.proofs.Common.{◌≡◌, ◌≢◌, ◌≤◌, ℕ, List, [], Option, None, Some, refl, sym, ◌∙◌, subst, arith, codes}
use Rattle.clap.specs.Words.{HasKind, Row, Text, kind_of}
use Rattle.clap.specs.declared.error.Error.{Error}
use Rattle.clap.specs.declared.error.kind.ErrorKind.TheVariants.{OutOfMemory}
use Rattle.db_text.specs.Macros.{Macros}
use Rattle.cli_session.specs.declared.ask.Ask.{Ask}
use Rattle.prog_source.specs.Words.{AreMacrosOr, IsCountOr}
use Rattle.prog_client.specs.Networking.{CanSeek}
use Rattle.prog_client.specs.Over.{ArePatience, AreWanted, AsksOver, IsSourced, IsWanted, OthersAre}
use Rattle.prog_client.specs.Routes.{IsRoute, RouteIs}
use Rattle.cli_within.specs.Words.{AsksFor, given, most, word_faults, word_rows}
use Rattle.prog_client.specs.declared.networking.Route.{Route}
use Rattle.prog_client.specs.declared.outcome.Patience.{Patience}
use Rattle.prog_client.specs.declared.over_words.AskedOver.{AskedOver}
use Rattle.prog_client.specs.declared.over_words.Wanted.{Wanted}
use Rattle.prog_client.specs.declared.over_words.Wanted.TheVariants as wants
use Rattle.cli_within.proofs.Command.{refused_faulty}

-- Why what is given asks for nothing over the network.

pub no_idle : (rows : List Row) → ((n : ℕ) → ¬ (IsCountOr (given rows (codes "idle")) 1 most 200 n)) → (p : Patience) → ¬ (ArePatience rows p)
no_idle rows none p is = none p.idle is.idle_is

pub no_turns : (rows : List Row) → ((n : ℕ) → ¬ (IsCountOr (given rows (codes "turns")) 1 4611686018427387904 4611686018427387904 n)) → (p : Patience) → ¬ (ArePatience rows p)
no_turns rows none p is = none p.turns is.turns_is

pub no_piece : (rows : List Row) → ((n : ℕ) → ¬ (IsCountOr (given rows (codes "piece")) 1 most 4096 n)) → ¬ (OthersAre rows)
no_piece rows none is = none is.piece is.piece_is

pub no_macros : (rows : List Row) → ((macros : Macros) → ¬ (AreMacrosOr (given rows (codes "macros")) macros)) → ¬ (OthersAre rows)
no_macros rows none is = none is.macros is.macros_are

pub others_are : (rows : List Row) (piece : ℕ) (macros : Macros) → IsCountOr (given rows (codes "piece")) 1 most 4096 piece → AreMacrosOr (given rows (codes "macros")) macros → OthersAre rows
others_are rows piece macros piece_is macros_are = record { macros = macros; macros_are = macros_are; piece = piece; piece_is = piece_is }

pub no_route : (rows : List Row) → ((r : Route) → ¬ (RouteIs (given rows (codes "server")) (given rows (codes "search")) (given rows (codes "rounds")) r)) → (a : AskedOver) → ¬ (AsksOver rows a)
no_route rows none a is = none a.route is.route_is

pub no_patience : (rows : List Row) → ((p : Patience) → ¬ (ArePatience rows p)) → (a : AskedOver) → ¬ (AsksOver rows a)
no_patience rows none a is = none a.patience is.patience_are

pub no_others : (rows : List Row) → ¬ (OthersAre rows) → (a : AskedOver) → ¬ (AsksOver rows a)
no_others rows none a is = none is.others

pub no_ask : (rows : List Row) → ((ask : Ask) → ¬ (AsksFor rows ask)) → (a : AskedOver) → ¬ (AsksOver rows a)
no_ask rows none a is = none a.ask is.ask_is

pub asks_over : (rows : List Row) (ask : Ask) (route : Route) (p : Patience) → given rows (codes "within") ≡ None → AsksFor rows ask → RouteIs (given rows (codes "server")) (given rows (codes "search")) (given rows (codes "rounds")) route
    → ArePatience rows p → OthersAre rows → AsksOver rows (let a : AskedOver = record { ask = ask; route = route; patience = p } in a)
asks_over rows ask route p none ask_is route_is patience_are others = record { no_source = none; ask_is = ask_is; route_is = route_is; patience_are = patience_are; others = others }

-- A source, or none.

has_source : (given : Option Text) → given ≢ None → (text : Text) × (given ≡ Some text)
has_source None some = absurd (some refl)
has_source (Some text) some = (text, refl)

pub sourced : (rows : List Row) (route : Route) → given rows (codes "within") ≢ None → RouteIs (given rows (codes "server")) (given rows (codes "search")) (given rows (codes "rounds")) route → IsSourced rows
sourced rows route some is = let x = has_source (given rows (codes "within")) some in record { source = x.0; source_is = x.1; route = route; route_is = is }

pub unrouted : (rows : List Row) → given rows (codes "within") ≢ None → ((r : Route) → ¬ (RouteIs (given rows (codes "server")) (given rows (codes "search")) (given rows (codes "rounds")) r)) → IsWanted rows wants.Refused
unrouted rows some none = (λ a asks. some asks.no_source, λ is. none is.route is.route_is)

pub unwanted : (rows : List Row) → given rows (codes "within") ≡ None → ((a : AskedOver) → ¬ (AsksOver rows a)) → IsWanted rows wants.Refused
unwanted rows no_source none = (none, λ is. let bad : None ≡ Some is.source = sym no_source ∙ is.source_is in cc)

-- Words.

pub wanted : (words : List Text) (w : Wanted) → word_faults words ≡ [] → IsWanted (word_rows words) w → AreWanted words w
wanted words (wants.OverNetwork a) faultless is = record { faultless = faultless; asks = is }
wanted words wants.Within faultless is = record { faultless = faultless; sourced = is }
wanted words wants.Refused faultless is = (λ a taken. is.0 a taken.asks, λ taken. is.1 taken.sourced)

pub faulty : (words : List Text) (e : Error) → HasKind (word_faults words) e → (kind_of e ≡ OutOfMemory → ⊥) → AreWanted words wants.Refused
faulty words e kind not_memory = (λ a taken. refused_faulty words e kind not_memory taken.faultless, λ taken. refused_faulty words e kind not_memory taken.faultless)

-- A route that words ask for has a round at least, where it is a search.

pub can_seek : (server search rounds : Option (List ℕ)) (route : Route) → RouteIs server search rounds route → CanSeek route
can_seek server search rounds route is = by_server server route is.route_is
  where
    some : (text : Option (List ℕ)) (count : ℕ) → IsCountOr text 1 2147483647 3 count → 1 ≤ count
    some None count is = omega arith
    some (Some text) count is = is.least_is

    by_server : (server : Option (List ℕ)) (route : Route) → IsRoute server is.to is.count route → CanSeek route
    by_server None route r = subst CanSeek (sym r) (some rounds is.count is.count_is)
    by_server (Some text) route r = subst CanSeek (sym r.2) tt
