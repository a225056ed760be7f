-- What the words ask for over the network, and what a run of the program comes to.
use Rattle.std.specs.Prelude.{◌≡◌, ◌⊎◌, ℕ, ℤ, Bool, true, false, List, [], Option, None, Some, codes}
use Rattle.clap.specs.Words.{Row, Text}
use Rattle.db_text.specs.Macros.{Macros}
use Rattle.pva_outside.specs.Dials.{DialerView}
use Rattle.pva_outside.specs.Traffic.{DatagramsView}
use Rattle.prog_source.specs.Words.{AreMacrosOr, IsCountOr}
use Rattle.prog_client.specs.Networking.{Networks, status_of}
use Rattle.prog_client.specs.Routes.{RouteIs}
use Rattle.cli_within.specs.Running.{Outside, Runs, number_of}
use Rattle.cli_within.specs.Words.{AsksFor, given, most, word_faults, word_rows}
use Rattle.prog_client.specs.declared.outcome.Outcome.{Outcome}
use Rattle.prog_client.specs.declared.outcome.Patience.{Patience}
use Rattle.prog_client.specs.declared.networking.Route.{Route}
use Rattle.prog_client.specs.declared.over_words.AskedOver.{AskedOver}
use Rattle.prog_client.specs.declared.over_words.Wanted.{Wanted}
use Rattle.prog_client.specs.declared.over_words.Wanted.TheVariants as wants
use Rattle.cli_within.specs.declared.stop.Status.{Status}

-- How long a search and an operation go on.
pub record ArePatience (rows : List Row) (p : Patience) : Type 0 where
  pub idle_is : IsCountOr (given rows (codes "idle")) 1 most 200 p.idle
  pub turns_is : IsCountOr (given rows (codes "turns")) 1 4611686018427387904 4611686018427387904 p.turns

-- The options that have no effect over the network are of their form.
pub record OthersAre (rows : List Row) : Type 0 where
  pub macros : Macros
  pub macros_are : AreMacrosOr (given rows (codes "macros")) macros
  pub piece : ℕ
  pub piece_is : IsCountOr (given rows (codes "piece")) 1 most 4096 piece

abbrev pub TellOthers : List Row → Bool → Type 0
TellOthers rows true = OthersAre rows
TellOthers rows false = ¬ (OthersAre rows)

-- What is given asks for this over the network: it names no source.
pub record AsksOver (rows : List Row) (a : AskedOver) : Type 0 where
  pub no_source : given rows (codes "within") ≡ None
  pub ask_is : AsksFor rows a.ask
  pub route_is : RouteIs (given rows (codes "server")) (given rows (codes "search")) (given rows (codes "rounds")) a.route
  pub patience_are : ArePatience rows a.patience
  pub others : OthersAre rows

-- What is given names a source, and the options for the network are of their form, though they have no effect.
pub record IsSourced (rows : List Row) : Type 0 where
  pub source : Text
  pub source_is : given rows (codes "within") ≡ Some source
  pub route : Route
  pub route_is : RouteIs (given rows (codes "server")) (given rows (codes "search")) (given rows (codes "rounds")) route

-- what is given asks for this
abbrev pub IsWanted : List Row → Wanted → Type 0
IsWanted rows (wants.OverNetwork a) = AsksOver rows a
IsWanted rows wants.Within = IsSourced rows
IsWanted rows wants.Refused = ((a : AskedOver) → ¬ (AsksOver rows a)) × ¬ (IsSourced rows)

-- The command takes the words, and they ask for this over the network.
pub record AreTakenOver (words : List Text) (a : AskedOver) : Type 0 where
  pub faultless : word_faults words ≡ []
  pub asks : AsksOver (word_rows words) a

-- The command takes the words, and they name a source.
pub record AreSourced (words : List Text) : Type 0 where
  pub faultless : word_faults words ≡ []
  pub sourced : IsSourced (word_rows words)

-- the words ask for this
abbrev pub AreWanted : List Text → Wanted → Type 0
AreWanted words (wants.OverNetwork a) = AreTakenOver words a
AreWanted words wants.Within = AreSourced words
AreWanted words wants.Refused = ((a : AskedOver) → ¬ (AreTakenOver words a)) × ¬ (AreSourced words)

-- what stands outside of the program: the datagrams and the dialer beside the world
pub record Around : Type 0 where
  pub world : Outside
  pub datagrams : DatagramsView
  pub dialer : DialerView

-- An operation over the network was run, with this status.
pub record RunsOver (asked : AskedOver) (d d' : DatagramsView) (old new : DialerView) (start now : Option (List ℕ))
    (before after : ℕ) (code : Status) : Type 0 where
  pub outcome : Outcome
  pub networks : Networks asked.ask asked.route asked.patience d d' old new start now before after outcome
  pub status_is : code ≡ status_of outcome

-- The words ask for an operation over the network, and it was run. No file was read and no port made.
pub record IsOver (words : List Text) (old new : Around) (number : ℕ) : Type 0 where
  pub asked : AskedOver
  pub taken : AreTakenOver words asked
  pub code : Status
  pub runs : RunsOver asked old.datagrams new.datagrams old.dialer new.dialer old.world.printed new.world.printed
      old.world.print_faults new.world.print_faults code
  pub number_is : number ≡ number_of code
  pub wire : new.world.wire ≡ old.world.wire
  pub files : new.world.files ≡ old.world.files
  pub ports : new.world.ports ≡ old.world.ports

-- They name a source. Nothing was dialed, and no datagram was bound or sent.
pub record IsWithin (words : List Text) (told : Option (ℤ × ℕ)) (old new : Around) (number : ℕ) : Type 0 where
  pub sourced : AreSourced words
  pub runs : Runs words told old.world new.world number
  pub datagrams : new.datagrams ≡ old.datagrams
  pub dialer : new.dialer ≡ old.dialer

-- They do neither, and so aren't taken: nothing was done.
pub record IsRefused (words : List Text) (old new : Around) (number : ℕ) : Type 0 where
  pub not_over : (a : AskedOver) → ¬ (AreTakenOver words a)
  pub not_sourced : ¬ (AreSourced words)
  pub number_is : number ≡ 2
  pub untouched : new ≡ old

-- Memory ran out before the words were read: nothing was done.
pub record IsUnread (old new : Around) (number : ℕ) : Type 0 where
  pub number_is : number ≡ 7
  pub untouched : new ≡ old

-- One run of the program with these words, at the moment that the clock tells, and its exit status.
abbrev pub Ran : List Text → Option (ℤ × ℕ) → Around → Around → ℕ → Type 0
Ran words told old new number =
    IsOver words old new number
    ⊎ (IsWithin words told old new number ⊎ (IsRefused words old new number ⊎ IsUnread old new number))
