-- What the words of the command line mean.
use Rattle.std.specs.Prelude.{◌≡◌, ℕ, ◌-◌, ◌^◌, Bool, true, false, ◌||◌, List, []}
use Rattle.std.specs.Prelude.{Option, None, Some, is_some, Result, Ok, Err, codes, if◌then◌else◌, ⊤, bytes_eq, option_map}
use Rattle.std.specs.Option.{option_map_or}
use Rattle.clap.specs.Words.{App, Kinds, Row, Rule, Text, fault_of, first_of, matches_of, new_app, new_rule, with_rule}
use Rattle.clap.specs.declared.builder.action.ArgAction.TheVariants.{SetTrue}
use Rattle.db_text.specs.Macros.{Macros}
use Rattle.prog_source.specs.Words.{AreMacrosOr, IsCount, IsCountOr, IsSource, Source, source_of}
use Rattle.pva_outside.specs.declared.peer.Peer.{Peer}
use Rattle.prog_network.specs.Addresses.{IsAddress}
use Rattle.prog_network.specs.Guids.{IsGuid}
use Rattle.pva_wire.specs.declared.order.Order.{Order}
use Rattle.pva_wire.specs.declared.order.Order.TheVariants.{Little, Big}
use Rattle.prog_server.specs.declared.words.Asked.{Asked as AskedRead}
use Rattle.prog_server.specs.declared.words.Task.{Task}
use Rattle.prog_server.specs.declared.words.Task.TheVariants.{Inetd, Check, Listen, Drill}
use Rattle.prog_server.specs.declared.words.WordsStop.{WordsStop}
use Rattle.prog_server.specs.declared.words.WordsStop.TheVariants.{Refused, NoMemory}

-- The command, as `clap` takes it: three flags, nine options, and one argument.

abbrev pub option_rule : Text → Rule
option_rule name = record (new_rule name) { long = Some name }

abbrev pub flag_rule : Text → Rule
flag_rule name = record (option_rule name) { action = Some SetTrue }

-- no name of a program stands before the words
abbrev pub unnamed : App → App
unnamed a = record a { top = record a.top { no_binary_name = true } }

abbrev pub bare_app : App
bare_app = unnamed (new_app (codes "pvaserve"))

abbrev pub server_app : App
server_app =
    let a = with_rule bare_app (flag_rule (codes "inetd")) in
    let b = with_rule a (flag_rule (codes "check")) in
    let c = with_rule b (option_rule (codes "listen")) in
    let d = with_rule c (option_rule (codes "drill")) in
    let e = with_rule d (option_rule (codes "macros")) in
    let f = with_rule e (flag_rule (codes "big")) in
    let g = with_rule f (option_rule (codes "journal")) in
    let h = with_rule g (option_rule (codes "turns")) in
    let i = with_rule h (option_rule (codes "udp")) in
    let j = with_rule i (option_rule (codes "beacon")) in
    let k = with_rule j (option_rule (codes "guid")) in
    let l = with_rule k (option_rule (codes "silence")) in
    with_rule l (new_rule (codes "source"))

-- what the command finds wrong with the words
unfoldable pub word_faults : List Text → Kinds
word_faults words = fault_of server_app words

-- what the words give to the command's options and to its argument
unfoldable pub word_rows : List Text → List Row
word_rows words = matches_of server_app words

-- The values of options.

-- the text that an option was given
abbrev pub given : List Row → Text → Option Text
given rows name = first_of name rows

abbrev pub is_set : List Row → Text → Bool
is_set rows name = option_map_or (λ text. bytes_eq text (codes "true")) (given rows name) false

abbrev pub order_by : Bool → Order
order_by big = if big then Big else Little

-- the task of which the flag was given, where no other was
abbrev pub task_by : Bool → Bool → Option Task
task_by true false = Some Inetd
task_by false true = Some Check
task_by _ _ = None

-- the drill of the number that the option for it says
abbrev pub IsDrill : List ℕ → Task → Type 0
IsDrill text Inetd = ⊥
IsDrill text Check = ⊥
IsDrill text (Listen at) = ⊥
IsDrill text (Drill n) = IsCount text 0 (2 ^ 64 - 1) n

-- the server of many clients at the address that the option for it says
abbrev pub IsListen : List ℕ → Task → Type 0
IsListen text Inetd = ⊥
IsListen text Check = ⊥
IsListen text (Listen at) = IsAddress text at
IsListen text (Drill n) = ⊥

-- The one task that is named: by the option for the drill, by that for a server of many clients, or by one of two flags.
abbrev pub IsTask : Option Text → Option Text → Bool → Bool → Task → Type 0
IsTask None None inetd check task = task_by inetd check ≡ Some task
IsTask (Some number) None inetd check task = ((inetd || check) ≡ false) × IsDrill number task
IsTask None (Some address) inetd check task = ((inetd || check) ≡ false) × IsListen address task
IsTask (Some number) (Some address) inetd check task = ⊥

abbrev pub IsTaskIn : List Row → Task → Type 0
IsTaskIn rows task =
    IsTask (given rows (codes "drill")) (given rows (codes "listen")) (is_set rows (codes "inetd"))
    (is_set rows (codes "check")) task

-- all tasks but the drill need a source
abbrev pub needs_source : Task → Bool
needs_source Inetd = true
needs_source Check = true
needs_source (Listen at) = true
needs_source (Drill n) = false

-- how many calls of the link one connection may take at the most, or how many accepts a server of many
abbrev pub most_turns : Task → ℕ
most_turns Inetd = 2 ^ 62
most_turns Check = 2 ^ 62
most_turns (Listen at) = 2 ^ 31 - 1
most_turns (Drill n) = 2 ^ 62

-- what an option says that may be left out
abbrev pub IsIfGiven : {A : Type 0} → (Text → A → Type 0) → Option Text → Option A → Type 0
IsIfGiven Says None None = ⊤
IsIfGiven Says None (Some value) = ⊥
IsIfGiven Says (Some text) None = ⊥
IsIfGiven Says (Some text) (Some value) = Says text value

-- what the words ask for
pub record Asked : Type 0 where
  pub task : Task
  pub source : Option Source
  pub macros : Macros
  pub order : Order
  pub journal : ℕ
  pub turns : ℕ
  pub udp : ℕ
  pub beacon : Option Peer
  pub guid : Option (List ℕ)
  pub silence : ℕ

-- the macros of those asked, as they are seen
abbrev pub asked_of : AskedRead → Asked
asked_of a = record {
  task = a.task;
  source = option_map source_of a.source;
  macros = a.macros.items;
  order = a.order;
  journal = a.journal;
  turns = a.turns;
  udp = a.udp;
  beacon = a.beacon;
  guid = a.guid;
  silence = a.silence;
}

-- the source that the argument names, if it is given
abbrev pub IsSourceOr : Option Text → Option Source → Type 0
IsSourceOr None None = ⊤
IsSourceOr None (Some source) = ⊥
IsSourceOr (Some text) None = ⊥
IsSourceOr (Some text) (Some source) = IsSource text source

-- The text names this source, and there is one where it is needed.
pub record IsSourceNeeded (given : Option Text) (needed : Bool) (source : Option Source) : Type 0 where
  pub source_is : IsSourceOr given source
  pub there : needed ≡ true → is_some source ≡ true

abbrev pub IsSourceIn : List Row → Bool → Option Source → Type 0
IsSourceIn rows needed source = IsSourceNeeded (given rows (codes "source")) needed source

abbrev pub AreMacrosIn : List Row → Macros → Type 0
AreMacrosIn rows macros = AreMacrosOr (given rows (codes "macros")) macros

-- What is given asks for this.
pub record Asks (rows : List Row) (asked : Asked) : Type 0 where
  pub task_is : IsTaskIn rows asked.task
  pub source_is : IsSourceIn rows (needs_source asked.task) asked.source
  pub macros_are : AreMacrosIn rows asked.macros
  pub order_is : asked.order ≡ order_by (is_set rows (codes "big"))
  pub journal_is : IsCountOr (given rows (codes "journal")) 0 (2 ^ 64 - 1) 268_435_456 asked.journal
  pub turns_is : IsCountOr (given rows (codes "turns")) 1 (most_turns asked.task) (most_turns asked.task) asked.turns
  pub udp_is : IsCountOr (given rows (codes "udp")) 0 65535 5076 asked.udp
  pub beacon_is : IsIfGiven IsAddress (given rows (codes "beacon")) asked.beacon
  pub guid_is : IsIfGiven IsGuid (given rows (codes "guid")) asked.guid
  pub silence_is : IsCountOr (given rows (codes "silence")) 0 (2 ^ 32 - 1) 0 asked.silence

-- The command takes the words, and they ask for this.
pub record AreTaken (words : List Text) (asked : Asked) : Type 0 where
  pub faultless : word_faults words ≡ []
  pub asks : Asks (word_rows words) asked

-- The words ask for so many seconds of silence: for 0 where they aren't taken.
pub record AskForSilence (words : List Text) (seconds : ℕ) : Type 0 where
  pub taken : (asked : Asked) → AreTaken words asked → seconds ≡ asked.silence
  pub untaken : ((asked : Asked) → ¬ (AreTaken words asked)) → seconds ≡ 0

-- what the words come to; want of memory is free
abbrev pub AreRead : List Text → Result AskedRead WordsStop → Type 0
AreRead words (Ok asked) = AreTaken words (asked_of asked)
AreRead words (Err Refused) = (asked : Asked) → ¬ (AreTaken words asked)
AreRead words (Err NoMemory) = ⊤

-- the same of what is given
abbrev pub RowsAreRead : List Row → Result AskedRead WordsStop → Type 0
RowsAreRead rows (Ok asked) = Asks rows (asked_of asked)
RowsAreRead rows (Err Refused) = (asked : Asked) → ¬ (Asks rows asked)
RowsAreRead rows (Err NoMemory) = ⊤
