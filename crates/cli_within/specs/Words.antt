-- What the words of the command line mean.
use Rattle.std.specs.Prelude.{◌≡◌, ℕ, ◌≤◌, ◌^◌, Bool, true, not, ◌&&◌, ◌==◌, nat_le, List, [], ◌∷◌, length, unwrap_or}
use Rattle.std.specs.Prelude.{Option, None, Some, Result, Ok, Err, codes, if◌then◌else◌, ⊤, bytes_eq}
use Rattle.std.specs.List.{list_all, slice_split}
use Rattle.std.specs.Option.{option_and_then}
use Rattle.clap.specs.Words.{App, Kinds, Row, Rule, Text, all_of, fault_of, first_of, matches_of, new_app, new_rule, with_rule}
use Rattle.clap.specs.declared.builder.action.ArgAction.TheVariants.{Append}
use Rattle.db_text.specs.Macros.{Macros}
use Rattle.cli_session.specs.Structures.{truth}
use Rattle.cli_session.specs.declared.ask.Ask.{Ask}
use Rattle.cli_session.specs.declared.ask.Operation.{Operation}
use Rattle.cli_session.specs.declared.ask.Operation.TheVariants as operation
use Rattle.prog_source.specs.Words.{Source, IsSource, IsCount, IsCountOr, AreMacrosOr, source_of}
use Rattle.cli_within.specs.declared.words.Asked.{Asked as AskedRead}
use Rattle.cli_within.specs.declared.verb.Numbers.{Numbers}
use Rattle.cli_within.specs.declared.verb.Verb.{Verb}
use Rattle.cli_within.specs.declared.verb.Verb.TheVariants as verbs
use Rattle.cli_within.specs.declared.words.WordsStop.{WordsStop}
use Rattle.cli_within.specs.declared.words.WordsStop.TheVariants.{Refused, NoMemory}

-- The command, as `clap` takes it: its options, and three arguments, of which the last may come more than once.

abbrev pub option_rule : Text → Rule
option_rule name = record (new_rule name) { long = Some name }

abbrev pub values_rule : Rule
values_rule = record (new_rule (codes "value")) { action = Some Append }

-- no name of a program stands before the words
abbrev pub unnamed : App → App
unnamed a = record a { top = record a.top { no_binary_name = true } }

abbrev pub bare_app : App
bare_app = unnamed (new_app (codes "pvac"))

-- with the options of an operation
abbrev pub operation_app : App
operation_app =
    let a = with_rule bare_app (option_rule (codes "count")) in
    let b = with_rule a (option_rule (codes "queue")) in
    let c = with_rule b (option_rule (codes "pipeline")) in
    let d = with_rule c (option_rule (codes "fields")) in
    let e = with_rule d (option_rule (codes "atomic")) in
    let f = with_rule e (option_rule (codes "user")) in
    with_rule f (option_rule (codes "host"))

-- with the options of a run too
abbrev pub options_app : App
options_app =
    let a = with_rule operation_app (option_rule (codes "within")) in
    let b = with_rule a (option_rule (codes "macros")) in
    let c = with_rule b (option_rule (codes "idle")) in
    let d = with_rule c (option_rule (codes "piece")) in
    with_rule d (option_rule (codes "turns"))

-- with those for the network too
abbrev pub network_app : App
network_app =
    let a = with_rule options_app (option_rule (codes "server")) in
    let b = with_rule a (option_rule (codes "search")) in
    with_rule b (option_rule (codes "rounds"))

abbrev pub client_app : App
client_app =
    let a = with_rule network_app (new_rule (codes "op")) in
    let b = with_rule a (new_rule (codes "name")) in
    with_rule b values_rule

-- what the command finds wrong with the words
unfoldable pub word_faults : List Text → Kinds
word_faults words = fault_of client_app words

-- what the words give to the command's options and to its arguments
unfoldable pub word_rows : List Text → List Row
word_rows words = matches_of client_app words

-- the text that an option or an argument was given
abbrev pub given : List Row → Text → Option Text
given rows name = first_of name rows

-- the values of the last argument
abbrev pub values_in : List Row → List Text
values_in rows = unwrap_or (all_of (codes "value") rows) []

-- Operations.

-- the operation of this name
abbrev pub verb_named : List ℕ → Option Verb
verb_named name =
    if bytes_eq name (codes "get") then Some verbs.Get
    else if bytes_eq name (codes "put") then Some verbs.Put
    else if bytes_eq name (codes "putget") then Some verbs.PutGet
    else if bytes_eq name (codes "monitor") then Some verbs.Monitor
    else if bytes_eq name (codes "info") then Some verbs.Info
    else if bytes_eq name (codes "call") then Some verbs.Call
    else None

-- whether an operation takes so many values
abbrev pub takes : Verb → ℕ → Bool
takes verbs.Get count = count == 0
takes verbs.Put count = not (count == 0)
takes verbs.PutGet count = not (count == 0)
takes verbs.Monitor count = count == 0
takes verbs.Info count = count == 0
takes verbs.Call count = count == 1

-- the greatest number that an option takes, but for the turns
abbrev pub most : ℕ
most = 2147483647

-- a number that an option was given, or none
abbrev pub IsCountIf : Option Text → Option ℕ → Type 0
IsCountIf None None = ⊤
IsCountIf (Some text) (Some count) = IsCount text 1 most count
IsCountIf _ _ = ⊥

-- The numbers of a monitor: how many updates are awaited, and how many the server may keep, or send unacknowledged.
pub record AreNumbers (rows : List Row) (n : Numbers) : Type 0 where
  pub count_is : IsCountOr (given rows (codes "count")) 1 most 1 n.count
  pub queue_is : IsCountOr (given rows (codes "queue")) 1 most 4 n.queue
  pub window_is : IsCountIf (given rows (codes "pipeline")) n.window

-- What an operation is with these values and these numbers.
abbrev pub IsOperation : Verb → List Text → Numbers → Operation → Type 0
IsOperation verbs.Get values n operation.Get = ⊤
IsOperation verbs.Put values n (operation.Put words) = words.items ≡ values
IsOperation verbs.PutGet values n (operation.PutGet words) = words.items ≡ values
IsOperation verbs.Monitor values n (operation.Monitor queue window count) =
    (queue ≡ n.queue) × (window ≡ n.window) × (count ≡ n.count)
IsOperation verbs.Info values n operation.Info = ⊤
IsOperation verbs.Call values n (operation.Call name) = values ≡ name ∷ []
IsOperation _ _ _ _ = ⊥

-- The fields that are asked for: paths with commas between them, at most 64. A path has at most 30 names with dots
-- between them, none of them empty.

abbrev pub is_some_part : List ℕ → Bool
is_some_part part = not (length part == 0)

abbrev pub is_path : List ℕ → Bool
is_path path =
    nat_le (length (slice_split (λ c. c == 46) path)) 30 && list_all is_some_part (slice_split (λ c. c == 46) path)

pub record AreFields (text : List ℕ) (paths : List (List ℕ)) : Type 0 where
  pub paths_are : paths ≡ slice_split (λ c. c == 44) text
  pub few : length paths ≤ 64
  pub each : list_all is_path paths ≡ true

abbrev pub AreFieldsOr : Option Text → List (List ℕ) → Type 0
AreFieldsOr None paths = paths ≡ []
AreFieldsOr (Some text) paths = AreFields text paths

abbrev pub IsAtomic : Option Text → Option Bool → Type 0
IsAtomic None None = ⊤
IsAtomic (Some text) (Some atomic) = text ≡ truth atomic
IsAtomic _ _ = ⊥

-- a user and a host, or neither
abbrev pub IsUser : Option Text → Option Text → Option (List ℕ × List ℕ) → Type 0
IsUser None None None = ⊤
IsUser (Some user) (Some host) (Some told) = (told.0 ≡ user) × (told.1 ≡ host)
IsUser _ _ _ = ⊥

-- The name of a channel.
pub record IsName (given : Option Text) (name : List ℕ) : Type 0 where
  pub given_is : given ≡ Some name
  pub some : 1 ≤ length name
  pub few : length name ≤ 200

-- What is given asks the client for this operation.
pub record AsksFor (rows : List Row) (ask : Ask) : Type 0 where
  pub verb : Verb
  pub verb_is : option_and_then verb_named (given rows (codes "op")) ≡ Some verb
  pub taken : takes verb (length (values_in rows)) ≡ true
  pub name_is : IsName (given rows (codes "name")) ask.name
  pub numbers : Numbers
  pub numbers_are : AreNumbers rows numbers
  pub operation_is : IsOperation verb (values_in rows) numbers ask.operation
  pub fields_are : AreFieldsOr (given rows (codes "fields")) ask.fields.items
  pub atomic_is : IsAtomic (given rows (codes "atomic")) ask.atomic
  pub user_is : IsUser (given rows (codes "user")) (given rows (codes "host")) ask.user

-- The option `--within` names this source.
pub record IsSourceIn (rows : List Row) (source : Source) : Type 0 where
  pub text : List ℕ
  pub text_is : given rows (codes "within") ≡ Some text
  pub source_is : IsSource text source

-- What the words ask for: an operation against a server of this source; how many rounds without a byte end it, how many
-- bytes each end gives in a round at most, and how many rounds there may be.
pub record Asked : Type 0 where
  pub ask : Ask
  pub source : Source
  pub macros : Macros
  pub idle : ℕ
  pub piece : ℕ
  pub turns : ℕ

abbrev pub asked_of : AskedRead → Asked
asked_of a = record {
  ask = a.ask;
  source = source_of a.source;
  macros = a.macros.items;
  idle = a.idle;
  piece = a.piece;
  turns = a.turns;
}

-- What is given asks for this.
pub record Asks (rows : List Row) (asked : Asked) : Type 0 where
  pub ask_is : AsksFor rows asked.ask
  pub source_is : IsSourceIn rows asked.source
  pub macros_are : AreMacrosOr (given rows (codes "macros")) asked.macros
  pub idle_is : IsCountOr (given rows (codes "idle")) 1 most 200 asked.idle
  pub piece_is : IsCountOr (given rows (codes "piece")) 1 most 4096 asked.piece
  pub turns_is : IsCountOr (given rows (codes "turns")) 1 4611686018427387904 4611686018427387904 asked.turns

-- The command takes the words, and they ask for this.
pub record AreTaken (words : List Text) (asked : Asked) : Type 0 where
  pub faultless : word_faults words ≡ []
  pub asks : Asks (word_rows words) asked

-- what the words come to; want of memory is free
abbrev pub AreRead : List Text → Result AskedRead WordsStop → Type 0
AreRead words (Ok asked) = AreTaken words (asked_of asked)
AreRead words (Err Refused) = (asked : Asked) → ¬ (AreTaken words asked)
AreRead words (Err NoMemory) = ⊤

-- the same of what is given, and of the operation alone

abbrev pub RowsAreRead : List Row → Result AskedRead WordsStop → Type 0
RowsAreRead rows (Ok asked) = Asks rows (asked_of asked)
RowsAreRead rows (Err Refused) = (asked : Asked) → ¬ (Asks rows asked)
RowsAreRead rows (Err NoMemory) = ⊤

abbrev pub AskIsRead : List Row → Result Ask WordsStop → Type 0
AskIsRead rows (Ok ask) = AsksFor rows ask
AskIsRead rows (Err Refused) = (ask : Ask) → ¬ (AsksFor rows ask)
AskIsRead rows (Err NoMemory) = ⊤
