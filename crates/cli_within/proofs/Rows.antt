-- What options and arguments ask for.
use Rattle.std.proofs.Common.{◌≡◌, ◌≢◌, ℕ, ◌<◌, Bool, true, false, Bor, List, [], length, map, Option, None, Some, Result, Ok, Err, refl, sym, ◌∙◌, ap, subst, arith, codes}
use Rattle.std.specs.Prelude.{option_map, unwrap_or}
use Rattle.std.specs.Option.{option_and_then}
use Rattle.std.specs.Str.{bytes_eq}
use Rattle.std.proofs.lemmas.Bool.{both_ways}
use Rattle.std.proofs.lemmas.Slice.Eq.{bytes_eq-Decides}
use Rattle.std.proofs.lemmas.List.{length-map}
use Rattle.clap.specs.Words.{HasKind, Row, Text, kind_of, matched_of, raw_values, rows_of}
use Rattle.clap.specs.declared.parser.matches.Found.{Found}
use Rattle.clap.proofs.WalkLemmas.{raw_values-rows}
use Rattle.clap.specs.declared.error.Error.{Error}
use Rattle.clap.specs.declared.error.kind.ErrorKind.TheVariants.{OutOfMemory}
use Rattle.db_text.specs.Macros.{Macros}
use Rattle.cli_session.specs.Structures.{truth}
use Rattle.cli_session.specs.declared.ask.Ask.{Ask}
use Rattle.cli_session.specs.declared.ask.Operation.{Operation}
use Rattle.prog_source.specs.Words.{IsCount, IsCountOr, AreMacrosOr, Source}
use Rattle.cli_within.specs.Asking.{AsksTo, OperationIsRead}
use Rattle.cli_within.specs.Words.{Asked, Asks, AsksFor, AskIsRead, AreRead, AreNumbers, AreFieldsOr, IsAtomic, IsCountIf, IsName, IsOperation, IsUser, IsSourceIn, RowsAreRead, asked_of, given, most, takes, values_in, verb_named, word_faults, word_rows}
use Rattle.cli_within.specs.declared.verb.Numbers.{Numbers}
use Rattle.cli_within.specs.declared.verb.Verb.{Verb}
use Rattle.cli_within.specs.declared.words.Asked.{Asked as AskedRead}
use Rattle.cli_within.specs.declared.words.WordsStop.{WordsStop}
use Rattle.cli_within.specs.declared.words.WordsStop.TheVariants.{Refused, NoMemory}
use Rattle.cli_within.proofs.Command.{refused_faulty}

-- The values of the last argument.

pub some_values : (f : Found) (values : List (Bor Text)) → Some (map (λ (v : Bor Text). v.now) values) ≡ option_map raw_values (matched_of f (codes "value"))
    → map (λ (v : Bor Text). v.now) values ≡ values_in (rows_of f)
some_values f values is = ap (λ (o : Option (List Text)). unwrap_or o []) (is ∙ raw_values-rows f (codes "value"))

pub no_value : (f : Found) → None ≡ option_map raw_values (matched_of f (codes "value")) → [] ≡ values_in (rows_of f)
no_value f is = ap (λ (o : Option (List Text)). unwrap_or o []) (is ∙ raw_values-rows f (codes "value"))

-- Why what is given asks the client to do nothing.

pub no_verb : (rows : List Row) → None ≡ option_and_then verb_named (given rows (codes "op")) → (operation : Operation) → ¬ (AsksTo rows operation)
no_verb rows none operation is = let bad : None ≡ Some is.verb = none ∙ is.verb_is in cc

pub no_values : (rows : List Row) (verb : Verb) (values : List (Bor Text)) (b : Bool) → Some verb ≡ option_and_then verb_named (given rows (codes "op"))
    → map (λ (v : Bor Text). v.now) values ≡ values_in rows → b ≡ takes verb (length values) → b ≡ false → (operation : Operation) → ¬ (AsksTo rows operation)
no_values rows verb values b there are tells not operation is =
    let same : verb ≡ is.verb = ap (λ (o : Option Verb). unwrap_or o verb) (there ∙ is.verb_is) in
    let long : length values ≡ length (values_in rows) = sym (length-map values (λ (v : Bor Text). v.now)) ∙ ap length are in
    both_ways b not (tells ∙ (λ i. takes (same i) (long i)) ∙ is.taken)

pub no_numbers : (rows : List Row) → ((n : Numbers) → ¬ (AreNumbers rows n)) → (operation : Operation) → ¬ (AsksTo rows operation)
no_numbers rows none operation is = none is.numbers is.numbers_are

pub asks_to : (rows : List Row) (verb : Verb) (values : List (Bor Text)) (numbers : Numbers) (operation : Operation) → Some verb ≡ option_and_then verb_named (given rows (codes "op"))
    → map (λ (v : Bor Text). v.now) values ≡ values_in rows → takes verb (length values) ≡ true → AreNumbers rows numbers
    → IsOperation verb (map (λ (v : Bor Text). v.now) values) numbers operation → AsksTo rows operation
asks_to rows verb values numbers operation there are taken numbers_are is = record {
  verb = verb;
  verb_is = sym there;
  taken = ap (takes verb) (ap length (sym are) ∙ length-map values (λ (v : Bor Text). v.now)) ∙ taken;
  numbers = numbers;
  numbers_are = numbers_are;
  operation_is = subst (λ (l : List Text). IsOperation verb l numbers operation) are is;
}

-- Why it asks for no operation on a channel.

pub no_name : (rows : List Row) → ((name : List ℕ) → ¬ (IsName (given rows (codes "name")) name)) → (ask : Ask) → ¬ (AsksFor rows ask)
no_name rows none ask is = none ask.name is.name_is

pub no_atomic : (rows : List Row) → ((a : Option Bool) → ¬ (IsAtomic (given rows (codes "atomic")) a)) → (ask : Ask) → ¬ (AsksFor rows ask)
no_atomic rows none ask is = none ask.atomic is.atomic_is

pub no_fields : (rows : List Row) → ((paths : List (List ℕ)) → ¬ (AreFieldsOr (given rows (codes "fields")) paths)) → (ask : Ask) → ¬ (AsksFor rows ask)
no_fields rows none ask is = none ask.fields.items is.fields_are

pub no_user : (rows : List Row) → ((u : Option (List ℕ × List ℕ)) → ¬ (IsUser (given rows (codes "user")) (given rows (codes "host")) u)) → (ask : Ask) → ¬ (AsksFor rows ask)
no_user rows none ask is = none ask.user is.user_is

pub no_operation : (rows : List Row) (stop : WordsStop) → OperationIsRead rows (Err stop) → AskIsRead rows (Err stop)
no_operation rows Refused none = λ ask is. none ask.operation (record {
  verb = is.verb;
  verb_is = is.verb_is;
  taken = is.taken;
  numbers = is.numbers;
  numbers_are = is.numbers_are;
  operation_is = is.operation_is;
})
no_operation rows NoMemory u = tt

pub asks_for : (rows : List Row) (ask : Ask) → AsksTo rows ask.operation → IsName (given rows (codes "name")) ask.name → AreFieldsOr (given rows (codes "fields")) ask.fields.items
    → IsAtomic (given rows (codes "atomic")) ask.atomic → IsUser (given rows (codes "user")) (given rows (codes "host")) ask.user → AsksFor rows ask
asks_for rows ask is name fields atomic user = record {
  verb = is.verb;
  verb_is = is.verb_is;
  taken = is.taken;
  name_is = name;
  numbers = is.numbers;
  numbers_are = is.numbers_are;
  operation_is = is.operation_is;
  fields_are = fields;
  atomic_is = atomic;
  user_is = user;
}

-- Why a name, a window, a number, a truth or a user is none.

pub unnamed : (given : Option Text) → None ≡ given → (name : List ℕ) → ¬ (IsName given name)
unnamed given none name is = let bad : None ≡ Some name = none ∙ is.given_is in cc

same_name : (given : Option Text) (text name : List ℕ) → Some text ≡ given → IsName given name → name ≡ text
same_name given text name there is = ap (λ (o : Option Text). unwrap_or o []) (sym is.given_is ∙ sym there)

pub empty_name : (given : Option Text) (text : List ℕ) → Some text ≡ given → length text ≡ 0 → (name : List ℕ) → ¬ (IsName given name)
empty_name given text there none name is = let some = is.some in omega (arith, some, none, ap length (same_name given text name there is))

pub long_name : (given : Option Text) (text : List ℕ) → Some text ≡ given → 200 < length text → (name : List ℕ) → ¬ (IsName given name)
long_name given text there long name is = let few = is.few in omega (arith, few, long, ap length (same_name given text name there is))

pub no_window : (text : List ℕ) → ((n : ℕ) → ¬ (IsCount text 1 most n)) → (w : Option ℕ) → ¬ (IsCountIf (Some text) w)
no_window text none None is = is
no_window text none (Some n) is = none n is

pub no_count : (rows : List Row) → ((n : ℕ) → ¬ (IsCountOr (given rows (codes "count")) 1 most 1 n)) → (n : Numbers) → ¬ (AreNumbers rows n)
no_count rows none n is = none n.count is.count_is

pub no_queue : (rows : List Row) → ((n : ℕ) → ¬ (IsCountOr (given rows (codes "queue")) 1 most 4 n)) → (n : Numbers) → ¬ (AreNumbers rows n)
no_queue rows none n is = none n.queue is.queue_is

pub no_window_in : (rows : List Row) → ((w : Option ℕ) → ¬ (IsCountIf (given rows (codes "pipeline")) w)) → (n : Numbers) → ¬ (AreNumbers rows n)
no_window_in rows none n is = none n.window is.window_is

pub is_atomic : (text : List ℕ) (atomic : Bool) → bytes_eq text (truth atomic) ≡ true → IsAtomic (Some text) (Some atomic)
is_atomic text atomic same = (bytes_eq-Decides text (truth atomic)).0 same

pub not_atomic : (text : List ℕ) → bytes_eq text (codes "true") ≡ false → bytes_eq text (codes "false") ≡ false → (a : Option Bool) → ¬ (IsAtomic (Some text) a)
not_atomic text untrue unfalse None is = is
not_atomic text untrue unfalse (Some true) is = both_ways (bytes_eq text (codes "true")) untrue ((bytes_eq-Decides text (codes "true")).1 is)
not_atomic text untrue unfalse (Some false) is = both_ways (bytes_eq text (codes "false")) unfalse ((bytes_eq-Decides text (codes "false")).1 is)

pub no_user_by : (host : List ℕ) (u : Option (List ℕ × List ℕ)) → ¬ (IsUser None (Some host) u)
no_user_by host None is = is
no_user_by host (Some told) is = is

pub no_host_by : (user : List ℕ) (u : Option (List ℕ × List ℕ)) → ¬ (IsUser (Some user) None u)
no_host_by user None is = is
no_host_by user (Some told) is = is

-- Why it asks for no run.

pub no_source : (rows : List Row) → ((s : Source) → ¬ (IsSourceIn rows s)) → (asked : Asked) → ¬ (Asks rows asked)
no_source rows none asked is = none asked.source is.source_is

pub no_macros : (rows : List Row) → ((m : Macros) → ¬ (AreMacrosOr (given rows (codes "macros")) m)) → (asked : Asked) → ¬ (Asks rows asked)
no_macros rows none asked is = none asked.macros is.macros_are

pub no_idle : (rows : List Row) → ((n : ℕ) → ¬ (IsCountOr (given rows (codes "idle")) 1 2147483647 200 n)) → (asked : Asked) → ¬ (Asks rows asked)
no_idle rows none asked is = none asked.idle is.idle_is

pub no_piece : (rows : List Row) → ((n : ℕ) → ¬ (IsCountOr (given rows (codes "piece")) 1 2147483647 4096 n)) → (asked : Asked) → ¬ (Asks rows asked)
no_piece rows none asked is = none asked.piece is.piece_is

pub no_turns : (rows : List Row) → ((n : ℕ) → ¬ (IsCountOr (given rows (codes "turns")) 1 4611686018427387904 4611686018427387904 n)) → (asked : Asked) → ¬ (Asks rows asked)
no_turns rows none asked is = none asked.turns is.turns_is

pub no_ask : (rows : List Row) (stop : WordsStop) → AskIsRead rows (Err stop) → RowsAreRead rows (Err stop)
no_ask rows Refused none = λ asked is. none asked.ask is.ask_is
no_ask rows NoMemory u = tt

-- what the words come to, by what they give
pub rows_read : (words : List Text) (rows : List Row) (r : Result AskedRead WordsStop) → word_faults words ≡ [] → rows ≡ word_rows words → RowsAreRead rows r → AreRead words r
rows_read words rows (Ok asked) none same is = record { faultless = none; asks = subst (λ (l : List Row). Asks l (asked_of asked)) same is }
rows_read words rows (Err Refused) none same not = λ asked is. not asked (subst (λ (l : List Row). Asks l asked) (sym same) is.asks)
rows_read words rows (Err NoMemory) none same u = tt

-- words that the command refuses
pub stopped : (words : List Text) (e : Error) (stop : WordsStop) → HasKind (word_faults words) e → (stop ≡ Refused → kind_of e ≢ OutOfMemory) → AreRead words (Err stop)
stopped words e Refused kind not_memory = λ asked is. refused_faulty words e kind (not_memory refl) is.faultless
stopped words e NoMemory kind not_memory = tt
