-- What the words that are taken give to a run, and what the run comes to.
use Rattle.std.proofs.Common.{◌≡◌, ℕ, ℤ, ◌<◌, List, Option, None, Some, Ok, Err, inl, inr, refl, arith, subst}
use Rattle.clap.specs.Words.{Text}
use Rattle.db_text.specs.Macros.{Macros}
use Rattle.prog_source.specs.Opening.{Opens}
use Rattle.prog_source.specs.Words.{Source, single, file, IsNamed, IsSource, IsCountOr}
use Rattle.prog_source.specs.declared.loading.SourceStop.{SourceStop}
use Rattle.desk_api.specs.declared.history.SiteData.{SiteData}
use Rattle.cli_within.specs.Running.{HasDone, Outside, Runs, RunsTo, SiteRuns, limits_of, number_of, status_of_source, status_of_words}
use Rattle.cli_within.specs.Words.{Asked, AreRead, AreTaken, most}
use Rattle.cli_within.specs.declared.stop.Status.{Status}
use Rattle.cli_within.specs.declared.words.WordsStop.{WordsStop}
use Rattle.cli_within.specs.declared.words.WordsStop.TheVariants as words_stops

-- a source that was named may be named
is_named : (text : List ℕ) (source : Source) → IsSource text source → IsNamed source
is_named text (single name value) is = is.name_is
is_named text (file name) is = tt

pub named_by : (words : List Text) (asked : Asked) → AreTaken words asked → IsNamed asked.source
named_by words asked taken = is_named taken.asks.source_is.text asked.source taken.asks.source_is.source_is

-- each end gives a byte at least
some_piece : (given : Option Text) (piece : ℕ) → IsCountOr given 1 most 4096 piece → 0 < piece
some_piece None piece is = omega (arith, is)
some_piece (Some text) piece is = let least = is.least_is in omega (arith, least)

pub piece_by : (words : List Text) (asked : Asked) → AreTaken words asked → 0 < asked.piece
piece_by words asked taken = some_piece _ asked.piece taken.asks.piece_is

-- What was asked for was done: over a site, or without one.

pub done_on : (macros : Macros) (asked : Asked) (told : Option (ℤ × ℕ)) (old new : Outside) (code : Status) (site : SiteData)
    → macros ≡ asked.macros → Opens macros asked.source old.files new.files (Ok site) → new.wire ≡ old.wire
    → SiteRuns asked.ask (limits_of asked) site told old.ports new.ports old.printed new.printed old.print_faults new.print_faults code → HasDone asked told old new code
done_on macros asked told old new code site same opens wire runs = record {
  found = Ok site;
  opens = subst (λ (m : Macros). Opens m asked.source old.files new.files (Ok site)) same opens;
  wire = wire;
  does = runs;
}

pub done_without : (macros : Macros) (asked : Asked) (told : Option (ℤ × ℕ)) (old new : Outside) (code : Status) (stop : SourceStop)
    → macros ≡ asked.macros → Opens macros asked.source old.files new.files (Err stop) → new.wire ≡ old.wire → new.ports ≡ old.ports → new.printed ≡ old.printed
    → new.print_faults ≡ old.print_faults → code ≡ status_of_source stop → HasDone asked told old new code
done_without macros asked told old new code stop same opens wire ports printed faults is = record {
  found = Err stop;
  opens = subst (λ (m : Macros). Opens m asked.source old.files new.files (Err stop)) same opens;
  wire = wire;
  does = record { ports = ports; silent = record { printed = printed; print_faults = faults }; status_is = is };
}

-- By the words.

pub runs_taken : (words : List Text) (told : Option (ℤ × ℕ)) (old new : Outside) (code : Status) (asked : Asked) → AreTaken words asked → HasDone asked told old new code → RunsTo words told old new code
runs_taken words told old new code asked taken done = inl (record { asked = asked; taken = taken; done = done })

pub runs_unasked : (words : List Text) (told : Option (ℤ × ℕ)) (old : Outside) (stop : WordsStop) (code : Status) → AreRead words (Err stop) → code ≡ status_of_words stop → RunsTo words told old old code
runs_unasked words told old words_stops.Refused code untaken is = inr (inl (record { untaken = untaken; status_is = is; untouched = refl }))
runs_unasked words told old words_stops.NoMemory code unread is = inr (inr (record { status_is = is; untouched = refl }))

pub runs_to : (words : List Text) (told : Option (ℤ × ℕ)) (old new : Outside) (code : Status) (number : ℕ) → RunsTo words told old new code → number ≡ number_of code → Runs words told old new number
runs_to words told old new code number runs is = record { code = code; number_is = is; runs = runs }
