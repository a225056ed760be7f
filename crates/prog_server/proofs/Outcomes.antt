-- What a run comes to, by its task.
use Rattle.std.proofs.Common.{◌≡◌, ℕ, ℤ, List, Option, None, Some, Result, Ok, Err, inl, inr, refl, sym, ◌∙◌, ap, subst, arith, codes, true, is_some}
use Rattle.std.proofs.lemmas.Bool.{false≢true}
use Rattle.pva_outside.specs.Count.{Rose}
use Rattle.desk_api.specs.declared.history.SiteData.{SiteData}
use Rattle.prog_drill.specs.Drilling.{TellsDrill}
use Rattle.pva_outside.specs.declared.peer.Peer.{Peer}
use Rattle.prog_server.specs.Running.{Checking, Does, Drilling, IsLeft, Outside, Runs, Tells, status_by}
use Rattle.prog_server.specs.Sources.{IsChecked, IsServedFrom}
use Rattle.prog_source.specs.Printing.{IsPrinted}
use Rattle.clap.specs.Words.{Text}
use Rattle.prog_server.specs.Words.{Asked, AreTaken, IsSourceOr, given, needs_source, word_rows}
use Rattle.prog_source.specs.Words.{IsNamed, Source}
use Rattle.prog_source.specs.declared.loading.SourceStop.{SourceStop}
use Rattle.prog_source.specs.declared.loading.SourceStop.TheVariants as stops
use Rattle.prog_source.specs.declared.printing.Printed.{Printed}
use Rattle.prog_source.specs.declared.printing.Printed.TheVariants as printing
use Rattle.prog_source.proofs.Sources.{may_have_name}
use Rattle.prog_server.specs.declared.words.Task.{Task}
use Rattle.prog_server.specs.declared.words.Task.TheVariants.{Inetd, Check, Listen, Drill}

-- a line that was told with status 6 met a fault of the sink
printed_rose : (line : List ℕ) (whole : ℕ) (old new : Option (List ℕ)) (faults faults' : ℕ) (printed : Printed) → (whole ≡ 6 → ⊥) → IsPrinted old new faults faults' line printed → status_by whole printed ≡ 6 → Rose faults faults'
printed_rose line whole old new faults faults' printing.Whole other is six = absurd (other six)
printed_rose line whole old new faults faults' printing.Failed other is six = is.1
printed_rose line whole old new faults faults' printing.NoMemory other is six = absurd (omega (arith, six))

tells_rose : (line : List ℕ) (whole : ℕ) (old new : Option (List ℕ)) (faults faults' status : ℕ) → (whole ≡ 6 → ⊥) → Tells line whole old new faults faults' status → status ≡ 6 → Rose faults faults'
tells_rose line whole old new faults faults' status other (inl told) six = printed_rose line whole old new faults faults' told.printed other told.prints (sym told.status_is ∙ six)
tells_rose line whole old new faults faults' status other (inr silent) six = absurd (omega (arith, silent.status_is, six))

pub checking_rose : (found : Result SiteData SourceStop) (old new : Option (List ℕ)) (faults faults' status : ℕ) → Checking found old new faults faults' status → status ≡ 6 → Rose faults faults'
checking_rose (Ok site) old new faults faults' status is six = tells_rose _ 0 old new faults faults' status (λ e. absurd (omega (arith, e))) is six
checking_rose (Err stops.Unread) old new faults faults' status is six = absurd (omega (arith, is.status_is, six))
checking_rose (Err (stops.Fault fault)) old new faults faults' status is six = tells_rose _ 4 old new faults faults' status (λ e. absurd (omega (arith, e))) is six
checking_rose (Err stops.NoMemory) old new faults faults' status is six = absurd (omega (arith, is.status_is, six))

-- the source that words name may have its name
may_be_named : (text : Option Text) (source : Source) → IsSourceOr text (Some source) → IsNamed source
may_be_named None source is = absurd is
may_be_named (Some text) source is = may_have_name text source is

pub named_by : (words : List Text) (asked : Asked) (source : Source) → AreTaken words asked → asked.source ≡ Some source → IsNamed source
named_by words asked source taken same =
    may_be_named _ source (subst (λ (o : Option Source). IsSourceOr (given (word_rows words) (codes "source")) o) same taken.asks.source_is.source_is)

-- words that were taken name a source by its name
pub named_asked : (asked : Asked) (source : Source) → (words : List Text) × AreTaken words asked → asked.source ≡ Some source → IsNamed source
named_asked asked source taken same = named_by taken.0 asked source taken.1 same

pub runs_check : (asked : Asked) (source : Source) (told : Option (ℤ × ℕ)) (old new : Outside) (status : ℕ) → asked.task ≡ Check → asked.source ≡ Some source
    → IsChecked asked.macros source old.files new.files old.printed new.printed old.print_faults new.print_faults status → new.ports ≡ old.ports → new.wire ≡ old.wire
    → (words : List Text) → AreTaken words asked → Runs words told old new status
runs_check asked source told old new status task same checked ports wire words taken = inl (record {
  asked = asked;
  taken = taken;
  source = source;
  source_is = same;
  found = checked.found;
  opens = checked.opens;
  does = subst (λ (t : Task). Does t asked checked.found told old new status) (sym task) (checked.checking, record { ports_are = ports; wire = wire; status_is = refl });
})

pub runs_inetd : (asked : Asked) (source : Source) (told : Option (ℤ × ℕ)) (old new : Outside) (status : ℕ) → asked.task ≡ Inetd → asked.source ≡ Some source
    → IsServedFrom asked source old.files new.files told old.ports new.ports old.wire new.wire status → new.printed ≡ old.printed → new.print_faults ≡ old.print_faults
    → (words : List Text) → AreTaken words asked → Runs words told old new status
runs_inetd asked source told old new status task same served printed faults words taken = inl (record {
  asked = asked;
  taken = taken;
  source = source;
  source_is = same;
  found = served.found;
  opens = served.opens;
  does = subst (λ (t : Task). Does t asked served.found told old new status) (sym task) (served.serving, record { printed = printed; print_faults = faults; status_is = refl });
})

pub runs_drill : (asked : Asked) (n : ℕ) (told : Option (ℤ × ℕ)) (old new : Outside) (status : ℕ) → asked.task ≡ Drill n
    → Drilling n old.printed new.printed old.print_faults new.print_faults status → new.files ≡ old.files → new.ports ≡ old.ports → new.wire ≡ old.wire
    → (words : List Text) → AreTaken words asked → Runs words told old new status
runs_drill asked n told old new status task drills files ports wire words taken = inr (inl (record {
  asked = asked;
  taken = taken;
  number = n;
  task_is = task;
  drills = drills;
  files = files;
  unasked = record { ports_are = ports; wire = wire; status_is = refl };
}))

-- What is printed of a drill.
pub drilled : (n : ℕ) (lines bytes : List ℕ) (old new : Option (List ℕ)) (faults faults' status : ℕ) (printed : Printed) → TellsDrill n lines → bytes ≡ lines → IsPrinted old new faults faults' bytes printed
    → status ≡ status_by 0 printed → Drilling n old new faults faults' status
drilled n lines bytes old new faults faults' status printed tells same prints is =
    inl (
      tells.run,
      record {
        printed = printed;
        prints = subst (λ (l : List ℕ). IsPrinted old new faults faults' l printed) (same ∙ tells.lines_are) prints;
        status_is = is;
      },
    )

pub drilling_rose : (n : ℕ) (old new : Option (List ℕ)) (faults faults' status : ℕ) → Drilling n old new faults faults' status → status ≡ 6 → Rose faults faults'
drilling_rose n old new faults faults' status (inl (run, told)) six = tells_rose _ 0 old new faults faults' status (λ e. absurd (omega (arith, e))) (inl told) six
drilling_rose n old new faults faults' status (inr silent) six = absurd (omega (arith, silent.status_is, six))

-- a source is there where it is needed

pub sourceless : (words : List Text) (asked : Asked) (task : Task) → AreTaken words asked → asked.source ≡ None → asked.task ≡ task → needs_source task ≡ true → ⊥
sourceless words asked task taken none same needed =
    false≢true (sym (ap is_some none) ∙ taken.asks.source_is.there (ap needs_source same ∙ needed))

pub no_source_to_check : (asked : Asked) (told : Option (ℤ × ℕ)) (old new : Outside) (status : ℕ) → asked.source ≡ None → asked.task ≡ Check
    → (words : List Text) → AreTaken words asked → Runs words told old new status
no_source_to_check asked told old new status none task words taken = absurd (sourceless words asked Check taken none task refl)

pub no_source_to_serve : (asked : Asked) (told : Option (ℤ × ℕ)) (old new : Outside) (status : ℕ) → asked.source ≡ None → asked.task ≡ Inetd
    → (words : List Text) → AreTaken words asked → Runs words told old new status
no_source_to_serve asked told old new status none task words taken = absurd (sourceless words asked Inetd taken none task refl)

-- a server of many clients is left to be run
pub is_left : (asked : Asked) (at : Peer) (old : Outside) → asked.task ≡ Listen at → (words : List Text) → AreTaken words asked → IsLeft words old old
is_left asked at old task words taken = record { asks = record { asked = asked; taken = taken; at = at; task_is = task }; untouched = refl }
