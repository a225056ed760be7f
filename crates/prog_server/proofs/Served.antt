-- A server of many clients that the words ask for.
use Rattle.std.proofs.Common.{◌≡◌, ◌⊎◌, inl, inr, ℕ, ℤ, ◌≤◌, ◌-◌, ◌^◌, List, Option, None, Some, Bool, Result, refl, sym, ◌∙◌, ap, subst, arith, codes, true, false}
use Rattle.std.proofs.lemmas.Bool.{false≢true}
use Rattle.clap.specs.Words.{Text}
use Rattle.pva_outside.specs.Count.{Rose}
use Rattle.pva_outside.specs.Doors.{Door}
use Rattle.pva_outside.specs.Files.{FilesView}
use Rattle.pva_outside.specs.Makers.{MakerView}
use Rattle.pva_outside.specs.Traffic.{DatagramsView}
use Rattle.pva_outside.specs.Wire.{Wire}
use Rattle.db_text.specs.Macros.{Macros}
use Rattle.srv_stream.specs.Faults.{FirstFault}
use Rattle.pva_outside.specs.declared.peer.Peer.{Peer}
use Rattle.desk_api.specs.declared.history.SiteData.{SiteData}
use Rattle.prog_source.specs.Words.{IsCountOr, IsNamed, Source}
use Rattle.prog_source.specs.declared.loading.SourceStop.{SourceStop}
use Rattle.prog_listen.specs.Laws.{Because, EveryEndHasItsCause}
use Rattle.prog_listen.specs.Listening.{Listens}
use Rattle.prog_listen.specs.Listening as listening
use Rattle.prog_listen.specs.declared.asked.Listening.{Listening}
use Rattle.prog_listen.specs.declared.listened.Listened.{Listened}
use Rattle.prog_listen.specs.declared.listened.Listened.TheVariants as ends
use Rattle.prog_server.specs.Running.{AskToListen, IsLeft, Outside, Runs}
use Rattle.prog_server.specs.Serving.{Around, Ran, listening_of, status_of_listened, used_of}
use Rattle.prog_server.specs.Words.{Asked, AreTaken, given, most_turns, word_rows}
use Rattle.prog_server.specs.declared.words.Task.{Task}
use Rattle.prog_server.specs.declared.words.Task.TheVariants.{Inetd, Check, Listen, Drill}
use Rattle.prog_server.proofs.Outcomes.{named_by, sourceless}
use Rattle.prog_server.proofs.Rows.{one_asked}

few_in : (o : Option Text) (turns : ℕ) → IsCountOr o 1 (2 ^ 31 - 1) (2 ^ 31 - 1) turns → turns ≤ 2 ^ 31 - 1
few_in None turns is = omega (arith, is)
few_in (Some text) turns is = is.most_is

pub few_accepts : (words : List Text) (asked : Asked) (at : Peer) → AreTaken words asked → asked.task ≡ Listen at → asked.turns ≤ 2 ^ 31 - 1
few_accepts words asked at taken task =
    few_in (given (word_rows words) (codes "turns")) asked.turns
    (subst (λ (t : Task). IsCountOr (given (word_rows words) (codes "turns")) 1 (most_turns t) (most_turns t) asked.turns) task taken.asks.turns_is)

pub named_source : (words : List Text) (asked : Asked) (source : Source) → AreTaken words asked → asked.source ≡ Some source → IsNamed source
named_source = named_by

-- Memory ran out before the words were read again: nothing was done.
pub unread : (words : List Text) (told : Option (ℤ × ℕ)) (around : Around) → Ran words told around around 7
unread words told around = inl (record { runs = inr (inr (inr (record { status_is = refl; untouched = refl }))); door = refl; datagrams = refl })

-- words that ask for a server ask for nothing else
pub no_other_task : (words : List Text) (asked : Asked) → AskToListen words → AreTaken words asked → ((at : Peer) → asked.task ≡ Listen at → ⊥) → ⊥
no_other_task words asked asks taken other =
    other asks.at (ap (λ (a : Asked). a.task) (one_asked words asked asks.asked taken asks.taken) ∙ asks.task_is)

-- and have a source
pub no_source : (words : List Text) (asked : Asked) (at : Peer) → AreTaken words asked → asked.task ≡ Listen at → asked.source ≡ None → ⊥
no_source words asked at taken task none = sourceless words asked (Listen at) taken none task refl

abbrev is_listen : Task → Bool
is_listen Inetd = false
is_listen Check = false
is_listen (Listen at) = true
is_listen (Drill n) = false

asks_otherwise : (words : List Text) (told : Option (ℤ × ℕ)) (around : Around) (asked : Asked) → is_listen asked.task ≡ false → AreTaken words asked → AskToListen words → Ran words told around around 2
asks_otherwise words told around asked other taken asks =
    absurd (false≢true (sym other ∙ ap (λ (a : Asked). is_listen a.task) (one_asked words asked asks.asked taken asks.taken) ∙ ap is_listen asks.task_is))

pub asks_inetd : (words : List Text) (told : Option (ℤ × ℕ)) (around : Around) (asked : Asked) → asked.task ≡ Inetd → AreTaken words asked → AskToListen words → Ran words told around around 2
asks_inetd words told around asked task taken asks = asks_otherwise words told around asked (ap is_listen task) taken asks

pub asks_check : (words : List Text) (told : Option (ℤ × ℕ)) (around : Around) (asked : Asked) → asked.task ≡ Check → AreTaken words asked → AskToListen words → Ran words told around around 2
asks_check words told around asked task taken asks = asks_otherwise words told around asked (ap is_listen task) taken asks

pub asks_drill : (words : List Text) (told : Option (ℤ × ℕ)) (around : Around) (asked : Asked) (n : ℕ) → asked.task ≡ Drill n → AreTaken words asked → AskToListen words → Ran words told around around 2
asks_drill words told around asked n task taken asks = asks_otherwise words told around asked (ap is_listen task) taken asks

pub asks_no_source : (words : List Text) (told : Option (ℤ × ℕ)) (around : Around) (asked : Asked) (at : Peer) → AreTaken words asked → asked.source ≡ None → asked.task ≡ Listen at → Ran words told around around 2
asks_no_source words told around asked at taken none task = absurd (no_source words asked at taken task none)

pub listened : (words : List Text) (told : Option (ℤ × ℕ)) (old new : Around) (status : ℕ) (asked : Asked) (at : Peer) (source : Source) (given : Listening) (ended : Listened) → asked.task ≡ Listen at → AreTaken words asked → asked.source ≡ Some source
    → given ≡ listening_of asked at → Listens given asked.macros source told (used_of old) (used_of new) ended → new.world.wire ≡ old.world.wire → status ≡ status_of_listened ended → Ran words told old new status
listened words told old new status asked at source given ended task taken named same listens link status_is = inr (record {
  asked = asked;
  taken = taken;
  at = at;
  task_is = task;
  source = source;
  source_is = named;
  ended = ended;
  listens = subst (λ (l : Listening). Listens l asked.macros source told (used_of old) (used_of new) ended) same listens;
  link = link;
  status_is = status_is;
})

-- a status of 6 is that of a fault outside
fault_by : (asked : Listening) (found : Result SiteData SourceStop) (old new : listening.Around) (ended : Listened) → Because asked found old new ended → status_of_listened ended ≡ 6
    → Rose old.front.print_faults new.front.print_faults ⊎ (Rose old.front.door.faults new.front.door.faults ⊎ Rose old.front.datagrams.faults new.front.datagrams.faults)
fault_by asked found old new ends.Finished cause six = absurd (omega (arith, six))
fault_by asked found old new ends.Unread cause six = absurd (omega (arith, six))
fault_by asked found old new ends.Faulty cause six = absurd (omega (arith, six))
fault_by asked found old new ends.Unmade cause six = absurd (omega (arith, six))
fault_by asked found old new ends.Unbound cause six = inr (inl cause)
fault_by asked found old new ends.Unsearchable cause six = inr (inr cause)
fault_by asked found old new ends.Unprinted cause six = inl cause
fault_by asked found old new ends.AcceptFault cause six = inr (inl cause.1)
fault_by asked found old new ends.NoMemory cause six = absurd (omega (arith, six))

pub rose_at_six : {P : Type 0} (asked : Listening) (macros : Macros) (source : Source) (told : Option (ℤ × ℕ)) (files files' : FilesView) (ports ports' : MakerView) (door door' : Door) (datagrams datagrams' : DatagramsView)
    (printed printed' : Option (List ℕ)) (prints prints' : ℕ) (ended : Listened) (status : ℕ) → EveryEndHasItsCause
    → Listens asked macros source told (record { files = files; ports = ports; front = record { door = door; datagrams = datagrams; printed = printed; print_faults = prints } })
    (record { files = files'; ports = ports'; front = record { door = door'; datagrams = datagrams'; printed = printed'; print_faults = prints' } }) ended
    → status ≡ status_of_listened ended → status ≡ 6 → P ⊎ (Rose prints prints' ⊎ (Rose door.faults door'.faults ⊎ Rose datagrams.faults datagrams'.faults))
rose_at_six asked macros source told files files' ports ports' door door' datagrams datagrams' printed printed' prints prints' ended status law listens same six =
    let old : listening.Around = record { files = files; ports = ports; front = record { door = door; datagrams = datagrams; printed = printed; print_faults = prints } } in
    let new : listening.Around = record { files = files'; ports = ports'; front = record { door = door'; datagrams = datagrams'; printed = printed'; print_faults = prints' } } in
    inr (fault_by asked listens.found old new ended (law asked macros source told old new ended listens) (sym same ∙ six))

-- A run of one client at most uses neither the listener nor the datagrams.
pub alone : (words : List Text) (told : Option (ℤ × ℕ)) (old new : Outside) (door : Door) (datagrams : DatagramsView) (status : ℕ) → Runs words told old new status
    → Ran words told (record { world = old; door = door; datagrams = datagrams }) (record { world = new; door = door; datagrams = datagrams }) status
alone words told old new door datagrams status runs = inl (record { runs = runs; door = refl; datagrams = refl })

pub left_asks : (words : List Text) (old mid : Outside) → IsLeft words old mid → AskToListen words
left_asks words old mid left = left.asks

-- where nothing was done before, all was done then
pub left_then_ran : (words : List Text) (told told' : Option (ℤ × ℕ)) (old mid new : Outside) (door door' : Door) (datagrams datagrams' : DatagramsView) (status : ℕ) → IsLeft words old mid → told' ≡ told
    → Ran words told' (record { world = mid; door = door; datagrams = datagrams }) (record { world = new; door = door'; datagrams = datagrams' }) status
    → Ran words told (record { world = old; door = door; datagrams = datagrams }) (record { world = new; door = door'; datagrams = datagrams' }) status
left_then_ran words told told' old mid new door door' datagrams datagrams' status left same ran =
    subst (λ (t : Option (ℤ × ℕ)). Ran words t (record { world = old; door = door; datagrams = datagrams }) (record { world = new; door = door'; datagrams = datagrams' }) status) same
    (subst (λ (o : Outside). Ran words told' (record { world = o; door = door; datagrams = datagrams }) (record { world = new; door = door'; datagrams = datagrams' }) status) left.untouched ran)

more_of : {P Q R : Type 0} → P ⊎ Q → P ⊎ (Q ⊎ R)
more_of (inl p) = inl p
more_of (inr q) = inr (inl q)

pub more_faults : {P Q R : Type 0} (status : ℕ) → (status ≡ 6 → P ⊎ Q) → status ≡ 6 → P ⊎ (Q ⊎ R)
more_faults status found six = more_of (found six)

first_from : {L : Type 0} (wire : L → Wire) (mid old new : L) → wire mid ≡ wire old → FirstFault wire mid new → FirstFault wire old new
first_from wire mid old new same first = record { before = first.before; faults = first.faults ∙ ap (λ (w : Wire). w.faults) same; call = first.call }

fault_from : {L R : Type 0} (wire : L → Wire) (mid old new : L) (prints prints' prints'' : ℕ) → wire mid ≡ wire old → prints' ≡ prints → FirstFault wire mid new ⊎ (Rose prints' prints'' ⊎ R) → FirstFault wire old new ⊎ (Rose prints prints'' ⊎ R)
fault_from wire mid old new prints prints' prints'' link same (inl first) = inl (first_from wire mid old new link first)
fault_from wire mid old new prints prints' prints'' link same (inr (inl rose)) = inr (inl (subst (λ (p : ℕ). Rose p prints'') same rose))
fault_from wire mid old new prints prints' prints'' link same (inr (inr rest)) = inr (inr rest)

pub left_fault : {L R : Type 0} (words : List Text) (wire : L → Wire) (mid old new : L) (files files' : FilesView) (ports ports' : MakerView) (printed printed' : Option (List ℕ)) (prints prints' prints'' status : ℕ)
    → IsLeft words (record { wire = wire old; files = files; ports = ports; printed = printed; print_faults = prints }) (record { wire = wire mid; files = files'; ports = ports'; printed = printed'; print_faults = prints' })
    → (status ≡ 6 → FirstFault wire mid new ⊎ (Rose prints' prints'' ⊎ R)) → status ≡ 6 → FirstFault wire old new ⊎ (Rose prints prints'' ⊎ R)
left_fault words wire mid old new files files' ports ports' printed printed' prints prints' prints'' status left found six =
    fault_from wire mid old new prints prints' prints'' (ap (λ (o : Outside). o.wire) left.untouched) (ap (λ (o : Outside). o.print_faults) left.untouched) (found six)
