-- What options ask for.
use Rattle.std.proofs.lemmas.Bool.{false≢true}
use Rattle.std.proofs.Common.{◌≡◌, ◌≢◌, ℕ, ◌<◌, ◌-◌, ◌^◌, Bool, true, false, List, [], Option, None, Some, Result, Ok, Err, refl, sym, ◌∙◌, ap, subst, arith, codes}
use Rattle.std.specs.Prelude.{MatchOption, unwrap_or, is_some, ◌||◌}
use Rattle.std.proofs.lemmas.Fmt.{decimal_injective}
use Rattle.clap.specs.Words.{HasKind, Row, Text, kind_of}
use Rattle.clap.specs.declared.error.Error.{Error}
use Rattle.clap.specs.declared.error.kind.ErrorKind.TheVariants.{OutOfMemory}
use Rattle.db_text.specs.Macros.{Macros}
use Rattle.prog_server.specs.Words.{Asked, Asks, AreTaken, AreRead, RowsAreRead, IsSourceIn, IsSourceNeeded, IsSourceOr, IsTask, IsTaskIn, AreMacrosIn, AskForSilence, IsDrill, IsIfGiven, IsListen, asked_of, given, is_set, most_turns, needs_source, task_by, word_faults, word_rows}
use Rattle.pva_outside.specs.declared.peer.Peer.{Peer}
use Rattle.prog_network.specs.Addresses.{IsAddress}
use Rattle.prog_network.specs.Guids.{IsGuid}
use Rattle.prog_network.proofs.Named.{one_guid}
use Rattle.prog_network.proofs.Reading.{one_address}
use Rattle.prog_source.specs.Words.{IsSource, IsCount, IsCountOr, Source}
use Rattle.prog_server.specs.declared.words.Asked.{Asked as AskedRead}
use Rattle.prog_server.specs.declared.words.Task.{Task}
use Rattle.prog_server.specs.declared.words.Task.TheVariants.{Inetd, Check, Listen, Drill}
use Rattle.prog_server.specs.declared.words.WordsStop.{WordsStop}
use Rattle.prog_server.specs.declared.words.WordsStop.TheVariants.{Refused, NoMemory}
use Rattle.prog_server.proofs.Command.{refused_faulty}
use Rattle.prog_source.proofs.Pairs.{one_macros}
use Rattle.prog_source.proofs.Sources.{one_source}

-- why what is given asks for nothing

pub no_task : (rows : List Row) → ((task : Task) → ¬ (IsTaskIn rows task)) → (asked : Asked) → ¬ (Asks rows asked)
no_task rows none asked is = none asked.task is.task_is

-- one task is named
one_drill : (text : Text) (a b : Task) → IsDrill text a → IsDrill text b → a ≡ b
one_drill text Inetd b p q = absurd p
one_drill text Check b p q = absurd p
one_drill text (Listen at) b p q = absurd p
one_drill text (Drill m) Inetd p q = absurd q
one_drill text (Drill m) Check p q = absurd q
one_drill text (Drill m) (Listen at) p q = absurd q
one_drill text (Drill m) (Drill n) p q = ap Drill (decimal_injective m n (omega (arith, p.most_is)) (omega (arith, q.most_is)) (sym p.written ∙ q.written))

one_listen : (text : Text) (a b : Task) → IsListen text a → IsListen text b → a ≡ b
one_listen text Inetd b p q = absurd p
one_listen text Check b p q = absurd p
one_listen text (Drill m) b p q = absurd p
one_listen text (Listen at) Inetd p q = absurd q
one_listen text (Listen at) Check p q = absurd q
one_listen text (Listen at) (Drill n) p q = absurd q
one_listen text (Listen at) (Listen to) p q = ap Listen (one_address text at to p q)

pub one_task : (drill listen : Option Text) (inetd check : Bool) (a b : Task) → IsTask drill listen inetd check a → IsTask drill listen inetd check b → a ≡ b
one_task None None inetd check a b p q = ap (λ (o : Option Task). unwrap_or o Inetd) (sym p ∙ q)
one_task (Some text) None inetd check a b p q = one_drill text a b p.1 q.1
one_task None (Some text) inetd check a b p q = one_listen text a b p.1 q.1
one_task (Some text) (Some other) inetd check a b p q = absurd p

pub no_source : (rows : List Row) (task : Task) (needed : Bool) → needed ≡ needs_source task → IsTaskIn rows task → ((s : Option Source) → ¬ (IsSourceIn rows needed s)) → (asked : Asked)
    → ¬ (Asks rows asked)
no_source rows task needed need named none asked is =
    let same : asked.task ≡ task = one_task (given rows (codes "drill")) (given rows (codes "listen")) (is_set rows (codes "inetd")) (is_set rows (codes "check")) asked.task task is.task_is named in
    none asked.source (subst (λ (b : Bool). IsSourceIn rows b asked.source) (ap needs_source same ∙ sym need) is.source_is)

pub no_macros : (rows : List Row) → ((m : Macros) → ¬ (AreMacrosIn rows m)) → (asked : Asked) → ¬ (Asks rows asked)
no_macros rows none asked is = none asked.macros is.macros_are

pub no_journal : (rows : List Row) → ((n : ℕ) → ¬ (IsCountOr (given rows (codes "journal")) 0 (2 ^ 64 - 1) 268_435_456 n)) → (asked : Asked) → ¬ (Asks rows asked)
no_journal rows none asked is = none asked.journal is.journal_is

pub no_turns : (rows : List Row) (task : Task) (most : ℕ) → most ≡ most_turns task → IsTaskIn rows task → ((n : ℕ) → ¬ (IsCountOr (given rows (codes "turns")) 1 most most n)) → (asked : Asked) → ¬ (Asks rows asked)
no_turns rows task most is_most named none asked is =
    let same : asked.task ≡ task = one_task (given rows (codes "drill")) (given rows (codes "listen")) (is_set rows (codes "inetd")) (is_set rows (codes "check")) asked.task task is.task_is named in
    let turns : most_turns asked.task ≡ most = ap most_turns same ∙ sym is_most in
    none asked.turns (subst (λ (m : ℕ). IsCountOr (given rows (codes "turns")) 1 m m asked.turns) turns is.turns_is)

pub turns_are : (rows : List Row) (task : Task) (most turns : ℕ) → most ≡ most_turns task → IsCountOr (given rows (codes "turns")) 1 most most turns → IsCountOr (given rows (codes "turns")) 1 (most_turns task) (most_turns task) turns
turns_are rows task most turns is count = subst (λ (m : ℕ). IsCountOr (given rows (codes "turns")) 1 m m turns) is count

pub no_udp : (rows : List Row) → ((n : ℕ) → ¬ (IsCountOr (given rows (codes "udp")) 0 65535 5076 n)) → (asked : Asked) → ¬ (Asks rows asked)
no_udp rows none asked is = none asked.udp is.udp_is

pub no_beacon : (rows : List Row) → ((p : Option Peer) → ¬ (IsIfGiven IsAddress (given rows (codes "beacon")) p)) → (asked : Asked) → ¬ (Asks rows asked)
no_beacon rows none asked is = none asked.beacon is.beacon_is

pub no_guid : (rows : List Row) → ((g : Option (List ℕ)) → ¬ (IsIfGiven IsGuid (given rows (codes "guid")) g)) → (asked : Asked) → ¬ (Asks rows asked)
no_guid rows none asked is = none asked.guid is.guid_is

pub no_silence : (rows : List Row) → ((n : ℕ) → ¬ (IsCountOr (given rows (codes "silence")) 0 (2 ^ 32 - 1) 0 n)) → (asked : Asked) → ¬ (Asks rows asked)
no_silence rows none asked is = none asked.silence is.silence_is

-- an option that may be left out, and is given in another form

pub no_beacon_said : (text : List ℕ) → ((p : Peer) → ¬ (IsAddress text p)) → (p : Option Peer) → ¬ (IsIfGiven IsAddress (Some text) p)
no_beacon_said text none None is = is
no_beacon_said text none (Some p) is = none p is

pub no_guid_said : (text : List ℕ) → ((g : List ℕ) → ¬ (IsGuid text g)) → (g : Option (List ℕ)) → ¬ (IsIfGiven IsGuid (Some text) g)
no_guid_said text none None is = is
no_guid_said text none (Some g) is = none g is

-- a text that is no source
pub unread : (text : List ℕ) (needed : Bool) → ((s : Source) → ¬ (IsSource text s)) → (s : Option Source) → ¬ (IsSourceNeeded (Some text) needed s)
unread text needed none None is = is.source_is
unread text needed none (Some s) is = none s is.source_is

-- no source where one is needed
pub unnamed : (s : Option Source) → ¬ (IsSourceNeeded None true s)
unnamed None is = false≢true (is.there refl)
unnamed (Some s) is = is.source_is

one_source_of : (o : Option Text) (a b : Option Source) → IsSourceOr o a → IsSourceOr o b → a ≡ b
one_source_of None None None p q = refl
one_source_of None None (Some b) p q = absurd q
one_source_of None (Some a) b p q = absurd p
one_source_of (Some text) None b p q = absurd p
one_source_of (Some text) (Some a) None p q = absurd q
one_source_of (Some text) (Some a) (Some b) p q = ap Some (one_source text a b p q)

-- what the words come to, by what they give
pub rows_read : (words : List Text) (rows : List Row) (r : Result AskedRead WordsStop) → word_faults words ≡ [] → rows ≡ word_rows words → RowsAreRead rows r → AreRead words r
rows_read words rows (Ok asked) none same is = record { faultless = none; asks = subst (λ (l : List Row). Asks l (asked_of asked)) same is }
rows_read words rows (Err Refused) none same not = λ asked is. not asked (subst (λ (l : List Row). Asks l asked) (sym same) is.asks)
rows_read words rows (Err NoMemory) none same u = tt

-- words that the command refuses
pub stopped : (words : List Text) (e : Error) (stop : WordsStop) → HasKind (word_faults words) e → (stop ≡ Refused → kind_of e ≢ OutOfMemory) → AreRead words (Err stop)
stopped words e Refused kind not_memory = λ asked is. refused_faulty words e kind (not_memory refl) is.faultless
stopped words e NoMemory kind not_memory = tt

one_count : (given : Option Text) (least most otherwise m n : ℕ) → most < 2 ^ 64 → IsCountOr given least most otherwise m → IsCountOr given least most otherwise n → m ≡ n
one_count None least most otherwise m n few a b = a ∙ sym b
one_count (Some text) least most otherwise m n few a b = decimal_injective m n (omega (arith, a.most_is, few)) (omega (arith, b.most_is, few)) (sym a.written ∙ b.written)

few_turns : (task : Task) → most_turns task < 2 ^ 64
few_turns Inetd = omega arith
few_turns Check = omega arith
few_turns (Listen at) = omega arith
few_turns (Drill n) = omega arith

one_beacon : (o : Option Text) (a b : Option Peer) → IsIfGiven IsAddress o a → IsIfGiven IsAddress o b → a ≡ b
one_beacon None None None p q = refl
one_beacon None None (Some b) p q = absurd q
one_beacon None (Some a) b p q = absurd p
one_beacon (Some text) None b p q = absurd p
one_beacon (Some text) (Some a) None p q = absurd q
one_beacon (Some text) (Some a) (Some b) p q = ap Some (one_address text a b p q)

one_guid_of : (o : Option Text) (a b : Option (List ℕ)) → IsIfGiven IsGuid o a → IsIfGiven IsGuid o b → a ≡ b
one_guid_of None None None p q = refl
one_guid_of None None (Some b) p q = absurd q
one_guid_of None (Some a) b p q = absurd p
one_guid_of (Some text) None b p q = absurd p
one_guid_of (Some text) (Some a) None p q = absurd q
one_guid_of (Some text) (Some a) (Some b) p q = ap Some (one_guid text a b p q)

-- what is given asks for one thing
one_asked_in : (rows : List Row) (a b : Asked) → Asks rows a → Asks rows b → a ≡ b
one_asked_in rows a b p q =
    let task : a.task ≡ b.task = one_task (given rows (codes "drill")) (given rows (codes "listen")) (is_set rows (codes "inetd")) (is_set rows (codes "check")) a.task b.task p.task_is q.task_is in
    let source : a.source ≡ b.source = one_source_of (given rows (codes "source")) a.source b.source p.source_is.source_is q.source_is.source_is in
    let macros : a.macros ≡ b.macros = one_macros (given rows (codes "macros")) a.macros b.macros p.macros_are q.macros_are in
    let order = p.order_is ∙ sym q.order_is in
    let journal : a.journal ≡ b.journal = one_count (given rows (codes "journal")) 0 (2 ^ 64 - 1) 268_435_456 a.journal b.journal (omega arith) p.journal_is q.journal_is in
    let same_most : IsCountOr (given rows (codes "turns")) 1 (most_turns b.task) (most_turns b.task) a.turns =
    subst (λ (t : Task). IsCountOr (given rows (codes "turns")) 1 (most_turns t) (most_turns t) a.turns) task p.turns_is in
    let turns : a.turns ≡ b.turns = one_count (given rows (codes "turns")) 1 (most_turns b.task) (most_turns b.task) a.turns b.turns (few_turns b.task) same_most q.turns_is in
    let udp : a.udp ≡ b.udp = one_count (given rows (codes "udp")) 0 65535 5076 a.udp b.udp (omega arith) p.udp_is q.udp_is in
    let beacon : a.beacon ≡ b.beacon = one_beacon (given rows (codes "beacon")) a.beacon b.beacon p.beacon_is q.beacon_is in
    let guid : a.guid ≡ b.guid = one_guid_of (given rows (codes "guid")) a.guid b.guid p.guid_is q.guid_is in
    let silence : a.silence ≡ b.silence = one_count (given rows (codes "silence")) 0 (2 ^ 32 - 1) 0 a.silence b.silence (omega arith) p.silence_is q.silence_is in
    λ i. record { task = task i; source = source i; macros = macros i; order = order i; journal = journal i; turns = turns i; udp = udp i; beacon = beacon i; guid = guid i; silence = silence i }

pub one_asked : (words : List Text) (a b : Asked) → AreTaken words a → AreTaken words b → a ≡ b
one_asked words a b p q = one_asked_in (word_rows words) a b p.asks q.asks

-- the silence that words ask for

pub silence_asked : (words : List Text) (asked : Asked) → AreTaken words asked → AskForSilence words asked.silence
silence_asked words asked taken = record {
  taken = λ other is. ap (λ (a : Asked). a.silence) (one_asked words asked other taken is);
  untaken = λ none. absurd (none asked taken);
}

pub no_silence_asked : (words : List Text) → ((asked : Asked) → ¬ (AreTaken words asked)) → AskForSilence words 0
no_silence_asked words none = record { taken = λ other is. absurd (none other is); untaken = λ _. refl }

-- what the option for the drill names, or that for a server of many clients

pub no_drill : (text : List ℕ) → ((n : ℕ) → ¬ (IsCount text 0 (2 ^ 64 - 1) n)) → (task : Task) → ¬ (IsDrill text task)
no_drill text none Inetd is = is
no_drill text none Check is = is
no_drill text none (Listen at) is = is
no_drill text none (Drill n) is = none n is

pub no_listen : (text : List ℕ) → ((p : Peer) → ¬ (IsAddress text p)) → (task : Task) → ¬ (IsListen text task)
no_listen text none Inetd is = is
no_listen text none Check is = is
no_listen text none (Listen at) is = none at is
no_listen text none (Drill n) is = is

pub named_task : (inetd check : Bool) (o : Option Task) → o ≡ task_by inetd check → MatchOption o ((task : Task) → ¬ (IsTask None None inetd check task)) (IsTask None None inetd check)
named_task inetd check None is = λ task there. let bad : None ≡ Some task = is ∙ there in cc
named_task inetd check (Some task) is = sym is

first_too : {P : Type 0} (inetd check : Bool) → inetd ≡ true → ((inetd || check) ≡ false) × P → ⊥
first_too true check there is = false≢true (sym is.0)
first_too false check there is = false≢true there

second_too : {P : Type 0} (inetd check : Bool) → check ≡ true → ((inetd || check) ≡ false) × P → ⊥
second_too true true there is = false≢true (sym is.0)
second_too false true there is = false≢true (sym is.0)
second_too inetd false there is = false≢true there

neither : (inetd check : Bool) → inetd ≡ false → check ≡ false → (inetd || check) ≡ false
neither true check one two = absurd (false≢true (sym one))
neither false check one two = two

pub inetd_beside : (text : List ℕ) (inetd check : Bool) → inetd ≡ true → (task : Task) → ¬ (IsTask None (Some text) inetd check task)
inetd_beside text inetd check there task is = first_too {P = IsListen text task} inetd check there is

pub check_beside : (text : List ℕ) (inetd check : Bool) → check ≡ true → (task : Task) → ¬ (IsTask None (Some text) inetd check task)
check_beside text inetd check there task is = second_too {P = IsListen text task} inetd check there is

pub listen_alone : (text : List ℕ) (inetd check : Bool) (o : Option Task) → inetd ≡ false → check ≡ false → MatchOption o ((task : Task) → ¬ (IsListen text task)) (IsListen text)
    → MatchOption o ((task : Task) → ¬ (IsTask None (Some text) inetd check task)) (IsTask None (Some text) inetd check)
listen_alone text inetd check None one two is = λ task there. is task there.1
listen_alone text inetd check (Some task) one two is = (neither inetd check one two, is)

-- both options are given
pub both_options : (text : List ℕ) (listen : Option Text) (inetd check : Bool) → is_some listen ≡ true → (task : Task) → ¬ (IsTask (Some text) listen inetd check task)
both_options text None inetd check there task is = false≢true there
both_options text (Some other) inetd check there task is = is

pub inetd_too : (text : List ℕ) (listen : Option Text) (inetd check : Bool) → inetd ≡ true → (task : Task) → ¬ (IsTask (Some text) listen inetd check task)
inetd_too text None inetd check there task is = first_too {P = IsDrill text task} inetd check there is
inetd_too text (Some other) inetd check there task is = is

pub check_too : (text : List ℕ) (listen : Option Text) (inetd check : Bool) → check ≡ true → (task : Task) → ¬ (IsTask (Some text) listen inetd check task)
check_too text None inetd check there task is = second_too {P = IsDrill text task} inetd check there is
check_too text (Some other) inetd check there task is = is

pub drill_alone : (text : List ℕ) (listen : Option Text) (inetd check : Bool) (o : Option Task) → is_some listen ≡ false → inetd ≡ false → check ≡ false
    → MatchOption o ((task : Task) → ¬ (IsDrill text task)) (IsDrill text) → MatchOption o ((task : Task) → ¬ (IsTask (Some text) listen inetd check task)) (IsTask (Some text) listen inetd check)
drill_alone text (Some other) inetd check o none one two is = absurd (false≢true (sym none))
drill_alone text None inetd check None none one two is = λ task there. is task there.1
drill_alone text None inetd check (Some task) none one two is = (neither inetd check one two, is)

-- what the argument names

pub no_source_by : (text : List ℕ) (needed : Bool) → ((s : Source) → ¬ (IsSource text s)) → (s : Option Source) → ¬ (IsSourceNeeded (Some text) needed s)
no_source_by text needed none s is = unread text needed none s is

pub source_there : (text : List ℕ) (needed : Bool) (s : Source) → IsSource text s → IsSourceNeeded (Some text) needed (Some s)
source_there text needed s is = record { source_is = is; there = λ _. refl }

pub no_source_needed : (needed : Bool) → needed ≡ false → IsSourceNeeded None needed None
no_source_needed needed not = record { source_is = tt; there = λ must. absurd (false≢true (sym not ∙ must)) }

pub source_needed : (needed : Bool) → needed ≡ true → (s : Option Source) → ¬ (IsSourceNeeded None needed s)
source_needed true must s is = unnamed s is
source_needed false must s is = false≢true must
