-- The run that `--drill N` makes: one session on sixteen records and four groups of them, whose client puts numbers drawn
-- from N and has a monitor of each group.
use Rattle.std.specs.Prelude.{◌≡◌, ℕ, zero, suc, pos, ◌+◌, ◌*◌, ◌^◌, ◌/◌, ◌%◌, true, false, List, [], ◌∷◌, ◌++◌, length}
use Rattle.std.specs.Prelude.{map, take, drop, None, Some, Ok, codes, ⊤}
use Rattle.std.specs.List.{flat_map, range_with_len}
use Rattle.std.specs.Fmt.{decimal}
use Rattle.pva_wire.specs.declared.order.Order.TheVariants.{Little}
use Rattle.pva_frames.specs.Messages.{events_from}
use Rattle.pva_frames.specs.Numbers.{number_bytes}
use Rattle.pva_frames.specs.Spelling.{frame_bytes}
use Rattle.rec_kinds.specs.declared.datum.Datum.{Datum}
use Rattle.rec_kinds.specs.declared.datum.Datum.TheVariants.{Num}
use Rattle.rec_kinds.specs.declared.state.RecState.{RecState}
use Rattle.histories.specs.History.{tagged}
use Rattle.desk_api.specs.Calls.{Adds, first_seat, now}
use Rattle.desk_api.specs.History.{state_at}
use Rattle.desk_api.specs.Loading.{Builds}
use Rattle.desk_api.specs.Marks.{deeds_of}
use Rattle.desk_api.specs.declared.history.SiteData.{SiteData}
use Rattle.desk_api.specs.declared.mark.Mark.{Mark}
use Rattle.desk_api.specs.declared.mark.Mark.TheVariants.{Entered, Popped}
use Rattle.desk_api.specs.declared.mark.Seat.{Seat}
use Rattle.srv_session.specs.State.{State, opening, due}
use Rattle.srv_session.specs.Steps.{Step, hears, AreSteps, state_after, events_of, marks_of}
use Rattle.srv_session.specs.Calls.{ArePopsOf, sends}

-- The database text: the longouts drill:0 to drill:15, which open with 0; four after another are the members a to d of the
-- groups drill:g0 to drill:g3.

abbrev pub letters : List (List ℕ)
letters = codes "a" ∷ codes "b" ∷ codes "c" ∷ codes "d" ∷ []

abbrev pub record_text : ℕ × ℕ × List ℕ → List ℕ
record_text (group, number, letter) =
    codes "record(longout, \"drill:" ++ (decimal number ++ (codes "\") { info(Q:group, {\"drill:g" ++ (decimal group
    ++ (codes "\": {\"" ++ (letter ++ codes "\": {+channel:\"VAL\", +type:\"plain\"}}}) }\n")))))

abbrev pub lettered : ℕ → ℕ → List (List ℕ) → List (ℕ × ℕ × List ℕ)
lettered group number [] = []
lettered group number (letter ∷ more) = (group, number, letter) ∷ lettered group (number + 1) more

unfoldable pub drill_text : List ℕ
drill_text = flat_map record_text (flat_map (λ group. lettered group (4 * group) letters) (range_with_len 0 4))

-- The numbers: a linear congruence that begins with N.

abbrev pub next_number : ℕ → ℕ
next_number x = (1103515245 * x + 12345) % 2 ^ 31

-- The messages of the client, each by its command and its payload, in little endian.

abbrev pub word : ℕ → List ℕ
word n = number_bytes Little n

abbrev pub text : List ℕ → List ℕ
text bytes = length bytes ∷ bytes

abbrev pub names : List (List ℕ)
names =
    map (λ k. codes "drill:" ++ decimal k) (range_with_len 0 16)
    ++ map (λ k. codes "drill:g" ++ decimal k) (range_with_len 0 4)

abbrev pub named_from : ℕ → List (List ℕ) → List ℕ
named_from cid [] = []
named_from cid (name ∷ more) = word cid ++ (text name ++ named_from (cid + 1) more)

abbrev pub validation : ℕ × List ℕ
validation = (0x01, word 65536 ++ (0 ∷ 0 ∷ 0 ∷ 0 ∷ (text (codes "anonymous") ++ 0xFF ∷ [])))

abbrev pub creation : ℕ × List ℕ
creation = (0x07, 20 ∷ 0 ∷ named_from 0 names)

-- a request of all leaves begins on the channel of the same number
abbrev pub beginning : ℕ → ℕ → ℕ × List ℕ
beginning command n = (command, word n ++ (word n ++ 0x08 ∷ 0x80 ∷ 0 ∷ 0 ∷ []))

abbrev pub start : ℕ → ℕ × List ℕ
start n = (0x0D, word n ++ (word n ++ 0x44 ∷ []))

-- a put of this number to this record: leaf 1 is marked
abbrev pub put : ℕ → ℕ → ℕ × List ℕ
put n value = (0x0B, word n ++ (word n ++ 0 ∷ 1 ∷ 2 ∷ word value))

-- Each put takes two numbers: the first chooses its record, and the second is its value.
unfoldable pub puts : ℕ → ℕ → List (ℕ × List ℕ)
puts zero x = []
puts (suc n) x =
    put ((next_number x / 256) % 16) (next_number (next_number x) % 1000) ∷ puts n (next_number (next_number x))

unfoldable pub drill_messages : ℕ → List (ℕ × List ℕ)
drill_messages n =
    validation ∷ creation ∷ (map (beginning 0x0B) (range_with_len 0 16) ++ (map (beginning 0x0D) (range_with_len 16 4)
    ++ (map start (range_with_len 16 4) ++ puts 10000 (n % 2 ^ 31))))

abbrev pub frame_of : ℕ × List ℕ → List ℕ
frame_of message = frame_bytes Little false 0 message.0 message.1

abbrev pub input_of : List (ℕ × List ℕ) → List ℕ
input_of messages = flat_map frame_of messages

-- What the session says while a piece is fed, and behind it until nothing is unread.

-- rounds of pops: each pops every monitor that is due once, by the rising ids of their requests, and all but the last found
-- something
abbrev pub AreRounds : SiteData → State → List (List Step) → Type 0
AreRounds site s [] = ⊥
AreRounds site s (round ∷ []) = ArePopsOf (due s.requests) round × AreSteps site s round × (sends round ≡ false)
AreRounds site s (round ∷ next ∷ more) =
    ArePopsOf (due s.requests) round × AreSteps site s round × (sends round ≡ true)
    × AreRounds site (state_after site s round) (next ∷ more)

abbrev pub together : List (List Step) → List Step
together [] = []
together (steps ∷ more) = steps ++ together more

-- One piece of the input: it completes the events that were heard, behind which the rounds of pops stand.
pub record Fed (site : SiteData) (s : State) (before piece : List ℕ) (steps : List Step) : Type 0 where
  pub heard : List Step
  pub rounds : List (List Step)
  pub steps_are : steps ≡ heard ++ together rounds
  pub rules : AreSteps site s heard
  pub completes : events_from 0 None (before ++ piece) ≡ events_from 0 None before ++ events_of heard
  pub rounds_are : AreRounds site (state_after site s heard) rounds

-- each piece in turn
abbrev pub AreFed : SiteData → State → List ℕ → List (List ℕ) → List (List Step) → Type 0
AreFed site s before [] [] = ⊤
AreFed site s before (piece ∷ pieces) (steps ∷ more) =
    Fed site s before piece steps × AreFed site (state_after site s steps) (before ++ piece) pieces more
AreFed site s before pieces steps = ⊥

-- pieces of 4,096 bytes, and a last of the rest
unfoldable pub pieces_in : ℕ → List ℕ → List (List ℕ)
pieces_in zero bytes = []
pieces_in (suc n) [] = []
pieces_in (suc n) (byte ∷ bytes) = take 4096 (byte ∷ bytes) ∷ pieces_in n (drop 4096 (byte ∷ bytes))

abbrev pub pieces_of : List ℕ → List (List ℕ)
pieces_of bytes = pieces_in (length bytes) bytes

-- The whole run, on the site of the text: its history is the one that its marks make of the opening states.
pub record DrillRun (n : ℕ) : Type 0 where
  pub site : SiteData
  pub built : Builds [] drill_text (Ok site)
  pub steps : List (List Step)
  pub fed : AreFed site (opening Little) [] (pieces_of (input_of (drill_messages n))) steps
  pub seat : Seat
  pub adds : Adds (first_seat (record { site = site; limit = 268435456 })) seat (marks_of (together steps))
  pub own : seat.seen.deeds ≡ tagged seat.number (deeds_of (marks_of (together steps)))

-- What is told of it.

abbrev pub is_commit : Mark → ℕ
is_commit (Entered at entry looked found) = 1
is_commit mark = 0

abbrev pub is_update : Mark → ℕ
is_update (Popped at slot (Some update)) = 1
is_update mark = 0

abbrev pub count_by : (Mark → ℕ) → List Mark → ℕ
count_by f [] = 0
count_by f (mark ∷ marks) = f mark + count_by f marks

abbrev pub number_in : Datum → ℕ
number_in (Num (pos value)) = value
number_in datum = 0

abbrev pub sum_of : List RecState → ℕ
sum_of [] = 0
sum_of (state ∷ states) = number_in state.datum + sum_of states

abbrev pub drill_lines : (n : ℕ) → DrillRun n → List ℕ
drill_lines n run =
    let marks = marks_of (together run.steps) in
    codes "messages " ++ (decimal (length (drill_messages n))
    ++ (codes "\ncommits " ++ (decimal (count_by is_commit marks)
    ++ (codes "\nsum " ++ (decimal (sum_of (state_at run.seat.seen (now run.seat))) ++ (codes "\nupdates "
    ++ (decimal (count_by is_update marks) ++ codes "\nclosed\n")))))))

-- These are the lines of a run of it.
pub record TellsDrill (n : ℕ) (lines : List ℕ) : Type 0 where
  pub run : DrillRun n
  pub lines_are : lines ≡ drill_lines n run
