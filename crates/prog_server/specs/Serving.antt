-- What a run of the program does that may serve many clients.
use Rattle.std.specs.Prelude.{◌≡◌, ◌⊎◌, ℕ, ℤ, List, Option, Some}
use Rattle.clap.specs.Words.{Text}
use Rattle.pva_outside.specs.Doors.{Door}
use Rattle.pva_outside.specs.Traffic.{DatagramsView}
use Rattle.pva_outside.specs.declared.peer.Peer.{Peer}
use Rattle.prog_source.specs.Words.{Source}
use Rattle.prog_listen.specs.Listening.{Listens}
use Rattle.prog_listen.specs.Listening as listening
use Rattle.prog_listen.specs.declared.asked.Listening.{Listening}
use Rattle.prog_listen.specs.declared.listened.Listened.{Listened}
use Rattle.prog_listen.specs.declared.listened.Listened.TheVariants as ends
use Rattle.prog_server.specs.Running.{Outside, Runs}
use Rattle.prog_server.specs.Words.{Asked, AreTaken}
use Rattle.prog_server.specs.declared.words.Task.TheVariants.{Listen}

-- what stands outside of the program: the listener and the datagrams beside the world
pub record Around : Type 0 where
  pub world : Outside
  pub door : Door
  pub datagrams : DatagramsView

-- what of that a server of many clients uses
abbrev pub used_of : Around → listening.Around
used_of around = record {
  files = around.world.files;
  ports = around.world.ports;
  front = record {
    door = around.door;
    datagrams = around.datagrams;
    printed = around.world.printed;
    print_faults = around.world.print_faults;
  };
}

-- the server of many clients that the words ask for
abbrev pub listening_of : Asked → Peer → Listening
listening_of asked at = record {
  at = at;
  udp = asked.udp;
  beacon = asked.beacon;
  guid = asked.guid;
  order = asked.order;
  journal = asked.journal;
  turns = asked.turns;
}

-- the exit status that tells how it ended
abbrev pub status_of_listened : Listened → ℕ
status_of_listened ends.Finished = 0
status_of_listened ends.Unread = 3
status_of_listened ends.Faulty = 4
status_of_listened ends.Unmade = 3
status_of_listened ends.Unbound = 6
status_of_listened ends.Unsearchable = 6
status_of_listened ends.Unprinted = 6
status_of_listened ends.AcceptFault = 6
status_of_listened ends.NoMemory = 7

-- The words ask for a server of many clients, and it was run. The link wasn't used.
pub record HasListened (words : List Text) (told : Option (ℤ × ℕ)) (old new : Around) (status : ℕ) : Type 0 where
  pub asked : Asked
  pub taken : AreTaken words asked
  pub at : Peer
  pub task_is : asked.task ≡ Listen at
  pub source : Source
  pub source_is : asked.source ≡ Some source
  pub ended : Listened
  pub listens : Listens (listening_of asked at) asked.macros source told (used_of old) (used_of new) ended
  pub link : new.world.wire ≡ old.world.wire
  pub status_is : status ≡ status_of_listened ended

-- They don't, or memory ran out before they were read. Neither the listener nor the datagrams were used.
pub record HasRunAlone (words : List Text) (told : Option (ℤ × ℕ)) (old new : Around) (status : ℕ) : Type 0 where
  pub runs : Runs words told old.world new.world status
  pub door : new.door ≡ old.door
  pub datagrams : new.datagrams ≡ old.datagrams

-- One run of the program with these words, at the moment that the clock tells, and its exit status.
abbrev pub Ran : List Text → Option (ℤ × ℕ) → Around → Around → ℕ → Type 0
Ran words told old new status = HasRunAlone words told old new status ⊎ HasListened words told old new status
