-- All numbers of the part, and the values that go with each: document 01's table in its order, 35, 31, 32 and 40 of document 02
-- where they are tested, then the calls from C
use Rattle.std.specs.Prelude.{ℕ, List, [], ◌∷◌}
use Rattle.hardware.specs.declared.Error.{Error}
use Rattle.hardware.specs.declared.Misuse.{Misuse}
use Rattle.hardware.specs.declared.Misuse.TheVariants.{Unknown, NotHeld, NotEnded}
use Rattle.hardware.specs.declared.Stop.{Stop}
use Rattle.hardware.specs.declared.Stop.TheVariants.{Done, AfterEnd, BadReply, Words, NoReply, NoRoom}
use Rattle.hardware.specs.declared.Error.TheVariants.{
  Io,
  Removed,
  Timeout,
  Sideband,
  Semaphore,
  HostInterface,
  Firmware,
  NoPhy,
  PhyReset,
  Lan,
  Fiber,
  Address,
  KrAddress,
  Pairs,
  Block,
  Pause,
  Windows,
}

abbrev pub number : Error → ℕ
number (Io code) = 1
number Removed = 2
number (Timeout register mask expected last) = 3
number (Sideband address ctrl) = 4
number (Semaphore held) = 5
number (HostInterface hicr) = 6
number (Firmware command status) = 7
number NoPhy = 8
number PhyReset = 9
number Lan = 20
number Fiber = 21
number Address = 22
number KrAddress = 35
number Pairs = 31
number Block = 23
number Pause = 32
number Windows = 40

abbrev pub values : Error → List ℕ
values (Io code) = code ∷ []
values Removed = []
values (Timeout register mask expected last) = register ∷ mask ∷ expected ∷ last ∷ []
values (Sideband address ctrl) = address ∷ ctrl ∷ []
values (Semaphore held) = held ∷ []
values (HostInterface hicr) = hicr ∷ []
values (Firmware command status) = command ∷ status ∷ []
values NoPhy = []
values PhyReset = []
values Lan = []
values Fiber = []
values Address = []
values KrAddress = []
values Pairs = []
values Block = []
values Pause = []
values Windows = []

-- how a step or a run stopped. Its values are the conversation, and of 26 and 27 the counts and places to go on from
abbrev pub stop_number : Stop → ℕ
stop_number Done = 0
stop_number AfterEnd = 24
stop_number BadReply = 25
stop_number Words = 23
stop_number NoReply = 26
stop_number NoRoom = 27

-- a call from C that does nothing; it has no values
abbrev pub misuse_number : Misuse → ℕ
misuse_number Unknown = 100
misuse_number NotHeld = 101
misuse_number NotEnded = 102
