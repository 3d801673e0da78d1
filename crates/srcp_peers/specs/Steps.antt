-- What the system was asked and answered, and what the door answered between it.
use Rattle.std.specs.Prelude.{◌≡◌, ◌≤◌, ◌+◌, ℕ, List, [], ◌∷◌, ◌++◌, length, filter_map, Option, Some, None, Result}
use Rattle.std.specs.declared.io.ErrorKind.{ErrorKind}
use Rattle.std.specs.declared.io.ErrorKind.TheVariants as kind
use Rattle.srcp_peers.specs.declared.system.Ready.{Ready}
use Rattle.srcp_peers.specs.declared.system.IoFailure.{IoFailure}
use Rattle.srcp_peers.specs.declared.system.IoFailure.TheVariants.{WouldBlock, Interrupted, Fatal}
use Rattle.srcp_door.specs.Calls.{Call}

-- a call of the system with its answer, or an answer of the door
pub data Step : Type 0 where
  -- the number that the socket of a pending connection was to have
  Accepts : (number : ℕ) (answer : Result Unit ErrorKind) → Step
  -- the buffer after a read, and how many bytes at its start were read
  Reads : (socket : ℕ) (buffer : List ℕ) (answer : Result ℕ ErrorKind) → Step
  -- what was handed over, and how many bytes of it were taken
  Writes : (socket : ℕ) (bytes : List ℕ) (answer : Result ℕ ErrorKind) → Step
  -- how long a wait may be, and which sockets it found ready
  Waits : (most : Option ℕ) (count : ℕ) (ready : List Ready) → Step
  -- the writing side of a socket was shut down
  Shuts : (socket : ℕ) → Step
  -- a socket was closed
  Closes : (socket : ℕ) → Step
  -- what the clock showed, in milliseconds, if it could be read
  Clocks : (answer : Option ℕ) → Step
  -- the door answers a call
  Answers : (call : Call) → Step

-- the call that the door answers, if the step is one
abbrev pub call_of : Step → Option Call
call_of (Answers call) = Some call
call_of other = None

-- the calls of the door alone
abbrev pub calls : List Step → List Call
calls log = filter_map call_of log

-- the steps that came are no calls of the door
abbrev pub SaysNothing : (old new : List Step) → Type 0
SaysNothing old new = (came : List Step) × (new ≡ old ++ came) × (calls came ≡ [])

-- the steps that came are one call of the door, and calls of the system
abbrev pub SaysOne : (old : List Step) → Call → (new : List Step) → Type 0
SaysOne old call new = calls new ≡ calls old ++ call ∷ []

-- no more steps came than that
abbrev pub GrowsBy : (most : ℕ) → (old new : List Step) → Type 0
GrowsBy most old new = length new ≤ length old + most

-- what a call of the system that failed says of a socket
abbrev pub failure_of : ErrorKind → IoFailure
failure_of kind.WouldBlock = WouldBlock
failure_of kind.Interrupted = Interrupted
failure_of _ = Fatal
