-- Which step a note names.
use Rattle.srcp_door.specs.Calls.{Call, ExpectCall, NowCall, AcceptCall, ReadCall, WriteCall, CloseCall}
use Rattle.srcp_peers.specs.Steps.{Step, Accepts, Reads, Writes, Waits, Shuts, Closes, Clocks, Answers}
use Rattle.srcp_peers.specs.declared.log.Answer.{Answer}
use Rattle.srcp_peers.specs.declared.log.Answer.TheVariants as answer
use Rattle.srcp_peers.specs.declared.log.Note.{Note}
use Rattle.srcp_peers.specs.declared.log.Note.TheVariants as note

-- the call that the door answers so
abbrev pub call_answered : Answer → Call
call_answered (answer.Expect due slack) = ExpectCall due slack
call_answered (answer.Now said) = NowCall said
call_answered (answer.Accept said) = AcceptCall said
call_answered (answer.Read peer said buffer) = ReadCall peer said buffer.now
call_answered (answer.Write peer bytes said) = WriteCall peer bytes.now said
call_answered (answer.Close peer said) = CloseCall peer said

-- the step that a note names
abbrev pub step_of : Note → Step
step_of (note.Accepts number said) = Accepts number said
step_of (note.Reads socket buffer said) = Reads socket buffer.now said
step_of (note.Writes socket bytes said) = Writes socket bytes.now said
step_of (note.Waits most count ready) = Waits most count ready.now
step_of (note.Shuts socket) = Shuts socket
step_of (note.Closes socket) = Closes socket
step_of (note.Clocks said) = Clocks said
step_of (note.Answers said) = Answers (call_answered said)
