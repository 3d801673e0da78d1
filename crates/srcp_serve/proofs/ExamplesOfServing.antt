-- Told calls of three turns, and what they make happen.
use Rattle.srcp_serve.proofs.Names.{◌≡◌, ℕ, true, false, List, [], ◌∷◌, ◌++◌, drop, length, ◌-◌, replicate, map, Some, None, Ok, Err}
use Rattle.srcp_serve.proofs.Names.{codes, refl, Bus, sent, course, welcome, Open, Bytes, Room, At, Shut, giving, Call, ExpectCall}
use Rattle.srcp_serve.proofs.Names.{NowCall, AcceptCall, ReadCall, WriteCall, CloseCall, FeedsWhatIsHanded, IsServed, SendsWhatIsTaken}
use Rattle.srcp_serve.proofs.Names.{events_of}
use Rattle.std.specs.Fmt.{digits}
use Rattle.srcp_door.specs.declared.door.DoorFault.TheVariants as fault
use Rattle.srcp_door.specs.declared.door.Got.TheVariants as got

-- bus 1 with power alone
abbrev buses : List Bus
buses = record { number = 1; power = true; gl_max = 0; ga_max = 0; ga_ports = 2; fb_ports = 0 } ∷ []

-- these are the calls of so many turns, each peer took what was sent of its connection, and what was handed out of it was fed
abbrev IsServedOf : ℕ → List Call → List (List ℕ) → Type 0
IsServedOf count calls texts =
    IsServed buses count calls × SendsWhatIsTaken buses calls × FeedsWhatIsHanded buses calls
    × (map sent (course buses (events_of buses calls)).connections ≡ texts)

-- a buffer that begins with these bytes
abbrev buffer : List ℕ → List ℕ
buffer bytes = bytes ++ replicate 253 0

abbrev go_line : List ℕ
go_line = codes "0.000 200 OK GO 1\n"

abbrev nobody : List Call
nobody = ExpectCall None None ∷ NowCall (Ok 0) ∷ AcceptCall (Ok None) true ∷ []

-- one peer that sends GO in the second turn, and ends in the third
abbrev one_peer : List Call
one_peer =
    (ExpectCall None None ∷ NowCall (Ok 0) ∷ AcceptCall (Ok (Some 1)) true ∷ WriteCall 1 welcome (Ok 45) ∷ [])
    ++ nobody ++ (ReadCall 1 (Ok (got.Bytes 3)) (buffer (codes "GO\n")) [] ∷ WriteCall 1 go_line (Ok 18) ∷ [])
    ++ nobody ++ (ReadCall 1 (Ok got.Ended) (buffer (codes "GO\n")) [] ∷ CloseCall 1 (Ok tt) ∷ [])

one_peer_makes : events_of buses one_peer
    ≡ At 0 ∷ Open true ∷ Room 1 0 ∷ Room 1 45 ∷ Room 1 0 ∷ At 0 ∷ Bytes 1 (giving (codes "GO\n")) ∷ Room 1 0 ∷ Room 1 18 ∷ Room 1 0
    ∷ At 0 ∷ Shut 1 ∷ []
one_peer_makes = refl

one_peer_is_served : IsServedOf 3 one_peer ((welcome ++ go_line) ∷ [])
unfolding digits
one_peer_is_served = (record { turns_are = refl; asked = refl }, refl, refl, refl)

-- the same if the second write fails
abbrev failing : List Call
failing =
    (ExpectCall None None ∷ NowCall (Ok 0) ∷ AcceptCall (Ok (Some 1)) true ∷ WriteCall 1 welcome (Ok 45) ∷ [])
    ++ nobody
    ++ (ReadCall 1 (Ok (got.Bytes 3)) (buffer (codes "GO\n")) [] ∷ WriteCall 1 go_line (Err fault.Write) ∷ CloseCall 1 (Ok tt) ∷ [])
    ++ nobody

failing_makes : events_of buses failing
    ≡ At 0 ∷ Open true ∷ Room 1 0 ∷ Room 1 45 ∷ Room 1 0 ∷ At 0 ∷ Bytes 1 (giving (codes "GO\n")) ∷ Room 1 0 ∷ Shut 1 ∷ At 0 ∷ []
failing_makes = refl

failing_is_served : IsServedOf 3 failing (welcome ∷ [])
unfolding digits
failing_is_served = (record { turns_are = refl; asked = refl }, refl, refl, refl)

-- ---- a peer that gives GO when it is first read

abbrev asked_in : List Call → List Call
asked_in calls = ExpectCall None None ∷ NowCall (Ok 0) ∷ AcceptCall (Ok (Some 1)) true ∷ calls

abbrev greeting : Call
greeting = WriteCall 1 welcome (Ok 45)

abbrev going : List Call
going = ReadCall 1 (Ok (got.Bytes 3)) (buffer (codes "GO\n")) [] ∷ WriteCall 1 go_line (Ok 18) ∷ []

-- the first try to let it in fails
abbrev late : List Call
late = ExpectCall None None ∷ NowCall (Ok 0) ∷ AcceptCall (Err fault.Accept) true ∷ (asked_in (greeting ∷ []) ++ nobody ++ going)

late_is_served : IsServedOf 3 late ((welcome ++ go_line) ∷ [])
unfolding digits
late_is_served = (record { turns_are = refl; asked = refl }, refl, refl, refl)

-- the first read fails
abbrev unread : List Call
unread = asked_in (greeting ∷ []) ++ nobody ++ (ReadCall 1 (Err fault.Read) (replicate 256 0) [] ∷ CloseCall 1 (Ok tt) ∷ []) ++ nobody

unread_is_served : IsServed buses 3 unread
unread_is_served = record { turns_are = refl; asked = refl }

unread_makes : events_of buses unread ≡ At 0 ∷ Open true ∷ Room 1 0 ∷ Room 1 45 ∷ Room 1 0 ∷ At 0 ∷ Shut 1 ∷ At 0 ∷ []
unread_makes = refl

-- its end comes and it can't be closed, which is not tried again
abbrev unclosed : List Call
unclosed =
    asked_in (greeting ∷ []) ++ nobody ++ going ++ nobody
    ++ (ReadCall 1 (Ok got.Ended) (replicate 256 0) [] ∷ CloseCall 1 (Err fault.Close) ∷ []) ++ nobody

unclosed_is_served : IsServed buses 4 unclosed
unfolding digits
unclosed_is_served = record { turns_are = refl; asked = refl }

-- the second moment is not told, and the first one counts
abbrev timeless : List Call
timeless =
    (ExpectCall None None ∷ NowCall (Ok 1000) ∷ AcceptCall (Ok (Some 1)) true ∷ greeting ∷ [])
    ++ ExpectCall None None ∷ NowCall (Err fault.Now) ∷ AcceptCall (Ok None) true ∷ ReadCall 1 (Ok (got.Bytes 3)) (buffer (codes "GO\n")) []
    ∷ WriteCall 1 (codes "1.000 200 OK GO 1\n") (Ok 18) ∷ []

timeless_is_served : IsServed buses 2 timeless
unfolding digits
timeless_is_served = record { turns_are = refl; asked = refl }

-- ---- two peers

-- this many bytes, then zeros up to 256
abbrev padded : List ℕ → List ℕ
padded bytes = bytes ++ replicate (256 - length bytes) 0

abbrev quiet : ℕ → Call
quiet peer = ReadCall peer (Ok got.Nothing) (replicate 256 0) []

abbrev wrote : ℕ → List ℕ → Call
wrote peer bytes = WriteCall peer bytes (Ok (length bytes))

abbrev read_of : ℕ → List ℕ → Call
read_of peer bytes = ReadCall peer (Ok (got.Bytes (length bytes))) (padded bytes) []

-- a panel is told, in its own visit, what the other peer sets; the welcome line is taken in two parts
abbrev nobody_beside : ℕ → List Call
nobody_beside slack = ExpectCall None (Some slack) ∷ NowCall (Ok 0) ∷ AcceptCall (Ok None) true ∷ []

abbrev two_peers : List Call
two_peers =
    asked_in (greeting ∷ [])
    ++ ExpectCall None None ∷ NowCall (Ok 0) ∷ AcceptCall (Ok (Some 2)) true ∷ read_of 1 (codes "SET CONNECTIONMODE SRCP INFO\nGO\n")
    ∷ wrote 1 (codes "0.000 202 OK CONNECTIONMODE\n0.000 200 OK GO 1\n")
    ∷ wrote 1 (codes "0.000 101 INFO 0 SESSION 1 INFO\n") ∷ wrote 1 (codes "0.000 100 INFO 1 POWER OFF\n") ∷ WriteCall 2 welcome (Ok 5)
    ∷ (nobody_beside 256 ++ quiet 1 ∷ wrote 2 (drop 5 welcome) ∷ [])
    ++ nobody_beside 256 ++ quiet 1 ∷ read_of 2 (codes "GO\nSET 1 POWER ON\n") ∷ wrote 2 (codes "0.000 200 OK GO 2\n0.000 200 OK\n")
    ∷ (nobody_beside 254 ++ quiet 1 ∷ wrote 1 (codes "0.000 101 INFO 0 SESSION 2 COMMAND\n") ∷ wrote 1 (codes "0.000 100 INFO 1 POWER ON\n")
    ∷ quiet 2 ∷ [])

two_peers_are_served : IsServed buses 5 two_peers × SendsWhatIsTaken buses two_peers × FeedsWhatIsHanded buses two_peers
    × (map (λ conn. conn.fed) (course buses (events_of buses two_peers)).connections
    ≡ codes "SET CONNECTIONMODE SRCP INFO\nGO\n" ∷ codes "GO\nSET 1 POWER ON\n" ∷ [])
unfolding digits
two_peers_are_served = (record { turns_are = refl; asked = refl }, refl, refl, refl)

-- ---- memory is refused

-- to a peer that is accepted, which is closed, and to the GO of the next one
abbrev refused : List Call
refused =
    (ExpectCall None None ∷ NowCall (Ok 0) ∷ AcceptCall (Ok (Some 1)) false ∷ CloseCall 1 (Ok tt) ∷ [])
    ++ (ExpectCall None None ∷ NowCall (Ok 0) ∷ AcceptCall (Ok (Some 2)) true ∷ WriteCall 2 welcome (Ok 45) ∷ [])
    ++ nobody
    ++ (ReadCall 2 (Ok (got.Bytes 3)) (buffer (codes "GO\n")) (false ∷ []) ∷ wrote 2 (codes "0.000 500 ERROR out of resources\n") ∷ [])

refused_is_served : IsServed buses 3 refused × SendsWhatIsTaken buses refused
unfolding digits
refused_is_served = (record { turns_are = refl; asked = refl }, refl)

-- ---- what is not so served

-- a server that hands over nothing
silent_is_not : IsServed buses 1 (asked_in []) → ⊥
silent_is_not h = cc

-- one that closes a peer whose write was short
hasty_is_not : IsServed buses 1 (asked_in (WriteCall 1 welcome (Ok 5) ∷ CloseCall 1 (Ok tt) ∷ [])) → ⊥
hasty_is_not h = cc

-- one that reads before the welcome line is taken
eager_is_not : IsServed buses 1 (asked_in (quiet 1 ∷ greeting ∷ [])) → ⊥
eager_is_not h = cc

-- one that keeps an accepted peer to which memory was refused
keeping_is_not : IsServed buses 1 (ExpectCall None None ∷ NowCall (Ok 0) ∷ AcceptCall (Ok (Some 1)) false ∷ []) → ⊥
keeping_is_not h = cc
