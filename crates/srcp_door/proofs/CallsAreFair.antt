-- Which reads and writes are answered fairly.
use Rattle.std.proofs.Common.{◌≡◌, ℕ, ◌<◌, ◌≤◌, List, length, Result, Ok, Err, refl}
use Rattle.std.specs.Prelude.{IfOk}
use Rattle.srcp_door.specs.Calls.{IsFair, ReadCall, WriteCall}
use Rattle.srcp_door.specs.declared.door.DoorFault.{DoorFault}
use Rattle.srcp_door.specs.declared.door.Got.{Got}
use Rattle.srcp_door.specs.declared.door.Got.TheVariants as got

pub fair_read : (peer : ℕ) (answer : Result Got DoorFault) (most : ℕ) (buffer : List ℕ)
    → ((n : ℕ) → answer ≡ Ok (got.Bytes n) → (0 < n) × (n ≤ most)) → length buffer ≡ most → IsFair (ReadCall peer answer buffer)
fair_read peer (Ok (got.Bytes n)) most buffer count same =
    let within = count n refl in (within.0, rw same within.1)
fair_read peer other most buffer count same = tt

pub fair_write : (peer : ℕ) (bytes : List ℕ) (answer : Result ℕ DoorFault) → IfOk answer (λ n. n ≤ length bytes)
    → IsFair (WriteCall peer bytes answer)
fair_write peer bytes (Ok n) count = count
fair_write peer bytes (Err fault) count = tt
