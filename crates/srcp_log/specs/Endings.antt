-- How far a peer is on the way to its end, by the steps so far.
use Rattle.std.specs.Prelude.{◌≡◌, ℕ, ◌<◌, ◌==◌, ◌&&◌, nat_le, nat_lt}
use Rattle.std.specs.Prelude.{Bool, true, false, not, if◌then◌else◌, List, fold}
use Rattle.std.specs.Prelude.{length, slice_index_or, Ok}
use Rattle.std.proofs.Props.{props}
use Rattle.srcp_door.specs.Calls.{Call, NowCall, WriteCall}
use Rattle.srcp_peers.specs.declared.ending.Ending.{Ending}
use Rattle.srcp_peers.specs.declared.ending.Ending.TheVariants.{Open, Settling, Settled}
use Rattle.srcp_peers.specs.declared.peer.Peer.{Peer}
use Rattle.srcp_peers.specs.declared.stay.Stay.TheVariants as stay
use Rattle.srcp_peers.specs.Accounts.{Account, Received, account, account_step, is_held, untouched}
use Rattle.srcp_peers.specs.Ends.{begun, written}
use Rattle.srcp_peers.specs.Steps.{Accepts, Answers, Step}

-- its input is over, and none of it held: a read found the end
abbrev pub is_all_read : Received → Bool
is_all_read received = received.ended && (not received.failed && not (is_held received))

-- a socket's account, and how far its peer is on the way to its end
pub record Leaving : Type 0 where
  pub account : Account
  pub ending : Ending

-- a moment begins a visit: one in which the input was over from the start, with fewer writes than the most of which
-- none was cut, had no more for the peer
abbrev pub ending_called : ℕ → Leaving → Call → Ending
ending_called socket x (NowCall answer) = begun x.ending (is_all_read x.account.received)
ending_called socket x (WriteCall who bytes (Ok count)) =
    if who == socket then written x.ending (not (nat_lt count (length bytes))) else x.ending
ending_called socket x other = x.ending

abbrev pub ending_step : ℕ → Leaving → Step → Ending
ending_step socket x (Accepts number (Ok done)) = if number == socket then Open else x.ending
ending_step socket x (Answers call) = ending_called socket x call
ending_step socket x other = x.ending

abbrev pub leaving_step : ℕ → Leaving → Step → Leaving
leaving_step socket x step = record {
  account = account_step socket x.account step;
  ending = ending_step socket x step;
}

-- what all steps say of it
abbrev pub leaving : ℕ → List Step → Leaving
leaving socket log = fold (leaving_step socket) (record { account = untouched; ending = Open }) log

abbrev pub ending_of : ℕ → List Step → Ending
ending_of socket log = (leaving socket log).ending

-- ---- a door's peers

-- it is as far as is wanted, or further
abbrev pub is_as_far : (wanted is : Ending) → Bool
is_as_far Open is = true
is_as_far (Settling most) Open = false
is_as_far (Settling most) (Settling writes) = nat_le writes most
is_as_far (Settling most) Settled = true
is_as_far Settled Open = false
is_as_far Settled (Settling writes) = false
is_as_far Settled Settled = true

-- so is each that is there
abbrev pub AreAsFar : List Step → List Peer → Type 0
AreAsFar log peers = (k : ℕ) (d : Peer) → k < length peers
    → (let p = slice_index_or peers k d in p.stay ≡ stay.Here → is_as_far (ending_of p.number log) p.ending ≡ true)

-- so is each whose visit was begun, before the moment is reported
abbrev pub AreVisited : List Step → List Peer → Type 0
AreVisited log peers = (k : ℕ) (d : Peer) → k < length peers
    → (let p = slice_index_or peers k d in p.stay ≡ stay.Here
    → is_as_far (begun (ending_of p.number log) (is_all_read (account p.number log).received)) p.ending ≡ true)

pub AreAsFar-prop : (log : List Step) (peers : List Peer) → IsProp (AreAsFar log peers)
AreAsFar-prop log peers = hlevel props
