-- When a peer is lost whose socket takes nothing.
use Rattle.std.specs.Prelude.{◌≡◌, ℕ, ◌+◌, ◌-◌, ◌<◌, ◌≤◌, ◌==◌, nat_le, nat_lt, Bool, true, false, if◌then◌else◌}
use Rattle.std.specs.Prelude.{List, ◌∷◌, ◌++◌, fold}
use Rattle.std.specs.List.{AllByRecursion}
use Rattle.srcp_sockets.specs.declared.silence.Watch.{Watch}
use Rattle.srcp_sockets.specs.declared.silence.Watch.TheVariants as watch

-- the milliseconds for which a socket may take nothing although the door holds bytes for the peer
abbrev pub lost_after : ℕ
lost_after = 30000

-- the milliseconds for which a socket takes all before the system counts the answers of the peer's system again
abbrev pub calm_after : ℕ
calm_after = 60000

-- how a socket takes what is written, after a write took `count` of `all` bytes when the clock showed `now`
abbrev pub after_write : (count all now : ℕ) → Watch → Watch
after_write count all now watch.Taking = if nat_lt count all then watch.Full now else watch.Taking
after_write count all now (watch.Full since) = if count == 0 then watch.Full since else
    (if nat_lt count all then watch.Full now else watch.Emptied now)
after_write count all now (watch.Emptied since) = if nat_lt count all then watch.Full now else watch.Emptied now
after_write count all now over = over

-- .. and after a look: the peer is lost if its socket took nothing for so long, and a socket is calm that took all
abbrev pub after_look : (now : ℕ) → Watch → Watch
after_look now (watch.Full since) = if nat_le lost_after (now - since) then watch.Lost else watch.Full since
after_look now (watch.Emptied since) = if nat_le calm_after (now - since) then watch.Taking else watch.Emptied since
after_look now other = other

-- the peer was found lost
abbrev pub is_over : Watch → Bool
is_over watch.Lost = true
is_over watch.Told = true
is_over other = false

-- what a socket goes through, when the clock shows `now`
pub data Went : Type 0 where
  -- a write took `count` of `all` bytes
  Wrote : (count all now : ℕ) → Went
  -- the door looked at the socket
  Looked : (now : ℕ) → Went

abbrev pub seen : Watch → Went → Watch
seen w (Wrote count all now) = after_write count all now w
seen w (Looked now) = after_look now w

-- it comes within the time in which a peer whose socket took something is not lost
abbrev pub IsSoon : (taken : ℕ) → Went → Type 0
IsSoon taken (Wrote count all now) = (taken ≤ now) × (now < taken + lost_after)
IsSoon taken (Looked now) = (taken ≤ now) × (now < taken + lost_after)

-- a peer that was not lost, and whose socket took something, is not lost by whatever comes within that time
abbrev pub NobodyIsLostWhoTakes : Type 0
NobodyIsLostWhoTakes = (before after : List Went) (count all taken : ℕ)
    → is_over (fold seen watch.Taking before) ≡ false → 0 < count → AllByRecursion (IsSoon taken) after
    → is_over (fold seen watch.Taking (before ++ Wrote count all taken ∷ after)) ≡ false
