-- A peer whose socket takes something is not lost within the time.
use Rattle.std.proofs.Common.{◌≡◌, ◌<◌, ◌≤◌, ◌+◌, ◌-◌, ◌==◌, ℕ, Bool, true, false, List, [], ◌∷◌, ◌++◌, refl, arith, nat_lt, nat_le}
use Rattle.std.proofs.Common.{if◌then◌else◌, true≢false}
use Rattle.std.proofs.lemmas.Bool.Decides.{nat_tests}
use Rattle.std.specs.Prelude.{⊤, fold}
use Rattle.std.specs.List.{AllByRecursion}
use Rattle.srcp_sockets.specs.declared.silence.Watch.{Watch}
use Rattle.srcp_sockets.specs.declared.silence.Watch.TheVariants as watch
use Rattle.srcp_sockets.specs.Silence.{IsSoon, Looked, Went, Wrote, after_look, after_write, calm_after, is_over, lost_after, seen}
use Rattle.srcp_sockets.proofs.laws.nobody_is_lost_who_takes.Goals as goal

-- the peer was not found lost, and its socket is not full since before that time
abbrev Takes : (taken : ℕ) → Watch → Type 0
Takes taken watch.Taking = ⊤
Takes taken (watch.Emptied since) = ⊤
Takes taken (watch.Full since) = taken ≤ since
Takes taken watch.Lost = ⊥
Takes taken watch.Told = ⊥

not_over : (taken : ℕ) (w : Watch) → Takes taken w → is_over w ≡ false
not_over taken watch.Taking t = refl
not_over taken (watch.Emptied since) t = refl
not_over taken (watch.Full since) t = refl
not_over taken watch.Lost t = absurd t
not_over taken watch.Told t = absurd t

-- a write that does not come before
full_or : (b : Bool) (taken now : ℕ) (w : Watch) → taken ≤ now → Takes taken w → Takes taken (if b then watch.Full now else w)
full_or true taken now w le t = le
full_or false taken now w le t = t

kept_or : (b : Bool) (taken since : ℕ) (w : Watch) → taken ≤ since → Takes taken w → Takes taken (if b then watch.Full since else w)
kept_or true taken since w le t = le
kept_or false taken since w le t = t

wrote : (taken count all now : ℕ) (w : Watch) → taken ≤ now → Takes taken w → Takes taken (after_write count all now w)
wrote taken count all now watch.Taking le t = full_or (nat_lt count all) taken now watch.Taking le tt
wrote taken count all now (watch.Emptied since) le t = full_or (nat_lt count all) taken now (watch.Emptied now) le tt
wrote taken count all now (watch.Full since) le t = kept_or (count == 0) taken since
    (if nat_lt count all then watch.Full now else watch.Emptied now) t
    (full_or (nat_lt count all) taken now (watch.Emptied now) le tt)
wrote taken count all now watch.Lost le t = absurd t
wrote taken count all now watch.Told le t = absurd t

-- a look within the time
not_lost : (b : Bool) (taken since : ℕ) → b ≡ false → taken ≤ since → Takes taken (if b then watch.Lost else watch.Full since)
not_lost true taken since e t = absurd (true≢false e)
not_lost false taken since e t = t

calm_or : (b : Bool) (taken since : ℕ) → Takes taken (if b then watch.Taking else watch.Emptied since)
calm_or true taken since = tt
calm_or false taken since = tt

early : (taken since now : ℕ) → taken ≤ since → now < taken + 30000 → nat_le 30000 (now - since) ≡ false
early taken since now le lt = grind (arith, nat_tests)

looked : (taken now : ℕ) (w : Watch) → now < taken + lost_after → Takes taken w → Takes taken (after_look now w)
looked taken now watch.Taking lt t = tt
looked taken now (watch.Emptied since) lt t = calm_or (nat_le calm_after (now - since)) taken since
looked taken now (watch.Full since) lt t = not_lost (nat_le lost_after (now - since)) taken since (early taken since now t lt) t
looked taken now watch.Lost lt t = absurd t
looked taken now watch.Told lt t = absurd t

stays : (taken : ℕ) (after : List Went) (w : Watch) → AllByRecursion (IsSoon taken) after → Takes taken w
    → Takes taken (fold seen w after)
stays taken [] w soon t = t
stays taken (Wrote count all now ∷ after) w soon t = stays taken after _ soon.1 (wrote taken count all now w soon.0.0 t)
stays taken (Looked now ∷ after) w soon t = stays taken after _ soon.1 (looked taken now w soon.0.1 t)

-- a write that took something, of a peer that was not lost
by_count : (b : Bool) (taken since : ℕ) (w : Watch) → b ≡ false → Takes taken w → Takes taken (if b then watch.Full since else w)
by_count true taken since w e t = absurd (true≢false e)
by_count false taken since w e t = t

is_more : (count : ℕ) → 0 < count → (count == 0) ≡ false
is_more count lt = grind (arith, nat_tests)

took : (count all taken : ℕ) (w : Watch) → is_over w ≡ false → 0 < count → Takes taken (after_write count all taken w)
took count all taken watch.Taking e lt = full_or (nat_lt count all) taken taken watch.Taking (omega arith) tt
took count all taken (watch.Emptied since) e lt = full_or (nat_lt count all) taken taken (watch.Emptied taken) (omega arith) tt
took count all taken (watch.Full since) e lt = by_count (count == 0) taken since
    (if nat_lt count all then watch.Full taken else watch.Emptied taken) (is_more count lt)
    (full_or (nat_lt count all) taken taken (watch.Emptied taken) (omega arith) tt)
took count all taken watch.Lost e lt = absurd (true≢false e)
took count all taken watch.Told e lt = absurd (true≢false e)

from : (before after : List Went) (count all taken : ℕ) (w : Watch) → is_over (fold seen w before) ≡ false → 0 < count
    → AllByRecursion (IsSoon taken) after → is_over (fold seen w (before ++ Wrote count all taken ∷ after)) ≡ false
from [] after count all taken w e lt soon = not_over taken _ (stays taken after _ soon (took count all taken w e lt))
from (x ∷ before) after count all taken w e lt soon = from before after count all taken (seen w x) e lt soon

pub returns : goal.returns
returns c before after count all taken e lt soon = from before after count all taken watch.Taking e lt soon
