-- What each step makes of the meaning of a peer's states.
use Rattle.std.proofs.Common.{◌≡◌, ◌∙◌, ℕ, Bool, true, false, List, ◌++◌, take, drop, length, if◌then◌else◌, Ok, refl}
use Rattle.std.proofs.Common.{ap, sym, subst, append_assoc, ◌==◌}
use Rattle.std.proofs.Common.{true≢false}
use Rattle.std.specs.Prelude.{◌&&◌, ◌||◌, nat_lt, not}
use Rattle.std.specs.Io.{StartsWith}
use Rattle.std.proofs.lemmas.List.{take-append-drop}
use Rattle.std.proofs.Math.Seq.{take-append_seam}
use Rattle.srcp_peers.specs.declared.readiness.Input.{Input}
use Rattle.srcp_peers.specs.declared.readiness.Input.TheVariants as input
use Rattle.srcp_peers.specs.declared.readiness.Output.{Output}
use Rattle.srcp_peers.specs.declared.readiness.Output.TheVariants as output
use Rattle.srcp_peers.specs.declared.system.IoFailure.{IoFailure}
use Rattle.srcp_peers.specs.declared.system.IoFailure.TheVariants.{WouldBlock, Interrupted, Fatal}
use Rattle.srcp_peers.specs.declared.stay.Stay.{Stay}
use Rattle.srcp_peers.specs.declared.stay.Stay.TheVariants as stay
use Rattle.srcp_peers.specs.Accounts.{Sent, Received, failed_write, wrote, woken_sent, woken_came}
use Rattle.srcp_peers.specs.Peers.{ComesAs, FindsAs, ReadsAs, WritesAs, after_failure, is_lost, output_after}
use Rattle.srcp_peers.specs.Peers.{woken_input, woken_output}

-- ---- the output

-- a list starts with its prefix
pub starts : (all prefix back : List ℕ) → all ≡ prefix ++ back → StartsWith all prefix
starts all prefix back is = ap (take (length prefix)) is ∙ take-append_seam prefix back

-- what was taken and what is left is together what it was
parted : (sent : Sent) (outgoing : List ℕ) (count : ℕ) → sent.written ≡ sent.took ++ outgoing
    → sent.written ≡ (sent.took ++ take count outgoing) ++ drop count outgoing
parted sent outgoing count is = is ∙ ap (λ g. sent.took ++ g) (sym (take-append-drop count outgoing))
    ∙ sym (append_assoc sent.took (take count outgoing) (drop count outgoing))

taken_as : (sent : Sent) (outgoing : List ℕ) (count : ℕ) (zero short : Bool) → sent.written ≡ sent.took ++ outgoing
    → sent.lost ≡ false → WritesAs (record sent { took = sent.took ++ take count outgoing; full = short; lost = sent.lost || zero })
    (drop count outgoing) (if zero then output.Lost else if short then output.Full else output.Open)
taken_as sent outgoing count true short is sound = (
  starts sent.written (sent.took ++ take count outgoing) (drop count outgoing) (parted sent outgoing count is),
  ap (λ b. b || true) sound,
)
taken_as sent outgoing count false true is sound = (parted sent outgoing count is, ap (λ b. b || false) sound, refl)
taken_as sent outgoing count false false is sound = (parted sent outgoing count is, ap (λ b. b || false) sound, refl)

-- what was taken and what is queued, if the socket may take more
queued_as : (sent : Sent) (outgoing : List ℕ) (state : Output) → is_lost state ≡ false → WritesAs sent outgoing state
    → (sent.written ≡ sent.took ++ outgoing) × (sent.lost ≡ false)
queued_as sent outgoing output.Open sound h = (h.0, h.1)
queued_as sent outgoing output.Full sound h = (h.0, h.1)
queued_as sent outgoing output.Lost sound h = absurd (true≢false sound)

-- a write that the system answered
pub wrote_as : (sent : Sent) (outgoing : List ℕ) (count : ℕ) (state : Output) → is_lost state ≡ false → WritesAs sent outgoing state
    → WritesAs (wrote sent outgoing (Ok count)) (drop count outgoing) (output_after count (length outgoing))
wrote_as sent outgoing count state sound h =
    let queued = queued_as sent outgoing state sound h in
    taken_as sent outgoing count (count == 0) (nat_lt count (length outgoing)) queued.0 queued.1

-- a write that failed
pub failed_as : (sent : Sent) (outgoing : List ℕ) (said : IoFailure) (state : Output) → is_lost state ≡ false
    → WritesAs sent outgoing state → WritesAs (failed_write sent said) outgoing (after_failure output.Open said)
failed_as sent outgoing said state sound h = by said (queued_as sent outgoing state sound h)
  where
    by : (s : IoFailure) → (sent.written ≡ sent.took ++ outgoing) × (sent.lost ≡ false)
        → WritesAs (failed_write sent s) outgoing (after_failure output.Open s)
    by WouldBlock queued = (queued.0, queued.1, refl)
    by Interrupted queued = (queued.0, queued.1, refl)
    by Fatal queued = (starts sent.written sent.took outgoing queued.0, refl)

-- its socket was found ready
pub woken_writes : (sent : Sent) (outgoing : List ℕ) (state : Output) (writable : Bool) → WritesAs sent outgoing state
    → WritesAs (woken_sent sent writable) outgoing (woken_output state writable)
woken_writes sent outgoing output.Open writable h = (h.0, h.1, ap (λ b. b && not writable) h.2)
woken_writes sent outgoing output.Full true h = (h.0, h.1, ap (λ b. b && false) h.2)
woken_writes sent outgoing output.Full false h = (h.0, h.1, ap (λ b. b && true) h.2)
woken_writes sent outgoing output.Lost writable h = h

-- ---- the input

-- bytes were handed out
handed_more : (received : Received) (bytes rest : List ℕ) → received.gave ≡ received.handed ++ (bytes ++ rest)
    → received.gave ≡ (received.handed ++ bytes) ++ rest
handed_more received bytes rest is = is ∙ sym (append_assoc received.handed bytes rest)

pub handed_as : (received : Received) (bytes rest : List ℕ) (state : Input) → ReadsAs received (bytes ++ rest) state
    → ReadsAs (record received { handed = received.handed ++ bytes }) rest state
handed_as received bytes rest state h = (handed_more received bytes rest h.0, by state h.1)
  where
    by : (s : Input) → FindsAs received s → FindsAs (record received { handed = received.handed ++ bytes }) s
    by input.Ready f = f
    by input.Emptying f = f
    by input.Quiet f = f
    by input.Ended f = f
    by input.Failed f = f

-- its socket was found ready
woken_finds : (received : Received) (state : Input) (readable closed : Bool) → FindsAs received state
    → FindsAs (woken_came received readable closed) (woken_input state readable closed)
woken_finds received input.Ready readable true h = (h.0, h.1, ap (λ b. b || true) h.2, ap (λ b. b && not (readable || true)) h.3)
woken_finds received input.Ready readable false h = (h.0, h.1, ap (λ b. b || false) h.2, ap (λ b. b && not (readable || false)) h.3)
woken_finds received input.Emptying readable closed h =
    (h.0, h.1, ap (λ b. b || closed) h.2, ap (λ b. b && not (readable || closed)) h.3)
woken_finds received input.Quiet true true h = (h.0, h.1, ap (λ b. b || true) h.2, ap (λ b. b && false) h.3)
woken_finds received input.Quiet false true h = (h.0, h.1, ap (λ b. b || true) h.2, ap (λ b. b && false) h.3)
woken_finds received input.Quiet true false h = (h.0, h.1, ap (λ b. b || false) h.2, ap (λ b. b && false) h.3)
woken_finds received input.Quiet false false h = (h.0, h.1, ap (λ b. b || false) h.2, ap (λ b. b && true) h.3)
woken_finds received input.Ended readable closed h = h
woken_finds received input.Failed readable closed h = h

-- ---- the input of a peer that may linger

-- one that is there
pub comes_here : (received : Received) (incoming : List ℕ) (state : Input) (here : Stay) → here ≡ stay.Here
    → ReadsAs received incoming state → ComesAs received incoming state here
comes_here received incoming state now e h = subst (ComesAs received incoming state) (sym e) h

pub reads_here : (received : Received) (incoming : List ℕ) (state : Input) (here : Stay) → here ≡ stay.Here
    → ComesAs received incoming state here → ReadsAs received incoming state
reads_here received incoming state now e h = subst (ComesAs received incoming state) e h

pub woken_comes : (received : Received) (incoming : List ℕ) (state : Input) (here : Stay) (readable closed : Bool)
    → ComesAs received incoming state here
    → ComesAs (woken_came received readable closed) incoming (woken_input state readable closed) here
woken_comes received incoming state stay.Here readable closed h = (h.0, woken_finds received state readable closed h.1)
woken_comes received incoming state (stay.Draining since) readable closed h = (h.0, woken_finds received state readable closed h.1)
woken_comes received incoming state (stay.Shut since) readable closed h = (h.0, woken_finds received state readable closed h.1)

-- what came of any peer starts with what was handed out
pub comes_starts : (received : Received) (incoming : List ℕ) (state : Input) (here : Stay) → ComesAs received incoming state here
    → StartsWith received.gave received.handed
comes_starts received incoming state stay.Here h = starts received.gave received.handed incoming h.0
comes_starts received incoming state (stay.Draining since) h = h.0
comes_starts received incoming state (stay.Shut since) h = h.0

-- what reads found of any peer is as its input is
pub comes_finds : (received : Received) (incoming : List ℕ) (state : Input) (here : Stay) → ComesAs received incoming state here
    → FindsAs received state
comes_finds received incoming state stay.Here h = h.1
comes_finds received incoming state (stay.Draining since) h = h.1
comes_finds received incoming state (stay.Shut since) h = h.1
