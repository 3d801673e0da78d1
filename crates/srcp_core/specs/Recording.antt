-- The model of the code: what a run has recorded.
use Rattle.std.specs.Prelude.{◌≡◌, ℕ, zero, suc, Bool, true, false, if◌then◌else◌, List, [], ◌∷◌, ◌++◌, map, length}
use Rattle.std.specs.Prelude.{Option, Some, None, fold}
use Rattle.std.specs.Option.{option_map_or}
use Rattle.std.specs.Prelude.{slice_get, slice_set, slice_index_or}
use Rattle.srcp_feed.specs.declared.feed.Next.{Next}
use Rattle.srcp_feed.specs.declared.feed.Next.TheVariants.{Settled}
use Rattle.srcp_core.specs.Connection.{Connection, is_open, recorded}
use Rattle.srcp_core.specs.Course.{is_info}
use Rattle.srcp_core.specs.Held.{Held}
use Rattle.srcp_core.specs.Machine.{finish_at}
use Rattle.srcp_core.specs.Promised.{connection_outline}
use Rattle.srcp_core.specs.declared.record.ConnRecord.{ConnRecord}
use Rattle.srcp_core.specs.declared.record.CoreFault.{CoreFault}
use Rattle.srcp_core.specs.declared.record.Finish.TheVariants.{Live, Shut}
use Rattle.srcp_core.specs.declared.record.Refusal.{Refusal}
use Rattle.srcp_core.specs.declared.record.Step.{Step}
use Rattle.srcp_core.specs.declared.record.Step.TheVariants.{Began}

-- what was recorded
pub record Recording : Type 0 where
  pub keys : List (Option ℕ)  -- the key of each connection, while it is open
  pub steps : List Step
  pub connections : List ConnRecord
  pub refused : List Refusal

-- the key of the connection of that number, the first being 1
abbrev pub key_of : ℕ → List (Option ℕ) → Option ℕ
key_of zero _ = None
key_of (suc conn) keys = slice_index_or keys conn None

-- the keys without that of a number
abbrev pub without_key : ℕ → List (Option ℕ) → List (Option ℕ)
without_key zero keys = keys
without_key (suc n) keys = slice_set keys n None

-- what is recorded of a connection before the end
abbrev pub record_of : Connection → ConnRecord
record_of conn = record (recorded [] conn) { finish = if is_open conn then Live else Shut }

-- the record of the connection of that number is changed, if there is one
abbrev pub changed_record : ℕ → (ConnRecord → ConnRecord) → List ConnRecord → List ConnRecord
changed_record zero _ records = records
changed_record (suc index) change records =
    option_map_or (λ one. slice_set records index (change one)) (slice_get records index) records

-- the same of the whole recording
abbrev pub changed : ℕ → (ConnRecord → ConnRecord) → Recording → Recording
changed n change r = record r { connections = changed_record n change r.connections }

-- nothing yet
abbrev pub nothing_recorded : Recording
nothing_recorded = record { keys = []; steps = []; connections = []; refused = [] }

-- a connection was opened under a key
abbrev pub opened : ℕ → Recording → Recording
opened key r = record r {
  keys = r.keys ++ Some key ∷ [];
  connections =
      r.connections ++ record { session = 0; info = false; go_step = 0; sent = []; items = []; finish = Live } ∷ [];
}

-- a connection was shut
abbrev pub shut : ℕ → Recording → Recording
shut n r = changed n (λ one. record one { finish = Shut }) (record r { keys = without_key n r.keys })

-- the registry took steps
abbrev pub stepped : List Step → Recording → Recording
stepped steps r = record r { steps = r.steps ++ steps }

-- a session began, if the step says so
abbrev pub began : ℕ → Step → Recording → Recording
began n (Began session _ mode) r =
    changed n (λ one. record one { session = session; info = is_info mode; go_step = length r.steps }) r
began _ _ r = r

-- a line was answered by these steps
abbrev pub noted : ℕ → List Step → Recording → Recording
noted n steps r = fold (λ before step. began n step (stepped (step ∷ []) before)) r steps

-- a line was given, after that many steps
abbrev pub with_item : ℕ → Next → ConnRecord → ConnRecord
with_item steps what one = record one { items = one.items ++ record { steps = steps; what = what } ∷ [] }

-- an information session was given this, if anything; if nothing is left there is no line
abbrev pub gave : ℕ → Option Next → Recording → Recording
gave _ None r = r
gave _ (Some Settled) r = r
gave n (Some what) r = changed n (with_item (length r.steps) what) r

-- these bytes were taken
abbrev pub with_sent : ℕ → List ℕ → Recording → Recording
with_sent n bytes r = changed n (λ one. record one { sent = one.sent ++ bytes }) r

-- how each open connection stands in the end
abbrev pub finished_by : Held → Option ℕ → ConnRecord → ConnRecord
finished_by _ None one = one
finished_by held (Some key) one = record one { finish = finish_at key held }

-- how all of them stand in the end
abbrev pub finished : Held → List (Option ℕ) → List ConnRecord → List ConnRecord
finished _ [] records = records
finished _ (_ ∷ _) [] = []
finished held (key ∷ keys) (one ∷ records) = finished_by held key one ∷ finished held keys records

-- the event of that number was refused
abbrev pub with_refusal : ℕ → CoreFault → Recording → Recording
with_refusal event cause r = record r { refused = r.refused ++ record { event = event; fault = cause } ∷ [] }

-- ---- what is kept of a recording

-- the outline of a recording
abbrev pub recording_outline : Recording → Recording
recording_outline r = record r { steps = []; connections = map connection_outline r.connections }

-- the recording in full, or its outline
abbrev pub kept : (in_full : Bool) → Recording → Recording
kept true r = r
kept false r = recording_outline r

-- whichever recording it is that was kept, one is kept now that is its next
pub record Keeps (in_full : Bool) (IsNext : Recording → Recording → Type 0) (old new : Recording) : Type 0 where
  pub each : (r : Recording) → old ≡ kept in_full r → (later : Recording) × (new ≡ kept in_full later) × IsNext r later

-- the recording that is kept becomes the changed one
abbrev pub Becomes : (in_full : Bool) (change : Recording → Recording) (old new : Recording) → Type 0
Becomes in_full change old new = Keeps in_full (λ r later. later ≡ change r) old new
