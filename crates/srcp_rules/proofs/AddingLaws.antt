-- The rows that may be added to a registry: all rows of a device that is not there.
use Rattle.srcp_rules.proofs.Names
use Names.{◌≡◌, ℕ, ◌<◌, ◌≤◌, false, ◌&&◌, ◌==◌, List, [], ◌∷◌, map, Option, None, refl, sym, ap, ◌∙◌, true≢false, arith, range_with_len}
use Names.{Device, Mode, Value, first_key, IsMoment, Bus, row_count, rows_if, key_at, session_device, State, IsWhole, IsRowOf, has_row}
use Names.{is_there, row_put, AreNewRowsOf, false_from_ne_true}
use Names.value
use Rattle.srcp_rules.proofs.StepLaws.{IsRowOf-put}
use Rattle.srcp_grammar.proofs.LayoutLaws.{within}

-- a device of the layout that is not there has no row
pub none_there : (buses : List Bus) (state : State) → IsWhole buses state → (device : Device) → is_there device state ≡ false
    → 0 < row_count buses device → (port : ℕ) → has_row (key_at device port) state ≡ false
none_there buses state whole device absent some port =
    false_from_ne_true (has_row (key_at device port) state) (λ e.
    true≢false (sym (whole.complete (key_at device port) e 0 some) ∙ absent))

-- ---- sessions

-- each id is one of a device with one row
pub session_rows : (buses : List Bus) (session : ℕ) → 1 ≤ session → session ≤ 4294967295 → row_count buses (session_device session) ≡ 1
session_rows buses session low high = ap (λ b. rows_if (0 == 0 && b) 1) (within 1 4294967295 session low high)

-- ---- devices with one row

pub single_added : (buses : List Bus) (state : State) → IsWhole buses state
    → (device : Device) (moment : ℕ) (shows : Value) (due : Option ℕ) → 0 < row_count buses device → row_count buses device ≤ 1
    → is_there device state ≡ false → IsRowOf buses (row_put moment (first_key device) shows due)
    → AreNewRowsOf buses state device (row_put moment (first_key device) shows due ∷ [])
single_added buses state whole device moment shows due some one absent fits =
    let count : row_count buses device ≡ 1 = omega (arith, some, one) in
    record {
      all = record { keys = ap (λ n. map (key_at device) (range_with_len 0 n)) (sym count); few = omega arith; each = (fits, tt) };
      free = none_there buses state whole device absent some;
    }

-- the row of a session that begins may be added
pub session_added : (buses : List Bus) (state : State) → IsWhole buses state → (session moment : ℕ) (mode : Mode) → 1 ≤ session
    → session ≤ 4294967295 → IsMoment moment
    → is_there (session_device session) state ≡ false
    → AreNewRowsOf buses state (session_device session) (row_put moment (first_key (session_device session)) (value.Session mode) None ∷ [])
session_added buses state whole session moment mode low high now absent =
    let count = session_rows buses session low high in
    let some : 0 < row_count buses (session_device session) = omega (arith, count) in
    single_added buses state whole (session_device session) moment (value.Session mode) None some (omega (arith, count)) absent
    (IsRowOf-put buses whole.laid_out (first_key (session_device session)) moment (value.Session mode) None some now (refl, refl) tt)
