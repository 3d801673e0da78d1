-- The rows of an opening registry are stamped with a moment, one after another.
use Rattle.srcp_core.proofs.Names.{◌≡◌, ℕ, ◌<◌, Bool, true, false, cond, List, [], ◌∷◌, ◌++◌, map, length, refl, ap, sym, ◌∙◌, subst}
use Rattle.srcp_core.proofs.Names.{true≢false, arith, map-append, AllByRecursion, filter, Some, None, Less, key_cmp, has_reached, is_after}
use Rattle.srcp_core.proofs.Names.{IsMoment, Cursor, Start, After, Row, Key, after_from_less, after_not_itself, all_append, all_weaker}
use Rattle.srcp_core.proofs.Names.{Bus, power_device, State, IsRising, IsRowOf, first_row, opening, opening_on, row_after, row_at}
use Rattle.srcp_core.proofs.Names.{each_filtered, fewer_beyond, row_key}
use Rattle.std.proofs.Common.{not}
use Rattle.std.specs.List.{range_with_len}
use Rattle.std.specs.Ordering.{is_gt}
use Rattle.srcp_info.specs.declared.value.Value.TheVariants as value
use Rattle.srcp_info.proofs.ClientLaws.{filter-put_high, put_over, reached_below}
use Rattle.srcp_grammar.specs.Devices.{fb_device}
use Rattle.srcp_rules.specs.State.{put_row}
use Rattle.srcp_grammar.proofs.FindLaws.{found_holds}
use Rattle.srcp_rules.proofs.PutLaws.{put_row-past}
use Rattle.srcp_rules.proofs.CursorLaws.{beyond}
use Rattle.srcp_rules.proofs.StateLaws.{row_at-first, row_at-later}

-- the row with that stamp
abbrev pub stamped : ℕ → Row → Row
stamped moment row = record row { shown = record row.shown { stamp = moment } }

-- the row as it is where it was reached, and stamped where it was not
abbrev pub stamped_unless : ℕ → Bool → Row → Row
stamped_unless moment true row = row
stamped_unless moment false row = stamped moment row

-- the rows, of which those beyond the cursor are stamped
abbrev pub stamped_beyond : ℕ → Cursor → State → State
stamped_beyond moment at state = map (λ row. stamped_unless moment (has_reached at row.shown.key) row) state

-- ---- the opening registry

map_made : (moment bus : ℕ) (ports : List ℕ)
    → map (stamped moment) (map (λ port. first_row 0 (fb_device bus port) (value.Fb false)) ports)
    ≡ map (λ port. first_row moment (fb_device bus port) (value.Fb false)) ports
map_made moment bus [] = refl
map_made moment bus (port ∷ ports) = cc (map_made moment bus ports)

map_power : (moment bus : ℕ) (on : Bool)
    → map (stamped moment) (cond on (first_row 0 (power_device bus) (value.Power false []) ∷ []) [])
    ≡ cond on (first_row moment (power_device bus) (value.Power false []) ∷ []) []
map_power moment bus true = refl
map_power moment bus false = refl

map_bus : (moment : ℕ) (bus : Bus) → map (stamped moment) (opening_on 0 bus) ≡ opening_on moment bus
map_bus moment bus =
    map-append _ _
    (map (λ port. first_row 0 _ _) _)
    ∙ (λ i. map_power moment bus.number bus.power i ++ map_made moment bus.number (range_with_len 1 bus.fb_ports) i)

-- it is stamped as a whole
pub opening_stamped : (moment : ℕ) (buses : List Bus) → stamped_beyond moment Start (opening buses 0) ≡ opening buses moment
opening_stamped moment [] = refl
opening_stamped moment (bus ∷ buses) =
    map-append _ _ _
    ∙ (λ i. map_bus moment bus i ++ opening_stamped moment buses i)

-- ---- the row that is found

pub found_there : (at : Cursor) (state : State) (row : Row) → IsRising state → row_after at state ≡ Some row
    → row_at row.shown.key state ≡ Some row
found_there at [] row rising next = let bad : None ≡ Some row = next in cc
found_there at (first ∷ state) row rising next = by (found_there at state row rising.1) _ next
  where
    by : (row_after at state ≡ Some row → row_at row.shown.key state ≡ Some row) → (b : Bool)
        → cond (not b) (Some first) (row_after at state) ≡ Some row → row_at row.shown.key (first ∷ state) ≡ Some row
    by ih true e = row_at-later first state rising _ row (ih e)
    by ih false e =
        let same : first ≡ row = cc in
        subst (λ (other : Row). row_at other.shown.key (first ∷ state) ≡ Some other) same (row_at-first first state)

pub row_found : (buses : List Bus) (at : Cursor) (state : State) (row : Row) → AllByRecursion (IsRowOf buses) state
    → row_after at state ≡ Some row → IsRowOf buses row
row_found buses at state row each next = found_holds _ (λ other. not _) state each row next

-- it is one of the layout with the other stamp too
pub stamped_fits : (buses : List Bus) (moment : ℕ) (row : Row) → IsMoment moment → IsRowOf buses row → IsRowOf buses (stamped moment row)
stamped_fits buses moment row now of = record {
  place = of.place;
  shown = record { moment = now; address = of.shown.address; value = of.shown.value };
  due = of.due;
}

-- ---- one more row is stamped

module _ (moment : ℕ) (at : Cursor) where
  -- rows above one that was not reached are all beyond
  above : (key : Key) → has_reached at key ≡ false → (state : State) → AllByRecursion (λ other. key_cmp key other.shown.key ≡ Less) state
      → stamped_beyond moment (After key) state ≡ stamped_beyond moment at state
  above key r [] h = refl
  above key r (row ∷ state) h =
      (λ i. stamped_unless moment (ahead i) row ∷ above key r state h.1 i)
    where
      behind : (b : Bool) → has_reached at row.shown.key ≡ b → b ≡ false
      behind true e = absurd (true≢false (sym (reached_below at key _ (cc h.0) e) ∙ r))
      behind false e = refl

      ahead : has_reached (After key) row.shown.key ≡ has_reached at row.shown.key
      ahead = cc (after_from_less _ key h.0, behind _ refl)

  -- the row is stamped, and those beyond it are still to be
  abbrev pub StampedNext : Row → State → Type 0
  StampedNext row state = stamped_beyond moment (After row.shown.key) (put_row (stamped moment row) state) ≡ stamped_beyond moment at state

  pub stamped_next : (state : State) (row : Row) → IsRising state → row_after at state ≡ Some row → StampedNext row state
  stamped_next [] row rising next = let bad : None ≡ Some row = next in cc
  stamped_next (first ∷ state) row rising next = by (stamped_next state row rising.1) _ refl next
    where
      later : StampedNext row state → (less : key_cmp first.shown.key row.shown.key ≡ Less) → has_reached at first.shown.key ≡ true
          → StampedNext row (first ∷ state)
      later rest less r =
          ap (stamped_beyond moment (After row.shown.key)) (put_row-past (stamped moment row) (first ∷ []) state (less, tt))
          ∙ (λ i. stamped_unless moment ((ap (λ o. not (is_gt o)) less ∙ sym r) i) first ∷ rest i)

      here : has_reached at first.shown.key ≡ false → StampedNext first (first ∷ state)
      here r =
          ap (stamped_beyond moment (After first.shown.key)) (put_over row_key _ [] first state refl tt rising.0)
          ∙ (λ i. stamped_unless moment (ap not (after_not_itself first.shown.key) i) (stamped moment first)
          ∷ above _ r state rising.0 i)
          ∙ ap (λ b. stamped_unless moment b first ∷ stamped_beyond moment at state) (sym r)

      by : (row_after at state ≡ Some row → StampedNext row state) → (b : Bool) → has_reached at first.shown.key ≡ b
          → cond (not b) (Some first) (row_after at state) ≡ Some row → StampedNext row (first ∷ state)
      by ih true r e =
          later (ih e)
          (found_holds (λ other. key_cmp first.shown.key other.shown.key ≡ Less)
          (λ other. not (has_reached at other.shown.key)) state rising.0 row e) r
      by ih false r e =
          let same : first ≡ row = cc in
          subst (λ (other : Row). StampedNext other (first ∷ state)) same (here r)

  -- and none is stamped once no row is beyond
  pub stamped_none : (state : State) → row_after at state ≡ None → stamped_beyond moment at state ≡ state
  stamped_none [] next = refl
  stamped_none (first ∷ state) next = by (stamped_none state) _ refl next
    where
      by : (row_after at state ≡ None → stamped_beyond moment at state ≡ state) → (b : Bool) → has_reached at first.shown.key ≡ b
          → cond (not b) (Some first) (row_after at state) ≡ None → stamped_beyond moment at (first ∷ state) ≡ first ∷ state
      by ih true r e = (λ i. stamped_unless moment (r i) first ∷ ih e i)
      by ih false r e = cc

-- ---- what stays

pub stamped_each : (buses : List Bus) (row : Row) (state : State) → IsRowOf buses row → AllByRecursion (IsRowOf buses) state
    → AllByRecursion (IsRowOf buses) (put_row row state)
stamped_each buses row state of each =
    all_append (IsRowOf buses) (filter (λ other. is_after row.shown.key other.shown.key) state)
    (row ∷ filter (λ other. is_after other.shown.key row.shown.key) state)
    (left (λ other. is_after row.shown.key other.shown.key)) (of, left (λ other. is_after other.shown.key row.shown.key))
  where
    left : (p : Row → Bool) → AllByRecursion (IsRowOf buses) (filter p state)
    left p =
        all_weaker (λ other. IsRowOf buses other × (p other ≡ true)) _ (λ other h. h.0) _
        (each_filtered (IsRowOf buses) p state each)

-- fewer rows are left beyond it
pub fewer_stamped : (moment : ℕ) (at : Cursor) (state : State) (row : Row) → IsRising state → row_after at state ≡ Some row
    → length (beyond (After row.shown.key) (put_row (stamped moment row) state)) < length (beyond at state)
fewer_stamped moment at state row rising next =
    let same : beyond (After row.shown.key) (put_row (stamped moment row) state) ≡ beyond (After row.shown.key) state =
    filter-put_high row_key (λ other. not _) _ state
    (λ other h. twice _ h) in
    let size = ap (λ (rows : State). length rows) same in
    let less = fewer_beyond at state rising row next in
    omega (arith, size, less)
  where
    twice : (b : Bool) → not (not b) ≡ true → b ≡ true
    twice true h = refl
    twice false h = h
