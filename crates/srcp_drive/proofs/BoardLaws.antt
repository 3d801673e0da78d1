-- Neither board asks the registry for anything.
use Rattle.std.proofs.Common.{◌≡◌, ◌∙◌, ℕ, Bool, true, false, List, [], ◌∷◌, Option, Some, None, refl, ap, sym, subst, suc, zero, arith}
use Rattle.std.specs.Prelude.{◌&&◌, ◌==◌, ◌-◌, ◌*◌, length, nat_le, nat_lt}
use Rattle.std.specs.Prelude.{if◌then◌else◌, is_none, is_some, map, replicate, slice_get, slice_set, ◌+◌}
use Rattle.std.specs.List.{list_all, position, position_or_len}
use Rattle.std.specs.Option.{option_map_or}
use Rattle.std.proofs.lemmas.Bool.{and_parts}
use Rattle.std.proofs.lemmas.Grind.{common_steps}
use Rattle.srcp_driver.specs.Board.{Board, board_after, board_heard, board_puts, board_start, board_tells, setting_told, setting_to_put}
use Rattle.srcp_driver.specs.Board.{is_row, setting_put}
use Rattle.srcp_driver.specs.Drives.{is_same_way}
use Rattle.srcp_driver.specs.Switches.{is_due, is_switch_to_put, switch_aged, switch_forgotten}
use Rattle.srcp_driver.specs.Switches.{switch_kept, switch_row, switch_told, unknown}
use Rattle.srcp_driver.specs.declared.event.Event.{Event}
use Rattle.srcp_driver.specs.declared.event.Event.TheVariants as event
use Rattle.srcp_driver.specs.declared.settings.BoardEvent.TheVariants as board
use Rattle.srcp_driver.specs.declared.settings.Kind.{Kind}
use Rattle.srcp_driver.specs.declared.settings.Setting.{Setting}
use Rattle.srcp_driver.specs.declared.switch.Switch.{Switch}
use Rattle.srcp_driver.specs.declared.drive.Drive.{Drive}
use Rattle.srcp_info.specs.declared.change.Change.{Change}
use Rattle.srcp_info.specs.declared.change.Change.TheVariants.{Put as PutRow, Gone}
use Rattle.srcp_info.specs.declared.key.Key.{Key}
use Rattle.srcp_info.specs.declared.value.Value.{Value}
use Rattle.srcp_info.specs.declared.value.Value.TheVariants.{Fb, GaInit, GaPort, GlInit, GlState, Lock, Power, Session}
use Rattle.srcp_info.specs.Limits.{most_functions}
use Rattle.srcp_stations.specs.Limits.{greatest_turnout}
use Rattle.srcp_stations.specs.declared.said.Said.{Said}
use Rattle.srcp_stations.specs.declared.said.Said.TheVariants as said
use Rattle.srcp_drive.specs.Desks.{Desk, also, boards, cab_does, cab_row, changed, function_heard, functions_heard, gone, is_gl, is_main}
use Rattle.srcp_drive.specs.Desks.{is_only_told, is_stop_all, left_over, maybe, next, nothing, one, power_event, power_row, row_noted}
use Rattle.srcp_drive.specs.Desks.{row_taken, says, taken, taken_so, turnout_row}
use Rattle.srcp_drive.specs.Engines.{drive_at, most_cabs, place_of}
use Rattle.srcp_drive.specs.Laws.{BoardsAskNothing, course}
use Rattle.srcp_drive.specs.declared.engine.State.{State}
use Rattle.srcp_drive.specs.declared.hearing.Heard.{Heard}
use Rattle.srcp_drive.specs.declared.hearing.Heard.TheVariants as tells

-- its row is what is commanded, and the registry was not asked for it
abbrev is_calm : Switch → Bool
is_calm s = is_none s.asked && option_map_or (λ on. is_same_way s.row on) s.command true

pub record IsIdle (b : Board) : Type 0 where
  pub waiting : b.waiting ≡ None
  pub calm : list_all is_calm b.switches ≡ true

-- ---- lists of them

calm_map : (change : Switch → Switch) → ((s : Switch) → is_calm s ≡ true → is_calm (change s) ≡ true) → (xs : List Switch)
    → list_all is_calm xs ≡ true → list_all is_calm (map change xs) ≡ true
calm_map change h [] e = refl
calm_map change h (x ∷ xs) e =
    let both = and_parts (is_calm x) (list_all is_calm xs) e in rw (h x both.0, calm_map change h xs both.1) refl

calm_set : (xs : List Switch) (n : ℕ) (s : Switch) → is_calm s ≡ true → list_all is_calm xs ≡ true
    → list_all is_calm (slice_set xs n s) ≡ true
calm_set [] n s c e = refl
calm_set (x ∷ xs) zero s c e = let both = and_parts (is_calm x) (list_all is_calm xs) e in rw (c, both.1) refl
calm_set (x ∷ xs) (suc n) s c e =
    let both = and_parts (is_calm x) (list_all is_calm xs) e in rw (both.0, calm_set xs n s c both.1) refl

calm_get : (xs : List Switch) (n : ℕ) (s : Switch) → slice_get xs n ≡ Some s → list_all is_calm xs ≡ true → is_calm s ≡ true
calm_get [] n s is e = absurd (cc)
calm_get (x ∷ xs) zero s is e =
    let same : x ≡ s = cc in ap is_calm (sym same) ∙ (and_parts (is_calm x) (list_all is_calm xs) e).0
calm_get (x ∷ xs) (suc n) s is e = calm_get xs n s is (and_parts (is_calm x) (list_all is_calm xs) e).1

calm_at : (change : Switch → Switch) → ((s : Switch) → is_calm s ≡ true → is_calm (change s) ≡ true) → (xs : List Switch) (n : ℕ)
    (x : Option Switch) → slice_get xs n ≡ x → list_all is_calm xs ≡ true
    → list_all is_calm (option_map_or (λ s. slice_set xs n (change s)) x xs) ≡ true
calm_at change h xs n None is e = e
calm_at change h xs n (Some s) is e = calm_set xs n (change s) (h s (calm_get xs n s is e)) e

calm_start : (count : ℕ) → list_all is_calm (replicate count unknown) ≡ true
calm_start zero = refl
calm_start (suc count) = calm_start count

-- none is to be asked for
not_asked : (s : Switch) (x : Option Bool) → s.command ≡ x → is_calm s ≡ true → is_switch_to_put s ≡ false
not_asked s None is e = rw is refl
not_asked s (Some on) is e =
    let same : is_same_way s.row on ≡ true = ap (λ x. option_map_or (λ on. is_same_way s.row on) x true) (sym is)
    ∙ (and_parts (is_none s.asked) (option_map_or (λ on. is_same_way s.row on) s.command true) e).1 in
    rw (is, same) refl

past_all : (xs : List Switch) → list_all is_calm xs ≡ true → position_or_len is_switch_to_put xs ≡ length xs
past_all [] e = refl
past_all (x ∷ xs) e =
    let both = and_parts (is_calm x) (list_all is_calm xs) e in rw (not_asked x x.command refl both.0, past_all xs both.1) (omega arith)

none_asked : (xs : List Switch) → list_all is_calm xs ≡ true → position is_switch_to_put xs ≡ None
none_asked xs e = let all = past_all xs e in grind (arith, common_steps, all)

-- ---- what changes one

no_value : (x : Option Bool) → is_none x ≡ true → x ≡ None
no_value None e = refl
no_value (Some on) e = absurd (cc)

same_way : (on : Bool) → is_same_way on on ≡ true
same_way true = refl
same_way false = refl

calm_row : (on : Bool) (s : Switch) → is_calm s ≡ true → is_calm (switch_row on s) ≡ true
calm_row on s e =
    let none : s.asked ≡ None =
    no_value s.asked (and_parts (is_none s.asked) (option_map_or (λ on. is_same_way s.row on) s.command true) e).0 in
    rw (none, same_way on) refl

kept_of : (kept : Bool) (s : Switch) → is_calm s ≡ true → is_calm (if kept then switch_forgotten s else s) ≡ true
kept_of true s e = e
kept_of false s e = e

calm_kept : (s : Switch) → is_calm s ≡ true → is_calm (switch_kept s) ≡ true
calm_kept s e = kept_of (is_some s.awaited) s e

aged_of : (due : Bool) (s : Switch) → is_calm s ≡ true → is_calm (if due then record s { told = None; is_late = true } else s) ≡ true
aged_of true s e = e
aged_of false s e = e

calm_aged : (now : ℕ) (s : Switch) → is_calm s ≡ true → is_calm (switch_aged now s) ≡ true
calm_aged now s e = aged_of (is_due now s) s e

-- ---- what a board takes in

idle_start : (count : ℕ) (kind : Kind) → IsIdle (board_start count kind)
idle_start count kind = record { waiting = refl; calm = calm_start count }

begun_of : (kept : Bool) (xs : List Switch) → list_all is_calm xs ≡ true
    → list_all is_calm (if kept then map switch_kept xs else map switch_forgotten xs) ≡ true
begun_of true xs e = calm_map switch_kept calm_kept xs e
begun_of false xs e = calm_map switch_forgotten (λ s e. e) xs e

idle_row : (b : Board) (n : ℕ) (on : Bool) → IsIdle b → IsIdle (board_heard b (board.Row n on))
idle_row b n on h = record {
  waiting = h.waiting;
  calm = calm_at (switch_row on) (calm_row on) b.switches n (slice_get b.switches n) refl h.calm;
}

idle_greeted : (b : Board) → IsIdle b → IsIdle (board_heard b board.Greeted)
idle_greeted b h = record { waiting = h.waiting; calm = begun_of b.kind.is_kept b.switches h.calm }

idle_gone : (b : Board) → IsIdle b → IsIdle (board_heard b board.Gone)
idle_gone b h = record { waiting = h.waiting; calm = begun_of b.kind.is_kept b.switches h.calm }

idle_moment : (b : Board) (now : ℕ) → IsIdle b → IsIdle (board_heard b (board.Moment now))
idle_moment b now h = record { waiting = h.waiting; calm = calm_map (switch_aged now) (calm_aged now) b.switches h.calm }

nothing_to_put : (b : Board) → IsIdle b → setting_to_put b ≡ None
nothing_to_put b h = rw (h.waiting, none_asked b.switches h.calm) refl

idle_puts : (b : Board) → IsIdle b → IsIdle (board_puts b)
idle_puts b h =
    subst IsIdle (sym (ap (λ (x : Option Setting). option_map_or (setting_put b) x b) (nothing_to_put b h))) h

tells_of : (b : Board) (x : Option Setting) → IsIdle b → IsIdle (option_map_or (setting_told b) x b)
tells_of b None h = h
tells_of b (Some setting) h = record {
  waiting = h.waiting;
  calm = calm_at (switch_told setting.is_on b.kind.confirms b.clock) (λ s e. e) b.switches setting.place
      (slice_get b.switches setting.place) refl h.calm;
}

idle_turn : (b : Board) (may : Bool) → IsIdle b → IsIdle (board_after b board.Turn may)
idle_turn b true h = idle_puts (board_tells b) (tells_of b _ h)
idle_turn b false h = idle_puts b h

-- ---- what a desk takes in

pub record IsQuiet (d : Desk) : Type 0 where
  pub functions : IsIdle d.functions
  pub turnouts : IsIdle d.turnouts

quiet_one : (d : Desk) (e : Event) → IsQuiet d → IsQuiet (one d e).desk
unfolding one
quiet_one d e h = record { functions = h.functions; turnouts = h.turnouts }

quiet_maybe : (d : Desk) (e : Option Event) → IsQuiet d → IsQuiet (maybe d e).desk
unfolding maybe
quiet_maybe d None h = h
quiet_maybe d (Some e) h = quiet_one d e h

quiet_greeted : (d : Desk) → IsQuiet d → IsQuiet (boards d board.Greeted)
unfolding boards
quiet_greeted d h = record {
  functions = idle_puts _ (idle_greeted d.functions h.functions);
  turnouts = idle_puts _ (idle_greeted d.turnouts h.turnouts);
}

quiet_gone : (d : Desk) → IsQuiet d → IsQuiet (boards d board.Gone)
unfolding boards
quiet_gone d h = record {
  functions = idle_puts _ (idle_gone d.functions h.functions);
  turnouts = idle_puts _ (idle_gone d.turnouts h.turnouts);
}

quiet_moment : (d : Desk) (now : ℕ) → IsQuiet d → IsQuiet (boards d (board.Moment now))
unfolding boards
quiet_moment d now h = record {
  functions = idle_puts _ (idle_moment d.functions now h.functions);
  turnouts = idle_puts _ (idle_moment d.turnouts now h.turnouts);
}

quiet_next : (d : Desk) → IsQuiet d → IsQuiet (next d).desk
unfolding next
quiet_next d h = record { functions = idle_turn d.functions _ h.functions; turnouts = idle_turn d.turnouts _ h.turnouts }

heard_of : (b : Board) (place : ℕ) (on same : Bool) → IsIdle b
    → IsIdle (if same then b else board_after b (board.Row place on) false)
heard_of b place on true h = h
heard_of b place on false h = idle_puts _ (idle_row b place on h)

idle_function : (b : Board) (place : ℕ) (on : Bool) → IsIdle b → IsIdle (function_heard b place on)
unfolding function_heard
idle_function b place on h = heard_of b place on (is_row b.switches place on) h

idle_functions : (b : Board) (place : ℕ) (bits : List Bool) → IsIdle b → IsIdle (functions_heard b place bits)
idle_functions b place [] h = h
idle_functions b place (on ∷ bits) h = idle_functions (function_heard b place on) (place + 1) bits (idle_function b place on h)

quiet_does : (d : Desk) (n : ℕ) (drive : Drive) (listed : Bool) (bits : List Bool) → IsQuiet d
    → IsQuiet (cab_does d n drive listed bits).desk
unfolding cab_does
quiet_does d n drive listed bits h =
    quiet_one _ _ (record { functions = idle_functions d.functions _ bits h.functions; turnouts = h.turnouts })

does_of : (d : Desk) (n : ℕ) (x : Option Drive) (listed : Bool) (bits : List Bool) → IsQuiet d
    → IsQuiet (option_map_or (λ drive. cab_does d n drive listed bits) x (nothing d)).desk
does_of d n None listed bits h = h
does_of d n (Some drive) listed bits h = quiet_does d n drive listed bits h

row_of : (d : Desk) (x : Option ℕ) (listed : Bool) (state : State) (bits : List Bool) → IsQuiet d
    → IsQuiet (option_map_or
    (λ n. option_map_or (λ drive. cab_does d n drive listed bits) (drive_at d.engines n state) (nothing d)) x (nothing d)).desk
row_of d None listed state bits h = h
row_of d (Some n) listed state bits h = does_of d n (drive_at d.engines n state) listed bits h

quiet_cab_row : (d : Desk) (address : ℕ) (listed : Bool) (state : State) (bits : List Bool) → IsQuiet d
    → IsQuiet (cab_row d address listed state bits).desk
unfolding cab_row
quiet_cab_row d address listed state bits h = row_of d (place_of d.engines address) listed state bits h

power_of : (d : Desk) (stops : Bool) (e : Option Event) → IsQuiet d
    → IsQuiet (if stops then also (one d event.StopAll) e else maybe d e).desk
power_of d true e h = quiet_maybe (one d event.StopAll).desk e (quiet_one d event.StopAll h)
power_of d false e h = quiet_maybe d e h

quiet_power : (d : Desk) (listed on : Bool) (text : List ℕ) → IsQuiet d → IsQuiet (power_row d listed on text).desk
unfolding power_row
quiet_power d listed on text h =
    power_of (record d { is_on = on }) (is_stop_all text) (power_event listed d.is_on on (is_only_told text))
    (record { functions = h.functions; turnouts = h.turnouts })

turnout_of : (d : Desk) (key : Key) (goes : Bool) → IsQuiet d
    → IsQuiet (if goes then record d { turnouts = board_after d.turnouts (board.Row (key.address - 1) (nat_lt 1 key.port)) false } else d)
turnout_of d key true h = record { functions = h.functions; turnouts = idle_puts _ (idle_row d.turnouts _ _ h.turnouts) }
turnout_of d key false h = h

quiet_turnout : (d : Desk) (key : Key) (on : Bool) → IsQuiet d → IsQuiet (turnout_row d key on)
unfolding turnout_row
quiet_turnout d key on h = turnout_of d key (on && nat_le 1 key.address) h

quiet_row : (d : Desk) (key : Key) (listed : Bool) (value : Value) → IsQuiet d → IsQuiet (row_taken d key listed value).desk
unfolding row_taken
quiet_row d key listed (Session mode) h = h
quiet_row d key listed (Power on text) h = quiet_power d listed on text h
quiet_row d key listed (GlInit letter version steps functions) h = record { functions = h.functions; turnouts = h.turnouts }
quiet_row d key listed (GlState mode v vmax functions) h = quiet_cab_row d key.address listed _ functions h
quiet_row d key listed (GaInit letter) h = h
quiet_row d key listed (GaPort on) h = quiet_turnout d key on h
quiet_row d key listed (Fb on) h = h
quiet_row d key listed (Lock seconds session) h = h

gone_of : (d : Desk) (x : Option ℕ) (e : ℕ → Event) → IsQuiet d
    → IsQuiet (option_map_or (λ n. one (record d { engines = left_over d.engines n }) (e n)) x (nothing d)).desk
gone_of d None e h = h
gone_of d (Some n) e h = quiet_one _ (e n) (record { functions = h.functions; turnouts = h.turnouts })

quiet_left : (d : Desk) (address : ℕ) → IsQuiet d → IsQuiet (gone d address).desk
unfolding gone
quiet_left d address h = gone_of d (place_of d.engines address) _ h

ours_of : (d : Desk) (key : Key) (listed ours : Bool) (value : Value) → IsQuiet d
    → IsQuiet (if ours then row_taken d key listed value else nothing d).desk
ours_of d key listed true value h = quiet_row d key listed value h
ours_of d key listed false value h = h

quiet_noted : (d : Desk) (key : Key) (listed : Bool) (value : Value) → IsQuiet d → IsQuiet (row_noted d key listed value).desk
unfolding row_noted
quiet_noted d key listed value h =
    ours_of _ key listed (key.bus == d.bus) value (record { functions = h.functions; turnouts = h.turnouts })

theirs_of : (d : Desk) (address : ℕ) (ours : Bool) → IsQuiet d → IsQuiet (if ours then gone d address else nothing d).desk
theirs_of d address true h = quiet_left d address h
theirs_of d address false h = h

quiet_changed : (d : Desk) (change : Change) → IsQuiet d → IsQuiet (changed d change).desk
unfolding changed
quiet_changed d (PutRow shown) h = quiet_noted d shown.key _ shown.value h
quiet_changed d (Gone stamp device) h = theirs_of d device.address ((device.bus == d.bus) && is_gl device.group) h

said_of : (d : Desk) (x : Option ℕ) (e : ℕ → Event) → IsQuiet d → IsQuiet (option_map_or (λ n. one d (e n)) x (nothing d)).desk
said_of d None e h = h
said_of d (Some n) e h = quiet_one d (e n) h

slot_of : (d : Desk) (none : Bool) (x : Option ℕ) (e : ℕ → Event) → IsQuiet d
    → IsQuiet (if none then nothing d else option_map_or (λ n. one d (e n)) x (nothing d)).desk
slot_of d true x e h = h
slot_of d false x e h = said_of d x e h

main_of : (d : Desk) (main : Bool) (e : Event) → IsQuiet d → IsQuiet (if main then one d e else nothing d).desk
main_of d true e h = quiet_one d e h
main_of d false e h = h

quiet_says : (d : Desk) (said : Said) → IsQuiet d → IsQuiet (says d said).desk
unfolding says
quiet_says d said.Banner h = quiet_one _ event.Greeted (quiet_greeted d h)
quiet_says d said.Overload h = quiet_one d event.Lost h
quiet_says d (said.Sensor number on) h = h
quiet_says d (said.Slots count) h = h
quiet_says d (said.Power track on) h = main_of d (is_main track) (event.SaidPower on) h
quiet_says d (said.Locomotive report) h = slot_of d (is_none report.slot) (place_of d.engines report.cab) _ h
quiet_says d said.Refused h = h
quiet_says d (said.Cv checked cv value) h = h

quiet_taken : (d : Desk) (told : Heard) → IsQuiet d → IsQuiet (taken d told).desk
unfolding taken
quiet_taken d (tells.Changed change) h = quiet_changed d change h
quiet_taken d tells.Lists h = record { functions = h.functions; turnouts = h.turnouts }
quiet_taken d tells.Joined h = quiet_one d event.Joined h
quiet_taken d (tells.Replied accepted) h = quiet_one d (event.Reply accepted) h
quiet_taken d (tells.Says said) h = quiet_says d said h
quiet_taken d tells.Gone h = quiet_one _ event.Gone (quiet_gone d h)
quiet_taken d tells.Away h = quiet_one d event.Lost h
quiet_taken d (tells.Moment now) h = quiet_one _ (event.Moment now) (quiet_moment d now h)
quiet_taken d tells.Ready h = quiet_next d h

quiet_so : (d : Desk) (told : Option Heard) → IsQuiet d → IsQuiet (taken_so d told).desk
quiet_so d None h = h
quiet_so d (Some told) h = quiet_taken d told h

quiet_course : (bus : ℕ) (past : List (Option Heard)) → IsQuiet (course bus past)
quiet_course bus [] = record {
  functions = idle_start (most_cabs * most_functions) _;
  turnouts = idle_start greatest_turnout _;
}
quiet_course bus (told ∷ past) = quiet_so (course bus past) told (quiet_course bus past)

pub boards_ask_nothing : BoardsAskNothing
boards_ask_nothing bus past =
    let quiet = quiet_course bus past in (quiet.functions.waiting, quiet.turnouts.waiting)
