-- Functions and turnouts are told what is commanded, at their pace, and the registry follows.
use Rattle.std.proofs.Common.{◌≡◌, ◌⊎◌, inl, inr, ℕ, ◌<◌, Bool, true, false, not, ◌&&◌, ◌||◌, Option, Some, None, List, [], ◌∷◌, get_or}
use Rattle.std.proofs.Common.{length, refl, sym, ◌∙◌, ap, arith}
use Rattle.std.proofs.lemmas.Grind.{common_steps}
use Rattle.std.proofs.lemmas.List.Quantifiers.{position-Some}
use Rattle.std.proofs.lemmas.List.Sums.{fails_before_first}
use Rattle.std.proofs.lemmas.Option.{get_or_from_slice_get, slice_get-get_or, slice_get_within}
use Rattle.std.specs.List.{position, position_or_len}
use Rattle.std.specs.Option.{option_and_then, option_map, option_map_or}
use Rattle.std.specs.Prelude.{if◌then◌else◌, is_none, is_some, slice_get}
use Rattle.srcp_driver.specs.Board.{Board, board_heard, board_tells, first_setting}
use Rattle.srcp_driver.specs.Board.{may_go, next_setting, set_to, setting_at, setting_put, setting_to_put, setting_told, switch_at}
use Rattle.srcp_driver.specs.BoardLaws.{RowsFollow, SettingsArePaced, SettingsAreTold, Turn, board_course, board_hears, board_moment}
use Rattle.srcp_driver.specs.BoardLaws.{last_told, moment_after}
use Rattle.srcp_driver.specs.Cabs.{has_passed}
use Rattle.srcp_driver.specs.Drives.{is_same_way}
use Rattle.srcp_driver.specs.Powers.{is_told}
use Rattle.srcp_driver.specs.Switches.{is_switch_to_put, is_to_tell, switch_refused, switch_reported, unknown}
use Rattle.srcp_driver.specs.declared.settings.BoardEvent.{BoardEvent}
use Rattle.srcp_driver.specs.declared.settings.BoardEvent.TheVariants as event
use Rattle.srcp_driver.specs.declared.settings.Kind.{Kind}
use Rattle.srcp_driver.specs.declared.settings.Setting.{Setting}
use Rattle.srcp_driver.specs.declared.switch.Switch.{Switch}
use Rattle.srcp_driver.proofs.Same.{both, same_way}

-- ---- the first that passes a test

none_passes : (test : Switch → Bool) (switches : List Switch) (n : ℕ) (s : Switch) → position test switches ≡ None
    → slice_get switches n ≡ Some s → test s ≡ false
none_passes test switches n s none is =
    let lt : n < length switches = slice_get_within switches n s is in
    let past : n < position_or_len test switches = grind (arith, common_steps) in
    ap test (sym (get_or_from_slice_get switches n s s is)) ∙ fails_before_first test switches n s past

-- what passes has a command
abbrev HasCommand : (Switch → Bool) → Type 0
HasCommand test = (s : Switch) → test s ≡ true → is_some s.command ≡ true

some_setting : (n : ℕ) (x : Option Bool) → is_some x ≡ true
    → option_map (set_to n) x ≡ None → ⊥
some_setting n None some e = absurd (cc)
some_setting n (Some on) some e = cc

none_of : (test : Switch → Bool) (switches : List Switch) (x : Option ℕ) (n : ℕ) (s : Switch) → HasCommand test
    → position test switches ≡ x → option_and_then (setting_at switches) x ≡ None → slice_get switches n ≡ Some s
    → test s ≡ false
none_of test switches None n s has at e is = none_passes test switches n s at is
none_of test switches (Some m) n s has at e is =
    let all = position-Some test switches m unknown at in
    let one : Switch = get_or switches m unknown in
    let here : slice_get switches m ≡ Some one = slice_get-get_or switches m unknown all.0 in
    let none : option_map (set_to m) one.command ≡ None =
    ap (λ (x : Option Switch). option_and_then
    (λ (s : Switch). option_map (set_to m) s.command) x) (sym here) ∙ e in
    absurd (some_setting m one.command (has one all.1) none)

tell_command : (s : Switch) (x : Option Bool)
    → option_map_or (λ on. not (is_told s.told on) && (is_none s.awaited || s.is_late)) x false ≡ true → is_some x ≡ true
tell_command s None e = absurd (cc)
tell_command s (Some on) e = refl

put_command : (s : Switch) (x : Option Bool)
    → option_map_or (λ on. not (is_same_way s.row on) && is_none s.asked) x false ≡ true → is_some x ≡ true
put_command s None e = absurd (cc)
put_command s (Some on) e = refl

-- ---- what is told

told_is : (x : Option Bool) (on : Bool) → is_told x on ≡ true → x ≡ Some on
told_is None on e = absurd (cc)
told_is (Some last) on e = ap (λ (b : Bool). Some b) (same_way last on e)

waits_of : (x : Option Bool) (late : Bool) → (is_none x || late) ≡ false → is_some x ≡ true
waits_of None late e = absurd (cc)
waits_of (Some on) late e = refl

tell_of : (s : Switch) (on told may : Bool) → is_told s.told on ≡ told → (is_none s.awaited || s.is_late) ≡ may
    → (not told && may) ≡ false → (s.told ≡ Some on) ⊎ (is_some s.awaited ≡ true)
tell_of s on true may t m e = inl (told_is s.told on t)
tell_of s on false false t m e = inr (waits_of s.awaited s.is_late m)
tell_of s on false true t m e = absurd (cc)

is_settled : (s : Switch) (on : Bool) → s.command ≡ Some on → is_to_tell s ≡ false
    → (s.told ≡ Some on) ⊎ (is_some s.awaited ≡ true)
is_settled s on is denied = tell_of s on (is_told s.told on) (is_none s.awaited || s.is_late) refl refl
    (ap (λ (x : Option Bool). option_map_or (λ on. not (is_told s.told on) && (is_none s.awaited || s.is_late)) x false)
    (sym is) ∙ denied)

if_none : (go : Bool) (x : Option Setting) → go ≡ true → (if go then x else None) ≡ None → x ≡ None
if_none true x g e = e
if_none false x g e = absurd (cc)

pub settings_are_told : SettingsAreTold
settings_are_told count kind past event n s on go none is commands =
    let b : Board = board_hears count kind past event in
    is_settled s on commands (none_of is_to_tell b.switches (position is_to_tell b.switches) n s
    (λ s. tell_command s s.command) refl (if_none (may_go b) (first_setting is_to_tell b.switches) go none) is)

-- ---- what the registry says

asked_of : (x : Option Bool) → is_none x ≡ false → is_some x ≡ true
asked_of None e = absurd (cc)
asked_of (Some on) e = refl

row_of : (s : Switch) (on same none : Bool) → is_same_way s.row on ≡ same → is_none s.asked ≡ none
    → (not same && none) ≡ false → (s.row ≡ on) ⊎ (is_some s.asked ≡ true)
row_of s on true none t m e = inl (same_way s.row on t)
row_of s on false false t m e = inr (asked_of s.asked m)
row_of s on false true t m e = absurd (cc)

-- if nothing is asked, the board is as before, and no reply is waited for
follows_of : (b : Board) (x y : Option Setting) (n : ℕ) (s : Switch) (on : Bool) → b.waiting ≡ y
    → first_setting is_switch_to_put b.switches ≡ x
    → (if is_some y then None else x) ≡ None
    → (option_map_or (setting_put b) (if is_some y then None else x) b).waiting ≡ None
    → slice_get (option_map_or (setting_put b) (if is_some y then None else x) b).switches n ≡ Some s → s.command ≡ Some on
    → (s.row ≡ on) ⊎ (is_some s.asked ≡ true)
follows_of b x (Some order) n s on w f none waits is commands =
    let denied : Some order ≡ None = sym w ∙ waits in absurd (cc)
follows_of b (Some order) None n s on w f none waits is commands = absurd (cc)
follows_of b None None n s on w f none waits is commands =
    let denied : is_switch_to_put s ≡ false = none_of is_switch_to_put b.switches (position is_switch_to_put b.switches) n s
    (λ s. put_command s s.command) refl f is in
    row_of s on (is_same_way s.row on) (is_none s.asked) refl refl
    (ap (λ (x : Option Bool). option_map_or (λ on. not (is_same_way s.row on) && is_none s.asked) x false) (sym commands) ∙ denied)

pub rows_follow : RowsFollow
rows_follow count kind past turn n s on none waits is commands =
    let heard : Board = board_heard (board_course count kind past) turn.event in
    let told : Board = if turn.may_tell then board_tells heard else heard in
    follows_of told (first_setting is_switch_to_put told.switches) told.waiting n s on refl refl none waits is commands

-- ---- pace

-- the board has the kind, the last moment, and that of the last order
record IsTimed (kind : Kind) (clock : ℕ) (last : Option ℕ) (b : Board) : Type 0 where
  pub of_kind : b.kind ≡ kind
  pub at : b.clock ≡ clock
  pub told : b.last ≡ last

said_timed : (kind : Kind) (clock : ℕ) (last : Option ℕ) (b : Board) (n : ℕ) (on here : Bool) → IsTimed kind clock last b
    → IsTimed kind clock last (if here then record b { switches = switch_at b.switches n (switch_reported on) } else b)
said_timed kind clock last b n on true e = record { of_kind = e.of_kind; at = e.at; told = e.told }
said_timed kind clock last b n on false e = e

reply_timed : (kind : Kind) (clock : ℕ) (last : Option ℕ) (b : Board) (x : Option Setting) → IsTimed kind clock last b
    → IsTimed kind clock last (option_map_or
    (λ setting. record b { switches = switch_at b.switches setting.place switch_refused; waiting = None }) x b)
reply_timed kind clock last b None e = e
reply_timed kind clock last b (Some setting) e = record { of_kind = e.of_kind; at = e.at; told = e.told }

heard_timed : (kind : Kind) (clock : ℕ) (last : Option ℕ) (b : Board) (event : BoardEvent) → IsTimed kind clock last b
    → IsTimed kind (moment_after event clock) last (board_heard b event)
heard_timed kind clock last b (event.Row n on) e = record { of_kind = e.of_kind; at = e.at; told = e.told }
heard_timed kind clock last b (event.Said n on) e = said_timed kind clock last b n on b.is_here e
heard_timed kind clock last b event.Greeted e = record { of_kind = e.of_kind; at = e.at; told = e.told }
heard_timed kind clock last b event.Gone e = record { of_kind = e.of_kind; at = e.at; told = e.told }
heard_timed kind clock last b (event.Moment now) e = record { of_kind = e.of_kind; at = refl; told = e.told }
heard_timed kind clock last b (event.Reply true) e = record { of_kind = e.of_kind; at = e.at; told = e.told }
heard_timed kind clock last b (event.Reply false) e = reply_timed kind clock last b b.waiting e
heard_timed kind clock last b event.Joined e = record { of_kind = e.of_kind; at = e.at; told = e.told }
heard_timed kind clock last b event.Turn e = e

tells_timed : (kind : Kind) (clock : ℕ) (last : Option ℕ) (b : Board) (x : Option Setting) → IsTimed kind clock last b
    → IsTimed kind clock (if is_some x then Some clock else last) (option_map_or (setting_told b) x b)
tells_timed kind clock last b None e = e
tells_timed kind clock last b (Some setting) e =
    record { of_kind = e.of_kind; at = e.at; told = ap (λ (k : ℕ). Some k) e.at }

turn_timed : (kind : Kind) (clock : ℕ) (last : Option ℕ) (b : Board) (may : Bool) → IsTimed kind clock last b
    → IsTimed kind clock (if is_some (if may then next_setting b else None) then Some clock else last)
    (if may then board_tells b else b)
turn_timed kind clock last b true e = tells_timed kind clock last b (next_setting b) e
turn_timed kind clock last b false e = e

puts_timed : (kind : Kind) (clock : ℕ) (last : Option ℕ) (b : Board) (x : Option Setting) → IsTimed kind clock last b
    → IsTimed kind clock last (option_map_or (setting_put b) x b)
puts_timed kind clock last b None e = e
puts_timed kind clock last b (Some setting) e = record { of_kind = e.of_kind; at = e.at; told = e.told }

timed : (count : ℕ) (kind : Kind) (past : List Turn)
    → IsTimed kind (board_moment past) (last_told count kind past) (board_course count kind past)
timed count kind [] = record { of_kind = refl; at = refl; told = refl }
timed count kind (turn ∷ past) =
    let heard : Board = board_heard (board_course count kind past) turn.event in
    let told : Board = if turn.may_tell then board_tells heard else heard in
    puts_timed kind (board_moment (turn ∷ past)) (last_told count kind (turn ∷ past)) told (setting_to_put told)
    (turn_timed kind (board_moment (turn ∷ past)) (last_told count kind past) heard turn.may_tell
    (heard_timed kind (board_moment past) (last_told count kind past) (board_course count kind past) turn.event
    (timed count kind past)))

go_of : (may go : Bool) (x : Option Setting) → is_some (if may then (if go then x else None) else None) ≡ true → go ≡ true
go_of true true x e = refl
go_of true false x e = absurd (cc)
go_of false go x e = absurd (cc)

gap_of : (kind : Kind) (clock : ℕ) (last : Option ℕ) (b : Board) → IsTimed kind clock last b → may_go b ≡ true
    → option_map_or (λ last. has_passed kind.gap last clock) last true ≡ true
gap_of kind clock last b e go =
    ap (λ (last : Option ℕ). option_map_or (λ last. has_passed kind.gap last clock) last true) (sym e.told)
    ∙ ap (λ (clock : ℕ). option_map_or (λ last. has_passed kind.gap last clock) b.last true) (sym e.at)
    ∙ ap (λ (kind : Kind). option_map_or (λ last. has_passed kind.gap last b.clock) b.last true) (sym e.of_kind)
    ∙ (both b.is_here (option_map_or (λ last. has_passed b.kind.gap last b.clock) b.last true) go).right

pub settings_are_paced : SettingsArePaced
settings_are_paced count kind past turn some =
    let heard : Board = board_heard (board_course count kind past) turn.event in
    gap_of kind (board_moment (turn ∷ past)) (last_told count kind past) heard
    (heard_timed kind (board_moment past) (last_told count kind past) (board_course count kind past) turn.event
    (timed count kind past)) (go_of turn.may_tell (may_go heard) (first_setting is_to_tell heard.switches) some)
