-- What a call makes of the place of one connection.
use Rattle.srcp_core.proofs.Names.{◌≡◌, ℕ, ◌+◌, ◌≤◌, Bool, true, false, List, [], ◌∷◌, ◌++◌, length, length-append, refl, ap, sym}
use Rattle.srcp_core.proofs.Names.{◌∙◌, arith, append-nil, append_assoc, nat_tests, length_push, drop-append-le, filter, fold, option_map}
use Rattle.srcp_core.proofs.Names.{◌&&◌, nat_lt, Option, Some, None, Change, Cursor, Start, Shown, Mode, Info, Reading, concerns}
use Rattle.srcp_core.proofs.Names.{Connection, History, cursor_at, untold, unsent, text, given, is_info, Place, place_at, told_place}
use Rattle.srcp_core.proofs.Names.{told_all, told_each, with_unsent, begun_place, panel_for, has_overrun, is_panel, Absent, if◌then◌else◌}
use Rattle.srcp_core.proofs.Names.{place_of, panel_at, cond_both, Overran, Listening}
use Rattle.srcp_info.specs.declared.value.Mode.TheVariants.{Command as CommandMode}
use Rattle.srcp_core.proofs.CourseLaws.Histories.{concerning_push, cursor_by, cursor_later}
use Rattle.srcp_core.proofs.CourseLaws.ItemsFitHistory.{Fits, tolds, untold_by}
use Rattle.srcp_core.proofs.Invariants.EveryPlaceIsTold.{told_all_at}
use Rattle.srcp_core.proofs.CourseLaws.SessionsAreKept.{concerning_start}

-- what is held of a connection; if more changes wait than may, the unsent bytes are dropped
abbrev pub placed : Reading → Mode → ℕ → Bool → Bool → List ℕ → Cursor → List Change → Place
placed reader mode session info ended bytes cursor queue =
    record {
      reader = reader;
      mode = mode;
      session = session;
      ended = ended;
      unsent = if info && nat_lt 256 (length queue) then [] else bytes;
      panel = panel_at info cursor queue;
    }

-- ---- changes

-- the change, where it concerns a listing that has come so far
abbrev one : Cursor → Change → List Change
one cursor change = filter (concerns cursor) (change ∷ [])

more_than : (queue extra : List Change) → nat_lt 256 (length queue) ≡ true → nat_lt 256 (length (queue ++ extra)) ≡ true
more_than queue extra h = let e = length-append queue extra in grind (arith, nat_tests)

full_more : (queue : List Change) (change : Change) → nat_lt (length queue) 256 ≡ false → nat_lt 256 (length (queue ++ change ∷ [])) ≡ true
full_more queue change h = let e = length-append queue (change ∷ []) in grind (arith, nat_tests)

room_more : (queue : List Change) (change : Change) → nat_lt (length queue) 256 ≡ true → nat_lt 256 (length (queue ++ change ∷ [])) ≡ false
room_more queue change h = let e = length-append queue (change ∷ []) in grind (arith, nat_tests)

told_placed : (change : Change) (reader : Reading) (mode : Mode) (session : ℕ) (info ended : Bool) (bytes : List ℕ) (cursor : Cursor)
    (queue : List Change)
    → told_place change (placed reader mode session info ended bytes cursor queue)
    ≡ placed reader mode session info ended bytes cursor (queue ++ one cursor change)
told_placed change reader mode session false ended bytes cursor queue = refl
told_placed change reader mode session true ended bytes cursor queue =
    by (nat_lt 256 (length queue)) (concerns cursor change) (nat_lt (length queue) 256) refl refl refl where
      by : (over told room : Bool) → nat_lt 256 (length queue) ≡ over → concerns cursor change ≡ told → nat_lt (length queue) 256 ≡ room
          → told_place change (placed reader mode session true ended bytes cursor queue)
          ≡ placed reader mode session true ended bytes cursor (queue ++ one cursor change)
      by true told room o t r = let m = more_than queue (one cursor change) o in rw (o, m) refl
      by false false room o t r = let e = append-nil queue in rw (o, t, e, o) refl
      by false true true o t r = let m = room_more queue change r in rw (o, t, r, m) refl
      by false true false o t r = let m = full_more queue change r in rw (o, t, r, m) refl

-- a place that is told each change in turn
abbrev pub told_places : List Change → Place → Place
told_places changes p = fold (λ p change. told_place change p) p changes

pub told_each_at : (changes : List Change) (places : List (Option Place)) (key : ℕ)
    → place_at (told_each changes places) key ≡ option_map (told_places changes) (place_at places key)
told_each_at [] places key = sym (same _)
  where
    same : (o : Option Place) → option_map (told_places []) o ≡ o
    same None = refl
    same (Some p) = refl
told_each_at (change ∷ changes) places key =
    told_each_at changes (told_all change places) key ∙ ap (option_map (told_places changes)) (told_all_at change places key)
    ∙ both (place_at places key)
  where
    both : (o : Option Place)
        → option_map (told_places changes) (option_map (told_place change) o) ≡ option_map (told_places (change ∷ changes)) o
    both None = refl
    both (Some p) = refl

told_places_placed : (changes : List Change) (reader : Reading) (mode : Mode) (session : ℕ) (info ended : Bool) (bytes : List ℕ)
    (cursor : Cursor) (queue : List Change)
    → told_places changes (placed reader mode session info ended bytes cursor queue)
    ≡ placed reader mode session info ended bytes cursor (queue ++ filter (concerns cursor) changes)
told_places_placed [] reader mode session info ended bytes cursor queue = cc (append-nil queue)
told_places_placed (change ∷ changes) reader mode session info ended bytes cursor queue =
    cc (
      told_placed change reader mode session info ended bytes cursor queue,
      told_places_placed changes reader mode session info ended bytes cursor _,
      append_assoc queue _ _,
      joined _ refl,
    )
  where
    joined : (t : Bool) → concerns cursor change ≡ t
        → one cursor change ++ filter (concerns cursor) changes ≡ filter (concerns cursor) (change ∷ changes)
    joined true e = rw e refl
    joined false e = rw e refl

-- ---- what was not told of an open connection

pub untold_shut : (conn : Connection) (history : History) → conn.shut ≡ None
    → untold conn history ≡ untold_by conn.go_step conn.items conn.done history
untold_shut conn history e = cc

untold_push : (first : List Shown) (conn : Connection) (history : History) (changes : List Change) → conn.shut ≡ None
    → Fits first history conn.go_step conn.items conn.done
    → untold conn (history ++ changes ∷ []) ≡ untold conn history ++ filter (concerns (cursor_at conn (length history))) changes
untold_push first conn history changes shut f =
    let more = concerning_push conn.go_step (cursor_by conn.done conn.items) history changes f.began in
    cc (
      untold_shut conn (history ++ changes ∷ []) shut,
      more,
      drop-append-le (length (tolds conn.items)) _
          (filter (concerns (cursor_by conn.done conn.items (length history))) changes) f.enough,
      untold_shut conn history shut,
    )

-- a step
pub told_place_of : (first : List Shown) (reader : Reading) (conn : Connection) (history : History) (changes : List Change)
    → conn.shut ≡ None → Fits first history conn.go_step conn.items conn.done
    → told_places changes (place_of reader history conn) ≡ place_of reader (history ++ changes ∷ []) conn
told_place_of first reader conn history changes shut f =
    let len : length (history ++ changes ∷ []) ≡ length history + 1 = length_push history changes in
    let up : length history ≤ length (history ++ changes ∷ []) = omega arith in
    let cur : cursor_at conn (length (history ++ changes ∷ [])) ≡ cursor_at conn (length history) =
    cursor_later _ _ _ _ up f.done_by f.numbers in
    cc (
      told_places_placed changes reader conn.mode conn.session conn.info conn.ended (unsent conn) (cursor_at conn (length history))
          (untold conn history),
      untold_push first conn history changes shut f,
      cur,
    )

-- ---- a connection that is no information session

-- what is held of it
abbrev pub plain_place : Reading → Mode → ℕ → Bool → List ℕ → Place
plain_place reader mode session ended bytes = record {
  reader = reader;
  mode = mode;
  session = session;
  ended = ended;
  unsent = bytes;
  panel = Absent;
}

pub plain_is : (reader : Reading) (history : History) (conn : Connection) → conn.info ≡ false
    → place_of reader history conn ≡ plain_place reader conn.mode conn.session conn.ended (unsent conn)
plain_is reader history conn e = cc

-- a reply to a connection that was given no lines is put at the end of what was given to it
pub given_reply : (conn : Connection) (line : List ℕ) → conn.items ≡ []
    → given (record conn { out = conn.out ++ line }) ≡ given conn ++ line
given_reply conn line none =
    let bare : text conn.items ≡ [] = cc in
    let before : given conn ≡ conn.out = cc (append-nil conn.out) in
    cc (append-nil _)

-- a session begins
entered_plain : (reader : Reading) (mode : Mode) (session id : ℕ) (ended : Bool) (bytes : List ℕ)
    → begun_place id (panel_for mode) (plain_place reader mode session ended bytes)
    ≡ placed reader mode id (is_info mode) ended bytes Start []
entered_plain reader CommandMode session id ended bytes = refl
entered_plain reader Info session id ended bytes = refl

pub begun_place_of : (reader : Reading) (history : History) (conn : Connection) (id go : ℕ) → conn.shut ≡ None → conn.info ≡ false
    → conn.items ≡ [] → conn.done ≡ None
    → begun_place id (panel_for conn.mode) (place_of reader history conn)
    ≡ place_of reader history (record conn { session = id; info = is_info conn.mode; go_step = go })
begun_place_of reader history conn id go shut plain none undone =
    ap (begun_place id (panel_for conn.mode)) (plain_is reader history conn plain)
    ∙ entered_plain reader _ conn.session id _ _
    ∙ ap (λ c. placed reader conn.mode id (is_info conn.mode) conn.ended (unsent conn) c [])
    (sym (ap (λ d. cursor_by d conn.items (length history)) undone ∙ ap (λ is. cursor_by None is (length history)) none))
    ∙ ap (placed reader conn.mode id (is_info conn.mode) conn.ended (unsent conn) (cursor_at conn (length history))) (sym nothing)
  where
    nothing : untold (record conn { session = id; info = is_info conn.mode; go_step = go }) history ≡ []
    nothing =
        cc (untold_shut (record conn { session = id; info = is_info conn.mode; go_step = go }) history shut, concerning_start go 0 history)

-- ---- the parts of a place

abbrev pub is_over_place : History → Connection → Bool
is_over_place history conn = conn.info && nat_lt 256 (length (untold conn history))

panel_info : (info : Bool) (cursor : Cursor) (queue : List Change) → is_panel (panel_at info cursor queue) ≡ info
panel_info false cursor queue = refl
panel_info true cursor queue =
    cond_both (nat_lt 256 (length queue)) Overran (Listening (record { cursor = cursor; queue = queue })) (λ panel. is_panel panel ≡ true)
    (λ _. refl) (λ _. refl)

panel_overran : (info : Bool) (cursor : Cursor) (queue : List Change)
    → has_overrun (panel_at info cursor queue) ≡ info && nat_lt 256 (length queue)
panel_overran false cursor queue = refl
panel_overran true cursor queue =
    elim (nat_lt 256 (length queue))
    as (λ t. has_overrun (if t then Overran else Listening (record { cursor = cursor; queue = queue })) ≡ t) [ true ↦ refl | false ↦ refl ]

module _ (reader : Reading) (history : History) (conn : Connection) where
  pub place_info : is_panel (place_of reader history conn).panel ≡ conn.info
  place_info = panel_info conn.info _ _

  pub place_overran : has_overrun (place_of reader history conn).panel ≡ is_over_place history conn
  place_overran = panel_overran conn.info _ _

  pub place_unsent : is_over_place history conn ≡ false → (place_of reader history conn).unsent ≡ unsent conn
  place_unsent e = rw e refl

  pub place_given_up : is_over_place history conn ≡ true → (place_of reader history conn).unsent ≡ []
  place_given_up e = rw e refl

  -- a reply to one that did not overrun
  pub replied_still : (line : List ℕ) → is_over_place history conn ≡ false → conn.items ≡ [] → conn.taken ≤ length (given conn)
      → with_unsent line (place_of reader history conn) ≡ place_of reader history (record conn { out = conn.out ++ line })
  replied_still line still none within = cc (given_reply conn line none, drop-append-le _ (given conn) line within)
