-- A core that stands for a course answers a line as the course does.
use Rattle.srcp_core.proofs.Names.{◌≡◌, ℕ, ◌+◌, ◌≤◌, Bool, true, false, List, [], ◌∷◌, ◌++◌, length, refl, ap, sym, ◌∙◌, subst, and-false}
use Rattle.srcp_core.proofs.Names.{Option, Some, None, ◌&&◌, ◌||◌, nat_lt, not, reply_line, Reply, Protocol, Go, Refused, Mark, Reading}
use Rattle.srcp_core.proofs.Names.{Bus, began, Update, opening, shown_rows, key_at, IsRisingBy, Obeyed, Ended, Connection, is_open, given}
use Rattle.srcp_core.proofs.Names.{untold, World, numbered, at_connection, did, is_info, history, entered, open_connection, Place, Held, at}
use Rattle.srcp_core.proofs.Names.{with_unsent, begun_place, carried, changed_at, session_begun, freed_of, request_of, panel_for, key_of}
use Rattle.srcp_core.proofs.Names.{StandsBy, place_of, Act, Sets, Begins, Obeys, Ends, asked, wants, denied_by, fold, Request}
use Rattle.srcp_info.specs.declared.change.Reply.TheVariants.{Mode as ModeReply}
use Rattle.srcp_rules.specs.Steps.{effect}
use Rattle.srcp_core.specs.Course.{replied as course_replied, act as course_act, answered as course_answered}
use Rattle.srcp_core.specs.Course.{answered_as as course_answered_as}
use Rattle.srcp_core.specs.Machine.{replied, act, answered}
use Rattle.srcp_core.proofs.Invariants.LinesAsk.{OfAnswers, acts_law}
use Rattle.srcp_core.proofs.Agreement.PlacesChange.{replied_still, begun_place_of, is_over_place, untold_shut, place_info}
use Rattle.srcp_core.proofs.CourseLaws.SessionsOfACourse.{anything, at_number}
use Rattle.srcp_core.proofs.Agreement.NumbersAndKeys.{numbered_with}
use Rattle.srcp_core.proofs.Agreement.StandsAfterAChange.{stands_as, Anything, AllFine, found_at, stands_at, stands_did}
use Rattle.srcp_core.proofs.CourseLaws.SessionsAreKept.{IsSound, sound_did, sound_at, sound_replied, concerning_start}

abbrev pub IsFine : (buses : List Bus) → IsRisingBy key_at (shown_rows (opening buses 0)) → World → Type 0
IsFine buses order w = IsSound buses order Anything _ w

-- the open connection of the number has the place, and a line asks the same of both
pub record AsksOf (buses held_buses : List Bus) (w : World) (n : ℕ) (p : Place) (mark : Mark) : Type 0 where
  pub conn : Connection
  pub there : numbered n w.connections ≡ Some conn
  pub shut : conn.shut ≡ None
  pub opened : open_connection w n ≡ Some conn
  pub asks : request_of held_buses p mark ≡ asked buses (Some conn) mark

pub asks_of : (buses : List Bus) (read : ℕ → List ℕ → List ℕ) (keys : List (Option ℕ)) (held : Held) (w : World) (n key : ℕ) (mark : Mark)
    (p : Place)
    → StandsBy buses read keys held w → key_of n keys ≡ Some key → at held key ≡ Some p
    → AsksOf buses held.buses w n p mark
asks_of buses read keys held w n key mark p s named here =
    let h = found_at buses read keys held w n key s named in
    let q : Place = place_of h.reader _ h.conn in
    let same : q ≡ p = let both : Some q ≡ Some p = sym h.place ∙ here in cc in
    record {
      conn = h.conn;
      there = h.there;
      shut = h.shut;
      opened = h.opened;
      asks = cc (s.layout, place_info h.reader _ h.conn);
    }

module _ (buses : List Bus) (order : IsRisingBy key_at (shown_rows (opening buses 0))) (read : ℕ → List ℕ → List ℕ) (keys : List (Option ℕ))
    (n key : ℕ) (named : key_of n keys ≡ Some key) where
  pub fine_of : (w : World) → IsFine buses order w → AllFine buses w
  fine_of w a m conn e = at_number _ m _ conn a e

  -- the place and the connection of the number change alike
  pub stands_of : (held : Held) (w : World) (conn : Connection) (f : Connection → Connection) (change : Place → Place)
      → StandsBy buses read keys held w → numbered n w.connections ≡ Some conn
      → is_open (f conn) ≡ is_open conn → (f conn).fed ≡ conn.fed
      → ((reader : Reading) → conn.shut ≡ None
      → change (place_of reader (history buses w) conn) ≡ place_of reader (history buses w) (f conn))
      → StandsBy buses read keys (changed_at key change held) (at_connection n f w)
  stands_of held w conn f change s there up fed law =
      stands_at buses read keys held w n key f change s named
      (λ other reader e shut.
      let same : conn ≡ other = let both : Some conn ≡ Some other = cc in cc in
      rw (← same) (up, (fed, law reader (cc))))

  numbered_at : (w : World) (conn : Connection) (f : Connection → Connection) → numbered n w.connections ≡ Some conn
      → numbered n (at_connection n f w).connections ≡ Some (f conn)
  numbered_at w conn f e = cc (numbered_with n f _)

  -- ---- a reply

  pub stands_replied : (held : Held) (w : World) (conn : Connection) (reply : Reply) → StandsBy buses read keys held w
      → numbered n w.connections ≡ Some conn
      → conn.items ≡ [] → is_over_place (history buses w) conn ≡ false → conn.taken ≤ length (given conn)
      → StandsBy buses read keys (replied key reply held) (course_replied n reply w)
  stands_replied held w conn reply s there none still within =
      stands_of held w conn (λ conn. record conn { out = conn.out ++ reply_line w.moment reply })
      (with_unsent (reply_line held.moment reply)) s there refl refl
      (λ reader shut. ap (λ m. with_unsent (reply_line m reply) (place_of reader (history buses w) conn)) s.moment
      ∙ replied_still reader (history buses w) conn (reply_line w.moment reply) still none within)

  -- a reply to a connection that is no information session
  stands_plainly : (held : Held) (w : World) (conn : Connection) (reply : Reply) → IsFine buses order w → StandsBy buses read keys held w
      → numbered n w.connections ≡ Some conn → conn.info ≡ false
      → StandsBy buses read keys (replied key reply held) (course_replied n reply w)
  stands_plainly held w conn reply a s there plain =
      let f = fine_of w a n conn there in
      stands_replied held w conn reply s there (f.plain plain).0
      (ap (λ i. i && nat_lt 256 (length (untold conn (history buses w)))) plain) f.within

  -- ---- before the session

  -- the world with the moment and the id that the core has
  abbrev timed : Held → World → World
  timed held w = record w { moment = held.moment; last_id = held.last_id }

  timed_is : (held : Held) (w : World) → StandsBy buses read keys held w → timed held w ≡ w
  timed_is held w s = λ i. record w { moment = s.moment i; last_id = s.last_id i }

  stands_timed : (held : Held) (w : World) → StandsBy buses read keys held w → StandsBy buses read keys held (timed held w)
  stands_timed held w s = stands_as buses read keys held w _ _ _ _ _ _ _ refl refl s

  stands_begun : (held : Held) (w : World) (conn : Connection) (id : ℕ) → IsFine buses order w → StandsBy buses read keys held w
      → numbered n w.connections ≡ Some conn → conn.shut ≡ None → conn.info ≡ false
      → StandsBy buses read keys (replied key (Go id) (session_begun key id conn.mode held))
      (course_replied n (Go id) (course_act buses n (timed held w) (Begins id conn.mode)))
  stands_begun held w conn id a s there shut plain =
      let f = fine_of w a n conn there in
      let p = f.plain plain in
      let w2 = did _ _ in
      let d : StandsBy buses read keys (carried (updates held) (record held { last_id = id })) w2 =
      stands_did buses read keys (record held { last_id = id }) (record (timed held w) { last_id = id })
      _ (fine_of w a) (stands_as buses read keys held w _ _ _ _ _ _ _ refl refl s) in
      let e : StandsBy buses read keys (session_begun key id conn.mode held) (entered buses n id w2) =
      stands_of (carried (updates held) (record held { last_id = id })) w2 conn
      (λ conn. record conn { session = id; info = is_info conn.mode; go_step = length w2.steps })
      (begun_place id (panel_for conn.mode)) d there refl refl
      (λ reader up. begun_place_of reader (history buses w2) conn id (length w2.steps) shut plain p.0 p.1) in
      let begins : Connection = record conn { session = id; info = is_info conn.mode; go_step = length w2.steps } in
      let nothing : untold begins (history buses w2) ≡ [] =
      cc (untold_shut begins (history buses w2) shut, p.0, p.1, concerning_start (length w2.steps) 0 (history buses w2)) in
      stands_replied (session_begun key id conn.mode held) (entered buses n id w2) begins (Go id) e
      (numbered_at w2 conn (λ conn. record conn { session = id; info = is_info conn.mode; go_step = length w2.steps }) there) p.0
      (ap (λ cs. is_info conn.mode && nat_lt 256 (length cs)) nothing ∙ and-false (is_info conn.mode)) f.within
    where
      updates : Held → List Update
      updates held = began id held.moment conn.mode ∷ []

  stands_ended : (held : Held) (w : World) (conn : Connection) (session : ℕ) → IsFine buses order w → StandsBy buses read keys held w
      → numbered n w.connections ≡ Some conn → conn.info ≡ false
      → StandsBy buses read keys (act key held (Ends session)) (course_act buses n w (Ends session))
  stands_ended held w conn session a s there plain =
      let ends : World = at_connection n (λ conn. record conn { ended = true }) w in
      let e =
      stands_of held w conn (λ conn. record conn { ended = true }) (λ p. record p { ended = true }) s there refl refl
      (λ reader up. rw plain refl) in
      let b =
      sound_at buses order Anything _ n (λ conn. record conn { ended = true }) w
      (λ other k f. record { fits = f.fits; before = f.before; plain = f.plain; within = f.within }) a in
      subst (λ m.
      StandsBy buses read keys (freed_of session (changed_at key (λ p. record p { ended = true }) held))
      (did (Ended session m) ends))
      s.moment
      (stands_did buses read keys (changed_at key (λ p. record p { ended = true }) held) ends _
      (fine_of ends b) e)

  -- ---- an open connection that is no information session

  -- the acts are done in the core as in the course
  abbrev Agree : Held → World → List Act → Type 0
  Agree held w all = StandsBy buses read keys (fold (act key) held all) (fold (course_act buses n) (timed held w) all)

  agrees : (held : Held) (w : World) (conn : Connection) (mark : Mark) → IsFine buses order w
      → StandsBy buses read keys held w → numbered n w.connections ≡ Some conn → conn.shut ≡ None → conn.info ≡ false
      → OfAnswers (Agree held w) buses held.rows held.last_id held.moment conn.session conn.mode mark
  agrees held w conn mark a s there shut plain = record {
    speaks = stands_plainly held now conn Protocol a s_now there plain;
    chooses = λ chosen.
        let f = fine_of w a n conn there in
        stands_replied (act key held (Sets chosen)) (course_act buses n now (Sets chosen)) (record conn { mode = chosen }) ModeReply
        (stands_of held now conn (λ conn. record conn { mode = chosen }) (λ p. record p { mode = chosen }) s_now there refl refl
        (λ reader up. rw plain refl))
        (numbered_at now conn (λ conn. record conn { mode = chosen }) there) (f.plain plain).0
        (ap (λ i. i && nat_lt 256 (length (untold conn (history buses w)))) plain) f.within;
    refuses = λ code. stands_plainly held now conn (Refused code) a s_now there plain;
    begins = λ goes left. stands_begun held w conn (held.last_id + 1) a s there shut plain;
    obeys = λ its began reads.
        let result = effect held.rows conn.session held.moment its in
        let obeyed = course_act buses n now (Obeys conn.session its) in
        let sound_one : IsFine buses order obeyed = sound_did buses order Anything _ _ now a in
        let two =
        stands_plainly (carried result.updates held) obeyed conn result.reply sound_one
        (stands_did buses read keys held now (Obeyed conn.session held.moment its) (fine_of w a) s_now) there plain in (
          two,
          stands_ended (replied key result.reply (carried result.updates held)) (course_replied n result.reply obeyed)
              (record conn { out = conn.out ++ reply_line held.moment result.reply }) conn.session
              (sound_replied buses order Anything (anything (shown_rows (opening buses 0))) n result.reply obeyed sound_one) two
              (numbered_at obeyed conn (λ conn. record conn { out = conn.out ++ reply_line held.moment result.reply }) there) plain,
        );
  }
    where
      now : World
      now = timed held w

      s_now : StandsBy buses read keys held now
      s_now = stands_timed held w s

  asked_agree : (held : Held) (w : World) (conn : Connection) (granted : Bool) (mark : Mark) (request : Request) → IsFine buses order w
      → StandsBy buses read keys held w → numbered n w.connections ≡ Some conn → conn.shut ≡ None → request ≡ asked buses (Some conn) mark
      → StandsBy buses read keys (answered granted key request held)
      (course_answered_as buses n (Some conn) (record { mark = mark; granted = granted }) w)
  asked_agree held w conn granted mark request a s there shut e =
      let wanted = granted || not (wants held.rows held.last_id held.moment (asked buses (Some conn) mark)) in
      let counted = record held { denied = denied_by held.denied (wanted ∷ []) } in
      let stands = stands_as buses read keys held w _ _ _ _ _ _ _ s.moment s.last_id s in
      rw (← (timed_is held w s))
      (rw (← s.rows)
      (rw e
      (acts_law (Agree counted w) granted (stands_timed counted w stands)
      (λ plain goes_on. agrees counted w conn mark a stands there shut plain))))

  -- what a line asks for is answered as in the course
  pub stands_answered : (held : Held) (w : World) (granted : Bool) (mark : Mark) (p : Place) → IsFine buses order w
      → StandsBy buses read keys held w → at held key ≡ Some p
      → StandsBy buses read keys (answered granted key (request_of held.buses p mark) held)
      (course_answered buses n w (record { mark = mark; granted = granted }))
  stands_answered held w granted mark p a s here =
      let h = asks_of buses read keys held w n key mark p s named here in
      rw h.opened (asked_agree held w h.conn granted mark (request_of held.buses p mark) a s h.there h.shut h.asks)
