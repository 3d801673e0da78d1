-- What the recorder notes of the answer to a line is what the course gains.
use Rattle.srcp_core.proofs.Names.{◌≡◌, ℕ, zero, suc, ◌+◌, ◌≤◌, Bool, true, List, [], ◌∷◌, ◌++◌, map, length, refl, ap, sym, ◌∙◌}
use Rattle.srcp_core.proofs.Names.{take-append-le, map-append, length-map, option_map, Option, Some, None, reply_line, Reply, Protocol, Go}
use Rattle.srcp_core.proofs.Names.{Refused, Bus, opening, shown_rows, key_at, IsRisingBy, Mark, Step, Obeyed, Began, Ended}
use Rattle.srcp_core.proofs.Names.{recorded_step, Connection, given, World, numbered, with_numbered, at_connection, did, is_info, state}
use Rattle.srcp_core.proofs.Names.{history, replied, entered, answered, Place, Held, at, request_of, steps_answered, Recording, key_of}
use Rattle.srcp_core.proofs.Names.{record_of, changed_record, noted, stepped, StandsBy, ConnRecord, option_map_or, slice_set, Act, Obeys}
use Rattle.srcp_core.proofs.Names.{act, fold, filter_map, Request, asked, answered_as, false}
use Rattle.srcp_info.specs.declared.change.Reply.TheVariants.{Mode as ModeReply}
use Rattle.srcp_rules.specs.Steps.{effect}
use Rattle.srcp_core.specs.Machine.{step_of}
use Rattle.srcp_core.proofs.Invariants.LinesAsk.{OfAnswers, acts_law}
use Rattle.srcp_core.proofs.Agreement.LinesAgree.{IsFine, asks_of}
use Rattle.srcp_core.proofs.Agreement.PlacesChange.{given_reply}
use Rattle.srcp_core.proofs.CourseLaws.SessionsOfACourse.{at_number}
use Rattle.srcp_core.proofs.Agreement.NumbersAndKeys.{map_with, numbered_with}
use Rattle.srcp_core.proofs.Agreement.StandsAfterAChange.{Fine}
use Rattle.srcp_core.specs.declared.record.Step.TheVariants as recorded
pub use Rattle.srcp_core.specs.Run.{Records}

-- ---- the records of connections

-- the record of a connection is changed, by what is there
abbrev pub changed_in : ℕ → (ConnRecord → ConnRecord) → List ConnRecord → Option ConnRecord → List ConnRecord
changed_in index change tolds told = option_map_or (λ one. slice_set tolds index (change one)) told tolds

pub told_with : (n : ℕ) (f : Connection → Connection) (g : ConnRecord → ConnRecord) (xs : List Connection) (conn : Connection)
    → numbered n xs ≡ Some conn → record_of (f conn) ≡ g (record_of conn)
    → map record_of (with_numbered n f xs) ≡ changed_record n g (map record_of xs)
told_with zero f g xs conn e h = cc
told_with (suc n) f g [] conn e h = cc
told_with (suc zero) f g (x ∷ xs) conn e h =
    let same : conn ≡ x = cc in
    ap (λ t. t ∷ map record_of xs) (rw (← same) h)
told_with (suc (suc n)) f g (x ∷ xs) conn e h =
    cc (told_with (suc n) f g xs conn e h, prefix _)
  where
    prefix : (o : Option ConnRecord) → record_of x ∷ changed_in n g (map record_of xs) o ≡ changed_in (suc n) g (map record_of (x ∷ xs)) o
    prefix None = refl
    prefix (Some told) = refl

-- ---- what a run has told of a course

pub tells_same : (r : Recording) (w : World) (n : ℕ) (f : Connection → Connection)
    → ((conn : Connection) → numbered n w.connections ≡ Some conn → record_of (f conn) ≡ record_of conn) → Records r w
    → Records r (at_connection n f w)
tells_same r w n f h t = record { steps = t.steps; refused = t.refused; connections = t.connections ∙ sym (map_with record_of n f _ h) }

pub tells_did : (r : Recording) (w : World) (step : Step) → Records r w → Records (stepped (recorded_step step ∷ []) r) (did step w)
tells_did r w step t = record {
  steps = cc (t.steps, map-append _ w.steps _);
  refused = t.refused;
  connections = t.connections;
}

pub tells_changed : (r : Recording) (w : World) (n : ℕ) (conn : Connection) (f : Connection → Connection) (g : ConnRecord → ConnRecord)
    → numbered n w.connections ≡ Some conn → record_of (f conn) ≡ g (record_of conn) → Records r w
    → Records (record r { connections = changed_record n g r.connections }) (at_connection n f w)
tells_changed r w n conn f g e h t = record {
  steps = t.steps;
  refused = t.refused;
  connections = cc (t.connections, told_with n f g _ conn e h);
}

-- ---- the answer to a line

module _ (buses : List Bus) (n : ℕ) (r : Recording) where
  -- no line was put into the connection of the number, and no more was taken of it than it was given
  abbrev IsPlain : World → Connection → Type 0
  IsPlain w conn = (numbered n w.connections ≡ Some conn) × ((conn.items ≡ []) × (conn.taken ≤ length (given conn)))

  tells_replied : (r : Recording) (w : World) (conn : Connection) (reply : Reply) → IsPlain w conn → Records r w
      → Records r (replied n reply w)
  tells_replied r w conn reply p t =
      tells_same r w n (λ conn. record conn { out = conn.out ++ reply_line w.moment reply })
      (λ other e.
      let same : conn ≡ other = let there = p.0 in let both : Some conn ≡ Some other = cc in cc in
      let line = reply_line w.moment reply in
      rw (← same) (cc (given_reply conn line p.1.0, take-append-le _ (given conn) line p.1.1))) t

  tells_begun : (w : World) (conn : Connection) (id moment : ℕ) → IsPlain w conn → Records r w
      → Records (noted n (recorded.Began id moment conn.mode ∷ []) r)
      (replied n (Go id) (entered buses n id (did (Began id moment conn.mode) w)))
  tells_begun w conn id moment p t =
      let step = Began id moment _ in
      let d = tells_did r w step t in
      let f : Connection → Connection = λ c. record c { session = id; info = is_info c.mode; go_step = length _ } in
      let there_after = numbered_with n f _ ∙ ap (option_map f) p.0 in
      tells_replied (noted n (recorded_step step ∷ []) r) (entered buses n id (did step w)) (f conn) (Go id) (there_after, p.1)
      (tells_changed (stepped (recorded_step step ∷ []) r) (did step w) n conn f
      (λ told. record told { session = id; info = is_info conn.mode; go_step = length (r.steps ++ recorded_step step ∷ []) }) p.0
      (ap (λ k. record (record_of conn) { session = id; info = is_info conn.mode; go_step = k })
      (sym (length-map (w.steps ++ step ∷ []) recorded_step) ∙ sym (ap length d.steps)))
      d)

  -- what is noted of the acts is what they do
  abbrev Tells : World → List Act → Type 0
  Tells w all = Records (noted n (filter_map (step_of w.moment) all) r) (fold (act buses n) w all)

  tells : (w : World) (conn : Connection) (mark : Mark) → IsPlain w conn → Records r w
      → OfAnswers (Tells w) buses (state buses w) w.last_id w.moment conn.session conn.mode mark
  tells w conn mark p t = record {
    speaks = tells_replied r w conn Protocol p t;
    chooses = λ chosen.
        let f : Connection → Connection = λ c. record c { mode = chosen } in
        tells_replied r (at_connection n f w) (f conn) ModeReply (numbered_with n f w.connections ∙ ap (option_map f) p.0, p.1)
        (tells_same r w n f (λ c e. refl) t);
    refuses = λ code. tells_replied r w conn (Refused code) p t;
    begins = λ goes left.
        tells_begun (record w { last_id = w.last_id + 1 }) conn (w.last_id + 1) w.moment p
        (record { steps = t.steps; refused = t.refused; connections = t.connections });
    obeys = λ order began reads.
        let after = stepped (recorded.Obeyed conn.session w.moment order.command ∷ []) r in
        let obeyed = act buses n w (Obeys conn.session order) in
        let reply = (effect (state buses w) conn.session w.moment order).reply in
        let one = tells_replied after obeyed conn reply p (tells_did r w (Obeyed conn.session w.moment order) t) in
        let answer = replied n reply obeyed in (
          one,
          tells_did after (at_connection n (λ c. record c { ended = true }) answer) (Ended conn.session w.moment)
              (tells_same after answer n (λ c. record c { ended = true }) (λ c e. refl) one),
        );
  }

  tells_asked : (w : World) (conn : Connection) (granted : Bool) (mark : Mark) (request : Request) (held : Held)
      → held.moment ≡ w.moment → held.last_id ≡ w.last_id → held.rows ≡ state buses w → (conn.info ≡ false → IsPlain w conn) → Records r w
      → request ≡ asked buses (Some conn) mark
      → Records (noted n (steps_answered granted request held) r)
      (answered_as buses n (Some conn) (record { mark = mark; granted = granted }) w)
  tells_asked w conn granted mark request held m l s plain t e =
      rw (m, l, s, e)
      (acts_law (Tells w) granted t (λ free goes_on. tells w conn mark (plain free) t))

-- what is noted of the answer to a line
pub tells_answered : (buses : List Bus) (order : IsRisingBy key_at (shown_rows (opening buses 0))) (read : ℕ → List ℕ → List ℕ)
    (keys : List (Option ℕ)) (n key : ℕ) (r : Recording) (held : Held) (w : World) (granted : Bool) (mark : Mark) (p : Place)
    → IsFine buses order w → StandsBy buses read keys held w → key_of n keys ≡ Some key → at held key ≡ Some p → Records r w
    → Records (noted n (steps_answered granted (request_of held.buses p mark) held) r)
    (answered buses n w (record { mark = mark; granted = granted }))
tells_answered buses order read keys n key r held w granted mark p a s named here t =
    let h = asks_of buses read keys held w n key mark p s named here in
    let f : Fine buses (history buses w) h.conn = at_number _ n _ h.conn a h.there in
    rw h.opened
    (tells_asked buses n r w h.conn granted mark (request_of held.buses p mark) held s.moment s.last_id s.rows
    (λ plain. (h.there, ((f.plain plain).0, f.within))) t h.asks)
