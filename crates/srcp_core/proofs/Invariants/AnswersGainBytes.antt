-- What the answer to a line leaves of its connection: the line that has begun, and how many bytes are unsent.
use Rattle.srcp_core.proofs.Names.{cond_both, ◌≡◌, ℕ, ◌+◌, ◌≤◌, Bool, true, List, [], ◌∷◌, map, length, length-append, refl, sym, ◌∙◌}
use Rattle.srcp_core.proofs.Names.{subst, arith, option_map, Option, Some, None, Ok, Err, reply_line, IsMoment, Change, C500, Reply}
use Rattle.srcp_core.proofs.Names.{Accepted, Protocol, Go, Refused, Shows, Mode, began, freed, session_device, is_there, Mark, Speaks}
use Rattle.srcp_core.proofs.Names.{Chooses, Goes, Refuses, Place, Held, place_at, at, IsSound, told_place, told_all, told_each, carried}
use Rattle.srcp_core.proofs.Names.{unsent_of, changed_in, changed_places, changed_at, with_unsent, longest, longest_answer, begun_place}
use Rattle.srcp_core.proofs.Names.{session_begun, request_of, panel_for, Request, Dropped, Greets, Commands, option_map_or, ltb-true, ap}
use Rattle.srcp_core.proofs.Names.{Obeys, Ends, Sets, wants, denied_by, fold, and_parts, not, ◌||◌, Order, Begins, Says, nat_lt, ◌&&◌}
use Rattle.srcp_info.specs.WellFormed.{IsWellFormedReply}
use Rattle.srcp_info.specs.declared.change.Reply.TheVariants.{Mode as ModeReply}
use Rattle.srcp_info.proofs.LineLaws.{length-reply_line-le, length-reply_line-most}
use Rattle.srcp_rules.proofs.ToldLaws.{reply_told}
use Rattle.srcp_core.specs.Machine.{act, answered, replied}
use Rattle.srcp_rules.specs.Steps.{effect}
use Rattle.srcp_rules.proofs.EachStepLaws.{effect_law}
use Rattle.srcp_core.proofs.Invariants.EveryPlaceIsTold.{told_all_at}
use Rattle.srcp_core.proofs.Invariants.ChangesOneByOne.{change_in}
use Rattle.srcp_core.proofs.Invariants.PlacesCover.{place_set_here, told_so}
use Rattle.srcp_core.proofs.Invariants.RepliesStayUnsent.{longest_most}
use Rattle.srcp_core.proofs.Invariants.LinesAsk.{asked_by}

-- what is known of the line that has begun
abbrev line_begun_of : Option Place → Option (List ℕ)
line_begun_of place = option_map_or (λ p. p.reader.begun) place (Some [])

-- at most `n` bytes come to the unsent, and the line that has begun stays
pub record Gains (n : ℕ) (old new : Option Place) : Type 0 where
  pub few : length (unsent_of new) ≤ length (unsent_of old) + n
  pub begun : line_begun_of new ≡ line_begun_of old

nothing : (o : Option Place) → Gains 0 o o
nothing o = record { few = omega arith; begun = refl }

both : (m n : ℕ) (a b c : Option Place) → Gains m a b → Gains n b c → Gains (m + n) a c
both m n a b c g h = record { few = omega (arith, g.few, h.few); begun = h.begun ∙ g.begun }

most : (m n : ℕ) (a b : Option Place) → m ≤ n → Gains m a b → Gains n a b
most m n a b le g = record { few = omega (arith, le, g.few); begun = g.begun }

told_slot : (change : Change) (o : Option Place) → Gains 0 o (option_map (told_place change) o)
told_slot change None = record { few = omega arith; begun = refl }
told_slot change (Some p) =
    let t = told_so change p in
    record { few = omega (arith, t.fewer); begun = ap (λ (q : Place). q.reader.begun) t.is }

told_gains : (key : ℕ) (changes : List Change) (places : List (Option Place))
    → Gains 0 (place_at places key) (place_at (told_each changes places) key)
told_gains key [] places = nothing _
told_gains key (change ∷ changes) places =
    both 0 0 (place_at places key) (place_at (told_all change places) key) _
    (subst (λ (o : Option Place). Gains 0 (place_at places key) o) (sym (told_all_at change places key))
    (told_slot change (place_at places key)))
    (told_gains key changes (told_all change places))

-- a change of one connection
changed_gains : (n key : ℕ) (change : Place → Place) (places : List (Option Place)) → ((p : Place) → Gains n (Some p) (Some (change p)))
    → Gains n (place_at places key) (place_at (changed_places key change places) key)
changed_gains n key change places gains = by _ refl
  where
    by : (o : Option Place) → place_at places key ≡ o → Gains n o (place_at (changed_in key change places o) key)
    by None e = most 0 n None _ (omega arith) (rw e (nothing None))
    by (Some p) e = rw (place_set_here places key p _ e) (gains p)

-- ---- replies

line_few : (moment : ℕ) (reply : Reply) → IsMoment moment → IsWellFormedReply reply → length (reply_line moment reply) ≤ longest reply
line_few moment Accepted now h = length-reply_line-le moment Accepted now h tt
line_few moment Protocol now h = length-reply_line-le moment Protocol now h tt
line_few moment ModeReply now h = length-reply_line-le moment ModeReply now h tt
line_few moment (Go id) now h = length-reply_line-le moment (Go id) now h tt
line_few moment (Shows shown) now h = length-reply_line-most moment (Shows shown) now h
line_few moment (Refused code) now h = length-reply_line-le moment (Refused code) now h tt

replied_gains : (key : ℕ) (reply : Reply) (held : Held) → IsMoment held.moment → IsWellFormedReply reply
    → Gains (longest reply) (at held key) (at (replied key reply held) key)
replied_gains key reply held now h =
    changed_gains (longest reply) key (with_unsent (reply_line held.moment reply)) held.places
    (λ p.
    record {
      few = let l = line_few held.moment reply now h in
          let a = length-append p.unsent (reply_line held.moment reply) in
          omega (arith, l, a);
      begun = refl;
    })

begun_gains : (key id : ℕ) (mode : Mode) (held : Held) → Gains 0 (at held key) (at (session_begun key id mode held) key)
begun_gains key id mode held =
    let mid = carried (began id held.moment mode ∷ []) (record held { last_id = id }) in
    both 0 0 (at held key) (at mid key) (at (session_begun key id mode held) key)
    (told_gains key (map change_in (began id held.moment mode ∷ [])) held.places)
    (changed_gains 0 key (begun_place id (panel_for mode)) mid.places (λ p. record { few = omega arith; begun = refl }))

ended_gains : (key session : ℕ) (held : Held) → Gains 0 (at held key) (at (act key held (Ends session)) key)
ended_gains key session held =
    let mid = changed_at key (λ p. record p { ended = true }) held in
    both 0 0 (at held key) (at mid key) _
    (changed_gains 0 key (λ p. record p { ended = true }) held.places (λ p. record { few = omega arith; begun = refl }))
    (told_gains key (map change_in (freed held.rows session held.moment)) mid.places)

-- an answer adds no more than its longest, and leaves what is begun
pub answered_gains : (granted : Bool) (key : ℕ) (request : Request) (held : Held) (p : Place) (mark : Mark) → at held key ≡ Some p
    → request ≡ request_of held.buses p mark → IsSound held
    → Gains (longest_answer request) (at held key) (at (answered granted key request held) key)
answered_gains granted key request held p mark there is s = by request is
  where
    counted : Request → Held
    counted request =
        record held { denied = denied_by held.denied ((granted || not (wants held.rows held.last_id held.moment request)) ∷ []) }

    says : (request : Request) (reply : Reply) → IsWellFormedReply reply
        → Gains (longest reply) (at held key) (at (replied key reply (counted request)) key)
    says request reply = replied_gains key reply (counted request) s.moment

    by : (request : Request) → request ≡ request_of held.buses p mark
        → Gains (longest_answer request) (at held key) (at (answered granted key request held) key)
    by Dropped is = most 0 64 _ _ (omega arith) (nothing (at held key))
    by (Greets mode Speaks) is = says (Greets mode Speaks) Protocol tt
    by (Greets mode (Chooses chosen)) is =
        let mid = act key (counted (Greets mode (Chooses chosen))) (Sets chosen) in
        both 0 64 (at held key) (at mid key) _
        (changed_gains 0 key (λ p. record p { mode = chosen }) held.places (λ p. record { few = omega arith; begun = refl }))
        (replied_gains key ModeReply mid s.moment tt)
    by (Greets mode Goes) is =
        let old = counted (Greets mode Goes) in
        cond_both (granted && nat_lt held.last_id 4294967295) (Begins (held.last_id + 1) mode ∷ Says (Go (held.last_id + 1)) ∷ [])
        (Says (Refused C500) ∷ []) (λ all. Gains 64 (at held key) (at (fold (act key) old all) key))
        (λ e.
        let l = ltb-true held.last_id 4294967295 (and_parts _ _ e).1 in
        let begun = session_begun key (held.last_id + 1) mode old in
        both 0 64 (at held key) (at begun key) _ (begun_gains key (held.last_id + 1) mode old)
        (replied_gains key (Go (held.last_id + 1)) begun s.moment (omega (arith, l))))
        (λ _. says (Greets mode Goes) (Refused C500) tt)
    by (Greets mode (Refuses code)) is = says (Greets mode (Refuses code)) (Refused code) tt
    by (Commands session (Err code)) is = says (Commands session (Err code)) (Refused code) tt
    by (Commands session (Ok command)) is =
        let a = asked_by _ s.whole.laid_out p mark session _ is in
        let row : is_there (session_device session) held.rows ≡ true = rw (← a.own) (s.sessions.there key p there a.live) in
        let order : Order = record { command = command; granted = granted } in
        let result = effect held.rows session held.moment order in
        let told =
        effect_law (λ e. IsWellFormedReply e.reply) held.rows session held.moment order
        (reply_told held.buses held.rows s.whole session held.moment row s.moment command) tt in
        let mid = act key (counted (Commands session (Ok command))) (Obeys session order) in
        let end = replied key result.reply mid in
        let one : Gains 126 (at held key) (at end key) =
        most (0 + longest result.reply) 126 _ _ (let l = longest_most result.reply in omega (arith, l))
        (both 0 (longest result.reply) (at held key) (at mid key) (at end key) (told_gains key (map change_in result.updates) held.places)
        (replied_gains key result.reply mid s.moment told)) in
        cond_both result.ends (Ends session ∷ []) [] (λ all. Gains 126 (at held key) (at (fold (act key) end all) key))
        (λ _. both 126 0 (at held key) (at end key) _ one (ended_gains key session end)) (λ _. one)
