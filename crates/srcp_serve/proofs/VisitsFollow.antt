-- A visit: one read, the writes, and how it ends.
use Rattle.srcp_serve.proofs.Names.{Event, Some, number_in, ◌⊎◌, ⊎_elim, ◌≡◌, ◌∙◌, ℕ, ◌+◌, Bool, true, false, cond, not, List, [], ◌∷◌}
use Rattle.srcp_serve.proofs.Names.{◌++◌, map, take, refl, ap, sym, arith, append-nil, Result, map-append, filter_map-append}
use Rattle.srcp_serve.proofs.Names.{list_any-append, sum_by-append, list_any, filter_map, count_by, AllByRecursion, ◌||◌, if◌then◌else◌}
use Rattle.srcp_serve.proofs.Names.{all_append, filter_every, Past, course_of, hung_up, number, without_key, Bytes, Room, Shut, DoorCall}
use Rattle.srcp_serve.proofs.Names.{Trace, Call, ReadCall, WriteCall, CloseCall, answers_of, Client, Reads, Writes, ClosesQuestion}
use Rattle.srcp_serve.proofs.Names.{question, visit, exchange, rooms, handed, is_closing, reads_of, writes_of, closes_of, visit_events}
use Rattle.srcp_serve.proofs.Names.{is_about, is_close, is_write, is_ready, loses, loses_reading, falls_short, piece_of, count_of}
use Rattle.srcp_serve.proofs.Names.{AreAboutPeers, Asks, Makes, Went, Disconnects, ReadsIn, Visits, WritesOut, DoorFault, or-false, inl}
use Rattle.srcp_serve.proofs.Names.{inr, or_left, or_right}
use Rattle.srcp_core.specs.Agrees.{closes}
use Rattle.srcp_serve.specs.Visits.{Closes}
use Rattle.srcp_serve.proofs.CallsAreAdded.{denied_more, makes_then, went_as, went_by, went_then}
use Rattle.srcp_serve.proofs.CallsByTurnAndPeer.{same_peer}

-- all calls are about that peer
abbrev pub AreAbout : ℕ → List Call → Type 0
AreAbout peer calls = AllByRecursion (λ call. is_about peer call ≡ true) calls

-- ---- the calls of a read, and those of writes

record AreReads (peer : ℕ) (calls : List Call) : Type 0 where
  counts : filter_map count_of calls ≡ []
  short : list_any falls_short calls ≡ false
  many : count_by is_write calls ≡ 0
  quiet : list_any is_close calls ≡ false
  losing : list_any loses calls ≡ list_any loses_reading calls
  about : AreAbout peer calls

are_reads : (peer : ℕ) (b : Bool) (calls : List Call) → map question calls ≡ (if b then Reads peer 256 ∷ [] else []) → AreReads peer calls
are_reads peer b [] e = record { counts = refl; short = refl; many = refl; quiet = refl; losing = refl; about = tt }
are_reads peer false (call ∷ calls) e = cc
are_reads peer true (ReadCall who answer buffer grants ∷ []) e =
    let same : who ≡ peer = cc in
    record { counts = refl; short = refl; many = refl; quiet = refl; losing = refl; about = (rw same (same_peer peer), tt) }
are_reads peer true other e = cc

pub record AreWrites (peer : ℕ) (calls : List Call) : Type 0 where
  pub pieces : filter_map piece_of calls ≡ []
  pub reading : list_any loses_reading calls ≡ false
  pub quiet : list_any is_close calls ≡ false
  pub answers : answers_of calls ≡ []
  pub about : AreAbout peer calls

pub are_writes : (peer : ℕ) (texts : List (List ℕ)) (calls : List Call) → map question calls ≡ map (Writes peer) texts
    → AreWrites peer calls
are_writes peer texts [] e = record { pieces = refl; reading = refl; quiet = refl; answers = refl; about = tt }
are_writes peer (text ∷ texts) (WriteCall who bytes answer ∷ calls) e =
    let same : who ≡ peer = cc in
    let w = are_writes peer texts calls (cc) in
    record { pieces = w.pieces; reading = w.reading; quiet = w.quiet; answers = w.answers; about = (rw same (same_peer peer), w.about) }
are_writes peer texts other e = cc

pub closing_call : (peer : ℕ) (calls : List Call) → map question calls ≡ ClosesQuestion peer ∷ []
    → (answer : Result Unit DoorFault) × (calls ≡ CloseCall peer answer ∷ [])
closing_call peer (CloseCall who answer ∷ []) e = let same : who ≡ peer = cc in (answer, rw same refl)
closing_call peer other e = cc

-- ---- calls after calls

count_append : (xs ys : List Call) → count_by is_write (xs ++ ys) ≡ count_by is_write xs + count_by is_write ys
count_append xs ys = sum_by-append (λ x. cond (is_write x) 1 0) xs ys

any_second : (p : Call → Bool) (xs ys : List Call) → list_any p xs ≡ false → list_any p (xs ++ ys) ≡ list_any p ys
any_second p xs ys e = simp (list_any-append, e)

any_first : (p : Call → Bool) (xs ys : List Call) → list_any p ys ≡ false → list_any p (xs ++ ys) ≡ list_any p xs
any_first p xs ys e = simp (list_any-append, e, or-false)

module _ (peer key : ℕ) (old : Past) (trace_old : Trace) where
  abbrev pub client : Client
  client = record { peer = peer; conn = number key old }

  -- the peer was read and then written to
  pub record IsExchanged (trace : List DoorCall) (new : Past) (stays : Bool) : Type 0 where
    pub calls : List Call
    pub made : Makes calls trace_old trace old new
    pub own : AreAbout peer calls
    pub quiet : list_any is_close calls ≡ false
    pub asked : map question calls ≡ reads_of old.buses old.events client ++ writes_of old.buses old.events calls client
    pub loses_is : list_any loses calls ≡ not stays
    pub went : Went (exchange client.conn calls) old.keys old new

  -- the peer is read and written to
  abbrev pub Exchanges : (new : Past) (trace_new : Trace) → Bool → Type 0
  Exchanges new trace_new stays = (trace : List DoorCall) → trace_new ≡ Some trace → IsExchanged trace new stays

  -- the connection is to be closed
  abbrev pub closes_now : Past → Bool
  closes_now now = closes now.buses (course_of now) (number key now)

  -- so it is in the course of what was exchanged
  closing_is : (mid : Past) (calls : List Call) → Went (exchange client.conn calls) old.keys old mid
      → closes_now mid ≡ is_closing old.buses client.conn (old.events ++ exchange client.conn calls)
  closing_is mid calls w = rw (w.layout, w.events, w.keys) refl

  -- ---- the functions

  module _ (mid : Past) (trace_mid : Trace) where
    -- the peer is lost, or its connection is to be closed
    abbrev pub Ends : Type 0
    Ends = Exchanges mid trace_mid false ⊎ (Exchanges mid trace_mid true × (closes_now mid ≡ true))

    pub exchanges_lost : ReadsIn peer key old trace_old mid trace_mid false → Exchanges mid trace_mid false
    exchanges_lost reads trace is =
        let n : ℕ = client.conn in
        let r = reads trace is in
        let calls = r.calls in
        let rd = are_reads peer (is_ready old.buses n old.events) calls r.asked in
        let same : exchange n calls ≡ map (Bytes n) (filter_map piece_of calls) =
        cc (append-nil (map (Bytes n) (filter_map piece_of calls))) in
        record {
          calls = calls;
          made = r.made;
          own = rd.about;
          quiet = rd.quiet;
          asked = rw r.stays_is (r.asked ∙ sym (append-nil (reads_of old.buses old.events client)));
          loses_is = rd.losing ∙ r.stays_is;
          went = rw same r.went;
        }

    pub visit_stays : (closing : Bool) → Exchanges mid trace_mid true → closing ≡ closes_now mid → closing ≡ false
        → Visits peer key old trace_old mid trace_mid true
    visit_stays closing exchanges says open_still trace is =
        let x = exchanges trace is in
        let n : ℕ = client.conn in
        let over : is_closing old.buses n (old.events ++ exchange n x.calls) ≡ false =
        sym (says ∙ closing_is mid x.calls x.went) ∙ open_still in
        let mine : visit x.calls client ≡ x.calls = filter_every (is_about peer) x.calls x.own in
        let more : visit_events x.calls client ≡ exchange n x.calls = cc (append-nil (exchange n x.calls)) in
        let none : closes_of old.buses old.events x.calls client ≡ [] = cc in
        record {
          calls = x.calls;
          made = x.made;
          asked = rw none (x.asked
              ∙ sym (append-nil (reads_of old.buses old.events client ++ writes_of old.buses old.events x.calls client)));
          stays_is = x.quiet;
          went = rw more x.went;
        }

    module _ (new : Past) (trace_new : Trace) (asks : Asks AreAboutPeers trace_mid trace_new) where
      pub exchanges_on : (stays : Bool) → ReadsIn peer key old trace_old mid trace_mid true
          → WritesOut peer key mid trace_mid new trace_new stays → Exchanges new trace_new stays
      exchanges_on stays reads writes trace is =
          let n : ℕ = client.conn in
          let w = (asks trace is).1 in
          let r = reads w.before w.was in
          let p = writes trace is in
          let reads = r.calls in
          let read = map (Bytes n) (filter_map piece_of reads) in
          let p_asked : map question p.calls
          ≡ map (Writes peer) (take 300 (handed old.buses n (old.events ++ read) (filter_map count_of p.calls))) =
          p.asked ∙ rw (r.went.layout, r.went.events, r.went.keys) refl in
          let p_went : Went (map (Room n) (rooms p.calls)) old.keys mid new =
          went_as _ _ mid.keys old.keys mid new p.went (ap (λ ks. map (Room (number_in key ks)) (rooms p.calls)) r.went.keys) r.went.keys in
          let rd = are_reads peer (is_ready old.buses n old.events) reads r.asked in
          let wr = are_writes peer _ p.calls p_asked in
          let calls = reads ++ p.calls in
          let pieces : filter_map piece_of calls ≡ filter_map piece_of reads = simp (filter_map-append, wr.pieces, append-nil) in
          let counts : filter_map count_of calls ≡ filter_map count_of p.calls = simp (filter_map-append, rd.counts) in
          let reading = any_second loses_reading reads p.calls r.stays_is ∙ wr.reading in
          let losing = any_second loses reads p.calls (rd.losing ∙ r.stays_is) in
          let short = any_second falls_short reads p.calls rd.short in
          let many : count_by is_write calls ≡ count_by is_write p.calls = omega (arith, count_append reads p.calls, rd.many) in
          let more : exchange n calls ≡ read ++ map (Room n) (rooms p.calls) = cc in
          let asks : writes_of old.buses old.events calls client
          ≡ map (Writes peer) (take 300 (handed old.buses n (old.events ++ read) (filter_map count_of p.calls))) = cc in
          record {
            calls = calls;
            made = makes_then w.was r.made p.made;
            own = all_append _ reads p.calls rd.about wr.about;
            quiet = any_second is_close reads p.calls rd.quiet ∙ wr.quiet;
            asked = rw (map-append, r.asked, p_asked, ← asks);
            loses_is = losing ∙ p.stays_is;
            went = rw more (went_then read (map (Room n) (rooms p.calls)) old.keys old.keys old mid new r.went p_went);
          }

      module _ (goes : Disconnects peer key mid trace_mid new trace_new) where
        visit_goes : (stays : Bool) → (stays ≡ false) ⊎ (closes_now mid ≡ true) → Exchanges mid trace_mid stays
            → Visits peer key old trace_old new trace_new false
        visit_goes stays ends exchanges trace is =
            let n : ℕ = client.conn in
            let w = (asks trace is).1 in
            let x = exchanges w.before w.was in
            let now = old.events ++ exchange n x.calls in
            let closing_now = closing_is mid x.calls x.went in
            let over : list_any loses x.calls || is_closing old.buses n now ≡ true =
            ⊎_elim (λ e. or_left (list_any loses x.calls) (is_closing old.buses n now) (x.loses_is ∙ ap not e))
            (λ e. or_right (list_any loses x.calls) (is_closing old.buses n now) (sym closing_now ∙ e)) ends in
            let g = goes trace is in
            let c = closing_call peer g.calls g.asked in
            let last : Call = CloseCall peer c.0 in
            let calls : List Call = x.calls ++ last ∷ [] in
            let pieces : filter_map piece_of calls ≡ filter_map piece_of x.calls = filter_map-append _ x.calls _ ∙ append-nil _ in
            let counts : filter_map count_of calls ≡ filter_map count_of x.calls = filter_map-append _ x.calls _ ∙ append-nil _ in
            let reading : list_any loses_reading calls ≡ list_any loses_reading x.calls = any_first _ x.calls _ refl in
            let losing : list_any loses calls ≡ list_any loses x.calls = any_first loses x.calls _ refl in
            let short : list_any falls_short calls ≡ list_any falls_short x.calls = any_first _ x.calls _ refl in
            let many : count_by is_write calls ≡ count_by is_write x.calls = omega (arith, count_append x.calls (last ∷ [])) in
            let swap : exchange n calls ≡ exchange n x.calls = rw (pieces, counts, losing, short, many) refl in
            let writes : writes_of old.buses old.events calls client ≡ writes_of old.buses old.events x.calls client =
            rw (reading, pieces, counts) refl in
            let own : AreAbout peer calls = all_append _ x.calls _ x.own (same_peer peer, tt) in
            let closing : list_any is_close calls ≡ true = any_second _ x.calls _ x.quiet in
            let mine : visit calls client ≡ calls = filter_every _ calls own in
            let more : visit_events calls client ≡ exchange n x.calls ++ Shut n ∷ [] =
            ap {B = List Event} (λ own. exchange n own ++ (if list_any is_close own then Shut n ∷ [] else [])) mine
            ∙ ap (λ es. es ++ (if list_any is_close calls then Shut n ∷ [] else [])) swap
            ∙ ap (λ b. exchange n x.calls ++ (if b then Shut n ∷ [] else [])) closing in
            let asks : closes_of old.buses old.events calls client ≡ ClosesQuestion peer ∷ [] =
            ap (λ es. if list_any loses calls || is_closing old.buses n (old.events ++ es) then ClosesQuestion peer ∷ [] else []) swap
            ∙ ap (λ b. if b || is_closing old.buses n now then ClosesQuestion peer ∷ [] else []) losing
            ∙ ap (λ b. if b then ClosesQuestion peer ∷ [] else []) over in
            record {
              calls = calls;
              made = makes_then w.was x.made (rw c.1 at g.made);
              asked = rw (map-append, x.asked, writes, asks);
              stays_is = closing;
              went = rw more (went_then (exchange n x.calls) (Shut n ∷ []) old.keys (without_key n old.keys) old mid new x.went
                  (went_as _ _ (without_key (number key mid) mid.keys) _ mid new g.went
                  (ap (λ ks. Shut (number_in key ks) ∷ []) x.went.keys)
                  (ap (λ ks. without_key (number_in key ks) ks) x.went.keys)));
            }

        -- the visit ends so
        pub visit_ends : Ends → Visits peer key old trace_old new trace_new false
        visit_ends ends = ⊎_elim (visit_goes false (inl refl)) (λ over. visit_goes true (inr over.1) over.0) ends

-- the connection is shut and the peer closed
pub disconnects : (peer key : ℕ) (old new : Past) (trace_old trace_new : Trace) → new ≡ hung_up key old
    → Closes peer trace_old trace_new → Disconnects peer key old trace_old new trace_new
disconnects peer key old new _ _ hung closes trace is =
    let c = closes trace is in
    record {
      calls = CloseCall peer c.2.0 ∷ [];
      made = record { adds = rw c.2.1 at c.1; counted = rw hung (denied_more (Shut (number key old)) old) };
      asked = refl;
      stays_is = refl;
      went = went_by (Shut (number key old) ∷ []) _ old new hung;
    }
