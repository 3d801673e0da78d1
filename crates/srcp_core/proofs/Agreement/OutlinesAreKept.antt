-- A recorder that keeps an outline keeps of each change what that makes of the outline.
use Rattle.srcp_core.proofs.Names.{◌≡◌, ℕ, zero, suc, Bool, true, false, List, [], ◌∷◌, ◌++◌, map, refl, ap, sym, ◌∙◌, option_map, Option}
use Rattle.srcp_core.proofs.Names.{Some, None, Result, Ok, Err, IfOk, slice_get, Next, Told, Listed, Settled, Bus, IsLayout}
use Rattle.srcp_core.proofs.Names.{Held, IsPromised, Recording, Keeps, kept, changed_record, shut, gave, finished, finished_by}
use Rattle.srcp_core.proofs.Names.{nothing_recorded, PlainMoments, ConnRecord, Record}
use Rattle.std.proofs.lemmas.Option.{slice_get-map, get_or_from_slice_get}
use Rattle.srcp_core.specs.Promised.{connection_outline, IsPromisedOutline}
use Rattle.srcp_core.specs.Recording.{Becomes, recording_outline, began, with_sent}
use Rattle.srcp_core.proofs.Agreement.LinesAreNoted.{changed_in}
use Rattle.srcp_core.specs.Run.{RunsTold, recorded_in}
use Rattle.srcp_core.specs.declared.event.Event.{Event as PlainEvent}
use Rattle.srcp_core.specs.declared.record.Finish.TheVariants.{Shut as ShutFinish}
use Rattle.srcp_core.specs.declared.record.Step.{Step}
use Rattle.srcp_core.proofs.Agreement.RunPromises.{promised}
use Rattle.srcp_core.specs.declared.record.Step.TheVariants as recorded
use Rattle.std.proofs.lemmas.List.{map-set}
use Rattle.std.proofs.Math.Seq.{map-set_same}

-- ---- what a recorder keeps

-- the keys are kept in any case
keys_kept : (in_full : Bool) (old r : Recording) → old ≡ kept in_full r → old.keys ≡ r.keys
keys_kept true old r e = cc
keys_kept false old r e = cc

-- what the change makes of what is kept is kept of what it makes of all
pub becomes : {in_full : Bool} (change : Recording → Recording) (old new : Recording)
    → ((in_full : Bool) (r : Recording) → change (kept in_full r) ≡ kept in_full (change r))
    → new ≡ change old → Becomes in_full change old new
becomes {in_full = in_full} change old new law is = record { each = λ r e. (change r, cc (law in_full r), refl) }

-- nothing is kept of the change
pub stays : {in_full : Bool} (change : Recording → Recording) (old : Recording) → in_full ≡ false
    → ((r : Recording) → recording_outline (change r) ≡ recording_outline r) → Becomes in_full change old old
stays change old off law = record {
  each = λ r e. (change r, e ∙ rw off (sym (law r)), refl);
}

module _ {in_full : Bool} {P : Recording → Recording → Type 0} where
  -- one thing follows, and then another
  pub keeps_then : {Q R : Recording → Recording → Type 0} (a b c : Recording)
      → ((r s t : Recording) → a.keys ≡ r.keys → P r s → Q s t → R r t) → Keeps in_full P a b → Keeps in_full Q b c
      → Keeps in_full R a c
  keeps_then a b c both p q = record {
    each = λ r e.
        let first = p.each r e in
        let second = q.each first.0 first.1 in
        (second.0, second.1, both r first.0 second.0 (keys_kept in_full a r e) first.2 second.2);
  }

  -- what follows follows in another way
  pub keeps_as : {Q : Recording → Recording → Type 0} (old new : Recording) → ((r later : Recording) → P r later → Q r later)
      → Keeps in_full P old new → Keeps in_full Q old new
  keeps_as old new law p = record { each = λ r e. let one = p.each r e in (one.0, one.1, law r one.0 one.2) }

  -- what follows of the changed recording follows
  pub keeps_changed : (change : Recording → Recording) (old new : Recording)
      → ((r : Recording) → old.keys ≡ r.keys → P r (change r)) → Becomes in_full change old new → Keeps in_full P old new
  keeps_changed change old new law b = record {
    each = λ r e. let one = b.each r e in (change r, cc (one.1, one.2), law r (keys_kept in_full old r e));
  }

  -- what holds of a recording to which nothing happens
  pub keeps_same : (old : Recording) → ((r : Recording) → old.keys ≡ r.keys → P r r) → Keeps in_full P old old
  keeps_same old law = record { each = λ r e. (r, e, law r (keys_kept in_full old r e)) }

-- a change that comes to the same
pub becomes_as : {in_full : Bool} (change same : Recording → Recording) (old new : Recording)
    → ((r : Recording) → change r ≡ same r) → Becomes in_full change old new → Becomes in_full same old new
becomes_as change same old new law was = record {
  each = λ r e. let next = was.each r e in (next.0, next.1, next.2 ∙ law r);
}

-- ---- each change

changed_kept : (n : ℕ) (f : ConnRecord → ConnRecord) → ((one : ConnRecord) → f (connection_outline one) ≡ connection_outline (f one))
    → (tolds : List ConnRecord)
    → changed_record n f (map connection_outline tolds) ≡ map connection_outline (changed_record n f tolds)
changed_kept zero f law tolds = refl
changed_kept (suc n) f law tolds = cc (slice_get-map _ tolds n, by _)
  where
    by : (o : Option ConnRecord)
        → changed_in n f (map connection_outline tolds) (option_map connection_outline o) ≡ map connection_outline (changed_in n f tolds
        o)
    by None = refl
    by (Some one) = cc (law one, map-set connection_outline tolds n (f one))

changed_aside : (n : ℕ) (f : ConnRecord → ConnRecord) → ((one : ConnRecord) → connection_outline (f one) ≡ connection_outline one)
    → (tolds : List ConnRecord)
    → map connection_outline (changed_record n f tolds) ≡ map connection_outline tolds
changed_aside zero f law tolds = refl
changed_aside (suc n) f law tolds = by _ refl
  where
    by : (o : Option ConnRecord) → slice_get tolds n ≡ o
        → map connection_outline (changed_in n f tolds o) ≡ map connection_outline tolds
    by None e = refl
    by (Some one) e =
        map-set_same connection_outline tolds n (f one) one
        (law one ∙ ap connection_outline (sym (get_or_from_slice_get tolds n one one e)))

abbrev with_connections : Recording → List ConnRecord → Recording
with_connections r tolds = record { keys = r.keys; steps = []; connections = tolds; refused = r.refused }

pub shut_kept : (n : ℕ) (in_full : Bool) (r : Recording) → shut n (kept in_full r) ≡ kept in_full (shut n r)
shut_kept n true r = refl
shut_kept n false r = cc (changed_kept n (λ one. record one { finish = ShutFinish }) (λ one. refl) _)

pub took_kept : (n : ℕ) (bytes : List ℕ) (in_full : Bool) (r : Recording)
    → with_sent n bytes (kept in_full r) ≡ kept in_full (with_sent n bytes r)
took_kept n bytes true r = refl
took_kept n bytes false r = cc (changed_kept n (λ one. record one { sent = one.sent ++ bytes }) (λ one. refl) _)

pub began_aside : (n : ℕ) (step : Step) (r : Recording) → recording_outline (began n step r) ≡ recording_outline r
began_aside n (recorded.Obeyed session moment command) r = refl
began_aside n (recorded.Began session moment mode) r = ap (with_connections r) (changed_aside n _ (λ one. refl) _)
began_aside n (recorded.Moment moment) r = refl
began_aside n (recorded.Ended session moment) r = refl

pub gave_aside : (n : ℕ) (item : Option Next) (r : Recording) → recording_outline (gave n item r) ≡ recording_outline r
gave_aside n None r = refl
gave_aside n (Some (Told change)) r = ap (with_connections r) (changed_aside n _ (λ one. refl) _)
gave_aside n (Some (Listed row)) r = ap (with_connections r) (changed_aside n _ (λ one. refl) _)
gave_aside n (Some Settled) r = refl

-- ---- the record

finished_kept : (held : Held) (keys : List (Option ℕ)) (tolds : List ConnRecord)
    → finished held keys (map connection_outline tolds) ≡ map connection_outline (finished held keys tolds)
finished_kept held [] tolds = refl
finished_kept held (key ∷ keys) [] = refl
finished_kept held (key ∷ keys) (one ∷ tolds) = cc (by key, finished_kept held keys tolds)
  where
    by : (key : Option ℕ) → finished_by held key (connection_outline one) ≡ connection_outline (finished_by held key one)
    by None = refl
    by (Some key) = refl

-- the record of a recording at the end
abbrev pub record_at : Recording → Held → Record
record_at r held = record {
  steps = r.steps;
  connections = finished held r.keys r.connections;
  refused = r.refused;
  rows = held.rows;
  denied = held.denied;
}

pub record_from : (run : Record) (told : Recording) (held : Held) → run.steps ≡ told.steps → run.refused ≡ told.refused
    → run.connections ≡ finished held told.keys told.connections → run.rows ≡ held.rows
    → run.denied ≡ held.denied → run ≡ record_at told held
record_from run told held s r c w d =
    λ i. record { steps = s i; connections = c i; refused = r i; rows = w i; denied = d i }

pub nothing_kept : (in_full : Bool) → nothing_recorded ≡ kept in_full nothing_recorded
nothing_kept true = refl
nothing_kept false = refl

pub record_kept : (in_full : Bool) (r : Recording) (held : Held) → record_at (kept in_full r) held ≡ recorded_in in_full (record_at r held)
record_kept true r held = refl
record_kept false r held = cc (finished_kept held r.keys _)

-- ---- what a run promises

pub promised_whole : {E : Type 0} (buses : List Bus) (events : List PlainEvent) (result : Result Record E)
    → IfOk result (λ run. RunsTold true buses events run) → IfOk result (λ _. PlainMoments events) → IfOk result (λ _. IsLayout buses)
    → IfOk result (λ run. IsPromised buses events run)
promised_whole buses events (Ok run) t moments layout = rw t.is (promised {E = ℕ}
    buses events (Ok t.whole) t.runs moments layout)
promised_whole buses events (Err fault) t moments layout = tt

pub promised_outline : {E : Type 0} (buses : List Bus) (events : List PlainEvent) (result : Result Record E)
    → IfOk result (λ run. RunsTold false buses events run) → IfOk result (λ _. PlainMoments events)
    → IfOk result (λ _. IsLayout buses) → IfOk result (λ run. IsPromisedOutline buses events run)
promised_outline buses events (Ok run) t moments layout = record {
  whole = t.whole;
  promised = promised {E = ℕ} buses events (Ok
      t.whole) t.runs moments layout;
  is = t.is;
}
promised_outline buses events (Err fault) t moments layout = tt
