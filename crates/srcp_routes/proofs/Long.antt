-- The table has a mark and a train for each route.
use Rattle.std.proofs.Common.{◌≡◌, ℕ, Bool, true, false, not, ◌&&◌, Option, Some, None, List, length, refl, ◌∙◌, ap}
use Rattle.std.proofs.lemmas.List.{length-map, length-replicate, length-set}
use Rattle.std.proofs.lemmas.List.FromFn.{length-map-range_with_len}
use Rattle.std.specs.Option.{option_map_or}
use Rattle.std.specs.Prelude.{if◌then◌else◌, is_some, map, slice_set}
use Rattle.srcp_routes.specs.Plan.{Table, delay_sent, has_passed, places, start, train_behind, train_sent, wanted_at, wanted_behind}
use Rattle.srcp_routes.specs.Steps.{after, answered, due, heard, is_renewed, is_taken_up, less, ready_at, sent, told}
use Rattle.srcp_routes.specs.declared.interlocking.Event.{Event}
use Rattle.srcp_routes.specs.declared.interlocking.Event.TheVariants.{Ask, Give, Told, Second, Reply, Lost}
use Rattle.srcp_routes.specs.declared.route.Route.{Route}
use Rattle.srcp_routes.specs.declared.train.Train.{Train}
use Rattle.srcp_routes.proofs.Pending.{Fits}

-- the train of the route that sends its order
abbrev pub next_train : Table → ℕ → Option Train
next_train t n = train_sent t.routes t.trains (ready_at t n) n

pub record IsLong (routes : List Route) (t : Table) : Type 0 where
  pub wanted : length t.wanted ≡ length routes
  pub again : length t.again ≡ length routes
  pub trains : length t.trains ≡ length routes
  pub delays : length t.delays ≡ length routes

choose_long : {X : Type 0} (l k : List X) (test : Bool) (count : ℕ) → length l ≡ count → length k ≡ count
    → length (if test then l else k) ≡ count
choose_long l k true count a b = a
choose_long l k false count a b = b

set_long : {X : Type 0} (l : List X) (k : ℕ) (x : X) (count : ℕ) → length l ≡ count → length (slice_set l k x) ≡ count
set_long l k x count a = length-set l k x ∙ a

after_long : (l : List Bool) (renewed ok b : Bool) (n count : ℕ) → length l ≡ count
    → length (if renewed then slice_set l n b else (if ok then l else slice_set l n false)) ≡ count
after_long l renewed ok b n count a = choose_long (slice_set l n b) (if ok then l else slice_set l n false) renewed count
    (set_long l n b count a) (choose_long l (slice_set l n false) ok count a (set_long l n false count a))

reply_long : (routes : List Route) (t : Table) (ok : Bool) (x : Option ℕ) → IsLong routes t
    → IsLong routes (option_map_or (answered t ok) x t)
reply_long routes t ok None long = long
reply_long routes t ok (Some n) long = record {
  wanted = after_long t.wanted (is_renewed t ok n) ok true n (length routes) long.wanted;
  again = after_long t.again (is_renewed t ok n) ok false n (length routes) long.again;
  trains = choose_long t.trains (slice_set t.trains n None) ok (length routes) long.trains
      (set_long t.trains n None (length routes) long.trains);
  delays = long.delays;
}

places_long : {X : Type 0} (f : ℕ → X) (routes : List Route) (t : Table) → Fits routes t
    → length (map f (places t.routes)) ≡ length routes
places_long f routes t fits = length-map-range_with_len f 0 (length t.routes) ∙ ap length fits.plan

start_marks : (routes : List Route) (t : Table) → t.routes ≡ routes → IsLong routes (start t.routes)
start_marks routes t plan = record {
  wanted = length-replicate (length t.routes) false ∙ ap length plan;
  again = length-replicate (length t.routes) false ∙ ap length plan;
  trains = length-replicate (length t.routes) None ∙ ap length plan;
  delays = length-replicate (length t.routes) 0 ∙ ap length plan;
}

pub heard_long : (routes : List Route) (t : Table) (event : Event) → Fits routes t → IsLong routes t
    → IsLong routes (heard t event)
heard_long routes t (Ask n) fits long = record {
  wanted = choose_long (slice_set t.wanted n true) t.wanted (is_taken_up t n) (length routes)
      (set_long t.wanted n true (length routes) long.wanted) long.wanted;
  again = choose_long t.again (slice_set t.again n true) (is_taken_up t n) (length routes) long.again
      (set_long t.again n true (length routes) long.again);
  trains = long.trains;
  delays = long.delays;
}
heard_long routes t (Give n) fits long = record {
  wanted = set_long t.wanted n false (length routes) long.wanted;
  again = set_long t.again n false (length routes) long.again;
  trains = set_long t.trains n None (length routes) long.trains;
  delays = long.delays;
}
heard_long routes t (Told sensor now) fits long = record {
  wanted = places_long (λ n. wanted_at (told t sensor now).wanted n
      && not (has_passed t.routes (told t sensor now).sensors t.trains (record { sensor = sensor; occupancy = now }) n))
      routes t fits;
  again = long.again;
  trains = places_long (train_behind t.routes (told t sensor now).sensors
      (wanted_behind (told t sensor now) (record { sensor = sensor; occupancy = now })) t.trains
      (record { sensor = sensor; occupancy = now })) routes t fits;
  delays = long.delays;
}
heard_long routes t Second fits long = record {
  wanted = long.wanted;
  again = long.again;
  trains = long.trains;
  delays = length-map t.delays less ∙ long.delays;
}
heard_long routes t (Reply ok) fits long = reply_long routes t ok t.waiting long
heard_long routes t Lost fits long =
    let long' : IsLong routes (start t.routes) = start_marks routes t fits.plan in
    record { wanted = long'.wanted; again = long'.again; trains = long'.trains; delays = long'.delays }

next_long : (routes : List Route) (t : Table) (waits : Bool) (d : Option ℕ) → IsLong routes t
    → IsLong routes (if waits then record { table = t; order = None } else sent t d).table
next_long routes t true d long = long
next_long routes t false None long = long
next_long routes t false (Some n) long = record {
  wanted = long.wanted;
  again = long.again;
  trains = set_long t.trains n (next_train t n) (length routes) long.trains;
  delays = set_long t.delays n (delay_sent t.routes t.sensors t.delays (ready_at t n) n) (length routes) long.delays;
}

pub after_long_of : (routes : List Route) (t : Table) (event : Event) → Fits routes t → IsLong routes t
    → IsLong routes (after t event)
after_long_of routes t event fits long = next_long routes (heard t event) (is_some (heard t event).waiting)
    (due (heard t event)) (heard_long routes t event fits long)

pub start_long : (routes : List Route) → IsLong routes (start routes)
start_long routes = start_marks routes (start routes) refl
