-- What one sensor says passes no section, if the train has entered none before.
use Rattle.std.proofs.Common.{◌≡◌, ◌⊎◌, inl, inr, ℕ, ◌+◌, ◌-◌, ◌==◌, ◌≤◌, Bool, true, false, not, ◌&&◌, ◌||◌}
use Rattle.std.proofs.Common.{Option, Some, None, List, [], ◌∷◌, length, refl, sym, ◌∙◌, ap, arith, subst}
use Rattle.std.proofs.lemmas.Bool.{le-ltb, ltb-true, or_right}
use Rattle.std.specs.Option.{option_map_or}
use Rattle.std.specs.Prelude.{fold, if◌then◌else◌, map, nat_lt, slice_get}
use Rattle.srcp_routes.specs.Conflicts.{is_same, is_taken, is_vacant}
use Rattle.srcp_routes.specs.Laws.{OneSensorFreesNone}
use Rattle.srcp_routes.specs.Runs.{Run, are_all_passed, gives_back, goes_now, head_heard, is_freed_by, lies_at}
use Rattle.srcp_routes.specs.Runs.{run, run_after, run_start, section_of, sensed_heard, tail_heard}
use Rattle.srcp_routes.specs.Steps.{step}
use Rattle.srcp_routes.specs.declared.interlocking.Event.{Event}
use Rattle.srcp_routes.specs.declared.interlocking.Event.TheVariants.{Ask, Give, Told, Second, Reply, Lost}
use Rattle.srcp_routes.specs.declared.route.Device.{Device}
use Rattle.srcp_routes.specs.declared.route.Occupancy.{Occupancy}
use Rattle.srcp_routes.specs.declared.route.Occupancy.TheVariants as occupancy
use Rattle.srcp_routes.specs.declared.route.Route.{Route}
use Rattle.srcp_routes.proofs.Behind.{Follows, after_follows, run_follows}

-- ---- a train has entered what it has passed

more : (test : Bool) (n : ℕ) → n ≤ (if test then n + 1 else n)
more true n = omega arith
more false n = omega arith

head_more : (r : Run) (event : Event) (n : ℕ) → r.head n ≤ head_heard r event n
head_more r (Told sensor now) n = more (is_taken now && lies_at r.table.routes n (r.head n) sensor) (r.head n)
head_more r (Ask m) n = omega arith
head_more r (Give m) n = omega arith
head_more r (Reply ok) n = omega arith
head_more r Second n = omega arith
head_more r Lost n = omega arith

entered_less : (tail head : ℕ) (entered o : Bool) → nat_lt (tail + 1) head ≡ entered → tail ≤ head
    → (if entered && o then tail + 1 else tail) ≤ head
entered_less tail head true true is le = omega (arith, ltb-true (tail + 1) head is)
entered_less tail head true false is le = le
entered_less tail head false o is le = le

passed_less : (a b : Bool) (tail head : ℕ) (o : Bool) → tail ≤ head
    → (if a && (b && (nat_lt (tail + 1) head && o)) then tail + 1 else tail) ≤ head
passed_less true true tail head o le = entered_less tail head (nat_lt (tail + 1) head) o refl le
passed_less true false tail head o le = le
passed_less false b tail head o le = le

tail_less : (r : Run) (event : Event) (n : ℕ) → r.tail n ≤ r.head n → tail_heard r event n ≤ r.head n
tail_less r (Told sensor now) n le = passed_less (is_vacant now) (lies_at r.table.routes n (r.tail n) sensor) (r.tail n)
    (r.head n) (option_map_or (sensed_heard is_taken r.occupied (Told sensor now))
    (section_of r.table.routes n (r.tail n + 1)) false) le
tail_less r (Ask m) n le = le
tail_less r (Give m) n le = le
tail_less r (Reply ok) n le = le
tail_less r Second n le = le
tail_less r Lost n le = le

both_from : (goes : Bool) (tail head : ℕ) → tail ≤ head → (if goes then 0 else tail) ≤ (if goes then 0 else head)
both_from true tail head le = omega arith
both_from false tail head le = le

fold_less : (r : Run) (events : List Event) (n : ℕ) → r.tail n ≤ r.head n
    → (fold run_after r events).tail n ≤ (fold run_after r events).head n
fold_less r [] n le = le
fold_less r (event ∷ events) n le = fold_less (run_after r event) events n
    (both_from (goes_now r.table.routes (step r.table event).order (step r.table event).table.waiting n)
    (tail_heard r event n) (head_heard r event n)
    (omega (arith, tail_less r event n le, head_more r event n)))

-- ---- while one sensor alone is told

record IsStill (routes : List Route) (r : Run) (sensor : Device) (n : ℕ) : Type 0 where
  follows : Follows routes r
  go : r.let_go n ≡ true
  tail : r.tail n ≡ 0
  head : (r.head n ≡ 0) ⊎ ((r.head n ≡ 1) ⊎ (lies_at r.table.routes n 1 sensor ≡ true))

not_taken : (now : Occupancy) → is_vacant now ≡ true → is_taken now ≡ false
not_taken occupancy.Free h = refl
not_taken other h = absurd (cc)

if_same : (same taken before : Bool) → same ≡ true → taken ≡ false → (if same then taken else before) ≡ false
if_same true taken before s h = h
if_same false taken before s h = absurd (cc)

-- a section at this sensor is not occupied as the sensor is told to be free
own_free : (x : Option Device) (r : Run) (sensor : Device) (now : Occupancy)
    → option_map_or (λ section. is_same section sensor) x false ≡ true → is_vacant now ≡ true
    → option_map_or (sensed_heard is_taken r.occupied (Told sensor now)) x false ≡ false
own_free None r sensor now lies vacant = refl
own_free (Some section) r sensor now lies vacant =
    if_same (is_same section sensor) (is_taken now) (r.occupied section) lies (not_taken now vacant)

none_passed : (v l b o : Bool) (tail : ℕ) → tail ≡ 0 → (b ≡ false) ⊎ (v ≡ true → o ≡ false)
    → (if v && (l && (b && o)) then tail + 1 else tail) ≡ 0
none_passed false l b o tail e why = e
none_passed true false b o tail e why = e
none_passed true true false o tail e why = e
none_passed true true true false tail e why = e
none_passed true true true true tail e (inl b) = absurd (cc)
none_passed true true true true tail e (inr o) = let no : true ≡ false = o refl in absurd (cc)

not_below : (tail head : ℕ) → head ≤ tail + 1 → nat_lt (tail + 1) head ≡ false
not_below tail head le = le-ltb (tail + 1) head le

why_none : (r : Run) (sensor : Device) (now : Occupancy) (n : ℕ) → r.tail n ≡ 0
    → (r.head n ≡ 0) ⊎ ((r.head n ≡ 1) ⊎ (lies_at r.table.routes n 1 sensor ≡ true))
    → (nat_lt (r.tail n + 1) (r.head n) ≡ false)
    ⊎ (is_vacant now ≡ true → option_map_or (sensed_heard is_taken r.occupied (Told sensor now))
    (section_of r.table.routes n (r.tail n + 1)) false ≡ false)
why_none r sensor now n tail (inl none) = inl (not_below (r.tail n) (r.head n) (omega (arith, none)))
why_none r sensor now n tail (inr (inl one)) = inl (not_below (r.tail n) (r.head n) (omega (arith, one)))
why_none r sensor now n tail (inr (inr lies)) = inr (λ vacant.
    own_free (section_of r.table.routes n (r.tail n + 1)) r sensor now
    (ap (λ (k : ℕ). lies_at r.table.routes n (k + 1) sensor) tail ∙ lies) vacant)

tail_still : (routes : List Route) (r : Run) (sensor : Device) (now : Occupancy) (n : ℕ) → IsStill routes r sensor n
    → tail_heard r (Told sensor now) n ≡ 0
tail_still routes r sensor now n still = none_passed (is_vacant now) (lies_at r.table.routes n (r.tail n) sensor)
    (nat_lt (r.tail n + 1) (r.head n)) (option_map_or (sensed_heard is_taken r.occupied (Told sensor now))
    (section_of r.table.routes n (r.tail n + 1)) false) (r.tail n) still.tail
    (why_none r sensor now n still.tail still.head)

head_next : (taken lies : Bool) (head : ℕ) (P : Type 0) → (head ≡ 0) ⊎ ((head ≡ 1) ⊎ P) → (head ≡ 1 → lies ≡ true → P)
    → ((if taken && lies then head + 1 else head) ≡ 0) ⊎ (((if taken && lies then head + 1 else head) ≡ 1) ⊎ P)
head_next true true head P (inl none) so = inr (inl (omega (arith, none)))
head_next true true head P (inr (inl one)) so = inr (inr (so one refl))
head_next true true head P (inr (inr p)) so = inr (inr p)
head_next true false head P was so = was
head_next false lies head P was so = was

-- no passed section is all but the last of some
none_all : (x : Option Route) (passed : ℕ) → passed ≡ 0
    → option_map_or (λ (route : Route). nat_lt 0 passed && (passed == length route.sections.items - 1)) x false ≡ false
none_all None passed e = refl
none_all (Some route) passed e =
    ap (λ (k : ℕ). nat_lt 0 k && (k == length route.sections.items - 1)) e

still_go : (v occupied freed go all : Bool) → freed ≡ false → all ≡ false → go ≡ true
    → (not ((v && (occupied && freed)) || (go && all)) && go) ≡ true
still_go true true false true false f a g = refl
still_go true false false true false f a g = refl
still_go false occupied false true false f a g = refl
still_go v occupied true go all f a g = absurd (cc)
still_go v occupied freed false all f a g = absurd (cc)
still_go v occupied freed go true f a g = absurd (cc)

zero_if : (goes : Bool) (x : ℕ) → x ≡ 0 → (if goes then 0 else x) ≡ 0
zero_if true x e = refl
zero_if false x e = e

head_if : (goes : Bool) (x : ℕ) (P : Type 0) → (x ≡ 0) ⊎ ((x ≡ 1) ⊎ P)
    → ((if goes then 0 else x) ≡ 0) ⊎ (((if goes then 0 else x) ≡ 1) ⊎ P)
head_if true x P was = inl refl
head_if false x P was = was

told_still : (routes : List Route) (r : Run) (sensor : Device) (now : Occupancy) (n : ℕ)
    → is_freed_by routes n sensor ≡ false → IsStill routes r sensor n → IsStill routes (run_after r (Told sensor now)) sensor n
told_still routes r sensor now n freed still =
    let after : Follows routes (run_after r (Told sensor now)) = after_follows routes r (Told sensor now) still.follows in
    let same : r.table.routes ≡ (run_after r (Told sensor now)).table.routes =
    still.follows.sound.fits.plan ∙ sym after.sound.fits.plan in
    let goes : Bool = goes_now r.table.routes (step r.table (Told sensor now)).order
    (step r.table (Told sensor now)).table.waiting n in
    record {
      follows = after;
      go = or_right goes (not (gives_back r (Told sensor now) n) && r.let_go n)
          (still_go (is_vacant now) (r.occupied sensor) (is_freed_by r.table.routes n sensor) (r.let_go n)
          (are_all_passed r.table.routes n (tail_heard r (Told sensor now) n))
          (ap (λ (l : List Route). is_freed_by l n sensor) still.follows.sound.fits.plan ∙ freed)
          (none_all (slice_get r.table.routes n) (tail_heard r (Told sensor now) n) (tail_still routes r sensor now n still))
          still.go);
      tail = zero_if goes (tail_heard r (Told sensor now) n) (tail_still routes r sensor now n still);
      head = subst (λ (l : List Route). ((run_after r (Told sensor now)).head n ≡ 0)
          ⊎ (((run_after r (Told sensor now)).head n ≡ 1) ⊎ (lies_at l n 1 sensor ≡ true))) same
          (head_if goes (head_heard r (Told sensor now) n) (lies_at r.table.routes n 1 sensor ≡ true)
          (head_next (is_taken now) (lies_at r.table.routes n (r.head n) sensor) (r.head n)
          (lies_at r.table.routes n 1 sensor ≡ true) still.head
          (λ one lies. ap (λ (k : ℕ). lies_at r.table.routes n k sensor) (sym one) ∙ lies)));
    }

words_still : (routes : List Route) (r : Run) (sensor : Device) (words : List Occupancy) (n : ℕ)
    → is_freed_by routes n sensor ≡ false → IsStill routes r sensor n
    → (fold run_after r (map (λ now. Told sensor now) words)).let_go n ≡ true
words_still routes r sensor [] n freed still = still.go
words_still routes r sensor (now ∷ words) n freed still =
    words_still routes (run_after r (Told sensor now)) sensor words n freed (told_still routes r sensor now n freed still)

pub one_sensor_frees_none : OneSensorFreesNone
one_sensor_frees_none routes events sensor words n go head freed =
    let less : (run routes events).tail n ≤ (run routes events).head n =
    fold_less (run_start routes) events n (omega arith) in
    words_still routes (run routes events) sensor words n freed (record {
      follows = run_follows routes events;
      go = go;
      tail = omega (arith, less, head);
      head = inl head;
    })
