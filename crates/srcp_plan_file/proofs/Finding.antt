-- Over the turnouts of each way that is found, a way leads from its begin to its goal.
use Rattle.std.proofs.Common.{◌≡◌, ◌∙◌, ℕ, zero, suc, ◌==◌, Bool, true, false, ◌||◌, List, [], ◌∷◌, ◌++◌, Option, Some, None}
use Rattle.std.proofs.Common.{refl, sym, ap, subst, append_assoc, arith}
use Rattle.std.proofs.lemmas.List.{append-nil}
use Rattle.std.proofs.lemmas.List.Concat.{flat_map-cons}
use Rattle.std.proofs.lemmas.List.Elements.{All-nil, All-cons, All-head, All-tail, All-append}
use Rattle.std.specs.Prelude.{if◌then◌else◌, is_some, length, option_and_then, option_map, option_to_list}
use Rattle.std.specs.List.{All, find, flat_map, list_any}
use Rattle.srcp_routes.specs.Conflicts.{has_accessory, is_same}
use Rattle.srcp_routes.specs.declared.route.Device.{Device}
use Rattle.srcp_routes.specs.declared.route.Setting.{Setting}
use Rattle.srcp_plan_file.specs.Laws.{FoundLead}
use Rattle.srcp_plan_file.specs.Searches.{Walked, and_put, arrived, arrived_at, begun, onward, onwards, onwards_at, other_port}
use Rattle.srcp_plan_file.specs.Searches.{ways_from}
use Rattle.srcp_plan_file.specs.Ways.{first_join, kind_at, leads, next, walk, way_over}
use Rattle.srcp_plan_file.specs.declared.element.Kind.{Kind}
use Rattle.srcp_plan_file.specs.declared.element.Kind.TheVariants as kind
use Rattle.srcp_plan_file.specs.declared.join.Join.{Join}

-- ---- lists

all_flat : {X Y : Type 0} (P : Y → Type 0) (f : X → List Y) (xs : List X) → All (λ x. All P (f x)) xs → All P (flat_map f xs)
all_flat P f [] h = All-nil P
all_flat P f (x ∷ xs) h = rw (flat_map-cons f x xs)
    (All-append P (f x) (flat_map f xs) (All-head (λ x. All P (f x)) x xs h) (all_flat P f xs (All-tail (λ x. All P (f x)) x xs h)))

all_if : {X Y : Type 0} (P : X → Type 0) (Q : Y → Type 0) (f : X → List Y) (xs : List X) → ((x : X) → P x → All Q (f x)) → All P xs
    → All Q (flat_map f xs)
all_if P Q f xs g h = all_flat Q f xs (λ k d lt. g _ (h k d lt))

find_if : {X : Type 0} (p : X → Bool) (x : X) (xs more : List X) (w : Bool) → p x ≡ w → (w || list_any p xs) ≡ true
    → (list_any p xs ≡ true → find p (xs ++ more) ≡ find p xs) → find p (x ∷ (xs ++ more)) ≡ find p (x ∷ xs)
find_if p x xs more true is e so = rw is refl
find_if p x xs more false is e so = rw is (so e)

-- what is found in a list is found in a longer one
pub find_more : {X : Type 0} (p : X → Bool) (xs more : List X) → list_any p xs ≡ true → find p (xs ++ more) ≡ find p xs
find_more p [] more e = absurd (cc)
find_more p (x ∷ xs) more e = find_if p x xs more (p x) refl e (λ later. find_more p xs more later)

pub any_last : {X : Type 0} (p : X → Bool) (xs : List X) (x : X) → p x ≡ true → list_any p (xs ++ x ∷ []) ≡ true
any_last p [] x e = rw e refl
any_last p (y ∷ xs) x e = rw (any_last p xs x e) (or_true (p y))
  where
    or_true : (b : Bool) → (b || true) ≡ true
    or_true true = refl
    or_true false = refl

module _ (joins : List Join) (kinds : List Kind) (goal : ℕ) (whole : List Setting → Option (List ℕ)) where
  -- over turnouts that begin with these a train goes on as over these
  abbrev IsSettled : Join → List Setting → Type 0
  IsSettled came turnouts = (more : List Setting) → next joins kinds (turnouts ++ more) came ≡ next joins kinds turnouts came

  settled : (came : Join) (turnouts : List Setting) (device : Device) (branch : ℕ) → kind_at kinds came.to ≡ kind.Turnout device branch
      → has_accessory turnouts device ≡ true → IsSettled came turnouts
  settled came turnouts device branch is put more = rw is
      (ap (λ (found : Option Setting). option_and_then (λ to_branch. find (leads joins to_branch came) joins)
      (option_map (λ (turnout : Setting). turnout.port == branch) found))
      (find_more (λ (turnout : Setting). is_same turnout.device device) turnouts more put))

  -- over turnouts that begin with those of a way, the whole way comes as far as this one, with this number of joins left
  abbrev Comes : (most : ℕ) → Walked → Type 0
  Comes most way = (more : List Setting) → (before : List ℕ)
      × (whole (way.turnouts ++ more) ≡ walk joins kinds (way.turnouts ++ more) goal most before way.came)

  abbrev Arrives : Walked → Type 0
  Arrives way = is_some (whole way.turnouts) ≡ true

  passes : (most : ℕ) (way : Walked) (turnouts extra : List Setting) (join : Join) → turnouts ≡ way.turnouts ++ extra
      → (way.came.to == goal) ≡ false → IsSettled way.came turnouts → next joins kinds turnouts way.came ≡ Some join
      → Comes (suc most) way → Comes most (record { came = join; turnouts = turnouts })
  passes most way turnouts extra join are there same is comes more =
      let over : turnouts ++ more ≡ way.turnouts ++ (extra ++ more) =
      rw are (append_assoc way.turnouts extra more) in
      let goes : next joins kinds (turnouts ++ more) way.came ≡ Some join = same more ∙ is in
      let far = comes (extra ++ more) in
      let here : whole (turnouts ++ more) ≡ walk joins kinds (turnouts ++ more) goal (suc most) far.0 way.came =
      subst (λ (t : List Setting). whole t ≡ walk joins kinds t goal (suc most) far.0 way.came) (sym over) far.1 in
      (far.0 ++ way.came.to ∷ [], here ∙ rw (there, goes) refl)

  onward_comes : (most : ℕ) (way : Walked) (turnouts extra : List Setting) (x : Option Join) → next joins kinds turnouts way.came ≡ x
      → turnouts ≡ way.turnouts ++ extra → (way.came.to == goal) ≡ false → IsSettled way.came turnouts → Comes (suc most) way
      → All (Comes most) (option_to_list (option_map (λ (join : Join). record { came = join; turnouts = turnouts }) x))
  onward_comes most way turnouts extra None is are there same comes = All-nil (Comes most)
  onward_comes most way turnouts extra (Some join) is are there same comes =
      All-cons (Comes most) (record { came = join; turnouts = turnouts }) []
      (passes most way turnouts extra join are there same is comes) (All-nil (Comes most))

  -- as a way goes on over the turnouts that it has
  stays : (most : ℕ) (way : Walked) → (way.came.to == goal) ≡ false → IsSettled way.came way.turnouts → Comes (suc most) way
      → All (Comes most) (onward joins kinds way.came way.turnouts)
  stays most way there same comes = onward_comes most way way.turnouts [] (next joins kinds way.turnouts way.came) refl
      (sym (append-nil way.turnouts)) there same comes

  -- as it goes on over one more
  puts : (most : ℕ) (way : Walked) (device : Device) (branch port : ℕ) → kind_at kinds way.came.to ≡ kind.Turnout device branch
      → (way.came.to == goal) ≡ false → Comes (suc most) way
      → All (Comes most) (onward joins kinds way.came (and_put way.turnouts device port))
  puts most way device branch port is there comes = onward_comes most way (and_put way.turnouts device port)
      (record { device = device; port = port } ∷ []) (next joins kinds (and_put way.turnouts device port) way.came) refl refl there
      (settled way.came (and_put way.turnouts device port) device branch is
      (any_last (λ (turnout : Setting). is_same turnout.device device) way.turnouts (record { device = device; port = port })
      (same_as_itself device)))
      comes
    where
      same_as_itself : (device : Device) → is_same device device ≡ true
      same_as_itself device = grind arith

  over_turnout : (most : ℕ) (way : Walked) (device : Device) (branch : ℕ) (put : Bool) → has_accessory way.turnouts device ≡ put
      → kind_at kinds way.came.to ≡ kind.Turnout device branch → (way.came.to == goal) ≡ false → Comes (suc most) way
      → All (Comes most) (if put then onward joins kinds way.came way.turnouts
      else onward joins kinds way.came (and_put way.turnouts device (other_port branch))
      ++ onward joins kinds way.came (and_put way.turnouts device branch))
  over_turnout most way device branch true put is there comes =
      stays most way there (settled way.came way.turnouts device branch is put) comes
  over_turnout most way device branch false put is there comes =
      All-append (Comes most) (onward joins kinds way.came (and_put way.turnouts device (other_port branch)))
      (onward joins kinds way.came (and_put way.turnouts device branch))
      (puts most way device branch (other_port branch) is there comes) (puts most way device branch branch is there comes)

  over : (most : ℕ) (way : Walked) (k : Kind) → kind_at kinds way.came.to ≡ k → (way.came.to == goal) ≡ false → Comes (suc most) way
      → All (Comes most) (onwards_at joins kinds way k)
  over most way kind.Track is there comes = stays most way there (λ more. rw is refl) comes
  over most way kind.Crossing is there comes = stays most way there (λ more. rw is refl) comes
  over most way kind.Button is there comes = All-nil (Comes most)
  over most way (kind.Signal device) is there comes = stays most way there (λ more. rw is refl) comes
  over most way (kind.Sensor device) is there comes = stays most way there (λ more. rw is refl) comes
  over most way (kind.Turnout device branch) is there comes =
      over_turnout most way device branch (has_accessory way.turnouts device) refl is there comes
  over most way kind.Beside is there comes = stays most way there (λ more. rw is refl) comes

  goes_on : (most : ℕ) (way : Walked) (here : Bool) → (way.came.to == goal) ≡ here → Comes (suc most) way
      → All (Comes most) (if here then [] else onwards_at joins kinds way (kind_at kinds way.came.to))
  goes_on most way true is comes = All-nil (Comes most)
  goes_on most way false is comes = over most way (kind_at kinds way.came.to) refl is comes

  arrives : (most : ℕ) (way : Walked) (here : Bool) → (way.came.to == goal) ≡ here → Comes (suc most) way
      → All Arrives (if here then way ∷ [] else [])
  arrives most way true is comes =
      let far = comes [] in
      let e : whole way.turnouts ≡ walk joins kinds way.turnouts goal (suc most) far.0 way.came =
      subst (λ (t : List Setting). whole t ≡ walk joins kinds t goal (suc most) far.0 way.came) (append-nil way.turnouts) far.1 in
      All-cons Arrives way [] (rw (e, is) refl) (All-nil Arrives)
  arrives most way false is comes = All-nil Arrives

  all_arrive : (most : ℕ) (ways : List Walked) → All (Comes most) ways → All Arrives (ways_from joins kinds goal most ways)
  all_arrive zero ways h = All-nil Arrives
  all_arrive (suc most) ways h =
      All-append Arrives (arrived goal ways) (ways_from joins kinds goal most (flat_map (onwards joins kinds goal) ways))
      (all_if (Comes (suc most)) Arrives (arrived_at goal) ways (λ way comes. arrives most way (way.came.to == goal) refl comes) h)
      (all_arrive most (flat_map (onwards joins kinds goal) ways)
      (all_if (Comes (suc most)) (Comes most) (onwards joins kinds goal) ways
      (λ way comes. goes_on most way (way.came.to == goal) refl comes) h))

module _ (joins : List Join) (kinds : List Kind) (begin goal : ℕ) where
  begins : (x : Option Join) → first_join joins begin ≡ x
      → All (Comes joins kinds goal (λ turnouts. way_over joins kinds turnouts begin goal) (length joins))
      (option_to_list (option_map (λ (join : Join). record { came = join; turnouts = [] }) x))
  begins None is = All-nil (Comes joins kinds goal (λ turnouts. way_over joins kinds turnouts begin goal) (length joins))
  begins (Some first) is =
      All-cons (Comes joins kinds goal (λ turnouts. way_over joins kinds turnouts begin goal) (length joins))
      (record { came = first; turnouts = [] }) [] (λ more. ([], rw is refl))
      (All-nil (Comes joins kinds goal (λ turnouts. way_over joins kinds turnouts begin goal) (length joins)))

pub found-lead : FoundLead
found-lead joins kinds begin goal =
    all_arrive joins kinds goal (λ turnouts. way_over joins kinds turnouts begin goal) (length joins) (begun joins begin)
    (begins joins kinds begin goal (first_join joins begin) refl)
