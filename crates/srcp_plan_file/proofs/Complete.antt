-- Whoever leads a way past no button has put the turnouts of a way that is found, as it puts them.
use Rattle.std.proofs.Common.{◌≡◌, ◌∙◌, ◌⊎◌, inl, inr, ◌≢◌, ℕ, zero, suc, ◌≤◌, ◌==◌, Bool, true, false, ◌||◌, List, [], ◌∷◌, ◌++◌}
use Rattle.std.proofs.Common.{Option, Some, None, refl, sym, ap, subst, arith}
use Rattle.std.proofs.lemmas.List.Concat.{flat_map-cons}
use Rattle.std.proofs.lemmas.List.Folds.{list_any-append}
use Rattle.std.proofs.lemmas.List.Elements.{All-head, All-tail}
use Rattle.std.proofs.lemmas.Bool.{eqb-true}
use Rattle.std.proofs.lemmas.Option.{slice_get-map}
use Rattle.std.specs.Prelude.{if◌then◌else◌, length, map, option_and_then, option_map, option_to_list, slice_get, unwrap_or}
use Rattle.std.specs.List.{All, Any, find, flat_map, list_any}
use Rattle.srcp_routes.specs.Conflicts.{has_accessory, is_same}
use Rattle.srcp_routes.specs.declared.route.Device.{Device}
use Rattle.srcp_routes.specs.declared.route.Setting.{Setting}
use Rattle.srcp_plan_file.specs.Laws.{FoundAreAll, HaveTwoPorts, PutsAlike, closed, port_of}
use Rattle.srcp_plan_file.specs.Searches.{Walked, and_put, arrived, arrived_at, onward, onwards, onwards_at, other_port}
use Rattle.srcp_plan_file.specs.Searches.{ways_from, ways_over}
use Rattle.srcp_plan_file.specs.Ways.{branches, first_join, kind_at, leads, next, next_at, walk}
use Rattle.srcp_plan_file.specs.declared.element.Kind.{Kind}
use Rattle.srcp_plan_file.specs.declared.element.Kind.TheVariants as kind
use Rattle.srcp_plan_file.specs.declared.join.Join.{Join}
use Rattle.srcp_plan_file.proofs.Finding.{any_last, find_more}

-- ---- lists

abbrev Has : {X : Type 0} (P : X → Type 0) → List X → Type 0
Has P [] = ⊥
Has P (x ∷ xs) = P x ⊎ Has P xs

has_left : {X : Type 0} (P : X → Type 0) (xs ys : List X) → Has P xs → Has P (xs ++ ys)
has_left P [] ys h = absurd h
has_left P (x ∷ xs) ys (inl p) = inl p
has_left P (x ∷ xs) ys (inr h) = inr (has_left P xs ys h)

has_right : {X : Type 0} (P : X → Type 0) (xs ys : List X) → Has P ys → Has P (xs ++ ys)
has_right P [] ys h = h
has_right P (x ∷ xs) ys h = inr (has_right P xs ys h)

has_flat : {X Y : Type 0} (P : X → Type 0) (Q : Y → Type 0) (f : X → List Y) (xs : List X) → ((x : X) → P x → Has Q (f x)) → Has P xs
    → Has Q (flat_map f xs)
has_flat P Q f [] g h = absurd h
has_flat P Q f (x ∷ xs) g (inl p) = rw (flat_map-cons f x xs) (has_left Q (f x) (flat_map f xs) (g x p))
has_flat P Q f (x ∷ xs) g (inr h) = rw (flat_map-cons f x xs) (has_right Q (f x) (flat_map f xs) (has_flat P Q f xs g h))

any_of : {X : Type 0} (P : X → Type 0) (xs : List X) → Has P xs → Any P xs
any_of P [] h = absurd h
any_of P (x ∷ xs) (inl p) = (0, x, omega arith, refl, p)
any_of P (x ∷ xs) (inr h) =
    let a : Any P xs = any_of P xs h in
    (suc a.0, a.1, omega (arith, a.2), a.3, a.4)

passes : {X : Type 0} (p : X → Bool) (y : X) (xs : List X) (x : X) (w : Bool) → p y ≡ w → (w || list_any p xs) ≡ false
    → (list_any p xs ≡ false → find p (xs ++ x ∷ []) ≡ Some x) → find p (y ∷ (xs ++ x ∷ [])) ≡ Some x
passes p y xs x true here e so = absurd (cc)
passes p y xs x false here e so = rw here (so e)

find_last : {X : Type 0} (p : X → Bool) (xs : List X) (x : X) → list_any p xs ≡ false → p x ≡ true
    → find p (xs ++ x ∷ []) ≡ Some x
find_last p [] x e is = rw is refl
find_last p (y ∷ xs) x e is = passes p y xs x (p y) refl e (λ later. find_last p xs x later is)

-- ---- turnouts

same_device : (a b : Device) → is_same a b ≡ true → a ≡ b
same_device a b e = grind arith

branches_by : (x y : Option Setting) (branch : ℕ)
    → option_map (λ (turnout : Setting). turnout.port) x ≡ option_map (λ (turnout : Setting). turnout.port) y
    → option_map (λ (turnout : Setting). turnout.port == branch) x ≡ option_map (λ (turnout : Setting). turnout.port == branch) y
branches_by None None branch e = refl
branches_by None (Some b) branch e = absurd (cc)
branches_by (Some a) None branch e = absurd (cc)
branches_by (Some a) (Some b) branch e = let same : a.port ≡ b.port = cc in ap (λ (port : ℕ). Some (port == branch)) same

-- turnouts that are put as these agree at each that they put
put_alike : (all before : List Setting) (device : Device) (port : ℕ) → PutsAlike all before → has_accessory before device ≡ false
    → port_of all device ≡ Some port → PutsAlike all (and_put before device port)
put_alike all before device port alike new is of e = by_old (has_accessory before of) refl
  where
    here : is_same device of ≡ true → has_accessory before of ≡ false → port_of (and_put before device port) of ≡ port_of all of
    here same none =
        let last : find (λ (turnout : Setting). is_same turnout.device of) (and_put before device port)
        ≡ Some (record { device = device; port = port }) =
        find_last (λ (turnout : Setting). is_same turnout.device of) before (record { device = device; port = port }) none same in
        ap (option_map (λ (turnout : Setting). turnout.port)) last ∙ sym is ∙ ap (port_of all) (same_device device of same)

    by_last : (w : Bool) → is_same device of ≡ w → has_accessory before of ≡ false
        → port_of (and_put before device port) of ≡ port_of all of
    by_last true same none = here same none
    by_last false same none =
        absurd (let none_here : has_accessory (and_put before device port) of ≡ false =
        list_any-append (λ (turnout : Setting). is_same turnout.device of) before (record { device = device; port = port } ∷ [])
        ∙ rw (none, same) refl in
        cc)

    by_old : (w : Bool) → has_accessory before of ≡ w → port_of (and_put before device port) of ≡ port_of all of
    by_old true old =
        ap (option_map (λ (turnout : Setting). turnout.port))
        (find_more (λ (turnout : Setting). is_same turnout.device of) before (record { device = device; port = port } ∷ []) old)
        ∙ alike of old
    by_old false none = by_last (is_same device of) refl none

first_holds : {X : Type 0} (P : X → Type 0) (p : X → Bool) (y : X) (xs : List X) (x : X) (w : Bool) → p y ≡ w → P y
    → (find p xs ≡ Some x → P x) → (if w then Some y else find p xs) ≡ Some x → P x
first_holds P p y xs x true is h so e = let same : y ≡ x = cc in subst P same h
first_holds P p y xs x false is h so e = so e

find_holds : {X : Type 0} (P : X → Type 0) (p : X → Bool) (xs : List X) (x : X) → All P xs → find p xs ≡ Some x → P x
find_holds P p [] x h e = absurd (cc)
find_holds P p (y ∷ xs) x h e =
    first_holds P p y xs x (p y) refl (All-head P y xs h) (λ later. find_holds P p xs x (All-tail P y xs h) later) e

unlike : (port branch : ℕ) → (port == branch) ≡ false → port ≢ branch
unlike port branch e = grind arith

other_if : (port branch : ℕ) (none : Bool) → (branch == 0) ≡ none → port ≤ 1 → branch ≤ 1 → port ≢ branch
    → port ≡ (if none then 1 else 0)
other_if port branch true is p b differ = let zero_is : branch ≡ 0 = eqb-true branch 0 is in omega arith
other_if port branch false is p b differ = let is_one : branch ≢ 0 = unlike branch 0 is in omega arith

-- of two ports the one that is not this
other_is : (port branch : ℕ) → port ≤ 1 → branch ≤ 1 → (port == branch) ≡ false → port ≡ other_port branch
other_is port branch p b e = other_if port branch (branch == 0) refl p b (unlike port branch e)

unless_closed : (x : Option Kind) → unwrap_or (option_map closed x) kind.Beside ≡ closed (unwrap_or x kind.Beside)
unless_closed None = refl
unless_closed (Some k) = refl

closed_at : (kinds : List Kind) (n : ℕ) → kind_at (map closed kinds) n ≡ closed (kind_at kinds n)
closed_at kinds n = ap (λ (x : Option Kind). unwrap_or x kind.Beside) (slice_get-map closed kinds n) ∙ unless_closed (slice_get kinds n)

module _ (joins : List Join) (kinds : List Kind) (goal : ℕ) (all : List Setting) (two : HaveTwoPorts kinds)
    (ports : All (λ (turnout : Setting). turnout.port ≤ 1) all) where
  -- a way that comes by this join, over turnouts that are put alike
  abbrev Comes : Join → Walked → Type 0
  Comes came way = (way.came ≡ came) × PutsAlike all way.turnouts

  abbrev Alike : Walked → Type 0
  Alike way = PutsAlike all way.turnouts

  -- what a train does at a turnout
  at_turnout : (turnouts : List Setting) (came : Join) (device : Device) (branch : ℕ) → kind_at kinds came.to ≡ kind.Turnout device branch
      → next joins kinds turnouts came
      ≡ option_and_then (λ to_branch. find (leads joins to_branch came) joins) (branches turnouts device branch)
  at_turnout turnouts came device branch is = rw is refl

  same_next : (turnouts : List Setting) (came join : Join) (device : Device) (branch : ℕ)
      → kind_at kinds came.to ≡ kind.Turnout device branch
      → PutsAlike all turnouts → has_accessory turnouts device ≡ true → next joins kinds all came ≡ Some join
      → next joins kinds turnouts came ≡ Some join
  same_next turnouts came join device branch is alike put e =
      at_turnout turnouts came device branch is
      ∙ ap (option_and_then (λ to_branch. find (leads joins to_branch came) joins))
      (branches_by (find (λ (turnout : Setting). is_same turnout.device device) turnouts)
      (find (λ (turnout : Setting). is_same turnout.device device) all) branch (alike device put))
      ∙ sym (at_turnout all came device branch is) ∙ e

  goes : (turnouts : List Setting) (came join : Join) → PutsAlike all turnouts → next joins kinds turnouts came ≡ Some join
      → Has (Comes join) (onward joins kinds came turnouts)
  goes turnouts came join alike e = rw e (inl (refl, alike))

  -- over a turnout that was not put before
  puts : (turnouts : List Setting) (came join : Join) (device : Device) (branch port : ℕ)
      → kind_at kinds came.to ≡ kind.Turnout device branch
      → PutsAlike all turnouts → has_accessory turnouts device ≡ false → next joins kinds all came ≡ Some join
      → port_of all device ≡ Some port → Has (Comes join) (onward joins kinds came (and_put turnouts device port))
  puts turnouts came join device branch port is alike new e of =
      let more : PutsAlike all (and_put turnouts device port) = put_alike all turnouts device port alike new of in
      let put : has_accessory (and_put turnouts device port) device ≡ true =
      any_last (λ (turnout : Setting). is_same turnout.device device) turnouts (record { device = device; port = port })
      (itself device) in
      goes (and_put turnouts device port) came join more
      (same_next (and_put turnouts device port) came join device branch is more put e)
    where
      itself : (device : Device) → is_same device device ≡ true
      itself device = grind arith

  by_port : (turnouts : List Setting) (came join : Join) (device : Device) (branch port : ℕ) (to_branch : Bool)
      → (port == branch) ≡ to_branch → kind_at kinds came.to ≡ kind.Turnout device branch → PutsAlike all turnouts
      → has_accessory turnouts device ≡ false → next joins kinds all came ≡ Some join → port_of all device ≡ Some port → port ≤ 1
      → Has (Comes join) (onward joins kinds came (and_put turnouts device (other_port branch))
      ++ onward joins kinds came (and_put turnouts device branch))
  by_port turnouts came join device branch port true same is alike new e of least =
      let port_is : port ≡ branch = eqb-true port branch same in
      has_right (Comes join) (onward joins kinds came (and_put turnouts device (other_port branch)))
      (onward joins kinds came (and_put turnouts device branch))
      (puts turnouts came join device branch branch is alike new e (of ∙ ap Some port_is))
  by_port turnouts came join device branch port false same is alike new e of least =
      let port_is : port ≡ other_port branch = other_is port branch least (two came.to device branch is) same in
      has_left (Comes join) (onward joins kinds came (and_put turnouts device (other_port branch)))
      (onward joins kinds came (and_put turnouts device branch))
      (puts turnouts came join device branch (other_port branch) is alike new e (of ∙ ap Some port_is))

  new_turnout : (turnouts : List Setting) (came join : Join) (device : Device) (branch : ℕ) (x : Option Setting)
      → find (λ (turnout : Setting). is_same turnout.device device) all ≡ x → kind_at kinds came.to ≡ kind.Turnout device branch
      → PutsAlike all turnouts → has_accessory turnouts device ≡ false → next joins kinds all came ≡ Some join
      → Has (Comes join) (onward joins kinds came (and_put turnouts device (other_port branch))
      ++ onward joins kinds came (and_put turnouts device branch))
  new_turnout turnouts came join device branch None of is alike new e =
      absurd (let none : next joins kinds all came ≡ None = at_turnout all came device branch is ∙ rw of refl in cc)
  new_turnout turnouts came join device branch (Some turnout) of is alike new e =
      by_port turnouts came join device branch turnout.port (turnout.port == branch) refl is alike new e
      (ap (option_map (λ (turnout : Setting). turnout.port)) of)
      (find_holds (λ (turnout : Setting). turnout.port ≤ 1) (λ (turnout : Setting). is_same turnout.device device) all turnout ports of)

  over_turnout : (turnouts : List Setting) (came join : Join) (device : Device) (branch : ℕ) (put : Bool)
      → has_accessory turnouts device ≡ put → kind_at kinds came.to ≡ kind.Turnout device branch → PutsAlike all turnouts
      → next joins kinds all came ≡ Some join
      → Has (Comes join) (if put then onward joins kinds came turnouts
      else onward joins kinds came (and_put turnouts device (other_port branch))
      ++ onward joins kinds came (and_put turnouts device branch))
  over_turnout turnouts came join device branch true put is alike e =
      goes turnouts came join alike (same_next turnouts came join device branch is alike put e)
  over_turnout turnouts came join device branch false new is alike e =
      new_turnout turnouts came join device branch (find (λ (turnout : Setting). is_same turnout.device device) all) refl is alike new e

  -- a train that goes on past no button is followed by a way
  over : (way : Walked) (join : Join) (k : Kind) → kind_at kinds way.came.to ≡ k → PutsAlike all way.turnouts
      → next_at joins all way.came (closed k) ≡ Some join → Has (Comes join) (onwards_at joins kinds way k)
  over way join kind.Track is alike e = goes way.turnouts way.came join alike (rw is e)
  over way join kind.Crossing is alike e = goes way.turnouts way.came join alike (rw is e)
  over way join kind.Button is alike e = absurd (cc)
  over way join (kind.Signal device) is alike e = goes way.turnouts way.came join alike (rw is e)
  over way join (kind.Sensor device) is alike e = goes way.turnouts way.came join alike (rw is e)
  over way join (kind.Turnout device branch) is alike e =
      over_turnout way.turnouts way.came join device branch (has_accessory way.turnouts device) refl is alike (rw is e)
  over way join kind.Beside is alike e = absurd (cc)

  goes_on : (way : Walked) (came join : Join) → (came.to == goal) ≡ false → next joins (map closed kinds) all came ≡ Some join
      → Comes came way → Has (Comes join) (onwards joins kinds goal way)
  goes_on way came join there e comes =
      let e' : next_at joins all came (closed (kind_at kinds came.to)) ≡ Some join = rw (closed_at kinds came.to) at e in
      let there' : (way.came.to == goal) ≡ false = rw comes.0 there in
      let e'' : next_at joins all way.came (closed (kind_at kinds way.came.to)) ≡ Some join = rw comes.0 e' in
      rw there' (over way join (kind_at kinds way.came.to) refl comes.1 e'')

  arrives : (way : Walked) (came : Join) → (came.to == goal) ≡ true → Comes came way → Has Alike (arrived_at goal way)
  arrives way came here comes =
      let here' : (way.came.to == goal) ≡ true = rw comes.0 here in
      rw here' (inl comes.1)

  -- what was found of a longer way is found
  abbrev IsFound : (most : ℕ) → List Walked → Join → List ℕ → Type 0
  IsFound most ways came pieces = (before : List ℕ) → walk joins (map closed kinds) all goal most before came ≡ Some pieces
      → Has Alike (ways_from joins kinds goal most ways)

  by_next : (most : ℕ) (ways : List Walked) (before pieces : List ℕ) (came : Join) (x : Option Join)
      → next joins (map closed kinds) all came ≡ x → (came.to == goal) ≡ false → Has (Comes came) ways
      → ((join : Join) → Has (Comes join) (flat_map (onwards joins kinds goal) ways)
      → IsFound most (flat_map (onwards joins kinds goal) ways) join pieces)
      → option_and_then (walk joins (map closed kinds) all goal most before) x ≡ Some pieces
      → Has Alike (ways_from joins kinds goal (suc most) ways)
  by_next most ways before pieces came None is there h so e = absurd (cc)
  by_next most ways before pieces came (Some join) is there h so e =
      has_right Alike (arrived goal ways) (ways_from joins kinds goal most (flat_map (onwards joins kinds goal) ways))
      (so join (has_flat (Comes came) (Comes join) (onwards joins kinds goal) ways (λ way comes. goes_on way came join there is comes) h)
      before e)

  by_goal : (most : ℕ) (ways : List Walked) (before pieces : List ℕ) (came : Join) (here : Bool) → (came.to == goal) ≡ here
      → Has (Comes came) ways
      → ((join : Join) → Has (Comes join) (flat_map (onwards joins kinds goal) ways)
      → IsFound most (flat_map (onwards joins kinds goal) ways) join pieces)
      → (if here then Some (before ++ came.to ∷ [])
      else option_and_then (walk joins (map closed kinds) all goal most (before ++ came.to ∷ [])) (next joins (map closed kinds) all came))
      ≡ Some pieces → Has Alike (ways_from joins kinds goal (suc most) ways)
  by_goal most ways before pieces came true is h so e =
      has_left Alike (arrived goal ways) (ways_from joins kinds goal most (flat_map (onwards joins kinds goal) ways))
      (has_flat (Comes came) Alike (arrived_at goal) ways (λ way comes. arrives way came is comes) h)
  by_goal most ways before pieces came false is h so e =
      by_next most ways (before ++ came.to ∷ []) pieces came (next joins (map closed kinds) all came) refl is h so e

  found : (most : ℕ) (ways : List Walked) (pieces : List ℕ) (came : Join) → Has (Comes came) ways → IsFound most ways came pieces
  found zero ways pieces came h before e = absurd (cc)
  found (suc most) ways pieces came h before e = by_goal most ways before pieces came (came.to == goal) refl h
      (λ join later. found most (flat_map (onwards joins kinds goal) ways) pieces join later) e

  found_from : (begin : ℕ) (pieces : List ℕ) (x : Option Join) → first_join joins begin ≡ x
      → option_and_then (walk joins (map closed kinds) all goal (length joins) []) x ≡ Some pieces
      → Has Alike (ways_from joins kinds goal (length joins)
      (option_to_list (option_map (λ (join : Join). record { came = join; turnouts = [] }) x)))
  found_from begin pieces None is e = absurd (cc)
  found_from begin pieces (Some first) is e =
      found (length joins) (record { came = first; turnouts = [] } ∷ []) pieces first
      (inl (refl, λ device put. absurd (cc))) [] e

pub found-are-all : FoundAreAll
found-are-all joins kinds turnouts begin goal pieces two ports e =
    any_of (λ (walk : Walked). PutsAlike turnouts walk.turnouts) (ways_over joins kinds begin goal)
    (found_from joins kinds goal turnouts two ports begin pieces (first_join joins begin) refl e)
