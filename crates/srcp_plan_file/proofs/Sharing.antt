-- Two routes share something exactly if they conflict.
use Rattle.std.proofs.Common.{◌≡◌, ◌∙◌, ℕ, Bool, true, false, ◌||◌, List, [], ◌∷◌, ◌++◌, Option, Some, None, refl, ap, sym, length, arith}
use Rattle.std.proofs.Common.{inl, inr}
use Rattle.std.specs.Prelude.{◌==◌, nat_lt, if◌then◌else◌, option_map, option_to_list}
use Rattle.std.specs.List.{find, flat_map, list_any}
use Rattle.std.specs.Option.{option_map_or}
use Rattle.std.proofs.lemmas.Bool.{and_from, and_parts, eq-eqb, eqb-true, or_cases, or_left, or_right}
use Rattle.std.proofs.lemmas.List.Folds.{Any-from_list_any, list_any_at}
use Rattle.srcp_routes.specs.Conflicts.{is_same, is_signal, has_turnout, uses, has_block, has_piece}
use Rattle.srcp_routes.specs.Conflicts.{signal_meets, turnouts_meet, blocks_meet, pieces_meet, meets, conflicts}
use Rattle.srcp_routes.specs.declared.route.Device.{Device}
use Rattle.srcp_routes.specs.declared.route.Route.{Route}
use Rattle.srcp_routes.specs.declared.route.Setting.{Setting}
use Rattle.srcp_routes.specs.declared.route.Signal.{Signal}
use Rattle.srcp_plan_file.specs.Output.{shared_devices, shared_turnouts, shared_signal, shared_blocks, shared_piece, track_at}
use Rattle.srcp_plan_file.specs.declared.drawing.Piece.{Piece}
use Rattle.srcp_plan_file.specs.declared.print.shared.Shared.TheVariants as sharing

-- ---- there is something in a list

some-append : {A : Type 0} (xs ys : List A) → nat_lt 0 (length (xs ++ ys)) ≡ (nat_lt 0 (length xs) || nat_lt 0 (length ys))
some-append [] ys = grind arith
some-append (x ∷ xs) ys = grind arith

-- there is one if it is added
added : {A : Type 0} (b : Bool) (x : A) → nat_lt 0 (length (if b then x ∷ [] else [])) ≡ b
added true x = grind arith
added false x = grind arith

-- a list of what is added for each that passes a test
some_passed : {X A : Type 0} (test : X → Bool) (make : X → A) (xs : List X)
    → nat_lt 0 (length (flat_map (λ x. if test x then make x ∷ [] else []) xs)) ≡ list_any test xs
some_passed test make [] = grind arith
some_passed test make (x ∷ xs) =
    some-append (if test x then make x ∷ [] else []) (flat_map (λ x. if test x then make x ∷ [] else []) xs)
    ∙ ap (λ b. b || nat_lt 0 (length (flat_map (λ x. if test x then make x ∷ [] else []) xs))) (added (test x) (make x))
    ∙ ap (λ b. test x || b) (some_passed test make xs)

some_turnouts : (other : Route) (turnouts : List Setting)
    → nat_lt 0 (length (shared_turnouts other turnouts)) ≡ list_any (λ (turnout : Setting). uses other turnout.device) turnouts
some_turnouts other turnouts =
    some_passed (λ (turnout : Setting). uses other turnout.device) (λ (turnout : Setting). sharing.Turnout turnout.device) turnouts

some_blocks : (other : Route) (blocks : List Device)
    → nat_lt 0 (length (shared_blocks other blocks)) ≡ list_any (λ block. has_block other block) blocks
some_blocks other blocks = some_passed (λ block. has_block other block) (λ block. sharing.Block block) blocks

some_signal : (other : Route) (signal : Option Signal)
    → nat_lt 0 (length (shared_signal other signal)) ≡ option_map_or (λ (signal : Signal). uses other signal.device) signal false
some_signal other None = grind arith
some_signal other (Some signal) = added (uses other signal.device) (sharing.Signal signal.device)

-- what is found is there
some_first : {X A : Type 0} (test : X → Bool) (make : X → A) (x : X) (xs : List X) (here : Bool)
    → nat_lt 0 (length (option_to_list (option_map make (find test xs)))) ≡ list_any test xs
    → nat_lt 0 (length (option_to_list (option_map make (if here then Some x else find test xs)))) ≡ (here || list_any test xs)
some_first test make x xs true later = grind arith
some_first test make x xs false later = later

some_found : {X A : Type 0} (test : X → Bool) (make : X → A) (xs : List X)
    → nat_lt 0 (length (option_to_list (option_map make (find test xs)))) ≡ list_any test xs
some_found test make [] = grind arith
some_found test make (x ∷ xs) = some_first test make x xs (test x) (some_found test make xs)

some_piece : (drawn : List Piece) (other : Route) (pieces : List ℕ)
    → nat_lt 0 (length (shared_piece drawn other pieces)) ≡ list_any (λ piece. has_piece other piece) pieces
some_piece drawn other pieces = some_found (λ n. has_piece other n) (track_at drawn) pieces

regroup : (t s b p : Bool) → (((t || s) || b) || p) ≡ (s || (t || (b || p)))
regroup true true b p = refl
regroup true false b p = refl
regroup false true b p = refl
regroup false false true p = refl
regroup false false false p = refl

-- two routes share something exactly if an accessory, a block or a piece of track of the first is one of the second
shared-meets : (drawn : List Piece) (route other : Route) → nat_lt 0 (length (shared_devices drawn route other)) ≡ meets route other
shared-meets drawn route other =
    let t = shared_turnouts other route.turnouts.items in
    let s = shared_signal other route.signal in
    let b = shared_blocks other route.blocks.items in
    let p = shared_piece drawn other route.pieces.items in
    some-append ((t ++ s) ++ b) p
    ∙ ap (λ w. w || nat_lt 0 (length p)) (some-append (t ++ s) b)
    ∙ ap (λ w. (w || nat_lt 0 (length b)) || nat_lt 0 (length p)) (some-append t s)
    ∙ ap (λ w. ((w || nat_lt 0 (length s)) || nat_lt 0 (length b)) || nat_lt 0 (length p)) (some_turnouts other route.turnouts.items)
    ∙ ap (λ w. ((turnouts_meet route other || w) || nat_lt 0 (length b)) || nat_lt 0 (length p)) (some_signal other route.signal)
    ∙ ap (λ w. ((turnouts_meet route other || signal_meets route other) || w) || nat_lt 0 (length p))
    (some_blocks other route.blocks.items)
    ∙ ap (λ w. ((turnouts_meet route other || signal_meets route other) || blocks_meet route other) || w)
    (some_piece drawn other route.pieces.items)
    ∙ regroup (turnouts_meet route other) (signal_meets route other) (blocks_meet route other) (pieces_meet route other)

-- ---- one device

abbrev made : ℕ → ℕ → Device
made bus address = record { bus = bus; address = address }

same_equal : (x y : Device) → is_same x y ≡ true → x ≡ y
same_equal x y h =
    let both : ((x.bus == y.bus) ≡ true) × ((x.address == y.address) ≡ true) = and_parts (x.bus == y.bus) (x.address == y.address) h in
    ap (λ bus. made bus x.address) (eqb-true x.bus y.bus both.0) ∙ ap (λ address. made y.bus address) (eqb-true x.address y.address both.1)

same_self : (x : Device) → is_same x x ≡ true
same_self x = and_from (x.bus == x.bus) (x.address == x.address) (eq-eqb x.bus x.bus refl) (eq-eqb x.address x.address refl)

-- ---- the other way round

-- what holds of each that passes a test, holds if one passes
pass_more : {X : Type 0} (p q : X → Bool) (xs : List X) → ((x : X) → p x ≡ true → q x ≡ true) → list_any p xs ≡ true → list_any q xs ≡ true
pass_more p q [] f h = h
pass_more p q (x ∷ xs) f h = elim (or_cases (p x) (list_any p xs) h) [
  | inl here ↦ or_left (q x) (list_any q xs) (f x here)
  | inr there ↦ or_right (q x) (list_any q xs) (pass_more p q xs f there)
]

module _ (a b : Route) where
  -- by what two routes conflict beside a signal
  abbrev others : Bool
  others = turnouts_meet a b || (blocks_meet a b || pieces_meet a b)

  signal_at : (x : Device) → uses b x ≡ true → (o : Option Signal)
      → option_map_or (λ (signal : Signal). is_same signal.device x) o false ≡ true
      → option_map_or (λ (signal : Signal). uses b signal.device) o false ≡ true
  signal_at x h None e = e
  signal_at x h (Some signal) e = rw (same_equal signal.device x e) h

  -- an accessory of both
  meet_at : (x : Device) → uses a x ≡ true → uses b x ≡ true → meets a b ≡ true
  meet_at x use_a use_b = elim (or_cases (is_signal a x) (has_turnout a x) use_a) [
    | inl here ↦ or_left (signal_meets a b) others (signal_at x use_b a.signal here)
    | inr there ↦ or_right (signal_meets a b) others (or_left (turnouts_meet a b) (blocks_meet a b || pieces_meet a b)
        (pass_more (λ (turnout : Setting). is_same turnout.device x) (λ (turnout : Setting). uses b turnout.device) a.turnouts.items
        (λ turnout e. rw (same_equal turnout.device x e) use_b) there))
  ]

  by_signal : (o : Option Signal) → b.signal ≡ o → option_map_or (λ (signal : Signal). uses a signal.device) o false ≡ true
      → meets a b ≡ true
  by_signal None is h = absurd (cc)
  by_signal (Some signal) is h =
      meet_at signal.device h (or_left (is_signal b signal.device) (has_turnout b signal.device) (rw is (same_self signal.device)))

  by_turnout : turnouts_meet b a ≡ true → meets a b ≡ true
  by_turnout h =
      let at = Any-from_list_any (λ (turnout : Setting). uses a turnout.device) b.turnouts.items h in
      meet_at at.1.device at.4 (or_right (is_signal b at.1.device) (has_turnout b at.1.device)
      (list_any_at (λ (turnout : Setting). is_same turnout.device at.1.device) b.turnouts.items at.0 at.1 at.2
      (rw at.3 (same_self at.1.device))))

  by_block : blocks_meet b a ≡ true → meets a b ≡ true
  by_block h =
      let at = Any-from_list_any (λ block. has_block a block) b.blocks.items h in
      or_right (signal_meets a b) others (or_right (turnouts_meet a b) (blocks_meet a b || pieces_meet a b)
      (or_left (blocks_meet a b) (pieces_meet a b)
      (pass_more (λ block. is_same block at.1) (λ block. has_block b block) a.blocks.items
      (λ block e. rw (same_equal block at.1 e)
      (list_any_at (λ other. is_same other at.1) b.blocks.items at.0 at.1 at.2 (rw at.3 (same_self at.1))))
      at.4)))

  by_piece : pieces_meet b a ≡ true → meets a b ≡ true
  by_piece h =
      let at = Any-from_list_any (λ piece. has_piece a piece) b.pieces.items h in
      or_right (signal_meets a b) others (or_right (turnouts_meet a b) (blocks_meet a b || pieces_meet a b)
      (or_right (blocks_meet a b) (pieces_meet a b)
      (pass_more (λ piece. piece == at.1) (λ piece. has_piece b piece) a.pieces.items
      (λ piece e. rw (eqb-true piece at.1 e)
      (list_any_at (λ own. own == at.1) b.pieces.items at.0 at.1 at.2 (rw at.3 (eq-eqb at.1 at.1 refl))))
      at.4)))

  meets_back : meets b a ≡ true → meets a b ≡ true
  meets_back h =
      elim (or_cases (signal_meets b a) (turnouts_meet b a || (blocks_meet b a || pieces_meet b a)) h) [
        | inl here ↦ by_signal b.signal refl here
        | inr there ↦ elim (or_cases (turnouts_meet b a) (blocks_meet b a || pieces_meet b a) there) [
          | inl turnout ↦ by_turnout turnout
          | inr more ↦ elim (or_cases (blocks_meet b a) (pieces_meet b a) more) [
            | inl block ↦ by_block block
            | inr piece ↦ by_piece piece
          ]
        ]
      ]

either : (p q : Bool) → (q ≡ true → p ≡ true) → (p || q) ≡ p
either true q f = refl
either false true f = sym (f refl)
either false false f = refl

pub shared-conflict : (drawn : List Piece) (route other : Route)
    → conflicts route other ≡ nat_lt 0 (length (shared_devices drawn route other))
shared-conflict drawn route other =
    either (meets route other) (meets other route) (meets_back route other) ∙ sym (shared-meets drawn route other)
