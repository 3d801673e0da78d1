-- Two routes that are set have no piece of track in common.
use Rattle.std.proofs.Common.{◌≡◌, inl, inr, ℕ, ◌==◌, true, false, ◌||◌, Some, List, refl, ◌∙◌}
use Rattle.std.proofs.lemmas.Bool.{eq-eqb, or_cases, or_left, or_right}
use Rattle.std.specs.Prelude.{slice_get}
use Rattle.srcp_routes.specs.Conflicts.{blocks_meet, has_piece, meets, pieces_meet, signal_meets, turnouts_meet}
use Rattle.srcp_routes.specs.Laws.{CrossApart, is_set}
use Rattle.srcp_routes.specs.Plan.{conflict_at, stage_at}
use Rattle.srcp_routes.specs.Runs.{Run, run}
use Rattle.srcp_routes.specs.Stages.{is_held, is_idle}
use Rattle.srcp_routes.specs.declared.route.Route.{Route}
use Rattle.srcp_routes.specs.declared.stage.Stage.{Stage}
use Rattle.srcp_routes.specs.declared.stage.Stage.TheVariants as stage
use Rattle.srcp_routes.proofs.Apart.{idle_not_held}
use Rattle.srcp_routes.proofs.Crossings.{is_reported}
use Rattle.srcp_routes.proofs.Holds.{Holds, run_holds}
use Rattle.srcp_routes.proofs.Locks.{any_at, conflict_of}
use Rattle.srcp_routes.proofs.Shown.{in_plan}
use Rattle.srcp_routes.proofs.Touched.{goes}

-- routes that share a piece of track conflict
share_piece : (routes : List Route) (n m : ℕ) (a b : Route) (k j piece : ℕ) → slice_get routes n ≡ Some a
    → slice_get routes m ≡ Some b → slice_get a.pieces.items k ≡ Some piece → slice_get b.pieces.items j ≡ Some piece
    → conflict_at routes n m ≡ true
share_piece routes n m a b k j piece is is' at at' = conflict_of routes n m a b is is'
    ∙ or_left (meets a b) (meets b a) (or_right (signal_meets a b) (turnouts_meet a b || (blocks_meet a b || pieces_meet a b))
    (or_right (turnouts_meet a b) (blocks_meet a b || pieces_meet a b) (or_right (blocks_meet a b) (pieces_meet a b)
    (any_at (λ p. has_piece b p) a.pieces.items k piece at
    (any_at (λ own. own == piece) b.pieces.items j piece at' (eq-eqb piece piece refl))))))

goes_held : (s : Stage) → goes false s ≡ true → is_held s ≡ true
goes_held stage.Showing h = refl
goes_held stage.Reporting h = refl
goes_held stage.Set h = refl
goes_held stage.Stopping h = refl
goes_held stage.Stuck h = refl
goes_held (stage.Falling told) h = refl
goes_held other h = absurd (cc)

reported_held : (s : Stage) → is_reported s ≡ true → is_held s ≡ true
reported_held stage.Reporting h = refl
reported_held stage.Set h = refl
reported_held stage.Stopping h = refl
reported_held stage.Stuck h = refl
reported_held stage.Hiding h = refl
reported_held (stage.Falling told) h = refl
reported_held (stage.Fallen told) h = refl
reported_held other h = absurd (cc)

-- a route that is set is held
set_held : (routes : List Route) (r : Run) (n : ℕ) (route : Route) → Holds routes r → slice_get routes n ≡ Some route
    → is_set r n ≡ true → is_held (stage_at r.table.stages n) ≡ true
set_held routes r n route holds is set = elim (or_cases (r.shown n) (r.told n) set) [
  | inl shown ↦
      goes_held (stage_at r.table.stages n) (holds.shown n route (in_plan routes r.table n route holds.fits is) shown).goes
  | inr told ↦ reported_held (stage_at r.table.stages n) (holds.told n told)
]

pub cross_apart : CrossApart
cross_apart routes events n m route other k j piece differ is is' set set' at at' =
    let r = run routes events in
    let holds : Holds routes r = run_holds routes events in
    let clash : conflict_at r.table.routes n m ≡ true = share_piece r.table.routes n m route other k j piece
    (in_plan routes r.table n route holds.fits is) (in_plan routes r.table m other holds.fits is') at at' in
    let idle : is_idle (stage_at r.table.stages m) ≡ true =
    holds.apart n m differ clash (set_held routes r n route holds is set) in
    let not : is_held (stage_at r.table.stages m) ≡ false = idle_not_held (stage_at r.table.stages m) idle in
    let held : is_held (stage_at r.table.stages m) ≡ true = set_held routes r m other holds is' set' in
    absurd (cc)
