-- A turn makes no panel overrun if what the door hands out leaves the reserve, and moments and ends of sessions fit it.
use Rattle.srcp_serve.proofs.Names.{ℕ, ◌+◌, ◌-◌, ◌≤◌, min, max, List, [], ◌∷◌, ◌++◌, arith, Bus, Call, Stand, IsLight}
use Rattle.srcp_serve.proofs.Names.{OfEachTurn, IsLayout, SparesPanels, empty_stand, changes_allowed, turned, turns}
use Rattle.srcp_serve.specs.Pacing.{FitsReserve, LeavesReserve, OfEachTurnAfter, PacedReadsSpare, PacedReadsSpareAll}
use Rattle.srcp_serve.specs.Pacing.{brought_by_time, weighed, weight_of_turn}
use Rattle.srcp_serve.proofs.CallsByTurnAndPeer.{AreTurnsAsked, turns_parted}
use Rattle.srcp_serve.proofs.PacedTurnsSparePanels.{light_spares, light_spares_all}
use Rattle.srcp_serve.proofs.TurnsWeighEnough.{turns_weigh}

module _ (buses : List Bus) where
  abbrev WeighsEnough : List Call → Stand → List Call → Type 0
  WeighsEnough past stand calls = weight_of_turn buses stand calls ≤ weighed past calls

  is_light : (past : List Call) (stand : Stand) (calls : List Call) → WeighsEnough past stand calls → LeavesReserve past stand calls
      → FitsReserve buses past stand calls → IsLight buses stand calls
  is_light past stand calls weigh leaves fits =
      by (weight_of_turn buses stand calls) (weighed past calls) (brought_by_time buses stand calls) (changes_allowed calls) weigh leaves
      fits.few fits.fit
    where
      by : (turn door time most : ℕ) → turn ≤ door → door ≤ max (most - 160) 11 → time ≤ 160 → time + min door 11 ≤ most
          → turn + time ≤ most
      by turn door time most a b c d = omega (arith, a, b, c, d)

  each_light : (past : List Call) (stand : Stand) (all : List (List Call)) → OfEachTurnAfter buses WeighsEnough past stand all
      → OfEachTurnAfter buses LeavesReserve past stand all → OfEachTurnAfter buses (FitsReserve buses) past stand all
      → OfEachTurn buses (IsLight buses) stand all
  each_light past stand [] weigh leaves fits = tt
  each_light past stand (calls ∷ all) weigh leaves fits = (
    is_light past stand calls weigh.0 leaves.0 fits.0,
    each_light (past ++ calls) (turned buses stand calls) all weigh.1 leaves.1 fits.1,
  )

  each_spares : IsLayout buses → (past : List Call) (stand : Stand) (all : List (List Call)) → AreTurnsAsked buses stand all
      → OfEachTurnAfter buses WeighsEnough past stand all
      → OfEachTurnAfter buses
      (λ past stand calls. LeavesReserve past stand calls → FitsReserve buses past stand calls → SparesPanels buses stand calls)
      past stand all
  each_spares layout past stand [] asked weigh = tt
  each_spares layout past stand (calls ∷ all) asked weigh = (
    λ leaves fits. light_spares buses layout stand calls asked.0 (is_light past stand calls weigh.0 leaves fits),
    each_spares layout (past ++ calls) (turned buses stand calls) all asked.1 weigh.1,
  )

  pub reads_spare : IsLayout buses → PacedReadsSpare buses
  reads_spare layout count trace served differ fair =
      each_spares layout [] empty_stand (turns trace) (turns_parted buses empty_stand trace [] tt served.asked).1
      (turns_weigh buses count trace served differ fair)

  pub reads_spare_all : IsLayout buses → PacedReadsSpareAll buses
  reads_spare_all layout count trace served differ fair leaves fits =
      light_spares_all buses layout count trace served
      (each_light [] empty_stand (turns trace) (turns_weigh buses count trace served differ fair) leaves fits)
