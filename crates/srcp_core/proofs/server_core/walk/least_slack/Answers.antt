use Rattle.srcp_core.proofs.Names.{◌≡◌, ℕ, ◌+◌, List, [], ◌∷◌, map, refl, ◌∙◌, arith, Option, Some, None, entries_from, Place, slack_at}
use Rattle.srcp_core.proofs.Names.{slack_in, least}
use Rattle.srcp_core.proofs.Invariants.PanelsStay.{slack_most}
use Rattle.srcp_core.proofs.server_core.walk.least_slack.Goals as goal

-- the least of the places is that of the entries
slack_among : (first : ℕ) (places : List (Option Place))
    → least (map (λ entry. slack_in entry.1.panel) (entries_from first places)) ≡ least (map slack_at places)
slack_among first [] = refl
slack_among first (None ∷ places) = slack_among (first + 1) places
slack_among first (Some place ∷ places) = cc (slack_among _ places)

pub loop-connection-init : goal.loop-connection-init
loop-connection-init c =
    let left = c.into_iter-connection-iterator.ensures.into_iter_gives ∙ c.iter-connection-items.ensures.rest in
    let most = slack_most c.args.connections.now.slots in
    (tt, tt, omega arith, rw left (rw (slack_among 0 c.args.connections.now.slots) (omega (arith, most))))
