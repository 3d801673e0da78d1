-- each call answers one order less
use Rattle.srcp_drive.proofs.settling.+settle.Given as goal

abbrev pub decreases-settle : goal.decreases-settle
decreases-settle l = l.left
