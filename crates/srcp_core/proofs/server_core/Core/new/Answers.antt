use Rattle.srcp_core.proofs.Names.{sym, subst, ◌∙◌, IsLayout}
use Rattle.srcp_core.proofs.Invariants.CoreStaysSound.{sound_opening}
use Rattle.srcp_core.proofs.server_core.Core.new.Goals as goal

pub stamp_all-requires : goal.stamp_all-requires
stamp_all-requires g c = record {
  laid_out = subst IsLayout (sym c.in_ok-rows.ensures.layout) c.buses.ensures.laid_out;
  opens = cc (c.in_ok-rows.ensures.rows, c.in_ok-rows.ensures.layout);
}

pub invariant_of-result : goal.invariant_of-result
invariant_of-result g c = (
  sound_opening _ c.buses.ensures.laid_out _ c.ranges.moment.fits _ _
      (cc (c.stamp_all.ensures.rows, c.in_ok-rows.ensures.layout)) _ c.in_ok-connections.ensures.empty,
  c.stamp_all.ensures.layout ∙ c.in_ok-rows.ensures.layout,
  c.in_ok-connections.ensures.capacity,
  cc (c.new.ensures, c.in_ok-connections.ensures.empty),
)
