-- The law is proved of the definitions.
use Rattle.srcp_routes.proofs.Flickers.{one_sensor_frees_none}
use Rattle.srcp_routes.proofs.laws.one_sensor_frees_none.Goals as goal

pub returns : goal.returns
returns c = one_sensor_frees_none
