use Rattle.srcp_serve.proofs.PiecesWeighEnough.{lines_go_on, piece_weighs}
use Rattle.srcp_serve.proofs.laws.pieces_weigh_enough.Goals as goal

pub returns-clause-weigh : goal.returns-clause-weigh
returns-clause-weigh c = λ buses. piece_weighs

pub returns-clause-line : goal.returns-clause-line
returns-clause-line c = lines_go_on
