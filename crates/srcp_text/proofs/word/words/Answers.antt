use Rattle.srcp_text.proofs.WordLaws.{length-words_of-le}
use Rattle.srcp_text.proofs.word.words.Goals as goal

pub returns-clause-few : goal.returns-clause-few
returns-clause-few c = rw c.of.ensures (length-words_of-le c.args.line.now)
