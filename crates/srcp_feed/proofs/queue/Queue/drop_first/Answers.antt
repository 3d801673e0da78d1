use Rattle.std.proofs.Common.{sym, ◌∙◌, ap, drop}
use Rattle.std.proofs.lemmas.List.{drop-drop}
use Rattle.srcp_feed.proofs.queue.Queue.drop_first.Goals as goal

pub returns-else-self-len : goal.returns-else-self-len
returns-else-self-len c = sym (drop-drop 1 c.self.inside.given c.self.inside.ring.items) ∙ ap (drop 1) c.self.view_is
