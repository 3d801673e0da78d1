use Rattle.srcp_core.proofs.Agreement.PastIsLived.{few_keys, lived_opened, lived_not_opened, newest, refuses_is, was_fresh}
use Rattle.srcp_core.proofs.logged.LoggedCore.connect.Goals as goal

pub invariant_of-self : goal.invariant_of-self
invariant_of-self g c = lived_opened _ _ _ c.self.invariant _ _ _ c.in-Ok.ensures.admitted c.note.ensures

pub invariant_of-self-in-Err : goal.invariant_of-self-in-Err
invariant_of-self-in-Err g c =
    lived_not_opened _ _ _ c.self.invariant _ _ _ _ c.is_full.ensures c.in-Err.ensures.refused c.note-in-Err.ensures

pub returns-in-Err-clause-refuses : goal.returns-in-Err-clause-refuses
returns-in-Err-clause-refuses g c = rw (← c.self.view_is) (refuses_is _ _ _ c.self.invariant _ _ c.in-Err.ensures.refused)

pub returns-in-Ok-clause-names : goal.returns-in-Ok-clause-names
returns-in-Ok-clause-names g c = rw (← c.self.view_is, c.note.ensures) (newest _ _ _ c.self.invariant _ _ c.in-Ok.ensures.admitted)

pub returns-in-Ok-clause-fresh : goal.returns-in-Ok-clause-fresh
returns-in-Ok-clause-fresh g c = rw (← c.self.view_is) (was_fresh _ _ _ c.self.invariant _ c.in-Ok.ensures.admitted.was_free)

pub returns-in-Ok-clause-few : goal.returns-in-Ok-clause-few
returns-in-Ok-clause-few g c = rw (← c.self.view_is) (few_keys _ _ _ c.self.invariant c.in-Ok.ensures.admitted.few)
