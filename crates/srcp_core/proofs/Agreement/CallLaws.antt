-- What a core's calls make of the course that it stands for.
use Rattle.srcp_core.proofs.Names.{◌≡◌, refl, ap, sym, ◌∙◌, Held, IsNotAdmitted, CoreFault, Full}
use Rattle.srcp_core.specs.Calls.{CallsLead, CallsAgree, CallsCount}
use Rattle.srcp_core.specs.declared.record.CoreFault.TheVariants.{Memory as MemoryFault}
use Rattle.srcp_core.proofs.Agreement.AnswersAgree.{there_agrees, accepts_agrees, refuses_agrees, names_newest, counts_open, bytes_agree}
use Rattle.srcp_core.proofs.Agreement.AnswersAgree.{takes_agrees, closes_agrees, lends_agrees, shuts_agrees}
use Rattle.srcp_core.proofs.Agreement.SlackAgrees.{slack_agrees, due_agrees}
use Rattle.srcp_core.proofs.Agreement.MemoryAnswers.{counts, none_denied}
use Rattle.srcp_core.proofs.Agreement.CallsFollowTheCourse.{at_leads, open_leads, not_open_leads, shut_leads, out_stands}
use Rattle.srcp_core.proofs.Agreement.CallsFollowTheCourse.{sent_leads, sent_none, lent_leads}
use Rattle.srcp_core.proofs.Agreement.NothingIsLent.{none_agrees}
use Rattle.srcp_core.proofs.Agreement.OneLineIsLent.{line_agrees}
use Rattle.srcp_core.proofs.Agreement.PiecesFollowTheCourse.{accepted_leads, refused_leads}
use Rattle.srcp_core.proofs.Agreement.RunsAnEvent.{shut_count}
use Rattle.srcp_core.proofs.Agreement.RecordIsOfTheCourse.{runs_start}

pub calls_lead : CallsLead
calls_lead = record {
  first = λ buses held first. (runs_start buses _ held refl first).stands;
  moment = at_leads;
  opened = open_leads;
  not_opened = not_open_leads;
  accepted = accepted_leads;
  refused = refused_leads;
  lent = out_stands;
  sent = sent_leads;
  none_sent = sent_none;
  lent_and_sent = lent_leads;
  shut = shut_leads;
}

pub calls_agree : CallsAgree
calls_agree = record {
  accepts = accepts_agrees;
  refuses = refuses_agrees;
  named = names_newest;
  counted = counts_open;
  there = there_agrees;
  bytes = bytes_agree;
  takes = takes_agrees;
  closes = closes_agrees;
  lends = lends_agrees;
  lends_none = none_agrees;
  lends_line = line_agrees;
  shuts = shuts_agrees;
  slack = slack_agrees;
  due = due_agrees;
}

not_opened_counts : (cause : CoreFault) (old new : Held) → IsNotAdmitted cause old new → new.denied ≡ 0 → old.denied ≡ 0
not_opened_counts Full old new is d = cc is.1
not_opened_counts MemoryFault old new is d = absurd (counts _ (ap (λ (h : Held). h.denied) (sym is.1) ∙ d))
not_opened_counts other old new is d = absurd is

-- cores that are the same have the same count
same_count : (old new other : Held) → new ≡ other → other.denied ≡ old.denied → new.denied ≡ old.denied
same_count old new other is same = cc

pub calls_count : CallsCount
calls_count = record {
  moment = λ moment old new is. same_count old new _ is refl;
  opened = λ key old new a. same_count old new _ a.rest refl;
  not_opened = not_opened_counts;
  bytes = λ key piece old new l d. (none_denied l.grants _ (sym l.counted ∙ d)).0;
  lent = λ key held. refl;
  sent = λ key count old new is. same_count old new _ is refl;
  shut = shut_count;
}
