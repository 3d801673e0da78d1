use Rattle.std.proofs.Common.{◌≡◌, ◌∙◌, ℕ, not, List, rules, subst, sym, arith}
use Rattle.std.specs.Prelude.{◌||◌, Bool, All}
use Rattle.std.proofs.lemmas.List.{with_items_is}
use Rattle.srcp_door.specs.Pacing.{is_short_pace}
use Rattle.srcp_peers.specs.declared.peer.Peer.{Peer}
use Rattle.srcp_peers.specs.AllPeers.{AreShared, AreThose}
use Rattle.srcp_log.specs.Doors.{Stands}
use Rattle.srcp_peers.specs.Turns.{lines_left_of}
use Rattle.srcp_log.proofs.AcceptsAreAsked.{asked_silent}
use Rattle.srcp_log.proofs.WorkIsDone.{done_silent}
use Rattle.srcp_log.proofs.NumbersDiffer.{named_silent}
use Rattle.srcp_log.proofs.NoMomentWhileUnread.{all_read}
use Rattle.srcp_log.proofs.SocketsStayStanding.{as_many, stands_turned}
use Rattle.srcp_log.proofs.TimesGoOn.{timed_kept}
use Rattle.srcp_log.specs.Endings.{AreAsFar, AreVisited}
use Rattle.srcp_log.proofs.EndsAreTold.{far_visited, visited_all}
use Rattle.srcp_peers.specs.Steps.{GrowsBy}
use Rattle.std.proofs.Common.{length}
use Rattle.srcp_sockets.proofs.sockets.Sockets.begin_visits.Goals as goal

pub invariant_of-self : goal.invariant_of-self
invariant_of-self g c =
    let old = c.args.self.now.system.log.steps in
    let new = c.begin_visits.new.system.log.steps in
    let listening = c.args.self.now.listening in
    let last = c.args.self.now.last in
    record {
      stands = subst (λ (ps : List Peer). Stands new ps listening last)
          (sym (with_items_is c.args.self.now.peers c.begin_visits.new.peers (c.begin_visits.auto.peers ∙ search rules)))
          (stands_turned old new c.as_mut_slice.result.now c.begin_visits.new.peers listening last
          c.begin_visits.auto.peers c.begin_visits.ensures.kept c.begin_visits.ensures.those c.begin_visits.ensures.others
          (subst (λ (ps : List Peer). Stands old ps listening last) (sym c.as_mut_slice.ensures.value) c.args.self.now.stands));
      named = named_silent old new last c.begin_visits.ensures.calls c.args.self.now.named;
      timed = timed_kept old new c.args.self.now.turn c.begin_visits.ensures.times c.args.self.now.timed;
      asked = asked_silent old new c.begin_visits.ensures.calls c.args.self.now.asked;
      done = done_silent c.args.self.now.most c.args.self.now.turn.timekeeper.wall c.args.self.now.turn.timekeeper.start old new
          c.begin_visits.ensures.calls c.begin_visits.ensures.times c.args.self.now.done;
      ending = subst (AreAsFar new)
          (sym (with_items_is c.args.self.now.peers c.begin_visits.new.peers (c.begin_visits.auto.peers ∙ search rules)))
          (far_visited old new c.as_mut_slice.result.now c.begin_visits.new.peers c.begin_visits.auto.peers c.begin_visits.ensures.calls
          c.begin_visits.ensures.those c.begin_visits.ensures.begun
          (subst (AreAsFar old) (sym c.as_mut_slice.ensures.value) c.args.self.now.ending));
      places = (
        omega (
          arith,
          c.args.self.now.places.0,
          as_many c.as_mut_slice.result.now c.begin_visits.new.peers c.args.self.now.peers.items _
              (with_items_is c.args.self.now.peers c.begin_visits.new.peers (c.begin_visits.auto.peers ∙ search rules))
              c.begin_visits.auto.peers c.as_mut_slice.ensures.value,
        ),
        c.args.self.now.places.1,
        c.args.self.now.places.2,
      );
    }

pub returns-clause-read : goal.returns-clause-read
returns-clause-read g c =
    let old = c.args.self.now.system.log.steps in
    let new = c.begin_visits.new.system.log.steps in
    let listening = c.args.self.now.listening in
    let last = c.args.self.now.last in
    all_read new c.begin_visits.new.peers listening last
    (stands_turned old new c.as_mut_slice.result.now c.begin_visits.new.peers listening last
    c.begin_visits.auto.peers c.begin_visits.ensures.kept c.begin_visits.ensures.those c.begin_visits.ensures.others
    (subst (λ (ps : List Peer). Stands old ps listening last) (sym c.as_mut_slice.ensures.value) c.args.self.now.stands))
    c.begin_visits.ensures.read

pub returns-clause-visited : goal.returns-clause-visited
returns-clause-visited g c =
    let old = c.args.self.now.system.log.steps in
    let new = c.begin_visits.new.system.log.steps in
    subst (AreVisited new)
    (sym (with_items_is c.args.self.now.peers c.begin_visits.new.peers (c.begin_visits.auto.peers ∙ search rules)))
    (visited_all old new c.as_mut_slice.result.now c.begin_visits.new.peers c.begin_visits.auto.peers c.begin_visits.ensures.calls
    c.begin_visits.ensures.those c.begin_visits.ensures.kept c.begin_visits.ensures.begun
    (subst (AreAsFar old) (sym c.as_mut_slice.ensures.value) c.args.self.now.ending))

pub returns-clause-shares : goal.returns-clause-shares
returns-clause-shares g c =
    let anew = not (is_short_pace c.args.self.now.turn.pace || c.args.self.now.turn.late) in
    subst (λ (ps : List Peer). AreShared anew c.args.self.now.peers.items ps)
    (sym (with_items_is c.args.self.now.peers c.begin_visits.new.peers (c.begin_visits.auto.peers ∙ search rules)))
    (subst (λ (ps : List Peer). AreShared anew ps c.begin_visits.new.peers) c.as_mut_slice.ensures.value
    (subst (λ (b : Bool). AreShared b c.as_mut_slice.result.now c.begin_visits.new.peers) c.renews_shares-anew.ensures
    c.begin_visits.ensures.shares))

pub returns-clause-lines_left : goal.returns-clause-lines_left
returns-clause-lines_left g c =
    subst (λ (ps : List Peer). All (λ peer. peer.lines_left ≡ lines_left_of c.args.holds c.args.self.now.turn.slack) ps)
    (sym (with_items_is c.args.self.now.peers c.begin_visits.new.peers (c.begin_visits.auto.peers ∙ search rules)))
    (subst (λ (n : ℕ). All (λ (peer : Peer). peer.lines_left ≡ n) c.begin_visits.new.peers) c.lines_left-lines_left.ensures
    c.begin_visits.ensures.lines_left)

pub returns-clause-most : goal.returns-clause-most
returns-clause-most g c =
    subst (λ (ps : List Peer). GrowsBy (length ps) c.args.self.now.system.log.steps c.begin_visits.new.system.log.steps)
    c.as_mut_slice.ensures.value c.begin_visits.ensures.most

pub returns-clause-as_many : goal.returns-clause-as_many
returns-clause-as_many g c = as_many c.as_mut_slice.result.now c.begin_visits.new.peers c.args.self.now.peers.items _
    (with_items_is c.args.self.now.peers c.begin_visits.new.peers (c.begin_visits.auto.peers ∙ search rules)) c.begin_visits.auto.peers
    c.as_mut_slice.ensures.value

pub returns-clause-those : goal.returns-clause-those
returns-clause-those g c =
    subst (AreThose c.args.self.now.peers.items)
    (sym (with_items_is c.args.self.now.peers c.begin_visits.new.peers (c.begin_visits.auto.peers ∙ search rules)))
    (subst (λ (ps : List Peer). AreThose ps c.begin_visits.new.peers) c.as_mut_slice.ensures.value c.begin_visits.ensures.those)
