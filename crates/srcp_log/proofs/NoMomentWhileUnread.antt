-- No moment is reported while a peer is unread.
use Rattle.std.proofs.Common.{◌≡◌, ◌∙◌, ℕ, ◌<◌, Bool, true, false, not, List, [], ◌∷◌, ◌++◌, length, ap, sym, subst}
use Rattle.std.proofs.Common.{⊎_elim, Option}
use Rattle.std.specs.Prelude.{◌&&◌, slice_index_or, Result}
use Rattle.srcp_door.specs.declared.door.DoorFault.{DoorFault}
use Rattle.srcp_door.specs.Calls.{NowCall}
use Rattle.srcp_peers.specs.declared.peer.Peer.{Peer}
use Rattle.srcp_peers.specs.declared.turn.Listening.{Listening}
use Rattle.srcp_peers.specs.Steps.{Clocks, Step, Answers}
use Rattle.srcp_peers.specs.Accounts.{Account, account, account_step}
use Rattle.srcp_peers.specs.Peers.{Agrees, IsKept, IsRead}
use Rattle.srcp_peers.specs.AllPeers.{IsAbsent}
use Rattle.srcp_log.specs.Doors.{AreRead, IsThere, Stands}
use Rattle.srcp_peers.proofs.PeersStayKept.{account_more}
use Rattle.srcp_log.proofs.SocketsLingerAndClose.{Goes, stands_goes}
use Rattle.srcp_log.proofs.SocketsStayStanding.{find, nobody}
use Rattle.srcp_peers.proofs.UnreadPeersAreRead.{both}

-- ---- all peers are read

-- and who has no peer is not there
pub all_read : (log : List Step) (peers : List Peer) (l : Listening) (last : ℕ) → Stands log peers l last
    → ((k : ℕ) (d : Peer) → k < length peers → IsRead log (slice_index_or peers k d).number) → AreRead log
all_read log peers l last stands read socket = ⊎_elim
    (λ (there : IsThere socket peers). subst (λ (n : ℕ). ((account n log).watched && (account n log).unread) ≡ false)
    (there.same nobody) (read there.index nobody there.within))
    (λ (absent : IsAbsent socket peers). ap (λ w. w && (account socket log).unread) (stands.closed socket absent).watched)
    (find socket peers)

pub read_clocked : (old new : List Step) (answer : Option ℕ) → new ≡ old ++ Clocks answer ∷ [] → AreRead old → AreRead new
read_clocked old new answer tells read socket =
    ap (λ (x : Account). x.watched && x.unread) (ap (account socket) tells ∙ account_more socket old (Clocks answer)) ∙ read socket

-- ---- a moment is reported

serves : (served unread : Bool) → served ≡ true → unread ≡ false → (served && not unread) ≡ true
serves served unread s u = both served (not unread) s (ap not u)

now_goes : (answer : Result ℕ DoorFault) (l : Listening) → Goes (λ socket a. (a.watched && a.unread) ≡ false) (Answers (NowCall answer)) l
now_goes answer l = record {
  sound = λ socket a holds h. record {
    took = h.took;
    handed = h.handed;
    honest = h.honest;
    rested = h.rested;
    rightly = h.rightly;
    served = serves a.served (a.watched && a.unread) h.served holds;
  };
  fresh = λ socket a h. record { written = h.written; took = h.took; gave = h.gave; handed = h.handed };
  closed = λ socket a h. record { watched = h.watched; kept = h.kept };
  heard = λ a h. record {
    fresh = record { written = h.fresh.written; took = h.fresh.took; gave = h.fresh.gave; handed = h.fresh.handed };
    lost = h.lost;
    cut = h.cut;
    ended = h.ended;
    failed = h.failed;
    heard = h.heard;
  };
}

kept_now : (old new : List Step) (p : Peer) (answer : Result ℕ DoorFault) → AreRead old → new ≡ old ++ Answers (NowCall answer) ∷ []
    → IsKept old p → IsKept new p
kept_now old new p answer read tells kept =
    let a : Account = account p.number old in
    let h : Agrees a p = kept in
    let after : Agrees (account_step p.number a (Answers (NowCall answer))) p = record {
      reads = h.reads;
      writes = h.writes;
      stays = h.stays;
      rightly = h.rightly;
      unread = h.unread;
      served = serves a.served (a.watched && a.unread) h.served (read p.number);
      cut = h.cut;
      line = h.line;
      honest = h.honest;
      rested = h.rested;
    } in
    subst (λ (x : Account). Agrees x p) (sym (ap (account p.number) tells ∙ account_more p.number old (Answers (NowCall answer)))) after

pub stands_now : (old new : List Step) (peers : List Peer) (l : Listening) (last : ℕ) (answer : Result ℕ DoorFault)
    → AreRead old → new ≡ old ++ Answers (NowCall answer) ∷ [] → Stands old peers l last → Stands new peers l last
stands_now old new peers l last answer read tells stands =
    stands_goes (λ socket a. (a.watched && a.unread) ≡ false) old new peers l last (Answers (NowCall answer)) (now_goes answer l)
    read (λ k d lt. kept_now old new (slice_index_or peers k d) answer read tells (stands.kept k d lt)) tells stands
