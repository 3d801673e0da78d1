-- A stream of bytes: what the connections have of it, and what the calls carry of it for their peers.
use Rattle.srcp_serve.proofs.Names.{◌≡◌, ℕ, zero, suc, Bool, true, false, List, [], ◌∷◌, ◌++◌, map, if◌then◌else◌, Some, refl, ap}
use Rattle.srcp_serve.proofs.Names.{append-nil, append_assoc, flat_map, list_any, AllByRecursion, Bus, Event, Shut, Connection, fresh}
use Rattle.srcp_serve.proofs.Names.{course, numbered, with_numbered, Call, Client, Question, Reads, Writes, question, IsFair, exchange}
use Rattle.srcp_serve.proofs.Names.{is_about, is_close, visit_asks}

-- the one of that number has these bytes more
abbrev pub put : ℕ → List ℕ → List (List ℕ) → List (List ℕ)
put n more [] = []
put zero more (text ∷ texts) = text ∷ texts
put (suc zero) more (text ∷ texts) = (text ++ more) ∷ texts
put (suc (suc n)) more (text ∷ texts) = text ∷ put (suc n) more texts

pub put_none : (n : ℕ) (texts : List (List ℕ)) → put n [] texts ≡ texts
put_none n [] = refl
put_none zero (text ∷ texts) = refl
put_none (suc zero) (text ∷ texts) = ap (λ t. t ∷ texts) (append-nil text)
put_none (suc (suc n)) (text ∷ texts) = ap (λ ts. text ∷ ts) (put_none (suc n) texts)

pub put_put : (n : ℕ) (a b : List ℕ) (texts : List (List ℕ)) → put n b (put n a texts) ≡ put n (a ++ b) texts
put_put n a b [] = refl
put_put zero a b (text ∷ texts) = refl
put_put (suc zero) a b (text ∷ texts) = ap (λ t. t ∷ texts) (append_assoc text a b)
put_put (suc (suc n)) a b (text ∷ texts) = ap (λ ts. text ∷ ts) (put_put (suc n) a b texts)

pub put_with : (bytes : Connection → List ℕ) (n : ℕ) (f : Connection → Connection) (more : List ℕ) (conns : List Connection)
    → ((conn : Connection) → numbered n conns ≡ Some conn → bytes (f conn) ≡ bytes conn ++ more)
    → map bytes (with_numbered n f conns) ≡ put n more (map bytes conns)
put_with bytes n f more [] h = refl
put_with bytes zero f more _ h = refl
put_with bytes (suc zero) f more (conn ∷ conns) h = ap (λ t. t ∷ map bytes conns) (h conn refl)
put_with bytes (suc (suc n)) f more (conn ∷ conns) h = ap (λ ts. bytes conn ∷ ts) (put_with bytes (suc n) f more conns h)

-- what a visit makes happen
abbrev pub made_of : ℕ → List Call → List Event
made_of conn calls = exchange conn calls ++ (if list_any is_close calls then Shut conn ∷ [] else [])

-- the question is a read or a write
abbrev pub asks_bytes : Question → Bool
asks_bytes (Reads peer most) = true
asks_bytes (Writes peer bytes) = true
asks_bytes other = false

-- none of them is
abbrev pub AreWithoutBytes : List Question → Type 0
AreWithoutBytes questions = AllByRecursion (λ q. asks_bytes q ≡ false) questions

-- the bytes that the connections have of a stream, and what each call carries of it for a peer
pub record Stream (buses : List Bus) : Type 0 where
  pub bytes : Connection → List ℕ
  pub carried_in : ℕ → Call → List ℕ
  pub begins : bytes fresh ≡ []
  -- a call carries nothing for a peer that it is not about, and only reads and writes carry something
  pub own : (peer : ℕ) (call : Call) → is_about peer call ≡ false → carried_in peer call ≡ []
  pub none : (peer : ℕ) (call : Call) → asks_bytes (question call) ≡ false → carried_in peer call ≡ []
  -- a visit adds what its calls carry
  pub visits : (client : Client) (events : List Event) (calls : List Call) (texts : List (List ℕ))
      → map question calls ≡ visit_asks buses events calls client → AllByRecursion IsFair calls
      → map bytes (course buses events).connections ≡ texts
      → map bytes (course buses (events ++ made_of client.conn calls)).connections
      ≡ put client.conn (flat_map (carried_in client.peer) calls) texts
