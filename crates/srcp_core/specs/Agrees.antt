-- The model of the code: what the answers of a core's calls say of the course that it stands for.
use Rattle.std.specs.Prelude.{◌≡◌, ℕ, Bool, true, false, not, ◌&&◌, ◌||◌, nat_le, if◌then◌else◌, List, []}
use Rattle.std.specs.Prelude.{length, Option, Some}
use Rattle.std.specs.Option.{option_map_or}
use Rattle.srcp_grammar.specs.declared.layout.Bus.{Bus}
use Rattle.srcp_grammar.specs.Layout.{IsLayout}
use Rattle.srcp_core.specs.Connection.{is_settled, overran, unsent, finish, is_last}
use Rattle.srcp_core.specs.Course.{World, course, history, open_connection, rows}
use Rattle.srcp_core.specs.Held.{Held}
use Rattle.srcp_core.specs.Recording.{key_of}
use Rattle.srcp_core.specs.Stands.{StandsFor}
use Rattle.srcp_core.specs.Under.{Event}

-- this holds of the course of any events that the core stands for, under its keys
abbrev pub OfCourse : Held → (List Bus → List Event → List (Option ℕ) → Type 0) → Type 0
OfCourse held Fact = (buses : List Bus) (events : List Event) (keys : List (Option ℕ)) → IsLayout buses
    → StandsFor buses keys held (course buses events) → Fact buses events keys

-- and this of the connection that has the key, by its number
abbrev pub AtKey : ℕ → Held → (List Bus → List Event → List (Option ℕ) → ℕ → Type 0) → Type 0
AtKey key held Fact = (buses : List Bus) (events : List Event) (keys : List (Option ℕ)) (n : ℕ) → IsLayout buses
    → key_of n keys ≡ Some key → StandsFor buses keys held (course buses events) → Fact buses events keys n

-- the same if it is not about the keys
abbrev pub OfConnection : ℕ → Held → (List Bus → List Event → ℕ → Type 0) → Type 0
OfConnection key held Fact = AtKey key held (λ buses events _ n. Fact buses events n)

module _ (buses : List Bus) where
  -- the open connection of that number is to be closed: it overran, or it ended and all its replies are taken
  abbrev pub closes : World → ℕ → Bool
  closes w n = option_map_or (λ conn. is_last (finish conn (history buses w))) (open_connection w n) false

  -- what the open connection of that number lends: its unsent bytes, or none if it overran
  abbrev pub lent : World → ℕ → List ℕ
  lent w n = option_map_or (λ conn. if overran conn (history buses w) then [] else unsent conn) (open_connection w n) []

  -- all replies of the open connection of that number are taken
  abbrev pub replies_taken : World → ℕ → Bool
  replies_taken w n = option_map_or (λ conn. nat_le (length conn.out) conn.taken) (open_connection w n) true

  -- nothing is lent of the open connection of that number: it overran, or all its replies are taken and, if it is an
  -- information session, it is settled
  abbrev pub lends_none : World → ℕ → Bool
  lends_none w n =
      option_map_or
      (λ conn.
      overran conn (history buses w)
      || (nat_le (length conn.out) conn.taken && (not conn.info || is_settled conn (history buses w) (rows buses w))))
      (open_connection w n) true
