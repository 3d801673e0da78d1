-- How the lines of a box and those of the server fit together.
use Rattle.std.specs.Prelude.{◌≡◌, ℕ, ◌≤◌, ◌++◌, true, false, List, Ok, Some, codes}
use Rattle.srcp_text.specs.Words.{words_of}
use Rattle.srcp_info.specs.Limits.{greatest_u64}
use Rattle.srcp_info.specs.Line.{reply_line}
use Rattle.srcp_info.specs.WellFormed.{IsMoment}
use Rattle.srcp_info.specs.declared.change.Code.{Code}
use Rattle.srcp_info.specs.declared.change.Reply.TheVariants as reply
use Rattle.srcp_grammar.specs.Command.{IsCommandOf}
use Rattle.srcp_grammar.specs.Grammar.{reads}
use Rattle.srcp_grammar.specs.Layout.{IsLayout}
use Rattle.srcp_grammar.specs.declared.layout.Bus.{Bus}
use Rattle.srcp_routes.specs.declared.interlocking.Event.TheVariants.{Reply, Lost}
use Rattle.srcp_routes.specs.declared.route.Order.{Order}
use Rattle.srcp_interlock.specs.Hearing.{reply_event}
use Rattle.srcp_interlock.specs.Orders.{command_of, order_line}

-- the text, with its LF, is the line in which an order is sent
abbrev pub IsOrderLine : (own : ℕ) → Order → List ℕ → Type 0
IsOrderLine own sent text = order_line own sent ≡ text ++ codes "\n"

-- on each layout that has the command which an order means, the order's line is read as that command
abbrev pub OrdersAreRead : Type 0
OrdersAreRead = (buses : List Bus) (own : ℕ) (sent : Order) (text : List ℕ) → IsLayout buses
    → IsCommandOf buses (command_of own sent) → IsOrderLine own sent text → reads buses text ≡ Ok (command_of own sent)

-- each reply that a command has is heard as what it says of the order before it, and GO as a session that begins
pub record RepliesAreHeard : Type 0 where
  pub accepted : (moment : ℕ) (text : List ℕ) → IsMoment moment → reply_line moment reply.Accepted ≡ text ++ codes "\n"
      → reply_event (words_of text) ≡ Some (Reply true)
  pub go : (moment id : ℕ) (text : List ℕ) → IsMoment moment → id ≤ greatest_u64
      → reply_line moment (reply.Go id) ≡ text ++ codes "\n" → reply_event (words_of text) ≡ Some Lost
  pub refused : (moment : ℕ) (code : Code) (text : List ℕ) → IsMoment moment
      → reply_line moment (reply.Refused code) ≡ text ++ codes "\n" → reply_event (words_of text) ≡ Some (Reply false)
