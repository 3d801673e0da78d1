-- How orders for places without a locomotive are answered, one after the other.
use Rattle.std.proofs.Common.{◌≡◌, ◌≢◌, ℕ, ◌-◌, suc, zero, List, Option, Some, None, refl, arith}
use Rattle.std.specs.Option.{option_map_or, option_or}
use Rattle.srcp_driver.specs.Steps.{Stepped, Table, step}
use Rattle.srcp_driver.specs.declared.event.Event.{Event}
use Rattle.srcp_driver.specs.declared.event.Orders.{Orders}
use Rattle.srcp_driver.specs.declared.event.Put.{Put}
use Rattle.srcp_driver.specs.declared.event.Tell.{Tell}
use Rattle.srcp_drive.specs.Settling.{also, answered, asks, echo_of}
use Rattle.srcp_drive.specs.declared.engine.Engine.{Engine}

pub answered_done : (left : ℕ) (engines : List Engine) (s : Stepped) → left ≡ 0 → answered left engines s ≡ s
unfolding answered
answered_done left engines s h = rw h refl

answered_more : (left : ℕ) (engines : List Engine) (s : Stepped) → left ≢ 0
    → answered left engines s
    ≡ option_map_or (λ event. answered (left - 1) engines (also s (step s.table event))) (echo_of engines s.tell) s
unfolding answered
answered_more zero engines s h = absurd (h refl)
answered_more (suc left) engines s h = let e : suc left - 1 ≡ left = omega arith in rw e refl

pub answered_none : (left : ℕ) (engines : List Engine) (s : Stepped) → left ≢ 0 → echo_of engines s.tell ≡ None
    → answered left engines s ≡ s
answered_none left engines s h is = rw (answered_more left engines s h, is) refl

pub answered_one : (left : ℕ) (engines : List Engine) (table now : Table) (orders : Orders) (event : Event) (tell : Option Tell)
    (put : Option Put) → left ≢ 0 → echo_of engines orders.tell ≡ Some event → now ≡ (step table event).table
    → tell ≡ (step table event).tell → put ≡ option_or orders.put (step table event).put
    → answered left engines (asks table orders) ≡ answered (left - 1) engines (record { table = now; tell = tell; put = put })
answered_one left engines table now orders event tell put h is t a p =
    rw (answered_more left engines (asks table orders) h, is, t, a, p) refl
