-- Laws of the rows with both indexes: the opening, a moment, and more memory.
use Rattle.srcp_rules.proofs.Names
use Names.{◌≡◌, ℕ, ◌≤◌, Bool, false, List, [], ◌∷◌, map, Option, None, if◌then◌else◌, AllByRecursion, range_with_len, refl}
use Names.{sym, ap, ◌∙◌, arith, sum_by-cons, Row, all_append, Bus, IsLayout, power_device, fb_device, State, opening, opening_on, first_row}
use Names.{holder_of, weaken}
use Names.value
use Rattle.std.proofs.Common.{lit<}
use Rattle.srcp_rules.proofs.StateLaws.{each_of}
use Rattle.srcp_rules.proofs.OpeningLaws.{opening_whole}
use Rattle.srcp_index.specs.declared.indexes.Indexes.{Indexes}
use Rattle.srcp_index.specs.Pairs.{IndexModel, before}
use Rattle.srcp_index.specs.Ordered.{order_by}
use Rattle.srcp_index.proofs.RowSums.{removable_count}
use Rattle.srcp_index.specs.Indexed.{IsIndexed, due_of, removable_rows, is_removable, pairs_of}
use Rattle.srcp_index.proofs.Pairs.{before_weak, before_tie}
use Rattle.srcp_index.proofs.Ordered.{order_by-order_by}
use Rattle.srcp_index.proofs.RankLaws.{ranked_row, with_reserved}

-- ---- the opening

-- a row with no rank
abbrev IsPlain : Row → Type 0
IsPlain row = (due_of row ≡ None) × (holder_of row ≡ None) × (is_removable row ≡ false)

plain_ports : (bus : ℕ) (ports : List ℕ) → AllByRecursion IsPlain (map (λ port. first_row 0 (fb_device bus port) (value.Fb false)) ports)
plain_ports bus [] = tt
plain_ports bus (port ∷ ports) = ((refl, refl, refl), plain_ports bus ports)

plain_power : (b : Bool) (bus : ℕ)
    → AllByRecursion IsPlain (if b then first_row 0 (power_device bus) (value.Power false []) ∷ [] else [])
plain_power b bus = grind arith

plain_opening : (buses : List Bus) → AllByRecursion IsPlain (opening buses 0)
plain_opening [] = tt
plain_opening (bus ∷ buses) =
    all_append IsPlain (opening_on 0 bus) (opening buses 0)
    (all_append IsPlain _ _ (plain_power bus.power bus.number) (plain_ports bus.number (range_with_len 1 bus.fb_ports)))
    (plain_opening buses)

no_pairs : (rank : Row → Option ℕ) (state : State) → AllByRecursion (λ row. rank row ≡ None) state → pairs_of rank state ≡ []
no_pairs rank [] h = refl
no_pairs rank (row ∷ state) h = rw h.0 (no_pairs rank state h.1)

no_goers : (state : State) → AllByRecursion (λ row. is_removable row ≡ false) state → removable_rows state ≡ 0
no_goers [] h = refl
no_goers (row ∷ state) h = grind (arith, sum_by-cons removable_count row state, no_goers state h.1)

pub opening_indexed : (buses : List Bus) → IsLayout buses → (both : Indexes) → both.moments.pairs ≡ [] → both.sessions.pairs ≡ []
    → both.sessions.since ≡ 0 → IsIndexed (opening buses 0) both 0
opening_indexed buses layout both moments sessions since =
    let state = opening buses 0 in
    let whole = opening_whole buses layout 0 (lit< tt) in
    let plain = plain_opening buses in
    record {
      rising = whole.rising;
      due = record {
        pairs = moments ∙ ap (order_by (before both.moments.since))
            (sym (no_pairs due_of state (weaken state plain (λ row p. p.0))));
        reserved = omega arith;
      };
      held = record {
        pairs = sessions ∙ ap (order_by (before both.sessions.since))
            (sym (no_pairs holder_of state (weaken state plain (λ row p. p.1))));
        reserved = omega arith;
      };
      since = since;
      counted = no_goers state (weaken state plain (λ row p. p.2));
      rows = weaken state (each_of buses state whole) (ranked_row buses);
    }

-- ---- a moment

pub settled : (state : State) (both : Indexes) (count moment : ℕ) (index : IndexModel) → IsIndexed state both count → index.pairs
    ≡ order_by (before moment) both.moments.pairs → index.since ≡ moment → index.reserved ≡ both.moments.reserved
    → IsIndexed state (record { moments = index; sessions = both.sessions }) count
settled state both count moment index h pairs since reserved =
    record {
      rising = h.rising;
      due = record {
        pairs = pairs ∙ ap (order_by (before moment)) h.due.pairs
            ∙ order_by-order_by (before moment) (before_weak moment) (before_tie moment) (before both.moments.since) (pairs_of due_of state)
            ∙ ap (λ m. order_by (before m) (pairs_of due_of state)) (sym since);
        reserved = omega (arith, h.due.reserved);
      };
      held = h.held;
      since = h.since;
      counted = h.counted;
      rows = h.rows;
    }

-- ---- more memory

pub more_reserved : (state : State) (both other : Indexes) (count : ℕ) → IsIndexed state both count → other.moments.pairs
    ≡ both.moments.pairs → other.moments.since ≡ both.moments.since
    → other.sessions.pairs ≡ both.sessions.pairs → other.sessions.since ≡ both.sessions.since → count ≤ other.moments.reserved
    → count ≤ other.sessions.reserved → IsIndexed state other count
more_reserved state both other count h pairs since held held_since reserved held_reserved =
    record {
      rising = h.rising;
      due = with_reserved due_of state both.moments other.moments count count pairs since reserved h.due;
      held = with_reserved holder_of state both.sessions other.sessions count count held held_since held_reserved h.held;
      since = held_since ∙ h.since;
      counted = h.counted;
      rows = h.rows;
    }
