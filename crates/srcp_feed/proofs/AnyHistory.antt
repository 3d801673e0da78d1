-- The laws of a panel over any history.
use Rattle.std.proofs.Common.{◌≡◌, List, [], ◌∷◌, ◌++◌, map, refl, ap, sym, ◌∙◌, subst, append-nil}
use Rattle.std.proofs.lemmas.List.{map-append}
use Rattle.std.specs.List.{filter}
use Rattle.srcp_info.specs.Client.{IsRisingBy}
use Rattle.srcp_info.specs.declared.change.Change.{Change}
use Rattle.srcp_info.specs.declared.change.Change.TheVariants.{Put}
use Rattle.srcp_info.specs.declared.change.Shown.{Shown}
use Rattle.srcp_info.proofs.ClientLaws.{key_at}
use Rattle.srcp_info.proofs.ListingLaws.{reached_split}
use Rattle.srcp_feed.specs.Cursor.{beyond, changed_all, concerns, passed}
use Rattle.srcp_feed.specs.History.{IsToldRows, Panel, ReadOverAnyHistory, ToldOverAnyHistory, after, begun, listed, tells}
use Rattle.srcp_feed.specs.History.{times_listed}
use Rattle.srcp_feed.specs.declared.feed.Next.TheVariants.{Listed}
use Rattle.srcp_feed.proofs.Steps.{lists_one, passed_all, passed_done, passed_start}
use Rattle.srcp_feed.proofs.PanelSteps.{IsKept, kept_all, tells_more}
use Rattle.srcp_feed.proofs.PanelKeeps.{kept_after, nothing_owed, settled_client}
use Rattle.srcp_feed.proofs.ListedOnce.{at_most_one, lists_once}
use Rattle.srcp_feed.proofs.LinesRead.{read_rightly, tellable_after}

-- ---- rows that stand still

abbrev puts : List Shown → List Change
puts rows = map (λ row. Put row) rows

record Still (first : List Shown) (panel : Panel) : Type 0 where
  same : panel.rows ≡ first
  none : panel.feed.queue ≡ []
  told : tells panel.given ≡ puts (passed panel.feed.cursor first)

still_kept : (first : List Shown) → IsRisingBy key_at first → IsKept (λ changes. changes ≡ []) (Still first)
still_kept first order = record {
  given = record {
    tells = λ change queue panel e s. let none = s.none in absurd (cc);
    lists = λ row left panel e b s.
        let here : beyond panel.feed.cursor first ≡ row ∷ left = ap (beyond panel.feed.cursor) (sym s.same) ∙ b in
        let one = lists_one panel.feed.cursor row left first order here in
        record {
          same = s.same;
          none = refl;
          told =
              tells_more panel.given panel.rows (Listed row) ∙ ap (λ changes. changes ++ Put row ∷ []) s.told
              ∙ sym (map-append (λ row. Put row) (passed panel.feed.cursor first) (row ∷ [])) ∙ ap puts (sym one.appended);
        };
    ends = λ panel e b s. record {
      same = s.same;
      none = refl;
      told =
          s.told
          ∙ ap puts (passed_all panel.feed.cursor first (ap (beyond panel.feed.cursor) (sym s.same) ∙ b) ∙ sym (passed_done first));
    };
  };
  steps = λ changes panel no s. record {
    same = ap (λ cs. changed_all cs panel.rows) no ∙ s.same;
    none = ap (λ cs. panel.feed.queue ++ filter (concerns panel.feed.cursor) cs) no ∙ append-nil panel.feed.queue ∙ s.none;
    told = s.told;
  };
}

told_rows : (first : List Shown) (panel : Panel) → IsRisingBy key_at first → Still first panel → IsToldRows first panel
told_rows first panel order s = record {
  prefix = (
    puts (beyond panel.feed.cursor first),
    ap (λ changes. changes ++ puts (beyond panel.feed.cursor first)) s.told
        ∙ sym (map-append (λ row. Put row) (passed panel.feed.cursor first) (beyond panel.feed.cursor first))
        ∙ ap puts (reached_split panel.feed.cursor first order),
  );
  whole = λ settled.
      let left = (nothing_owed panel settled).1 in
      s.told ∙ ap puts (passed_all panel.feed.cursor first (ap (beyond panel.feed.cursor) (sym s.same) ∙ left));
}

-- ---- the laws

pub told_over_any_history : ToldOverAnyHistory
told_over_any_history first happenings order =
    let panel = after first happenings in
    let k = kept_after first happenings order in
    record {
      rising = k.rising;
      never_twice = λ key. at_most_one key (listed panel.given) k.rising;
      held = k.held;
      passed = k.passes;
      settled = settled_client panel k;
      still = λ quiet.
          told_rows first panel order
          (kept_all _ (Still first) (still_kept first order) happenings (begun first) quiet
          (record { same = refl; none = refl; told = ap puts (sym (passed_start first)) }));
      once = λ early more key whole settled always.
          subst (λ hs. times_listed key (after first hs).given ≡ 1) (sym whole)
          (lists_once first early more key order settled always);
    }

pub read_over_any_history : ReadOverAnyHistory
read_over_any_history first happenings order rows steps =
    read_rightly (after first happenings) (kept_after first happenings order) (tellable_after first happenings rows steps)
