-- Listed keys rise, rows are listed as they were, and the client holds what was passed, whatever happens.
use Rattle.std.proofs.Common.{◌≡◌, Bool, true, not, List, [], ◌∷◌, ◌++◌, map, Some, refl, ap, sym, ◌∙◌, subst, append-nil}
use Rattle.std.proofs.Common.{append_assoc, ⊎_elim}
use Rattle.std.proofs.lemmas.Bool.{cases_Bool}
use Rattle.std.proofs.lemmas.Cmp.{tied_itself}
use Rattle.std.proofs.lemmas.List.Sums.{fold-append}
use Rattle.std.specs.List.{AllByRecursion, filter}
use Rattle.std.specs.Ordering.{is_eq}
use Rattle.std.specs.Prelude.{⊤}
use Rattle.std.specs.declared.cmp.Ordering.TheVariants.{Less, Equal}
use Rattle.srcp_info.specs.Client.{client, changed, put, IsRisingBy}
use Rattle.srcp_info.specs.Key.{key_cmp, is_after, has_reached}
use Rattle.srcp_info.specs.declared.change.Change.{Change}
use Rattle.srcp_info.specs.declared.change.Change.TheVariants.{Put}
use Rattle.srcp_info.specs.declared.change.Cursor.{Cursor}
use Rattle.srcp_info.specs.declared.change.Cursor.TheVariants.{After}
use Rattle.srcp_info.specs.declared.change.Shown.{Shown}
use Rattle.srcp_info.proofs.ClientLaws.{after_not_itself, after_one_way, all_append, all_filter, all_weaker, client-push, key_at}
use Rattle.srcp_info.proofs.ClientLaws.{less_from_after, rising_fold}
use Rattle.srcp_info.proofs.KeyLaws.{key_cmp_total}
use Rattle.srcp_feed.specs.Cursor.{beyond, changed_all, concerns, passed}
use Rattle.srcp_feed.specs.Feed.{HoldsPassed}
use Rattle.srcp_feed.specs.History.{Happening, IsHeld, IsSettled, Panel, after, begun, listed, shown_at, steps_of, tells}
use Rattle.srcp_feed.specs.declared.feed.Next.TheVariants.{Listed, Told}
use Rattle.srcp_feed.proofs.Steps.{lists_one, passed_all, passed_below, passed_changed, passed_done, passed_start}
use Rattle.srcp_feed.proofs.PanelSteps.{IsKept, any_steps, kept_all, listed_more, listed_panel, listed_told, tells_more}

-- ---- listed keys rise, rows are listed as they were, and the client holds what was passed

rising_push : (rows : List Shown) (row : Shown) → IsRisingBy key_at rows
    → AllByRecursion (λ (r : Shown). is_after row.key r.key ≡ true) rows → IsRisingBy key_at (rows ++ row ∷ [])
rising_push [] row r a = (tt, tt)
rising_push (other ∷ rows) row r a = (
  all_append (λ (y : Shown). key_cmp other.key y.key ≡ Less) rows (row ∷ []) r.0 (less_from_after row.key other.key a.0, tt),
  rising_push rows row r.1 a.1,
)

-- the first row that passes a test stands at its own key
found : (q : Shown → Bool) (row : Shown) (left rows : List Shown) → IsRisingBy key_at rows → filter q rows ≡ row ∷ left
    → shown_at row.key rows ≡ Some row
found q row left [] r e = cc
found q row left (other ∷ rows) r e =
    ⊎_elim
    (λ k.
    let e' : other ∷ filter q rows ≡ row ∷ left = rw k at e in
    let same : other ≡ row = cc in
    let tied : key_cmp other.key row.key ≡ Equal = cc (tied_itself key_cmp_total other.key) in
    rw (ap is_eq tied) (cc))
    (λ k.
    let e' : filter q rows ≡ row ∷ left = rw k at e in
    let above : AllByRecursion (λ (y : Shown). key_cmp other.key y.key ≡ Less) (row ∷ left) =
    subst (λ ys. AllByRecursion (λ (y : Shown). key_cmp other.key y.key ≡ Less) ys) e'
    (all_filter (λ y. key_cmp _ y.key ≡ Less) q rows r.0) in
    rw (ap is_eq above.0) (found q row left rows r.1 e'))
    (cases_Bool (q other))

abbrev IsPassed : Cursor → List Shown → Type 0
IsPassed cursor rows = AllByRecursion (λ (row : Shown). has_reached cursor row.key ≡ true) rows

pub record Kept (panel : Panel) : Type 0 where
  pub order : IsRisingBy key_at panel.rows
  pub rising : IsRisingBy key_at (listed panel.given)
  pub behind : IsPassed panel.feed.cursor (listed panel.given)
  pub held : AllByRecursion IsHeld panel.given
  pub passes : HoldsPassed (tells panel.given) panel.feed panel.rows

kept_begun : (first : List Shown) → IsRisingBy key_at first → Kept (begun first)
kept_begun first order = record { order = order; rising = tt; behind = tt; held = tt; passes = sym (passed_start first) }

-- what was given is all that the client was told if nothing waits
none_waits : (panel : Panel) → Kept panel → panel.feed.queue ≡ [] → client (tells panel.given) ≡ passed panel.feed.cursor panel.rows
none_waits panel k e = ap client (sym (append-nil (tells panel.given)) ∙ ap (λ queue. tells panel.given ++ queue) (sym e)) ∙ k.passes

kept_listed : (row : Shown) (left : List Shown) (panel : Panel) → panel.feed.queue ≡ []
    → beyond panel.feed.cursor panel.rows ≡ row ∷ left → Kept panel → Kept (listed_panel row panel)
kept_listed row left panel e b k =
    let one = lists_one panel.feed.cursor row left panel.rows k.order b in
    let above : AllByRecursion (λ (r : Shown). is_after row.key r.key ≡ true) (listed panel.given) =
    all_weaker _ _ (λ r h. passed_below panel.feed.cursor row.key r.key one.outside h) _ k.behind in
    let same = sym (listed_more panel.given panel.rows row) in
    record {
      order = k.order;
      rising = subst (IsRisingBy key_at) same (rising_push (listed panel.given) row k.rising above);
      behind =
          subst (IsPassed (After row.key)) same
          (all_append (λ (r : Shown). has_reached (After row.key) r.key ≡ true) (listed panel.given) (row ∷ [])
          (all_weaker _ _ (λ r h. ap not (after_one_way row.key r.key h)) _ above) (ap not (after_not_itself row.key), tt));
      held =
          all_append IsHeld panel.given (record { rows = panel.rows; what = Listed row } ∷ []) k.held
          (found (λ r. not (has_reached panel.feed.cursor r.key)) row left panel.rows k.order b, tt);
      passes =
          ap client (append-nil _ ∙ tells_more panel.given panel.rows (Listed row))
          ∙ client-push (tells panel.given) (Put row) ∙ ap (put row) (none_waits panel k e) ∙ one.taken;
    }

kept : IsKept (λ changes. ⊤) Kept
kept = record {
  given = record {
    tells = λ change queue panel e k.
        let same = sym (listed_told panel.given panel.rows change) in
        record {
          order = k.order;
          rising = subst (IsRisingBy key_at) same k.rising;
          behind = subst (IsPassed panel.feed.cursor) same k.behind;
          held = all_append IsHeld panel.given (record { rows = panel.rows; what = Told change } ∷ []) k.held (tt, tt);
          passes =
              ap (λ changes. client (changes ++ queue)) (tells_more panel.given panel.rows (Told change))
              ∙ ap client (append_assoc (tells panel.given) (change ∷ []) queue)
              ∙ ap (λ waits. client (tells panel.given ++ waits)) (sym e) ∙ k.passes;
        };
    lists = kept_listed;
    ends = λ panel e b k. record {
      order = k.order;
      rising = k.rising;
      behind = all_weaker _ _ (λ row h. refl) (listed panel.given) k.behind;
      held = k.held;
      passes =
          ap client (append-nil (tells panel.given)) ∙ none_waits panel k e ∙ passed_all panel.feed.cursor panel.rows b
          ∙ sym (passed_done panel.rows);
    };
  };
  steps = λ changes panel any k. record {
    order = rising_fold changes panel.rows k.order;
    rising = k.rising;
    behind = k.behind;
    held = k.held;
    passes =
        let more = filter (concerns panel.feed.cursor) changes in
        ap client (sym (append_assoc (tells panel.given) panel.feed.queue more))
        ∙ fold-append (λ rows change. changed change rows) [] (tells panel.given ++ panel.feed.queue) more
        ∙ ap (changed_all more) k.passes ∙ sym (passed_changed panel.feed.cursor changes panel.rows);
  };
}

pub kept_after : (first : List Shown) (happenings : List Happening) → IsRisingBy key_at first → Kept (after first happenings)
kept_after first happenings order = kept_all _ Kept kept happenings (begun first) (any_steps (steps_of happenings)) (kept_begun first order)

-- ---- nothing is left

pub nothing_owed : (panel : Panel) → IsSettled panel → (panel.feed.queue ≡ []) × (beyond panel.feed.cursor panel.rows ≡ [])
nothing_owed panel settled = by panel.feed.queue (beyond panel.feed.cursor panel.rows) settled
  where
    by : (queue : List Change) (left : List Shown) → map Told queue ++ map Listed left ≡ [] → (queue ≡ []) × (left ≡ [])
    by [] [] e = (refl, refl)
    by [] (row ∷ left) e = cc
    by (change ∷ queue) left e = cc

pub settled_client : (panel : Panel) → Kept panel → IsSettled panel → client (tells panel.given) ≡ panel.rows
settled_client panel k settled =
    let both = nothing_owed panel settled in
    none_waits panel k both.0 ∙ passed_all panel.feed.cursor panel.rows both.1
