-- What was told can be told, so the bytes of its lines are read as that and nothing else.
use Rattle.std.proofs.Common.{◌≡◌, ℕ, zero, suc, ◌+◌, ◌-◌, ◌≤◌, false, List, [], ◌∷◌, ◌++◌, take, length, refl, ap, sym, ◌∙◌, subst}
use Rattle.std.proofs.Common.{arith, append-nil, append_assoc, length-append, ⊎_elim}
use Rattle.std.proofs.Math.Seq.{take-append-add, take-nil}
use Rattle.std.proofs.lemmas.Bool.{cases_lt, or_parts}
use Rattle.std.proofs.lemmas.List.{take-append-le}
use Rattle.std.specs.List.{AllByRecursion, filter, flat_map, list_any}
use Rattle.srcp_text.specs.Marks.{is_lf}
use Rattle.srcp_info.specs.Client.{client, HoldsLines}
use Rattle.srcp_info.specs.Line.{line}
use Rattle.srcp_info.specs.WellFormed.{IsWellFormed, IsWellFormedShown}
use Rattle.srcp_info.specs.declared.change.Change.{Change}
use Rattle.srcp_info.specs.declared.change.Change.TheVariants.{Put}
use Rattle.srcp_info.specs.declared.change.Shown.{Shown}
use Rattle.srcp_info.proofs.ClientLaws.{all_append, all_filter, well_formed_changed}
use Rattle.srcp_info.proofs.HoldsLaws.{holds_unique, text_of}
use Rattle.srcp_info.proofs.LineLaws.{line_free}
use Rattle.srcp_feed.specs.Cursor.{changed_all, concerns}
use Rattle.srcp_feed.specs.History.{Happening, HoldsFirst, IsReadRightly, Panel, after, begun, bytes, steps_of, tells}
use Rattle.srcp_feed.specs.declared.feed.Next.TheVariants.{Listed, Told}
use Rattle.srcp_feed.proofs.PanelSteps.{IsKept, kept_all, tells_more}
use Rattle.srcp_feed.proofs.PanelKeeps.{Kept, settled_client}

changed_all_told : (changes : List Change) (rows : List Shown) → AllByRecursion IsWellFormed changes
    → AllByRecursion IsWellFormedShown rows → AllByRecursion IsWellFormedShown (changed_all changes rows)
changed_all_told [] rows h a = a
changed_all_told (change ∷ changes) rows h a = changed_all_told changes _ h.1 (well_formed_changed change rows h.0 a)

record Tellable (panel : Panel) : Type 0 where
  rows : AllByRecursion IsWellFormedShown panel.rows
  queue : AllByRecursion IsWellFormed panel.feed.queue
  told : AllByRecursion IsWellFormed (tells panel.given)

tellable : IsKept (AllByRecursion IsWellFormed) Tellable
tellable = record {
  given = record {
    tells = λ change queue panel e t.
        let waits : AllByRecursion IsWellFormed (change ∷ queue) = subst (AllByRecursion IsWellFormed) e t.queue in
        record {
          rows = t.rows;
          queue = waits.1;
          told =
              subst (AllByRecursion IsWellFormed) (sym (tells_more panel.given panel.rows (Told change)))
              (all_append IsWellFormed (tells panel.given) (change ∷ []) t.told (waits.0, tt));
        };
    lists = λ row left panel e b t.
        let lines : AllByRecursion IsWellFormedShown (row ∷ left) =
        subst (AllByRecursion IsWellFormedShown) b (all_filter IsWellFormedShown _ panel.rows t.rows) in
        record {
          rows = t.rows;
          queue = tt;
          told =
              subst (AllByRecursion IsWellFormed) (sym (tells_more panel.given panel.rows (Listed row)))
              (all_append IsWellFormed (tells panel.given) (Put row ∷ []) t.told (lines.0, tt));
        };
    ends = λ panel e b t. record { rows = t.rows; queue = tt; told = t.told };
  };
  steps = λ changes panel w t. record {
    rows = changed_all_told changes panel.rows w t.rows;
    queue =
        all_append IsWellFormed panel.feed.queue (filter (concerns panel.feed.cursor) changes) t.queue
        (all_filter IsWellFormed (concerns panel.feed.cursor) changes w);
    told = t.told;
  };
}

free_take : (n : ℕ) (xs : List ℕ) → list_any is_lf xs ≡ false → list_any is_lf (take n xs) ≡ false
free_take zero xs e = refl
free_take (suc n) [] e = refl
free_take (suc n) (x ∷ xs) e = let p = or_parts (is_lf x) (list_any is_lf xs) e in rw (p.0, free_take n xs p.1) refl

-- a prefix of the lines of these changes
pub lines_prefix : (n : ℕ) (changes : List Change) → AllByRecursion IsWellFormed changes
    → HoldsFirst (take n (flat_map line changes)) changes
lines_prefix n [] a = record {
  prefix = [];
  later = [];
  begun = [];
  whole = refl;
  holds = record { each = tt; whole = take-nil n; no_more = refl };
}
lines_prefix n (change ∷ changes) a =
    ⊎_elim
    (λ h.
    let z : length (line change) ≡ length (text_of change) + 1 = length-append _ _ in
    let low : n ≤ length (line change) = omega arith in
    let short : n ≤ length (text_of change) = omega arith in
    let cut : take n (line change ++ flat_map line changes) ≡ take n (text_of change) =
    take-append-le n _ _ low ∙ take-append-le n _ _ short in
    record {
      prefix = [];
      later = change ∷ changes;
      begun = take n _;
      whole = refl;
      holds = record { each = tt; whole = cut; no_more = free_take n _ (line_free change a.0) };
    })
    (λ h.
    let r = lines_prefix (n - length (line change)) changes a.1 in
    let sum : n ≡ length (line change) + (n - length (line change)) = omega arith in
    let cut : take n (line change ++ flat_map line changes) ≡ line change ++ take (n - length (line change)) (flat_map line changes) =
    cc (take-append-add _ _ _) in
    record {
      prefix = change ∷ r.prefix;
      later = r.later;
      begun = r.begun;
      whole = ap (λ cs. change ∷ cs) r.whole;
      holds = record {
        each = (a.0, r.holds.each);
        whole = cut ∙ ap (λ b. line change ++ b) r.holds.whole ∙ sym (append_assoc _ _ r.begun);
        no_more = r.holds.no_more;
      };
    })
    (cases_lt n (length (line change)))

pub read_rightly : (panel : Panel) → Kept panel → AllByRecursion IsWellFormed (tells panel.given) → IsReadRightly panel
read_rightly panel k told =
    let holds : HoldsLines (bytes panel.given) (tells panel.given) [] =
    record { each = told; whole = sym (append-nil (flat_map line (tells panel.given))); no_more = refl } in
    record {
      lines = λ sent. lines_prefix sent (tells panel.given) told;
      client_is = λ settled changes begun h.
          ap client (holds_unique (bytes panel.given) changes (tells panel.given) begun [] h holds).0
          ∙ settled_client panel k settled;
    }

-- what can be told was told
pub tellable_after : (first : List Shown) (happenings : List Happening) → AllByRecursion IsWellFormedShown first
    → AllByRecursion (AllByRecursion IsWellFormed) (steps_of happenings)
    → AllByRecursion IsWellFormed (tells (after first happenings).given)
tellable_after first happenings rows steps =
    (kept_all _ Tellable tellable happenings (begun first) steps (record { rows = rows; queue = tt; told = tt })).told
