-- What the registry is asked is what is commanded, and is asked once.
use Rattle.std.proofs.Common.{◌&&◌, ap, Bool, false, inl, inr, List, None, not, Option, refl, Some, sym, true, ℕ, ◌∙◌, ◌∷◌, ◌≡◌, ◌≢◌, ◌⊎◌}
use Rattle.std.proofs.lemmas.List.Quantifiers.{position-Some}
use Rattle.std.proofs.lemmas.Option.{get_or_from_slice_get}
use Rattle.std.specs.List.{position}
use Rattle.std.specs.Option.{option_and_then, option_map, option_or}
use Rattle.std.specs.Prelude.{if◌then◌else◌, is_none, is_some, slice_get}
use Rattle.srcp_driver.specs.Cabs.{has_passed, is_silent, is_to_name, is_to_put, silence, wanted}
use Rattle.srcp_driver.specs.CommandLaws.{AsksAreCommanded, is_unheard, IsToAsk, IsToSwitch}
use Rattle.srcp_driver.specs.Drives.{is_same, is_same_way}
use Rattle.srcp_driver.specs.Noted.{Noted, noted_so, NotedPower, power_told_so, to_do}
use Rattle.srcp_driver.specs.Powers.{is_power_to_put}
use Rattle.srcp_driver.specs.Runs.{heard, Known, known, moment, order, told_so}
use Rattle.srcp_driver.specs.Steps.{first_name, first_put, Table}
use Rattle.srcp_driver.specs.declared.cab.Cab.{Cab}
use Rattle.srcp_driver.specs.declared.drive.Drive.{Drive}
use Rattle.srcp_driver.specs.declared.event.Put.{Put}
use Rattle.srcp_driver.specs.declared.power.Power.{Power}
use Rattle.srcp_driver.specs.declared.event.Put.TheVariants as put
use Rattle.srcp_driver.proofs.Agree.{Agrees, all_agrees, ordered_agrees}
use Rattle.srcp_driver.proofs.Notes.{told_seen}
use Rattle.srcp_driver.proofs.Plain.{facts_heard, facts_ordered}
use Rattle.srcp_driver.proofs.Same.{both, drive_same, not_true, way_same}
use Rattle.srcp_driver.proofs.Seen.{power_seen, seen}
use Rattle.srcp_driver.proofs.Ties.{Tied}

-- ---- the order to the registry

-- the order is that for a locomotive that passes a test
record AskedOf (order : Cab → ℕ → Put) (test : Cab → Bool) (cabs : List Cab) (asked : Put) : Type 0 where
  pub n : ℕ
  pub cab : Cab
  pub is : slice_get cabs n ≡ Some cab
  pub passes : test cab ≡ true
  pub so : asked ≡ order cab n

one_of : (order : Cab → ℕ → Put) (test : Cab → Bool) (cabs : List Cab) (n : ℕ) (x : Option Cab) (asked : Put)
    → position test cabs ≡ Some n → slice_get cabs n ≡ x → option_map (λ cab. order cab n) x ≡ Some asked
    → AskedOf order test cabs asked
one_of order test cabs n None asked at is e = absurd (cc)
one_of order test cabs n (Some cab) asked at is e =
    let all = position-Some test cabs n cab at in
    let same : order cab n ≡ asked = cc in record {
      n = n;
      cab = cab;
      is = is;
      passes = ap test (sym (get_or_from_slice_get cabs n cab cab is)) ∙ all.1;
      so = sym same;
    }

asked_of : (order : Cab → ℕ → Put) (test : Cab → Bool) (cabs : List Cab) (x : Option ℕ) (asked : Put) → position test cabs ≡ x
    → option_and_then (λ n. option_map (λ cab. order cab n) (slice_get cabs n)) x ≡ Some asked → AskedOf order test cabs asked
asked_of order test cabs None asked at e = absurd (cc)
asked_of order test cabs (Some n) asked at e = one_of order test cabs n (slice_get cabs n) asked at refl e

abbrev RowAsked : Table → Put → Type 0
RowAsked t asked = AskedOf (λ cab n. put.Cab n (wanted cab)) is_to_put t.cabs asked

abbrev NameAsked : Table → Put → Type 0
NameAsked t asked = AskedOf (λ cab n. put.Silent n (is_silent t.clock cab)) (is_to_name t.clock) t.cabs asked

-- the power is to be put, and the order says so
record PowerAsked (t : Table) (asked : Put) : Type 0 where
  pub passes : is_power_to_put t.power ≡ true
  pub so : asked ≡ put.Power t.power.is_on

record Asked (t : Table) (asked : Put) : Type 0 where
  pub free : t.waiting ≡ None
  pub which : PowerAsked t asked ⊎ (RowAsked t asked ⊎ NameAsked t asked)

chosen_put : (t : Table) (waits : Option Put) (p : Bool) (a b : Option Put) (asked : Put) → t.waiting ≡ waits
    → is_power_to_put t.power ≡ p → first_put t.cabs ≡ a → first_name t.cabs t.clock ≡ b
    → (if is_some waits then None else if p then Some (put.Power t.power.is_on) else option_or a b) ≡ Some asked → Asked t asked
chosen_put t (Some order) p a b asked w p-is a-is b-is e = absurd (cc)
chosen_put t None true a b asked w p-is a-is b-is e =
    let same : put.Power t.power.is_on ≡ asked = cc in
    record { free = w; which = inl (record { passes = p-is; so = sym same }) }
chosen_put t None false (Some x) b asked w p-is a-is b-is e = record {
  free = w;
  which = inr (inl (asked_of (λ cab n. put.Cab n (wanted cab)) is_to_put t.cabs (position is_to_put t.cabs) asked refl (a-is ∙ e)));
}
chosen_put t None false None b asked w p-is a-is b-is e = record {
  free = w;
  which = inr (inr (asked_of (λ cab n. put.Silent n (is_silent t.clock cab)) (is_to_name t.clock) t.cabs
      (position (is_to_name t.clock) t.cabs) asked refl (b-is ∙ e)));
}

-- ---- what a test that passes says

none_is : {X : Type 0} (x : Option X) → is_none x ≡ true → x ≡ None
none_is None e = refl
none_is (Some a) e = absurd (cc)

row_differs : (a b : Drive) → is_same a b ≡ false → a ≢ b
row_differs a b denied same =
    let yes : is_same a b ≡ true = ap (is_same a) (sym same) ∙ drive_same a in absurd (cc)

way_differs : (a b : Bool) → is_same_way a b ≡ false → a ≢ b
way_differs a b denied same =
    let yes : is_same_way a b ≡ true = ap (is_same_way a) (sym same) ∙ way_same a in absurd (cc)

to_ask : (k : Noted) (cab : Cab) (drive : Drive) → k ≡ seen cab → drive ≡ wanted cab → is_to_put cab ≡ true → IsToAsk k drive
to_ask k cab drive e is passes =
    let one = both (not (is_same cab.row (wanted cab)) && is_none cab.asked) (not cab.is_refused) passes in
    let two = both (not (is_same cab.row (wanted cab))) (is_none cab.asked) one.left in
    record {
      commanded = is ∙ sym (ap to_do e);
      row = λ same. row_differs cab.row (wanted cab) (not_true (is_same cab.row (wanted cab)) two.left)
          (sym (ap (λ (k : Noted). k.row) e) ∙ same ∙ is);
      asked = ap (λ (k : Noted). k.asked) e ∙ none_is cab.asked two.right;
      refused = ap (λ (k : Noted). k.is_refused) e ∙ not_true cab.is_refused one.right;
    }

to_switch : (k : NotedPower) (p : Power) (on : Bool) → k ≡ power_seen p → on ≡ p.is_on → is_power_to_put p ≡ true → IsToSwitch k on
to_switch k p on e is passes =
    let one = both (not (is_same_way p.row p.is_on)) (is_none p.asked) passes in
    record {
      commanded = is ∙ sym (ap (λ (k : NotedPower). k.command) e);
      row = λ same. way_differs p.row p.is_on (not_true (is_same_way p.row p.is_on) one.left)
          (sym (ap (λ (k : NotedPower). k.row) e) ∙ same ∙ is);
      asked = ap (λ (k : NotedPower). k.asked) e ∙ none_is p.asked one.right;
    }

unheard_by : (known : Known) (cab : Cab) (at now : ℕ) → Tied known cab → at ≡ now → is_unheard known at ≡ is_silent now cab
unheard_by known cab at now tied is = ap (λ (x : Option Drive). is_some x && has_passed silence known.since at) tied.awaited
    ∙ ap (λ (x : ℕ). is_some cab.awaited && has_passed silence x at) tied.since
    ∙ ap (λ (x : ℕ). is_some cab.awaited && has_passed silence cab.since x) is

-- ---- the law

pub asks_are_commanded : AsksAreCommanded
asks_are_commanded made past event asked e =
    let t : Table = told_so made past event in
    let all = told_seen made past event in
    let agree : Agrees made (facts_ordered (facts_heard made past event) (order made past event)) t =
    ordered_agrees made (facts_heard made past event) (heard made past event) (all_agrees made past event) in
    let one : Asked t asked = chosen_put t t.waiting (is_power_to_put t.power) (first_put t.cabs) (first_name t.cabs t.clock) asked
    refl refl refl refl e in
    record {
      free = all.waits ∙ one.free;
      cabs = λ n drive is. elim one.which [
        | inl power ↦ let denied : put.Power t.power.is_on ≡ put.Cab n drive = sym power.so ∙ is in absurd (cc)
        | inr rest ↦ elim rest [
          | inl row ↦
              let same : put.Cab row.n (wanted row.cab) ≡ put.Cab n drive = sym row.so ∙ is in
              let place : n ≡ row.n = cc in
              let so : drive ≡ wanted row.cab = cc in
              to_ask (noted_so made n past event) row.cab drive (all.cabs n row.cab (ap (slice_get t.cabs) place ∙ row.is)) so
              row.passes
          | inr name ↦
              let denied : put.Silent name.n (is_silent t.clock name.cab) ≡ put.Cab n drive = sym name.so ∙ is in absurd (cc)
        ]
      ];
      power = λ on is. elim one.which [
        | inl power ↦
            let same : put.Power t.power.is_on ≡ put.Power on = sym power.so ∙ is in
            let so : on ≡ t.power.is_on = cc in
            to_switch (power_told_so made past event) t.power on all.power so power.passes
        | inr rest ↦ elim rest [
          | inl row ↦ let denied : put.Cab row.n (wanted row.cab) ≡ put.Power on = sym row.so ∙ is in absurd (cc)
          | inr name ↦
              let denied : put.Silent name.n (is_silent t.clock name.cab) ≡ put.Power on = sym name.so ∙ is in absurd (cc)
        ]
      ];
      silent = λ n silent is. elim one.which [
        | inl power ↦ let denied : put.Power t.power.is_on ≡ put.Silent n silent = sym power.so ∙ is in absurd (cc)
        | inr rest ↦ elim rest [
          | inl row ↦ let denied : put.Cab row.n (wanted row.cab) ≡ put.Silent n silent = sym row.so ∙ is in absurd (cc)
          | inr name ↦
              let same : put.Silent name.n (is_silent t.clock name.cab) ≡ put.Silent n silent = sym name.so ∙ is in
              let place : n ≡ name.n = cc in
              let so : silent ≡ is_silent t.clock name.cab = cc in
              let at : slice_get t.cabs n ≡ Some name.cab = ap (slice_get t.cabs) place ∙ name.is in (
                so ∙ sym (unheard_by (known made n (event ∷ past)) name.cab (moment (event ∷ past)) t.clock (agree.known n name.cab at)
                    agree.plain.now),
                λ same'. way_differs (is_silent t.clock name.cab) name.cab.is_named
                    (not_true (is_same_way (is_silent t.clock name.cab) name.cab.is_named) name.passes)
                    (sym so ∙ sym same' ∙ ap (λ (k : Noted). k.is_named) (all.cabs n name.cab at)),
              )
        ]
      ];
    }
