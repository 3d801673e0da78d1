-- Once nothing is left to ask, the registry says what the track does.
use Rattle.std.proofs.Common.{◌&&◌, ap, Bool, false, get_or, inl, inr, List, None, not, Option, refl, Some, subst, sym, true, ℕ}
use Rattle.std.proofs.Common.{◌∙◌, ◌∷◌, ◌≡◌, ◌⊎◌}
use Rattle.std.proofs.lemmas.List.Quantifiers.{position-Some}
use Rattle.std.proofs.lemmas.Option.{slice_get-get_or}
use Rattle.std.specs.List.{position}
use Rattle.std.specs.Option.{option_and_then, option_map, option_map_or, option_or}
use Rattle.std.specs.Prelude.{if◌then◌else◌, is_none, is_some, slice_get}
use Rattle.srcp_driver.specs.Cabs.{blank, has_passed, is_silent, is_to_name}
use Rattle.srcp_driver.specs.Cabs.{is_to_put, refused, silence, wanted}
use Rattle.srcp_driver.specs.Drives.{is_same, is_same_way}
use Rattle.srcp_driver.specs.CommandLaws.{IsRow, RegistryIsTrack}
use Rattle.srcp_driver.specs.Noted.{Noted, noted_by, NotedPower, power_noted, to_do, unreplied}
use Rattle.srcp_driver.specs.Powers.{is_power_to_put}
use Rattle.srcp_driver.specs.Runs.{course, Known, known, told_so}
use Rattle.srcp_driver.specs.declared.event.Event.{Event}
use Rattle.srcp_driver.specs.TableLaws.{IsCabAsked, IsCabRow, TableIsAsked}
use Rattle.srcp_driver.specs.Steps.{first_name, first_put, next_put, put_noted, Table}
use Rattle.srcp_driver.specs.declared.cab.Cab.{Cab}
use Rattle.srcp_driver.specs.declared.drive.Drive.{Drive}
use Rattle.srcp_driver.specs.declared.event.Put.{Put}
use Rattle.srcp_driver.specs.declared.power.Power.{Power}
use Rattle.srcp_driver.specs.declared.event.Put.TheVariants as put
use Rattle.srcp_driver.proofs.Agree.{Agrees, agrees, Placed, placed}
use Rattle.srcp_driver.proofs.Lists.{position_none}
use Rattle.srcp_driver.proofs.Notes.{Seen, seen_by}
use Rattle.srcp_driver.proofs.Seen.{power_seen, seen}
use Rattle.srcp_driver.proofs.Plain.{facts}
use Rattle.srcp_driver.proofs.Same.{not_false, same_drive, same_way}
use Rattle.srcp_driver.proofs.Ties.{Tied}

asks_of : (order : Cab → ℕ → Put) (test : Cab → Bool) (cabs : List Cab) (n : ℕ) (d : Option ℕ) (cab : Cab)
    → position test cabs ≡ d
    → option_and_then (λ m. option_map (λ cab. order cab m) (slice_get cabs m)) d ≡ None → slice_get cabs n ≡ Some cab
    → test cab ≡ false
asks_of order test cabs n None cab at e is = position_none test cabs n cab at is
asks_of order test cabs n (Some m) cab at e is =
    let all = position-Some test cabs m blank at in
    let here : slice_get cabs m ≡ Some (get_or cabs m blank) = slice_get-get_or cabs m blank all.0 in
    let asks : option_map (λ cab. order cab m) (slice_get cabs m) ≡ Some (order (get_or cabs m blank) m) =
    ap (option_map (λ cab. order cab m)) here in
    absurd (cc)

record NonePut (a b : Option Put) : Type 0 where
  pub one : a ≡ None
  pub two : b ≡ None

none_or : (a b : Option Put) → option_or a b ≡ None → NonePut a b
none_or None None e = record { one = refl; two = refl }
none_or None (Some y) e = absurd (cc)
none_or (Some x) b e = absurd (cc)

none_put : (t : Table) (x : Option Put) (p : Bool) → x ≡ None
    → (if is_some x then None else if p then Some (put.Power t.power.is_on)
    else option_or (first_put t.cabs) (first_name t.cabs t.clock)) ≡ None
    → NonePut (first_put t.cabs) (first_name t.cabs t.clock)
none_put t (Some order) p w e = absurd (cc)
none_put t None true w e = absurd (cc)
none_put t None false w e = none_or (first_put t.cabs) (first_name t.cabs t.clock) e

some_asked : (x : Option Drive) → is_none x ≡ false → is_some x ≡ true
some_asked None e = absurd (cc)
some_asked (Some drive) e = refl

row_of : (cab : Cab) (same none refused : Bool) → is_same cab.row (wanted cab) ≡ same → is_none cab.asked ≡ none
    → cab.is_refused ≡ refused → (not same && none && not refused) ≡ false → IsCabRow cab
row_of cab true none refused s n r e = inl (same_drive cab.row (wanted cab) s)
row_of cab false false refused s n r e = inr (inl (some_asked cab.asked n))
row_of cab false true true s n r e = inr (inr r)
row_of cab false true false s n r e = absurd (cc)

row_by : (k : Noted) (cab : Cab) → k ≡ seen cab → IsCabRow cab → IsRow k
row_by k cab e (inl same) = inl (ap (λ (k : Noted). k.row) e ∙ same ∙ sym (ap to_do e))
row_by k cab e (inr (inl asked)) = inr (inl (ap (λ (k : Noted). is_some k.asked) e ∙ asked))
row_by k cab e (inr (inr refused)) = inr (inr (ap (λ (k : Noted). k.is_refused) e ∙ refused))

silent_by : (k : Noted) (known : Known) (cab : Cab) (now : ℕ) → k ≡ seen cab → Tied known cab
    → is_silent now cab ≡ cab.is_named → (is_some known.awaited && has_passed silence known.since now) ≡ k.is_named
silent_by k known cab now e tied is = ap (λ (x : Option Drive). is_some x && has_passed silence known.since now) tied.awaited
    ∙ ap (λ (x : ℕ). is_some cab.awaited && has_passed silence x now) tied.since ∙ is ∙ ap (λ (k : Noted). k.is_named) (sym e)

-- the row of the power
power_none : (t : Table) (x : Option Put) (p : Bool) → x ≡ None
    → (if is_some x then None else if p then Some (put.Power t.power.is_on)
    else option_or (first_put t.cabs) (first_name t.cabs t.clock)) ≡ None → p ≡ false
power_none t (Some order) p w e = absurd (cc)
power_none t None true w e = absurd (cc)
power_none t None false w e = refl

some_on : (x : Option Bool) → is_none x ≡ false → is_some x ≡ true
some_on None e = absurd (cc)
some_on (Some on) e = refl

power_row_of : (k : NotedPower) (p : Power) (same none : Bool) → k ≡ power_seen p → is_same_way p.row p.is_on ≡ same
    → is_none p.asked ≡ none → (not same && none) ≡ false → (k.row ≡ k.command) ⊎ (is_some k.asked ≡ true)
power_row_of k p true none e s n denied = inl (ap (λ (k : NotedPower). k.row) e ∙ same_way p.row p.is_on s
    ∙ ap (λ (k : NotedPower). k.command) (sym e))
power_row_of k p false false e s n denied = inr (ap (λ (k : NotedPower). is_some k.asked) e ∙ some_on p.asked n)
power_row_of k p false true e s n denied = absurd (cc)

cab_asked : (t : Table) (n : ℕ) (cab : Cab) → next_put t ≡ None → t.waiting ≡ None → slice_get t.cabs n ≡ Some cab → IsCabAsked t cab
cab_asked t n cab e free is =
    let none = none_put t t.waiting (is_power_to_put t.power) free e in
    record {
      row = row_of cab (is_same cab.row (wanted cab)) (is_none cab.asked) cab.is_refused refl refl refl
          (asks_of (λ cab m. put.Cab m (wanted cab)) is_to_put t.cabs n (position is_to_put t.cabs) cab refl none.one is);
      silent = same_way (is_silent t.clock cab) cab.is_named (not_false (is_same_way (is_silent t.clock cab) cab.is_named)
          (asks_of (λ cab m. put.Silent m (is_silent t.clock cab)) (is_to_name t.clock) t.cabs n
          (position (is_to_name t.clock) t.cabs) cab refl none.two is));
    }

pub table_is_asked : TableIsAsked
table_is_asked made past event n cab e free is = cab_asked (told_so made past event) n cab e free is

pub registry_is_track : RegistryIsTrack
registry_is_track made past event e waits =
    let now : List Event = event ∷ past in
    let t : Table = told_so made past event in
    let same : course made now ≡ t = ap (λ (x : Option Put). option_map_or (put_noted t) x t) e in
    let agree : Agrees made (facts made now) t = subst (λ (u : Table). Agrees made (facts made now) u) same (agrees made now) in
    let seen : Seen (unreplied made now) (power_noted made now) (λ n. noted_by made n now) t =
    subst (λ (u : Table). Seen (unreplied made now) (power_noted made now) (λ n. noted_by made n now) u) same (seen_by made now) in
    let free : t.waiting ≡ None = sym seen.waits ∙ waits in
    record {
      row = λ n lt.
          let one : Placed (facts made now) t n = placed made (facts made now) t n agree lt in
          row_by (noted_by made n now) one.cab (seen.cabs n one.cab one.is) (cab_asked t n one.cab e free one.is).row;
      silent = λ n lt.
          let one : Placed (facts made now) t n = placed made (facts made now) t n agree lt in
          ap (λ (at : ℕ). is_some (known made n now).awaited && has_passed silence (known made n now).since at) agree.plain.now
          ∙ silent_by (noted_by made n now) (known made n now) one.cab t.clock (seen.cabs n one.cab one.is) one.tied
          (cab_asked t n one.cab e free one.is).silent;
      power = power_row_of (power_noted made now) t.power (is_same_way t.power.row t.power.is_on) (is_none t.power.asked)
          seen.power refl refl (power_none t t.waiting (is_power_to_put t.power) free e);
    }
