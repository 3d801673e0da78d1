-- What is commanded counts, until another event may end that.
use Rattle.std.proofs.Common.{◌&&◌, ◌++◌, ◌<◌, ◌==◌, [], ap, Bool, false, List, None, not, Option, refl, Some, subst, sym, true}
use Rattle.std.proofs.Common.{ℕ, ◌∙◌, ◌∷◌, ◌≡◌}
use Rattle.std.proofs.lemmas.Bool.{eq-eqb}
use Rattle.std.specs.Option.{option_map_or}
use Rattle.std.specs.Prelude.{if◌then◌else◌, is_none, is_some, slice_get, ◌||◌}
use Rattle.srcp_driver.specs.Cabs.{confirms, has_passed, wanted}
use Rattle.srcp_driver.specs.CommandLaws.{Counts, HandsCount, IsObeyed, may_end, RowsCount}
use Rattle.srcp_driver.specs.Drives.{drives, is_alike, is_same, rest}
use Rattle.srcp_driver.specs.Laws.{AreNo}
use Rattle.srcp_driver.specs.Noted.{asks, is_answer, is_denied, Noted, noted_answer, noted_asked, noted_by, noted_command, noted_hand}
use Rattle.srcp_driver.specs.Noted.{noted_heard, noted_lost, noted_row, noted_said, noted_told, notes, power_noted, to_do}
use Rattle.srcp_driver.specs.Powers.{is_told}
use Rattle.srcp_driver.specs.TableLaws.{HandsAreWanted, RowsAreWanted}
use Rattle.srcp_driver.specs.Runs.{heard, is_here, Known, known, Made, order}
use Rattle.srcp_driver.specs.declared.cab.Cab.{Cab}
use Rattle.srcp_driver.specs.declared.drive.Drive.{Drive}
use Rattle.srcp_driver.specs.declared.event.Event.{Event}
use Rattle.srcp_driver.specs.declared.event.Put.{Put}
use Rattle.srcp_driver.specs.declared.event.Tell.{Tell}
use Rattle.srcp_driver.specs.declared.event.Event.TheVariants as event
use Rattle.srcp_driver.specs.declared.event.Put.TheVariants as put
use Rattle.srcp_driver.specs.declared.event.Tell.TheVariants as tell
use Rattle.srcp_driver.proofs.Chosen.{order_for}
use Rattle.srcp_driver.proofs.Notes.{all_seen, seen_by}
use Rattle.srcp_driver.proofs.Same.{not_false, pick, pick_else, same_drive}
use Rattle.srcp_driver.proofs.Tracks.{does_by}
use Rattle.srcp_driver.proofs.Seen.{seen}
use Rattle.srcp_driver.proofs.Agree.{agrees}

-- what no order changes
pub record Stays (P : Noted → Type 0) : Type 0 where
  pub told : (noted : Noted) (drive : Drive) → P noted → P (record noted { told = Some drive })
  pub asked : (noted : Noted) (drive : Drive) → P noted → P (record noted { asked = Some drive })
  pub named : (noted : Noted) (is_silent : Bool) → P noted → P (record noted { is_named = is_silent })

told_stays : (P : Noted → Type 0) → Stays P → (n : ℕ) (x : Option Tell) (noted : Noted) → P noted → P (noted_told n x noted)
told_stays P stays n None noted p = p
told_stays P stays n (Some tell.StopAll) noted p = p
told_stays P stays n (Some (tell.Power on)) noted p = p
told_stays P stays n (Some (tell.Cab m drive)) noted p =
    pick P (n == m) (record noted { told = Some drive }) noted (stays.told noted drive p) p

asked_stays : (P : Noted → Type 0) → Stays P → (n : ℕ) (x : Option Put) (noted : Noted) → P noted → P (noted_asked n x noted)
asked_stays P stays n None noted p = p
asked_stays P stays n (Some (put.Power on)) noted p = p
asked_stays P stays n (Some (put.Cab m drive)) noted p =
    pick P (n == m) (record noted { asked = Some drive }) noted (stays.asked noted drive p) p
asked_stays P stays n (Some (put.Silent m is_silent)) noted p =
    pick P (n == m) (record noted { is_named = is_silent }) noted (stays.named noted is_silent p) p

-- what holds once an event came, and no event ends
since_stays : (P : Noted → Type 0) (ends : Event → Bool) (made : Made) (n : ℕ) → Stays P
    → ((past : List Event) (event : Event) (noted : Noted) → ends event ≡ false → P noted → P (noted_heard made n past event noted))
    → (before since : List Event) (command : Event) → P (notes made n before command) → AreNo ends since
    → P (noted_by made n (since ++ command ∷ before))
since_stays P ends made n stays hears before [] command first denied =
    asked_stays P stays n (asks made before command) (noted_told n (order made before command) (notes made n before command))
    (told_stays P stays n (order made before command) (notes made n before command) first)
since_stays P ends made n stays hears before (event ∷ since) command first denied =
    let past : List Event = since ++ command ∷ before in
    let heard : P (notes made n past event) = hears past event (noted_by made n past) denied.0
    (since_stays P ends made n stays hears before since command first denied.1) in
    asked_stays P stays n (asks made past event) (noted_told n (order made past event) (notes made n past event))
    (told_stays P stays n (order made past event) (notes made n past event) heard)

-- what is to be done is told
obeyed : (made : Made) (n : ℕ) (drive : Drive) (past : List Event) (newest : Event) → n < made.count
    → to_do (notes made n past newest) ≡ drive → IsObeyed made n drive past newest
obeyed made n drive past newest lt is = record {
  told = λ other e.
      let one = order_for (heard made past newest) n other e in
      one.so ∙ sym (ap to_do ((all_seen made past newest).cabs n one.cab one.is)) ∙ is;
  track = λ done. does_by made past newest n drive lt is done;
}

pub counts : (P : Noted → Type 0) (ends : Event → Bool) (made : Made) (n : ℕ) (drive : Drive) → n < made.count → Stays P
    → ((past : List Event) (event : Event) (noted : Noted) → ends event ≡ false → P noted → P (noted_heard made n past event noted))
    → ((noted : Noted) → P noted → to_do noted ≡ drive) → (before : List Event) (command : Event) → P (notes made n before command)
    → Counts made n drive ends before command
counts P ends made n drive lt stays hears does before command first since newest denied =
    let past : List Event = since ++ command ∷ before in
    obeyed made n drive past newest lt (does (notes made n past newest) (hears past newest (noted_by made n past) denied.0
    (since_stays P ends made n stays hears before since command first denied.1)))

-- a report says this, or is awaited, or says what was told
said_keeps_of : (P : Noted → Type 0) (drive : Drive) (noted : Noted) (waits : Bool) (told : Option Drive) → P (noted_hand drive noted)
    → P noted → P (if waits then noted else option_map_or (λ told. if is_alike told drive then noted else noted_hand drive noted) told
    noted)
said_keeps_of P drive noted true told new p = p
said_keeps_of P drive noted false None new p = p
said_keeps_of P drive noted false (Some told) new p = pick P (is_alike told drive) noted (noted_hand drive noted) p new

pub said_keeps : (P : Noted → Type 0) (drive other : Drive) (known : Known) (here same : Bool) (noted : Noted)
    → (same && not (is_same other drive)) ≡ false → P (noted_hand drive noted) → P noted
    → P (if here && same then noted_said known other noted else noted)
said_keeps P drive other known false same noted denied new p = p
said_keeps P drive other known true false noted denied new p = p
said_keeps P drive other known true true noted denied new p =
    said_keeps_of P other noted (is_some known.awaited) noted.told (subst (λ (d : Drive). P (noted_hand d noted))
    (sym (same_drive other drive (not_false (is_same other drive) denied))) new) p

-- ---- it is commanded to do this

abbrev pub Does : Drive → Noted → Type 0
Does drive noted = noted.command ≡ Some drive

does_stays : (drive : Drive) → Stays (Does drive)
does_stays drive = record { told = λ noted d e. e; asked = λ noted d e. e; named = λ noted b e. e }

to_do_of : (drive : Drive) (noted : Noted) → Does drive noted → to_do noted ≡ drive
to_do_of drive noted e = ap (λ (x : Option Drive). option_map_or (λ drive. drive) x (rest noted.row)) e

on_does : (P : Noted → Type 0) (here on cut : Bool) (noted : Noted) → not on ≡ false → P noted
    → P (if here && (not on && cut) then noted_lost noted else noted)
on_does P false on cut noted denied e = e
on_does P true true cut noted denied e = e
on_does P true false cut noted denied e = absurd (cc)

does_heard : (made : Made) (n : ℕ) (drive : Drive) (past : List Event) (event : Event) (noted : Noted)
    → may_end n drive event ≡ false → Does drive noted → Does drive (noted_heard made n past event noted)
does_heard made n drive past (event.Row m other listed) noted denied e =
    pick_else (Does drive) (n == m) (noted_row other (listed || not (is_here past)) noted) noted denied e
does_heard made n drive past (event.Power on listed) noted denied e = e
does_heard made n drive past event.Greeted noted denied e = absurd (cc)
does_heard made n drive past event.Gone noted denied e = absurd (cc)
does_heard made n drive past event.Lost noted denied e = absurd (cc)
does_heard made n drive past event.StopAll noted denied e = absurd (cc)
does_heard made n drive past (event.Said m other) noted denied e =
    said_keeps (Does drive) drive other (known made n past) (is_here past) (n == m) noted denied refl e
does_heard made n drive past (event.SaidPower on) noted denied e = on_does (Does drive) (is_here past) on
    (is_told (power_noted made past).awaited true
    || (is_none (power_noted made past).awaited && is_told (power_noted made past).told true)) noted denied e
does_heard made n drive past (event.Moment now) noted denied e = pick (Does drive)
    (is_some (known made n past).awaited && has_passed confirms (known made n past).told_at now) (record noted { told = None }) noted e e
does_heard made n drive past (event.Reply true) noted denied e = e
does_heard made n drive past (event.Reply false) noted denied e = absurd (cc)
does_heard made n drive past event.Joined noted denied e = e
does_heard made n drive past event.Ready noted denied e = e

does_count : (made : Made) (n : ℕ) (drive : Drive) (before : List Event) (command : Event) → n < made.count
    → Does drive (notes made n before command) → Counts made n drive (may_end n drive) before command
does_count made n drive before command lt first = counts (Does drive) (may_end n drive) made n drive lt (does_stays drive)
    (does_heard made n drive) (to_do_of drive) before command first

-- .. so the table says that too
wanted_of : (made : Made) (past : List Event) (event : Event) (n : ℕ) (drive : Drive) (now : Cab)
    → slice_get (heard made past event).cabs n ≡ Some now → Does drive (notes made n past event) → wanted now ≡ drive
wanted_of made past event n drive now is e =
    ap to_do (sym ((all_seen made past event).cabs n now is)) ∙ to_do_of drive (notes made n past event) e

-- ---- rows

-- a row that is no answer and is not denied
row_does_of : (drive : Drive) (answer denied : Bool) (noted : Noted) → answer ≡ false → denied ≡ false
    → Does drive (if answer then noted_answer drive noted else noted_command drive denied noted)
row_does_of drive true denied noted own e = absurd (cc)
row_does_of drive false true noted own e = absurd (cc)
row_does_of drive false false noted own e = refl

pub row_does : (drive : Drive) (old : Bool) (noted : Noted) → is_answer drive noted ≡ false → is_denied drive old noted ≡ false
    → Does drive (noted_row drive old noted)
row_does drive old noted own denied = row_does_of drive (is_answer drive noted) (is_denied drive old noted) noted own denied

-- while the station is there, and it is not held
calm_of : (moving here held other : Bool) → here ≡ true → held ≡ false
    → (moving && ((false || not here) || (held && other))) ≡ false
calm_of true true false other h d = refl
calm_of true true true other h d = absurd (cc)
calm_of true false held other h d = absurd (cc)
calm_of false here held other h d = refl

pub self : (P : Noted → Type 0) (n : ℕ) (x y : Noted) → P x → P (if n == n then x else y)
self P n x y p = subst (λ (b : Bool). P (if b then x else y)) (sym (eq-eqb n n refl)) p

row_commands : (made : Made) (before : List Event) (n : ℕ) (drive : Drive) → is_here before ≡ true
    → is_answer drive (noted_by made n before) ≡ false → (noted_by made n before).is_held ≡ false
    → Does drive (notes made n before (event.Row n drive false))
row_commands made before n drive here own free =
    let noted : Noted = noted_by made n before in
    let old : Bool = false || not (is_here before) in
    self (Does drive) n (noted_row drive old noted) noted (row_does drive old noted own
    (calm_of (drives drive) (is_here before) noted.is_held (not noted.is_refused || is_same noted.row drive) here free))

pub rows_count : RowsCount
rows_count made before n drive lt here own free =
    does_count made n drive before (event.Row n drive false) lt (row_commands made before n drive here own free)

pub rows_are_wanted : RowsAreWanted
rows_are_wanted made past n drive before now here is own free now-is =
    let same : noted_by made n past ≡ seen before = (seen_by made past).cabs n before is in
    wanted_of made past (event.Row n drive false) n drive now now-is (row_commands made past n drive here
    (ap (is_answer drive) same ∙ own) (ap (λ (k : Noted). k.is_held) same ∙ free))

-- ---- hands

hand_does_of : (drive : Drive) (noted : Noted) (x y : Option Drive) → x ≡ None
    → option_map_or (λ told. is_alike told drive) y true ≡ false
    → Does drive (if is_some x then noted else option_map_or (λ told. if is_alike told drive then noted else noted_hand drive noted) y
    noted)
hand_does_of drive noted (Some a) y none differ = absurd (cc)
hand_does_of drive noted None None none differ = absurd (cc)
hand_does_of drive noted None (Some told) none differ =
    pick_else (Does drive) (is_alike told drive) noted (noted_hand drive noted) differ refl

here_does : (here same : Bool) (drive : Drive) (x y : Noted) → here ≡ true → same ≡ true → Does drive x
    → Does drive (if here && same then x else y)
here_does true true drive x y h s e = e
here_does true false drive x y h s e = absurd (cc)
here_does false same drive x y h s e = absurd (cc)

hand_commands : (made : Made) (before : List Event) (n : ℕ) (drive : Drive) → is_here before ≡ true
    → (known made n before).awaited ≡ None
    → option_map_or (λ told. is_alike told drive) (noted_by made n before).told true ≡ false
    → Does drive (notes made n before (event.Said n drive))
hand_commands made before n drive here none differ =
    let noted : Noted = noted_by made n before in
    here_does (is_here before) (n == n) drive (noted_said (known made n before) drive noted) noted here (eq-eqb n n refl)
    (hand_does_of drive noted (known made n before).awaited noted.told none differ)

pub hands_count : HandsCount
hands_count made before n drive told lt here none is differ =
    does_count made n drive before (event.Said n drive) lt (hand_commands made before n drive here none
    (ap (λ (x : Option Drive). option_map_or (λ told. is_alike told drive) x true) is ∙ differ))

pub hands_are_wanted : HandsAreWanted
hands_are_wanted made past n drive before now here is none differ now-is =
    wanted_of made past (event.Said n drive) n drive now now-is (hand_commands made past n drive here
    (((agrees made past).known n before is).awaited ∙ none)
    (ap (λ (k : Noted). option_map_or (λ told. is_alike told drive) k.told true) ((seen_by made past).cabs n before is) ∙ differ))
