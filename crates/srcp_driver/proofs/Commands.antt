-- What the table has as commanded was commanded by an event since the last loss.
use Rattle.std.proofs.Common.{◌&&◌, ◌==◌, [], ap, Bool, false, List, None, not, Option, refl, Some, sym, true, ℕ, ◌∙◌, ◌∷◌, ◌≡◌}
use Rattle.std.specs.Option.{option_map_or}
use Rattle.std.specs.Prelude.{if◌then◌else◌, ◌||◌}
use Rattle.srcp_driver.specs.Cabs.{aged, asked, handed, held, is_due, is_kept, is_no_command, is_own, is_silent, refused, reported, told}
use Rattle.srcp_driver.specs.Cabs.{wanted, with_answer, with_command, with_row}
use Rattle.srcp_driver.specs.Drives.{drives, is_alike, is_same, is_value, rest}
use Rattle.srcp_driver.specs.Powers.{is_cut}
use Rattle.srcp_driver.specs.Runs.{course, heard, is_commanded, Made, rests}
use Rattle.srcp_driver.specs.Steps.{after, happens, next, next_put, Table, tells}
use Rattle.srcp_driver.specs.declared.cab.Cab.{Cab}
use Rattle.srcp_driver.specs.declared.drive.Drive.{Drive}
use Rattle.srcp_driver.specs.declared.event.Event.{Event}
use Rattle.srcp_driver.specs.declared.event.Put.{Put}
use Rattle.srcp_driver.specs.declared.event.Tell.{Tell}
use Rattle.srcp_driver.specs.declared.event.Event.TheVariants as event
use Rattle.srcp_driver.specs.declared.event.Put.TheVariants as put
use Rattle.srcp_driver.specs.declared.event.Tell.TheVariants as tell
use Rattle.srcp_driver.proofs.Agree.{blanks}
use Rattle.srcp_driver.proofs.Each.{cab_heard, cab_ordered, cab_refused, Each, each_heard, each_ordered, each_put_keeps, Makes}
use Rattle.srcp_driver.proofs.Same.{both, drive_same, or_left, or_right, pick, rest_rests}

-- ---- what leaves the command as it is

-- an order to the station leaves what speaks of the command
pub ordered_keeps : (P : Option Drive → Type 0) (t : Table) (x : Option Tell) (n : ℕ) (cab : Cab) → P cab.command
    → P (cab_ordered t x n cab).command
ordered_keeps P t None n cab p = p
ordered_keeps P t (Some tell.StopAll) n cab p = p
ordered_keeps P t (Some (tell.Power on)) n cab p = p
ordered_keeps P t (Some (tell.Cab m drive)) n cab p =
    pick (λ (cab : Cab). P cab.command) (n == m) (told drive t.clock cab) cab p p

after_each : (P Q : ℕ → Option Drive → Type 0) (t : Table) (event : Event)
    → Makes (λ n cab. P n cab.command) (λ n cab. Q n cab.command) t.cabs (cab_heard t event)
    → Each (λ n cab. P n cab.command) t.cabs → Each (λ n cab. Q n cab.command) (after t event).cabs
after_each P Q t event keeps all =
    let heard = each_heard (λ n cab. P n cab.command) (λ n cab. Q n cab.command) t event keeps all in
    let told = each_ordered (λ n cab. Q n cab.command) (λ n cab. Q n cab.command) (happens t event) (next (happens t event))
    (λ n cab is q. ordered_keeps (Q n) (happens t event) (next (happens t event)) n cab q) heard in
    each_put_keeps (λ n cab. Q n cab.command) (tells (happens t event)) (next_put (tells (happens t event)))
    (λ n drive cab q. q) (λ n is_silent cab q. q) told

pub power_keeps : (P Q : Option Drive → Type 0) (here cut : Bool) (cab : Cab) → ((x : Option Drive) → P x → Q x) → Q None
    → P cab.command → Q (if here then (if cut then held cab else cab) else cab).command
power_keeps P Q true true cab same none p = none
power_keeps P Q true false cab same none p = same cab.command p
power_keeps P Q false cut cab same none p = same cab.command p

value_keeps : (P Q : Option Drive → Type 0) (b : Bool) (x : Option Drive) → ((x : Option Drive) → P x → Q x) → Q None → P x
    → Q (if b then None else x)
value_keeps P Q true x same none p = none
value_keeps P Q false x same none p = same x p

pub refused_keeps : (P Q : Option Drive → Type 0) (x : Option Put) (n : ℕ) (cab : Cab) → ((x : Option Drive) → P x → Q x) → Q None
    → P cab.command → Q (option_map_or (λ order. cab_refused order n cab) x cab).command
refused_keeps P Q None n cab same none p = same cab.command p
refused_keeps P Q (Some (put.Power on)) n cab same none p = same cab.command p
refused_keeps P Q (Some (put.Silent m is_silent)) n cab same none p = same cab.command p
refused_keeps P Q (Some (put.Cab m drive)) n cab same none p = pick (λ (cab : Cab). Q cab.command) (n == m) (refused drive cab) cab
    (value_keeps P Q (is_value cab.command drive) cab.command same none p) (same cab.command p)

pub aged_keeps : (Q : Option Drive → Type 0) (now : ℕ) (cab : Cab) → Q cab.command → Q (aged now cab).command
aged_keeps Q now cab q = pick (λ (cab : Cab). Q cab.command) (is_due now cab) (record cab { told = None; is_late = true }) cab q q

-- a report: the command stays, or is what the station reports
hand_of : (Q : Option Drive → Type 0) (drive : Drive) (cab : Cab) (x y : Option Drive) → Q cab.command → Q (Some drive)
    → Q (option_map_or (λ told. if is_same told drive then record cab { awaited = None; is_late = false } else cab) x
    (option_map_or (λ told. if is_alike told drive then cab else handed drive cab) y cab)).command
hand_of Q drive cab (Some a) y same new = pick (λ (cab : Cab). Q cab.command) (is_same a drive)
    (record cab { awaited = None; is_late = false }) cab same same
hand_of Q drive cab None (Some x) same new =
    pick (λ (cab : Cab). Q cab.command) (is_alike x drive) cab (handed drive cab) same new
hand_of Q drive cab None None same new = same

said_keeps : (Q : Option Drive → Type 0) (here b : Bool) (drive : Drive) (cab : Cab) → Q cab.command → (b ≡ true → Q (Some drive))
    → Q (if here then (if b then reported drive cab else cab) else cab).command
said_keeps Q true true drive cab same new = hand_of Q drive cab cab.awaited cab.told same (new refl)
said_keeps Q true false drive cab same new = same
said_keeps Q false b drive cab same new = same

-- a row: the command stays, is none, or is what the row says, if it rests or is a command
row_of : (Q : Option Drive → Type 0) (drive : Drive) (old own denied : Bool) (cab : Cab) → (own ≡ true → Q cab.command)
    → Q None → (denied ≡ false → Q (Some drive))
    → Q (if own then with_answer drive cab else with_command drive denied cab).command
row_of Q drive old true denied cab same none new = same refl
row_of Q drive old false true cab same none new = none
row_of Q drive old false false cab same none new = new refl

row_keeps : (Q : Option Drive → Type 0) (b : Bool) (drive : Drive) (old : Bool) (cab : Cab) → (b ≡ false → Q cab.command)
    → (b ≡ true → is_own cab.asked drive ≡ true → Q cab.command) → (b ≡ true → Q None)
    → (b ≡ true → is_no_command drive old cab ≡ false → Q (Some drive)) → Q (if b then with_row drive old cab else cab).command
row_keeps Q true drive old cab other own none new =
    row_of Q drive old (is_own cab.asked drive) (is_no_command drive old cab) cab (own refl) (none refl) (new refl)
row_keeps Q false drive old cab other own none new = other refl

-- ---- a command to drive is one of an event

abbrev IsCommanded : List Event → ℕ → Option Drive → Type 0
IsCommanded past n command = (drive : Drive) → command ≡ Some drive → drives drive ≡ true → is_commanded n drive past ≡ true

none_commanded : (past : List Event) (n : ℕ) → IsCommanded past n None
none_commanded past n drive e moves = absurd (cc)

-- a row that drives and counts is not listed
new_of : (moving listed away kept : Bool) → moving ≡ true → (moving && ((listed || away) || kept)) ≡ false → not listed ≡ true
new_of true false away kept m e = refl
new_of true true away kept m e = absurd (cc)
new_of false listed away kept m e = absurd (cc)

says_row : (same listed new : Bool) → same ≡ true → not listed ≡ true → new ≡ true → (same && not listed && new) ≡ true
says_row true false true s l n = refl
says_row true true new s l n = absurd (cc)
says_row true false false s l n = absurd (cc)
says_row false listed new s l n = absurd (cc)

says_said : (same new : Bool) → same ≡ true → new ≡ true → (same && new) ≡ true
says_said true true s n = refl
says_said true false s n = absurd (cc)
says_said false new s n = absurd (cc)

row_commanded : (t : Table) (past : List Event) (m : ℕ) (drive : Drive) (listed : Bool) (n : ℕ) (cab : Cab)
    → IsCommanded past n cab.command
    → IsCommanded (event.Row m drive listed ∷ past) n (cab_heard t (event.Row m drive listed) n cab).command
row_commanded t past m drive listed n cab e =
    let older : IsCommanded (event.Row m drive listed ∷ past) n cab.command = λ d is moving.
    or_right ((n == m) && not listed && is_same drive d) (is_commanded n d past) (e d is moving) in
    row_keeps (IsCommanded (event.Row m drive listed ∷ past) n) (n == m) drive (listed || not t.is_here) cab
    (λ b. older) (λ b own. older) (λ b. none_commanded (event.Row m drive listed ∷ past) n)
    (λ b denied d is moving.
    let same : drive ≡ d = cc in
    or_left ((n == m) && not listed && is_same drive d) (is_commanded n d past) (says_row (n == m) listed (is_same drive d) b
    (new_of (drives drive) listed (not t.is_here) (is_kept drive cab) (ap drives same ∙ moving) denied)
    (ap (is_same drive) (sym same) ∙ drive_same drive)))

said_commanded : (t : Table) (past : List Event) (m : ℕ) (drive : Drive) (n : ℕ) (cab : Cab) → IsCommanded past n cab.command
    → IsCommanded (event.Said m drive ∷ past) n (cab_heard t (event.Said m drive) n cab).command
said_commanded t past m drive n cab e =
    said_keeps (IsCommanded (event.Said m drive ∷ past) n) t.is_here (n == m) drive cab
    (λ d is moving. or_right ((n == m) && is_same drive d) (is_commanded n d past) (e d is moving))
    (λ b d is moving.
    let same : drive ≡ d = cc in
    or_left ((n == m) && is_same drive d) (is_commanded n d past)
    (says_said (n == m) (is_same drive d) b (ap (is_same drive) (sym same) ∙ drive_same drive)))

heard_commanded : (t : Table) (past : List Event) (event : Event)
    → Makes (λ n cab. IsCommanded past n cab.command) (λ n cab. IsCommanded (event ∷ past) n cab.command) t.cabs (cab_heard t event)
heard_commanded t past (event.Row m drive listed) n cab is e = row_commanded t past m drive listed n cab e
heard_commanded t past (event.Power on listed) n cab is e = e
heard_commanded t past event.Greeted n cab is e = none_commanded (event.Greeted ∷ past) n
heard_commanded t past event.Gone n cab is e = none_commanded (event.Gone ∷ past) n
heard_commanded t past event.Lost n cab is e = none_commanded (event.Lost ∷ past) n
heard_commanded t past event.StopAll n cab is e = none_commanded (event.StopAll ∷ past) n
heard_commanded t past (event.Said m drive) n cab is e = said_commanded t past m drive n cab e
heard_commanded t past (event.SaidPower on) n cab is e = power_keeps (IsCommanded past n)
    (IsCommanded (event.SaidPower on ∷ past) n) t.is_here (is_cut on t.power) cab (λ x p. p)
    (none_commanded (event.SaidPower on ∷ past) n) e
heard_commanded t past (event.Moment now) n cab is e = aged_keeps (IsCommanded (event.Moment now ∷ past) n) now cab e
heard_commanded t past (event.Reply true) n cab is e = e
heard_commanded t past (event.Reply false) n cab is e = refused_keeps (IsCommanded past n)
    (IsCommanded (event.Reply false ∷ past) n) t.waiting n cab (λ x p. p) (none_commanded (event.Reply false ∷ past) n) e
heard_commanded t past event.Joined n cab is e = e
heard_commanded t past event.Ready n cab is e = e

commanded : (made : Made) (past : List Event) → Each (λ n cab. IsCommanded past n cab.command) (course made past).cabs
commanded made [] = blanks (λ n cab. IsCommanded [] n cab.command) (λ n. none_commanded [] n) made.count
commanded made (event ∷ past) = after_each (IsCommanded past) (IsCommanded (event ∷ past)) (course made past) event
    (heard_commanded (course made past) past event) (commanded made past)

pub all_commanded : (made : Made) (past : List Event) (event : Event)
    → Each (λ n cab. IsCommanded (event ∷ past) n cab.command) (heard made past event).cabs
all_commanded made past event = each_heard (λ n cab. IsCommanded past n cab.command)
    (λ n cab. IsCommanded (event ∷ past) n cab.command) (course made past) event
    (heard_commanded (course made past) past event) (commanded made past)

-- ---- what is to rest by events alone is not commanded to drive

-- a command, if there is one, has it rest
abbrev pub IsRest : Option Drive → Type 0
IsRest command = option_map_or drives command false ≡ false

abbrev Rests : List Event → ℕ → Option Drive → Type 0
Rests past n command = rests n past ≡ true → IsRest command

-- of a row of this locomotive: only one that rests leaves it at rest
row_rests_of : (same moving : Bool) (past : Bool) → same ≡ true
    → option_map_or not (if same then Some moving else None) past ≡ true → moving ≡ false
row_rests_of true true past s e = absurd (cc)
row_rests_of true false past s e = refl
row_rests_of false moving past s e = absurd (cc)

other_rests_of : (same moving past : Bool) → same ≡ false
    → option_map_or not (if same then Some moving else None) past ≡ true → past ≡ true
other_rests_of true moving past s e = absurd (cc)
other_rests_of false moving past s e = e

own_moves : (drive : Drive) (asked : Option Drive) → is_own asked drive ≡ true → drives drive ≡ true
own_moves drive asked e = (both (drives drive) (is_value asked drive) e).left

row_rests : (t : Table) (past : List Event) (m : ℕ) (drive : Drive) (listed : Bool) (n : ℕ) (cab : Cab) → Rests past n cab.command
    → Rests (event.Row m drive listed ∷ past) n (cab_heard t (event.Row m drive listed) n cab).command
row_rests t past m drive listed n cab e =
    row_keeps (Rests (event.Row m drive listed ∷ past) n) (n == m) drive (listed || not t.is_here) cab
    (λ b still. e (other_rests_of (n == m) (drives drive) (rests n past) b still))
    (λ b own still.
    let denied : drives drive ≡ false = row_rests_of (n == m) (drives drive) (rests n past) b still in
    let yes : drives drive ≡ true = own_moves drive cab.asked own in absurd (cc))
    (λ b still. refl)
    (λ b denied still. row_rests_of (n == m) (drives drive) (rests n past) b still)

-- a report that it drives leaves nothing said; one that it rests has it rest
said_rests_of : (same moving past : Bool)
    → option_map_or not (if same && moving then Some true else None) past ≡ true → same ≡ true → moving ≡ false
said_rests_of true true past e s = absurd (cc)
said_rests_of true false past e s = refl
said_rests_of false moving past e s = absurd (cc)

said_past : (b past : Bool) → option_map_or not (if b then Some true else None) past ≡ true → past ≡ true
said_past true past e = absurd (cc)
said_past false past e = e

said_rests : (t : Table) (past : List Event) (m : ℕ) (drive : Drive) (n : ℕ) (cab : Cab) → Rests past n cab.command
    → Rests (event.Said m drive ∷ past) n (cab_heard t (event.Said m drive) n cab).command
said_rests t past m drive n cab e = said_keeps (Rests (event.Said m drive ∷ past) n) t.is_here (n == m) drive cab
    (λ still. e (said_past ((n == m) && drives drive) (rests n past) still))
    (λ b still. said_rests_of (n == m) (drives drive) (rests n past) still b)

heard_rests : (t : Table) (past : List Event) (event : Event)
    → Makes (λ n cab. Rests past n cab.command) (λ n cab. Rests (event ∷ past) n cab.command) t.cabs (cab_heard t event)
heard_rests t past (event.Row m drive listed) n cab is e = row_rests t past m drive listed n cab e
heard_rests t past (event.Power on listed) n cab is e = e
heard_rests t past event.Greeted n cab is e = λ still. refl
heard_rests t past event.Gone n cab is e = λ still. refl
heard_rests t past event.Lost n cab is e = λ still. refl
heard_rests t past event.StopAll n cab is e = λ still. refl
heard_rests t past (event.Said m drive) n cab is e = said_rests t past m drive n cab e
heard_rests t past (event.SaidPower on) n cab is e =
    power_keeps (Rests past n) (Rests past n) t.is_here (is_cut on t.power) cab (λ x p. p) (λ still. refl) e
heard_rests t past (event.Moment now) n cab is e = aged_keeps (Rests past n) now cab e
heard_rests t past (event.Reply true) n cab is e = e
heard_rests t past (event.Reply false) n cab is e =
    refused_keeps (Rests past n) (Rests past n) t.waiting n cab (λ x p. p) (λ still. refl) e
heard_rests t past event.Joined n cab is e = e
heard_rests t past event.Ready n cab is e = e

resting : (made : Made) (past : List Event) → Each (λ n cab. Rests past n cab.command) (course made past).cabs
resting made [] = blanks (λ n cab. Rests [] n cab.command) (λ n still. refl) made.count
resting made (event ∷ past) = after_each (Rests past) (Rests (event ∷ past)) (course made past) event
    (heard_rests (course made past) past event) (resting made past)

pub all_resting : (made : Made) (past : List Event) (event : Event)
    → Each (λ n cab. Rests (event ∷ past) n cab.command) (heard made past event).cabs
all_resting made past event = each_heard (λ n cab. Rests past n cab.command) (λ n cab. Rests (event ∷ past) n cab.command)
    (course made past) event (heard_rests (course made past) past event) (resting made past)

-- ---- what is wanted of it

rests_of : (row : Drive) (command : Option Drive) → IsRest command
    → drives (option_map_or (λ drive. drive) command (rest row)) ≡ false
rests_of row None e = rest_rests row
rests_of row (Some drive) e = e

pub wanted_rests : (cab : Cab) → IsRest cab.command → drives (wanted cab) ≡ false
wanted_rests cab e = rests_of cab.row cab.command e

-- what drives is commanded: a row that is not rests
wanted_row : (row : Drive) (command : Option Drive) → drives (option_map_or (λ drive. drive) command (rest row)) ≡ true
    → command ≡ Some (option_map_or (λ drive. drive) command (rest row))
wanted_row row None e = let denied : drives (rest row) ≡ false = rest_rests row in absurd (cc)
wanted_row row (Some drive) e = refl

pub cab_commanded : (cab : Cab) → drives (wanted cab) ≡ true → cab.command ≡ Some (wanted cab)
cab_commanded cab e = wanted_row cab.row cab.command e
