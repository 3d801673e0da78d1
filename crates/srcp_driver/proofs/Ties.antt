-- What is known of each locomotive by events and orders alone is what the table says.
use Rattle.std.proofs.Common.{◌&&◌, ◌==◌, ap, Bool, false, inl, inr, None, not, Option, refl, Some, subst, sym, true, ℕ, ◌∙◌, ◌≡◌, ◌⊎◌}
use Rattle.std.specs.Option.{option_map_or}
use Rattle.std.specs.Prelude.{if◌then◌else◌, ◌||◌}
use Rattle.srcp_driver.specs.Cabs.{aged, asked, forgotten, handed, held, is_due, is_no_command, is_own, is_silent, named, refused, reported}
use Rattle.srcp_driver.specs.Cabs.{told, with_answer, with_command, with_row}
use Rattle.srcp_driver.specs.Drives.{drives, is_alike, is_same, is_same_way}
use Rattle.srcp_driver.specs.Powers.{is_cut}
use Rattle.srcp_driver.specs.Runs.{Known, known_heard, known_ordered, known_said, known_told}
use Rattle.srcp_driver.specs.Steps.{Table}
use Rattle.srcp_driver.specs.declared.cab.Cab.{Cab}
use Rattle.srcp_driver.specs.declared.drive.Drive.{Drive}
use Rattle.srcp_driver.specs.declared.event.Event.{Event}
use Rattle.srcp_driver.specs.declared.event.Put.{Put}
use Rattle.srcp_driver.specs.declared.event.Tell.{Tell}
use Rattle.srcp_driver.specs.declared.event.Event.TheVariants as event
use Rattle.srcp_driver.specs.declared.event.Put.TheVariants as put
use Rattle.srcp_driver.specs.declared.event.Tell.TheVariants as tell
use Rattle.srcp_driver.proofs.Each.{cab_heard, cab_ordered, cab_refused}
use Rattle.srcp_driver.proofs.Same.{pick, picks}

-- what the table says of a locomotive, unless that may be lost, is known
pub record Tied (known : Known) (cab : Cab) : Type 0 where
  pub does : (cab.told ≡ None) ⊎ (known.does ≡ cab.told)
  pub awaited : known.awaited ≡ cab.awaited
  pub told_at : known.told_at ≡ cab.told_at
  pub since : known.since ≡ cab.since

lost : (k : Known) (cab : Cab) → Tied k cab → Tied k (held cab)
lost k cab e = record { does = inl refl; awaited = e.awaited; told_at = e.told_at; since = e.since }

begun : (k : Known) (cab : Cab) → Tied k cab → Tied (record k { does = None; awaited = None }) (forgotten cab)
begun k cab e = record { does = inl refl; awaited = refl; told_at = e.told_at; since = e.since }

-- a row that rests leaves what was told, or forgets it
row_does : (b : Bool) (does told : Option Drive) → (told ≡ None) ⊎ (does ≡ told)
    → ((if b then told else None) ≡ None) ⊎ (does ≡ (if b then told else None))
row_does true does told e = e
row_does false does told e = inl refl

row_tied : (drive : Drive) (old : Bool) (k : Known) (cab : Cab) → Tied k cab → Tied k (with_row drive old cab)
row_tied drive old k cab e = pick (Tied k) (is_own cab.asked drive)
    (with_answer drive cab) (with_command drive (is_no_command drive old cab) cab)
    (record { does = e.does; awaited = e.awaited; told_at = e.told_at; since = e.since })
    (record { does = row_does (drives drive) k.does cab.told e.does; awaited = e.awaited; told_at = e.told_at; since = e.since })

aged_tied : (now : ℕ) (k : Known) (cab : Cab) → Tied k cab → Tied k (aged now cab)
aged_tied now k cab e = pick (Tied k) (is_due now cab) (record cab { told = None; is_late = true }) cab
    (record { does = inl refl; awaited = e.awaited; told_at = e.told_at; since = e.since }) e

-- a report while nothing is awaited
abbrev hand_known : Drive → Known → Option Drive → Known
hand_known drive k does =
    option_map_or (λ does. if is_alike does drive then k else record k { does = Some drive }) does k

none_known : (drive : Drive) (k : Known) (cab : Cab) (does : Option Drive) → cab.told ≡ None → Tied k cab
    → Tied (hand_known drive k does) cab
none_known drive k cab None none e = e
none_known drive k cab (Some x) none e = pick (λ (k : Known). Tied k cab) (is_alike x drive) k (record k { does = Some drive }) e
    (record { does = inl none; awaited = e.awaited; told_at = e.told_at; since = e.since })

hand_of : (drive : Drive) (k : Known) (cab : Cab) (told : Option Drive) → cab.told ≡ told → Tied k cab
    → Tied (hand_known drive k k.does)
    (option_map_or (λ told. if is_alike told drive then cab else handed drive cab) told cab)
hand_of drive k cab None is e = none_known drive k cab k.does is e
hand_of drive k cab (Some x) is e = elim e.does [
  | inl none ↦ let denied : Some x ≡ None = sym is ∙ none in absurd (cc)
  | inr same ↦ subst (λ (does : Option Drive). Tied (hand_known drive k does)
      (if is_alike x drive then cab else handed drive cab)) (sym (same ∙ is))
      (picks Tied (is_alike x drive) k (record k { does = Some drive }) cab (handed drive cab) e
      (record { does = inr refl; awaited = e.awaited; told_at = e.told_at; since = e.since }))
]

said_of : (drive : Drive) (k : Known) (cab : Cab) (x : Option Drive) → k.awaited ≡ x → cab.awaited ≡ x → Tied k cab
    → Tied (option_map_or (λ told. if is_same told drive then record k { awaited = None } else k) x (hand_known drive k k.does))
    (option_map_or (λ told. if is_same told drive then record cab { awaited = None; is_late = false } else cab) x
    (option_map_or (λ told. if is_alike told drive then cab else handed drive cab) cab.told cab))
said_of drive k cab None k-is is e = hand_of drive k cab cab.told refl e
said_of drive k cab (Some x) k-is is e = picks Tied (is_same x drive) (record k { awaited = None }) k
    (record cab { awaited = None; is_late = false }) cab
    (record { does = e.does; awaited = refl; told_at = e.told_at; since = e.since }) e

said_tied : (drive : Drive) (k : Known) (cab : Cab) → Tied k cab → Tied (known_said drive k) (reported drive cab)
said_tied drive k cab e =
    subst (λ (x : Option Drive). Tied
    (option_map_or (λ told. if is_same told drive then record k { awaited = None } else k) x (hand_known drive k k.does))
    (reported drive cab)) (sym e.awaited) (said_of drive k cab cab.awaited e.awaited refl e)

at_tied : (here same : Bool) (drive : Drive) (k : Known) (cab : Cab) → Tied k cab
    → Tied (if here && same then known_said drive k else k) (if here then (if same then reported drive cab else cab) else cab)
at_tied true same drive k cab e = picks Tied same (known_said drive k) k (reported drive cab) cab (said_tied drive k cab e) e
at_tied false same drive k cab e = e

cut_tied : (here cut : Bool) (k : Known) (cab : Cab) → Tied k cab
    → Tied k (if here then (if cut then held cab else cab) else cab)
cut_tied true cut k cab e = pick (Tied k) cut (held cab) cab (lost k cab e) e
cut_tied false cut k cab e = e

refused_tied : (x : Option Put) (n : ℕ) (k : Known) (cab : Cab) → Tied k cab
    → Tied k (option_map_or (λ order. cab_refused order n cab) x cab)
refused_tied None n k cab e = e
refused_tied (Some (put.Power on)) n k cab e = e
refused_tied (Some (put.Silent m is_silent)) n k cab e = e
refused_tied (Some (put.Cab m drive)) n k cab e = pick (Tied k) (n == m) (refused drive cab) cab
    (record { does = e.does; awaited = e.awaited; told_at = e.told_at; since = e.since }) e

pub heard_tied : (t : Table) (event : Event) (here : Bool) (n : ℕ) (k : Known) (cab : Cab) → here ≡ t.is_here
    → Tied k cab → Tied (known_heard n here event k) (cab_heard t event n cab)
heard_tied t (event.Row m drive listed) here n k cab is e =
    pick (Tied k) (n == m) (with_row drive (listed || not t.is_here) cab) cab (row_tied drive (listed || not t.is_here) k cab e) e
heard_tied t (event.Power on listed) here n k cab is e = e
heard_tied t event.Greeted here n k cab is e = begun k cab e
heard_tied t event.Gone here n k cab is e = begun k cab e
heard_tied t event.Lost here n k cab is e = lost k cab e
heard_tied t event.StopAll here n k cab is e = lost k cab e
heard_tied t (event.Said m drive) here n k cab is e =
    subst (λ (b : Bool). Tied (if here && (n == m) then known_said drive k else k)
    (if b then (if n == m then reported drive cab else cab) else cab)) is (at_tied here (n == m) drive k cab e)
heard_tied t (event.SaidPower on) here n k cab is e = cut_tied t.is_here (is_cut on t.power) k cab e
heard_tied t (event.Moment now) here n k cab is e = aged_tied now k cab e
heard_tied t (event.Reply true) here n k cab is e = e
heard_tied t (event.Reply false) here n k cab is e = refused_tied t.waiting n k cab e
heard_tied t event.Joined here n k cab is e =
    record { does = e.does; awaited = e.awaited; told_at = e.told_at; since = e.since }
heard_tied t event.Ready here n k cab is e = e

since_of : (drive : Drive) (now : ℕ) (k : Known) (cab : Cab) → Tied k cab
    → option_map_or (λ told. if is_same_way (drives told) (drives drive) then k.since else now) k.awaited now
    ≡ option_map_or (λ told. if is_same_way (drives told) (drives drive) then cab.since else now) cab.awaited now
since_of drive now k cab e =
    ap (λ (x : Option Drive). option_map_or (λ told. if is_same_way (drives told) (drives drive) then k.since else now) x now)
    e.awaited
    ∙ ap (λ (since : ℕ). option_map_or (λ told. if is_same_way (drives told) (drives drive) then since else now) cab.awaited now)
    e.since

told_tied : (drive : Drive) (now : ℕ) (k : Known) (cab : Cab) → Tied k cab → Tied (known_told now drive k) (told drive now cab)
told_tied drive now k cab e =
    record { does = inr refl; awaited = refl; told_at = refl; since = since_of drive now k cab e }

pub ordered_tied : (t : Table) (x : Option Tell) (now n : ℕ) (k : Known) (cab : Cab) → now ≡ t.clock → Tied k cab
    → Tied (known_ordered n now x k) (cab_ordered t x n cab)
ordered_tied t None now n k cab is e = e
ordered_tied t (Some tell.StopAll) now n k cab is e = e
ordered_tied t (Some (tell.Power on)) now n k cab is e = e
ordered_tied t (Some (tell.Cab m drive)) now n k cab is e =
    picks Tied (n == m) (known_told now drive k) k (told drive t.clock cab) cab
    (subst (λ (at : ℕ). Tied (known_told now drive k) (told drive at cab)) is (told_tied drive now k cab e)) e

pub asked_tied : (k : Known) (drive : Drive) (cab : Cab) → Tied k cab → Tied k (asked drive cab)
asked_tied k drive cab e = record { does = e.does; awaited = e.awaited; told_at = e.told_at; since = e.since }

pub named_tied : (k : Known) (is_silent : Bool) (cab : Cab) → Tied k cab → Tied k (named is_silent cab)
named_tied k is_silent cab e = record { does = e.does; awaited = e.awaited; told_at = e.told_at; since = e.since }
