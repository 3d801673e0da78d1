-- What each line tells.
use Rattle.std.specs.Prelude.{◌≡◌, ℕ, Bool, true, false, ◌||◌, ◌==◌, List, [], ◌∷◌, Option, Some, None}
use Rattle.std.specs.Prelude.{codes, if◌then◌else◌}
use Rattle.std.specs.List.{after_first, before_first}
use Rattle.std.specs.Option.{option_map, option_map_or}
use Rattle.std.specs.Str.{bytes_eq}
use Rattle.srcp_text.specs.Words.{plain_number_of, words_of}
use Rattle.srcp_info.specs.Limits.{greatest_u64}
use Rattle.srcp_info.specs.Read.{Reads}
use Rattle.srcp_info.specs.declared.change.Change.{Change}
use Rattle.srcp_stations.specs.Said.{Reads as ReadsSaid}
use Rattle.srcp_stations.specs.declared.said.Said.{Said}
use Rattle.srcp_drive.specs.declared.hearing.Heard.{Heard}
use Rattle.srcp_drive.specs.declared.hearing.Heard.TheVariants as tells
use Rattle.srcp_drive.specs.declared.hearing.Mark.{Mark}
use Rattle.srcp_drive.specs.declared.hearing.Mark.TheVariants as mark

-- ---- whose line it is

abbrev pub is_space : ℕ → Bool
is_space byte = byte == 32

-- what stands before the first space, and what stands behind it
abbrev pub mark_in : List ℕ → List ℕ
mark_in line = before_first is_space line

abbrev pub text_in : List ℕ → List ℕ
text_in line = after_first is_space line

-- whose lines begin with a word
abbrev pub mark_named : List ℕ → Mark
mark_named word =
    if bytes_eq word (codes "panel") then mark.Panel else
    if bytes_eq word (codes "reply") then mark.Reply else
    if bytes_eq word (codes "station") then mark.Station else
    if bytes_eq word (codes "moment") then mark.Moment else
    if bytes_eq word (codes "gone") then mark.Gone else
    if bytes_eq word (codes "away") then mark.Away else
    if bytes_eq word (codes "ready") then mark.Ready else
    mark.Other

-- ---- replies

-- `OK GO` and an id: a session has begun
abbrev pub is_go : List (List ℕ) → Bool
is_go (ok ∷ go ∷ id ∷ []) = bytes_eq go (codes "GO")
is_go other = false

-- a code from 400 to 599
abbrev pub is_refusal : List ℕ → Bool
is_refusal (c ∷ code) = (c == 52) || (c == 53)
is_refusal [] = false

-- what follows the stamp of a reply: 200 accepts or begins a session, and a code from 400 on refuses
abbrev pub coded : (code : List ℕ) → (more : List (List ℕ)) → Option Heard
coded code more =
    if bytes_eq code (codes "200") then Some (if is_go more then tells.Joined else tells.Replied true)
    else (if is_refusal code then Some (tells.Replied false) else None)

-- what a reply tells, by its words
abbrev pub reply_heard : List (List ℕ) → Option Heard
reply_heard (stamp ∷ code ∷ more) = coded code more
reply_heard other = None

-- ---- the other lines

-- a session of the panel begins as one of commands does
abbrev pub listing : Option Heard → Option Heard
listing (Some tells.Joined) = Some tells.Lists
listing other = None

-- a line of a panel is that of a change, or the reply with which the panel's session begins
pub record HearsPanel (text : List ℕ) (told : Option Heard) : Type 0 where
  pub change : Option Change
  pub reads : Reads text change
  pub same : told ≡ option_map_or (λ change. Some (tells.Changed change)) change (listing (reply_heard (words_of text)))

-- a message of the station
pub record HearsStation (text : List ℕ) (told : Option Heard) : Type 0 where
  pub said : Option Said
  pub reads : ReadsSaid text said
  pub same : told ≡ option_map tells.Says said

-- a number of milliseconds
abbrev pub moment_heard : List ℕ → Option Heard
moment_heard text = option_map tells.Moment (plain_number_of greatest_u64 text)

-- a line of this mark, with this text behind it, tells this, or nothing
abbrev pub HearsMarked : Mark → List ℕ → Option Heard → Type 0
HearsMarked mark.Panel text told = HearsPanel text told
HearsMarked mark.Reply text told = told ≡ reply_heard (words_of text)
HearsMarked mark.Station text told = HearsStation text told
HearsMarked mark.Moment text told = told ≡ moment_heard text
HearsMarked mark.Gone text told = told ≡ Some tells.Gone
HearsMarked mark.Away text told = told ≡ Some tells.Away
HearsMarked mark.Ready text told = told ≡ Some tells.Ready
HearsMarked mark.Other text told = told ≡ None

-- a line tells this, or nothing
abbrev pub Hears : List ℕ → Option Heard → Type 0
Hears line told = HearsMarked (mark_named (mark_in line)) (text_in line) told
