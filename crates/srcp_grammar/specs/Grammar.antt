-- How a line is read as a command of the layout, or refused by the line's first fault.
use Rattle.std.specs.Prelude.{ℕ, codes, ◌-◌, Bool, true, false, ◌||◌, ◌==◌, nat_lt, nat_le, if◌then◌else◌, List, []}
use Rattle.std.specs.Prelude.{◌∷◌, length, find, Option, Some, None, Result, Ok, Err}
use Rattle.std.specs.List.{join_with_byte}
use Rattle.std.specs.Option.{ok_or, option_map, option_and_then}
use Rattle.std.specs.Str.{bytes_eq}
use Rattle.srcp_info.specs.declared.change.Code.{Code}
use Rattle.srcp_info.specs.declared.change.Code.TheVariants.{C410, C412, C418, C419, C420, C421, C422, C423}
use Rattle.srcp_info.specs.declared.value.Letter.{Letter}
use Rattle.srcp_info.specs.declared.value.Letter.TheVariants.{N, M, S, P}
use Rattle.srcp_info.specs.Limits.{greatest_bus, greatest_version, greatest_speed, greatest_id, most_steps}
use Rattle.srcp_info.specs.Limits.{emergency_stop, most_functions, most_milliseconds, most_seconds}
use Rattle.srcp_info.specs.WellFormed.{is_text}
use Rattle.srcp_text.specs.Words.{words_of, number_of, is_keyword}
use Rattle.srcp_grammar.specs.declared.layout.Bus.{Bus}
use Rattle.srcp_grammar.specs.declared.command.Operation.{Operation}
use Rattle.srcp_grammar.specs.declared.command.Operation.TheVariants.{Get, Set, Check, Init, Term, Wait, Verify, Reset}
use Rattle.srcp_grammar.specs.declared.command.CommandGroup.{CommandGroup}
use Rattle.srcp_grammar.specs.declared.command.CommandGroup.TheVariants.{Session, Power, Gl, Ga, Fb, Lock}
use Rattle.srcp_grammar.specs.declared.command.DeviceGroup.{DeviceGroup}
use Rattle.srcp_grammar.specs.declared.command.DeviceGroup.TheVariants as devices
use Rattle.srcp_grammar.specs.declared.command.Target.{Target}
use Rattle.srcp_grammar.specs.declared.command.Drive.{Drive}
use Rattle.srcp_grammar.specs.declared.command.Switch.{Switch}
use Rattle.srcp_grammar.specs.declared.command.PowerSwitch.{PowerSwitch}
use Rattle.srcp_grammar.specs.declared.command.Sensor.{Sensor}
use Rattle.srcp_grammar.specs.declared.command.TimedLock.{TimedLock}
use Rattle.srcp_grammar.specs.declared.command.NewGl.{NewGl}
use Rattle.srcp_grammar.specs.declared.command.NewGa.{NewGa}
use Rattle.srcp_grammar.specs.declared.command.Command.{Command}
use Rattle.srcp_grammar.specs.declared.command.Command.TheVariants.{GetSession, TermSession, GetPower, SetPower}
use Rattle.srcp_grammar.specs.declared.command.Command.TheVariants.{CheckPower, InitPower, GetGl, SetGl, CheckGl}
use Rattle.srcp_grammar.specs.declared.command.Command.TheVariants.{InitGl, TermGl, GetGa, SetGa, CheckGa, InitGa}
use Rattle.srcp_grammar.specs.declared.command.Command.TheVariants.{TermGa, GetFb, SetFb, CheckFb, InitFb, GetLock}
use Rattle.srcp_grammar.specs.declared.command.Command.TheVariants.{SetLock, CheckLock, TermLock}
use Rattle.srcp_grammar.specs.Layout.{bus_at, address_max, has_group}

-- the first refusal ends the reading
infixl 10 ◌>>=◌
abbrev pub ◌>>=◌ : {A B : Type 0} → Result A Code → (A → Result B Code) → Result B Code
(Ok x) >>= f = f x
(Err code) >>= f = Err code

-- the function's result for the value read
infixl 10 ◌<$>◌
abbrev pub ◌<$>◌ : {W A B : Type 0} → (A → B) → (W → Result A Code) → W → Result B Code
(make <$> read) w = read w >>= (λ x. Ok (make x))

-- the speed steps of a decoder of protocol P, if the command names none
abbrev pub default_steps : ℕ
default_steps = 28

-- the functions of a locomotive of protocol P, if the command names none
abbrev pub default_functions : ℕ
default_functions = 5

-- how words are read, or refused
abbrev pub Parser : Type 0 → Type 0
Parser A = List (List ℕ) → Result A Code

-- ---- keywords

-- the table's value for the word, in capital or small letters
abbrev pub named_in : {A : Type 0} → List (List ℕ × A) → List ℕ → Option A
named_in table word = option_map (λ entry. entry.1) (find (λ entry. is_keyword entry.0 word) table)

-- the possible first words
abbrev pub operations : List (List ℕ × Operation)
operations =
    (codes "SET", Set) ∷ (codes "GET", Get) ∷ (codes "CHECK", Check) ∷ (codes "INIT", Init) ∷ (codes "TERM", Term)
    ∷ (codes "WAIT", Wait) ∷ (codes "VERIFY", Verify)
    ∷ (codes "RESET", Reset) ∷ []

-- the possible third words
abbrev pub groups : List (List ℕ × CommandGroup)
groups =
    (codes "GL", Gl) ∷ (codes "GA", Ga) ∷ (codes "FB", Fb) ∷ (codes "LOCK", Lock) ∷ (codes "POWER", Power)
    ∷ (codes "SESSION", Session) ∷ []

-- the possible groups of a LOCK command
abbrev pub device_groups : List (List ℕ × DeviceGroup)
device_groups = (codes "GL", devices.Gl) ∷ (codes "GA", devices.Ga) ∷ []

-- the letters of the decoder protocols
abbrev pub letters : List (List ℕ × Letter)
letters = (codes "N", N) ∷ (codes "M", M) ∷ (codes "S", S) ∷ (codes "P", P) ∷ []

-- the words of a power
abbrev pub switches : List (List ℕ × Bool)
switches = (codes "ON", true) ∷ (codes "OFF", false) ∷ []

-- ---- single words

-- a number from least to most
abbrev pub number_in : (least most : ℕ) → List ℕ → Result ℕ Code
number_in least most word = do
  number ← ok_or (number_of most word) C412
  if nat_lt number least then Err C412 else Ok number

-- 0 or 1
abbrev pub bit_of : List ℕ → Result Bool Code
bit_of = (λ number. number == 1) <$> number_in 0 1

-- each word 0 or 1
abbrev pub bits_of : Parser (List Bool)
bits_of [] = Ok []
bits_of (word ∷ words) = do
  first ← bit_of word
  others ← bits_of words
  Ok (first ∷ others)

-- a protocol letter
abbrev pub letter_of : List ℕ → Result Letter Code
letter_of word = ok_or (named_in letters word) C420

-- the words with a space between each two, if they can be a text
abbrev pub text_of : Parser (List ℕ)
text_of words = if is_text (join_with_byte 32 words) then Ok (join_with_byte 32 words) else Err C412

-- milliseconds up to the most, or none if the word is -1
abbrev pub time_of : List ℕ → Result (Option ℕ) Code
time_of word =
    if bytes_eq word (codes "-1") then Ok None else (Some <$> number_in 0 most_milliseconds) word

-- ---- the words after the group word

-- too few, or else too many
abbrev pub miscounted : {A : Type 0} → (wanted : ℕ) → Parser A
miscounted wanted words = Err (if nat_lt (length words) wanted then C419 else C418)

-- no word
abbrev pub alone : Command → Parser Command
alone command [] = Ok command
alone command words = Err C418

-- a number from least to most, and no other word
abbrev pub one_number : (least most : ℕ) → (ℕ → Command) → Parser Command
one_number least most make (n ∷ []) = (make <$> number_in least most) n
one_number least most make words = miscounted 1 words

-- none, or the id of a session
abbrev pub term_session : Parser Command
term_session [] = Ok (TermSession None)
term_session words = one_number 0 greatest_id (λ id. TermSession (Some id)) words

module _ (bus : Bus) where
  -- the group of a LOCK command, which has to be on the bus
  abbrev pub device_group_on : List ℕ → Result DeviceGroup Code
  device_group_on word = do
    group ← ok_or (named_in device_groups word) C412
    if nat_lt 0 (address_max bus group) then Ok group else Err C412

  -- ON or OFF, then the words of the text
  abbrev pub powered : Parser PowerSwitch
  powered [] = Err C419
  powered (w ∷ ws) = do
    on ← ok_or (named_in switches w) C412
    shown ← text_of ws
    Ok (record { bus = bus.number; on = on; text = shown })

  -- address, mode, V, Vmax, and no more functions than a locomotive may have
  abbrev pub driven : Parser Drive
  driven (a ∷ m ∷ v ∷ x ∷ fs) =
      if nat_lt most_functions (length fs) then Err C418 else do
        address ← number_in 1 bus.gl_max a
        mode ← number_in 0 emergency_stop m
        speed ← number_in 0 greatest_speed v
        top ← number_in 0 greatest_speed x
        if nat_le speed top || top == 0 then (do
          functions ← bits_of fs
          Ok (record {
            bus = bus.number;
            address = address;
            mode = mode;
            v = speed;
            vmax = top;
            functions = functions;
          })) else Err C412
  driven words = Err C419

  -- address, letter, version, steps and number of functions, of which P alone stands for P 1 28 5
  abbrev pub init_gl : Parser NewGl
  init_gl (a ∷ l ∷ []) =
      if is_keyword (codes "P") l then (do
        address ← number_in 1 bus.gl_max a
        Ok (record {
          bus = bus.number;
          address = address;
          letter = P;
          version = 1;
          steps = default_steps;
          functions = default_functions;
        }))
      else Err C419
  init_gl (a ∷ l ∷ v ∷ s ∷ f ∷ []) = do
    address ← number_in 1 bus.gl_max a
    protocol ← letter_of l
    version ← number_in 0 greatest_version v
    steps ← number_in 1 most_steps s
    functions ← number_in 0 most_functions f
    Ok (record {
      bus = bus.number;
      address = address;
      letter = protocol;
      version = version;
      steps = steps;
      functions = functions;
    })
  init_gl words = miscounted 5 words

  -- an accessory's port, from 0 on
  abbrev pub ga_port : List ℕ → Result ℕ Code
  ga_port word = number_in 0 (bus.ga_ports - 1) word

  -- address and port
  abbrev pub get_ga : Parser Command
  get_ga (a ∷ p ∷ []) = do
    address ← number_in 1 bus.ga_max a
    port ← ga_port p
    Ok (GetGa bus.number address port)
  get_ga words = miscounted 2 words

  -- address, port, value and time
  abbrev pub switched : Parser Switch
  switched (a ∷ p ∷ v ∷ t ∷ []) = do
    address ← number_in 1 bus.ga_max a
    port ← ga_port p
    on ← bit_of v
    milliseconds ← time_of t
    Ok (record { bus = bus.number; address = address; port = port; on = on; time = milliseconds })
  switched words = miscounted 4 words

  -- address and letter, then any words
  abbrev pub init_ga : Parser NewGa
  init_ga (a ∷ l ∷ ws) = do
    address ← number_in 1 bus.ga_max a
    protocol ← letter_of l
    Ok (record { bus = bus.number; address = address; letter = protocol; ports = bus.ga_ports })
  init_ga words = Err C419

  -- port and value
  abbrev pub sensed : Parser Sensor
  sensed (p ∷ v ∷ []) = do
    port ← number_in 1 bus.fb_ports p
    on ← bit_of v
    Ok (record { bus = bus.number; port = port; on = on })
  sensed words = miscounted 2 words

  -- group and address
  abbrev pub named_lock : Parser Target
  named_lock (g ∷ a ∷ []) = do
    group ← device_group_on g
    address ← number_in 1 (address_max bus group) a
    Ok (record { bus = bus.number; group = group; address = address })
  named_lock words = miscounted 2 words

  -- group, address and seconds
  abbrev pub timed_lock : Parser TimedLock
  timed_lock (g ∷ a ∷ s ∷ []) = do
    target ← named_lock (g ∷ a ∷ [])
    seconds ← number_in 0 most_seconds s
    Ok (record { target = target; seconds = seconds })
  timed_lock words = miscounted 3 words

  -- the operations of each group, with their words; any other pair is refused
  abbrev pub asked : Operation → CommandGroup → Parser Command
  asked Get Session = one_number 0 greatest_id GetSession
  asked Term Session = term_session
  asked Get Power = alone (GetPower bus.number)
  asked Set Power = SetPower <$> powered
  asked Check Power = CheckPower <$> powered
  asked Init Power = λ words. Ok (InitPower bus.number)
  asked Get Gl = one_number 1 bus.gl_max (GetGl bus.number)
  asked Set Gl = SetGl <$> driven
  asked Check Gl = CheckGl <$> driven
  asked Init Gl = InitGl <$> init_gl
  asked Term Gl = one_number 1 bus.gl_max (TermGl bus.number)
  asked Get Ga = get_ga
  asked Set Ga = SetGa <$> switched
  asked Check Ga = CheckGa <$> switched
  asked Init Ga = InitGa <$> init_ga
  asked Term Ga = one_number 1 bus.ga_max (TermGa bus.number)
  asked Get Fb = one_number 1 bus.fb_ports (GetFb bus.number)
  asked Set Fb = SetFb <$> sensed
  asked Check Fb = CheckFb <$> sensed
  asked Init Fb = λ words. Ok (InitFb bus.number)
  asked Get Lock = GetLock <$> named_lock
  asked Set Lock = SetLock <$> timed_lock
  asked Check Lock = CheckLock <$> timed_lock
  asked Term Lock = TermLock <$> named_lock
  asked operation group = λ words. Err C423

-- ---- the whole line

-- the bus, then the group, which has to be on the bus
abbrev pub directed : List Bus → Operation → Parser Command
directed buses operation (number ∷ word ∷ words) = do
  bus ← ok_or (option_and_then (bus_at buses) (number_of greatest_bus number)) C412
  group ← ok_or (named_in groups word) C421
  if has_group bus group then asked bus operation group words else Err C422
directed buses operation words = Err C419

-- the operation, then the bus and the group
abbrev pub parsed : List Bus → Parser Command
parsed buses [] = Err C410
parsed buses (word ∷ words) = do
  operation ← ok_or (named_in operations word) C410
  directed buses operation words

-- the command of a line, or the first refusal from left to right
abbrev pub reads : (buses : List Bus) → List ℕ → Result Command Code
reads buses line = parsed buses (words_of line)
