-- A line brings at most as many changes as the line weighs.
use Rattle.srcp_rules.proofs.Names
use Names.{true≢false, ◌==◌, ◌≡◌, ℕ, ◌≤◌, Bool, true, false, cond, ◌&&◌, length, find, List, [], ◌∷◌, Option, Some, None, Result, Err}
use Names.{refl, sym, ap, subst, ◌∙◌, arith, false_from_ne_true, second_so, option_map, Code, Bus, Command}
use Names.{bus_at, State, Update, IsCommandOf, effect}
use Rattle.std.proofs.Common.{eq-eqb}
use Rattle.std.specs.Prelude.{codes, IfOk}
use Rattle.std.proofs.lemmas.List.{length-map}
use Rattle.std.proofs.lemmas.Slice.Eq.{bytes_eq-Decides}
use Rattle.std.specs.Char.{to_ascii_lowercase}
use Rattle.std.specs.Option.{ok_or, option_and_then, unwrap_or}
use Rattle.std.specs.Str.{bytes_eq, str_to_ascii_lowercase}
use Rattle.srcp_info.specs.declared.change.Code.TheVariants.{C410, C412, C421, C422}
use Rattle.srcp_text.specs.Words.{number_of, is_keyword, words_of}
use Rattle.srcp_grammar.specs.declared.command.Operation.{Operation}
use Rattle.srcp_grammar.specs.declared.command.Operation.TheVariants.{Get, Set, Check, Init, Term, Wait, Verify, Reset}
use Rattle.srcp_grammar.specs.declared.command.CommandGroup.{CommandGroup}
use Rattle.srcp_grammar.specs.declared.command.CommandGroup.TheVariants.{Session}
use Rattle.srcp_grammar.specs.Layout.{has_group}
use Rattle.srcp_grammar.specs.Grammar.{◌>>=◌, groups, named_in}
use Rattle.srcp_grammar.specs.Grammar.{asked, directed, parsed}
use Rattle.srcp_grammar.specs.Weight.{names_session, weight_of, weight}
use Rattle.srcp_rules.specs.Weight.{LinesWeighEnough, WeightsAreSmall, GoesWeighOne}
use Rattle.srcp_grammar.proofs.GrammarLaws.{read_any, then_ok, reads_fits}
use Rattle.srcp_rules.proofs.CountLaws.{effect_few}
use Rattle.srcp_rules.proofs.CommandLaws.{changes_of, of_changes}

-- ---- what a line makes, whatever its values

abbrev bus_named : List Bus → List ℕ → Result Bus Code
bus_named buses word = ok_or (option_and_then (bus_at buses) (number_of 250 word)) C412

abbrev on_group : Operation → List (List ℕ) → Bus → CommandGroup → Result Command Code
on_group operation words bus g = cond (has_group bus g) (asked bus operation g words) (Err C422)

module _ (P : Command → Type 0) where
  abbrev All : Result Command Code → Type 0
  All r = IfOk r P

  -- the words after the operation
  directed_all : (buses : List Bus) (operation : Operation) (words : List (List ℕ))
      → ((g : CommandGroup) (bus : Bus) (ws : List (List ℕ)) → All (asked bus operation g ws)) → All (directed buses operation words)
  directed_all buses operation (n ∷ w ∷ ws) h =
      read_any P (bus_named buses n) (λ bus. ok_or (named_in groups w) C421 >>= on_group operation ws bus) (λ bus.
      read_any P (ok_or (named_in groups w) C421) (on_group operation ws bus) (λ g.
      then_ok P (has_group bus g) C422 (asked bus operation g ws) (λ on. h g bus ws)))
  directed_all buses operation other h = tt

-- ---- keywords

-- a word is as long as the keyword that it is
keyword_length : (keyword word : List ℕ) → is_keyword keyword word ≡ true → length keyword ≡ length word
keyword_length keyword word e =
    let same = (bytes_eq-Decides (str_to_ascii_lowercase keyword) (str_to_ascii_lowercase word)).0 e in
    sym (length-map keyword to_ascii_lowercase) ∙ ap length same ∙ length-map word to_ascii_lowercase

-- a word that is one keyword is none of another length
no_other : (this other word : List ℕ) → is_keyword this word ≡ true → (length other == length this) ≡ false
    → is_keyword other word ≡ false
no_other this other word e apart =
    false_from_ne_true (is_keyword other word) (λ f.
    true≢false (sym (eq-eqb _ _ (keyword_length other word f ∙ sym (keyword_length this word e))) ∙ apart))

-- SESSION is that group
session_third : (word : List ℕ) → is_keyword (codes "SESSION") word ≡ true → named_in groups word ≡ Some Session
session_third word h =
    let no : (other : List ℕ) → (length other == 7) ≡ false → is_keyword other word ≡ false =
    λ other apart. no_other (codes "SESSION") other word h apart in
    rw (no (codes "GL") refl, no (codes "GA") refl, no (codes "FB") refl, no (codes "LOCK") refl, no (codes "POWER") refl, h) refl

-- ---- how many changes the commands of an operation make

module _ (state : State) (session moment : ℕ) where
  -- at most n changes
  abbrev AtMost : ℕ → List Update → Type 0
  AtMost n updates = length updates ≤ n

  abbrev Brings : ℕ → Command → Type 0
  Brings n command = AtMost n (changes_of state session moment command)

  gets_none : (g : CommandGroup) (bus : Bus) (words : List (List ℕ)) → IfOk (asked bus Get g words) (Brings 0)
  gets_none g bus words = grind (arith, read_any)

  checks_none : (g : CommandGroup) (bus : Bus) (words : List (List ℕ)) → IfOk (asked bus Check g words) (Brings 0)
  checks_none g bus words = grind (arith, read_any)

  sets_one : (g : CommandGroup) (bus : Bus) (words : List (List ℕ)) → IfOk (asked bus Set g words) (Brings 1)
  sets_one g bus words = grind (arith, read_any)

  of_session : (operation : Operation) (bus : Bus) (words : List (List ℕ)) → IfOk (asked bus operation Session words) (Brings 0)
  of_session operation bus words = grind (arith, read_any)

  module _ (buses : List Bus) where
    -- the third word is SESSION
    session_named : (operation : Operation) (words : List (List ℕ)) → names_session words ≡ true
        → IfOk (directed buses operation words) (Brings 0)
    session_named operation [] h = tt
    session_named operation (n ∷ []) h = tt
    session_named operation (n ∷ w ∷ ws) h =
        read_any (Brings 0) (bus_named buses n) (λ bus. ok_or (named_in groups w) C421 >>= on_group operation ws bus) (λ bus.
        rw (session_third w (second_so (bytes_eq n (codes "0")) (is_keyword (codes "SESSION") w) h))
        (then_ok (Brings 0) (has_group bus Session) C422 (asked bus operation Session ws) (λ on. of_session operation bus ws)))

-- the operations after SET, GET and CHECK
abbrev rarer : List (List ℕ × Operation)
rarer = (codes "INIT", Init) ∷ (codes "TERM", Term) ∷ (codes "WAIT", Wait) ∷ (codes "VERIFY", Verify) ∷ (codes "RESET", Reset) ∷ []

-- GO is none of them
go_is_none : (word : List ℕ) → is_keyword (codes "GO") word ≡ true → find (λ e. is_keyword e.0 word) rarer ≡ None
go_is_none word h = grind (arith, no_other (codes "GO"))

-- ---- the whole line

-- the weight, by which keywords the first word is
abbrev weight_by : (ends put get check go : Bool) → ℕ
weight_by ends put get check go =
    cond ends 0 (unwrap_or (option_map {T = List ℕ × ℕ} (λ e. e.1)
    (cond put (Some (codes "SET", 1)) (cond get (Some (codes "GET", 0)) (cond check (Some (codes "CHECK", 0))
    (cond go (Some (codes "GO", 1)) None))))) 11)

module _ (state : State) (session moment : ℕ) (buses : List Bus) where
  -- a command of the layout brings at most n changes
  abbrev Weighs : ℕ → Command → Type 0
  Weighs n command = IsCommandOf buses command → AtMost state session moment n (effect state session moment command).updates

  weighs : (n : ℕ) (c : Command) → Brings state session moment n c → Weighs n c
  weighs n c h fits = of_changes state session moment (AtMost state session moment n) (omega arith) c (λ none. h)

  in_layout : (n : ℕ) (r : Result Command Code) → IfOk r (Brings state session moment n) → IfOk r (Weighs n)
  in_layout n r h = grind (arith, weighs n)

  any_ok : (r : Result Command Code) → ((c : Command) → Weighs 11 c) → IfOk r (Weighs 11)
  any_ok r h = grind arith

  -- the operation by the first word, and the weight of the line
  abbrev operation_by : (put get check : Bool) → Option (List ℕ × Operation) → Result Operation Code
  operation_by put get check found =
      ok_or (option_map {T = List ℕ × Operation} (λ e. e.1)
      (cond put (Some (codes "SET", Set)) (cond get (Some (codes "GET", Get)) (cond check (Some (codes "CHECK", Check)) found)))) C410

  word_weighs : (words : List (List ℕ)) (ends put get check go : Bool) (found : Option (List ℕ × Operation))
      → (ends ≡ true → names_session words ≡ true) → (go ≡ true → found ≡ None)
      → IfOk (operation_by put get check found >>= (λ operation. directed buses operation words)) (Weighs (weight_by ends put get check go))
  word_weighs words true put get check go found h absent =
      read_any (Weighs 0) (operation_by put get check found) (λ operation. directed buses operation words)
      (λ operation. in_layout 0 (directed buses operation words) (session_named state session moment buses operation words (h refl)))
  word_weighs words false true get check go found h absent =
      in_layout 1 (directed buses Set words) (directed_all (Brings state session moment 1) buses Set words (sets_one state session moment))
  word_weighs words false false true check go found h absent =
      in_layout 0 (directed buses Get words) (directed_all (Brings state session moment 0) buses Get words (gets_none state session moment))
  word_weighs words false false false true go found h absent =
      in_layout 0 (directed buses Check words)
      (directed_all (Brings state session moment 0) buses Check words (checks_none state session moment))
  word_weighs words false false false false true found h absent =
      rw (absent refl) tt
  word_weighs words false false false false false found h absent =
      any_ok (operation_by false false false found >>= (λ operation. directed buses operation words))
      (λ c fits. effect_few buses state session moment c fits)

  words_weigh : (words : List (List ℕ)) → IfOk (parsed buses words) (Weighs (weight_of words))
  words_weigh [] = tt
  words_weigh (word ∷ words) =
      word_weighs words (is_keyword (codes "TERM") word && names_session words) (is_keyword (codes "SET") word)
      (is_keyword (codes "GET") word) (is_keyword (codes "CHECK") word) (is_keyword (codes "GO") word)
      (find (λ e. is_keyword e.0 word) rarer) (second_so (is_keyword (codes "TERM") word) (names_session words)) (go_is_none word)

-- a line that is a command brings at most its weight
pub line_weighs : LinesWeighEnough
line_weighs buses state session moment line command layout e =
    let fits = subst (λ r. IfOk r (IsCommandOf buses)) e (reads_fits buses layout line) in
    subst (λ r. IfOk r (Weighs state session moment buses (weight line))) e (words_weigh state session moment buses (words_of line)) fits

-- ---- the weights themselves

small_by : (ends put get check go : Bool) → weight_by ends put get check go ≤ 11
small_by ends put get check go = grind arith

small_words : (words : List (List ℕ)) → weight_of words ≤ 11
small_words [] = omega arith
small_words (word ∷ words) =
    small_by (is_keyword (codes "TERM") word && names_session words) (is_keyword (codes "SET") word) (is_keyword (codes "GET") word)
    (is_keyword (codes "CHECK") word) (is_keyword (codes "GO") word)

pub weights_small : WeightsAreSmall
weights_small line = small_words (words_of line)

go_words : (word : List ℕ) (words : List (List ℕ)) → is_keyword (codes "GO") word ≡ true → weight_of (word ∷ words) ≡ 1
go_words word words h = grind (arith, no_other (codes "GO"))

pub go_weighs_one : GoesWeighOne
go_weighs_one line word words e h = ap weight_of e ∙ go_words word words h
