use Rattle.std.proofs.Common.{◌≡◌, ◌∙◌, true, ℕ, List, [], ◌∷◌, Some, None, map, string_bytes, refl, sym, subst, ap, inl, inr, rules}
use Rattle.clap.specs.Kinds.{HasKind, IsAmong, Kinds, or_else}
use Rattle.clap.specs.Words.{App, fault_of, is_simple_and_free}
use Rattle.clap.specs.declared.error.Error.{Error}
use Rattle.clap.specs.declared.error.kind.ErrorKind.{ErrorKind}
use Rattle.clap.proofs.FaultLemmas.{past}
use Rattle.srcp_tool.specs.Arguments.{program_app, refusal_of, task, task_of, unasked}
use Rattle.srcp_tool.proofs.arguments.read_words.Goals as goal

-- what is among the first kinds is among those and others
among : (first others : Kinds) (kind : ErrorKind) → IsAmong kind first → IsAmong kind (or_else first others)
among [] others kind is = absurd is
among (one ∷ more) others kind is = is

-- an error that `clap` has for the words is one for which they are refused
refused : (words : List (List ℕ)) (e : Error) → HasKind (fault_of program_app words) e → HasKind (refusal_of words) e
refused words e (inl memory) = inl memory
refused words e (inr is) = inr (among (fault_of program_app words) (unasked (task words)) _ is)

pub returns-in_err-matches-clause-kinds : goal.returns-in_err-matches-clause-kinds
returns-in_err-matches-clause-kinds c =
    let words = map string_bytes c.args.words.now in
    let failed : HasKind (fault_of program_app words) c.in_err-matches.field-0.0 =
    subst (λ (app : App). is_simple_and_free app ≡ true → HasKind (fault_of app words) c.in_err-matches.field-0.0)
    c.in_ok-program.ensures.app c.in_err-matches.ensures.kinds refl in
    let all = refused words c.in_err-matches.field-0.0 failed in
    search (rules, all)

pub returns-in-Some-clause-kinds : goal.returns-in-Some-clause-kinds
returns-in-Some-clause-kinds c =
    let words = map string_bytes c.args.words.now in
    let none = subst (λ (app : App). is_simple_and_free app ≡ true → fault_of app words ≡ []) c.in_ok-program.ensures.app
    c.in_ok-matches.ensures.kinds refl in
    let asked : Some (task_of c.in-Some.tool) ≡ task words = search rules in
    past (fault_of program_app words) (unasked (task words)) none ∙ ap unasked (sym asked)

pub returns-clause-kinds : goal.returns-clause-kinds
returns-clause-kinds c =
    let words = map string_bytes c.args.words.now in
    let none = subst (λ (app : App). is_simple_and_free app ≡ true → fault_of app words ≡ []) c.in_ok-program.ensures.app
    c.in_ok-matches.ensures.kinds refl in
    let asked : task words ≡ None = search rules in
    let one = past (fault_of program_app words) (unasked (task words)) none ∙ ap unasked asked in
    rw one (inr (inl c.in_ok-no_one_file-in-None.ensures))
