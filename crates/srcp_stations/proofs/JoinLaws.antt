-- Words that spaces join between brackets are found again, and numbers too.
use Rattle.std.specs.Prelude.{◌≡◌, ℕ, ◌^◌, ◌<◌, List}
use Rattle.std.specs.Prelude.{decimal}
use Rattle.std.specs.List.{AllByRecursion, join_with_byte}
use Rattle.std.proofs.Common.{sym, ◌∙◌, ap, arith}
use Rattle.std.proofs.lemmas.List.{same_from_push}
use Rattle.srcp_text.specs.Words.{words_of, IsWord}
use Rattle.srcp_text.proofs.StampLaws.{decimal_word}
use Rattle.srcp_text.proofs.WordLaws.{words_again}
use Rattle.srcp_stations.specs.Said.{bracketed}
use Rattle.srcp_text.proofs.NumberLaws.{number_of-decimal}

-- words that are joined by spaces between brackets are found again
pub same_words : (ws vs : List (List ℕ)) → AllByRecursion IsWord ws → AllByRecursion IsWord vs → bracketed ws ≡ bracketed vs → ws ≡ vs
same_words ws vs h k e =
    let joined : join_with_byte 32 ws ≡ join_with_byte 32 vs = grind (arith, same_from_push) in
    sym (words_again ws h) ∙ ap words_of joined ∙ words_again vs k

pub small_word : (n : ℕ) → n < 2 ^ 32 → IsWord (decimal n)
small_word n h = decimal_word n (omega arith)

-- no two numbers are printed alike
pub decimal_same : (n m : ℕ) → n < 2 ^ 32 → m < 2 ^ 32 → decimal n ≡ decimal m → n ≡ m
decimal_same n m h k e = grind (arith, number_of-decimal 4294967295 n, number_of-decimal 4294967295 m)
