-- A dataset is found again at the front of its datagram.
use Rattle.std.specs.Prelude.{◌≡◌, ℕ, ◌+◌, ◌-◌, ◌*◌, ◌/◌, ◌%◌, ◌<◌, ◌≤◌, Bool, true, false, List, [], ◌∷◌, ◌++◌, length, take, drop}
use Rattle.std.specs.Prelude.{get_or}
use Rattle.std.specs.Int.Bits.{bit_xor, xor_self}
use Rattle.std.proofs.Common.{refl, sym, subst, ◌∙◌, ap, arith}
use Rattle.std.proofs.lemmas.List.{length-append, length-drop, length-take, take-append-drop, take_all}
use Rattle.std.proofs.Math.Seq.{take-append_seam, drop-append_seam, drop-append-add}
use Rattle.srcp_stations.specs.Limits.{byte_values, head_length, most_in_command, xbus_header}
use Rattle.srcp_stations.specs.Dataset.{Begins, check, dataset, is_checked, joined, two_bytes, xbus}

-- ---- the check byte

joined-append : (before : ℕ) (bytes : List ℕ) (b : ℕ) → joined before (bytes ++ b ∷ []) ≡ bit_xor (joined before bytes) b
joined-append before [] b = refl
joined-append before (x ∷ bytes) b = joined-append (bit_xor before x) bytes b

-- with its check byte a command is whole
pub checked : (body : List ℕ) → check (body ++ check body ∷ []) ≡ 0
checked body = joined-append 0 body (check body) ∙ xor_self (check body)

-- ---- what a dataset begins with

-- a number is found again in its two bytes
number_again : (n : ℕ) → n % byte_values + byte_values * (n / byte_values) ≡ n
number_again n = omega arith

pub first_two : (bytes : List ℕ) (header : ℕ) (body rest : List ℕ) → Begins bytes header body rest
    → get_or bytes 0 0 + byte_values * get_or bytes 1 0 ≡ head_length + length body
first_two bytes header body rest begins = rw begins.same (number_again (head_length + length body))

pub next_two : (bytes : List ℕ) (header : ℕ) (body rest : List ℕ) → Begins bytes header body rest
    → get_or bytes 2 0 + byte_values * get_or bytes 3 0 ≡ header
next_two bytes header body rest begins = rw begins.same (number_again header)

pub behind : (bytes : List ℕ) (header : ℕ) (body rest : List ℕ) → Begins bytes header body rest → drop head_length bytes ≡ body ++ rest
behind bytes header body rest begins = rw begins.same refl

pub long : (bytes : List ℕ) (header : ℕ) (body rest : List ℕ) → Begins bytes header body rest
    → head_length + length body ≤ length bytes
long bytes header body rest begins = rw begins.same (omega (arith, length-append body rest))

pub its_data : (bytes : List ℕ) (header : ℕ) (body rest : List ℕ) → Begins bytes header body rest
    → take (length body) (drop head_length bytes) ≡ body
its_data bytes header body rest begins = rw (behind bytes header body rest begins) (take-append_seam body rest)

-- ---- what is read is a dataset

two_of : (low high : ℕ) → low < byte_values → high < byte_values → two_bytes (low + byte_values * high) ≡ low ∷ high ∷ []
two_of low high h k =
    let first : (low + byte_values * high) % byte_values ≡ low = omega (arith, h, k) in
    let second : (low + byte_values * high) / byte_values ≡ high = omega (arith, h, k) in
    λ i. first i ∷ second i ∷ []

pair_is : (n low high : ℕ) → low < byte_values → high < byte_values → n ≡ low + byte_values * high → two_bytes n ≡ low ∷ high ∷ []
pair_is n low high h k e = ap two_bytes e ∙ two_of low high h k

-- a datagram of four bytes and more
begins_here : (a b c d k header : ℕ) (bytes : List ℕ) → a < byte_values → b < byte_values → c < byte_values → d < byte_values
    → k ≤ length bytes → head_length + k ≡ a + byte_values * b → header ≡ c + byte_values * d → is_checked header (take k bytes) ≡ true
    → Begins (a ∷ b ∷ c ∷ d ∷ bytes) header (take k bytes) (drop k bytes)
begins_here a b c d k header bytes ha hb hc hd within len is checked =
    let size : head_length + length (take k bytes) ≡ a + byte_values * b = omega (arith, length-take k bytes, len, within) in
    let first = pair_is (head_length + length (take k bytes)) a b ha hb size in
    let second = pair_is header c d hc hd is in
    let parts : dataset header (take k bytes) ≡ a ∷ b ∷ c ∷ d ∷ take k bytes = λ i. first i ++ (second i ++ take k bytes) in
    let whole : a ∷ b ∷ c ∷ d ∷ bytes ≡ dataset header (take k bytes) ++ drop k bytes =
    sym (ap (λ (more : List ℕ). more ++ drop k bytes) parts ∙ ap (λ (more : List ℕ). a ∷ b ∷ c ∷ d ∷ more) (take-append-drop k bytes)) in
    record {
      header_fits = omega (arith, is, hc, hd);
      data_fits = omega (arith, size, ha, hb);
      checked = checked;
      same = whole;
    }

-- as the code cuts it
pub begins_again : (bytes : List ℕ) (len header : ℕ) → ((i : ℕ) → get_or bytes i 0 < byte_values) → head_length ≤ len
    → len ≤ length bytes → len ≡ get_or bytes 0 0 + byte_values * get_or bytes 1 0
    → header ≡ get_or bytes 2 0 + byte_values * get_or bytes 3 0
    → is_checked header (take (len - head_length) (drop head_length bytes)) ≡ true
    → Begins bytes header (take (len - head_length) (drop head_length bytes)) (drop len bytes)
begins_again [] len header small least most e f checked = absurd (omega (arith, least, most))
begins_again (a ∷ []) len header small least most e f checked = absurd (omega (arith, least, most))
begins_again (a ∷ b ∷ []) len header small least most e f checked = absurd (omega (arith, least, most))
begins_again (a ∷ b ∷ c ∷ []) len header small least most e f checked = absurd (omega (arith, least, most))
begins_again (a ∷ b ∷ c ∷ d ∷ bytes) len header small least most e f checked =
    let sum : len ≡ head_length + (len - head_length) = omega (arith, least) in
    let rest : drop (len - head_length) bytes ≡ drop len (a ∷ b ∷ c ∷ d ∷ bytes) =
    sym (ap (λ (n : ℕ). drop n (a ∷ b ∷ c ∷ d ∷ bytes)) sum ∙ drop-append-add (a ∷ b ∷ c ∷ d ∷ []) bytes (len - head_length)) in
    rw (← rest)
    (begins_here a b c d (len - head_length) header bytes (small 0) (small 1) (small 2) (small 3) (omega (arith, most, least))
    (omega (arith, e, least)) f checked)

pub begins_cut : (bytes : List ℕ) (head len header : ℕ) → ((i : ℕ) → get_or bytes i 0 < byte_values) → head ≡ head_length → head ≤ len
    → len ≤ length bytes → len ≡ get_or bytes 0 0 + byte_values * get_or bytes 1 0
    → header ≡ get_or bytes 2 0 + byte_values * get_or bytes 3 0 → is_checked header (take (len - head) (drop head bytes)) ≡ true
    → Begins bytes header (take (len - head) (drop head bytes)) (take (length bytes - len) (drop len bytes))
begins_cut bytes head len header small four least most e f checked =
    rw (take_all (length bytes - len) (drop len bytes) (omega (arith, length-drop len bytes)))
    (subst (λ (n : ℕ). Begins bytes header (take (len - n) (drop n bytes)) (drop len bytes)) (sym four)
    (begins_again bytes len header small (omega (arith, four, least)) most e f
    (subst (λ (n : ℕ). is_checked header (take (len - n) (drop n bytes)) ≡ true) four checked)))

-- ---- laws

pub datasets_differ : (bytes : List ℕ) (header header' : ℕ) (body body' rest rest' : List ℕ) → Begins bytes header body rest
    → Begins bytes header' body' rest' → (header ≡ header') × (body ≡ body') × (rest ≡ rest')
datasets_differ bytes header header' body body' rest rest' h k =
    let one = first_two bytes header body rest h in
    let other = first_two bytes header' body' rest' k in
    let size : length body ≡ length body' = omega (arith, one, other) in
    let same : body ≡ body' =
    sym (its_data bytes header body rest h) ∙ ap (λ (n : ℕ). take n (drop head_length bytes)) size
    ∙ its_data bytes header' body' rest' k in
    let left = ap (λ (n : ℕ). drop n (drop head_length bytes)) size in
    let mine : drop (length body) (drop head_length bytes) ≡ rest = rw (behind bytes header body rest h) (drop-append_seam body rest) in
    let theirs : drop (length body') (drop head_length bytes) ≡ rest' =
    rw (behind bytes header' body' rest' k) (drop-append_seam body' rest') in
    (sym (next_two bytes header body rest h) ∙ next_two bytes header' body' rest' k, same, sym mine ∙ left ∙ theirs)

pub commands_are_checked : (body rest : List ℕ) → length body ≤ most_in_command
    → Begins (xbus body ++ rest) xbus_header (body ++ check body ∷ []) rest
commands_are_checked body rest few =
    let size = length-append body (check body ∷ []) in
    record {
      header_fits = omega arith;
      data_fits = omega (arith, size, few);
      checked = grind (arith, checked body, size);
      same = refl;
    }
