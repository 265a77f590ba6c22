-- Values of digits that stop at 2 ^ 32.
use Rattle.std.proofs.Common.{◌≡◌, ℕ, ◌+◌, ◌*◌, ◌^◌, ◌<◌, ◌≤◌, min, List, length, get_or, take, sym, refl, ap, ◌∙◌, ⊎_elim, mul-le-mul, arith}
use Rattle.std.proofs.lemmas.Bool.Decides.{nat_tests}
use Rattle.std.specs.Char.{digit_value}
use Rattle.std.proofs.lemmas.List.Sums.{fold_more}
use Rattle.std.proofs.lemmas.Bool.{cases_lt}
use Rattle.script.specs.Numbers.{digit_of, value_of}

-- A digit that the library reads in a base up to 16.
pub digit_read : (c base d : ℕ) → base ≤ 16 → digit_value c < base → d ≡ digit_value c → (d ≡ digit_of c) × (digit_of c < base)
digit_read c base d h lt e = grind (arith, nat_tests)

-- A digit more at a value that has stopped is as at the value itself.
pub capped : (v base d : ℕ) → 1 ≤ base → min (min v (2 ^ 32) * base + d) (2 ^ 32) ≡ min (v * base + d) (2 ^ 32)
capped v base d h =
    ⊎_elim
    (λ (lt : v < 2 ^ 32). let e : min v (2 ^ 32) ≡ v = omega arith in rw e refl)
    (λ (ge : 2 ^ 32 ≤ v). let e : min v (2 ^ 32) ≡ 2 ^ 32 = omega arith in
    let big : 2 ^ 32 * 1 ≤ v * base = mul-le-mul ge h in
    rw e (omega arith))
    (cases_lt v (2 ^ 32))

-- One digit more.
pub value_more : (base : ℕ) (text : List ℕ) (i v : ℕ) → 1 ≤ base → i < length text →
    v ≡ min (value_of base (take i text)) (2 ^ 32) →
    min (v * base + digit_of (get_or text i 0)) (2 ^ 32) ≡ min (value_of base (take (i + 1) text)) (2 ^ 32)
value_more base text i v h lt e =
    ap (λ x. min (x * base + digit_of (get_or text i 0)) (2 ^ 32)) e
    ∙ capped (value_of base (take i text)) base (digit_of (get_or text i 0)) h
    ∙ ap (λ x. min x (2 ^ 32)) (sym (fold_more (λ a c. a * base + digit_of c) 0 text i 0 lt))
