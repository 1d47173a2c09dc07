-- A product of a number in two parts with a small one, and a number of 128 bits in two halves.
use Rattle.std.proofs.Common.{◌≡◌, ℕ, ◌+◌, ◌*◌, ◌/◌, ◌%◌, ◌^◌, ◌<◌, ◌≤◌, sym, ap, ◌∙◌, mul-le-mul_right, suc-mul, add-mul, div-add-mod', zero-add, zero-mul, mul_right_comm, arith, le-ltb, lt-ltb}
use mathlib.Core.Option.{none, some}
use Rattle.numbers.specs.parse.Parts.{capped, full128}

-- the product, by the parts of x above and below 2^32
pub by_parts : (x m : ℕ) → x * m ≡ x / 2 ^ 32 * m * 2 ^ 32 + x % 2 ^ 32 * m
by_parts x m =
    ap (λ (y : ℕ). y * m) (sym (div-add-mod' x (2 ^ 32)))
    ∙ (add-mul (x / 2 ^ 32 * 2 ^ 32) (x % 2 ^ 32) m ∙ ap (λ (y : ℕ). y + x % 2 ^ 32 * m) (mul_right_comm (x / 2 ^ 32) (2 ^ 32) m))

-- two halves to the base B, times m, plus d: c is what the low half carries, and o what the high half has over
whole : (B h l m d c l' o h' : ℕ) → c * B + l' ≡ l * m + d → o * B + h' ≡ h * m + c → (h * B + l) * m + d ≡ (o * B + h') * B + l'
whole B h l m d c l' o h' low high =
    let split : (h * B + l) * m ≡ h * m * B + l * m = rw (add-mul, mul_right_comm h B m) in
    let join : (o * B + h') * B ≡ h * m * B + c * B = rw (high, add-mul) in
    omega (arith, split, join, low)

pub within : (H B h l : ℕ) → h < H → l < B → h * B + l < H * B
within H B h l p q = omega (arith, mul-le-mul_right B p, suc-mul h B, q)

past : (B o h l : ℕ) → 1 ≤ o → B * B ≤ (o * B + h) * B + l
past B o h l p =
    let over : B ≤ o * B + h = omega (arith, mul-le-mul_right B p) in
    omega (arith, mul-le-mul_right B over)

-- what two halves hold fits 128 bits
pub halves_fit : (h l : ℕ) → h < 2 ^ 64 → l < 2 ^ 64 → capped (h * 2 ^ 64 + l) ≡ some (h * 2 ^ 64 + l)
unfolding full128
halves_fit h l p q = rw (lt-ltb (h * 2 ^ 64 + l) (2 ^ 64 * 2 ^ 64) (within (2 ^ 64) (2 ^ 64) h l p q))

-- a step where nothing is over, and where something is
pub step_fits : (h l m d c l' o h' : ℕ) → c * 2 ^ 64 + l' ≡ l * m + d → o * 2 ^ 64 + h' ≡ h * m + c → o ≡ 0 → h' < 2 ^ 64 → l' < 2 ^ 64
    → some (h' * 2 ^ 64 + l') ≡ capped ((h * 2 ^ 64 + l) * m + d)
step_fits h l m d c l' o h' low high none_over p q =
    rw (whole (2 ^ 64) h l m d c l' o h' low high, none_over, zero-mul, zero-add) (sym (halves_fit h' l' p q))

pub step_past : (h l m d c l' o h' : ℕ) → c * 2 ^ 64 + l' ≡ l * m + d → o * 2 ^ 64 + h' ≡ h * m + c → (o ≡ 0 → ⊥)
    → none ≡ capped ((h * 2 ^ 64 + l) * m + d)
unfolding full128
step_past h l m d c l' o h' low high over =
    rw (whole (2 ^ 64) h l m d c l' o h' low high, le-ltb ((o * 2 ^ 64 + h') * 2 ^ 64 + l') (2 ^ 64 * 2 ^ 64) (past (2 ^ 64) o h' l' (omega arith)))
