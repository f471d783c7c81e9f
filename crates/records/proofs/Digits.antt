-- A number and its bytes: each made from the other, with and without a sign.
use Rattle.std.proofs.Common.{◌≡◌, ℕ, ◌+◌, ◌*◌, ◌/◌, ◌%◌, ◌^◌, ◌<◌, true, [], ◌∷◌, ℤ, pos, negsuc, neg_ℤ, ◌≤ℤ◌, sym, ap, ◌∙◌, arith, w16, w32, SFits, to_z, of_z}
use Rattle.std.proofs.lemmas.Int.{ints, of_z-to_z}
use Rattle.boxes.specs.Boxes.{between}
use Rattle.boxes.proofs.Goods.{between_in}
use Rattle.records.specs.Numbers.{bytes16, bytes32}

-- the bytes of a number that is made of bytes are those
pub split16 : (a b : ℕ) → a < 256 → b < 256 → bytes16 (a * 256 + b) ≡ a ∷ b ∷ []
split16 a b ha hb =
    let e0 : (a * 256 + b) / 256 ≡ a = omega arith in
    let e1 : (a * 256 + b) % 256 ≡ b = omega arith in
    cc

pub split32 : (a b c d : ℕ) → a < 256 → b < 256 → c < 256 → d < 256 → bytes32 (a * 16777216 + b * 65536 + c * 256 + d) ≡ a ∷ b ∷ c ∷ d ∷ []
split32 a b c d ha hb hc hd =
    let e0 : (a * 16777216 + b * 65536 + c * 256 + d) / 16777216 ≡ a = omega arith in
    let e1 : (a * 16777216 + b * 65536 + c * 256 + d) / 65536 % 256 ≡ b = omega arith in
    let e2 : (a * 16777216 + b * 65536 + c * 256 + d) / 256 % 256 ≡ c = omega arith in
    let e3 : (a * 16777216 + b * 65536 + c * 256 + d) % 256 ≡ d = omega arith in
    cc

-- the number that is made of a number's four bytes is that
pub join32 : (n : ℕ) → n / 16777216 * 16777216 + n / 65536 % 256 * 65536 + n / 256 % 256 * 256 + n % 256 ≡ n
join32 n = omega arith

-- numbers within their limits fit two and four bytes
pub fits16 : (x : ℤ) → negsuc 16383 ≤ℤ x → x ≤ℤ pos 16383 → SFits w16 x
fits16 x p q = search (arith, ints)

pub fits32 : (x : ℤ) → negsuc 1073741823 ≤ℤ x → x ≤ℤ pos 1073741824 → SFits w32 x
fits32 x p q = search (arith, ints)

-- four bytes whose number lies from 0 to 0 are 0
pub zero_bits : (n : ℕ) → n < 2 ^ 32 → between (neg_ℤ (pos 0)) (to_z w32 n) (pos 0) ≡ true → n ≡ 0
zero_bits n h e =
    let b = between_in (pos 0) (to_z w32 n) (pos 0) e in
    let z : to_z w32 n ≡ pos 0 = omega (arith, ints, b.low, b.high) in
    sym (of_z-to_z w32 n h) ∙ ap (of_z w32) z
