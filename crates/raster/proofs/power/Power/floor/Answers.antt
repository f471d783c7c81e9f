use Rattle.std.proofs.Common.{◌≡◌, ℕ, ◌*◌, ◌%◌, ◌^◌, ◌≤◌, ℤ, pos, negsuc, ◌+ℤ◌, ◌*ℤ◌, ◌≤ℤ◌, ◌<ℤ◌, div-le_self, arith, pow_mono, w64, SFits, to_z, of_z}
use lib.Signed.{shr_z}
use Rattle.std.proofs.lemmas.Nat.{one_shl, pow_pos}
use Rattle.std.proofs.lemmas.Int.{ints, to_z-of_z}
use Rattle.whole.proofs.Shifts.{floor_low, floor_high}
use Rattle.raster.specs.Rasters.{floored}
use Rattle.raster.proofs.power.Power.floor.Goals as goal

step_is : (p : ℕ) → p ≤ 31 → to_z w64 ((1 * 2 ^ p) % 2 ^ 64) ≡ pos (2 ^ p)
step_is p h = let b : 2 ^ p ≤ 2 ^ 31 = pow_mono h in rw (one_shl p 64 (omega arith)) (omega (arith, ints))

shift_fits : (n : ℤ) (m : ℕ) → SFits w64 n → SFits w64 (shr_z n m)
shift_fits (pos a) m f = let d = div-le_self a m in omega (arith, ints)
shift_fits (negsuc a) m f = let d = div-le_self a m in omega (arith, ints)

near : (n F : ℤ) (m : ℕ) → m ≤ 2 ^ 31 → negsuc (2 ^ 61) ≤ℤ n → n ≤ℤ pos (2 ^ 61) → F ≤ℤ n → n <ℤ (F +ℤ pos m) → (negsuc (2 ^ 62) ≤ℤ F) × (F ≤ℤ pos (2 ^ 61))
near n F m h a b l u = (omega (arith, ints), omega (arith, ints))

held : (F : ℤ) → negsuc (2 ^ 62) ≤ℤ F → F ≤ℤ pos (2 ^ 61) → SFits w64 F
held F a b = omega (arith, ints)

pub returns : goal.returns
returns c =
    let n = c.args.n in
    let p = c.args.self.log in
    let m = 2 ^ p in
    let f = c.ranges.n in
    let g = shift_fits n m f in
    let b = near n (floored p n) m (pow_mono c.args.self.limit) c.requires.0 c.requires.1 (floor_low m (pow_pos p) n) (floor_high m (pow_pos p) n) in
    let h : SFits w64 (floored p n) = held (floored p n) b.0 b.1 in
    let k = step_is p c.args.self.limit in
    let e : to_z w64 (of_z w64 (to_z w64 (of_z w64 (shr_z (to_z w64 (of_z w64 n)) m)) *ℤ to_z w64 ((1 * m) % 2 ^ 64))) ≡ floored p n = rw k (simp to_z-of_z) in
    record { value = e; bound = rw e b }
