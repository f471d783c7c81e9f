use Rattle.std.proofs.Common.{◌≡◌, ℕ, ◌%◌, ◌^◌, Bool, true, ℤ, ◌-ℤ◌, nat_abs, sym, arith, w32, w64, SFits, to_z, of_z}
use Rattle.std.proofs.lemmas.Int.{ints, to_z-of_z}
use Rattle.std.proofs.lemmas.Bool.{both_ways, eqb-true}
use Rattle.ranges.specs.Bounds.{Ordered}
use Rattle.ranges.specs.Spans.{span_ends}
use Rattle.ranges.specs.declared.spans.Span.{Span}
use Rattle.ranges.specs.Fitting.{fit_in, fit_out}
use Rattle.raster.specs.Rasters.{divided}
use Rattle.raster.specs.Stepping.{divided_in, divided_out, raster_is, raster_no}
use Rattle.raster.proofs.making.make.Goals as goal

abbrev passed : ℤ → ℤ
passed z = to_z w64 (of_z w64 z)

abbrev stored : ℤ → ℤ
stored z = to_z w32 (of_z w32 (passed z))

-- the distance is divided as it was passed
divided_at : (s : Span) (r : Bool) (t : ℕ) → Ordered (span_ends s) → r ≡ divided t (passed (passed s.high -ℤ passed s.low)) → divided t (s.high -ℤ s.low) ≡ r
divided_at s r t o e =
    let l : SFits w64 s.low = omega (arith, ints) in
    let h : SFits w64 s.high = omega (arith, ints) in
    let d : SFits w64 (s.high -ℤ s.low) = omega (arith, ints) in
    sym (simp to_z-of_z at e)

whole_at : (l h l' h' : ℤ) (t : ℕ) → l' ≡ l → h' ≡ h → divided t (h -ℤ l) ≡ true → nat_abs (h' -ℤ l') % 2 ^ t ≡ 0
whole_at l h l' h' t e f d = rw (e, f) (eqb-true _ _ d)

pub returns-then-not-fits : goal.returns-then-not-fits
returns-then-not-fits c =
    let e = span_ends c.args.span in
    sym (raster_no e c.args.power.log (λ f. both_ways _ (sym c.if-not-fits.ensures) (fit_out e f.ordered)))

pub returns-then-not-divides : goal.returns-then-not-divides
returns-then-not-divides c =
    let s = c.args.span in
    let t = c.args.power.log in
    let d = divided_at s _ t (fit_in (span_ends s) (sym c.if-not-fits.ensures)) c.if-not-divides.ensures in
    sym (raster_no (span_ends s) t (λ f. both_ways _ d (divided_out t (s.high -ℤ s.low) f.whole)))

pub invariant_of-result : goal.invariant_of-result
invariant_of-result c =
    let s = c.args.span in
    let o = fit_in (span_ends s) (sym c.if-not-fits.ensures) in
    let l : stored s.low ≡ s.low = omega (arith, ints) in
    let h : stored s.high ≡ s.high = omega (arith, ints) in
    let d = divided_at s _ c.args.power.log o c.if-not-divides.ensures in
    record {
      above = omega (arith, ints);
      order = omega (arith, ints);
      below = omega (arith, ints);
      whole = whole_at s.low s.high (stored s.low) (stored s.high) c.args.power.log l h d;
    }

pub returns : goal.returns
returns c =
    let s = c.args.span in
    let t = c.args.power.log in
    let o = fit_in (span_ends s) (sym c.if-not-fits.ensures) in
    let d = divided_at s _ t o c.if-not-divides.ensures in
    raster_is _ _ s.low s.high t (omega (arith, ints)) (omega (arith, ints)) (record { ordered = o; limit = c.args.power.limit; whole = divided_in t (s.high -ℤ s.low) d })
