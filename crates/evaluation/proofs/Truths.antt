-- What the targets say of a box is true of its settings.
use Rattle.std.proofs.Common.{◌≡◌, ℕ, ◌<◌, true, eqb, ltb, ◌⊎◌, List, length, get_or, ℤ, ◌≤ℤ◌, ◌<ℤ◌, count_by, inl, inr, ⊎_elim, arith}
use Rattle.std.proofs.lemmas.Int.{ints, by_lt_z}
use Rattle.std.proofs.lemmas.Bool.{cond_both, eq-eqb, eqb-true, lt-ltb, ltb-true, both_ways}
use Rattle.boxes.specs.Boxes.{Ends, In}
use Rattle.ranges.specs.declared.row.Row.{Row}
use Rattle.ranges.specs.Kind.{Holds, Kind, Lawful, Valid}
use Rattle.records.specs.declared.target.Target.{Target}
use Rattle.records.specs.Rules.{Content, no_target}
use Rattle.jobs.specs.Meaning.{Meets, register}
use Rattle.jobs.specs.Registers.{Wired, no_row, registers}
use Rattle.jobs.proofs.Holding.{Sided, reg_holds, reg_valid}
use Rattle.evaluation.specs.declared.says.Says.TheVariants.{Within, Apart, Open}
use Rattle.evaluation.specs.Judging.{Truth, judged, target_apart, target_within}
use Rattle.evaluation.specs.Laws.{Only}
use Rattle.evaluation.proofs.Single.{holds_only}
use Rattle.evaluation.proofs.Tallies.{all_or_some, all_pass, one_passes}

module _ (k : Kind) (L : Lawful k) where
  -- a range that holds one number is within a target or apart from it
  one_or_other : (r : Row) (v l h : ℤ) → Valid k r → ((x : ℤ) → Holds k r x → x ≡ v) → (k.within r l h ≡ true) ⊎ (k.apart r l h ≡ true)
  one_or_other r v l h q f = by_lt_z v l
      (λ (n : v <ℤ l). inr ((L.aparts r l h q).1 (λ x p a b. let e = f x p in omega (arith, ints))))
      (λ (m : l ≤ℤ v). by_lt_z h v
      (λ (n : h <ℤ v). inr ((L.aparts r l h q).1 (λ x p a b. let e = f x p in omega (arith, ints))))
      (λ (n : v ≤ℤ h). inl ((L.withins r l h q).1 (λ x p. let e = f x p in (omega (arith, ints), omega (arith, ints))))))

  module _ (c : Content) (box : List Ends) (s : Sided box) (w : Wired (length box) c.program) (all : length (registers k c.program box) ≡ length c.program)
      (aim : (n : ℕ) → n < length c.targets → (get_or c.targets n no_target).register < length c.program) where
    abbrev row : ℕ → Row
    row n = get_or (registers k c.program box) n no_row

    abbrev target : ℕ → Target
    target n = get_or c.targets n no_target

    abbrev within : ℕ
    within = count_by (target_within k row) c.targets

    abbrev apart : ℕ
    apart = count_by (target_apart k row) c.targets

    there : (n : ℕ) → n < length c.targets → (target n).register < length (registers k c.program box)
    there n h = let a = aim n h in omega arith

    sound : (n : ℕ) → n < length c.targets → Valid k (row (target n).register)
    sound n h = reg_valid k L c.program box s w (target n).register (there n h)

    held : (setting : List ℤ) → In box setting → (n : ℕ) → n < length c.targets → Holds k (row (target n).register) (register c.program setting (target n).register)
    held setting i n h = reg_holds k L c.program box s w setting i (target n).register (there n h)

    all_meet : within ≡ length c.targets → (setting : List ℤ) → In box setting → Meets c setting
    all_meet e setting i n h =
        let t = all_pass (target_within k row) c.targets no_target e n h in
        let b = (L.withins (row (target n).register) (target n).low (target n).high (sound n h)).0 t _ (held setting i n h) in
        record { from = b.0; to = b.1 }

    none_meets : 0 < apart → (setting : List ℤ) → In box setting → Meets c setting → ⊥
    none_meets h setting i m =
        let o = one_passes (target_apart k row) c.targets no_target h in
        let n = o.0 in
        let a = m n o.1 in
        (L.aparts (row (target n).register) (target n).low (target n).high (sound n o.1)).0 o.2 _ (held setting i n o.1) a.from a.to

    one_decided : (setting : List ℤ) → Only box setting → (within ≡ length c.targets) ⊎ (0 < apart)
    one_decided setting only = all_or_some (target_within k row) (target_apart k row) c.targets no_target (λ n h.
        one_or_other (row (target n).register) (register c.program setting (target n).register) (target n).low (target n).high (sound n h)
        (holds_only k L c.program box s w setting only (target n).register (there n h)))

    pub judged_true : Truth c box (judged k c box)
    judged_true = cond_both (eqb within (length c.targets)) Within _ (Truth c box)
        (λ t. all_meet (eqb-true _ _ t))
        (λ f. cond_both (ltb 0 apart) Apart Open (Truth c box)
        (λ t. none_meets (ltb-true _ _ t))
        (λ g setting only. ⊎_elim
        (λ e. both_ways _ f (eq-eqb _ _ e))
        (λ h. both_ways _ g (lt-ltb _ _ h))
        (one_decided setting only)))
