use Rattle.std.proofs.Common.{refl}
use Rattle.std.proofs.lemmas.Bool.{true≢false}
use Rattle.cutters.proofs.seq.SeqCutter.cut.Goals as goal

-- what is safe twice is safe
pub returns-clause-safe : goal.returns-clause-safe
returns-clause-safe g c =
    let a = c.if-not-cut.ensures.safe in
    let b = c.if-not-cut-2.ensures.safe in
    record {
      within = λ s i. a.within s (b.within s i);
      kept = λ _ s i m. b.kept refl s (a.kept refl s i m) m;
      none = λ e. absurd (true≢false e);
    }
