-- An answer that is right about every record is exact.
use Rattle.std.proofs.Common.{◌≡◌, ℕ, List, Ok, Err, Result, sym, ap, ◌∙◌}
use Rattle.records.specs.declared.fields.Fields.{Fields}
use Rattle.records.specs.declared.reason.Refusal.{Refusal}
use Rattle.records.specs.Encoding.{Exact, RecordOf}
use Rattle.records.specs.Faults.{mapped}
use Rattle.records.specs.Numbers.{Bytes}
use Rattle.records.specs.Rules.{Content, Keeps}
use Rattle.records.specs.Verdicts.{content, verdict}
use Rattle.records.proofs.Complete.{encoding_is_accepted}
use Rattle.records.proofs.Encoded.{accepted_is_encoding}

module _ (Rules : Content → Type 0) (s : List ℕ) (v : Result Content Refusal)
    (only : (c : Content) → v ≡ Ok c → RecordOf Rules c s) (each : (c : Content) → RecordOf Rules c s → v ≡ Ok c) where
  pub exact_by : {A : Type 0} (view : A → Content) (r : Result A Refusal) → mapped view r ≡ v → Exact Rules s view r
  exact_by view (Ok x) e = (only (view x) (sym e), λ c i. let q = each c i in cc)
  exact_by view (Err d) e = λ c i. let q = each c i in cc

pub exact_fields : (s : List ℕ) (r : Result Fields Refusal) → Bytes s → mapped content r ≡ verdict s → Exact Keeps s content r
exact_fields s r b e =
    exact_by Keeps s (verdict s)
    (λ c q. accepted_is_encoding s c b q)
    (λ c i. ap verdict (sym i.written) ∙ encoding_is_accepted c i.kept)
    content r e
