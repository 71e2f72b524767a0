-- What a sink that buffers for another exposes.
use Rattle.std.specs.Prelude.{ℕ, List, refl}
use Rattle.std.specs.Coded.{Coded, code_by, coded×, coded_ℕ, coded_list}

-- the size of the buffer, in bytes
abbrev pub most_kept : ℕ
most_kept = 16384

-- the inner sink, and the buffered bytes
pub record BufferedOutput (K : Type 0) : Type 0 where
  pub inner : K
  pub kept : List ℕ

-- it is stored as the pair of its fields
abbrev pub buffered_code : {K : Type 0} → Coded K → Coded (BufferedOutput K)
buffered_code {K} code = code_by (K × List ℕ) (coded× code (coded_list coded_ℕ)) (λ b. (b.inner, b.kept)) (λ p. record { inner = p.0; kept = p.1 }) (λ _. refl)
