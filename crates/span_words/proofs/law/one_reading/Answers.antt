use Rattle.std.proofs.Common.{◌≡◌, ◌∙◌, sym, ap, ℕ, codes}
use Rattle.std.specs.Prelude.{Option, Some, None}
use Rattle.clap.specs.Words.{Text}
use Rattle.span_words.specs.Words.{AsksFor, AsksForOr, IsNumber, text_of}
use Rattle.span_words.proofs.law.one_reading.Goals as goal

same_number : (least most : ℕ) (text : Text) (n k : ℕ) → IsNumber least most text n → IsNumber least most text k → n ≡ k
same_number least most text n k a b = a.value ∙ sym b.value

same_or : (least most default : ℕ) (text : Option Text) (n k : ℕ) → AsksForOr least most default text n → AsksForOr least most default text k → n ≡ k
same_or least most default None n k a b = a ∙ sym b
same_or least most default (Some text) n k a b = same_number least most text n k a b

same_demo : (least most : ℕ) (text : Option Text) (n k : Option ℕ) → AsksFor least most text n → AsksFor least most text k → n ≡ k
same_demo least most None n k a b = a ∙ sym b
same_demo least most (Some text) None k a b = absurd a
same_demo least most (Some text) (Some n) None a b = absurd b
same_demo least most (Some text) (Some n) (Some k) a b = ap (λ x. Some x) (same_number least most text n k a b)

pub returns : goal.returns
returns c words workers more states most demo other one two = (
  same_or 1 64 1 (text_of (codes "workers") words) workers more one.workers_asked two.workers_asked,
  same_or 128 1024 128 (text_of (codes "states") words) states most one.states_asked two.states_asked,
  same_demo 1 46 (text_of (codes "demo") words) demo other one.demo_asked two.demo_asked,
)
