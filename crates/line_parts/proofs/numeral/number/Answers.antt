use Rattle.std.proofs.Common.{◌≡◌, ℕ, List, sym, subst, ◌∙◌, ap, IsTrue}
use Rattle.std.specs.Prelude.{false, true}
use Rattle.std.specs.Str.{IsAscii, IsUtf8}
use Rattle.std.specs.Fmt.{decimal}
use Rattle.std.proofs.lemmas.Fmt.{IsAscii-decimal, parse-decimal}
use Rattle.std.proofs.lemmas.Str.{IsUtf8-from_ascii}
use Rattle.line_parts.specs.Numbers.{IsNum}
use Rattle.line_parts.proofs.numeral.number.Goals as goal

num_is_utf8 : (text : List ℕ) (n : ℕ) → IsNum text n → IsUtf8 text
num_is_utf8 text n h = IsUtf8-from_ascii text (subst IsAscii (sym h.digits) (IsAscii-decimal n h.fits))

not_true : false ≡ true → ⊥
not_true e = let bad : ⊥ = cc in bad

pub returns-in_default : goal.returns-in_default
returns-in_default c = λ n h. c.in_default.ensures.cases.0 (num_is_utf8 c.args.text.now n h)

pub returns-in_default-parse : goal.returns-in_default-parse
returns-in_default-parse c = λ n h.
    let read = parse-decimal 64 n c.in-Ok.digits.now c.parse.result h.fits h.fits (c.in-Ok.ensures.cases.0 ∙ h.digits) c.parse.ensures.value.0 in
    let bad : ⊥ = cc (read, c.in_default-parse.is) in bad

pub returns-else-is_same : goal.returns-else-is_same
returns-else-is_same c = λ n h.
    let read = parse-decimal 64 n c.in-Ok.digits.now c.parse.result h.fits h.fits (c.in-Ok.ensures.cases.0 ∙ h.digits) c.parse.ensures.value.0 in
    let same : c.in-Ok-parse.value ≡ n = cc (read, c.in-Ok-parse.is) in
    not_true (subst IsTrue c.if-is_same.false (c.is_same.ensures.1 (c.as_bytes.ensures.value ∙ c.format.ensures.text ∙ ap decimal same ∙ sym h.digits)))
