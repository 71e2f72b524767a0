use Rattle.std.proofs.Common.{◌≡◌, ℕ, ◌<◌, ◌^◌, List, ◌∷◌, ◌++◌, sym, ap, subst, ◌∙◌}
use Rattle.std.specs.Fmt.{decimal}
use Rattle.edit_expr.specs.Expressions.{AreTokens, trimmed}
use Rattle.edit_expr.specs.Operations.{IsClosing, IsWordEnd}
use Rattle.edit_expr.proofs.WordLemmas.{AreLetters, closing_end, decimal_letters, letters_of, tails, word_same}
use Rattle.edit_expr.proofs.tokens.number_at.Goals as goal

-- the word after the comma is that of the number
the_word : (n : ℕ) (others : List (List ℕ)) (text a b behind word rest : List ℕ) → n < 2 ^ 64 → IsClosing others
    → trimmed text ≡ 44 ∷ a → trimmed a ≡ decimal n ++ b → AreTokens others b
    → trimmed text ≡ 44 ∷ behind → trimmed behind ≡ word ++ rest → AreLetters word → IsWordEnd rest → (word ≡ decimal n) × (rest ≡ b)
the_word n others text a b behind word rest h closing comma number left sign cut letters end =
    let same : behind ≡ a = tails 44 44 behind a (sym sign ∙ comma) in
    word_same word (decimal n) rest b letters (decimal_letters n h) end (closing_end others b closing left)
    (sym cut ∙ (ap trimmed same ∙ number))

pub returns-in_err-number-clause-exact : goal.returns-in_err-number-clause-exact
returns-in_err-number-clause-exact c = λ n others h closing t.
    let same = the_word n others c.args.text.now t.0 t.2.0 c.in_ok-sign_at.field-0.now c.word_at.result.0.now c.word_at.result.1.now h closing t.1 t.2.1 t.2.2
    c.in_ok-sign_at.ensures c.word_at.ensures.cut (letters_of c.word_at.result.0.now c.word_at.ensures.letters) c.word_at.ensures.whole in
    absurd (c.in_err-number.ensures n (record { fits = h; digits = same.0 }))

pub returns-clause-exact : goal.returns-clause-exact
returns-clause-exact c = λ n others h closing t.
    let same = the_word n others c.args.text.now t.0 t.2.0 c.in_ok-sign_at.field-0.now c.word_at.result.0.now c.word_at.result.1.now h closing t.1 t.2.1 t.2.2
    c.in_ok-sign_at.ensures c.word_at.ensures.cut (letters_of c.word_at.result.0.now c.word_at.ensures.letters) c.word_at.ensures.whole in
    subst (AreTokens others) (sym same.1) t.2.2
