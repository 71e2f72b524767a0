-- The keyword that a word names, and the line after it.
use Rattle.std.proofs.Common.{◌≡◌, ◌≢◌, ℕ, ◌<◌, Bool, true, false, List, [], ◌∷◌, ◌++◌, length, refl, sym, ◌∙◌, ap, subst, inl, inr, codes, cond, get_or}
use Rattle.std.specs.Prelude.{All, Option, Some, None, ◌⊎◌, slice_get}
use Rattle.script_syntax.specs.Syntax.{Reads, LineText}
use Rattle.script_syntax.specs.Fields.{Fields, fields_of, word_of, keyword_named, keywords}
use Rattle.script_syntax.specs.declared.form.Command.{Command}
use Rattle.script_syntax.specs.declared.keyword.Keyword.{Keyword}
use Rattle.script_syntax.specs.declared.keyword.Keyword.TheVariants as kw
use Rattle.line_parts.proofs.Keywords as found
use Rattle.line_parts.proofs.Cuts.{NoByte, from_all, from_test, no_cut, one_cut}
use Rattle.script_syntax.proofs.Forms.{Form, quiet, bare, behind, form_of, words_plain}
use Rattle.script_syntax.proofs.OptionWords.{empty_line}

pub named_itself : (k : Keyword) → keyword_named (word_of k) ≡ Some k
named_itself kw.Text = refl
named_itself kw.Load = refl
named_itself kw.Share = refl
named_itself kw.Bytes = refl
named_itself kw.Write = refl
named_itself kw.Let = refl
named_itself kw.Drop = refl
named_itself kw.Names = refl
named_itself kw.Show = refl
named_itself kw.Query = refl
named_itself kw.Unquery = refl
named_itself kw.List = refl
named_itself kw.Count = refl
named_itself kw.Rank = refl
named_itself kw.Test = refl
named_itself kw.Has = refl
named_itself kw.Save = refl
named_itself kw.Open = refl
named_itself kw.Union = refl
named_itself kw.Join = refl
named_itself kw.Project = refl
named_itself kw.Listall = refl
named_itself kw.Replace = refl
named_itself kw.Mark = refl
named_itself kw.Unmark = refl
named_itself kw.Back = refl
named_itself kw.Compact = refl

-- a cut line that is a command has the keyword of its word and the fields of that keyword
abbrev pub Behind : List ℕ → List ℕ → Type 0
Behind word args = (k : Keyword) × (keyword_named word ≡ Some k) × Fields (fields_of k) args

cut_form : (line word args : List ℕ) → line ≡ word ++ 32 ∷ args → All (λ b. b ≢ 32) word → 0 < length line → (slice_get line 0 ≡ Some 35 → ⊥) → Form line → Behind word args
cut_form line word args cut all some loud (quiet (inl e)) = absurd (empty_line line some e)
cut_form line word args cut all some loud (quiet (inr e)) = absurd (loud e)
cut_form line word args cut all some loud (bare (inl e)) = absurd (no_cut 32 word args (subst (NoByte 32) (sym e ∙ cut) (from_test 32 (codes "names") refl)))
cut_form line word args cut all some loud (bare (inr e)) = absurd (no_cut 32 word args (subst (NoByte 32) (sym e ∙ cut) (from_test 32 (codes "compact") refl)))
cut_form line word args cut all some loud (behind k rest is fields) =
    let same = one_cut 32 word args (word_of k) rest (from_all 32 word all) (words_plain k) (sym cut ∙ is) in
    (k, ap keyword_named same.0 ∙ named_itself k, subst (Fields (fields_of k)) (sym same.1) fields)

pub cut_command : (line word args : List ℕ) → line ≡ word ++ 32 ∷ args → All (λ b. b ≢ 32) word → 0 < length line → (slice_get line 0 ≡ Some 35 → ⊥)
    → (command : Command) → LineText line command → Behind word args
cut_command line word args cut all some loud command text = cut_form line word args cut all some loud (form_of line command text.form)

pub no_keyword : (word args : List ℕ) → keyword_named word ≡ None → Behind word args → ⊥
no_keyword word args none (k, named, fields) = let bad : ⊥ = cc (none, named) in bad

pub wrong_fields : (word args : List ℕ) (keyword : Keyword) → keyword_named word ≡ Some keyword → (Fields (fields_of keyword) args → ⊥) → Behind word args → ⊥
wrong_fields word args keyword is bad (k, named, fields) = let same : k ≡ keyword = cc (is, named) in bad (subst (λ (j : Keyword). Fields (fields_of j) args) same fields)

pub named_is : (word : List ℕ) (k : Keyword) → keyword_named word ≡ Some k → word ≡ word_of k
named_is word k e = found.named_is word_of word keywords k e

pub not_hash : (line : List ℕ) → (get_or line 0 0 ≡ 35 → ⊥) → slice_get line 0 ≡ Some 35 → ⊥
not_hash [] first h = let bad : ⊥ = cc in bad
not_hash (b ∷ bs) first h = let is : b ≡ 35 = cc in first is

pub whole_line : (line word args : List ℕ) (k : Keyword) (command : Command) → line ≡ word ++ 32 ∷ args → keyword_named word ≡ Some k
    → Reads (word_of k ++ 32 ∷ args) command → Reads line command
whole_line line word args k command cut named r =
    subst (λ (l : List ℕ). Reads l command) (ap (λ (w : List ℕ). w ++ 32 ∷ args) (sym (named_is word k named)) ∙ sym cut) r
