-- The options of `list` and `listall`.
use Rattle.std.proofs.Common.{◌≡◌, ◌≢◌, ℕ, ◌<◌, ◌≤◌, ◌^◌, ◌-◌, Bool, true, false, List, [], ◌∷◌, ◌++◌, length, refl, sym, ◌∙◌, ap, subst, arith, codes, inl, inr}
use Rattle.std.specs.Prelude.{All, Option, Some, None, slice_get, ◌==◌, not, nat_le}
use Rattle.std.specs.List.{list_all}
use Rattle.std.specs.Fmt.{decimal}
use Rattle.std.proofs.lemmas.Fmt.{decimal_injective}
use Rattle.line_parts.specs.Numbers.{IsNum}
use Rattle.script_syntax.specs.Syntax.{IsLimit, IsStart, IsWord, Reads, limit_words, longest_words, spaced, start_words}
use Rattle.line_parts.specs.NameList.{IsName}
use Rattle.script_syntax.specs.Fields.{Fits, Paged, Limited, Longest, word_of}
use Rattle.script_syntax.specs.declared.form.ListStart.{ListStart}
use Rattle.script_syntax.specs.declared.form.ListStart.TheVariants.{First, After, At}
use Rattle.script_syntax.specs.declared.form.Command.{Command}
use Rattle.line_parts.proofs.Cuts.{to_all, both, decimal_plain, NoByte, from_all, from_test, no_cut, one_cut}
use Rattle.line_parts.proofs.Names.{name_no_space}
use Rattle.script_syntax.proofs.Forms.{Form, quiet, bare, behind, form_of}

pub not_limit : (options word digits : List ℕ) → options ≡ word ++ 32 ∷ digits → All (λ b. b ≢ 32) word → (word ≡ codes "limit" → ⊥)
    → (n : ℕ) → 1 ≤ n → n ≤ 10000 → options ≡ codes "limit " ++ decimal n → ⊥
not_limit options word digits cut all bad n low high is =
    bad (one_cut 32 word digits (codes "limit") (decimal n) (from_all 32 word all) (from_test 32 (codes "limit") refl) (sym cut ∙ is)).0

pub same_limit : (options word digits : List ℕ) (m : ℕ) → options ≡ word ++ 32 ∷ digits → All (λ b. b ≢ 32) word → IsNum digits m
    → (n : ℕ) → n ≤ 10000 → options ≡ codes "limit " ++ decimal n → m ≡ n
same_limit options word digits m cut all num n high is =
    let same = one_cut 32 word digits (codes "limit") (decimal n) (from_all 32 word all) (from_test 32 (codes "limit") refl) (sym cut ∙ is) in
    decimal_injective m n num.fits (omega arith) (sym num.digits ∙ same.1)

pub same_answer_number : (text : List ℕ) (m n : ℕ) → IsNum text m → n ≤ 2 ^ 64 - 2 → text ≡ decimal n → m ≡ n
same_answer_number text m n num high is = decimal_injective m n num.fits (omega (arith, high)) (sym num.digits ∙ is)

-- the first of some words is what stands before the first space
pub first_word : (a b : List ℕ) (xs ys : List (List ℕ)) → NoByte 32 a → NoByte 32 b → spaced a xs ≡ spaced b ys → a ≡ b
first_word a b [] [] ha hb e = e
first_word a b [] (w ∷ ws) ha hb e = absurd (no_cut 32 b (spaced w ws) (subst (NoByte 32) e ha))
first_word a b (v ∷ vs) [] ha hb e = absurd (no_cut 32 a (spaced v vs) (subst (NoByte 32) (sym e) hb))
first_word a b (v ∷ vs) (w ∷ ws) ha hb e = (one_cut 32 a (spaced v vs) b (spaced w ws) ha hb e).0

abbrev pub NotLimited : List ℕ → Type 0
NotLimited text = (word : List ℕ) (given : Option ℕ) (limit : ℕ) → All (λ b. b ≢ 32) word → IsLimit given limit → text ≡ spaced word (limit_words given) → ⊥

pub not_limited : (text w options : List ℕ) → text ≡ w ++ 32 ∷ options → All (λ b. b ≢ 32) w
    → ((n : ℕ) → 1 ≤ n → n ≤ 10000 → options ≡ codes "limit " ++ decimal n → ⊥) → NotLimited text
not_limited text w options cut all bad word None limit plain lim is = no_cut 32 w options (subst (NoByte 32) (sym is ∙ cut) (from_all 32 word plain))
not_limited text w options cut all bad word (Some n) limit plain lim is =
    bad n lim.0 lim.1 (one_cut 32 w options word (codes "limit " ++ decimal n) (from_all 32 w all) (from_all 32 word plain) (sym cut ∙ is)).1

pub bad_limited_name : (text w : List ℕ) (given : Option ℕ) → All (λ b. b ≢ 32) w → text ≡ spaced w (limit_words given) → (IsName w → ⊥) → Fits Limited text → ⊥
bad_limited_name text w given all cut bad (name, other, limit, named, lim, is) =
    let same = first_word name w (limit_words other) (limit_words given) (name_no_space name named) (from_all 32 w all) (sym is ∙ cut) in
    bad (subst IsName same named)

pub bad_paged_name : (text w : List ℕ) (given : Option ℕ) → All (λ b. b ≢ 32) w → text ≡ spaced w (limit_words given) → (IsName w → ⊥) → Fits Paged text → ⊥
bad_paged_name text w given all cut bad (name, start, other, limit, named, starts, lim, is) =
    let same = first_word name w (start_words start ++ limit_words other) (limit_words given) (name_no_space name named) (from_all 32 w all) (sym is ∙ cut) in
    bad (subst IsName same named)

plain_if : (xs : List ℕ) → list_all (λ b. not (b == 32)) xs ≡ true → NoByte 32 xs
plain_if [] h = tt
plain_if (b ∷ bs) h =
    let parts = both (not (b == 32)) (list_all (λ x. not (x == 32)) bs) h in
    ((λ e. let is : not (b == 32) ≡ false = ap (λ (n : ℕ). not (n == 32)) e in let bad : ⊥ = cc (is, parts.0) in bad), plain_if bs parts.1)

pub word_plain : (word : List ℕ) → IsWord word → NoByte 32 word
word_plain word h = plain_if word (both (nat_le 1 (length word)) (list_all (λ b. not (b == 32)) word) h).1

pub word_to_all : (word : List ℕ) → IsWord word → All (λ b. b ≢ 32) word
word_to_all word h = to_all 32 word (word_plain word h)

-- a page after a cut that is not a name and a limit has the two words of a start and the limit
pub record HasStart (name options : List ℕ) : Type 0 where
  pub start : ListStart
  pub option : List ℕ
  pub value : List ℕ
  pub given : Option ℕ
  pub limit : ℕ
  pub named : IsName name
  pub starts : IsStart start
  pub words : start_words start ≡ option ∷ value ∷ []
  pub plain : NoByte 32 option
  pub plain_value : NoByte 32 value
  pub limited : IsLimit given limit
  pub is : options ≡ option ++ 32 ∷ spaced value (limit_words given)

answer_plain : (n : ℕ) → n ≤ 2 ^ 64 - 2 → NoByte 32 (decimal n)
answer_plain n le = decimal_plain 32 n (λ digit. omega (arith, digit)) (omega (arith, le))

found_start : (start : ListStart) (option value : List ℕ) → start_words start ≡ option ∷ value ∷ [] → NoByte 32 option → NoByte 32 value → (text name options other : List ℕ) (given : Option ℕ) (limit : ℕ) → text ≡ name ++ 32 ∷ options → All (λ b. b ≢ 32) name
    → IsName other → IsStart start → IsLimit given limit → text ≡ other ++ 32 ∷ (option ++ 32 ∷ spaced value (limit_words given)) → HasStart name options
found_start start option value words plain plain_value text name options other given limit cut all named starts lim is =
    let same = one_cut 32 name options other (option ++ 32 ∷ spaced value (limit_words given)) (from_all 32 name all) (name_no_space other named) (sym cut ∙ is) in
    record {
      start = start;
      option = option;
      value = value;
      given = given;
      limit = limit;
      named = subst IsName (sym same.0) named;
      starts = starts;
      words = words;
      plain = plain;
      plain_value = plain_value;
      limited = lim;
      is = same.1;
    }

pub has_start : (text name options : List ℕ) → text ≡ name ++ 32 ∷ options → All (λ b. b ≢ 32) name → NotLimited text → Fits Paged text → HasStart name options
has_start text name options cut all bad (other, First, given, limit, named, starts, lim, is) =
    absurd (bad other given limit (to_all 32 other (name_no_space other named)) lim is)
has_start text name options cut all bad (other, After word, given, limit, named, starts, lim, is) =
    found_start (After word) (codes "after") word refl (from_test 32 (codes "after") refl) (word_plain word starts) text name options other given limit cut all named starts lim is
has_start text name options cut all bad (other, At n, given, limit, named, starts, lim, is) =
    found_start (At n) (codes "at") (decimal n) refl (from_test 32 (codes "at") refl) (answer_plain n starts.1) text name options other given limit cut all named starts lim is

-- the words before the first space and before the second are those of the start
pub option_is : (name options w more : List ℕ) → options ≡ w ++ 32 ∷ more → All (λ b. b ≢ 32) w → (h : HasStart name options) → (h.option ≡ w) × (more ≡ spaced h.value (limit_words h.given))
option_is name options w more cut all h =
    let same = one_cut 32 w more h.option (spaced h.value (limit_words h.given)) (from_all 32 w all) h.plain (sym cut ∙ h.is) in
    (sym same.0, same.1)

pub bare_option : (name options : List ℕ) → All (λ b. b ≢ 32) options → HasStart name options → ⊥
bare_option name options all h = no_cut 32 h.option (spaced h.value (limit_words h.given)) (subst (NoByte 32) h.is (from_all 32 options all))

pub unlimited_value : (name options w more : List ℕ) → options ≡ w ++ 32 ∷ more → All (λ b. b ≢ 32) w → NotLimited more → HasStart name options → ⊥
unlimited_value name options w more cut all bad h = bad h.value h.given h.limit (to_all 32 h.value h.plain_value) h.limited (option_is name options w more cut all h).1

-- no start has these two words
abbrev pub NoStart : List ℕ → List ℕ → Type 0
NoStart option value = (start : ListStart) → IsStart start → start_words start ≡ option ∷ value ∷ [] → ⊥

pub bad_start : (name options w more value : List ℕ) (given : Option ℕ) → options ≡ w ++ 32 ∷ more → All (λ b. b ≢ 32) w → All (λ b. b ≢ 32) value → more ≡ spaced value (limit_words given)
    → NoStart w value → HasStart name options → ⊥
bad_start name options w more value given cut all plain is bad h =
    let same = option_is name options w more cut all h in
    let values = first_word h.value value (limit_words h.given) (limit_words given) h.plain_value (from_all 32 value plain) (sym same.1 ∙ is) in
    bad h.start h.starts (h.words ∙ (λ i. same.0 i ∷ values i ∷ []))

pub not_longest : (text word option : List ℕ) → text ≡ word ++ 32 ∷ option → All (λ b. b ≢ 32) word → (option ≡ codes "longest" → ⊥)
    → (other : List ℕ) (longest : Bool) → All (λ b. b ≢ 32) other → text ≡ spaced other (longest_words longest) → ⊥
not_longest text word option cut all bad other false plain is = no_cut 32 word option (subst (NoByte 32) (sym is ∙ cut) (from_all 32 other plain))
not_longest text word option cut all bad other true plain is =
    bad (one_cut 32 word option other (codes "longest") (from_all 32 word all) (from_all 32 other plain) (sym cut ∙ is)).1

pub no_longest : (text : List ℕ) → ((word : List ℕ) (longest : Bool) → All (λ b. b ≢ 32) word → text ≡ spaced word (longest_words longest) → ⊥) → Fits Longest text → ⊥
no_longest text bad (name, longest, named, is) = bad name longest (to_all 32 name (name_no_space name named)) is

pub bad_longest_name : (text w : List ℕ) (longest : Bool) → All (λ b. b ≢ 32) w → text ≡ spaced w (longest_words longest) → (IsName w → ⊥) → Fits Longest text → ⊥
bad_longest_name text w longest all cut bad (name, other, named, is) =
    let same = first_word name w (longest_words other) (longest_words longest) (name_no_space name named) (from_all 32 w all) (sym is ∙ cut) in
    bad (subst IsName same named)

pub empty_line : (line : List ℕ) → 0 < length line → line ≡ [] → ⊥
empty_line line some e = let none : 0 < 0 = subst (λ (l : List ℕ). 0 < length l) e some in omega (arith, none)

bare_form : (line : List ℕ) → All (λ b. b ≢ 32) line → 0 < length line → (slice_get line 0 ≡ Some 35 → ⊥) → (line ≡ codes "names" → ⊥) → (line ≡ codes "compact" → ⊥)
    → Form line → ⊥
bare_form line all some loud no_names no_compact (quiet (inl e)) = empty_line line some e
bare_form line all some loud no_names no_compact (quiet (inr e)) = loud e
bare_form line all some loud no_names no_compact (bare (inl e)) = no_names e
bare_form line all some loud no_names no_compact (bare (inr e)) = no_compact e
bare_form line all some loud no_names no_compact (behind k args is fields) = no_cut 32 (word_of k) args (subst (NoByte 32) is (from_all 32 line all))

pub bare_line : (line : List ℕ) → All (λ b. b ≢ 32) line → 0 < length line → (slice_get line 0 ≡ Some 35 → ⊥) → (line ≡ codes "names" → ⊥) → (line ≡ codes "compact" → ⊥)
    → (command : Command) → Reads line command → ⊥
bare_line line all some loud no_names no_compact command r = bare_form line all some loud no_names no_compact (form_of line command r)
