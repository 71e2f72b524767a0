-- An entry at the start of a text is read in one way.
use Rattle.std.proofs.Common.{◌≡◌, ◌≢◌, ℕ, ◌<◌, ◌^◌, List, ◌∷◌, ◌++◌, refl, sym, ◌∙◌, ap, subst, arith, append_assoc, codes}
use Rattle.std.specs.Prelude.{All, Option, Some, None}
use Rattle.std.specs.Fmt.{decimal}
use Rattle.std.proofs.lemmas.Fmt.{decimal_injective}
use Rattle.span_types.specs.declared.tuple.Span.{Span}
use Rattle.span_types.specs.Places.{IsSpan, IsSpanOr}
use Rattle.line_parts.specs.NameList.{IsName}
use Rattle.line_parts.specs.Numbers.{IsNum}
use Rattle.line_parts.proofs.Cuts.{same_num, NoByte, from_all, from_test, to_all, name_plain, decimal_plain, no_cut, one_cut}
use Rattle.span_cursor.specs.Tuples.{bounds_text, value_text, entry_text}
use Rattle.span_cursor.specs.Entries.{Entry, NextEntry}

pub heads : (a b : ℕ) (xs ys : List ℕ) → a ∷ xs ≡ b ∷ ys → a ≡ b
heads a b xs ys e = cc

pub tails : (a b : ℕ) (xs ys : List ℕ) → a ∷ xs ≡ b ∷ ys → xs ≡ ys
tails a b xs ys e = cc

module _ (text rest : List ℕ) (span : Span) (ok : IsSpan span) (is : text ≡ bounds_text span ++ rest) where
  parts : text ≡ decimal span.start ++ 44 ∷ (decimal span.end ++ 41 ∷ rest)
  parts = is ∙ simp append_assoc

  pub start_fits : span.start < 2 ^ 64
  start_fits = let order = ok.ordered in let high = ok.small in omega (arith, order, high)

  pub end_fits : span.end < 2 ^ 64
  end_fits = let high = ok.small in omega (arith, high)

  pub no_comma : All (λ b. b ≢ 44) text → ⊥
  no_comma all = no_cut 44 (decimal span.start) (decimal span.end ++ 41 ∷ rest) (subst (NoByte 44) parts (from_all 44 text all))

  pub first_parts : (first mid : List ℕ) → text ≡ first ++ 44 ∷ mid → All (λ b. b ≢ 44) first → IsNum first span.start × (mid ≡ decimal span.end ++ 41 ∷ rest)
  first_parts first mid cut all =
      let same = one_cut 44 first mid (decimal span.start) (decimal span.end ++ 41 ∷ rest) (from_all 44 first all)
      (decimal_plain 44 span.start (λ h. omega (arith, h)) start_fits) (sym cut ∙ parts) in
      (record { fits = start_fits; digits = same.0 }, same.1)

  pub no_close : (first mid : List ℕ) → text ≡ first ++ 44 ∷ mid → All (λ b. b ≢ 44) first → All (λ b. b ≢ 41) mid → ⊥
  no_close first mid cut all none =
      no_cut 41 (decimal span.end) rest (subst (NoByte 41) (first_parts first mid cut all).1 (from_all 41 mid none))

  pub last_parts : (first mid last more : List ℕ) → text ≡ first ++ 44 ∷ mid → All (λ b. b ≢ 44) first → mid ≡ last ++ 41 ∷ more → All (λ b. b ≢ 41) last
      → IsNum last span.end × (more ≡ rest)
  last_parts first mid last more cut all cut2 all2 =
      let same = one_cut 41 last more (decimal span.end) rest (from_all 41 last all2)
      (decimal_plain 41 span.end (λ h. omega (arith, h)) end_fits) (sym cut2 ∙ (first_parts first mid cut all).1) in
      (record { fits = end_fits; digits = same.0 }, same.1)

  pub read_numbers : (first mid last more : List ℕ) (m n : ℕ) → text ≡ first ++ 44 ∷ mid → All (λ b. b ≢ 44) first → mid ≡ last ++ 41 ∷ more → All (λ b. b ≢ 41) last
      → IsNum first m → IsNum last n → (m ≡ span.start) × (n ≡ span.end)
  read_numbers first mid last more m n cut all cut2 all2 one two =
      (same_num first m span.start one (first_parts first mid cut all).0, same_num last n span.end two (last_parts first mid last more cut all cut2 all2).0)

pub same_bounds : (s t : Span) (r q : List ℕ) → IsSpan s → IsSpan t → bounds_text s ++ r ≡ bounds_text t ++ q → (s ≡ t) × (r ≡ q)
same_bounds s t r q ok other e =
    let text : List ℕ = bounds_text s ++ r in
    let mine : text ≡ decimal s.start ++ 44 ∷ (decimal s.end ++ 41 ∷ r) = parts text r s ok refl in
    let small = start_fits text r s ok refl in
    let end_small = end_fits text r s ok refl in
    let plain = to_all 44 (decimal s.start) (decimal_plain 44 s.start (λ h. omega (arith, h)) small) in
    let closed = to_all 41 (decimal s.end) (decimal_plain 41 s.end (λ h. omega (arith, h)) end_small) in
    let first = first_parts text q t other e (decimal s.start) (decimal s.end ++ 41 ∷ r) mine plain in
    let last = last_parts text q t other e (decimal s.start) (decimal s.end ++ 41 ∷ r) (decimal s.end) r mine plain refl closed in
    let starts : s.start ≡ t.start = decimal_injective s.start t.start small first.0.fits first.0.digits in
    let ends : s.end ≡ t.end = decimal_injective s.end t.end end_small last.0.fits last.0.digits in
    (λ i. record { start = starts i; end = ends i }, last.1)

pub same_value : (x y : Option Span) (r q : List ℕ) → IsSpanOr x → IsSpanOr y → value_text x ++ r ≡ value_text y ++ q → (x ≡ y) × (r ≡ q)
same_value None None r q ok other e = (refl, tails 45 45 r q e)
same_value None (Some t) r q ok other e = absurd (let clash = heads 45 91 r (bounds_text t ++ q) e in omega (arith, clash))
same_value (Some s) None r q ok other e = absurd (let clash = heads 91 45 (bounds_text s ++ r) q e in omega (arith, clash))
same_value (Some s) (Some t) r q ok other e =
    let same = same_bounds s t r q ok other (tails 91 91 (bounds_text s ++ r) (bounds_text t ++ q) e) in (ap Some same.0, same.1)

-- the text of an entry is cut after its name
pub entry_cut : (text name rest : List ℕ) (value : Option Span) → text ≡ entry_text name value ++ rest → text ≡ name ++ 61 ∷ (value_text value ++ rest)
entry_cut text name rest value is = is ∙ append_assoc name (61 ∷ value_text value) rest

pub same_entry : (text n m r q : List ℕ) (x y : Option Span) → Entry text n x r → Entry text m y q → (n ≡ m) × (x ≡ y) × (r ≡ q)
same_entry text n m r q x y one two =
    let cut = one_cut 61 n (value_text x ++ r) m (value_text y ++ q) (name_plain 61 n refl one.named) (name_plain 61 m refl two.named)
    (sym (entry_cut text n r x one.written) ∙ entry_cut text m q y two.written) in
    let same = same_value x y r q one.spanned two.spanned cut.1 in
    (cut.0, same.0, same.1)

pub next_entry : (text behind name rest : List ℕ) (value : Option Span) → text ≡ 44 ∷ behind → Entry behind name value rest → NextEntry text name value rest
next_entry text behind name rest value is e = record { named = e.named; spanned = e.spanned; written = is ∙ ap (λ (l : List ℕ). 44 ∷ l) e.written }

pub behind_comma : (text behind name rest : List ℕ) (b : ℕ) (value : Option Span) → text ≡ b ∷ behind → NextEntry text name value rest → (b ≡ 44) × Entry behind name value rest
behind_comma text behind name rest b value is e = (
  heads b 44 behind (entry_text name value ++ rest) (sym is ∙ e.written),
  record { named = e.named; spanned = e.spanned; written = tails b 44 behind (entry_text name value ++ rest) (sym is ∙ e.written) },
)

pub no_equals : (text name rest : List ℕ) (value : Option Span) → All (λ b. b ≢ 61) text → Entry text name value rest → ⊥
no_equals text name rest value all entry = no_cut 61 name (value_text value ++ rest) (subst (NoByte 61) (entry_cut text name rest value entry.written) (from_all 61 text all))

pub entry_parts : (text w behind name rest : List ℕ) (value : Option Span) → text ≡ w ++ 61 ∷ behind → All (λ b. b ≢ 61) w → Entry text name value rest
    → IsName w × (behind ≡ value_text value ++ rest)
entry_parts text w behind name rest value cut all entry =
    let same = one_cut 61 w behind name (value_text value ++ rest) (from_all 61 w all) (name_plain 61 name refl entry.named) (sym cut ∙ entry_cut text name rest value entry.written) in
    (subst IsName (sym same.0) entry.named, same.1)

pub bare_brackets : (name rest : List ℕ) (value : Option Span) → Entry (codes "()") name value rest → ⊥
bare_brackets name rest value entry = no_cut 61 name (value_text value ++ rest) (subst (NoByte 61) (entry_cut (codes "()") name rest value entry.written) (from_test 61 (codes "()") refl))
