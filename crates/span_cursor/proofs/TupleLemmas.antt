-- The text of a tuple is read in one way.
use Rattle.std.proofs.Common.{◌≡◌, ℕ, suc, List, [], ◌∷◌, ◌++◌, length, refl, sym, ◌∙◌, ap, subst, arith, codes, inl, inr}
use Rattle.std.specs.Prelude.{◌⊎◌, Option, Some, None}
use Rattle.span_types.specs.declared.tuple.Span.{Span}
use Rattle.span_types.specs.Places.{IsSpanOr, AreSpans}
use Rattle.line_parts.specs.NameList.{AreNames}
use Rattle.span_cursor.specs.Tuples.{entry_text, more_text, TupleText, IsTupleText}
use Rattle.span_cursor.specs.Entries.{Entry, IsMore}
use Rattle.span_cursor.proofs.EntryLemmas.{heads, tails, same_entry, bare_brackets}

pub spans_cons : (value : Option Span) (values : List (Option Span)) → IsSpanOr value → AreSpans values → AreSpans (value ∷ values)
spans_cons None values ok oks = oks
spans_cons (Some span) values ok oks = (ok, oks)

pub spans_head : (value : Option Span) (values : List (Option Span)) → AreSpans (value ∷ values) → IsSpanOr value
spans_head None values oks = tt
spans_head (Some span) values oks = oks.0

pub spans_tail : (value : Option Span) (values : List (Option Span)) → AreSpans (value ∷ values) → AreSpans values
spans_tail None values oks = oks
spans_tail (Some span) values oks = oks.1

-- an entry at the start and others after it
pub record FirstAndMore (text : List ℕ) : Type 0 where
  pub name : List ℕ
  pub value : Option Span
  pub rest : List ℕ
  pub entry : Entry text name value rest
  pub more : IsMore rest

pub more_none : IsMore []
more_none = ([], [], tt, tt, refl, refl)

pub more_join : (text behind : List ℕ) → text ≡ 44 ∷ behind → FirstAndMore behind → IsMore text
more_join text behind is f =
    let names : List (List ℕ) = f.more.0 in
    let values : List (Option Span) = f.more.1 in (
      f.name ∷ names,
      f.value ∷ values,
      (f.entry.named, f.more.2),
      spans_cons f.value values f.entry.spanned f.more.3,
      ap suc f.more.4,
      is ∙ ap (λ (l : List ℕ). 44 ∷ l) (f.entry.written ∙ ap (λ (l : List ℕ). entry_text f.name f.value ++ l) f.more.5),
    )

pub more_cut : (text behind : List ℕ) (b : ℕ) → text ≡ b ∷ behind → IsMore text → (b ≡ 44) × FirstAndMore behind
more_cut text behind b is ([], values, named, spans, paired, written) = let bad : ⊥ = cc (is, written) in absurd bad
more_cut text behind b is (name ∷ names, [], named, spans, paired, written) = absurd (omega (arith, paired))
more_cut text behind b is (name ∷ names, value ∷ values, named, spans, paired, written) =
    let e : b ∷ behind ≡ 44 ∷ (entry_text name value ++ more_text names values) = sym is ∙ written in (
      heads b 44 behind (entry_text name value ++ more_text names values) e,
      record {
        name = name;
        value = value;
        rest = more_text names values;
        entry = record { named = named.0; spanned = spans_head value values spans; written = tails b 44 behind (entry_text name value ++ more_text names values) e };
        more = (names, values, named.1, spans_tail value values spans, omega (arith, paired), refl);
      },
    )

pub tuple_join : (text : List ℕ) → FirstAndMore text → IsTupleText text
tuple_join text f =
    let names : List (List ℕ) = f.more.0 in
    let values : List (Option Span) = f.more.1 in (
      f.name ∷ names,
      f.value ∷ values,
      record {
        named = (f.entry.named, f.more.2);
        spans = spans_cons f.value values f.entry.spanned f.more.3;
        paired = ap suc f.more.4;
        written = f.entry.written ∙ ap (λ (l : List ℕ). entry_text f.name f.value ++ l) f.more.5;
      },
    )

pub tuple_none : (text : List ℕ) → text ≡ codes "()" → IsTupleText text
tuple_none text is = ([], [], record { named = tt; spans = tt; paired = refl; written = is })

first_of_tuple : (text name : List ℕ) (names : List (List ℕ)) (value : Option Span) (values : List (Option Span)) → TupleText text (name ∷ names) (value ∷ values)
    → Entry text name value (more_text names values)
first_of_tuple text name names value values t = record { named = t.named.0; spanned = spans_head value values t.spans; written = t.written }

pub tuple_cut : (text : List ℕ) → IsTupleText text → (text ≡ codes "()") ⊎ FirstAndMore text
tuple_cut text ([], values, t) = inl t.written
tuple_cut text (name ∷ names, [], t) = inl t.written
tuple_cut text (name ∷ names, value ∷ values, t) =
    inr (record {
      name = name;
      value = value;
      rest = more_text names values;
      entry = first_of_tuple text name names value values t;
      more = (names, values, t.named.1, spans_tail value values t.spans, (let e = t.paired in omega (arith, e)), refl);
    })

pub same_first : (text name rest : List ℕ) (value : Option Span) → Entry text name value rest → FirstAndMore text → IsMore rest
same_first text name rest value entry f = subst IsMore (sym (same_entry text name f.name rest f.rest value f.value entry f.entry).2) f.more

pub more_one : (names others : List (List ℕ)) (values rest : List (Option Span)) → AreNames names → AreNames others → AreSpans values → AreSpans rest
    → length names ≡ length values → length others ≡ length rest → more_text names values ≡ more_text others rest → (names ≡ others) × (values ≡ rest)
more_one [] others (v ∷ values) rest n o s t p q e = absurd (omega (arith, p))
more_one (n ∷ names) others [] rest ns o s t p q e = absurd (omega (arith, p))
more_one [] [] [] [] n o s t p q e = (refl, refl)
more_one [] [] [] (r ∷ rest) n o s t p q e = absurd (omega (arith, q))
more_one [] (o ∷ others) [] [] n os s t p q e = absurd (omega (arith, q))
more_one [] (o ∷ others) [] (r ∷ rest) n os s t p q e = let bad : ⊥ = cc in absurd bad
more_one (n ∷ names) [] (v ∷ values) [] ns o s t p q e = let bad : ⊥ = cc in absurd bad
more_one (n ∷ names) [] (v ∷ values) (r ∷ rest) ns o s t p q e = absurd (omega (arith, q))
more_one (n ∷ names) (o ∷ others) (v ∷ values) [] ns os s t p q e = absurd (omega (arith, q))
more_one (n ∷ names) (o ∷ others) (v ∷ values) (r ∷ rest) ns os s t p q e =
    let text : List ℕ = entry_text n v ++ more_text names values in
    let is : text ≡ entry_text o r ++ more_text others rest = tails 44 44 text (entry_text o r ++ more_text others rest) e in
    let mine : Entry text n v (more_text names values) = record { named = ns.0; spanned = spans_head v values s; written = refl } in
    let theirs : Entry text o r (more_text others rest) = record { named = os.0; spanned = spans_head r rest t; written = is } in
    let same = same_entry text n o (more_text names values) (more_text others rest) v r mine theirs in
    let others_same = more_one names others values rest ns.1 os.1 (spans_tail v values s) (spans_tail r rest t) (omega (arith, p)) (omega (arith, q)) same.2 in
    ((λ i. same.0 i ∷ others_same.0 i), (λ i. same.1 i ∷ others_same.1 i))

no_values : (values : List (Option Span)) → 0 ≡ length values → values ≡ []
no_values [] e = refl
no_values (v ∷ values) e = absurd (omega (arith, e))

pub one_tuple_of : (text : List ℕ) (names others : List (List ℕ)) (values rest : List (Option Span)) → TupleText text names values → TupleText text others rest
    → (names ≡ others) × (values ≡ rest)
one_tuple_of text [] [] values rest t u = (refl, no_values values t.paired ∙ sym (no_values rest u.paired))
one_tuple_of text (n ∷ names) others [] rest t u = absurd (let e = t.paired in omega (arith, e))
one_tuple_of text names (o ∷ others) values [] t u = absurd (let e = u.paired in omega (arith, e))
one_tuple_of text [] (o ∷ others) values (r ∷ rest) t u =
    absurd (bare_brackets o (more_text others rest) r (subst (λ (l : List ℕ). Entry l o r (more_text others rest)) t.written (first_of_tuple text o others r rest u)))
one_tuple_of text (n ∷ names) [] (v ∷ values) rest t u =
    absurd (bare_brackets n (more_text names values) v (subst (λ (l : List ℕ). Entry l n v (more_text names values)) u.written (first_of_tuple text n names v values t)))
one_tuple_of text (n ∷ names) (o ∷ others) (v ∷ values) (r ∷ rest) t u =
    let same = same_entry text n o (more_text names values) (more_text others rest) v r (first_of_tuple text n names v values t) (first_of_tuple text o others r rest u) in
    let more = more_one names others values rest t.named.1 u.named.1 (spans_tail v values t.spans) (spans_tail r rest u.spans) (let e = t.paired in omega (arith, e)) (let e = u.paired in omega (arith, e)) same.2 in
    ((λ i. same.0 i ∷ more.0 i), (λ i. same.1 i ∷ more.1 i))
