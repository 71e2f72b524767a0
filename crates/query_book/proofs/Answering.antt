-- The automaton of an operation defines its tree.
use Rattle.std.proofs.Common.{◌≡◌, ◌⊎◌, inl, inr, ℕ, suc, ◌≤◌, ◌||◌, Bool, true, false, List, [], ◌∷◌, length, map, Option, Some, None, if◌then◌else◌, refl, sym, ap, subst, ◌∙◌}
use Rattle.span_types.specs.declared.tuple.Span.{Span}
use Rattle.span_types.specs.Query.{Query, Leaf, Union, Join, Project}
use Rattle.span_types.specs.VarList.{AreVars}
use Rattle.span_types.specs.Words.{word_from}
use Rattle.span_types.specs.Rel.{Assignment, Rel, IsUnion, IsRestriction, named, names_of, same_name, has_name}
use Rattle.marker_dfa.specs.Deterministic.{DeterministicAutomaton, next_of, path, and_then}
use Rattle.span_enum.specs.Members.{IsMember}
use Rattle.span_algebra.specs.Answers.{AreBytes, IsText, AnswersBy, GivesUnion, GivesJoin, GivesProjection}
use Rattle.span_algebra.specs.Renaming.{both_names}
use Rattle.span_algebra.proofs.NameLaws.{left-names, right-names}
use Rattle.query_book.specs.Answers.{Defines}
use Rattle.query_book.specs.Compiling.{ReadsBytes}
use Rattle.span_types.proofs.NameLaws.{apart, named-none, named-tells, same-is}

lacks : (va vb : List (List ℕ)) (n : List ℕ) → (has_name va n ≡ true → has_name vb n ≡ true) → has_name vb n ≡ false → has_name va n ≡ false
lacks va vb n wide f = by (has_name va n) refl
  where
    by : (b : Bool) → has_name va n ≡ b → has_name va n ≡ false
    by true e = let bad : true ≡ false = sym (wide e) ∙ f in absurd (cc)
    by false e = e

-- an assignment of a query has no spans for other names
outside : (q : Query) (s : List ℕ) (r : Assignment) → Rel q s r → (n : List ℕ) → has_name (names_of q) n ≡ false → r n ≡ None
outside (Leaf f names) s r h n e = h.read n ∙ named-none names h.tuple n e
outside (Union a b) s r (inl h) n e = outside a s r h n (lacks (names_of a) (both_names (names_of a) (names_of b)) n (left-names (names_of a) (names_of b) n) e)
outside (Union a b) s r (inr h) n e = outside b s r h n (lacks (names_of b) (both_names (names_of a) (names_of b)) n (right-names (names_of a) (names_of b) n) e)
outside (Join a b) s r h n e =
    h.no_other n (lacks (names_of a) (both_names (names_of a) (names_of b)) n (left-names (names_of a) (names_of b) n) e)
    (lacks (names_of b) (both_names (names_of a) (names_of b)) n (right-names (names_of a) (names_of b) n) e)
outside (Project a names) s r h n e = h.no_other n e

length-own : (names : List (List ℕ)) (r : Assignment) → length (map r names) ≡ length names
length-own [] r = refl
length-own (m ∷ names) r = ap suc (length-own names r)

named-own : (names : List (List ℕ)) (r : Assignment) (n : List ℕ) → has_name names n ≡ true → named names (map r names) n ≡ r n
named-own [] r n h = let bad : false ≡ true = h in absurd (cc)
named-own (m ∷ names) r n h = by (same_name m n) refl h (named-own names r n)
  where
    by : (b : Bool) → same_name m n ≡ b → (b || has_name names n) ≡ true → (has_name names n ≡ true → named names (map r names) n ≡ r n) → (if b then r m else named names (map r names) n) ≡ r n
    by true e g rest = ap r (same-is m n e)
    by false e g rest = rest g

-- an assignment without spans for other names is its tuple, read by the names
own : (names : List (List ℕ)) (r : Assignment) → ((n : List ℕ) → has_name names n ≡ false → r n ≡ None) → r ≡ named names (map r names)
own names r out = λ i n. each n (has_name names n) refl i
  where
    each : (n : List ℕ) (b : Bool) → has_name names n ≡ b → r n ≡ named names (map r names) n
    each n true e = sym (named-own names r n e)
    each n false e = out n e ∙ sym (named-none names (map r names) n e)

-- a text that an automaton over bytes accepts consists of bytes
path-bytes : (d : DeterministicAutomaton) → ReadsBytes d → (g : ℕ → ℕ) (p : ℕ) (s : List ℕ) (q r : ℕ) → path (next_of d) (word_from g p s) q ≡ Some r → AreBytes s
path-bytes d reads g p [] q r e = tt
path-bytes d reads g p (b ∷ s) q r e = by (next_of d q (g p) b) refl e (λ x k. path-bytes d reads g (suc p) s x r k)
  where
    by : (o : Option ℕ) → next_of d q (g p) b ≡ o → and_then o (path (next_of d) (word_from g (suc p) s)) ≡ Some r → ((x : ℕ) → path (next_of d) (word_from g (suc p) s) x ≡ Some r → AreBytes s) → AreBytes (b ∷ s)
    by None h k rest = let bad : ◌≡◌ {A = Option ℕ} None (Some r) = k in absurd (cc)
    by (Some x) h k rest = (reads q (g p) b x h, rest x k)

text-of : (d : DeterministicAutomaton) (names : List (List ℕ)) (s : List ℕ) (r : Assignment) → ReadsBytes d → length s ≤ 281474976710656 → AnswersBy d names s r → IsText s
text-of d names s r reads short h = record { bytes = path-bytes d reads _ 1 s 0 h.fits.accepted.state h.fits.accepted.leads; short = short }

-- the assignments of a query are the answers of its automaton, by the names
module _ (q : Query) (d : DeterministicAutomaton) (defines : Defines q d) (s : List ℕ) (r : Assignment) (short : length s ≤ 281474976710656) where
  pub answers-by : Rel q s r → AnswersBy d (names_of q) s r
  answers-by h =
      let names = names_of q in
      let e = own names r (outside q s r h) in
      let m = (defines.answers s (map r names) short).0 (length-own names r, subst (λ (x : Assignment). Rel q s x) e h) in
      record { tuple = map r names; size = length-own names r; fits = record { size = m.size; lies = m.lies; accepted = m.accepted }; read = λ n i. e i n }

  pub answers-from : AnswersBy d (names_of q) s r → Rel q s r
  answers-from h =
      let m = (defines.answers s h.tuple short).1 (record { size = h.fits.size; lies = h.fits.lies; accepted = h.fits.accepted }) in
      let e : named (names_of q) h.tuple ≡ r = λ i n. sym (h.read n) i in
      subst (λ (x : Assignment). Rel q s x) e m.1

-- an automaton whose answers by the names are the assignments of a query defines it
defines-by : (q : Query) (d : DeterministicAutomaton) → AreVars (names_of q) → d.variables ≡ length (names_of q) → ReadsBytes d
    → ((s : List ℕ) (r : Assignment) → length s ≤ 281474976710656 → Rel q s r → AnswersBy d (names_of q) s r)
    → ((s : List ℕ) (r : Assignment) → IsText s → AnswersBy d (names_of q) s r → Rel q s r)
    → Defines q d
defines-by q d vars variables reads to from = record { variables = variables; answers = λ s t short. (one s t short, two s t short) }
  where
    one : (s : List ℕ) (t : List (Option Span)) → length s ≤ 281474976710656 → (length t ≡ length (names_of q)) × Rel q s (named (names_of q) t) → IsMember d s t
    one s t short h =
        let a = to s (named (names_of q) t) short h.1 in
        let e = named-tells (names_of q) a.tuple t (apart (names_of q) vars.distinct) a.size h.0 (λ n. sym (a.read n)) in
        subst (λ (u : List (Option Span)). IsMember d s u) e (record { size = a.fits.size; lies = a.fits.lies; accepted = a.fits.accepted })

    two : (s : List ℕ) (t : List (Option Span)) → length s ≤ 281474976710656 → IsMember d s t → (length t ≡ length (names_of q)) × Rel q s (named (names_of q) t)
    two s t short m =
        let size : length t ≡ length (names_of q) = m.size ∙ variables in
        let a : AnswersBy d (names_of q) s (named (names_of q) t) = record { tuple = t; size = size; fits = record { size = m.size; lies = m.lies; accepted = m.accepted }; read = λ n. refl } in
        (size, from s (named (names_of q) t) (text-of d (names_of q) s (named (names_of q) t) reads short a) a)

module _ (p q : Query) (a b d : DeterministicAutomaton) (left : Defines p a) (right : Defines q b) (reads_a : ReadsBytes a) (reads_b : ReadsBytes b) (reads : ReadsBytes d) (vars : AreVars (both_names (names_of p) (names_of q))) where
  pub union-defines : GivesUnion a (names_of p) b (names_of q) (both_names (names_of p) (names_of q)) d → Defines (Union p q) d
  union-defines gives = defines-by (Union p q) d vars gives.variables reads to from
    where
      to : (s : List ℕ) (r : Assignment) → length s ≤ 281474976710656 → Rel p s r ⊎ Rel q s r → AnswersBy d (both_names (names_of p) (names_of q)) s r
      to s r short (inl h) = let x = answers-by p a left s r short h in (gives.answers s r (text-of a (names_of p) s r reads_a short x)).1 (inl x)
      to s r short (inr h) = let x = answers-by q b right s r short h in (gives.answers s r (text-of b (names_of q) s r reads_b short x)).1 (inr x)

      from : (s : List ℕ) (r : Assignment) → IsText s → AnswersBy d (both_names (names_of p) (names_of q)) s r → Rel p s r ⊎ Rel q s r
      from s r text h = by ((gives.answers s r text).0 h)
        where
          by : AnswersBy a (names_of p) s r ⊎ AnswersBy b (names_of q) s r → Rel p s r ⊎ Rel q s r
          by (inl x) = inl (answers-from p a left s r text.short x)
          by (inr x) = inr (answers-from q b right s r text.short x)

  pub join-defines : GivesJoin a (names_of p) b (names_of q) (both_names (names_of p) (names_of q)) d → Defines (Join p q) d
  join-defines gives = defines-by (Join p q) d vars gives.variables reads to from
    where
      to : (s : List ℕ) (r : Assignment) → length s ≤ 281474976710656 → IsUnion (names_of p) (names_of q) (Rel p s) (Rel q s) r → AnswersBy d (both_names (names_of p) (names_of q)) s r
      to s r short h =
          let x = answers-by p a left s h.first short h.in_left in
          let y = answers-by q b right s h.second short h.in_right in
          (gives.answers s r (text-of a (names_of p) s h.first reads_a short x)).1
          (record { first = h.first; second = h.second; in_left = x; in_right = y; agree = h.agree; left_is = h.left_is; right_is = h.right_is; no_other = h.no_other })

      from : (s : List ℕ) (r : Assignment) → IsText s → AnswersBy d (both_names (names_of p) (names_of q)) s r → IsUnion (names_of p) (names_of q) (Rel p s) (Rel q s) r
      from s r text k =
          let h = (gives.answers s r text).0 k in
          let x = answers-from p a left s h.first text.short h.in_left in
          let y = answers-from q b right s h.second text.short h.in_right in
          record { first = h.first; second = h.second; in_left = x; in_right = y; agree = h.agree; left_is = h.left_is; right_is = h.right_is; no_other = h.no_other }

pub projection-defines : (q : Query) (names : List (List ℕ)) (a d : DeterministicAutomaton) → Defines q a → ReadsBytes a → ReadsBytes d → AreVars names → GivesProjection a (names_of q) names d → Defines (Project q names) d
projection-defines q names a d source reads_a reads vars gives = defines-by (Project q names) d vars gives.variables reads to from
  where
    to : (s : List ℕ) (r : Assignment) → length s ≤ 281474976710656 → IsRestriction names (Rel q s) r → AnswersBy d names s r
    to s r short h =
        let x = answers-by q a source s h.whole short h.in_whole in
        (gives.answers s r (text-of a (names_of q) s h.whole reads_a short x)).1 (record { whole = h.whole; in_whole = x; kept = h.kept; no_other = h.no_other })

    from : (s : List ℕ) (r : Assignment) → IsText s → AnswersBy d names s r → IsRestriction names (Rel q s) r
    from s r text k =
        let h = (gives.answers s r text).0 k in
        record { whole = h.whole; in_whole = answers-from q a source s h.whole text.short h.in_whole; kept = h.kept; no_other = h.no_other }
