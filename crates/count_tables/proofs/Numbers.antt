-- The answers are the marked texts that the automaton accepts, and so many.
use Rattle.std.proofs.Common.{◌≡◌, ℕ, suc, ◌+◌, ◌<◌, ◌≤◌, false, List, [], ◌∷◌, ◌++◌, length, get_or, map, refl, ap, sym, subst, ◌∙◌, arith, All, AllPairs, Contains, Some, None, inl}
use Rattle.std.proofs.lemmas.List.{length-map}
use Rattle.std.proofs.lemmas.List.Elements.{Contains-get_or}
use Rattle.span_types.specs.Places.{IsTuple, AreSpans}
use Rattle.span_types.specs.Marks.{Lies, mark_of}
use Rattle.span_types.specs.Words.{Marked, Precedes, ended, marked, word_from}
use Rattle.span_types.proofs.WordLaws.{orders}
use Rattle.formula_law.specs.Accepts.{MarkedText, marked_text}
use Rattle.formula_law.specs.Law.{bytes_of}
use Rattle.marker_dfa.specs.Deterministic.{DeterministicAutomaton, IsDeterministic, PathAccepts, ends_of, marks_of, next_of}
use Rattle.span_enum.specs.Members.{Tuple, AreAnswersOf, IsMember}
use Rattle.span_enum.proofs.Exists.{answers-exist}
use Rattle.path_counts.specs.Paths.{stopped}
use Rattle.path_counts.proofs.Lists.{contains-map, map-contains, one-list, pairs-map}
use Rattle.path_counts.specs.Runs.{runs}
use Rattle.path_counts.proofs.Runs.{runs-back, runs-forth, runs-rise}
use Rattle.path_counts.proofs.Ways.{ways, ways-ext, ways-length}
use Rattle.path_counts.proofs.Numbers.{are_marks, precedes-apart, precedes-on}
use Rattle.count_tables.specs.Number.{IsNumber, endings}

word-end : (f : ℕ → ℕ) (p : ℕ) (s : List ℕ) → word_from f p (ended s) ≡ word_from f p s ++ (f (p + length s), 256) ∷ []
word-end f p [] = let same : p ≡ p + 0 = omega arith in ap (λ n. (f n, 256) ∷ []) same
word-end f p (b ∷ s) =
    let same : suc p + length s ≡ p + suc (length s) = omega arith in
    ap (λ w. (f p, b) ∷ w) (word-end f (suc p) s ∙ ap (λ n. word_from f (suc p) s ++ (f n, 256) ∷ []) same)

word-bytes : (f : ℕ → ℕ) (p : ℕ) (s : List ℕ) → bytes_of (word_from f p s) ≡ s
word-bytes f p [] = refl
word-bytes f p (b ∷ s) = ap (λ t. b ∷ t) (word-bytes f (suc p) s)

marked-is : (s : List ℕ) (t : Tuple) → marked s t ≡ (marked_text s t).pairs ++ ((marked_text s t).last, 256) ∷ []
marked-is s t =
    let same : 1 + length s ≡ suc (length s) = omega arith in
    word-end (mark_of t) 1 s ∙ ap (λ n. word_from (mark_of t) 1 s ++ (mark_of t n, 256) ∷ []) same

are-spans : (n : ℕ) (t : Tuple) → n ≤ 281474976710656 → Lies n t → AreSpans t
are-spans n [] short h = tt
are-spans n (None ∷ t) short h = are-spans n t short (λ v q e. h (suc v) q e)
are-spans n (Some x ∷ t) short h =
    let f = h 0 x refl in
    (record { positive = f.0; ordered = f.1; small = omega (arith, f.2) }, are-spans n t short (λ v q e. h (suc v) q e))

-- a state's last marks, as words over the end of the text
abbrev pub endings_at : DeterministicAutomaton → ℕ → List Marked
endings_at a q = map (λ m. (m, 256) ∷ []) (ends_of a q)

module _ (a : DeterministicAutomaton) (auto : IsDeterministic a) (s : List ℕ) (short : length s ≤ 281474976710656) where
  -- the accepted words, in mark order
  abbrev pub words : List Marked
  words = runs (next_of a) (marks_of a) false (endings_at a) s 0

  endings-rise : (q : ℕ) → AllPairs Precedes (endings_at a q)
  endings-rise q = pairs-map Precedes (λ m. (m, 256) ∷ []) (ends_of a q) (λ i j d lt l. inl (auto.ends_fall q i j d lt l))

  pub words-rise : AllPairs Precedes (runs (next_of a) (marks_of a) false (endings_at a) s 0)
  words-rise = runs-rise (next_of a) (marks_of a) (are_marks a auto) (endings_at a) endings-rise false s 0

  pub is-tuple : (t : Tuple) → IsMember a s t → IsTuple t
  is-tuple t m = record { few = omega (arith, m.size, auto.few_variables); spans = are-spans (length s) t short m.lies }

  -- the word of a member is one of them
  word-of : (t : Tuple) → IsMember a s t → Contains (runs (next_of a) (marks_of a) false (endings_at a) s 0) (marked s t)
  word-of t m =
      let w = (marked_text s t).pairs in
      let last = (marked_text s t).last in
      let found = runs-back (next_of a) (marks_of a) (are_marks a auto) false (endings_at a) w ((last, 256) ∷ []) 0 m.accepted.state (λ e. cc) m.accepted.leads
      (map-contains (λ n. (n, 256) ∷ []) (ends_of a m.accepted.state) last m.accepted.may_end) in
      subst (λ v. Contains (runs (next_of a) (marks_of a) false (endings_at a) s 0) v) (sym (marked-is s t))
      (subst (λ u. Contains (runs (next_of a) (marks_of a) false (endings_at a) u 0) (w ++ (last, 256) ∷ [])) (word-bytes (mark_of t) 1 s) found)

  -- and each of them is the word of a member
  member-of : (w : Marked) → Contains (runs (next_of a) (marks_of a) false (endings_at a) s 0) w → (t : Tuple) × (IsMember a s t × (marked s t ≡ w))
  member-of w c =
      let r = runs-forth (next_of a) (marks_of a) false (endings_at a) s 0 w c in
      let last = contains-map (λ n. (n, 256) ∷ []) (ends_of a r.state) r.rest r.goes_on in
      let text : MarkedText = record { pairs = r.word; last = last.0 } in
      let accepted : PathAccepts a text = record { state = r.state; leads = r.ends; may_end = last.1.0 } in
      let long : length r.word ≡ length s = sym (length-map r.word (λ x. x.1)) ∙ ap length r.bytes in
      let k = auto.accepted text (omega (arith, long, short)) accepted in
      let is : text ≡ marked_text s k.tuple = k.marks ∙ ap (λ u. marked_text u k.tuple) r.bytes in (
        k.tuple,
        (
          record { size = k.size; lies = subst (λ u. Lies (length u) k.tuple) r.bytes k.lies; accepted = subst (PathAccepts a) is accepted },
          marked-is s k.tuple ∙ ap (λ x. x.pairs ++ (x.last, 256) ∷ []) (sym is) ∙ ap (λ v. r.word ++ v) last.1.1 ∙ sym r.joined,
        ),
      )

  answers-rise : (ts : List Tuple) → AreAnswersOf a s ts → AllPairs Precedes (map (marked s) ts)
  answers-rise ts are = pairs-map Precedes (marked s) ts (λ i j d lt l.
      let t = get_or ts i d in
      let u = get_or ts j d in
      let mt = (are.members t).0 (Contains-get_or ts i d (omega (arith, lt, l))) in
      let mu = (are.members u).0 (Contains-get_or ts j d l) in
      (orders s t u (is-tuple t mt) (is-tuple u mu) (mt.size ∙ sym mu.size) mt.lies mu.lies).0 (are.rising i j d lt l))

  -- the words of the answers are all of them
  pub answers-words : (ts : List Tuple) → AreAnswersOf a s ts → map (marked s) ts ≡ runs (next_of a) (marks_of a) false (endings_at a) s 0
  answers-words ts are =
      one-list Precedes precedes-apart precedes-on (map (marked s) ts) (runs (next_of a) (marks_of a) false (endings_at a) s 0) (answers-rise ts are) words-rise
      (λ w c. let t = contains-map (marked s) ts w c in subst (λ v. Contains (runs (next_of a) (marks_of a) false (endings_at a) s 0) v) t.1.1 (word-of t.0 ((are.members t.0).0 t.1.0)))
      (λ w c. let t = member-of w c in subst (λ v. Contains (map (marked s) ts) v) t.1.1 (map-contains (marked s) ts t.0 ((are.members t.0).1 t.1.0)))

  pub answers-number : (ts : List Tuple) → AreAnswersOf a s ts → length ts ≡ ways (next_of a) (marks_of a) false (endings a) s 0
  answers-number ts are =
      sym (length-map ts (marked s)) ∙ ap length (answers-words ts are) ∙ ways-length (next_of a) (marks_of a) false (endings_at a) s 0
      ∙ ways-ext (next_of a) (marks_of a) false (λ q. length (endings_at a q)) (endings a) s 0 (λ q. length-map (ends_of a q) (λ m. (m, 256) ∷ []))

  pub number-is : (n : ℕ) → All (λ b. b < 256) s → n ≡ stopped (ways (next_of a) (marks_of a) false (endings a) s 0) → IsNumber a s n
  number-is n bytes e =
      let ts = answers-exist a auto s bytes short in
      record { answers = ts.0; all = ts.1; number = e ∙ ap stopped (sym (answers-number ts.0 ts.1)) }
