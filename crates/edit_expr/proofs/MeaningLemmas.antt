-- A text is the notation of at most one expression.
use Rattle.std.proofs.Common.{◌≡◌, ℕ, ◌+◌, ◌<◌, ◌^◌, max, Box, Global, List, [], ◌∷◌, ◌++◌, Option, Some, None, refl, sym, ap, subst, ◌∙◌, inl, inr, codes}
use Rattle.std.specs.Fmt.{decimal}
use Rattle.std.proofs.lemmas.Fmt.{decimal_injective}
use Rattle.edit_expr.specs.declared.expr.Expr.{Expr}
use Rattle.edit_expr.specs.declared.expr.Expr.TheVariants.{Doc, Concat', Extract', Delete', Insert', Copy'}
use Rattle.edit_expr.specs.declared.operation.Operation.{Operation}
use Rattle.edit_expr.specs.declared.operation.Operation.TheVariants as op
use Rattle.doc_book.specs.Texts.{Document}
use Rattle.edit_expr.specs.Eval.{Outcome, copied, deleted, eval, extracted, greatest, inserted, joined, named, onward, operations, reached, size}
use Rattle.edit_expr.specs.Expressions.{AreTokens, IsWritable, tokens, trimmed}
use Rattle.edit_expr.specs.Operations.{IsClosing, IsWordEnd, operation_named, word_of}
use Rattle.edit_expr.specs.Laws.{HaveOneMeaning, OneExpression}
use Rattle.edit_expr.proofs.WordLemmas.{AreLetters, closing_end, closing_shut, decimal_letters, name_letters, sign_end, tails, word_same}
use Rattle.edit_expr.proofs.PrefixLemmas.{named_itself, word_letters}

-- the operation of an expression, if it is one
abbrev kind : Expr → Option Operation
kind (Doc name) = None
kind (Concat' p l q r) = Some op.Concat
kind (Extract' p of i j) = Some op.Extract
kind (Delete' p of i j) = Some op.Delete
kind (Insert' p l q r k) = Some op.Insert
kind (Copy' p of i j k) = Some op.Copy

abbrev IsKind : List ℕ → List ℕ → Option Operation → Type 0
IsKind word rest None = (r : List ℕ) → trimmed rest ≡ 40 ∷ r → ⊥
IsKind word rest (Some k) = (word ≡ word_of k) × (b : List ℕ) × (trimmed rest ≡ 40 ∷ b)

-- the first word of a text, which is the keyword of an operation exactly if a bracket opens after it
record Start (k : Option Operation) (text : List ℕ) : Type 0 where
  word : List ℕ
  rest : List ℕ
  cut : trimmed text ≡ word ++ rest
  letters : AreLetters word
  ended : IsWordEnd rest
  is : IsKind word rest k

opened : (k : Operation) (text a b : List ℕ) → trimmed text ≡ word_of k ++ a → trimmed a ≡ 40 ∷ b → Start (Some k) text
opened k text a b w s = record { word = word_of k; rest = a; cut = w; letters = word_letters k; ended = sign_end 40 a b refl s; is = (refl, b, s) }

start : (e : Expr) (others : List (List ℕ)) (text : List ℕ) → IsWritable e → IsClosing others → AreTokens (tokens e others) text → Start (kind e) text
start (Doc name) others text h c (a, w, t) =
    record { word = name; rest = a; cut = w; letters = name_letters name h; ended = closing_end others a c t; is = λ r e. closing_shut others a r c t e }
start (Concat' p l q r) others text h c (a, w, (b, s, t)) = opened op.Concat text a b w s
start (Extract' p of i j) others text h c (a, w, (b, s, t)) = opened op.Extract text a b w s
start (Delete' p of i j) others text h c (a, w, (b, s, t)) = opened op.Delete text a b w s
start (Insert' p l q r k) others text h c (a, w, (b, s, t)) = opened op.Insert text a b w s
start (Copy' p of i j k) others text h c (a, w, (b, s, t)) = opened op.Copy text a b w s

same_kind : (k j : Option Operation) (text : List ℕ) → Start k text → Start j text → k ≡ j
same_kind k j text x y = by k j x.is y.is
  where
    same : (x.word ≡ y.word) × (x.rest ≡ y.rest)
    same = word_same x.word y.word x.rest y.rest x.letters y.letters x.ended y.ended (sym x.cut ∙ y.cut)

    by : (k j : Option Operation) → IsKind x.word x.rest k → IsKind y.word y.rest j → k ≡ j
    by None None a b = refl
    by None (Some j) a b = absurd (a b.1 (ap trimmed same.1 ∙ b.2))
    by (Some k) None a b = absurd (b a.1 (ap trimmed (sym same.1) ∙ a.2))
    by (Some k) (Some j) a b = sym (named_itself k) ∙ (ap operation_named (sym a.0 ∙ (same.0 ∙ b.0)) ∙ named_itself j)

-- one text that is both lists of tokens
abbrev Both : List (List ℕ) → List (List ℕ) → Type 0
Both o o2 = (rest : List ℕ) × AreTokens o rest × AreTokens o2 rest

after_sign : (s : ℕ) (o o2 : List (List ℕ)) (text : List ℕ) → AreTokens ((s ∷ []) ∷ o) text → AreTokens ((s ∷ []) ∷ o2) text → Both o o2
after_sign s o o2 text (a, x, t) (b, y, u) = (a, t, subst (AreTokens o2) (tails s s b a (sym y ∙ x)) u)

after_word : (k : Operation) (o o2 : List (List ℕ)) (text : List ℕ) → AreTokens (word_of k ∷ codes "(" ∷ o) text → AreTokens (word_of k ∷ codes "(" ∷ o2) text → Both o o2
after_word k o o2 text (a, w, (b, s, t)) (c, v, (d, r, u)) =
    let same = (word_same (word_of k) (word_of k) a c (word_letters k) (word_letters k) (sign_end 40 a b refl s) (sign_end 40 c d refl r) (sym w ∙ v)).1 in
    (b, t, subst (AreTokens o2) (tails 40 40 d b (sym r ∙ (ap trimmed (sym same) ∙ s))) u)

after_number : (n m : ℕ) (o o2 : List (List ℕ)) (text : List ℕ) → n < 2 ^ 64 → m < 2 ^ 64 → IsClosing o → IsClosing o2
    → AreTokens (codes "," ∷ decimal n ∷ o) text → AreTokens (codes "," ∷ decimal m ∷ o2) text → (n ≡ m) × Both o o2
after_number n m o o2 text hn hm c c2 x y = by (after_sign 44 (decimal n ∷ o) (decimal m ∷ o2) text x y)
  where
    by : Both (decimal n ∷ o) (decimal m ∷ o2) → (n ≡ m) × Both o o2
    by (rest, (a, w, t), (b, v, u)) =
        let same = word_same (decimal n) (decimal m) a b (decimal_letters n hn) (decimal_letters m hm) (closing_end o a c t) (closing_end o2 b c2 u) (sym w ∙ v) in
        (decimal_injective n m hn hm same.0, (a, t, subst (AreTokens o2) (sym same.1) u))

-- a range and the bracket after it
after_range : (i i2 j j2 : ℕ) (o o2 : List (List ℕ)) (text : List ℕ) → i < 2 ^ 64 → i2 < 2 ^ 64 → j < 2 ^ 64 → j2 < 2 ^ 64
    → AreTokens (codes "," ∷ decimal i ∷ codes "," ∷ decimal j ∷ codes ")" ∷ o) text → AreTokens (codes "," ∷ decimal i2 ∷ codes "," ∷ decimal j2 ∷ codes ")" ∷ o2) text → (i ≡ i2) × (j ≡ j2) × Both o o2
after_range i i2 j j2 o o2 text h h2 k k2 x y =
    let s = after_number i i2 (codes "," ∷ decimal j ∷ codes ")" ∷ o) (codes "," ∷ decimal j2 ∷ codes ")" ∷ o2) text h h2 (inl refl) (inl refl) x y in
    let t = after_number j j2 (codes ")" ∷ o) (codes ")" ∷ o2) s.1.0 k k2 (inr refl) (inr refl) s.1.1 s.1.2 in
    (s.0, t.0, after_sign 41 o o2 t.1.0 t.1.1 t.1.2)

-- an expression whose operation on its one operand is F
record IsOn (F : List ℕ → Outcome) (of e : Expr) : Type 0 where
  values : (docs : List Document) → eval docs e ≡ onward (eval docs of) F
  sizes : (docs : List Document) → greatest docs e ≡ max (greatest docs of) (size (eval docs e))
  counts : operations e ≡ operations of + 1

extract_on : (p : Box (Unit {0}) Global) (of : Expr) (i j : ℕ) → IsOn (λ d. extracted d i j) of (Extract' p of i j)
extract_on p of i j = record { values = λ docs. refl; sizes = λ docs. refl; counts = refl }

delete_on : (p : Box (Unit {0}) Global) (of : Expr) (i j : ℕ) → IsOn (λ d. deleted d i j) of (Delete' p of i j)
delete_on p of i j = record { values = λ docs. refl; sizes = λ docs. refl; counts = refl }

copy_on : (p : Box (Unit {0}) Global) (of : Expr) (i j k : ℕ) → IsOn (λ d. copied d i j k) of (Copy' p of i j k)
copy_on p of i j k = record { values = λ docs. refl; sizes = λ docs. refl; counts = refl }

-- the same operation on operands that have one meaning
same_on : (F G : List ℕ → Outcome) (of of2 e f : Expr) → IsOn F of e → IsOn G of2 f → F ≡ G → HaveOneMeaning of of2 → HaveOneMeaning e f
same_on F G of of2 e f x y is m =
    record { values = values; sizes = λ docs. x.sizes docs ∙ ((λ j. max (m.sizes docs j) (size (values docs j))) ∙ sym (y.sizes docs)); counts = x.counts ∙ ((λ j. m.counts j + 1) ∙ sym y.counts) }
  where
    values : (docs : List Document) → eval docs e ≡ eval docs f
    values docs = x.values docs ∙ ((λ j. onward (m.values docs j) (is j)) ∙ sym (y.values docs))

-- one meaning, and one text after both
record Same (e f : Expr) (o o2 : List (List ℕ)) : Type 0 where
  meaning : HaveOneMeaning e f
  after : Both o o2

-- what is between the brackets of two expressions that one text is the notation of
abbrev inside : Expr → List (List ℕ) → List (List ℕ)
inside (Doc name) o = o
inside (Concat' p l q r) o = tokens l (codes "," ∷ tokens r (codes ")" ∷ o))
inside (Extract' p of i j) o = tokens of (codes "," ∷ decimal i ∷ codes "," ∷ decimal j ∷ codes ")" ∷ o)
inside (Delete' p of i j) o = tokens of (codes "," ∷ decimal i ∷ codes "," ∷ decimal j ∷ codes ")" ∷ o)
inside (Insert' p l q r k) o = tokens l (codes "," ∷ tokens r (codes "," ∷ decimal k ∷ codes ")" ∷ o))
inside (Copy' p of i j k) o = tokens of (codes "," ∷ decimal i ∷ codes "," ∷ decimal j ∷ codes "," ∷ decimal k ∷ codes ")" ∷ o)

kinds : (e f : Expr) (o o2 : List (List ℕ)) (text : List ℕ) → IsWritable e → IsWritable f → IsClosing o → IsClosing o2
    → AreTokens (tokens e o) text → AreTokens (tokens f o2) text → kind e ≡ kind f
kinds e f o o2 text h h2 c c2 x y = same_kind (kind e) (kind f) text (start e o text h c x) (start f o2 text h2 c2 y)

same : (e f : Expr) (o o2 : List (List ℕ)) (text : List ℕ) → IsWritable e → IsWritable f → IsClosing o → IsClosing o2
    → AreTokens (tokens e o) text → AreTokens (tokens f o2) text → Same e f o o2
same (Doc n) (Doc m) o o2 text h h2 c c2 (a, w, t) (b, v, u) =
    let s = word_same n m a b (name_letters n h) (name_letters m h2) (closing_end o a c t) (closing_end o2 b c2 u) (sym w ∙ v) in
    record {
      meaning = record { values = λ docs x. named docs (s.0 x); sizes = λ docs x. size (named docs (s.0 x)); counts = refl };
      after = (a, t, subst (AreTokens o2) (sym s.1) u);
    }
same (Concat' p l q r) (Concat' p2 l2 q2 r2) o o2 text h h2 c c2 x y =
    let m = after_word op.Concat (inside (Concat' p l q r) o) (inside (Concat' p2 l2 q2 r2) o2) text x y in
    let a = same l l2 (codes "," ∷ tokens r (codes ")" ∷ o)) (codes "," ∷ tokens r2 (codes ")" ∷ o2)) m.0 h.0 h2.0 (inl refl) (inl refl) m.1 m.2 in
    let n = after_sign 44 (tokens r (codes ")" ∷ o)) (tokens r2 (codes ")" ∷ o2)) a.after.0 a.after.1 a.after.2 in
    let b = same r r2 (codes ")" ∷ o) (codes ")" ∷ o2) n.0 h.1 h2.1 (inr refl) (inr refl) n.1 n.2 in
    record {
      meaning = record {
        values = λ docs x. onward (a.meaning.values docs x) (λ d. onward (b.meaning.values docs x) (λ e. joined d e));
        sizes = λ docs x. max (a.meaning.sizes docs x) (reached (a.meaning.values docs x) (max (b.meaning.sizes docs x)
            (size (onward (a.meaning.values docs x) (λ d. onward (b.meaning.values docs x) (λ e. joined d e))))));
        counts = λ x. a.meaning.counts x + b.meaning.counts x + 1;
      };
      after = after_sign 41 o o2 b.after.0 b.after.1 b.after.2;
    }
same (Extract' p of i j) (Extract' p2 of2 i2 j2) o o2 text h h2 c c2 x y =
    let m = after_word op.Extract (inside (Extract' p of i j) o) (inside (Extract' p2 of2 i2 j2) o2) text x y in
    let a = same of of2 (codes "," ∷ decimal i ∷ codes "," ∷ decimal j ∷ codes ")" ∷ o) (codes "," ∷ decimal i2 ∷ codes "," ∷ decimal j2 ∷ codes ")" ∷ o2) m.0 h.0 h2.0 (inl refl) (inl refl) m.1 m.2 in
    let s = after_range i i2 j j2 o o2 a.after.0 h.1 h2.1 h.2 h2.2 a.after.1 a.after.2 in
    record { meaning = same_on _ _ of of2 _ _ (extract_on p of i j) (extract_on p2 of2 i2 j2) (λ k d. extracted d (s.0 k) (s.1 k)) a.meaning; after = s.2 }
same (Delete' p of i j) (Delete' p2 of2 i2 j2) o o2 text h h2 c c2 x y =
    let m = after_word op.Delete (inside (Delete' p of i j) o) (inside (Delete' p2 of2 i2 j2) o2) text x y in
    let a = same of of2 (codes "," ∷ decimal i ∷ codes "," ∷ decimal j ∷ codes ")" ∷ o) (codes "," ∷ decimal i2 ∷ codes "," ∷ decimal j2 ∷ codes ")" ∷ o2) m.0 h.0 h2.0 (inl refl) (inl refl) m.1 m.2 in
    let s = after_range i i2 j j2 o o2 a.after.0 h.1 h2.1 h.2 h2.2 a.after.1 a.after.2 in
    record { meaning = same_on _ _ of of2 _ _ (delete_on p of i j) (delete_on p2 of2 i2 j2) (λ k d. deleted d (s.0 k) (s.1 k)) a.meaning; after = s.2 }
same (Insert' p l q r n) (Insert' p2 l2 q2 r2 n2) o o2 text h h2 c c2 x y =
    let m = after_word op.Insert (inside (Insert' p l q r n) o) (inside (Insert' p2 l2 q2 r2 n2) o2) text x y in
    let a = same l l2 (codes "," ∷ tokens r (codes "," ∷ decimal n ∷ codes ")" ∷ o)) (codes "," ∷ tokens r2 (codes "," ∷ decimal n2 ∷ codes ")" ∷ o2)) m.0 h.0 h2.0 (inl refl) (inl refl) m.1 m.2 in
    let v = after_sign 44 (tokens r (codes "," ∷ decimal n ∷ codes ")" ∷ o)) (tokens r2 (codes "," ∷ decimal n2 ∷ codes ")" ∷ o2)) a.after.0 a.after.1 a.after.2 in
    let b = same r r2 (codes "," ∷ decimal n ∷ codes ")" ∷ o) (codes "," ∷ decimal n2 ∷ codes ")" ∷ o2) v.0 h.1 h2.1 (inl refl) (inl refl) v.1 v.2 in
    let s = after_number n n2 (codes ")" ∷ o) (codes ")" ∷ o2) b.after.0 h.2 h2.2 (inr refl) (inr refl) b.after.1 b.after.2 in
    record {
      meaning = record {
        values = λ docs x. onward (a.meaning.values docs x) (λ d. onward (b.meaning.values docs x) (λ e. inserted d e (s.0 x)));
        sizes = λ docs x. max (a.meaning.sizes docs x) (reached (a.meaning.values docs x) (max (b.meaning.sizes docs x)
            (size (onward (a.meaning.values docs x) (λ d. onward (b.meaning.values docs x) (λ e. inserted d e (s.0 x)))))));
        counts = λ x. a.meaning.counts x + b.meaning.counts x + 1;
      };
      after = after_sign 41 o o2 s.1.0 s.1.1 s.1.2;
    }
same (Copy' p of i j n) (Copy' p2 of2 i2 j2 n2) o o2 text h h2 c c2 x y =
    let m = after_word op.Copy (inside (Copy' p of i j n) o) (inside (Copy' p2 of2 i2 j2 n2) o2) text x y in
    let a = same of of2 (codes "," ∷ decimal i ∷ codes "," ∷ decimal j ∷ codes "," ∷ decimal n ∷ codes ")" ∷ o) (codes "," ∷ decimal i2 ∷ codes "," ∷ decimal j2 ∷ codes "," ∷ decimal n2 ∷ codes ")" ∷ o2) m.0 h.0 h2.0 (inl refl) (inl refl) m.1 m.2 in
    let s = after_number i i2 (codes "," ∷ decimal j ∷ codes "," ∷ decimal n ∷ codes ")" ∷ o) (codes "," ∷ decimal j2 ∷ codes "," ∷ decimal n2 ∷ codes ")" ∷ o2) a.after.0 h.1 h2.1 (inl refl) (inl refl) a.after.1 a.after.2 in
    let t = after_range j j2 n n2 o o2 s.1.0 h.2 h2.2 h.3 h2.3 s.1.1 s.1.2 in
    record { meaning = same_on _ _ of of2 _ _ (copy_on p of i j n) (copy_on p2 of2 i2 j2 n2) (λ k d. copied d (s.0 k) (t.0 k) (t.1 k)) a.meaning; after = t.2 }
same e f o o2 text h h2 c c2 x y = let bad : ⊥ = cc (kinds e f o o2 text h h2 c c2 x y) in absurd bad

pub one_expression : OneExpression
one_expression text e f x y =
    (same e f [] [] text x.writable y.writable tt tt x.written y.written).meaning
