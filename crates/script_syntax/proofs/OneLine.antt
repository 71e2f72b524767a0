-- A line is one command.
use Rattle.std.proofs.Common.{◌≡◌, ◌≢◌, ℕ, ◌<◌, ◌^◌, Bool, true, false, List, [], ◌∷◌, ◌++◌, refl, sym, ◌∙◌, ap, subst, arith, codes, inl, inr}
use Rattle.std.specs.Prelude.{Option, Some, None, ◌⊎◌, slice_get}
use Rattle.std.specs.Fmt.{decimal}
use Rattle.std.proofs.lemmas.Fmt.{decimal_injective}
use Rattle.line_parts.specs.NameList.{IsName}
use Rattle.line_parts.proofs.Cuts.{NoByte, from_test, decimal_plain, no_cut, one_cut}
use Rattle.line_parts.proofs.Names.{name_no_space}
use Rattle.script_syntax.specs.Syntax.{IsLimit, IsStart, LineText, Reads, limit_words, longest_words, spaced, start_words}
use Rattle.script_syntax.specs.Quoted.{IsQuoted}
use Rattle.script_syntax.proofs.Items.{one_quoted}
use Rattle.script_syntax.specs.Fields.{keyword_named, word_of}
use Rattle.script_syntax.specs.declared.form.ListStart.{ListStart}
use Rattle.script_syntax.specs.declared.form.ListStart.TheVariants.{First, After, At}
use Rattle.script_syntax.specs.declared.form.Command.{Command}
use Rattle.script_syntax.specs.declared.form.Command.TheVariants.{Nothing, Text, LoadFile, ShareFile, QuotedText, WriteFile, LetDoc, DropDoc, Names, Show, Query, Unquery, List as ListDoc, Count, Rank, Nonempty, Has, SaveFile, OpenFile, UnionQuery, JoinQuery, ProjectQuery, ListAll, ReplaceDoc, MarkDocs, UnmarkDocs, BackDocs, Compact}
use Rattle.script_syntax.specs.declared.keyword.Keyword.{Keyword}
use Rattle.script_syntax.specs.declared.keyword.Keyword.TheVariants as kw
use Rattle.script_syntax.proofs.Forms.{words_plain}
use Rattle.script_syntax.proofs.Named.{named_itself}
use Rattle.script_syntax.proofs.OptionWords.{word_plain}

-- what follows the word of a keyword, and the command that it makes
abbrev pub Body : Keyword → List ℕ → Command → Type 0
Body kw.Text args c = (name : List ℕ) × (bytes : List ℕ) × IsName name × (args ≡ name ++ 32 ∷ bytes) × (c ≡ Text name bytes)
Body kw.Load args c = (name : List ℕ) × (file : List ℕ) × IsName name × (args ≡ name ++ 32 ∷ file) × (c ≡ LoadFile name file)
Body kw.Share args c = (name : List ℕ) × (file : List ℕ) × IsName name × (args ≡ name ++ 32 ∷ file) × (c ≡ ShareFile name file)
Body kw.Bytes args c = (name : List ℕ) × (quoted : List ℕ) × (bytes : List ℕ) × IsName name × IsQuoted quoted bytes × (args ≡ name ++ 32 ∷ quoted) × (c ≡ QuotedText name bytes)
Body kw.Write args c = (name : List ℕ) × (file : List ℕ) × IsName name × (args ≡ name ++ 32 ∷ file) × (c ≡ WriteFile name file)
Body kw.Let args c = (name : List ℕ) × (expr : List ℕ) × IsName name × (args ≡ name ++ 32 ∷ (codes "=" ++ 32 ∷ expr)) × (c ≡ LetDoc name expr)
Body kw.Drop args c = c ≡ DropDoc args
Body kw.Names args c = ⊥
Body kw.Show args c = (name : List ℕ) × (from : ℕ) × (to : ℕ) × IsName name × (from < 2 ^ 64) × (to < 2 ^ 64) × (args ≡ name ++ 32 ∷ (decimal from ++ 32 ∷ decimal to)) × (c ≡ Show name from to)
Body kw.Query args c = (name : List ℕ) × (formula : List ℕ) × IsName name × (args ≡ name ++ 32 ∷ formula) × (c ≡ Query name formula)
Body kw.Unquery args c = c ≡ Unquery args
Body kw.List args c = (query : List ℕ) × (name : List ℕ) × (start : ListStart) × (given : Option ℕ) × (limit : ℕ) × IsName query × IsName name × IsStart start × IsLimit given limit
    × (args ≡ query ++ 32 ∷ spaced name (start_words start ++ limit_words given)) × (c ≡ ListDoc query name start limit)
Body kw.Count args c = (query : List ℕ) × (doc : List ℕ) × IsName query × (args ≡ query ++ 32 ∷ doc) × (c ≡ Count query doc)
Body kw.Rank args c = (query : List ℕ) × (doc : List ℕ) × (tuple : List ℕ) × IsName query × IsName doc × (args ≡ query ++ 32 ∷ (doc ++ 32 ∷ tuple)) × (c ≡ Rank query doc tuple)
Body kw.Test args c = (query : List ℕ) × (name : List ℕ) × IsName query × (args ≡ query ++ 32 ∷ name) × (c ≡ Nonempty query name)
Body kw.Has args c = (query : List ℕ) × (name : List ℕ) × (tuple : List ℕ) × IsName query × IsName name × (args ≡ query ++ 32 ∷ (name ++ 32 ∷ tuple)) × (c ≡ Has query name tuple)
Body kw.Save args c = c ≡ SaveFile args
Body kw.Open args c = c ≡ OpenFile args
Body kw.Union args c = (name : List ℕ) × (left : List ℕ) × (right : List ℕ) × IsName name × IsName left × (args ≡ name ++ 32 ∷ (left ++ 32 ∷ right)) × (c ≡ UnionQuery name left right)
Body kw.Join args c = (name : List ℕ) × (left : List ℕ) × (right : List ℕ) × IsName name × IsName left × (args ≡ name ++ 32 ∷ (left ++ 32 ∷ right)) × (c ≡ JoinQuery name left right)
Body kw.Project args c = (name : List ℕ) × (source : List ℕ) × (keep : List ℕ) × IsName name × IsName source × (args ≡ name ++ 32 ∷ (source ++ 32 ∷ keep)) × (c ≡ ProjectQuery name source keep)
Body kw.Listall args c = (query : List ℕ) × (given : Option ℕ) × (limit : ℕ) × IsName query × IsLimit given limit × (args ≡ spaced query (limit_words given)) × (c ≡ ListAll query limit)
Body kw.Replace args c = (name : List ℕ) × (query : List ℕ) × (source : List ℕ) × (by : List ℕ) × (longest : Bool) × IsName name × IsName query × IsName source × IsName by
    × (args ≡ name ++ 32 ∷ (query ++ 32 ∷ (source ++ 32 ∷ spaced by (longest_words longest)))) × (c ≡ ReplaceDoc name query source by longest)
Body kw.Mark args c = c ≡ MarkDocs args
Body kw.Unmark args c = c ≡ UnmarkDocs args
Body kw.Back args c = c ≡ BackDocs args
Body kw.Compact args c = ⊥

name_cut : (n m b d : List ℕ) → IsName n → IsName m → n ++ 32 ∷ b ≡ m ++ 32 ∷ d → (n ≡ m) × (b ≡ d)
name_cut n m b d named other e = one_cut 32 n b m d (name_no_space n named) (name_no_space m other) e

number_plain : (n : ℕ) → n < 2 ^ 64 → NoByte 32 (decimal n)
number_plain n fits = decimal_plain 32 n (λ digit. omega (arith, digit)) fits

-- words without a space
abbrev AllPlain : List (List ℕ) → Type 0
AllPlain [] = Unit {0}
AllPlain (word ∷ words) = NoByte 32 word × AllPlain words

limit_fits : (given : Option ℕ) (limit : ℕ) → IsLimit given limit → AllPlain (limit_words given)
limit_fits None limit lim = tt
limit_fits (Some n) limit lim = let high = lim.1 in (from_test 32 (codes "limit") refl, (number_plain n (omega (arith, high)), tt))

start_plain : (start : ListStart) (words : List (List ℕ)) → IsStart start → AllPlain words → AllPlain (start_words start ++ words)
start_plain First words starts plain = plain
start_plain (After word) words starts plain = (from_test 32 (codes "after") refl, (word_plain word starts, plain))
start_plain (At n) words starts plain = let high = starts.1 in (from_test 32 (codes "at") refl, (number_plain n (omega (arith, high)), plain))

same_words : (w v : List ℕ) (ws vs : List (List ℕ)) → NoByte 32 w → AllPlain ws → NoByte 32 v → AllPlain vs → spaced w ws ≡ spaced v vs → (w ≡ v) × (ws ≡ vs)
same_words w v [] [] p ps q qs e = (e, refl)
same_words w v [] (y ∷ vs) p ps q qs e = absurd (no_cut 32 v (spaced y vs) (subst (NoByte 32) e p))
same_words w v (x ∷ ws) [] p ps q qs e = absurd (no_cut 32 w (spaced x ws) (subst (NoByte 32) (sym e) q))
same_words w v (x ∷ ws) (y ∷ vs) p ps q qs e =
    let first = one_cut 32 w (spaced x ws) v (spaced y vs) p q e in
    let more = same_words x y ws vs ps.0 ps.1 qs.0 qs.1 first.1 in
    (first.0, (λ i. more.0 i ∷ more.1 i))

same_limit_words : (g h : Option ℕ) (m n : ℕ) → IsLimit g m → IsLimit h n → limit_words g ≡ limit_words h → m ≡ n
same_limit_words None None m n lim other e = lim ∙ sym other
same_limit_words None (Some k) m n lim other e = let bad : ⊥ = cc in absurd bad
same_limit_words (Some j) None m n lim other e = let bad : ⊥ = cc in absurd bad
same_limit_words (Some j) (Some k) m n lim other e =
    let digits : decimal j ≡ decimal k = cc in
    let high = lim.1 in
    let high_too = other.1 in
    lim.2 ∙ decimal_injective j k (omega (arith, high)) (omega (arith, high_too)) digits ∙ sym other.2

longest_plain : (longest : Bool) → AllPlain (longest_words longest)
longest_plain false = tt
longest_plain true = (from_test 32 (codes "longest") refl, tt)

same_longest : (x y : Bool) → longest_words x ≡ longest_words y → x ≡ y
same_longest false false e = refl
same_longest true true e = refl
same_longest false true e = let bad : ⊥ = cc in absurd bad
same_longest true false e = let bad : ⊥ = cc in absurd bad

-- two words are not one where they begin otherwise
first_byte : (a b : ℕ) (xs ys : List ℕ) → a ∷ xs ≡ b ∷ ys → a ≡ b
first_byte a b xs ys e = cc

apart : (a b : ℕ) (xs ys : List ℕ) → (a ≡ b → ⊥) → a ∷ xs ≡ b ∷ ys → ⊥
apart a b xs ys other e = other (first_byte a b xs ys e)

-- the first words of options, of which one may be missing
after_is_not_limit : (g : Option ℕ) (w : List ℕ) (ws : List (List ℕ)) → limit_words g ≡ codes "after" ∷ w ∷ ws → ⊥
after_is_not_limit None w ws e = let bad : ⊥ = cc in bad
after_is_not_limit (Some n) w ws e = let words : codes "limit" ≡ codes "after" = cc in apart 108 97 (codes "imit") (codes "fter") (λ same. omega (arith, same)) words

at_is_not_limit : (g : Option ℕ) (w : List ℕ) (ws : List (List ℕ)) → limit_words g ≡ codes "at" ∷ w ∷ ws → ⊥
at_is_not_limit None w ws e = let bad : ⊥ = cc in bad
at_is_not_limit (Some n) w ws e = let words : codes "limit" ≡ codes "at" = cc in apart 108 97 (codes "imit") (codes "t") (λ same. omega (arith, same)) words

after_is_not_at : codes "after" ≡ codes "at" → ⊥
after_is_not_at e = let tails : codes "fter" ≡ codes "t" = cc in apart 102 116 (codes "ter") [] (λ same. omega (arith, same)) tails

same_options : (a b : ListStart) (g h : Option ℕ) → IsStart a → IsStart b → start_words a ++ limit_words g ≡ start_words b ++ limit_words h → (a ≡ b) × (limit_words g ≡ limit_words h)
same_options First First g h p q e = (refl, e)
same_options First (After v) g h p q e = absurd (after_is_not_limit g v (limit_words h) e)
same_options First (At n) g h p q e = absurd (at_is_not_limit g (decimal n) (limit_words h) e)
same_options (After w) First g h p q e = absurd (after_is_not_limit h w (limit_words g) (sym e))
same_options (After w) (After v) g h p q e = let words : w ≡ v = cc in (ap After words, cc)
same_options (After w) (At n) g h p q e = let words : codes "after" ≡ codes "at" = cc in absurd (after_is_not_at words)
same_options (At m) First g h p q e = absurd (at_is_not_limit h (decimal m) (limit_words g) (sym e))
same_options (At m) (After v) g h p q e = let words : codes "at" ≡ codes "after" = cc in absurd (after_is_not_at (sym words))
same_options (At m) (At n) g h p q e =
    let digits : decimal m ≡ decimal n = cc in
    let high = p.1 in
    let high_too = q.1 in
    (ap At (decimal_injective m n (omega (arith, high)) (omega (arith, high_too)) digits), cc)

pub one_body : (k : Keyword) (args : List ℕ) (c d : Command) → Body k args c → Body k args d → c ≡ d
one_body kw.Text args c d (n, b, named, is, e) (m, b', other, is', e') = let p = name_cut n m b b' named other (sym is ∙ is') in e ∙ (λ i. Text (p.0 i) (p.1 i)) ∙ sym e'
one_body kw.Load args c d (n, b, named, is, e) (m, b', other, is', e') = let p = name_cut n m b b' named other (sym is ∙ is') in e ∙ (λ i. LoadFile (p.0 i) (p.1 i)) ∙ sym e'
one_body kw.Share args c d (n, b, named, is, e) (m, b', other, is', e') = let p = name_cut n m b b' named other (sym is ∙ is') in e ∙ (λ i. ShareFile (p.0 i) (p.1 i)) ∙ sym e'
one_body kw.Write args c d (n, b, named, is, e) (m, b', other, is', e') = let p = name_cut n m b b' named other (sym is ∙ is') in e ∙ (λ i. WriteFile (p.0 i) (p.1 i)) ∙ sym e'
one_body kw.Bytes args c d (n, t, b, named, items, is, e) (m, t', b', other, items', is', e') =
    let p = name_cut n m t t' named other (sym is ∙ is') in
    let q = one_quoted t' b b' (subst (λ z. IsQuoted z b) p.1 items) items' in
    e ∙ (λ i. QuotedText (p.0 i) (q i)) ∙ sym e'
one_body kw.Query args c d (n, b, named, is, e) (m, b', other, is', e') = let p = name_cut n m b b' named other (sym is ∙ is') in e ∙ (λ i. Query (p.0 i) (p.1 i)) ∙ sym e'
one_body kw.Test args c d (n, b, named, is, e) (m, b', other, is', e') = let p = name_cut n m b b' named other (sym is ∙ is') in e ∙ (λ i. Nonempty (p.0 i) (p.1 i)) ∙ sym e'
one_body kw.Let args c d (n, b, named, is, e) (m, b', other, is', e') =
    let p = name_cut n m (codes "=" ++ 32 ∷ b) (codes "=" ++ 32 ∷ b') named other (sym is ∙ is') in
    let q = one_cut 32 (codes "=") b (codes "=") b' (from_test 32 (codes "=") refl) (from_test 32 (codes "=") refl) p.1 in
    e ∙ (λ i. LetDoc (p.0 i) (q.1 i)) ∙ sym e'
one_body kw.Drop args c d e e' = e ∙ sym e'
one_body kw.Unquery args c d e e' = e ∙ sym e'
one_body kw.Save args c d e e' = e ∙ sym e'
one_body kw.Open args c d e e' = e ∙ sym e'
one_body kw.Mark args c d e e' = e ∙ sym e'
one_body kw.Unmark args c d e e' = e ∙ sym e'
one_body kw.Back args c d e e' = e ∙ sym e'
one_body kw.Names args c d e e' = absurd e
one_body kw.Compact args c d e e' = absurd e
one_body kw.Show args c d (n, f, t, named, fit, tit, is, e) (m, f', t', other, fit', tit', is', e') =
    let p = name_cut n m (decimal f ++ 32 ∷ decimal t) (decimal f' ++ 32 ∷ decimal t') named other (sym is ∙ is') in
    let q = one_cut 32 (decimal f) (decimal t) (decimal f') (decimal t') (number_plain f fit) (number_plain f' fit') p.1 in
    let from = decimal_injective f f' fit fit' q.0 in
    let to = decimal_injective t t' tit tit' q.1 in
    e ∙ (λ i. Show (p.0 i) (from i) (to i)) ∙ sym e'
one_body kw.Has args c d (n, l, r, named, lnamed, is, e) (m, l', r', other, lother, is', e') =
    let p = name_cut n m (l ++ 32 ∷ r) (l' ++ 32 ∷ r') named other (sym is ∙ is') in let q = name_cut l l' r r' lnamed lother p.1 in e ∙ (λ i. Has (p.0 i) (q.0 i) (q.1 i)) ∙ sym e'
one_body kw.Union args c d (n, l, r, named, lnamed, is, e) (m, l', r', other, lother, is', e') =
    let p = name_cut n m (l ++ 32 ∷ r) (l' ++ 32 ∷ r') named other (sym is ∙ is') in let q = name_cut l l' r r' lnamed lother p.1 in e ∙ (λ i. UnionQuery (p.0 i) (q.0 i) (q.1 i)) ∙ sym e'
one_body kw.Join args c d (n, l, r, named, lnamed, is, e) (m, l', r', other, lother, is', e') =
    let p = name_cut n m (l ++ 32 ∷ r) (l' ++ 32 ∷ r') named other (sym is ∙ is') in let q = name_cut l l' r r' lnamed lother p.1 in e ∙ (λ i. JoinQuery (p.0 i) (q.0 i) (q.1 i)) ∙ sym e'
one_body kw.Project args c d (n, l, r, named, lnamed, is, e) (m, l', r', other, lother, is', e') =
    let p = name_cut n m (l ++ 32 ∷ r) (l' ++ 32 ∷ r') named other (sym is ∙ is') in let q = name_cut l l' r r' lnamed lother p.1 in e ∙ (λ i. ProjectQuery (p.0 i) (q.0 i) (q.1 i)) ∙ sym e'
one_body kw.Replace args c d (n, l, r, b, x, named, lnamed, rnamed, bnamed, is, e) (m, l', r', b', x', other, lother, rother, bother, is', e') =
    let w : List ℕ = spaced b (longest_words x) in
    let w' : List ℕ = spaced b' (longest_words x') in
    let p = name_cut n m (l ++ 32 ∷ (r ++ 32 ∷ w)) (l' ++ 32 ∷ (r' ++ 32 ∷ w')) named other (sym is ∙ is') in
    let q = name_cut l l' (r ++ 32 ∷ w) (r' ++ 32 ∷ w') lnamed lother p.1 in
    let s = name_cut r r' w w' rnamed rother q.1 in
    let t = same_words b b' (longest_words x) (longest_words x') (name_no_space b bnamed) (longest_plain x) (name_no_space b' bother) (longest_plain x') s.1 in
    let u = same_longest x x' t.1 in
    e ∙ (λ i. ReplaceDoc (p.0 i) (q.0 i) (s.0 i) (t.0 i) (u i)) ∙ sym e'
one_body kw.Listall args c d (n, g, l, named, lim, is, e) (m, g', l', other, lim', is', e') =
    let p = same_words n m (limit_words g) (limit_words g') (name_no_space n named) (limit_fits g l lim) (name_no_space m other) (limit_fits g' l' lim') (sym is ∙ is') in
    let limits = same_limit_words g g' l l' lim lim' p.1 in
    e ∙ (λ i. ListAll (p.0 i) (limits i)) ∙ sym e'
one_body kw.Count args c d (n, b, named, is, e) (m, b', other, is', e') = let p = name_cut n m b b' named other (sym is ∙ is') in e ∙ (λ i. Count (p.0 i) (p.1 i)) ∙ sym e'
one_body kw.Rank args c d (n, l, r, named, lnamed, is, e) (m, l', r', other, lother, is', e') =
    let p = name_cut n m (l ++ 32 ∷ r) (l' ++ 32 ∷ r') named other (sym is ∙ is') in let q = name_cut l l' r r' lnamed lother p.1 in e ∙ (λ i. Rank (p.0 i) (q.0 i) (q.1 i)) ∙ sym e'
one_body kw.List args c d (q, n, a, g, l, queried, named, starts, lim, is, e) (r, m, b, h, k, queried', other, starts', lim', is', e') =
    let first = name_cut q r (spaced n (start_words a ++ limit_words g)) (spaced m (start_words b ++ limit_words h)) queried queried' (sym is ∙ is') in
    let p = same_words n m (start_words a ++ limit_words g) (start_words b ++ limit_words h) (name_no_space n named) (start_plain a (limit_words g) starts (limit_fits g l lim))
    (name_no_space m other) (start_plain b (limit_words h) starts' (limit_fits h k lim')) first.1 in
    let options = same_options a b g h starts starts' p.1 in
    let limits = same_limit_words g h l k lim lim' options.1 in
    e ∙ (λ i. ListDoc (first.0 i) (p.0 i) (options.0 i) (limits i)) ∙ sym e'

-- what a line may be, with its command
pub data FormOf (line : List ℕ) (command : Command) : Type 0 where
  quiet_of : (line ≡ []) ⊎ (slice_get line 0 ≡ Some 35) → command ≡ Nothing → FormOf line command
  names_of : line ≡ codes "names" → command ≡ Names → FormOf line command
  compact_of : line ≡ codes "compact" → command ≡ Compact → FormOf line command
  behind_of : (k : Keyword) (args : List ℕ) → line ≡ word_of k ++ 32 ∷ args → Body k args command → FormOf line command

read_form : (line : List ℕ) (command : Command) → Reads line command → FormOf line command
read_form line Nothing quiet = quiet_of quiet refl
read_form line Names is = names_of is refl
read_form line Compact is = compact_of is refl
read_form line (Text n b) (named, is) = behind_of kw.Text (n ++ 32 ∷ b) is (n, b, named, refl, refl)
read_form line (LoadFile n b) (named, filed, is) = behind_of kw.Load (n ++ 32 ∷ b) is (n, b, named, refl, refl)
read_form line (ShareFile n b) (named, filed, is) = behind_of kw.Share (n ++ 32 ∷ b) is (n, b, named, refl, refl)
read_form line (QuotedText n b) (named, quoted, items, is) = behind_of kw.Bytes (n ++ 32 ∷ quoted) is (n, quoted, b, named, items, refl, refl)
read_form line (WriteFile n b) (named, filed, is) = behind_of kw.Write (n ++ 32 ∷ b) is (n, b, named, refl, refl)
read_form line (LetDoc n b) (named, is) = behind_of kw.Let (n ++ 32 ∷ (codes "=" ++ 32 ∷ b)) is (n, b, named, refl, refl)
read_form line (DropDoc n) (named, is) = behind_of kw.Drop n is refl
read_form line (Show n f t) (named, fit, tit, is) = behind_of kw.Show (n ++ 32 ∷ (decimal f ++ 32 ∷ decimal t)) is (n, f, t, named, fit, tit, refl, refl)
read_form line (Query n b) (named, is) = behind_of kw.Query (n ++ 32 ∷ b) is (n, b, named, refl, refl)
read_form line (Unquery n) (named, is) = behind_of kw.Unquery n is refl
read_form line (ListDoc q n a l) (queried, named, starts, g, lim, is) = behind_of kw.List (q ++ 32 ∷ spaced n (start_words a ++ limit_words g)) is (q, n, a, g, l, queried, named, starts, lim, refl, refl)
read_form line (Count q n) (queried, named, is) = behind_of kw.Count (q ++ 32 ∷ n) is (q, n, queried, refl, refl)
read_form line (Rank q n t) (queried, named, worded, is) = behind_of kw.Rank (q ++ 32 ∷ (n ++ 32 ∷ t)) is (q, n, t, queried, named, refl, refl)
read_form line (Nonempty q n) (queried, named, is) = behind_of kw.Test (q ++ 32 ∷ n) is (q, n, queried, refl, refl)
read_form line (Has q n t) (queried, named, worded, is) = behind_of kw.Has (q ++ 32 ∷ (n ++ 32 ∷ t)) is (q, n, t, queried, named, refl, refl)
read_form line (SaveFile f) (filed, is) = behind_of kw.Save f is refl
read_form line (OpenFile f) (filed, is) = behind_of kw.Open f is refl
read_form line (UnionQuery n l r) (named, lnamed, rnamed, is) = behind_of kw.Union (n ++ 32 ∷ (l ++ 32 ∷ r)) is (n, l, r, named, lnamed, refl, refl)
read_form line (JoinQuery n l r) (named, lnamed, rnamed, is) = behind_of kw.Join (n ++ 32 ∷ (l ++ 32 ∷ r)) is (n, l, r, named, lnamed, refl, refl)
read_form line (ProjectQuery n l r) (named, lnamed, kept, is) = behind_of kw.Project (n ++ 32 ∷ (l ++ 32 ∷ r)) is (n, l, r, named, lnamed, refl, refl)
read_form line (ListAll q l) (queried, g, lim, is) = behind_of kw.Listall (spaced q (limit_words g)) is (q, g, l, queried, lim, refl, refl)
read_form line (ReplaceDoc n l r b x) (named, lnamed, rnamed, bnamed, is) =
    behind_of kw.Replace (n ++ 32 ∷ (l ++ 32 ∷ (r ++ 32 ∷ spaced b (longest_words x)))) is (n, l, r, b, x, named, lnamed, rnamed, bnamed, refl, refl)
read_form line (MarkDocs n) (named, is) = behind_of kw.Mark n is refl
read_form line (UnmarkDocs n) (named, is) = behind_of kw.Unmark n is refl
read_form line (BackDocs n) (named, is) = behind_of kw.Back n is refl

-- a word that begins with another byte than `#`
pub record IsLoud (word : List ℕ) : Type 0 where
  pub first : ℕ
  pub rest : List ℕ
  pub is : word ≡ first ∷ rest
  pub loud : first ≢ 35

loud_word : (k : Keyword) → IsLoud (word_of k)
loud_word kw.Text = record { first = 116; rest = codes "ext"; is = refl; loud = λ e. omega (arith, e) }
loud_word kw.Load = record { first = 108; rest = codes "oad"; is = refl; loud = λ e. omega (arith, e) }
loud_word kw.Share = record { first = 115; rest = codes "hare"; is = refl; loud = λ e. omega (arith, e) }
loud_word kw.Bytes = record { first = 98; rest = codes "ytes"; is = refl; loud = λ e. omega (arith, e) }
loud_word kw.Write = record { first = 119; rest = codes "rite"; is = refl; loud = λ e. omega (arith, e) }
loud_word kw.Let = record { first = 108; rest = codes "et"; is = refl; loud = λ e. omega (arith, e) }
loud_word kw.Drop = record { first = 100; rest = codes "rop"; is = refl; loud = λ e. omega (arith, e) }
loud_word kw.Names = record { first = 110; rest = codes "ames"; is = refl; loud = λ e. omega (arith, e) }
loud_word kw.Show = record { first = 115; rest = codes "how"; is = refl; loud = λ e. omega (arith, e) }
loud_word kw.Query = record { first = 113; rest = codes "uery"; is = refl; loud = λ e. omega (arith, e) }
loud_word kw.Unquery = record { first = 117; rest = codes "nquery"; is = refl; loud = λ e. omega (arith, e) }
loud_word kw.List = record { first = 108; rest = codes "ist"; is = refl; loud = λ e. omega (arith, e) }
loud_word kw.Count = record { first = 99; rest = codes "ount"; is = refl; loud = λ e. omega (arith, e) }
loud_word kw.Rank = record { first = 114; rest = codes "ank"; is = refl; loud = λ e. omega (arith, e) }
loud_word kw.Test = record { first = 116; rest = codes "est"; is = refl; loud = λ e. omega (arith, e) }
loud_word kw.Has = record { first = 104; rest = codes "as"; is = refl; loud = λ e. omega (arith, e) }
loud_word kw.Save = record { first = 115; rest = codes "ave"; is = refl; loud = λ e. omega (arith, e) }
loud_word kw.Open = record { first = 111; rest = codes "pen"; is = refl; loud = λ e. omega (arith, e) }
loud_word kw.Union = record { first = 117; rest = codes "nion"; is = refl; loud = λ e. omega (arith, e) }
loud_word kw.Join = record { first = 106; rest = codes "oin"; is = refl; loud = λ e. omega (arith, e) }
loud_word kw.Project = record { first = 112; rest = codes "roject"; is = refl; loud = λ e. omega (arith, e) }
loud_word kw.Listall = record { first = 108; rest = codes "istall"; is = refl; loud = λ e. omega (arith, e) }
loud_word kw.Replace = record { first = 114; rest = codes "eplace"; is = refl; loud = λ e. omega (arith, e) }
loud_word kw.Mark = record { first = 109; rest = codes "ark"; is = refl; loud = λ e. omega (arith, e) }
loud_word kw.Unmark = record { first = 117; rest = codes "nmark"; is = refl; loud = λ e. omega (arith, e) }
loud_word kw.Back = record { first = 98; rest = codes "ack"; is = refl; loud = λ e. omega (arith, e) }
loud_word kw.Compact = record { first = 99; rest = codes "ompact"; is = refl; loud = λ e. omega (arith, e) }

-- a line that begins so is not quiet
not_quiet : (line word rest : List ℕ) → IsLoud word → line ≡ word ++ rest → (line ≡ []) ⊎ (slice_get line 0 ≡ Some 35) → ⊥
not_quiet line word rest l is (inl none) = let e : l.first ∷ (l.rest ++ rest) ≡ [] = ap (λ (w : List ℕ). w ++ rest) (sym l.is) ∙ sym is ∙ none in let bad : ⊥ = cc in bad
not_quiet line word rest l is (inr hash) =
    let e : slice_get (l.first ∷ (l.rest ++ rest)) 0 ≡ Some 35 = ap (λ (w : List ℕ). slice_get w 0) (ap (λ (w : List ℕ). w ++ rest) (sym l.is) ∙ sym is) ∙ hash in
    let same : l.first ≡ 35 = cc in
    l.loud same

bare_word : (k : Keyword) (line args : List ℕ) → line ≡ word_of k → NoByte 32 line
bare_word k line args is = subst (NoByte 32) (sym is) (words_plain k)

one_form : (line : List ℕ) (c d : Command) → FormOf line c → FormOf line d → c ≡ d
one_form line c d (quiet_of quiet e) (quiet_of other e') = e ∙ sym e'
one_form line c d (quiet_of quiet e) (names_of is e') = absurd (not_quiet line (codes "names") [] (loud_word kw.Names) is quiet)
one_form line c d (quiet_of quiet e) (compact_of is e') = absurd (not_quiet line (codes "compact") [] (loud_word kw.Compact) is quiet)
one_form line c d (quiet_of quiet e) (behind_of k args is body) = absurd (not_quiet line (word_of k) (32 ∷ args) (loud_word k) is quiet)
one_form line c d (names_of is e) (quiet_of quiet e') = absurd (not_quiet line (codes "names") [] (loud_word kw.Names) is quiet)
one_form line c d (names_of is e) (names_of is' e') = e ∙ sym e'
one_form line c d (names_of is e) (compact_of is' e') = absurd (apart 110 99 (codes "ames") (codes "ompact") (λ same. omega (arith, same)) (sym is ∙ is'))
one_form line c d (names_of is e) (behind_of k args is' body) = absurd (no_cut 32 (word_of k) args (subst (NoByte 32) is' (bare_word kw.Names line args is)))
one_form line c d (compact_of is e) (quiet_of quiet e') = absurd (not_quiet line (codes "compact") [] (loud_word kw.Compact) is quiet)
one_form line c d (compact_of is e) (names_of is' e') = absurd (apart 99 110 (codes "ompact") (codes "ames") (λ same. omega (arith, same)) (sym is ∙ is'))
one_form line c d (compact_of is e) (compact_of is' e') = e ∙ sym e'
one_form line c d (compact_of is e) (behind_of k args is' body) = absurd (no_cut 32 (word_of k) args (subst (NoByte 32) is' (bare_word kw.Compact line args is)))
one_form line c d (behind_of k args is body) (quiet_of quiet e') = absurd (not_quiet line (word_of k) (32 ∷ args) (loud_word k) is quiet)
one_form line c d (behind_of k args is body) (names_of is' e') = absurd (no_cut 32 (word_of k) args (subst (NoByte 32) is (bare_word kw.Names line args is')))
one_form line c d (behind_of k args is body) (compact_of is' e') = absurd (no_cut 32 (word_of k) args (subst (NoByte 32) is (bare_word kw.Compact line args is')))
one_form line c d (behind_of k args is body) (behind_of j more is' other) =
    let same = one_cut 32 (word_of k) args (word_of j) more (words_plain k) (words_plain j) (sym is ∙ is') in
    let keys : Some k ≡ Some j = sym (named_itself k) ∙ ap keyword_named same.0 ∙ named_itself j in
    let key : k ≡ j = cc in
    let P : Keyword → Type 0 = λ i. Body i args d in
    one_body k args c d body (subst P (sym key) (subst (λ (a : List ℕ). Body j a d) (sym same.1) other))

pub one_command_of : (line : List ℕ) (command other : Command) → LineText line command → LineText line other → command ≡ other
one_command_of line command other text too = one_form line command other (read_form line command text.form) (read_form line other too.form)
