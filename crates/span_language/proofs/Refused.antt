-- A command is either accepted or has exactly one first rejection.
use Rattle.std.proofs.Common.{◌≡◌, ◌<◌, ◌≤◌, ◌^◌, ◌⊎◌, ℕ, Bool, List, None, length, sym, ◌∙◌, ap, subst, inl, inr, arith}
use Rattle.span_language.proofs.Names.{BadImage, Command, Does, IsAsked, IsListReply, IsNumberOf, IsNumberReply, IsRankOf, IsRefused, IsRegistered, IsSettled, Join, LetDoc, load_size}
use Rattle.span_language.proofs.Names.{LoadFile, most_spans, open_size, OpenFile, Query, Refusal, replaced, SaveFile, ShareFile, Show, shown, Span, TooLong, TooManyMatches, Tuple, Union}
use Rattle.span_language.proofs.Names.{value_of, World, WriteFile}
use Rattle.script_syntax.specs.declared.form.Command.TheVariants as form
use Rattle.span_language.proofs.Accepted.{no_put}
use Rattle.span_language.proofs.Values.{are_told, no_value, not_both, one_err, one_file_refusal, one_within, within_read}
use Rattle.span_language.proofs.Images.{image_once, one_fault}
use Rattle.span_language.proofs.Expressions.{one_edit_refusal, text_once as value_once}
use Rattle.span_language.proofs.Questions.{asked_once, both_asked, one_replacing, one_unasked, one_unreplaced, replacing_once}
use Rattle.span_language.proofs.Names.{After, At, First, IsStartRefused, IsTupleRefused, IsUnaskedOf, ListStart, names_of, TupleText}
use Rattle.span_language.proofs.Numbers.{number_once, one_number, one_rank, one_too_many}
use Rattle.span_language.proofs.Texts.{one_start_refusal, one_text_refusal, one_tuple, text_once, tuple_once}
use Rattle.span_language.proofs.Combinations.{one_pair_refusal, one_project_refusal, pair_once, project_once}
use Rattle.span_language.proofs.Listings.{one_choice}

-- a replacement that is rejected: it has too many spans, or its text is too long
abbrev IsTooMuch : List ℕ → List ℕ → List Span → Refusal → Type 0
IsTooMuch text other spans why = ((most_spans < length spans) × (why ≡ TooManyMatches))
    ⊎ ((length spans ≤ most_spans) × (2 ^ 48 < length (replaced text spans other)) × (why ≡ TooLong (length (replaced text spans other))))

much : (t w : List ℕ) (spans : List Span) (why other : Refusal) → IsTooMuch t w spans why → IsTooMuch t w spans other → why ≡ other
much t w spans why other h k = grind arith

not_much : (t w : List ℕ) (spans : List Span) (why : Refusal) → length spans ≤ most_spans → length (replaced t spans w) ≤ 2 ^ 48 → IsTooMuch t w spans why → ⊥
not_much t w spans why few short h = grind arith

as_first : (t u w v : List ℕ) (spans other : List Span) (why : Refusal) → t ≡ u → w ≡ v → spans ≡ other → IsTooMuch u v other why → IsTooMuch t w spans why
as_first t u w v spans other why e f g h =
    subst (λ (z : List ℕ). IsTooMuch z w spans why) (sym e) (subst (λ (z : List ℕ). IsTooMuch u z spans why) (sym f) (subst (λ (z : List Span). IsTooMuch u v z why) (sym g) h))

module _ (old : World) where
  editing : (name expr : List ℕ) (why other : Refusal) → IsRefused old (LetDoc name expr) why → IsRefused old (LetDoc name expr) other → why ≡ other
  editing name expr why other (inl h) (inl k) = h.1 ∙ sym k.1
  editing name expr why other (inl h) (inr (f, t, reads, value, is)) = absurd (h.0 f reads)
  editing name expr why other (inr (e, r, reads, value, is)) (inl k) = absurd (k.0 e reads)
  editing name expr why other (inr (e, r, reads, value, is)) (inr (f, t, reads2, value2, is2)) =
      one_edit_refusal old.state.documents expr e f r t why other reads reads2 value value2 is is2

  opening : (file : List ℕ) (why other : Refusal) → (old.files ≡ None → ⊥) → IsRefused old (OpenFile file) why → IsRefused old (OpenFile file) other → why ≡ other
  opening file why other told (inl h) (inl k) = one_file_refusal file open_size old.files why other told h k
  opening file why other told (inl h) (inr (c, kind, k, fault, is)) = absurd (within_read file open_size old.files c why told k h)
  opening file why other told (inr (b, kind, h, fault, is)) (inl k) = absurd (within_read file open_size old.files b other told h k)
  opening file why other told (inr (b, kind, h, fault, is)) (inr (c, kind2, k, fault2, it)) =
      is ∙ ap BadImage (one_fault b c kind kind2 (one_within file open_size old.files b c told h k) fault fault2) ∙ sym it

  -- a listing, and a question about a tuple, which is rejected as a listing after the tuple is
  listing : (query name : List ℕ) (start : ListStart) (limit : ℕ) (why other : Refusal) → IsRefused old (form.List query name start limit) why → IsRefused old (form.List query name start limit) other → why ≡ other
  listing query name start limit why other (inl h) (inl k) = one_unasked old query name why other h k
  listing query name start limit why other (inl h) (inr (p, u, k, is)) = absurd (asked_once old query name p u why k h)
  listing query name start limit why other (inr (q, t, h, is)) (inl k) = absurd (asked_once old query name q t other h k)
  listing query name start limit why other (inr (q, t, h, is)) (inr (p, u, k, it)) =
      both_asked old query name q p t u (λ z _. IsStartRefused z start why) (λ z _. IsStartRefused z start other) (why ≡ other) h k is it (one_start_refusal q start why other)

  tuple_asked : (query name word : List ℕ) (q : Query) (t : List ℕ) (c : Tuple) (why : Refusal) → IsAsked old query name q t → TupleText word (names_of q) c → IsUnaskedOf old query name word why → ⊥
  tuple_asked query name word q t c why h of (inl k) = asked_once old query name q t why h k
  tuple_asked query name word q t c why h of (inr (p, u, k, is)) =
      both_asked old query name q p t u (λ z _. TupleText word (names_of z) c) (λ z _. IsTupleRefused z word why) ⊥ h k of is (tuple_once q word c why)

  listed_once : (query name : List ℕ) (start : ListStart) (limit : ℕ) (q : Query) (t r : List ℕ) (why : Refusal) → IsAsked old query name q t → IsListReply q t start limit r
      → IsRefused old (form.List query name start limit) why → ⊥
  listed_once query name start limit q t r why h is (inl k) = asked_once old query name q t why h k
  listed_once query name First limit q t r why h is (inr (p, u, k, bad)) = absurd bad
  listed_once query name (After word) limit q t r why h is (inr k) = let from = is.page_is in tuple_asked query name word q t from.0 why h from.1 (inr k)
  listed_once query name (At m) limit q t r why h is (inr (p, u, k, bad)) = absurd bad

  counting : (query name : List ℕ) (why other : Refusal) → IsRefused old (form.Count query name) why → IsRefused old (form.Count query name) other → why ≡ other
  counting query name why other (inl h) (inl k) = one_unasked old query name why other h k
  counting query name why other (inl h) (inr (p, u, b, k, it, many)) = absurd (asked_once old query name p u why k h)
  counting query name why other (inr (q, t, a, h, is, many)) (inl k) = absurd (asked_once old query name q t other h k)
  counting query name why other (inr (q, t, a, h, is, many)) (inr (p, u, b, k, it, more)) = one_too_many a b why other many more

  counted_once : (query name : List ℕ) (q : Query) (t r : List ℕ) (n : ℕ) (why : Refusal) → IsAsked old query name q t → IsNumberOf q t n → IsNumberReply n r → IsRefused old (form.Count query name) why → ⊥
  counted_once query name q t r n why h is reply (inl k) = asked_once old query name q t why h k
  counted_once query name q t r n why h is reply (inr (p, u, b, k, it, many)) =
      number_once n b r why (both_asked old query name q p t u (λ q t. IsNumberOf q t n) (λ q t. IsNumberOf q t b) (n ≡ b) h k is it (one_number q t n b)) reply many

  ranking : (query name word : List ℕ) (why other : Refusal) → IsRefused old (form.Rank query name word) why → IsRefused old (form.Rank query name word) other → why ≡ other
  ranking query name word why other (inl h) (inl k) = listing query name (After word) 0 why other h k
  ranking query name word why other (inl h) (inr (p, u, y, b, k, text, it, many)) = absurd (tuple_asked query name word p u y why k text h)
  ranking query name word why other (inr (q, t, x, a, h, text, is, many)) (inl k) = absurd (tuple_asked query name word q t x other h text k)
  ranking query name word why other (inr (q, t, x, a, h, text, is, many)) (inr (p, u, y, b, k, text2, it, more)) = one_too_many a b why other many more

  ranked_once : (query name word : List ℕ) (q : Query) (t r : List ℕ) (x : Tuple) (n : ℕ) (why : Refusal) → IsAsked old query name q t → TupleText word (names_of q) x → IsRankOf q t x n
      → IsNumberReply n r → IsRefused old (form.Rank query name word) why → ⊥
  ranked_once query name word q t r x n why h text is reply (inl k) = tuple_asked query name word q t x why h text k
  ranked_once query name word q t r x n why h text is reply (inr (p, u, y, b, k, text2, it, many)) =
      let R : Query → List ℕ → Type 0 = λ q t. TupleText word (names_of q) y × IsRankOf q t y b in
      let same = both_asked old query name q p t u (λ q t. IsRankOf q t x n) R (n ≡ b) h k is (text2, it)
      (λ v w. one_rank q t x n b v (subst (λ z. IsRankOf q t z b) (one_tuple q word y x w.0 text) w.1)) in
      number_once n b r why same reply many

  replacing : (name query source by : List ℕ) (longest : Bool) (why other : Refusal) → IsRefused old (form.ReplaceDoc name query source by longest) why
      → IsRefused old (form.ReplaceDoc name query source by longest) other → why ≡ other
  replacing name query source by longest why other (inl h) (inl k) = one_unreplaced old query source by why other h k
  replacing name query source by longest why other (inl h) (inr (p, u, v, spans, k, is, past)) = absurd (replacing_once old query source by p u v why k h)
  replacing name query source by longest why other (inr (q, t, w, spans, h, is, past)) (inl k) = absurd (replacing_once old query source by q t w other h k)
  replacing name query source by longest why other (inr (q, t, w, spans, h, is, past)) (inr (p, u, v, spans2, k, is2, past2)) =
      let e = one_replacing old query source by q p t u w v h k in
      much t w spans why other past (as_first t u w v spans spans2 other e.1 e.2 (one_choice longest q p t u spans spans2 e.0 e.1 is is2) past2)

pub one_refusal : (old : World) (command : Command) (why other : Refusal) → IsSettled old.files command → IsRefused old command why → IsRefused old command other → why ≡ other
one_refusal old (LoadFile name file) why other settled h k = one_file_refusal file load_size old.files why other (are_told old.files (LoadFile name file) tt settled) h k
one_refusal old (ShareFile name file) why other settled h k = one_file_refusal file load_size old.files why other (are_told old.files (ShareFile name file) tt settled) h k
one_refusal old (LetDoc name expr) why other settled h k = editing old name expr why other h k
one_refusal old (Show name i j) why other settled h k = one_err (shown old.state.documents name i j) why other h k
one_refusal old (form.Query name text) why other settled h k = one_text_refusal old.state.most_states text why other h k
one_refusal old (form.UnionQuery name left right) why other settled h k = one_pair_refusal Union old.state.queries left right old.state.most_states why other h k
one_refusal old (form.JoinQuery name left right) why other settled h k = one_pair_refusal Join old.state.queries left right old.state.most_states why other h k
one_refusal old (form.ProjectQuery name source keep) why other settled h k = one_project_refusal old.state.queries source keep old.state.most_states why other h k
one_refusal old (form.List query name start limit) why other settled h k = listing old query name start limit why other h k
one_refusal old (form.Count query name) why other settled h k = counting old query name why other h k
one_refusal old (form.Rank query name word) why other settled h k = ranking old query name word why other h k
one_refusal old (form.Nonempty query name) why other settled h k = one_unasked old query name why other h k
one_refusal old (form.Has query name word) why other settled h k = listing old query name (After word) 0 why other h k
one_refusal old (SaveFile file) why other settled h k = absurd (no_put old.files (SaveFile file) tt tt settled)
one_refusal old (WriteFile name file) why other settled h k = absurd (no_put old.files (WriteFile name file) tt tt settled)
one_refusal old (OpenFile file) why other settled h k = opening old file why other (are_told old.files (OpenFile file) tt settled) h k
one_refusal old (form.ReplaceDoc name query source by longest) why other settled h k = replacing old name query source by longest why other h k
one_refusal old _ why other settled h k = first_of (cc, search)

-- an accepted command isn't rejected
pub refused_once : (old : World) (command : Command) (r : List ℕ) (n : World) (why : Refusal) → IsSettled old.files command → Does old command r n → IsRefused old command why → ⊥
refused_once old (LoadFile name file) r n why settled (b, h, gives) k = within_read file load_size old.files b why (are_told old.files (LoadFile name file) tt settled) h k
refused_once old (ShareFile name file) r n why settled (b, h, gives) k = within_read file load_size old.files b why (are_told old.files (ShareFile name file) tt settled) h k
refused_once old (LetDoc name expr) r n why settled (e, t, reads, value, reply, new) (inl k) = k.0 e reads
refused_once old (LetDoc name expr) r n why settled (e, t, reads, value, reply, new) (inr (f, u, reads2, value2, is2)) = value_once old.state.documents expr e f t u reads reads2 value value2
refused_once old (Show name i j) r n why settled (b, is, reply, new) k = not_both (shown old.state.documents name i j) b why is k
refused_once old (form.Query name text) r n why settled (q, is, h) k = text_once old.state.most_states text q why is k
refused_once old (form.UnionQuery name left right) r n why settled h k = pair_once Union old.state.queries left right old.state.most_states (λ q. IsRegistered old n name q r) why h k
refused_once old (form.JoinQuery name left right) r n why settled h k = pair_once Join old.state.queries left right old.state.most_states (λ q. IsRegistered old n name q r) why h k
refused_once old (form.ProjectQuery name source keep) r n why settled h k = project_once old.state.queries source keep old.state.most_states (λ q. IsRegistered old n name q r) why h k
refused_once old (form.List query name start limit) r n why settled (q, t, h, is, new) k = listed_once old query name start limit q t r why h is k
refused_once old (form.Count query name) r n why settled (q, t, a, h, is, reply, new) k = counted_once old query name q t r a why h is reply k
refused_once old (form.Rank query name word) r n why settled (q, t, x, a, h, text, is, reply, new) k = ranked_once old query name word q t r x a why h text is reply k
refused_once old (form.Nonempty query name) r n why settled (q, t, h, is, new) k = asked_once old query name q t why h k
refused_once old (form.Has query name word) r n why settled (q, t, x, h, text, reply, new) k = tuple_asked old query name word q t x why h text k
refused_once old (SaveFile file) r n why settled h k = absurd (no_put old.files (SaveFile file) tt tt settled)
refused_once old (WriteFile name file) r n why settled h k = absurd (no_put old.files (WriteFile name file) tt tt settled)
refused_once old (OpenFile file) r n why settled (b, d, nodes, h, holds, reply, new) (inl k) = within_read file open_size old.files b why (are_told old.files (OpenFile file) tt settled) h k
refused_once old (OpenFile file) r n why settled (b, d, nodes, h, holds, reply, new) (inr (c, kind, k, fault, is)) =
    image_once b c d nodes kind (one_within file open_size old.files b c (are_told old.files (OpenFile file) tt settled) h k) holds fault
refused_once old (form.ReplaceDoc name query source by longest) r n why settled (q, t, w, spans, h, is, few, short, reply, new) (inl k) = replacing_once old query source by q t w why h k
refused_once old (form.ReplaceDoc name query source by longest) r n why settled (q, t, w, spans, h, is, few, short, reply, new) (inr (p, u, v, spans2, k, is2, past)) =
    let e = one_replacing old query source by q p t u w v h k in
    not_much t w spans why few short (as_first t u w v spans spans2 why e.1 e.2 (one_choice longest q p t u spans spans2 e.0 e.1 is is2) past)
refused_once old (form.ListAll query limit) r n why settled (q, there, reply, new) k = no_value (value_of old.state.queries query) q there k.0
refused_once old (form.DropDoc name) r n why settled (t, there, reply, new) k = no_value (value_of old.state.documents name) t there k.0
refused_once old (form.Unquery name) r n why settled (q, there, reply, new) k = no_value (value_of old.state.queries name) q there k.0
refused_once old (form.UnmarkDocs name) r n why settled (d, there, reply, new) k = no_value (value_of old.state.versions name) d there k.0
refused_once old (form.BackDocs name) r n why settled (d, there, reply, new) k = no_value (value_of old.state.versions name) d there k.0
refused_once old _ r n why settled h k = k
