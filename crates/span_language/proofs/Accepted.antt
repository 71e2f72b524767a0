-- An accepted command has exactly one reply and one resulting world.
use Rattle.std.proofs.Common.{◌≡◌, ℕ, List, Option, Some, None, length, refl, sym, ◌∙◌, ap, subst}
use Rattle.span_language.proofs.Names.{AreListed, Command, Documents, Does, Files, given_text, HasAnswer, HasDocuments, HasProjection, IsAccepted, IsAnswer}
use Rattle.span_language.proofs.Names.{IsListReply, IsOfFile, IsPutting, IsRegistered, IsSettled, IsYesOrNo, Join, LetDoc, load_size, LoadFile, LoadsFile, names_of, Nothing, open_size, opened_text}
use Rattle.span_language.proofs.Names.{OpenFile, put, Query, query_text, replaced, SaveFile, ShareFile, Show, shown, shown_text, TupleText, Union, value_of, with_documents}
use Rattle.span_language.proofs.Names.{with_queries, World, world, WriteFile}
use Rattle.script_syntax.specs.declared.form.Command.TheVariants as form
use Rattle.span_language.proofs.Values.{are_told, one_ok, one_value, one_within}
use Rattle.span_language.proofs.Images.{one_image}
use Rattle.span_language.proofs.Expressions.{one_text}
use Rattle.span_language.proofs.Questions.{both_asked, one_answer, one_replacing}
use Rattle.span_language.proofs.Texts.{one_query, one_tuple}
use Rattle.span_language.proofs.Combinations.{one_named, one_pair, one_projection}
use Rattle.span_language.proofs.Listings.{one_choice, one_list_reply, one_listed}
use Rattle.span_language.proofs.Names.{IsNumberOf, IsRankOf}
use Rattle.span_language.proofs.Numbers.{one_number, one_number_reply, one_rank}

-- one reply and one world
abbrev pub Same : List ℕ → List ℕ → World → World → Type 0
Same r s n m = (r ≡ s) × (n ≡ m)

pub no_put : (files : Option Files) (command : Command) → IsPutting command → IsOfFile command → IsSettled files command → ⊥
no_put None command puts of settled = settled of
no_put (Some all) command puts of settled = settled puts

module _ (old : World) (r s : List ℕ) (n m : World) where
  -- a text is assigned to the document
  given : (name t u : List ℕ) → t ≡ u → (r ≡ given_text name t) × HasDocuments old n (put old.state.documents name t)
      → (s ≡ given_text name u) × HasDocuments old m (put old.state.documents name u) → Same r s n m
  given name t u e h k =
      (h.0 ∙ ap (given_text name) e ∙ sym k.0, h.1 ∙ ap (λ (z : List ℕ). world (with_documents old.state (put old.state.documents name z)) old.files) e ∙ sym k.1)

  -- and the bytes of a file
  loaded : (name file : List ℕ) → (old.files ≡ None → ⊥) → LoadsFile old name file r n → LoadsFile old name file s m → Same r s n m
  loaded name file told (b, h, gives) (c, k, gives2) = given name b c (one_within file load_size old.files b c told h k) gives gives2

  registered : (name : List ℕ) (q p : Query) → q ≡ p → IsRegistered old n name q r → IsRegistered old m name p s → Same r s n m
  registered name q p e h k = (
    h.0 ∙ ap (λ (z : Query). query_text name (names_of z)) e ∙ sym k.0,
    h.1 ∙ ap (λ (z : Query). world (with_queries old.state (put old.state.queries name z)) old.files) e ∙ sym k.1,
  )

  accepted : (name : List ℕ) (q : Query) → IsAccepted old.state.most_states q × IsRegistered old n name q r → IsAccepted old.state.most_states q × IsRegistered old m name q s → Same r s n m
  accepted name q h k = registered name q q refl h.1 k.1

pub one_done : (old : World) (command : Command) (r s : List ℕ) (n m : World) → IsSettled old.files command → Does old command r n → Does old command s m → Same r s n m
one_done old (LoadFile name file) r s n m settled h k = loaded old r s n m name file (are_told old.files (LoadFile name file) tt settled) h k
one_done old (ShareFile name file) r s n m settled h k = loaded old r s n m name file (are_told old.files (ShareFile name file) tt settled) h k
one_done old (LetDoc name expr) r s n m settled (e, t, reads, value, reply, new) (f, u, reads2, value2, reply2, new2) =
    given old r s n m name t u (one_text old.state.documents expr e f t u reads reads2 value value2) (reply, new) (reply2, new2)
one_done old (Show name i j) r s n m settled (b, is, reply, new) (c, it, reply2, new2) =
    (reply ∙ ap shown_text (one_ok (shown old.state.documents name i j) b c is it) ∙ sym reply2, new ∙ sym new2)
one_done old (form.Query name text) r s n m settled (q, is, h) (p, it, k) = registered old r s n m name q p (one_query old.state.most_states text q p is it) h k
one_done old (form.UnionQuery name left right) r s n m settled h k =
    one_pair Union old.state.queries left right (λ q. IsAccepted old.state.most_states q × IsRegistered old n name q r) (λ q. IsAccepted old.state.most_states q × IsRegistered old m name q s) (Same r s n m) h k (accepted old r s n m name)
one_done old (form.JoinQuery name left right) r s n m settled h k =
    one_pair Join old.state.queries left right (λ q. IsAccepted old.state.most_states q × IsRegistered old n name q r) (λ q. IsAccepted old.state.most_states q × IsRegistered old m name q s) (Same r s n m) h k (accepted old r s n m name)
one_done old (form.ProjectQuery name source keep) r s n m settled h k =
    let P : Query → Type 0 = λ p. IsAccepted old.state.most_states p × IsRegistered old n name p r in
    let R : Query → Type 0 = λ p. IsAccepted old.state.most_states p × IsRegistered old m name p s in
    one_named old.state.queries source (λ q. HasProjection q keep P) (λ q. HasProjection q keep R) (Same r s n m) h k
    (λ q a b. one_projection q keep P R (Same r s n m) a b (accepted old r s n m name))
one_done old (form.List query name start limit) r s n m settled (q, t, h, reply, new) (p, u, k, reply2, new2) =
    (both_asked old query name q p t u (λ q t. IsListReply q t start limit r) (λ q t. IsListReply q t start limit s) (r ≡ s) h k reply reply2 (one_list_reply q t start limit r s), new ∙ sym new2)
one_done old (form.Count query name) r s n m settled (q, t, a, h, is, reply, new) (p, u, b, k, it, reply2, new2) =
    let same = both_asked old query name q p t u (λ q t. IsNumberOf q t a) (λ q t. IsNumberOf q t b) (a ≡ b) h k is it (one_number q t a b) in
    (one_number_reply a b r s same reply reply2, new ∙ sym new2)
one_done old (form.Rank query name word) r s n m settled (q, t, x, a, h, text, is, reply, new) (p, u, y, b, k, text2, it, reply2, new2) =
    let R : Query → List ℕ → Type 0 = λ q t. TupleText word (names_of q) y × IsRankOf q t y b in
    let same = both_asked old query name q p t u (λ q t. IsRankOf q t x a) R (a ≡ b) h k is (text2, it)
    (λ v w. one_rank q t x a b v (subst (λ z. IsRankOf q t z b) (one_tuple q word y x w.0 text) w.1)) in
    (one_number_reply a b r s same reply reply2, new ∙ sym new2)
one_done old (form.Nonempty query name) r s n m settled (q, t, h, reply, new) (p, u, k, reply2, new2) =
    (both_asked old query name q p t u (λ q t. IsYesOrNo (HasAnswer q t) r) (λ q t. IsYesOrNo (HasAnswer q t) s) (r ≡ s) h k reply reply2 (one_answer (HasAnswer q t) r s), new ∙ sym new2)
one_done old (form.Has query name word) r s n m settled (q, t, x, h, text, reply, new) (p, u, y, k, text2, reply2, new2) =
    let S : Query → List ℕ → Type 0 = λ q t. TupleText word (names_of q) y × IsYesOrNo (IsAnswer q t y) s in (
      both_asked old query name q p t u (λ q t. IsYesOrNo (IsAnswer q t x) r) S (r ≡ s) h k reply (text2, reply2)
          (λ a b. one_answer (IsAnswer q t x) r s a (subst (λ z. IsYesOrNo (IsAnswer q t z) s) (one_tuple q word y x b.0 text) b.1)),
      new ∙ sym new2,
    )
one_done old (SaveFile file) r s n m settled h k = absurd (no_put old.files (SaveFile file) tt tt settled)
one_done old (WriteFile name file) r s n m settled h k = absurd (no_put old.files (WriteFile name file) tt tt settled)
one_done old (OpenFile file) r s n m settled (b, d, nodes, h, holds, reply, new) (c, e, count, k, has, reply2, new2) =
    let bytes = one_within file open_size old.files b c (are_told old.files (OpenFile file) tt settled) h k in
    let docs = one_image b c d e nodes count bytes holds has in
    (reply ∙ ap (λ (z : Documents). opened_text (length z)) docs ∙ sym reply2, new ∙ ap (λ (z : Documents). world (with_documents old.state z) old.files) docs ∙ sym new2)
one_done old (form.ListAll query limit) r s n m settled (q, there, reply, new) (p, there2, reply2, new2) =
    let e = one_value (value_of old.state.queries query) p q there2 there in
    (one_listed q limit old.state.documents r s reply (subst (λ z. AreListed z limit old.state.documents s) e reply2), new ∙ sym new2)
one_done old (form.ReplaceDoc name query source by longest) r s n m settled (q, t, w, spans, h, is, few, short, reply, new) (p, u, v, spans2, k, is2, few2, short2, reply2, new2) =
    let e = one_replacing old query source by q p t u w v h k in
    let chosen = one_choice longest q p t u spans spans2 e.0 e.1 is is2 in
    given old r s n m name (replaced t spans w) (replaced u spans2 v) (λ i. replaced (e.1 i) (chosen i) (e.2 i)) (reply, new) (reply2, new2)
one_done old (form.BackDocs name) r s n m settled (d, there, reply, new) (e, there2, reply2, new2) =
    (reply ∙ sym reply2, new ∙ ap (λ (z : Documents). world (with_documents old.state z) old.files) (one_value (value_of old.state.versions name) d e there there2) ∙ sym new2)
one_done old Nothing r s n m settled h k = absurd h
one_done old _ r s n m settled h k = (cc, cc)
