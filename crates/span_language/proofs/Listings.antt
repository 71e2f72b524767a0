-- A listing has exactly one reply, and the chosen spans are exactly one list. The text of a page, tuple by tuple.
use Rattle.std.proofs.Common.{◌≡◌, ℕ, zero, suc, ◌-◌, Bool, true, false, List, [], ◌∷◌, ◌++◌, Option, Some, None, length, take, drop, nat_lt, refl, sym, ◌∙◌, ap, subst, append_assoc, arith}
use Rattle.std.proofs.lemmas.Bool.{le-ltb, lt-ltb, ltb-false, ltb-true}
use Rattle.std.specs.List.{flat_map}
use Rattle.span_language.specs.Listed.{first_page_text, last_line, tuple_line}
use Rattle.span_language.proofs.Names.{AreListed, chosen, doc_line, Documents, IsAnswersOf, IsListReply, IsPage, IsPageOf, names_of, one-page}
use Rattle.span_language.proofs.Names.{one-query-list, page_text, Query, Span, Tuple}
use Rattle.span_language.proofs.Names.{IsTakenOf, longest}
use Rattle.span_language.proofs.Names.{After, At, First, IsPageAt, IsPageFrom, ListStart}
use Rattle.span_language.proofs.Texts.{one_tuple}

one_page_of : (q : Query) (s : List ℕ) (c d : Option Tuple) (n : ℕ) (page other : List Tuple) (more less : Bool) → c ≡ d
    → IsPageOf q s c n page more → IsPageOf q s d n other less → (page ≡ other) × (more ≡ less)
one_page_of q s c d n page other more less same h k =
    one-page h.all c n page other more less h.is (subst (λ z. IsPage z c n other less) (one-query-list q s k.all h.all k.answers h.answers) (subst (λ z. IsPage k.all z n other less) (sym same) k.is))

one_page_at : (q : Query) (s : List ℕ) (m n : ℕ) (page other : List Tuple) (more less : Bool) → IsPageAt q s m n page more → IsPageAt q s m n other less → (page ≡ other) × (more ≡ less)
one_page_at q s m n page other more less h k =
    let e = one-query-list q s h.all k.all h.answers k.answers in
    (h.first ∙ ap (λ (l : List Tuple). take n (drop (m - 1) l)) e ∙ sym k.first, h.more_left ∙ ap (λ (l : List Tuple). nat_lt n (length (drop (m - 1) l))) e ∙ sym k.more_left)

one_page_from : (q : Query) (s : List ℕ) (start : ListStart) (n : ℕ) (page other : List Tuple) (more less : Bool) → IsPageFrom q s start n page more → IsPageFrom q s start n other less → (page ≡ other) × (more ≡ less)
one_page_from q s First n page other more less h k = one_page_of q s None None n page other more less (λ i. None) h k
one_page_from q s (After word) n page other more less (c, text, h) (d, text2, k) = one_page_of q s (Some c) (Some d) n page other more less (ap Some (one_tuple q word c d text text2)) h k
one_page_from q s (At m) n page other more less h k = one_page_at q s m n page other more less h k

pub one_list_reply : (q : Query) (s : List ℕ) (start : ListStart) (n : ℕ) (reply other : List ℕ) → IsListReply q s start n reply → IsListReply q s start n other → reply ≡ other
one_list_reply q s start n reply other h k =
    let same = one_page_from q s start n h.page k.page h.more k.more h.page_is k.page_is in
    h.reply_is ∙ (λ i. page_text (names_of q) (same.0 i) (same.1 i)) ∙ sym k.reply_is

pub one_listed : (q : Query) (n : ℕ) (docs : Documents) (reply other : List ℕ) → AreListed q n docs reply → AreListed q n docs other → reply ≡ other
one_listed q n [] reply other h k = h ∙ sym k
one_listed q n (d ∷ docs) reply other (page, more, rest, h, listed, e) (page2, more2, rest2, k, listed2, f) =
    let same = one_page_of q d.1 None None n page page2 more more2 (λ i. None) h k in
    let left = one_listed q n docs rest rest2 listed listed2 in
    e ∙ (λ i. doc_line d.0 ++ (page_text (names_of q) (same.0 i) (same.1 i) ++ left i)) ∙ sym f

one_list : (q p : Query) (s t : List ℕ) (all others : List Tuple) → q ≡ p → s ≡ t → IsAnswersOf q s all → IsAnswersOf p t others → all ≡ others
one_list q p s t all others e f h k =
    one-query-list q s all others h (subst (λ z. IsAnswersOf z s others) (sym e) (subst (λ z. IsAnswersOf p z others) (sym f) k))

pub one_choice : (long : Bool) (q p : Query) (s t : List ℕ) (spans other : List Span) → q ≡ p → s ≡ t → IsTakenOf long q s spans → IsTakenOf long p t other → spans ≡ other
one_choice false q p s t spans other e f h k = h.is ∙ ap chosen (one_list q p s t h.all k.all e f h.answers k.answers) ∙ sym k.is
one_choice true q p s t spans other e f h k = h.is ∙ ap longest (one_list q p s t h.all k.all e f h.answers k.answers) ∙ sym k.is

-- ---- the text of a page, tuple by tuple
lt_suc : (m n : ℕ) → nat_lt (suc m) (suc n) ≡ nat_lt m n
lt_suc m n = by (nat_lt m n) refl
  where
    by : (b : Bool) → nat_lt m n ≡ b → nat_lt (suc m) (suc n) ≡ b
    by true e = lt-ltb (suc m) (suc n) (omega (arith, ltb-true m n e))
    by false e = le-ltb (suc m) (suc n) (omega (arith, ltb-false m n e))

-- the page without a tuple
pub page_none : (names : List (List ℕ)) (n : ℕ) → first_page_text names n [] ≡ last_line false
page_none names zero = ap last_line (le-ltb 0 0 (omega arith))
page_none names (suc n) = ap last_line (le-ltb (suc n) 0 (omega arith))

pub page_full : (names : List (List ℕ)) (t : Tuple) (ts : List Tuple) → first_page_text names 0 (t ∷ ts) ≡ last_line true
page_full names t ts = ap last_line (lt-ltb 0 (suc (length ts)) (omega arith))

pub page_next : (names : List (List ℕ)) (n : ℕ) (t : Tuple) (ts : List Tuple) → first_page_text names (suc n) (t ∷ ts) ≡ tuple_line names t ++ first_page_text names n ts
page_next names n t ts =
    ap (λ (b : Bool). flat_map (tuple_line names) (t ∷ take n ts) ++ last_line b) (lt_suc n (length ts))
    ∙ append_assoc (tuple_line names t) (flat_map (tuple_line names) (take n ts)) (last_line (nat_lt n (length ts)))
