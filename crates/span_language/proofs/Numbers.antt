-- A query has exactly one number of answers, and exactly one before a tuple.
use Rattle.std.proofs.Common.{◌≡◌, ℕ, suc, List, [], ◌∷◌, ◌++◌, length, refl, sym, ◌∙◌, ap, subst, arith}
use Rattle.std.specs.Prelude.{Contains}
use Rattle.span_types.specs.Marks.{Comes}
use Rattle.span_types.proofs.AnswerLaws.{here, there}
use Rattle.span_language.proofs.Names.{IsNumberOf, IsNumberReply, IsRankOf, IsTooMany, number_text, one-query-list, Query, Refusal, Tuple}

abbrev tail_of : List Tuple → List Tuple
tail_of [] = []
tail_of (x ∷ xs) = xs

-- a list is cut in one way into those that come before a tuple and those that don't
one_prefix : (t : Tuple) (f g r q : List Tuple) → f ++ r ≡ g ++ q → ((u : Tuple) → Contains f u → Comes u t) → ((u : Tuple) → Contains r u → Comes u t → ⊥)
    → ((u : Tuple) → Contains g u → Comes u t) → ((u : Tuple) → Contains q u → Comes u t → ⊥) → length f ≡ length g
one_prefix t [] [] r q e bf lr bg lq = refl
one_prefix t [] (y ∷ g) r q e bf lr bg lq = absurd (lr y (subst (λ l. Contains l y) (sym e) (here y (g ++ q))) (bg y (here y g)))
one_prefix t (x ∷ f) [] r q e bf lr bg lq = absurd (lq x (subst (λ l. Contains l x) e (here x (f ++ r))) (bf x (here x f)))
one_prefix t (x ∷ f) (y ∷ g) r q e bf lr bg lq = ap suc (one_prefix t f g r q (ap tail_of e) (λ u h. bf u (there x f u h)) lr (λ u h. bg u (there y g u h)) lq)

pub one_number : (q : Query) (s : List ℕ) (n m : ℕ) → IsNumberOf q s n → IsNumberOf q s m → n ≡ m
one_number q s n m h k = h.number ∙ ap length (one-query-list q s h.all k.all h.answers k.answers) ∙ sym k.number

pub one_rank : (q : Query) (s : List ℕ) (t : Tuple) (n m : ℕ) → IsRankOf q s t n → IsRankOf q s t m → n ≡ m
one_rank q s t n m h k =
    let all = one-query-list q s h.all k.all h.answers k.answers in
    let a = h.before in
    let b = k.before in
    a.number ∙ one_prefix t a.prefix b.prefix a.rest b.rest (sym a.cut ∙ all ∙ b.cut) a.before a.others b.before b.others ∙ sym b.number

pub one_number_reply : (n m : ℕ) (reply other : List ℕ) → n ≡ m → IsNumberReply n reply → IsNumberReply m other → reply ≡ other
one_number_reply n m reply other e h k = h.1 ∙ ap number_text e ∙ sym k.1

pub one_too_many : (n m : ℕ) (why other : Refusal) → IsTooMany n why → IsTooMany m other → why ≡ other
one_too_many n m why other h k = h.1 ∙ sym k.1

-- a number in a reply is not too great
pub number_once : (n m : ℕ) (reply : List ℕ) (why : Refusal) → n ≡ m → IsNumberReply n reply → IsTooMany m why → ⊥
number_once n m reply why e h k = let le = h.0 in let lt = k.0 in omega (arith, e, le, lt)
