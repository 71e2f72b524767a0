-- The answers of a page, and all answers of the automaton.
use Rattle.std.proofs.Common.{[], ap, Bool, length, List, map, None, refl, slice_get, Some, subst, suc, sym, take, zero, ℕ, ◌++◌, ◌∙◌, ◌∷◌, ◌≡◌}
use Rattle.list_all.specs.Page.{IsPageOf, Page}
use Rattle.marker_dfa.proofs.Lists.{contains_at}
use Rattle.marker_dfa.specs.Deterministic.{DeterministicAutomaton}
use Rattle.span_enum.specs.Members.{AreAnswersOf, Tuple}
use Rattle.span_types.proofs.AnswerLaws.{one-rising}
use Rattle.span_types.specs.Answers.{IsPage}

one_list : (a : DeterministicAutomaton) (s : List ℕ) (ts us : List Tuple) → AreAnswersOf a s ts → AreAnswersOf a s us → ts ≡ us
one_list a s ts us f g = one-rising a.variables ts us f.rising g.rising (λ t h. ((f.members t).0 h).size) (λ t h. (g.members t).1 ((f.members t).0 h)) (λ t h. (f.members t).1 ((g.members t).0 h))

-- the automaton has one list of answers, so this one's first answers are the page
pub page_of : (a : DeterministicAutomaton) (s : List ℕ) (l : List Tuple) (n : ℕ) (p : Page) → AreAnswersOf a s l → IsPageOf a s n p → IsPage l None n p.tuples p.more
page_of a s l n p are is = subst (λ (ts : List Tuple). IsPage ts None n p.tuples p.more) (one_list a s is.all l is.answers are) is.page

take_at : (n : ℕ) (xs : List Tuple) (k : ℕ) (t : Tuple) → slice_get (take n xs) k ≡ Some t → slice_get xs k ≡ Some t
take_at zero xs k t e = let bad : ⊥ = cc e in absurd bad
take_at (suc n) [] k t e = let bad : ⊥ = cc e in absurd bad
take_at (suc n) (x ∷ xs) zero t e = e
take_at (suc n) (x ∷ xs) (suc k) t e = take_at n xs k t e

pub page_sizes : (a : DeterministicAutomaton) (s : List ℕ) (n : ℕ) (p : Page) → IsPageOf a s n p → (k : ℕ) (t : Tuple) → slice_get p.tuples k ≡ Some t → length t ≡ a.variables
page_sizes a s n p is k t e =
    let page : IsPage is.all None n p.tuples p.more = is.page in
    let all : page.rest ≡ is.all = sym (page.after.cut ∙ ap (λ (f : List Tuple). f ++ page.rest) (page.after.start refl)) in
    let there : slice_get page.rest k ≡ Some t = take_at n page.rest k t (subst (λ (ts : List Tuple). slice_get ts k ≡ Some t) page.first e) in
    let in_all : slice_get is.all k ≡ Some t = subst (λ (ts : List Tuple). slice_get ts k ≡ Some t) all there in
    let member = (is.answers.members t).0 (contains_at is.all k t in_all) in
    member.size

-- the page whose parts these are
pub page_at : (ps : List Page) (k : ℕ) (ts : List Tuple) (more : Bool) → slice_get (map (λ (p : Page). p.tuples) ps) k ≡ Some ts → slice_get (map (λ (p : Page). p.more) ps) k ≡ Some more
    → slice_get ps k ≡ Some (record { tuples = ts; more = more })
page_at [] k ts more e f = let bad : ⊥ = cc e in absurd bad
page_at (p ∷ ps) zero ts more e f =
    let same : p.tuples ≡ ts = cc e in
    let left : p.more ≡ more = cc f in
    ap (λ (us : List Tuple). Some (record { tuples = us; more = p.more })) same ∙ ap (λ (b : Bool). Some (record { tuples = ts; more = b })) left
page_at (p ∷ ps) (suc k) ts more e f = page_at ps k ts more e f
