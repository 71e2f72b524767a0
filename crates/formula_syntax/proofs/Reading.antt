-- The loop of the reader: the state that is shown continues as the start would.
use Rattle.std.proofs.Common.{◌≡◌, ℕ, suc, ◌+◌, ◌<◌, ◌≤◌, List, [], ◌∷◌, length, drop, get_or, Some, None, refl, sym, ap, ◌∙◌, add-one, drop-cons, drop_of_length-le}
use Rattle.std.specs.Option.{option_and_then}
use Rattle.formula_syntax.specs.Machine.{Machine, steps, step, start, finish, read}
use Rattle.formula_syntax.specs.View.{Shows}
use Rattle.formula_syntax.specs.declared.reader.Reader as reader

pub record Follows (r : reader.Reader) (t : List ℕ) (i : ℕ) : Type 0 where
  pub machine : Machine
  pub shows : Shows r machine
  pub same : steps start t ≡ steps machine (drop i t)

pub begins : (r : reader.Reader) (t : List ℕ) → Shows r start → Follows r t 0
begins r t h = record { machine = start; shows = h; same = refl }

pub goes_on : (r new : reader.Reader) (t : List ℕ) (i b : ℕ) → i < length t → b ≡ get_or t i b → (f : Follows r t i) → (n : Machine) → step f.machine b ≡ Some n → Shows new n → Follows new t (i + 1)
goes_on r new t i b lt is f n e s = record {
  machine = n;
  shows = s;
  same = f.same ∙ ap (steps f.machine) (drop-cons t i b lt ∙ ap (λ z. z ∷ drop (suc i) t) (sym is)) ∙ ap (option_and_then (λ z. steps z (drop (suc i) t))) e ∙ rw add-one refl;
}

pub stops : (r : reader.Reader) (t : List ℕ) (i b : ℕ) → i < length t → b ≡ get_or t i b → (f : Follows r t i) → step f.machine b ≡ None → read t ≡ None
stops r t i b lt is f e = ap (option_and_then finish) (f.same ∙ ap (steps f.machine) (drop-cons t i b lt ∙ ap (λ z. z ∷ drop (suc i) t) (sym is)) ∙ ap (option_and_then (λ z. steps z (drop (suc i) t))) e)

drop_all : (t : List ℕ) (i : ℕ) → length t ≤ i → drop i t ≡ []
drop_all t i h = drop_of_length-le t h

pub ends : (r : reader.Reader) (t : List ℕ) (i : ℕ) → length t ≤ i → (f : Follows r t i) → read t ≡ finish f.machine
ends r t i h f = ap (option_and_then finish) (f.same ∙ ap (steps f.machine) (drop_all t i h))
