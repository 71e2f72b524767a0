-- What is observable of a client.
use Rattle.std.proofs.Common.{ℕ, List, [], ◌∷◌, ◌++◌, sym, ◌∙◌, ap, subst, append_assoc}
use Rattle.std.specs.Prelude.{Option, Some, None}
use Rattle.std.specs.List.{AllByRecursion}
use Rattle.std.specs.Io.KnownBytes.{Consumes}
use Rattle.std.proofs.lemmas.List.{append-nil}
use Rattle.span_language.specs.Runs.{Outside}
use Rattle.span_talk.specs.Talk.{AreServed, IsServed, Moment, Notes, OfSent}

-- what holds of the bytes that were read, whatever follows, holds of all bytes that are sent
pub of_sent : (old new : Option (List ℕ)) (heard : List ℕ) (Holds : List ℕ → Type 0) → Consumes old new heard → ((tail : List ℕ) → Holds (heard ++ tail)) → OfSent old Holds
of_sent None new heard Holds consumed h = (heard ++ [], h [])
of_sent (Some a) None heard Holds consumed h = absurd consumed
of_sent (Some a) (Some b) heard Holds consumed h = subst Holds (sym consumed) (h b)

pub each_sent : (old : Option (List ℕ)) (P Q : List ℕ → Type 0) → ((sent : List ℕ) → P sent → Q sent) → OfSent old P → OfSent old Q
each_sent None P Q f (sent, h) = (sent, f sent h)
each_sent (Some sent) P Q f h = f sent h

all_and_one : (P : Moment → Type 0) (ms : List Moment) (m : Moment) → AllByRecursion P ms → P m → AllByRecursion P (ms ++ m ∷ [])
all_and_one P [] m all one = (one, tt)
all_and_one P (x ∷ ms) m all one = (all.0, all_and_one P ms m all.1 one)

pub none_served : (sent : Option (List ℕ)) (most : ℕ) (before : Outside) (ms : Option (List Moment)) → AreServed sent most before ms ms
none_served sent most before None = tt
none_served sent most before (Some ms) = ([], sym (append-nil ms), tt)

-- one more moment
pub more_served : (sent : Option (List ℕ)) (most : ℕ) (before : Outside) (a b c : Option (List Moment)) (m : Moment) → AreServed sent most before a b → Notes b c m → IsServed sent most before m → AreServed sent most before a c
more_served sent most before None b c m served notes one = tt
more_served sent most before (Some a) None c m served notes one = absurd served
more_served sent most before (Some a) (Some b) None m served notes one = absurd notes
more_served sent most before (Some a) (Some b) (Some c) m (further, is, all) notes one =
    (further ++ m ∷ [], notes ∙ ap (λ l. l ++ m ∷ []) is ∙ append_assoc a further (m ∷ []), all_and_one (IsServed sent most before) further m all one)
