use Rattle.std.proofs.Common.{◌≡◌, ℕ, ◌∙◌, ap, subst, arith, Bool, true, false, List, Some, slice_get, set, replicate}
use Rattle.std.proofs.lemmas.Option.{get_or_from_slice_get}
use Rattle.span_algebra.specs.declared.classes.Class.{Class}
use Rattle.span_algebra.proofs.ClassLaws.{class-put, class-new}
use Rattle.span_algebra.proofs.classes.put_byte.Goals as goal

changed : (x k : Class) (n : ℕ) (new : List Bool) → x ≡ k → new ≡ set x.letters n true → ◌≡◌ {A = Class} (record { first = x.first; letters = new }) (record { first = k.first; letters = set k.letters n true })
changed x k n new e g =
    let f : x.first ≡ k.first = ap (λ (y : Class). y.first) e in
    let l : new ≡ set k.letters n true = g ∙ ap (λ (y : Class). set y.letters n true) e in
    λ i. record { first = f i; letters = l i }

fresh : (n : ℕ) (new empty : List Bool) → empty ≡ replicate 256 false → new ≡ set empty n true → ◌≡◌ {A = Class} (record { first = n; letters = new }) (record { first = n; letters = set (replicate 256 false) n true })
fresh n new empty e g =
    let l : new ≡ set (replicate 256 false) n true = g ∙ ap (λ l. set l n true) e in
    λ i. record { first = n; letters = l i }

pub returns-in-Some-clause-left : goal.returns-in-Some-clause-left
returns-in-Some-clause-left c =
    let k = c.in-Some.ensures in
    let h = subst (λ (l : List Class). slice_get l c.in-Some.index ≡ Some k.class) c.deref.ensures.value k.there in
    class-put c.args.left.now c.args.classes.now.items c.args.byte c.in-Some.index k.class _ c.requires.left (omega (arith, c.ranges.byte)) h k.left_alike (let g = c.index_mut.ensures.value ∙ get_or_from_slice_get c.args.classes.now.items c.in-Some.index k.class c.index_mut.result.now h in changed c.index_mut.result.now k.class c.args.byte c.insert.new.self g c.insert.ensures)

pub returns-in-Some-clause-right : goal.returns-in-Some-clause-right
returns-in-Some-clause-right c =
    let k = c.in-Some.ensures in
    let h = subst (λ (l : List Class). slice_get l c.in-Some.index ≡ Some k.class) c.deref.ensures.value k.there in
    class-put c.args.right.now c.args.classes.now.items c.args.byte c.in-Some.index k.class _ c.requires.right (omega (arith, c.ranges.byte)) h k.right_alike (let g = c.index_mut.ensures.value ∙ get_or_from_slice_get c.args.classes.now.items c.in-Some.index k.class c.index_mut.result.now h in changed c.index_mut.result.now k.class c.args.byte c.insert.new.self g c.insert.ensures)

pub returns-in_ok-push-in-None-clause-left : goal.returns-in_ok-push-in-None-clause-left
returns-in_ok-push-in-None-clause-left c =
    rw (c.in_ok-push-in-None.ensures.items) (class-new c.args.left.now c.args.classes.now.items c.args.byte _ c.requires.left (omega (arith, c.ranges.byte)) (fresh c.args.byte c.insert-in-None.new.self c.empty-letters.result c.empty-letters.ensures c.insert-in-None.ensures))

pub returns-in_ok-push-in-None-clause-right : goal.returns-in_ok-push-in-None-clause-right
returns-in_ok-push-in-None-clause-right c =
    rw (c.in_ok-push-in-None.ensures.items) (class-new c.args.right.now c.args.classes.now.items c.args.byte _ c.requires.right (omega (arith, c.ranges.byte)) (fresh c.args.byte c.insert-in-None.new.self c.empty-letters.result c.empty-letters.ensures c.insert-in-None.ensures))
