-- Whatever the grammar reads, the machine reads.
use Rattle.std.proofs.Common.{◌≡◌, ℕ, suc, ◌+◌, ◌*◌, ◌≤◌, Bool, true, false, List, [], ◌∷◌, ◌++◌, length, slice_get, Option, Some, None, refl, sym, ap, ◌∙◌, subst, append_assoc, append-nil, arith, true≢false}
use Rattle.std.proofs.lemmas.Bool.Decides.{nat_tests}
use Rattle.std.specs.Prelude.{max, ◌==◌, not, nat_le, ◌&&◌}
use Rattle.std.specs.List.{list_all}
use Rattle.std.specs.Option.{option_and_then, option_map, option_map_or}
use Rattle.span_types.specs.Names.{is_name, is_first_byte, is_later_byte}
use Rattle.formula_syntax.specs.Numbering.{Names, number_in, seen}
use Rattle.span_types.specs.FormulaTree.{FormulaTree, Set, Star, Plus, Opt, Capture}
use Rattle.formula_syntax.specs.Lexis.{Escape, newline, tab, return, hexadecimal, itself, is_plain_member, Member, plain_member, escaped_member, Item, one, range, Items, no_item, item, in_ranges, bytes_where, negated, sign}
use Rattle.formula_syntax.specs.Grammar.{Part, alt, cat, reps, rep, atom, Reads, one_branch, more_branches, nothing, something, last_rep, more_reps, plain, star, plus, option, letter, escape, dot, set, group, capture}
use Rattle.formula_syntax.specs.Machine.{Level, Group, Stack, Pending, empty, low, dash, Mode, text, set_start, in_set, in_name, slash, Machine, at, fresh, cat_of, alt_of, add, add_set, change_last, postfix_of, postfix, flush, member, end_set, escaped, step, steps, Found, finish, read}

-- the machine goes from one state to another over the bytes

-- the machine goes from one state to another over the bytes
pub record Goes (m : Machine) (s : List ℕ) (n : Machine) : Type 0 where
  pub result : steps m s ≡ Some n

and_then_again : (r : Option Machine) (F G : Machine → Option Machine) (H : Machine → Option Machine) → ((n : Machine) → F n ≡ option_and_then H (G n)) → option_and_then F r ≡ option_and_then H (option_and_then G r)
and_then_again None F G H h = refl
and_then_again (Some n) F G H h = h n

and_then_id : (r : Option Machine) → option_and_then (λ n. Some n) r ≡ r
and_then_id None = refl
and_then_id (Some n) = refl

pub steps-append : (m : Machine) (a b : List ℕ) → steps m (a ++ b) ≡ option_and_then (λ n. steps n b) (steps m a)
steps-append m [] b = refl
steps-append m (c ∷ a) b = and_then_again (step m c) (λ n. steps n (a ++ b)) (λ n. steps n a) (λ n. steps n b) (λ n. steps-append n a b)

pub then_goes : {m n o : Machine} {a b : List ℕ} → Goes m a n → Goes n b o → Goes m (a ++ b) o
then_goes {m} {n} {o} {a} {b} f g = record { result = steps-append m a b ∙ ap (option_and_then (λ x. steps x b)) f.result ∙ g.result }

to_same : {m n o : Machine} {a : List ℕ} → Goes m a n → n ≡ o → Goes m a o
to_same {m} {n} {o} {a} f e = subst (λ x. Goes m a x) e f

over_same : {m n : Machine} (a b : List ℕ) → b ≡ a → Goes m a n → Goes m b n
over_same {m} {n} a b e f = subst (λ x. Goes m x n) (sym e) f

-- ---- escapes, members, items

pub record Escapes (m : Mode) (k : Stack) (s : List ℕ) (b : ℕ) : Type 0 where
  pub tail : List ℕ
  pub cut : s ≡ 92 ∷ tail
  pub same : steps (record { escape = slash; mode = m; stack = k }) tail ≡ escaped m k b

escape_steps : (m : Mode) (k : Stack) (s : List ℕ) (b : ℕ) → Escape s b → Escapes m k s b
escape_steps m k s b (newline _ _ e f) = record { tail = 110 ∷ []; cut = e; same = rw f (and_then_id (escaped m k 10)) }
escape_steps m k s b (tab _ _ e f) = record { tail = 116 ∷ []; cut = e; same = rw f (and_then_id (escaped m k 9)) }
escape_steps m k s b (return _ _ e f) = record { tail = 114 ∷ []; cut = e; same = rw f (and_then_id (escaped m k 13)) }
escape_steps m k s b (hexadecimal _ _ h l x y e hx hy f) = record { tail = 120 ∷ h ∷ l ∷ []; cut = e; same = rw (f, hx, hy) (and_then_id (escaped m k (16 * x + y))) }
escape_steps m k s b (itself _ _ e h) = record { tail = b ∷ []; cut = e; same = rw h (and_then_id (escaped m k b)) }

member_steps : (k : Stack) (neg : Bool) (rs : List (ℕ × ℕ)) (p : Pending) (s : List ℕ) (b : ℕ) → Member s b → steps (at (in_set neg rs p) k) s ≡ member k neg rs p b
member_steps k neg rs p s b (plain_member _ _ e h) = rw (e, h) (and_then_id (member k neg rs p b))
member_steps k neg rs p s b (escaped_member _ _ h) =
    let x = escape_steps (in_set neg rs p) k s b h in
    rw x.cut x.same

abbrev pub is_settled : Pending → Bool
is_settled empty = true
is_settled (low a) = true
is_settled (dash a) = false

member_settled : (k : Stack) (neg : Bool) (rs : List (ℕ × ℕ)) (p : Pending) (b : ℕ) → is_settled p ≡ true → member k neg rs p b ≡ Some (at (in_set neg (flush rs p) (low b)) k)
member_settled k neg rs empty b h = refl
member_settled k neg rs (low a) b h = refl
member_settled k neg rs (dash a) b h = absurd (true≢false (sym h))

pub record Collects (k : Stack) (neg : Bool) (rs : List (ℕ × ℕ)) (p : Pending) (s : List ℕ) (more : List (ℕ × ℕ)) : Type 0 where
  pub ranges : List (ℕ × ℕ)
  pub pending : Pending
  pub settled : is_settled pending ≡ true
  pub made : flush ranges pending ≡ flush rs p ++ more
  pub goes : Goes (at (in_set neg rs p) k) s (at (in_set neg ranges pending) k)

member_goes : (k : Stack) (neg : Bool) (rs : List (ℕ × ℕ)) (p : Pending) (s : List ℕ) (b : ℕ) → is_settled p ≡ true → Member s b → Goes (at (in_set neg rs p) k) s (at (in_set neg (flush rs p) (low b)) k)
member_goes k neg rs p s b h m = record { result = member_steps k neg rs p s b m ∙ member_settled k neg rs p b h }

item_steps : (k : Stack) (neg : Bool) (rs : List (ℕ × ℕ)) (p : Pending) (s : List ℕ) (l h : ℕ) → is_settled p ≡ true → Item s l h → Collects k neg rs p s ((l, h) ∷ [])
item_steps k neg rs p s l h z (one _ _ _ m e) = record {
  ranges = flush rs p;
  pending = low l;
  settled = refl;
  made = rw e refl;
  goes = member_goes k neg rs p s l z m;
}
item_steps k neg rs p s l h z (range _ a b _ _ e m n le) =
    let first = member_goes k neg rs p a l z m in
    let mid : Goes (at (in_set neg (flush rs p) (low l)) k) (45 ∷ []) (at (in_set neg (flush rs p) (dash l)) k) = record { result = refl } in
    let t : nat_le l h ≡ true = grind (arith, nat_tests) in
    let last : Goes (at (in_set neg (flush rs p) (dash l)) k) b (at (in_set neg (flush rs p ++ (l, h) ∷ []) empty) k) = record { result = member_steps k neg (flush rs p) (dash l) b h n ∙ rw t refl } in
    record {
      ranges = flush rs p ++ (l, h) ∷ [];
      pending = empty;
      settled = refl;
      made = refl;
      goes = over_same _ s e (then_goes first (then_goes mid last));
    }

items_steps : (k : Stack) (neg : Bool) (rs : List (ℕ × ℕ)) (p : Pending) (s : List ℕ) (qs : List (ℕ × ℕ)) → is_settled p ≡ true → Items s qs → Collects k neg rs p s qs
items_steps k neg rs p s qs z (no_item _ _ e f) = record {
  ranges = rs;
  pending = p;
  settled = z;
  made = rw f (sym (append-nil (flush rs p)));
  goes = over_same _ s e (record { result = refl });
}
items_steps k neg rs p s qs z (item _ a b l h _ os e i j f) =
    let x = item_steps k neg rs p a l h z i in
    let y = items_steps k neg x.ranges x.pending b os x.settled j in
    record {
      ranges = y.ranges;
      pending = y.pending;
      settled = y.settled;
      made = y.made ∙ ap (λ v. v ++ os) x.made ∙ append_assoc (flush rs p) ((l, h) ∷ []) os ∙ ap (λ v. flush rs p ++ v) (sym f);
      goes = over_same _ s e (then_goes x.goes y.goes);
    }

end_settled : (k : Stack) (neg : Bool) (rs : List (ℕ × ℕ)) (p : Pending) → is_settled p ≡ true → end_set k neg rs p ≡ add_set k (negated neg (in_ranges (flush rs p)))
end_settled k neg rs empty z = refl
end_settled k neg rs (low a) z = refl
end_settled k neg rs (dash a) z = absurd (true≢false (sym z))

-- the bytes from after the bracket to the closing one, if there is no sign
set_goes : (k : Stack) (neg : Bool) (a : List ℕ) (rs : List (ℕ × ℕ)) → Items a rs → Goes (at (in_set neg [] empty) k) (a ++ 93 ∷ []) (at text (add k (Set (bytes_where (negated neg (in_ranges rs))))))
set_goes k neg a rs h =
    let x = items_steps k neg [] empty a rs refl h in
    let last : Goes (at (in_set neg x.ranges x.pending) k) (93 ∷ []) (at text (add k (Set (bytes_where (negated neg (in_ranges (flush x.ranges x.pending))))))) =
    record { result = and_then_id _ ∙ end_settled k neg x.ranges x.pending x.settled } in
    subst (λ v. Goes (at (in_set neg [] empty) k) (a ++ 93 ∷ []) (at text (add k (Set (bytes_where (negated neg (in_ranges v))))))) x.made (then_goes x.goes last)

unless_in : (c v : ℕ) (P : ℕ → Bool) (t : Bool) → (c == v) ≡ t → P v ≡ false → P c ≡ true → t ≡ false
unless_in c v P true e f h = let s : c ≡ v = grind (arith, nat_tests) in absurd (true≢false (sym h ∙ ap P s ∙ f))
unless_in c v P false e f h = refl

unless : (c v : ℕ) (P : ℕ → Bool) → P v ≡ false → P c ≡ true → (c == v) ≡ false
unless c v P f h = unless_in c v P (c == v) refl f h

not_sign : (b : ℕ) → is_plain_member b ≡ true → (b == 94) ≡ false
not_sign b h = unless b 94 is_plain_member refl h

member_start : (k : Stack) (s r : List ℕ) (b : ℕ) → Member s b → steps (at set_start k) (s ++ r) ≡ steps (at (in_set false [] empty) k) (s ++ r)
member_start k s r b (plain_member _ _ e h) = rw (e, not_sign b h) refl
member_start k s r b (escaped_member _ _ h) = let x = escape_steps text k s b h in rw x.cut refl

item_start : (k : Stack) (s r : List ℕ) (l h : ℕ) → Item s l h → steps (at set_start k) (s ++ r) ≡ steps (at (in_set false [] empty) k) (s ++ r)
item_start k s r l h (one _ _ _ m e) = member_start k s r l m
item_start k s r l h (range _ a b _ _ e m n le) =
    let again : s ++ r ≡ a ++ ((45 ∷ b) ++ r) = ap (λ v. v ++ r) e ∙ append_assoc a (45 ∷ b) r in
    rw again (member_start k a ((45 ∷ b) ++ r) l m)

items_start : (k : Stack) (s r : List ℕ) (rs : List (ℕ × ℕ)) → Items s rs → steps (at set_start k) (s ++ 93 ∷ r) ≡ steps (at (in_set false [] empty) k) (s ++ 93 ∷ r)
items_start k s r rs (no_item _ _ e f) = rw e refl
items_start k s r rs (item _ a b l h _ os e i j f) =
    let again : s ++ 93 ∷ r ≡ a ++ (b ++ 93 ∷ r) = ap (λ v. v ++ 93 ∷ r) e ∙ append_assoc a b (93 ∷ r) in
    rw again (item_start k a (b ++ 93 ∷ r) l h i)

whole_set : (k : Stack) (neg : Bool) (a : List ℕ) (rs : List (ℕ × ℕ)) → Items a rs → Goes (at text k) (91 ∷ (sign neg ++ (a ++ 93 ∷ []))) (at text (add k (Set (bytes_where (negated neg (in_ranges rs))))))
whole_set k true a rs h = record { result = (set_goes k true a rs h).result }
whole_set k false a rs h = record { result = items_start k a [] rs h ∙ (set_goes k false a rs h).result }

-- ---- names

and_both : (p q : Bool) → (p && q) ≡ true → (p ≡ true) × (q ≡ true)
and_both true q h = (refl, h)
and_both false q h = absurd (true≢false (sym h))

not_not : (p : Bool) → not p ≡ true → p ≡ false
not_not true h = absurd (true≢false (sym h))
not_not false h = refl

all_more : (p q : ℕ → Bool) → ((c : ℕ) → p c ≡ true → q c ≡ true) → (x : List ℕ) → list_all p x ≡ true → list_all q x ≡ true
all_more p q f [] h = refl
all_more p q f (c ∷ x) h =
    let both = and_both (p c) (list_all p x) h in
    rw (f c both.0) (all_more p q f x both.1)

name_goes : (k : Stack) (x y : List ℕ) → list_all (λ b. not (b == 123)) x ≡ true → Goes (at (in_name y) k) x (at (in_name (y ++ x)) k)
name_goes k [] y h = rw (append-nil y) (record { result = refl })
name_goes k (b ∷ x) y h =
    let both = and_both (not (b == 123)) (list_all (λ c. not (c == 123)) x) h in
    let other : (b == 123) ≡ false = not_not (b == 123) both.0 in
    let rest = name_goes k x (y ++ b ∷ []) both.1 in
    let first : Goes (at (in_name y) k) (b ∷ []) (at (in_name (y ++ b ∷ [])) k) = record { result = rw other refl } in
    to_same (then_goes first rest) (ap (λ z. at (in_name z) k) (append_assoc y (b ∷ []) x))

other_than_brace : (c : ℕ) → is_later_byte c ≡ true → not (c == 123) ≡ true
other_than_brace c h = ap not (unless c 123 is_later_byte refl h)

no_brace : (x : List ℕ) → is_name x ≡ true → list_all (λ b. not (b == 123)) x ≡ true
no_brace x h =
    let both = and_both (option_map_or is_first_byte (slice_get x 0) false) (nat_le (length x) 64 && list_all is_later_byte x) h in
    let more = and_both (nat_le (length x) 64) (list_all is_later_byte x) both.1 in
    all_more is_later_byte (λ b. not (b == 123)) other_than_brace x more.1

-- ---- the parts of the grammar

abbrev pub ready : Level → List Group → Names → ℕ → Machine
ready l g n e = at text (record { level = l; groups = g; names = n; deepest = e })

abbrev pub level : List FormulaTree → List FormulaTree → Level
level bs ps = record { branches = bs; parts = ps }

-- adds one part to the level
pub record AddsOne (s : List ℕ) (f : FormulaTree) (d : ℕ) (n m : Names) : Type 0 where
  pub goes : (bs ps : List FormulaTree) (g : List Group) (e : ℕ) → length g ≤ e → Goes (ready (level bs ps) g n e) s (ready (level bs (ps ++ f ∷ [])) g m (max e (length g + d)))

pub record AddsSome (s : List ℕ) (f : FormulaTree) (d : ℕ) (n m : Names) : Type 0 where
  pub first : FormulaTree
  pub others : List FormulaTree
  pub made : cat_of (first ∷ others) ≡ f
  pub goes : (bs ps : List FormulaTree) (g : List Group) (e : ℕ) → length g ≤ e → Goes (ready (level bs ps) g n e) s (ready (level bs (ps ++ first ∷ others)) g m (max e (length g + d)))

pub record AddsAll (s : List ℕ) (f : FormulaTree) (d : ℕ) (n m : Names) : Type 0 where
  pub parts : List FormulaTree
  pub made : cat_of parts ≡ f
  pub goes : (bs : List FormulaTree) (g : List Group) (e : ℕ) → length g ≤ e → Goes (ready (level bs []) g n e) s (ready (level bs parts) g m (max e (length g + d)))

pub record AddsBranches (s : List ℕ) (f : FormulaTree) (d : ℕ) (n m : Names) : Type 0 where
  pub branches : List FormulaTree
  pub parts : List FormulaTree
  pub made : alt_of branches (cat_of parts) ≡ f
  pub goes : (bs : List FormulaTree) (g : List Group) (e : ℕ) → length g ≤ e → Goes (ready (level bs []) g n e) s (ready (level (bs ++ branches) parts) g m (max e (length g + d)))

abbrev pub Adds : Part → List ℕ → FormulaTree → ℕ → Names → Names → Type 0
Adds alt = AddsBranches
Adds cat = AddsAll
Adds reps = AddsSome
Adds rep = AddsOne
Adds atom = AddsOne

same_ready : (bs ps qs : List FormulaTree) (g : List Group) (m : Names) (e c : ℕ) → ps ≡ qs → e ≡ c → ready (level bs ps) g m e ≡ ready (level bs qs) g m c
same_ready bs ps qs g m e c p q = rw (p, q) refl

same_levels : (bs cs ps : List FormulaTree) (g : List Group) (m : Names) (e c : ℕ) → bs ≡ cs → e ≡ c → ready (level bs ps) g m e ≡ ready (level cs ps) g m c
same_levels bs cs ps g m e c p q = rw (p, q) refl

-- one part and no group
flat : (s : List ℕ) (f : FormulaTree) (d : ℕ) (n m : Names) → d ≡ 0 → m ≡ n → ((k : Stack) → Goes (at text k) s (at text (add k f))) → AddsOne s f d n m
flat s f d n m e q h = record {
  goes = λ bs ps g c le.
      let same : max c (length g + d) ≡ c = omega arith in
      rw (same, q) (h (record { level = level bs ps; groups = g; names = n; deepest = c }));
}

pub change_last-append : (g : FormulaTree → FormulaTree) (ps : List FormulaTree) (f : FormulaTree) → change_last g (ps ++ f ∷ []) ≡ Some (ps ++ g f ∷ [])
change_last-append g [] f = refl
change_last-append g (p ∷ []) f = refl
change_last-append g (p ∷ q ∷ ps) f = ap (option_map (λ x. p ∷ x)) (change_last-append g (q ∷ ps) f)

signed : (w : ℕ) (c : FormulaTree → FormulaTree) → ((k : Stack) → step (at text k) w ≡ postfix c k) → (s a : List ℕ) (f : FormulaTree) (d : ℕ) (n m : Names) → s ≡ a ++ w ∷ [] → AddsOne a f d n m → AddsOne s (c f) d n m
signed w c h s a f d n m e x = record {
  goes = λ bs ps g t le.
      let k : Stack = record { level = level bs (ps ++ f ∷ []); groups = g; names = m; deepest = max t (length g + d) } in
      let last : Goes (at text k) (w ∷ []) (ready (level bs (ps ++ c f ∷ [])) g m (max t (length g + d))) =
      record { result = and_then_id _ ∙ h k ∙ ap (postfix_of k) (change_last-append c ps f) } in
      over_same _ s e (then_goes (x.goes bs ps g t le) last);
}

pub adds : (p : Part) (s : List ℕ) (f : FormulaTree) (d : ℕ) (n m : Names) → Reads p s f d n m → Adds p s f d n m
adds alt s f d n m (one_branch _ _ _ _ _ h) =
    let x = adds cat s f d n m h in
    record { branches = []; parts = x.parts; made = x.made; goes = λ bs g e le. to_same (x.goes bs g e le) (same_levels bs (bs ++ []) x.parts g m _ _ (sym (append-nil bs)) refl) }
adds alt s f d n m (more_branches _ a b _ g h _ c e _ k _ cut r t is mx) =
    let x = adds cat a g c n k r in
    let y = adds alt b h e k m t in
    record {
      branches = cat_of x.parts ∷ y.branches;
      parts = y.parts;
      made = rw (x.made, y.made) (sym is);
      goes = λ bs gs v le.
          let one = x.goes bs gs v le in
          let two : Goes (ready (level bs x.parts) gs k (max v (length gs + c))) (124 ∷ []) (ready (level (bs ++ cat_of x.parts ∷ []) []) gs k (max v (length gs + c))) = record { result = refl } in
          let three = y.goes (bs ++ cat_of x.parts ∷ []) gs (max v (length gs + c)) (omega arith) in
          over_same _ s cut (to_same (then_goes one (then_goes two three)) (same_levels _ _ y.parts gs m _ _ (append_assoc bs (cat_of x.parts ∷ []) y.branches) (omega arith)));
    }
adds cat s f d n m (nothing _ _ _ _ _ e is z q) = record {
  parts = [];
  made = sym is;
  goes = λ bs g c le.
      let same : max c (length g + d) ≡ c = omega arith in
      over_same _ s e (rw (same, q) (record { result = refl }));
}
adds cat s f d n m (something _ _ _ _ _ h) =
    let x = adds reps s f d n m h in
    record { parts = x.first ∷ x.others; made = x.made; goes = λ bs g e le. x.goes bs [] g e le }
adds reps s f d n m (last_rep _ _ _ _ _ h) =
    let x = adds rep s f d n m h in
    record { first = f; others = []; made = refl; goes = x.goes }
adds reps s f d n m (more_reps _ a b _ g h _ c e _ k _ cut r t is mx) =
    let x = adds rep a g c n k r in
    let y = adds reps b h e k m t in
    record {
      first = g;
      others = y.first ∷ y.others;
      made = rw y.made (sym is);
      goes = λ bs ps gs v le.
          let one = x.goes bs ps gs v le in
          let two = y.goes bs (ps ++ g ∷ []) gs (max v (length gs + c)) (omega arith) in
          over_same _ s cut (to_same (then_goes one two) (same_ready bs _ _ gs m _ _ (append_assoc ps (g ∷ []) (y.first ∷ y.others)) (omega arith)));
    }
adds rep s f d n m (plain _ _ _ _ _ h) = adds atom s f d n m h
adds rep s f d n m (star _ a _ g _ _ _ cut h is) = rw is (signed 42 Star (λ k. refl) s a g d n m cut (adds rep a g d n m h))
adds rep s f d n m (plus _ a _ g _ _ _ cut h is) = rw is (signed 43 Plus (λ k. refl) s a g d n m cut (adds rep a g d n m h))
adds rep s f d n m (option _ a _ g _ _ _ cut h is) = rw is (signed 63 Opt (λ k. refl) s a g d n m cut (adds rep a g d n m h))
adds atom s f d n m (letter _ _ _ b _ _ cut h is z q) =
    flat s f d n m z q (λ k. over_same _ s cut (rw is (record { result = rw h refl })))
adds atom s f d n m (escape _ _ _ b _ _ h is z q) =
    flat s f d n m z q (λ k. let x = escape_steps text k s b h in over_same _ s x.cut (rw is (record { result = x.same })))
adds atom s f d n m (dot _ _ _ _ _ cut is z q) =
    flat s f d n m z q (λ k. over_same _ s cut (rw is (record { result = refl })))
adds atom s f d n m (set _ a _ _ _ _ neg rs cut h is z q) =
    flat s f d n m z q (λ k. over_same _ s cut (rw is (whole_set k neg a rs h)))
adds atom s f d n m (group _ a _ _ e _ _ cut h z) =
    let x = adds alt a f e n m h in
    record {
      goes = λ bs ps gs v le.
          let outer : Level = level bs ps in
          let one : Goes (ready outer gs n v) (40 ∷ []) (ready fresh (record { variable = None; around = outer } ∷ gs) n (max v (suc (length gs)))) = record { result = refl } in
          let two = x.goes [] (record { variable = None; around = outer } ∷ gs) (max v (suc (length gs))) (omega arith) in
          let three : Goes (ready (level x.branches x.parts) (record { variable = None; around = outer } ∷ gs) m (max (max v (suc (length gs))) (suc (length gs) + e))) (41 ∷ []) (ready (level bs (ps ++ alt_of x.branches (cat_of x.parts) ∷ [])) gs m (max (max v (suc (length gs))) (suc (length gs) + e))) = record { result = refl } in
          over_same _ s cut (to_same (then_goes one (then_goes two three)) (same_ready bs _ _ gs m _ _ (ap (λ y. ps ++ y ∷ []) x.made) (omega arith)));
    }
adds atom s f d n m (capture _ w a _ g _ e _ _ cut is_n h is z) =
    let x = adds alt a g e (seen n w) m h in
    let v : ℕ = number_in n w in
    record {
      goes = λ bs ps gs t le.
          let outer : Level = level bs ps in
          let k : Stack = record { level = outer; groups = gs; names = n; deepest = t } in
          let dollar : Goes (ready outer gs n t) (36 ∷ []) (at (in_name []) k) = record { result = refl } in
          let name = name_goes k w [] (no_brace w is_n) in
          let one : Goes (at (in_name w) k) (123 ∷ []) (ready fresh (record { variable = Some v; around = outer } ∷ gs) (seen n w) (max t (suc (length gs)))) = record { result = rw is_n refl } in
          let two = x.goes [] (record { variable = Some v; around = outer } ∷ gs) (max t (suc (length gs))) (omega arith) in
          let three : Goes (ready (level x.branches x.parts) (record { variable = Some v; around = outer } ∷ gs) m (max (max t (suc (length gs))) (suc (length gs) + e))) (125 ∷ []) (ready (level bs (ps ++ Capture v (alt_of x.branches (cat_of x.parts)) ∷ [])) gs m (max (max t (suc (length gs))) (suc (length gs) + e))) = record { result = refl } in
          over_same _ s cut (to_same (then_goes dollar (then_goes name (then_goes one (then_goes two three)))) (same_ready bs _ _ gs m _ _ (ap (λ y. ps ++ y ∷ []) (ap (Capture v) x.made ∙ sym is)) (omega arith)));
    }

-- what the grammar reads, the machine reads: so a text has one reading
pub complete : (s : List ℕ) (f : FormulaTree) (names : Names) (d : ℕ) → Reads alt s f d [] names → read s ≡ Some (record { formula = f; names = names; depth = d })
complete s f names d h =
    let x = adds alt s f d [] names h in
    let g = x.goes [] [] 0 (omega arith) in
    let depth : max 0 (0 + d) ≡ d = omega arith in
    ap (option_and_then finish) g.result ∙ rw (x.made, depth) refl

-- a text has at most one reading
pub record SameReading (f g : FormulaTree) (n m : Names) (d e : ℕ) : Type 0 where
  pub formula : f ≡ g
  pub names : n ≡ m
  pub depth : d ≡ e

pub one_reading : (s : List ℕ) (f g : FormulaTree) (n m : Names) (d e : ℕ) → Reads alt s f d [] n → Reads alt s g e [] m → SameReading f g n m d e
one_reading s f g n m d e h k =
    let x : Found = record { formula = f; names = n; depth = d } in
    let y : Found = record { formula = g; names = m; depth = e } in
    let both : Some x ≡ Some y = sym (complete s f n d h) ∙ complete s g m e k in
    let all : x ≡ y = cc in
    record { formula = ap (λ z. z.formula) all; names = ap (λ z. z.names) all; depth = ap (λ z. z.depth) all }
