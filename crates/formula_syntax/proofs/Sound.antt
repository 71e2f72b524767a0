-- Whatever the machine reads, the grammar reads: what a state has read is a reading with holes.
use Rattle.std.proofs.Common.{◌≡◌, ℕ, suc, ◌+◌, ◌*◌, ◌≤◌, Bool, true, false, List, [], ◌∷◌, ◌++◌, length, Option, Some, None, refl, sym, ap, ◌∙◌, subst, append_assoc, append-nil, arith, ⊎_elim, ◌⊎◌, inl, inr}
use Rattle.std.proofs.lemmas.Bool.{eqb-true}
use Rattle.std.proofs.lemmas.Bool.Decides.{nat_tests}
use Rattle.std.specs.Prelude.{max, ◌==◌, nat_le, if◌then◌else◌}
use Rattle.std.specs.Option.{option_and_then, option_map}
use Rattle.span_types.specs.Names.{is_name}
use Rattle.formula_syntax.specs.Numbering.{Names, number_in, seen}
use Rattle.span_types.specs.FormulaTree.{FormulaTree, Set, Cat, Alt, Star, Plus, Opt, Capture}
use Rattle.formula_syntax.specs.Lexis.{is_special, can_escape, hex_value, Escape, newline, tab, return, hexadecimal, itself, is_plain_member, Member, plain_member, escaped_member, Item, one, range, Items, no_item, item, in_ranges, bytes_where, negated, sign}
use Rattle.formula_syntax.specs.Grammar.{Part, alt, cat, reps, rep, Reads, one_branch, more_branches, nothing, something, last_rep, more_reps, plain, star, plus, option, letter, escape, dot, set, group, capture}
use Rattle.formula_syntax.specs.Machine.{Group, Stack, Pending, empty, low, dash, Mode, text, set_start, in_set, in_name, Slash, no_slash, slash, hex, hex_low, Machine, at, cat_of, alt_of, whole, add, change_last, postfix_of, open_group, closed, close_onto, close_in, bar, special_step, member, to_dash, end_set, set_step, mode_step, escaped, hex_step, hex_end, step_in, step, steps, start, Found, end_of, finish, read}

-- finished branches, each with its bar
pub data BranchesRead : List ℕ → List FormulaTree → ℕ → Names → Names → Type 0 where
  no_branch : (s : List ℕ) (bs : List FormulaTree) (d : ℕ) (n m : Names) → s ≡ [] → bs ≡ [] → d ≡ 0 → m ≡ n → BranchesRead s bs d n m
  branch : (s a b : List ℕ) (bs fs : List FormulaTree) (f : FormulaTree) (d c e : ℕ) (n k m : Names) → s ≡ a ++ 124 ∷ b → Reads cat a f c n k → BranchesRead b fs e k m → bs ≡ f ∷ fs → d ≡ max c e → BranchesRead s bs d n m

-- the parts of an open CAT
pub data PartsRead : List ℕ → List FormulaTree → ℕ → Names → Names → Type 0 where
  no_part : (s : List ℕ) (ps : List FormulaTree) (d : ℕ) (n m : Names) → s ≡ [] → ps ≡ [] → d ≡ 0 → m ≡ n → PartsRead s ps d n m
  part : (s a b : List ℕ) (ps fs : List FormulaTree) (f : FormulaTree) (d c e : ℕ) (n k m : Names) → s ≡ a ++ b → Reads rep a f c n k → PartsRead b fs e k m → ps ≡ f ∷ fs → d ≡ max c e → PartsRead s ps d n m

pub record LevelRead (bs ps : List FormulaTree) (s : List ℕ) (d : ℕ) (n m : Names) : Type 0 where
  pub prefix : List ℕ
  pub back : List ℕ
  pub cut : s ≡ prefix ++ back
  pub prefix_depth : ℕ
  pub back_depth : ℕ
  pub between : Names
  pub branches_read : BranchesRead prefix bs prefix_depth n between
  pub parts_read : PartsRead back ps back_depth between m
  pub depth : d ≡ max prefix_depth back_depth

-- the text that opens a group or a capture
abbrev pub Opens : Option ℕ → List ℕ → Names → Names → Type 0
Opens None w n k = (w ≡ 40 ∷ []) × (k ≡ n)
Opens (Some v) w n k = (x : List ℕ) × (w ≡ 36 ∷ (x ++ 123 ∷ [])) × (is_name x ≡ true) × (v ≡ number_in n x) × (k ≡ seen n x)

pub record Inside (Below : List ℕ → ℕ → Names → Type 0) (v : Option ℕ) (h : ℕ) (bs ps : List FormulaTree) (s : List ℕ) (e : ℕ) (m : Names) : Type 0 where
  pub below : List ℕ
  pub opener : List ℕ
  pub within : List ℕ
  pub cut : s ≡ below ++ (opener ++ within)
  pub below_depth : ℕ
  pub depth : ℕ
  pub before : Names
  pub between : Names
  pub below_read : Below below below_depth before
  pub opens : Opens v opener before between
  pub level_read : LevelRead bs ps within depth between m
  pub deepest : e ≡ max below_depth (suc h + depth)

abbrev pub GroupsRead : List Group → List FormulaTree → List FormulaTree → List ℕ → ℕ → Names → Type 0
GroupsRead [] bs ps s e m = LevelRead bs ps s e [] m
GroupsRead (g ∷ gs) bs ps s e m = Inside (GroupsRead gs g.around.branches g.around.parts) g.variable (length gs) bs ps s e m

abbrev pub StackRead : Stack → List ℕ → Type 0
StackRead k s = GroupsRead k.groups k.level.branches k.level.parts s k.deepest k.names

-- ---- parts and branches

max_zero : (d c e : ℕ) → d ≡ max c e → e ≡ 0 → d ≡ c
max_zero d c e h z = omega arith

same_reads : (p : Part) (s t : List ℕ) (f g : FormulaTree) (d e : ℕ) (n m k : Names) → s ≡ t → f ≡ g → d ≡ e → m ≡ k → Reads p t g e n k → Reads p s f d n m
same_reads p s t f g d e n m k a b c q h = rw (a, b, c, q) h

parts_reps : (s a b : List ℕ) (f : FormulaTree) (fs : List FormulaTree) (d c e : ℕ) (n k m : Names) → s ≡ a ++ b → Reads rep a f c n k → d ≡ max c e → PartsRead b fs e k m → Reads reps s (cat_of (f ∷ fs)) d n m
parts_reps s a b f fs d c e n k m cut r dd (no_part _ _ _ _ _ x y z q) =
    rw y (last_rep s f d n m (same_reads rep s a f f d c n m k (cut ∙ ap (λ v. a ++ v) x ∙ append-nil a) refl (max_zero d c e dd z) q r))
parts_reps s a b f fs d c e n k m cut r dd (part _ a' b' _ fs' f' _ c' e' _ k' _ cut' r' h is dd') =
    rw is (more_reps s a b (Cat f (cat_of (f' ∷ fs'))) f (cat_of (f' ∷ fs')) d c e n k m cut r (parts_reps b a' b' f' fs' e c' e' k k' m cut' r' dd' h) refl dd)

pub parts_cat : (s : List ℕ) (ps : List FormulaTree) (d : ℕ) (n m : Names) → PartsRead s ps d n m → Reads cat s (cat_of ps) d n m
parts_cat s ps d n m (no_part _ _ _ _ _ x y z q) = nothing s (cat_of ps) d n m x (ap cat_of y) z q
parts_cat s ps d n m (part _ a b _ fs f _ c e _ k _ cut r h is dd) =
    rw is (something s (cat_of (f ∷ fs)) d n m (parts_reps s a b f fs d c e n k m cut r dd h))

pub branches_alt : (s a b : List ℕ) (bs ps : List FormulaTree) (d c e : ℕ) (n k m : Names) → s ≡ a ++ b → d ≡ max c e → PartsRead b ps e k m → BranchesRead a bs c n k → Reads alt s (alt_of bs (cat_of ps)) d n m
branches_alt s a b bs ps d c e n k m cut dd p (no_branch _ _ _ _ _ x y z q) =
    rw y (one_branch s (cat_of ps) d n m (same_reads cat s b (cat_of ps) (cat_of ps) d e n m m (cut ∙ ap (λ v. v ++ b) x) refl (omega arith) refl (subst (λ v. Reads cat b (cat_of ps) e v m) q (parts_cat b ps e k m p))))
branches_alt s a b bs ps d c e n k m cut dd p (branch _ a' b' _ fs f _ c' e' _ k' _ cut' r h is dd') =
    rw is (more_branches s a' (b' ++ b) (Alt f (alt_of fs (cat_of ps))) f (alt_of fs (cat_of ps)) d c' (max e' e) n k' m (cut ∙ ap (λ v. v ++ b) cut' ∙ append_assoc a' (124 ∷ b') b) r (branches_alt (b' ++ b) b' b fs ps (max e' e) e' e k' k m refl refl p h) refl (omega arith))

pub level_alt : (bs ps : List FormulaTree) (s : List ℕ) (d : ℕ) (n m : Names) → LevelRead bs ps s d n m → Reads alt s (alt_of bs (cat_of ps)) d n m
level_alt bs ps s d n m h = branches_alt s h.prefix h.back bs ps d h.prefix_depth h.back_depth n h.between m h.cut h.depth h.parts_read h.branches_read

push_part : (s b : List ℕ) (ps : List FormulaTree) (f : FormulaTree) (d e : ℕ) (n k m : Names) → Reads rep b f e k m → PartsRead s ps d n k → PartsRead (s ++ b) (ps ++ f ∷ []) (max d e) n m
push_part s b ps f d e n k m r (no_part _ _ _ _ _ x y z q) =
    let q' : n ≡ k = sym q in
    part (s ++ b) b [] (ps ++ f ∷ []) [] f (max d e) e 0 n m m (ap (λ v. v ++ b) x ∙ sym (append-nil b)) (rw q' r) (no_part [] [] 0 m m refl refl refl refl) (ap (λ v. v ++ f ∷ []) y) (omega arith)
push_part s b ps f d e n k m r (part _ a' b' _ fs g _ c' e' _ k' _ cut r' h is dd) =
    part (s ++ b) a' (b' ++ b) (ps ++ f ∷ []) (fs ++ f ∷ []) g (max d e) c' (max e' e) n k' m (ap (λ v. v ++ b) cut ∙ append_assoc a' b' b) r' (push_part b' b fs f e' e k' k m r h) (ap (λ v. v ++ f ∷ []) is) (omega arith)

push_branch : (s b : List ℕ) (bs : List FormulaTree) (f : FormulaTree) (d e : ℕ) (n k m : Names) → Reads cat b f e k m → BranchesRead s bs d n k → BranchesRead (s ++ (b ++ 124 ∷ [])) (bs ++ f ∷ []) (max d e) n m
push_branch s b bs f d e n k m r (no_branch _ _ _ _ _ x y z q) =
    let q' : n ≡ k = sym q in
    branch (s ++ (b ++ 124 ∷ [])) b [] (bs ++ f ∷ []) [] f (max d e) e 0 n m m (ap (λ v. v ++ (b ++ 124 ∷ [])) x) (rw q' r) (no_branch [] [] 0 m m refl refl refl refl) (ap (λ v. v ++ f ∷ []) y) (omega arith)
push_branch s b bs f d e n k m r (branch _ a' b' _ fs g _ c' e' _ k' _ cut r' h is dd) =
    branch (s ++ (b ++ 124 ∷ [])) a' (b' ++ (b ++ 124 ∷ [])) (bs ++ f ∷ []) (fs ++ f ∷ []) g (max d e) c' (max e' e) n k' m (ap (λ v. v ++ (b ++ 124 ∷ [])) cut ∙ append_assoc a' (124 ∷ b') (b ++ 124 ∷ [])) r' (push_branch b' b fs f e' e k' k m r h) (ap (λ v. v ++ f ∷ []) is) (omega arith)

none_some : {A : Type 0} (x : A) (Q : Type 0) → None ≡ Some x → Q
none_some x Q h = cc

map_some : (f : FormulaTree) (o : Option (List FormulaTree)) (qs : List FormulaTree) → option_map (λ x. f ∷ x) o ≡ Some qs → (rs : List FormulaTree) × (o ≡ Some rs) × (qs ≡ f ∷ rs)
map_some f None qs h = none_some _ _ h
map_some f (Some rs) qs h = let e : f ∷ rs ≡ qs = cc in (rs, refl, sym e)

-- a sign after the last part
record Signs (w : ℕ) (g : FormulaTree → FormulaTree) : Type 0 where
  signed : (a : List ℕ) (f : FormulaTree) (d : ℕ) (n m : Names) → Reads rep a f d n m → Reads rep (a ++ w ∷ []) (g f) d n m

change_some : (g : FormulaTree → FormulaTree) (f : FormulaTree) (fs qs : List FormulaTree) → change_last g (f ∷ fs) ≡ Some qs → ((fs ≡ []) × (qs ≡ g f ∷ [])) ⊎ ((rs : List FormulaTree) × (change_last g fs ≡ Some rs) × (qs ≡ f ∷ rs))
change_some g f [] qs h = let e : g f ∷ [] ≡ qs = cc in inl (refl, sym e)
change_some g f (h ∷ fs) qs e = inr (map_some f (change_last g (h ∷ fs)) qs e)

change_part : (w : ℕ) (g : FormulaTree → FormulaTree) → Signs w g → (s : List ℕ) (ps qs : List FormulaTree) (d : ℕ) (n m : Names) → change_last g ps ≡ Some qs → PartsRead s ps d n m → PartsRead (s ++ w ∷ []) qs d n m
change_part w g y s ps qs d n m e (no_part _ _ _ _ _ x is z q) = none_some qs _ (sym (ap (change_last g) is) ∙ e)
change_part w g y s ps qs d n m e (part _ a b _ fs f _ c t _ k _ cut r h is dd) =
    let e' : change_last g (f ∷ fs) ≡ Some qs = sym (ap (change_last g) is) ∙ e in
    ⊎_elim (λ v. only h v.0 v.1) (λ v. part (s ++ w ∷ []) a (b ++ w ∷ []) qs v.0 f d c t n k m (ap (λ z. z ++ w ∷ []) cut ∙ append_assoc a b (w ∷ [])) r (change_part w g y b fs v.0 t k m v.1 h) v.2 dd) (change_some g f fs qs e')
  where
    only : PartsRead b fs t k m → fs ≡ [] → qs ≡ g f ∷ [] → PartsRead (s ++ w ∷ []) qs d n m
    only (no_part _ _ _ _ _ x _ z q) _ u =
        part (s ++ w ∷ []) (a ++ w ∷ []) [] qs [] (g f) d c 0 n k m (ap (λ v. v ++ w ∷ []) (cut ∙ ap (λ v. a ++ v) x ∙ append-nil a) ∙ sym (append-nil (a ++ w ∷ []))) (y.signed a f c n k r) (no_part [] [] 0 k m refl refl refl q) u (omega arith)
    only (part _ _ _ _ _ _ _ _ _ _ _ _ _ _ _ is' _) nil u = absurd (cc)

-- ---- the level on top, changed

change_level : (gs : List Group) (bs ps cs qs : List FormulaTree) (s w : List ℕ) (e x : ℕ) (m m' : Names) → ((b : List ℕ) (d : ℕ) (n : Names) → LevelRead bs ps b d n m → LevelRead cs qs (b ++ w) (max d x) n m') → GroupsRead gs bs ps s e m → GroupsRead gs cs qs (s ++ w) (max e (length gs + x)) m'
change_level [] bs ps cs qs s w e x m m' f h =
    let y = f s e [] h in
    let same : max e (0 + x) ≡ max e x = omega arith in
    rw same y
change_level (g ∷ gs) bs ps cs qs s w e x m m' f h =
    record {
      below = h.below;
      opener = h.opener;
      within = h.within ++ w;
      cut = ap (λ v. v ++ w) h.cut ∙ append_assoc h.below (h.opener ++ h.within) w ∙ ap (λ v. h.below ++ v) (append_assoc h.opener h.within w);
      below_depth = h.below_depth;
      depth = max h.depth x;
      before = h.before;
      between = h.between;
      below_read = h.below_read;
      opens = h.opens;
      level_read = f h.within h.depth h.between h.level_read;
      deepest = omega (arith, h.deepest);
    }

level_push : (bs ps : List FormulaTree) (f : FormulaTree) (w b : List ℕ) (d x : ℕ) (n m m' : Names) → Reads rep w f x m m' → LevelRead bs ps b d n m → LevelRead bs (ps ++ f ∷ []) (b ++ w) (max d x) n m'
level_push bs ps f w b d x n m m' r h = record {
  prefix = h.prefix;
  back = h.back ++ w;
  cut = ap (λ v. v ++ w) h.cut ∙ append_assoc h.prefix h.back w;
  prefix_depth = h.prefix_depth;
  back_depth = max h.back_depth x;
  between = h.between;
  branches_read = h.branches_read;
  parts_read = push_part h.back w ps f h.back_depth x h.between m m' r h.parts_read;
  depth = omega (arith, h.depth);
}

level_bar : (bs ps : List FormulaTree) (b : List ℕ) (d : ℕ) (n m : Names) → LevelRead bs ps b d n m → LevelRead (bs ++ cat_of ps ∷ []) [] (b ++ 124 ∷ []) (max d 0) n m
level_bar bs ps b d n m h = record {
  prefix = h.prefix ++ (h.back ++ 124 ∷ []);
  back = [];
  cut = ap (λ v. v ++ 124 ∷ []) h.cut ∙ append_assoc h.prefix h.back (124 ∷ []) ∙ sym (append-nil (h.prefix ++ (h.back ++ 124 ∷ [])));
  prefix_depth = max h.prefix_depth h.back_depth;
  back_depth = 0;
  between = m;
  branches_read = push_branch h.prefix h.back bs (cat_of ps) h.prefix_depth h.back_depth n h.between m (parts_cat h.back ps h.back_depth h.between m h.parts_read) h.branches_read;
  parts_read = no_part [] [] 0 m m refl refl refl refl;
  depth = omega (arith, h.depth);
}

level_sign : (z : ℕ) (c : FormulaTree → FormulaTree) → Signs z c → (bs ps qs : List FormulaTree) (b : List ℕ) (d : ℕ) (n m : Names) → change_last c ps ≡ Some qs → LevelRead bs ps b d n m → LevelRead bs qs (b ++ z ∷ []) (max d 0) n m
level_sign z c y bs ps qs b d n m e h = record {
  prefix = h.prefix;
  back = h.back ++ z ∷ [];
  cut = ap (λ v. v ++ z ∷ []) h.cut ∙ append_assoc h.prefix h.back (z ∷ []);
  prefix_depth = h.prefix_depth;
  back_depth = h.back_depth;
  between = h.between;
  branches_read = h.branches_read;
  parts_read = change_part z c y h.back ps qs h.back_depth h.between m e h.parts_read;
  depth = omega (arith, h.depth);
}

level_fresh : (n : Names) → LevelRead [] [] [] 0 n n
level_fresh n = record {
  prefix = [];
  back = [];
  cut = refl;
  prefix_depth = 0;
  back_depth = 0;
  between = n;
  branches_read = no_branch [] [] 0 n n refl refl refl refl;
  parts_read = no_part [] [] 0 n n refl refl refl refl;
  depth = refl;
}

-- the stack is at least as deep as it is now
deep : (gs : List Group) (bs ps : List FormulaTree) (s : List ℕ) (e : ℕ) (m : Names) → GroupsRead gs bs ps s e m → length gs ≤ e
deep [] bs ps s e m h = omega arith
deep (g ∷ gs) bs ps s e m h = omega (arith, h.deepest)

stays : (gs : List Group) (bs ps : List FormulaTree) (s : List ℕ) (e : ℕ) (m : Names) → length gs ≤ e → GroupsRead gs bs ps s (max e (length gs + 0)) m → GroupsRead gs bs ps s e m
stays gs bs ps s e m le h = let same : max e (length gs + 0) ≡ e = omega arith in subst (λ v. GroupsRead gs bs ps s v m) same h

-- ---- what a state has read

-- the part of a set after its sign
abbrev pub SetRead : List (ℕ × ℕ) → Pending → List ℕ → Type 0
SetRead rs empty c = Items c rs
SetRead rs (low a) c = (u : List ℕ) × (v : List ℕ) × (c ≡ u ++ v) × Items u rs × Member v a
SetRead rs (dash a) c = (u : List ℕ) × (v : List ℕ) × (c ≡ u ++ (v ++ 45 ∷ [])) × Items u rs × Member v a

abbrev pub ModeRead : Mode → List ℕ → Type 0
ModeRead text b = b ≡ []
ModeRead set_start b = b ≡ 91 ∷ []
ModeRead (in_set neg rs p) b = (c : List ℕ) × (b ≡ 91 ∷ (sign neg ++ c)) × SetRead rs p c
ModeRead (in_name x) b = b ≡ 36 ∷ x

abbrev pub SlashRead : Slash → List ℕ → Type 0
SlashRead no_slash w = w ≡ []
SlashRead slash w = w ≡ 92 ∷ []
SlashRead hex w = w ≡ 92 ∷ 120 ∷ []
SlashRead (hex_low x) w = (h : ℕ) × (w ≡ 92 ∷ 120 ∷ h ∷ []) × (hex_value h ≡ Some x)

pub record Holds (m : Machine) (s : List ℕ) : Type 0 where
  pub done : List ℕ
  pub token : List ℕ
  pub backslash : List ℕ
  pub cut : s ≡ done ++ (token ++ backslash)
  pub stack_read : StackRead m.stack done
  pub mode_read : ModeRead m.mode token
  pub slash_read : SlashRead m.escape backslash

-- a token that is whole: a part is added to the stack
adds_part : (k : Stack) (f : FormulaTree) (s w : List ℕ) → StackRead k s → Reads rep w f 0 k.names k.names → Holds (at text (add k f)) (s ++ w)
adds_part k f s w h r = record {
  done = s ++ w;
  token = [];
  backslash = [];
  cut = sym (append-nil (s ++ w));
  stack_read =
      stays k.groups k.level.branches (k.level.parts ++ f ∷ []) (s ++ w) k.deepest k.names (deep k.groups _ _ s k.deepest k.names h)
      (change_level k.groups k.level.branches k.level.parts k.level.branches (k.level.parts ++ f ∷ []) s w k.deepest 0 k.names k.names (λ b d n. level_push k.level.branches k.level.parts f w b d 0 n k.names k.names r) h);
  mode_read = refl;
  slash_read = refl;
}

adds_bar : (k : Stack) (s : List ℕ) → StackRead k s → Holds (at text (bar k)) (s ++ 124 ∷ [])
adds_bar k s h = record {
  done = s ++ 124 ∷ [];
  token = [];
  backslash = [];
  cut = sym (append-nil (s ++ 124 ∷ []));
  stack_read =
      stays k.groups (k.level.branches ++ cat_of k.level.parts ∷ []) [] (s ++ 124 ∷ []) k.deepest k.names (deep k.groups _ _ s k.deepest k.names h)
      (change_level k.groups k.level.branches k.level.parts (k.level.branches ++ cat_of k.level.parts ∷ []) [] s (124 ∷ []) k.deepest 0 k.names k.names (λ b d n. level_bar k.level.branches k.level.parts b d n k.names) h);
  mode_read = refl;
  slash_read = refl;
}

same_some : {A : Type 0} (x y : A) → Some x ≡ Some y → x ≡ y
same_some x y h = cc

adds_sign : (z : ℕ) (c : FormulaTree → FormulaTree) → Signs z c → (k : Stack) (s : List ℕ) (n : Machine) (o : Option (List FormulaTree)) → change_last c k.level.parts ≡ o → postfix_of k o ≡ Some n → StackRead k s → Holds n (s ++ z ∷ [])
adds_sign z c y k s n None e g h = none_some n _ g
adds_sign z c y k s n (Some qs) e g h =
    subst (λ v. Holds v (s ++ z ∷ [])) (same_some _ n g) (record {
      done = s ++ z ∷ [];
      token = [];
      backslash = [];
      cut = sym (append-nil (s ++ z ∷ []));
      stack_read =
          stays k.groups k.level.branches qs (s ++ z ∷ []) k.deepest k.names (deep k.groups _ _ s k.deepest k.names h)
          (change_level k.groups k.level.branches k.level.parts k.level.branches qs s (z ∷ []) k.deepest 0 k.names k.names (λ b d n. level_sign z c y k.level.branches k.level.parts qs b d n k.names e) h);
      mode_read = refl;
      slash_read = refl;
    })

adds_group : (k : Stack) (s w : List ℕ) (v : Option ℕ) (names : Names) → Opens v w k.names names → StackRead k s → Holds (at text (open_group k v names)) (s ++ w)
adds_group k s w v names o h = record {
  done = s ++ w;
  token = [];
  backslash = [];
  cut = sym (append-nil (s ++ w));
  stack_read = record {
    below = s;
    opener = w;
    within = [];
    cut = ap (λ z. s ++ z) (sym (append-nil w));
    below_depth = k.deepest;
    depth = 0;
    before = k.names;
    between = names;
    below_read = h;
    opens = o;
    level_read = level_fresh names;
    deepest = omega arith;
  };
  mode_read = refl;
  slash_read = refl;
}

-- the closing sign
abbrev closing : Bool → ℕ
closing b = if b then 125 else 41

closes : (b : Bool) (v : Option ℕ) (w a : List ℕ) (f g : FormulaTree) (d : ℕ) (n k m : Names) → closed b v f ≡ Some g → Opens v w n k → Reads alt a f d k m → Reads rep (w ++ (a ++ closing b ∷ [])) g (suc d) n m
closes false None w a f g d n k m e o h =
    let w_is : w ++ (a ++ 41 ∷ []) ≡ 40 ∷ (a ++ 41 ∷ []) = ap (λ z. z ++ (a ++ 41 ∷ [])) o.0 in
    plain _ g (suc d) n m (group _ a g (suc d) d n m w_is (subst (λ z. Reads alt a g d z m) o.1 (subst (λ z. Reads alt a z d k m) (same_some f g e) h)) refl)
closes false (Some v) w a f g d n k m e o h = none_some g _ e
closes true None w a f g d n k m e o h = none_some g _ e
closes true (Some v) w a f g d n k m e o h =
    let x = o.0 in
    let w_is : w ++ (a ++ 125 ∷ []) ≡ 36 ∷ (x ++ 123 ∷ (a ++ 125 ∷ [])) = ap (λ z. z ++ (a ++ 125 ∷ [])) o.1 ∙ ap (λ z. 36 ∷ z) (append_assoc x (123 ∷ []) (a ++ 125 ∷ [])) in
    plain _ g (suc d) n m (capture _ x a g f (suc d) d n m w_is o.2 (subst (λ z. Reads alt a f d z m) o.4 h) (sym (same_some (Capture v f) g e) ∙ ap (λ z. Capture z f) o.3) refl)

adds_close : (b : Bool) (k : Stack) (s : List ℕ) (n : Machine) (gs : List Group) → close_in b k gs ≡ Some n → GroupsRead gs k.level.branches k.level.parts s k.deepest k.names → Holds n (s ++ closing b ∷ [])
adds_close b k s n [] e h = none_some n _ e
adds_close b k s n (g ∷ gs) e h = onto (closed b g.variable (whole k.level)) refl e
  where
    onto : (o : Option FormulaTree) → closed b g.variable (whole k.level) ≡ o → close_onto k gs g.around o ≡ Some n → Holds n (s ++ closing b ∷ [])
    onto None c e = none_some n _ e
    onto (Some f) c e =
        let inner = level_alt k.level.branches k.level.parts h.within h.depth h.between k.names h.level_read in
        let w : List ℕ = h.opener ++ (h.within ++ closing b ∷ []) in
        let atom_read = closes b g.variable h.opener h.within (whole k.level) f h.depth h.before h.between k.names c h.opens inner in
        let up = change_level gs g.around.branches g.around.parts g.around.branches (g.around.parts ++ f ∷ []) h.below w h.below_depth (suc h.depth) h.before k.names (λ b d n. level_push g.around.branches g.around.parts f w b d (suc h.depth) n h.before k.names atom_read) h.below_read in
        let deepest : max h.below_depth (length gs + suc h.depth) ≡ k.deepest = omega (arith, h.deepest) in
        let text_is : h.below ++ w ≡ s ++ closing b ∷ [] =
        ap (λ z. h.below ++ z) (sym (append_assoc h.opener h.within (closing b ∷ []))) ∙ sym (append_assoc h.below (h.opener ++ h.within) (closing b ∷ [])) ∙ ap (λ z. z ++ closing b ∷ []) (sym h.cut) in
        subst (λ v. Holds v (s ++ closing b ∷ [])) (same_some _ n e) (record {
          done = s ++ closing b ∷ [];
          token = [];
          backslash = [];
          cut = sym (append-nil (s ++ closing b ∷ []));
          stack_read = subst (λ z. GroupsRead gs g.around.branches (g.around.parts ++ f ∷ []) z k.deepest k.names) text_is (subst (λ z. GroupsRead gs g.around.branches (g.around.parts ++ f ∷ []) (h.below ++ w) z k.names) deepest up);
          mode_read = refl;
          slash_read = refl;
        })

-- ---- one byte

by_bool : (t : Bool) (x y z : Option Machine) (Q : Type 0) → (if t then x else y) ≡ z → (t ≡ true → x ≡ z → Q) → (t ≡ false → y ≡ z → Q) → Q
by_bool true x y z Q h f g = f refl h
by_bool false x y z Q h f g = g refl h

by_test : (b w : ℕ) (x y z : Option Machine) (Q : Type 0) → (if b == w then x else y) ≡ z → (b ≡ w → x ≡ z → Q) → (y ≡ z → Q) → Q
by_test b w x y z Q h f g = by_bool (b == w) x y z Q h (λ e. f (eqb-true b w e)) (λ e. g)

moved : (n : Machine) (s t : List ℕ) → s ≡ t → Holds n t → Holds n s
moved n s t e h = subst (λ v. Holds n v) (sym e) h

became : (m n : Machine) (s : List ℕ) → Some m ≡ Some n → Holds m s → Holds n s
became m n s e h = subst (λ v. Holds v s) (same_some m n e) h

-- the byte after a text is one that is known
last_is : (n : Machine) (s : List ℕ) (b w : ℕ) → b ≡ w → Holds n (s ++ w ∷ []) → Holds n (s ++ b ∷ [])
last_is n s b w e h = subst (λ v. Holds n (s ++ v ∷ [])) (sym e) h

starred : Signs 42 Star
starred = record { signed = λ a f d n m r. star (a ++ 42 ∷ []) a (Star f) f d n m refl r refl }

plussed : Signs 43 Plus
plussed = record { signed = λ a f d n m r. plus (a ++ 43 ∷ []) a (Plus f) f d n m refl r refl }

optional : Signs 63 Opt
optional = record { signed = λ a f d n m r. option (a ++ 63 ∷ []) a (Opt f) f d n m refl r refl }

special_holds : (k : Stack) (n : Machine) (s : List ℕ) (b : ℕ) → special_step k b ≡ Some n → StackRead k s → Holds n (s ++ b ∷ [])
special_holds k n s b step_is h =
    let Q : Type 0 = Holds n (s ++ b ∷ []) in
    by_test b 46 _ _ _ Q step_is (λ e r. last_is n s b 46 e (became _ n _ r (adds_part k _ s (46 ∷ []) h (plain _ _ _ _ _ (dot _ _ _ _ _ refl refl refl refl)))))
    (λ e1. by_test b 91 _ _ _ Q e1 (λ e r. last_is n s b 91 e (became _ n _ r (record { done = s; token = 91 ∷ []; backslash = []; cut = refl; stack_read = h; mode_read = refl; slash_read = refl })))
    (λ e2. by_test b 40 _ _ _ Q e2 (λ e r. last_is n s b 40 e (became _ n _ r (adds_group k s (40 ∷ []) None k.names (refl, refl) h)))
    (λ e3. by_test b 41 _ _ _ Q e3 (λ e r. last_is n s b 41 e (adds_close false k s n k.groups r h))
    (λ e4. by_test b 125 _ _ _ Q e4 (λ e r. last_is n s b 125 e (adds_close true k s n k.groups r h))
    (λ e5. by_test b 124 _ _ _ Q e5 (λ e r. last_is n s b 124 e (became _ n _ r (adds_bar k s h)))
    (λ e6. by_test b 42 _ _ _ Q e6 (λ e r. last_is n s b 42 e (adds_sign 42 Star starred k s n _ refl r h))
    (λ e7. by_test b 43 _ _ _ Q e7 (λ e r. last_is n s b 43 e (adds_sign 43 Plus plussed k s n _ refl r h))
    (λ e8. by_test b 63 _ _ _ Q e8 (λ e r. last_is n s b 63 e (adds_sign 63 Opt optional k s n _ refl r h))
    (λ e9. by_test b 36 _ _ _ Q e9 (λ e r. last_is n s b 36 e (became _ n _ r (record { done = s; token = 36 ∷ []; backslash = []; cut = refl; stack_read = h; mode_read = refl; slash_read = refl })))
    (λ e10. by_test b 92 _ _ _ Q e10 (λ e r. last_is n s b 92 e (became _ n _ r (record { done = s; token = []; backslash = 92 ∷ []; cut = refl; stack_read = h; mode_read = refl; slash_read = refl })))
    (λ e11. none_some n Q e11)))))))))))

text_holds : (k : Stack) (n : Machine) (s : List ℕ) (b : ℕ) → mode_step text k b ≡ Some n → StackRead k s → Holds n (s ++ b ∷ [])
text_holds k n s b e h =
    by_bool (is_special b) _ _ _ (Holds n (s ++ b ∷ [])) e
    (λ t r. special_holds k n s b r h)
    (λ t r. became _ n _ r (adds_part k _ s (b ∷ []) h (plain _ _ _ _ _ (letter _ _ _ b _ _ refl t refl refl refl))))

-- ---- sets

items_push : (s v : List ℕ) (rs : List (ℕ × ℕ)) (l h : ℕ) → Item v l h → Items s rs → Items (s ++ v) (rs ++ (l, h) ∷ [])
items_push s v rs l h i (no_item _ _ e f) =
    item (s ++ v) v [] l h (rs ++ (l, h) ∷ []) [] (ap (λ z. z ++ v) e ∙ sym (append-nil v)) i (no_item [] [] refl refl) (ap (λ z. z ++ (l, h) ∷ []) f)
items_push s v rs l h i (item _ a b c d _ os e j k f) =
    item (s ++ v) a (b ++ v) c d (rs ++ (l, h) ∷ []) (os ++ (l, h) ∷ []) (ap (λ z. z ++ v) e ∙ append_assoc a b v) j (items_push b v os l h i k) (ap (λ z. z ++ (l, h) ∷ []) f)

same_items : (s t : List ℕ) (rs : List (ℕ × ℕ)) → s ≡ t → Items t rs → Items s rs
same_items s t rs e h = subst (λ v. Items v rs) (sym e) h

-- the text of a set up to here
abbrev set_text : List ℕ → Bool → List ℕ → List ℕ
set_text s neg c = s ++ (91 ∷ (sign neg ++ c))

in_set_holds : (k : Stack) (s : List ℕ) (neg : Bool) (rs : List (ℕ × ℕ)) (p : Pending) (c : List ℕ) → StackRead k s → SetRead rs p c → Holds (at (in_set neg rs p) k) (set_text s neg c)
in_set_holds k s neg rs p c h r = record {
  done = s;
  token = 91 ∷ (sign neg ++ c);
  backslash = [];
  cut = ap (λ z. s ++ z) (sym (append-nil (91 ∷ (sign neg ++ c))));
  stack_read = h;
  mode_read = (c, refl, r);
  slash_read = refl;
}

settled_items : (rs : List (ℕ × ℕ)) (a : ℕ) (c : List ℕ) → SetRead rs (low a) c → Items c (rs ++ (a, a) ∷ [])
settled_items rs a c r = same_items c (r.0 ++ r.1) _ r.2 (items_push r.0 r.1 rs a a (one r.1 a a r.4 refl) r.3)

member_holds : (k : Stack) (n : Machine) (s : List ℕ) (neg : Bool) (rs : List (ℕ × ℕ)) (p : Pending) (c v : List ℕ) (b : ℕ) → Member v b → member k neg rs p b ≡ Some n → StackRead k s → SetRead rs p c → Holds n (set_text s neg (c ++ v))
member_holds k n s neg rs empty c v b m e h r = became _ n _ e (in_set_holds k s neg rs (low b) (c ++ v) h (c, v, refl, r, m))
member_holds k n s neg rs (low a) c v b m e h r = became _ n _ e (in_set_holds k s neg (rs ++ (a, a) ∷ []) (low b) (c ++ v) h (c, v, refl, settled_items rs a c r, m))
member_holds k n s neg rs (dash a) c v b m e h r =
    by_bool (nat_le a b) _ _ _ (Holds n (set_text s neg (c ++ v))) e
    (λ t e1.
    let le : a ≤ b = grind (arith, nat_tests) in
    let cut : c ++ v ≡ r.0 ++ (r.1 ++ 45 ∷ v) = ap (λ z. z ++ v) r.2 ∙ append_assoc r.0 (r.1 ++ 45 ∷ []) v ∙ ap (λ z. r.0 ++ z) (append_assoc r.1 (45 ∷ []) v) in
    let whole_items : Items (c ++ v) (rs ++ (a, b) ∷ []) = same_items (c ++ v) _ _ cut (items_push r.0 (r.1 ++ 45 ∷ v) rs a b (range (r.1 ++ 45 ∷ v) r.1 v a b refl r.4 m le) r.3) in
    became _ n _ e1 (in_set_holds k s neg (rs ++ (a, b) ∷ []) empty (c ++ v) h whole_items))
    (λ t e1. none_some n _ e1)

set_ends : (k : Stack) (s : List ℕ) (neg : Bool) (rs : List (ℕ × ℕ)) (c : List ℕ) → StackRead k s → Items c rs → Holds (at text (add k (Set (bytes_where (negated neg (in_ranges rs)))))) (set_text s neg (c ++ 93 ∷ []))
set_ends k s neg rs c h i = adds_part k _ s (91 ∷ (sign neg ++ (c ++ 93 ∷ []))) h (plain _ _ _ _ _ (set _ c _ _ _ _ neg rs refl i refl refl refl))

end_holds : (k : Stack) (n : Machine) (s : List ℕ) (neg : Bool) (rs : List (ℕ × ℕ)) (p : Pending) (c : List ℕ) → end_set k neg rs p ≡ Some n → StackRead k s → SetRead rs p c → Holds n (set_text s neg (c ++ 93 ∷ []))
end_holds k n s neg rs empty c e h r = became _ n _ e (set_ends k s neg rs c h r)
end_holds k n s neg rs (low a) c e h r = became _ n _ e (set_ends k s neg (rs ++ (a, a) ∷ []) c h (settled_items rs a c r))
end_holds k n s neg rs (dash a) c e h r = none_some n _ e

dash_holds : (k : Stack) (n : Machine) (s : List ℕ) (neg : Bool) (rs : List (ℕ × ℕ)) (p : Pending) (c : List ℕ) → to_dash k neg rs p ≡ Some n → StackRead k s → SetRead rs p c → Holds n (set_text s neg (c ++ 45 ∷ []))
dash_holds k n s neg rs empty c e h r = none_some n _ e
dash_holds k n s neg rs (low a) c e h r = became _ n _ e (in_set_holds k s neg rs (dash a) (c ++ 45 ∷ []) h (r.0, r.1, ap (λ z. z ++ 45 ∷ []) r.2 ∙ append_assoc r.0 r.1 (45 ∷ []), r.3, r.4))
dash_holds k n s neg rs (dash a) c e h r = none_some n _ e

set_holds : (k : Stack) (n : Machine) (s : List ℕ) (neg : Bool) (rs : List (ℕ × ℕ)) (p : Pending) (c : List ℕ) (b : ℕ) → set_step k neg rs p b ≡ Some n → StackRead k s → SetRead rs p c → Holds n (set_text s neg (c ++ b ∷ []))
set_holds k n s neg rs p c b step_is h r =
    let Q : Type 0 = Holds n (set_text s neg (c ++ b ∷ [])) in
    by_bool (is_plain_member b) _ _ _ Q step_is (λ t e. member_holds k n s neg rs p c (b ∷ []) b (plain_member _ b refl t) e h r)
    (λ t e1. by_test b 93 _ _ _ Q e1 (λ is e. at_byte 93 is (end_holds k n s neg rs p c e h r))
    (λ e2. by_test b 45 _ _ _ Q e2 (λ is e. at_byte 45 is (dash_holds k n s neg rs p c e h r))
    (λ e3. by_test b 92 _ _ _ Q e3 (λ is e. at_byte 92 is (became _ n _ e (record {
      done = s;
      token = 91 ∷ (sign neg ++ c);
      backslash = 92 ∷ [];
      cut = ap (λ z. s ++ (91 ∷ z)) (sym (append_assoc (sign neg) c (92 ∷ [])));
      stack_read = h;
      mode_read = (c, refl, r);
      slash_read = refl;
    })))
    (λ e4. none_some n Q e4))))
  where
    at_byte : (w : ℕ) → b ≡ w → Holds n (set_text s neg (c ++ w ∷ [])) → Holds n (set_text s neg (c ++ b ∷ []))
    at_byte w is x = subst (λ v. Holds n (set_text s neg (c ++ v ∷ []))) (sym is) x

-- ---- the modes and the escapes

name_holds : (k : Stack) (n : Machine) (s x : List ℕ) (b : ℕ) → mode_step (in_name x) k b ≡ Some n → StackRead k s → Holds n (s ++ (36 ∷ (x ++ b ∷ [])))
name_holds k n s x b e h =
    let Q : Type 0 = Holds n (s ++ (36 ∷ (x ++ b ∷ []))) in
    by_test b 123 _ _ _ Q e
    (λ is e1. by_bool (is_name x) _ _ _ Q e1
    (λ t e2. subst (λ v. Holds n (s ++ (36 ∷ (x ++ v ∷ [])))) (sym is) (became _ n _ e2 (adds_group k s (36 ∷ (x ++ 123 ∷ [])) (Some (number_in k.names x)) (seen k.names x) (x, refl, t, refl, refl) h)))
    (λ t e2. none_some n Q e2))
    (λ e1. became _ n _ e1 (record { done = s; token = 36 ∷ (x ++ b ∷ []); backslash = []; cut = ap (λ z. s ++ z) (sym (append-nil (36 ∷ (x ++ b ∷ [])))); stack_read = h; mode_read = refl; slash_read = refl }))

mode_holds : (m : Mode) (k : Stack) (n : Machine) (s t : List ℕ) (b : ℕ) → mode_step m k b ≡ Some n → StackRead k s → ModeRead m t → Holds n (s ++ (t ++ b ∷ []))
mode_holds text k n s t b e h r = moved n _ (s ++ b ∷ []) (ap (λ z. s ++ (z ++ b ∷ [])) r) (text_holds k n s b e h)
mode_holds set_start k n s t b e h r =
    by_test b 94 _ _ _ (Holds n (s ++ (t ++ b ∷ []))) e
    (λ is e1. moved n _ (set_text s true []) (ap (λ z. s ++ (z ++ b ∷ [])) r ∙ ap (λ z. s ++ (91 ∷ z ∷ [])) is) (became _ n _ e1 (in_set_holds k s true [] empty [] h (no_item [] [] refl refl))))
    (λ e1. moved n _ (set_text s false ([] ++ b ∷ [])) (ap (λ z. s ++ (z ++ b ∷ [])) r) (set_holds k n s false [] empty [] b e1 h (no_item [] [] refl refl)))
mode_holds (in_set neg rs p) k n s t b e h r =
    moved n _ (set_text s neg (r.0 ++ b ∷ [])) (ap (λ z. s ++ (z ++ b ∷ [])) r.1 ∙ ap (λ z. s ++ (91 ∷ z)) (append_assoc (sign neg) r.0 (b ∷ []))) (set_holds k n s neg rs p r.0 b e h r.2)
mode_holds (in_name x) k n s t b e h r = moved n _ (s ++ (36 ∷ (x ++ b ∷ []))) (ap (λ z. s ++ (z ++ b ∷ [])) r) (name_holds k n s x b e h)

escaped_holds : (m : Mode) (k : Stack) (n : Machine) (s t w : List ℕ) (b : ℕ) → Escape w b → escaped m k b ≡ Some n → StackRead k s → ModeRead m t → Holds n (s ++ (t ++ w))
escaped_holds text k n s t w b x e h r = moved n _ (s ++ w) (ap (λ z. s ++ (z ++ w)) r) (became _ n _ e (adds_part k _ s w h (plain _ _ _ _ _ (escape _ _ _ b _ _ x refl refl refl))))
escaped_holds set_start k n s t w b x e h r = none_some n _ e
escaped_holds (in_set neg rs p) k n s t w b x e h r =
    moved n _ (set_text s neg (r.0 ++ w)) (ap (λ z. s ++ (z ++ w)) r.1 ∙ ap (λ z. s ++ (91 ∷ z)) (append_assoc (sign neg) r.0 w)) (member_holds k n s neg rs p r.0 w b (escaped_member w b x) e h r.2)
escaped_holds (in_name x) k n s t w b y e h r = none_some n _ e

slash_holds : (m : Mode) (k : Stack) (n : Machine) (s t : List ℕ) (b : ℕ) → step_in slash m k b ≡ Some n → StackRead k s → ModeRead m t → Holds n (s ++ (t ++ (92 ∷ b ∷ [])))
slash_holds m k n s t b step_is h r =
    let Q : Type 0 = Holds n (s ++ (t ++ (92 ∷ b ∷ []))) in
    by_bool (can_escape b) _ _ _ Q step_is (λ c e. escaped_holds m k n s t (92 ∷ b ∷ []) b (itself _ b refl c) e h r)
    (λ c e1. by_test b 110 _ _ _ Q e1 (λ is e. escaped_holds m k n s t (92 ∷ b ∷ []) 10 (newline _ 10 (ap (λ z. 92 ∷ z ∷ []) is) refl) e h r)
    (λ e2. by_test b 116 _ _ _ Q e2 (λ is e. escaped_holds m k n s t (92 ∷ b ∷ []) 9 (tab _ 9 (ap (λ z. 92 ∷ z ∷ []) is) refl) e h r)
    (λ e3. by_test b 114 _ _ _ Q e3 (λ is e. escaped_holds m k n s t (92 ∷ b ∷ []) 13 (return _ 13 (ap (λ z. 92 ∷ z ∷ []) is) refl) e h r)
    (λ e4. by_test b 120 _ _ _ Q e4 (λ is e. became _ n _ e (record { done = s; token = t; backslash = 92 ∷ b ∷ []; cut = refl; stack_read = h; mode_read = r; slash_read = ap (λ z. 92 ∷ z ∷ []) is }))
    (λ e5. none_some n Q e5)))))

hex_holds : (m : Mode) (k : Stack) (n : Machine) (s t : List ℕ) (b : ℕ) (o : Option ℕ) → hex_value b ≡ o → hex_step m k o ≡ Some n → StackRead k s → ModeRead m t → Holds n (s ++ (t ++ (92 ∷ 120 ∷ b ∷ [])))
hex_holds m k n s t b None v e h r = none_some n _ e
hex_holds m k n s t b (Some x) v e h r = became _ n _ e (record { done = s; token = t; backslash = 92 ∷ 120 ∷ b ∷ []; cut = refl; stack_read = h; mode_read = r; slash_read = (b, refl, v) })

low_holds : (m : Mode) (k : Stack) (n : Machine) (s t : List ℕ) (g b x : ℕ) (o : Option ℕ) → hex_value g ≡ Some x → hex_value b ≡ o → hex_end m k x o ≡ Some n → StackRead k s → ModeRead m t → Holds n (s ++ (t ++ (92 ∷ 120 ∷ g ∷ b ∷ [])))
low_holds m k n s t g b x None u v e h r = none_some n _ e
low_holds m k n s t g b x (Some y) u v e h r = escaped_holds m k n s t (92 ∷ 120 ∷ g ∷ b ∷ []) (16 * x + y) (hexadecimal _ _ g b x y refl u v refl) e h r

in_holds : (z : Slash) (m : Mode) (k : Stack) (n : Machine) (s t w : List ℕ) (b : ℕ) → step_in z m k b ≡ Some n → StackRead k s → ModeRead m t → SlashRead z w → Holds n (s ++ (t ++ (w ++ b ∷ [])))
in_holds no_slash m k n s t w b e h r x = moved n _ (s ++ (t ++ b ∷ [])) (ap (λ z. s ++ (t ++ (z ++ b ∷ []))) x) (mode_holds m k n s t b e h r)
in_holds slash m k n s t w b e h r x = moved n _ (s ++ (t ++ (92 ∷ b ∷ []))) (ap (λ z. s ++ (t ++ (z ++ b ∷ []))) x) (slash_holds m k n s t b e h r)
in_holds hex m k n s t w b e h r x = moved n _ (s ++ (t ++ (92 ∷ 120 ∷ b ∷ []))) (ap (λ z. s ++ (t ++ (z ++ b ∷ []))) x) (hex_holds m k n s t b (hex_value b) refl e h r)
in_holds (hex_low v) m k n s t w b e h r x = moved n _ (s ++ (t ++ (92 ∷ 120 ∷ x.0 ∷ b ∷ []))) (ap (λ z. s ++ (t ++ (z ++ b ∷ []))) x.1) (low_holds m k n s t x.0 b v (hex_value b) x.2 refl e h r)

-- what one byte more does
pub step_holds : (m n : Machine) (s : List ℕ) (b : ℕ) → step m b ≡ Some n → Holds m s → Holds n (s ++ b ∷ [])
step_holds m n s b e h =
    let cut : s ++ b ∷ [] ≡ h.done ++ (h.token ++ (h.backslash ++ b ∷ [])) =
    ap (λ z. z ++ b ∷ []) h.cut ∙ append_assoc h.done (h.token ++ h.backslash) (b ∷ []) ∙ ap (λ z. h.done ++ z) (append_assoc h.token h.backslash (b ∷ [])) in
    moved n (s ++ b ∷ []) _ cut (in_holds m.escape m.mode m.stack n h.done h.token h.backslash b e h.stack_read h.mode_read h.slash_read)

pub steps_hold : (m n : Machine) (s r : List ℕ) → steps m r ≡ Some n → Holds m s → Holds n (s ++ r)
steps_hold m n s [] e h = became m n (s ++ []) e (moved m (s ++ []) s (append-nil s) h)
steps_hold m n s (b ∷ r) e h = next (step m b) refl e (λ x f. steps_hold x n (s ++ b ∷ []) r f)
  where
    next : (o : Option Machine) → step m b ≡ o → option_and_then (λ x. steps x r) o ≡ Some n → ((x : Machine) → steps x r ≡ Some n → Holds x (s ++ b ∷ []) → Holds n ((s ++ b ∷ []) ++ r)) → Holds n (s ++ b ∷ r)
    next None f g go = none_some n _ g
    next (Some x) f g go = moved n (s ++ b ∷ r) ((s ++ b ∷ []) ++ r) (sym (append_assoc s (b ∷ []) r)) (go x g (step_holds m x s b f h))

pub start_holds : Holds start []
start_holds = record { done = []; token = []; backslash = []; cut = refl; stack_read = level_fresh []; mode_read = refl; slash_read = refl }

end_holds_reading : (z : Slash) (m : Mode) (k : Stack) (s t w : List ℕ) (x : Found) (gs : List Group) → end_of z m k gs ≡ Some x → GroupsRead gs k.level.branches k.level.parts s k.deepest k.names → ModeRead m t → SlashRead z w → Reads alt (s ++ (t ++ w)) x.formula x.depth [] x.names
end_holds_reading no_slash text k s t w x [] e h r q =
    let y : Found = record { formula = whole k.level; names = k.names; depth = k.deepest } in
    let same : y ≡ x = same_some y x e in
    let cut : s ++ (t ++ w) ≡ s = ap (λ z. s ++ (z ++ w)) r ∙ ap (λ z. s ++ z) q ∙ append-nil s in
    subst (λ v. Reads alt (s ++ (t ++ w)) v.formula v.depth [] v.names) same (subst (λ v. Reads alt v y.formula y.depth [] y.names) (sym cut) (level_alt k.level.branches k.level.parts s k.deepest [] k.names h))
end_holds_reading no_slash text k s t w x (g ∷ gs) e h r q = none_some x _ e
end_holds_reading no_slash set_start k s t w x gs e h r q = none_some x _ e
end_holds_reading no_slash (in_set neg rs p) k s t w x gs e h r q = none_some x _ e
end_holds_reading no_slash (in_name y) k s t w x gs e h r q = none_some x _ e
end_holds_reading slash m k s t w x gs e h r q = none_some x _ e
end_holds_reading hex m k s t w x gs e h r q = none_some x _ e
end_holds_reading (hex_low v) m k s t w x gs e h r q = none_some x _ e

-- what the machine reads is a reading
pub sound : (s : List ℕ) (x : Found) → read s ≡ Some x → Reads alt s x.formula x.depth [] x.names
sound s x e = go (steps start s) refl e
  where
    go : (o : Option Machine) → steps start s ≡ o → option_and_then finish o ≡ Some x → Reads alt s x.formula x.depth [] x.names
    go None f g = none_some x _ g
    go (Some n) f g =
        let h = steps_hold start n [] s f start_holds in
        subst (λ v. Reads alt v x.formula x.depth [] x.names) (sym h.cut) (end_holds_reading n.escape n.mode n.stack h.done h.token h.backslash x n.stack.groups g h.stack_read h.mode_read h.slash_read)

-- where the machine reads nothing, there is no reading: see `complete`
