-- Records of version 2, field by field.
use Rattle.std.proofs.Common.{◌≡◌, ℕ, zero, suc, ◌+◌, ◌*◌, ◌^◌, ◌<◌, ◌≤◌, Bool, true, false, List, [], ◌∷◌, ◌++◌, map, length, get_or, Result, Ok, Err, refl, ap, sym, subst, ◌∙◌, arith, nat_le, eqb}
use Rattle.std.proofs.lemmas.Bool.{ne_eqb}
use Rattle.std.proofs.lemmas.List.{length-map, map-append}
use Rattle.slp_model.specs.declared.NodeId.{NodeId}
use Rattle.slp_model.specs.declared.Node.{Node}
use Rattle.slp_model.specs.Tree.{Tree, Leaf, leaves, text}
use Rattle.slp_model.specs.Nodes.{tree}
use Rattle.slp_model.proofs.TreeLemmas.{length-text}
use Rattle.slp_rebalance.specs.Copies.{copies, run_cost}
use Rattle.slp_rebalance.specs.Entries.{entry_trees, IsRepeated}
use Rattle.slp_image.specs.declared.refusal.ImageRefusal.{ImageRefusal}
use Rattle.slp_image.specs.declared.refusal.ImageRefusal.TheVariants.{Length, Kind, Count}
use Rattle.slp_image.specs.Fields.{◌>>=◌, Field, child_at, children_at, byte_at, number_at}
use Rattle.slp_image.specs.Documents.{Fails}
use Rattle.slp_image.specs.Image.{Added, at, text_pair, text_run, text_at, byte_record}
use Rattle.slp_image.specs.Reads.{IsRecord, IsByte, AreTexts, ReadsByte, ReadsRecord}
use Rattle.slp_image.proofs.StepLemmas.{fails-bind, fails-same}

pub length-texts : (ts : List (List ℕ)) (store : List Node) (ids : List NodeId) → map text (entry_trees store ids) ≡ ts → length ts ≡ length ids
length-texts ts store ids h =
    let a : length (map text (entry_trees store ids)) ≡ length ts = ap length h in
    omega (arith, a, length-map (entry_trees store ids) text, length-map ids (λ (id : NodeId). tree store id.index))

-- the text at an index
texts-at : (us : List Tree) (i : ℕ) → i < length us → get_or (map text us) i [] ≡ text (get_or us i (Leaf 0))
texts-at [] i h = absurd (omega (arith, h))
texts-at (u ∷ us) zero h = refl
texts-at (u ∷ us) (suc i) h = texts-at us i (omega (arith, h))

pub text-entry : (us : List Tree) (ts : List (List ℕ)) (i : ℕ) → map text us ≡ ts → i < length us → at ts i ≡ text (get_or us i (Leaf 0))
text-entry us ts i h lt = ap (λ (xs : List (List ℕ)). get_or xs i []) (sym h) ∙ texts-at us i lt

pub join-fails : (ts : List (List ℕ)) (own : ℕ) (bytes : List ℕ) (e : ImageRefusal) → length ts ≡ own → Fails e (children_at own bytes) → Fails e (text_pair ts bytes)
unfolding text_pair
join-fails ts own bytes e l h = fails-bind e (children_at (length ts) bytes) _ (subst (λ k. Fails e (children_at k bytes)) (sym l) h)

abbrev pub joined_of : List (List ℕ) → ℕ → ℕ → Added (List ℕ)
joined_of ts l r = record { entry = at ts l ++ at ts r; cost = 205 }

pub join-is : (ts : List (List ℕ)) (own left right : ℕ) (bytes rest : List ℕ) → length ts ≡ own → children_at own bytes ≡ Ok ((left, right), rest)
    → nat_le (length (at ts left) + length (at ts right)) (2 ^ 48) ≡ true → text_pair ts bytes ≡ Ok (joined_of ts left right, rest)
unfolding text_pair
join-is ts own left right bytes rest l h short =
    let both : children_at (length ts) bytes ≡ Ok ((left, right), rest) = ap (λ n. children_at n bytes) l ∙ h in
    rw (both, short) refl

pub join-long : (ts : List (List ℕ)) (own left right : ℕ) (bytes rest : List ℕ) → length ts ≡ own → children_at own bytes ≡ Ok ((left, right), rest)
    → nat_le (length (at ts left) + length (at ts right)) (2 ^ 48) ≡ false → text_pair ts bytes ≡ Err Length
unfolding text_pair
join-long ts own left right bytes rest l h short =
    let both : children_at (length ts) bytes ≡ Ok ((left, right), rest) = ap (λ n. children_at n bytes) l ∙ h in
    rw (both, short) refl

-- the test on lengths is the test on leaves
pub pair-short : (us : List Tree) (ts : List (List ℕ)) (l r : ℕ) (b : Bool) → map text us ≡ ts → l < length us → r < length us
    → b ≡ nat_le (leaves (get_or us l (Leaf 0)) + leaves (get_or us r (Leaf 0))) (2 ^ 48) → nat_le (length (at ts l) + length (at ts r)) (2 ^ 48) ≡ b
pair-short us ts l r b h lt rt e =
    let x : length (at ts l) ≡ leaves (get_or us l (Leaf 0)) = ap length (text-entry us ts l h lt) ∙ length-text (get_or us l (Leaf 0)) in
    let y : length (at ts r) ≡ leaves (get_or us r (Leaf 0)) = ap length (text-entry us ts r h rt) ∙ length-text (get_or us r (Leaf 0)) in
    (λ j. nat_le (x j + y j) (2 ^ 48)) ∙ sym e

-- a pair that was read and added
pub join-read : (us new : List Tree) (ts : List (List ℕ)) (l r : ℕ) (rest : List ℕ) (read : Field (Added (List ℕ))) → map text us ≡ ts → l < length us → r < length us
    → read ≡ Ok (joined_of ts l r, rest) → (t : Tree) → new ≡ us ++ t ∷ [] → text t ≡ text (get_or us l (Leaf 0)) ++ text (get_or us r (Leaf 0)) → IsRecord (List ℕ) AreTexts ts read rest new
join-read us new ts l r rest read h lt rt e t added is =
    let both : text (get_or us l (Leaf 0)) ++ text (get_or us r (Leaf 0)) ≡ at ts l ++ at ts r = sym (λ j. text-entry us ts l h lt j ++ text-entry us ts r h rt j) in
    record { added = joined_of ts l r; is = e; shown = ap (λ (xs : List Tree). map text xs) added ∙ (map-append text us (t ∷ []) ∙ (λ j. h j ++ (is ∙ both) j ∷ [])) }

-- a run
pub child-fails : (ts : List (List ℕ)) (own : ℕ) (bytes : List ℕ) (e : ImageRefusal) → length ts ≡ own → Fails e (child_at own bytes) → Fails e (text_run ts bytes)
unfolding text_run
child-fails ts own bytes e l h = fails-bind e (child_at (length ts) bytes) _ (subst (λ k. Fails e (child_at k bytes)) (sym l) h)

pub times-fails : (ts : List (List ℕ)) (own child : ℕ) (bytes after : List ℕ) (e : ImageRefusal) → length ts ≡ own → child_at own bytes ≡ Ok (child, after) → Fails e (number_at after) → Fails e (text_run ts bytes)
unfolding text_run
times-fails ts own child bytes after e l h k =
    let one : child_at (length ts) bytes ≡ Ok (child, after) = ap (λ n. child_at n bytes) l ∙ h in
    rw one (fails-bind e (number_at after) _ k)

pub none-fails : (ts : List (List ℕ)) (own child times : ℕ) (bytes after rest : List ℕ) → length ts ≡ own → child_at own bytes ≡ Ok (child, after) → number_at after ≡ Ok (times, rest) → times ≡ 0 → text_run ts bytes ≡ Err Count
unfolding text_run
none-fails ts own child times bytes after rest l h k z =
    let one : child_at (length ts) bytes ≡ Ok (child, after) = ap (λ n. child_at n bytes) l ∙ h in
    let two : number_at after ≡ Ok (0, rest) = k ∙ ap (λ (n : ℕ). Ok (n, rest)) z in
    rw (one, two) refl

abbrev pub run_of : List (List ℕ) → ℕ → ℕ → Added (List ℕ)
run_of ts child times = record { entry = copies times (at ts child); cost = run_cost 64 times }

pub run-is : (ts : List (List ℕ)) (own child times : ℕ) (bytes after rest : List ℕ) → length ts ≡ own → child_at own bytes ≡ Ok (child, after) → number_at after ≡ Ok (times, rest) → 1 ≤ times
    → nat_le (times * length (at ts child)) (2 ^ 48) ≡ true → text_run ts bytes ≡ Ok (run_of ts child times, rest)
unfolding text_run
run-is ts own child times bytes after rest l h k some short =
    let one : child_at (length ts) bytes ≡ Ok (child, after) = ap (λ n. child_at n bytes) l ∙ h in
    let a : eqb times 0 ≡ false = ne_eqb times 0 (λ e. omega (arith, e, some)) in
    rw (one, k, a, short) refl

pub run-long : (ts : List (List ℕ)) (own child times : ℕ) (bytes after rest : List ℕ) → length ts ≡ own → child_at own bytes ≡ Ok (child, after) → number_at after ≡ Ok (times, rest) → 1 ≤ times
    → nat_le (times * length (at ts child)) (2 ^ 48) ≡ false → text_run ts bytes ≡ Err Length
unfolding text_run
run-long ts own child times bytes after rest l h k some short =
    let one : child_at (length ts) bytes ≡ Ok (child, after) = ap (λ n. child_at n bytes) l ∙ h in
    let a : eqb times 0 ≡ false = ne_eqb times 0 (λ e. omega (arith, e, some)) in
    rw (one, k, a, short) refl

pub run-short : (us : List Tree) (ts : List (List ℕ)) (child times : ℕ) (b : Bool) → map text us ≡ ts → child < length us
    → b ≡ nat_le (times * leaves (get_or us child (Leaf 0))) (2 ^ 48) → nat_le (times * length (at ts child)) (2 ^ 48) ≡ b
run-short us ts child times b h lt e =
    let x : length (at ts child) ≡ leaves (get_or us child (Leaf 0)) = ap length (text-entry us ts child h lt) ∙ length-text (get_or us child (Leaf 0)) in
    (λ j. nat_le (times * x j) (2 ^ 48)) ∙ sym e

pub run-read : (us new : List Tree) (ts : List (List ℕ)) (child times : ℕ) (rest : List ℕ) (read : Field (Added (List ℕ))) → map text us ≡ ts → child < length us
    → read ≡ Ok (run_of ts child times, rest) → IsRepeated us child times new → IsRecord (List ℕ) AreTexts ts read rest new
run-read us new ts child times rest read h lt e x =
    let both : copies times (text (get_or us child (Leaf 0))) ≡ copies times (at ts child) = ap (copies times) (sym (text-entry us ts child h lt)) in
    record { added = run_of ts child times; is = e; shown = ap (λ (xs : List Tree). map text xs) x.added ∙ (map-append text us (x.last ∷ []) ∙ (λ j. h j ++ (x.text_is ∙ both) j ∷ [])) }

-- a byte that was read and added
pub byte-read : (us new : List Tree) (ts : List (List ℕ)) (bytes rest : List ℕ) (read : Field (Added (List ℕ))) → map text us ≡ ts → read ≡ byte_record (λ b. b ∷ []) bytes → IsByte bytes rest us new → IsRecord (List ℕ) AreTexts ts read rest new
unfolding byte_record
byte-read us new ts bytes rest read h e x =
    record { added = record { entry = x.byte ∷ []; cost = 0 }; is = e ∙ ap (λ (b : Field ℕ). b >>= λ y. Ok (record { entry = y.0 ∷ []; cost = 0 }, y.1)) x.is; shown = ap (λ (xs : List Tree). map text xs) x.added ∙ (map-append text us (Leaf x.byte ∷ []) ∙ ap (λ xs. xs ++ (x.byte ∷ []) ∷ []) h) }

pub byte-fails : (bytes : List ℕ) (e : ImageRefusal) → Fails e (byte_at bytes) → Fails e (byte_record (λ b. b ∷ []) bytes)
unfolding byte_record
byte-fails bytes e h = fails-bind e (byte_at bytes) _ h

pub byte-reads : {X : Type 0} (view : X → List ℕ) (us new : List Tree) (ts : List (List ℕ)) (bytes : List ℕ) (read : Field (Added (List ℕ))) (r : Result X ImageRefusal) → map text us ≡ ts → read ≡ byte_record (λ b. b ∷ []) bytes → ReadsByte view bytes us new r → ReadsRecord AreTexts view ts read new r
byte-reads view us new ts bytes read (Ok x) h e k = byte-read us new ts bytes (view x) read h e k
byte-reads view us new ts bytes read (Err w) h e k = fails-same w read (byte_record (λ b. b ∷ []) bytes) e (byte-fails bytes w k)

pub kind-fails : (ts : List (List ℕ)) (bytes : List ℕ) (e : ImageRefusal) → Fails e (byte_at bytes) → Fails e (text_at ts bytes)
unfolding text_at
kind-fails ts bytes e h = fails-bind e (byte_at bytes) _ h

pub kind-zero : (ts : List (List ℕ)) (bytes rest : List ℕ) (k : ℕ) → k ≡ 0 → byte_at bytes ≡ Ok (k, rest) → text_at ts bytes ≡ byte_record (λ b. b ∷ []) rest
unfolding text_at
kind-zero ts bytes rest k z h = let e : byte_at bytes ≡ Ok (0, rest) = h ∙ ap (λ (n : ℕ). Ok (n, rest)) z in rw e refl

pub kind-one : (ts : List (List ℕ)) (bytes rest : List ℕ) (k : ℕ) → k ≡ 1 → byte_at bytes ≡ Ok (k, rest) → text_at ts bytes ≡ text_pair ts rest
unfolding text_at
kind-one ts bytes rest k z h = let e : byte_at bytes ≡ Ok (1, rest) = h ∙ ap (λ (n : ℕ). Ok (n, rest)) z in rw e refl

pub kind-two : (ts : List (List ℕ)) (bytes rest : List ℕ) (k : ℕ) → k ≡ 2 → byte_at bytes ≡ Ok (k, rest) → text_at ts bytes ≡ text_run ts rest
unfolding text_at
kind-two ts bytes rest k z h = let e : byte_at bytes ≡ Ok (2, rest) = h ∙ ap (λ (n : ℕ). Ok (n, rest)) z in rw e refl

pub kind-other : (ts : List (List ℕ)) (bytes rest : List ℕ) (k : ℕ) → 3 ≤ k → byte_at bytes ≡ Ok (k, rest) → text_at ts bytes ≡ Err Kind
unfolding text_at
kind-other ts bytes rest k z h =
    let a : eqb k 0 ≡ false = ne_eqb k 0 (λ e. omega (arith, e, z)) in
    let b : eqb k 1 ≡ false = ne_eqb k 1 (λ e. omega (arith, e, z)) in
    let c : eqb k 2 ≡ false = ne_eqb k 2 (λ e. omega (arith, e, z)) in
    rw (h, a, b, c) refl
