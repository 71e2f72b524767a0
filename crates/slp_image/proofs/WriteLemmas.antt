-- What was written can be read again.
use Rattle.std.proofs.Common.{◌≡◌, ℕ, suc, ◌+◌, ◌-◌, ◌<◌, ◌^◌, true, false, List, [], ◌∷◌, ◌++◌, length, drop, Ok, refl, ap, sym, ◌∙◌, arith, append_assoc, append-nil, length-append, ltb, Option, Some, None}
use Rattle.std.proofs.lemmas.Bool.{le-ltb, lt-ltb}
use Rattle.std.proofs.Math.Seq.{take-append_seam}
use Rattle.byteorder.specs.Endian.{big_bytes, big_number}
use Rattle.byteorder.specs.Numbers.{big_number-reads_back}
use Rattle.span_types.specs.Names.{is_name}
use Rattle.slp_model.specs.declared.Node.{Node}
use Rattle.slp_model.specs.declared.Node.TheVariants.{Byte, Pair}
use Rattle.slp_model.specs.Nodes.{pair_weight}
use Rattle.slp_image.specs.Fields.{◌>>=◌, Field, number_at, child_at, children_at, bytes_at}
use Rattle.slp_image.specs.Image.{Added, Outcome, Document, Contents, near_pair, node_pair, node_at, byte_record, records_onto, is_among, names_of, name_at, root_at, document_at, documents_onto, documents_of, contents, version_at, version_of}
use Rattle.slp_image.specs.Written.{node_bytes, records_bytes, MayFollow, AllFollow, root_number, document_bytes, documents_bytes, IsNextDocument, MayBeNext, AllNext}
use Rattle.slp_image.proofs.NodeLemmas.{pair-is, kind-zero, kind-one}
use Rattle.slp_image.proofs.StepLemmas.{goes-on}
use Rattle.slp_image.proofs.DocumentLemmas.{root-none, root-there, document-is, documents-is, ended-all}
use Rattle.slp_image.proofs.ReadLemmas.{contents-is, whole-is}

pub number-again : (x : ℕ) (rest : List ℕ) → x < 2 ^ 64 → number_at (big_bytes 8 x ++ rest) ≡ Ok (x, rest)
number-again x rest h =
    let long : ltb (length (big_bytes 8 x ++ rest)) 8 ≡ false = le-ltb (length (big_bytes 8 x ++ rest)) 8 (omega (arith, length-append (big_bytes 8 x) rest)) in
    let back : big_number 8 (big_bytes 8 x ++ []) ≡ x = big_number-reads_back 8 x [] h in
    rw long (ap (λ (n : ℕ). Ok (n, rest)) back)

child-from : (own x : ℕ) (bytes rest : List ℕ) → number_at bytes ≡ Ok (x, rest) → x < own → child_at own bytes ≡ Ok (x, rest)
unfolding child_at
child-from own x bytes rest n h = let lt : ltb x own ≡ true = lt-ltb x own h in rw (n, lt) refl

pub child-again : (own x : ℕ) (rest : List ℕ) → x < own → own < 2 ^ 64 → child_at own (big_bytes 8 x ++ rest) ≡ Ok (x, rest)
child-again own x rest h k = child-from own x (big_bytes 8 x ++ rest) rest (number-again x rest (omega (arith, h, k))) h

children-from : (own l r : ℕ) (bytes after rest : List ℕ) → child_at own bytes ≡ Ok (l, after) → child_at own after ≡ Ok (r, rest) → children_at own bytes ≡ Ok ((l, r), rest)
unfolding children_at
children-from own l r bytes after rest h k = rw (h, k) refl

abbrev pub added : Node → Added Node
added n = record { entry = n; cost = pair_weight n }

pub record-again : (ns : List Node) (n : Node) (rest : List ℕ) → length ns < 2 ^ 64 → MayFollow ns n → node_at ns (node_bytes n ++ rest) ≡ Ok (added n, rest)
unfolding byte_record
record-again ns (Byte b) rest k m = kind-zero ns (node_bytes (Byte b) ++ rest) (b ∷ rest) 0 refl refl
record-again ns (Pair l r) rest k m =
    let whole : (big_bytes 8 l.index ++ big_bytes 8 r.index) ++ rest ≡ big_bytes 8 l.index ++ (big_bytes 8 r.index ++ rest) = append_assoc (big_bytes 8 l.index) (big_bytes 8 r.index) rest in
    let one : node_at ns (node_bytes (Pair l r) ++ rest) ≡ node_pair ns ((big_bytes 8 l.index ++ big_bytes 8 r.index) ++ rest) = kind-one ns (node_bytes (Pair l r) ++ rest) ((big_bytes 8 l.index ++ big_bytes 8 r.index) ++ rest) 1 refl refl in
    let two : node_pair ns (big_bytes 8 l.index ++ (big_bytes 8 r.index ++ rest)) ≡ near_pair ns l.index r.index rest =
    pair-is ns (length ns) l.index r.index (big_bytes 8 l.index ++ (big_bytes 8 r.index ++ rest)) rest refl (children-from (length ns) l.index r.index _ (big_bytes 8 r.index ++ rest) rest (child-again (length ns) l.index (big_bytes 8 r.index ++ rest) m.0 k) (child-again (length ns) r.index rest m.1 k)) in
    let three : near_pair ns l.index r.index rest ≡ Ok (added (Pair l r), rest) = rw (m.2, m.3) refl in
    one ∙ (ap (λ bs. node_pair ns bs) whole ∙ (two ∙ three))

-- all records that may follow are read again, at a cost of one for each pair
pub records-again : (more ns : List Node) (cost : ℕ) (rest : List ℕ) → AllFollow ns more → (records_onto node_at (length more) ns cost (records_bytes more ++ rest)).answer ≡ Ok (ns ++ more, rest)
records-again [] ns cost rest h = ap (λ (ms : List Node). Ok (ms, rest)) (sym (append-nil ns))
records-again (n ∷ more) ns cost rest h =
    let split : (node_bytes n ++ records_bytes more) ++ rest ≡ node_bytes n ++ (records_bytes more ++ rest) = append_assoc (node_bytes n) (records_bytes more) rest in
    let one : node_at ns (node_bytes n ++ (records_bytes more ++ rest)) ≡ Ok (added n, records_bytes more ++ rest) = record-again ns n (records_bytes more ++ rest) h.0 h.1 in
    let step : records_onto node_at (suc (length more)) ns cost (node_bytes n ++ (records_bytes more ++ rest)) ≡ records_onto node_at (length more) (ns ++ n ∷ []) (cost + pair_weight n) (records_bytes more ++ rest) = goes-on node_at (length more) ns cost _ _ (added n) one in
    let again = records-again more (ns ++ n ∷ []) (cost + pair_weight n) rest h.2 in
    ap (λ bs. (records_onto node_at (suc (length more)) ns cost bs).answer) split ∙ (ap (λ (t : Outcome (List Node × List ℕ)). t.answer) step ∙ (again ∙ ap (λ (ms : List Node). Ok (ms, rest)) (append_assoc ns (n ∷ []) more)))

drop-prefix : (xs ys : List ℕ) → drop (length xs) (xs ++ ys) ≡ ys
drop-prefix [] ys = refl
drop-prefix (x ∷ xs) ys = drop-prefix xs ys

bytes-again : (xs rest : List ℕ) → bytes_at (length xs) (xs ++ rest) ≡ Ok (xs, rest)
bytes-again xs rest =
    let long : ltb (length (xs ++ rest)) (length xs) ≡ false = le-ltb (length (xs ++ rest)) (length xs) (omega (arith, length-append xs rest)) in
    rw long (λ j. Ok (take-append_seam xs rest j, drop-prefix xs rest j))

pub name-again : (names : List (List ℕ)) (name rest : List ℕ) → is_name name ≡ true → is_among names name ≡ false → name_at names (length name ∷ (name ++ rest)) ≡ Ok (name, rest)
unfolding name_at
name-again names name rest well new = rw (bytes-again name rest, well, new) refl

pub root-again : (count : ℕ) (root : Option ℕ) (rest : List ℕ) → count < 2 ^ 64 → IsNextDocument count root → root_at count (big_bytes 8 (root_number root) ++ rest) ≡ Ok (root, rest)
root-again count None rest k p = root-none count (2 ^ 64 - 1) (big_bytes 8 (root_number None) ++ rest) rest (number-again (2 ^ 64 - 1) rest (omega arith)) refl
root-again count (Some i) rest k p = root-there count i (big_bytes 8 i ++ rest) rest (number-again i rest (omega (arith, k, p))) (omega (arith, k, p)) p

pub document-again : (count : ℕ) (ds : List Document) (d : Document) (rest : List ℕ) → count < 2 ^ 64 → MayBeNext count ds d → document_at count ds (document_bytes d ++ rest) ≡ Ok (d, rest)
document-again count ds d rest k m =
    let split : document_bytes d ++ rest ≡ length d.name ∷ (d.name ++ (big_bytes 8 (root_number d.root) ++ rest)) = ap (λ bs. length d.name ∷ bs) (append_assoc d.name (big_bytes 8 (root_number d.root)) rest) in
    ap (λ bs. document_at count ds bs) split ∙ document-is count ds _ d.name (big_bytes 8 (root_number d.root) ++ rest) rest d.root (name-again (names_of ds) d.name (big_bytes 8 (root_number d.root) ++ rest) m.0 m.1) (root-again count d.root rest k m.2)

pub documents-again : (count : ℕ) (more ds : List Document) (rest : List ℕ) → count < 2 ^ 64 → AllNext count ds more → documents_onto count (length more) ds (documents_bytes more ++ rest) ≡ Ok (ds ++ more, rest)
documents-again count [] ds rest k h = ap (λ (xs : List Document). Ok (xs, rest)) (sym (append-nil ds))
documents-again count (d ∷ more) ds rest k h =
    let split : (document_bytes d ++ documents_bytes more) ++ rest ≡ document_bytes d ++ (documents_bytes more ++ rest) = append_assoc (document_bytes d) (documents_bytes more) rest in
    let one : document_at count ds (document_bytes d ++ (documents_bytes more ++ rest)) ≡ Ok (d, documents_bytes more ++ rest) = document-again count ds d (documents_bytes more ++ rest) k h.0 in
    ap (λ bs. documents_onto count (suc (length more)) ds bs) split
    ∙ (ap (λ (r : Field Document). r >>= λ y. documents_onto count (length more) (ds ++ y.0 ∷ []) y.1) one
    ∙ (documents-again count more (ds ++ d ∷ []) rest k h.1 ∙ ap (λ (xs : List Document). Ok (xs, rest)) (append_assoc ds (d ∷ []) more)))

-- all that follows the version
abbrev pub body_bytes : List Node → List Document → List ℕ
body_bytes ms ds = big_bytes 8 (length ms) ++ (records_bytes ms ++ (big_bytes 8 (length ds) ++ documents_bytes ds))

tail-again : (count : ℕ) (ds : List Document) → count < 2 ^ 64 → length ds < 2 ^ 64 → AllNext count [] ds → documents_of count (big_bytes 8 (length ds) ++ documents_bytes ds) ≡ Ok ds
tail-again count ds k short h =
    let all : documents_onto count (length ds) [] (documents_bytes ds) ≡ Ok (ds, []) = ap (λ bs. documents_onto count (length ds) [] bs) (sym (append-nil (documents_bytes ds))) ∙ documents-again count ds [] [] k h in
    documents-is count (length ds) (big_bytes 8 (length ds) ++ documents_bytes ds) (documents_bytes ds) (number-again (length ds) (documents_bytes ds) short) ∙ ended-all (documents_onto count (length ds) [] (documents_bytes ds)) ds [] all refl

pub contents-again : (ms : List Node) (ds : List Document) → length ms < 2 ^ 64 → length ds < 2 ^ 64 → AllFollow [] ms → AllNext (length ms) [] ds → (contents node_at (body_bytes ms ds)).answer ≡ Ok (record { records = ms; documents = ds })
contents-again ms ds k short follow next =
    ap (λ (t : Outcome (Contents Node)). t.answer) (contents-is node_at (length ms) (body_bytes ms ds) (records_bytes ms ++ (big_bytes 8 (length ds) ++ documents_bytes ds)) (number-again (length ms) (records_bytes ms ++ (big_bytes 8 (length ds) ++ documents_bytes ds)) k))
    ∙ whole-is (records_onto node_at (length ms) [] 0 (records_bytes ms ++ (big_bytes 8 (length ds) ++ documents_bytes ds))) ms (big_bytes 8 (length ds) ++ documents_bytes ds) ds
    (records-again ms [] 0 (big_bytes 8 (length ds) ++ documents_bytes ds) follow) (tail-again (length ms) ds k short next)

abbrev pub prefix : List ℕ
prefix = 83 ∷ (76 ∷ (80 ∷ (73 ∷ (1 ∷ []))))

pub version-again : (rest : List ℕ) → version_at (prefix ++ rest) ≡ Ok (1, rest)
unfolding version_at version_of
version-again rest = rw (bytes-again (83 ∷ (76 ∷ (80 ∷ (73 ∷ [])))) (1 ∷ rest)) refl
