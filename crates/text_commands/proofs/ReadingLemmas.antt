-- The pieces of a file, put together.
use Rattle.text_commands.proofs.Names.{AllowsReads, ap, arith, at, drop, Err, Files, HasPiece, Holds, IfSome, image, inr, IsFilePrefix, IsLoadPaid, IsNext, IsNextPiece}
use Rattle.text_commands.proofs.Names.{IsOversized, IsWithin, length, length-append, length-drop, length-replicate, length-take, length-take-le, limit_of, List}
use Rattle.text_commands.proofs.Names.{load_size, MeansFile, Method, None, Ok, OnErr, open_size, Option, refl, replicate, Result, same_Some, Some, sym, take, take-add}
use Rattle.text_commands.proofs.Names.{take_all, ℕ, ◌++◌, ◌+◌, ◌<◌, ◌∙◌, ◌≡◌, ◌≤◌}
use Rattle.std.proofs.lemmas.List.{nil_from_length, take-append-drop}
use Rattle.slp_model.specs.declared.NodeId.{NodeId}
use Rattle.text_commands.specs.declared.reading.FileRefusal.{FileRefusal}
use Rattle.text_commands.proofs.LoadingLemmas.{limit_grows}

-- bytes after a position are bytes of the file
bytes_behind : (files : Option Files) (name : List ℕ) (from count : ℕ) (into : List ℕ) → 0 < count → count ≤ length into
    → IfSome files (λ all. HasPiece all name from (take count into)) → (bytes : List ℕ) × Holds files name bytes × (from + count ≤ length bytes)
bytes_behind None name from count into some bound h = (replicate (from + count) 0, tt, omega (arith, length-replicate {A = ℕ} (from + count) 0))
bytes_behind (Some all) name from count into some bound (bytes, there, is) =
    let taken = length-take-le count into bound in
    (bytes, there, omega (arith, some, taken, ap length is.prefix, length-take (length (take count into)) (drop from bytes), length-drop from bytes))

-- if there are bytes after a limit, the file is too long
pub past_limit : (files : Option Files) (name : List ℕ) (from count limit : ℕ) (into : List ℕ) → 0 < count → limit < from + count → count ≤ length into → AllowsReads files name
    → IfSome files (λ all. HasPiece all name from (take count into)) → IsOversized files name limit
past_limit files name from count limit into some over bound readable h =
    let (bytes, there, long) = bytes_behind files name from count into some bound h in
    record { bytes = bytes; held = there; readable = readable; long = omega (arith, over, long) }

-- the next piece of a file
next : (files : Option Files) (name : List ℕ) (limit : ℕ) (prefix piece : List ℕ) (count : ℕ) → length piece ≡ count → length prefix ≤ limit → IsFilePrefix files name limit prefix
    → IfSome files (λ all. HasPiece all name (length prefix) piece) → IsNext files name limit prefix piece count
next None name limit prefix piece count size short so_far h =
    record { begins = tt; size = omega (arith, length-append prefix piece, size); end = λ none. record { held = tt; readable = tt; short = short } }
next (Some all) name limit prefix piece count size short so_far (bytes, there, is) =
    let same : so_far.file ≡ bytes = same_Some so_far.file bytes (sym so_far.there ∙ there) in
    let before : prefix ≡ take (length prefix) bytes = so_far.begins ∙ ap (take (length prefix)) same in
    record {
      begins = record {
        file = bytes;
        there = there;
        readable = so_far.readable;
        short = rw (← same) so_far.short;
        begins = ap (λ (l : List ℕ). l ++ piece) before
            ∙ ap (λ (l : List ℕ). take (length prefix) bytes ++ l) is.prefix
            ∙ sym (take-add (length prefix) (length piece) bytes)
            ∙ ap (λ (n : ℕ). take n bytes) (sym (length-append prefix piece));
      };
      size = omega (arith, length-append prefix piece, size);
      end = λ none. record {
        held = there ∙ ap Some (sym (before ∙ take_all (length prefix) bytes (is.end (nil_from_length piece (size ∙ none)))));
        readable = so_far.readable;
        short = short;
      };
    }

pub is_next : (files : Option Files) (name : List ℕ) (limit at count : ℕ) (into : List ℕ) → at ≤ limit → count ≤ length into → IfSome files (λ all. HasPiece all name at (take count into))
    → IsNextPiece files name limit at count (take count into)
is_next files name limit at count into within bound h prefix size so_far =
    next files name limit prefix (take count into) count (length-take-le count into bound) (omega (arith, size, within)) so_far (rw size h)

-- what was read is the prefix of a file
prefix_within : (files : Option Files) (name : List ℕ) (limit : ℕ) (prefix : List ℕ) → length prefix ≤ limit → IsFilePrefix files name limit prefix
    → (bytes : List ℕ) × IsWithin files name limit bytes × (prefix ≡ take (length prefix) bytes)
prefix_within None name limit prefix short so_far = (prefix, record { held = tt; readable = tt; short = short }, sym (take_all (length prefix) prefix (omega arith)))
prefix_within (Some all) name limit prefix short so_far = (so_far.file, record { held = so_far.there; readable = so_far.readable; short = so_far.short }, so_far.begins)

-- if the bytes after a prefix of a file don't matter, the file has the meaning of the prefix
pub prefix_means : (files : Option Files) (name prefix : List ℕ) → length prefix ≤ open_size → IsFilePrefix files name open_size prefix → ((rest : List ℕ) → image (prefix ++ rest) ≡ image prefix) → MeansFile files name prefix
prefix_means files name prefix short so_far settled =
    let (all, within, begins) = prefix_within files name open_size prefix short so_far in
    let rest = drop (length prefix) all in
    record { all = all; within = within; same = ap image (sym (take-append-drop (length prefix) all) ∙ ap (λ (l : List ℕ). l ++ rest) (sym begins)) ∙ settled rest }

pub whole_means : (files : Option Files) (name bytes : List ℕ) → IsWithin files name open_size bytes → MeansFile files name bytes
whole_means files name bytes within = record { all = bytes; within = within; same = refl }

-- the maximum cost of loading that was stopped after a prefix of a file
pub prefix_paid : (r : Result (Option NodeId) FileRefusal) (k m : Method) (files : Option Files) (name prefix : List ℕ) (before after : ℕ) → k ≡ m → length prefix ≤ load_size → IsFilePrefix files name load_size prefix → after ≤ before + limit_of k (length prefix)
    → OnErr r (IsLoadPaid m files name before after)
prefix_paid (Ok x) k m files name prefix before after same short so_far paid = tt
prefix_paid (Err e) k m files name prefix before after same short so_far paid =
    let (all, within, begins) = prefix_within files name load_size prefix short so_far in
    rw (← same) (inr (all, within, omega (arith, limit_grows k (length prefix) (length all) (omega (arith, ap length begins, length-take (length prefix) all)), paid)))
