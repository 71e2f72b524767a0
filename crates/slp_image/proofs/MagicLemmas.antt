-- Bytes that don't begin as an image does.
use Rattle.std.proofs.Common.{◌≡◌, ℕ, ◌≤◌, Bool, false, List, [], ◌++◌, take, drop, length, nat_eq, Result, Ok, Err, refl, ap, sym, ◌∙◌, arith, if◌then◌else◌}
use Rattle.std.specs.Prelude.{nat_lt}
use Rattle.std.proofs.lemmas.Bool.Decides.{nat_tests}
use Rattle.std.proofs.lemmas.List.{append-nil, length-append, take-append-le}
use Rattle.slp_image.specs.declared.refusal.ImageRefusal.{ImageRefusal}
use Rattle.slp_image.specs.declared.refusal.ImageRefusal.TheVariants.{Cut, Magic}
use Rattle.slp_image.specs.Fields.{◌>>=◌, Field}
use Rattle.slp_image.specs.Image.{image, image_of, is_magic, version_at, version_of}

-- what is read, if the bytes are long enough or not, and begin so
abbrev prefix_as : Bool → List ℕ → List ℕ → Field (List ℕ)
prefix_as short magic rest = if short then Err Cut else Ok (magic, rest)

abbrev read_as : Bool → List ℕ → List ℕ → Field ℕ
read_as short magic rest = prefix_as short magic rest >>= λ m. if is_magic m.0 then version_of m.1 else Err Magic

abbrev magic_as : Bool → List ℕ → Field ℕ
magic_as is rest = if is then version_of rest else Err Magic

no_version : (prefix rest : List ℕ) → 4 ≤ length prefix → is_magic (take 4 prefix) ≡ false → version_at (prefix ++ rest) ≡ Err Magic
unfolding version_at
no_version prefix rest long none =
    let all = prefix ++ rest in
    let few : nat_lt (length all) 4 ≡ false = grind (arith, nat_tests, length-append prefix rest) in
    ap (λ (t : Bool). read_as t (take 4 all) (drop 4 all)) few
    ∙ ap (λ (m : List ℕ). read_as false m (drop 4 all)) (take-append-le 4 prefix rest long)
    ∙ ap (λ (t : Bool). magic_as t (drop 4 all)) none

pub no_image : (prefix rest : List ℕ) → 4 ≤ length prefix → is_magic (take 4 prefix) ≡ false → image (prefix ++ rest) ≡ image prefix
unfolding image
no_image prefix rest long none =
    ap image_of (no_version prefix rest long none ∙ sym (ap version_at (sym (append-nil prefix)) ∙ no_version prefix [] long none))
