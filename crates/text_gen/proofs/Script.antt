-- The demo script, built from its start.
use Rattle.std.proofs.Common.{◌≡◌, ◌∙◌, ◌++◌, ◌∷◌, ◌+◌, ◌*◌, ◌^◌, ◌≤◌, ℕ, List, ap, sym, refl, replicate, codes, length, arith, append_assoc, length-append}
use Rattle.std.specs.List.{flat_map}
use Rattle.std.proofs.lemmas.List.{flat_map_more, replicate_more}
use Rattle.std.proofs.lemmas.List.Concat.{length-flat_map}
use Rattle.std.proofs.lemmas.List.Folds.{sum_by-replicate}
use Rattle.std.proofs.lemmas.Grind.{flat_map-append}
use Rattle.text_gen.specs.Demo.{ended, last_lines, demo_text}

abbrev pub first_line : List ℕ
first_line = ended (codes "text a ab")

abbrev pub doubling : List ℕ
doubling = codes "let a = concat(a,a)"

abbrev pub doublings : ℕ → List ℕ
doublings n = flat_map ended (replicate n doubling)

-- the script after n doublings
unfoldable pub so_far : ℕ → List ℕ
so_far n = first_line ++ doublings n

pub none_yet : first_line ≡ so_far 0
unfolding so_far
none_yet = refl

pub one_more : (n : ℕ) → so_far n ++ ended doubling ≡ so_far (n + 1)
unfolding so_far
one_more n = flat_map_more ended first_line (replicate n doubling) doubling ∙ ap (λ lines. first_line ++ flat_map ended lines) (replicate_more n doubling)

pub whole : (n : ℕ) → so_far n ++ flat_map ended last_lines ≡ demo_text n
unfolding so_far demo_text
whole n = append_assoc first_line (doublings n) (flat_map ended last_lines) ∙ ap (λ rest. first_line ++ rest) (sym (flat_map-append ended (replicate n doubling) last_lines))

length_of_lines : (first again : List ℕ) (n : ℕ) (last : List (List ℕ)) → length (flat_map ended (first ∷ replicate n again ++ last)) ≡ length (ended first) + (n * length (ended again) + length (flat_map ended last))
length_of_lines first again n last =
    ap length (ap (λ rest. ended first ++ rest) (flat_map-append ended (replicate n again) last))
    ∙ (length-append (ended first) (flat_map ended (replicate n again) ++ flat_map ended last)
    ∙ ap (λ rest. length (ended first) + rest) (length-append (flat_map ended (replicate n again)) (flat_map ended last)
    ∙ ap (λ k. k + length (flat_map ended last)) (length-flat_map ended (replicate n again) ∙ sum_by-replicate (λ line. length (ended line)) n again)))

length-demo : (n : ℕ) → length (demo_text n) ≡ 10 + (n * 20 + 166)
unfolding demo_text
length-demo n = length_of_lines (codes "text a ab") doubling n last_lines

pub short_demo : (n : ℕ) → n ≤ 46 → length (demo_text n) ≤ 2 ^ 24
short_demo n few = let exact : length (demo_text n) ≡ 10 + (n * 20 + 166) = length-demo n in rw exact (omega arith)
