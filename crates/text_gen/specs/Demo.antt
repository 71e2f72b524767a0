-- The demo script of a number of doublings.
use Rattle.std.specs.Prelude.{ℕ, List, [], ◌∷◌, ◌++◌, codes, replicate}
use Rattle.std.specs.List.{flat_map}

-- a line and its newline
abbrev pub ended : List ℕ → List ℕ
ended line = line ++ 10 ∷ []

-- the lines after the doublings
abbrev pub last_lines : List (List ℕ)
last_lines =
    codes "let b = delete(a,2,3)"
    ∷ codes "query q .*$x{aa}.*"
    ∷ codes "list q b limit 3"
    ∷ codes "let c = insert(b,a,2)"
    ∷ codes "query r .*$x{b+}$y{a}.*"
    ∷ codes "list r c limit 2"
    ∷ codes "list r c after x=[5,6),y=[6,7) limit 1"
    ∷ codes "names"
    ∷ []

-- the lines of Demo(n): a text that is concatenated with itself n times, and then queries on it
abbrev pub demo_lines : ℕ → List (List ℕ)
demo_lines n = codes "text a ab" ∷ replicate n (codes "let a = concat(a,a)") ++ last_lines

-- Demo(n)
unfoldable pub demo_text : ℕ → List ℕ
demo_text n = flat_map ended (demo_lines n)
