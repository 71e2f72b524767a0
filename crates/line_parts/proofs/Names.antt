-- Lists of names are read name by name.
use Rattle.std.proofs.Common.{◌≡◌, ◌≢◌, ℕ, List, [], ◌∷◌, ◌++◌, refl, sym, ◌∙◌, ap, subst}
use Rattle.std.specs.Prelude.{All}
use Rattle.line_parts.specs.NameList.{AreListed, IsName, with_commas}
use Rattle.line_parts.proofs.Cuts.{NoByte, from_all, name_plain, no_cut, one_cut}

pub name_no_comma : (name : List ℕ) → IsName name → NoByte 44 name
name_no_comma name h = name_plain 44 name refl h

pub name_no_space : (name : List ℕ) → IsName name → NoByte 32 name
name_no_space name h = name_plain 32 name refl h

pub listed_cut : (text name more : List ℕ) → text ≡ name ++ 44 ∷ more → All (λ b. b ≢ 44) name → AreListed text → IsName name × AreListed more
listed_cut text name more cut all (first, [], names, is) =
    absurd (no_cut 44 name more (subst (NoByte 44) (sym is ∙ cut) (name_no_comma first names.0)))
listed_cut text name more cut all (first, next ∷ others, names, is) =
    let same = one_cut 44 name more first (with_commas next others) (from_all 44 name all) (name_no_comma first names.0) (sym cut ∙ is) in
    (subst IsName (sym same.0) names.0, (next, others, names.1, same.1))

pub listed_join : (text name more : List ℕ) → text ≡ name ++ 44 ∷ more → IsName name → AreListed more → AreListed text
listed_join text name more cut named (next, others, names, is) = (name, next ∷ others, (named, names), cut ∙ ap (λ (l : List ℕ). name ++ 44 ∷ l) is)

pub listed_one : (text : List ℕ) → IsName text → AreListed text
listed_one text named = (text, [], (named, tt), refl)

pub one_listed : (text : List ℕ) → All (λ b. b ≢ 44) text → AreListed text → IsName text
one_listed text all (first, [], names, is) = subst IsName (sym is) names.0
one_listed text all (first, next ∷ others, names, is) = absurd (no_cut 44 first (with_commas next others) (subst (NoByte 44) is (from_all 44 text all)))
