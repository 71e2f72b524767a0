-- Facts about the entries and their queries.
use Rattle.std.proofs.Common.{◌≡◌, ℕ, Bool, true, false, cond, List, [], ◌∷◌, map, Option, Some, refl, sym, ap, ◌∙◌}
use Rattle.std.specs.Option.{option_map}
use Rattle.query_book.specs.declared.entry.Entry.{Entry}
use Rattle.query_book.specs.declared.entry.TabledQuery.{TabledQuery}
use Rattle.query_book.specs.Named.{Named, is_same, value_of, put, taken_out}
use Rattle.query_book.specs.Book.{tabled_in, with_entry, without_entry}

module _ {A : Type 0} (g : TabledQuery → A) where
  -- the value of g for each entry's query, by name
  abbrev pub by_name : List Entry → Named A
  by_name es = map (λ e. (e.name, g e.tabled)) es

  if-by_name : (b : Bool) (xs ys : List Entry) → by_name (cond b xs ys) ≡ cond b (by_name xs) (by_name ys)
  if-by_name true xs ys = refl
  if-by_name false xs ys = refl

  if-map : (b : Bool) (x y : Option TabledQuery) → option_map g (cond b x y) ≡ cond b (option_map g x) (option_map g y)
  if-map true x y = refl
  if-map false x y = refl

  pub value-by_name : (es : List Entry) (name : List ℕ) → value_of (by_name es) name ≡ option_map g (tabled_in es name)
  value-by_name [] name = refl
  value-by_name (e ∷ es) name = ap (λ o. cond (is_same name e.name) (Some (g e.tabled)) o) (value-by_name es name) ∙ sym (if-map (is_same name e.name) (Some e.tabled) (tabled_in es name))

  pub by_name-with_entry : (es : List Entry) (x : Entry) → by_name (with_entry es x) ≡ put (by_name es) x.name (g x.tabled)
  by_name-with_entry [] x = refl
  by_name-with_entry (e ∷ es) x =
      if-by_name (is_same x.name e.name) (x ∷ es) (e ∷ with_entry es x)
      ∙ ap (λ rest. cond (is_same x.name e.name) ((x.name, g x.tabled) ∷ by_name es) ((e.name, g e.tabled) ∷ rest)) (by_name-with_entry es x)

  pub by_name-without_entry : (es : List Entry) (name : List ℕ) → by_name (without_entry es name) ≡ taken_out (by_name es) name
  by_name-without_entry [] name = refl
  by_name-without_entry (e ∷ es) name =
      if-by_name (is_same name e.name) es (e ∷ without_entry es name)
      ∙ ap (λ rest. cond (is_same name e.name) (by_name es) ((e.name, g e.tabled) ∷ rest)) (by_name-without_entry es name)
