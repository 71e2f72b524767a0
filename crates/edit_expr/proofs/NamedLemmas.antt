-- The text of a named document, and its root.
use Rattle.std.proofs.Common.{◌≡◌, ℕ, Bool, true, false, cond, List, [], ◌∷◌, Option, Some, option_map, Result, Ok, Err, ok_or, sym, ap, subst, refl}
use Rattle.slp_model.specs.declared.NodeId.{NodeId}
use Rattle.slp_model.specs.declared.Node.{Node}
use Rattle.slp_model.specs.Nodes.{IsLive, text_of}
use Rattle.doc_book.specs.declared.Doc.{Doc}
use Rattle.doc_book.specs.declared.Missing.{Missing}
use Rattle.doc_book.specs.declared.Missing.TheVariants.{NoSuchDocument as Absent}
use Rattle.doc_book.specs.Docs.{doc_of, is_same, root_of}
use Rattle.edit_expr.specs.declared.refusal.EditRefusal.TheVariants.{NoSuchDocument}
use Rattle.edit_expr.specs.Eval.{named}
use Rattle.doc_book.specs.Texts.{AreLive, plain}

root_in : Option NodeId → Result (Option NodeId) Missing → Option NodeId
root_in d (Ok r) = r
root_in d (Err e) = d

ok_is : (x y : Option NodeId) → Ok x ≡ ok_or (Some y) Absent → x ≡ y
unfolding root_in
ok_is x y p = ap (root_in x) p

pub named-plain : (ns : List Node) (ds : List Doc) (name : List ℕ) → AreLive ns ds → (r : Option NodeId) → Ok r ≡ ok_or (root_of ds name) Absent → IsLive ns r × (named (plain ns ds) name ≡ Ok (text_of ns r))
named-plain ns [] name h r p = cc
named-plain ns (d ∷ ds) name h r p = by (is_same name d.name) p (λ q. named-plain ns ds name h.1 r q)
  where
    by : (b : Bool) → Ok r ≡ ok_or (option_map (λ v. v.root) (cond b (Some d) (doc_of ds name))) Absent
        → (Ok r ≡ ok_or (root_of ds name) Absent → IsLive ns r × (named (plain ns ds) name ≡ Ok (text_of ns r)))
        → IsLive ns r × (cond b (Ok (text_of ns d.root)) (named (plain ns ds) name) ≡ Ok (text_of ns r))
    by true p rest = let e : d.root ≡ r = sym (ok_is r d.root p) in (subst (IsLive ns) e h.0, ap (λ x. Ok (text_of ns x)) e)
    by false p rest = rest p

pub missing-plain : (ns : List Node) (ds : List Doc) (name : List ℕ) (e : Missing) → Err e ≡ ok_or (root_of ds name) Absent → named (plain ns ds) name ≡ Err (NoSuchDocument name)
missing-plain ns [] name e p = refl
missing-plain ns (d ∷ ds) name e p = by (is_same name d.name) p (λ q. missing-plain ns ds name e q)
  where
    by : (b : Bool) → Err e ≡ ok_or (option_map (λ v. v.root) (cond b (Some d) (doc_of ds name))) Absent
        → (Err e ≡ ok_or (root_of ds name) Absent → named (plain ns ds) name ≡ Err (NoSuchDocument name))
        → cond b (Ok (text_of ns d.root)) (named (plain ns ds) name) ≡ Err (NoSuchDocument name)
    by true p rest = cc
    by false p rest = rest p
