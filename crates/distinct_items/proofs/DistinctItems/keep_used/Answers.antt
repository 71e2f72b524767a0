use Rattle.std.proofs.Common.{◌≡◌, ◌-◌, ◌<◌, ℕ, List, ◌++◌, length, get_or, map, take, drop, ap, sym, subst, ◌∙◌, arith}
use Rattle.std.specs.Prelude.{All}
use Rattle.std.proofs.lemmas.List.{get_or_default}
use Rattle.std.proofs.lemmas.List.Elements.{All-get_or}
use Rattle.slp_model.proofs.RankLemmas.{rank-most}
use Rattle.slp_model.specs.Thin.{rank}
use Rattle.distinct_items.specs.Renumbering.{flags_of, kept_items, used_of}
use Rattle.distinct_items.proofs.Marks.{AreMarked}
use Rattle.distinct_items.proofs.Moving.{kept-long}
use Rattle.distinct_items.proofs.Used.{ArePlaced, come-back, kept-used, new-numbers, index-of}
use Rattle.distinct_items.proofs.DistinctItems.keep_used.Goals as goal

-- the marks that were lent, and the places that came back
closed-up : (numbers slice marks places lent back before after : List ℕ) (len size : ℕ) → slice ≡ numbers → AreMarked slice marks → length marks ≡ len → lent ≡ take len (marks ++ drop (length marks) before) → length places ≡ length lent → back ≡ take len (places ++ drop (length places) after) → ArePlaced size lent places
    → (lent ≡ marks) × (back ≡ places) × AreMarked numbers marks × ArePlaced size marks places
closed-up numbers slice marks places lent back before after len size same are long given kept taken at =
    let whole : lent ≡ marks = given ∙ come-back marks before len long in
    (whole, taken ∙ come-back places after len (kept ∙ (ap length whole ∙ long)), subst (λ xs. AreMarked xs marks) same are, subst (λ ms. ArePlaced size ms places) whole at)

pub follow-requires : goal.follow-requires
follow-requires g c =
    let ns = c.args.numbers.now.items in
    let size = length c.self.inside.items.items in
    let marks = c.mark_used.new.marks in
    let places = c.close_up.new.marks in
    let len : length marks ≡ c.self.inside.links.len = c.mark_used.auto.marks ∙ c.deref_mut.ensures.len in
    let up = closed-up ns _ marks places _ _ _ _ _ size c.as_slice.ensures.value c.mark_used.ensures len c.deref_mut-2.ensures.value c.close_up.auto.marks c.deref.ensures.value c.close_up.ensures.places in
    let within : All (λ n. n < length c.self.inside.items.items) ns = subst (λ ts. All (λ n. n < length ts) ns) (sym c.self.view_is) c.requires.within in
    let long : length c.deref.result.now ≡ c.self.inside.links.len = ap length up.1 ∙ (c.close_up.auto.marks ∙ (ap length up.0 ∙ len)) in
    let here : c.deref_mut-3.result.now ≡ ns = c.deref_mut-3.ensures.value in
    λ k d lt.
    let low_k : k < length ns = subst (λ xs. k < length xs) here lt in
    let same : get_or c.deref_mut-3.result.now k d ≡ get_or ns k 0 = ap (λ xs. get_or xs k d) here ∙ get_or_default ns k d 0 low_k in
    let low : get_or ns k 0 < length c.self.inside.items.items = All-get_or (λ n. n < size) ns k 0 low_k within in
    let index = index-of size ns marks places up.2 up.3 within k low_k in
    let read : get_or c.deref.result.now (get_or c.deref_mut-3.result.now k d) 0 ≡ get_or places (get_or ns k 0) 0 =
    ap (λ xs. get_or xs (get_or c.deref_mut-3.result.now k d) 0) up.1 ∙ ap (λ m. get_or places m 0) same in
    (omega (arith, same, low, long, c.self.invariant.few, c.self.invariant.long, c.deref_mut.ensures.len, ap length c.deref_mut.ensures.value), omega (arith, read, index))

pub link_all-requires-clause-few : goal.link_all-requires-clause-few
link_all-requires-clause-few g c =
    let marks = flags_of c.deref_mut-2.result.now in
    let size = length c.self.inside.items.items in
    omega (arith, ap length c.deref-2.ensures.value, ap length c.close_up.ensures.items, kept-long c.self.inside.items.items (flags_of c.deref_mut-2.result.now), rank-most (flags_of c.deref_mut-2.result.now) (length c.self.inside.items.items), c.self.invariant.few)

pub link_all-requires-clause-low : goal.link_all-requires-clause-low
link_all-requires-clause-low g c =
    let same : length c.self.inside.items.items ≡ length c.args.self.now = ap length c.self.view_is in
    omega (arith, ap length c.deref-2.ensures.value, ap length c.close_up.ensures.items, kept-long c.self.inside.items.items (flags_of c.deref_mut-2.result.now), rank-most (flags_of c.deref_mut-2.result.now) (length c.self.inside.items.items), c.requires.low)

pub returns-clause-items : goal.returns-clause-items
returns-clause-items g c =
    let ns = c.args.numbers.now.items in
    let marks = c.mark_used.new.marks in
    let len : length marks ≡ c.self.inside.links.len = c.mark_used.auto.marks ∙ c.deref_mut.ensures.len in
    let lent : c.deref_mut-2.result.now ≡ marks = c.deref_mut-2.ensures.value ∙ come-back marks c.self.inside.links.items c.self.inside.links.len len in
    let marked : AreMarked ns marks = subst (λ xs. AreMarked xs marks) c.as_slice.ensures.value c.mark_used.ensures in
    c.close_up.ensures.items
    ∙ (ap (λ ms. kept_items c.self.inside.items.items (flags_of ms)) lent
    ∙ (kept-used c.self.inside.items.items ns marks marked ∙ ap (λ ts. kept_items ts (used_of ns (length ts))) c.self.view_is))

pub returns-clause-numbers : goal.returns-clause-numbers
returns-clause-numbers g c =
    let ns = c.args.numbers.now.items in
    let size = length c.self.inside.items.items in
    let up = closed-up ns _ c.mark_used.new.marks c.close_up.new.marks _ _ _ _ _ size c.as_slice.ensures.value c.mark_used.ensures (c.mark_used.auto.marks ∙ c.deref_mut.ensures.len) c.deref_mut-2.ensures.value c.close_up.auto.marks c.deref.ensures.value c.close_up.ensures.places in
    let within : All (λ n. n < length c.self.inside.items.items) ns = subst (λ ts. All (λ n. n < length ts) ns) (sym c.self.view_is) c.requires.within in
    let written = come-back c.follow.new.numbers ns c.args.numbers.now.len (c.follow.auto.numbers ∙ c.deref_mut-3.ensures.len) in
    written
    ∙ (c.follow.ensures
    ∙ (ap (λ xs. map (λ n. get_or xs n 0 - 1) c.deref_mut-3.result.now) up.1
    ∙ (ap (λ xs. map (λ n. get_or c.close_up.new.marks n 0 - 1) xs) c.deref_mut-3.ensures.value
    ∙ (new-numbers size ns c.mark_used.new.marks c.close_up.new.marks up.2 up.3 within ∙ ap (λ ts. map (rank (used_of ns (length ts))) ns) c.self.view_is))))
