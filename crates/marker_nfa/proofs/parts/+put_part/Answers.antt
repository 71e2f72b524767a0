use Rattle.std.proofs.Common.{◌≡◌, ◌+◌, ℕ, ap, arith, length, ◌&&◌}
use Rattle.span_types.specs.FormulaTree.{FormulaTree, tree_of, sets, Cat, Alt, Star, Plus, Opt, Capture}
use Rattle.marker_nfa.proofs.Size.{tree_size}
use Rattle.marker_nfa.specs.Parts.{IsPart}
use Rattle.marker_nfa.proofs.Weights.{cat_small_left, cat_small_right, alt_small_left, alt_small_right, star_small, plus_small, opt_small, capture_small, may_follow, may_star, may_plus, may_name}
use Rattle.marker_nfa.proofs.Making.{next_index, if_ok_map, if_ok_any}
use Rattle.marker_nfa.proofs.Following.{cat_hops, alt_hops, star_hops, plus_hops, opt_hops, capture_hops}
use Rattle.marker_nfa.specs.Parts.{AddsFollow, AddsUnless, IsHopIn}
use Rattle.span_types.specs.declared.refusal.NoMemory.{NoMemory}
use Rattle.marker_nfa.proofs.parts.+put_part.Goals as goal

pub put_part-requires : goal.put_part-requires
put_part-requires t c =
    let i : tree_of c.args.formula.now ≡ Cat (tree_of c.in-Cat.a.value) (tree_of c.in-Cat.b.value) = ap tree_of c.in-Cat.is in
    rw (c.deref-in-Cat-2.ensures) (omega (arith, c.decreases, ap tree_size i), (cat_small_left _ _ (rw i at c.requires.small), omega (arith, c.requires.room, ap sets i)))

pub put_part-requires-in-Cat : goal.put_part-requires-in-Cat
put_part-requires-in-Cat t c =
    let i : tree_of c.args.formula.now ≡ Cat (tree_of c.in-Cat.a.value) (tree_of c.in-Cat.b.value) = ap tree_of c.in-Cat.is in
    let next = next_index c.args.letters.now.items _ (tree_of c.in-Cat.a.value) (rw (c.deref-in-Cat-2.ensures) at c.in_ok-put_part-in-Cat.ensures.letters) in
    rw (c.deref-in-Cat-3.ensures) (omega (arith, c.decreases, ap tree_size i), (cat_small_right _ _ (rw i at c.requires.small), omega (arith, c.requires.room, ap sets i, next)))

pub put_part-requires-in-Alt : goal.put_part-requires-in-Alt
put_part-requires-in-Alt t c =
    let i : tree_of c.args.formula.now ≡ Alt (tree_of c.in-Alt.a.value) (tree_of c.in-Alt.b.value) = ap tree_of c.in-Alt.is in
    rw (c.deref-in-Alt.ensures) (omega (arith, c.decreases, ap tree_size i), (alt_small_left _ _ (rw i at c.requires.small), omega (arith, c.requires.room, ap sets i)))

pub put_part-requires-in-Alt-2 : goal.put_part-requires-in-Alt-2
put_part-requires-in-Alt-2 t c =
    let i : tree_of c.args.formula.now ≡ Alt (tree_of c.in-Alt.a.value) (tree_of c.in-Alt.b.value) = ap tree_of c.in-Alt.is in
    let next = next_index c.args.letters.now.items _ (tree_of c.in-Alt.a.value) (rw (c.deref-in-Alt.ensures) at c.in_ok-put_part-in-Alt.ensures.letters) in
    rw (c.deref-in-Alt-2.ensures) (omega (arith, c.decreases, ap tree_size i), (alt_small_right _ _ (rw i at c.requires.small), omega (arith, c.requires.room, ap sets i, next)))

pub put_part-requires-in-Star : goal.put_part-requires-in-Star
put_part-requires-in-Star t c =
    let i : tree_of c.args.formula.now ≡ Star (tree_of c.in-Star.a.value) = ap tree_of c.in-Star.is in
    rw (c.deref-in-Star.ensures) (omega (arith, c.decreases, ap tree_size i), (star_small _ (rw i at c.requires.small), omega (arith, c.requires.room, ap sets i)))

pub put_part-requires-in-Plus : goal.put_part-requires-in-Plus
put_part-requires-in-Plus t c =
    let i : tree_of c.args.formula.now ≡ Plus (tree_of c.in-Plus.a.value) = ap tree_of c.in-Plus.is in
    rw (c.deref-in-Plus.ensures) (omega (arith, c.decreases, ap tree_size i), (plus_small _ (rw i at c.requires.small), omega (arith, c.requires.room, ap sets i)))

pub put_part-requires-in-Opt : goal.put_part-requires-in-Opt
put_part-requires-in-Opt t c =
    let i : tree_of c.args.formula.now ≡ Opt (tree_of c.in-Opt.a.value) = ap tree_of c.in-Opt.is in
    rw (c.deref-in-Opt.ensures) (omega (arith, c.decreases, ap tree_size i), (opt_small _ (rw i at c.requires.small), omega (arith, c.requires.room, ap sets i)))

pub put_part-requires-in-Capture : goal.put_part-requires-in-Capture
put_part-requires-in-Capture t c =
    let i : tree_of c.args.formula.now ≡ Capture c.in-Capture.x (tree_of c.in-Capture.a.value) = ap tree_of c.in-Capture.is in
    rw (c.deref-in-Capture.ensures) (omega (arith, c.decreases, ap tree_size i), (capture_small _ _ (rw i at c.requires.small), omega (arith, c.requires.room, ap sets i)))

pub cat_part-requires : goal.cat_part-requires
cat_part-requires t c =
    let i : tree_of c.args.formula.now ≡ Cat (tree_of c.in-Cat.a.value) (tree_of c.in-Cat.b.value) = ap tree_of c.in-Cat.is in
    let next = next_index c.args.letters.now.items _ (tree_of c.in-Cat.a.value) (rw (c.deref-in-Cat-2.ensures) at c.in_ok-put_part-in-Cat.ensures.letters) in
    let ip = rw (c.deref-in-Cat-2.ensures) at c.in_ok-put_part-in-Cat.ensures.part in
    let iq = rw (c.deref-in-Cat-3.ensures, next) at c.in_ok-put_part-in-Cat-2.ensures.part in
    rw (c.deref_mut-in-Cat.ensures.value) (may_follow (tree_of c.in-Cat.a.value) (tree_of c.in-Cat.b.value) _ _ _ _ (rw i at c.requires.small) ip iq)

pub returns-in_ok-put_part-in-Cat-2-clause-part : goal.returns-in_ok-put_part-in-Cat-2-clause-part
returns-in_ok-put_part-in-Cat-2-clause-part t c =
    let i : tree_of c.args.formula.now ≡ Cat (tree_of c.in-Cat.a.value) (tree_of c.in-Cat.b.value) = ap tree_of c.in-Cat.is in
    let next = next_index c.args.letters.now.items _ (tree_of c.in-Cat.a.value) (rw (c.deref-in-Cat-2.ensures) at c.in_ok-put_part-in-Cat.ensures.letters) in
    let ip = rw (c.deref-in-Cat-2.ensures) at c.in_ok-put_part-in-Cat.ensures.part in
    let iq = rw (c.deref-in-Cat-3.ensures, next) at c.in_ok-put_part-in-Cat-2.ensures.part in
    rw i (if_ok_map {A = Unit {0}} {E = NoMemory} c.cat_part.result (λ _. (a b : FormulaTree) (n : ℕ) → IsPart a n c.put_part.new.part → IsPart b (n + sets a) c.put_part-in-Cat.new.part → IsPart (Cat a b) n c.cat_part.new.left) (λ _. IsPart (Cat (tree_of c.in-Cat.a.value) (tree_of c.in-Cat.b.value)) (length c.args.letters.now.items + 1) c.cat_part.new.left) (λ _ h. h (tree_of c.in-Cat.a.value) (tree_of c.in-Cat.b.value) (length c.args.letters.now.items + 1) ip iq) (rw (c.deref_mut-in-Cat.ensures.value) at c.cat_part.ensures.part))

pub returns-in_ok-put_part-in-Cat-2-clause-hops : goal.returns-in_ok-put_part-in-Cat-2-clause-hops
returns-in_ok-put_part-in-Cat-2-clause-hops t c =
    let i : tree_of c.args.formula.now ≡ Cat (tree_of c.in-Cat.a.value) (tree_of c.in-Cat.b.value) = ap tree_of c.in-Cat.is in
    let next = next_index c.args.letters.now.items _ (tree_of c.in-Cat.a.value) (rw (c.deref-in-Cat-2.ensures) at c.in_ok-put_part-in-Cat.ensures.letters) in
    let ip = rw (c.deref-in-Cat-2.ensures) at c.in_ok-put_part-in-Cat.ensures.part in
    let iq = rw (c.deref-in-Cat-3.ensures, next) at c.in_ok-put_part-in-Cat-2.ensures.part in
    let cl = rw (c.deref.ensures) at c.covers-left_covered.ensures in
    let cr = rw (c.deref-in-Cat.ensures) at c.covers-right_covered.ensures in
    let h1 = rw (c.deref-in-Cat-2.ensures) at c.in_ok-put_part-in-Cat.ensures.hops in
    let h2 = rw (c.deref-in-Cat-3.ensures, next) at c.in_ok-put_part-in-Cat-2.ensures.hops in
    rw i (if_ok_map {A = Unit {0}} {E = NoMemory} c.cat_part.result (λ _. AddsUnless (c.covers-left_covered.result && c.covers-right_covered.result) c.put_part-in-Cat.new.hops.items c.cat_part.new.hops.items (IsHopIn c.put_part.new.part.lasts.items c.put_part-in-Cat.new.part.firsts.items)) (λ _. AddsFollow c.args.covered (Cat (tree_of c.in-Cat.a.value) (tree_of c.in-Cat.b.value)) (length c.args.letters.now.items + 1) c.args.hops.now.items c.cat_part.new.hops.items) (λ _ h. cat_hops (tree_of c.in-Cat.a.value) (tree_of c.in-Cat.b.value) (length c.args.letters.now.items + 1) _ _ _ c.put_part.new.part c.put_part-in-Cat.new.part _ _ _ _ cl cr h1 h2 h ip iq) (rw (c.deref_mut-in-Cat.ensures.value) at c.cat_part.ensures.hops))

pub returns-in_ok-put_part-in-Alt-2-clause-part : goal.returns-in_ok-put_part-in-Alt-2-clause-part
returns-in_ok-put_part-in-Alt-2-clause-part t c =
    let i : tree_of c.args.formula.now ≡ Alt (tree_of c.in-Alt.a.value) (tree_of c.in-Alt.b.value) = ap tree_of c.in-Alt.is in
    let next = next_index c.args.letters.now.items _ (tree_of c.in-Alt.a.value) (rw (c.deref-in-Alt.ensures) at c.in_ok-put_part-in-Alt.ensures.letters) in
    let ip = rw (c.deref-in-Alt.ensures) at c.in_ok-put_part-in-Alt.ensures.part in
    let iq = rw (c.deref-in-Alt-2.ensures, next) at c.in_ok-put_part-in-Alt-2.ensures.part in
    rw i (if_ok_map {A = Unit {0}} {E = NoMemory} c.alt_part.result (λ _. (a b : FormulaTree) (n : ℕ) → IsPart a n c.put_part-in-Alt.new.part → IsPart b (n + sets a) c.put_part-in-Alt-2.new.part → IsPart (Alt a b) n c.alt_part.new.left) (λ _. IsPart (Alt (tree_of c.in-Alt.a.value) (tree_of c.in-Alt.b.value)) (length c.args.letters.now.items + 1) c.alt_part.new.left) (λ _ h. h (tree_of c.in-Alt.a.value) (tree_of c.in-Alt.b.value) (length c.args.letters.now.items + 1) ip iq) (rw (c.deref-in-Alt-3.ensures) at c.alt_part.ensures))

pub returns-in_ok-put_part-in-Alt-2-clause-hops : goal.returns-in_ok-put_part-in-Alt-2-clause-hops
returns-in_ok-put_part-in-Alt-2-clause-hops t c =
    let i : tree_of c.args.formula.now ≡ Alt (tree_of c.in-Alt.a.value) (tree_of c.in-Alt.b.value) = ap tree_of c.in-Alt.is in
    let next = next_index c.args.letters.now.items _ (tree_of c.in-Alt.a.value) (rw (c.deref-in-Alt.ensures) at c.in_ok-put_part-in-Alt.ensures.letters) in
    let ip = rw (c.deref-in-Alt.ensures) at c.in_ok-put_part-in-Alt.ensures.part in
    let iq = rw (c.deref-in-Alt-2.ensures, next) at c.in_ok-put_part-in-Alt-2.ensures.part in
    let h1 = rw (c.deref-in-Alt.ensures) at c.in_ok-put_part-in-Alt.ensures.hops in
    let h2 = rw (c.deref-in-Alt-2.ensures, next) at c.in_ok-put_part-in-Alt-2.ensures.hops in
    rw i (if_ok_any {A = Unit {0}} {E = NoMemory} c.alt_part.result (AddsFollow c.args.covered (Alt (tree_of c.in-Alt.a.value) (tree_of c.in-Alt.b.value)) (length c.args.letters.now.items + 1) c.args.hops.now.items c.put_part-in-Alt-2.new.hops.items) (alt_hops (tree_of c.in-Alt.a.value) (tree_of c.in-Alt.b.value) (length c.args.letters.now.items + 1) _ _ _ _ h1 h2))

pub star_part-requires : goal.star_part-requires
star_part-requires t c =
    let i : tree_of c.args.formula.now ≡ Star (tree_of c.in-Star.a.value) = ap tree_of c.in-Star.is in
    let ip = rw (c.deref-in-Star.ensures) at c.in_ok-put_part-in-Star.ensures.part in
    may_star (tree_of c.in-Star.a.value) _ _ (rw i at c.requires.small) ip

pub returns-in_ok-put_part-in-Star-clause-hops : goal.returns-in_ok-put_part-in-Star-clause-hops
returns-in_ok-put_part-in-Star-clause-hops t c =
    let i : tree_of c.args.formula.now ≡ Star (tree_of c.in-Star.a.value) = ap tree_of c.in-Star.is in
    let ip = rw (c.deref-in-Star.ensures) at c.in_ok-put_part-in-Star.ensures.part in
    let h1 = rw (c.deref-in-Star.ensures) at c.in_ok-put_part-in-Star.ensures.hops in
    rw i (if_ok_map {A = Unit {0}} {E = NoMemory} c.star_part.result (λ _. AddsUnless c.args.covered c.put_part-in-Star.new.hops.items c.star_part.new.hops.items (IsHopIn c.put_part-in-Star.new.part.lasts.items c.put_part-in-Star.new.part.firsts.items)) (λ _. AddsFollow c.args.covered (Star (tree_of c.in-Star.a.value)) (length c.args.letters.now.items + 1) c.args.hops.now.items c.star_part.new.hops.items) (λ _ h. star_hops (tree_of c.in-Star.a.value) (length c.args.letters.now.items + 1) _ c.put_part-in-Star.new.part _ _ _ h1 h ip) c.star_part.ensures.hops)

pub push_joins-requires : goal.push_joins-requires
push_joins-requires t c =
    let i : tree_of c.args.formula.now ≡ Plus (tree_of c.in-Plus.a.value) = ap tree_of c.in-Plus.is in
    let ip = rw (c.deref-in-Plus.ensures) at c.in_ok-put_part-in-Plus.ensures.part in
    rw (c.deref-in-Plus-2.ensures.value, c.deref-in-Plus-3.ensures.value) (may_plus (tree_of c.in-Plus.a.value) _ _ (rw i at c.requires.small) ip)

pub returns-in_ok-put_part-in-Plus-clause-hops : goal.returns-in_ok-put_part-in-Plus-clause-hops
returns-in_ok-put_part-in-Plus-clause-hops t c =
    let i : tree_of c.args.formula.now ≡ Plus (tree_of c.in-Plus.a.value) = ap tree_of c.in-Plus.is in
    let ip = rw (c.deref-in-Plus.ensures) at c.in_ok-put_part-in-Plus.ensures.part in
    let h1 = rw (c.deref-in-Plus.ensures) at c.in_ok-put_part-in-Plus.ensures.hops in
    let h2 = rw (c.deref-in-Plus-2.ensures.value, c.deref-in-Plus-3.ensures.value) at c.push_joins.ensures in
    rw i (if_ok_map {A = Unit {0}} {E = NoMemory} c.push_joins.result (λ _. AddsUnless c.args.covered c.put_part-in-Plus.new.hops.items c.push_joins.new.hops.items (IsHopIn c.put_part-in-Plus.new.part.lasts.items c.put_part-in-Plus.new.part.firsts.items)) (λ _. AddsFollow c.args.covered (Plus (tree_of c.in-Plus.a.value)) (length c.args.letters.now.items + 1) c.args.hops.now.items c.push_joins.new.hops.items) (λ _ h. plus_hops (tree_of c.in-Plus.a.value) (length c.args.letters.now.items + 1) _ c.put_part-in-Plus.new.part _ _ _ h1 h ip) h2)

pub returns-in_ok-put_part-in-Opt-clause-hops : goal.returns-in_ok-put_part-in-Opt-clause-hops
returns-in_ok-put_part-in-Opt-clause-hops t c =
    let i : tree_of c.args.formula.now ≡ Opt (tree_of c.in-Opt.a.value) = ap tree_of c.in-Opt.is in
    let h1 = rw (c.deref-in-Opt.ensures) at c.in_ok-put_part-in-Opt.ensures.hops in
    rw i (if_ok_any {A = Unit {0}} {E = NoMemory} c.opt_part.result (AddsFollow c.args.covered (Opt (tree_of c.in-Opt.a.value)) (length c.args.letters.now.items + 1) c.args.hops.now.items c.put_part-in-Opt.new.hops.items) (opt_hops (tree_of c.in-Opt.a.value) (length c.args.letters.now.items + 1) _ _ _ h1))

pub returns-in_ok-put_part-in-Capture-clause-hops : goal.returns-in_ok-put_part-in-Capture-clause-hops
returns-in_ok-put_part-in-Capture-clause-hops t c =
    let i : tree_of c.args.formula.now ≡ Capture c.in-Capture.x (tree_of c.in-Capture.a.value) = ap tree_of c.in-Capture.is in
    let h1 = rw (c.deref-in-Capture.ensures) at c.in_ok-put_part-in-Capture.ensures.hops in
    rw i (if_ok_any {A = Unit {0}} {E = NoMemory} c.capture_part.result (AddsFollow c.args.covered (Capture c.in-Capture.x (tree_of c.in-Capture.a.value)) (length c.args.letters.now.items + 1) c.args.hops.now.items c.put_part-in-Capture.new.hops.items) (capture_hops c.in-Capture.x (tree_of c.in-Capture.a.value) (length c.args.letters.now.items + 1) _ _ _ h1))

pub capture_part-requires : goal.capture_part-requires
capture_part-requires t c =
    let i : tree_of c.args.formula.now ≡ Capture c.in-Capture.x (tree_of c.in-Capture.a.value) = ap tree_of c.in-Capture.is in
    let ip = rw (c.deref-in-Capture.ensures) at c.in_ok-put_part-in-Capture.ensures.part in
    may_name c.in-Capture.x (tree_of c.in-Capture.a.value) _ _ (rw i at c.requires.small) ip
