use Rattle.span_enum.proofs.Base.{[], append-nil, arith, mark_over, refl, sym, text_at, ℕ, ◌<◌}
use Rattle.std.proofs.lemmas.Bool.{some_since}
use Rattle.std.proofs.lemmas.Option.{MatchOption-at_some}
use Rattle.span_enum.proofs.Runs.{Tells}
use Rattle.span_enum.proofs.Tables.{IsMarkInto, byte-text, look-table, mark-into}
use Rattle.span_enum.proofs.Ways.{meets-byte}
use Rattle.span_enum.proofs.onward.place_mark.Goals.{Start}
use Rattle.span_enum.proofs.onward.place_mark.Goals as goal
use Rattle.span_enum.proofs.onward.place_mark.Given.{Over}

-- what the table of the letter says, and a mark that leads into a goal
tells-all : (g : Over) (c : Start g) → Tells c.args.input.now.dfa.now (text_at c.args.input.now c.args.descent.now.here.id.index) c.args.descent.now.here.look.table.now
    × ((m : ℕ) × ((q : ℕ) × IsMarkInto c.args.input.now.dfa.now c.args.descent.now.state c.args.byte c.args.descent.now.here.goals m q))
tells-all g c =
    let input = c.args.input.now in
    let h = c.args.descent.now.here in
    let is = look-table input.dfa.now input.view.store.now input.view.tables.now c.requires.input.ready.tables input.view.counted h.id.index _ _ _ c.requires.down.is_ahead.live c.requires.down.is_ahead.look in
    (is, mark-into input.dfa.now c.requires.input.automaton _ h.look.table.now c.args.descent.now.state c.args.byte h.goals is c.requires.down.state (byte-text input.view.store.now h.id.index c.args.byte c.requires.byte) c.requires.some)

pub unwrap-step-requires : goal.unwrap-step-requires
unwrap-step-requires g c =
    let k = (tells-all g (goal.at.unwrap-step-requires g c).Start).1 in
    some_since c.greatest_mark.result _ _ c.greatest_mark.ensures.mark (λ none. none k.0 k.1.1.small k.1.0 k.1.1.step k.1.1.goal)

pub returns-clause-descends : goal.returns-clause-descends
returns-clause-descends g c = λ looks.
    let input = c.args.input.now in
    let h = c.args.descent.now.here in
    let all = tells-all g (goal.at.returns-clause-descends g c).Start in
    let one = byte-text input.view.store.now h.id.index c.args.byte c.requires.byte in
    let low : c.args.byte < 256 = (rw one at all.0.bytes) 0 0 (omega arith) in
    let into = all.1.1.1 in
    let step = c.unwrap-step.result in
    let greatest = MatchOption-at_some _ _ step c.unwrap-step.ensures c.greatest_mark.ensures.mark in
    let most = greatest.most all.1.0 all.1.1.0 into.small into.step into.goal in
    rw (c.keep_mark.ensures.ahead, c.holds.ensures) (record {
      keeps = record {
        mark = mark_over h c.args.byte c.args.descent.now.state step.mark c.args.descent.now.base;
        kept = c.keep_mark.ensures.marks;
        base_is = refl;
        beside = [];
        ahead = sym (append-nil c.args.trail.now.ahead.items);
        fits = c.requires.down.fits;
      };
      meets = λ k s can. meets-byte input c.requires.input.automaton c.args.trail.now.ahead.items h c.args.descent.now.state k c.args.byte step.mark step.state c.args.descent.now.base low c.requires.byte (omega (arith, most, into.some)) greatest s;
      written = c.with_mark.ensures.value;
      cost = omega arith;
    })
