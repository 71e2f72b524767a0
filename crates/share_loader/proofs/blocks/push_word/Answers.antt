use Rattle.std.proofs.Common.{◌++◌, ap, sym, subst, ◌∙◌}
use Rattle.std.proofs.lemmas.List.{length-take-le}
use Rattle.slp_model.specs.Tree.{text}
use Rattle.slp_model.specs.Nodes.{tree}
use Rattle.share_loader.specs.Known.{word_height}
use Rattle.share_loader.specs.Symbols.{AreSymbols, symbols_text}
use Rattle.share_loader.proofs.SymbolLemmas.{symbols-push, symbols-grow, text-grows, text-push}
use Rattle.share_loader.proofs.BlockLemmas.{live-grows}
use Rattle.share_loader.proofs.blocks.push_word.Goals as goal

pub returns-clause-taken : goal.returns-clause-taken
returns-clause-taken g c = record {
  root = live-grows _ _ _ _ c.word_of.ensures.grows c.args.blocks.now.root c.requires.taken.root;
  symbols = subst (AreSymbols c.word_of.new.store 2) (sym c.in_ok-push.ensures.items) (symbols-push _ _ c.args.blocks.now.symbols.items _ (symbols-grow _ _ _ _ c.word_of.ensures.grows 2 c.args.blocks.now.symbols.items c.requires.taken.symbols) (record { live = c.in_ok-found.ensures.word.live; high = c.in_ok-found.ensures.word.high ∙ (ap word_height (length-take-le c.args.len c.args.text.now c.requires.within) ∙ sym c.height_of.ensures.height) }) (record { least = c.height_of.ensures.least; most = c.height_of.ensures.most }));
  known = c.in_ok-found.ensures.known;
}

pub returns-clause-text : goal.returns-clause-text
returns-clause-text g c =
    ap (symbols_text c.word_of.new.store) c.in_ok-push.ensures.items
    ∙ (text-push c.word_of.new.store c.args.blocks.now.symbols.items _
    ∙ (ap (λ t. t ++ text (tree c.word_of.new.store c.in_ok-found.found.node.index)) (text-grows _ _ _ _ c.word_of.ensures.grows 2 c.args.blocks.now.symbols.items c.requires.taken.symbols)
    ∙ ap (λ t. symbols_text c.args.store.now c.args.blocks.now.symbols.items ++ t) c.in_ok-found.ensures.word.reads))
