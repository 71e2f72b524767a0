-- The fields of `Words` as contracts see them.
use Rattle.node_store.specs.Known.{Known}
use Rattle.node_store.specs.declared.words.Words.{Words}

abbrev pub known_of : Words → Known
known_of w = record { twos = w.twos.items; fours = w.fours.items; eights = w.eights.items }
