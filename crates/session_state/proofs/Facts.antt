-- The lemmas that the proofs of this crate's functions use, each re-exported from the file that proves it.
pub use Rattle.doc_book.proofs.TextLemmas.{AreLive-put, plain-put}
pub use Rattle.session_state.proofs.CommandLemmas.{stays_freely}
pub use Rattle.session_state.proofs.StateLemmas.{found, head_of-text, length-text_of}
pub use Rattle.session_state.proofs.EndsLemmas.{rejected_here, rejected_replies, still_ends}
pub use Rattle.session_state.proofs.Written.{more_of_piece, passed, starts, waits}
