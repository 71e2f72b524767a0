-- The lemmas that the proofs of this crate's functions use, each re-exported from the file that proves it.
pub use Rattle.query_book.proofs.NameLemmas.{named_by, none_counted, none_tabled}
pub use Rattle.query_book.proofs.TableLemmas.{all_grown, both_grown}
pub use Rattle.query_commands.proofs.AllListingLemmas.{all_sends, batch_left, found_sizes, lists_exist, rest_end, tuples_end, tuples_left}
pub use Rattle.query_commands.proofs.ListLemmas.{kept_looks, kept_size, looks_more, moved, page_ends, page_goes_on, page_has_more, page_stops}
pub use Rattle.query_commands.proofs.Listings.{growth_stops, reply_ends}
pub use Rattle.query_commands.proofs.PageLemmas.{begins_after, begins_at, grows_numbered, list_asks, list_rejected, no_value, over_count, sends_none, sends_page, sends_refused}
pub use Rattle.query_commands.proofs.QuestionLemmas.{ask_answers, asked_in, asked_rejected, count_answers, named_is, nothing_grown, rank_answers, rank_rejected, told_of}
pub use Rattle.query_commands.proofs.Registered.{made_there, outcome, registered_answers, registered_stops, text_refused, uncombined}
pub use Rattle.query_commands.proofs.ReplaceLemmas.{choose_stopped, many_answers, replaced_answers, unchosen_answers}
pub use Rattle.session_state.proofs.CommandLemmas.{booked_answers, passed_on, stays_freely}
pub use Rattle.session_state.proofs.StateLemmas.{assigned_after}
pub use Rattle.session_state.proofs.Written.{last, part, passed, sent_on, starts, stops, waits}
pub use Rattle.span_language.proofs.PlacesLemmas.{take_placed}
pub use Rattle.span_language.proofs.Worlds.{unquery_carries}
