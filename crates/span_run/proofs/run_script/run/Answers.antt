use Rattle.span_run.proofs.Names.{length, lines_of, map, outside, refl, script_of, string_bytes, UnlessList, ◌^◌, ◌≤◌}
use Rattle.std.proofs.Common.{rules}
use Rattle.span_run.proofs.Facts.{each_some, none_ran, none_written, of_demo, of_script}
use Rattle.span_run.proofs.run_script.run.Goals as goal

pub returns-in-Err-Usage-clause-usage : goal.returns-in-Err-Usage-clause-usage
returns-in-Err-Usage-clause-usage g c = λ _. c.in-Err-Usage.ensures.refused c.in-Err-Usage.field-0-is

pub returns-in-Err-NoMemory-clause-memory_prefix : goal.returns-in-Err-NoMemory-clause-memory_prefix
returns-in-Err-NoMemory-clause-memory_prefix g c = λ _ workers most demo asked. each_some (script_of demo (g.S.Source.left c.args.script.now)) _ (λ bytes. none_ran (UnlessList (g.K.Sink.wants c.args.out.now) (g.K.Sink.wants c.args.out.now)) (lines_of bytes) most (outside (g.K.Sink.written c.args.out.now) (g.F.Shelf.files c.args.shelf.now) c.args.looks.now c.args.pairs.now c.args.places.now) (none_written (g.K.Sink.wants c.args.out.now) (g.F.Shelf.files c.args.shelf.now)))

pub returns-in-Err-NoMemory-asked_script-clause-memory_prefix : goal.returns-in-Err-NoMemory-asked_script-clause-memory_prefix
returns-in-Err-NoMemory-asked_script-clause-memory_prefix g c = λ _ workers most demo asked. each_some (script_of demo (g.S.Source.left c.args.script.now)) _ (λ bytes. none_ran (UnlessList (g.K.Sink.wants c.args.out.now) (g.K.Sink.wants c.args.out.now)) (lines_of bytes) most (outside (g.K.Sink.written c.args.out.now) (g.F.Shelf.files c.args.shelf.now) c.args.looks.now c.args.pairs.now c.args.places.now) (none_written (g.K.Sink.wants c.args.out.now) (g.F.Shelf.files c.args.shelf.now)))

pub returns-in-Err-OutFault-clause-unread : goal.returns-in-Err-OutFault-clause-unread
returns-in-Err-OutFault-clause-unread g c = of_demo (map string_bytes c.args.words.now) c.in-Ok.options.workers c.in-Ok.options.states c.in-Ok.options.demo c.in-Ok.ensures.taken _ c.asked_script.ensures.unread

pub returns-in-Err-ShelfFault-clause-unread : goal.returns-in-Err-ShelfFault-clause-unread
returns-in-Err-ShelfFault-clause-unread g c = of_demo (map string_bytes c.args.words.now) c.in-Ok.options.workers c.in-Ok.options.states c.in-Ok.options.demo c.in-Ok.ensures.taken _ c.asked_script.ensures.unread

pub returns-clause-unread : goal.returns-clause-unread
returns-clause-unread g c = of_demo (map string_bytes c.args.words.now) c.in-Ok.options.workers c.in-Ok.options.states c.in-Ok.options.demo c.in-Ok.ensures.taken _ c.asked_script.ensures.unread

pub returns-in-Err-ShelfFault-clause-short : goal.returns-in-Err-ShelfFault-clause-short
returns-in-Err-ShelfFault-clause-short g c = λ _. of_script (map string_bytes c.args.words.now) c.in-Ok.options.workers c.in-Ok.options.states c.in-Ok.options.demo c.in-Ok.ensures.taken (g.S.Source.left c.args.script.now) c.in-Ok-asked_script.bytes.items c.in-Ok-asked_script.bytes.items (λ _ bytes. length bytes ≤ 2 ^ 24) c.in-Ok-asked_script.ensures.all refl c.in-Ok-asked_script.ensures.short

pub returns-in-Err-OutFault-clause-out_prefix : goal.returns-in-Err-OutFault-clause-out_prefix
returns-in-Err-OutFault-clause-out_prefix g c = let prefix = (c.in-Err-OutFault.ensures.out_fault c.in-Err-OutFault.field-0-is).1 in λ _. of_script (map string_bytes c.args.words.now) c.in-Ok.options.workers c.in-Ok.options.states c.in-Ok.options.demo c.in-Ok.ensures.taken (g.S.Source.left c.args.script.now) c.in-Ok-asked_script.bytes.items c.deref.result.now _ c.in-Ok-asked_script.ensures.all c.deref.ensures.value (search rules)

pub returns-in-Err-ShelfFault-clause-shelf_prefix : goal.returns-in-Err-ShelfFault-clause-shelf_prefix
returns-in-Err-ShelfFault-clause-shelf_prefix g c = let prefix = (c.in-Err-ShelfFault.ensures.shelf_fault c.in-Err-ShelfFault.field-0-is).1 in λ _. of_script (map string_bytes c.args.words.now) c.in-Ok.options.workers c.in-Ok.options.states c.in-Ok.options.demo c.in-Ok.ensures.taken (g.S.Source.left c.args.script.now) c.in-Ok-asked_script.bytes.items c.deref.result.now _ c.in-Ok-asked_script.ensures.all c.deref.ensures.value (search rules)

pub returns-clause-memory_prefix : goal.returns-clause-memory_prefix
returns-clause-memory_prefix g c = let prefix = c.in-Err-NoMemory-run_lines.ensures.want c.in-Err-NoMemory-run_lines.field-0-is in λ _. of_script (map string_bytes c.args.words.now) c.in-Ok.options.workers c.in-Ok.options.states c.in-Ok.options.demo c.in-Ok.ensures.taken (g.S.Source.left c.args.script.now) c.in-Ok-asked_script.bytes.items c.deref.result.now _ c.in-Ok-asked_script.ensures.all c.deref.ensures.value (search rules)

pub returns-in-Ok-false-clause-done : goal.returns-in-Ok-false-clause-done
returns-in-Ok-false-clause-done g c = let ran = c.in-Ok-false.ensures.done in λ _. of_script (map string_bytes c.args.words.now) c.in-Ok.options.workers c.in-Ok.options.states c.in-Ok.options.demo c.in-Ok.ensures.taken (g.S.Source.left c.args.script.now) c.in-Ok-asked_script.bytes.items c.deref.result.now _ c.in-Ok-asked_script.ensures.all c.deref.ensures.value (search rules)

pub returns-in-Ok-false-clause-unread : goal.returns-in-Ok-false-clause-unread
returns-in-Ok-false-clause-unread g c = of_demo (map string_bytes c.args.words.now) c.in-Ok.options.workers c.in-Ok.options.states c.in-Ok.options.demo c.in-Ok.ensures.taken _ c.asked_script.ensures.unread

pub returns-in-Ok-true-clause-some_refused : goal.returns-in-Ok-true-clause-some_refused
returns-in-Ok-true-clause-some_refused g c = let ran = c.in-Ok-true.ensures.done in λ _. of_script (map string_bytes c.args.words.now) c.in-Ok.options.workers c.in-Ok.options.states c.in-Ok.options.demo c.in-Ok.ensures.taken (g.S.Source.left c.args.script.now) c.in-Ok-asked_script.bytes.items c.deref.result.now _ c.in-Ok-asked_script.ensures.all c.deref.ensures.value (search rules)

pub returns-in-Ok-true-clause-unread : goal.returns-in-Ok-true-clause-unread
returns-in-Ok-true-clause-unread g c = of_demo (map string_bytes c.args.words.now) c.in-Ok.options.workers c.in-Ok.options.states c.in-Ok.options.demo c.in-Ok.ensures.taken _ c.asked_script.ensures.unread

pub returns-in-Ok-false-clause-short : goal.returns-in-Ok-false-clause-short
returns-in-Ok-false-clause-short g c = λ _. of_script (map string_bytes c.args.words.now) c.in-Ok.options.workers c.in-Ok.options.states c.in-Ok.options.demo c.in-Ok.ensures.taken (g.S.Source.left c.args.script.now) c.in-Ok-asked_script.bytes.items c.in-Ok-asked_script.bytes.items (λ _ bytes. length bytes ≤ 2 ^ 24) c.in-Ok-asked_script.ensures.all refl c.in-Ok-asked_script.ensures.short

pub returns-in-Ok-true-clause-short : goal.returns-in-Ok-true-clause-short
returns-in-Ok-true-clause-short g c = λ _. of_script (map string_bytes c.args.words.now) c.in-Ok.options.workers c.in-Ok.options.states c.in-Ok.options.demo c.in-Ok.ensures.taken (g.S.Source.left c.args.script.now) c.in-Ok-asked_script.bytes.items c.in-Ok-asked_script.bytes.items (λ _ bytes. length bytes ≤ 2 ^ 24) c.in-Ok-asked_script.ensures.all refl c.in-Ok-asked_script.ensures.short

pub returns-in-Err-OutFault-clause-short : goal.returns-in-Err-OutFault-clause-short
returns-in-Err-OutFault-clause-short g c = λ _. of_script (map string_bytes c.args.words.now) c.in-Ok.options.workers c.in-Ok.options.states c.in-Ok.options.demo c.in-Ok.ensures.taken (g.S.Source.left c.args.script.now) c.in-Ok-asked_script.bytes.items c.in-Ok-asked_script.bytes.items (λ _ bytes. length bytes ≤ 2 ^ 24) c.in-Ok-asked_script.ensures.all refl c.in-Ok-asked_script.ensures.short
