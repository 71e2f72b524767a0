use Rattle.std.proofs.Common.{◌≡◌, ◌+◌, ◌-◌, ◌*◌, ◌≤◌, ◌++◌, length, drop}
use Rattle.slp_model.specs.Nodes.{Grows, IsLive, text_of}
use Rattle.span_replace.specs.Replaced.{AreApartFrom, replaced, replaced_from}
use Rattle.span_replace.proofs.replacement.replace_all.Given as goal

abbrev pub invariant-loop-span : goal.invariant-loop-span
invariant-loop-span g l = record {
  grows : Grows l.fn.store l.store l.fn.pairs l.pairs;
  done_live : IsLive l.store l.work.done;
  rest_live : IsLive l.store l.work.rest;
  start : 1 ≤ l.work.at;
  apart : AreApartFrom l.work.at (length (text_of l.fn.store l.fn.root)) (drop l.span-index l.spans);
  rest : text_of l.store l.work.rest ≡ drop (l.work.at - 1) (text_of l.fn.store l.fn.root);
  whole : text_of l.store l.work.done ++ replaced_from l.work.at (text_of l.fn.store l.fn.root) (drop l.span-index l.spans) (text_of l.fn.store l.by)
      ≡ replaced (text_of l.fn.store l.fn.root) l.spans (text_of l.fn.store l.by);
  paid : l.pairs ≤ l.fn.pairs + 1770 * l.span-index;
}
