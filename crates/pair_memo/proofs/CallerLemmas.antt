-- For users of a cache.
use Rattle.std.proofs.Common.{List, Option, IfSome, Contains}
use Rattle.std.proofs.lemmas.List.Elements.{All-weaker}
use Rattle.std.proofs.lemmas.Option.{IfSome_then}
use Rattle.pair_memo.specs.Cache.{AreAmong}
use Rattle.pair_memo.specs.Entries.{Entry}

-- more entries
pub among-more : (slots : List (Option Entry)) (es fs : List Entry) → ((e : Entry) → Contains es e → Contains fs e) → AreAmong slots es → AreAmong slots fs
among-more slots es fs more h = All-weaker (λ (p : Option Entry). IfSome p (Contains es)) (λ (p : Option Entry). IfSome p (Contains fs)) (λ p q. IfSome_then p q (λ x i. more x i)) slots h
