-- What the two calls return.
use Rattle.std.specs.Prelude.{◌≡◌, ℕ, ◌+◌, ◌^◌, ◌<◌, ◌≤◌, List, length, Option, Result, Ok, Err}
use Rattle.slp_model.specs.declared.Node.{Node}
use Rattle.slp_model.specs.declared.NodeId.{NodeId}
use Rattle.slp_model.specs.Nodes.{IsLive, text_of}
use Rattle.span_types.specs.declared.tuple.Span.{Span}
use Rattle.span_replace.specs.declared.refusal.ReplaceRefusal.{ReplaceRefusal}
use Rattle.span_replace.specs.declared.refusal.ReplaceRefusal.TheVariants.{TooManyMatches, TooLong, NoMemory}

-- these spans, of which there are at most 32,768, or that there are more, or out of memory
abbrev pub IsChoice : List Span → Result (List Span) ReplaceRefusal → Type 0
IsChoice qs (Ok c) = (c ≡ qs) × (length qs ≤ 32768)
IsChoice qs (Err TooManyMatches) = 32768 < length qs
IsChoice qs (Err (TooLong len)) = ⊥
IsChoice qs (Err NoMemory) = Unit {0}

-- a root of this text, of at most 2^48 bytes, or the length of a longer one, or out of memory
abbrev pub IsReplacement : List Node → List ℕ → Result (Option NodeId) ReplaceRefusal → Type 0
IsReplacement ns text (Ok root) = IsLive ns root × (text_of ns root ≡ text) × (length text ≤ 2 ^ 48)
IsReplacement ns text (Err TooManyMatches) = ⊥
IsReplacement ns text (Err (TooLong len)) = (len ≡ length text) × (2 ^ 48 < len) × (len ≤ 2 ^ 63 + 2 ^ 48)
IsReplacement ns text (Err NoMemory) = Unit {0}

-- P, if the result would be too long
abbrev pub IfTooLong : Result (Option NodeId) ReplaceRefusal → Type 0 → Type 0
IfTooLong (Ok root) P = Unit {0}
IfTooLong (Err TooManyMatches) P = Unit {0}
IfTooLong (Err (TooLong len)) P = P
IfTooLong (Err NoMemory) P = Unit {0}
