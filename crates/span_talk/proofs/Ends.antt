-- Why a conversation ended.
use Rattle.std.proofs.Common.{◌≡◌, ◌⊎◌, inl, inr, refl}
use Rattle.span_language.specs.declared.told.Stop.{Stop}
use Rattle.span_language.specs.declared.told.Stop.TheVariants as stop
use Rattle.span_talk.specs.declared.hearing.End.TheVariants.{Stopped}

-- stopped for one reason
pub same_stop : (s t : Stop) → Stopped s ≡ Stopped t → s ≡ t
same_stop s t is = cc is

-- what stopped a line, if the buffered output of the sink is known after a failure of the file store
pub kept_or : (why : Stop) (Kept : Type 0) → (why ≡ stop.ShelfFault → Kept) → Kept ⊎ (Stopped why ≡ Stopped stop.OutFault) ⊎ (Stopped why ≡ Stopped stop.NoMemory)
kept_or stop.OutFault Kept so = inr (inl refl)
kept_or stop.ShelfFault Kept so = inl (so refl)
kept_or stop.NoMemory Kept so = inr (inr refl)
