-- The field of `Answers` as contracts see it.
use Rattle.span_enum.specs.Listing.{Listing}
use Rattle.span_enum.specs.declared.answers.AnyEnumeration.{AnyEnumeration}
use Rattle.span_enum.specs.declared.answers.AnyEnumeration.TheVariants.{One, Two, Sixteen}
use Rattle.span_enum.specs.declared.answers.Answers.TheInside.{Inside}

-- the enumeration of any width
abbrev pub listing_of : AnyEnumeration → Listing
listing_of (One e) = e
listing_of (Two e) = e
listing_of (Sixteen e) = e

abbrev pub view_of : Inside → Listing
view_of a = listing_of a.enumeration
