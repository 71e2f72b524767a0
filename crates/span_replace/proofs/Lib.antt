mod SpanOrder
mod Picked
mod Choices
mod Grown
mod Spliced
mod Taken
mod LongestChoices
mod Picks
