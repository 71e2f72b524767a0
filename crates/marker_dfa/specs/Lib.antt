pub mod Reached
pub mod Deterministic
pub mod Refusals
pub mod Bundles
pub mod Bundled
pub mod Making
pub mod StateWords
pub mod Merging
