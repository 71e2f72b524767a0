-- Values by name, in order.
pub use Rattle.name_map.specs.Named.{Named, is_same, value_of, put, taken_out, with_value, AreDistinctNames}
