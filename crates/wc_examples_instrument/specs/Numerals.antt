-- The digits of a number, which examples compute.
unfoldable pub use Rattle.std.specs.Fmt.{digits}
