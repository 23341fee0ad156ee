pub mod Numbered
pub mod RepresentsText
pub mod Keys
pub mod Carrying
pub mod Members
pub mod Spelled
pub use Rattle.wc_names.specs.Numbered.{IsUnit, is_allowed_in, number_within, numbered_entity, numbered_formal, numbered_type, plain_of_field}
pub use Rattle.wc_names.specs.RepresentsText.{AreDifferent, AreRows, AreTables, AreUnits, IsRow, IsTableOf, Represents, end_of, first_from, first_number, first_place, number_named, onto, plain_at, plain_from, row_named, type_at}
pub use Rattle.wc_names.specs.Keys.{same_name_laws}
pub use Rattle.wc_names.specs.Carrying.{AreFinished, EachHoldsFirst, HasPlace, HoldsFirst, IsGrown, IsStarted, contents_of, direct_contents, field_within, kept_from, plain_within}
pub use Rattle.wc_names.specs.Members.{found_seen, kind_numbered, row_seen}
pub use Rattle.wc_names.specs.Spelled.{AreSpelledAs, is_elementary, is_plain, spelled, spelled_in, spelled_in_table, spelled_of_unit, spelled_where}
