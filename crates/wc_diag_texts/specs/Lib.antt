pub mod Plain
pub mod Numbers
pub mod PathTexts
pub use Rattle.wc_diag_texts.specs.Plain.{acting_by, continues, four_act, length_of, shown_text, three_act, two_act}
pub use Rattle.wc_diag_texts.specs.Numbers.{is_from}
