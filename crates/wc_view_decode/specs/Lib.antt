pub mod AnswerBytes
pub mod AnswerTexts
pub mod Decoding
pub mod Lines
pub mod Formats
pub mod Running
pub use Rattle.wc_view_decode.specs.AnswerBytes.{AreAllAnswers, bytes_of_answers}
pub use Rattle.wc_view_decode.specs.Decoding.{AreDecoded, Decodes, DecodesAll, DecodesPrefix, IsDecodedLine, Reports, longest_line, without_end}
pub use Rattle.wc_view_decode.specs.Lines.{AnswersContent, AreContentOf, CutsField, InRange, IsContentOf, LineContent, RefusalContent, ScanContent, content_text, entry_content}
pub use Rattle.wc_view_decode.specs.Formats.{closing, heading, opening, passed_byte, passed_on, unknown}
pub use Rattle.wc_view_decode.specs.Running.{DecodesChunk, DecodesRest, Ends, GoesOn, HasNoEnd, IsInState, Represents, WritesText}
