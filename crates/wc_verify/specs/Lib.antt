pub mod Bodies
pub mod Seeing
pub mod CheckedTexts
pub mod CheckedInside
pub mod Instructions
pub use Rattle.wc_verify.specs.Bodies.{CountsLines, GetsTo, GoesTo, HandsOn, IsAt, asked_of, carriers, counted_row, entered_row, joined_edges, jumped_row, kind_of_way, labelled_way, one_more, row_at, row_named, way_after, way_of, way_to, with_way}
pub use Rattle.wc_verify.specs.Seeing.{Finds, IsScope, first_at}
pub use Rattle.wc_verify.specs.Instructions.{GoesInside, GoesOn, instr_line, opened_line}
